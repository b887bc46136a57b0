-- Lists of edits that fit one after the other from a state in which nobody is, and what holds after them.
use Rattle.mum_kept_laws.proofs.Common.{◌≡◌, ℕ, true, List, [], ◌∷◌, ◌++◌, refl, sym, subst, and_parts, Edit, all_fit, led_to, applied, fits, StateValue, IsBare, Leads, one_more}

pub record Passes (left : ℕ) (state : StateValue) (edits : List Edit) (P : StateValue → Type 0) : Type 0 where
  pub fit : all_fit state edits ≡ true
  pub bare : IsBare left (led_to state edits)
  pub holds : P (led_to state edits)

pub nothing_passes : (left : ℕ) (state : StateValue) (P : StateValue → Type 0) → IsBare left state → P state → Passes left state [] P
nothing_passes left state P bare holds = record { fit = refl; bare = bare; holds = holds }

pub one_passes : (left more : ℕ) (state : StateValue) (edit : Edit) (edits : List Edit) (P : StateValue → Type 0) → Leads more state edit → Passes left (applied state edit) edits P → Passes left state (edit ∷ edits) P
one_passes left more state edit edits P led rest = record {
  fit = one_more state edit edits led.fit rest.fit;
  bare = rest.bare;
  holds = rest.holds;
}

-- one list leads to where the other begins
led_on : (state : StateValue) (edits others : List Edit) → led_to state (edits ++ others) ≡ led_to (led_to state edits) others
led_on state [] others = refl
led_on state (edit ∷ edits) others = led_on (applied state edit) edits others

fit_on : (state : StateValue) (edits others : List Edit) → all_fit state edits ≡ true → all_fit (led_to state edits) others ≡ true → all_fit state (edits ++ others) ≡ true
fit_on state [] others fit also = also
fit_on state (edit ∷ edits) others fit also =
    let parts = and_parts (fits state edit) (all_fit (applied state edit) edits) fit in
    one_more state edit (edits ++ others) parts.0 (fit_on (applied state edit) edits others parts.1 also)

pub both_pass : (left more : ℕ) (state : StateValue) (edits others : List Edit) (P Q : StateValue → Type 0) → Passes more state edits P
    → (IsBare more (led_to state edits) → P (led_to state edits) → Passes left (led_to state edits) others Q) → Passes left state (edits ++ others) Q
both_pass left more state edits others P Q first second =
    let rest : Passes left (led_to state edits) others Q = second first.bare first.holds in
    let same : led_to state (edits ++ others) ≡ led_to (led_to state edits) others = led_on state edits others in
    record {
      fit = fit_on state edits others first.fit rest.fit;
      bare = subst (IsBare left) (sym same) rest.bare;
      holds = subst Q (sym same) rest.holds;
    }

pub weaker : (left : ℕ) (state : StateValue) (edits : List Edit) (P Q : StateValue → Type 0) → ((later : StateValue) → IsBare left later → P later → Q later) → Passes left state edits P → Passes left state edits Q
weaker left state edits P Q so passed = record { fit = passed.fit; bare = passed.bare; holds = so (led_to state edits) passed.bare passed.holds }
