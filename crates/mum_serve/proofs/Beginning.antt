-- The state at which a server begins.
use Rattle.mum_serve.proofs.Common.{◌≡◌, ◌∙◌, ℕ, ◌<◌, ◌≤◌, ◌+◌, ◌^◌, ◌==◌, Bool, true, false, cond, List, [], ◌∷◌, ◌++◌, length, get_or, drop, Option, None, Some, inl, inr, refl, sym, ap, subst, arith, IsTrue, and_parts, nat_tests, drop_all, drop_more, All-cons, PLACES, SLOTS, FitAfterLimits, is_beside_channels, settings_and_accounts, IsGood, IsTree, rebuild, KeptChannel, KeptRows, HaveNumbers, first_limits, rebuild_fits_lem, greatest_limits, limits_edits, served_edits, Edit, after, all_fit, led_to, applied, fits, StateValue, empty_state, edits_beside, edits_over, state_over}

-- ---- the settings and the accounts, one edit after the other

-- what is left of the edits leads on as all of them do
pub record LeadsOn (state : StateValue) (left : List Edit) (goal : StateValue) : Type 0 where
  pub fit : IsTrue (all_fit state (settings_and_accounts left))
  pub leads : led_to state (settings_and_accounts left) ≡ goal

next_fits : (state : StateValue) (edit : Edit) (rest : List Edit) → IsTrue (all_fit state (settings_and_accounts (edit ∷ rest))) → is_beside_channels edit ≡ true → IsTrue (fits state edit)
next_fits state edit rest fit is =
    let now : IsTrue (all_fit state (edit ∷ settings_and_accounts rest)) =
    subst (λ (b : Bool). IsTrue (all_fit state (cond b (edit ∷ settings_and_accounts rest) (settings_and_accounts rest)))) is fit in
    (and_parts (fits state edit) (all_fit (applied state edit) (settings_and_accounts rest)) now).0

leads_next : (state new goal : StateValue) (edit : Edit) (rest : List Edit) → LeadsOn state (edit ∷ rest) goal → new ≡ led_to state (settings_and_accounts (edit ∷ [])) → LeadsOn new rest goal
leads_next state new goal edit rest on made = step (is_beside_channels edit) on.fit on.leads made
  where
    step : (b : Bool) → IsTrue (all_fit state (cond b (edit ∷ settings_and_accounts rest) (settings_and_accounts rest))) → led_to state (cond b (edit ∷ settings_and_accounts rest) (settings_and_accounts rest)) ≡ goal
        → new ≡ led_to state (cond b (edit ∷ []) []) → LeadsOn new rest goal
    step true fit leads is =
        let parts = and_parts (fits state edit) (all_fit (applied state edit) (settings_and_accounts rest)) fit in
        record { fit = subst (λ (s : StateValue). IsTrue (all_fit s (settings_and_accounts rest))) (sym is) parts.1; leads = ap (λ (s : StateValue). led_to s (settings_and_accounts rest)) is ∙ leads }
    step false fit leads is =
        record { fit = subst (λ (s : StateValue). IsTrue (all_fit s (settings_and_accounts rest))) (sym is) fit; leads = ap (λ (s : StateValue). led_to s (settings_and_accounts rest)) is ∙ leads }

left_of : (edits : List Edit) (i : ℕ) (edit : Edit) → i < length edits → edit ≡ get_or edits i edit → drop i edits ≡ edit ∷ drop (i + 1) edits
left_of edits i edit inside is = drop_more edits i edit inside ∙ ap (λ (e : Edit). e ∷ drop (i + 1) edits) (sym is)

pub edit_fits : (state goal : StateValue) (edits : List Edit) (i : ℕ) (edit : Edit) → i < length edits → edit ≡ get_or edits i edit → LeadsOn state (drop i edits) goal → is_beside_channels edit ≡ true → IsTrue (fits state edit)
edit_fits state goal edits i edit inside is on beside =
    next_fits state edit (drop (i + 1) edits) (subst (λ (left : List Edit). IsTrue (all_fit state (settings_and_accounts left))) (left_of edits i edit inside is) on.fit) beside

pub edit_leads : (state new goal : StateValue) (edits : List Edit) (i : ℕ) (edit : Edit) → i < length edits → edit ≡ get_or edits i edit → LeadsOn state (drop i edits) goal → new ≡ led_to state (settings_and_accounts (edit ∷ []))
    → LeadsOn new (drop (i + 1) edits) goal
edit_leads state new goal edits i edit inside is on made =
    leads_next state new goal edit (drop (i + 1) edits) (subst (λ (left : List Edit). LeadsOn state left goal) (left_of edits i edit inside is) on) made

pub all_led : (state goal : StateValue) (edits : List Edit) (i : ℕ) → length edits ≤ i → LeadsOn state (drop i edits) goal → state ≡ goal
all_led state goal edits i over on =
    let none : LeadsOn state [] goal = subst (λ (left : List Edit). LeadsOn state left goal) (drop_all i edits over) on in
    none.leads

-- ---- the numbers of channels

pub numbers_more : (channels : List KeptChannel) (i : ℕ) (channel : KeptChannel) → i < length channels → channel ≡ get_or channels i channel → channel.id.0 < 2 ^ 32
    → (HaveNumbers (drop i channels) → HaveNumbers channels) → HaveNumbers (drop (i + 1) channels) → HaveNumbers channels
numbers_more channels i channel inside is has before rest =
    before (subst HaveNumbers (sym (drop_more channels i channel inside ∙ ap (λ (c : KeptChannel). c ∷ drop (i + 1) channels) (sym is)))
    (All-cons (λ (c : KeptChannel). c.id.0 < 2 ^ 32) channel (drop (i + 1) channels) has rest))

-- ---- the kept channels

-- edits that fit one after the other: those after the first
fit_behind : (state : StateValue) (edits more : List Edit) → IsTrue (all_fit state (edits ++ more)) → IsTrue (all_fit (led_to state edits) more)
fit_behind state [] more fit = fit
fit_behind state (edit ∷ edits) more fit =
    fit_behind (applied state edit) edits more (and_parts (fits state edit) (all_fit (applied state edit) (edits ++ more)) fit).1

led_behind : (state : StateValue) (edits more : List Edit) → led_to state (edits ++ more) ≡ led_to (led_to state edits) more
led_behind state [] more = refl
led_behind state (edit ∷ edits) more = led_behind (applied state edit) edits more

-- the state that the limits leave
abbrev pub limited : StateValue
limited = after (limits_edits greatest_limits ++ [])

pub settings_fit : (edits : List Edit) → FitAfterLimits (settings_and_accounts edits) → IsTrue (all_fit limited (settings_and_accounts edits))
settings_fit edits alone = alone SLOTS PLACES refl

pub channels_fit : (edits : List Edit) (rows : KeptRows) → FitAfterLimits (settings_and_accounts edits) → IsTree rows → HaveNumbers rows.channels
    → IsTrue (all_fit (led_to limited (settings_and_accounts edits)) (rebuild rows))
channels_fit edits rows alone tree numbers =
    let all = rebuild_fits_lem rows edits tree numbers alone in
    let behind : IsTrue (all_fit limited (settings_and_accounts edits ++ rebuild rows)) =
    (and_parts (fits empty_state first_limits) (all_fit (applied empty_state first_limits) (settings_and_accounts edits ++ rebuild rows)) all).1 in
    fit_behind limited (settings_and_accounts edits) (rebuild rows) behind

pub led_by_all : (edits : List Edit) (rows : KeptRows) → led_to (led_to limited (settings_and_accounts edits)) (rebuild rows) ≡ after (served_edits (settings_and_accounts edits ++ rebuild rows))
led_by_all edits rows = sym (led_behind limited (settings_and_accounts edits) (rebuild rows))

-- ---- which of the two

pub are_tree : (rows : KeptRows) → IsGood rows → (rows.channels ≡ [] → ⊥) → IsTree rows
are_tree rows (inl none) some = absurd (some none.0)
are_tree rows (inr tree) some = tree

pub over_none : (edits : List Edit) (rows : KeptRows) → rows.channels ≡ [] → edits_over edits (Some rows) ≡ edits
over_none edits rows none = ap (λ (channels : List KeptChannel). edits_beside edits rows channels) none

pub over_some : (edits : List Edit) (rows : KeptRows) → (rows.channels ≡ [] → ⊥) → edits_over edits (Some rows) ≡ settings_and_accounts edits ++ rebuild rows
over_some edits rows some = step rows.channels some
  where
    step : (channels : List KeptChannel) → (channels ≡ [] → ⊥) → edits_beside edits rows channels ≡ settings_and_accounts edits ++ rebuild rows
    step [] never = absurd (never refl)
    step (channel ∷ channels) never = refl

-- ---- what is begun with

limits_led : (limits : ℕ × ℕ) (edits : List Edit) (state : StateValue) → limits ≡ (512, 2048) → state ≡ after (limits_edits (Some limits) ++ edits) → state ≡ after (served_edits edits)
limits_led limits edits state same leads = leads ∙ ap (λ (l : ℕ × ℕ). after (limits_edits (Some l) ++ edits)) same

pub over_no_rows : (edits : List Edit) (rows : Option KeptRows) (limits : ℕ × ℕ) (state : StateValue) → limits ≡ (512, 2048) → rows ≡ None → state ≡ after (limits_edits (Some limits) ++ edits) → state ≡ state_over edits rows
over_no_rows edits rows limits state same none leads = limits_led limits edits state same leads ∙ sym (ap (λ (r : Option KeptRows). state_over edits r) none)

empty_is : (channels : List KeptChannel) (empty : Bool) → empty ≡ (length channels == 0) → empty ≡ true → channels ≡ []
empty_is [] empty says is_empty_so = refl
empty_is (channel ∷ channels) empty says is_empty_so =
    let never : (length (channel ∷ channels) == 0) ≡ false = grind (arith, nat_tests) in
    let both : true ≡ false = sym is_empty_so ∙ says ∙ never in
    absurd (cc both)

pub over_no_channels : (edits : List Edit) (given : Option KeptRows) (rows : KeptRows) (channels : List KeptChannel) (empty : Bool) (limits : ℕ × ℕ) (state : StateValue) → limits ≡ (512, 2048) → given ≡ Some rows → channels ≡ rows.channels
    → empty ≡ (length channels == 0) → empty ≡ true → state ≡ after (limits_edits (Some limits) ++ edits) → state ≡ state_over edits given
over_no_channels edits given rows channels empty limits state same is are says is_empty_so leads =
    limits_led limits edits state same leads
    ∙ sym (ap (λ (r : Option KeptRows). state_over edits r) is ∙ ap (λ (es : List Edit). after (served_edits es)) (over_none edits rows (sym are ∙ empty_is channels empty says is_empty_so)))

-- there are some channels
pub some_channels : (rows : KeptRows) (channels : List KeptChannel) (empty : Bool) → channels ≡ rows.channels → empty ≡ (length channels == 0) → empty ≡ false → rows.channels ≡ [] → ⊥
some_channels rows channels empty are says not_so none =
    let zero_of : (length channels == 0) ≡ true = ap (λ (cs : List KeptChannel). length cs == 0) (are ∙ none) in
    let both : true ≡ false = sym zero_of ∙ sym says ∙ not_so in
    absurd (cc both)

pub over_channels : (edits : List Edit) (given : Option KeptRows) (rows : KeptRows) (channels : List KeptChannel) (empty : Bool) (state : StateValue) → given ≡ Some rows → channels ≡ rows.channels → empty ≡ (length channels == 0) → empty ≡ false
    → state ≡ after (served_edits (settings_and_accounts edits ++ rebuild rows)) → state ≡ state_over edits given
over_channels edits given rows channels empty state is are says not_so leads =
    leads
    ∙ sym (ap (λ (r : Option KeptRows). state_over edits r) is ∙ ap (λ (es : List Edit). after (served_edits es)) (over_some edits rows (some_channels rows channels empty are says not_so)))

module _ (edits : List Edit) (rows : KeptRows) (limits : ℕ × ℕ) (first state : StateValue) where
  pub settings_fit_first : limits ≡ (512, 2048) → first ≡ after (limits_edits (Some limits) ++ []) → FitAfterLimits (settings_and_accounts edits) → IsTrue (all_fit first (settings_and_accounts edits))
  settings_fit_first same leads alone =
      subst (λ (s : StateValue). IsTrue (all_fit s (settings_and_accounts edits))) (sym (limits_led limits [] first same leads)) (settings_fit edits alone)

  state_is : limits ≡ (512, 2048) → first ≡ after (limits_edits (Some limits) ++ []) → state ≡ led_to first (settings_and_accounts edits) → state ≡ led_to limited (settings_and_accounts edits)
  state_is same leads set = set ∙ ap (λ (s : StateValue). led_to s (settings_and_accounts edits)) (limits_led limits [] first same leads)

  pub channels_fit_behind : (channels : List Edit) → limits ≡ (512, 2048) → first ≡ after (limits_edits (Some limits) ++ []) → state ≡ led_to first (settings_and_accounts edits) → channels ≡ rebuild rows
      → FitAfterLimits (settings_and_accounts edits) → IsTree rows → HaveNumbers rows.channels → IsTrue (all_fit state channels)
  channels_fit_behind channels same leads set are alone tree numbers =
      subst (λ (es : List Edit). IsTrue (all_fit state es)) (sym are)
      (subst (λ (s : StateValue). IsTrue (all_fit s (rebuild rows))) (sym (state_is same leads set)) (channels_fit edits rows alone tree numbers))

  pub all_led_behind : (channels : List Edit) (led : StateValue) → limits ≡ (512, 2048) → first ≡ after (limits_edits (Some limits) ++ []) → state ≡ led_to first (settings_and_accounts edits) → channels ≡ rebuild rows
      → led ≡ led_to state channels → led ≡ after (served_edits (settings_and_accounts edits ++ rebuild rows))
  all_led_behind channels led same leads set are last =
      last
      ∙ ap (λ (es : List Edit). led_to state es) are
      ∙ ap (λ (s : StateValue). led_to s (rebuild rows)) (state_is same leads set)
      ∙ led_by_all edits rows
