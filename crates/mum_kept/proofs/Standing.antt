-- Policies that are those of an earlier state.
use Rattle.mum_kept.proofs.Common.{◌≡◌, ℕ, ◌≤◌, ◌||◌, zero, suc, Bool, true, false, cond, List, [], ◌∷◌, filter, length, map, refl, sym, ap, subst, ◌∙◌, arith, Option, Some, None, IfSome, Bor, AllByRecursion, option_copied, slice_get, IsItemAt, or_parts, none-some, same_Some, slice_get_past, slice_get_read, Row, Edit, led_to, applied, raised_where, empties, changes_paths, IsProper, set_by, PolicyRow, StateValue, counts_never_fall_lem, not_raised, AreGoverned, HasWays, edge, governed_where_proper, ways_stay, Pair, is_lasting, kept, kept_channel, kept_policy, KeptChannel, HasPolicyOf, HavePoliciesOf, PoliciesStand}

module _ (edges : List Pair) (policies : List PolicyRow) (governed : AreGoverned edges policies) where
  ways_stand : (state : StateValue) (edits : List Edit) → HasWays edges policies state.tree.channels state.policies
      → state.counts.policy ≡ (led_to state edits).counts.policy
      → HasWays edges policies (led_to state edits).tree.channels (led_to state edits).policies
  ways_stand state [] has counted = has
  ways_stand state (edit ∷ edits) has counted =
      let on = counts_never_fall_lem (applied state edit) edits in
      let most : raised_where (changes_paths edit || empties state (set_by state edit)) state.counts.policy ≤ (led_to (applied state edit) edits).counts.policy = on.policy in
      let quiet : (changes_paths edit || empties state (set_by state edit)) ≡ false = not_raised _ state.counts.policy (omega (arith, most, counted)) in
      let (paths, emptied) = or_parts (changes_paths edit) (empties state (set_by state edit)) quiet in
      ways_stand (applied state edit) edits
      (ways_stay edges policies governed state edit paths emptied has)
      (ap (λ (b : Bool). raised_where b state.counts.policy) quiet ∙ counted)

pub policies_stand_lem : PoliciesStand
policies_stand_lem state edits proper counted =
    (ways_stand (map edge state.tree.channels) state.policies (governed_where_proper state proper) state edits
    (record { ways = refl; rules = refl }) counted).rules

-- ---- rows that were kept of an earlier state

module _ (state later : StateValue) (same : (row : KeptChannel) → row.policy ≡ kept_policy state row.id → HasPolicyOf later row) where
  rows_have : (rows : List Row) → AllByRecursion (HasPolicyOf later) (map (λ row. kept_channel state row.channel) (filter (λ row. is_lasting row.channel) rows))
  rows_have [] = tt
  rows_have (row ∷ rows) = step (is_lasting row.channel) (rows_have rows)
    where
      step : (b : Bool) → AllByRecursion (HasPolicyOf later) (map (λ row. kept_channel state row.channel) (filter (λ row. is_lasting row.channel) rows))
          → AllByRecursion (HasPolicyOf later) (map (λ row. kept_channel state row.channel) (cond b (row ∷ filter (λ row. is_lasting row.channel) rows) (filter (λ row. is_lasting row.channel) rows)))
      step true others = (same (kept_channel state row.channel) refl, others)
      step false others = others

-- where the policy count is the same, they have the policies of the later one
pub kept_have : (state : StateValue) (edits : List Edit) → IsProper state → state.counts.policy ≡ (led_to state edits).counts.policy
    → HavePoliciesOf (led_to state edits) (kept state).channels
kept_have state edits proper counted =
    let stand = policies_stand_lem state edits proper counted in
    rows_have state (led_to state edits)
    (λ row is. is ∙ ap (λ (policies : List PolicyRow). kept_policy (record state { policies = policies }) row.id) (sym stand)) state.tree.channels

-- they have those of the state itself
pub kept_has : (state : StateValue) → HavePoliciesOf state (kept state).channels
kept_has state = rows_have state state (λ row is. is) state.tree.channels

-- ---- one of the rows

-- what `get` answers
pub given_at : {A : Type 0} (xs : List A) (at : ℕ) (given : Option (Bor A)) → IsItemAt xs at given → option_copied given ≡ slice_get xs at
given_at xs at None item = sym (slice_get_past xs at item.3)
given_at xs at (Some x) item = sym (slice_get_read xs (length xs) at x.now refl item.3.0 item.1)

one_of : {A : Type 0} (P : A → Type 0) (xs : List A) (at : ℕ) (one : Option A) → one ≡ slice_get xs at → AllByRecursion P xs → IfSome one P
one_of P xs at None is all = tt
one_of P [] at (Some x) is all = absurd (none-some _ (sym is))
one_of P (x ∷ xs) zero (Some one) is all = subst P (sym (same_Some _ _ is)) all.0
one_of P (x ∷ xs) (suc at) (Some one) is all = one_of P xs at (Some one) is all.1

pub one_has : (state : StateValue) (rows : List KeptChannel) (at : ℕ) (given : Option (Bor KeptChannel)) → IsItemAt rows at given
    → HavePoliciesOf state rows → IfSome (option_copied given) (HasPolicyOf state)
one_has state rows at given item all = one_of (HasPolicyOf state) rows at (option_copied given) (given_at rows at given item) all
