-- Where the policies of channels are those that rows have already.
use Rattle.std.specs.Prelude.{◌≡◌, List}
use Rattle.std.specs.List.{AllByRecursion}
use Rattle.mum_state.specs.declared.edit.Edit.{Edit}
use Rattle.mum_state.specs.{After.led_to, Proper.IsProper, State.StateValue}
use Rattle.mum_kept.specs.Kept.{kept_policy}
use Rattle.mum_kept.specs.declared.rows.KeptChannel.{KeptChannel}

-- the policy of the row is that of its channel, as it is kept
abbrev pub HasPolicyOf : StateValue → KeptChannel → Type 0
HasPolicyOf state row = row.policy ≡ kept_policy state row.id

abbrev pub HavePoliciesOf : StateValue → List KeptChannel → Type 0
HavePoliciesOf state rows = AllByRecursion (HasPolicyOf state) rows

-- all policies are the same while the policy count is
abbrev pub PoliciesStand : Type 0
PoliciesStand =
    (state : StateValue) (edits : List Edit) → IsProper state
    → state.counts.policy ≡ (led_to state edits).counts.policy → (led_to state edits).policies ≡ state.policies
