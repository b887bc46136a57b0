-- The state after an edit.
use Rattle.mum_state.specs.declared.edit.Edit.{Edit}
use Rattle.mum_state.specs.{Counts.counts_after, Emptied.without_emptied, Set.set_by, State.StateValue}
use Rattle.mum_state.specs.Suppression.{with_clearing, with_suppression}

-- What the edit sets; who may speak, set again, and cleared where the same edit asks for it; without a temporary
-- channel that it emptied; and counted.
abbrev pub applied : StateValue → Edit → StateValue
applied state edit =
    let set : StateValue = set_by state edit in
    let heard : StateValue = with_clearing edit (with_suppression state edit set) in
    record (without_emptied state heard) { counts = counts_after state edit }
