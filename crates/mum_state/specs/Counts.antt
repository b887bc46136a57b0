-- The counts of edits, each by its sentence.
use Rattle.std.specs.Prelude.{ℕ, ◌+◌, ◌==◌, ◌&&◌, ◌||◌, not, Bool, List, [], ◌∷◌, slice_get, Option, if◌then◌else◌}
use Rattle.std.specs.List.{list_any}
use Rattle.mum_base.specs.declared.number.Slot.{Slot}
use Rattle.mum_state.specs.declared.edit.Edit.{Edit}
use Rattle.mum_state.specs.{Emptied.empties, Kinds.changes_paths, Kinds.changes_routes, Kinds.is_of_configuration}
use Rattle.mum_state.specs.{Set.set_by, State.Counts, State.StateValue, Suppression.is_renewed}

-- one more where it holds
abbrev pub raised_where : Bool → ℕ → ℕ
raised_where holds count = if holds then count + 1 else count

-- from this slot on, one more for each slot where it holds
abbrev pub raised_slots : (ℕ → Bool) → ℕ → List ℕ → List ℕ
raised_slots holds slot [] = []
raised_slots holds slot (count ∷ counts) = raised_where (holds slot) count ∷ raised_slots holds (slot + 1) counts

-- the session that then is in the slot joined, entered another channel, or had its tokens set
abbrev pub renews : StateValue → Edit → ℕ → Bool
renews state edit slot =
    list_any (λ user. (user.slot.0 == slot) && is_renewed state.roster.sessions edit user)
    (set_by state edit).roster.sessions

-- the revision counts the edits that sessions make. The policy count is of those that make, move or remove channels,
-- also a temporary one that empties, or set a policy
abbrev pub counts_after : StateValue → Edit → Counts
counts_after state edit = record {
  revision = raised_where (not (is_of_configuration edit)) state.counts.revision;
  policy = raised_where (changes_paths edit || empties state (set_by state edit)) state.counts.policy;
  routing = raised_where (changes_routes edit) state.counts.routing;
  slots = raised_slots (renews state edit) 0 state.counts.slots;
}

-- the count of a slot
abbrev pub slot_count : StateValue → Slot → Option ℕ
slot_count state slot = slice_get state.counts.slots slot.0
