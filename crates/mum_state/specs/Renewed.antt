-- The slots of those for whom an edit makes what was computed of a session out of date.
use Rattle.std.specs.Prelude.{ℕ, ◌==◌, ◌||◌, Bool, false, map, slice_index_or, if◌then◌else◌}
use Rattle.mum_state.specs.declared.renewed.Renewed.{Renewed, TheVariants.Nobody, TheVariants.One, TheVariants.Those}
use Rattle.mum_state.specs.{State.StateValue, Suppression.heard_anew}

-- the slot is one of them
abbrev pub is_renewed_slot : Renewed → ℕ → Bool
is_renewed_slot Nobody slot = false
is_renewed_slot (One one) slot = one.0 == slot
is_renewed_slot (Those marks) slot = slice_index_or marks slot false

-- whether those in these slots, or all, may speak where they are is set again
abbrev pub heard_again : Renewed → Bool → StateValue → StateValue
heard_again renewed all state = record state {
  roster = record state.roster {
    sessions = map
        (λ user. if is_renewed_slot renewed user.slot.0
        || all then heard_anew state user else user) state.roster.sessions;
  };
}
