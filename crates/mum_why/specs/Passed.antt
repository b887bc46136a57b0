-- What a walk that looks for a cut keeps.
use Rattle.std.specs.Prelude.{ℕ, Bool, List, filter, None, if◌then◌else◌}
use Rattle.std.specs.Option.{option_map, option_or}
use Rattle.mum_base.specs.declared.number.ChannelId.{ChannelId}
use Rattle.mum_base.specs.declared.perm.TheConstants.Perm.{TRAVERSE, WRITE}
use Rattle.mum_policy.specs.declared.policy.AclEntry.{AclEntry}
use Rattle.mum_policy.specs.{Laws.held_after, Laws.matching_at, Laws.starts_over, Member.Actor, Member.PolicyMap}
use Rattle.mum_why.specs.declared.walk.{Passed.Passed, Progress.Progress}
use Rattle.mum_why.specs.Cut.{last_in, last_place}

-- the marks that these entries leave, those of them that match, and the place of the last that decides the permission
abbrev pub passed : (AclEntry → Bool) → (AclEntry → Bool) → Bool → Bool → List AclEntry → Passed
passed matching deciding traverse write entries = record {
  traverse = held_after TRAVERSE.0 traverse (filter matching entries);
  write = held_after WRITE.0 write (filter matching entries);
  last = last_place deciding entries;
}

-- the marks after one channel more, and the last entry so far that decides the permission
abbrev pub progressed : PolicyMap → List ChannelId → Actor → ℕ → ℕ → Bool → ChannelId → Progress → Progress
progressed policies path who permission place asked channel progress = record {
  traverse = held_after TRAVERSE.0 progress.traverse (matching_at policies path who place channel);
  write = held_after WRITE.0 progress.write (matching_at policies path who place channel);
  last = option_or (option_map (λ index. (channel, index)) (last_in policies path who permission place asked channel))
      (if starts_over (policies channel) then None else progress.last);
}
