use Rattle.mum_audit.proofs.Common.{◌≡◌, drop, map, member_of, members_of, same_members}
use Rattle.mum_audit.proofs.voice.are_all_members.Given as goal

abbrev pub invariant-loop-i : goal.invariant-loop-i
invariant-loop-i l = same_members (members_of l.copies) (map member_of l.hearers) ≡ same_members (members_of (drop l.i l.copies)) (map member_of (drop l.i l.hearers))
