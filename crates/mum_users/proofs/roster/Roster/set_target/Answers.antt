use Rattle.mum_users.proofs.Common.{not, sym, TargetRow, IsProper, is_target}
use Rattle.mum_users.proofs.{Rosters.IsProper-fewer_targets, Rosters.IsProper-with_target, Rosters.is_sound-from, roster.Roster.set_target.Goals.In_ok-put_target}
use Rattle.mum_users.proofs.roster.Roster.set_target.Goals as goal

pub invariant_of-self : goal.invariant_of-self
invariant_of-self c = record {
  proper = rw c.take_target.ensures (IsProper-fewer_targets _ (λ row. not (is_target c.args.session c.args.id row)) c.self.invariant.proper);
  rise = c.self.invariant.rise;
  numbered = c.self.invariant.numbered;
  member_masks = c.self.invariant.member_masks;
  enough = c.self.invariant.enough;
  listener_masks = c.self.invariant.listener_masks;
}

-- with the target that is set a roster is proper
proper : (c : In_ok-put_target) → IsProper (record { sessions = c.self.inside.users.items; listeners = c.self.inside.listeners; targets = c.put_target.new.rows.items; last = c.self.inside.last; limit = c.self.inside.limit })
proper c =
    let here = rw c.as_slice.ensures.value at c.if-not-is_here.ensures in
    let some = rw c.as_slice-3.ensures at c.if-is_empty.ensures in
    let row : TargetRow = record { session = c.args.session; id = c.args.id; target = c.args.target.now } in
    rw (c.in_ok-put_target.ensures.ok, c.in_ok-target.ensures) (
    IsProper-with_target _ row c.self.invariant.proper (sym here)
    (is_sound-from row c.if-id-eq0.false c.if-id-gt-LAST_TARGET.false (sym some) (sym c.if-is_oversize.ensures)))

pub invariant_of-self-2 : goal.invariant_of-self-2
invariant_of-self-2 c = record { proper = proper (goal.at.invariant_of-self-2 c).In_ok-put_target; rise = c.self.invariant.rise; numbered = c.self.invariant.numbered; member_masks = c.self.invariant.member_masks; enough = c.self.invariant.enough; listener_masks = c.self.invariant.listener_masks }

pub returns-then-is_empty-clause-proper : goal.returns-then-is_empty-clause-proper
returns-then-is_empty-clause-proper c =
    rw c.take_target.ensures (IsProper-fewer_targets _ (λ row. not (is_target c.args.session c.args.id row)) c.self.invariant.proper)

pub returns-clause-proper : goal.returns-clause-proper
returns-clause-proper c = proper (goal.at.returns-clause-proper c).In_ok-put_target
