use Rattle.mum_bans.proofs.Common.{◌≡◌, drop, first_start}
use Rattle.mum_bans.proofs.setting.first_start.Given as goal

abbrev pub invariant-loop-other : goal.invariant-loop-other
invariant-loop-other l = first_start l.bans l.ban ≡ first_start (drop l.other-index l.bans) l.ban
