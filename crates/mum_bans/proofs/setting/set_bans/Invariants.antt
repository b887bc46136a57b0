use Rattle.mum_bans.proofs.Common.{◌≡◌, ◌+◌, length, map, take, vec_len, vec_capacity, set_ban}
use Rattle.mum_bans.proofs.setting.set_bans.Given as goal

abbrev pub invariant-loop-entry : goal.invariant-loop-entry
invariant-loop-entry l = record {
  bans : l.set.items ≡ map (set_ban l.bans l.moment) (take l.entry-index l.entries);
  filled : vec_len l.set ≡ l.entry-index;
  room : vec_capacity l.set ≡ length l.entries + 1;
}
