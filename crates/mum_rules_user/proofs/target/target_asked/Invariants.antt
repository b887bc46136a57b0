use Rattle.mum_rules_user.proofs.Common.{◌≡◌, map, take, item_asked}
use Rattle.mum_rules_user.proofs.target.target_asked.Given as goal

abbrev pub invariant-loop-block : goal.invariant-loop-block
invariant-loop-block l = l.items.items ≡ map item_asked (take l.block-index l.blocks)
