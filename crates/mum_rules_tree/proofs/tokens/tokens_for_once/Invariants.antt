use Rattle.mum_rules_tree.proofs.Common.{◌≡◌, take, tokens_for_once}
use Rattle.mum_rules_tree.proofs.tokens.tokens_for_once.Given as goal

abbrev pub invariant-loop-token : goal.invariant-loop-token
invariant-loop-token l = l.tokens.items ≡ take l.token-index l.own

abbrev pub invariant-loop-token-2 : goal.invariant-loop-token-2
invariant-loop-token-2 l = l.tokens.items ≡ tokens_for_once l.own (take l.token-index l.added)
