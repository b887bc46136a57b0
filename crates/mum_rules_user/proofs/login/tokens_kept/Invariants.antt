use Rattle.mum_rules_user.proofs.Common.{◌≡◌, not, take, filter, is_long_token}
use Rattle.mum_rules_user.proofs.login.tokens_kept.Given as goal

abbrev pub invariant-loop-token : goal.invariant-loop-token
invariant-loop-token l = l.kept.items ≡ filter (λ token. not (is_long_token token)) (take l.token-index l.counted)
