use Rattle.mum_rules_user.proofs.Common.{ℕ, List, not, take, ap, ◌∙◌, filter, take_all, take_min, TOKENS, is_long_token}
use Rattle.mum_rules_user.proofs.login.tokens_kept.Goals as goal

pub returns : goal.returns
returns c =
    let given = c.args.given.now in
    let short : List (List ℕ) → List (List ℕ) = filter (λ token. not (is_long_token token)) in
    c.from_vec.ensures
    ∙ c.loop-token.invariant
    ∙ ap short (take_all c.loop-token.token-index (take c.min.result given) c.loop-token-test.false)
    ∙ ap (λ (n : ℕ). short (take n given)) c.min.ensures
    ∙ ap short (take_min TOKENS given)
