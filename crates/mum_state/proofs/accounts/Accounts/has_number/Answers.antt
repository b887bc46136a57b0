use Rattle.mum_state.proofs.Common.{◌∙◌, ◌==◌, ap, list_any, AccountId, is_numbered}
use Rattle.mum_state.proofs.accounts.Accounts.has_number.Goals as goal

pub returns : goal.returns
returns c =
    c.has_number.ensures
    ∙ ap (list_any (λ (one : AccountId). one.0 == c.args.number.0)) c.as_slice.ensures.value
    ∙ c.self.invariant.numbers.same c.args.number
    ∙ ap (list_any (is_numbered c.args.number)) c.self.view_is
