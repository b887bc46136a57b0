use Rattle.mum_state.proofs.Common.{◌∙◌, ◌++◌, List, [], ◌∷◌, ap, sym, take, take_more, Account}
use Rattle.mum_state.proofs.account.copy_of_accounts.Goals as goal

pub loop-account-preserved : goal.loop-account-preserved
loop-account-preserved c =
    c.in_ok-push.ensures.items
    ∙ ap (λ (front : List Account). front ++ c.in_ok-copy.field-0 ∷ []) c.loop-account.invariant
    ∙ ap (λ (next : Account). take c.loop-account.account-index c.args.accounts.now ++ next ∷ []) (c.in_ok-copy.ensures ∙ c.account-item.is)
    ∙ sym (take_more c.args.accounts.now c.loop-account.account-index c.account-item.result c.loop-account-test.true)
