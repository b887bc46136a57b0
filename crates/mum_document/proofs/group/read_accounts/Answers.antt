use Rattle.mum_document.proofs.Common.{◌<◌, [], length, sym, ◌∙◌, rules, err_from_is_err_and, view, greatest, number_fault, account_of}
use Rattle.mum_document.proofs.{First.out_of_memory, Elements.each_step, Elements.each_stop, Elements.pushed}
use Rattle.mum_document.proofs.group.read_accounts.Goals as goal

pub returns-in_err-accounts : goal.returns-in_err-accounts
returns-in_err-accounts c =
    let p = err_from_is_err_and c.from_residual.result c.from_residual.ensures.1 in
    rw p.1 (out_of_memory _ _ p.2)

pub returns-in_err-account : goal.returns-in_err-account
returns-in_err-account c =
    let p = err_from_is_err_and c.from_residual-in_err-account.result c.from_residual-in_err-account.ensures.1 in
    let v = c.index-values-place.result in
    let said = c.in_err-account.ensures.reads ((number_fault 0 greatest) (view v)) (account_of (view v)) c.read_account.ensures in
    rw (p.1, p.2, ← c.loop-place.invariant.0) (each_stop (number_fault 0 greatest) _ c.args.values.now c.loop-place.place v c.index-values-place.is (search rules) said)

pub returns-in_err-push : goal.returns-in_err-push
returns-in_err-push c =
    let p = err_from_is_err_and c.from_residual-in_err-push.result c.from_residual-in_err-push.ensures.1 in
    rw p.1 (out_of_memory _ _ p.2)

pub loop-place-preserved : goal.loop-place-preserved
loop-place-preserved c =
    let v = c.index-values-place.result in
    let read = c.in_ok-account.ensures.reads ((number_fault 0 greatest) (view v)) (account_of (view v)) c.read_account.ensures in
    let inside : c.loop-place.place < length c.args.values.now = search rules in (
      sym (each_step (number_fault 0 greatest) c.args.values.now c.loop-place.place v c.index-values-place.is inside read.0) ∙ c.loop-place.invariant.0,
      pushed account_of [] _ _ _ c.args.values.now c.loop-place.place v c.index-values-place.is inside c.loop-place.invariant.1 c.in_ok-push.ensures.items read.1,
    )
