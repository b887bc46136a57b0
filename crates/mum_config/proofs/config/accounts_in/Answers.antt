use Rattle.mum_config.proofs.Common.{◌≡◌, ◌++◌, map, err_from_is_err_and, view, account_edit, account_fault, no_accounts, with_account_met, accounts_in, elements_fault, first, on_ok_through, or_else-end, reads_later}
use Rattle.mum_config.proofs.config.accounts_in.Goals as goal

pub returns-in_err-values-clause-reads : goal.returns-in_err-values-clause-reads
returns-in_err-values-clause-reads c =
    let p = err_from_is_err_and c.from_residual.result c.from_residual.ensures.1 in
    rw (p.1, p.2) (first _ _ _ c.in_err-values.ensures)

pub returns-clause-reads : goal.returns-clause-reads
returns-clause-reads c =
    let read = c.at.ensures.reads (elements_fault account_fault with_account_met no_accounts 0 (map view c.in_ok-values.values.now)) tt c.read_accounts.ensures.reads in
    rw or_else-end (reads_later _ _ tt c.at.result c.in_ok-values.ensures.0 (rw c.in_ok-values.ensures.1 at read))

pub returns-clause-edits : goal.returns-clause-edits
returns-clause-edits c = on_ok_through (c.read_accounts.new.edits.items ≡ c.args.edits.now.items ++ map account_edit (accounts_in (view c.args.object.now.value.now))) c.at.result c.read_accounts.result c.at.ensures.ok (rw c.in_ok-values.ensures.1 at c.read_accounts.ensures.edits)
