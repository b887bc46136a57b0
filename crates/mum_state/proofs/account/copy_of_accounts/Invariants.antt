use Rattle.mum_state.proofs.Common.{◌≡◌, take}
use Rattle.mum_state.proofs.account.copy_of_accounts.Given as goal

abbrev pub invariant-loop-account : goal.invariant-loop-account
invariant-loop-account l = l.copies.items ≡ take l.account-index l.accounts
