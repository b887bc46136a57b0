use Rattle.mum_config.proofs.Common.{◌≡◌, ◌++◌, drop, map, take, view, account_edit, account_fault, with_account_met, elements_fault}
use Rattle.mum_config.proofs.account.add_accounts.Given as goal

-- the first fault is not passed yet, and the edits so far are there
abbrev pub invariant-loop-place : goal.invariant-loop-place
invariant-loop-place l =
    (elements_fault account_fault with_account_met (record { numbers = l.numbers.keys; names = map (λ n. n.now) l.names.keys }) l.place (map view (drop l.place l.values))
    ≡ elements_fault account_fault with_account_met (record { numbers = l.fn.numbers.keys; names = map (λ n. n.now) l.fn.names.keys }) 0 (map view l.values))
    × (l.edits.items ≡ l.fn.edits.items ++ map account_edit (map view (take l.place l.values)))
