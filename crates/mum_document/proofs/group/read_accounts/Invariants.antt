use Rattle.mum_document.proofs.Common.{◌≡◌, drop, map, take, view, greatest, number_fault, account_of, each_fault}
use Rattle.mum_document.proofs.group.read_accounts.Given as goal

-- the first fault is not passed yet, and what was read so far is there
abbrev pub invariant-loop-place : goal.invariant-loop-place
invariant-loop-place l =
    (each_fault (number_fault 0 greatest) l.place (map view (drop l.place l.values)) ≡ each_fault (number_fault 0 greatest) 0 (map view l.values))
    × (l.accounts.items ≡ map account_of (map view (take l.place l.values)))
