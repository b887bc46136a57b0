use Rattle.mum_document.proofs.Common.{◌≡◌, drop, map, take, view, entry_fault, entry_of, each_fault}
use Rattle.mum_document.proofs.entry.read_entries.Given as goal

-- the first fault is not passed yet, and what was read so far is there
abbrev pub invariant-loop-place : goal.invariant-loop-place
invariant-loop-place l =
    (each_fault entry_fault l.place (map view (drop l.place l.values)) ≡ each_fault entry_fault 0 (map view l.values))
    × (l.entries.items ≡ map entry_of (map view (take l.place l.values)))
