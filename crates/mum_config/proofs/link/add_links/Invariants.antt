use Rattle.mum_config.proofs.Common.{◌≡◌, ◌++◌, drop, map, take, view, AreCounted, link_edit, link_fault, with_link_met, elements_fault}
use Rattle.mum_config.proofs.link.add_links.Given as goal

-- the first fault is not passed yet, the edits so far are there, and the links of each channel are counted
abbrev pub invariant-loop-place : goal.invariant-loop-place
invariant-loop-place l =
    (elements_fault (link_fault l.depths.entries) with_link_met l.met.ends.keys l.place (map view (drop l.place l.values))
    ≡ elements_fault (link_fault l.depths.entries) with_link_met l.fn.met.ends.keys 0 (map view l.values))
    × (l.edits.items ≡ l.fn.edits.items ++ map link_edit (map view (take l.place l.values)))
    × AreCounted l.met.counts.entries l.met.ends.keys
