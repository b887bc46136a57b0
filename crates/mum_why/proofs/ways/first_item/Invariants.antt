use Rattle.mum_why.proofs.Common.{◌≡◌, drop, map, item_aim, way_from}
use Rattle.mum_why.proofs.ways.first_item.Given as goal

abbrev pub invariant-items : goal.invariant-items
invariant-items g l =
    way_from l.case.state.now l.case.hearer.now l.listens l.wanted l.place (map (item_aim l.case.speaker.now.session) (drop l.place l.items))
    ≡ way_from l.case.state.now l.case.hearer.now l.listens l.wanted 0 (map (item_aim l.case.speaker.now.session) l.items)
