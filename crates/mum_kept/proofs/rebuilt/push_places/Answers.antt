use Rattle.mum_kept.proofs.Common.{◌++◌, Bool, List, map, filter, not, ap, sym, ◌∙◌, arith, take_all, ChannelId, is_root, place_edit, tree_of}
use Rattle.mum_kept.proofs.{Pushed.dropped_at, Pushed.kept_at, rebuilt.push_places.Goals.then-not-is_root+in_ok-push_place, rebuilt.push_places.Goals.else-not-is_root}
use Rattle.mum_kept.proofs.rebuilt.push_places.Goals as goal

pub loop-id-preserved : goal.loop-id-preserved
loop-id-preserved c =
    let passes : ChannelId → Bool = λ id. not (is_root id) in
    elim c.if-not-is_root.branch [
      | then-not-is_root+in_ok-push_place w ↦
          rw w.edits-is (kept_at passes (place_edit (tree_of c.args.channels.now)) c.args.edits.now.items c.args.ids.now c.loop-id.id-index _ c.loop-id.edits.items _ c.loop-id-test.true (ap not (sym c.is_root.ensures ∙ w.if-not-is_root.true)) c.loop-id.invariant w.in_ok-push_place.ensures)
      | else-not-is_root w ↦
          rw w.edits-is (dropped_at passes (place_edit (tree_of c.args.channels.now)) c.args.edits.now.items c.args.ids.now c.loop-id.id-index _ c.loop-id.edits.items c.loop-id-test.true (ap not (sym c.is_root.ensures ∙ w.if-not-is_root.false)) c.loop-id.invariant)
    ]

pub returns : goal.returns
returns c =
    c.loop-id.invariant
    ∙ ap (λ (ids : List ChannelId). c.args.edits.now.items ++ map (place_edit (tree_of c.args.channels.now)) (filter (λ id. not (is_root id)) ids)) (take_all c.loop-id.id-index c.args.ids.now (omega arith))
