use Rattle.mum_notify.proofs.Common.{◌∙◌, ◌++◌, ◌∷◌, [], Bool, not, ap, eq-eqb, ne_eqb, ChannelId, is_root, child_of, Child}
use Rattle.mum_notify.proofs.{Pieces.passed_at, Pieces.skipped_at, children.children_of.Goals.then-id+in_ok-push, children.children_of.Goals.else-id}
use Rattle.mum_notify.proofs.children.children_of.Goals as goal

pub loop-id-preserved : goal.loop-id-preserved
loop-id-preserved c =
    let passes : ChannelId → Bool = λ id. not (is_root id) in
    elim c.if-id.branch [
      | then-id+in_ok-push w ↦
          rw w.listed-is (passed_at passes (child_of c.args.tree.now) c.args.ids.now c.loop-id.id-index _ c.loop-id.listed.items _ c.loop-id-test.true (ap not (ne_eqb _ 0 w.if-id.true)) c.loop-id.invariant
          (w.in_ok-push.ensures.items ∙ ap (λ (child : Child). c.loop-id.listed.items ++ child ∷ []) w.child_of.ensures))
      | else-id w ↦ rw w.listed-is (skipped_at passes (child_of c.args.tree.now) c.args.ids.now c.loop-id.id-index _ c.loop-id.listed.items c.loop-id-test.true (ap not (eq-eqb _ 0 w.if-id.false)) c.loop-id.invariant)
    ]
