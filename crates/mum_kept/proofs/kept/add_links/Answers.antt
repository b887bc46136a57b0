use Rattle.mum_kept.proofs.Common.{◌∙◌, ◌++◌, List, ap, sym, arith, take_all, ChannelId, is_kept_link}
use Rattle.mum_kept.proofs.{Lasting.kept_from, Lasting.link_dropped_at, Lasting.link_kept_at, kept.add_links.Goals.then-is_kept_link+in_ok-push, kept.add_links.Goals.else-is_kept_link}
use Rattle.mum_kept.proofs.kept.add_links.Goals as goal

pub loop-other-preserved : goal.loop-other-preserved
loop-other-preserved c =
    let kept = is_kept_link c.args.tree.now in
    elim c.if-is_kept_link.branch [
      | then-is_kept_link+in_ok-push w ↦
          rw w.links-is (link_kept_at kept c.args.id c.deref-other-items.result.now c.loop-other.other-index _ c.args.links.now.items c.loop-other.links.items _ c.loop-other-test.true (sym c.is_kept_link.ensures ∙ w.if-is_kept_link.true) c.loop-other.invariant w.in_ok-push.ensures.items)
      | else-is_kept_link w ↦
          rw w.links-is (link_dropped_at kept c.args.id c.deref-other-items.result.now c.loop-other.other-index _ c.args.links.now.items c.loop-other.links.items c.loop-other-test.true (sym c.is_kept_link.ensures ∙ w.if-is_kept_link.false) c.loop-other.invariant)
    ]

pub returns : goal.returns
returns c =
    c.loop-other.invariant
    ∙ ap (λ (others : List ChannelId). c.args.links.now.items ++ kept_from (is_kept_link c.args.tree.now) c.args.id others) (take_all c.loop-other.other-index c.deref-other-items.result.now (omega arith) ∙ c.deref-other-items.ensures.value ∙ c.in_ok-others.ensures)
