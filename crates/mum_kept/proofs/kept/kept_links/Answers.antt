use Rattle.mum_kept.proofs.Common.{◌∙◌, List, ap, arith, filter, flat_map, take_all, ChannelId, is_kept_link, links_from}
use Rattle.mum_kept.proofs.Lasting.{links_by_id, pieces_at}
use Rattle.mum_kept.proofs.kept.kept_links.Goals as goal

pub loop-id-preserved : goal.loop-id-preserved
loop-id-preserved c =
    pieces_at (λ id. filter (is_kept_link c.args.tree.now) (links_from c.args.tree.now id)) c.args.ids.now c.loop-id.id-index _ c.loop-id.links.items _ c.loop-id-test.true c.loop-id.invariant c.in_ok-add_links.ensures

pub returns : goal.returns
returns c =
    let tree = c.args.tree.now in
    c.loop-id.invariant
    ∙ ap (λ (ids : List ChannelId). flat_map (λ id. filter (is_kept_link tree) (links_from tree id)) ids) (take_all c.loop-id.id-index c.args.ids.now (omega arith) ∙ c.requires.ids)
    ∙ links_by_id tree (is_kept_link tree) c.requires.proper
