use Rattle.mum_kept.proofs.Pushed.{five_pieces, rebuilt_of}
use Rattle.mum_kept.proofs.rebuilt.push_all.Goals as goal

pub returns : goal.returns
returns c =
    rebuilt_of c.args.rows.now c.as_slice-channels.result.now c.as_slice.result.now c.args.edits.now.items _ c.as_slice-channels.ensures c.as_slice.ensures
    (five_pieces _ _ _ _ _ _ _ _ _ _ _ c.in_ok-push_made.ensures c.in_ok-push_placed.ensures c.in_ok-push_infos.ensures c.in_ok-push_links.ensures c.in_ok-push_policies.ensures)
