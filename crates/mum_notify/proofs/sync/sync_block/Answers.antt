use Rattle.mum_notify.proofs.Common.{◌∙◌}
use Rattle.mum_notify.proofs.Sent.{block_sent}
use Rattle.mum_notify.proofs.sync.sync_block.Goals as goal

pub returns : goal.returns
returns c =
    c.from_vec-2.ensures
    ∙ block_sent c.args.state.now c.args.session c.roster-roster.result.now c.in-Some.user.now c.new-list.result.items c.tell_state.new.list.items c.roster-roster.ensures.roster c.in-Some.ensures.row c.new-list.ensures.items c.in_ok-tell_state.ensures
