use Rattle.mum_notify.proofs.Common.{subst, ListAlike, is_for}
use Rattle.mum_notify.proofs.Sent.{so_on_ok, text_spread}
use Rattle.mum_notify.proofs.texts.send_text.Goals as goal

pub tell_text-requires : goal.tell_text-requires
tell_text-requires c =
    let named = c.in_ok-named.named in
    let alike = c.in_ok-named.ensures in
    let sessions = subst (ListAlike named.sessions.numbers.items) c.requires.sessions alike.0 in
    let channels = subst (ListAlike named.channels.numbers.items) c.requires.channels alike.1 in
    let trees = subst (ListAlike named.trees.numbers.items) c.requires.trees alike.2 in
    (sessions, channels, trees)

pub returns : goal.returns
returns c =
    let text = c.args.text.now in
    so_on_ok c.tell_text.result
    (text_spread c.args.state.now (is_for c.args.state.now text.actor text.sessions.now text.channels.now text.trees.now) c.args.told.now c.in_ok-frame.frame c.roster-roster.result.now c.users.result.now c.args.list.now.items c.tell_text.new.list.items
    c.in_ok-frame.ensures c.roster-roster.ensures.roster c.users.ensures)
    c.tell_text.ensures
