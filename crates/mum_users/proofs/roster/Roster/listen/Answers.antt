use Rattle.mum_users.proofs.Common.{refl, sym, err_from_is_err_and, IsProper}
use Rattle.mum_users.proofs.{ListenerRows.listeners-more, Rosters.IsProper-listening, Rosters.absent_listener, Rosters.listed_already, Rosters.listen_allowed, Rosters.listen_crowded, Rosters.listen_too_many, Rosters.there_from, roster.Roster.listen.Goals.After-set_slot}
use Rattle.mum_users.proofs.roster.Roster.listen.Goals as goal

pub returns-in_default-clause-outcome : goal.returns-in_default-clause-outcome
returns-in_default-clause-outcome c = (absent_listener _ _ c.args.session c.args.channel _ c.self.view_is c.as_slice.ensures.value c.in_default.ensures, refl)

pub returns-then-has-clause-outcome : goal.returns-then-has-clause-outcome
returns-then-has-clause-outcome c =
    let listed = c.if-has.ensures in
    listed_already _ _ c.args.session c.args.channel c.self.view_is c.self.invariant.proper (there_from _ c.args.session _ _ c.as_slice.ensures.value c.in-Some.ensures) (sym listed)

pub returns-then-session_count-ge-CHANNEL_LISTENERS-clause-outcome : goal.returns-then-session_count-ge-CHANNEL_LISTENERS-clause-outcome
returns-then-session_count-ge-CHANNEL_LISTENERS-clause-outcome c =
    (listen_crowded _ _ c.args.session c.args.channel c.self.view_is (there_from _ c.args.session _ _ c.as_slice.ensures.value c.in-Some.ensures) (sym c.if-has.ensures) _ c.session_count.ensures c.if-session_count-ge-CHANNEL_LISTENERS.true, refl)

pub returns-then-channel_count-ge-LISTENED_CHANNELS-clause-outcome : goal.returns-then-channel_count-ge-LISTENED_CHANNELS-clause-outcome
returns-then-channel_count-ge-LISTENED_CHANNELS-clause-outcome c =
    (listen_too_many _ _ c.args.session c.args.channel c.self.view_is (there_from _ c.args.session _ _ c.as_slice.ensures.value c.in-Some.ensures) (sym c.if-has.ensures) _ c.session_count.ensures c.if-session_count-ge-CHANNEL_LISTENERS.false _ c.channel_count.ensures c.if-channel_count-ge-LISTENED_CHANNELS.true, refl)

pub returns-in_err-reserve-clause-outcome : goal.returns-in_err-reserve-clause-outcome
returns-in_err-reserve-clause-outcome c =
    let p = err_from_is_err_and c.from_residual.result c.from_residual.ensures.1 in
    rw (p.1, p.2) (listen_allowed _ _ c.args.session c.args.channel c.self.view_is (there_from _ c.args.session _ _ c.as_slice.ensures.value c.in-Some.ensures) (sym c.if-has.ensures) _ c.session_count.ensures c.if-session_count-ge-CHANNEL_LISTENERS.false _ c.channel_count.ensures c.if-channel_count-ge-LISTENED_CHANNELS.false, c.self.view_is)

pub returns-in_err-put-clause-outcome : goal.returns-in_err-put-clause-outcome
returns-in_err-put-clause-outcome c =
    let p = err_from_is_err_and c.from_residual-in_err-put.result c.from_residual-in_err-put.ensures.1 in
    rw (p.1, p.2, c.in_err-put.ensures.err) (listen_allowed _ _ c.args.session c.args.channel c.self.view_is (there_from _ c.args.session _ _ c.as_slice.ensures.value c.in-Some.ensures) (sym c.if-has.ensures) _ c.session_count.ensures c.if-session_count-ge-CHANNEL_LISTENERS.false _ c.channel_count.ensures c.if-channel_count-ge-LISTENED_CHANNELS.false, c.self.view_is)

pub returns-clause-outcome : goal.returns-clause-outcome
returns-clause-outcome c =
    rw c.in_ok-put.ensures.ok (listen_allowed _ _ c.args.session c.args.channel c.self.view_is (there_from _ c.args.session _ _ c.as_slice.ensures.value c.in-Some.ensures) (sym c.if-has.ensures) _ c.session_count.ensures c.if-session_count-ge-CHANNEL_LISTENERS.false _ c.channel_count.ensures c.if-channel_count-ge-LISTENED_CHANNELS.false, rw (← c.self.view_is) refl)

-- what is left is a proper roster
proper : (c : After-set_slot) → IsProper (record { sessions = c.self.inside.users.items; listeners = c.put.new.self; targets = c.self.inside.targets.items; last = c.self.inside.last; limit = c.self.inside.limit })
proper c =
    let absent = c.if-has.ensures in
    let listeners = c.session_count.ensures in
    let channels = c.channel_count.ensures in
    rw c.in_ok-put.ensures.ok (
    IsProper-listening _ c.args.session c.args.channel c.self.invariant.proper (there_from _ c.args.session _ _ c.as_slice.ensures.value c.in-Some.ensures) (sym absent)
    (rw (← listeners) c.if-session_count-ge-CHANNEL_LISTENERS.false) (rw (← channels) c.if-channel_count-ge-LISTENED_CHANNELS.false))

pub invariant_of-self-2 : goal.invariant_of-self-2
invariant_of-self-2 c = record {
  proper = proper (goal.at.invariant_of-self-2 c).After-set_slot;
  rise = c.self.invariant.rise;
  numbered = c.self.invariant.numbered;
  member_masks = c.self.invariant.member_masks;
  enough = c.self.invariant.enough;
  listener_masks = rw (c.set_slot.ensures.items, c.in_ok-put.ensures.ok, c.reserve.ensures.items) (listeners-more _ _ _ _ _ c.args.session _ _ c.index.result.now c.self.invariant c.as_slice.ensures.value c.in-Some.ensures c.index.ensures c.args.channel);
}

pub returns-clause-proper : goal.returns-clause-proper
returns-clause-proper c = proper (goal.at.returns-clause-proper c).After-set_slot
