use Rattle.mum_why.proofs.Common.{◌∙◌, ap, sym, option_copied, session_of, RosterState, channel_there}
use Rattle.mum_why.proofs.reason.reason_for.Goals as goal

pub reason_between-requires-clause-speaker : goal.reason_between-requires-clause-speaker
reason_between-requires-clause-speaker g c =
    channel_there c.args.state.now c.args.speaker c.in-Some.own.now c.roster.ensures.proper
    (sym (ap (λ (r : RosterState). session_of r c.args.speaker) c.roster.ensures.roster) ∙ sym c.session.ensures.row ∙ ap option_copied c.in-Some.is)

pub reason_between-requires-clause-hearer : goal.reason_between-requires-clause-hearer
reason_between-requires-clause-hearer g c =
    channel_there c.args.state.now c.args.hearer c.in-Some-session.user.now c.roster.ensures.proper
    (sym (ap (λ (r : RosterState). session_of r c.args.hearer) c.roster-2.ensures.roster) ∙ sym c.session-2.ensures.row ∙ ap option_copied c.in-Some-session.is)
