use Rattle.mum_control.proofs.Common.{◌∙◌, ap, is_some, session_of, RosterState}
use Rattle.mum_control.proofs.Copied.{copied_is_some}
use Rattle.mum_control.proofs.sessions.is_there.Goals as goal

pub returns-clause-there : goal.returns-clause-there
returns-clause-there c =
    c.is_some.ensures ∙ copied_is_some c.session.result
    ∙ ap is_some (c.session.ensures.row ∙ ap (λ (roster : RosterState). session_of roster c.args.session) c.roster-roster.ensures.roster)
