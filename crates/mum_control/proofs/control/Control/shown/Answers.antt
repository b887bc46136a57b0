use Rattle.mum_control.proofs.Common.{◌≡◌, ◌≢◌, [], subst, MatchOption, note_published, ControlFacts}
use Rattle.mum_control.proofs.Reporting.{shown_named}
use Rattle.mum_control.proofs.control.Control.shown.Goals as goal

pub returns-clause-note : goal.returns-clause-note
returns-clause-note g c =
    subst (λ (k : ControlFacts). MatchOption c.shown.result (k.publisher.pending ≢ []) (λ note. (k.publisher.pending ≡ []) × (note ≡ note_published k.publisher)))
    c.self.view_is c.shown.ensures

pub returns-clause-named : goal.returns-clause-named
returns-clause-named g c = shown_named c.shown.result g.N.Naming.opening c.self.inside.edits c.self.invariant.same_opening c.shown.ensures
