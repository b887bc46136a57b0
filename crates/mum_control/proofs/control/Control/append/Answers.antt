use Rattle.mum_control.proofs.Common.{◌∙◌, ℕ, Some, ap, length, subst, sym, IsTrue, filter, vec_capacity, fits, IsProper, StateValue, appended, PublisherFacts, accepted, current, ControlFacts, is_there}
use Rattle.mum_control.proofs.{Appending.revision_more, Keeping.accepted_so, Keeping.kept_accepting, Keeping.kept_same, Keeping.slots_so}
use Rattle.mum_base.specs.declared.reply.Mark.TheVariants as marks
use Rattle.mum_control.proofs.control.Control.append.Goals as goal

pub accept_edit-requires-clause-fits : goal.accept_edit-requires-clause-fits
accept_edit-requires-clause-fits g c = subst (λ (s : StateValue). IsTrue (fits s c.args.edit)) (sym (ap current c.self.view_is)) c.requires.fits

-- where memory ran out nothing changed
pub invariant_of-self : goal.invariant_of-self
invariant_of-self g c =
    let inside = c.self.inside in
    let same = c.in_err-accept_edit.ensures in
    kept_same g.N.Naming.opening inside.edits c.accept_edit.new.list inside.posts.items inside.pending c.accept_edit.new.pending
    inside.lagged.items (vec_capacity inside.lagged) c.self.invariant same.err same.none_put

pub invariant_of-self-2 : goal.invariant_of-self-2
invariant_of-self-2 g c =
    let inside = c.self.inside in
    let said = c.in_ok-accept_edit.ensures in
    let stays = c.keep_present.ensures.items ∙ ap (λ (s : StateValue). filter (is_there s) inside.lagged.items) c.latest-3.ensures in
    let before = subst IsProper c.latest.ensures c.know_proper.ensures in
    let after = subst IsProper c.latest-2.ensures c.know_proper-2.ensures in
    kept_accepting g.N.Naming.opening inside.edits c.accept_edit.new.list inside.posts.items inside.pending c.accept_edit.new.pending
    inside.lagged.items c.keep_present.new.sessions.items (vec_capacity inside.lagged) (vec_capacity c.keep_present.new.sessions) c.args.edit
    c.self.invariant said.ok said.put (slots_so inside.edits c.accept_edit.new.list c.args.edit said.ok before after) stays c.keep_present.ensures.room

pub returns-clause-ok : goal.returns-clause-ok
returns-clause-ok g c =
    let inside = c.self.inside in
    let control : ControlFacts = record { publisher = inside.edits; posts = inside.posts.items; pending = inside.pending; lagged = inside.lagged.items; mark = inside.mark } in
    let said = c.in_ok-accept_edit.ensures in
    let stays = c.keep_present.ensures.items ∙ ap (λ (s : StateValue). filter (is_there s) inside.lagged.items) c.latest-3.ensures in
    let number = c.revision.ensures ∙ ap (λ (p : PublisherFacts). length (appended p)) said.ok ∙ revision_more inside.edits c.args.edit in
    accepted_so control c.accept_edit.new.list c.accept_edit.new.pending c.keep_present.new.sessions.items _ c.args.edit
    said.ok said.put stays (ap (λ (n : ℕ). Some (marks.Accepted n)) number)
    ∙ ap (λ (k : ControlFacts). accepted k c.args.edit) c.self.view_is
