use Rattle.mum_control.proofs.Common.{◌≡◌, ◌∙◌, IfOk, ap, subst, result_ok, vec_capacity, on_err_weaker, on_ok_weaker, all_published, PublisherFacts, note_of, ControlFacts}
use Rattle.mum_control.proofs.{Keeping.kept_publishing, Settling.publishes_so}
use Rattle.mum_control.proofs.control.Control.publish.Goals as goal

pub invariant_of-self : goal.invariant_of-self
invariant_of-self g c =
    let inside = c.self.inside in
    let said = c.publish.ensures in
    kept_publishing g.N.Naming.opening inside.edits c.publish.new.self inside.posts.items inside.pending inside.lagged.items (vec_capacity inside.lagged)
    (result_ok c.publish.result) c.self.invariant (publishes_so c.publish.result inside.edits c.publish.new.self said.ok said.err said.note)

pub returns-clause-ok : goal.returns-clause-ok
returns-clause-ok g c =
    let inside = c.self.inside in
    on_ok_weaker c.publish.result (λ published.
    ap (λ (p : PublisherFacts). let k : ControlFacts = record { publisher = p; posts = inside.posts.items; pending = inside.pending; lagged = inside.lagged.items; mark = inside.mark } in k) published
    ∙ ap (λ (k : ControlFacts). record k { publisher = all_published k.publisher }) c.self.view_is) c.publish.ensures.ok

pub returns-clause-err : goal.returns-clause-err
returns-clause-err g c =
    let inside = c.self.inside in
    on_err_weaker c.publish.result (λ same.
    ap (λ (p : PublisherFacts). let k : ControlFacts = record { publisher = p; posts = inside.posts.items; pending = inside.pending; lagged = inside.lagged.items; mark = inside.mark } in k) same
    ∙ c.self.view_is) c.publish.ensures.err

pub returns-clause-note : goal.returns-clause-note
returns-clause-note g c =
    subst (λ (k : ControlFacts). IfOk c.publish.result (λ note. note ≡ note_of k.publisher)) c.self.view_is c.publish.ensures.note
