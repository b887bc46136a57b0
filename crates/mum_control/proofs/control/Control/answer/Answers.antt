use Rattle.mum_control.proofs.Common.{◌∙◌, List, Option, ap, subst, sym, IsTrue, is_none, vec_capacity, Login, NoteFacts, ReplyFacts, is_admitted, Publishes, ControlFacts}
use Rattle.mum_control.proofs.{Keeping.kept_publishing, Keeping.note_named, Settling.none_so, Settling.roll_left}
use Rattle.mum_control.proofs.control.Control.answer.Goals as goal

pub new-requires-clause-note : goal.new-requires-clause-note
new-requires-clause-note g c =
    note_named g.N.Naming.opening c.self.inside.edits c.publish_noted-note.new.self c.publish_noted-note.result c.self.invariant.same_opening c.publish_noted-note.ensures

pub new-requires-clause-admitted : goal.new-requires-clause-admitted
new-requires-clause-admitted g c =
    subst (λ (roll : List Login). IsTrue (is_admitted c.args.end c.args.connection roll)) (sym c.roll-roll.ensures.log) c.requires

pub invariant_of-self : goal.invariant_of-self
invariant_of-self g c =
    let inside = c.self.inside in
    kept_publishing g.N.Naming.opening inside.edits c.publish_noted-note.new.self inside.posts.items inside.pending inside.lagged.items (vec_capacity inside.lagged)
    c.publish_noted-note.result c.self.invariant c.publish_noted-note.ensures

pub returns-clause-published : goal.returns-clause-published
returns-clause-published g c =
    subst (λ (old : ControlFacts). Publishes old.publisher c.new.result.note c.publish_noted-note.new.self) c.self.view_is
    (subst (λ (note : Option NoteFacts). Publishes c.self.inside.edits note c.publish_noted-note.new.self) (sym (ap (λ (r : ReplyFacts). r.note) c.new.ensures)) c.publish_noted-note.ensures)

pub returns-clause-others : goal.returns-clause-others
returns-clause-others g c = ap (λ (old : ControlFacts). record old { publisher = c.publish_noted-note.new.self }) c.self.view_is

pub returns-clause-no_memory : goal.returns-clause-no_memory
returns-clause-no_memory g c =
    ap (λ (r : ReplyFacts). r.no_memory) c.new.ensures ∙ none_so c.publish_noted-note.result c.is_none-no_memory.result c.is_none-no_memory.ensures ∙ ap is_none (sym (ap (λ (r : ReplyFacts). r.note) c.new.ensures))

pub returns-clause-roll : goal.returns-clause-roll
returns-clause-roll g c =
    ap (λ (r : ReplyFacts). r.roll) c.new.ensures ∙ c.roll-roll.ensures.log ∙ sym (ap (λ (k : ControlFacts). k.publisher.roll) c.self.view_is)
    ∙ roll_left c.self.inside.edits c.publish_noted-note.new.self c.publish_noted-note.result c.publish_noted-note.ensures
