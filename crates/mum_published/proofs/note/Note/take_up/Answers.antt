use Rattle.mum_published.proofs.Common.{◌≡◌, ◌<◌, ◌≤◌, List, length, arith, ap, subst, sym, ◌∙◌, IsPrefix, Edit, TakesUp, NoteFacts}
use Rattle.mum_published.proofs.{Learning.takes_first, Learning.takes_second, note.Note.take_up.Goals.After-learn}
use Rattle.mum_published.proofs.note.Note.take_up.Goals as goal

-- what was learnt begins with the list of the note
mine : (c : After-learn) → IsPrefix c.args.self.now.edits c.learn.new.self.log
mine c = subst (λ (l : List Edit). IsPrefix l c.learn.new.self.log) c.prefix-both.ensures.log c.learn.ensures.2

-- and with that of the other one
its : (c : After-learn) → IsPrefix c.args.other.edits c.learn.new.self.log
its c = subst (λ (l : List Edit). IsPrefix l c.learn.new.self.log) (ap (λ (n : NoteFacts). n.edits) c.other.view_is) c.learn.ensures.3

pub returns-then-self-other : goal.returns-then-self-other
returns-then-self-other c =
    let own : c.self.inside.revision ≡ length c.args.self.now.edits = c.self.invariant ∙ ap (λ (n : NoteFacts). length n.edits) c.self.view_is in
    let other : c.other.inside.revision ≡ length c.args.other.edits = c.other.invariant ∙ ap (λ (n : NoteFacts). length n.edits) c.other.view_is in
    let more : c.self.inside.revision < c.other.inside.revision = c.if-self-other.true in
    subst (TakesUp c.args.self.now c.args.other) (sym c.other.view_is)
    (takes_second c.args.self.now c.args.other c.learn.new.self.log c.requires (mine (goal.at.returns-then-self-other c).After-learn) (its (goal.at.returns-then-self-other c).After-learn) (omega (arith, own, other, more)))

pub returns-else-self-other : goal.returns-else-self-other
returns-else-self-other c =
    let own : c.self.inside.revision ≡ length c.args.self.now.edits = c.self.invariant ∙ ap (λ (n : NoteFacts). length n.edits) c.self.view_is in
    let other : c.other.inside.revision ≡ length c.args.other.edits = c.other.invariant ∙ ap (λ (n : NoteFacts). length n.edits) c.other.view_is in
    let most : c.other.inside.revision ≤ c.self.inside.revision = c.if-self-other.false in
    takes_first c.args.self.now c.args.other c.learn.new.self.log (mine (goal.at.returns-else-self-other c).After-learn) (its (goal.at.returns-else-self-other c).After-learn) (omega (arith, own, other, most))
