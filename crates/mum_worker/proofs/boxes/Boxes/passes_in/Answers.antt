-- A slot whose boxes have numbers gets passes of them.
use Rattle.mum_worker.proofs.CommonNames.{None, subst, sym, PassesFacts, AreNewPasses, AreSameBoxes, BoxesFacts}
use Rattle.mum_worker.proofs.{Queues.boxes_given, Queues.boxes_kept, Queues.passes_given, boxes.Boxes.passes_in.Given.Over}
use Rattle.mum_worker.proofs.boxes.Boxes.passes_in.Goals as goal

abbrev after : (g : Over) → goal.After-new g → BoxesFacts
after g c = record { posts = c.pass_at-post.new.boxes.items; voices = c.pass_at-voice.new.boxes.items }

abbrev before : (g : Over) → goal.After-new g → BoxesFacts
before g c = record { posts = c.self.inside.posts.items; voices = c.self.inside.voices.items }

pub returns-clause-passes : goal.returns-clause-passes
returns-clause-passes g c =
    subst (λ (passes : PassesFacts). AreNewPasses c.args.self.now c.args.slot passes) (sym c.new.ensures)
    (subst (λ (b : BoxesFacts). AreNewPasses b c.args.slot (record { slot = c.args.slot; post = c.pass_at-post.result; voice = c.pass_at-voice.result; told = None })) c.self.view_is
    (passes_given (before g c) (after g c) c.args.slot c.from-place.result c.pass_at-post.result c.pass_at-voice.result c.from-place.ensures c.pass_at-post.ensures c.pass_at-voice.ensures))

pub returns-clause-same : goal.returns-clause-same
returns-clause-same g c =
    subst (λ (b : BoxesFacts). AreSameBoxes b (after g c)) c.self.view_is
    (boxes_given (before g c) (after g c) c.from-place.result c.pass_at-post.result c.pass_at-voice.result c.pass_at-post.ensures c.pass_at-voice.ensures)

pub returns-then-not-can_pass-clause-same : goal.returns-then-not-can_pass-clause-same
returns-then-not-can_pass-clause-same g c = boxes_kept c.args.self.now
