-- A worker works over what it was given.
use Rattle.mum_worker.proofs.CommonNames.{◌∙◌, List, ap, length, map, refl, length-map, lower_half, new_pass, QueueFacts}
use Rattle.mum_worker.proofs.worker.Worker.open.Goals as goal

pub open-requires-3-clause-boxes : goal.open-requires-3-clause-boxes
open-requires-3-clause-boxes g c = ap (λ (xs : List QueueFacts). length xs) c.in_ok-voice.ensures.owners ∙ length-map _ lower_half ∙ c.requires.voice

pub returns-clause-joins : goal.returns-clause-joins
returns-clause-joins g c = record {
  posts = refl;
  voices = c.in_ok-voice.ensures.shares;
  outs = c.in_ok-router.ensures.outs ∙ ap (λ (xs : List QueueFacts). map new_pass xs) c.in_ok-voice.ensures.owners;
  desk = c.new-3.ensures;
  bell = c.new-2.ensures;
}
