-- A port made its step, and what came with the parcels that it took was learnt.
use Rattle.mum_worker.proofs.CommonNames.{◌≡◌, Option, Some, None, ap, subst, ForSome, LinkFacts, PortFacts, HasTaken, PassesFacts, told_by, NoteFacts, Opening, RouterFacts, BoxesFacts, LearnsGiven, CommonFacts, MakesStep, PortSteps, Shares}

-- the note that a port kept is of its ledger
pub told_named : (opening : Opening) (passes : Option PassesFacts) → HasTaken opening passes
    → ForSome (told_by passes) (λ (note : NoteFacts). note.book ≡ opening.book)
told_named opening None taken = λ note is. absurd cc
told_named opening (Some passes) taken = taken.book

pub learnt_too : {L : Type 0} (facts : L → LinkFacts) (opening : Opening) (boxes : BoxesFacts) (old : PortFacts L) (before : Shares) (new : PortFacts L) (mid : Shares) (router : RouterFacts)
    → MakesStep facts opening boxes old before new mid → HasTaken opening new.passes → LearnsGiven (told_by new.passes) mid.common.router router
    → PortSteps facts opening boxes old before new (record mid { common = record mid.common { router = router } })
learnt_too facts opening boxes old before new mid router made taken learns = record {
  step = made.step;
  routed = made.routed;
  chain = made.chain;
  turned = made.turned;
  taken = taken;
  learns = subst (λ (was : RouterFacts). LearnsGiven (told_by new.passes) was router) (ap (λ (c : CommonFacts). c.router) made.noted) learns;
  noted = ap (λ (c : CommonFacts). record c { router = router }) made.noted;
  worked = made.worked;
}
