-- The document of an exercise has no fault, and the core begins at what it describes.
use Rattle.mum_exercise.proofs.Common.{◌≡◌, ◌∙◌, None, IfOk, ap, subst, One, StateValue, start, document_fault, opening, WORKERS}
use Rattle.mum_exercise.proofs.Documents.{document_good, document_read}
use Rattle.mum_exercise.proofs.exercise.core_at_opening.Goals as goal

pub open-requires : goal.open-requires
open-requires c = record { faultless = ap document_fault (c.as_bytes.ensures.value ∙ document_read) ∙ document_good }

pub returns-in_err-opening-clause-good : goal.returns-in_err-opening-clause-good
returns-in_err-opening-clause-good c = document_good

pub returns-clause-core : goal.returns-clause-core
returns-clause-core c =
    subst (λ (state : StateValue). IfOk c.begin.result (λ core. core ≡ start One state WORKERS))
    (c.in_ok-opening.ensures ∙ ap (opening None) (c.as_bytes.ensures.value ∙ document_read)) c.begin.ensures

pub returns-clause-good : goal.returns-clause-good
returns-clause-good c = document_good
