-- Runs one after the other.
use Rattle.mum_recording_laws.proofs.Common.{◌≡◌, List, [], ◌∷◌, ◌++◌, refl, sym, ap, ◌∙◌, append_assoc, Step, CoreState, IsRun, gathered, ran, does, AreOrderly}

pub run_joined : (core : CoreState) (one two : List Step) → IsRun core one → IsRun (ran core one) two → IsRun core (one ++ two)
run_joined core [] two first second = second
run_joined core (step ∷ one) two first second = (first.0, run_joined (does core step) one two first.1 second)

pub orderly_joined : (core : CoreState) (one two : List Step) → AreOrderly core one → AreOrderly (ran core one) two → AreOrderly core (one ++ two)
orderly_joined core [] two first second = second
orderly_joined core (step ∷ one) two first second = (first.0, orderly_joined (does core step) one two first.1 second)

pub ran_joined : (core : CoreState) (one two : List Step) → ran core (one ++ two) ≡ ran (ran core one) two
ran_joined core [] two = refl
ran_joined core (step ∷ one) two = ran_joined (does core step) one two

pub gathered_joined : {A : Type 0} (adds : CoreState → Step → List A) (core : CoreState) (one two : List Step) → gathered adds core (one ++ two) ≡ gathered adds core one ++ gathered adds (ran core one) two
gathered_joined adds core [] two = refl
gathered_joined adds core (step ∷ one) two =
    ap (λ xs. adds core step ++ xs) (gathered_joined adds (does core step) one two) ∙ sym (append_assoc (adds core step) (gathered adds (does core step) one) (gathered adds (ran (does core step) one) two))
