-- What it takes to decide a control entry.
use Rattle.mum_recording_laws.proofs.Common.{◌≡◌, ℕ, List, [], ◌∷◌, ◌++◌, length, AllZip, ControlEntry, Step, CoreState, worker_at, IsRun, gathered, ran, after_entry, Past, AreOrderly, IsDecided, decided, routed}
use Rattle.mum_recording_laws.proofs.{Moving.Alike, Resting.Ready}

-- what a control entry leaves
pub record Done (n : ℕ) (place : ℕ → ℕ) (core : CoreState) (past : Past) (earlier : List ControlEntry) (entry : ControlEntry) : Type 0 where
  pub steps : List Step
  pub allowed : IsRun core steps
  pub ready : Ready n place (ran core steps) (after_entry past entry) (earlier ++ entry ∷ [])
  pub decides : AllZip IsDecided (entry ∷ []) (gathered decided core steps)
  pub silent : (w : ℕ) → gathered (routed w) core steps ≡ []
  pub orderly : AreOrderly core steps
  pub crew : length (ran core steps).workers ≡ length core.workers
  pub alike : (w : ℕ) → Alike (worker_at core w) (worker_at (ran core steps) w)
