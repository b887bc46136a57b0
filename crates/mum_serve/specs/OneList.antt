-- What the workers of a server saw and learnt, and what was published and accepted.
use mathlib.Core.List.{IsPrefix}
use Rattle.std.specs.List.{AllByRecursion}
use Rattle.std.specs.Prelude.{List}
use Rattle.mum_published.specs.Facts.{PassFacts, PublisherFacts}
use Rattle.mum_worker.specs.Facts.{WorkerFacts}

-- what a pass saw and what it learnt are beginnings of what this publisher published, and the logins of which it learnt
-- are a beginning of its roll
pub record IsWithin (publisher : PublisherFacts) (pass : PassFacts) : Type 0 where
  pub seen : IsPrefix pass.seen publisher.published
  pub known : IsPrefix pass.known publisher.published
  pub roll : IsPrefix pass.roll publisher.roll

-- so it is with the passes of these workers
abbrev pub AreWithin : {L : Type 0} → PublisherFacts → List (WorkerFacts L) → Type 0
AreWithin {L} publisher workers =
    AllByRecursion (λ (worker : WorkerFacts L). IsWithin publisher worker.common.router.pass) workers
