-- Where a server begins: a published state, and the passes of it.
use Rattle.std.specs.Prelude.{◌≡◌, ◌+◌, ◌<◌, ◌≤◌, [], length, Option}
use Rattle.std.specs.List.{All}
use Rattle.mum_state.specs.Proper.{IsProper}
use Rattle.mum_published.specs.{Calls.IsFresh, Calls.appended, Calls.latest, Facts.PublisherFacts}
use Rattle.mum_kept.specs.declared.rows.KeptRows.{KeptRows}
use Rattle.mum_serve.specs.{Asked.service, Stores.store_passes, Views.passes_for}
use Rattle.mum_serve.specs.declared.{asked.Asked.Asked, start.Beginning.Beginning}

-- nothing was published or appended yet, the state is that of the publisher, and there is a fresh pass for each worker, for
-- the viewer, where views are asked for, and for the store, where the keeper gave rows
pub record Begins (publisher : PublisherFacts) (asked : Asked) (rows : Option KeptRows)
    (beginning : Beginning) : Type 0 where
  pub state : beginning.state ≡ latest publisher
  pub fresh : appended publisher ≡ []
  pub pending : publisher.pending ≡ []
  pub no_login : publisher.roll ≡ []
  pub proper : IsProper publisher.opening.state
  pub passes : All (IsFresh publisher.opening) beginning.passes.items
  pub one_each : length beginning.passes.items ≡ beginning.workers + passes_for (service asked).view + store_passes rows
  pub some : 0 < beginning.workers
  pub few : beginning.workers ≤ 8
