-- What contracts see of a router, as plain data.
use Rattle.std.specs.Prelude.{List}
use Rattle.mum_outbox.specs.Facts.{PassFacts as BoxFacts}
use Rattle.mum_record.specs.declared.journal.Marked.{Marked}
use Rattle.mum_route.specs.declared.hearer.Hearer.{Hearer}
use Rattle.mum_published.specs.Facts.{PassFacts}
use Rattle.mum_cache.specs.declared.caches.Caches.{Caches}
use Rattle.mum_parcel.specs.Facts.{VoiceFacts}

-- the pass that looks, what is kept of its answers, who hears the packet of the last look, the pass of the voice box of
-- each slot, and what became of the copies of the last route
pub record RouterFacts : Type 0 where
  pub pass : PassFacts
  pub caches : Caches
  pub hearers : List Hearer
  pub outs : List (BoxFacts VoiceFacts)
  pub marks : List Marked
