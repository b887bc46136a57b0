-- What the roles of a server came to.
use Rattle.std.specs.Prelude.{ℕ, ◌+◌, ◌-◌, ◌^◌, ◌||◌, false, min}
use Rattle.mum_router.specs.{Offering.copies_of, Offering.full_of, Picking.looks_of}
use Rattle.mum_worker.specs.Facts.{WorkerFacts}
use Rattle.mum_serve.specs.declared.totals.{Totals.Totals, WorkerTotals.WorkerTotals}

-- a sum of 64 bits that stays at its last value
abbrev pub sum_64 : ℕ → ℕ → ℕ
sum_64 a b = min (a + b) (2 ^ 64 - 1)

-- what nobody came to
abbrev pub nothing : WorkerTotals
nothing = record { looks = 0; copies = 0; full = 0; stale = 0; no_memory = false }

-- what a worker came to is added: its looks, the copies that it sent, those that found a full box, the parcels that were
-- for another session of their slot, and whether memory ran out
abbrev pub with_worker : {L : Type 0} → WorkerFacts L → WorkerTotals → WorkerTotals
with_worker worker totals = record {
  looks = sum_64 totals.looks (looks_of worker.common.router.pass);
  copies = sum_64 totals.copies (copies_of worker.common.router.outs);
  full = sum_64 totals.full (full_of worker.common.router.outs);
  stale = sum_64 totals.stale worker.common.kept.stale;
  no_memory = totals.no_memory || worker.common.kept.no_memory;
}

-- the totals of a server whose owner counted this many connections and edits
abbrev pub totals_of : ℕ → ℕ → WorkerTotals → Totals
totals_of connections accepted workers = record {
  connections = connections;
  accepted = accepted;
  looks = workers.looks;
  copies = workers.copies;
  full = workers.full;
  stale = workers.stale;
}
