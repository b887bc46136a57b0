-- The bell of a store as whoever publishes sees it, as plain data, and what is offered to it.
use Rattle.std.specs.Prelude.{◌≡◌, ℕ, Bool, true, false, List, [], ◌∷◌, ◌++◌, map, Option, Some, None, MatchBool}
use Rattle.std.specs.Option.{option_map, option_map_or}
use Rattle.mum_outbox.specs.{Calls.one_more, Facts.PassFacts, Facts.QueueFacts, Facts.QueueId}
use Rattle.mum_published.specs.Facts.{NoteFacts}
use Rattle.mum_keeper.specs.Bell.{NoMore, Noted, Ring, ring_of}
use Rattle.mum_keeper.specs.declared.item.StoreItem.{StoreItem}

-- which queue the bell is, what was put into it, in order, how often it was found full, and whether it took that no note
-- comes any more
pub record ArchiveFacts : Type 0 where
  pub queue : QueueId
  pub put : List Ring
  pub full : ℕ
  pub is_told : Bool

-- nothing yet was put into this queue
abbrev pub new_archive : QueueId → ArchiveFacts
new_archive queue = record { queue = queue; put = []; full = 0; is_told = false }

-- which queue the bell of a store is, where there is one
abbrev pub queue_of : Option QueueFacts → Option QueueId
queue_of store = option_map (λ (bell : QueueFacts). bell.queue) store

abbrev pub archive_facts : {N : Type 0} → PassFacts (StoreItem N) → Bool → ArchiveFacts
archive_facts pass is_told =
    record { queue = pass.queue; put = map ring_of pass.offered; full = pass.full; is_told = is_told }

-- ---- one bell

abbrev pub with_put : Ring → ArchiveFacts → ArchiveFacts
with_put ring side = record side { put = side.put ++ ring ∷ [] }

-- it was found full once more
abbrev pub with_full : ArchiveFacts → ArchiveFacts
with_full side = record side { full = one_more side.full }

-- an item is offered once: it is the last that was put, or the bell was found full once more
abbrev pub OffersRing : Ring → ArchiveFacts → Bool → ArchiveFacts → Type 0
OffersRing ring old took new = MatchBool took (new ≡ with_put ring old) (new ≡ with_full old)

-- that no note comes any more is offered once, unless the bell took it before
abbrev pub TellsEnd : ArchiveFacts → Bool → ArchiveFacts → Type 0
TellsEnd old took new =
    MatchBool old.is_told ((took ≡ false) × (new ≡ old))
    (MatchBool took (new ≡ record (with_put NoMore old) { is_told = true }) (new ≡ with_full old))

-- ---- the bell of a store, where there is one

-- a note is offered once
abbrev pub OffersNote : NoteFacts → Option ArchiveFacts → Bool → Option ArchiveFacts → Type 0
OffersNote note None took new = (took ≡ false) × (new ≡ None)
OffersNote note (Some old) took new = (side : ArchiveFacts) × (new ≡ Some side) × OffersRing (Noted note) old took side

-- that no note comes any more is offered once, unless the bell took it before
abbrev pub TellsStore : Option ArchiveFacts → Bool → Option ArchiveFacts → Type 0
TellsStore None took new = (took ≡ false) × (new ≡ None)
TellsStore (Some old) took new = (side : ArchiveFacts) × (new ≡ Some side) × TellsEnd old took side

-- the bell took that no note comes any more, where there is one
abbrev pub is_archive_told : Option ArchiveFacts → Bool
is_archive_told archive = option_map_or (λ (side : ArchiveFacts). side.is_told) archive true
