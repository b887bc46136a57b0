-- What a drain makes of the outbox of its slot.
use Rattle.std.specs.Prelude.{◌≡◌, ◌==◌, ℕ, List, [], ◌∷◌, Option, Some, None, codes, decimal, filter, map, not, take}
use Rattle.hex.specs.Hex.{encode_lower}
use Rattle.mum_base.specs.declared.number.SessionId.{SessionId}
use Rattle.mum_frame.specs.Frame.{spelling_of}
use Rattle.mum_record.specs.declared.step.Step.{Step, TheVariants.Collect, TheVariants.Drain}
use Rattle.mum_core.specs.Core.{CoreState, connection_at, outbox_at, posts_at, up}
use Rattle.mum_core.specs.Step.{lines}
use Rattle.mum_core.specs.declared.{connection.Seat.Seat, outbox.Parcel.Parcel}

-- ---- one drain

-- nothing waited in the slot
pub record FindsNone (old : CoreState) (c : ℕ) (new : CoreState) : Type 0 where
  pub outboxes : new.outboxes ≡ old.outboxes
  pub counted : new.totals ≡ old.totals
  pub told : lines old (Drain c) ≡ (codes "empty" ∷ decimal c ∷ []) ∷ []

-- the oldest copy is gone, and what waited after it is left in its order; no other outbox changed
pub record IsWithout (old : CoreState) (seat : Seat) (rest : List Parcel) (new : CoreState) : Type 0 where
  pub left : outbox_at new seat.slot.0 ≡ rest
  pub others : (slot : ℕ) → (slot ≡ seat.slot.0 → ⊥) → outbox_at new slot ≡ outbox_at old slot

-- the copy comes on the wire of the connection, as the payload of a frame of type 1
pub record Tells (old : CoreState) (c : ℕ) (seat : Seat) (front : Parcel) (rest : List Parcel)
    (new : CoreState) : Type 0 where
  pub without : IsWithout old seat rest new
  pub counted : new.totals ≡ old.totals
  pub told : lines old (Drain c) ≡ (codes "wire" ∷ decimal c ∷ encode_lower (spelling_of 1 front.bytes) ∷ []) ∷ []

-- the copy is dropped, and counted as stale
pub record Drops (old : CoreState) (c : ℕ) (seat : Seat) (rest : List Parcel) (new : CoreState) : Type 0 where
  pub without : IsWithout old seat rest new
  pub counted : new.totals ≡ record old.totals { stale = up old.totals.stale }
  pub told : lines old (Drain c) ≡ (codes "stale" ∷ decimal c ∷ []) ∷ []

-- a copy is sent where it is for the session of the seat, and else dropped
abbrev pub Drains : CoreState → ℕ → Seat → List Parcel → CoreState → Type 0
Drains old c seat [] new = FindsNone old c new
Drains old c seat (front ∷ rest) new =
    (front.to.0 ≡ seat.session.0 → Tells old c seat front rest new)
    × ((front.to.0 ≡ seat.session.0 → ⊥) → Drops old c seat rest new)

-- ---- the drains of a run

-- the sessions for which the copies and the notices of a slot wait, the oldest first
abbrev pub copies_for : CoreState → ℕ → List SessionId
copies_for core slot = map (λ parcel. parcel.to) (outbox_at core slot)

abbrev pub notices_for : CoreState → ℕ → List SessionId
notices_for core slot = map (λ notice. notice.to) (posts_at core slot)

-- the first of these, where it is not that of the seat
abbrev pub strangers : Option Seat → (ℕ → List SessionId) → List SessionId
strangers None waiting = []
strangers (Some seat) waiting = filter (λ session. not (session.0 == seat.session.0)) (take 1 (waiting seat.slot.0))

-- the session of the copy or the notice that a step drops
abbrev pub dropped : CoreState → Step → List SessionId
dropped core (Drain c) = strangers (connection_at core c).seat (copies_for core)
dropped core (Collect c) = strangers (connection_at core c).seat (notices_for core)
dropped core step = []
