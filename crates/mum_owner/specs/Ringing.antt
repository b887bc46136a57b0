-- What is put into the bells of the workers.
use Rattle.std.specs.Prelude.{◌≡◌, ℕ, zero, suc, ◌%◌, ◌||◌, Bool, true, false, List, [], ◌∷◌, ◌++◌, length, slice_get, slice_set, Option, Some, None, MatchBool}
use Rattle.std.specs.List.{list_all}
use Rattle.mum_outbox.specs.Calls.{one_more}
use Rattle.mum_published.specs.Bell.{Rung}
use Rattle.mum_published.specs.Bell.Rung.{Answer, Comes, Lagging, NoMore}
use Rattle.mum_owner.specs.{Bell.SideFacts, Facts.KeptFacts}

-- ---- one bell

abbrev pub with_put : {L : Type 0} → Rung L → SideFacts L → SideFacts L
with_put item side = record side { put = side.put ++ item ∷ [] }

-- it was found full once more
abbrev pub with_full : {L : Type 0} → SideFacts L → SideFacts L
with_full side = record side { full = one_more side.full }

-- the bell is offered once that no more connections come, unless it took that before
abbrev pub Tells : {L : Type 0} → SideFacts L → Bool → SideFacts L → Type 0
Tells side took after =
    MatchBool side.is_told ((took ≡ false) × (after ≡ side))
    (MatchBool took (after ≡ record (with_put NoMore side) { is_told = true }) (after ≡ with_full side))

-- ---- the bell of a worker

-- the number of the worker to whom a connection belongs, where there are this many
abbrev pub worker_of : ℕ → ℕ → ℕ
worker_of zero workers = 0
worker_of (suc before) workers = before % workers

abbrev pub with_found : {A : Type 0} → List A → ℕ → (A → A) → Option A → List A
with_found xs place change None = xs
with_found xs place change (Some x) = slice_set xs place (change x)

abbrev pub changed_at : {A : Type 0} → ℕ → (A → A) → List A → List A
changed_at place change xs = with_found xs place change (slice_get xs place)

-- the bell of the connection's worker is changed so
abbrev pub at_worker : {L : Type 0} → ℕ → (SideFacts L → SideFacts L) → List (SideFacts L) → List (SideFacts L)
at_worker connection change bells = changed_at (worker_of connection (length bells)) change bells

-- what is kept for the worker of a connection is offered once to its bell, and is kept on where that is full
abbrev pub OffersOne : {L A : Type 0} → (A → ℕ) → (A → Rung L) → List (SideFacts L) → Option A → Bool
    → List (SideFacts L) → Option A → Type 0
OffersOne connection item bells None took after kept = (took ≡ false) × (after ≡ bells) × (kept ≡ None)
OffersOne connection item bells (Some one) true after kept =
    (after ≡ at_worker (connection one) (with_put (item one)) bells) × (kept ≡ None)
OffersOne connection item bells (Some one) false after kept =
    (after ≡ at_worker (connection one) with_full bells) × (kept ≡ Some one)

-- ---- each bell

-- each bell is offered once that no more connections come, unless it took that before; whether one took it now
abbrev pub TellsEach : {L : Type 0} → List (SideFacts L) → Bool → List (SideFacts L) → Type 0
TellsEach [] took [] = took ≡ false
TellsEach (side ∷ sides) took (after ∷ afters) =
    (one : Bool) × (rest : Bool) × Tells side one after × TellsEach sides rest afters × (took ≡ (one || rest))
TellsEach sides took afters = ⊥

-- each bell took that no more connections come
abbrev pub are_told : {L : Type 0} → List (SideFacts L) → Bool
are_told bells = list_all (λ side. side.is_told) bells

-- ---- what is kept

-- each item that is kept is offered once to its bell, the reply, the lag item and the connection in this order, and
-- where the bells are to be notified, each is offered that no more connections come
pub record OffersKept {L : Type 0} (bells : List (SideFacts L)) (kept : KeptFacts L) (is_ending took : Bool)
    (after : List (SideFacts L)) (left : KeptFacts L) : Type 0 where
  pub reply : Bool
  pub lag : Bool
  pub coming : Bool
  pub told : Bool
  pub after_reply : List (SideFacts L)
  pub after_lag : List (SideFacts L)
  pub after_coming : List (SideFacts L)
  pub offers_reply : OffersOne (λ reply. reply.connection) Answer bells kept.reply reply after_reply left.reply
  pub offers_lag : OffersOne (λ lag. lag.connection)
      (λ lag. Lagging lag.session) after_reply kept.lag lag after_lag left.lag
  pub offers_coming : OffersOne (λ coming. coming.connection)
      (λ coming. Comes coming.connection coming.link) after_lag kept.coming coming after_coming left.coming
  pub tells : MatchBool is_ending (TellsEach after_coming told after) ((told ≡ false) × (after ≡ after_coming))
  pub so : took ≡ (reply || (lag || (coming || told)))
