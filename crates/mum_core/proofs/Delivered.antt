-- What a delivery leaves as it was.
use Rattle.mum_core.proofs.Common.{ℕ, Bool, true, false, cond, Option, Some, None, Seat, CoreState, Delivery, Queues, does_from, is_for, takes, with_stale}

-- a fact of the core, and of the core without the oldest in a slot, one counted as stale or not, holds after a delivery
pub delivered : (holds : CoreState → Type 0) (queues : Queues) (core : CoreState) (seat : Option Seat) → holds core
    → ((slot : ℕ) → holds (queues.without slot core)) → ((slot : ℕ) → holds (with_stale (queues.without slot core))) → holds (does_from queues core seat)
delivered holds queues core None same own stale = same
delivered holds queues core (Some seat) same own stale = from (queues.oldest core seat.slot.0)
  where
    by_session : (b : Bool) → holds (cond b (queues.without seat.slot.0 core) (with_stale (queues.without seat.slot.0 core)))
    by_session true = own seat.slot.0
    by_session false = stale seat.slot.0

    from : (oldest : Option Delivery) → holds (takes queues core seat oldest)
    from None = same
    from (Some one) = by_session (is_for one.to seat)
