-- Of the copies for a session that leave its slot's outbox, those that its own connection is sent.
use Rattle.mum_core.proofs.Common.{◌≡◌, ℕ, Bool, true, false, cond, List, [], ◌∷◌, Option, Some, None, refl, ap, subst, ◌∙◌, filter, ◌==◌, eqb-true, StateValue, Seat, Parcel, Version, Step, Open, Frame, Publish, Tell, Look, Offer, Post, Drain, Collect, Close, End, CoreState, start, connection_at, IsSubsequence, front, front_for, gathered, heard, own_front, removed, does}
use Rattle.mum_core.proofs.Subsequences.{parts_stand, stands_itself}
use Rattle.mum_record.specs.declared.step.Step.TheVariants as steps

-- where the seat is of the session, all that leaves the outbox for the session is sent
pub own_is_removed : (n : ℕ) (core : CoreState) (seat : Seat) → seat.session.0 ≡ n → own_front core (Some seat) ≡ filter (λ parcel. parcel.to.0 == n) (front core (Some seat))
own_is_removed n core seat same = ap (λ (k : ℕ). filter (λ parcel. parcel.to.0 == k) (front core (Some seat))) same

told_by : (n : ℕ) (core : CoreState) (seat : Seat) (b : Bool) → (seat.session.0 == n) ≡ b
    → IsSubsequence (cond b (own_front core (Some seat)) []) (filter (λ parcel. parcel.to.0 == n) (front core (Some seat)))
told_by n core seat true e =
    subst (λ (xs : List Parcel). IsSubsequence (own_front core (Some seat)) xs) (own_is_removed n core seat (eqb-true seat.session.0 n e)) (stands_itself (own_front core (Some seat)))
told_by n core seat false e = tt

told_from : (n : ℕ) (core : CoreState) (seat : Option Seat) → IsSubsequence (front_for n core seat) (filter (λ parcel. parcel.to.0 == n) (front core seat))
told_from n core None = tt
told_from n core (Some seat) = told_by n core seat (seat.session.0 == n) refl

heard_is_removed : (n : ℕ) (core : CoreState) (step : Step) → IsSubsequence (heard n core step) (removed n core step)
heard_is_removed n core (Open c w) = tt
heard_is_removed n core (Frame c bytes) = tt
heard_is_removed n core (steps.Edit c) = tt
heard_is_removed n core Publish = tt
heard_is_removed n core (Tell c revision) = tt
heard_is_removed n core (Look w revision) = tt
heard_is_removed n core (Offer w) = tt
heard_is_removed n core (Drain c) = told_from n core (connection_at core c).seat
heard_is_removed n core Post = tt
heard_is_removed n core (Collect c) = tt
heard_is_removed n core (Close c cause) = tt
heard_is_removed n core End = tt

all_heard : (n : ℕ) (core : CoreState) (run : List Step) → IsSubsequence (gathered (heard n) core run) (gathered (removed n) core run)
all_heard n core [] = tt
all_heard n core (step ∷ run) =
    parts_stand (heard n core step) (removed n core step) (gathered (heard n) (does core step) run) (gathered (removed n) (does core step) run)
    (heard_is_removed n core step) (all_heard n (does core step) run)

pub heard_is_of_removed : (version : Version) (opening : StateValue) (workers n : ℕ) (run : List Step) → IsSubsequence (gathered (heard n) (start version opening workers) run) (gathered (removed n) (start version opening workers) run)
heard_is_of_removed version opening workers n run = all_heard n (start version opening workers) run

other_by : (n : ℕ) (core : CoreState) (seat : Seat) (b : Bool) → (seat.session.0 == n) ≡ b → (seat.session.0 ≡ n → ⊥) → cond b (own_front core (Some seat)) [] ≡ []
other_by n core seat true e other = absurd (other (eqb-true seat.session.0 n e))
other_by n core seat false e other = refl

-- the connection of another session is sent none of them
pub others_hear_none : (core : CoreState) (n c : ℕ) (seat : Seat) → (connection_at core c).seat ≡ Some seat → (seat.session.0 ≡ n → ⊥) → heard n core (Drain c) ≡ []
others_hear_none core n c seat is other = ap (front_for n core) is ∙ other_by n core seat (seat.session.0 == n) refl other
