-- A step that changes one connection, and when it is allowed.
use Rattle.mum_recording_laws.proofs.Common.{◌≡◌, ℕ, ◌-◌, ◌≤◌, ◌<◌, ◌&&◌, ◌||◌, Bool, true, false, cond, List, [], length, Option, Some, None, refl, sym, ap, ◌∙◌, arith, is_some, nat_lt, not, slice_index_or, false≢true, lt-ltb, ltb-false, get_or_past, Frame, Connection, Outgoing, fresh, is_untold, CoreState, at_connection, connection_at, is_opened, worker_at, changed_at, illegal, HeldPacket, WorkerState, in_hand, length-changed}
use Rattle.mum_recording_laws.proofs.Sitting.{changed_apart, changed_here}

-- ---- one connection changes

pub record Moves (c : ℕ) (change : Connection → Connection) (old new : CoreState) : Type 0 where
  pub own : connection_at new c ≡ change (connection_at old c)
  pub other : (d : ℕ) → (d ≡ c → ⊥) → connection_at new d ≡ connection_at old d
  pub many : length new.connections ≡ length old.connections

pub stays_so : (c : ℕ) (core : CoreState) → Moves c (λ x. x) core core
stays_so c core = record { own = refl; other = λ d apart. refl; many = refl }

pub moves_on : (c : ℕ) (one two : Connection → Connection) (old mid new : CoreState) → Moves c one old mid → Moves c two mid new → Moves c (λ x. two (one x)) old new
moves_on c one two old mid new first later = record {
  own = later.own ∙ ap two first.own;
  other = λ d apart. later.other d apart ∙ first.other d apart;
  many = later.many ∙ first.many;
}

pub moves_at : (c : ℕ) (change : Connection → Connection) (old new : CoreState) → is_opened old c ≡ true → new.connections ≡ (at_connection c change old).connections
    → Moves c change old new
moves_at c change old new opened same = record {
  own = at c ∙ changed_here old c change opened;
  other = λ d apart. at d ∙ changed_apart old c d change apart;
  many = ap (λ (xs : List Connection). length xs) same ∙ from (nat_lt 0 c);
}
  where
    at : (d : ℕ) → connection_at new d ≡ connection_at (at_connection c change old) d
    at d = ap (λ (xs : List Connection). cond (nat_lt 0 d) (slice_index_or xs (d - 1) (fresh 0)) (fresh 0)) same

    from : (b : Bool) → length (cond b (changed_at (c - 1) change old.connections) old.connections) ≡ length old.connections
    from true = length-changed old.connections (c - 1) change
    from false = refl

-- ---- which connections there are

pub opened_at : (core : CoreState) (c n : ℕ) → length core.connections ≡ n → 0 < c → c ≤ n → is_opened core c ≡ true
opened_at core c n many first within =
    let one : nat_lt 0 c ≡ true = lt-ltb 0 c first in
    let two : nat_lt (c - 1) (length core.connections) ≡ true = lt-ltb (c - 1) (length core.connections) (omega (arith, many, first, within)) in
    rw (one, two) refl

pub still_opened : (old new : CoreState) (c : ℕ) → length new.connections ≡ length old.connections → is_opened old c ≡ true → is_opened new c ≡ true
still_opened old new c many opened = ap (λ (n : ℕ). nat_lt 0 c && nat_lt (c - 1) n) many ∙ opened

pub unopened : (core : CoreState) (c : ℕ) → is_opened core c ≡ false → connection_at core c ≡ fresh 0
unopened core c is = from (nat_lt 0 c) (nat_lt (c - 1) (length core.connections)) refl is
  where
    from : (a b : Bool) → nat_lt (c - 1) (length core.connections) ≡ b → (a && b) ≡ false → cond a (slice_index_or core.connections (c - 1) (fresh 0)) (fresh 0) ≡ fresh 0
    from false b past none = refl
    from true true past none = absurd (false≢true (sym none))
    from true false past none = get_or_past core.connections (c - 1) (fresh 0) (ltb-false (c - 1) (length core.connections) past)

-- ---- a case that does not apply

pub passed : (b : Bool) (numbers : ℕ × ℕ) (rest : Option (ℕ × ℕ)) → b ≡ false → rest ≡ None → cond b (Some numbers) rest ≡ None
passed true numbers rest off none = cc
passed false numbers rest off none = none

-- ---- a worker with nothing in hand, that was reported of no revision above this one

pub record IsFree (most : ℕ) (worker : WorkerState) : Type 0 where
  pub held : worker.held ≡ None
  pub copies : worker.copies ≡ []
  pub told : worker.told ≤ most

no_hands : (most : ℕ) (worker : WorkerState) → IsFree most worker → nat_lt 0 (in_hand worker) ≡ false
no_hands most worker free =
    ap (λ (o : Option HeldPacket). nat_lt 0 (cond (is_some o) 1 (length worker.copies))) free.held
    ∙ ap (λ (copies : List Outgoing). nat_lt 0 (length copies)) free.copies

-- more may be reported
pub free_more : (most more : ℕ) (worker : WorkerState) → most ≤ more → IsFree most worker → IsFree more worker
free_more most more worker low free = let told = free.told in record { held = free.held; copies = free.copies; told = omega (arith, low, told) }

-- a worker that was at most notified of something
pub record Alike (old new : WorkerState) : Type 0 where
  pub held : new.held ≡ old.held
  pub copies : new.copies ≡ old.copies
  pub seen : new.seen ≡ old.seen

pub alike_itself : (worker : WorkerState) → Alike worker worker
alike_itself worker = record { held = refl; copies = refl; seen = refl }

-- ---- a connection of which a frame may be taken

pub record IsOpen (x : Connection) : Type 0 where
  pub closed : x.closed ≡ None
  pub waiting : x.waiting ≡ None
  pub decided : x.decided ≡ None

pub frame_allowed : (core : CoreState) (most c : ℕ) (bytes : List ℕ) → is_opened core c ≡ true → IsOpen (connection_at core c) → IsFree most (worker_at core (connection_at core c).worker)
    → illegal core (Frame c bytes) ≡ None
frame_allowed core most c bytes opened is free =
    passed (not (is_opened core c)) _ _ (ap not opened)
    (passed (is_some (connection_at core c).closed) _ _ (ap (λ (o : Option ℕ). is_some o) is.closed)
    (passed (is_untold (connection_at core c)) _ _ untold
    (passed (nat_lt 0 (in_hand (worker_at core (connection_at core c).worker))) _ _ (no_hands most (worker_at core (connection_at core c).worker) free) refl)))
  where
    untold : is_untold (connection_at core c) ≡ false
    untold = ap (λ o. is_some o || is_some (connection_at core c).decided) is.waiting ∙ ap (λ o. is_some o) is.decided
