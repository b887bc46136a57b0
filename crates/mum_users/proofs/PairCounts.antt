-- How many pairs pass a test once a pair is put in.
use Rattle.mum_users.proofs.Common.{◌≡◌, ℕ, ◌+◌, Bool, true, false, cond, List, [], ◌∷◌, refl, ap, arith, count_by, list_any, ListenerPair, BySession, pair_below, with_pair, IsBelowAll, Rises, is_pair}
use Rattle.mum_users.proofs.{Counts.count_by-cons, Orders.IsBelowAll-through, Pairs.above_is_other, Pairs.below_is_other, Pairs.pair_other_way, Pairs.pair_through}

none_above : (new : ListenerPair) (pairs : List ListenerPair) → IsBelowAll pair_below new pairs → list_any (is_pair new.session new.channel) pairs ≡ false
none_above new [] all = refl
none_above new (pair ∷ pairs) all = rw (above_is_other BySession new pair all.0) (none_above new pairs all.1)

-- a pair that is not there is one more
pub count-put : (p : ListenerPair → Bool) (new : ListenerPair) (pairs : List ListenerPair) → p new ≡ true → Rises pair_below pairs → count_by p (with_pair pair_below new pairs) ≡ count_by p pairs + cond (list_any (is_pair new.session new.channel) pairs) 0 1
count-put p new [] here rise = omega (arith, count_by-cons p new [], ap (λ (b : Bool). cond {A = ℕ} b 1 0) here)
count-put p new (pair ∷ pairs) here rise = split (pair_below pair new) (is_pair new.session new.channel pair) refl refl (count-put p new pairs here rise.1)
  where
    split : (b s : Bool) → pair_below pair new ≡ b → is_pair new.session new.channel pair ≡ s → count_by p (with_pair pair_below new pairs) ≡ count_by p pairs + cond (list_any (is_pair new.session new.channel) pairs) 0 1
        → count_by p (with_pair pair_below new (pair ∷ pairs)) ≡ count_by p (pair ∷ pairs) + cond (list_any (is_pair new.session new.channel) (pair ∷ pairs)) 0 1
    split true s e f rest =
        let other : is_pair new.session new.channel pair ≡ false = below_is_other BySession new pair e in
        rw (e, other) (omega (arith, rest, count_by-cons p pair pairs, count_by-cons p pair (with_pair pair_below new pairs)))
    split false true e f rest = rw (e, f) (omega arith)
    split false false e f rest =
        let lower = pair_other_way BySession new pair f e in
        let none : list_any (is_pair new.session new.channel) pairs ≡ false = none_above new pairs (IsBelowAll-through pair_below (pair_through BySession) new pair pairs lower rise.0) in
        rw (e, f, none) (omega (arith, count_by-cons p new (pair ∷ pairs), ap (λ (b : Bool). cond {A = ℕ} b 1 0) here))

pub count-put_other : (p : ListenerPair → Bool) (new : ListenerPair) (pairs : List ListenerPair) → p new ≡ false → count_by p (with_pair pair_below new pairs) ≡ count_by p pairs
count-put_other p new [] other = omega (arith, count_by-cons p new [], ap (λ (b : Bool). cond {A = ℕ} b 1 0) other)
count-put_other p new (pair ∷ pairs) other = split (pair_below pair new) (is_pair new.session new.channel pair) refl refl (count-put_other p new pairs other)
  where
    split : (b s : Bool) → pair_below pair new ≡ b → is_pair new.session new.channel pair ≡ s → count_by p (with_pair pair_below new pairs) ≡ count_by p pairs → count_by p (with_pair pair_below new (pair ∷ pairs)) ≡ count_by p (pair ∷ pairs)
    split true s e f rest = rw e (omega (arith, rest, count_by-cons p pair pairs, count_by-cons p pair (with_pair pair_below new pairs)))
    split false true e f rest = rw (e, f) refl
    split false false e f rest = rw (e, f) (omega (arith, count_by-cons p new (pair ∷ pairs), ap (λ (b : Bool). cond {A = ℕ} b 1 0) other))

pub count-put_new : (p : ListenerPair → Bool) (new : ListenerPair) (pairs : List ListenerPair) → Rises pair_below pairs → list_any (is_pair new.session new.channel) pairs ≡ false → count_by p (with_pair pair_below new pairs) ≡ count_by p pairs + cond (p new) 1 0
count-put_new p new pairs rise absent = split (p new) refl
  where
    split : (b : Bool) → p new ≡ b → count_by p (with_pair pair_below new pairs) ≡ count_by p pairs + cond b 1 0
    split true e = omega (arith, count-put p new pairs e rise, ap (λ (b : Bool). cond {A = ℕ} b 0 1) absent)
    split false e = omega (arith, count-put_other p new pairs e)

-- a pair that is there changes nothing
pub listed-stays : (new : ListenerPair) (pairs : List ListenerPair) → Rises pair_below pairs → list_any (is_pair new.session new.channel) pairs ≡ true → with_pair pair_below new pairs ≡ pairs
listed-stays new [] rise there = cc
listed-stays new (pair ∷ pairs) rise there = split (pair_below pair new) (is_pair new.session new.channel pair) refl refl (listed-stays new pairs rise.1)
  where
    split : (b s : Bool) → pair_below pair new ≡ b → is_pair new.session new.channel pair ≡ s → (list_any (is_pair new.session new.channel) pairs ≡ true → with_pair pair_below new pairs ≡ pairs) → with_pair pair_below new (pair ∷ pairs) ≡ pair ∷ pairs
    split true s e f rest =
        let other : is_pair new.session new.channel pair ≡ false = below_is_other BySession new pair e in
        rw e (ap (λ ps. pair ∷ ps) (rest (rw other at there)))
    split false true e f rest = rw (e, f) refl
    split false false e f rest =
        let lower = pair_other_way BySession new pair f e in
        let none : list_any (is_pair new.session new.channel) pairs ≡ false = none_above new pairs (IsBelowAll-through pair_below (pair_through BySession) new pair pairs lower rise.0) in
        let absent : false ≡ true = rw (f, none) at there in
        cc
