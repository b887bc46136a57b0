-- Spellings of a number: what is read is one, one is read whatever follows, and the shortest is one.
use Rattle.mum_fields.proofs.Common.{◌≡◌, ℕ, zero, suc, ◌+◌, ◌-◌, ◌*◌, ◌/◌, ◌%◌, ◌^◌, ◌<◌, ◌≤◌, Bool, true, false, cond, ltb, List, [], ◌∷◌, ◌++◌, length, take, Result, Ok, Err, refl, sym, ap, subst, ◌∙◌, arith, append_assoc, add-one, le-ltb, lt-ltb, ltb-true, ltb-false, pow_more, FaultKind, BadVarint, SpellsWithin, IsVarint, above, varint_with, varint, shortest_with, shortest, AreOctets}

abbrev Found : Type 0
Found = Result (ℕ × ℕ) FaultKind

abbrev done : ℕ → ℕ → Found
done n used = Ok (n, used)

-- a number that is encoded at the front is read, whatever follows
pub varint_with-spelled : (more : ℕ) (bytes rest : List ℕ) (n : ℕ) → SpellsWithin more bytes n → varint_with more (bytes ++ rest) ≡ done n (length bytes)
varint_with-spelled more [] rest n h = absurd h
varint_with-spelled zero (b ∷ []) rest n h = rw (le-ltb 1 b h.0, h.1) refl
varint_with-spelled zero (b ∷ c ∷ bs) rest n h = absurd h
varint_with-spelled (suc more) (b ∷ []) rest n h = rw (lt-ltb b 128 h.0, h.1) refl
varint_with-spelled (suc more) (b ∷ c ∷ bs) rest n h =
    let test = le-ltb b 128 h.0 in
    let others = varint_with-spelled more (c ∷ bs) rest h.1.0 h.1.2 in
    let value : b - 128 + 128 * h.1.0 ≡ n = omega arith in
    rw (test, others, value) refl

pub record IsFound (more : ℕ) (bytes : List ℕ) (n used : ℕ) : Type 0 where
  pub within : used ≤ length bytes
  pub some : 0 < used
  pub spells : SpellsWithin more (take used bytes) n

number_of : Found → ℕ
number_of (Ok x) = x.0
number_of (Err kind) = 0

used_of : Found → ℕ
used_of (Ok x) = x.1
used_of (Err kind) = 0

pair-0 : {a b c d : ℕ} → done a b ≡ done c d → a ≡ c
unfolding number_of
pair-0 e = ap number_of e

pair-1 : {a b c d : ℕ} → done a b ≡ done c d → b ≡ d
unfolding used_of
pair-1 e = ap used_of e

-- what is read is encoded so
found_at_zero : (b : ℕ) (bs : List ℕ) (n used : ℕ) (test : Bool) → ltb 1 b ≡ test → cond test (Err BadVarint) (done b 1) ≡ done n used → IsFound zero (b ∷ bs) n used
found_at_zero b bs n used true is e = absurd cc
found_at_zero b bs n used false is e =
    let low = ltb-false 1 b is in
    subst (λ (u : ℕ). IsFound zero (b ∷ bs) n u) (pair-1 e) (record { within = omega arith; some = omega arith; spells = (low, sym (pair-0 e)) })

spells_more : (more b n : ℕ) (bs : List ℕ) (high : ℕ) → 128 ≤ b → n + 128 ≡ b + 128 * high → SpellsWithin more bs high → SpellsWithin (suc more) (b ∷ bs) n
spells_more more b n [] high top value h = absurd h
spells_more more b n (c ∷ bs) high top value h = (top, (high, value, h))

found_above : (more b : ℕ) (bs : List ℕ) (n used : ℕ) (r : Found) → 128 ≤ b → varint_with more bs ≡ r → ((m k : ℕ) → r ≡ done m k → IsFound more bs m k) → above (b - 128) r ≡ done n used → IsFound (suc more) (b ∷ bs) n used
found_above more b bs n used (Err kind) top is ih e = absurd cc
found_above more b bs n used (Ok x) top is ih e =
    let high = ih x.0 x.1 refl in
    let value : n + 128 ≡ b + 128 * x.0 = omega (arith, pair-0 e) in
    subst (λ (u : ℕ). IsFound (suc more) (b ∷ bs) n u) (pair-1 e) (record {
      within = omega (arith, high.within);
      some = omega arith;
      spells = spells_more more b n (take x.1 bs) x.0 top value high.spells;
    })

found_at_suc : (more b : ℕ) (bs : List ℕ) (n used : ℕ) (test : Bool) → ltb b 128 ≡ test → ((m k : ℕ) → varint_with more bs ≡ done m k → IsFound more bs m k) → cond test (done b 1) (above (b - 128) (varint_with more bs)) ≡ done n used → IsFound (suc more) (b ∷ bs) n used
found_at_suc more b bs n used true is ih e =
    let low = ltb-true b 128 is in
    subst (λ (u : ℕ). IsFound (suc more) (b ∷ bs) n u) (pair-1 e) (record { within = omega arith; some = omega arith; spells = (low, sym (pair-0 e)) })
found_at_suc more b bs n used false is ih e = found_above more b bs n used (varint_with more bs) (ltb-false b 128 is) refl ih e

pub varint_with-found : (more : ℕ) (bytes : List ℕ) (n used : ℕ) → varint_with more bytes ≡ done n used → IsFound more bytes n used
varint_with-found more [] n used e = absurd cc
varint_with-found zero (b ∷ bs) n used e = found_at_zero b bs n used (ltb 1 b) refl e
varint_with-found (suc more) (b ∷ bs) n used e = found_at_suc more b bs n used (ltb b 128) refl (varint_with-found more bs) e

-- ---- the shortest

pub shortest_with-last : (more n : ℕ) → n < 128 → shortest_with more n ≡ n ∷ []
shortest_with-last zero n h = refl
shortest_with-last (suc more) n h = rw lt-ltb refl

-- one byte of the shortest encoding is written, and the rest is still to be written
pub record Rest (n : ℕ) (out total : List ℕ) : Type 0 where
  pub more : ℕ
  pub below : n < 2 * 128 ^ more
  pub whole : out ++ shortest_with more n ≡ total

pub Rest-more : (n : ℕ) (out total : List ℕ) → 128 ≤ n → Rest n out total → Rest (n / 128) (out ++ (n % 128 + 128) ∷ []) total
Rest-more n out total top h = by_more h.more h.below h.whole
  where
    by_more : (more : ℕ) → n < 2 * 128 ^ more → out ++ shortest_with more n ≡ total → Rest (n / 128) (out ++ (n % 128 + 128) ∷ []) total
    by_more zero below whole = absurd (omega arith)
    by_more (suc more) below whole =
        let power : 128 ^ suc more ≡ 128 ^ more * 128 = rw add-one at (pow_more 128 more) in
        let test = le-ltb n 128 top in
        record { more = more; below = omega arith; whole = append_assoc out ((n % 128 + 128) ∷ []) (shortest_with more (n / 128)) ∙ rw test at whole }

pub Rest-whole : (n : ℕ) (out : List ℕ) → n < 2 ^ 64 → Rest n out (out ++ shortest n)
unfolding shortest
Rest-whole n out below = record { more = 9; below = below; whole = refl }

-- the shortest encoding is an encoding
pub shortest_with-spells : (more n : ℕ) → n < 2 * 128 ^ more → SpellsWithin more (shortest_with more n) n
shortest_with-spells zero n below = (omega arith, refl)
shortest_with-spells (suc more) n below = by_test (ltb n 128) refl (shortest_with-spells more (n / 128))
  where
    by_test : (test : Bool) → ltb n 128 ≡ test → (n / 128 < 2 * 128 ^ more → SpellsWithin more (shortest_with more (n / 128)) (n / 128)) → SpellsWithin (suc more) (cond test (n ∷ []) ((n % 128 + 128) ∷ shortest_with more (n / 128))) n
    by_test true is others = (ltb-true n 128 is, refl)
    by_test false is others =
        let power : 128 ^ suc more ≡ 128 ^ more * 128 = rw add-one at (pow_more 128 more) in
        let top = ltb-false n 128 is in
        spells_more more (n % 128 + 128) n (shortest_with more (n / 128)) (n / 128) (omega arith) (omega arith) (others (omega arith))

pub shortest-is_varint : (n : ℕ) → n < 2 ^ 64 → IsVarint (shortest n) n
unfolding IsVarint shortest
shortest-is_varint n below = shortest_with-spells 9 n below

-- and no encoding has fewer bytes
shortest_with-least : (more n : ℕ) (bytes : List ℕ) → AreOctets bytes → SpellsWithin more bytes n → length (shortest_with more n) ≤ length bytes
shortest_with-least more n [] fit h = absurd h
shortest_with-least zero n (b ∷ bs) fit h = omega arith
shortest_with-least (suc more) n (b ∷ []) fit h = rw (shortest_with-last (suc more) n (omega arith)) (omega arith)
shortest_with-least (suc more) n (b ∷ c ∷ bs) fit h =
    let high : n / 128 ≡ h.1.0 = omega (arith, h.0, h.1.1, fit.0) in
    by_test (ltb n 128) refl (rw (← high) at (shortest_with-least more h.1.0 (c ∷ bs) fit.1 h.1.2))
  where
    by_test : (test : Bool) → ltb n 128 ≡ test → length (shortest_with more (n / 128)) ≤ length (c ∷ bs) → length (cond test (n ∷ []) ((n % 128 + 128) ∷ shortest_with more (n / 128))) ≤ length (b ∷ c ∷ bs)
    by_test true is others = omega arith
    by_test false is others = omega arith

pub shortest-least : (n : ℕ) (bytes : List ℕ) → AreOctets bytes → IsVarint bytes n → length (shortest n) ≤ length bytes
unfolding IsVarint shortest
shortest-least n bytes fit h = shortest_with-least 9 n bytes fit h

-- ---- the whole varint

pub varint-spelled : (bytes rest : List ℕ) (n : ℕ) → IsVarint bytes n → varint (bytes ++ rest) ≡ done n (length bytes)
unfolding IsVarint varint
varint-spelled bytes rest n h = varint_with-spelled 9 bytes rest n h

pub record IsVarintFound (bytes : List ℕ) (n used : ℕ) : Type 0 where
  pub within : used ≤ length bytes
  pub some : 0 < used
  pub is : IsVarint (take used bytes) n

pub varint-found : (bytes : List ℕ) (n used : ℕ) → varint bytes ≡ done n used → IsVarintFound bytes n used
unfolding IsVarint varint
varint-found bytes n used e = let found = varint_with-found 9 bytes n used e in record { within = found.within; some = found.some; is = found.spells }
