-- How many links each channel has, counted link by link.
use Rattle.mum_kept.proofs.Common.{◌≡◌, ℕ, zero, suc, ◌+◌, ◌<◌, ◌≤◌, ◌==◌, ◌&&◌, ◌||◌, ltb, Bool, true, false, cond, List, [], ◌∷◌, length, take, get_or, Option, Some, refl, sym, ap, subst, ◌∙◌, arith, IsTrue, ◌↔◌, nat_eq, unwrap_or, All, IsAllAdjacentAnswer, count_by, list_all, lookup, and_from, and_parts, eq-eqb, eqb-true, false≢true, lt-ltb, ltb-true, ne_eqb, nat_tests, get_or_default, take_all, count_by_more_no, count_by_more_yes, sum_by-take-le, ChannelId, Row, is_there, Ordered, Pair, is_above, JoinsTwo, count_at, is_end, is_link_of, joins_two}
use Rattle.mum_kept.proofs.Goodness.{is_true, sorted_pairs, true_is}

-- ---- each link joins two channels

pub all_join : (rows : List Row) (links : List Pair) (fine : Bool) → fine ≡ list_all (λ (pair : Pair). joins_two rows pair) links → IsTrue fine ↔ All (JoinsTwo rows) links
all_join rows links fine is = (
  λ on. all_at (λ (pair : Pair). joins_two rows pair) (JoinsTwo rows) one_joins links (sym is ∙ true_is fine on),
  λ all. is_true fine (is ∙ at_all (λ (pair : Pair). joins_two rows pair) (JoinsTwo rows) joins_one links all),
)
  where
    one_joins : (pair : Pair) → joins_two rows pair ≡ true → JoinsTwo rows pair
    one_joins pair on =
        let two = and_parts (is_there rows pair.0 && is_there rows pair.1) (ltb pair.0.0 pair.1.0) on in
        let one = and_parts (is_there rows pair.0) (is_there rows pair.1) two.0 in
        (is_true _ one.0, is_true _ one.1, ltb-true pair.0.0 pair.1.0 two.1)

    joins_one : (pair : Pair) → JoinsTwo rows pair → joins_two rows pair ≡ true
    joins_one pair (from, to, less) = and_from (is_there rows pair.0 && is_there rows pair.1) (ltb pair.0.0 pair.1.0) (and_from (is_there rows pair.0) (is_there rows pair.1) (true_is _ from) (true_is _ to)) (lt-ltb pair.0.0 pair.1.0 less)

    all_at : {X : Type 0} (p : X → Bool) (P : X → Type 0) → ((x : X) → p x ≡ true → P x) → (xs : List X) → list_all p xs ≡ true → All P xs
    all_at p P so [] all k d within = absurd (omega arith)
    all_at p P so (x ∷ xs) all zero d within = so x (and_parts (p x) (list_all p xs) all).0
    all_at p P so (x ∷ xs) all (suc k) d within = all_at p P so xs (and_parts (p x) (list_all p xs) all).1 k d (omega arith)

    at_all : {X : Type 0} (p : X → Bool) (P : X → Type 0) → ((x : X) → P x → p x ≡ true) → (xs : List X) → All P xs → list_all p xs ≡ true
    at_all p P so [] all = refl
    at_all p P so (x ∷ xs) all = and_from (p x) (list_all p xs) (so x (all 0 x (omega arith))) (at_all p P so xs (λ k d within. all (suc k) d (omega arith)))

-- ---- the links rise

above_above : (a b c : Pair) → is_above a.0 a.1 b ≡ true → is_above b.0 b.1 c ≡ true → is_above a.0 a.1 c ≡ true
above_above a b c one two = of_numbers a.0.0 a.1.0 b.0.0 b.1.0 c.0.0 c.1.0 one two
  where
    of_numbers : (a0 a1 b0 b1 c0 c1 : ℕ) → (ltb a0 b0 || ((b0 == a0) && ltb a1 b1)) ≡ true → (ltb b0 c0 || ((c0 == b0) && ltb b1 c1)) ≡ true → (ltb a0 c0 || ((c0 == a0) && ltb a1 c1)) ≡ true
    of_numbers a0 a1 b0 b1 c0 c1 one two = grind (arith, nat_tests)

pub ordered : (links : List Pair) (sorted : Bool) → IsAllAdjacentAnswer (λ (one other : Pair) (b : Bool). b ≡ is_above one.0 one.1 other) links sorted → IsTrue sorted ↔ Ordered links
ordered links sorted answer = sorted_pairs (λ (one other : Pair). is_above one.0 one.1 other) above_above links sorted answer

-- ---- counts

-- what is counted for each channel is how many of these links are its own
abbrev pub AreCounted : List (ℕ × ℕ) → List Pair → Type 0
AreCounted counts links = (channel : ℕ) → count_at counts channel ≡ count_by (is_end channel) links

abbrev pub AreFew : List Pair → Type 0
AreFew links = (channel : ℕ) → count_by (is_end channel) links ≤ 64

-- one more is counted for one channel
pub counted_one : (counts after : List (ℕ × ℕ)) (id count : ℕ) → count ≡ count_at counts id → ((q : ℕ) → lookup (nat_eq q) after ≡ cond (nat_eq id q) (Some (count + 1)) (lookup (nat_eq q) counts))
    → (channel : ℕ) → count_at after channel ≡ count_at counts channel + cond (nat_eq id channel) 1 0
counted_one counts after id count was inserted channel = by_number (nat_eq id channel) refl
  where
    by_number : (b : Bool) → nat_eq id channel ≡ b → unwrap_or (lookup (nat_eq channel) after) 0 ≡ count_at counts channel + cond b 1 0
    by_number true same =
        let here : id ≡ channel = eqb-true id channel same in
        ap (λ (o : Option ℕ). unwrap_or o 0) (inserted channel ∙ ap (λ (b : Bool). cond b (Some (count + 1)) (lookup (nat_eq channel) counts)) same)
        ∙ ap (λ (n : ℕ). n + 1) (was ∙ ap (count_at counts) here)
    by_number false other =
        let same : unwrap_or (lookup (nat_eq channel) after) 0 ≡ count_at counts channel = ap (λ (o : Option ℕ). unwrap_or o 0) (inserted channel ∙ ap (λ (b : Bool). cond b (Some (count + 1)) (lookup (nat_eq channel) counts)) other) in
        omega arith

-- there is room for one more link, or there is none
pub few_true : (count before : ℕ) → count ≡ before → count < 64 → IsTrue true ↔ (before < 64)
few_true count before is below = (λ on. omega arith, λ less. refl)

pub few_false : (count before : ℕ) → count ≡ before → 64 ≤ count → IsTrue false ↔ (before < 64)
few_false count before is full = (λ on. absurd (false≢true on), λ less. absurd (omega arith))

-- one more for each of two channels
pub counted_both : (from to channel before middle after : ℕ) → from < to → middle ≡ before + cond (nat_eq from channel) 1 0 → after ≡ middle + cond (nat_eq to channel) 1 0 → after ≡ before + cond (nat_eq from channel || nat_eq to channel) 1 0
counted_both from to channel before middle after less first second = by_tests (nat_eq from channel) refl (nat_eq to channel) refl first second
  where
    by_tests : (b : Bool) → nat_eq from channel ≡ b → (c : Bool) → nat_eq to channel ≡ c → middle ≡ before + cond b 1 0 → after ≡ middle + cond c 1 0 → after ≡ before + cond (b || c) 1 0
    by_tests true one true two first second = let a : from ≡ channel = eqb-true from channel one in let b : to ≡ channel = eqb-true to channel two in absurd (omega arith)
    by_tests true one false two first second = omega arith
    by_tests false one true two first second = omega arith
    by_tests false one false two first second = omega arith

-- the other count of a link is as it was
pub count_apart : (from to before after : ℕ) → from < to → after ≡ before + cond (nat_eq from to) 1 0 → after ≡ before
count_apart from to before after less is = is ∙ (let off : nat_eq from to ≡ false = ne_eqb from to (λ (e : from ≡ to). absurd (omega arith)) in rw off (omega arith))

-- both channels of a link have room
pub few_first : (few : Bool) (one other : ℕ) → (IsTrue few ↔ (one < 64)) → few ≡ false → IsTrue false ↔ ((one < 64) × (other < 64))
few_first few one other is full = (λ on. absurd (false≢true on), λ both. sym full ∙ is.1 both.0)

pub few_two : (few : Bool) (one other middle : ℕ) → one < 64 → middle ≡ other → (IsTrue few ↔ (middle < 64)) → IsTrue few ↔ ((one < 64) × (other < 64))
few_two few one other middle room same is = (λ on. (room, let below : middle < 64 = is.0 on in omega arith), λ both. is.1 (let below : other < 64 = both.1 in omega arith))

one_counted : (links : List Pair) (at : ℕ) (here : Pair) (channel : ℕ) → at < length links → here ≡ get_or links at here → (b : Bool) → is_end channel here ≡ b
    → count_by (is_end channel) (take (at + 1) links) ≡ count_by (is_end channel) (take at links) + cond b 1 0
one_counted links at here channel within is true on = count_by_more_yes (is_end channel) links at here within (ap (is_end channel) (sym is) ∙ on)
one_counted links at here channel within is false off =
    let same : count_by (is_end channel) (take (at + 1) links) ≡ count_by (is_end channel) (take at links) = count_by_more_no (is_end channel) links at here within (ap (is_end channel) (sym is) ∙ off) in
    omega arith

pub counted_more : (counts after : List (ℕ × ℕ)) (links : List Pair) (at : ℕ) (here : Pair) → at < length links → here ≡ get_or links at here
    → ((channel : ℕ) → count_at after channel ≡ count_at counts channel + cond (is_end channel here) 1 0) → AreCounted counts (take at links) → AreCounted after (take (at + 1) links)
counted_more counts after links at here within is more counted channel =
    more channel ∙ ap (λ (n : ℕ). n + cond (is_end channel here) 1 0) (counted channel) ∙ sym (one_counted links at here channel within is (is_end channel here) refl)

pub few_more : (counts : List (ℕ × ℕ)) (links : List Pair) (at : ℕ) (here : Pair) → at < length links → here ≡ get_or links at here → AreCounted counts (take at links)
    → (count_at counts here.0.0 < 64) × (count_at counts here.1.0 < 64) → AreFew (take at links) → AreFew (take (at + 1) links)
few_more counts links at here within is counted room few channel = by_test (is_end channel here) refl
  where
    by_test : (b : Bool) → is_end channel here ≡ b → count_by (is_end channel) (take (at + 1) links) ≤ 64
    by_test true on =
        let more : count_by (is_end channel) (take (at + 1) links) ≡ count_by (is_end channel) (take at links) + cond true 1 0 = one_counted links at here channel within is true on in
        let least : count_at counts channel < 64 = of_end (nat_eq here.0.0 channel) refl on in
        let same : count_at counts channel ≡ count_by (is_end channel) (take at links) = counted channel in
        omega arith
      where
        of_end : (c : Bool) → nat_eq here.0.0 channel ≡ c → (c || nat_eq here.1.0 channel) ≡ true → count_at counts channel < 64
        of_end true one fine = subst (λ (n : ℕ). count_at counts n < 64) (eqb-true here.0.0 channel one) room.0
        of_end false one other = subst (λ (n : ℕ). count_at counts n < 64) (eqb-true here.1.0 channel other) room.1
    by_test false off =
        let more : count_by (is_end channel) (take (at + 1) links) ≡ count_by (is_end channel) (take at links) + cond false 1 0 = one_counted links at here channel within is false off in
        let before : count_by (is_end channel) (take at links) ≤ 64 = few channel in
        omega arith

pub few_all : (links : List Pair) (at : ℕ) → length links ≤ at → AreFew (take at links) → IsTrue true ↔ ((id : ChannelId) → count_by (is_link_of id) links ≤ 64)
few_all links at all few = (
  λ on id. subst (λ (xs : List Pair). count_by (is_end id.0) xs ≤ 64) (take_all at links all) (few id.0),
  λ each. refl,
)

-- a link of a channel that has all that it may have
too_many : (counts : List (ℕ × ℕ)) (links : List Pair) (at : ℕ) (here : Pair) (id : ChannelId) → at < length links → here ≡ get_or links at here → AreCounted counts (take at links) → is_end id.0 here ≡ true
    → ((one : ChannelId) → count_by (is_link_of one) links ≤ 64) → count_at counts id.0 < 64
too_many counts links at here id within is counted own each =
    let more : count_by (is_end id.0) (take (at + 1) links) ≡ count_by (is_end id.0) (take at links) + cond true 1 0 = one_counted links at here id.0 within is true own in
    let whole : count_by (is_end id.0) (take (at + 1) links) ≤ count_by (is_end id.0) links = sum_by-take-le (λ (pair : Pair). cond (is_end id.0 pair) 1 0) links (at + 1) in
    let most : count_by (is_end id.0) links ≤ 64 = each id in
    let same : count_at counts id.0 ≡ count_by (is_end id.0) (take at links) = counted id.0 in
    omega arith

pub few_not : (counts : List (ℕ × ℕ)) (links : List Pair) (at : ℕ) (here : Pair) → at < length links → here ≡ get_or links at here → AreCounted counts (take at links)
    → ((count_at counts here.0.0 < 64) × (count_at counts here.1.0 < 64) → ⊥) → IsTrue false ↔ ((id : ChannelId) → count_by (is_link_of id) links ≤ 64)
few_not counts links at here within is counted crowded = (
  λ on. absurd (false≢true on),
  λ each.
      absurd (crowded (
        too_many counts links at here here.0 within is counted (rw (eq-eqb here.0.0 here.0.0 refl) refl) each,
        too_many counts links at here here.1 within is counted (rw (eq-eqb here.1.0 here.1.0 refl) (or_true (here.0.0 == here.1.0))) each,
      )),
)
  where
    or_true : (b : Bool) → (b || true) ≡ true
    or_true true = refl
    or_true false = refl

-- ---- the same, of a link that is read at its place

pub counted_at : (counts after : List (ℕ × ℕ)) (links : List Pair) (at : ℕ) (d : Pair) → at < length links
    → ((channel : ℕ) → count_at after channel ≡ count_at counts channel + cond (is_end channel (get_or links at d)) 1 0) → AreCounted counts (take at links) → AreCounted after (take (at + 1) links)
counted_at counts after links at d within more counted =
    counted_more counts after links at (get_or links at d) within (get_or_default links at d (get_or links at d) within) more counted

pub few_at : (counts : List (ℕ × ℕ)) (links : List Pair) (at : ℕ) (d : Pair) → at < length links → AreCounted counts (take at links)
    → (count_at counts (get_or links at d).0.0 < 64) × (count_at counts (get_or links at d).1.0 < 64) → AreFew (take at links) → AreFew (take (at + 1) links)
few_at counts links at d within counted room few = few_more counts links at (get_or links at d) within (get_or_default links at d (get_or links at d) within) counted room few

pub few_not_at : (counts : List (ℕ × ℕ)) (links : List Pair) (at : ℕ) (d : Pair) → at < length links → AreCounted counts (take at links)
    → ((count_at counts (get_or links at d).0.0 < 64) × (count_at counts (get_or links at d).1.0 < 64) → ⊥) → IsTrue false ↔ ((id : ChannelId) → count_by (is_link_of id) links ≤ 64)
few_not_at counts links at d within counted crowded = few_not counts links at (get_or links at d) within (get_or_default links at d (get_or links at d) within) counted crowded
