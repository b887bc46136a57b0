-- The prefix that is free is the first with which no name begins.
use Rattle.mum_kept.proofs.Common.{◌≡◌, ◌≢◌, ℕ, zero, suc, ◌+◌, ◌-◌, ◌*◌, ◌/◌, ◌%◌, ◌<◌, ◌≤◌, ◌==◌, ◌&&◌, ◌||◌, Bool, true, false, cond, List, [], ◌∷◌, length, map, take, set, get_or, refl, sym, ap, ◌∙◌, arith, Decides, list_any, bytes_eq, and_parts, eq-eqb, eqb-true, false≢true, ne_eqb, nat_tests, same_from_decides, get_or-set_other, get_or-set_same, length-map, list_any_more, bytes_eq-Decides, Row, first_place, has_place, least_place, free_unhad, least_is, least_within, unhad, any_alike, any_map, KeptChannel, begins_with, begins_with_letters, first_unused, is_letter, is_used, prefix, prefix_number, tree_row}

-- ---- the number of a prefix says with which one a name begins

abbrev letters : ℕ → ℕ → ℕ → Bool
letters a b c = is_letter a && is_letter b && is_letter c

abbrev number_by : ℕ → ℕ → ℕ → ℕ
number_by a b c = cond (letters a b c) ((a - 97) * 676 + (b - 97) * 26 + (c - 97)) 17576

is_letter_within : (a : ℕ) → 97 ≤ a → a ≤ 122 → is_letter a ≡ true
is_letter_within a low high = grind (arith, nat_tests)

letter_within : (a : ℕ) → is_letter a ≡ true → (97 ≤ a) × (a ≤ 122)
letter_within a is = let low : 97 ≤ a = grind (arith, nat_tests) in let high : a ≤ 122 = grind (arith, nat_tests) in (low, high)

-- three letters are those of their number
parts_of : (a b c m : ℕ) → 97 ≤ a → a ≤ 122 → 97 ≤ b → b ≤ 122 → 97 ≤ c → c ≤ 122 → (a - 97) * 676 + (b - 97) * 26 + (c - 97) ≡ m
    → (a ≡ 97 + m / 676) × (b ≡ 97 + m / 26 % 26) × (c ≡ 97 + m % 26)
parts_of a b c m low_a high_a low_b high_b low_c high_c is =
    let first : a ≡ 97 + m / 676 = omega arith in
    let second : b ≡ 97 + m / 26 % 26 = omega arith in
    let third : c ≡ 97 + m % 26 = omega arith in
    (first, second, third)

number_of : (a b c m : ℕ) → m < 17576 → a ≡ 97 + m / 676 → b ≡ 97 + m / 26 % 26 → c ≡ 97 + m % 26 → number_by a b c ≡ m
number_of a b c m small first second third =
    let is_a : is_letter a ≡ true = is_letter_within a (omega arith) (omega arith) in
    let is_b : is_letter b ≡ true = is_letter_within b (omega arith) (omega arith) in
    let is_c : is_letter c ≡ true = is_letter_within c (omega arith) (omega arith) in
    rw (is_a, is_b, is_c) (omega arith)

of_letters : (a b c m : ℕ) → m < 17576 → (on : Bool) → letters a b c ≡ on → cond on ((a - 97) * 676 + (b - 97) * 26 + (c - 97)) 17576 ≡ m
    → (a ≡ 97 + m / 676) × (b ≡ 97 + m / 26 % 26) × (c ≡ 97 + m % 26)
of_letters a b c m small true on is =
    let two = and_parts (is_letter a && is_letter b) (is_letter c) on in
    let one = and_parts (is_letter a) (is_letter b) two.0 in
    let in_a = letter_within a one.0 in
    let in_b = letter_within b one.1 in
    let in_c = letter_within c two.1 in
    parts_of a b c m in_a.0 in_a.1 in_b.0 in_b.1 in_c.0 in_c.1 is
of_letters a b c m small false off is = absurd (omega arith)

same_three : (a b c x y z : ℕ) → a ∷ b ∷ c ∷ [] ≡ x ∷ y ∷ z ∷ [] → (a ≡ x) × (b ≡ y) × (c ≡ z)
same_three a b c x y z same =
    let first : a ≡ x = cc in
    let second : b ≡ y = cc in
    let third : c ≡ z = cc in
    (first, second, third)

three_decides : (a b c m : ℕ) → m < 17576 → Decides (number_by a b c == m) (a ∷ b ∷ c ∷ [] ≡ (97 + m / 676) ∷ (97 + m / 26 % 26) ∷ (97 + m % 26) ∷ [])
three_decides a b c m small = (
  λ fine.
      let parts = of_letters a b c m small (letters a b c) refl (eqb-true (number_by a b c) m fine) in
      rw (parts.0, parts.1, parts.2) refl,
  λ same.
      let parts = same_three a b c (97 + m / 676) (97 + m / 26 % 26) (97 + m % 26) same in
      eq-eqb (number_by a b c) m (number_of a b c m small parts.0 parts.1 parts.2),
)

and_false : (b : Bool) → (b && false) ≡ false
and_false true = refl
and_false false = refl

-- one byte or two are too few
too_short : (name : List ℕ) (m : ℕ) → m < 17576 → begins_with_letters name ≡ false → (prefix_number name == m) ≡ false
too_short name m small short = rw short (ne_eqb 17576 m (λ (e : 17576 ≡ m). absurd (omega arith)))

pub same_prefix : (m : ℕ) (name : List ℕ) → m < 17576 → begins_with m name ≡ (prefix_number name == m)
unfolding prefix
same_prefix m [] small = sym (too_short [] m small refl)
same_prefix m (a ∷ []) small = and_false (a == 97 + m / 676) ∙ sym (too_short (a ∷ []) m small (ap (λ b. b && false) (and_false (is_letter a))))
same_prefix m (a ∷ b ∷ []) small =
    ap (λ (rest : Bool). (a == 97 + m / 676) && rest) (and_false (b == 97 + m / 26 % 26)) ∙ and_false (a == 97 + m / 676) ∙ sym (too_short (a ∷ b ∷ []) m small (and_false (is_letter a && is_letter b)))
same_prefix m (a ∷ b ∷ c ∷ rest) small =
    same_from_decides (bytes_eq (a ∷ b ∷ c ∷ []) (prefix m)) (number_by a b c == m) (bytes_eq-Decides (a ∷ b ∷ c ∷ []) (prefix m)) (three_decides a b c m small)

-- ---- the names as rows of a tree whose places are the numbers of their prefixes

abbrev coded : KeptChannel → Row
coded channel = record (tree_row channel) { place = prefix_number channel.name }

abbrev coded_rows : List KeptChannel → List Row
coded_rows channels = map coded channels

abbrev names_of : List KeptChannel → List (List ℕ)
names_of channels = map (λ channel. channel.name) channels

abbrev is_taken : List KeptChannel → ℕ → Bool
is_taken channels m = list_any (λ channel. prefix_number channel.name == m) channels

had_is_taken : (channels : List KeptChannel) (m : ℕ) → has_place (coded_rows channels) m ≡ is_taken channels m
had_is_taken channels m = any_map (λ (row : Row). row.place == m) (λ channel. prefix_number channel.name == m) coded (λ channel. refl) channels

used_is_taken : (channels : List KeptChannel) (m : ℕ) → m < 17576 → is_used (names_of channels) m ≡ is_taken channels m
used_is_taken channels m small =
    any_map (begins_with m) (λ channel. begins_with m channel.name) (λ (channel : KeptChannel). channel.name) (λ channel. refl) channels
    ∙ any_alike (λ channel. begins_with m channel.name) (λ channel. prefix_number channel.name == m) (λ channel. same_prefix m channel.name small) channels

first_alike : (names : List (List ℕ)) (rows : List Row) (more n : ℕ) → n + more ≤ 17576 → ((m : ℕ) → m < 17576 → is_used names m ≡ has_place rows m) → first_unused names more n ≡ first_place rows more n
unfolding first_unused first_place
first_alike names rows zero n fits same = refl
first_alike names rows (suc more) n fits same =
    ap (λ (b : Bool). cond b (first_unused names more (n + 1)) n) (same n (omega arith))
    ∙ ap (λ (k : ℕ). cond (has_place rows n) k n) (first_alike names rows more (n + 1) (omega arith) same)

pub first_is_least : (channels : List KeptChannel) → length channels ≤ 2048 → first_unused (names_of channels) (length channels) 0 ≡ least_place (coded_rows channels)
first_is_least channels few =
    first_alike (names_of channels) (coded_rows channels) (length channels) 0 (omega arith) (λ m small. used_is_taken channels m small ∙ sym (had_is_taken channels m))
    ∙ ap (λ (n : ℕ). first_place (coded_rows channels) n 0) (sym (length-map channels coded))

-- what is kept of the search for a number that is not marked
pub record IsFirstFree (channels : List KeptChannel) (found : ℕ) : Type 0 where
  pub number : found ≡ first_unused (names_of channels) (length channels) 0
  pub within : found < 17576

pub first_free : (channels : List KeptChannel) (used : List Bool) (found : ℕ) → length channels ≤ 2048
    → ((n : ℕ) → get_or used n false ≡ list_any (λ channel. prefix_number channel.name == n) channels)
    → ((n : ℕ) → n < found → get_or used n false ≡ true) → get_or used found false ≡ false → IsFirstFree channels found
first_free channels used found few marked lower free =
    let rows : List Row = coded_rows channels in
    let is : found ≡ least_place rows =
    least_is rows found (
      unhad rows found (had_is_taken channels found ∙ sym (marked found) ∙ free),
      λ less below none. false≢true (sym (free_unhad rows less none) ∙ had_is_taken channels less ∙ sym (marked less) ∙ lower less below),
    ) in
    let many : length rows ≡ length channels = length-map channels coded in
    record {
      number = is ∙ sym (first_is_least channels few);
      within = omega (arith, least_within rows);
    }

-- ---- marks

or_true : (b : Bool) → (b || true) ≡ true
or_true true = refl
or_true false = refl

or_false : (b : Bool) → (b || false) ≡ b
or_false true = refl
or_false false = refl

pub marked_more : (channels : List KeptChannel) (used : List Bool) (i : ℕ) (channel : KeptChannel) (number : ℕ) → i < length channels → channel ≡ get_or channels i channel → number ≡ prefix_number channel.name → number < length used
    → ((n : ℕ) → get_or used n false ≡ list_any (λ one. prefix_number one.name == n) (take i channels))
    → (n : ℕ) → get_or (set used number true) n false ≡ list_any (λ one. prefix_number one.name == n) (take (i + 1) channels)
marked_more channels used i channel number within is named fits marked n =
    by_number (number == n) refl
  where
    same : (prefix_number (get_or channels i channel).name == n) ≡ (number == n)
    same = ap (λ (one : KeptChannel). prefix_number one.name == n) (sym is) ∙ ap (λ (k : ℕ). k == n) (sym named)

    by_number : (b : Bool) → (number == n) ≡ b → get_or (set used number true) n false ≡ list_any (λ (one : KeptChannel). prefix_number one.name == n) (take (i + 1) channels)
    by_number true fine =
        let here : number ≡ n = eqb-true number n fine in
        ap (λ (k : ℕ). get_or (set used number true) k false) (sym here) ∙ get_or-set_same used number true false fits
        ∙ sym (list_any_more (λ (one : KeptChannel). prefix_number one.name == n) channels i channel within ∙ ap (λ (b : Bool). list_any (λ (one : KeptChannel). prefix_number one.name == n) (take i channels) || b) (same ∙ fine) ∙ or_true (list_any (λ (one : KeptChannel). prefix_number one.name == n) (take i channels)))
    by_number false other =
        let apart : n ≢ number = λ e. false≢true (sym other ∙ eq-eqb number n (sym e)) in
        get_or-set_other used number n true false apart ∙ marked n
        ∙ sym (list_any_more (λ (one : KeptChannel). prefix_number one.name == n) channels i channel within ∙ ap (λ (b : Bool). list_any (λ (one : KeptChannel). prefix_number one.name == n) (take i channels) || b) (same ∙ other) ∙ or_false (list_any (λ (one : KeptChannel). prefix_number one.name == n) (take i channels)))
