-- The names that channels have until they are placed: a prefix that no name begins with, and a number.
use Rattle.mum_kept_laws.proofs.Common.{◌≡◌, ◌≢◌, ℕ, zero, suc, ◌+◌, ◌-◌, ◌%◌, ◌^◌, ◌<◌, ◌≤◌, ◌==◌, ◌||◌, Bool, true, false, cond, nat_lt, List, [], ◌∷◌, ◌++◌, length, map, get_or, take, Some, None, is_none, refl, sym, ap, ◌∙◌, arith, slice_index, decimal, list_any, bytes_eq, false≢true, ne_eqb, nat_tests, decimal_by_steps, decimal_injective, length-decimal-le, length-append, bytes_eq-Decides, has_space_at_edge, is_control_byte, Row, has_place, least_place, free_unhad, least_free, least_within, is_name, Each, any_alike, any_map, each_append, each_fails, each_so, none_passes, KeptChannel, begins_with, first_unused, free_prefix, prefix, prefix_number, tree_row, first_is_least, same_prefix}

-- ---- the name is a good one

-- it is above the space and below the last control byte
abbrev IsPlain : ℕ → Type 0
IsPlain byte = (32 < byte) × (byte < 127)

digits_plain : (n : ℕ) → n < 2 ^ 64 → Each IsPlain (decimal n)
digits_plain =
    decimal_by_steps (λ n ds. Each IsPlain ds)
    (λ n small. ((omega arith, omega arith), tt))
    (λ n ds large all. each_append IsPlain ds ((48 + n % 10) ∷ []) all ((omega arith, omega arith), tt))

letters_plain : (n : ℕ) → n < 17576 → Each IsPlain (prefix n)
unfolding prefix
letters_plain n small = ((omega arith, omega arith), ((omega arith, omega arith), ((omega arith, omega arith), tt)))

three : (n : ℕ) → length (prefix n) ≡ 3
unfolding prefix
three n = refl

no_control : (byte : ℕ) → IsPlain byte → is_control_byte byte ≡ false
no_control byte plain = let low = plain.0 in let high = plain.1 in grind (arith, nat_tests)

plain_at : (bytes : List ℕ) (k : ℕ) → Each IsPlain bytes → k < length bytes → (get_or bytes k 0 == 32) ≡ false
plain_at [] k all within = absurd (omega arith)
plain_at (byte ∷ bytes) zero all within = let low = all.0.0 in ne_eqb byte 32 (λ (e : byte ≡ 32). absurd (omega arith))
plain_at (byte ∷ bytes) (suc k) all within = plain_at bytes k all.1 (omega arith)

plain_name : (name : List ℕ) → Each IsPlain name → 0 < length name → length name ≤ 13 → is_name name ≡ true
plain_name name all some short =
    ap is_none (none_of (length name == 0) (nat_lt 128 (length name)) (list_any is_control_byte name) (has_space_at_edge name) _ _ _ _
    (ne_eqb (length name) 0 (λ (e : length name ≡ 0). absurd (omega arith)))
    (not_over (length name) short)
    (none_passes is_control_byte name (each_so IsPlain (λ byte. is_control_byte byte ≡ false) no_control name all))
    (neither (slice_index name 0 == 32) (slice_index name (length name - 1) == 32) (plain_at name 0 all some) (plain_at name (length name - 1) all (omega arith))))
  where
    not_over : (n : ℕ) → n ≤ 13 → nat_lt 128 n ≡ false
    not_over n few = grind (arith, nat_tests)

    neither : (a b : Bool) → a ≡ false → b ≡ false → (a || b) ≡ false
    neither false b one two = two
    neither true b one two = absurd (false≢true (sym one))

    none_of : {X : Type 0} (a b c d : Bool) (f g h i : X) → a ≡ false → b ≡ false → c ≡ false → d ≡ false → cond a (Some f) (cond b (Some g) (cond c (Some h) (cond d (Some i) None))) ≡ None
    none_of false false false false f g h i p q r s = refl
    none_of true b c d f g h i p q r s = absurd (false≢true (sym p))
    none_of false true c d f g h i p q r s = absurd (false≢true (sym q))
    none_of false false true d f g h i p q r s = absurd (false≢true (sym r))
    none_of false false false true f g h i p q r s = absurd (false≢true (sym s))

pub made_name_good : (n id : ℕ) → n < 17576 → id < 2 ^ 32 → is_name (prefix n ++ decimal id) ≡ true
made_name_good n id small word =
    let digits : length (decimal id) ≤ 10 = length-decimal-le 10 id (omega arith) (omega arith) (omega arith) in
    let whole : length (prefix n ++ decimal id) ≡ length (prefix n) + length (decimal id) = length-append (prefix n) (decimal id) in
    plain_name (prefix n ++ decimal id) (each_append IsPlain (prefix n) (decimal id) (letters_plain n small) (digits_plain id (omega arith)))
    (omega (arith, whole, three n)) (omega (arith, whole, three n, digits))

-- ---- it is no other's

same_rest : (front one other : List ℕ) → front ++ one ≡ front ++ other → one ≡ other
same_rest [] one other same = same
same_rest (byte ∷ front) one other same = same_rest front one other (tails byte (front ++ one) (front ++ other) same)
  where
    tails : (b : ℕ) (xs ys : List ℕ) → b ∷ xs ≡ b ∷ ys → xs ≡ ys
    tails b xs ys same = cc

pub made_names_differ : (front : List ℕ) (one other : ℕ) → one < 2 ^ 32 → other < 2 ^ 32 → one ≢ other → bytes_eq (front ++ decimal one) (front ++ decimal other) ≡ false
made_names_differ front one other small also differ = by_test (bytes_eq (front ++ decimal one) (front ++ decimal other)) refl
  where
    by_test : (b : Bool) → bytes_eq (front ++ decimal one) (front ++ decimal other) ≡ b → b ≡ false
    by_test true same =
        absurd (differ (decimal_injective one other (omega arith) (omega arith)
        (same_rest front (decimal one) (decimal other) ((bytes_eq-Decides (front ++ decimal one) (front ++ decimal other)).0 same))))
    by_test false other = refl

-- ---- no kept name begins with the prefix

-- the channels as rows whose places are the numbers of their prefixes
abbrev coded : KeptChannel → Row
coded channel = record (tree_row channel) { place = prefix_number channel.name }

abbrev coded_rows : List KeptChannel → List Row
coded_rows channels = map coded channels

abbrev pub free_number : List KeptChannel → ℕ
free_number channels = first_unused (map (λ channel. channel.name) channels) (length channels) 0

pub free_within : (channels : List KeptChannel) → length channels ≤ 2048 → free_number channels < 17576
free_within channels few =
    let many : length (coded_rows channels) ≡ length channels = length_coded channels in
    omega (arith, first_is_least channels few, least_within (coded_rows channels), many)
  where
    length_coded : (cs : List KeptChannel) → length (coded_rows cs) ≡ length cs
    length_coded [] = refl
    length_coded (c ∷ cs) = ap suc (length_coded cs)

used_had : (channels : List KeptChannel) (m : ℕ) → m < 17576 → list_any (λ (channel : KeptChannel). begins_with m channel.name) channels ≡ has_place (coded_rows channels) m
used_had channels m small =
    any_alike (λ (channel : KeptChannel). begins_with m channel.name) (λ (channel : KeptChannel). prefix_number channel.name == m) (λ channel. same_prefix m channel.name small) channels
    ∙ sym (any_map (λ row. row.place == m) (λ (channel : KeptChannel). prefix_number channel.name == m) coded (λ channel. refl) channels)

taken_front : (front rest : List ℕ) → length front ≡ 3 → take 3 (front ++ rest) ≡ front
taken_front (a ∷ b ∷ c ∷ []) rest long = refl
taken_front [] rest long = absurd (omega arith)
taken_front (a ∷ []) rest long = absurd (omega arith)
taken_front (a ∷ b ∷ []) rest long = absurd (omega arith)
taken_front (a ∷ b ∷ c ∷ d ∷ more) rest long = absurd (omega arith)

pub unlike_prefix : (channels : List KeptChannel) → length channels ≤ 2048 → Each (λ channel. (rest : List ℕ) → channel.name ≡ free_prefix channels ++ rest → ⊥) channels
unlike_prefix channels few =
    let m : ℕ = free_number channels in
    let none : list_any (λ (channel : KeptChannel). begins_with m channel.name) channels ≡ false =
    used_had channels m (free_within channels few) ∙ ap (has_place (coded_rows channels)) (first_is_least channels few) ∙ free_unhad (coded_rows channels) (least_place (coded_rows channels)) (least_free (coded_rows channels)).0 in
    each_so (λ channel. begins_with m channel.name ≡ false) (λ channel. (rest : List ℕ) → channel.name ≡ prefix m ++ rest → ⊥)
    (λ channel off rest is. false≢true (sym off
    ∙ ap (λ (name : List ℕ). bytes_eq (take 3 name) (prefix m)) is
    ∙ ap (λ (front : List ℕ). bytes_eq front (prefix m)) (taken_front (prefix m) rest (three m))
    ∙ (bytes_eq-Decides (prefix m) (prefix m)).1 refl))
    channels (each_fails (λ (channel : KeptChannel). begins_with m channel.name) channels none)
