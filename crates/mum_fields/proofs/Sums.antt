-- What the parts of fields sum up to, from the first on.
use Rattle.mum_fields.proofs.Common.{◌≡◌, ℕ, suc, ◌+◌, ◌-◌, ◌^◌, ◌<◌, ◌≤◌, Bool, true, false, is_some, List, ◌∷◌, length, length-drop, get_or, drop, take, take_all, map, min, Option, Some, None, refl, sym, ap, subst, ◌∙◌, arith, drop-cons, add-one, Part, Values, is_set, lesser, Slot, form_of, Held, part_of, AreParts, own_missing}
use Rattle.mum_fields.proofs.Passes.{SumsUp, sums-nothing, sums-more, sums-in}

abbrev pub a_part : ℕ → Option ℕ → Part
a_part length missing = record { length = length; missing = missing }

-- what two parts come to
abbrev pub both : Part → Part → Part
both a b = a_part (min (a.length + b.length) (2 ^ 64 - 1)) (lesser a.missing b.missing)

pub part-same : (a b : Part) → a.length ≡ b.length → a.missing ≡ b.missing → a ≡ b
part-same a b lengths missings = ap (λ n. a_part n a.missing) lengths ∙ ap (λ m. a_part b.length m) missings

no_test : false ≡ true → ⊥
no_test h = cc

pub none-tested : (o : Option ℕ) → false ≡ is_some o → None ≡ o
none-tested None h = refl
none-tested (Some n) h = absurd (no_test h)

lesser-none : (a : Option ℕ) → lesser a None ≡ a
lesser-none None = refl
lesser-none (Some n) = refl

lesser-thrice : (a b c : Option ℕ) → lesser a (lesser b c) ≡ lesser (lesser a b) c
lesser-thrice None b c = refl
lesser-thrice (Some n) None c = refl
lesser-thrice (Some n) (Some m) None = refl
lesser-thrice (Some n) (Some m) (Some k) = ap (λ i. Some i) (min-thrice n m k)
  where
    min-thrice : (n m k : ℕ) → min n (min m k) ≡ min (min n m) k
    min-thrice n m k = omega arith

cut-thrice : (a b c : ℕ) → min (a + min (b + c) (2 ^ 64 - 1)) (2 ^ 64 - 1) ≡ min (min (a + b) (2 ^ 64 - 1) + c) (2 ^ 64 - 1)
cut-thrice a b c = omega arith

both-thrice : (a b c : Part) → both a (both b c) ≡ both (both a b) c
both-thrice a b c = part-same _ _ (cut-thrice a.length b.length c.length) (lesser-thrice a.missing b.missing c.missing)

nothing-more : (zero_length : ℕ) (rest : Part) → zero_length ≤ 0 → rest.length ≤ 2 ^ 64 - 1 → both (a_part zero_length None) rest ≡ rest
nothing-more zero_length rest none few = part-same _ _ (same zero_length rest.length none few) refl
  where
    same : (n m : ℕ) → n ≤ 0 → m ≤ 2 ^ 64 - 1 → min (n + m) (2 ^ 64 - 1) ≡ m
    same n m none few = omega arith

nothing-behind : (sum : Part) → sum.length ≤ 2 ^ 64 - 1 → both sum (a_part 0 None) ≡ sum
nothing-behind sum few = part-same _ _ (same sum.length few) (lesser-none sum.missing)
  where
    same : (n : ℕ) → n ≤ 2 ^ 64 - 1 → min (n + 0) (2 ^ 64 - 1) ≡ n
    same n few = omega arith

cut-few : (n m : ℕ) → min (n + m) (2 ^ 64 - 1) ≤ 2 ^ 64 - 1
cut-few n m = omega arith

-- With what the fields from this one on come to, this sum is what all come to.
unfoldable pub Adds : {S : Type 0} → (S → Slot) → List S → List Part → ℕ → Part → Type 0
Adds slot rows parts i sum = (rest : Part) → rest.length ≤ 2 ^ 64 - 1 → SumsUp slot (drop i rows) (drop i parts) rest → SumsUp slot rows parts (both sum rest)

pub adds-none : {S : Type 0} (slot : S → Slot) (rows : List S) (parts : List Part) → Adds slot rows parts 0 (a_part 0 None)
unfolding Adds
adds-none slot rows parts = λ rest few h. subst (SumsUp slot rows parts) (sym (nothing-more 0 rest (omega arith) few)) h

-- what one more field comes to with those after it
one-more : {S : Type 0} (slot : S → Slot) (rows : List S) (parts : List Part) (i : ℕ) (row : S) (d rest : Part) (own_part : Option ℕ) → i < length rows → i < length parts → row ≡ get_or rows i row
    → ((held : Held (slot row)) → get_or parts i d ≡ part_of (slot row) held → (values : Values (form_of (map slot (drop (i + 1) rows)))) → AreParts (map slot (drop (i + 1) rows)) values (drop (i + 1) parts)
    → own_part ≡ own_missing (slot row) held (is_set (form_of (map slot (drop (i + 1) rows))) values))
    → SumsUp slot (drop (i + 1) rows) (drop (i + 1) parts) rest → SumsUp slot (drop i rows) (drop i parts) (both (a_part (get_or parts i d).length own_part) rest)
one-more {S} slot rows parts i row d rest own_part within some is_row misses h =
    let others = drop (i + 1) rows in
    let behind = drop (i + 1) parts in
    let part = get_or parts i d in
    let rows_are : drop i rows ≡ row ∷ others = rw add-one (drop-cons rows i row within ∙ ap (λ (r : S). r ∷ drop (suc i) rows) (sym is_row)) in
    let parts_are : drop i parts ≡ part ∷ behind = rw add-one (drop-cons parts i d some) in
    sums-more slot (drop i rows) others (drop i parts) behind row part rest own_part rows_are parts_are (sums-in slot others behind rest h) misses

pub adds-one : {S : Type 0} (slot : S → Slot) (rows : List S) (parts : List Part) (i : ℕ) (row : S) (d sum : Part) (own_part : Option ℕ) → i < length rows → i < length parts → row ≡ get_or rows i row
    → ((held : Held (slot row)) → get_or parts i d ≡ part_of (slot row) held → (values : Values (form_of (map slot (drop (i + 1) rows)))) → AreParts (map slot (drop (i + 1) rows)) values (drop (i + 1) parts)
    → own_part ≡ own_missing (slot row) held (is_set (form_of (map slot (drop (i + 1) rows))) values))
    → Adds slot rows parts i sum → Adds slot rows parts (i + 1) (both sum (a_part (get_or parts i d).length own_part))
unfolding Adds
adds-one slot rows parts i row d sum own_part within some is_row misses adds = λ rest few h.
    let own : Part = a_part (get_or parts i d).length own_part in
    subst (SumsUp slot rows parts) (both-thrice sum own rest) (adds (both own rest) (cut-few (get_or parts i d).length rest.length) (one-more slot rows parts i row d rest own_part within some is_row misses h))

-- the same of a field of which nothing comes
pub adds-same : {S : Type 0} (slot : S → Slot) (rows : List S) (parts : List Part) (i : ℕ) (row : S) (d sum : Part) → i < length rows → i < length parts → row ≡ get_or rows i row → (get_or parts i d).length ≤ 0
    → ((held : Held (slot row)) → get_or parts i d ≡ part_of (slot row) held → (f : ℕ → Bool) → None ≡ own_missing (slot row) held f)
    → Adds slot rows parts i sum → Adds slot rows parts (i + 1) sum
unfolding Adds
adds-same slot rows parts i row d sum within some is_row none misses adds = λ rest few h.
    let others = drop (i + 1) rows in
    let more = one-more slot rows parts i row d rest None within some is_row (λ held is values are. misses held is (is_set (form_of (map slot others)) values)) h in
    adds rest few (subst (SumsUp slot (drop i rows) (drop i parts)) (nothing-more (get_or parts i d).length rest none few) more)

-- a part that was joined to the sum
pub adds-to : {S : Type 0} (slot : S → Slot) (rows : List S) (parts : List Part) (i : ℕ) (sum result : Part) (length : ℕ) (own_part : Option ℕ) → result.length ≡ min (sum.length + length) (2 ^ 64 - 1) → result.missing ≡ lesser sum.missing own_part
    → Adds slot rows parts i (both sum (a_part length own_part)) → Adds slot rows parts i result × (result.length ≤ 2 ^ 64 - 1)
adds-to slot rows parts i sum result length own_part lengths missings adds = (
  subst (Adds slot rows parts i) (sym (part-same result (both sum (a_part length own_part)) lengths missings)) adds,
  omega (arith, lengths),
)

pub adds-all : {S : Type 0} (slot : S → Slot) (rows : List S) (parts : List Part) (i : ℕ) (sum : Part) → length rows ≤ i → sum.length ≤ 2 ^ 64 - 1 → Adds slot rows parts i sum → SumsUp slot rows parts sum
unfolding Adds
adds-all slot rows parts i sum all few adds =
    let none : length (drop i rows) ≡ 0 = omega (arith, length-drop i rows) in
    subst (SumsUp slot rows parts) (nothing-behind sum few) (adds (a_part 0 None) (omega arith) (sums-nothing slot (drop i rows) (drop i parts) none))

take-behind : {X : Type 0} (xs : List X) (n : ℕ) → take (length xs - n) (drop n xs) ≡ drop n xs
take-behind xs n = take_all (length xs - n) (drop n xs) (omega (arith, length-drop n xs))

-- the same as `adds-one`, where the fields after are taken to the end
pub adds-next : {S : Type 0} (slot : S → Slot) (rows : List S) (parts : List Part) (i : ℕ) (row : S) (d sum : Part) (own_part : Option ℕ) → i < length rows → i < length parts → row ≡ get_or rows i row
    → ((held : Held (slot row)) → get_or parts i d ≡ part_of (slot row) held → (values : Values (form_of (map slot (take (length rows - (i + 1)) (drop (i + 1) rows)))))
    → AreParts (map slot (take (length rows - (i + 1)) (drop (i + 1) rows))) values (take (length parts - (i + 1)) (drop (i + 1) parts))
    → own_part ≡ own_missing (slot row) held (is_set (form_of (map slot (take (length rows - (i + 1)) (drop (i + 1) rows)))) values))
    → Adds slot rows parts i sum → Adds slot rows parts (i + 1) (both sum (a_part (get_or parts i d).length own_part))
adds-next {S} slot rows parts i row d sum own_part within some is_row misses adds =
    adds-one slot rows parts i row d sum own_part within some is_row
    (subst (Misses (drop (i + 1) rows)) (take-behind parts (i + 1)) (subst (λ others. Misses others (take (length parts - (i + 1)) (drop (i + 1) parts))) (take-behind rows (i + 1)) misses)) adds
  where
    Misses : List S → List Part → Type 0
    Misses others behind = (held : Held (slot row)) → get_or parts i d ≡ part_of (slot row) held → (values : Values (form_of (map slot others))) → AreParts (map slot others) values behind
        → own_part ≡ own_missing (slot row) held (is_set (form_of (map slot others)) values)
