-- What is kept of the fields of a message, field by field.
use Rattle.mum_fields.proofs.Common.{◌≡◌, ◌==◌, ℕ, ◌+◌, ◌-◌, ◌^◌, ◌<◌, ◌≤◌, Bool, true, false, cond, ltb, eq-eqb, List, [], ◌∷◌, ◌++◌, map, min, lengthN, Option, Some, None, Result, Ok, Err, refl, sym, ap, subst, ◌∙◌, arith, unwrap_or, option_map, Bor, ne_eqb, lt-ltb, map-append, append-nil, FieldFault, MessageFault, Part, CodeValue, Scalar, FieldShape, Kind, Number, Utf8, Raw, Label, Optional, Required, RequiredOr, Repeated, Entry, Cursor, Walk, fields, packed, content_of, Item, written, varint_item, block_item, each_number, first_fault, value_fault, newer, or_else, text, Field, value_of, One, Value, Layout, Values, no_values, value_after, values_after, one_in, all_in, scalar_number, one_item, each_item, row_items, each_message, items, rule_of, rules, lesser, least, missing, missing_in, is_set, has_value, whole, gathered, unless_missing, decoded_by, cut, size, spelled_size, Slot, Single, Many, number_of, label_of, flat, layer, form_of, Held, part_of, held_after, slot_rule, own, later, own_missing, Grows, answered, whole_part, outlined, one_size, all_size}
use Rattle.mum_fields.proofs.{Missing.least-more, Sizes.size-append, Sizes.size-some}
use Rattle.mum_fields.specs.declared.message.MessageFault.TheVariants as faults
use Rattle.mum_fields.specs.declared.field.Value.TheVariants as values

abbrev ok_of : {X Y : Type 0} → X → Result X Y
ok_of x = Ok x

abbrev same_part : ℕ → Option ℕ → Part
same_part n o = record { length = n; missing = o }

-- ---- answers

pub answered-fault : {X : Type 0} (found : Option FieldFault) (fault : FieldFault) (x : X) → found ≡ Some fault → Err fault ≡ answered found x
answered-fault found fault x is = rw is refl

pub answered-whole : {X : Type 0} (found : Option FieldFault) (x y : X) → found ≡ None → x ≡ y → Ok x ≡ answered found y
answered-whole found x y is same = rw (is, same) refl

pub ok-answered : {X : Type 0} (found : Option FieldFault) (x y : X) → Ok x ≡ answered found y → (found ≡ None) × (x ≡ y)
ok-answered (Some fault) x y h = absurd cc
ok-answered None x y h = (refl, cc)

pub err-answered : {X : Type 0} (found : Option FieldFault) (fault : FieldFault) (y : X) → Err fault ≡ answered found y → found ≡ Some fault
err-answered (Some other) fault y h = let same : fault ≡ other = cc in ap Some (sym same)
err-answered None fault y h = absurd cc

pub ok-same : {X Y : Type 0} (x y : X) → ok_of {X = X} {Y = Y} x ≡ ok_of y → x ≡ y
ok-same x y h = cc

-- ---- sizes of what one field gives

pub number-is : (scalar known : Scalar) (n result : ℕ) → scalar ≡ known → result ≡ scalar_number known (value_of known n) → result ≡ scalar_number scalar (value_of scalar n)
number-is scalar known n result is h = subst (λ s. result ≡ scalar_number s (value_of s n)) (sym is) h

abbrev entry : ℕ → CodeValue → ℕ → Entry
entry number value place = record { number = number; content = content_of value; place = place }

pub one-number : (kind : Kind) (scalar : Scalar) (number m place n one : ℕ) (value : CodeValue) → kind ≡ Number scalar → value ≡ values.Varint n → one ≡ size (varint_item number (scalar_number scalar (value_of scalar n)) ∷ [])
    → Ok (Some one) ≡ one_size kind number (entry m value place)
one-number kind scalar number m place n one value is_kind is same = subst (λ k. Ok (Some one) ≡ one_size k number (entry m value place)) (sym is_kind) (rw (is, same) refl)

pub one-no_number : (kind : Kind) (scalar : Scalar) (number m place : ℕ) (value : CodeValue) → kind ≡ Number scalar → ((n : ℕ) → value ≡ values.Varint n → ⊥) → Ok None ≡ one_size kind number (entry m value place)
one-no_number kind scalar number m place (values.Varint n) is_kind never = absurd (never n refl)
one-no_number kind scalar number m place (values.Fixed8 n) is_kind never = subst (λ k. Ok None ≡ one_size k number (entry m (values.Fixed8 n) place)) (sym is_kind) refl
one-no_number kind scalar number m place (values.Block b) is_kind never = subst (λ k. Ok None ≡ one_size k number (entry m (values.Block b) place)) (sym is_kind) refl
one-no_number kind scalar number m place (values.Fixed4 n) is_kind never = subst (λ k. Ok None ≡ one_size k number (entry m (values.Fixed4 n) place)) (sym is_kind) refl

pub one-text : (kind : Kind) (number m place one : ℕ) (value : CodeValue) (b : Bor (List ℕ)) → kind ≡ Utf8 → value ≡ values.Block b → text place b.now ≡ None → one ≡ size (block_item number b.now ∷ [])
    → Ok (Some one) ≡ one_size kind number (entry m value place)
one-text kind number m place one value b is_kind is clean same =
    subst (λ k. Ok (Some one) ≡ one_size k number (entry m value place)) (sym is_kind)
    (subst (λ v. Ok (Some one) ≡ one_size Utf8 number (entry m v place)) (sym is) (answered-whole (text place b.now) (Some one) (Some (size (block_item number b.now ∷ []))) clean (ap Some same)))

pub one-raw : (kind : Kind) (number m place one : ℕ) (value : CodeValue) (b : Bor (List ℕ)) → kind ≡ Raw → value ≡ values.Block b → one ≡ size (block_item number b.now ∷ [])
    → Ok (Some one) ≡ one_size kind number (entry m value place)
one-raw kind number m place one value b is_kind is same = subst (λ k. Ok (Some one) ≡ one_size k number (entry m value place)) (sym is_kind) (rw (is, same) refl)

pub one-no_text : (kind : Kind) (number m place : ℕ) (value : CodeValue) → kind ≡ Utf8 → ((b : Bor (List ℕ)) → value ≡ values.Block b → ⊥) → Ok None ≡ one_size kind number (entry m value place)
one-no_text kind number m place (values.Varint n) is_kind never = subst (λ k. Ok None ≡ one_size k number (entry m (values.Varint n) place)) (sym is_kind) refl
one-no_text kind number m place (values.Fixed8 n) is_kind never = subst (λ k. Ok None ≡ one_size k number (entry m (values.Fixed8 n) place)) (sym is_kind) refl
one-no_text kind number m place (values.Block b) is_kind never = absurd (never b refl)
one-no_text kind number m place (values.Fixed4 n) is_kind never = subst (λ k. Ok None ≡ one_size k number (entry m (values.Fixed4 n) place)) (sym is_kind) refl

pub one-no_raw : (kind : Kind) (number m place : ℕ) (value : CodeValue) → kind ≡ Raw → ((b : Bor (List ℕ)) → value ≡ values.Block b → ⊥) → Ok None ≡ one_size kind number (entry m value place)
one-no_raw kind number m place (values.Varint n) is_kind never = subst (λ k. Ok None ≡ one_size k number (entry m (values.Varint n) place)) (sym is_kind) refl
one-no_raw kind number m place (values.Fixed8 n) is_kind never = subst (λ k. Ok None ≡ one_size k number (entry m (values.Fixed8 n) place)) (sym is_kind) refl
one-no_raw kind number m place (values.Block b) is_kind never = absurd (never b refl)
one-no_raw kind number m place (values.Fixed4 n) is_kind never = subst (λ k. Ok None ≡ one_size k number (entry m (values.Fixed4 n) place)) (sym is_kind) refl

pub all-packed : (kind : Kind) (scalar : Scalar) (number m place : ℕ) (value : CodeValue) (b : Bor (List ℕ)) (cursor : Cursor) (result : Result ℕ FieldFault) → kind ≡ Number scalar → value ≡ values.Block b → cursor ≡ record { place = place; rest = b.now }
    → result ≡ answered (packed cursor).fault (size (each_number (scalar_number scalar) number (map (value_of scalar) (packed cursor).items)))
    → result ≡ all_size kind number (entry m value place)
all-packed kind scalar number m place value b cursor result is_kind is begins h =
    subst (λ k. result ≡ all_size k number (entry m value place)) (sym is_kind)
    (subst (λ v. result ≡ all_size (Number scalar) number (entry m v place)) (sym is)
    (subst (λ (c : Cursor). result ≡ answered (packed c).fault (size (each_number (scalar_number scalar) number (map (value_of scalar) (packed c).items)))) begins h))

-- all that a field gives is the one value, but for packed numbers
pub all-one : (kind : Kind) (number m place : ℕ) (value : CodeValue) (given : Option ℕ) → ((scalar : Scalar) → kind ≡ Number scalar → (b : Bor (List ℕ)) → value ≡ values.Block b → ⊥)
    → one_size kind number (entry m value place) ≡ Ok given → Ok (unwrap_or given 0) ≡ all_size kind number (entry m value place)
all-one (Number scalar) number m place (values.Varint n) given never h = ap (λ o. Ok (unwrap_or o 0)) (sym (ok-same _ given h))
all-one (Number scalar) number m place (values.Fixed8 n) given never h = ap (λ o. Ok (unwrap_or o 0)) (sym (ok-same _ given h))
all-one (Number scalar) number m place (values.Block b) given never h = absurd (never scalar refl b refl)
all-one (Number scalar) number m place (values.Fixed4 n) given never h = ap (λ o. Ok (unwrap_or o 0)) (sym (ok-same _ given h))
all-one Utf8 number m place (values.Varint n) given never h = ap (λ o. Ok (unwrap_or o 0)) (sym (ok-same _ given h))
all-one Utf8 number m place (values.Fixed8 n) given never h = ap (λ o. Ok (unwrap_or o 0)) (sym (ok-same _ given h))
all-one Utf8 number m place (values.Block b) given never h =
    let got = ok-answered (text place b.now) given (Some (size (block_item number b.now ∷ []))) (sym h) in
    answered-whole (text place b.now) (unwrap_or given 0) (size (block_item number b.now ∷ [])) got.0 (ap (λ o. unwrap_or o 0) got.1)
all-one Utf8 number m place (values.Fixed4 n) given never h = ap (λ o. Ok (unwrap_or o 0)) (sym (ok-same _ given h))
all-one Raw number m place (values.Varint n) given never h = ap (λ o. Ok (unwrap_or o 0)) (sym (ok-same _ given h))
all-one Raw number m place (values.Fixed8 n) given never h = ap (λ o. Ok (unwrap_or o 0)) (sym (ok-same _ given h))
all-one Raw number m place (values.Block b) given never h = ap (λ o. Ok (unwrap_or o 0)) (sym (ok-same _ given h))
all-one Raw number m place (values.Fixed4 n) given never h = ap (λ o. Ok (unwrap_or o 0)) (sym (ok-same _ given h))

-- ---- one field

-- the size of a value is that of the last that was given
one-last : (kind : Kind) (number before : ℕ) (o v : Option (One kind)) (given : Option ℕ) → given ≡ option_map (λ x. size (one_item kind number (Some x))) o → before ≡ size (one_item kind number v)
    → size (one_item kind number (or_else o v)) ≡ unwrap_or given before
one-last kind number before None v given is was = rw is (sym was)
one-last kind number before (Some x) v given is was = rw is refl

each-append : (kind : Kind) (number : ℕ) (xs ys : List (One kind)) → each_item kind number (xs ++ ys) ≡ each_item kind number xs ++ each_item kind number ys
each-append (Number scalar) number xs ys = map-append (λ x. varint_item number (scalar_number scalar x)) xs ys
each-append Utf8 number xs ys = map-append (block_item number) xs ys
each-append Raw number xs ys = map-append (block_item number) xs ys

abbrev shape : Label → Kind → ℕ → FieldShape
shape label kind number = record { label = label; kind = kind; number = number }

abbrev plain : ℕ → Part
plain n = record { length = n; missing = None }

-- the size after one more field, where the last counts
last-size : (kind : Kind) (number : ℕ) (before : Part) (e : Entry) (given : Option ℕ) (held : Option (One kind)) (found : Option FieldFault) → found ≡ value_fault (rule_of Optional kind) e → e.number ≡ number
    → Ok given ≡ one_size kind number e → before ≡ plain (size (one_item kind number held))
    → Ok (plain (unwrap_or given before.length)) ≡ answered found (plain (size (one_item kind number (newer (one_in kind) number held e))))
last-size kind number before e given held found is_found own h was =
    let got = ok-answered (value_fault (rule_of Optional kind) e) given (option_map (λ x. size (one_item kind number (Some x))) (one_in kind e)) h in
    let last = one-last kind number before.length (one_in kind e) held given got.1 (ap (λ (p : Part). p.length) was) in
    rw (eq-eqb e.number number own) (answered-whole found _ _ (is_found ∙ got.0) (ap plain (sym last)))

pub grows-one : (label : Label) (kind : Kind) (number : ℕ) (before : Part) (e : Entry) (given : Option ℕ) → (label ≡ Repeated → ⊥) → e.number ≡ number → Ok given ≡ one_size kind number e
    → Grows (Single (shape label kind number)) before e (Ok (plain (unwrap_or given before.length)))
grows-one Optional kind number before e given single own h = λ held was. last-size kind number before e given held _ refl own h was
grows-one Required kind number before e given single own h = λ held was. last-size kind number before e given held _ (rule_same kind) own h was
  where
    rule_same : (k : Kind) → value_fault (rule_of Required k) e ≡ value_fault (rule_of Optional k) e
    rule_same (Number scalar) = refl
    rule_same Utf8 = refl
    rule_same Raw = refl
grows-one (RequiredOr other) kind number before e given single own h = λ held was. last-size kind number before e given held _ (rule_same kind) own h was
  where
    rule_same : (k : Kind) → value_fault (rule_of (RequiredOr other) k) e ≡ value_fault (rule_of Optional k) e
    rule_same (Number scalar) = refl
    rule_same Utf8 = refl
    rule_same Raw = refl
grows-one Repeated kind number before e given single own h = absurd (single refl)

single_fault : (label : Label) (kind : Kind) (e : Entry) → (label ≡ Repeated → ⊥) → value_fault (rule_of label kind) e ≡ value_fault (rule_of Optional kind) e
single_fault Optional kind e single = refl
single_fault Required (Number scalar) e single = refl
single_fault Required Utf8 e single = refl
single_fault Required Raw e single = refl
single_fault (RequiredOr other) (Number scalar) e single = refl
single_fault (RequiredOr other) Utf8 e single = refl
single_fault (RequiredOr other) Raw e single = refl
single_fault Repeated kind e single = absurd (single refl)

pub grows-one_fault : (label : Label) (kind : Kind) (number : ℕ) (before : Part) (e : Entry) (fault : FieldFault) → (label ≡ Repeated → ⊥) → Err fault ≡ one_size kind number e
    → Grows (Single (shape label kind number)) before e (Err fault)
grows-one_fault label kind number before e fault single h = λ held was.
    answered-fault (value_fault (rule_of label kind) e) fault _ (single_fault label kind e single ∙ err-answered (value_fault (rule_of Optional kind) e) fault _ h)

pub grows-all : (label : Label) (kind : Kind) (number : ℕ) (before : Part) (e : Entry) (more length : ℕ) → label ≡ Repeated → e.number ≡ number → Ok more ≡ all_size kind number e → length ≡ min (before.length + more) (2 ^ 64 - 1)
    → Grows (Single (shape label kind number)) before e (Ok (plain length))
grows-all label kind number before e more length is own h sum =
    subst (λ l. Grows (Single (shape l kind number)) before e (Ok (plain length))) (sym is) (λ held was.
    let got = ok-answered (value_fault (rule_of Repeated kind) e) more (size (each_item kind number (all_in kind e))) h in
    let whole = ap size (each-append kind number held (all_in kind e)) ∙ size-append (each_item kind number held) (each_item kind number (all_in kind e)) in
    let old : before.length ≡ size (each_item kind number held) = ap (λ (p : Part). p.length) was in
    rw (eq-eqb e.number number own) (answered-whole (value_fault (rule_of Repeated kind) e) _ _ got.0 (ap plain (sum ∙ ap (λ n. min (n + more) (2 ^ 64 - 1)) old ∙ ap (λ n. min (size (each_item kind number held) + n) (2 ^ 64 - 1)) got.1 ∙ sym whole))))

pub grows-all_fault : (label : Label) (kind : Kind) (number : ℕ) (before : Part) (e : Entry) (fault : FieldFault) → label ≡ Repeated → Err fault ≡ all_size kind number e
    → Grows (Single (shape label kind number)) before e (Err fault)
grows-all_fault label kind number before e fault is h =
    subst (λ l. Grows (Single (shape l kind number)) before e (Err fault)) (sym is) (λ held was. answered-fault (value_fault (rule_of Repeated kind) e) fault _ (err-answered (value_fault (rule_of Repeated kind) e) fault _ h))

-- the same field by another name
pub grows-as : (slot other : Slot) (before : Part) (e : Entry) (result : Result Part FieldFault) → slot ≡ other → Grows other before e result → Grows slot before e result
grows-as slot other before e result is h = subst (λ s. Grows s before e result) (sym is) h

-- ---- one block

pub form-flat : (inside : List FieldShape) → form_of (map Single inside) ≡ flat inside
form-flat [] = refl
form-flat (field ∷ inside) = ap (Field field.label field.kind field.number) (form-flat inside)

abbrev message_part : Layout → Walk Entry → Part
message_part form w = whole_part form (values_after form (no_values form) w.items)

pub grows-block : (inside : List FieldShape) (number m place more length : ℕ) (before part : Part) (value : CodeValue) (b : Bor (List ℕ)) → value ≡ values.Block b → m ≡ number
    → Ok part ≡ outlined (flat inside) (fields (record { place = place; rest = b.now })) → ((block : List ℕ) → part.length ≡ cut (lengthN block) → more ≡ size (block_item number block ∷ []))
    → length ≡ min (before.length + more) (2 ^ 64 - 1)
    → Grows (Many inside number) before (entry m value place) (Ok (record { length = length; missing = lesser before.missing part.missing }))
grows-block inside number m place more length before part value b is own h sized sum =
    subst (λ v. Grows (Many inside number) before (entry m v place) (Ok (record { length = length; missing = lesser before.missing part.missing }))) (sym is) (λ held was.
    let form = flat inside in
    let w = fields (record { place = place; rest = b.now }) in
    let x = values_after form (no_values form) w.items in
    let got = ok-answered (first_fault (rules form) w.items w.fault) part (whole_part form x) h in
    let one = λ (y : Values form). block_item number (written (items form y)) in
    let own_size : more ≡ size (one x ∷ []) = sized (written (items form x)) (ap (λ (p : Part). p.length) got.1) in
    let both : size (each_message (items form) number (held ++ x ∷ [])) ≡ min (size (each_message (items form) number held) + size (one x ∷ [])) (2 ^ 64 - 1) = ap size (map-append one held (x ∷ [])) ∙ size-append (map one held) (one x ∷ []) in
    let lengths : length ≡ size (each_message (items form) number (held ++ x ∷ [])) = sum ∙ ap (λ (p : Part). min (p.length + more) (2 ^ 64 - 1)) was ∙ ap (λ n. min (size (each_message (items form) number held) + n) (2 ^ 64 - 1)) own_size ∙ sym both in
    let misses : lesser before.missing part.missing ≡ least (map (missing form) (held ++ x ∷ [])) = ap (λ (p : Part). lesser p.missing part.missing) was ∙ ap (λ (p : Part). lesser (least (map (missing form) held)) p.missing) got.1 ∙ sym (ap least (map-append (missing form) held (x ∷ [])) ∙ least-more (map (missing form) held) (missing form x)) in
    rw (eq-eqb m number own) (answered-whole (first_fault (rules form) w.items w.fault) _ _ got.0 (both_same length _ _ _ lengths misses)))
  where
    both_same : (n k : ℕ) (o p : Option ℕ) → n ≡ k → o ≡ p → same_part n o ≡ same_part k p
    both_same n k o p first second = rw (first, second) refl

pub grows-block_fault : (inside : List FieldShape) (number m place : ℕ) (before : Part) (value : CodeValue) (b : Bor (List ℕ)) (fault : FieldFault) → value ≡ values.Block b
    → Err fault ≡ outlined (flat inside) (fields (record { place = place; rest = b.now }))
    → Grows (Many inside number) before (entry m value place) (Err fault)
grows-block_fault inside number m place before value b fault is h =
    subst (λ v. Grows (Many inside number) before (entry m v place) (Err fault)) (sym is) (λ held was.
    let form = flat inside in
    let w = fields (record { place = place; rest = b.now }) in
    answered-fault (first_fault (rules form) w.items w.fault) fault _ (err-answered (first_fault (rules form) w.items w.fault) fault (message_part form w) h))

pub grows-no_block : (inside : List FieldShape) (number m place : ℕ) (before : Part) (value : CodeValue) → m ≡ number → ((b : Bor (List ℕ)) → value ≡ values.Block b → ⊥)
    → Grows (Many inside number) before (entry m value place) (Ok before)
grows-no_block inside number m place before (values.Varint n) own never = λ held was. rw (eq-eqb m number own, append-nil) (ap Ok was)
grows-no_block inside number m place before (values.Fixed8 n) own never = λ held was. rw (eq-eqb m number own, append-nil) (ap Ok was)
grows-no_block inside number m place before (values.Block b) own never = absurd (never b refl)
grows-no_block inside number m place before (values.Fixed4 n) own never = λ held was. rw (eq-eqb m number own, append-nil) (ap Ok was)
