-- What is kept of all fields of a message: one field of the payload goes into the part of its number, and the
-- parts sum up to the message.
use Rattle.mum_fields.proofs.Common.{◌≡◌, ◌==◌, ℕ, zero, suc, ◌+◌, ◌-◌, ◌^◌, ◌<◌, ◌≤◌, ◌&&◌, Bool, true, false, cond, ltb, leb, eq-eqb, List, [], ◌∷◌, ◌++◌, length, get_or, set, map, min, Option, Some, None, Result, Ok, Err, refl, sym, ap, subst, ◌∙◌, arith, list_all, AllByRecursion, replicate, length-map, FIELD_LIMIT, ne_eqb, lt-ltb, le-ltb, ltb-true, ltb-false, leb-true, FieldFault, MessageFault, Part, FieldShape, Kind, Number, Utf8, Raw, Label, Optional, Required, RequiredOr, Repeated, Entry, last_number, Walk, Item, written, varint_item, block_item, Rule, any_block, first_fault, entry_fault, value_fault, One, scalar_number, unset, Value, Layout, Values, no_values, value_after, values_after, row_items, one_item, each_item, each_message, items, rules, lesser, least, missing, missing_in, is_set, has_items, has_value, rising, whole, gathered, size, spelled_size, Slot, Single, Many, number_of, label_of, flat, layer, form_of, has_number, is_sound, has_room, Held, part_of, held_after, slot_rule, own, later, AreParts, own_missing, Grows, Takes, answered, whole_part, outlined}
use Rattle.mum_fields.proofs.{Outlines.ok-answered, Outlines.err-answered, Outlines.form-flat, ReadBack.Rises, ReadBack.first_true, ReadBack.second_true, Sizes.size-append, Sizes.size-some}
use Rattle.mum_fields.specs.declared.message.MessageFault.TheVariants as faults

-- ---- the values of a field and of those after it

own-after : (slot : Slot) (others : Layout) (values : Values (layer slot others)) (e : Entry) → own slot others (values_after (layer slot others) values (e ∷ [])) ≡ held_after slot (own slot others values) e
own-after (Single field) others values e = refl
own-after (Many inside number) others values e = refl

later-after : (slot : Slot) (others : Layout) (values : Values (layer slot others)) (e : Entry) → later slot others (values_after (layer slot others) values (e ∷ [])) ≡ values_after others (later slot others values) (e ∷ [])
later-after (Single field) others values e = refl
later-after (Many inside number) others values e = refl

value-other : (label : Label) (kind : Kind) (number : ℕ) (before : Value label kind) (e : Entry) → (e.number ≡ number → ⊥) → value_after label kind number before (e ∷ []) ≡ before
value-other Optional kind number before e other = rw (ne_eqb e.number number other) refl
value-other Required kind number before e other = rw (ne_eqb e.number number other) refl
value-other (RequiredOr n) kind number before e other = rw (ne_eqb e.number number other) refl
value-other Repeated kind number before e other = rw (ne_eqb e.number number other) refl

-- a field of another number changes nothing
held-other : (slot : Slot) (held : Held slot) (e : Entry) → (e.number ≡ number_of slot → ⊥) → held_after slot held e ≡ held
held-other (Single field) held e other = value-other field.label field.kind field.number held e other
held-other (Many inside number) held e other = rw (ne_eqb e.number number other) refl

pub parts-others : (slots : List Slot) (values : Values (form_of slots)) (parts : List Part) (e : Entry) → AllByRecursion (λ slot. e.number ≡ number_of slot → ⊥) slots → AreParts slots values parts → AreParts slots (values_after (form_of slots) values (e ∷ [])) parts
parts-others [] values parts e others h = tt
parts-others (slot ∷ slots) values [] e others h = absurd h
parts-others (slot ∷ slots) values (part ∷ parts) e others h =
    let rest = form_of slots in
    let same : own slot rest (values_after (layer slot rest) values (e ∷ [])) ≡ own slot rest values = own-after slot rest values e ∙ held-other slot (own slot rest values) e others.0 in (
      h.0 ∙ ap (part_of slot) (sym same),
      subst (λ v. AreParts slots v parts) (sym (later-after slot rest values e)) (parts-others slots (later slot rest values) parts e others.1 h.1),
    )

rule-there : (slot : Slot) (others : Layout) (n : ℕ) → (n ≡ number_of slot → ⊥) → rules (layer slot others) n ≡ rules others n
rule-there (Single field) others n other = rw (ne_eqb n field.number other) refl
rule-there (Many inside number) others n other = rw (ne_eqb n number other) refl

rule-here : (slot : Slot) (others : Layout) (n : ℕ) → n ≡ number_of slot → rules (layer slot others) n ≡ slot_rule slot
rule-here (Single field) others n own = rw (eq-eqb n field.number own) refl
rule-here (Many inside number) others n own = rw (eq-eqb n number own) refl

pub rule-others : (slots : List Slot) (n : ℕ) → AllByRecursion (λ slot. n ≡ number_of slot → ⊥) slots → rules (form_of slots) n ≡ any_block
rule-others [] n others = refl
rule-others (slot ∷ slots) n others = rule-there slot (form_of slots) n others.0 ∙ rule-others slots n others.1

-- ---- numbers that rise

record RisesBy (low : ℕ) (slot : Slot) (others : Layout) : Type 0 where
  above : low < number_of slot
  behind : Rises (number_of slot) others

rises-by : (low : ℕ) (slot : Slot) (others : Layout) → Rises low (layer slot others) → RisesBy low slot others
rises-by low (Single field) others up = record { above = up.0; behind = up.2 }
rises-by low (Many inside number) others up = record { above = up.0; behind = up.2 }

others-behind : (low : ℕ) (slots : List Slot) (n : ℕ) → n ≤ low → Rises low (form_of slots) → AllByRecursion (λ slot. n ≡ number_of slot → ⊥) slots
others-behind low [] n most up = tt
others-behind low (slot ∷ slots) n most up =
    let by = rises-by low slot (form_of slots) up in
    let above = by.above in
    ((λ e. omega arith), others-behind (number_of slot) slots n (omega arith) by.behind)

above-low : (low : ℕ) (slots : List Slot) (i : ℕ) (slot : Slot) → Rises low (form_of slots) → i < length slots → slot ≡ get_or slots i slot → low < number_of slot
above-low low [] i slot up within is = absurd (omega arith)
above-low low (first ∷ slots) zero slot up within is = let above = (rises-by low first (form_of slots) up).above in let same = ap number_of is in omega arith
above-low low (first ∷ slots) (suc i) slot up within is =
    let by = rises-by low first (form_of slots) up in
    let above = by.above in
    let more = above-low (number_of first) slots i slot by.behind (omega arith) is in
    omega arith

-- ---- one field of the payload

-- the part of a field that is found, and what there is once it has grown
pub record Found (slots : List Slot) (values : Values (form_of slots)) (parts : List Part) (e : Entry) (i : ℕ) (slot : Slot) : Type 0 where
  pub held : Held slot
  pub is : (d : Part) → get_or parts i d ≡ part_of slot held
  pub rule : rules (form_of slots) e.number ≡ slot_rule slot
  pub grown : (part : Part) → part ≡ part_of slot (held_after slot held e) → AreParts slots (values_after (form_of slots) values (e ∷ [])) (set parts i part)

pub found : (low : ℕ) (slots : List Slot) (values : Values (form_of slots)) (parts : List Part) (e : Entry) (i : ℕ) (slot : Slot) → Rises low (form_of slots) → AreParts slots values parts
    → i < length slots → slot ≡ get_or slots i slot → e.number ≡ number_of slot → Found slots values parts e i slot
found low [] values parts e i slot up h within is own_number = absurd (omega arith)
found low (first ∷ slots) values [] e i slot up h within is own_number = absurd h
found low (first ∷ slots) values (part ∷ parts) e zero slot up h within is own_number =
    let rest = form_of slots in
    let by = rises-by low first rest up in
    let same = own_number ∙ ap number_of is in
    subst (λ s. Found (first ∷ slots) values (part ∷ parts) e zero s) (sym is) (record {
      held = own first rest values;
      is = λ d. h.0;
      rule = rule-here first rest e.number same;
      grown = λ now is_now. (
        is_now ∙ ap (part_of first) (sym (own-after first rest values e)),
        subst (λ v. AreParts slots v parts) (sym (later-after first rest values e)) (parts-others slots (later first rest values) parts e (others-behind (number_of first) slots e.number (omega arith) by.behind) h.1),
      );
    })
found low (first ∷ slots) values (part ∷ parts) e (suc i) slot up h within is own_number =
    let rest = form_of slots in
    let by = rises-by low first rest up in
    let above = above-low (number_of first) slots i slot by.behind (omega arith) is in
    let f = found (number_of first) slots (later first rest values) parts e i slot by.behind h.1 (omega arith) is own_number in
    let other : e.number ≡ number_of first → ⊥ = λ same. omega arith in
    let kept = own-after first rest values e ∙ held-other first (own first rest values) e other in
    record {
      held = f.held;
      is = f.is;
      rule = rule-there first rest e.number other ∙ f.rule;
      grown = λ now is_now. (
        h.0 ∙ ap (part_of first) (sym kept),
        subst (λ v. AreParts slots v (set parts i now)) (sym (later-after first rest values e)) (f.grown now is_now),
      );
    }

-- ---- the sum of the parts

abbrev slot_items : (slot : Slot) → Held slot → List Item
slot_items (Single field) held = row_items field.label field.kind field.number held
slot_items (Many inside number) held = each_message (items (flat inside)) number held

items-layer : (slot : Slot) (others : Layout) (values : Values (layer slot others)) → items (layer slot others) values ≡ slot_items slot (own slot others values) ++ items others (later slot others values)
items-layer (Single field) others values = refl
items-layer (Many inside number) others values = refl

part-length : (slot : Slot) (held : Held slot) → (part_of slot held).length ≡ size (slot_items slot held)
part-length (Single field) held = refl
part-length (Many inside number) held = refl

missing-layer : (slot : Slot) (others : Layout) (values : Values (layer slot others)) → missing (layer slot others) values ≡ lesser (own_missing slot (own slot others values) (is_set others (later slot others values))) (missing others (later slot others values))
missing-layer (Single field) others values = refl
missing-layer (Many inside number) others values = refl

abbrev some_part : ℕ → Option ℕ → Part
some_part length missing = record { length = length; missing = missing }

same_parts : (a b : ℕ) (x y : Option ℕ) → a ≡ b → x ≡ y → some_part a x ≡ some_part b y
same_parts a b x y first second = rw (first, second) refl

-- the part of a field before those after it
pub whole-more : (slot : Slot) (others : Layout) (values : Values (layer slot others)) (part rest : Part) (own_part : Option ℕ) → part ≡ part_of slot (own slot others values) → rest ≡ whole_part others (later slot others values)
    → own_part ≡ own_missing slot (own slot others values) (is_set others (later slot others values))
    → some_part (min (part.length + rest.length) (2 ^ 64 - 1)) (lesser own_part rest.missing) ≡ whole_part (layer slot others) values
whole-more slot others values part rest own_part is is_rest misses =
    let mine : part.length ≡ size (slot_items slot (own slot others values)) = ap (λ (p : Part). p.length) is ∙ part-length slot (own slot others values) in
    let theirs : rest.length ≡ size (items others (later slot others values)) = ap (λ (p : Part). p.length) is_rest in
    same_parts _ _ _ _
    (ap (λ n. min (n + rest.length) (2 ^ 64 - 1)) mine ∙ ap (λ n. min (size (slot_items slot (own slot others values)) + n) (2 ^ 64 - 1)) theirs ∙ sym (ap size (items-layer slot others values) ∙ size-append (slot_items slot (own slot others values)) (items others (later slot others values))))
    (ap (λ o. lesser o rest.missing) misses ∙ ap (λ (p : Part). lesser (own_missing slot (own slot others values) (is_set others (later slot others values))) p.missing) is_rest ∙ sym (missing-layer slot others values))

-- ---- what is set, and what is missing

one-none : (kind : Kind) (number : ℕ) → size (one_item kind number None) ≡ 0
one-none (Number scalar) number = refl
one-none Utf8 number = refl
one-none Raw number = refl

one-some : (kind : Kind) (number : ℕ) (x : One kind) → 0 < size (one_item kind number (Some x))
one-some (Number scalar) number x = size-some (varint_item number (scalar_number scalar x)) []
one-some Utf8 number x = size-some (block_item number x) []
one-some Raw number x = size-some (block_item number x) []

each-none : (kind : Kind) (number : ℕ) → size (each_item kind number []) ≡ 0
each-none (Number scalar) number = refl
each-none Utf8 number = refl
each-none Raw number = refl

each-some : (kind : Kind) (number : ℕ) (x : One kind) (xs : List (One kind)) → 0 < size (each_item kind number (x ∷ xs))
each-some (Number scalar) number x xs = size-some (varint_item number (scalar_number scalar x)) (each_item (Number scalar) number xs)
each-some Utf8 number x xs = size-some (block_item number x) (each_item Utf8 number xs)
each-some Raw number x xs = size-some (block_item number x) (each_item Raw number xs)

none-test : (n : ℕ) → n ≡ 0 → ltb 0 n ≡ false
none-test n is = rw is refl

value-set : (label : Label) (kind : Kind) (number : ℕ) (value : Value label kind) → ltb 0 (size (row_items label kind number value)) ≡ has_value label kind value
value-set Optional kind number None = none-test _ (one-none kind number)
value-set Optional kind number (Some x) = lt-ltb 0 _ (one-some kind number x)
value-set Required kind number None = none-test _ (one-none kind number)
value-set Required kind number (Some x) = lt-ltb 0 _ (one-some kind number x)
value-set (RequiredOr other) kind number None = none-test _ (one-none kind number)
value-set (RequiredOr other) kind number (Some x) = lt-ltb 0 _ (one-some kind number x)
value-set Repeated kind number [] = none-test _ (each-none kind number)
value-set Repeated kind number (x ∷ xs) = lt-ltb 0 _ (each-some kind number x xs)

blocks-set : (inside : Layout) (number : ℕ) (xs : List (Values inside)) → ltb 0 (size (each_message (items inside) number xs)) ≡ has_items xs
blocks-set inside number [] = refl
blocks-set inside number (x ∷ xs) = lt-ltb 0 _ (size-some (block_item number (written (items inside x))) (each_message (items inside) number xs))

-- the field of a number is set where its part has a length
pub set-here : (slot : Slot) (others : Layout) (values : Values (layer slot others)) (part : Part) (n : ℕ) → part ≡ part_of slot (own slot others values) → number_of slot ≡ n
    → ltb 0 part.length ≡ is_set (layer slot others) values n
set-here (Single field) others values part n is same =
    rw (eq-eqb n field.number (sym same)) (ap (λ (p : Part). ltb 0 p.length) is ∙ value-set field.label field.kind field.number values.0)
set-here (Many inside number) others values part n is same =
    rw (eq-eqb n number (sym same)) (ap (λ (p : Part). ltb 0 p.length) is ∙ blocks-set (flat inside) number values.0)

pub set-there : (slot : Slot) (others : Layout) (values : Values (layer slot others)) (n : ℕ) → (number_of slot ≡ n → ⊥) → is_set (layer slot others) values n ≡ is_set others (later slot others values) n
set-there (Single field) others values n other = rw (ne_eqb n field.number (λ e. other (sym e))) refl
set-there (Many inside number) others values n other = rw (ne_eqb n number (λ e. other (sym e))) refl

no_size : (n : ℕ) → n ≡ 0 → 0 < n → ⊥
no_size n is more = omega arith

set-single : (label : Label) (kind : Kind) (number : ℕ) (value : Value label kind) (f : ℕ → Bool) → 0 < size (row_items label kind number value) → missing_in label kind number value f ≡ None
set-single Optional kind number value f more = refl
set-single Required kind number None f more = absurd (no_size _ (one-none kind number) more)
set-single Required kind number (Some x) f more = refl
set-single (RequiredOr other) kind number None f more = absurd (no_size _ (one-none kind number) more)
set-single (RequiredOr other) kind number (Some x) f more = refl
set-single Repeated kind number value f more = refl

-- a field that is set misses what its messages miss
pub set-missing : (slot : Slot) (held : Held slot) (part : Part) (f : ℕ → Bool) → part ≡ part_of slot held → 0 < part.length → part.missing ≡ own_missing slot held f
set-missing (Single field) held part f is more =
    ap (λ (p : Part). p.missing) is ∙ sym (set-single field.label field.kind field.number held f (subst (λ n. 0 < n) (ap (λ (p : Part). p.length) is) more))
set-missing (Many inside number) held part f is more = ap (λ (p : Part). p.missing) is

-- what a field misses that is not set
abbrev pub unset_missing : Label → ℕ → (ℕ → Bool) → Option ℕ → Option ℕ
unset_missing Optional number f missing = missing
unset_missing Required number f missing = Some number
unset_missing (RequiredOr other) number f missing = cond (f other) None (Some number)
unset_missing Repeated number f missing = missing

unset-single : (label : Label) (kind : Kind) (number : ℕ) (value : Value label kind) (f : ℕ → Bool) → (0 < size (row_items label kind number value) → ⊥) → unset_missing label number f None ≡ missing_in label kind number value f
unset-single Optional kind number value f none = refl
unset-single Required kind number None f none = refl
unset-single Required kind number (Some x) f none = absurd (none (one-some kind number x))
unset-single (RequiredOr other) kind number None f none = refl
unset-single (RequiredOr other) kind number (Some x) f none = absurd (none (one-some kind number x))
unset-single Repeated kind number value f none = refl

pub unset-missing : (slot : Slot) (held : Held slot) (part : Part) (f : ℕ → Bool) → part ≡ part_of slot held → (0 < part.length → ⊥) → unset_missing (label_of slot) (number_of slot) f part.missing ≡ own_missing slot held f
unset-missing (Single field) held part f is none =
    ap (λ (p : Part). unset_missing field.label field.number f p.missing) is ∙ unset-single field.label field.kind field.number held f (λ more. none (subst (λ n. 0 < n) (sym (ap (λ (p : Part). p.length) is)) more))
unset-missing (Many inside number) held part f is none = ap (λ (p : Part). p.missing) is

-- ---- what is sound

pub sound-at : (slots : List Slot) (i : ℕ) (slot : Slot) → list_all is_sound slots ≡ true → i < length slots → slot ≡ get_or slots i slot → is_sound slot ≡ true
sound-at [] i slot all within is = absurd (omega arith)
sound-at (first ∷ slots) zero slot all within is = ap is_sound is ∙ first_true (is_sound first) (list_all is_sound slots) all
sound-at (first ∷ slots) (suc i) slot all within is = sound-at slots i slot (second_true (is_sound first) (list_all is_sound slots) all) (omega arith) is

singles-sound : (inside : List FieldShape) → list_all is_sound (map Single inside) ≡ list_all has_number inside
singles-sound [] = refl
singles-sound (field ∷ inside) = ap (λ test. has_number field && test) (singles-sound inside)

pub number-sound : (slot : Slot) → is_sound slot ≡ true → number_of slot ≤ last_number
number-sound (Single field) h = leb-true field.number last_number h
number-sound (Many inside number) h = leb-true number last_number (first_true (leb number last_number) (leb (length inside) FIELD_LIMIT && (list_all has_number inside && rising 0 (flat inside))) h)

pub inside-room : (inside : List FieldShape) (number : ℕ) → is_sound (Many inside number) ≡ true → has_room (map Single inside) ≡ true
inside-room inside number h =
    let few = leb (length inside) FIELD_LIMIT in
    let both = list_all has_number inside && rising 0 (flat inside) in
    rw (length-map inside Single, singles-sound inside, form-flat inside) (second_true (leb number last_number) (few && both) h)

-- ---- at the start, and at the end

pub unset-size : (label : Label) (kind : Kind) (number : ℕ) → size (row_items label kind number (unset label kind)) ≡ 0
unset-size Optional kind number = one-none kind number
unset-size Required kind number = one-none kind number
unset-size (RequiredOr other) kind number = one-none kind number
unset-size Repeated kind number = each-none kind number

pub nothing-kept : (slots : List Slot) (n : ℕ) → length slots ≤ n → AreParts slots (no_values (form_of slots)) (replicate n (some_part 0 None))
nothing-kept [] n few = tt
nothing-kept (slot ∷ slots) zero few = absurd (omega arith)
nothing-kept (Single field ∷ slots) (suc n) few = (ap (λ n. some_part n None) (sym (unset-size field.label field.kind field.number)), nothing-kept slots n (omega arith))
nothing-kept (Many inside number ∷ slots) (suc n) few = (refl, nothing-kept slots n (omega arith))

-- the message that misses nothing has this length
pub survey-whole : (form : Layout) (w : Walk Entry) (part : Part) → Ok part ≡ outlined form w → part.missing ≡ None → Ok part.length ≡ spelled_size form (whole form (gathered form w))
survey-whole form w part h none =
    let values = values_after form (no_values form) w.items in
    let got = ok-answered (first_fault (rules form) w.items w.fault) part (whole_part form values) h in
    let nothing : missing form values ≡ None = sym (ap (λ (p : Part). p.missing) got.1) ∙ none in
    rw (got.0, nothing) (ap (λ (p : Part). Ok p.length) got.1)

pub survey-missing : (form : Layout) (w : Walk Entry) (part : Part) (number : ℕ) → Ok part ≡ outlined form w → part.missing ≡ Some number → Err (faults.MissingField number) ≡ spelled_size form (whole form (gathered form w))
survey-missing form w part number h some =
    let values = values_after form (no_values form) w.items in
    let got = ok-answered (first_fault (rules form) w.items w.fault) part (whole_part form values) h in
    let misses : missing form values ≡ Some number = sym (ap (λ (p : Part). p.missing) got.1) ∙ some in
    rw (got.0, misses) refl

pub survey-fault : (form : Layout) (w : Walk Entry) (fault : FieldFault) → Err fault ≡ outlined form w → Err (faults.Field fault) ≡ spelled_size form (whole form (gathered form w))
survey-fault form w fault h =
    rw (err-answered (first_fault (rules form) w.items w.fault) fault (whole_part form (values_after form (no_values form) w.items)) h) refl
