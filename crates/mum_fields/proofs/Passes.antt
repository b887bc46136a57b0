-- The calls of the pass over the fields of a message: what each answers, for rows of any type that have slots.
use Rattle.mum_fields.proofs.Common.{◌≡◌, ◌≢◌, ℕ, zero, suc, ◌+◌, ◌-◌, ◌^◌, ◌<◌, ◌≤◌, ◌&&◌, Bool, true, false, cond, ltb, leb, List, [], ◌∷◌, length, get_or, set, map, min, Option, Some, None, Result, Ok, Err, refl, sym, ap, subst, ◌∙◌, arith, ⊤, list_all, All, AllByRecursion, HoldsAt, length-map, nil_from_length, All-head, All-tail, FieldFault, Part, FIELD_LIMIT, Label, Optional, Required, RequiredOr, Repeated, Content, Varint, Fixed8, Block, Fixed4, Entry, MessageFault, Walk, ended, stopped_by, first, any_block, fault_in, value_fault, entry_fault, first_fault, outcome, unless, Layout, Values, no_values, values_after, rules, rising, gathered, is_set, lesser, Slot, number_of, label_of, form_of, is_sound, has_room, Held, part_of, held_after, slot_rule, own, later, AreParts, own_missing, Grows, Takes, whole_part, outlined, leb-true}
use Rattle.mum_fields.proofs.{Decoding.outcome-next, Decoding.outcome-end, Steps.after-nothing, Steps.after-next, Outlines.answered-fault, Outlines.answered-whole, Outlines.ok-answered, Outlines.err-answered, ReadBack.Rises, ReadBack.rises, ReadBack.first_true, ReadBack.second_true, Kept.rule-others, Kept.parts-others, Kept.found, Kept.sound-at, Kept.set-here, Kept.set-there, Kept.set-missing, Kept.unset_missing, Kept.unset-missing, Kept.whole-more}
use Rattle.mum_fields.specs.declared.message.MessageFault.TheVariants as faults

-- ---- rows and their slots

at-map : {S : Type 0} (slot : S → Slot) (rows : List S) (i : ℕ) (row : S) → row ≡ get_or rows i row → slot row ≡ get_or (map slot rows) i (slot row)
at-map slot [] i row is = refl
at-map slot (first ∷ rows) zero row is = ap slot is
at-map slot (first ∷ rows) (suc i) row is = at-map slot rows i row is

others-map : {S : Type 0} (slot : S → Slot) (rows : List S) (n : ℕ) → All (λ row. number_of (slot row) ≢ n) rows → AllByRecursion (λ s. n ≡ number_of s → ⊥) (map slot rows)
others-map slot [] n all = tt
others-map {S} slot (row ∷ rows) n all =
    let other = λ (r : S). number_of (slot r) ≢ n in
    ((λ e. All-head other row rows all (sym e)), others-map slot rows n (All-tail other row rows all))

room-sound : (slots : List Slot) → has_room slots ≡ true → list_all is_sound slots ≡ true
room-sound slots h = first_true (list_all is_sound slots) (rising 0 (form_of slots)) (second_true (leb (length slots) FIELD_LIMIT) (list_all is_sound slots && rising 0 (form_of slots)) h)

pub room-rises : (slots : List Slot) → has_room slots ≡ true → Rises 0 (form_of slots)
room-rises slots h = rises 0 (form_of slots) (second_true (list_all is_sound slots) (rising 0 (form_of slots)) (second_true (leb (length slots) FIELD_LIMIT) (list_all is_sound slots && rising 0 (form_of slots)) h))

pub row-sound : {S : Type 0} (slot : S → Slot) (rows : List S) (i : ℕ) (row : S) → has_room (map slot rows) ≡ true → i < length rows → row ≡ get_or rows i row → is_sound (slot row) ≡ true
row-sound slot rows i row room within is =
    sound-at (map slot rows) i (slot row) (room-sound (map slot rows) room) (omega (arith, length-map rows slot)) (at-map slot rows i row is)

-- ---- one field of the payload

any_fault : (place : ℕ) (content : Content) → fault_in any_block place content ≡ None
any_fault place (Varint n) = refl
any_fault place (Fixed8 n) = refl
any_fault place (Block block) = refl
any_fault place (Fixed4 n) = refl

pub take-other : {S : Type 0} (slot : S → Slot) (rows : List S) (parts : List Part) (e : Entry) (done : ⊤) → All (λ row. number_of (slot row) ≢ e.number) rows
    → (values : Values (form_of (map slot rows))) → AreParts (map slot rows) values parts → Takes (map slot rows) values e (Ok done) parts
take-other slot rows parts e done all values h =
    let others = others-map slot rows e.number all in (
      ap (λ rule. value_fault rule e) (rule-others (map slot rows) e.number others) ∙ any_fault e.place e.content,
      parts-others (map slot rows) values parts e others h,
    )

pub take-own : {S : Type 0} (slot : S → Slot) (rows : List S) (parts : List Part) (e : Entry) (done : ⊤) (i : ℕ) (row : S) (before part d : Part) → has_room (map slot rows) ≡ true → i < length rows → row ≡ get_or rows i row
    → e.number ≡ number_of (slot row) → before ≡ get_or parts i d → Grows (slot row) before e (Ok part)
    → (values : Values (form_of (map slot rows))) → AreParts (map slot rows) values parts → Takes (map slot rows) values e (Ok done) (set parts i part)
take-own slot rows parts e done i row before part d room within is same was grows values h =
    let slots = map slot rows in
    let f = found 0 slots values parts e i (slot row) (room-rises slots room) h (omega (arith, length-map rows slot)) (at-map slot rows i row is) same in
    let got = ok-answered (value_fault (slot_rule (slot row)) e) part (part_of (slot row) (held_after (slot row) f.held e)) (grows f.held (was ∙ f.is d)) in
    (ap (λ rule. value_fault rule e) f.rule ∙ got.0, f.grown part got.1)

pub take-fault : {S : Type 0} (slot : S → Slot) (rows : List S) (parts now : List Part) (e : Entry) (i : ℕ) (row : S) (before d : Part) (fault : FieldFault) → has_room (map slot rows) ≡ true → i < length rows → row ≡ get_or rows i row
    → e.number ≡ number_of (slot row) → before ≡ get_or parts i d → Grows (slot row) before e (Err fault)
    → (values : Values (form_of (map slot rows))) → AreParts (map slot rows) values parts → Takes (map slot rows) values e (Err fault) now
take-fault slot rows parts now e i row before d fault room within is same was grows values h =
    let slots = map slot rows in
    let f = found 0 slots values parts e i (slot row) (room-rises slots room) h (omega (arith, length-map rows slot)) (at-map slot rows i row is) same in
    ap (λ rule. value_fault rule e) f.rule ∙ err-answered (value_fault (slot_rule (slot row)) e) fault _ (grows f.held (was ∙ f.is d))

-- ---- what is set

unfoldable pub IsSetIn : {S : Type 0} → (S → Slot) → List S → List Part → ℕ → Bool → Type 0
IsSetIn slot rows parts n result = (values : Values (form_of (map slot rows))) → AreParts (map slot rows) values parts → result ≡ is_set (form_of (map slot rows)) values n

pub none-set : {S : Type 0} (slot : S → Slot) (rows : List S) (parts : List Part) (n : ℕ) → length rows ≡ 0 → IsSetIn slot rows parts n false
unfolding IsSetIn
none-set slot [] parts n none = λ values h. refl
none-set slot (row ∷ rows) parts n none = absurd (omega arith)

pub no-parts : {S : Type 0} (slot : S → Slot) (rows : List S) (parts : List Part) (n : ℕ) (result : Bool) → length rows ≤ length parts → length parts ≡ 0 → (0 < length rows) → IsSetIn slot rows parts n result
no-parts slot rows parts n result few none some = absurd (omega arith)

pub own-set : {S : Type 0} (slot : S → Slot) (rows others : List S) (parts behind : List Part) (row : S) (part : Part) (n : ℕ) → rows ≡ row ∷ others → parts ≡ part ∷ behind → number_of (slot row) ≡ n
    → IsSetIn slot rows parts n (ltb 0 part.length)
unfolding IsSetIn
own-set slot rows others parts behind row part n is_rows is_parts same =
    subst (λ ps. IsSetIn slot rows ps n (ltb 0 part.length)) (sym is_parts)
    (subst (λ rs. IsSetIn slot rs (part ∷ behind) n (ltb 0 part.length)) (sym is_rows)
    (λ values h. set-here (slot row) (form_of (map slot others)) values part n h.0 same))

pub later-set : {S : Type 0} (slot : S → Slot) (rows others : List S) (parts behind : List Part) (row : S) (part : Part) (n : ℕ) (result : Bool) → rows ≡ row ∷ others → parts ≡ part ∷ behind → (number_of (slot row) ≡ n → ⊥)
    → IsSetIn slot others behind n result → IsSetIn slot rows parts n result
unfolding IsSetIn
later-set slot rows others parts behind row part n result is_rows is_parts other h =
    subst (λ ps. IsSetIn slot rows ps n result) (sym is_parts)
    (subst (λ rs. IsSetIn slot rs (part ∷ behind) n result) (sym is_rows)
    (λ values are. h (later (slot row) (form_of (map slot others)) values) are.1 ∙ sym (set-there (slot row) (form_of (map slot others)) values n other)))

pub set-in : {S : Type 0} (slot : S → Slot) (rows : List S) (parts : List Part) (n : ℕ) (result : Bool) → IsSetIn slot rows parts n result
    → (values : Values (form_of (map slot rows))) → AreParts (map slot rows) values parts → result ≡ is_set (form_of (map slot rows)) values n
unfolding IsSetIn
set-in slot rows parts n result h = h

pub in-set : {S : Type 0} (slot : S → Slot) (rows : List S) (parts : List Part) (n : ℕ) (result : Bool)
    → ((values : Values (form_of (map slot rows))) → AreParts (map slot rows) values parts → result ≡ is_set (form_of (map slot rows)) values n) → IsSetIn slot rows parts n result
unfolding IsSetIn
in-set slot rows parts n result h = h

-- ---- the sum of all parts

-- a call answered what these parts come to
unfoldable pub SumsUp : {S : Type 0} → (S → Slot) → List S → List Part → Part → Type 0
SumsUp slot rows parts result = (values : Values (form_of (map slot rows))) → AreParts (map slot rows) values parts → result ≡ whole_part (form_of (map slot rows)) values

pub sums-nothing : {S : Type 0} (slot : S → Slot) (rows : List S) (parts : List Part) → length rows ≡ 0 → SumsUp slot rows parts (record { length = 0; missing = None })
unfolding SumsUp
sums-nothing slot [] parts none = λ values h. refl
sums-nothing slot (row ∷ rows) parts none = absurd (omega arith)

pub sums-more : {S : Type 0} (slot : S → Slot) (rows others : List S) (parts behind : List Part) (row : S) (part rest : Part) (own_part : Option ℕ) → rows ≡ row ∷ others → parts ≡ part ∷ behind
    → ((values : Values (form_of (map slot others))) → AreParts (map slot others) values behind → rest ≡ whole_part (form_of (map slot others)) values)
    → ((held : Held (slot row)) → part ≡ part_of (slot row) held → (values : Values (form_of (map slot others))) → AreParts (map slot others) values behind → own_part ≡ own_missing (slot row) held (is_set (form_of (map slot others)) values))
    → SumsUp slot rows parts (record { length = min (part.length + rest.length) (2 ^ 64 - 1); missing = lesser own_part rest.missing })
unfolding SumsUp
sums-more slot rows others parts behind row part rest own_part is_rows is_parts sums misses =
    let result : Part = record { length = min (part.length + rest.length) (2 ^ 64 - 1); missing = lesser own_part rest.missing } in
    subst (λ ps. SumsUp slot rows ps result) (sym is_parts)
    (subst (λ rs. SumsUp slot rs (part ∷ behind) result) (sym is_rows)
    (λ values are.
    let form = form_of (map slot others) in
    let behind_values = later (slot row) form values in
    whole-more (slot row) form values part rest own_part are.0 (sums behind_values are.1) (misses (own (slot row) form values) are.0 behind_values are.1)))

pub sums-in : {S : Type 0} (slot : S → Slot) (rows : List S) (parts : List Part) (result : Part) → SumsUp slot rows parts result
    → (values : Values (form_of (map slot rows))) → AreParts (map slot rows) values parts → result ≡ whole_part (form_of (map slot rows)) values
unfolding SumsUp
sums-in slot rows parts result h = h

-- ---- what a field misses that is not set

no_more : (n : ℕ) → n ≤ 0 → 0 < n → ⊥
no_more n none more = omega arith

pub missing-required : (slot : Slot) (held : Held slot) (part : Part) (f : ℕ → Bool) (n : ℕ) → part ≡ part_of slot held → part.length ≤ 0 → Required ≡ label_of slot → n ≡ number_of slot
    → Some n ≡ own_missing slot held f
missing-required slot held part f n is none label number =
    ap Some number ∙ ap (λ l. unset_missing l (number_of slot) f part.missing) label ∙ unset-missing slot held part f is (no_more part.length none)

pub missing-other : (slot : Slot) (held : Held slot) (part : Part) (f : ℕ → Bool) (n other : ℕ) → part ≡ part_of slot held → part.length ≤ 0 → RequiredOr other ≡ label_of slot → n ≡ number_of slot
    → f other ≡ false → Some n ≡ own_missing slot held f
missing-other slot held part f n other is none label number test =
    ap Some number ∙ sym (ap (λ b. cond b None (Some (number_of slot))) test) ∙ ap (λ l. unset_missing l (number_of slot) f part.missing) label ∙ unset-missing slot held part f is (no_more part.length none)

other_label : (label : Label) (n : ℕ) (f : ℕ → Bool) (missing : Option ℕ) → (label ≡ Required → ⊥) → ((other : ℕ) → label ≡ RequiredOr other → ⊥) → missing ≡ unset_missing label n f missing
other_label Optional n f missing a b = refl
other_label Required n f missing a b = absurd (a refl)
other_label (RequiredOr other) n f missing a b = absurd (b other refl)
other_label Repeated n f missing a b = refl

pub missing-unset : (slot : Slot) (held : Held slot) (part : Part) (f : ℕ → Bool) (label : Label) → part ≡ part_of slot held → part.length ≤ 0 → label ≡ label_of slot
    → (label ≡ Required → ⊥) → ((other : ℕ) → label ≡ RequiredOr other → ⊥) → part.missing ≡ own_missing slot held f
missing-unset slot held part f label is none told a b =
    other_label label (number_of slot) f part.missing a b ∙ ap (λ l. unset_missing l (number_of slot) f part.missing) told ∙ unset-missing slot held part f is (no_more part.length none)

-- ---- the loop over the fields of a payload

pub room-few : (slots : List Slot) → has_room slots ≡ true → length slots ≤ 24
room-few slots h = leb-true (length slots) FIELD_LIMIT (first_true (leb (length slots) FIELD_LIMIT) (list_all is_sound slots && rising 0 (form_of slots)) h)

pub outline-more : (form : Layout) (values : Values form) (e : Entry) (w others : Walk Entry) → w ≡ first e others → entry_fault (rules form) e ≡ None
    → outcome (rules form) (values_after form (values_after form values (e ∷ []))) others ≡ outcome (rules form) (values_after form values) w
outline-more form values e w others is clean =
    sym (outcome-next (rules form) (values_after form values) (values_after form (values_after form values (e ∷ []))) w others e is clean (after-next form values e))

abbrev given : {X : Type 0} → X → Result X MessageFault
given x = Ok x

given_same : {X : Type 0} (x y : X) → given x ≡ given y → x ≡ y
given_same x y h = cc

not_given : {X : Type 0} (x : X) (e : MessageFault) → given x ≡ Err e → ⊥
not_given x e h = cc

pub outline-ends : (form : Layout) (values : Values form) (left whole : Walk Entry) (part : Part) → left ≡ ended → outcome (rules form) (values_after form values) left ≡ gathered form whole → part ≡ whole_part form values
    → Ok part ≡ outlined form whole
outline-ends form values left whole part ends h is =
    let done : given values ≡ gathered form whole = sym (outcome-end (rules form) (values_after form values) left ends ∙ ap Ok (after-nothing form values)) ∙ h in
    by_fault (first_fault (rules form) whole.items whole.fault) refl done
  where
    by_fault : (f : Option FieldFault) → first_fault (rules form) whole.items whole.fault ≡ f → given values ≡ gathered form whole → Ok part ≡ outlined form whole
    by_fault (Some fault) eq done = absurd (not_given values (faults.Field fault) (done ∙ ap (λ f. unless f (values_after form (no_values form) whole.items)) eq))
    by_fault None eq done =
        let same = given_same values (values_after form (no_values form) whole.items) (done ∙ ap (λ f. unless f (values_after form (no_values form) whole.items)) eq) in
        answered-whole (first_fault (rules form) whole.items whole.fault) part (whole_part form (values_after form (no_values form) whole.items)) eq (is ∙ ap (whole_part form) same)

abbrev gone : {X : Type 0} → FieldFault → Result X MessageFault
gone fault = Err (faults.Field fault)

fault_same : {X : Type 0} (a b : FieldFault) → gone {X = X} a ≡ gone b → a ≡ b
fault_same a b h = cc

not_gone : {X : Type 0} (x : X) (a : FieldFault) → gone a ≡ given x → ⊥
not_gone x a h = cc

-- a fault that is next is the first of the payload
pub outline-fault : (form : Layout) (values : Values form) (left whole : Walk Entry) (fault : FieldFault) → outcome (rules form) (values_after form values) left ≡ gathered form whole → first_fault (rules form) left.items left.fault ≡ Some fault
    → Err fault ≡ outlined form whole
outline-fault form values left whole fault h stops =
    let done : gone fault ≡ gathered form whole = sym (ap (λ f. unless f (values_after form values left.items)) stops) ∙ h in
    by_fault (first_fault (rules form) whole.items whole.fault) refl done
  where
    by_fault : (f : Option FieldFault) → first_fault (rules form) whole.items whole.fault ≡ f → gone fault ≡ gathered form whole → Err fault ≡ outlined form whole
    by_fault (Some other) eq done =
        let same = fault_same {X = Values form} fault other (done ∙ ap (λ f. unless f (values_after form (no_values form) whole.items)) eq) in
        answered-fault (first_fault (rules form) whole.items whole.fault) fault (whole_part form (values_after form (no_values form) whole.items)) (eq ∙ ap Some (sym same))
    by_fault None eq done = absurd (not_gone (values_after form (no_values form) whole.items) fault (done ∙ ap (λ f. unless f (values_after form (no_values form) whole.items)) eq))

pub stops-next : (form : Layout) (e : Entry) (w others : Walk Entry) (fault : FieldFault) → w ≡ first e others → entry_fault (rules form) e ≡ Some fault → first_fault (rules form) w.items w.fault ≡ Some fault
stops-next form e w others fault is found = rw (is, found) refl

pub stops-here : (form : Layout) (w : Walk Entry) (fault : FieldFault) → w ≡ stopped_by fault → first_fault (rules form) w.items w.fault ≡ Some fault
stops-here form w fault is = rw is refl
