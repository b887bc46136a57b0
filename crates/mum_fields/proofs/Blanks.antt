-- What the fields of a message come to where none is set.
use Rattle.mum_fields.proofs.Common.{◌≡◌, ◌==◌, ℕ, ◌+◌, ◌<◌, ◌≤◌, Bool, true, false, cond, List, [], ◌∷◌, length, length-drop, get_or, drop, drop-cons, add-one, map, min, Option, Some, None, Result, Ok, refl, sym, ap, subst, ◌∙◌, arith, Part, FieldShape, Kind, Label, Optional, Required, RequiredOr, Repeated, FieldFault, Cursor, fields, Layout, no_values, unset, row_items, items, lesser, missing, missing_in, is_set, has_value, Single, size, flat, form_of, has_room, whole_part, outlined}
use Rattle.mum_fields.proofs.{Kept.unset-size, Outlines.form-flat, Passes.room-rises, ReadBack.Rises, Sizes.size-append, Steps.after-nothing, Sums.a_part, Sums.part-same, Taking.fields-end}

abbrev pub blank : List FieldShape → Part
blank shapes = whole_part (flat shapes) (no_values (flat shapes))

-- nothing is written
blank-length : (shapes : List FieldShape) → size (items (flat shapes) (no_values (flat shapes))) ≡ 0
blank-length [] = refl
blank-length (field ∷ shapes) =
    let own = unset-size field.label field.kind field.number in
    let others = blank-length shapes in
    let whole = size-append (row_items field.label field.kind field.number (unset field.label field.kind)) (items (flat shapes) (no_values (flat shapes))) in
    omega arith

-- a field that has not to be set
pub blank-free : (field : FieldShape) (shapes : List FieldShape) → (field.label ≡ Required → ⊥) → ((other : ℕ) → field.label ≡ RequiredOr other → ⊥) → blank (field ∷ shapes) ≡ blank shapes
blank-free field shapes a b = part-same _ _ (blank-length (field ∷ shapes) ∙ sym (blank-length shapes)) (by_label field.label field.kind a b)
  where
    by_label : (label : Label) (kind : Kind) → (label ≡ Required → ⊥) → ((other : ℕ) → label ≡ RequiredOr other → ⊥)
        → lesser (missing_in label kind field.number (unset label kind) (is_set (flat shapes) (no_values (flat shapes)))) (missing (flat shapes) (no_values (flat shapes))) ≡ missing (flat shapes) (no_values (flat shapes))
    by_label Optional kind a b = refl
    by_label Required kind a b = absurd (a refl)
    by_label (RequiredOr other) kind a b = absurd (b other refl)
    by_label Repeated kind a b = refl

lesser-first : (n m : ℕ) → n ≤ m → lesser (Some n) (Some m) ≡ Some n
lesser-first n m less = ap (λ i. Some i) (same n m less)
  where
    same : (n m : ℕ) → n ≤ m → min n m ≡ n
    same n m less = omega arith

unset-none : (label : Label) (kind : Kind) → has_value label kind (unset label kind) ≡ false
unset-none Optional kind = refl
unset-none Required kind = refl
unset-none (RequiredOr other) kind = refl
unset-none Repeated kind = refl

either-false : (test a b : Bool) → a ≡ false → b ≡ false → cond test a b ≡ false
either-false true a b one other = one
either-false false a b one other = other

none-set : (shapes : List FieldShape) (n : ℕ) → is_set (flat shapes) (no_values (flat shapes)) n ≡ false
none-set [] n = refl
none-set (field ∷ shapes) n = either-false (n == field.number) _ _ (unset-none field.label field.kind) (none-set shapes n)

-- what a field misses that has to be set
required-missing : (label : Label) (kind : Kind) (number : ℕ) (f : ℕ → Bool) → label ≡ Required → missing_in label kind number (unset label kind) f ≡ Some number
required-missing label kind number f is = subst (λ l. missing_in l kind number (unset l kind) f ≡ Some number) (sym is) refl

required_or-missing : (label : Label) (kind : Kind) (number other : ℕ) (f : ℕ → Bool) → label ≡ RequiredOr other → f other ≡ false → missing_in label kind number (unset label kind) f ≡ Some number
required_or-missing label kind number other f is none = subst (λ l. missing_in l kind number (unset l kind) f ≡ Some number) (sym is) (by_test (f other) none)
  where
    by_test : (test : Bool) → test ≡ false → cond test None (Some number) ≡ Some number
    by_test test is_false = rw is_false refl

-- numbers that rise: those after are no less
least-own : (n number : ℕ) (own others : Option ℕ) → n ≤ number → own ≡ Some number → lesser (Some number) others ≡ Some number → lesser (Some n) (lesser own others) ≡ Some n
least-own n number own others less is least = ap (λ o. lesser (Some n) (lesser o others)) is ∙ ap (lesser (Some n)) least ∙ lesser-first n number less

least-row : (label : Label) (kind : Kind) (n number : ℕ) (f : ℕ → Bool) (others : Option ℕ) → n ≤ number → ((other : ℕ) → f other ≡ false) → lesser (Some n) others ≡ Some n → lesser (Some number) others ≡ Some number
    → lesser (Some n) (lesser (missing_in label kind number (unset label kind) f) others) ≡ Some n
least-row Optional kind n number f others less none here there = here
least-row Required kind n number f others less none here there = least-own n number _ others less (required-missing Required kind number f refl) there
least-row (RequiredOr other) kind n number f others less none here there = least-own n number _ others less (required_or-missing (RequiredOr other) kind number other f refl (none other)) there
least-row Repeated kind n number f others less none here there = here

least-first : (n low : ℕ) (shapes : List FieldShape) → n ≤ low → Rises low (flat shapes) → lesser (Some n) (missing (flat shapes) (no_values (flat shapes))) ≡ Some n
least-first n low [] less up = refl
least-first n low (field ∷ shapes) less up =
    let above = up.0 in
    let more : n ≤ field.number = omega arith in
    least-row field.label field.kind n field.number (is_set (flat shapes) (no_values (flat shapes))) (missing (flat shapes) (no_values (flat shapes))) more (none-set shapes)
    (least-first n field.number shapes more up.2) (least-first field.number field.number shapes (omega arith) up.2)

-- a field that has to be set, of the least number
abbrev own_missing_in : FieldShape → List FieldShape → Option ℕ
own_missing_in field shapes = missing_in field.label field.kind field.number (unset field.label field.kind) (is_set (flat shapes) (no_values (flat shapes)))

first-missing : (field : FieldShape) (shapes : List FieldShape) (low : ℕ) → Rises low (flat (field ∷ shapes)) → own_missing_in field shapes ≡ Some field.number → a_part 0 (Some field.number) ≡ blank (field ∷ shapes)
first-missing field shapes low up is =
    let least = ap (λ o. lesser o (missing (flat shapes) (no_values (flat shapes)))) is ∙ least-first field.number field.number shapes (omega arith) up.2 in
    part-same _ _ (sym (blank-length (field ∷ shapes))) (sym least)

pub blank-required : (field : FieldShape) (shapes : List FieldShape) (low : ℕ) → Rises low (flat (field ∷ shapes)) → field.label ≡ Required → a_part 0 (Some field.number) ≡ blank (field ∷ shapes)
blank-required field shapes low up is =
    first-missing field shapes low up (required-missing field.label field.kind field.number (is_set (flat shapes) (no_values (flat shapes))) is)

pub blank-required_or : (field : FieldShape) (shapes : List FieldShape) (low other : ℕ) → Rises low (flat (field ∷ shapes)) → field.label ≡ RequiredOr other → a_part 0 (Some field.number) ≡ blank (field ∷ shapes)
blank-required_or field shapes low other up is =
    first-missing field shapes low up (required_or-missing field.label field.kind field.number other (is_set (flat shapes) (no_values (flat shapes))) is (none-set shapes other))

-- ---- from one field on

-- what all come to is what those from here on come to, and their numbers rise
pub record BlankFrom (shapes : List FieldShape) (i : ℕ) : Type 0 where
  pub same : blank shapes ≡ blank (drop i shapes)
  pub low : ℕ
  pub up : Rises low (flat (drop i shapes))

pub blank-start : (shapes : List FieldShape) → has_room (map Single shapes) ≡ true → BlankFrom shapes 0
blank-start shapes room = record { same = refl; low = 0; up = subst (Rises 0) (form-flat shapes) (room-rises (map Single shapes) room) }

cells : (shapes : List FieldShape) (i : ℕ) (d : FieldShape) → i < length shapes → drop i shapes ≡ get_or shapes i d ∷ drop (i + 1) shapes
cells shapes i d within = rw add-one (drop-cons shapes i d within)

pub blank-next : (shapes : List FieldShape) (i : ℕ) (d : FieldShape) → i < length shapes → ((get_or shapes i d).label ≡ Required → ⊥) → ((other : ℕ) → (get_or shapes i d).label ≡ RequiredOr other → ⊥)
    → BlankFrom shapes i → BlankFrom shapes (i + 1)
blank-next shapes i d within a b from =
    let are = cells shapes i d within in record {
      same = from.same ∙ ap blank are ∙ blank-free (get_or shapes i d) (drop (i + 1) shapes) a b;
      low = (get_or shapes i d).number;
      up = (subst (λ fs. Rises from.low (flat fs)) are from.up).2;
    }

pub blank-here : (shapes : List FieldShape) (i : ℕ) (d : FieldShape) → i < length shapes → (get_or shapes i d).label ≡ Required → BlankFrom shapes i → a_part 0 (Some (get_or shapes i d).number) ≡ blank shapes
blank-here shapes i d within required from =
    let are = cells shapes i d within in
    blank-required (get_or shapes i d) (drop (i + 1) shapes) from.low (subst (λ fs. Rises from.low (flat fs)) are from.up) required ∙ sym (from.same ∙ ap blank are)

pub blank-here_or : (shapes : List FieldShape) (i other : ℕ) (d : FieldShape) → i < length shapes → (get_or shapes i d).label ≡ RequiredOr other → BlankFrom shapes i → a_part 0 (Some (get_or shapes i d).number) ≡ blank shapes
blank-here_or shapes i other d within required from =
    let are = cells shapes i d within in
    blank-required_or (get_or shapes i d) (drop (i + 1) shapes) from.low other (subst (λ fs. Rises from.low (flat fs)) are from.up) required ∙ sym (from.same ∙ ap blank are)

pub blank-end : (shapes : List FieldShape) (i : ℕ) → length shapes ≤ i → BlankFrom shapes i → a_part 0 None ≡ blank shapes
blank-end shapes i all from = by_list (drop i shapes) (omega (arith, length-drop i shapes)) from.same
  where
    by_list : (rest : List FieldShape) → length rest ≡ 0 → blank shapes ≡ blank rest → a_part 0 None ≡ blank shapes
    by_list [] none same = sym same
    by_list (field ∷ rest) none same = absurd (omega arith)

-- ---- an empty block

pub outlined-nothing : (form : Layout) (place : ℕ) (block : List ℕ) (part : Part) → block ≡ [] → part ≡ whole_part form (no_values form) → Ok part ≡ outlined form (fields (record { place = place; rest = block }))
outlined-nothing form place block part none is =
    let ends = fields-end (record { place = place; rest = block }) none in
    rw ends (ap Ok (is ∙ ap (whole_part form) (sym (after-nothing form (no_values form)))))

-- what a block comes to whose reader begins at this cursor
pub outlined-within : (inside : List FieldShape) (reader start : Cursor) (result : Result Part FieldFault) → reader ≡ start → result ≡ outlined (form_of (map Single inside)) (fields reader) → result ≡ outlined (flat inside) (fields start)
outlined-within inside reader start result begins is =
    is ∙ ap (λ (r : Cursor). outlined (form_of (map Single inside)) (fields r)) begins ∙ ap (λ form. outlined form (fields start)) (form-flat inside)
