-- A walk over fields stops at the first fault of the relation.
use Rattle.mum_fields.proofs.Common.{◌≡◌, ◌↔◌, ℕ, zero, suc, ◌+◌, ◌<◌, List, [], ◌∷◌, length, Option, Some, Result, Ok, Err, refl, sym, ap, subst, ◌∙◌, arith, nil_from_length, length-append, FieldFault, IsVarint, SpellsWithin, Entry, Cursor, field_at, Walk, ended, stopped_by, first, fields, BeginsWithVarint, HasFieldFault, no_key, no_number, no_wire_type, no_varint, cut_fixed8, no_length, long_block, cut_fixed4, StopsAt}
use Rattle.mum_fields.proofs.{Fields.field_at-found, Fields.field_at-there, Walks.walk-end, Walks.walk-item, Walks.walk-fault, Payloads.field_at-shortens, Payloads.fields_first, NoFields.fault-there, NoFields.there-fault}

-- ---- a fault comes before the end

spelled-some : (more : ℕ) (bytes : List ℕ) (n : ℕ) → SpellsWithin more bytes n → 0 < length bytes
spelled-some more [] n h = absurd h
spelled-some more (b ∷ bs) n h = omega arith

varint-some : (bytes : List ℕ) (n : ℕ) → IsVarint bytes n → 0 < length bytes
unfolding IsVarint
varint-some bytes n h = spelled-some 9 bytes n h

begins-some : (c after : Cursor) (n : ℕ) → BeginsWithVarint c n after → 0 < length c.rest
begins-some c after n h = omega (arith, varint-some h.bytes n h.is, ap length h.whole, length-append h.bytes after.rest)

pub fault-some : (c : Cursor) (e : FieldFault) → HasFieldFault c e → 0 < length c.rest
fault-some _ _ (no_key c kind some h) = some
fault-some _ _ (no_number c after key h none) = begins-some c after key h
fault-some _ _ (no_wire_type c after number wire h none) = begins-some c after _ h.1
fault-some _ _ (no_varint c after number kind h none) = begins-some c after _ h.1
fault-some _ _ (cut_fixed8 c after number h few) = begins-some c after _ h.1
fault-some _ _ (no_length c after number kind h none) = begins-some c after _ h.1
fault-some _ _ (long_block c after behind number size h count few) = begins-some c after _ h.1
fault-some _ _ (cut_fixed4 c after number h few) = begins-some c after _ h.1

-- ---- what a call answers

abbrev refused : {Y : Type 0} → FieldFault → Result Y FieldFault
refused e = Err e

not_both : {Y : Type 0} (y : Y) (e : FieldFault) → Ok y ≡ refused e → ⊥
not_both y e h = cc

same : {Y : Type 0} (d e : FieldFault) → refused {Y = Y} d ≡ refused e → d ≡ e
same d e h = cc

pub end-no_fault : {Y : Type 0} (c : Cursor) (y : Y) → c.rest ≡ [] → (e : FieldFault) → (Ok y ≡ refused e) ↔ HasFieldFault c e
end-no_fault c y none e = (λ h. absurd (not_both y e h), λ h. absurd (omega (arith, fault-some c e h, ap length none)))

pub field-no_fault : {Y : Type 0} (c : Cursor) (x : Entry × Cursor) (y : Y) → field_at c ≡ Ok x → (e : FieldFault) → (Ok y ≡ refused e) ↔ HasFieldFault c e
field-no_fault c x y is e = (λ h. absurd (not_both y e h), λ h. absurd (not_both x e (sym is ∙ fault-there c e h)))

some_left : (xs : List ℕ) → (xs ≡ [] → ⊥) → 0 < length xs
some_left [] h = absurd (h refl)
some_left (x ∷ xs) h = omega arith

pub fault-is_fault : {Y : Type 0} (c : Cursor) (d : FieldFault) → (c.rest ≡ [] → ⊥) → field_at c ≡ Err d → (e : FieldFault) → (refused {Y = Y} d ≡ refused e) ↔ HasFieldFault c e
fault-is_fault {Y} c d some is e = (
  λ h. subst (λ f. HasFieldFault c f) (same {Y = Y} d e h) (there-fault c d (some_left c.rest some) is),
  λ h. ap (refused {Y = Y}) (same {Y = Entry × Cursor} d e (sym is ∙ fault-there c e h)),
)

-- ---- the whole walk

pub stops-fields : (c : Cursor) (es : List Entry) (found : FieldFault) → StopsAt c es found → fields c ≡ record { items = es; fault = Some found }
stops-fields c [] found h = walk-fault field_at c found (fault-some c found h) (fault-there c found h)
stops-fields c (e ∷ es) found h =
    let front = h.0 in
    let rest = h.1 in
    let after : Cursor = record { place = c.place + length front; rest = rest } in
    let step : field_at c ≡ Ok (e, after) = rw h.2 (field_at-there c.place e front rest h.3) in
    walk-item field_at field_at-shortens c after e step ∙ ap (first e) (stops-fields after es found h.4)

fault_of : Walk Entry → Option FieldFault
fault_of w = w.fault

ended_not_stopped : (found : FieldFault) → ended {X = Entry} ≡ record { items = []; fault = Some found } → ⊥
unfolding fault_of
ended_not_stopped found h = let k = ap fault_of h in cc

stopped_same : (d found : FieldFault) → stopped_by {X = Entry} d ≡ record { items = []; fault = Some found } → d ≡ found
unfolding fault_of
stopped_same d found h = let k = ap fault_of h in cc

items_of : Walk Entry → List Entry
items_of w = w.items

more_not_stopped : (x : Entry) (w : Walk Entry) (found : FieldFault) → first x w ≡ record { items = []; fault = Some found } → ⊥
unfolding items_of
more_not_stopped x w found h = let k = ap items_of h in cc

stops_here : (c : Cursor) (found : FieldFault) (n : ℕ) → length c.rest ≡ n → (r : Result (Entry × Cursor) FieldFault) → field_at c ≡ r → fields c ≡ record { items = []; fault = Some found } → HasFieldFault c found
stops_here c found zero len r is h = absurd (ended_not_stopped found (sym (walk-end field_at c (nil_from_length c.rest len)) ∙ h))
stops_here c found (suc n) len (Err d) is h =
    subst (λ e. HasFieldFault c e) (stopped_same d found (sym (walk-fault field_at c d (omega arith) is) ∙ h)) (there-fault c d (omega arith) is)
stops_here c found (suc n) len (Ok x) is h = absurd (more_not_stopped x.0 (fields x.1) found (sym (walk-item field_at field_at-shortens c x.1 x.0 is) ∙ h))

pub fields-stop : (c : Cursor) (es : List Entry) (found : FieldFault) → fields c ≡ record { items = es; fault = Some found } → StopsAt c es found
fields-stop c [] found h = stops_here c found (length c.rest) refl (field_at c) refl h
fields-stop c (e ∷ es) found h =
    let f = fields_first c e es (Some found) (length c.rest) refl (field_at c) refl h in
    let t = field_at-found c (e, f.after) f.step in
    let after : f.after ≡ record { place = c.place + length t.bytes; rest = f.after.rest } = ap (λ (p : ℕ). record { place = p; rest = f.after.rest }) t.took.place in
    (t.bytes, f.after.rest, t.took.parts, t.is, subst (λ (d : Cursor). StopsAt d es found) after (fields-stop f.after es found f.others))
