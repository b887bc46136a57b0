-- What one call of a cursor takes of a walk.
use Rattle.mum_fields.proofs.Common.{◌≡◌, ℕ, ◌<◌, List, [], ◌∷◌, length, Ok, Err, refl, sym, ap, arith, eqb, true, false, eqb-true, eqb-false, nil_from_length, FieldFault, Cursor, Entry, varint_in_front, field_at, ended, stopped_by, first, fields, packed}
use Rattle.mum_fields.proofs.{Walks.walk-end, Walks.walk-item, Walks.walk-fault, Payloads.varint_at-shortens, Payloads.field_at-shortens}

pub tested_empty : (xs : List ℕ) → true ≡ eqb (length xs) 0 → xs ≡ []
tested_empty xs e = nil_from_length xs (eqb-true (length xs) 0 (sym e))

pub tested_some : (xs : List ℕ) → false ≡ eqb (length xs) 0 → xs ≡ [] → ⊥
tested_some xs e none = eqb-false (length xs) 0 (sym e) (ap length none)

some_left : {X : Type 0} (xs : List X) → (xs ≡ [] → ⊥) → 0 < length xs
some_left [] h = absurd (h refl)
some_left (x ∷ xs) h = omega arith

pub fields-end : (c : Cursor) → c.rest ≡ [] → fields c ≡ ended
fields-end c h = walk-end field_at c h

pub fields-item : (c after : Cursor) (e : Entry) → field_at c ≡ Ok (e, after) → fields c ≡ first e (fields after)
fields-item c after e h = walk-item field_at field_at-shortens c after e h

pub fields-fault : (c : Cursor) (e : FieldFault) → (c.rest ≡ [] → ⊥) → field_at c ≡ Err e → fields c ≡ stopped_by e
fields-fault c e some h = walk-fault field_at c e (some_left c.rest some) h

pub packed-end : (c : Cursor) → c.rest ≡ [] → packed c ≡ ended
packed-end c h = walk-end varint_in_front c h

pub packed-item : (c after : Cursor) (n : ℕ) → varint_in_front c ≡ Ok (n, after) → packed c ≡ first n (packed after)
packed-item c after n h = walk-item varint_in_front varint_at-shortens c after n h

pub packed-fault : (c : Cursor) (e : FieldFault) → (c.rest ≡ [] → ⊥) → varint_in_front c ≡ Err e → packed c ≡ stopped_by e
packed-fault c e some h = walk-fault varint_in_front c e (some_left c.rest some) h

pub fields-shorter : (c after : Cursor) (e : Entry) → field_at c ≡ Ok (e, after) → length after.rest < length c.rest
fields-shorter c after e h = field_at-shortens c after e h

pub packed-shorter : (c after : Cursor) (n : ℕ) → varint_in_front c ≡ Ok (n, after) → length after.rest < length c.rest
packed-shorter c after n h = varint_at-shortens c after n h
