-- The fields of a payload are those of the grammar, and what is written is read.
use Rattle.mum_fields.proofs.Common.{◌≡◌, ℕ, zero, suc, ◌+◌, ◌*◌, ◌<◌, List, [], ◌∷◌, ◌++◌, length, Option, None, Result, Ok, Err, refl, sym, ap, subst, ◌∙◌, arith, AllByRecursion, nil_from_length, length-append, flat_map-cons, from_le_bytes-to_le_bytes_4, from_le_bytes-to_le_bytes_8, FieldFault, shortest, Content, Varint, Fixed8, Block, Fixed4, Entry, Cursor, wire_type, IsValue, IsField, varint_in_front, field_at, AreFields, Walk, ended, stopped_by, first, fields, Item, value_bytes, spelling, written, FitsContent, Fits, skipped, placed_at, placed_from}
use Rattle.mum_fields.proofs.{Spellings.shortest-is_varint, Fields.varint_at-found, Fields.field_at-found, Fields.field_at-there, Walks.Shortens, Walks.walk-end, Walks.walk-item, Walks.walk-fault}

pub varint_at-shortens : Shortens varint_in_front
varint_at-shortens c after n e =
    let t = varint_at-found c (n, after) e in
    omega (arith, ap length t.took.parts, length-append t.bytes after.rest, t.some)

pub field_at-shortens : Shortens field_at
field_at-shortens c after x e =
    let t = field_at-found c (x, after) e in
    omega (arith, ap length t.took.parts, length-append t.bytes after.rest, t.some)

-- ---- the grammar

whole : List Entry → Walk Entry
whole es = record { items = es; fault = None }

items_same : (w v : Walk Entry) → w ≡ v → w.items ≡ v.items
items_same w v e = ap (λ (u : Walk Entry). u.items) e

head_same : (x e : Entry) (xs es : List Entry) → x ∷ xs ≡ e ∷ es → x ≡ e
head_same x e xs es h = cc

tail_same : (x e : Entry) (xs es : List Entry) → x ∷ xs ≡ e ∷ es → xs ≡ es
tail_same x e xs es h = cc

pub are-fields : (c : Cursor) (es : List Entry) → AreFields c es → fields c ≡ record { items = es; fault = None }
are-fields c [] h = walk-end field_at c h
are-fields c (e ∷ es) h =
    let front = h.0 in
    let rest = h.1 in
    let after : Cursor = record { place = c.place + length front; rest = rest } in
    let step : field_at c ≡ Ok (e, after) = rw h.2 (field_at-there c.place e front rest h.3) in
    walk-item field_at field_at-shortens c after e step ∙ ap (first e) (are-fields after es h.4)

stopped_not_whole : (fault : FieldFault) (es : List Entry) → stopped_by fault ≡ record { items = es; fault = None } → ⊥
stopped_not_whole fault es e = let h = ap (λ (u : Walk Entry). u.fault) e in cc

more_not_ended : (x : Entry) (w : Walk Entry) → first x w ≡ record { items = []; fault = None } → ⊥
more_not_ended x w e = let h = items_same (first x w) ended e in cc

fields_none : (c : Cursor) (n : ℕ) → length c.rest ≡ n → (r : Result (Entry × Cursor) FieldFault) → field_at c ≡ r → fields c ≡ record { items = []; fault = None } → c.rest ≡ []
fields_none c zero len r is h = nil_from_length c.rest len
fields_none c (suc n) len (Err fault) is h = absurd (stopped_not_whole fault [] (sym (walk-fault field_at c fault (omega arith) is) ∙ h))
fields_none c (suc n) len (Ok x) is h = absurd (more_not_ended x.0 (fields x.1) (sym (walk-item field_at field_at-shortens c x.1 x.0 is) ∙ h))

-- the first of the fields, and what is left after it
pub record First (c : Cursor) (e : Entry) (es : List Entry) (end : Option FieldFault) : Type 0 where
  pub after : Cursor
  pub step : field_at c ≡ Ok (e, after)
  pub others : fields after ≡ record { items = es; fault = end }

walk_is : (w : Walk Entry) (es : List Entry) (end : Option FieldFault) → w.items ≡ es → w.fault ≡ end → w ≡ record { items = es; fault = end }
walk_is w es end p q = ap (λ (i : List Entry). record { items = i; fault = w.fault }) p ∙ ap (λ (f : Option FieldFault). record { items = es; fault = f }) q

none_not_more : (w : Walk Entry) (e : Entry) (es : List Entry) (end : Option FieldFault) → w.items ≡ [] → w ≡ record { items = e ∷ es; fault = end } → ⊥
none_not_more w e es end none h = let k = sym none ∙ items_same w (record { items = e ∷ es; fault = end }) h in cc

pub fields_first : (c : Cursor) (e : Entry) (es : List Entry) (end : Option FieldFault) (n : ℕ) → length c.rest ≡ n → (r : Result (Entry × Cursor) FieldFault) → field_at c ≡ r → fields c ≡ record { items = e ∷ es; fault = end } → First c e es end
fields_first c e es end zero len r is h = absurd (none_not_more ended e es end refl (sym (walk-end field_at c (nil_from_length c.rest len)) ∙ h))
fields_first c e es end (suc n) len (Err fault) is h = absurd (none_not_more (stopped_by fault) e es end refl (sym (walk-fault field_at c fault (omega arith) is) ∙ h))
fields_first c e es end (suc n) len (Ok x) is h =
    let same = sym (walk-item field_at field_at-shortens c x.1 x.0 is) ∙ h in
    let lists = ap (λ (u : Walk Entry). u.items) same in
    let faults : (fields x.1).fault ≡ end = ap (λ (u : Walk Entry). u.fault) same in
    let head = head_same x.0 e (fields x.1).items es lists in
    let tail = tail_same x.0 e (fields x.1).items es lists in
    record { after = x.1; step = rw head at is; others = walk_is (fields x.1) es end tail faults }

pub fields-are : (c : Cursor) (es : List Entry) → fields c ≡ record { items = es; fault = None } → AreFields c es
fields-are c [] h = fields_none c (length c.rest) refl (field_at c) refl h
fields-are c (e ∷ es) h =
    let f = fields_first c e es None (length c.rest) refl (field_at c) refl h in
    let t = field_at-found c (e, f.after) f.step in
    let after : f.after ≡ record { place = c.place + length t.bytes; rest = f.after.rest } = ap (λ (p : ℕ). record { place = p; rest = f.after.rest }) t.took.place in
    (t.bytes, f.after.rest, t.took.parts, t.is, subst (λ (d : Cursor). AreFields d es) after (fields-are f.after es f.others))

-- ---- what is written

value_bytes-is : (content : Content) → FitsContent content → IsValue content (value_bytes content) (skipped content)
value_bytes-is (Varint n) fits = (shortest-is_varint n fits, refl)
value_bytes-is (Fixed8 n) fits = (refl, sym (from_le_bytes-to_le_bytes_8 n fits), refl)
value_bytes-is (Block block) fits = (shortest (length block), shortest-is_varint (length block) fits, refl, refl)
value_bytes-is (Fixed4 n) fits = (refl, sym (from_le_bytes-to_le_bytes_4 n fits), refl)

wire_type-small : (content : Content) → wire_type content < 8
wire_type-small (Varint n) = omega arith
wire_type-small (Fixed8 n) = omega arith
wire_type-small (Block block) = omega arith
wire_type-small (Fixed4 n) = omega arith

spelling-is : (place : ℕ) (item : Item) → Fits item → IsField place (placed_at place item) (spelling item)
spelling-is place item fits =
    let low = wire_type-small item.content in
    record {
      key = shortest (item.number * 8 + wire_type item.content);
      value = value_bytes item.content;
      skipped = skipped item.content;
      parts = refl;
      number = fits.number;
      is_key = shortest-is_varint (item.number * 8 + wire_type item.content) (omega (arith, fits.number.1));
      is_value = value_bytes-is item.content fits.content;
      begins = refl;
    }

pub fields-written : (items : List Item) (place : ℕ) → AllByRecursion Fits items → fields (record { place = place; rest = written items }) ≡ record { items = placed_from place items; fault = None }
fields-written [] place fits = walk-end field_at (record { place = place; rest = [] }) refl
fields-written (item ∷ items) place fits =
    let after : Cursor = record { place = place + length (spelling item); rest = written items } in
    let step = field_at-there place (placed_at place item) (spelling item) (written items) (spelling-is place item fits.0) in
    rw flat_map-cons (walk-item field_at field_at-shortens (record { place = place; rest = spelling item ++ written items }) after (placed_at place item) step ∙ ap (first (placed_at place item)) (fields-written items (place + length (spelling item)) fits.1))
