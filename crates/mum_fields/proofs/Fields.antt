-- The field that is read is in the grammar, and a field of the grammar is read, whatever follows.
use Rattle.mum_fields.proofs.Common.{◌≡◌, ℕ, ◌+◌, ◌*◌, ◌/◌, ◌%◌, ◌<◌, ◌≤◌, ◌⊎◌, inl, inr, Bool, true, false, cond, eqb, ltb, ◌||◌, List, ◌++◌, length, take, Result, Ok, Err, refl, sym, ap, subst, ◌∙◌, arith, append_assoc, add-zero, w32, w64, from_le_bytes, le-ltb, ltb-false, eqb-true, eqb-false, ne_eqb, take_at, drop_at, take-append-drop, length-append, length-take, FaultKind, Truncated, BadWireType, BadLength, FieldFault, fault, IsVarint, varint, Content, Varint, Fixed8, Block, Fixed4, Entry, Cursor, skip, wire_type, IsValue, IsField, ◌>>=◌, number_from, varint_in_front, bytes_at, fixed8_at, fixed4_at, placed, value_at, field_at}
use Rattle.mum_fields.proofs.Spellings.{varint-spelled, varint-found}

-- ---- steps that did not fail

abbrev done : {A : Type 0} → A → Result A FieldFault
done x = Ok x

ok_is : {A : Type 0} (x y : A) → done x ≡ done y → x ≡ y
ok_is x y e = cc

bind_ok : {A B : Type 0} (r : Result A FieldFault) (f : A → Result B FieldFault) (y : B) → (r >>= f) ≡ done y → (x : A) × (r ≡ done x) × (f x ≡ done y)
bind_ok (Ok x) f y e = (x, refl, e)
bind_ok (Err d) f y e = absurd cc

guard_ok : {A : Type 0} (b : Bool) (d : FieldFault) (r : Result A FieldFault) (y : A) → cond b (Err d) r ≡ done y → (b ≡ false) × (r ≡ done y)
guard_ok true d r y e = absurd cc
guard_ok false d r y e = (refl, e)

chosen : {A : Type 0} (b : Bool) (r s t : Result A FieldFault) → cond b r s ≡ t → ((b ≡ true) × (r ≡ t)) ⊎ ((b ≡ false) × (s ≡ t))
chosen true r s t e = inl (refl, e)
chosen false r s t e = inr (refl, e)

neither : (a b : Bool) → (a || b) ≡ false → (a ≡ false) × (b ≡ false)
neither true b e = absurd cc
neither false b e = (refl, e)

-- a cursor went over these bytes
pub record Took (c after : Cursor) (bytes : List ℕ) : Type 0 where
  pub parts : c.rest ≡ bytes ++ after.rest
  pub place : after.place ≡ c.place + length bytes

Took-skip : (n : ℕ) (c : Cursor) → n ≤ length c.rest → Took c (skip n c) (take n c.rest)
Took-skip n c fits = record { parts = sym (take-append-drop n c.rest); place = omega (arith, length-take n c.rest) }

Took-both : (a b c : Cursor) (x y : List ℕ) → Took a b x → Took b c y → Took a c (x ++ y)
Took-both a b c x y p q = record { parts = p.parts ∙ ap (λ (t : List ℕ). x ++ t) q.parts ∙ sym (append_assoc x y c.rest); place = omega (arith, length-append x y) }

-- ---- varints and bytes

pub record TookVarint (c after : Cursor) (n : ℕ) : Type 0 where
  pub bytes : List ℕ
  pub took : Took c after bytes
  pub some : 0 < length bytes
  pub is : IsVarint bytes n

found_varint : (c : Cursor) (x : ℕ × Cursor) (r : Result (ℕ × ℕ) FaultKind) → varint c.rest ≡ r → number_from c r ≡ done x → TookVarint c x.1 x.0
found_varint c x (Err kind) is e = absurd cc
found_varint c x (Ok found) is e =
    let v = varint-found c.rest found.0 found.1 is in
    subst (λ (y : ℕ × Cursor). TookVarint c y.1 y.0) (ok_is (found.0, skip found.1 c) x e) (record {
      bytes = take found.1 c.rest;
      took = Took-skip found.1 c v.within;
      some = omega (arith, length-take found.1 c.rest, v.within, v.some);
      is = v.is;
    })

pub varint_at-found : (c : Cursor) (x : ℕ × Cursor) → varint_in_front c ≡ done x → TookVarint c x.1 x.0
unfolding varint_in_front
varint_at-found c x e = found_varint c x (varint c.rest) refl e

record TookBytes (c after : Cursor) (bytes : List ℕ) (n : ℕ) : Type 0 where
  took : Took c after bytes
  count : length bytes ≡ n

bytes_at-found : (missing : FaultKind) (n : ℕ) (c : Cursor) (x : List ℕ × Cursor) → bytes_at missing n c ≡ done x → TookBytes c x.1 x.0 n
unfolding bytes_at
bytes_at-found missing n c x e =
    let g = guard_ok (ltb (length c.rest) n) (fault missing c.place) (done (take n c.rest, skip n c)) x e in
    let fits = ltb-false (length c.rest) n g.0 in
    subst (λ (y : List ℕ × Cursor). TookBytes c y.1 y.0 n) (ok_is (take n c.rest, skip n c) x g.1) (record {
      took = Took-skip n c fits;
      count = omega (arith, length-take n c.rest);
    })

pub varint_at-spelled : (place : ℕ) (bytes rest : List ℕ) (n : ℕ) → IsVarint bytes n → varint_in_front (record { place = place; rest = bytes ++ rest }) ≡ done (n, record { place = place + length bytes; rest = rest })
unfolding varint_in_front
varint_at-spelled place bytes rest n h = rw (varint-spelled bytes rest n h, drop_at bytes rest (length bytes) refl) refl

bytes_at-there : (missing : FaultKind) (place n : ℕ) (bytes rest : List ℕ) → length bytes ≡ n → bytes_at missing n (record { place = place; rest = bytes ++ rest }) ≡ done (bytes, record { place = place + n; rest = rest })
unfolding bytes_at
bytes_at-there missing place n bytes rest len =
    let fits = le-ltb (length (bytes ++ rest)) n (omega (arith, length-append bytes rest)) in
    rw (fits, take_at bytes rest n len, drop_at bytes rest n len) refl

-- ---- values

record TookValue (c after : Cursor) (n wire : ℕ) (e : Entry) : Type 0 where
  bytes : List ℕ
  skipped : ℕ
  took : Took c after bytes
  same_number : e.number ≡ n
  same_wire : wire_type e.content ≡ wire
  is : IsValue e.content bytes skipped
  begins : e.place ≡ c.place + skipped

abbrev Taken : (c : Cursor) (n wire : ℕ) → Entry × Cursor → Type 0
Taken c n wire x = TookValue c x.1 n wire x.0

took_varint : (n wire : ℕ) (c : Cursor) (x : Entry × Cursor) → wire ≡ 0 → (varint_in_front c >>= λ found. Ok (placed n c.place (Varint found.0, found.1))) ≡ done x → Taken c n wire x
took_varint n wire c x is e =
    let b = bind_ok (varint_in_front c) (λ found. Ok (placed n c.place (Varint found.0, found.1))) x e in
    let v = varint_at-found c b.0 b.1 in
    subst (λ (y : Entry × Cursor). TookValue c y.1 n wire y.0) (ok_is _ x b.2) (record { bytes = v.bytes; skipped = 0; took = v.took; same_number = refl; same_wire = sym is; is = (v.is, refl); begins = omega arith })

took_fixed8 : (n wire : ℕ) (c : Cursor) (x : Entry × Cursor) → wire ≡ 1 → (fixed8_at c >>= λ found. Ok (placed n c.place (Fixed8 found.0, found.1))) ≡ done x → Taken c n wire x
unfolding fixed8_at
took_fixed8 n wire c x is e =
    let b = bind_ok (fixed8_at c) (λ found. Ok (placed n c.place (Fixed8 found.0, found.1))) x e in
    let d = bind_ok (bytes_at Truncated 8 c) (λ found. Ok (from_le_bytes w64 found.0, found.1)) b.0 b.1 in
    let v = bytes_at-found Truncated 8 c d.0 d.1 in
    let value : TookValue c d.0.1 n wire (record { number = n; content = Fixed8 (from_le_bytes w64 d.0.0); place = c.place })
    = record { bytes = d.0.0; skipped = 0; took = v.took; same_number = refl; same_wire = sym is; is = (v.count, refl, refl); begins = omega arith } in
    subst (λ (y : Entry × Cursor). TookValue c y.1 n wire y.0) (ap (λ (f : ℕ × Cursor). placed n c.place (Fixed8 f.0, f.1)) (ok_is _ b.0 d.2) ∙ ok_is _ x b.2) value

took_fixed4 : (n wire : ℕ) (c : Cursor) (x : Entry × Cursor) → wire ≡ 5 → (fixed4_at c >>= λ found. Ok (placed n c.place (Fixed4 found.0, found.1))) ≡ done x → Taken c n wire x
unfolding fixed4_at
took_fixed4 n wire c x is e =
    let b = bind_ok (fixed4_at c) (λ found. Ok (placed n c.place (Fixed4 found.0, found.1))) x e in
    let d = bind_ok (bytes_at Truncated 4 c) (λ found. Ok (from_le_bytes w32 found.0, found.1)) b.0 b.1 in
    let v = bytes_at-found Truncated 4 c d.0 d.1 in
    let value : TookValue c d.0.1 n wire (record { number = n; content = Fixed4 (from_le_bytes w32 d.0.0); place = c.place })
    = record { bytes = d.0.0; skipped = 0; took = v.took; same_number = refl; same_wire = sym is; is = (v.count, refl, refl); begins = omega arith } in
    subst (λ (y : Entry × Cursor). TookValue c y.1 n wire y.0) (ap (λ (f : ℕ × Cursor). placed n c.place (Fixed4 f.0, f.1)) (ok_is _ b.0 d.2) ∙ ok_is _ x b.2) value

took_block : (n wire : ℕ) (c : Cursor) (x : Entry × Cursor) → wire ≡ 2 → (varint_in_front c >>= λ size. bytes_at BadLength size.0 size.1 >>= λ found. Ok (placed n size.1.place (Block found.0, found.1))) ≡ done x → Taken c n wire x
took_block n wire c x is e =
    let b = bind_ok (varint_in_front c) (λ size. bytes_at BadLength size.0 size.1 >>= λ found. Ok (placed n size.1.place (Block found.0, found.1))) x e in
    let size = varint_at-found c b.0 b.1 in
    let d = bind_ok (bytes_at BadLength b.0.0 b.0.1) (λ found. Ok (placed n b.0.1.place (Block found.0, found.1))) x b.2 in
    let v = bytes_at-found BadLength b.0.0 b.0.1 d.0 d.1 in
    let length_is : IsVarint size.bytes (length d.0.0) = rw v.count size.is in
    subst (λ (y : Entry × Cursor). TookValue c y.1 n wire y.0) (ok_is _ x d.2) (record {
      bytes = size.bytes ++ d.0.0;
      skipped = length size.bytes;
      took = Took-both c b.0.1 d.0.1 size.bytes d.0.0 size.took v.took;
      same_number = refl;
      same_wire = sym is;
      is = (size.bytes, length_is, refl, refl);
      begins = size.took.place;
    })

value_at-found : (key n wire : ℕ) (c : Cursor) (x : Entry × Cursor) → value_at key n wire c ≡ done x → Taken c n wire x
unfolding value_at
value_at-found key n wire c x e =
    elim (chosen (eqb wire 0) _ _ _ e) [
      | inl h ↦ took_varint n wire c x (eqb-true wire 0 h.0) h.1
      | inr g ↦ elim (chosen (eqb wire 1) _ _ _ g.1) [
        | inl h ↦ took_fixed8 n wire c x (eqb-true wire 1 h.0) h.1
        | inr i ↦ elim (chosen (eqb wire 2) _ _ _ i.1) [
          | inl h ↦ took_block n wire c x (eqb-true wire 2 h.0) h.1
          | inr j ↦ elim (chosen (eqb wire 5) _ _ _ j.1) [
            | inl h ↦ took_fixed4 n wire c x (eqb-true wire 5 h.0) h.1
            | inr k ↦ absurd (apart k.1)
          ]
        ]
      ]
    ]
  where
    apart : Err (fault BadWireType key) ≡ done x → ⊥
    apart h = cc

-- ---- fields

pub record TookField (c after : Cursor) (e : Entry) : Type 0 where
  pub bytes : List ℕ
  pub took : Took c after bytes
  pub some : 0 < length bytes
  pub is : IsField c.place e bytes

pub field_at-found : (c : Cursor) (x : Entry × Cursor) → field_at c ≡ done x → TookField c x.1 x.0
unfolding field_at
field_at-found c x e =
    let b = bind_ok (varint_in_front c) (λ key. cond (eqb (key.0 / 8) 0 || ltb 536870911 (key.0 / 8)) (Err (fault BadWireType c.place)) (value_at c.place (key.0 / 8) (key.0 % 8) key.1)) x e in
    let key = varint_at-found c b.0 b.1 in
    let g = guard_ok (eqb (b.0.0 / 8) 0 || ltb 536870911 (b.0.0 / 8)) (fault BadWireType c.place) (value_at c.place (b.0.0 / 8) (b.0.0 % 8) b.0.1) x b.2 in
    let tests = neither (eqb (b.0.0 / 8) 0) (ltb 536870911 (b.0.0 / 8)) g.0 in
    let some = eqb-false (b.0.0 / 8) 0 tests.0 in
    let few = ltb-false 536870911 (b.0.0 / 8) tests.1 in
    let value = value_at-found c.place (b.0.0 / 8) (b.0.0 % 8) b.0.1 x g.1 in
    let whole : b.0.0 ≡ x.0.number * 8 + wire_type x.0.content = omega (arith, value.same_number, value.same_wire) in
    record {
      bytes = key.bytes ++ value.bytes;
      took = Took-both c b.0.1 x.1 key.bytes value.bytes key.took value.took;
      some = omega (arith, length-append key.bytes value.bytes, key.some);
      is = record {
        key = key.bytes;
        value = value.bytes;
        skipped = value.skipped;
        parts = refl;
        number = (omega (arith, value.same_number), omega (arith, value.same_number));
        is_key = rw (← whole) key.is;
        is_value = value.is;
        begins = omega (arith, value.begins, key.took.place);
      };
    }

value_at-there : (key n place : ℕ) (content : Content) (bytes rest : List ℕ) (skipped : ℕ) → IsValue content bytes skipped
    → value_at key n (wire_type content) (record { place = place; rest = bytes ++ rest }) ≡ done (record { number = n; content = content; place = place + skipped }, record { place = place + length bytes; rest = rest })
unfolding value_at fixed8_at fixed4_at
value_at-there key n place (Varint value) bytes rest skipped h = rw (varint_at-spelled place bytes rest value h.0, h.1, add-zero) refl
value_at-there key n place (Fixed8 value) bytes rest skipped h = rw (bytes_at-there Truncated place 8 bytes rest h.0, h.1, h.2, h.0, add-zero) refl
value_at-there key n place (Block block) bytes rest skipped h =
    let parts : bytes ++ rest ≡ h.0 ++ (block ++ rest) = rw h.2 (append_assoc h.0 block rest) in
    let size = varint_at-spelled place h.0 (block ++ rest) (length block) h.1 in
    let after = bytes_at-there BadLength (place + length h.0) (length block) block rest refl in
    let ends : place + length h.0 + length block ≡ place + length bytes = omega (arith, ap length h.2, length-append h.0 block) in
    rw (parts, size, after, h.3, ends) refl
value_at-there key n place (Fixed4 value) bytes rest skipped h = rw (bytes_at-there Truncated place 4 bytes rest h.0, h.1, h.2, h.0, add-zero) refl

-- the key of a field is its number and its wire type
wire_type-below : (content : Content) → wire_type content < 8
wire_type-below (Varint n) = omega arith
wire_type-below (Fixed8 n) = omega arith
wire_type-below (Block block) = omega arith
wire_type-below (Fixed4 n) = omega arith

pub field_at-there : (place : ℕ) (e : Entry) (bytes rest : List ℕ) → IsField place e bytes → field_at (record { place = place; rest = bytes ++ rest }) ≡ done (e, record { place = place + length bytes; rest = rest })
unfolding field_at
field_at-there place e bytes rest h =
    let low = wire_type-below e.content in
    let number : (e.number * 8 + wire_type e.content) / 8 ≡ e.number = omega arith in
    let wire : (e.number * 8 + wire_type e.content) % 8 ≡ wire_type e.content = omega arith in
    let some = ne_eqb e.number 0 (λ none. omega (arith, h.number.0)) in
    let few = le-ltb 536870911 e.number (omega (arith, h.number.1)) in
    let parts : bytes ++ rest ≡ h.key ++ (h.value ++ rest) = rw h.parts (append_assoc h.key h.value rest) in
    let key = varint_at-spelled place h.key (h.value ++ rest) (e.number * 8 + wire_type e.content) h.is_key in
    let value = value_at-there place e.number (place + length h.key) e.content h.value rest h.skipped h.is_value in
    let begins = sym h.begins in
    let ends : place + length h.key + length h.value ≡ place + length bytes = omega (arith, ap length h.parts, length-append h.key h.value) in
    rw (parts, key, number, wire, some, few, value, begins, ends) refl
