-- The fault that is read is a fault of the relation, and each fault of the relation is read.
use Rattle.mum_fields.proofs.Common.{◌≡◌, ℕ, zero, suc, ◌+◌, ◌-◌, ◌*◌, ◌/◌, ◌%◌, ◌<◌, ◌⊎◌, inl, inr, Bool, true, false, cond, eqb, ltb, ◌||◌, List, [], ◌∷◌, length, take, Result, Ok, Err, refl, sym, ap, subst, ◌∙◌, arith, w32, w64, from_le_bytes, le-ltb, lt-ltb, ltb-true, ltb-false, eqb-true, eqb-false, ne_eqb, FaultKind, Truncated, BadWireType, BadVarint, BadLength, FieldFault, fault, above, varint_with, varint, Varint, Fixed8, Block, Fixed4, Entry, Cursor, IsNumber, skip, ◌>>=◌, number_from, varint_in_front, bytes_at, fixed8_at, fixed4_at, placed, value_at, field_at, HasNoVarint, above_64_bits, BeginsWithVarint, BeginsWithKey, IsNoWireType, group_begins, group_ends, six, seven, HasFieldFault, no_key, no_number, no_wire_type, no_varint, cut_fixed8, no_length, long_block, cut_fixed4}
use Rattle.mum_fields.specs.NoField.{cut}
use Rattle.mum_fields.proofs.{VarintFaults.varint-truncated, VarintFaults.truncated-varint, VarintFaults.varint-bad, VarintFaults.bad-varint, Fields.varint_at-found, Fields.varint_at-spelled}

abbrev failed : {A : Type 0} → FieldFault → Result A FieldFault
failed e = Err e

-- ---- no varint

abbrev no_number_found : FaultKind → Result (ℕ × ℕ) FaultKind
no_number_found kind = Err kind

same_kind : (a b : FaultKind) → no_number_found a ≡ no_number_found b → a ≡ b
same_kind a b e = cc

abbrev OfVarints : FaultKind → Type 0
OfVarints kind = (kind ≡ Truncated) ⊎ (kind ≡ BadVarint)

of_last : (b : ℕ) (test : Bool) (kind : FaultKind) → cond test (Err BadVarint) (Ok (b, 1)) ≡ no_number_found kind → OfVarints kind
of_last b true kind e = inr (sym (same_kind BadVarint kind e))
of_last b false kind e = absurd cc

of_above : (low : ℕ) (r : Result (ℕ × ℕ) FaultKind) (kind : FaultKind) → (r ≡ no_number_found kind → OfVarints kind) → above low r ≡ no_number_found kind → OfVarints kind
of_above low (Ok x) kind others e = absurd cc
of_above low (Err found) kind others e = others e

of_more : (b : ℕ) (r : Result (ℕ × ℕ) FaultKind) (test : Bool) (kind : FaultKind) → (r ≡ no_number_found kind → OfVarints kind) → cond test (Ok (b, 1)) (above (b - 128) r) ≡ no_number_found kind → OfVarints kind
of_more b r true kind others e = absurd cc
of_more b r false kind others e = of_above (b - 128) r kind others e

of_varints : (more : ℕ) (bytes : List ℕ) (kind : FaultKind) → varint_with more bytes ≡ no_number_found kind → OfVarints kind
of_varints more [] kind e = inl (sym (same_kind Truncated kind e))
of_varints zero (b ∷ bs) kind e = of_last b (ltb 1 b) kind e
of_varints (suc more) (b ∷ bs) kind e = of_more b (varint_with more bs) (ltb b 128) kind (of_varints more bs kind) e

varint-of : (bytes : List ℕ) (kind : FaultKind) → varint bytes ≡ no_number_found kind → OfVarints kind
unfolding varint
varint-of bytes kind e = of_varints 9 bytes kind e

pub is_no_varint : (bytes : List ℕ) (kind : FaultKind) → varint bytes ≡ no_number_found kind → HasNoVarint bytes kind
is_no_varint bytes kind e = elim (varint-of bytes kind e) [
  | inl is ↦ subst (λ k. HasNoVarint bytes k) (sym is) (let h = varint-truncated bytes (e ∙ ap no_number_found is) in cut bytes h.0 h.1)
  | inr is ↦ subst (λ k. HasNoVarint bytes k) (sym is) (above_64_bits bytes (varint-bad bytes (e ∙ ap no_number_found is)))
]

pub no_varint-is : (bytes : List ℕ) (kind : FaultKind) → HasNoVarint bytes kind → varint bytes ≡ no_number_found kind
no_varint-is _ _ (cut bytes tops few) = truncated-varint bytes (tops, few)
no_varint-is _ _ (above_64_bits bytes passes) = bad-varint bytes passes

varint_at-none : (c : Cursor) (kind : FaultKind) → HasNoVarint c.rest kind → varint_in_front c ≡ failed (fault kind c.place)
unfolding varint_in_front
varint_at-none c kind h = ap (number_from c) (no_varint-is c.rest kind h)

record IsNoVarintAt (c : Cursor) (e : FieldFault) : Type 0 where
  kind : FaultKind
  none : HasNoVarint c.rest kind
  is : fault kind c.place ≡ e

same_fault : {A : Type 0} (d e : FieldFault) → failed {A = A} d ≡ failed e → d ≡ e
same_fault d e h = cc

from_number : (c : Cursor) (e : FieldFault) (r : Result (ℕ × ℕ) FaultKind) → varint c.rest ≡ r → number_from c r ≡ failed e → IsNoVarintAt c e
from_number c e (Ok found) is h = absurd cc
from_number c e (Err kind) is h = record { kind = kind; none = is_no_varint c.rest kind is; is = same_fault (fault kind c.place) e h }

varint_at-failed : (c : Cursor) (e : FieldFault) → varint_in_front c ≡ failed e → IsNoVarintAt c e
unfolding varint_in_front
varint_at-failed c e h = from_number c e (varint c.rest) refl h

varint_at-begins : (c after : Cursor) (n : ℕ) → BeginsWithVarint c n after → varint_in_front c ≡ Ok (n, after)
varint_at-begins c after n h =
    ap (λ (r : List ℕ). varint_in_front (record { place = c.place; rest = r })) h.whole
    ∙ varint_at-spelled c.place h.bytes after.rest n h.is
    ∙ ap (λ (p : ℕ). Ok (n, record { place = p; rest = after.rest })) (sym h.behind)

begins-varint_at : (c : Cursor) (x : ℕ × Cursor) → varint_in_front c ≡ Ok x → BeginsWithVarint c x.0 x.1
begins-varint_at c x e = let t = varint_at-found c x e in record { bytes = t.bytes; is = t.is; whole = t.took.parts; behind = t.took.place }

-- ---- from the relation

by_key : (c after : Cursor) (number wire : ℕ) → wire < 8 → BeginsWithKey c number wire after → field_at c ≡ value_at c.place number wire after
unfolding field_at
by_key c after number wire low h =
    let key = varint_at-begins c after (number * 8 + wire) h.1 in
    let is_number : (number * 8 + wire) / 8 ≡ number = omega arith in
    let is_wire : (number * 8 + wire) % 8 ≡ wire = omega arith in
    let some = ne_eqb number 0 (λ none. omega (arith, h.0.0)) in
    let few = le-ltb 536870911 number (omega (arith, h.0.1)) in
    rw (key, is_number, is_wire, some, few) refl

is_none : (n : ℕ) (a b : Bool) → eqb n 0 ≡ a → ltb 536870911 n ≡ b → (IsNumber n → ⊥) → (a || b) ≡ true
is_none n true b p q none = refl
is_none n false true p q none = refl
is_none n false false p q none =
    let some = eqb-false n 0 p in
    let few = ltb-false 536870911 n q in
    absurd (none (omega arith, omega arith))

no_value : (key number wire : ℕ) (c : Cursor) → IsNoWireType wire → value_at key number wire c ≡ failed (fault BadWireType key)
unfolding value_at
no_value key number _ c group_begins = refl
no_value key number _ c group_ends = refl
no_value key number _ c six = refl
no_value key number _ c seven = refl

no_wire_type-below : (wire : ℕ) → IsNoWireType wire → wire < 8
no_wire_type-below _ group_begins = omega arith
no_wire_type-below _ group_ends = omega arith
no_wire_type-below _ six = omega arith
no_wire_type-below _ seven = omega arith

bytes_at-few : (missing : FaultKind) (n : ℕ) (c : Cursor) → length c.rest < n → bytes_at missing n c ≡ failed (fault missing c.place)
unfolding bytes_at
bytes_at-few missing n c few = rw (lt-ltb (length c.rest) n few) refl

pub fault-there : (c : Cursor) (e : FieldFault) → HasFieldFault c e → field_at c ≡ failed e
unfolding field_at value_at fixed8_at fixed4_at
fault-there _ _ (no_key c kind some h) = rw (varint_at-none c kind h) refl
fault-there _ _ (no_number c after key h none) =
    rw (varint_at-begins c after key h, is_none (key / 8) (eqb (key / 8) 0) (ltb 536870911 (key / 8)) refl refl none) refl
fault-there _ _ (no_wire_type c after number wire h none) =
    by_key c after number wire (no_wire_type-below wire none) h ∙ no_value c.place number wire after none
fault-there _ _ (no_varint c after number kind h none) =
    by_key c after number 0 (omega arith) h ∙ rw (varint_at-none after kind none) refl
fault-there _ _ (cut_fixed8 c after number h few) =
    by_key c after number 1 (omega arith) h ∙ rw (bytes_at-few Truncated 8 after few) refl
fault-there _ _ (no_length c after number kind h none) =
    by_key c after number 2 (omega arith) h ∙ rw (varint_at-none after kind none) refl
fault-there _ _ (long_block c after behind number size h count few) =
    by_key c after number 2 (omega arith) h ∙ rw (varint_at-begins after behind size count, bytes_at-few BadLength size behind few) refl
fault-there _ _ (cut_fixed4 c after number h few) =
    by_key c after number 5 (omega arith) h ∙ rw (bytes_at-few Truncated 4 after few) refl

-- ---- from what is read

abbrev Later : {A B : Type 0} → Result A FieldFault → (A → Result B FieldFault) → FieldFault → Type 0
Later {A} r f e = (r ≡ failed e) ⊎ ((x : A) × (r ≡ Ok x) × (f x ≡ failed e))

bind_failed : {A B : Type 0} (r : Result A FieldFault) (f : A → Result B FieldFault) (e : FieldFault) → (r >>= f) ≡ failed e → Later r f e
bind_failed {A} {B} (Err d) f e h = inl (ap (failed {A = A}) (same_fault {A = B} d e h))
bind_failed (Ok x) f e h = inr (x, refl, h)

tested : {A : Type 0} (b : Bool) (r s t : Result A FieldFault) → cond b r s ≡ t → ((b ≡ true) × (r ≡ t)) ⊎ ((b ≡ false) × (s ≡ t))
tested true r s t e = inl (refl, e)
tested false r s t e = inr (refl, e)

bytes_at-failed : (missing : FaultKind) (n : ℕ) (c : Cursor) (e : FieldFault) → bytes_at missing n c ≡ failed e → (length c.rest < n) × (fault missing c.place ≡ e)
unfolding bytes_at
bytes_at-failed missing n c e h = by_test (ltb (length c.rest) n) refl h
  where
    by_test : (test : Bool) → ltb (length c.rest) n ≡ test → cond test (failed {A = List ℕ × Cursor} (fault missing c.place)) (Ok (take n c.rest, skip n c)) ≡ failed e → (length c.rest < n) × (fault missing c.place ≡ e)
    by_test true is g = (ltb-true (length c.rest) n is, same_fault {A = List ℕ × Cursor} (fault missing c.place) e g)
    by_test false is g = absurd cc

-- what value a key of this number begins, where it has a fault
abbrev Faulty : Cursor → Cursor → ℕ → ℕ → FieldFault → Type 0
Faulty c after number wire e = BeginsWithKey c number wire after → HasFieldFault c e

no_value_of : {A : Type 0} (x : A) (e : FieldFault) → Ok x ≡ failed {A = A} e → ⊥
no_value_of x e h = cc

varint-faulty : (c after : Cursor) (number : ℕ) (e : FieldFault) → (varint_in_front after >>= λ found. Ok (placed number after.place (Varint found.0, found.1))) ≡ failed e → Faulty c after number 0 e
varint-faulty c after number e h key = elim (bind_failed (varint_in_front after) (λ found. Ok (placed number after.place (Varint found.0, found.1))) e h) [
  | inl none ↦ let v = varint_at-failed after e none in subst (λ d. HasFieldFault c d) v.is (no_varint c after number v.kind key v.none)
  | inr found ↦ absurd (no_value_of _ e found.2)
]

fixed8-faulty : (c after : Cursor) (number : ℕ) (e : FieldFault) → (fixed8_at after >>= λ found. Ok (placed number after.place (Fixed8 found.0, found.1))) ≡ failed e → Faulty c after number 1 e
unfolding fixed8_at
fixed8-faulty c after number e h key = elim (bind_failed (fixed8_at after) (λ found. Ok (placed number after.place (Fixed8 found.0, found.1))) e h) [
  | inl none ↦ elim (bind_failed (bytes_at Truncated 8 after) (λ found. Ok (from_le_bytes w64 found.0, found.1)) e none) [
    | inl few ↦ let v = bytes_at-failed Truncated 8 after e few in subst (λ d. HasFieldFault c d) v.1 (cut_fixed8 c after number key v.0)
    | inr found ↦ absurd (no_value_of _ e found.2)
  ]
  | inr found ↦ absurd (no_value_of _ e found.2)
]

fixed4-faulty : (c after : Cursor) (number : ℕ) (e : FieldFault) → (fixed4_at after >>= λ found. Ok (placed number after.place (Fixed4 found.0, found.1))) ≡ failed e → Faulty c after number 5 e
unfolding fixed4_at
fixed4-faulty c after number e h key = elim (bind_failed (fixed4_at after) (λ found. Ok (placed number after.place (Fixed4 found.0, found.1))) e h) [
  | inl none ↦ elim (bind_failed (bytes_at Truncated 4 after) (λ found. Ok (from_le_bytes w32 found.0, found.1)) e none) [
    | inl few ↦ let v = bytes_at-failed Truncated 4 after e few in subst (λ d. HasFieldFault c d) v.1 (cut_fixed4 c after number key v.0)
    | inr found ↦ absurd (no_value_of _ e found.2)
  ]
  | inr found ↦ absurd (no_value_of _ e found.2)
]

block-faulty : (c after : Cursor) (number : ℕ) (e : FieldFault) → (varint_in_front after >>= λ size. bytes_at BadLength size.0 size.1 >>= λ found. Ok (placed number size.1.place (Block found.0, found.1))) ≡ failed e → Faulty c after number 2 e
block-faulty c after number e h key = elim (bind_failed (varint_in_front after) (λ size. bytes_at BadLength size.0 size.1 >>= λ found. Ok (placed number size.1.place (Block found.0, found.1))) e h) [
  | inl none ↦ let v = varint_at-failed after e none in subst (λ d. HasFieldFault c d) v.is (no_length c after number v.kind key v.none)
  | inr size ↦ elim (bind_failed (bytes_at BadLength size.0.0 size.0.1) (λ found. Ok (placed number size.0.1.place (Block found.0, found.1))) e size.2) [
    | inl few ↦ let v = bytes_at-failed BadLength size.0.0 size.0.1 e few in subst (λ d. HasFieldFault c d) v.1 (long_block c after size.0.1 number size.0.0 key (begins-varint_at after size.0 size.1) v.0)
    | inr found ↦ absurd (no_value_of _ e found.2)
  ]
]

wire_type-none : (wire : ℕ) → wire < 8 → (wire ≡ 0 → ⊥) → (wire ≡ 1 → ⊥) → (wire ≡ 2 → ⊥) → (wire ≡ 5 → ⊥) → IsNoWireType wire
wire_type-none wire low not_0 not_1 not_2 not_5 =
    elim (which (eqb wire 3) refl) [
      | inl is ↦ subst (λ w. IsNoWireType w) (sym is) group_begins
      | inr not_3 ↦ elim (which_4 (eqb wire 4) refl) [
        | inl is ↦ subst (λ w. IsNoWireType w) (sym is) group_ends
        | inr not_4 ↦ elim (which_6 (eqb wire 6) refl) [
          | inl is ↦ subst (λ w. IsNoWireType w) (sym is) six
          | inr not_6 ↦ let is : 7 ≡ wire = omega arith in subst (λ w. IsNoWireType w) is seven
        ]
      ]
    ]
  where
    which : (test : Bool) → eqb wire 3 ≡ test → (wire ≡ 3) ⊎ (wire ≡ 3 → ⊥)
    which true e = inl (eqb-true wire 3 e)
    which false e = inr (eqb-false wire 3 e)

    which_4 : (test : Bool) → eqb wire 4 ≡ test → (wire ≡ 4) ⊎ (wire ≡ 4 → ⊥)
    which_4 true e = inl (eqb-true wire 4 e)
    which_4 false e = inr (eqb-false wire 4 e)

    which_6 : (test : Bool) → eqb wire 6 ≡ test → (wire ≡ 6) ⊎ (wire ≡ 6 → ⊥)
    which_6 true e = inl (eqb-true wire 6 e)
    which_6 false e = inr (eqb-false wire 6 e)

at_wire : (c after : Cursor) (number wire known : ℕ) (e : FieldFault) → wire ≡ known → Faulty c after number known e → Faulty c after number wire e
at_wire c after number wire known e is h key = h (subst (λ w. BeginsWithKey c number w after) is key)

value-faulty : (c after : Cursor) (number wire : ℕ) (e : FieldFault) → wire < 8 → value_at c.place number wire after ≡ failed e → Faulty c after number wire e
unfolding value_at
value-faulty c after number wire e low h =
    elim (tested (eqb wire 0) _ _ _ h) [
      | inl p ↦ at_wire c after number wire 0 e (eqb-true wire 0 p.0) (varint-faulty c after number e p.1)
      | inr g ↦ elim (tested (eqb wire 1) _ _ _ g.1) [
        | inl p ↦ at_wire c after number wire 1 e (eqb-true wire 1 p.0) (fixed8-faulty c after number e p.1)
        | inr i ↦ elim (tested (eqb wire 2) _ _ _ i.1) [
          | inl p ↦ at_wire c after number wire 2 e (eqb-true wire 2 p.0) (block-faulty c after number e p.1)
          | inr j ↦ elim (tested (eqb wire 5) _ _ _ j.1) [
            | inl p ↦ at_wire c after number wire 5 e (eqb-true wire 5 p.0) (fixed4-faulty c after number e p.1)
            | inr k ↦ λ key. subst (λ d. HasFieldFault c d) (same_fault {A = Entry × Cursor} (fault BadWireType c.place) e k.1)
                (no_wire_type c after number wire key (wire_type-none wire low (eqb-false wire 0 g.0) (eqb-false wire 1 i.0) (eqb-false wire 2 j.0) (eqb-false wire 5 k.0)))
          ]
        ]
      ]
    ]

not_a_number : (n : ℕ) (a b : Bool) → eqb n 0 ≡ a → ltb 536870911 n ≡ b → (a || b) ≡ true → IsNumber n → ⊥
not_a_number n true b p q h number = let none = eqb-true n 0 p in omega (arith, number.0)
not_a_number n false true p q h number = let many = ltb-true 536870911 n q in omega (arith, number.1)
not_a_number n false false p q h number = absurd cc

a_number : (n : ℕ) (a b : Bool) → eqb n 0 ≡ a → ltb 536870911 n ≡ b → (a || b) ≡ false → IsNumber n
a_number n true b p q h = absurd cc
a_number n false true p q h = absurd cc
a_number n false false p q h =
    let some = eqb-false n 0 p in
    let few = ltb-false 536870911 n q in
    (omega arith, omega arith)

pub there-fault : (c : Cursor) (e : FieldFault) → 0 < length c.rest → field_at c ≡ failed e → HasFieldFault c e
unfolding field_at
there-fault c e some h =
    elim (bind_failed (varint_in_front c) (λ key. cond (eqb (key.0 / 8) 0 || ltb 536870911 (key.0 / 8)) (Err (fault BadWireType c.place)) (value_at c.place (key.0 / 8) (key.0 % 8) key.1)) e h) [
      | inl none ↦ let v = varint_at-failed c e none in subst (λ d. HasFieldFault c d) v.is (no_key c v.kind some v.none)
      | inr key ↦
          let n = key.0.0 / 8 in
          let begins = begins-varint_at c key.0 key.1 in
          elim (tested (eqb n 0 || ltb 536870911 n) _ _ _ key.2) [
            | inl p ↦ subst (λ d. HasFieldFault c d) (same_fault {A = Entry × Cursor} (fault BadWireType c.place) e p.1)
                (no_number c key.0.1 key.0.0 begins (not_a_number n (eqb n 0) (ltb 536870911 n) refl refl p.0))
            | inr p ↦
                let number = a_number n (eqb n 0) (ltb 536870911 n) refl refl p.0 in
                let whole : key.0.0 ≡ n * 8 + key.0.0 % 8 = omega arith in
                value-faulty c key.0.1 n (key.0.0 % 8) e (omega arith) p.1 (number, subst (λ k. BeginsWithVarint c k key.0.1) whole begins)
          ]
    ]
