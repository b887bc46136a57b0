-- Headers that are read piece by piece.
use Rattle.mum_address.proofs.Common.{◌≡◌, ℕ, ◌+◌, ◌-◌, ◌*◌, ◌^◌, ◌≤◌, List, [], ◌∷◌, ◌++◌, length, take, drop, Option, refl, sym, ap, subst, ◌∙◌, append_assoc, arith, inl, inr, ltb-true, append-nil, length-append, length-drop, take_at, take-append-le, take-append-drop, nat_lt, signature, IsHeader, Reading, is_command, is_family, told_by, reading_rest, reading_length, reading_family, reading_command, reading, needs, whole, refused, wanted, IsRead}
use Rattle.mum_address.proofs.Fronts.{kept, passed, not_needs, needs_is, needs_more, rest_read, behind_read, front_read}

-- ---- there is room for what is wanted

room_rest : (command family len count : ℕ) (bytes : List ℕ) → reading_rest command family len bytes ≡ needs count → length bytes + count ≤ 520
room_rest command family len count bytes e =
    let r = rest_read command family len bytes (needs count) (not_needs count) e in
    let n = needs_more (nat_lt (length bytes) len) (len - length bytes) count (told_by command family bytes) r.answer_is in
    let less = ltb-true (length bytes) len n.0 in
    omega (arith, n.1, less, r.fits)

room_length : (command family count : ℕ) (bytes : List ℕ) → reading_length command family bytes ≡ needs count → length bytes + count ≤ 522
unfolding reading_length
room_length command family count [] e = let n = needs_is 2 count e in omega (arith, n)
room_length command family count (high ∷ []) e =
    let p = passed (nat_lt 520 (high * 2 ^ 8)) (needs 1) (needs count) (not_needs count) e in
    let n = needs_is 1 count p.1 in
    omega (arith, n)
room_length command family count (high ∷ low ∷ bytes) e = let r = room_rest command family (high * 2 ^ 8 + low) count bytes e in omega (arith, r)

room_command : (count : ℕ) (bytes : List ℕ) → reading_command bytes ≡ needs count → length bytes + count ≤ 524
unfolding reading_command reading_family
room_command count [] e = let n = needs_is 4 count e in omega (arith, n)
room_command count (command ∷ []) e =
    let k = kept (is_command command) (needs 3) (needs count) (not_needs count) e in
    let n = needs_is 3 count k.1 in
    omega (arith, n)
room_command count (command ∷ family ∷ bytes) e =
    let k = kept (is_command command) _ (needs count) (not_needs count) e in
    let f = kept (is_family command family) (reading_length command family bytes) (needs count) (not_needs count) k.1 in
    let r = room_length command family count bytes f.1 in
    omega (arith, r)

room_wanted : (bytes : List ℕ) (count : ℕ) → reading bytes ≡ needs count → length bytes + count ≤ 536
unfolding reading
room_wanted bytes count e =
    elim (behind_read signature bytes (needs count) (not_needs count) e) [
      | inl there ↦
          let r = room_command count there.0 there.2 in
          let len : length bytes ≡ 12 + length there.0 = ap length there.1 ∙ length-append signature there.0 in
          omega (arith, r, len)
      | inr lacks ↦
          let n = needs_is (length lacks.0 + 4) count lacks.3 in
          let len : 12 ≡ length bytes + length lacks.0 = ap length lacks.1 ∙ length-append bytes lacks.0 in
          omega (arith, n, len)
    ]

pub room : (bytes next : List ℕ) → length bytes ≤ 536 → length next ≤ wanted (reading bytes) → length bytes + length next ≤ 536
room bytes next within le = by_answer (reading bytes) refl le
  where
    by_answer : (answer : Reading) → reading bytes ≡ answer → length next ≤ wanted answer → length bytes + length next ≤ 536
    by_answer (needs count) e le = let r = room_wanted bytes count e in omega (arith, r, le)
    by_answer (whole told) e le = omega (arith, within, le)
    by_answer refused e le = omega (arith, within, le)

pub read_fits : {bytes : List ℕ} → IsRead bytes → length bytes ≤ 536
read_fits IsRead.nothing = omega arith
read_fits (IsRead.piece bytes next came le) = let r = room bytes next (read_fits came) le in omega (arith, length-append bytes next, r)

-- ---- what is read goes no further than the header

-- the front of a header that is as long as what has come
front_is : (bytes more header behind : List ℕ) → bytes ++ more ≡ header ++ behind → length bytes ≤ length header → bytes ++ drop (length bytes) header ≡ header
front_is bytes more header behind e le =
    let t : take (length bytes) header ≡ bytes =
    sym (take-append-le (length bytes) header behind le) ∙ ap (take (length bytes)) (sym e) ∙ take_at bytes more (length bytes) refl in
    ap (λ (b : List ℕ). b ++ drop (length bytes) header) (sym t) ∙ take-append-drop (length bytes) header

next_within : (bytes next header : List ℕ) (told : Option (List ℕ)) → IsHeader header told → bytes ++ drop (length bytes) header ≡ header → length bytes ≤ length header
    → length next ≤ wanted (reading bytes) → length bytes + length next ≤ length header
next_within bytes next header told is front le fits =
    elim (front_read bytes (drop (length bytes) header) told (rw front is)) [
      | inl all ↦ let none : length next ≤ 0 = subst (λ (answer : Reading). length next ≤ wanted answer) all.1 fits in omega (arith, none, le)
      | inr some ↦
          let few : length next ≤ some.0 = subst (λ (answer : Reading). length next ≤ wanted answer) some.1 fits in
          omega (arith, few, some.3, length-drop (length bytes) header, le)
    ]

pub no_further : {bytes : List ℕ} → IsRead bytes → (more header behind : List ℕ) (told : Option (List ℕ)) → IsHeader header told → bytes ++ more ≡ header ++ behind → length bytes ≤ length header
no_further IsRead.nothing more header behind told is e = omega arith
no_further (IsRead.piece bytes next came fits) more header behind told is e =
    let e' : bytes ++ (next ++ more) ≡ header ++ behind = sym (append_assoc bytes next more) ∙ e in
    let before = no_further came (next ++ more) header behind told is e' in
    let r = next_within bytes next header told is (front_is bytes (next ++ more) header behind e' before) before fits in
    omega (arith, length-append bytes next, r)

-- the header has come whole where no more is wanted
whole_come : (bytes header : List ℕ) (told : Option (List ℕ)) → IsHeader header told → bytes ++ drop (length bytes) header ≡ header → wanted (reading bytes) ≡ 0 → bytes ≡ header
whole_come bytes header told is front none =
    elim (front_read bytes (drop (length bytes) header) told (rw front is)) [
      | inl all ↦ sym (append-nil bytes) ∙ ap (λ (b : List ℕ). bytes ++ b) (sym all.0) ∙ front
      | inr some ↦ absurd (let e : some.0 ≡ 0 = ap wanted (sym some.1) ∙ none in omega (arith, e, some.2))
    ]

pub all_come : {bytes : List ℕ} → IsRead bytes → (more header behind : List ℕ) (told : Option (List ℕ)) → IsHeader header told → bytes ++ more ≡ header ++ behind → wanted (reading bytes) ≡ 0 → bytes ≡ header
all_come {bytes} came more header behind told is e none = whole_come bytes header told is (front_is bytes more header behind e (no_further came more header behind told is e)) none

pub wanted-fits : (bytes : List ℕ) → wanted (reading bytes) ≤ 536
wanted-fits bytes = by_answer (reading bytes) refl
  where
    by_answer : (answer : Reading) → reading bytes ≡ answer → wanted answer ≤ 536
    by_answer (needs count) e = let r = room_wanted bytes count e in omega (arith, r)
    by_answer (whole told) e = omega arith
    by_answer refused e = omega arith
