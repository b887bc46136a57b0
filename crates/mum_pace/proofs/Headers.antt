-- What a header says.
use Rattle.mum_pace.proofs.Common.{◌≡◌, ℕ, ◌+◌, ◌*◌, List, [], ◌++◌, length, append-nil, get_or, take, drop, sym, ap, ◌∙◌, arith, get_or-drop, get_or-take, length-drop, drop_of_length-le, post_of, put_mid, w16, w32, from_be_bytes, Place, begun}

-- the place after a header of this type and length
abbrev pub behind : ℕ → ℕ → Place
behind kind payload = record { header = []; kind = kind; payload = payload; left = payload }

kind_is : (header : List ℕ) → from_be_bytes w16 (take 2 header) ≡ get_or header 0 0 * 256 + get_or header 1 0
kind_is header =
    let a = get_or-take 2 header 0 0 (omega arith) in
    let b = get_or-take 2 header 1 0 (omega arith) in
    omega arith

payload_is : (header : List ℕ) → from_be_bytes w32 (drop 2 header) ≡ get_or header 2 0 * 16777216 + get_or header 3 0 * 65536 + get_or header 4 0 * 256 + get_or header 5 0
payload_is header =
    let a = get_or-drop 2 header 0 0 in
    let b = get_or-drop 2 header 1 0 in
    let c = get_or-drop 2 header 2 0 in
    let d = get_or-drop 2 header 3 0 in
    omega arith

pub begun-is : (header : List ℕ) (kind payload : ℕ) → kind ≡ get_or header 0 0 * 256 + get_or header 1 0
    → payload ≡ get_or header 2 0 * 16777216 + get_or header 3 0 * 65536 + get_or header 4 0 * 256 + get_or header 5 0
    → behind kind payload ≡ begun header
unfolding begun
begun-is header kind payload e f =
    ap (λ (n : ℕ). behind n payload) (e ∙ sym (kind_is header)) ∙ ap (behind (from_be_bytes w16 (take 2 header))) (f ∙ sym (payload_is header))

-- what is written to the end of a list comes after its front
pub written_to_the_end : (xs ys : List ℕ) (a k : ℕ) → a + k ≡ length xs → put_mid a k xs ys ≡ take a xs ++ ys
written_to_the_end xs ys a k e =
    let none : post_of a k xs ≡ [] = drop_of_length-le (drop a xs) {i = k} (omega (arith, length-drop a xs)) in
    ap (λ (rest : List ℕ). take a xs ++ (ys ++ rest)) none ∙ ap (λ (zs : List ℕ). take a xs ++ zs) (append-nil ys)
