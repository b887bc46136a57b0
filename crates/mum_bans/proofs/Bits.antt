-- The first bits of two addresses, compared byte for byte.
use Rattle.mum_bans.proofs.Common.{◌≡◌, ℕ, zero, suc, ◌+◌, ◌-◌, ◌*◌, ◌/◌, ◌%◌, ◌^◌, ◌<◌, ◌≤◌, Bool, true, false, ◌&&◌, ◌↔◌, IsTrue, List, ◌∷◌, take, get_or, nat_eq, bytes_eq, Fits, w8, refl, sym, ap, ap₂, subst, ◌∙◌, inl, inr, div-add-mod', div-one, shr-shr, arith, cases_eq, eq-eqb, ne_eqb, bytes_eq-Decides, bit_at, Ban, address_bits, covers}

and_true : (b : Bool) → (b && true) ≡ b
and_true true = refl
and_true false = refl

-- two numbers are equal where their halves and their lowest bits are
halves : (a b : ℕ) (r : Bool) → (nat_eq (a / 2) (b / 2) && (nat_eq (a % 2) (b % 2) && r)) ≡ (nat_eq a b && r)
halves a b r =
    elim (cases_eq (a / 2) (b / 2)) [
      | inl high ↦ ap (λ t. t && (nat_eq (a % 2) (b % 2) && r)) (eq-eqb (a / 2) (b / 2) high) ∙ lowest high
      | inr other ↦ ap (λ t. t && (nat_eq (a % 2) (b % 2) && r)) (ne_eqb (a / 2) (b / 2) other) ∙ sym (ap (λ t. t && r) (ne_eqb a b (λ e. other (ap (λ n. n / 2) e))))
    ]
  where
    lowest : a / 2 ≡ b / 2 → (nat_eq (a % 2) (b % 2) && r) ≡ (nat_eq a b && r)
    lowest high =
        elim (cases_eq (a % 2) (b % 2)) [
          | inl low ↦ ap (λ t. t && r) (eq-eqb (a % 2) (b % 2) low) ∙ sym (ap (λ t. t && r) (eq-eqb a b (sym (div-add-mod' a 2) ∙ ap₂ (λ q m. q * 2 + m) high low ∙ div-add-mod' b 2)))
          | inr other ↦ ap (λ t. t && r) (ne_eqb (a % 2) (b % 2) other) ∙ sym (ap (λ t. t && r) (ne_eqb a b (λ e. other (ap (λ n. n % 2) e))))
        ]

-- one bit more from above
one_bit : (x y i : ℕ) (r : Bool) → (nat_eq (x / 2 ^ (i + 1)) (y / 2 ^ (i + 1)) && (nat_eq (bit_at x i) (bit_at y i) && r)) ≡ (nat_eq (x / 2 ^ i) (y / 2 ^ i) && r)
one_bit x y i r =
    ap₂ (λ a b. nat_eq a b && (nat_eq (bit_at x i) (bit_at y i) && r)) (sym (shr-shr x i 1)) (sym (shr-shr y i 1))
    ∙ halves (x / 2 ^ i) (y / 2 ^ i) r

-- above a byte there is none
above : (x y : ℕ) → x < 256 → y < 256 → nat_eq (x / 256) (y / 256) ≡ true
above x y x_is y_is = eq-eqb (x / 256) (y / 256) (omega arith)

top1 : (x y : ℕ) (r : Bool) → x < 256 → y < 256 → (nat_eq (bit_at x 7) (bit_at y 7) && r) ≡ (nat_eq (x / 128) (y / 128) && r)
top1 x y r x_is y_is = sym (ap (λ t. t && (nat_eq (bit_at x 7) (bit_at y 7) && r)) (above x y x_is y_is)) ∙ one_bit x y 7 r

top2 : (x y : ℕ) (r : Bool) → x < 256 → y < 256 → (nat_eq (bit_at x 7) (bit_at y 7) && (nat_eq (bit_at x 6) (bit_at y 6) && r)) ≡ (nat_eq (x / 64) (y / 64) && r)
top2 x y r x_is y_is = top1 x y (nat_eq (bit_at x 6) (bit_at y 6) && r) x_is y_is ∙ one_bit x y 6 r

top3 : (x y : ℕ) (r : Bool) → x < 256 → y < 256 → (nat_eq (bit_at x 7) (bit_at y 7) && (nat_eq (bit_at x 6) (bit_at y 6) && (nat_eq (bit_at x 5) (bit_at y 5) && r))) ≡ (nat_eq (x / 32) (y / 32) && r)
top3 x y r x_is y_is = top2 x y (nat_eq (bit_at x 5) (bit_at y 5) && r) x_is y_is ∙ one_bit x y 5 r

top4 : (x y : ℕ) (r : Bool) → x < 256 → y < 256 → (nat_eq (bit_at x 7) (bit_at y 7) && (nat_eq (bit_at x 6) (bit_at y 6) && (nat_eq (bit_at x 5) (bit_at y 5) && (nat_eq (bit_at x 4) (bit_at y 4) && r)))) ≡ (nat_eq (x / 16) (y / 16) && r)
top4 x y r x_is y_is = top3 x y (nat_eq (bit_at x 4) (bit_at y 4) && r) x_is y_is ∙ one_bit x y 4 r

top5 : (x y : ℕ) (r : Bool) → x < 256 → y < 256 → (nat_eq (bit_at x 7) (bit_at y 7) && (nat_eq (bit_at x 6) (bit_at y 6) && (nat_eq (bit_at x 5) (bit_at y 5) && (nat_eq (bit_at x 4) (bit_at y 4) && (nat_eq (bit_at x 3) (bit_at y 3) && r))))) ≡ (nat_eq (x / 8) (y / 8) && r)
top5 x y r x_is y_is = top4 x y (nat_eq (bit_at x 3) (bit_at y 3) && r) x_is y_is ∙ one_bit x y 3 r

top6 : (x y : ℕ) (r : Bool) → x < 256 → y < 256 → (nat_eq (bit_at x 7) (bit_at y 7) && (nat_eq (bit_at x 6) (bit_at y 6) && (nat_eq (bit_at x 5) (bit_at y 5) && (nat_eq (bit_at x 4) (bit_at y 4) && (nat_eq (bit_at x 3) (bit_at y 3) && (nat_eq (bit_at x 2) (bit_at y 2) && r)))))) ≡ (nat_eq (x / 4) (y / 4) && r)
top6 x y r x_is y_is = top5 x y (nat_eq (bit_at x 2) (bit_at y 2) && r) x_is y_is ∙ one_bit x y 2 r

top7 : (x y : ℕ) (r : Bool) → x < 256 → y < 256 → (nat_eq (bit_at x 7) (bit_at y 7) && (nat_eq (bit_at x 6) (bit_at y 6) && (nat_eq (bit_at x 5) (bit_at y 5) && (nat_eq (bit_at x 4) (bit_at y 4) && (nat_eq (bit_at x 3) (bit_at y 3) && (nat_eq (bit_at x 2) (bit_at y 2) && (nat_eq (bit_at x 1) (bit_at y 1) && r))))))) ≡ (nat_eq (x / 2) (y / 2) && r)
top7 x y r x_is y_is = top6 x y (nat_eq (bit_at x 1) (bit_at y 1) && r) x_is y_is ∙ one_bit x y 1 r

top8 : (x y : ℕ) (r : Bool) → x < 256 → y < 256 → (nat_eq (bit_at x 7) (bit_at y 7) && (nat_eq (bit_at x 6) (bit_at y 6) && (nat_eq (bit_at x 5) (bit_at y 5) && (nat_eq (bit_at x 4) (bit_at y 4) && (nat_eq (bit_at x 3) (bit_at y 3) && (nat_eq (bit_at x 2) (bit_at y 2) && (nat_eq (bit_at x 1) (bit_at y 1) && (nat_eq (bit_at x 0) (bit_at y 0) && r)))))))) ≡ (nat_eq x y && r)
top8 x y r x_is y_is =
    top7 x y (nat_eq (bit_at x 0) (bit_at y 0) && r) x_is y_is
    ∙ one_bit x y 0 r
    ∙ ap₂ (λ a b. nat_eq a b && r) (div-one x) (div-one y)

-- less than a byte
pub alike_within : (bits x y : ℕ) (xs ys : List ℕ) → x < 256 → y < 256 → 1 ≤ bits → bits < 8 → nat_eq (x / 2 ^ (8 - bits)) (y / 2 ^ (8 - bits)) ≡ bytes_eq (take bits (address_bits (x ∷ xs))) (take bits (address_bits (y ∷ ys)))
alike_within zero x y xs ys x_is y_is low high = let never : ⊥ = omega arith in absurd never
alike_within (suc zero) x y xs ys x_is y_is low high = sym (top1 x y true x_is y_is ∙ and_true _)
alike_within (suc (suc zero)) x y xs ys x_is y_is low high = sym (top2 x y true x_is y_is ∙ and_true _)
alike_within (suc (suc (suc zero))) x y xs ys x_is y_is low high = sym (top3 x y true x_is y_is ∙ and_true _)
alike_within (suc (suc (suc (suc zero)))) x y xs ys x_is y_is low high = sym (top4 x y true x_is y_is ∙ and_true _)
alike_within (suc (suc (suc (suc (suc zero))))) x y xs ys x_is y_is low high = sym (top5 x y true x_is y_is ∙ and_true _)
alike_within (suc (suc (suc (suc (suc (suc zero)))))) x y xs ys x_is y_is low high = sym (top6 x y true x_is y_is ∙ and_true _)
alike_within (suc (suc (suc (suc (suc (suc (suc zero))))))) x y xs ys x_is y_is low high = sym (top7 x y true x_is y_is ∙ and_true _)
alike_within (suc (suc (suc (suc (suc (suc (suc (suc n)))))))) x y xs ys x_is y_is low high = let never : ⊥ = omega arith in absurd never

whole_byte : (n x y : ℕ) (xs ys : List ℕ) → x < 256 → y < 256 → (nat_eq x y && bytes_eq (take n (address_bits xs)) (take n (address_bits ys))) ≡ bytes_eq (take (suc (suc (suc (suc (suc (suc (suc (suc n)))))))) (address_bits (x ∷ xs))) (take (suc (suc (suc (suc (suc (suc (suc (suc n)))))))) (address_bits (y ∷ ys)))
whole_byte n x y xs ys x_is y_is = sym (top8 x y (bytes_eq (take n (address_bits xs)) (take n (address_bits ys))) x_is y_is)

-- a whole byte, and those after it
pub alike_past : (bits x y : ℕ) (xs ys : List ℕ) → x < 256 → y < 256 → 8 ≤ bits → (nat_eq x y && bytes_eq (take (bits - 8) (address_bits xs)) (take (bits - 8) (address_bits ys))) ≡ bytes_eq (take bits (address_bits (x ∷ xs))) (take bits (address_bits (y ∷ ys)))
alike_past bits x y xs ys x_is y_is low =
    let is : suc (suc (suc (suc (suc (suc (suc (suc (bits - 8)))))))) ≡ bits = omega arith in
    subst (λ n. (nat_eq x y && bytes_eq (take (bits - 8) (address_bits xs)) (take (bits - 8) (address_bits ys))) ≡ bytes_eq (take n (address_bits (x ∷ xs))) (take n (address_bits (y ∷ ys)))) is
    (whole_byte (bits - 8) x y xs ys x_is y_is)

-- no bit is no bit
pub alike_none : (xs ys : List ℕ) → bytes_eq (take 0 xs) (take 0 ys) ≡ true
alike_none xs ys = refl

-- a test of covering is the equality of bits
pub covering : (ban : Ban) (address : List ℕ) → IsTrue (covers ban address) ↔ (take ban.mask (address_bits ban.address) ≡ take ban.mask (address_bits address))
covering ban address = bytes_eq-Decides (take ban.mask (address_bits ban.address)) (take ban.mask (address_bits address))

first_byte : (xs rest : List ℕ) (x : ℕ) → xs ≡ x ∷ rest → Fits w8 (get_or xs 0 0) → x < 256
first_byte xs rest x is fits = let h : get_or xs 0 0 < 256 = omega (arith, fits) in subst (λ (bytes : List ℕ). get_or bytes 0 0 < 256) is h

-- the same of addresses that begin with these bytes
pub alike_before : (bits x y : ℕ) (xs ys rest others : List ℕ) → xs ≡ x ∷ rest → ys ≡ y ∷ others → Fits w8 (get_or xs 0 0) → Fits w8 (get_or ys 0 0) → (bits ≡ 0 → ⊥) → bits < 8 → nat_eq (x / 2 ^ (8 - bits)) (y / 2 ^ (8 - bits)) ≡ bytes_eq (take bits (address_bits xs)) (take bits (address_bits ys))
alike_before bits x y xs ys rest others is also fits fitting some low =
    alike_within bits x y rest others (first_byte xs rest x is fits) (first_byte ys others y also fitting) (omega arith) low
    ∙ ap₂ (λ (a b : List ℕ). bytes_eq (take bits (address_bits a)) (take bits (address_bits b))) (sym is) (sym also)

alike_all : (bits x y : ℕ) (xs ys rest others : List ℕ) → xs ≡ x ∷ rest → ys ≡ y ∷ others → Fits w8 (get_or xs 0 0) → Fits w8 (get_or ys 0 0) → 8 ≤ bits → (nat_eq x y && bytes_eq (take (bits - 8) (address_bits rest)) (take (bits - 8) (address_bits others))) ≡ bytes_eq (take bits (address_bits xs)) (take bits (address_bits ys))
alike_all bits x y xs ys rest others is also fits fitting high =
    alike_past bits x y rest others (first_byte xs rest x is fits) (first_byte ys others y also fitting) high
    ∙ ap₂ (λ (a b : List ℕ). bytes_eq (take bits (address_bits a)) (take bits (address_bits b))) (sym is) (sym also)

pub alike_same : (bits x y : ℕ) (xs ys rest others : List ℕ) → xs ≡ x ∷ rest → ys ≡ y ∷ others → Fits w8 (get_or xs 0 0) → Fits w8 (get_or ys 0 0) → 8 ≤ bits → x ≡ y → bytes_eq (take (bits - 8) (address_bits rest)) (take (bits - 8) (address_bits others)) ≡ bytes_eq (take bits (address_bits xs)) (take bits (address_bits ys))
alike_same bits x y xs ys rest others is also fits fitting high same =
    sym (ap (λ t. t && bytes_eq (take (bits - 8) (address_bits rest)) (take (bits - 8) (address_bits others))) (eq-eqb x y same))
    ∙ alike_all bits x y xs ys rest others is also fits fitting high

pub alike_other : (bits x y : ℕ) (xs ys rest others : List ℕ) → xs ≡ x ∷ rest → ys ≡ y ∷ others → Fits w8 (get_or xs 0 0) → Fits w8 (get_or ys 0 0) → 8 ≤ bits → (x ≡ y → ⊥) → nat_eq x y ≡ bytes_eq (take bits (address_bits xs)) (take bits (address_bits ys))
alike_other bits x y xs ys rest others is also fits fitting high other =
    ne_eqb x y other
    ∙ sym (ap (λ t. t && bytes_eq (take (bits - 8) (address_bits rest)) (take (bits - 8) (address_bits others))) (ne_eqb x y other))
    ∙ alike_all bits x y xs ys rest others is also fits fitting high
