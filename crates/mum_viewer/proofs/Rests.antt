-- What is left of a text of which more was written.
use Rattle.mum_viewer.proofs.Common.{◌≡◌, ℕ, zero, suc, ◌+◌, ◌-◌, ◌≤◌, List, [], ◌∷◌, drop, length, sym, ap, ◌∙◌, arith, drop-nil, length-drop}

dropped : (text : List ℕ) (done n : ℕ) → drop (done + n) text ≡ drop n (drop done text)
dropped text zero n = let e : 0 + n ≡ n = omega arith in ap (λ k. drop k text) e
dropped [] (suc done) n = drop-nil (suc done + n) ∙ sym (drop-nil n)
dropped (x ∷ text) (suc done) n =
    let e : suc done + n ≡ suc (done + n) = omega arith in
    ap (λ k. drop k (x ∷ text)) e ∙ dropped text done n

-- nothing was written yet
pub all_left : (text : List ℕ) (left : ℕ) → left ≡ length text → drop (length text - left) text ≡ text
all_left text left same = let none : length text - left ≡ 0 = omega (arith, same) in ap (λ n. drop n text) none

-- as many bytes are left as are said to be
pub left_are : (text : List ℕ) (left : ℕ) → left ≤ length text → length (drop (length text - left) text) ≡ left
left_are text left within =
    let first : length (drop (length text - left) text) ≡ length text - (length text - left) = length-drop (length text - left) text in
    omega (arith, within, first)

-- some more were written
pub fewer_left : (text : List ℕ) (left count : ℕ) → left ≤ length text → count ≤ left
    → drop (length text - (left - count)) text ≡ drop count (drop (length text - left) text)
fewer_left text left count within some =
    let e : length text - (left - count) ≡ (length text - left) + count = omega (arith, within, some) in
    ap (λ n. drop n text) e ∙ dropped text (length text - left) count
