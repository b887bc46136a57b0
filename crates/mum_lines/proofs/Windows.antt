-- The bytes of a buffer from one place to another.
use Rattle.mum_lines.proofs.Common.{◌≡◌, ℕ, ◌+◌, ◌-◌, ◌≤◌, List, ◌++◌, take, drop, slice_range, sym, ap, ◌∙◌, arith, drop-take, drop-drop, take-add}

-- a later start drops the first bytes
pub later : (xs : List ℕ) (start end count : ℕ) → start + count ≤ end → slice_range xs (start + count) end ≡ drop count (slice_range xs start end)
later xs start end count inside =
    let parts : end - start ≡ count + (end - (start + count)) = omega arith in
    sym (ap (λ j. drop count (take j (drop start xs))) parts ∙ drop-take count (end - (start + count)) (drop start xs)
    ∙ ap (take (end - (start + count))) (drop-drop count start xs))

up_to : (xs : List ℕ) (start end : ℕ) → start ≤ end → drop start (take end xs) ≡ slice_range xs start end
up_to xs start end ordered =
    let parts : end ≡ start + (end - start) = omega arith in
    ap (λ (j : ℕ). drop start (take j xs)) parts ∙ drop-take start (end - start) xs

-- the bytes up to the end are all that counts
pub same : (xs ys : List ℕ) (start end : ℕ) → start ≤ end → take end ys ≡ take end xs → slice_range ys start end ≡ slice_range xs start end
same xs ys start end ordered front = sym (up_to ys start end ordered) ∙ ap (drop start) front ∙ up_to xs start end ordered

-- a later end has the bytes after too
pub grown : (xs ys : List ℕ) (start end n : ℕ) → start ≤ end → take end ys ≡ take end xs → slice_range ys start (end + n) ≡ slice_range xs start end ++ take n (drop end ys)
grown xs ys start end n ordered front =
    let sum : end + n - start ≡ (end - start) + n = omega arith in
    let parts : (end - start) + start ≡ end = omega arith in
    ap (λ (j : ℕ). take j (drop start ys)) sum ∙ take-add (end - start) n (drop start ys)
    ∙ ap (λ (zs : List ℕ). take (end - start) (drop start ys) ++ take n zs) (drop-drop (end - start) start ys ∙ ap (λ (j : ℕ). drop j ys) (omega arith))
    ∙ ap (λ (zs : List ℕ). zs ++ take n (drop end ys)) (same xs ys start end ordered front)
