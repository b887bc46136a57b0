-- What several writes do together.
use Rattle.mum_io.proofs.Common.{ℕ, ◌+◌, List, ◌++◌, length, take, drop, arith, length-append, subst, sym, take-append-add, take-add, take-length, take-append-le, Option, Appends-trans, Appends, AppendsFront}
pub use Rattle.std.proofs.KnownBytes.{Appends-nil, Appends-trans, Appends-kept, Consumes-nil, Consumes-trans, Consumes-kept, Keeps-refl, Keeps-trans}

-- the first done bytes, and then n more of the rest
pub Appends-more : (a b c : Option (List ℕ)) (done n : ℕ) (bytes : List ℕ) → Appends a b (take done bytes) → Appends b c (take n (drop done bytes))
    → Appends a c (take (done + n) bytes)
Appends-more a b c done n bytes first more =
    subst (Appends a c) (sym (take-add done n bytes)) (Appends-trans a b c (take done bytes) (take n (drop done bytes)) first more)

-- all of xs was written, and then a front of ys
pub AppendsFront-behind : (a b c : Option (List ℕ)) (xs ys : List ℕ) → Appends a b xs → AppendsFront b c ys → AppendsFront a c (xs ++ ys)
AppendsFront-behind a b c xs ys first (n, within, more) = (
  length xs + n,
  omega (arith, length-append xs ys),
  subst (Appends a c) (sym (take-append-add xs ys n)) (Appends-trans a b c xs (take n ys) first more),
)

-- a front of xs is a front of what goes on after xs
pub AppendsFront-longer : (a b : Option (List ℕ)) (xs ys : List ℕ) → AppendsFront a b xs → AppendsFront a b (xs ++ ys)
AppendsFront-longer a b xs ys (n, within, front) =
    (n, omega (arith, length-append xs ys), subst (Appends a b) (sym (take-append-le n xs ys within)) front)

-- all of it is a front of it
pub AppendsFront-whole : (a b : Option (List ℕ)) (xs : List ℕ) → Appends a b xs → AppendsFront a b xs
AppendsFront-whole a b xs all = (length xs, omega arith, subst (Appends a b) (sym (take-length xs)) all)
