-- The line of a worker, and the worker that a line names.
use Rattle.mum_record.proofs.Common.{◌≡◌, ℕ, ◌-◌, ◌^◌, ◌<◌, Bool, true, false, List, [], ◌∷◌, Some, None, refl, sym, ap, ◌∙◌, arith, codes, false_from_ne_true, bytes_eq-Decides, join_with_byte-slice_split, ◌==◌, decimal, join_with_byte, words_in, worker_line, worker_in, is_worker_line, eqb-true, eq-eqb}
use Rattle.mum_record.proofs.{Numbers.number_within-decimal, Splits.slice_split-join_all, Laws.chosen, Graphic.graphic_AreAllWords, Graphic.literal_graphic, Graphic.decimal_graphic, EntryLaws.revision-found}

worker_words : (n : ℕ) → n < 2 ^ 64 → words_in (worker_line n) ≡ codes "worker" ∷ decimal n ∷ []
worker_words n h =
    slice_split-join_all (codes "worker" ∷ decimal n ∷ []) (omega arith)
    (graphic_AreAllWords (codes "worker" ∷ decimal n ∷ []) (literal_graphic (codes "worker") refl, (decimal_graphic n h, tt)))

worker_in-line : (n : ℕ) → n < 2 ^ 64 → worker_in (words_in (worker_line n)) ≡ Some n
worker_in-line n h = ap worker_in (worker_words n h) ∙ number_within-decimal 0 (2 ^ 64 - 1) n (omega arith) (omega arith) h

worker_in-words : (words : List (List ℕ)) (n : ℕ) → worker_in words ≡ Some n → words ≡ codes "worker" ∷ decimal n ∷ []
worker_in-words [] n h = cc
worker_in-words (name ∷ []) n h = cc
worker_in-words (name ∷ word ∷ []) n h =
    chosen name (codes "worker") _ _ n (λ w e. let found = revision-found word n e in rw (w, found.1) refl) (λ e. cc) h
worker_in-words (name ∷ word ∷ more ∷ others) n h = cc

worker_in-found : (line : List ℕ) (n : ℕ) → worker_in (words_in line) ≡ Some n → line ≡ worker_line n
worker_in-found line n h = sym (join_with_byte-slice_split 32 line) ∙ ap (join_with_byte 32) (worker_in-words (words_in line) n h)

-- a line names the worker whose line it is
line_names : (n : ℕ) (line : List ℕ) → n < 2 ^ 64 → is_worker_line n line ≡ true → worker_in (words_in line) ≡ Some n
line_names n line h same =
    let is : line ≡ worker_line n = (bytes_eq-Decides line (worker_line n)).0 same in
    ap (λ (l : List ℕ). worker_in (words_in l)) is ∙ worker_in-line n h

-- the line of a worker that is named is that of no other
pub is_worker_line-named : (n named : ℕ) (line : List ℕ) → n < 2 ^ 64 → Some named ≡ worker_in (words_in line) → (named == n) ≡ is_worker_line n line
is_worker_line-named n named line h names = by_test (named == n) refl
  where
    by_test : (same : Bool) → (named == n) ≡ same → same ≡ is_worker_line n line
    by_test true e =
        let is : line ≡ worker_line n = worker_in-found line named (sym names) ∙ ap worker_line (eqb-true named n e) in
        sym ((bytes_eq-Decides line (worker_line n)).1 is)
    by_test false e =
        sym (false_from_ne_true (is_worker_line n line) (λ same.
        let there : Some named ≡ Some n = names ∙ line_names n line h same in
        let number : named ≡ n = cc in
        let test = eq-eqb named n number in
        cc))

pub is_worker_line-none : (n : ℕ) (line : List ℕ) → n < 2 ^ 64 → None ≡ worker_in (words_in line) → false ≡ is_worker_line n line
is_worker_line-none n line h none =
    sym (false_from_ne_true (is_worker_line n line) (λ same.
    let there : None ≡ Some n = none ∙ line_names n line h same in
    cc))
