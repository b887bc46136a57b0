-- The copies that words say, one after another.
use Rattle.mum_record.proofs.Common.{◌≡◌, ℕ, suc, List, [], ◌∷◌, ◌++◌, length, Option, Some, None, Err, refl, sym, ap, append_assoc, append-nil, option_map, copy_of, copies_of, ReadsOrTires, LineFault, NotALine, OutOfMemory, Marked}

-- how much of a line is left
abbrev pub size_after : Option (List ℕ) → ℕ
size_after None = 0
size_after (Some rest) = suc (length rest)

abbrev pub behind : List Marked → Option (List Marked) → Option (List Marked)
behind copies more = option_map (λ (others : List Marked). copies ++ others) more

pub none_yet : (o : Option (List Marked)) → o ≡ behind [] o
none_yet None = refl
none_yet (Some copies) = refl

moved : (copies : List Marked) (copy : Marked) (o : Option (List Marked)) → behind copies (option_map (λ (others : List Marked). copy ∷ others) o) ≡ behind (copies ++ copy ∷ []) o
moved copies copy None = refl
moved copies copy (Some others) = ap Some (sym (append_assoc copies (copy ∷ []) others))

pub one_more : (copies : List Marked) (copy : Marked) (word : List ℕ) (words : List (List ℕ)) → copy_of word ≡ Some copy
    → behind copies (copies_of (word ∷ words)) ≡ behind (copies ++ copy ∷ []) (copies_of words)
unfolding copies_of
one_more copies copy word words is = rw is (moved copies copy (copies_of words))

pub none_more : (copies : List Marked) (word : List ℕ) (words : List (List ℕ)) → copy_of word ≡ None → behind copies (copies_of (word ∷ words)) ≡ None
unfolding copies_of
none_more copies word words is = rw is refl

pub all_there : (copies : List Marked) → behind copies (copies_of []) ≡ Some copies
unfolding copies_of
all_there copies = ap Some (append-nil copies)

-- where there is nothing to be read, each fault is right
pub no_reading : {X : Type 0} (fault : LineFault) (read : Option X) → read ≡ None → ReadsOrTires (Err fault) read
no_reading NotALine read none = none
no_reading OutOfMemory read none = tt
