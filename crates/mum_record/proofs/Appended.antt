-- Lines that are appended word by word.
use Rattle.mum_record.proofs.Common.{◌≡◌, ℕ, ◌+◌, ◌<◌, List, [], ◌∷◌, ◌++◌, map, length, get_or, take, refl, sym, ap, ◌∙◌, append_assoc, append-nil, take_more, flat_map_more, flat_map, line_of_words, behind_word, copy_word, behind_copy, Marked}

-- a line of a first word and others
first_and : (first : List ℕ) (words : List (List ℕ)) → line_of_words (first ∷ words) ≡ first ++ flat_map behind_word words
first_and first [] = sym (append-nil first)
first_and first (word ∷ words) = ap (λ (xs : List ℕ). first ++ 32 ∷ xs) (first_and word words)

-- a line of words and of others after them
pub line_and : (first : List ℕ) (words others : List (List ℕ)) → line_of_words (first ∷ words) ++ flat_map behind_word others ≡ line_of_words (first ∷ (words ++ others))
line_and first [] others = sym (first_and first others)
line_and first (word ∷ words) others =
    append_assoc first (32 ∷ line_of_words (word ∷ words)) (flat_map behind_word others)
    ∙ ap (λ (xs : List ℕ). first ++ 32 ∷ xs) (line_and word words others)

pub copies_behind : (copies : List Marked) → flat_map behind_copy copies ≡ flat_map behind_word (map copy_word copies)
copies_behind [] = refl
copies_behind (copy ∷ copies) = ap (λ (xs : List ℕ). behind_copy copy ++ xs) (copies_behind copies)

-- one copy more
pub copy_more : (old a b c : List ℕ) (copies : List Marked) (i : ℕ) (d : Marked) → i < length copies
    → a ≡ old ++ flat_map behind_copy (take i copies) → b ≡ a ++ 32 ∷ [] → c ≡ b ++ copy_word (get_or copies i d)
    → c ≡ old ++ flat_map behind_copy (take (i + 1) copies)
copy_more old a b c copies i d h a_is b_is c_is =
    let copy : Marked = get_or copies i d in
    c_is ∙ ap (λ (t : List ℕ). t ++ copy_word copy) (b_is ∙ ap (λ (t : List ℕ). t ++ 32 ∷ []) a_is)
    ∙ append_assoc (old ++ flat_map behind_copy (take i copies)) (32 ∷ []) (copy_word copy)
    ∙ flat_map_more behind_copy old (take i copies) copy
    ∙ ap (λ (more : List Marked). old ++ flat_map behind_copy more) (sym (take_more copies i d h))
