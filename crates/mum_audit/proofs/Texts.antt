-- The text of an audience, member by member.
use Rattle.mum_audit.proofs.Common.{◌≡◌, ◌∙◌, ℕ, List, [], ◌∷◌, ◌++◌, length, map, sym, ap, decimal, flat_map, append-nil, length-map, flat_map-map, line_of_words, Member, audience_text, member_word}

words_more : (word : List ℕ) (members : List Member) → line_of_words (word ∷ map member_word members) ≡ word ++ flat_map (λ m. 32 ∷ member_word m) members
words_more word [] = sym (append-nil word)
words_more word (m ∷ members) = ap (λ (xs : List ℕ). word ++ 32 ∷ xs) (words_more (member_word m) members)

-- their number, and then each after a space
pub audience_of : {X : Type 0} (member : X → Member) (xs : List X) → decimal (length xs) ++ flat_map (λ x. 32 ∷ member_word (member x)) xs ≡ audience_text (map member xs)
audience_of {X} member xs =
    let members = map member xs in
    let rest : flat_map (λ m. 32 ∷ member_word m) members ≡ flat_map (λ x. 32 ∷ member_word (member x)) xs = flat_map-map (λ (m : Member). 32 ∷ member_word m) member xs in
    ap (λ (n : ℕ). decimal n ++ flat_map (λ x. 32 ∷ member_word (member x)) xs) (sym (length-map xs member))
    ∙ ap (λ (back : List ℕ). decimal (length members) ++ back) (sym rest)
    ∙ sym (words_more (decimal (length members)) members)
