-- The line that reports who hears a packet.
use Rattle.mum_core.proofs.Common.{◌≡◌, ℕ, List, [], ◌∷◌, ◌++◌, length, map, sym, ap, ◌∙◌, append_assoc, append-nil, codes, decimal, flat_map, line_of_words, Hearer, joined, hearer_word, route_words}

words_more : (word : List ℕ) (hearers : List Hearer) → line_of_words (word ∷ map hearer_word hearers) ≡ word ++ flat_map (λ hearer. 32 ∷ hearer_word hearer) hearers
words_more word [] = sym (append-nil word)
words_more word (hearer ∷ hearers) = ap (λ (xs : List ℕ). word ++ 32 ∷ xs) (words_more (hearer_word hearer) hearers)

regroup : (a b c d e : List ℕ) → (a ++ 32 ∷ (b ++ 32 ∷ (c ++ 32 ∷ d))) ++ e ≡ a ++ 32 ∷ (b ++ 32 ∷ (c ++ 32 ∷ (d ++ e)))
regroup a b c d e = simp append_assoc

pub route_line : (w revision : ℕ) (hearers : List Hearer)
    → line_of_words (codes "route" ∷ decimal w ∷ decimal revision ∷ decimal (length hearers) ∷ []) ++ flat_map (λ hearer. 32 ∷ hearer_word hearer) hearers ≡ joined (route_words w revision hearers ∷ [])
route_line w revision hearers =
    regroup (codes "route") (decimal w) (decimal revision) (decimal (length hearers)) (flat_map (λ hearer. 32 ∷ hearer_word hearer) hearers)
    ∙ ap (λ (xs : List ℕ). codes "route" ++ 32 ∷ (decimal w ++ 32 ∷ (decimal revision ++ 32 ∷ xs))) (sym (words_more (decimal (length hearers)) hearers))
