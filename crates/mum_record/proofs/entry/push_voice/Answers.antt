use Rattle.mum_record.proofs.Common.{◌≡◌, ◌∙◌, ap, List, ℕ, [], ◌∷◌, ◌++◌, map, length, append_assoc, arith, codes, IfOk-weaker, on_ok_weaker, string_bytes, decimal, flat_map, encode_lower, line_of_words, copy_word, behind_copy, entry_words}
use Rattle.mum_record.proofs.Appended.{line_and, copies_behind}
use Rattle.mum_record.proofs.entry.push_voice.Goals as goal

pub returns-clause-text : goal.returns-clause-text
unfolding entry_words
returns-clause-text c =
    let copies = c.args.copies.now in
    let old : List ℕ = string_bytes c.args.text.now in
    let words : List (List ℕ) = decimal c.args.connection ∷ decimal c.args.revision ∷ encode_lower c.args.packet.now ∷ decimal (length copies) ∷ [] in
    let begun : string_bytes c.push_line.new.text ≡ old ++ line_of_words (codes "v" ∷ words) = rw c.place_word.ensures.word at c.in_ok-push_line.ensures in
    IfOk-weaker c.push_copies.result _ _
    (λ _ is. is ∙ ap (λ (xs : List ℕ). xs ++ flat_map behind_copy copies) begun ∙ append_assoc old (line_of_words (codes "v" ∷ words)) (flat_map behind_copy copies)
    ∙ ap (λ (xs : List ℕ). old ++ (line_of_words (codes "v" ∷ words) ++ xs)) (copies_behind copies)
    ∙ ap (λ (xs : List ℕ). old ++ xs) (line_and (codes "v") words (map copy_word copies)))
    c.push_copies.ensures.text

pub returns-clause-fits : goal.returns-clause-fits
returns-clause-fits c =
    on_ok_weaker c.push_copies.result (λ copies. (c.place_word.ensures.fits, omega arith, λ i. omega (arith, c.type_inv.packet i), omega arith, copies)) c.push_copies.ensures.fits
