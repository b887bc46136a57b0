use Rattle.mum_record.proofs.Common.{◌≡◌, ◌∙◌, sym, ap, List, ℕ, [], ◌∷◌, join_with_byte-slice_split, join_with_byte, words_in}
use Rattle.mum_record.proofs.words.split_word.Goals as goal

-- a line of one word is that word
pub returns-in-None : goal.returns-in-None
returns-in-None c =
    let line : List ℕ = c.args.line.now in
    let one : words_in line ≡ c.first_word.result.0.now ∷ [] = rw c.in-None.is at c.first_word.ensures.words in
    let same : line ≡ c.first_word.result.0.now = sym (join_with_byte-slice_split 32 line) ∙ ap (join_with_byte 32) one in
    one ∙ ap (λ (w : List ℕ). w ∷ []) (sym same)
