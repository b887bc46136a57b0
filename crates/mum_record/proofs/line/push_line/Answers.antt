use Rattle.mum_record.proofs.Common.{◌≡◌, ◌∙◌, sym, ap, List, ℕ, ◌++◌, append_assoc, IfOk-weaker, string_bytes, flat_map, behind_space}
use Rattle.mum_record.proofs.Splits.{line_of_words-first}
use Rattle.mum_record.proofs.line.push_line.Goals as goal

pub returns : goal.returns
returns c =
    let old : List ℕ = string_bytes c.args.text.now in
    let first : List ℕ = c.args.first.now in
    let others : List ℕ = flat_map behind_space c.args.words.now in
    let begun : string_bytes c.push_str.new.self ≡ old ++ first = c.in_ok-push_str.ensures.bytes in
    IfOk-weaker c.push_words.result _ _
    (λ _ is. is ∙ ap (λ (xs : List ℕ). xs ++ others) begun ∙ append_assoc old first others
    ∙ ap (λ (xs : List ℕ). old ++ xs) (sym (line_of_words-first c.args.first.now c.args.words.now)))
    c.push_words.ensures
