use Rattle.mum_record.proofs.Common.{◌≡◌, ◌∙◌, ap, List, ℕ, [], ◌∷◌, ◌++◌, append_assoc, codes, IfOk-weaker, on_ok_weaker, string_bytes, decimal, flat_map, line_of_words, behind_word, revision_word, verdict_words, command_word, control_words}
use Rattle.mum_record.proofs.Appended.{line_and}
use Rattle.mum_record.proofs.control.push_control.Goals as goal

pub returns-clause-text : goal.returns-clause-text
unfolding control_words
returns-clause-text c =
    let entry = c.args.entry.now in
    let old : List ℕ = string_bytes c.args.text.now in
    let words : List (List ℕ) = decimal entry.connection ∷ revision_word entry.version ∷ command_word entry.frame ∷ [] in
    let others : List ℕ = flat_map behind_word (verdict_words entry.verdict) in
    let begun : string_bytes c.push_line.new.text ≡ old ++ line_of_words (codes "c" ∷ words) = rw (c.place_word.ensures.word, c.version_word.ensures.word, c.command_word.ensures.word) at c.in_ok-push_line.ensures in
    IfOk-weaker c.push_verdict.result _ _
    (λ _ is. is ∙ ap (λ (xs : List ℕ). xs ++ others) begun ∙ append_assoc old (line_of_words (codes "c" ∷ words)) others
    ∙ ap (λ (xs : List ℕ). old ++ xs) (line_and (codes "c") words (verdict_words entry.verdict)))
    c.push_verdict.ensures.text

pub returns-clause-fits : goal.returns-clause-fits
returns-clause-fits c =
    on_ok_weaker c.push_verdict.result (λ verdict. (c.place_word.ensures.fits, c.version_word.ensures.fits, c.command_word.ensures.fits, verdict)) c.push_verdict.ensures.fits
