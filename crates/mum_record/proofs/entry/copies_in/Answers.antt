use Rattle.mum_record.proofs.Common.{◌≡◌, ◌∙◌, sym, ap, Some, None, ◌∷◌, List, ℕ, err_from_is_err_and, option_copied, result_ok, words_after, copy_of, copies_of}
use Rattle.mum_record.proofs.Copies.{behind, none_yet, one_more, none_more, all_there, no_reading}
use Rattle.mum_record.proofs.entry.copies_in.Goals as goal

pub words-init : goal.words-init
words-init c = rw c.new-copies.ensures (none_yet (copies_of (words_after (option_copied c.args.rest))))

pub words-preserved : goal.words-preserved
words-preserved c =
    let found : copy_of c.first_word.result.0.now ≡ Some c.in_ok-copy.copy = sym c.copy_in.ensures ∙ c.ok_or.ensures.ok_part ∙ ap result_ok c.in_ok-copy.was in
    let cut : words_after (option_copied c.words.rest) ≡ c.first_word.result.0.now ∷ words_after (option_copied c.first_word.result.1) = rw c.in-Some.is c.first_word.ensures.words in
    rw c.in_ok-push.ensures.ok
    (c.words.invariant ∙ ap (λ (ws : List (List ℕ)). behind c.words.copies (copies_of ws)) cut
    ∙ one_more c.words.copies c.in_ok-copy.copy c.first_word.result.0.now (words_after (option_copied c.first_word.result.1)) found)

pub returns-in_err-copy : goal.returns-in_err-copy
returns-in_err-copy c =
    let none : copy_of c.first_word.result.0.now ≡ None = sym c.copy_in.ensures ∙ c.ok_or.ensures.ok_part ∙ ap result_ok c.in_err-copy.was in
    let cut : words_after (option_copied c.words.rest) ≡ c.first_word.result.0.now ∷ words_after (option_copied c.first_word.result.1) = rw c.in-Some.is c.first_word.ensures.words in
    let nothing : copies_of (words_after (option_copied c.args.rest)) ≡ None =
    c.words.invariant ∙ ap (λ (ws : List (List ℕ)). behind c.words.copies (copies_of ws)) cut
    ∙ none_more c.words.copies c.first_word.result.0.now (words_after (option_copied c.first_word.result.1)) none in
    let fault = err_from_is_err_and c.from_residual.result c.from_residual.ensures.1 in
    rw fault.1 (no_reading fault.0 _ nothing)

pub returns : goal.returns
returns c =
    c.words.invariant ∙ rw c.in_default.is (all_there c.words.copies)
