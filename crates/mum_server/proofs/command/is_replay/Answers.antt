-- The one word is compared with `replay`.
use Rattle.mum_server.proofs.Common.{List, ℕ, [], ◌∷◌, sym, ap, ◌∙◌, arith, codes, string_bytes}
use Rattle.mum_server.proofs.OneWord.{map_one, one_is}
use Rattle.mum_server.proofs.command.is_replay.Goals as goal

pub returns-in-len1 : goal.returns-in-len1
returns-in-len1 c =
    let low = c.in-len1.len_at_least in
    let high = c.in-len1.len_below in
    let one = map_one string_bytes c.args.words.now c.word-item.result (omega (arith, low)) (omega (arith, high)) c.word-item.is in (
      λ yes. one ∙ ap (λ (t : List ℕ). t ∷ []) (sym c.as_str.ensures.value ∙ c.is_word.ensures.0 yes),
      λ same. c.is_word.ensures.1 (c.as_str.ensures.value ∙ one_is (string_bytes c.word-item.result) (codes "replay") (sym one ∙ same)),
    )
