use Rattle.mum_record.proofs.Common.{◌≡◌, ◌++◌, List, option_copied, option_map, words_after, copies_of, Marked}
use Rattle.mum_record.proofs.Copies.{size_after}
use Rattle.mum_record.proofs.entry.copies_in.Given as goal

abbrev pub invariant-words : goal.invariant-words
invariant-words l =
    copies_of (words_after (option_copied l.fn.rest)) ≡ option_map (λ (more : List Marked). l.copies ++ more) (copies_of (words_after (option_copied l.rest)))

abbrev pub decreases-words : goal.decreases-words
decreases-words l = size_after (option_copied l.rest)
