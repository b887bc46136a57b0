use Rattle.mum_record.proofs.Common.{arith, length-slice_split, is_space}
use Rattle.mum_record.proofs.words.words_in.Goals as goal

pub returns-in_default-Some : goal.returns-in_default-Some
returns-in_default-Some c =
    let one = rw c.in-Some.is at c.first_word.ensures.words in
    let two = rw c.in-Some-rest.is at c.first_word-2.ensures.words in
    let three = rw c.in_default-Some.is-1 at c.first_word-3.ensures.words in
    rw (one, two, three) (omega (arith, length-slice_split is_space c.in_default-Some.field-0-1.now))
