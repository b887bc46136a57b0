use Rattle.mum_record.proofs.Common.{◌≡◌, sym, arith, ◌<◌, ◌%◌, length, nat_tests}
use Rattle.mum_record.proofs.EntryLaws.{bytes_of-none, bytes_of-tested}
use Rattle.mum_record.proofs.words.is_bytes.Goals as goal

pub returns-then-is_empty : goal.returns-then-is_empty
returns-then-is_empty c =
    sym (bytes_of-none c.args.word.now (λ some even.
    let test = c.is_empty.ensures in
    let empty = c.if-is_empty.true in
    grind (arith, nat_tests)))

pub returns-then-word-ne0 : goal.returns-then-word-ne0
returns-then-word-ne0 c =
    sym (bytes_of-none c.args.word.now (λ some even.
    let odd = c.if-word-ne0.true in
    grind (arith, nat_tests)))

pub returns : goal.returns
returns c =
    let empty = c.is_empty.ensures in
    let no = c.if-is_empty.false in
    let some : 0 < length c.args.word.now = grind (arith, nat_tests) in
    let even : length c.args.word.now % 2 ≡ 0 = grind (arith, nat_tests) in
    bytes_of-tested c.args.word.now c.are_lower_digits.result (sym c.are_lower_digits.ensures) some even
