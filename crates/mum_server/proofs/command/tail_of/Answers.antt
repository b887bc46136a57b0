-- Words ask for no tail where a part of them is not what its place asks for.
use Rattle.mum_server.proofs.Common.{arith, map, string_bytes}
use Rattle.mum_server.proofs.ServeWords.{map_five, map_four, no_five, no_four, no_path, no_view}
use Rattle.mum_server.proofs.command.tail_of.Goals as goal

pub returns-in_err-view-in-len4 : goal.returns-in_err-view-in-len4
returns-in_err-view-in-len4 c =
    let low = c.in-len4.len_at_least in
    let high = c.in-len4.len_below in
    let journal = c.journal-item-then-words-lt5 in
    let view = c.view-item-then-words-lt5 in
    let address = c.address-item-then-words-lt5 in
    let number = c.number-item-then-words-lt5 in
    let four = map_four string_bytes c.args.words.now journal.result view.result address.result number.result (omega (arith, low)) (omega (arith, high)) journal.is view.is address.is number.is in
    rw c.from_residual-in_err-view-in-len4.ensures
    (no_four (map string_bytes c.args.words.now) (string_bytes journal.result) (string_bytes view.result) (string_bytes address.result) (string_bytes number.result) four
    (λ named. no_view c.as_str-in-len4-2.result.now (string_bytes view.result) c.as_str-in-len4-3.result.now (string_bytes address.result) c.as_str-in-len4-4.result.now (string_bytes number.result) c.view_of-in-len4.result
    c.as_str-in-len4-2.ensures.value c.as_str-in-len4-3.ensures.value c.as_str-in-len4-4.ensures.value c.in_err-view-in-len4.was c.view_of-in-len4.ensures))

pub returns-in_err-view-in-len5 : goal.returns-in_err-view-in-len5
returns-in_err-view-in-len5 c =
    let low = c.in-len5.len_at_least in
    let high = c.in-len5.len_below in
    let view = c.view-item-then-words-lt6 in
    let address = c.address-item-then-words-lt6 in
    let number = c.number-item-then-words-lt6 in
    let keep = c.keep-item-then-words-lt6 in
    let path = c.path-item-then-words-lt6 in
    let five = map_five string_bytes c.args.words.now view.result address.result number.result keep.result path.result (omega (arith, low)) (omega (arith, high)) view.is address.is number.is keep.is path.is in
    rw c.from_residual-in_err-view-in-len5.ensures
    (no_five (map string_bytes c.args.words.now) (string_bytes view.result) (string_bytes address.result) (string_bytes number.result) (string_bytes keep.result) (string_bytes path.result) five
    (λ shown kept same keeps fits named. no_view c.as_str-in-len5.result.now (string_bytes view.result) c.as_str-in-len5-2.result.now (string_bytes address.result) c.as_str-in-len5-3.result.now (string_bytes number.result) c.view_of-in-len5.result
    c.as_str-in-len5.ensures.value c.as_str-in-len5-2.ensures.value c.as_str-in-len5-3.ensures.value c.in_err-view-in-len5.was c.view_of-in-len5.ensures shown same fits))

pub returns-in_err-path-in-len5 : goal.returns-in_err-path-in-len5
returns-in_err-path-in-len5 c =
    let low = c.in-len5.len_at_least in
    let high = c.in-len5.len_below in
    let view = c.view-item-then-words-lt6 in
    let address = c.address-item-then-words-lt6 in
    let number = c.number-item-then-words-lt6 in
    let keep = c.keep-item-then-words-lt6 in
    let path = c.path-item-then-words-lt6 in
    let five = map_five string_bytes c.args.words.now view.result address.result number.result keep.result path.result (omega (arith, low)) (omega (arith, high)) view.is address.is number.is keep.is path.is in
    rw c.from_residual-in_err-path-in-len5.ensures
    (no_five (map string_bytes c.args.words.now) (string_bytes view.result) (string_bytes address.result) (string_bytes number.result) (string_bytes keep.result) (string_bytes path.result) five
    (λ shown kept same keeps fits named. no_path c.as_str-in-len5-4.result.now (string_bytes keep.result) c.as_str-in-len5-5.result.now (string_bytes path.result) c.path_of-in-len5.result
    c.as_str-in-len5-4.ensures.value c.as_str-in-len5-5.ensures.value c.in_err-path-in-len5.was c.path_of-in-len5.ensures kept keeps named))
