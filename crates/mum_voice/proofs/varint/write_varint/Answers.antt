use Rattle.mum_voice.proofs.Common.{◌≡◌, ◌-◌, ◌^◌, arith, common_steps, shortest_word}
use Rattle.mum_voice.proofs.Shortest.{len_32, len_64, shortest_word-read}
use Rattle.mum_voice.proofs.varint.write_varint.Goals as goal

pub push_number-requires : goal.push_number-requires
push_number-requires c = grind (arith, common_steps, c.push-then-inverse-2.ensures.len, c.new-out.ensures, len_32 (2 ^ 64 - 1 - c.args.value) (omega arith))

pub push_number-requires-else-inverse-2 : goal.push_number-requires-else-inverse-2
push_number-requires-else-inverse-2 c = grind (arith, common_steps, c.new-out.ensures, len_64 c.args.value)

pub returns-then-inverse-clause-read_again : goal.returns-then-inverse-clause-read_again
unfolding shortest_word
returns-then-inverse-clause-read_again c =
    let e : c.push.new.self.items ≡ shortest_word c.args.value = grind (arith, common_steps) in
    λ rest. rw e (shortest_word-read c.args.value rest (omega arith))

pub returns-then-inverse-2-clause-read_again : goal.returns-then-inverse-2-clause-read_again
unfolding shortest_word
returns-then-inverse-2-clause-read_again c =
    let e : c.push_number.new.out.items ≡ shortest_word c.args.value = grind (arith, common_steps) in
    λ rest. rw e (shortest_word-read c.args.value rest (omega arith))

pub returns-else-inverse-2-clause-read_again : goal.returns-else-inverse-2-clause-read_again
unfolding shortest_word
returns-else-inverse-2-clause-read_again c =
    let e : c.push_number-else-inverse-2.new.out.items ≡ shortest_word c.args.value = grind (arith, common_steps) in
    λ rest. rw e (shortest_word-read c.args.value rest (omega arith))
