-- The lines are those before and after the first line feed, or there is none.
use Rattle.mum_record.proofs.Common.{◌≡◌, ℕ, ◌+◌, ◌-◌, List, ◌∷◌, length, take, drop, sym, ap, ◌∙◌, arith, slice_split, common_steps, is_line_feed}
use Rattle.mum_record.proofs.LineFeeds.{split_at, split_nowhere}
use Rattle.mum_record.proofs.split.split_line.Goals as goal

pub returns-in-Some-clause-lines : goal.returns-in-Some-clause-lines
returns-in-Some-clause-lines c =
    let bytes : List ℕ = c.args.bytes.now in
    let at : ℕ = c.in-Some.at in
    let rest : take (length bytes - (at + 1)) (drop (at + 1) bytes) ≡ drop (at + 1) bytes = grind (arith, common_steps) in
    split_at is_line_feed bytes 0 at (sym c.in-Some.ensures) ∙ ap (λ (r : List ℕ). take at bytes ∷ slice_split is_line_feed r) (sym rest)

pub returns-in-None-clause-lines : goal.returns-in-None-clause-lines
returns-in-None-clause-lines c = split_nowhere is_line_feed c.args.bytes.now (sym c.in-None.ensures)
