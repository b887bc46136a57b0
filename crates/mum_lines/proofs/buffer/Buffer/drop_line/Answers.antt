use Rattle.mum_lines.proofs.Common.{ℕ, ◌≡◌, ◌+◌, slice_range, ap, ◌∙◌, arith, length-take, length-drop}
use Rattle.mum_lines.proofs.Windows.{later}
use Rattle.mum_lines.proofs.buffer.Buffer.drop_line.Goals as goal

pub returns-clause-rest : goal.returns-clause-rest
returns-clause-rest c =
    let b = c.args.self.now in
    let sum : b.start + c.args.count + 1 ≡ b.start + (c.args.count + 1) = omega arith in
    ap (λ (s : ℕ). slice_range b.bytes.items s b.end) sum ∙ later b.bytes.items b.start b.end (c.args.count + 1) (omega (arith, c.requires, length-take {A = ℕ}, length-drop {A = ℕ}))
