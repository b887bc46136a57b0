use Rattle.std.proofs.Common.{ap, ◌∙◌, min, w32, rules}
use Rattle.std.proofs.lemmas.Nat.Bits.{bit_at_and, bit_at_not}
use Rattle.std.specs.Int.{bit_at, bit_not}
use Rattle.mum_base.proofs.perm.Perm.without.Goals as goal

-- src/perm.rt:77:5
pub returns-clause-bits : goal.returns-clause-bits
returns-clause-bits c =
    λ i below.
    bit_at_and c.args.self.0 (bit_not w32 c.args.p.0) i
    ∙ ap (λ bit. min (bit_at c.args.self.0 i) bit) (bit_at_not w32 c.args.p.0 i (search rules) below)
