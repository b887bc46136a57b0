use Rattle.mum_state.proofs.Common.{◌∙◌, ◌<◌, ℕ, length, set, ap, arith}
use Rattle.mum_state.proofs.Marking.{one_beyond, one_raised}
use Rattle.mum_state.proofs.apply.raise_one.Goals as goal

pub returns-then-slot-len : goal.returns-then-slot-len
returns-then-slot-len c =
    let within : c.args.slot.0 < length c.args.counts.now.items = omega arith in
    ap (λ (n : ℕ). set c.args.counts.now.items c.args.slot.0 n) c.raised_where-raised.ensures
    ∙ one_raised c.args.slot c.args.counts.now.items c.index.result.now within c.index.ensures

pub returns-else-slot-len : goal.returns-else-slot-len
returns-else-slot-len c = one_beyond c.args.slot c.args.counts.now.items (omega arith)
