use Rattle.mum_state.proofs.Common.{◌∙◌, ◌<◌, ◌++◌, ℕ, Bool, List, drop, get_or, length, set, take, ap, sym, arith, zero-add, raised_slots, raised_where, is_renewed_slot}
use Rattle.mum_state.proofs.Marking.{set-raised}
use Rattle.mum_state.proofs.apply.raise_each.Goals as goal

pub loop-slot-preserved : goal.loop-slot-preserved
loop-slot-preserved c =
    let counts : List ℕ = c.args.counts.now.items in
    let i : ℕ = c.loop-slot.slot in
    let n : ℕ = c.index.result.now in
    let within : i < length counts = omega arith in
    ap (λ (count : ℕ). set c.loop-slot.counts.items i count) (c.raised_where-raised.ensures ∙ ap (λ (b : Bool). raised_where b n) c.has.ensures)
    ∙ ap (λ (seen : List ℕ). set seen i (raised_where (is_renewed_slot c.args.renewed.now i) n)) c.loop-slot.invariant
    ∙ ap (λ (at : ℕ). set (raised_slots (is_renewed_slot c.args.renewed.now) 0 (take i counts) ++ drop i counts) i (raised_where (is_renewed_slot c.args.renewed.now at) n)) (sym (zero-add i))
    ∙ set-raised (is_renewed_slot c.args.renewed.now) 0 counts i n within (c.index.ensures ∙ ap (λ (seen : List ℕ). get_or seen i n) c.loop-slot.invariant)
