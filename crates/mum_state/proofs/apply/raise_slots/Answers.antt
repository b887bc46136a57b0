use Rattle.mum_state.proofs.Common.{◌∙◌, ap, sym, Renewed, raised_slots, is_renewed_slot}
use Rattle.mum_state.proofs.Marking.{nobody_raised}
use Rattle.mum_state.proofs.apply.raise_slots.Goals as goal

pub returns-in-Nobody : goal.returns-in-Nobody
returns-in-Nobody c =
    nobody_raised c.args.counts.now.items
    ∙ ap (λ (renewed : Renewed). raised_slots (is_renewed_slot renewed) 0 c.args.counts.now.items) (sym c.in-Nobody.is)
