use Rattle.mum_config.proofs.Common.{length, ap, ◌∙◌}
use Rattle.mum_config.proofs.Pairs.{no_pair}
use Rattle.mum_config.proofs.link.pair_in.Goals as goal

pub returns-then-values-ne2 : goal.returns-then-values-ne2
returns-then-values-ne2 c = no_pair _ c.in_ok-as_array.field-0.now.items c.in_ok-as_array.ensures (λ two. c.if-values-ne2.true (ap length c.as_slice-values.ensures.value ∙ two))
