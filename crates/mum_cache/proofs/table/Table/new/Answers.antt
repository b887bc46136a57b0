use Rattle.mum_cache.proofs.Common.{◌∙◌, ℕ, ap, padded}
use Rattle.mum_cache.proofs.Padded.{padded_none}
use Rattle.mum_cache.proofs.table.Table.new.Goals as goal

pub returns : goal.returns
returns g c =
    let made = c.in_ok-with_capacity in
    ap (λ (n : ℕ). padded n c.args.blank made.field-0.items) made.ensures.exact
    ∙ ap (padded c.args.room c.args.blank) made.ensures.items
    ∙ padded_none c.args.room c.args.blank
