use Rattle.mum_fields.proofs.Common.{◌≡◌, sym, ap, ◌∙◌, entry_of, one_size}
use Rattle.mum_fields.proofs.{Outlines.all-packed, Outlines.all-one, shape.Kind.all_size.Goals.in-Number+in_default-value, shape.Kind.all_size.Goals.in_default}
use Rattle.mum_fields.proofs.shape.Kind.all_size.Goals as goal

pub returns-in-Block : goal.returns-in-Block
returns-in-Block c =
    all-packed c.args.self c.in-Number.scalar c.args.number c.args.placed.now.field.number c.args.placed.now.at c.args.placed.now.field.value c.in-Block.block _ _ c.in-Number.is c.in-Block.is c.within.ensures c.packed_size.ensures

pub returns : goal.returns
returns c =
    let same : c.match-self.self ≡ c.args.self = elim c.match-self.branch [ in-Number+in_default-value w ↦ w.self-is ∙ sym w.in-Number.is | in_default w ↦ w.self-is ] in
    rw c.unwrap_or.ensures (all-one c.args.self c.args.number c.args.placed.now.field.number c.args.placed.now.at c.args.placed.now.field.value c.in_ok-size.size
    (λ scalar is b block. elim c.match-self.branch [ in-Number+in_default-value w ↦ w.in_default-value.not-Block b block | in_default w ↦ w.in_default.not-Number scalar is ])
    (ap (λ kind. one_size kind c.args.number (entry_of c.args.placed.now)) (sym same) ∙ sym c.one_size.ensures ∙ c.in_ok-size.was))
