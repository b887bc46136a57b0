use Rattle.mum_fields.proofs.Common.{sym, ◌∙◌, entry_of}
use Rattle.mum_fields.proofs.Outlines.{grows-all, grows-one}
use Rattle.mum_fields.proofs.pass.FieldShapeRow.after.Goals as goal

pub returns-in_ok-more-in-Repeated : goal.returns-in_ok-more-in-Repeated
returns-in_ok-more-in-Repeated c =
    let field = c.args.self.now in
    grows-all field.label field.kind field.number c.args.before (entry_of c.args.placed.now) c.in_ok-more-in-Repeated.more c.saturating_add.result c.in-Repeated.is c.requires.own (sym c.in_ok-more-in-Repeated.was ∙ c.all_size.ensures) c.saturating_add.ensures

pub returns-in_ok-size-in_default : goal.returns-in_ok-size-in_default
returns-in_ok-size-in_default c =
    let field = c.args.self.now in
    rw c.unwrap_or.ensures (grows-one field.label field.kind field.number c.args.before (entry_of c.args.placed.now) c.in_ok-size-in_default.size c.in_default.not-Repeated c.requires.own (sym c.in_ok-size-in_default.was ∙ c.one_size.ensures))
