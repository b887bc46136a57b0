use Rattle.mum_fields.proofs.Common.{◌≡◌, sym, ap, ◌∙◌, refl, err_from_is_err_and, entry_of, number_of}
use Rattle.mum_fields.proofs.Passes.{row-sound, take-other, take-own, take-fault}
use Rattle.mum_fields.proofs.pass.take.Goals as goal

pub returns-in_default : goal.returns-in_default
returns-in_default g c = λ values are. take-other g.S.Row.slot c.args.rows.now c.args.parts.now (entry_of c.args.placed.now) _ c.in_default.ensures values are

pub after-requires-clause-sound : goal.after-requires-clause-sound
after-requires-clause-sound g c = row-sound g.S.Row.slot c.args.rows.now c.in-Some.place c.index-rows-place.result c.requires.room c.in-Some.ensures.0 c.index-rows-place.is

pub returns-in_err-part : goal.returns-in_err-part
returns-in_err-part g c = λ values are.
    let p = err_from_is_err_and c.from_residual.result c.from_residual.ensures.1 in
    let slot = g.S.Row.slot in
    let row = c.index-rows-place.result in
    let own : c.args.placed.now.field.number ≡ number_of (slot row) = sym (ap (λ r. number_of (slot r)) c.index-rows-place.is ∙ c.in-Some.ensures.1 row) in
    rw (p.1, p.2) (take-fault slot c.args.rows.now c.args.parts.now c.args.parts.now (entry_of c.args.placed.now) c.in-Some.place row _ _ _ c.requires.room c.in-Some.ensures.0 c.index-rows-place.is own refl c.in_err-part.ensures values are)

pub returns : goal.returns
returns g c = λ values are.
    let slot = g.S.Row.slot in
    let row = c.index-rows-place.result in
    let own : c.args.placed.now.field.number ≡ number_of (slot row) = sym (ap (λ r. number_of (slot r)) c.index-rows-place.is ∙ c.in-Some.ensures.1 row) in
    take-own slot c.args.rows.now c.args.parts.now (entry_of c.args.placed.now) _ c.in-Some.place row _ c.in_ok-part.part _ c.requires.room c.in-Some.ensures.0 c.index-rows-place.is own refl c.in_ok-part.ensures values are
