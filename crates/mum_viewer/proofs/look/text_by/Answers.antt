use Rattle.mum_viewer.proofs.Common.{rules, picture_of, view_text}
use Rattle.mum_viewer.proofs.Looking.{found_text, kept_is, nothing_found}
use Rattle.mum_viewer.proofs.look.text_by.Goals as goal

pub text_for-requires : goal.text_for-requires
text_for-requires g c = λ same.
    kept_is c.args.kept c.args.pass.now c.look_once-picture.new.pass c.in-Ok.picture c.requires (search rules) (c.look_once-picture.ensures.same same)

pub returns-in-Ok : goal.returns-in-Ok
returns-in-Ok g c = found_text c.args.pass.now c.look_once-picture.new.pass c.in-Ok.picture c.text_for.result (search rules) c.text_for.ensures

pub returns-in-Err : goal.returns-in-Err
returns-in-Err g c = nothing_found picture_of view_text c.args.pass.now c.look_once-picture.new.pass _ _ c.look_once-picture.ensures.looks
