use Rattle.mum_viewer.proofs.Common.{ap, ◌∙◌, IfOk-weaker, compact_text, has_float}
use Rattle.mum_viewer.proofs.NoFloats.{none_in_picture}
use Rattle.mum_viewer.proofs.text.object_text.Goals as goal

pub returns : goal.returns
returns c =
    let is = c.in_ok-object.ensures in
    IfOk-weaker c.to_vec.result _ _ (λ text compact. compact (ap has_float is ∙ none_in_picture c.args.picture.now) ∙ ap compact_text is) c.to_vec.ensures.text
