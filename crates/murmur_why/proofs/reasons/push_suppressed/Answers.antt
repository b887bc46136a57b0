use Rattle.std.proofs.Common.{◌∙◌, ◌++◌, ap}
use Rattle.std.proofs.lemmas.{List.append_assoc, Result.IfOk-equal}
use Rattle.std.specs.Prelude.{codes}
use Rattle.murmur_why.specs.Reasons.{cut_or_held}
use Rattle.murmur_why.proofs.reasons.push_suppressed.Goals as goal

pub returns : goal.returns
returns c =
    let held = cut_or_held c.args.state.now c.args.cut in
    IfOk-equal c.push_cut_or_held.result _ _ _ c.push_cut_or_held.ensures
    (ap (λ t. t ++ held) c.in_ok-push_str.ensures.bytes ∙ append_assoc _ (codes "the speaker is suppressed: Speak ") held)
