use Rattle.mum_route.proofs.Common.{◌∙◌, ℕ, Some, ap, subst, is_among, aimed, covered, IsAnswered}
use Rattle.mum_route.proofs.cover.covers_again.Goals as goal

pub returns-then-answer-channel-clause-value : goal.returns-then-answer-channel-clause-value
returns-then-answer-channel-clause-value g c =
    let state = c.args.state.now in
    let aim = aimed c.args.aim.now in
    let told : IsAnswered state aim (Some c.in-Some.answer) = subst (IsAnswered state aim) c.in-Some.is c.requires.last in
    told ∙ ap (λ (n : ℕ). is_among (covered state aim) (record { 0 = n })) c.if-answer-channel.true
