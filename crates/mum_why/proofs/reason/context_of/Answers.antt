use Rattle.mum_why.proofs.Common.{◌∙◌, ℕ, Option, Some, ap, refl, sym, is_some, ChannelId, Context}
use Rattle.mum_why.proofs.Contexts.{context_by}
use Rattle.mum_why.proofs.reason.context_of.Goals as goal

pub returns-then-is_some : goal.returns-then-is_some
returns-then-is_some g c =
    ap (λ (context : Context). Some context) c.inside_of.ensures
    ∙ context_by c.args.case.now.state.now c.args.case.now.speaker.now c.args.case.now.target c.args.case.now.hearer.now _ _ _ c.requires.proper c.requires.speaker
    (sym (c.is_some.ensures ∙ ap (λ (o : Option (ℕ × ChannelId)). is_some o) c.first_way.ensures) ∙ c.if-is_some.true) refl refl

pub returns-then-is_named_there : goal.returns-then-is_named_there
returns-then-is_named_there g c =
    context_by c.args.case.now.state.now c.args.case.now.speaker.now c.args.case.now.target c.args.case.now.hearer.now _ _ _ c.requires.proper c.requires.speaker
    (sym (c.is_some.ensures ∙ ap (λ (o : Option (ℕ × ChannelId)). is_some o) c.first_way.ensures) ∙ c.if-is_some.false)
    (sym c.is_named_there.ensures ∙ c.if-is_named_there.true) refl

pub returns-then-is_some-2 : goal.returns-then-is_some-2
returns-then-is_some-2 g c =
    context_by c.args.case.now.state.now c.args.case.now.speaker.now c.args.case.now.target c.args.case.now.hearer.now _ _ _ c.requires.proper c.requires.speaker
    (sym (c.is_some.ensures ∙ ap (λ (o : Option (ℕ × ChannelId)). is_some o) c.first_way.ensures) ∙ c.if-is_some.false)
    (sym c.is_named_there.ensures ∙ c.if-is_named_there.false)
    (sym (c.is_some-2.ensures ∙ ap (λ (o : Option (ℕ × ChannelId)). is_some o) c.first_way-2.ensures) ∙ c.if-is_some-2.true)

pub returns : goal.returns
returns g c =
    context_by c.args.case.now.state.now c.args.case.now.speaker.now c.args.case.now.target c.args.case.now.hearer.now _ _ _ c.requires.proper c.requires.speaker
    (sym (c.is_some.ensures ∙ ap (λ (o : Option (ℕ × ChannelId)). is_some o) c.first_way.ensures) ∙ c.if-is_some.false)
    (sym c.is_named_there.ensures ∙ c.if-is_named_there.false)
    (sym (c.is_some-2.ensures ∙ ap (λ (o : Option (ℕ × ChannelId)). is_some o) c.first_way-2.ensures) ∙ c.if-is_some-2.false)
