use Rattle.mum_port.proofs.Common.{Bool, ◌∙◌, refl, subst, sym, CollectsBehind}
use Rattle.mum_port.specs.declared.outbound.Taking.TheVariants.{NotDue}
use Rattle.mum_port.proofs.port.Port.take_voice_first.Goals as goal

pub returns-then-took : goal.returns-then-took
returns-then-took g c = record {
  turn = c.requires.turn;
  mid = c.drain-heard.new.self;
  drains = c.drain-heard.ensures;
  collects =
      subst (λ (b : Bool). CollectsBehind c.args.posts.now b c.drain-heard.new.self NotDue c.drain-heard.new.self)
      (sym (sym c.took.ensures ∙ c.if-took.true)) (refl, refl);
}

pub returns : goal.returns
returns g c = record {
  turn = c.requires.turn;
  mid = c.drain-heard.new.self;
  drains = c.drain-heard.ensures;
  collects =
      subst (λ (b : Bool). CollectsBehind c.args.posts.now b c.drain-heard.new.self c.collect-posted.result c.collect-posted.new.self)
      (sym (sym c.took.ensures ∙ c.if-took.false)) c.collect-posted.ensures;
}
