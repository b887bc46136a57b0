use Rattle.mum_port.proofs.Common.{◌∙◌, ap, inl, sym, PortFacts}
use Rattle.mum_port.proofs.port.Port.take.Goals as goal

pub returns : goal.returns
returns g c = inl (record {
  turn = sym (ap (λ (p : PortFacts _). p.voice_first) c.self.view_is) ∙ c.if-self.false;
  mid = c.collect-posted.new.self;
  collects = c.collect-posted.ensures;
  drains = c.drain-heard.ensures;
})
