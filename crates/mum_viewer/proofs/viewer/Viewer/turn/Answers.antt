use Rattle.mum_viewer.proofs.Common.{◌≡◌, IsTrue, rules, subst, sym, ◌↔◌, Turn, has_ended, turn_of}
use Rattle.mum_viewer.proofs.Answered.{is_done}
use Rattle.mum_crew.specs.declared.role.Turn.TheVariants as turns
use Rattle.mum_viewer.proofs.viewer.Viewer.turn.Goals as goal

pub returns-clause-turned : goal.returns-clause-turned
returns-clause-turned g c = record {
  stepped = c.step-stepped.result;
  answered = c.ask-answered.result;
  between = c.step-stepped.new.self;
  steps = search rules;
  asks = search rules;
  came_to = search rules;
}

pub returns-clause-ended : goal.returns-clause-ended
returns-clause-ended g c =
    let is : c.turn_of.result ≡ turn_of (has_ended c.ask-answered.new.self) c.step-stepped.result c.ask-answered.result = search rules in
    subst (λ (turn : Turn). (turn ≡ turns.Done) ↔ IsTrue (has_ended c.ask-answered.new.self)) (sym is)
    (is_done (has_ended c.ask-answered.new.self) c.step-stepped.result c.ask-answered.result)
