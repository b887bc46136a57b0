use Rattle.mum_keeper.proofs.Common.{◌≡◌, ◌∙◌, Bool, IsTrue, ap, subst, sym, ◌↔◌, Turn, turn_of}
use Rattle.mum_keeper.proofs.Turning.{is_done}
use Rattle.mum_crew.specs.declared.role.Turn.TheVariants as turns
use Rattle.mum_keeper.proofs.store.Store.turn.Goals as goal

pub returns-clause-turned : goal.returns-clause-turned
returns-clause-turned g c = record {
  took = c.hear-took.result;
  hears = c.hear-took.ensures;
  came_to = c.turn_of.ensures ∙ ap (λ (ended : Bool). turn_of ended c.hear-took.result) c.has_ended.ensures;
}

pub returns-clause-ended : goal.returns-clause-ended
returns-clause-ended g c =
    let is : c.turn_of.result ≡ turn_of c.hear-took.new.self.ended c.hear-took.result = c.turn_of.ensures ∙ ap (λ (ended : Bool). turn_of ended c.hear-took.result) c.has_ended.ensures in
    subst (λ (turn : Turn). (turn ≡ turns.Done) ↔ IsTrue c.hear-took.new.self.ended) (sym is) (is_done c.hear-took.new.self.ended c.hear-took.result)
