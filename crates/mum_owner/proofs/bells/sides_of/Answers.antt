use Rattle.mum_owner.proofs.Common.{◌≡◌, ◌∙◌, [], ◌∷◌, ◌++◌, List, ap, append-nil, length, subst, sym, arith, into_iter_items, QueueFacts, SideFacts, new_side}
use Rattle.mum_owner.proofs.Telling.{new_sides, no_bell_left, one_side_more}
use Rattle.mum_owner.proofs.bells.sides_of.Goals as goal

pub loop-queue-preserved : goal.loop-queue-preserved
loop-queue-preserved g c =
    let at = c.loop-queue in
    let queue = c.in-Some.queue in
    let left : List QueueFacts = into_iter_items c.next.new.self in
    let steps : into_iter_items at.queue-iterator ≡ queue ∷ left = c.in-Some.ensures.steps.0 in
    let now = subst (λ (bells : List QueueFacts). at.sides.items ++ new_sides bells ≡ new_sides c.args.bells.items) steps at.invariant.0 in
    let pushed : c.push.new.self.items ≡ at.sides.items ++ new_side queue.queue ∷ [] =
    c.in_ok-push.ensures.items ∙ ap (λ (s : SideFacts g.row.L.Denot). at.sides.items ++ s ∷ []) c.of.ensures in
    let was = at.invariant.1 in
    let gone = c.in-Some.ensures.steps.1 in
    let short = ap length steps in (
      subst (λ (sides : List (SideFacts g.row.L.Denot)). sides ++ new_sides left ≡ new_sides c.args.bells.items) (sym pushed)
          (one_side_more at.sides.items queue left (new_sides c.args.bells.items) now),
      omega (arith, was, gone, short),
    )

pub returns : goal.returns
returns g c =
    let at = c.loop-queue in
    let none = c.in-None.ensures.steps in
    let empty : into_iter_items at.queue-iterator ≡ [] = no_bell_left _ (sym at.invariant.1 ∙ none.0) in
    sym (append-nil at.sides.items)
    ∙ subst (λ (bells : List QueueFacts). at.sides.items ++ new_sides bells ≡ new_sides c.args.bells.items) empty at.invariant.0
