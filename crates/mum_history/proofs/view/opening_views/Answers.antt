use Rattle.std.proofs.Common.{[], ap, arith, length, length-append}
use Rattle.std.proofs.lemmas.List.Elements.{All-push}
use Rattle.mum_history.specs.View.{IsViewOf, ViewValue}
use Rattle.mum_history.proofs.view.opening_views.Goals as goal

pub loop-number-preserved : goal.loop-number-preserved
loop-number-preserved c = record {
  each = rw c.in_ok-push.ensures.items (All-push (IsViewOf c.args.opening.now []) c.loop-number.views.items c.in_ok-of.field-0 c.loop-number.invariant.each c.in_ok-of.ensures);
  count = omega (arith, ap length c.in_ok-push.ensures.items, length-append {A = ViewValue});
}
