use Rattle.std.proofs.Common.{◌≡◌, [], length}
use Rattle.std.specs.List.{All}
use Rattle.mum_history.specs.View.{IsViewOf}
use Rattle.mum_history.proofs.view.opening_views.Given as goal

abbrev pub invariant-loop-number : goal.invariant-loop-number
invariant-loop-number l = record { each : All (IsViewOf l.opening []) l.views.items; count : length l.views.items ≡ l._number }
