use Rattle.std.proofs.Common.{◌-◌, ◌≤◌}
use Rattle.mum_history.specs.View.{IsViewOf}
use Rattle.mum_history.proofs.view.View.go_to.Given as goal

abbrev pub invariant-edits : goal.invariant-edits
invariant-edits l = record { is_view : IsViewOf l.history.opening l.history.accepted l.self; not_past : l.self.revision ≤ l.revision }

abbrev pub decreases-edits : goal.decreases-edits
decreases-edits l = l.revision - l.self.revision
