use Rattle.mum_policy.proofs.Common.{◌∙◌, arith}
use Rattle.mum_policy.proofs.{Walks.entries_as, Walks.entries_matched, Walks.entries_passed, Walks.entries_end, walk.pass_channel.Goals.then-speaks_of, walk.pass_channel.Goals.else-speaks_of}
use Rattle.mum_policy.proofs.walk.pass_channel.Goals as goal

pub entries-preserved : goal.entries-preserved
entries-preserved g c =
    record {
      walk = elim c.if-speaks_of.branch [
        | then-speaks_of w ↦
            entries_matched _ _ _ _ _ _ _ _ c.entries-test.true c.entry-item.is c.speaks_of.ensures w.if-speaks_of.true (w.walk-is ∙ w.pass-walk.ensures)
            ∙ c.entries.invariant.walk
        | else-speaks_of w ↦
            entries_passed _ _ _ _ _ _ _ _ c.entries-test.true c.entry-item.is c.speaks_of.ensures w.if-speaks_of.false w.walk-is ∙ c.entries.invariant.walk
      ];
      steps = omega (arith, c.entries.invariant.steps);
    }

pub returns-clause-walk : goal.returns-clause-walk
returns-clause-walk g c =
    entries_end _ _ _ _ _ c.entries-test.false ∙ c.entries.invariant.walk ∙ entries_as _ _ _ _ _ _ c.as_slice-entries.ensures c.enter-walk.ensures
