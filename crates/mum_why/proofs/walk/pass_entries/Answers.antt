use Rattle.mum_why.proofs.Common.{◌≡◌, ◌∙◌, ◌&&◌, ◌==◌, ◌+◌, Bool, false, true, length, ap, arith, sym, AclEntry, names_permission, actor_of, applies, matches, decides}
use Rattle.mum_why.proofs.{Walked.entries_end, Walked.entries_start, Walked.entry_matched, Walked.entry_passed, walk.pass_entries.Goals.then-matches, walk.pass_entries.Goals.else-matches}
use Rattle.mum_why.proofs.walk.pass_entries.Goals as goal

pub entries-init : goal.entries-init
entries-init g c =
    let policies = g.P.Policies.policy_of c.args.walk.now.policies.now in
    let path = c.args.walk.now.path.now in
    let who = actor_of c.args.walk.now.who.now in
    record {
      value = entries_start (matches policies path who c.args.place)
          (decides policies path who c.args.walk.now.permission.0 c.args.place (c.args.place + 1 == length path)) c.args.before.traverse c.args.before.write;
      steps = omega arith;
    }

pub entries-preserved : goal.entries-preserved
entries-preserved g c =
    let policies = g.P.Policies.policy_of c.args.walk.now.policies.now in
    let path = c.args.walk.now.path.now in
    let who = actor_of c.args.walk.now.who.now in
    let asked : Bool = c.args.place + 1 == length path in
    let p = c.args.walk.now.permission.0 in
    let entry : AclEntry = c.index-entries-index.result in
    let named : Bool = applies asked entry && names_permission p entry in
    let matching : AclEntry → Bool = matches policies path who c.args.place in
    let deciding : AclEntry → Bool = decides policies path who p c.args.place asked in
    let by_match : (b : Bool) → matching entry ≡ b → deciding entry ≡ (b && applies asked entry && names_permission p entry) =
    λ b is. ap (λ t. t && applies asked entry && names_permission p entry) is in
    record {
      value = elim c.if-matches.branch [
        | then-matches w ↦
            entry_matched matching deciding c.args.before.traverse c.args.before.write c.args.entries.now c.entries.index entry named c.entries.passed _
            c.entries-test.true c.index-entries-index.is (sym c.matches.ensures ∙ w.if-matches.true) (by_match true (sym c.matches.ensures ∙ w.if-matches.true))
            c.entries.invariant.value (w.passed-is ∙ w.pass-passed.ensures)
        | else-matches w ↦
            entry_passed matching deciding c.args.before.traverse c.args.before.write c.args.entries.now c.entries.index entry c.entries.passed _
            c.entries-test.true c.index-entries-index.is (sym c.matches.ensures ∙ w.if-matches.false) (by_match false (sym c.matches.ensures ∙ w.if-matches.false))
            c.entries.invariant.value w.passed-is
      ];
      steps = omega (arith, c.entries.invariant.steps);
    }

pub returns-clause-value : goal.returns-clause-value
returns-clause-value g c =
    let policies = g.P.Policies.policy_of c.args.walk.now.policies.now in
    let path = c.args.walk.now.path.now in
    let who = actor_of c.args.walk.now.who.now in
    entries_end (matches policies path who c.args.place) (decides policies path who c.args.walk.now.permission.0 c.args.place (c.args.place + 1 == length path))
    c.args.before.traverse c.args.before.write c.args.entries.now c.entries.index c.entries.passed c.entries-test.false c.entries.invariant.value
