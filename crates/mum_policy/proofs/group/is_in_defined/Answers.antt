use Rattle.mum_policy.proofs.Common.{◌≡◌, ◌&&◌, Bool, true, false, not, ◌∙◌, refl, is_listed, option_copied}
use Rattle.mum_policy.proofs.{Parts.found_at, Parts.part_before, Members.found_above, Members.found_barred, Members.found_decided, Members.found_no_further, Members.found_further, Members.found_nowhere, group.is_in_defined.Goals.else-above-via-then-above+else-not-group, group.is_in_defined.Goals.else-above-via-else-above}
use Rattle.mum_policy.proofs.group.is_in_defined.Goals as goal

barred : (above inheritable : Bool) → above ≡ true → inheritable ≡ false → (above && not inheritable) ≡ true
barred above inheritable is e = rw (is, e) refl

free_of : (above inheritable : Bool) → inheritable ≡ true → (above && not inheritable) ≡ false
free_of true inheritable e = rw e refl
free_of false inheritable e = refl

nearest : (above inheritable : Bool) → above ≡ false → (above && not inheritable) ≡ false
nearest above inheritable e = rw e refl

pub returns-then-not-group : goal.returns-then-not-group
unfolding is_listed
returns-then-not-group g c =
    found_barred _ _ _ _ _ _ _ _ c.in-Some.ensures.cases.0 c.in-Some-definition_of.ensures (barred _ _ c.if-above.true c.if-not-group.true) ∙ c.upwards.invariant.same

pub returns-in-Some-decides : goal.returns-in-Some-decides
unfolding is_listed
returns-in-Some-decides g c =
    let free : (c.upwards.above && not c.in-Some-definition_of.group.now.inheritable) ≡ false = elim c.else-above.branch [
      | else-above-via-then-above+else-not-group w ↦ free_of _ _ w.if-not-group.false
      | else-above-via-else-above w ↦ nearest _ _ w.if-above.false
    ] in
    found_decided _ _ _ _ _ _ _ _ _ c.in-Some.ensures.cases.0 c.in-Some-definition_of.ensures free c.in-Some-decides.ensures ∙ c.upwards.invariant.same

pub returns-then-not-group-2 : goal.returns-then-not-group-2
unfolding is_listed
returns-then-not-group-2 g c =
    let free : (c.upwards.above && not c.in-Some-definition_of.group.now.inheritable) ≡ false = elim c.else-above.branch [
      | else-above-via-then-above+else-not-group w ↦ free_of _ _ w.if-not-group.false
      | else-above-via-else-above w ↦ nearest _ _ w.if-above.false
    ] in
    let ends : c.in-Some-definition_of.group.now.inherit ≡ false = cc (c.if-not-group-2.true) in
    found_no_further _ _ _ _ _ _ _ _ c.in-Some.ensures.cases.0 c.in-Some-definition_of.ensures free c.in_default-decides.ensures ends ∙ c.upwards.invariant.same

pub upwards-preserved-else-not-group-2 : goal.upwards-preserved-else-not-group-2
upwards-preserved-else-not-group-2 g c =
    let free : (c.upwards.above && not c.in-Some-definition_of.group.now.inheritable) ≡ false = elim c.else-above.branch [
      | else-above-via-then-above+else-not-group w ↦ free_of _ _ w.if-not-group.false
      | else-above-via-else-above w ↦ nearest _ _ w.if-above.false
    ] in
    let goes_on : c.in-Some-definition_of.group.now.inherit ≡ true = cc (c.if-not-group-2.false) in
    record {
      same = found_further _ _ _ _ _ _ _ _ c.in-Some.ensures.cases.0 c.in-Some-definition_of.ensures free c.in_default-decides.ensures goes_on ∙ c.upwards.invariant.same;
      part = part_before _ _ _ _ c.upwards.invariant.part c.in-Some.ensures.cases.0;
    }

pub upwards-preserved : goal.upwards-preserved
upwards-preserved g c = record {
  same = found_above _ _ _ _ _ _ _ c.in-Some.ensures.cases.0 c.in_default-definition_of.ensures ∙ c.upwards.invariant.same;
  part = part_before _ _ _ _ c.upwards.invariant.part c.in-Some.ensures.cases.0;
}

pub returns : goal.returns
unfolding is_listed
returns g c = found_nowhere _ _ _ _ _ c.in_default.ensures.cases ∙ c.upwards.invariant.same

pub definition_of-requires : goal.definition_of-requires
definition_of-requires g c = λ within. found_at option_copied refl (g.P.Policies.policy_of c.args.policies.now) _ _ _ _ _ c.requires c.upwards.invariant.part c.in-Some.ensures.cases.0 within
