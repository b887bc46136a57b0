use Rattle.mum_policy.proofs.Common.{sym, ap, ◌∙◌, option_copied}
use Rattle.mum_policy.proofs.Walks.{Passed, so_far_next, whole, whole_visits, ended, ended_visits, perm_super, perm_walked, visits_super, visits_walked}
use Rattle.mum_policy.proofs.walk.permissions.Goals as goal

pub returns-then-is_of-clause-value : goal.returns-then-is_of-clause-value
returns-then-is_of-clause-value g c = c.full_permissions.ensures ∙ perm_super _ _ _ _ _ c.is_of.ensures c.if-is_of.true c.ends_at_root-on_root.ensures

pub returns-then-is_of-clause-steps : goal.returns-then-is_of-clause-steps
returns-then-is_of-clause-steps g c = visits_super _ _ _ _ _ c.is_of.ensures c.if-is_of.true

pub returns-then-not-goes_on-clause-value : goal.returns-then-not-goes_on-clause-value
returns-then-not-goes_on-clause-value g c =
    let passed : Passed _ _ _ _ _ _ _ = record { within = c.channels-test.true; default = _; there = ap option_copied (sym c.unwrap-policy.ensures) ∙ c.policy_at.ensures; after_is = c.pass_channel-walk.ensures.walk } in
    perm_walked _ _ _ _ _ _ c.is_of.ensures c.if-is_of.false c.ends_at_root-on_root.ensures (ended _ passed c.goes_on.ensures c.if-not-goes_on.true c.channels.invariant)

pub returns-then-not-goes_on-clause-steps : goal.returns-then-not-goes_on-clause-steps
returns-then-not-goes_on-clause-steps g c =
    let passed : Passed _ _ _ _ _ _ _ = record { within = c.channels-test.true; default = _; there = ap option_copied (sym c.unwrap-policy.ensures) ∙ c.policy_at.ensures; after_is = c.pass_channel-walk.ensures.walk } in
    visits_walked _ _ _ _ _ _ c.is_of.ensures c.if-is_of.false (ended_visits _ _ passed c.goes_on.ensures c.if-not-goes_on.true c.pass_channel-walk.ensures.steps c.channels.invariant)

pub channels-preserved : goal.channels-preserved
channels-preserved g c =
    let passed : Passed _ _ _ _ _ _ _ = record { within = c.channels-test.true; default = _; there = ap option_copied (sym c.unwrap-policy.ensures) ∙ c.policy_at.ensures; after_is = c.pass_channel-walk.ensures.walk } in
    so_far_next _ _ passed c.goes_on.ensures c.if-not-goes_on.false c.pass_channel-walk.ensures.steps c.channels.invariant

pub returns-clause-value : goal.returns-clause-value
returns-clause-value g c = c.finish.ensures ∙ perm_walked _ _ _ _ _ _ c.is_of.ensures c.if-is_of.false c.ends_at_root-on_root.ensures (whole c.channels-test.false c.channels.invariant)

pub returns-clause-steps : goal.returns-clause-steps
returns-clause-steps g c = visits_walked _ _ _ _ _ _ c.is_of.ensures c.if-is_of.false (whole_visits c.channels-test.false c.channels.invariant)
