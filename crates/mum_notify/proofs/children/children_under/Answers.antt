use Rattle.mum_notify.proofs.Common.{◌≡◌, false, true, nat_lt, rules, arith, IsTrue, nat_tests, IsPartitionPoint-from_clause, ChannelId, run_found, parted, place_between, is_not_after, is_under, Child}
use Rattle.mum_notify.proofs.children.children_under.Goals as goal

before_down : (parent : ChannelId) (x y : Child) → IsTrue (is_not_after x y) → nat_lt y.parent.0 parent.0 ≡ true → nat_lt x.parent.0 parent.0 ≡ true
before_down parent x y lower low = grind (arith, nat_tests)

before_other : (parent : ChannelId) (x : Child) → nat_lt x.parent.0 parent.0 ≡ true → is_under parent x ≡ false
before_other parent x low = grind (arith, nat_tests)

not_before : (parent : ChannelId) (x y : Child) → IsTrue (is_not_after x y) → nat_lt x.parent.0 parent.0 ≡ false → nat_lt y.parent.0 parent.0 ≡ false
not_before parent x y lower not_low = grind (arith, nat_tests)

past : (parent : ChannelId) (x y : Child) → IsTrue (is_not_after x y) → nat_lt x.parent.0 parent.0 ≡ false → is_under parent x ≡ false → is_under parent y ≡ false
past parent x y lower not_low other = grind (arith, nat_tests)

pub returns : goal.returns
returns c =
    let parent = c.args.parent in
    let listed = c.args.listed.now in
    let d : Child = record { parent = parent; id = parent } in
    let first =
    place_between (λ child. nat_lt child.parent.0 parent.0) listed c.partition_point-first.result d c.partition_point-first.ensures.bound
    (IsPartitionPoint-from_clause (λ child. nat_lt child.parent.0 parent.0) listed c.partition_point-first.result
    c.partition_point-first.ensures.partitioned (parted is_not_after (λ child. nat_lt child.parent.0 parent.0) (before_down parent) listed c.requires)
    (λ a r f' called. search rules)) in
    run_found is_not_after (λ child. nat_lt child.parent.0 parent.0) (is_under parent) (before_other parent) (not_before parent) (past parent) listed c.requires _ _ first c.count_under-count.ensures.count
