use Rattle.mum_users.proofs.Common.{◌≡◌, false, true, nat_lt, rules, arith, IsTrue, nat_tests, IsPartitionPoint-from_clause, SessionId, ListenerPair, pair_below, is_of_session}
use Rattle.mum_users.proofs.{Runs.run_found, Search.parted, Search.place_between}
use Rattle.mum_users.proofs.listening.pairs_of_session.Goals as goal

before_down : (session : SessionId) (x y : ListenerPair) → IsTrue (pair_below x y) → nat_lt y.session.0 session.0 ≡ true → nat_lt x.session.0 session.0 ≡ true
before_down session x y lower low = grind (arith, nat_tests)

before_other : (session : SessionId) (x : ListenerPair) → nat_lt x.session.0 session.0 ≡ true → is_of_session session x ≡ false
before_other session x low = grind (arith, nat_tests)

not_before : (session : SessionId) (x y : ListenerPair) → IsTrue (pair_below x y) → nat_lt x.session.0 session.0 ≡ false → nat_lt y.session.0 session.0 ≡ false
not_before session x y lower not_low = grind (arith, nat_tests)

past : (session : SessionId) (x y : ListenerPair) → IsTrue (pair_below x y) → nat_lt x.session.0 session.0 ≡ false → is_of_session session x ≡ false → is_of_session session y ≡ false
past session x y lower not_low other = grind (arith, nat_tests)

pub returns : goal.returns
returns c =
    let session = c.args.session in
    let pairs = c.args.pairs.now in
    let d : ListenerPair = record { session = c.args.session; channel = record { 0 = 0 } } in
    let first =
    place_between (λ pair. nat_lt pair.session.0 session.0) pairs c.partition_point-first.result d c.partition_point-first.ensures.bound
    (IsPartitionPoint-from_clause (λ pair. nat_lt pair.session.0 session.0) pairs c.partition_point-first.result
    c.partition_point-first.ensures.partitioned (parted pair_below (λ pair. nat_lt pair.session.0 session.0) (before_down session) pairs c.requires)
    (λ a r f' called. search rules)) in
    run_found pair_below (λ pair. nat_lt pair.session.0 session.0) (is_of_session session) (before_other session) (not_before session) (past session) pairs c.requires _ _ first c.session_count-count.ensures.count
