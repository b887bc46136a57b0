use Rattle.mum_users.proofs.Common.{◌≡◌, false, true, nat_lt, rules, arith, IsTrue, nat_tests, IsPartitionPoint-from_clause, ChannelId, ListenerPair, channel_below, is_of_channel}
use Rattle.mum_users.proofs.{Runs.run_found, Search.parted, Search.place_between}
use Rattle.mum_users.proofs.listening.pairs_of_channel.Goals as goal

before_down : (channel : ChannelId) (x y : ListenerPair) → IsTrue (channel_below x y) → nat_lt y.channel.0 channel.0 ≡ true → nat_lt x.channel.0 channel.0 ≡ true
before_down channel x y lower low = grind (arith, nat_tests)

before_other : (channel : ChannelId) (x : ListenerPair) → nat_lt x.channel.0 channel.0 ≡ true → is_of_channel channel x ≡ false
before_other channel x low = grind (arith, nat_tests)

not_before : (channel : ChannelId) (x y : ListenerPair) → IsTrue (channel_below x y) → nat_lt x.channel.0 channel.0 ≡ false → nat_lt y.channel.0 channel.0 ≡ false
not_before channel x y lower not_low = grind (arith, nat_tests)

past : (channel : ChannelId) (x y : ListenerPair) → IsTrue (channel_below x y) → nat_lt x.channel.0 channel.0 ≡ false → is_of_channel channel x ≡ false → is_of_channel channel y ≡ false
past channel x y lower not_low other = grind (arith, nat_tests)

pub returns : goal.returns
returns c =
    let channel = c.args.channel in
    let pairs = c.args.pairs.now in
    let d : ListenerPair = record { session = record { 0 = 0 }; channel = c.args.channel } in
    let first =
    place_between (λ pair. nat_lt pair.channel.0 channel.0) pairs c.partition_point-first.result d c.partition_point-first.ensures.bound
    (IsPartitionPoint-from_clause (λ pair. nat_lt pair.channel.0 channel.0) pairs c.partition_point-first.result
    c.partition_point-first.ensures.partitioned (parted channel_below (λ pair. nat_lt pair.channel.0 channel.0) (before_down channel) pairs c.requires)
    (λ a r f' called. search rules)) in
    run_found channel_below (λ pair. nat_lt pair.channel.0 channel.0) (is_of_channel channel) (before_other channel) (not_before channel) (past channel) pairs c.requires _ _ first c.channel_count-count.ensures.count
