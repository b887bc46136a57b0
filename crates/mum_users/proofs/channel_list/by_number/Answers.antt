use Rattle.mum_users.proofs.Common.{◌==◌, ◌∙◌, List, ap, sym, rules, IsNonDecreasingBy-from_sort_by_key, list_any-IsPermutation, is_among, ChannelId}
use Rattle.mum_users.proofs.channel_list.by_number.Goals as goal

pub returns : goal.returns
returns c = record {
  rise = IsNonDecreasingBy-from_sort_by_key (λ (channel : ChannelId). channel.0) _ c.sort_unstable_by_key.ensures.sorted (λ a r f' called. search rules);
  same = λ channel. sym (list_any-IsPermutation (λ (one : ChannelId). one.0 == channel.0) _ _ c.sort_unstable_by_key.ensures.permutation) ∙ ap (λ (xs : List ChannelId). is_among xs channel) c.in_ok-sorted.ensures.items;
}
