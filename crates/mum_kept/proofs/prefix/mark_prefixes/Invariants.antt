use Rattle.mum_kept.proofs.Common.{◌≡◌, ℕ, ◌==◌, false, length, take, get_or, list_any, prefix_number}
use Rattle.mum_kept.proofs.prefix.mark_prefixes.Given as goal

abbrev pub invariant-loop-channel : goal.invariant-loop-channel
invariant-loop-channel l = record {
  whole : length l.used ≡ 17577;
  marked : (n : ℕ) → get_or l.used n false ≡ list_any (λ channel. prefix_number channel.name == n) (take l.channel-index l.channels);
}
