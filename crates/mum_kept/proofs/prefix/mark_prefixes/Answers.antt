use Rattle.mum_kept.proofs.Common.{◌≡◌, ◌<◌, ◌==◌, ℕ, false, true, List, length, get_or, length-set, ap, subst, ◌∙◌, arith, list_any, take_all, KeptChannel, prefix_number}
use Rattle.mum_kept.proofs.Unused.{marked_more}
use Rattle.mum_kept.proofs.prefix.mark_prefixes.Goals as goal

pub loop-channel-preserved : goal.loop-channel-preserved
loop-channel-preserved c =
    let number = c.prefix_number-number.result in
    let inside : number < length c.loop-channel.used = omega arith in
    record {
      whole = length-set c.loop-channel.used number true ∙ c.loop-channel.invariant.whole;
      marked = marked_more c.args.channels.now c.loop-channel.used c.loop-channel.channel-index c.channel-item.result number c.loop-channel-test.true c.channel-item.is
          (c.prefix_number-number.ensures.number ∙ ap prefix_number c.as_slice.ensures) inside c.loop-channel.invariant.marked;
    }

pub returns-clause-marked : goal.returns-clause-marked
returns-clause-marked c =
    subst (λ (xs : List KeptChannel). (n : ℕ) → get_or c.loop-channel.used n false ≡ list_any (λ channel. prefix_number channel.name == n) xs) (take_all c.loop-channel.channel-index c.args.channels.now (omega arith)) c.loop-channel.invariant.marked
