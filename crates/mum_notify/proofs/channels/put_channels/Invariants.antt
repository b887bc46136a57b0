use Rattle.mum_notify.proofs.Common.{◌≡◌, drop, fold, Rises, is_lower, with_channel}
use Rattle.mum_notify.proofs.channels.put_channels.Given as goal

abbrev pub invariant-loop-id : goal.invariant-loop-id
invariant-loop-id l = record {
  rise : Rises is_lower l.ordered.items;
  rest : fold (λ ordered id. with_channel id ordered) l.ordered.items (drop l.id-index l.ids) ≡ fold (λ ordered id. with_channel id ordered) l.fn.ordered.items l.ids;
}
