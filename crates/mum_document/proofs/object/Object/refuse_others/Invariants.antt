use Rattle.mum_document.proofs.Common.{◌≡◌, map, members_view, unknown_key}
use Rattle.mum_document.proofs.object.Object.refuse_others.Given as goal

-- the least unknown key is not passed yet
abbrev pub invariant-loop-key : goal.invariant-loop-key
invariant-loop-key l =
    unknown_key (map (λ n. n.now) l.names) (members_view l.key-iterator) ≡ unknown_key (map (λ n. n.now) l.names) (members_view l.initial.key-iterator)
