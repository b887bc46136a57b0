-- The policies of a path, where some are found already.
use Rattle.mum_policy.proofs.Common.{◌≡◌, ℕ, zero, suc, ◌<◌, List, [], ◌∷◌, ◌++◌, length, map, get_or, Option, None, refl, sym, ap, ◌∙◌, append_assoc, length-append, arith, length-map, ChannelId, ChannelPolicy, IsFound, PolicyMap}

-- the channel that ends a part of the path
ends_with : {X : Type 0} (rest tail : List X) (x d : X) → get_or (rest ++ x ∷ tail) (length rest) d ≡ x
ends_with [] tail x d = refl
ends_with (y ∷ rest) tail x d = grind (arith, ends_with rest tail x d)

get_or-map : {X Y : Type 0} (f : Option X → Option Y) → f None ≡ None → (xs : List (Option X)) (i : ℕ) → get_or (map f xs) i None ≡ f (get_or xs i None)
get_or-map f none [] i = sym none
get_or-map f none (x ∷ xs) zero = refl
get_or-map f none (x ∷ xs) (suc i) = get_or-map f none xs i

-- what is left of the path beyond a part of it
pub record IsPart (path up : List ChannelId) : Type 0 where
  pub tail : List ChannelId
  pub whole : path ≡ up ++ tail

pub part_before : (path up rest : List ChannelId) (channel : ChannelId) → IsPart path up → up ≡ rest ++ channel ∷ [] → IsPart path rest
part_before path up rest channel part is = record { tail = channel ∷ part.tail; whole = part.whole ∙ ap (λ (cs : List ChannelId). cs ++ part.tail) is ∙ append_assoc rest (channel ∷ []) part.tail }

pub found_at : {X : Type 0} (f : Option X → Option ChannelPolicy) → f None ≡ None → (policies : PolicyMap) (path up rest : List ChannelId) (channel : ChannelId) (found : List (Option X)) → IsFound policies path (map f found) → IsPart path up → up ≡ rest ++ channel ∷ [] → length rest < length found → f (get_or found (length rest) None) ≡ policies channel
found_at f none policies path up rest channel found are part is within =
    let whole : path ≡ rest ++ channel ∷ part.tail = part.whole ∙ ap (λ (cs : List ChannelId). cs ++ part.tail) is ∙ append_assoc rest (channel ∷ []) part.tail in
    let at : get_or path (length rest) channel ≡ channel = ap (λ (cs : List ChannelId). get_or cs (length rest) channel) whole ∙ ends_with rest part.tail channel channel in
    sym (get_or-map f none found (length rest))
    ∙ are (length rest) channel (omega (arith, ap length whole, length-append rest (channel ∷ part.tail))) (omega (arith, length-map found f))
    ∙ ap policies at
