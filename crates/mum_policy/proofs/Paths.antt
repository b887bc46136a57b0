-- The channel that ends a path is the first of the path upwards.
use Rattle.mum_policy.proofs.Common.{◌≡◌, ℕ, suc, ◌-◌, add-one, ◌<◌, ◌==◌, List, [], ◌∷◌, length, take, get_or, reverse, refl, sym, ap, ◌∙◌, arith, take-suc, reverse-append, take_all, ChannelId, Actor, is_in, upwards, is_root}

upwards_from : (path : List ChannelId) (d : ChannelId) → 0 < length path → reverse path ≡ get_or path (length path - 1) d ∷ reverse (take (length path - 1) path)
upwards_from path d some =
    let whole : take (suc (length path - 1)) path ≡ path = take_all (suc (length path - 1)) path (omega arith) in
    let lt : length path - 1 < length path = omega arith in
    ap reverse (sym whole ∙ take-suc path (length path - 1) d lt) ∙ reverse-append (take (length path - 1) path) (get_or path (length path - 1) d ∷ [])

pub is_in-at : (who : Actor) (path : List ChannelId) (place : ℕ) (d : ChannelId) → place < length path → ((get_or path place d).0 == who.channel.0) ≡ is_in who (upwards path place)
unfolding is_in
is_in-at who path place d within =
    let cut : upwards path place ≡ get_or path place d ∷ reverse (take place path) = rw (add-one place, take-suc path place d within, reverse-append (take place path) (get_or path place d ∷ [])) refl in
    rw cut refl

pub is_root-last : (path : List ChannelId) (d : ChannelId) → 0 < length path → ((get_or path (length path - 1) d).0 == 0) ≡ is_root (reverse path)
unfolding is_root
is_root-last path d some = rw (upwards_from path d some) refl
