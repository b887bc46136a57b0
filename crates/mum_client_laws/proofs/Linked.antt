-- Links, as pairs in both directions and as lists of partners.
use Rattle.mum_client_laws.proofs.Common.{◌≡◌, ◌==◌, ◌&&◌, Bool, true, false, not, List, refl, ap, sym, ◌∙◌, Contains, filter, list_any, and_from, and_parts, eqb-true, list_any_at, is_among, ChannelId, IsProperTree, Pair, TreeState, are_linked, is_pair, partners, starts_at, each_any, each_from_all, any_mapped, numbers, partners_only_in, same_channel, is_listed}
use Rattle.mum_client_laws.proofs.Lists.{any_both, any_kept}

pub same_truth : (one other : Bool) → (one ≡ true → other ≡ true) → (other ≡ true → one ≡ true) → one ≡ other
same_truth true other to back = sym (to refl)
same_truth false true to back = back refl
same_truth false false to back = refl

pub contained_any : {X : Type 0} (p : X → Bool) (xs : List X) (x : X) → p x ≡ true → Contains xs x → list_any p xs ≡ true
contained_any p xs x is (k, within, at) = list_any_at p xs k x within (ap p at ∙ is)

linked_back : (tree : TreeState) (one other : ChannelId) → IsProperTree tree → are_linked tree one other ≡ true → are_linked tree other one ≡ true
linked_back tree one other proper linked =
    each_any (λ (pair : Pair). Contains tree.links (pair.1, pair.0)) (are_linked tree other one ≡ true) (is_pair one other)
    (λ pair there is.
    let parts = and_parts (pair.0.0 == one.0) (pair.1.0 == other.0) is in
    contained_any (is_pair other one) tree.links (pair.1, pair.0) (and_from (pair.1.0 == other.0) (pair.0.0 == one.0) parts.1 parts.0) there)
    tree.links (each_from_all (λ (pair : Pair). Contains tree.links (pair.1, pair.0)) tree.links proper.joined.pairs.both) linked

-- a link is there in both directions
pub linked_both : (tree : TreeState) (one other : ChannelId) → IsProperTree tree → are_linked tree one other ≡ are_linked tree other one
linked_both tree one other proper =
    same_truth (are_linked tree one other) (are_linked tree other one) (linked_back tree one other proper) (linked_back tree other one proper)

pub partner_is : (tree : TreeState) (id partner : ChannelId) → is_among (partners tree id) partner ≡ are_linked tree id partner
partner_is tree id partner =
    any_mapped (λ (one : ChannelId). one.0 == partner.0) (λ (pair : Pair). pair.1) (filter (starts_at id) tree.links)
    ∙ any_both (λ (pair : Pair). pair.1.0 == partner.0) (starts_at id) tree.links

pub partners_are : (tree : TreeState) (id partner : ChannelId) → is_listed (numbers (partners tree id)) partner.0 ≡ are_linked tree id partner
partners_are tree id partner =
    any_mapped (λ n. n == partner.0) (λ (one : ChannelId). one.0) (partners tree id) ∙ partner_is tree id partner

-- partners in one tree and not in the other
pub only_partner : (tree other : TreeState) (id partner : ChannelId)
    → is_listed (numbers (partners_only_in tree other id)) partner.0 ≡ (are_linked tree id partner && not (are_linked other id partner))
only_partner tree other id partner =
    let q : ChannelId → Bool = λ one. not (is_among (partners other id) one) in
    any_mapped (λ n. n == partner.0) (λ (one : ChannelId). one.0) (filter q (partners tree id))
    ∙ any_kept (λ (one : ChannelId). one.0 == partner.0) q (not (is_among (partners other id) partner))
    (λ one is. ap (λ (channel : ChannelId). not (is_among (partners other id) channel)) (same_channel one partner (eqb-true one.0 partner.0 is))) (partners tree id)
    ∙ ap (λ (b : Bool). b && not (is_among (partners other id) partner)) (partner_is tree id partner)
    ∙ ap (λ (b : Bool). are_linked tree id partner && not b) (partner_is other id partner)
