-- Links that go make no channel overlinked.
use Rattle.mum_rules_tree.proofs.Common.{◌≡◌, ◌<◌, ◌≤◌, ◌&&◌, ◌||◌, Bool, true, false, not, eqb, leb, ltb, List, [], ◌∷◌, length, refl, arith, ⊎_elim, count_by, list_any, and_from, and_parts, both_ways, ltb-false, ltb-true, false_from_ne_true, or_cases, or_left, or_right, or_parts, ChannelId, Row, CHANNEL_LINK_LIMIT, is_among, Change, is_new_partner, is_partner_after, overlinks, TreeState, are_linked, partners, count_le_at, without_parting}

any_more : {X : Type 0} (p q : X → Bool) (xs : List X) → ((x : X) → p x ≡ true → q x ≡ true) → list_any p xs ≡ true → list_any q xs ≡ true
any_more p q [] more on = on
any_more p q (x ∷ xs) more on =
    ⊎_elim
    (λ (here : p x ≡ true). or_left (q x) (list_any q xs) (more x here))
    (λ (later : list_any p xs ≡ true). or_right (q x) (list_any q xs) (any_more p q xs more later))
    (or_cases (p x) (list_any p xs) on)

-- who is a partner after the change is one before links go
partner_before : (tree : TreeState) (id : ChannelId) (change : Change) (other : ChannelId) → is_partner_after tree id change other ≡ true → is_partner_after tree id (without_parting change) other ≡ true
partner_before tree id change other on =
    let joined = are_linked tree id other || (is_among change.links_add other && not (eqb other.0 id.0)) in
    let (here, stays) = and_parts joined (not (is_among change.links_remove other)) on in
    and_from joined true here refl

new_before : (tree : TreeState) (id : ChannelId) (change : Change) (other : ChannelId) → is_new_partner tree id change other ≡ true → is_new_partner tree id (without_parting change) other ≡ true
new_before tree id change other on =
    let (after, new) = and_parts (is_partner_after tree id change other) (not (are_linked tree id other)) on in
    and_from (is_partner_after tree id (without_parting change) other) (not (are_linked tree id other)) (partner_before tree id change other after) new

-- a change that does not overlink before its links go does not overlink
pub parted : (tree : TreeState) (id : ChannelId) (change : Change) → overlinks tree id (without_parting change) ≡ false → overlinks tree id change ≡ false
parted tree id change free =
    let before = without_parting change in
    let after_count = count_by (λ (row : Row). is_partner_after tree id change row.channel.id) tree.channels in
    let before_count = count_by (λ (row : Row). is_partner_after tree id before row.channel.id) tree.channels in
    let p : Row → Bool = λ row. is_new_partner tree id change row.channel.id && leb CHANNEL_LINK_LIMIT (length (partners tree row.channel.id)) in
    let q : Row → Bool = λ row. is_new_partner tree id before row.channel.id && leb CHANNEL_LINK_LIMIT (length (partners tree row.channel.id)) in
    let (few, none_full) = or_parts (ltb CHANNEL_LINK_LIMIT before_count) (list_any q tree.channels) free in
    let less : after_count ≤ before_count = count_le_at _ _ tree.channels (λ k d within. partner_before tree id change _) in
    let bounded : before_count ≤ CHANNEL_LINK_LIMIT = ltb-false CHANNEL_LINK_LIMIT before_count few in
    false_from_ne_true (overlinks tree id change) (λ over.
    ⊎_elim
    (λ (many : ltb CHANNEL_LINK_LIMIT after_count ≡ true). let above : CHANNEL_LINK_LIMIT < after_count = ltb-true CHANNEL_LINK_LIMIT after_count many in absurd (omega arith))
    (λ (full : list_any p tree.channels ≡ true). both_ways (list_any q tree.channels) none_full (any_more p q tree.channels (λ row on.
    let (new, crowded) = and_parts (is_new_partner tree id change row.channel.id) (leb CHANNEL_LINK_LIMIT (length (partners tree row.channel.id))) on in
    and_from (is_new_partner tree id before row.channel.id) (leb CHANNEL_LINK_LIMIT (length (partners tree row.channel.id))) (new_before tree id change row.channel.id new) crowded) full))
    (or_cases (ltb CHANNEL_LINK_LIMIT after_count) (list_any p tree.channels) over))
