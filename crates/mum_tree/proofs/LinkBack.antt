-- With a link a tree is a tree exactly where nothing forbids it.
use Rattle.mum_tree.proofs.Common.{◌≡◌, ◌≢◌, ◌<◌, ◌≤◌, ◌||◌, Bool, true, false, not, cond, eqb, leb, List, length, Option, Some, None, refl, arith, ap, sym, ◌∙◌, subst, ⊎_elim, ◌↔◌, count_by, filter, and_from, both_ways, cases_Bool, eq-eqb, or_from, or_parts, length-map, length-filter, ChannelId, TreeFault, LinkCount, NoChannel, IsProper, fault_of_link, is_there, Pair, TreeState, are_linked, ends_from, partners, starts_at, with_link, with_pair}
use Rattle.mum_tree.proofs.{Back.over_limit, Closure.worth, Joined.count_with, Joined.relinked, Linking.links_grown}

-- where a channel has not too many links with one more, it had room for it
had_room : (pairs after : List Pair) (of : ChannelId) → count_by (starts_at of) pairs < count_by (starts_at of) after → count_by (starts_at of) after ≤ 64 → leb 64 (length (ends_from of pairs)) ≡ false
had_room pairs after of more few = over_limit 64 (length (ends_from of pairs)) (omega (arith, length-filter (starts_at of) pairs, length-map (filter (starts_at of) pairs) (λ pair. pair.1)))

-- both channels of a new link have one more
one_more : (pairs : List Pair) (a b : ChannelId) → (count_by (starts_at a) pairs < count_by (starts_at a) (with_pair b a (with_pair a b pairs))) × (count_by (starts_at b) pairs < count_by (starts_at b) (with_pair b a (with_pair a b pairs)))
one_more pairs a b =
    let one = with_pair a b pairs in
    let own : (id : ChannelId) → worth (eqb id.0 id.0) ≡ worth true = λ id. ap worth (eq-eqb id.0 id.0 refl) in (
      omega (arith, own a, count_with (starts_at a) b a one, count_with (starts_at a) a b pairs),
      omega (arith, own b, count_with (starts_at b) b a one, count_with (starts_at b) a b pairs),
    )

-- with a link between two channels that are there a tree is a tree exactly where nothing forbids it
pub link_both_ways : (tree : TreeState) (a b : ChannelId) → IsProper tree → is_there tree.channels a ≡ true → is_there tree.channels b ≡ true → (fault_of_link tree a b ≡ None) ↔ IsProper (with_link tree a b)
link_both_ways tree a b proper here there =
    let rows = tree.channels in
    let new = with_pair b a (with_pair a b tree.links) in
    let stays = eqb a.0 b.0 || are_linked tree a b in
    let crowd = leb 64 (length (partners tree a)) || leb 64 (length (partners tree b)) in
    let left : Bool → TreeState = λ x. record tree { links = cond x tree.links new } in
    let fault : Bool → Option TreeFault = λ x. cond x None (cond crowd (Some LinkCount) None) in
    let known : fault_of_link tree a b ≡ fault stays = ap (λ (x : Bool). cond (not x) (Some NoChannel) (fault stays)) (and_from (is_there rows a) (is_there rows b) here there) in
    ⊎_elim
    (λ (on : stays ≡ true). (λ allowed. subst IsProper (sym (ap left on)) proper, λ after. known ∙ ap fault on))
    (λ (off : stays ≡ false).
    let (one, two) = or_parts (eqb a.0 b.0) (are_linked tree a b) off in
    let differ : a.0 ≢ b.0 = λ (e : a.0 ≡ b.0). both_ways (eqb a.0 b.0) one (eq-eqb a.0 b.0 e) in (
      λ allowed. subst IsProper (sym (ap left off)) (relinked tree new (links_grown tree a b proper allowed differ two) proper),
      λ after.
          let linked : IsProper (left false) = subst IsProper (ap left off) after in
          let (more, more-2) = one_more tree.links a b in
          known ∙ ap fault off
          ∙ ap (λ (x : Bool). cond x (Some LinkCount) None) (or_from _ _ (had_room tree.links new a more (linked.joined.few_each a)) (had_room tree.links new b more-2 (linked.joined.few_each b))),
    ))
    (cases_Bool stays)
