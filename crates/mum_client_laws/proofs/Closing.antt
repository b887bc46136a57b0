-- What the message of a channel that goes leaves of channels and links.
use Rattle.mum_client_laws.proofs.Common.{◌≡◌, ℕ, zero, suc, ◌==◌, ◌&&◌, Bool, true, false, true≢false, not, cond, List, [], ◌∷◌, map, Option, Some, None, refl, ap, sym, ◌∙◌, subst, filter, list_any, is_some, option_map, option_map_or, fun_ext, and_parts, both_ways, eqb-true, eq-eqb, ChannelId, IsProperTree, is_below, is_root, is_temporary, is_there, row_of, upward, Pair, TreeState, are_linked, is_pair, without_subtree, Row, PATH_LIMIT, number_found, kept_row, list_any-reverse, has_member, with_left_closed, given, IsProper, with_tree, StateValue, alone, there_without_subtree, any_mapped, channel_gone, same_channel, OfChannelGone, all_heard, channels_left, goes_with, heard, links_left, known_upward, Channels, Known, KnownChannel, Pairs, numbered_channel, public_channel}
use Rattle.mum_client_laws.proofs.{Linked.linked_both, LinksTold.absent_unlinked, Lists.any_kept}

-- ---- a tree as it is known

abbrev pub channels_of : TreeState → Channels
channels_of tree id = option_map (λ row. public_channel row.channel) (row_of tree.channels (numbered_channel id))

abbrev pub links_of : TreeState → Pairs
links_of tree one other = are_linked tree (numbered_channel one) (numbered_channel other)

pub known_there : (tree : TreeState) (id : ChannelId) → is_some (channels_of tree id.0) ≡ is_there tree.channels id
known_there tree id = of_row (row_of tree.channels id)
  where
    of_row : (found : Option Row) → is_some (option_map (λ row. public_channel row.channel) found) ≡ is_some found
    of_row None = refl
    of_row (Some row) = refl

-- ---- messages of channels that go

abbrev pub gone_channels : List ChannelId → Channels → Channels
gone_channels [] channels = channels
gone_channels (id ∷ ids) channels = gone_channels ids (channels_left (channel_gone id) channels)

abbrev pub gone_links : List ChannelId → Channels → Pairs → Pairs
gone_links [] channels links = links
gone_links (id ∷ ids) channels links = gone_links ids (channels_left (channel_gone id) channels) (links_left (channel_gone id) channels links)

pub heard_gone : (ids : List ChannelId) (known : Known)
    → all_heard known (map (λ id. OfChannelGone (channel_gone id)) ids) ≡ record known { channels = gone_channels ids known.channels; links = gone_links ids known.channels known.links }
heard_gone [] known = refl
heard_gone (id ∷ ids) known = heard_gone ids (heard known (OfChannelGone (channel_gone id)))

-- ---- the way up, as it is known

pub way_up : (tree : TreeState) (steps : ℕ) (id : ChannelId) → known_upward (channels_of tree) steps id.0 ≡ map (λ one. one.0) (upward tree.channels steps id)
unfolding known_upward upward
way_up tree zero id = refl
way_up tree (suc steps) id = of_row (row_of tree.channels id) (is_root id) (way_up tree steps)
  where
    of_row : (found : Option Row) (root : Bool)
        → ((above : ChannelId) → known_upward (channels_of tree) steps above.0 ≡ map (λ (one : ChannelId). one.0) (upward tree.channels steps above))
        → option_map_or (λ (channel : KnownChannel). id.0 ∷ cond root [] (known_upward (channels_of tree) steps channel.parent)) (option_map (λ row. public_channel row.channel) found) []
        ≡ map (λ (one : ChannelId). one.0) (option_map_or (λ row. id ∷ cond root [] (upward tree.channels steps row.channel.parent)) found [])
    of_row None root rest = refl
    of_row (Some row) true rest = refl
    of_row (Some row) false rest = ap (λ (ids : List ℕ). id.0 ∷ ids) (rest row.channel.parent)

pub goes_below : (tree : TreeState) (top id : ChannelId) → goes_with (channels_of tree) top.0 id.0 ≡ is_below tree.channels top id
goes_below tree top id =
    ap (list_any (λ n. n == top.0)) (way_up tree PATH_LIMIT id)
    ∙ any_mapped (λ n. n == top.0) (λ (one : ChannelId). one.0) (upward tree.channels PATH_LIMIT id)
    ∙ sym (list_any-reverse (λ (one : ChannelId). one.0 == top.0) (upward tree.channels PATH_LIMIT id))

-- ---- one channel goes with all below it

pub found_or_none : (found : Option Row) → is_some found ≡ false → found ≡ None
found_or_none None none = refl
found_or_none (Some row) none = absurd (true≢false none)

pub row_without : (tree : TreeState) (top id : ChannelId) → row_of (without_subtree tree top).channels id ≡ cond (is_below tree.channels top id) None (row_of tree.channels id)
row_without tree top id = by_row (row_of tree.channels id) (is_below tree.channels top id) refl refl
  where
    by_row : (found : Option Row) (b : Bool) → row_of tree.channels id ≡ found → is_below tree.channels top id ≡ b → row_of (without_subtree tree top).channels id ≡ cond b None found
    by_row None true there below =
        found_or_none (row_of (without_subtree tree top).channels id) (there_without_subtree tree top id ∙ ap (λ (o : Option Row). is_some o && not (is_below tree.channels top id)) there)
    by_row None false there below =
        found_or_none (row_of (without_subtree tree top).channels id) (there_without_subtree tree top id ∙ ap (λ (o : Option Row). is_some o && not (is_below tree.channels top id)) there)
    by_row (Some row) true there below =
        found_or_none (row_of (without_subtree tree top).channels id)
        (there_without_subtree tree top id ∙ ap (λ (o : Option Row). is_some o && not (is_below tree.channels top id)) there ∙ ap not below)
    by_row (Some row) false there below =
        kept_row (λ one. not (is_below tree.channels top one.channel.id)) tree.channels id row there
        (ap (λ (one : ChannelId). not (is_below tree.channels top one)) (same_channel row.channel.id id (number_found tree.channels id row there)) ∙ ap not below)

pub channel_goes : (tree : TreeState) (top : ChannelId) (id : ℕ) → channels_left (channel_gone top) (channels_of tree) id ≡ channels_of (without_subtree tree top) id
channel_goes tree top id =
    ap (λ (b : Bool). cond b None (channels_of tree id)) (goes_below tree top (numbered_channel id))
    ∙ of_row (is_below tree.channels top (numbered_channel id)) (row_of tree.channels (numbered_channel id))
    ∙ ap (option_map (λ row. public_channel row.channel)) (sym (row_without tree top (numbered_channel id)))
  where
    of_row : (b : Bool) (found : Option Row) → cond b None (option_map (λ row. public_channel row.channel) found) ≡ option_map (λ row. public_channel row.channel) (cond b None found)
    of_row true found = refl
    of_row false found = refl

both_stay : (linked a b x y : Bool) → (linked ≡ true → (a ≡ true) × (b ≡ true)) → (linked && (a && x) && (b && y)) ≡ (linked && x && y)
both_stay false a b x y there = refl
both_stay true a b x y there =
    ap (λ (c : Bool). (c && x) && (b && y)) (there refl).0 ∙ ap (λ (c : Bool). x && (c && y)) (there refl).1

grouped : (a b c : Bool) → (a && (b && c)) ≡ ((a && b) && c)
grouped true b c = refl
grouped false b c = refl

-- linked channels are there
pub linked_there : (tree : TreeState) (one other : ChannelId) → IsProperTree tree → are_linked tree one other ≡ true → (is_there tree.channels one ≡ true) × (is_there tree.channels other ≡ true)
linked_there tree one other proper linked = (
  step (is_there tree.channels one) refl (λ none. absent_unlinked tree one other proper none),
  step (is_there tree.channels other) refl (λ none. linked_both tree one other proper ∙ absent_unlinked tree other one proper none),
)
  where
    step : (b : Bool) {c : Bool} → c ≡ b → (c ≡ false → are_linked tree one other ≡ false) → c ≡ true
    step true is none = is
    step false is none = absurd (both_ways (are_linked tree one other) (none is) linked)

-- the links of a tree without some channels
pub linked_within : (tree : TreeState) (top one other : ChannelId)
    → are_linked (without_subtree tree top) one other ≡ (are_linked tree one other && (is_there (without_subtree tree top).channels one && is_there (without_subtree tree top).channels other))
linked_within tree top one other =
    let rows = (without_subtree tree top).channels in
    any_kept (is_pair one other) (λ (pair : Pair). is_there rows pair.0 && is_there rows pair.1) (is_there rows one && is_there rows other)
    (λ pair is.
    let (first, last) = and_parts (pair.0.0 == one.0) (pair.1.0 == other.0) is in
    ap (λ c. is_there rows c && is_there rows pair.1) (same_channel pair.0 one (eqb-true pair.0.0 one.0 first)) ∙ ap (λ c. is_there rows one && is_there rows c) (same_channel pair.1 other (eqb-true pair.1.0 other.0 last)))
    tree.links

pub links_go : (tree : TreeState) (top one other : ChannelId) → IsProperTree tree
    → links_left (channel_gone top) (channels_of tree) (links_of tree) one.0 other.0 ≡ are_linked (without_subtree tree top) one other
links_go tree top one other proper =
    ap (λ (b : Bool). are_linked tree one other && not b && not (goes_with (channels_of tree) top.0 other.0)) (goes_below tree top one)
    ∙ ap (λ (b : Bool). are_linked tree one other && not (is_below tree.channels top one) && not b) (goes_below tree top other)
    ∙ sym (both_stay (are_linked tree one other) (is_there tree.channels one) (is_there tree.channels other)
    (not (is_below tree.channels top one)) (not (is_below tree.channels top other)) (linked_there tree one other proper))
    ∙ sym (grouped (are_linked tree one other) (is_there tree.channels one && not (is_below tree.channels top one)) (is_there tree.channels other && not (is_below tree.channels top other)))
    ∙ ap (λ (b : Bool). are_linked tree one other && (b && (is_there tree.channels other && not (is_below tree.channels top other)))) (sym (there_without_subtree tree top one))
    ∙ ap (λ (b : Bool). are_linked tree one other && (is_there (without_subtree tree top).channels one && b)) (sym (there_without_subtree tree top other))
    ∙ sym (linked_within tree top one other)

-- ---- the channel that an edit empties

-- the channels and links are those of the other tree
pub record IsKnownTree (tree : TreeState) (channels : Channels) (links : Pairs) : Type 0 where
  pub channels_are : channels ≡ channels_of tree
  pub links_are : links ≡ links_of tree

pub itself_known : (tree other : TreeState) → other ≡ tree → IsKnownTree other (channels_of tree) (links_of tree)
itself_known tree other same = record { channels_are = ap channels_of (sym same); links_are = ap links_of (sym same) }

pub one_goes : (tree : TreeState) (top : ChannelId) → IsProperTree tree
    → IsKnownTree (without_subtree tree top) (gone_channels (top ∷ []) (channels_of tree)) (gone_links (top ∷ []) (channels_of tree) (links_of tree))
one_goes tree top proper = record {
  channels_are = fun_ext (channel_goes tree top);
  links_are = fun_ext (λ one. fun_ext (λ other. links_go tree top (numbered_channel one) (numbered_channel other) proper));
}

not_there : (tree : TreeState) (top : ChannelId) → IsProperTree tree → is_temporary tree.channels top ≡ true → is_there (without_subtree tree top).channels top ≡ false
not_there tree top proper temporary = there_without_subtree tree top top ∙ step (is_there tree.channels top) refl
  where
    step : (b : Bool) → is_there tree.channels top ≡ b → (b && not (is_below tree.channels top top)) ≡ false
    step true there = ap not (alone tree top proper temporary top there ∙ eq-eqb top.0 top.0 refl)
    step false there = refl

pub temporary_there : (rows : List Row) (id : ChannelId) → is_temporary rows id ≡ true → is_there rows id ≡ true
temporary_there rows id temporary = of_row (row_of rows id) temporary
  where
    of_row : (found : Option Row) → option_map_or (λ row. row.channel.temporary) found false ≡ true → is_some found ≡ true
    of_row None is = absurd (true≢false (sym is))
    of_row (Some row) is = refl

-- the channel that an edit leaves goes exactly where nobody is in it
pub left_closes : (set : StateValue) (left : Option ChannelId) (tree : TreeState) → IsProper set → ((top : ChannelId) → left ≡ Some top → is_temporary set.tree.channels top ≡ true)
    → tree ≡ (with_left_closed left set).tree
    → IsKnownTree tree (gone_channels (filter (λ id. not (is_there tree.channels id)) (given left)) (channels_of set.tree))
    (gone_links (filter (λ id. not (is_there tree.channels id)) (given left)) (channels_of set.tree) (links_of set.tree))
left_closes set None tree proper kind is = itself_known set.tree tree is
left_closes set (Some top) tree proper kind is = step (has_member set.roster.sessions top) is
  where
    step : (b : Bool) → tree ≡ (cond b set (with_tree set (without_subtree set.tree top))).tree
        → IsKnownTree tree (gone_channels (filter (λ id. not (is_there tree.channels id)) (top ∷ [])) (channels_of set.tree))
        (gone_links (filter (λ id. not (is_there tree.channels id)) (top ∷ [])) (channels_of set.tree) (links_of set.tree))
    step true same =
        let there : is_there tree.channels top ≡ true = ap (λ (one : TreeState). is_there one.channels top) same ∙ temporary_there set.tree.channels top (kind top refl) in
        rw there (itself_known set.tree tree same)
    step false cut =
        let out : is_there tree.channels top ≡ false = ap (λ (one : TreeState). is_there one.channels top) cut ∙ not_there set.tree top proper.tree (kind top refl) in
        rw out (subst (λ (one : TreeState). IsKnownTree one (gone_channels (top ∷ []) (channels_of set.tree)) (gone_links (top ∷ []) (channels_of set.tree) (links_of set.tree)))
        (sym cut) (one_goes set.tree top proper.tree))
