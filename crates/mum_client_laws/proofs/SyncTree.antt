-- Whoever is sent the channels of a tree, each after its parent, and then their links, knows the tree.
use Rattle.mum_client_laws.proofs.Common.{◌≡◌, ◌⊎◌, ℕ, zero, suc, ◌==◌, ◌&&◌, ◌||◌, Bool, true, false, true≢false, not, cond, List, [], ◌∷◌, ◌++◌, map, Option, Some, None, refl, ap, sym, ◌∙◌, subst, inl, inr, ⊎_elim, append_assoc, pos, filter, flat_map, list_any, is_some, option_map, option_map_or, int_eq, fun_ext, and_parts, both_ways, eq-eqb, eqb-true, not-false, flat_map-append, append-nil, fold-append, ChannelId, ROOT, ChannelState, IsProperTree, parent_of, is_root, is_there, number, row_of, TreeState, are_linked, partners, Channel, Row, PATH_LIMIT, number_found, is_empty, given, IsProper, StateValue, Each, each_append, each_so, some_found, parent_there, any_mapped, channel_ids, channel_of, channel_told, children, family, has_links, if_it_tells, is_child, links_told, numbers, all_links_told, tree_order, tree_told, parents_come_first_lem, same_channel, apart_sym, channel_after, channel_heard, channels_heard, has_any, has_place, is_listed, link_heard, links_heard, other_end, plain_channel, Channels, KnownChannel, Pairs, numbered_channel, public_channel}
use Rattle.mum_client_laws.proofs.{ChannelsAfter.any_first, ChannelsAfter.made_at, ChannelsTold.channel_apart, ChannelsTold.channel_known, ChannelsTold.channel_own, Closing.IsKnownTree, Closing.channels_of, Closing.known_there, Folded.told_channels, Folded.told_links, Linked.linked_both, Linked.partners_are, LinksTold.absent_unlinked, LinksTold.no_links_told, Reported.empty_is, Reported.said_known}

-- ---- a channel of which all is said again

pub said_again : (channel : Channel) → channel_heard (channel_told channel) (public_channel channel) ≡ public_channel channel
said_again channel = λ i. record {
  parent = said_known (is_root channel.id) channel.parent.0 channel.parent.0 (λ _. refl) i;
  name = channel.name;
  temporary = said_known (not channel.temporary) channel.temporary channel.temporary (λ _. refl) i;
  description = said_known (is_empty channel.info.description) channel.info.description channel.info.description (λ _. refl) i;
  position = said_known (int_eq channel.info.position (pos 0)) channel.info.position channel.info.position (λ _. refl) i;
  max_users = said_known (channel.info.max_users == 0) channel.info.max_users channel.info.max_users (λ _. refl) i;
}

each_split : {X : Type 0} (P : X → Type 0) (front : List X) (x : X) (back : List X) → Each P (front ++ x ∷ back) → P x
each_split P [] x back all = all.0
each_split P (y ∷ front) x back all = each_split P front x back all.1

module _ (tree : TreeState) (proper : IsProperTree tree) where
  abbrev says : ChannelId → List ChannelState
  says id = map channel_told (given (channel_of tree id))

  -- what is known of a channel is nothing or what is
  abbrev IsPart : Channels → Type 0
  IsPart channels = (at : ℕ) → (channels at ≡ None) ⊎ (channels at ≡ channels_of tree at)

  abbrev IsKnown : Channels → ℕ → Type 0
  IsKnown channels at = channels at ≡ channels_of tree at

  -- the parent of the channel is known
  abbrev HasPlace : Channels → ChannelId → Type 0
  HasPlace channels id = (row : Row) → row_of tree.channels id ≡ Some row → is_root id ≡ false → is_some (channels row.channel.parent.0) ≡ true

  record Grows (channels now : Channels) (ids : List ChannelId) : Type 0 where
    part : IsPart now
    keeps : (at : ℕ) → IsKnown channels at → IsKnown now at
    all : Each (λ id. IsKnown now id.0) ids

  root_parent : (row : Row) (id : ChannelId) → row_of tree.channels id ≡ Some row → is_root row.channel.id ≡ true → row.channel.parent.0 ≡ ROOT.0
  root_parent row id there root =
      let (top, found, (place, parent, name, kind)) = proper.root in
      let number : row.channel.id.0 ≡ id.0 = number_found tree.channels id row there in
      let same : id ≡ ROOT = same_channel id ROOT (sym number ∙ eqb-true row.channel.id.0 ROOT.0 root) in
      let both : Some row ≡ Some top = sym there ∙ ap (row_of tree.channels) same ∙ found in
      let own : row ≡ top = cc in
      ap (λ (one : Row). one.channel.parent.0) own ∙ parent

  said_one : (id : ChannelId) (channels : Channels) → IsPart channels → HasPlace channels id → Grows channels (told_channels (says id) channels) (id ∷ [])
  said_one id channels part placed = of_row (row_of tree.channels id) refl
    where
      of_row : (found : Option Row) → row_of tree.channels id ≡ found
          → Grows channels (told_channels (map channel_told (given (option_map (λ (row : Row). row.channel) found))) channels) (id ∷ [])
      of_row None there = record {
        part = part;
        keeps = λ at known. known;
        all = (⊎_elim (λ none. none ∙ sym (ap (option_map (λ (row : Row). public_channel row.channel)) there)) (λ known. known) (part id.0), tt);
      }
      of_row (Some row) there = record {
        part = λ at. by_part at (at == id.0) refl;
        keeps = λ at known. by_keep at (at == id.0) refl known;
        all = (own, tt);
      }
        where
          number : row.channel.id.0 ≡ id.0
          number = number_found tree.channels id row there

          is : channels_of tree id.0 ≡ Some (public_channel row.channel)
          is = ap (option_map (λ (one : Row). public_channel one.channel)) there

          fresh : channels row.channel.id.0 ≡ None → channels_heard (channel_told row.channel) channels row.channel.id.0 ≡ channels_of tree row.channel.id.0
          fresh none =
              made_at row.channel channels none (root_parent row id there) (λ low. placed row there (ap (λ n. n == ROOT.0) (sym number) ∙ low))
              ∙ sym (ap (channels_of tree) number ∙ is)

          again : channels row.channel.id.0 ≡ channels_of tree row.channel.id.0 → channels_heard (channel_told row.channel) channels row.channel.id.0 ≡ channels_of tree row.channel.id.0
          again known =
              channel_own (channel_told row.channel) channels row.channel.id.0 refl
              ∙ channel_known (channel_told row.channel) channels row.channel.id.0 (public_channel row.channel) (known ∙ ap (channels_of tree) number ∙ is)
              ∙ ap (λ (one : KnownChannel). Some one) (said_again row.channel) ∙ sym (ap (channels_of tree) number ∙ is)

          own : channels_heard (channel_told row.channel) channels id.0 ≡ channels_of tree id.0
          own = subst (λ n. channels_heard (channel_told row.channel) channels n ≡ channels_of tree n) number (⊎_elim fresh again (part row.channel.id.0))

          other : (at : ℕ) → (at == id.0) ≡ false → channels_heard (channel_told row.channel) channels at ≡ channels at
          other at apart = channel_apart (channel_told row.channel) channels at row.channel.id.0 refl (ap (λ n. at == n) number ∙ apart)

          by_part : (at : ℕ) (b : Bool) → (at == id.0) ≡ b
              → (channels_heard (channel_told row.channel) channels at ≡ None) ⊎ (channels_heard (channel_told row.channel) channels at ≡ channels_of tree at)
          by_part at true here = inr (subst (λ n. channels_heard (channel_told row.channel) channels n ≡ channels_of tree n) (sym (eqb-true at id.0 here)) own)
          by_part at false apart = ⊎_elim (λ none. inl (other at apart ∙ none)) (λ known. inr (other at apart ∙ known)) (part at)

          by_keep : (at : ℕ) (b : Bool) → (at == id.0) ≡ b → channels at ≡ channels_of tree at → channels_heard (channel_told row.channel) channels at ≡ channels_of tree at
          by_keep at true here known = subst (λ n. channels_heard (channel_told row.channel) channels n ≡ channels_of tree n) (sym (eqb-true at id.0 here)) own
          by_keep at false apart known = other at apart ∙ known

  -- one list of channels, and then another
  both_said : (one other : List ChannelId) (channels : Channels) → Grows channels (told_channels (flat_map says one) channels) one
      → Grows (told_channels (flat_map says one) channels) (told_channels (flat_map says other) (told_channels (flat_map says one) channels)) other
      → Grows channels (told_channels (flat_map says (one ++ other)) channels) (one ++ other)
  both_said one other channels first second =
      subst (λ now. Grows channels now (one ++ other))
      (sym (ap (λ (messages : List ChannelState). told_channels messages channels) (flat_map-append says one other)
      ∙ fold-append (λ (all : Channels) message. channels_heard message all) channels (flat_map says one) (flat_map says other)))
      (record {
        part = second.part;
        keeps = λ at known. second.keeps at (first.keeps at known);
        all = each_append (λ id. told_channels (flat_map says other) (told_channels (flat_map says one) channels) id.0 ≡ channels_of tree id.0) one other
            (each_so (λ id. told_channels (flat_map says one) channels id.0 ≡ channels_of tree id.0)
            (λ id. told_channels (flat_map says other) (told_channels (flat_map says one) channels) id.0 ≡ channels_of tree id.0) (λ id known. second.keeps id.0 known) one first.all) second.all;
      })

  nothing_said : (channels : Channels) → IsPart channels → Grows channels channels []
  nothing_said channels part = record { part = part; keeps = λ at known. known; all = tt }

  -- the families of these channels, each of which has its place
  families_said : (family_of : ChannelId → List ChannelId)
      → ((id : ChannelId) (channels : Channels) → IsPart channels → HasPlace channels id → Grows channels (told_channels (flat_map says (family_of id)) channels) (family_of id))
      → (ids : List ChannelId) (parent : ChannelId) (channels : Channels) → IsPart channels → IsKnown channels parent.0 → Each (λ id. is_child tree parent id ≡ true) ids
      → Grows channels (told_channels (flat_map says (flat_map family_of ids)) channels) (flat_map family_of ids)
  families_said family_of one [] parent channels part known kids = nothing_said channels part
  families_said family_of one (id ∷ ids) parent channels part known kids =
      let first = one id channels part (child_placed parent id channels known kids.0) in
      both_said (family_of id) (flat_map family_of ids) channels first
      (families_said family_of one ids parent (told_channels (flat_map says (family_of id)) channels) first.part (first.keeps parent.0 known) kids.1)
    where
      child_placed : (parent id : ChannelId) (channels : Channels) → IsKnown channels parent.0 → is_child tree parent id ≡ true → HasPlace channels id
      child_placed parent id channels known kid row there low =
          let under : (parent_of tree id).0 ≡ parent.0 = eqb-true (parent_of tree id).0 parent.0 (and_parts (not (is_root id)) ((parent_of tree id).0 == parent.0) kid).1 in
          let above : parent_of tree id ≡ row.channel.parent = ap (λ (found : Option Row). option_map_or (λ (one : Row). one.channel.parent) found id) there in
          let stays : is_there tree.channels (parent_of tree id) ≡ true = parent_there tree id proper (ap is_some there) in
          ap (λ n. is_some (channels n)) (ap (λ (one : ChannelId). one.0) (sym above) ∙ under) ∙ ap is_some known ∙ known_there tree parent
          ∙ ap (is_there tree.channels) (same_channel parent (parent_of tree id) (sym under)) ∙ stays

  family_said : (levels : ℕ) (id : ChannelId) (channels : Channels) → IsPart channels → HasPlace channels id
      → Grows channels (told_channels (flat_map says (family (children tree) levels id)) channels) (family (children tree) levels id)
  unfolding family
  family_said zero id channels part placed = nothing_said channels part
  family_said (suc levels) id channels part placed =
      let below : List ChannelId = flat_map (family (children tree) levels) (children tree id) in
      let own = said_one id channels part placed in
      let first : Grows channels (told_channels (flat_map says (id ∷ [])) channels) (id ∷ []) =
      subst (λ (messages : List ChannelState). Grows channels (told_channels messages channels) (id ∷ [])) (sym (append-nil (says id))) own in
      both_said (id ∷ []) below channels first
      (families_said (family (children tree) levels) (family_said levels) (children tree id) id (told_channels (flat_map says (id ∷ [])) channels) first.part first.all.0
      (children_are id (channel_ids tree)))
    where
      children_are : (id : ChannelId) (ids : List ChannelId) → Each (λ one. is_child tree id one ≡ true) (filter (is_child tree id) ids)
      children_are id [] = tt
      children_are id (one ∷ ids) = step (is_child tree id one) refl (children_are id ids)
        where
          step : (b : Bool) → is_child tree id one ≡ b → Each (λ one. is_child tree id one ≡ true) (filter (is_child tree id) ids)
              → Each (λ one. is_child tree id one ≡ true) (cond b (one ∷ filter (is_child tree id) ids) (filter (is_child tree id) ids))
          step true kid rest = (kid, rest)
          step false kid rest = rest

-- ---- all channels

module _ (state : StateValue) (proper : IsProper state) where
  abbrev tree : TreeState
  tree = state.tree

  abbrev no_channels : Channels
  no_channels id = None

  root_first : (P : ChannelId → Type 0) → Each P (tree_order tree) → P ROOT
  unfolding family
  root_first P all = all.0

  -- each channel that is there is in the order
  ordered : (P : ChannelId → Type 0) → Each P (tree_order tree) → (id : ChannelId) (row : Row) → row_of tree.channels id ≡ Some row → P id
  ordered P all id row there = step (is_root id) refl
    where
      step : (b : Bool) → is_root id ≡ b → P id
      step true root = subst P (sym (same_channel id ROOT (eqb-true id.0 ROOT.0 root))) (root_first P all)
      step false low =
          let number : row.channel.id ≡ id = same_channel row.channel.id id (number_found tree.channels id row there) in
          let (above, between, below, is) = parents_come_first_lem state row.channel proper
          (ap (channel_of tree) number ∙ ap (option_map (λ (one : Row). one.channel)) there) (ap is_root number ∙ low) in
          subst P number (each_split P (above ++ row.channel.parent ∷ between) row.channel.id below
          (subst (Each P) (is ∙ grouped above row.channel.parent between row.channel.id below) all))
        where
          grouped : (above : List ChannelId) (parent : ChannelId) (between : List ChannelId) (one : ChannelId) (below : List ChannelId)
              → above ++ parent ∷ between ++ one ∷ below ≡ (above ++ parent ∷ between) ++ one ∷ below
          grouped above parent between one below = simp append_assoc

  tree_known : told_channels (tree_told tree) no_channels ≡ channels_of tree
  tree_known = fun_ext (λ at. of_row (numbered_channel at) (row_of tree.channels (numbered_channel at)) refl)
    where
      grown : Grows tree proper.tree no_channels (told_channels (tree_told tree) no_channels) (tree_order tree)
      grown =
          family_said tree proper.tree PATH_LIMIT ROOT no_channels (λ at. inl refl)
          (λ row there low. absurd (both_ways (is_root ROOT) low refl))

      of_row : (id : ChannelId) (found : Option Row) → row_of tree.channels id ≡ found → told_channels (tree_told tree) no_channels id.0 ≡ channels_of tree id.0
      of_row id None there = ⊎_elim (λ none. none ∙ sym (ap (option_map (λ (row : Row). public_channel row.channel)) there)) (λ known. known) (grown.part id.0)
      of_row id (Some row) there = ordered (λ one. told_channels (tree_told tree) no_channels one.0 ≡ channels_of tree one.0) grown.all id row there

-- ---- links

-- a message on links changes nothing else of the channels that are known
module _ (tree : TreeState) (proper : IsProperTree tree) where
  abbrev link_says : ChannelId → List ChannelState
  link_says id = if_it_tells has_links (links_told tree id)

  root_known : is_some (channels_of tree ROOT.0) ≡ true
  root_known = known_there tree ROOT ∙ ap is_some proper.root.1

  link_heard_on : (id : ChannelId) (at : ℕ) → channels_heard (links_told tree id) (channels_of tree) at ≡ channels_of tree at
  link_heard_on id at = step (at == id.0) refl
    where
      none_placed : (b : Bool) → (at == ROOT.0) ≡ b → channels_of tree at ≡ None → cond {A = Option KnownChannel} (b || false) (Some (channel_heard (links_told tree id) plain_channel)) None ≡ None
      none_placed true root none = absurd (true≢false (sym root_known ∙ ap (λ n. is_some (channels_of tree n)) (sym (eqb-true at ROOT.0 root)) ∙ ap is_some none))
      none_placed false low none = refl

      of_known : (known : Option KnownChannel) → channels_of tree at ≡ known → channel_after (channels_of tree) at (links_told tree id) ≡ known
      of_known None none =
          ap (λ (found : Option KnownChannel). option_map_or (λ was. Some (channel_heard (links_told tree id) was)) found
          (cond (has_place (channels_of tree) at (links_told tree id)) (Some (channel_heard (links_told tree id) plain_channel)) None)) none
          ∙ none_placed (at == ROOT.0) refl none
      of_known (Some known) is = channel_known (links_told tree id) (channels_of tree) at known is

      step : (b : Bool) → (at == id.0) ≡ b → channels_heard (links_told tree id) (channels_of tree) at ≡ channels_of tree at
      step true here =
          channel_own (links_told tree id) (channels_of tree) at (ap (λ n. Some n) (sym (eqb-true at id.0 here)))
          ∙ of_known (channels_of tree at) refl
      step false apart = channel_apart (links_told tree id) (channels_of tree) at id.0 refl apart

  links_keep : (ids : List ChannelId) → told_channels (flat_map link_says ids) (channels_of tree) ≡ channels_of tree
  links_keep [] = refl
  links_keep (id ∷ ids) =
      fold-append (λ (all : Channels) message. channels_heard message all) (channels_of tree) (link_says id) (flat_map link_says ids)
      ∙ ap (told_channels (flat_map link_says ids)) (step (has_links (links_told tree id))) ∙ links_keep ids
    where
      step : (b : Bool) → told_channels (cond {A = List ChannelState} b (links_told tree id ∷ []) []) (channels_of tree) ≡ channels_of tree
      step true = fun_ext (link_heard_on id)
      step false = refl

  -- messages on channels say nothing of links
  says_no_links : (ids : List ChannelId) (links : Pairs) → told_links (flat_map (λ id. map channel_told (given (channel_of tree id))) ids) links ≡ links
  says_no_links [] links = refl
  says_no_links (id ∷ ids) links =
      fold-append (λ (all : Pairs) message. links_heard message all) links (map channel_told (given (channel_of tree id))) (flat_map (λ one. map channel_told (given (channel_of tree one))) ids)
      ∙ ap (told_links (flat_map (λ one. map channel_told (given (channel_of tree one))) ids)) (step (channel_of tree id)) ∙ says_no_links ids links
    where
      step : (found : Option Channel) → told_links (map channel_told (given found)) links ≡ links
      step None = refl
      step (Some channel) = fun_ext (λ one. fun_ext (λ other. no_links_told (channel_told channel) links one other refl refl refl))

  module _ (one other : ChannelId) where
    abbrev linked : Bool
    linked = are_linked tree one other

    abbrev touches : ChannelId → Bool
    touches id = (id.0 == one.0) || (id.0 == other.0)

    abbrev MayBe : Bool → Type 0
    MayBe known = (known ≡ false) ⊎ (known ≡ linked)

    some_listed : (numbers : List ℕ) → not (is_empty numbers) ≡ true → has_any numbers ≡ true
    some_listed [] some = absurd (true≢false (sym some))
    some_listed (number ∷ numbers) some = refl

    at_end : (id end : ChannelId) (links : Pairs) → other_end id.0 one.0 other.0 ≡ Some end.0 → are_linked tree id end ≡ linked → MayBe (links one.0 other.0)
        → told_links (link_says id) links one.0 other.0 ≡ linked
    at_end id end links ends pair may = step (has_links (links_told tree id)) refl
      where
        none : (known : Bool) → MayBe known → linked ≡ false → known ≡ linked
        none known (inl is) off = is ∙ sym off
        none known (inr is) off = is

        plain : (b : Bool) → ((b && not false) || false) ≡ b
        plain true = refl
        plain false = refl

        step : (b : Bool) → has_links (links_told tree id) ≡ b → told_links (cond {A = List ChannelState} b (links_told tree id ∷ []) []) links one.0 other.0 ≡ linked
        step true some =
            ap (λ (given : Option ℕ). option_map_or (link_heard (links_told tree id) (links one.0 other.0)) given (links one.0 other.0)) ends
            ∙ ap (λ (b : Bool). (cond b (is_listed (numbers (partners tree id)) end.0) (links one.0 other.0) && not false) || false) (some_listed (numbers (partners tree id)) some)
            ∙ plain (is_listed (numbers (partners tree id)) end.0) ∙ partners_are tree id end ∙ pair
        step false off =
            none (links one.0 other.0) may
            (sym pair ∙ sym (partners_are tree id end) ∙ ap (λ (ends : List ℕ). is_listed ends end.0) (empty_is (numbers (partners tree id)) (not-false (is_empty (numbers (partners tree id))) off)))

    off_end : (id : ChannelId) (links : Pairs) → other_end id.0 one.0 other.0 ≡ None → told_links (link_says id) links one.0 other.0 ≡ links one.0 other.0
    off_end id links ends = step (has_links (links_told tree id))
      where
        step : (b : Bool) → told_links (cond {A = List ChannelState} b (links_told tree id ∷ []) []) links one.0 other.0 ≡ links one.0 other.0
        step true = ap (λ (given : Option ℕ). option_map_or (link_heard (links_told tree id) (links one.0 other.0)) given (links one.0 other.0)) ends
        step false = refl

    one_said : (id : ChannelId) (links : Pairs) → MayBe (links one.0 other.0) → told_links (link_says id) links one.0 other.0 ≡ cond (touches id) linked (links one.0 other.0)
    one_said id links may = by_ends (id.0 == one.0) (id.0 == other.0) refl refl
      where
        by_ends : (a b : Bool) → (id.0 == one.0) ≡ a → (id.0 == other.0) ≡ b → told_links (link_says id) links one.0 other.0 ≡ cond (a || b) linked (links one.0 other.0)
        by_ends true b first second =
            at_end id other links (ap (λ (c : Bool). cond {A = Option ℕ} c (Some other.0) (cond (other.0 == id.0) (Some one.0) None)) (eq-eqb one.0 id.0 (sym (eqb-true id.0 one.0 first))))
            (ap (λ (channel : ChannelId). are_linked tree channel other) (same_channel id one (eqb-true id.0 one.0 first))) may
        by_ends false true first second =
            at_end id one links
            (ap (λ (c : Bool). cond {A = Option ℕ} c (Some other.0) (cond (other.0 == id.0) (Some one.0) None)) (apart_sym id.0 one.0 first)
            ∙ ap (λ (c : Bool). cond {A = Option ℕ} c (Some one.0) None) (eq-eqb other.0 id.0 (sym (eqb-true id.0 other.0 second))))
            (ap (λ (channel : ChannelId). are_linked tree channel one) (same_channel id other (eqb-true id.0 other.0 second)) ∙ linked_both tree other one proper) may
        by_ends false false first second =
            off_end id links
            (ap (λ (c : Bool). cond {A = Option ℕ} c (Some other.0) (cond (other.0 == id.0) (Some one.0) None)) (apart_sym id.0 one.0 first)
            ∙ ap (λ (c : Bool). cond {A = Option ℕ} c (Some one.0) None) (apart_sym id.0 other.0 second))

    all_said : (ids : List ChannelId) (links : Pairs) → MayBe (links one.0 other.0)
        → told_links (flat_map link_says ids) links one.0 other.0 ≡ cond (list_any touches ids) linked (links one.0 other.0)
    all_said [] links may = refl
    all_said (id ∷ ids) links may =
        ap (λ (final : Pairs). final one.0 other.0) (fold-append (λ (all : Pairs) message. links_heard message all) links (link_says id) (flat_map link_says ids))
        ∙ step (touches id) refl (all_said ids)
      where
        both : (b : Bool) → cond b linked linked ≡ linked
        both true = refl
        both false = refl

        step : (b : Bool) → touches id ≡ b
            → ((all : Pairs) → MayBe (all one.0 other.0) → told_links (flat_map link_says ids) all one.0 other.0 ≡ cond (list_any touches ids) linked (all one.0 other.0))
            → told_links (flat_map link_says ids) (told_links (link_says id) links) one.0 other.0 ≡ cond (b || list_any touches ids) linked (links one.0 other.0)
        step true is rest =
            let heard : told_links (link_says id) links one.0 other.0 ≡ linked = one_said id links may ∙ ap (λ (b : Bool). cond b linked (links one.0 other.0)) is in
            rest (told_links (link_says id) links) (inr heard) ∙ ap (cond (list_any touches ids) linked) heard ∙ both (list_any touches ids)
        step false is rest =
            let heard : told_links (link_says id) links one.0 other.0 ≡ links one.0 other.0 = one_said id links may ∙ ap (λ (b : Bool). cond b linked (links one.0 other.0)) is in
            rest (told_links (link_says id) links) (subst MayBe (sym heard) may) ∙ ap (cond (list_any touches ids) linked) heard

    links_said : told_links (all_links_told tree) (λ from to. false) one.0 other.0 ≡ linked
    links_said = all_said (channel_ids tree) (λ from to. false) (inl refl) ∙ step (list_any touches (channel_ids tree)) refl
      where
        step : (b : Bool) → list_any touches (channel_ids tree) ≡ b → cond b linked false ≡ linked
        step true some = refl
        step false none =
            let off : list_any (λ (id : ChannelId). id.0 == one.0) (channel_ids tree) ≡ false = any_first (λ (id : ChannelId). id.0 == one.0) (λ id. id.0 == other.0) (channel_ids tree) none in
            sym (absent_unlinked tree one other proper
            (some_found (λ (row : Row). number row == one.0) tree.channels ∙ sym (any_mapped (λ (id : ChannelId). id.0 == one.0) (λ (row : Row). row.channel.id) tree.channels) ∙ off))

-- ---- the tree

pub sync_tree : (state : StateValue) → IsProper state
    → IsKnownTree state.tree (told_channels (tree_told state.tree ++ all_links_told state.tree) (λ id. None)) (told_links (tree_told state.tree ++ all_links_told state.tree) (λ one other. false))
sync_tree state proper = record {
  channels_are =
      fold-append (λ (all : Channels) message. channels_heard message all) (λ id. None) (tree_told state.tree) (all_links_told state.tree)
      ∙ ap (told_channels (all_links_told state.tree)) (tree_known state proper) ∙ links_keep state.tree proper.tree (channel_ids state.tree);
  links_are =
      fold-append (λ (all : Pairs) message. links_heard message all) (λ one other. false) (tree_told state.tree) (all_links_told state.tree)
      ∙ ap (told_links (all_links_told state.tree)) (says_no_links state.tree proper.tree (tree_order state.tree) (λ one other. false))
      ∙ fun_ext (λ one. fun_ext (λ other. links_said state.tree proper.tree (numbered_channel one) (numbered_channel other)));
}
