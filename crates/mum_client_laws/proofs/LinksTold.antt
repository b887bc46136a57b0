-- What messages on channels that are others leave of each link.
use Rattle.mum_client_laws.proofs.Common.{◌≡◌, ◌⊎◌, ℕ, ◌==◌, ◌&&◌, ◌||◌, Bool, true, false, true≢false, not, cond, List, [], ◌∷◌, Option, Some, None, refl, ap, sym, ◌∙◌, subst, inl, inr, ⊎_elim, flat_map, list_any, is_some, option_map, option_map_or, and_parts, both_ways, eq-eqb, eqb-true, fold-append, ChannelId, ChannelState, IsBetween, IsProperTree, is_there, row_of, TreeState, are_linked, is_pair, Channel, Row, each_any, each_from_all, channel_change_told, channel_difference, channel_of, if_it_tells, numbers, partners_only_in, tells_of_channel, same_channel, apart_sym, has_any, is_listed, link_heard, links_heard, other_end, Pairs}
use Rattle.mum_client_laws.proofs.{ChannelsTold.IsUntold, ChannelsTold.number_of, ChannelsTold.untold, Folded.told_links, Linked.linked_both, Linked.only_partner, Reported.empty_is}

-- ---- links that are there, or come, or go

settled : (known before after : Bool) → (known ≡ before) ⊎ (known ≡ after) → ((known && not (before && not after)) || (after && not before)) ≡ after
settled true true true either = refl
settled true true false either = refl
settled true false true either = refl
settled true false false either = ⊎_elim (λ is. absurd (true≢false is)) (λ is. absurd (true≢false is)) either
settled false true true either = ⊎_elim (λ is. absurd (true≢false (sym is))) (λ is. absurd (true≢false (sym is))) either
settled false true false either = refl
settled false false true either = refl
settled false false false either = refl

unsettled : (known before after : Bool) → (known ≡ before) ⊎ (known ≡ after) → (after && not before) ≡ false → (before && not after) ≡ false → known ≡ after
unsettled known true true (inl is) come go = is
unsettled known true true (inr is) come go = is
unsettled known true false either come go = absurd (true≢false go)
unsettled known false true either come go = absurd (true≢false come)
unsettled known false false (inl is) come go = is
unsettled known false false (inr is) come go = is

-- a channel that is not there is linked to nothing
pub absent_unlinked : (tree : TreeState) (one other : ChannelId) → IsProperTree tree → is_there tree.channels one ≡ false → are_linked tree one other ≡ false
absent_unlinked tree one other proper none = step (are_linked tree one other) refl
  where
    step : (b : Bool) → are_linked tree one other ≡ b → b ≡ false
    step true is =
        each_any (IsBetween tree.channels) (true ≡ false) (is_pair one other)
        (λ pair between here.
        let (first, last) = and_parts (pair.0.0 == one.0) (pair.1.0 == other.0) here in
        absurd (both_ways (is_there tree.channels one) none (ap (is_there tree.channels) (sym (same_channel pair.0 one (eqb-true pair.0.0 one.0 first))) ∙ between.0)))
        tree.links (each_from_all (IsBetween tree.channels) tree.links proper.joined.pairs.between) is
    step false is = refl

none_there : (tree : TreeState) (id : ChannelId) → channel_of tree id ≡ None → is_there tree.channels id ≡ false
none_there tree id none = of_row (row_of tree.channels id) none
  where
    of_row : (found : Option Row) → option_map (λ (row : Row). row.channel) found ≡ None → is_some found ≡ false
    of_row None is = refl
    of_row (Some row) is = cc

-- ---- the links of one pair

module _ (before after : TreeState) (was_proper : IsProperTree before) (proper : IsProperTree after)
    (same : (id : ChannelId) → is_some (channel_of after id) ≡ is_some (channel_of before id)) (one other : ChannelId) where
  abbrev linked : Bool
  linked = are_linked after one other

  abbrev were_linked : Bool
  were_linked = are_linked before one other

  abbrev IsEither : Bool → Type 0
  IsEither known = (known ≡ were_linked) ⊎ (known ≡ linked)

  abbrev touches : ChannelId → Bool
  touches id = (id.0 == one.0) || (id.0 == other.0)

  -- the message of a channel says how it is linked to another
  said : (was now : Channel) (id end : ChannelId) (known : Bool) → now.id.0 ≡ id.0 → (known ≡ are_linked before id end) ⊎ (known ≡ are_linked after id end)
      → link_heard (channel_change_told before after was now) known end.0 ≡ are_linked after id end
  said was now id end known number either =
      let own = same_channel now.id id number in
      ap (λ (b : Bool). (known && not b) || is_listed (numbers (partners_only_in after before now.id)) end.0)
      (ap (λ (channel : ChannelId). is_listed (numbers (partners_only_in before after channel)) end.0) own ∙ only_partner before after id end)
      ∙ ap (λ (b : Bool). (known && not (are_linked before id end && not (are_linked after id end))) || b)
      (ap (λ (channel : ChannelId). is_listed (numbers (partners_only_in after before channel)) end.0) own ∙ only_partner after before id end)
      ∙ settled known (are_linked before id end) (are_linked after id end) either

  unsaid : (was now : Channel) (id end : ChannelId) (known : Bool) → now.id.0 ≡ id.0 → IsUntold (channel_change_told before after was now)
      → (known ≡ are_linked before id end) ⊎ (known ≡ are_linked after id end) → known ≡ are_linked after id end
  unsaid was now id end known number none either =
      let own = same_channel now.id id number in
      unsettled known (are_linked before id end) (are_linked after id end) either
      (sym (only_partner after before id end) ∙ ap (λ (channel : ChannelId). is_listed (numbers (partners_only_in after before channel)) end.0) (sym own)
      ∙ ap (λ (ends : List ℕ). is_listed ends end.0) (empty_is (numbers (partners_only_in after before now.id)) none.added))
      (sym (only_partner before after id end) ∙ ap (λ (channel : ChannelId). is_listed (numbers (partners_only_in before after channel)) end.0) (sym own)
      ∙ ap (λ (ends : List ℕ). is_listed ends end.0) (empty_is (numbers (partners_only_in before after now.id)) none.removed))

  -- a message of a channel at one end of the pair
  at_end : (id end : ChannelId) (links : Pairs) → other_end id.0 one.0 other.0 ≡ Some end.0 → are_linked before id end ≡ were_linked → are_linked after id end ≡ linked
      → IsEither (links one.0 other.0) → told_links (channel_difference before after id) links one.0 other.0 ≡ linked
  at_end id end links ends was_pair pair either = of_both (channel_of before id) (channel_of after id) refl refl
    where
      from_pair : (links one.0 other.0 ≡ are_linked before id end) ⊎ (links one.0 other.0 ≡ are_linked after id end)
      from_pair = ⊎_elim (λ is. inl (is ∙ sym was_pair)) (λ is. inr (is ∙ sym pair)) either

      gone : channel_of before id ≡ None → channel_of after id ≡ None → links one.0 other.0 ≡ linked
      gone old new =
          ⊎_elim
          (λ is. is ∙ sym was_pair ∙ absent_unlinked before id end was_proper (none_there before id old) ∙ sym (absent_unlinked after id end proper (none_there after id new)) ∙ pair)
          (λ is. is) either

      of_message : (was now : Channel) (b : Bool) → tells_of_channel (channel_change_told before after was now) ≡ b → now.id.0 ≡ id.0
          → told_links (cond {A = List ChannelState} b (channel_change_told before after was now ∷ []) []) links one.0 other.0 ≡ linked
      of_message was now true tells number =
          ap (λ n. option_map_or (link_heard (channel_change_told before after was now) (links one.0 other.0)) (other_end n one.0 other.0) (links one.0 other.0)) number
          ∙ ap (λ (given : Option ℕ). option_map_or (link_heard (channel_change_told before after was now) (links one.0 other.0)) given (links one.0 other.0)) ends
          ∙ said was now id end (links one.0 other.0) number from_pair ∙ pair
      of_message was now false tells number =
          unsaid was now id end (links one.0 other.0) number (untold (channel_change_told before after was now) tells) from_pair ∙ pair

      of_both : (was now : Option Channel) → channel_of before id ≡ was → channel_of after id ≡ now
          → told_links (option_map_or (λ old. option_map_or (λ new. if_it_tells tells_of_channel (channel_change_told before after old new)) now []) was []) links one.0 other.0 ≡ linked
      of_both None None old new = gone old new
      of_both None (Some now) old new = absurd (true≢false (sym (ap is_some new) ∙ same id ∙ ap is_some old))
      of_both (Some was) None old new = absurd (true≢false (sym (ap is_some old) ∙ sym (same id) ∙ ap is_some new))
      of_both (Some was) (Some now) old new = of_message was now (tells_of_channel (channel_change_told before after was now)) refl (number_of after id now new)

  -- a message of another channel
  off_end : (id : ChannelId) (links : Pairs) → other_end id.0 one.0 other.0 ≡ None → told_links (channel_difference before after id) links one.0 other.0 ≡ links one.0 other.0
  off_end id links ends = of_both (channel_of before id) (channel_of after id) refl
    where
      of_message : (was now : Channel) (b : Bool) → now.id.0 ≡ id.0
          → told_links (cond {A = List ChannelState} b (channel_change_told before after was now ∷ []) []) links one.0 other.0 ≡ links one.0 other.0
      of_message was now true number =
          ap (λ n. option_map_or (link_heard (channel_change_told before after was now) (links one.0 other.0)) (other_end n one.0 other.0) (links one.0 other.0)) number
          ∙ ap (λ (given : Option ℕ). option_map_or (link_heard (channel_change_told before after was now) (links one.0 other.0)) given (links one.0 other.0)) ends
      of_message was now false number = refl

      of_both : (was now : Option Channel) → channel_of after id ≡ now
          → told_links (option_map_or (λ old. option_map_or (λ new. if_it_tells tells_of_channel (channel_change_told before after old new)) now []) was []) links one.0 other.0 ≡ links one.0 other.0
      of_both None now new = refl
      of_both (Some was) None new = refl
      of_both (Some was) (Some now) new = of_message was now (tells_of_channel (channel_change_told before after was now)) (number_of after id now new)

  difference_links : (id : ChannelId) (links : Pairs) → IsEither (links one.0 other.0)
      → told_links (channel_difference before after id) links one.0 other.0 ≡ cond (touches id) linked (links one.0 other.0)
  difference_links id links either = by_ends (id.0 == one.0) (id.0 == other.0) refl refl
    where
      by_ends : (a b : Bool) → (id.0 == one.0) ≡ a → (id.0 == other.0) ≡ b
          → told_links (channel_difference before after id) links one.0 other.0 ≡ cond (a || b) linked (links one.0 other.0)
      by_ends true b first second =
          let is = same_channel id one (eqb-true id.0 one.0 first) in
          at_end id other links (ap (λ (c : Bool). cond {A = Option ℕ} c (Some other.0) (cond (other.0 == id.0) (Some one.0) None)) (eq-eqb one.0 id.0 (sym (eqb-true id.0 one.0 first))))
          (ap (λ (channel : ChannelId). are_linked before channel other) is) (ap (λ (channel : ChannelId). are_linked after channel other) is) either
      by_ends false true first second =
          let is = same_channel id other (eqb-true id.0 other.0 second) in
          at_end id one links
          (ap (λ (c : Bool). cond {A = Option ℕ} c (Some other.0) (cond (other.0 == id.0) (Some one.0) None)) (apart_sym id.0 one.0 first)
          ∙ ap (λ (c : Bool). cond {A = Option ℕ} c (Some one.0) None) (eq-eqb other.0 id.0 (sym (eqb-true id.0 other.0 second))))
          (ap (λ (channel : ChannelId). are_linked before channel one) is ∙ linked_both before other one was_proper)
          (ap (λ (channel : ChannelId). are_linked after channel one) is ∙ linked_both after other one proper) either
      by_ends false false first second =
          off_end id links
          (ap (λ (c : Bool). cond {A = Option ℕ} c (Some other.0) (cond (other.0 == id.0) (Some one.0) None)) (apart_sym id.0 one.0 first)
          ∙ ap (λ (c : Bool). cond {A = Option ℕ} c (Some one.0) None) (apart_sym id.0 other.0 second))

  -- after messages about all these channels the pair is known as it is, if one of them is at its end
  pub all_links : (ids : List ChannelId) (links : Pairs) → IsEither (links one.0 other.0)
      → told_links (flat_map (channel_difference before after) ids) links one.0 other.0 ≡ cond (list_any touches ids) linked (links one.0 other.0)
  all_links [] links either = refl
  all_links (id ∷ ids) links either =
      ap (λ (final : Pairs). final one.0 other.0) (fold-append (λ (all : Pairs) message. links_heard message all) links (channel_difference before after id) (flat_map (channel_difference before after) ids))
      ∙ step (touches id) refl (all_links ids)
    where
      both : (b : Bool) → cond b linked linked ≡ linked
      both true = refl
      both false = refl

      step : (b : Bool) → touches id ≡ b
          → ((all : Pairs) → IsEither (all one.0 other.0)
          → told_links (flat_map (channel_difference before after) ids) all one.0 other.0 ≡ cond (list_any touches ids) linked (all one.0 other.0))
          → told_links (flat_map (channel_difference before after) ids) (told_links (channel_difference before after id) links) one.0 other.0
          ≡ cond (b || list_any touches ids) linked (links one.0 other.0)
      step true is rest =
          let heard : told_links (channel_difference before after id) links one.0 other.0 ≡ linked =
          difference_links id links either ∙ ap (λ (b : Bool). cond b linked (links one.0 other.0)) is in
          rest (told_links (channel_difference before after id) links) (inr heard)
          ∙ ap (cond (list_any touches ids) linked) heard ∙ both (list_any touches ids)
      step false is rest =
          let heard : told_links (channel_difference before after id) links one.0 other.0 ≡ links one.0 other.0 =
          difference_links id links either ∙ ap (λ (b : Bool). cond b linked (links one.0 other.0)) is in
          rest (told_links (channel_difference before after id) links) (subst IsEither (sym heard) either)
          ∙ ap (cond (list_any touches ids) linked) heard

-- ---- a message that says nothing of links

unchanged : (b : Bool) → ((b && not false) || false) ≡ b
unchanged true = refl
unchanged false = refl

pub no_links_told : (message : ChannelState) (links : Pairs) (one other : ℕ) → message.links ≡ [] → message.links_add ≡ [] → message.links_remove ≡ []
    → links_heard message links one other ≡ links one other
no_links_told message links one other none add remove = of_id message.channel_id
  where
    of_end : (end : Option ℕ) → option_map_or (link_heard message (links one other)) end (links one other) ≡ links one other
    of_end None = refl
    of_end (Some end) =
        ap (λ (ends : List ℕ). (cond (has_any ends) (is_listed ends end) (links one other) && not (is_listed message.links_remove end)) || is_listed message.links_add end) none
        ∙ ap (λ (ends : List ℕ). (links one other && not (is_listed ends end)) || is_listed message.links_add end) remove
        ∙ ap (λ (ends : List ℕ). (links one other && not false) || is_listed ends end) add
        ∙ unchanged (links one other)

    of_id : (id : Option ℕ) → option_map_or (λ n. option_map_or (link_heard message (links one other)) (other_end n one other) (links one other)) id (links one other) ≡ links one other
    of_id None = refl
    of_id (Some id) = of_end (other_end id one other)
