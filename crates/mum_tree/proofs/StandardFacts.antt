-- Trees of channels worked out by hand: what each change leaves, and for what it is refused.
use Rattle.mum_tree.proofs.Common.{◌≡◌, ℕ, true, false, List, [], ◌∷◌, ◌++◌, codes, map, negsuc, Option, Some, None, refl, option_map, Channel, ChannelInfo, TreeFault, Count, LinkCount, Nesting, NoChannel, RootFixed, SameName, TemporaryParent, UnderItself, Change, fault_of_edit, first_place, fault_of_add, fault_of_link, fault_of_move, fault_of_remove, fault_of_rename, fault_of_unlink, is_full, is_below, path, row_of, upward, below, next_number, partners, plain_info, is_reached, linked}
use Rattle.mum_tree.proofs.Scenes.{Step, at_places, beside, channel, describe, edit, link, linked_to, make, make_temporary, move, nested, number, raise, remove, rename, to_links, to_name, to_parent, to_placement, tree, unchanged, unlink}

abbrev a : List ℕ
a = codes "A"

abbrev b : List ℕ
b = codes "B"

abbrev c : List ℕ
c = codes "C"

abbrev d : List ℕ
d = codes "D"

-- ---- what is asked of a tree

abbrev numbers_in : List Step → List ℕ
numbers_in steps = map (λ row. row.channel.id.0) (tree steps).channels

-- each channel with its place
abbrev places_in : List Step → List (ℕ × ℕ)
places_in steps = map (λ row. (row.channel.id.0, row.place)) (tree steps).channels

abbrev channel_in : List Step → ℕ → Option Channel
channel_in steps id = option_map (λ row. row.channel) (row_of (tree steps).channels (channel id))

abbrev way_in : List Step → ℕ → List ℕ
way_in steps id = map number (path (tree steps).channels (channel id))

abbrev subtree_in : List Step → ℕ → List ℕ
subtree_in steps id = map number (below (tree steps) (channel id))

abbrev links_in : List Step → ℕ → List ℕ
links_in steps id = map number (partners (tree steps) (channel id))

-- where links lead
abbrev linked_in : List Step → ℕ → List ℕ
linked_in steps id = map number (linked (tree steps) (channel id))

-- ---- a channel, and what is changed of it

abbrev plain_channel : ℕ → ℕ → List ℕ → Channel
plain_channel id parent name = record { id = channel id; parent = channel parent; name = name; temporary = false; info = plain_info }

abbrev described : ChannelInfo
described = record { description = codes "where it starts"; position = negsuc 2; max_users = 10 }

pub record ChannelsChange : Type 0 where
  pub a_new_channel : channel_in (make 1 0 a ∷ []) 1 ≡ Some (plain_channel 1 0 a)
  pub a_temporary_one : channel_in (make_temporary 1 0 a ∷ []) 1 ≡ Some (record (plain_channel 1 0 a) { temporary = true })
  pub a_new_name : channel_in (make 1 0 a ∷ rename 1 b ∷ []) 1 ≡ Some (plain_channel 1 0 b)
  pub a_description : channel_in (make 1 0 a ∷ describe 1 described ∷ []) 1 ≡ Some (record (plain_channel 1 0 a) { info = described })
  pub the_description_of_the_root : channel_in (describe 0 described ∷ []) 0 ≡ Some (record (plain_channel 0 0 (codes "Root")) { info = described })
  pub a_move : way_in (make 1 0 a ∷ make 2 0 b ∷ move 2 1 ∷ []) 2 ≡ 0 ∷ 1 ∷ 2 ∷ []
  pub a_removal_takes_what_is_below : numbers_in (make 1 0 a ∷ make 2 1 b ∷ make 3 0 c ∷ remove 1 ∷ []) ≡ 0 ∷ 3 ∷ []
  pub a_channel_and_all_below_it : subtree_in (make 1 0 a ∷ make 2 0 b ∷ make 3 1 c ∷ make 4 3 d ∷ []) 1 ≡ 1 ∷ 3 ∷ 4 ∷ []
  pub what_is_not_there : (channel_in [] 9 ≡ None) × (way_in [] 9 ≡ []) × (links_in [] 9 ≡ [])

pub channels_change : ChannelsChange
unfolding tree upward
channels_change = search

-- ---- numbers are not given again, and places are, the least first

pub record NumbersAndPlaces : Type 0 where
  pub numbers_are_not_given_again : next_number (tree (make 1 0 a ∷ make 2 0 b ∷ remove 2 ∷ [])) ≡ Some (channel 3)
  pub numbers_may_be_left_out : next_number (tree (make 7 0 a ∷ [])) ≡ Some (channel 8)
  pub numbers_end : next_number (tree (make 4294967295 0 a ∷ [])) ≡ None
  pub the_least_place_is_given_again :
      places_in (make 1 0 a ∷ make 2 0 b ∷ make 3 1 c ∷ remove 1 ∷ make 4 0 d ∷ make 5 0 a ∷ make 6 0 c ∷ [])
      ≡ (0, 0) ∷ (2, 2) ∷ (4, 1) ∷ (5, 3) ∷ (6, 4) ∷ []
  pub a_place_is_kept :
      places_in (make 1 0 a ∷ make 2 0 b ∷ remove 1 ∷ make 3 0 c ∷ move 3 2 ∷ rename 3 d ∷ []) ≡ (0, 0) ∷ (2, 2) ∷ (3, 1) ∷ []
  pub channels_are_in_the_order_of_numbers : numbers_in (make 3 0 a ∷ make 5 3 b ∷ make 9 0 c ∷ []) ≡ 0 ∷ 3 ∷ 5 ∷ 9 ∷ []

pub numbers_and_places : NumbersAndPlaces
unfolding tree
numbers_and_places = search

-- ---- why a change is refused: the first cause, or none

abbrev making : List Step → ℕ → ℕ → List ℕ → Option TreeFault
making steps id parent name = fault_of_add (tree steps) (channel id) (channel parent) name

abbrev renaming : List Step → ℕ → List ℕ → Option TreeFault
renaming steps id name = fault_of_rename (tree steps) (channel id) name

abbrev moving : List Step → ℕ → ℕ → Option TreeFault
moving steps id parent = fault_of_move (tree steps) (channel id) (channel parent)

abbrev removing : List Step → ℕ → Option TreeFault
removing steps id = fault_of_remove (tree steps) (channel id)

abbrev linking : List Step → ℕ → ℕ → Option TreeFault
linking steps one other = fault_of_link (tree steps) (channel one) (channel other)

abbrev unlinking : List Step → ℕ → ℕ → Option TreeFault
unlinking steps one other = fault_of_unlink (tree steps) (channel one) (channel other)

abbrev editing : List Step → ℕ → Change → Option TreeFault
editing steps id change = fault_of_edit (tree steps) (channel id) change

pub record Refusals : Type 0 where
  pub no_parent : making [] 1 9 a ≡ Some NoChannel
  pub a_name_beside_it : making (make 1 0 a ∷ []) 2 0 a ≡ Some SameName
  pub the_same_name_elsewhere : making (make 1 0 a ∷ []) 2 1 a ≡ None
  pub a_temporary_parent : making (make_temporary 1 0 a ∷ []) 2 1 b ≡ Some TemporaryParent
  pub nothing_to_rename : renaming [] 9 a ≡ Some NoChannel
  pub the_root_keeps_its_name : renaming [] 0 (codes "Root") ≡ Some RootFixed
  pub a_name_beside_it_again : renaming (make 1 0 a ∷ make 2 0 b ∷ []) 2 a ≡ Some SameName
  pub the_name_that_it_has : renaming (make 1 0 a ∷ []) 1 a ≡ None
  pub nothing_to_move : moving [] 9 0 ≡ Some NoChannel
  pub nowhere_to_move_to : moving (make 1 0 a ∷ []) 1 9 ≡ Some NoChannel
  pub the_root_is_not_moved : moving (make 1 0 a ∷ []) 0 1 ≡ Some RootFixed
  pub a_name_where_it_moves_to : moving (make 1 0 a ∷ make 2 1 b ∷ make 3 0 b ∷ []) 3 1 ≡ Some SameName
  pub under_itself : moving (make 1 0 a ∷ make 2 1 b ∷ []) 1 2 ≡ Some UnderItself
  pub a_name_comes_before_under_itself : moving (make 1 0 a ∷ make 2 1 a ∷ []) 1 1 ≡ Some SameName
  pub a_move_under_a_temporary_one : moving (make_temporary 1 0 a ∷ make 2 0 b ∷ []) 2 1 ≡ Some TemporaryParent
  pub a_move_to_where_it_is : moving (make 1 0 a ∷ []) 1 0 ≡ None
  pub nothing_to_remove : removing [] 9 ≡ Some NoChannel
  pub the_root_is_not_removed : removing (make 1 0 a ∷ []) 0 ≡ Some RootFixed
  pub a_link_to_nothing : (linking [] 0 9 ≡ Some NoChannel) × (linking [] 9 0 ≡ Some NoChannel)
  pub nothing_to_unlink : (unlinking [] 0 9 ≡ Some NoChannel) × (unlinking [] 9 0 ≡ Some NoChannel)

pub refusals : Refusals
unfolding tree upward
refusals = search

-- ---- the limits: 32 under the root, 1,024 channels until the limit is raised, 64 links

-- channel 1 is linked to 64 of the others
abbrev a_star : List Step
a_star = beside 1 66 ++ linked_to 1 2 64

pub record Limits : Type 0 where
  pub the_32nd_below_the_root : (making (nested 31) 32 31 a ≡ None) × (making (nested 32) 33 32 a ≡ Some Nesting)
  pub a_move_takes_what_is_below_along :
      (moving (nested 31 ++ make 32 0 a ∷ []) 1 32 ≡ None) × (moving (nested 32 ++ make 33 0 a ∷ []) 1 33 ≡ Some Nesting)
  pub the_1024th_channel : (making (beside 1 1022) 1023 0 a ≡ None) × (making (beside 1 1023) 1024 0 a ≡ Some Count)
  pub a_65th_link_from_either_side : (linking a_star 1 66 ≡ Some LinkCount) × (linking a_star 66 1 ≡ Some LinkCount)
  pub a_link_that_is_there_or_to_itself : (linking a_star 1 2 ≡ None) × (linking a_star 1 1 ≡ None)
  pub room_again_after_an_unlinking : linking (a_star ++ unlink 1 30 ∷ []) 66 1 ≡ None

pub limits : Limits
unfolding tree upward
limits = record {
  the_32nd_below_the_root = (refl, refl);
  a_move_takes_what_is_below_along = (refl, refl);
  the_1024th_channel = (refl, refl);
  a_65th_link_from_either_side = (refl, refl);
  a_link_that_is_there_or_to_itself = (refl, refl);
  room_again_after_an_unlinking = refl;
}

-- ---- the limit of channels

pub a_full_tree : is_full (tree (beside 1 1023)) ≡ true
unfolding tree upward
a_full_tree = refl

pub the_1025th_once_the_limit_is_raised : making (beside 1 1023 ++ raise 2048 ∷ []) 1024 0 a ≡ None
unfolding tree upward
the_1025th_once_the_limit_is_raised = refl

-- after place 1,023, which is had, comes place 1,024
pub places_from_1024_on : first_place (at_places 1024) 2 1023 ≡ 1024
unfolding first_place
places_from_1024_on = refl

pub no_more_than_the_limit_that_was_set : making (beside 1 1023 ++ raise 1025 ∷ make 1024 0 a ∷ []) 1025 0 b ≡ Some Count
unfolding tree upward
no_more_than_the_limit_that_was_set = refl

pub a_limit_changes_nothing_else : (tree (make 1 0 a ∷ make 2 0 b ∷ raise 2048 ∷ remove 1 ∷ make 3 0 c ∷ [])).channels ≡ (tree (make 1 0 a ∷ make 2 0 b ∷ remove 1 ∷ make 3 0 c ∷ [])).channels
unfolding tree upward
a_limit_changes_nothing_else = refl

-- ---- links, and where they lead

abbrev four : List Step
four = make 1 0 a ∷ make 2 0 b ∷ make 3 0 c ∷ make 4 0 d ∷ []

pub record LinksLead : Type 0 where
  pub a_link_is_of_both : (links_in (four ++ link 1 2 ∷ []) 1 ≡ 2 ∷ []) × (links_in (four ++ link 1 2 ∷ []) 2 ≡ 1 ∷ [])
  pub it_is_taken_away_from_either_side : (tree (four ++ link 1 2 ∷ unlink 2 1 ∷ [])).links ≡ []
  pub partners_are_in_the_order_of_numbers :
      links_in (four ++ link 3 4 ∷ link 1 3 ∷ link 3 0 ∷ link 2 3 ∷ link 1 4 ∷ []) 3 ≡ 0 ∷ 1 ∷ 2 ∷ 4 ∷ []
  pub no_link_is_to_itself_or_twice : links_in (four ++ link 1 1 ∷ link 1 2 ∷ link 2 1 ∷ []) 1 ≡ 2 ∷ []
  pub links_go_with_a_removed_channel :
      links_in (make 1 0 a ∷ make 2 1 b ∷ make 3 0 c ∷ link 2 3 ∷ link 3 0 ∷ remove 1 ∷ []) 3 ≡ 0 ∷ []
  pub links_lead_on_through_two :
      let made = four ++ link 3 2 ∷ link 2 1 ∷ [] in (linked_in made 1 ≡ 1 ∷ 2 ∷ 3 ∷ []) × (linked_in made 4 ≡ 4 ∷ [])
  pub a_ring_holds_without_one_of_its_links :
      linked_in (four ++ link 3 2 ∷ link 2 1 ∷ link 3 4 ∷ link 4 1 ∷ unlink 1 2 ∷ []) 1 ≡ 1 ∷ 2 ∷ 3 ∷ 4 ∷ []
  pub a_chain_of_three_until_one_of_its_links_is_taken_away :
      let made = make 1 0 a ∷ make 2 0 b ∷ make 3 0 c ∷ link 1 2 ∷ link 2 3 ∷ [] in
      (linked_in made 1 ≡ 1 ∷ 2 ∷ 3 ∷ []) × (linked_in made 3 ≡ 1 ∷ 2 ∷ 3 ∷ [])
      × (linked_in (made ++ unlink 2 3 ∷ []) 1 ≡ 1 ∷ 2 ∷ []) × (linked_in (made ++ unlink 2 3 ∷ []) 3 ≡ 3 ∷ [])
  pub a_chain_falls_apart_without_its_middle :
      let made = four ++ link 2 3 ∷ link 3 4 ∷ link 4 1 ∷ remove 3 ∷ [] in (linked_in made 1 ≡ 1 ∷ 4 ∷ []) × (linked_in made 2 ≡ 2 ∷ [])
  pub the_root_is_linked_as_any_other : linked_in (make 1 0 a ∷ make 2 1 b ∷ link 0 2 ∷ []) 2 ≡ 0 ∷ 2 ∷ []

pub links_lead : LinksLead
unfolding tree is_reached
links_lead = search

-- ---- several parts at once: the faults speak of what the whole change leaves

abbrev everything : Change
everything = record {
  name = Some b;
  parent = Some (channel 2);
  description = Some (codes "of words");
  position = Some (negsuc 2);
  max_users = Some 10;
  links_add = channel 2 ∷ [];
  links_remove = channel 3 ∷ [];
}

-- 1 and 4 below the root, B (2) and C (3) below 1, and C (4) beside 1
abbrev two_called_c : List Step
two_called_c = make 1 0 a ∷ make 2 1 b ∷ make 3 1 c ∷ make 4 0 c ∷ []

pub record ChangesOfParts : Type 0 where
  pub all_parts :
      channel_in (four ++ edit 1 everything ∷ []) 1
      ≡ Some (record (plain_channel 1 2 b) { info = record { description = codes "of words"; position = negsuc 2; max_users = 10 } })
  pub links_among_them : links_in (four ++ link 1 3 ∷ edit 1 everything ∷ []) 1 ≡ 2 ∷ []
  pub nothing_given : tree (four ++ link 1 3 ∷ edit 1 unchanged ∷ []) ≡ tree (four ++ link 1 3 ∷ [])
  pub name_and_parent_where_each_alone_is_refused :
      (editing two_called_c 3 (to_name b) ≡ Some SameName) × (editing two_called_c 3 (to_parent 0) ≡ Some SameName)
      × (editing two_called_c 3 (to_placement d 0) ≡ None)
  pub its_own_name_and_parent_change_nothing : editing (make 1 0 a ∷ []) 0 (to_placement (codes "Root") 0) ≡ None
  pub the_root_renamed_or_moved :
      (editing (make 1 0 a ∷ []) 0 (to_name a) ≡ Some RootFixed) × (editing (make 1 0 a ∷ []) 0 (to_parent 1) ≡ Some RootFixed)
  pub who_is_not_there :
      (editing [] 9 (to_name b) ≡ Some NoChannel) × (editing (make 1 0 a ∷ []) 1 (to_placement b 9) ≡ Some NoChannel)
      × (editing (make 1 0 a ∷ []) 1 (to_links (9 ∷ []) []) ≡ Some NoChannel) × (editing (make 1 0 a ∷ []) 1 (to_links [] (9 ∷ [])) ≡ Some NoChannel)
  pub under_itself_comes_after_the_name :
      (editing (make 1 0 a ∷ make 2 1 b ∷ []) 1 (to_placement b 1) ≡ Some SameName) × (editing (make 1 0 a ∷ make 2 1 b ∷ []) 1 (to_parent 2) ≡ Some UnderItself)
  pub under_a_temporary_one_comes_after_that :
      (editing (make 1 0 a ∷ make_temporary 2 0 b ∷ []) 1 (to_parent 2) ≡ Some TemporaryParent)
      × (editing (make 1 0 a ∷ make_temporary 2 0 b ∷ []) 2 (to_parent 2) ≡ Some UnderItself)
  pub too_deep_comes_after_that :
      (editing (nested 32 ++ make_temporary 33 0 a ∷ []) 1 (to_parent 33) ≡ Some TemporaryParent)
      × (editing (nested 32 ++ make 33 0 a ∷ []) 1 (to_parent 33) ≡ Some Nesting)
  pub links_are_counted_last :
      (editing a_star 1 (record (to_links (66 ∷ []) []) { parent = Some (channel 1) }) ≡ Some UnderItself)
      × (editing a_star 1 (to_links (66 ∷ []) []) ≡ Some LinkCount)
  pub one_link_for_another_at_64 : editing a_star 1 (to_links (66 ∷ []) (2 ∷ [])) ≡ None
  pub a_partner_with_64 :
      (editing a_star 66 (to_links (1 ∷ []) []) ≡ Some LinkCount) × (editing a_star 66 (to_links (1 ∷ []) (1 ∷ [])) ≡ None)
  pub a_channel_in_both_lists_is_linked_and_then_parted : links_in (four ++ edit 1 (to_links (2 ∷ 3 ∷ []) (2 ∷ [])) ∷ []) 1 ≡ 3 ∷ []
  pub links_to_itself_twice_or_there_already : links_in (four ++ link 1 2 ∷ edit 1 (to_links (1 ∷ 2 ∷ 3 ∷ 3 ∷ []) (1 ∷ 4 ∷ [])) ∷ []) 1 ≡ 2 ∷ 3 ∷ []

pub changes_of_parts : ChangesOfParts
unfolding tree upward
changes_of_parts = record {
  all_parts = refl;
  links_among_them = refl;
  nothing_given = refl;
  name_and_parent_where_each_alone_is_refused = (refl, refl, refl);
  its_own_name_and_parent_change_nothing = refl;
  the_root_renamed_or_moved = (refl, refl);
  who_is_not_there = (refl, refl, refl, refl);
  under_itself_comes_after_the_name = (refl, refl);
  under_a_temporary_one_comes_after_that = (refl, refl);
  too_deep_comes_after_that = (refl, refl);
  links_are_counted_last = (refl, refl);
  one_link_for_another_at_64 = refl;
  a_partner_with_64 = (refl, refl);
  a_channel_in_both_lists_is_linked_and_then_parted = refl;
  links_to_itself_twice_or_there_already = refl;
}

-- ---- who is below whom

pub record AreBelow : Type 0 where
  pub a_channel_is_below_itself_and_those_above :
      let made = (tree (make 1 0 a ∷ make 2 1 b ∷ make 3 0 c ∷ [])).channels in
      map (λ top. is_below made (channel top) (channel 2)) (0 ∷ 1 ∷ 2 ∷ 3 ∷ 9 ∷ []) ≡ true ∷ true ∷ true ∷ false ∷ false ∷ []

pub are_below : AreBelow
unfolding tree upward
are_below = search
