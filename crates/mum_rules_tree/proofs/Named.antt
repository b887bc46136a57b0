-- What a ChannelState names is there: so is all that its edit names.
use Rattle.mum_rules_tree.proofs.Common.{◌≡◌, ℕ, ◌&&◌, ◌||◌, Bool, true, false, not, cond, eqb, List, [], ◌∷◌, map, Option, Some, None, refl, ap, ◌∙◌, subst, ⊎_elim, filter, find, list_all, list_any, is_none, is_some, option_map, option_map_or, option_or, and_from, and_parts, cases_Bool, cond_both, eq-eqb, eqb-false, ChannelId, ChannelState, Row, parent_after, change_names_there, parent_of, is_there, row_of, TreeState, same_number, parent_there, some_row, the_root, holds_of_given, given, State, change_asked, channel, given_unless, is_named_there, is_number_there, is_other, names_there, new_parent, others}
use Rattle.mum_tree.specs.Proper.{IsProper}

-- somebody is found, so somebody is there
pub some_found : {X : Type 0} (p : X → Bool) (xs : List X) → is_none (find p xs) ≡ false → list_any p xs ≡ true
some_found p [] found = cc
some_found p (x ∷ xs) found =
    ⊎_elim
    (λ (on : p x ≡ true). ap (λ b. b || list_any p xs) on)
    (λ (off : p x ≡ false). ap (λ b. b || list_any p xs) off ∙ some_found p xs (subst (λ b. is_none (cond b (Some x) (find p xs)) ≡ false) off found))
    (cases_Bool (p x))

pub others_there : (tree : TreeState) (id : ChannelId) (numbers : List ℕ) → list_all (is_number_there tree) numbers ≡ true → list_all (is_there tree.channels) (others id numbers) ≡ true
others_there tree id [] all = refl
others_there tree id (number ∷ numbers) all =
    let (here, rest) = and_parts (is_number_there tree number) (list_all (is_number_there tree) numbers) all in
    let later = others_there tree id numbers rest in
    let kept = filter (is_other id) numbers in
    cond_both (not (eqb number id.0)) (number ∷ kept) kept (λ (ns : List ℕ). list_all (is_there tree.channels) (map channel ns) ≡ true)
    (λ other. and_from (is_there tree.channels (channel number)) (list_all (is_there tree.channels) (others id numbers)) here later)
    (λ same. later)

-- the parent that is given, if one is, is there
unless_there : (tree : TreeState) (test : ChannelId → Bool) (number : Option ℕ) → holds_of_given (is_number_there tree) number ≡ true → holds_of_given (is_there tree.channels) (given_unless test (option_map channel number)) ≡ true
unless_there tree test None there = refl
unless_there tree test (Some number) there =
    cond_both (test (channel number)) None (Some (channel number)) (λ o. holds_of_given (is_there tree.channels) o ≡ true) (λ same. refl) (λ other. there)

pub given_there : (tree : TreeState) (parent : Option ChannelId) → holds_of_given (is_there tree.channels) parent ≡ true → list_all (is_there tree.channels) (given parent) ≡ true
given_there tree None there = refl
given_there tree (Some parent) there = and_from (is_there tree.channels parent) true there refl

-- the parent of a channel that is there, is there
pub above_there : (tree : TreeState) (id : ChannelId) → IsProper tree → is_there tree.channels id ≡ true → is_there tree.channels (parent_of tree id) ≡ true
above_there tree id proper there =
    let rows = tree.channels in
    let (row, found) = some_row (row_of rows id) there in
    let above : parent_of tree id ≡ row.channel.parent = ap (λ (o : Option Row). option_map_or (λ r. r.channel.parent) o id) found in
    ⊎_elim
    (λ (root : eqb id.0 0 ≡ true).
    let (top, stands, is) = proper.root in
    let here : row_of rows id ≡ Some top = ap (row_of rows) (same_number id the_root root) ∙ stands in
    let up : parent_of tree id ≡ the_root = ap (λ (o : Option Row). option_map_or (λ r. r.channel.parent) o id) here ∙ same_number top.channel.parent the_root (eq-eqb top.channel.parent.0 0 is.1) in
    ap (is_there rows) up ∙ ap is_some stands)
    (λ (lower : eqb id.0 0 ≡ false). ap (is_there rows) above ∙ parent_there rows id row proper.lead found (eqb-false id.0 0 lower))
    (cases_Bool (eqb id.0 0))

pub seat_there : (tree : TreeState) (id : ChannelId) (parent : Option ChannelId) → is_there tree.channels (parent_of tree id) ≡ true → holds_of_given (is_there tree.channels) parent ≡ true → is_there tree.channels (option_map_or (λ p. p) parent (parent_of tree id)) ≡ true
seat_there tree id None above there = above
seat_there tree id (Some parent) above there = there

-- the parts of what a ChannelState names
pub record AreThere (tree : TreeState) (id : ChannelId) (message : ChannelState) : Type 0 where
  pub here : is_there tree.channels id ≡ true
  pub parent : holds_of_given (is_there tree.channels) (new_parent tree id message) ≡ true
  pub added : list_all (is_there tree.channels) (others id message.links_add) ≡ true
  pub removed : list_all (is_there tree.channels) (others id message.links_remove) ≡ true

pub are_there : (tree : TreeState) (number : ℕ) (message : ChannelState) → message.channel_id ≡ Some number → names_there tree (State message) ≡ true → AreThere tree (channel number) message
are_there tree number message asked named =
    let a = is_named_there tree (option_or message.channel_id message.parent) in
    let b = holds_of_given (is_number_there tree) message.parent in
    let c = list_all (is_number_there tree) message.links_add in
    let (abc, removed) = and_parts ((a && b) && c) (list_all (is_number_there tree) message.links_remove) named in
    let (ab, added) = and_parts (a && b) c abc in
    let (here, parent) = and_parts a b ab in
    record {
      here = subst (λ (o : Option ℕ). is_named_there tree (option_or o message.parent) ≡ true) asked here;
      parent = unless_there tree _ message.parent parent;
      added = others_there tree (channel number) message.links_add added;
      removed = others_there tree (channel number) message.links_remove removed;
    }

-- all that the edit names is there
pub change_there : (tree : TreeState) (id : ChannelId) (message : ChannelState) → IsProper tree → AreThere tree id message → change_names_there tree id (change_asked tree id message) ≡ true
change_there tree id message proper there =
    let rows = tree.channels in
    let a = is_there rows id in
    let b = is_there rows (parent_after tree id (change_asked tree id message)) in
    let c = list_all (is_there rows) (others id message.links_add) in
    and_from ((a && b) && c) (list_all (is_there rows) (others id message.links_remove))
    (and_from (a && b) c (and_from a b there.here (seat_there tree id (new_parent tree id message) (above_there tree id proper there.here) there.parent)) there.added)
    there.removed
