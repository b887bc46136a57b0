-- The limits of a change by what the tree says against it.
use Rattle.mum_rules_tree.proofs.Common.{◌≡◌, ◌&&◌, ◌||◌, Bool, true, false, not, cond, List, [], ◌∷◌, Option, Some, None, refl, ap, ◌∙◌, list_any, option_map_or, ChannelId, TreeFault, NoChannel, SameName, UnderItself, Nesting, RootFixed, TemporaryParent, LinkCount, Change, fault_of_edit, name_after, overlinks, parent_after, renames_or_moves, is_below, is_root, is_taken, is_temporary, nests, TreeState, holds_of_given, is_name, is_text, DenyType, ChannelName, NestingLimit, TemporaryChannel, Text, TextTooLong, case_of, first_standing, limit_by_cause, limits_of_change, without_parting}
use Rattle.mum_tree.specs.Change.{names_there}

-- what the tree says where all that is named is there
abbrev said : Bool → Bool → Bool → Bool → Bool → Bool → Bool → Option TreeFault
said renamed_or_moved root taken below temporary deep over =
    option_map_or (λ fault. Some fault)
    (cond renamed_or_moved (cond root (Some RootFixed) (cond taken (Some SameName) (cond below (Some UnderItself) (cond temporary (Some TemporaryParent) (cond deep (Some Nesting) None))))) None)
    (cond over (Some LinkCount) None)

-- the first limit
abbrev first_limit : Bool → Bool → Bool → Bool → Bool → Bool → Bool → Bool → Bool → Option DenyType
first_limit named short renamed_or_moved root taken below temporary deep over = first_standing
    (case_of Text (renamed_or_moved && root)
    ∷ case_of ChannelName (not named || (renamed_or_moved && taken))
    ∷ case_of Text (renamed_or_moved && below)
    ∷ case_of TemporaryChannel (renamed_or_moved && temporary)
    ∷ case_of NestingLimit (renamed_or_moved && deep)
    ∷ case_of TextTooLong (not short)
    ∷ case_of Text over
    ∷ [])

stays : (named short root taken below temporary deep over : Bool) → limit_by_cause (said false root taken below temporary deep over) named short ≡ first_limit named short false root taken below temporary deep over
stays true true root taken below temporary deep true = refl
stays true true root taken below temporary deep false = refl
stays true false root taken below temporary deep true = refl
stays true false root taken below temporary deep false = refl
stays false short root taken below temporary deep true = refl
stays false short root taken below temporary deep false = refl

moves : (named short root taken below temporary deep over : Bool) → limit_by_cause (said true root taken below temporary deep over) named short ≡ first_limit named short true root taken below temporary deep over
moves named short true taken below temporary deep over = refl
moves true short false true below temporary deep over = refl
moves false short false true below temporary deep over = refl
moves true short false false true temporary deep over = refl
moves false short false false true temporary deep over = refl
moves true short false false false true deep over = refl
moves false short false false false true deep over = refl
moves true short false false false false true over = refl
moves false short false false false false true over = refl
moves true true false false false false false true = refl
moves true true false false false false false false = refl
moves true false false false false false false true = refl
moves true false false false false false false false = refl
moves false short false false false false false true = refl
moves false short false false false false false false = refl

either : (named short renamed_or_moved root taken below temporary deep over : Bool) → limit_by_cause (said renamed_or_moved root taken below temporary deep over) named short ≡ first_limit named short renamed_or_moved root taken below temporary deep over
either named short true root taken below temporary deep over = moves named short root taken below temporary deep over
either named short false root taken below temporary deep over = stays named short root taken below temporary deep over

-- the limit that the tree's cause and the two tests give is the first that applies
pub by_cause : (tree : TreeState) (id : ChannelId) (change : Change) → names_there tree id change ≡ true → change.links_remove ≡ [] → limit_by_cause (fault_of_edit tree id change) (holds_of_given is_name change.name) (holds_of_given is_text change.description) ≡ first_standing (limits_of_change tree id change)
by_cause tree id change there none_goes =
    let rows = tree.channels in
    let name = name_after tree id change in
    let parent = parent_after tree id change in
    let named = holds_of_given is_name change.name in
    let short = holds_of_given is_text change.description in
    let renamed_or_moved = renames_or_moves tree id change in
    let root = is_root id in
    let taken = is_taken rows parent id name in
    let below = is_below rows id parent in
    let temporary = is_temporary rows parent in
    let deep = list_any (nests rows id parent) rows in
    let told = said renamed_or_moved root taken below temporary deep (overlinks tree id change) in
    let same : overlinks tree id change ≡ overlinks tree id (without_parting change) = ap (λ (ls : List ChannelId). overlinks tree id (record change { links_remove = ls })) none_goes in
    ap (λ (b : Bool). limit_by_cause (cond (not b) (Some NoChannel) told) named short) there
    ∙ either named short renamed_or_moved root taken below temporary deep (overlinks tree id change)
    ∙ ap (first_limit named short renamed_or_moved root taken below temporary deep) same
