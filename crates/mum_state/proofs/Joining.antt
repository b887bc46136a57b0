-- A session more.
use Rattle.mum_state.proofs.Common.{◌≡◌, ℕ, ◌↔◌, ◌&&◌, Bool, true, List, [], refl, ap, Option, is_none, is_some, and_from, and_parts, AccountId, is_there, User, free_slot, join_fault, joined, next_number, next_slot, are_tokens, is_context, joining, joins_where_proper_lem, IsProper, is_short, is_sound_user, is_text, StateValue}
use Rattle.mum_state.proofs.{Givens.is_none_of, Givens.none_is, Listed.all_insert, Listed.inserted_passes, Parted.with_roster}

-- the row of the session that joins
abbrev new_user : StateValue → List ℕ → Option AccountId → List (List ℕ) → User
new_user state name account tokens = joining (next_number state.roster) (next_slot state.roster) name account tokens

-- nothing forbids it, its name is short, and its tokens are within the limits
abbrev may_join : StateValue → List ℕ → List (List ℕ) → Bool
may_join state name tokens = is_none (join_fault state.roster name) && is_short name && are_tokens tokens

join_to : (state : StateValue) (name : List ℕ) (account : Option AccountId) (tokens : List (List ℕ)) → IsProper state → may_join state name tokens ≡ true → IsProper (record state { roster = joined state.roster name account tokens })
join_to state name account tokens proper may =
    let none : Bool = is_none (join_fault state.roster name) in
    let both = and_parts (none && is_short name) (are_tokens tokens) may in
    let parts = and_parts none (is_short name) both.0 in
    let law = joins_where_proper_lem state.roster name account tokens proper.roster in
    let (root, found, is) = proper.tree.root in
    let new : User = new_user state name account tokens in
    with_roster state (joined state.roster name account tokens) proper
    (law.0 (none_is (join_fault state.roster name) parts.0))
    (all_insert is_sound_user state.roster.sessions (free_slot state.roster) new
    (and_from (is_short name && are_tokens tokens && is_text []) (is_context []) (and_from (is_short name && are_tokens tokens) (is_text []) (and_from (is_short name) (are_tokens tokens) parts.1 both.1) refl) refl)
    proper.users)
    (all_insert (λ user. is_there state.tree.channels user.channel) state.roster.sessions (free_slot state.roster) new (ap is_some found) proper.inside)
    proper.listening

join_from : (state : StateValue) (name : List ℕ) (account : Option AccountId) (tokens : List (List ℕ)) → IsProper state → IsProper (record state { roster = joined state.roster name account tokens }) → may_join state name tokens ≡ true
join_from state name account tokens proper after =
    let none : Bool = is_none (join_fault state.roster name) in
    let law = joins_where_proper_lem state.roster name account tokens proper.roster in
    let sound : is_sound_user (new_user state name account tokens) ≡ true = inserted_passes is_sound_user state.roster.sessions (free_slot state.roster) (new_user state name account tokens) after.users in
    let both = and_parts (is_short name && are_tokens tokens && is_text []) (is_context []) sound in
    let more = and_parts (is_short name && are_tokens tokens) (is_text []) both.0 in
    let parts = and_parts (is_short name) (are_tokens tokens) more.0 in
    and_from (none && is_short name) (are_tokens tokens)
    (and_from none (is_short name) (is_none_of (join_fault state.roster name) (law.1 after.roster)) parts.0)
    parts.1

-- a session may join exactly where the state stays proper with it
pub joins_both_ways : (state : StateValue) (name : List ℕ) (account : Option AccountId) (tokens : List (List ℕ)) → IsProper state
    → (may_join state name tokens ≡ true) ↔ IsProper (record state { roster = joined state.roster name account tokens })
joins_both_ways state name account tokens proper = (join_to state name account tokens proper, join_from state name account tokens proper)
