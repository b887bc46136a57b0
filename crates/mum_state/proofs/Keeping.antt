-- Edits that fit keep a state proper, and an edit fits where it leaves one.
use Rattle.mum_state.proofs.Common.{◌≡◌, ◌<◌, ◌↔◌, ◌&&◌, Bool, true, List, [], ◌∷◌, refl, sym, subst, list_all, list_any, option_map_or, and_parts, ltb-true, ChannelId, SessionId, is_there, has_number, Edit, AddAccount, EditChannel, Join, Kick, Leave, MakeChannel, RemoveChannel, SetAcl, SetLimits, SetServer, SetTarget, SetTokens, SetUser, Text, all_fit, applied, counts_after, without_emptied, fits, gives_right_numbers, is_countable, sets_properly, FitsWhereProper, KeepsProper, named_account, named_channels, named_sessions, names_there, channel_parts, user_parts, IsProper, set_by, StateValue, has_account, with_clearing, with_suppression}
use Rattle.mum_state.proofs.{Accounted.accounts_both_ways, Altering.alters_both_ways, Closed.emptied_proper, Editing.changes_both_ways, Fitting.fit_from, Fitting.fit_parts, Holding.policies_both_ways, Holding.targets_both_ways, Holding.tokens_both_ways, Joining.joins_both_ways, Leaving.left_proper, Limiting.limits_both_ways, Making.making_from, Making.making_to, Parted.with_counts, Removing.removals_both_ways, Serving.servers_both_ways, Suppressed.heard_after, Suppressed.heard_proper, Suppressed.silent_after, Tally.counts_back, Tally.counts_fit}

-- ---- what is named

-- the sessions and the channels that are named are there
record AreNamed (state : StateValue) (sessions : List SessionId) (channels : List ChannelId) : Type 0 where
  here : list_all (λ session. list_any (has_number session) state.roster.sessions) sessions ≡ true
  there : list_all (is_there state.tree.channels) channels ≡ true

named : (state : StateValue) (edit : Edit) → names_there state edit ≡ true → AreNamed state (named_sessions edit) (named_channels edit)
named state edit there =
    let a : Bool = list_all (λ session. list_any (has_number session) state.roster.sessions) (named_sessions edit) in
    let b : Bool = list_all (is_there state.tree.channels) (named_channels edit) in
    let front = and_parts (a && b) (option_map_or (has_account state) (named_account edit) true) there in
    let parts = and_parts a b front.0 in
    record { here = parts.0; there = parts.1 }

-- the first of a list that all pass
head_passes : {X : Type 0} (p : X → Bool) (x : X) (xs : List X) → list_all p (x ∷ xs) ≡ true → p x ≡ true
head_passes p x xs all = (and_parts (p x) (list_all p xs) all).0

-- ---- what it sets

pub sets_both_ways : (state : StateValue) (edit : Edit) → IsProper state → names_there state edit ≡ true → gives_right_numbers state edit ≡ true
    → (sets_properly state edit ≡ true) ↔ IsProper (set_by state edit)
sets_both_ways state (SetServer welcome bandwidth password) proper there right = servers_both_ways state (record { welcome = welcome; bandwidth = bandwidth; password = password }) proper
sets_both_ways state (SetLimits sessions channels) proper there right = limits_both_ways state sessions channels proper right
sets_both_ways state (AddAccount account name digest) proper there right = accounts_both_ways state (record { account = account; name = name; digest = digest }) proper
sets_both_ways state (Join session slot name account tokens) proper there right = joins_both_ways state name account tokens proper
sets_both_ways state (Leave session) proper there right = (λ sets. left_proper state session proper, λ after. refl)
sets_both_ways state (Kick session actor reason ban) proper there right = (λ sets. left_proper state session proper, λ after. refl)
sets_both_ways state (MakeChannel id parent name temporary info maker) proper there right =
    let above : state.tree.greatest < id.0 = ltb-true state.tree.greatest id.0 right in
    (making_to state id parent name temporary info maker proper above, making_from state id parent name temporary info maker proper above)
sets_both_ways state (EditChannel id actor name parent description position max_users links_add links_remove) proper there right =
    changes_both_ways state id (channel_parts name parent description position max_users links_add links_remove) proper
    (named state (EditChannel id actor name parent description position max_users links_add links_remove) there).there
sets_both_ways state (RemoveChannel id actor) proper there right =
    removals_both_ways state id proper (head_passes (is_there state.tree.channels) id [] (named state (RemoveChannel id actor) there).there)
sets_both_ways state (SetUser session actor channel mute deaf clear_suppress priority self_mute self_deaf recording comment context listen unlisten) proper there right =
    let are = named state (SetUser session actor channel mute deaf clear_suppress priority self_mute self_deaf recording comment context listen unlisten) there in
    alters_both_ways state session (user_parts channel mute deaf priority self_mute self_deaf recording comment context listen unlisten) proper
    (head_passes (λ one. list_any (has_number one) state.roster.sessions) session (actor ∷ []) are.here) are.there
sets_both_ways state (SetTokens session tokens) proper there right =
    tokens_both_ways state session tokens proper (head_passes (λ one. list_any (has_number one) state.roster.sessions) session [] (named state (SetTokens session tokens) there).here)
sets_both_ways state (SetTarget session id target) proper there right =
    targets_both_ways state session id target proper (head_passes (λ one. list_any (has_number one) state.roster.sessions) session [] (named state (SetTarget session id target) there).here) right
sets_both_ways state (SetAcl channel actor policy) proper there right =
    policies_both_ways state channel policy proper (head_passes (is_there state.tree.channels) channel [] (named state (SetAcl channel actor policy) there).there)
sets_both_ways state (Text actor sessions channels trees message) proper there right = (λ sets. proper, λ after. refl)

-- ---- what follows from it

-- suppression and clearing keep what is set proper
heard_set : (state : StateValue) (edit : Edit) → IsProper (set_by state edit) → IsProper (with_clearing edit (with_suppression state edit (set_by state edit)))
heard_set state edit proper =
    subst IsProper (sym (heard_after state edit (set_by state edit))) (heard_proper (silent_after state edit (set_by state edit)) (set_by state edit) proper)

pub applied_proper : (state : StateValue) (edit : Edit) → IsProper state → IsProper (set_by state edit) → is_countable state edit ≡ true → IsProper (applied state edit)
applied_proper state edit proper set countable =
    with_counts (without_emptied state (with_clearing edit (with_suppression state edit (set_by state edit)))) (counts_after state edit)
    (emptied_proper state (with_clearing edit (with_suppression state edit (set_by state edit))) (heard_set state edit set))
    (counts_fit state edit proper.counts countable)

-- ---- the laws

-- an edit that fits leaves a proper state
pub fit_proper : (state : StateValue) (edit : Edit) → IsProper state → fits state edit ≡ true → IsProper (set_by state edit) × IsProper (applied state edit)
fit_proper state edit proper fit =
    let parts = fit_parts state edit fit in
    let set : IsProper (set_by state edit) = (sets_both_ways state edit proper parts.named parts.numbers).0 parts.sets in
    (set, applied_proper state edit proper set parts.countable)

pub keeps_proper_lem : KeepsProper
keeps_proper_lem state [] proper fit = proper
keeps_proper_lem state (edit ∷ edits) proper fit =
    let parts = and_parts (fits state edit) (all_fit (applied state edit) edits) fit in
    keeps_proper_lem (applied state edit) edits (fit_proper state edit proper parts.0).1 parts.1

pub fits_where_proper_lem : FitsWhereProper
fits_where_proper_lem state edit proper there right = (
  fit_proper state edit proper,
  λ after.
      fit_from state edit (record {
        named = there;
        numbers = right;
        sets = (sets_both_ways state edit proper there right).1 after.0;
        countable = counts_back state edit after.1.counts;
      }),
)
