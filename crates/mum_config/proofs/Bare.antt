-- States to which configurations lead: nobody is there, and counts have room for what is left.
use Rattle.mum_config.proofs.Common.{◌≡◌, ℕ, suc, ◌+◌, ◌≤◌, ◌&&◌, ◌||◌, not, Bool, true, false, cond, ltb, List, [], ◌∷◌, map, replicate, refl, ap, ◌∙◌, arith, None, list_any, and_from, false≢true, lt-ltb, length-replicate, All-replicate, SLOTS, Row, root_proper, User, IsProperRoster, empty_roster, EDIT_LIMIT, Edit, AddAccount, EditChannel, MakeChannel, SetAcl, SetLimits, SetServer, SetUser, all_fit, applied, counts_after, raised_where, empties, has_member, is_emptied, without_emptied, fits, gives_right_numbers, has_room_for, is_countable, sets_properly, changes_paths, changes_routes, is_of_configuration, names_there, AreCounts, IsNear, IsProper, set_by, StateValue, empty_state, no_counts, heard_anew, is_set_anew, with_clearing, with_suppression, fit_from, fit_proper, nothing_emptied}

-- nobody is there, and n edits more can be counted
pub record IsBare (left : ℕ) (state : StateValue) : Type 0 where
  pub proper : IsProper state
  pub nobody : state.roster.sessions ≡ []
  pub policy : state.counts.policy + left ≤ EDIT_LIMIT
  pub routing : state.counts.routing + left ≤ EDIT_LIMIT

-- ---- the first state

empty_roster_proper : IsProperRoster empty_roster
empty_roster_proper = record {
  limit_fits = omega arith;
  slots = omega arith;
  numbers = λ session. omega arith;
  names = λ name. omega arith;
  given = λ session above. refl;
  last_fits = omega arith;
  deaf_are_mute = refl;
  listeners_here = λ session none. refl;
  few_listeners = λ channel. omega arith;
  few_channels = λ session. omega arith;
  listeners_rise = tt;
  targets_here = λ session none. refl;
  targets_sound = refl;
  targets_rise = tt;
}

no_counts_proper : AreCounts no_counts
no_counts_proper = record {
  revision = omega arith;
  policy = omega arith;
  routing = omega arith;
  each = All-replicate (IsNear 0) SLOTS 0 (omega arith);
  one_each = length-replicate {A = ℕ} SLOTS 0;
}

empty_proper : IsProper empty_state
empty_proper = record {
  welcome = refl;
  names = tt;
  accounts = λ i j d below within. absurd (omega arith);
  few_accounts = omega arith;
  short_names = refl;
  tree = root_proper;
  channels = refl;
  policies = refl;
  sound_policies = refl;
  roster = empty_roster_proper;
  users = refl;
  inside = refl;
  listening = refl;
  counts = no_counts_proper;
}

pub empty_bare : (left : ℕ) → left ≤ EDIT_LIMIT → IsBare left empty_state
empty_bare left few = record { proper = empty_proper; nobody = refl; policy = omega arith; routing = omega arith }

-- fewer can be counted too
pub less_left : (more left : ℕ) (state : StateValue) → left ≤ more → IsBare more state → IsBare left state
less_left more left state few bare = record {
  proper = bare.proper;
  nobody = bare.nobody;
  policy = omega (arith, bare.policy);
  routing = omega (arith, bare.routing);
}

-- ---- what a configuration's edit leaves is what it sets

same_sessions : (state : StateValue) (edit : Edit) → is_of_configuration edit ≡ true → (set_by state edit).roster.sessions ≡ state.roster.sessions
same_sessions state (SetServer welcome bandwidth password) is = refl
same_sessions state (SetLimits sessions channels) is = refl
same_sessions state (AddAccount account name digest) is = refl
same_sessions state (MakeChannel id parent name temporary info None) is = refl
same_sessions state (EditChannel id actor name parent description position max_users links_add links_remove) is = refl
same_sessions state (SetAcl channel actor policy) is = refl
same_sessions state edit is = absurd (false≢true is)

not_cleared : (edit : Edit) (state : StateValue) → is_of_configuration edit ≡ true → with_clearing edit state ≡ state
not_cleared (SetUser session actor channel mute deaf clear_suppress priority self_mute self_deaf recording comment context listen unlisten) state is = absurd (false≢true is)
not_cleared edit state is = refl

map_nobody : (f : User → User) (users : List User) → users ≡ [] → map f users ≡ users
map_nobody f [] nobody = refl
map_nobody f (user ∷ users) nobody = absurd (cc)

not_heard : (before : StateValue) (edit : Edit) (state : StateValue) → state.roster.sessions ≡ [] → with_suppression before edit state ≡ state
not_heard before edit state nobody =
    ap (λ (users : List User). record state { roster = record state.roster { sessions = users } })
    (map_nobody (λ user. cond (is_set_anew before.roster.sessions edit user) (heard_anew state user) user) state.roster.sessions nobody)

none_emptied : (before users : List User) (rows : List Row) → before ≡ [] → list_any (is_emptied before users) rows ≡ false
none_emptied (user ∷ before) users rows nobody = absurd (cc)
none_emptied [] users [] nobody = refl
none_emptied [] users (row ∷ rows) nobody =
    ap (λ (b : Bool). b || list_any (is_emptied [] users) rows) (never row.channel.temporary (not (has_member users row.channel.id)))
    ∙ none_emptied [] users rows refl
  where
    never : (a b : Bool) → (a && false && b) ≡ false
    never true b = refl
    never false b = refl

applied_is : (state : StateValue) (edit : Edit) → is_of_configuration edit ≡ true → state.roster.sessions ≡ [] → IsProper (set_by state edit)
    → applied state edit ≡ record (set_by state edit) { counts = counts_after state edit }
applied_is state edit is nobody proper =
    let set : StateValue = set_by state edit in
    let still : set.roster.sessions ≡ [] = same_sessions state edit is ∙ nobody in
    let heard : with_clearing edit (with_suppression state edit set) ≡ set =
    not_cleared edit (with_suppression state edit set) is ∙ not_heard state edit set still in
    ap (λ (s : StateValue). record (without_emptied state s) { counts = counts_after state edit }) heard
    ∙ ap (λ (s : StateValue). record s { counts = counts_after state edit })
    (nothing_emptied state set proper (none_emptied state.roster.sessions set.roster.sessions set.tree.channels nobody))

-- ---- one edit

room : (raises : Bool) (revision count left limit : ℕ) → count + suc left ≤ limit → (not raises || ltb count (revision + limit)) ≡ true
room true revision count left limit few = lt-ltb count (revision + limit) (omega arith)
room false revision count left limit few = refl

raised_within : (raises : Bool) (count left limit : ℕ) → count + suc left ≤ limit → raised_where raises count + left ≤ limit
raised_within true count left limit few = omega arith
raised_within false count left limit few = omega arith

-- it fits, and leaves such a state, in which what it sets is set
pub record Leads (left : ℕ) (state : StateValue) (edit : Edit) : Type 0 where
  pub fit : fits state edit ≡ true
  pub bare : IsBare left (applied state edit)
  pub is : applied state edit ≡ record (set_by state edit) { counts = counts_after state edit }

pub leads : (left : ℕ) (state : StateValue) (edit : Edit) → is_of_configuration edit ≡ true → IsBare (suc left) state → names_there state edit ≡ true → gives_right_numbers state edit ≡ true → sets_properly state edit ≡ true
    → Leads left state edit
leads left state edit is bare named numbers sets =
    let paths : Bool = changes_paths edit in
    let routes : Bool = changes_routes edit in
    let rooms : (has_room_for paths state.counts.revision state.counts.policy && has_room_for routes state.counts.revision state.counts.routing) ≡ true =
    and_from (has_room_for paths state.counts.revision state.counts.policy) (has_room_for routes state.counts.revision state.counts.routing)
    (room paths state.counts.revision state.counts.policy left EDIT_LIMIT bare.policy)
    (room routes state.counts.revision state.counts.routing left EDIT_LIMIT bare.routing) in
    let countable : is_countable state edit ≡ true =
    ap (λ (b : Bool). cond b (has_room_for paths state.counts.revision state.counts.policy && has_room_for routes state.counts.revision state.counts.routing) (ltb state.counts.revision EDIT_LIMIT)) is ∙ rooms in
    let fit : fits state edit ≡ true = fit_from state edit (record { named = named; numbers = numbers; sets = sets; countable = countable }) in
    let both : IsProper (set_by state edit) × IsProper (applied state edit) = fit_proper state edit bare.proper fit in
    let same : applied state edit ≡ record (set_by state edit) { counts = counts_after state edit } = applied_is state edit is bare.nobody both.0 in
    record {
      fit = fit;
      bare = record {
        proper = both.1;
        nobody = ap (λ (s : StateValue). s.roster.sessions) same ∙ same_sessions state edit is ∙ bare.nobody;
        policy = raised_within (paths || empties state (set_by state edit)) state.counts.policy left EDIT_LIMIT bare.policy;
        routing = raised_within routes state.counts.routing left EDIT_LIMIT bare.routing;
      };
      is = same;
    }

-- it fits, and so do the others after it
pub one_more : (state : StateValue) (edit : Edit) (edits : List Edit) → fits state edit ≡ true → all_fit (applied state edit) edits ≡ true → all_fit state (edit ∷ edits) ≡ true
one_more state edit edits fit rest = and_from (fits state edit) (all_fit (applied state edit) edits) fit rest
