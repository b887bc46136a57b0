-- Who is there after an edit, and that whoever stays keeps its name and its account.
use Rattle.mum_client_laws.proofs.Common.{◌≡◌, ◌+◌, ◌≤◌, ◌==◌, ◌&&◌, ◌||◌, Bool, true, false, not, cond, List, Some, None, refl, ap, sym, ◌∙◌, arith, filter, list_any, is_some, both_ways, eqb-true, not-false, SessionId, parent_of, is_below, changed_user, free_slot, next_number, next_slot, session_of, has_number, joining, User, applied, user_parts, IsProper, moved_up, set_by, StateValue, Edit, Join, Kick, Leave, MakeChannel, RemoveChannel, SetTarget, SetTokens, SetUser, applied_descends, Each, each_filter, each_find, each_insert, each_map, each_so, some_found, any_stays, any_inserted, targeted_sessions, session_alone, session_known, with_silence, heard_after, silent_after}
use Rattle.mum_client_laws.proofs.Lists.{any_kept}

-- ---- who is there

-- the edit puts the session out
abbrev pub puts_out : Edit → SessionId → Bool
puts_out (Leave one) session = session.0 == one.0
puts_out (Kick one actor reason ban) session = session.0 == one.0
puts_out edit session = false

-- it brings the session with this number
abbrev pub brings_in : StateValue → Edit → SessionId → Bool
brings_in state (Join one slot name account tokens) session = (next_number state.roster).0 == session.0
brings_in state edit session = false

abbrev pub there_after : StateValue → Edit → SessionId → Bool → Bool
there_after state edit session there = (brings_in state edit session || there) && not (puts_out edit session)

all_and : (b : Bool) → b ≡ (b && true)
all_and true = refl
all_and false = refl

kept_number : (session : SessionId) (b : Bool) (was now : User) → now.session ≡ was.session → has_number session (cond b now was) ≡ has_number session was
kept_number session true was now same = ap (λ (one : SessionId). one.0 == session.0) same
kept_number session false was now same = refl

left_members : (session one : SessionId) (users : List User)
    → list_any (has_number session) (filter (λ user. not (has_number one user)) users) ≡ (list_any (has_number session) users && not (session.0 == one.0))
left_members session one users =
    any_kept (has_number session) (λ (user : User). not (has_number one user)) (not (session.0 == one.0))
    (λ user is. ap (λ n. not (n == one.0)) (eqb-true user.session.0 session.0 is)) users

set_members : (state : StateValue) (edit : Edit) (session : SessionId)
    → list_any (has_number session) (set_by state edit).roster.sessions ≡ there_after state edit session (list_any (has_number session) state.roster.sessions)
set_members state (Join one slot name account tokens) session =
    any_inserted (has_number session) state.roster.sessions (free_slot state.roster) (joining (next_number state.roster) (next_slot state.roster) name account tokens)
    ∙ all_and _
set_members state (Leave one) session = left_members session one state.roster.sessions
set_members state (Kick one actor reason ban) session = left_members session one state.roster.sessions
set_members state (MakeChannel id parent name temporary info None) session = all_and _
set_members state (MakeChannel id parent name true info (Some maker)) session =
    any_stays (has_number session) (λ user. cond (has_number maker user) (record user { channel = id }) user)
    (λ user. kept_number session (has_number maker user) user (record user { channel = id }) refl) state.roster.sessions ∙ all_and _
set_members state (MakeChannel id parent name false info (Some maker)) session = all_and _
set_members state (RemoveChannel id actor) session =
    any_stays (has_number session) (moved_up state.tree id)
    (λ user. kept_number session (is_below state.tree.channels id user.channel) user (record user { channel = parent_of state.tree id }) refl) state.roster.sessions ∙ all_and _
set_members state (SetUser one actor channel mute deaf clear_suppress priority self_mute self_deaf recording comment context listen unlisten) session =
    let f : User → User = changed_user (user_parts channel mute deaf priority self_mute self_deaf recording comment context listen unlisten) in
    any_stays (has_number session) (λ user. cond (has_number one user) (f user) user) (λ user. kept_number session (has_number one user) user (f user) refl) state.roster.sessions ∙ all_and _
set_members state (SetTokens one tokens) session =
    any_stays (has_number session) (λ user. cond (has_number one user) (record user { tokens = tokens }) user)
    (λ user. kept_number session (has_number one user) user (record user { tokens = tokens }) refl) state.roster.sessions ∙ all_and _
set_members state (SetTarget one id target) session =
    ap (λ (users : List User). list_any (has_number session) users) (targeted_sessions state.roster one id target) ∙ all_and _
set_members state edit session = all_and _

pub members : (state : StateValue) (edit : Edit) (session : SessionId)
    → is_some (session_of (applied state edit).roster session) ≡ there_after state edit session (is_some (session_of state.roster session))
members state edit session =
    some_found (has_number session) (applied state edit).roster.sessions
    ∙ ap (λ (s : StateValue). list_any (has_number session) s.roster.sessions) (heard_after state edit (set_by state edit))
    ∙ any_stays (has_number session) (with_silence (silent_after state edit (set_by state edit))) (λ user. refl) (set_by state edit).roster.sessions
    ∙ set_members state edit session
    ∙ ap (there_after state edit session) (sym (some_found (has_number session) state.roster.sessions))

on_or : (a : Bool) → (a || true) ≡ true
on_or true = refl
on_or false = refl

-- whoever is there no longer was kicked
pub gone_is_out : (state : StateValue) (edit : Edit) (session : SessionId) → is_some (session_of state.roster session) ≡ true
    → is_some (session_of (applied state edit).roster session) ≡ false → puts_out edit session ≡ true
gone_is_out state edit session was none =
    not-false (puts_out edit session)
    (sym (ap (λ (b : Bool). b && not (puts_out edit session)) (on_or (brings_in state edit session)))
    ∙ sym (ap (there_after state edit session) was) ∙ sym (members state edit session) ∙ none)

-- whoever is there still was not
pub stays_in : (state : StateValue) (edit : Edit) (session : SessionId) → is_some (session_of state.roster session) ≡ true
    → is_some (session_of (applied state edit).roster session) ≡ true → puts_out edit session ≡ false
stays_in state edit session was here = step (puts_out edit session) refl
  where
    step : (b : Bool) → puts_out edit session ≡ b → b ≡ false
    step true out =
        absurd (both_ways (is_some (session_of (applied state edit).roster session))
        (members state edit session ∙ ap (λ (b : Bool). (brings_in state edit session || is_some (session_of state.roster session)) && not b) out
        ∙ none (brings_in state edit session || is_some (session_of state.roster session))) here)
      where
        none : (a : Bool) → (a && false) ≡ false
        none true = refl
        none false = refl
    step false in_it = refl

-- ---- whoever stays keeps its name and its account

-- the session of this number has the name and the account of this one
abbrev HasNames : SessionId → User → User → Type 0
HasNames session was user = has_number session user ≡ true → (user.name ≡ was.name) × (user.account ≡ was.account)

module _ (session : SessionId) (was : User) where
  names_kept : (b : Bool) (user now : User) → now.session ≡ user.session → now.name ≡ user.name → now.account ≡ user.account → HasNames session was user
      → HasNames session was (cond b now user)
  names_kept true user now number name account has here =
      let own = has (ap (λ (one : SessionId). one.0 == session.0) (sym number) ∙ here) in (name ∙ own.0, account ∙ own.1)
  names_kept false user now number name account has here = has here

  set_names : (state : StateValue) (edit : Edit) → session.0 ≤ state.roster.last → Each (HasNames session was) state.roster.sessions
      → Each (HasNames session was) (set_by state edit).roster.sessions
  set_names state (Join one slot name account tokens) known all =
      each_insert (HasNames session was) state.roster.sessions (free_slot state.roster) (joining (next_number state.roster) (next_slot state.roster) name account tokens) all
      (λ here. let same : state.roster.last + 1 ≡ session.0 = eqb-true (state.roster.last + 1) session.0 here in absurd (omega arith))
  set_names state (Leave one) known all = each_filter (HasNames session was) (λ user. not (has_number one user)) state.roster.sessions all
  set_names state (Kick one actor reason ban) known all = each_filter (HasNames session was) (λ user. not (has_number one user)) state.roster.sessions all
  set_names state (MakeChannel id parent name temporary info None) known all = all
  set_names state (MakeChannel id parent name true info (Some maker)) known all =
      each_map (HasNames session was) (HasNames session was) (λ user. cond (has_number maker user) (record user { channel = id }) user)
      (λ user has. names_kept (has_number maker user) user (record user { channel = id }) refl refl refl has) state.roster.sessions all
  set_names state (MakeChannel id parent name false info (Some maker)) known all = all
  set_names state (RemoveChannel id actor) known all =
      each_map (HasNames session was) (HasNames session was) (moved_up state.tree id)
      (λ user has. names_kept (is_below state.tree.channels id user.channel) user (record user { channel = parent_of state.tree id }) refl refl refl has) state.roster.sessions all
  set_names state (SetUser one actor channel mute deaf clear_suppress priority self_mute self_deaf recording comment context listen unlisten) known all =
      let f : User → User = changed_user (user_parts channel mute deaf priority self_mute self_deaf recording comment context listen unlisten) in
      each_map (HasNames session was) (HasNames session was) (λ user. cond (has_number one user) (f user) user)
      (λ user has. names_kept (has_number one user) user (f user) refl refl refl has) state.roster.sessions all
  set_names state (SetTokens one tokens) known all =
      each_map (HasNames session was) (HasNames session was) (λ user. cond (has_number one user) (record user { tokens = tokens }) user)
      (λ user has. names_kept (has_number one user) user (record user { tokens = tokens }) refl refl refl has) state.roster.sessions all
  set_names state (SetTarget one id target) known all = rw (targeted_sessions state.roster one id target) all
  set_names state edit known all = all

pub names_stay : (state : StateValue) (edit : Edit) (session : SessionId) (was now : User) → IsProper state → session_of state.roster session ≡ Some was
    → session_of (applied state edit).roster session ≡ Some now → (now.name ≡ was.name) × (now.account ≡ was.account)
names_stay state edit session was now proper before after =
    let first : Each (HasNames session was) state.roster.sessions =
    each_so (λ user. has_number session user ≡ true → user ≡ was) (HasNames session was)
    (λ user is here. (ap (λ (one : User). one.name) (is here), ap (λ (one : User). one.account) (is here))) state.roster.sessions (session_alone state session was proper before) in
    let set = set_names session was state edit (session_known state session was proper before) first in
    let both = each_find (HasNames session was) (has_number session) (applied state edit).roster.sessions now
    (applied_descends (HasNames session was) (λ user on has. has) state edit set) after in
    both.0 both.1
