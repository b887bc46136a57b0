-- Suppression, set again or cleared, changes whether sessions may speak, and nothing else.
use Rattle.mum_state.proofs.Common.{◌≡◌, ◌&&◌, not, Bool, true, false, cond, List, [], ◌∷◌, map, refl, ap, ◌∙◌, Option, Some, None, if◌then◌else◌, option_map_or, ChannelId, SessionId, is_there, User, suppressed, has_number, is_in, IsProper-mapped, Edit, has_member, SessionEdit, session_edit, may_speak, IsProper, is_sound_user, StateValue, cleared_by, heard_anew, is_cleared, is_set_anew, with_clearing, with_suppression}
use Rattle.mum_state.proofs.Listed.{all_map, any_stays, map_same, map_twice}

-- a session that may speak or not
abbrev pub heard : (User → Bool) → User → User
heard silent user = record user { suppress = silent user }

-- the sessions may speak or not, as given
abbrev pub with_heard : (User → Bool) → StateValue → StateValue
with_heard silent state = record state { roster = record state.roster { sessions = map (heard silent) state.roster.sessions } }

heard_either : (is silent : Bool) (user : User) → cond is (record user { suppress = silent }) user ≡ record user { suppress = cond is silent user.suppress }
heard_either true silent user = refl
heard_either false silent user = refl

-- who may not speak once suppression is set again
abbrev pub silent_anew : StateValue → Edit → StateValue → User → Bool
silent_anew before edit state user = cond (is_set_anew before.roster.sessions edit user) (not (may_speak state user)) user.suppress

-- who may not speak once it is cleared
abbrev pub silent_cleared : Edit → User → Bool
silent_cleared edit user = cond (is_cleared edit user) false user.suppress

pub suppression_is : (before : StateValue) (edit : Edit) (state : StateValue) → with_suppression before edit state ≡ with_heard (silent_anew before edit state) state
suppression_is before edit state =
    ap (λ (users : List User). record state { roster = record state.roster { sessions = users } })
    (map_same (λ user. cond (is_set_anew before.roster.sessions edit user) (heard_anew state user) user) (heard (silent_anew before edit state)) (λ user. heard_either (is_set_anew before.roster.sessions edit user) (not (may_speak state user)) user) state.roster.sessions)

heard_itself : (users : List User) → users ≡ map (heard (λ user. user.suppress)) users
heard_itself [] = refl
heard_itself (user ∷ users) = ap (λ (us : List User). user ∷ us) (heard_itself users)

unchanged : (state : StateValue) → state ≡ with_heard (λ user. user.suppress) state
unchanged state = ap (λ (users : List User). record state { roster = record state.roster { sessions = users } }) (heard_itself state.roster.sessions)

pub clearing_is : (edit : Edit) (state : StateValue) → with_clearing edit state ≡ with_heard (silent_cleared edit) state
clearing_is edit state = step (session_edit edit)
  where
    either : (clears : Bool) (session : SessionId)
        → (if clears then record state { roster = suppressed state.roster session false } else state)
        ≡ with_heard (λ user. cond (clears && has_number session user) false user.suppress) state
    either true session =
        ap (λ (users : List User). record state { roster = record state.roster { sessions = users } })
        (map_same (λ user. cond (has_number session user) (record user { suppress = false }) user) (heard (λ user. cond (has_number session user) false user.suppress))
        (λ user. heard_either (has_number session user) false user) state.roster.sessions)
    either false session = unchanged state

    step : (given : Option SessionEdit)
        → cleared_by given state ≡ with_heard (λ user. cond (option_map_or (λ one. one.clear_suppress && has_number one.session user) given false) false user.suppress) state
    step None = unchanged state
    step (Some user) = either user.clear_suppress user.session

-- one after the other
pub heard_twice : (then_silent silent : User → Bool) (state : StateValue) → with_heard then_silent (with_heard silent state) ≡ with_heard (λ user. then_silent (heard silent user)) state
heard_twice then_silent silent state =
    ap (λ (users : List User). record state { roster = record state.roster { sessions = users } }) (map_twice (heard then_silent) (heard silent) state.roster.sessions)

-- what suppression and clearing leave, in one step
abbrev pub silent_after : StateValue → Edit → StateValue → User → Bool
silent_after before edit state user = silent_cleared edit (heard (silent_anew before edit state) user)

pub heard_after : (before : StateValue) (edit : Edit) (state : StateValue) → with_clearing edit (with_suppression before edit state) ≡ with_heard (silent_after before edit state) state
heard_after before edit state =
    ap (with_clearing edit) (suppression_is before edit state)
    ∙ clearing_is edit (with_heard (silent_anew before edit state) state)
    ∙ heard_twice (silent_cleared edit) (silent_anew before edit state) state

-- a proper state stays proper
pub heard_proper : (silent : User → Bool) (state : StateValue) → IsProper state → IsProper (with_heard silent state)
heard_proper silent state proper = record {
  welcome = proper.welcome;
  names = proper.names;
  accounts = proper.accounts;
  few_accounts = proper.few_accounts;
  short_names = proper.short_names;
  tree = proper.tree;
  channels = proper.channels;
  policies = proper.policies;
  sound_policies = proper.sound_policies;
  roster = IsProper-mapped state.roster (heard silent) (record { session = λ user. refl; slot = λ user. refl; name = λ user. refl; silence = λ user mute. mute }) proper.roster;
  users = all_map is_sound_user is_sound_user (heard silent) (λ user sound. sound) state.roster.sessions proper.users;
  inside = all_map (λ user. is_there state.tree.channels user.channel) (λ user. is_there state.tree.channels user.channel) (heard silent) (λ user there. there) state.roster.sessions proper.inside;
  listening = proper.listening;
  counts = proper.counts;
}

-- the same channels have members
pub heard_members : (silent : User → Bool) (users : List User) (channel : ChannelId) → has_member (map (heard silent) users) channel ≡ has_member users channel
heard_members silent users channel = any_stays (is_in channel) (heard silent) (λ user. refl) users
