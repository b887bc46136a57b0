-- Who enters a channel by a command of its own may enter it.
use Rattle.mum_session.proofs.Common.{◌≡◌, ◌⊎◌, inl, inr, ℕ, ◌==◌, ◌&&◌, ◌||◌, Bool, true, false, not, cond, List, [], ◌∷◌, map, refl, sym, ap, subst, ◌∙◌, Option, Some, None, unwrap_or, IsTrue, filter, list_any, option_map_or, and_from, and_parts, both_ways, eq-eqb, eqb-true, false≢true, reason_code, ChannelId, SessionId, NotThere, ChannelState, UserState, Actor, ChannelPolicy, ChannelInfo, parent_of, is_below, UserRow, UserEdit, changed_user, RosterState, has_number, is_in, Edit, MakeChannel, RemoveChannel, SetAcl, SetTarget, SetTokens, Accepted, Answer, Ignored, applied, user_parts, granted_where_there, moved_up, set_by, StateValue, policy_of, any_map, targeted_sessions, heard, heard_after, silent_after, TreeCommand, channel_or_root, tree_command_of, is_to_be_temporary, parent_of_new, text_or_empty, first_lack, first_standing, needs_of_tree, limits_of_tree, new_number, answer_of_tree, edit_to_change_channel, edit_to_make, info_of_new, outcome_of_tree, policy_asked, reasons_of_tree, actor_named, outcome_at, UserMessage, channels, command_of, is_oneself, new_channel, number_of_target, session_or, target_asked, needs_of, limits, tokens_kept, answer_frame, edit_to_change, edit_to_kick, edit_to_tell, outcome, reasons, actor_for, user_verdict, enters_where_permitted_lem, Tree, User, EntersWherePermitted, MakesItsOwn, RemovesAround, is_member, is_member_below, may_enter, verdict}
use Rattle.mum_state.specs.declared.edit.Edit.TheVariants.{Leave}
use Rattle.mum_rules_user.specs.declared.message.UserMessage.TheVariants as users

-- ---- who is in a channel of a list

abbrev member : SessionId → ChannelId → UserRow → Bool
member session channel user = has_number session user && is_in channel user

-- suppression and what follows from an edit move nobody
set_members : (state : StateValue) (edit : Edit) (session : SessionId) (channel : ChannelId) → is_member (applied state edit) session channel ≡ is_member (set_by state edit) session channel
set_members state edit session channel =
    ap (λ (after : StateValue). list_any (member session channel) after.roster.sessions) (heard_after state edit (set_by state edit))
    ∙ any_map (member session channel) (member session channel) (heard (silent_after state edit (set_by state edit))) (λ user. refl) (set_by state edit).roster.sessions

-- of a list that is changed one by one, where none passed and one passes, something holds that follows from it
some_moved : (test so : UserRow → Bool) (change : UserRow → UserRow) → ((user : UserRow) → test (change user) ≡ true → test user ≡ false → so user ≡ true)
    → (users : List UserRow) → list_any test users ≡ false → list_any test (map change users) ≡ true → list_any so users ≡ true
some_moved test so change follows [] none some = absurd (false≢true some)
some_moved test so change follows (user ∷ users) none some = step (test user) (test (change user)) (so user) refl refl refl none some (some_moved test so change follows users)
  where
    step : (was is holds : Bool) → test user ≡ was → test (change user) ≡ is → so user ≡ holds
        → (was || list_any test users) ≡ false → (is || list_any test (map change users)) ≡ true
        → (list_any test users ≡ false → list_any test (map change users) ≡ true → list_any so users ≡ true) → (holds || list_any so users) ≡ true
    step true is holds was-is is-is holds-is none-2 some-2 rest = absurd (false≢true (sym none-2))
    step false is true was-is is-is holds-is none-2 some-2 rest = refl
    step false true false was-is is-is holds-is none-2 some-2 rest = absurd (both_ways (so user) holds-is (follows user is-is was-is))
    step false false false was-is is-is holds-is none-2 some-2 rest = rest none-2 some-2

-- what holds of some, and does not depend on which, holds
of_any : (b : Bool) (users : List UserRow) → list_any (λ user. b) users ≡ true → b ≡ true
of_any true users some = refl
of_any false [] some = absurd (false≢true some)
of_any false (user ∷ users) some = of_any false users some

-- who is among those that are kept was among them
of_kept : (test keep : UserRow → Bool) (users : List UserRow) → list_any test (filter keep users) ≡ true → list_any test users ≡ true
of_kept test keep [] some = some
of_kept test keep (user ∷ users) some = step (keep user) (test user) refl some (of_kept test keep users)
  where
    step : (k t : Bool) → test user ≡ t → list_any test (cond k (user ∷ filter keep users) (filter keep users)) ≡ true
        → (list_any test (filter keep users) ≡ true → list_any test users ≡ true) → (t || list_any test users) ≡ true
    step k true is some-2 rest = refl
    step true false is some-2 rest = rest (sym (ap (λ (b : Bool). b || list_any test (filter keep users)) is) ∙ some-2)
    step false false is some-2 rest = rest some-2

same_channel : (one other : ChannelId) → (one.0 == other.0) ≡ true → one ≡ other
same_channel one other is = ap (λ (n : ℕ). let channel : ChannelId = record { 0 = n } in channel) (eqb-true one.0 other.0 is)

same_edit : (one other : Edit) → Accepted one ≡ Accepted other → one ≡ other
same_edit one other is = cc

-- ---- what a session may do

module _ (state : StateValue) (session : SessionId) (channel : ChannelId) (who : Actor) where
  abbrev Enters : Edit → Type 0
  Enters edit = IsTrue (may_enter state who channel) ⊎ MakesItsOwn edit session channel ⊎ RemovesAround state edit session channel

  -- an edit that leaves the members as they are lets nobody enter
  stays : (edit : Edit) → is_member (set_by state edit) session channel ≡ is_member state session channel
      → is_member state session channel ≡ false → is_member (set_by state edit) session channel ≡ true → Enters edit
  stays edit same before after = absurd (both_ways (is_member (set_by state edit) session channel) (same ∙ before) after)

  goes : (edit : Edit) (keep : UserRow → Bool) → (set_by state edit).roster.sessions ≡ filter keep state.roster.sessions
      → is_member state session channel ≡ false → is_member (set_by state edit) session channel ≡ true → Enters edit
  goes edit keep is before after =
      absurd (both_ways (is_member state session channel) before
      (of_kept (member session channel) keep state.roster.sessions (sym (ap (list_any (member session channel)) is) ∙ after)))

-- ---- commands on channels

-- who is in a channel that was not there, or not in it before, was put there
placed_in : (session : SessionId) (channel id : ChannelId) (user : UserRow) (b : Bool)
    → member session channel (cond b (record user { channel = id }) user) ≡ true → member session channel user ≡ false → (id.0 == channel.0) ≡ true
placed_in session channel id user true is not = (and_parts (has_number session user) (id.0 == channel.0) is).1
placed_in session channel id user false is not = absurd (both_ways (member session channel user) not is)

-- of a channel that its session makes
module _ (state : StateValue) (session : SessionId) (channel : ChannelId) (who : Actor) where
  making : (id parent : ChannelId) (name : List ℕ) (temporary : Bool) (info : ChannelInfo)
      → is_member state session channel ≡ false → is_member (set_by state (MakeChannel id parent name temporary info (Some session))) session channel ≡ true
      → Enters state session channel who (MakeChannel id parent name temporary info (Some session))
  making id parent name false info before after = absurd (both_ways (is_member state session channel) before after)
  making id parent name true info before after =
      let put : (id.0 == channel.0) ≡ true =
      of_any (id.0 == channel.0) state.roster.sessions
      (some_moved (member session channel) (λ user. id.0 == channel.0) (λ user. cond (has_number session user) (record user { channel = id }) user)
      (λ user. placed_in session channel id user (has_number session user)) state.roster.sessions before after) in
      inr (inl (parent, name, info, ap (λ (new : ChannelId). MakeChannel new parent name true info (Some session)) (same_channel id channel put)))

  -- and of one that it removes
  raised : (removed : ChannelId) (user : UserRow) (b : Bool) → is_below state.tree.channels removed user.channel ≡ b
      → member session channel (cond b (record user { channel = parent_of state.tree removed }) user) ≡ true → member session channel user ≡ false
      → ((has_number session user && is_below state.tree.channels removed user.channel) ≡ true) × (((parent_of state.tree removed).0 == channel.0) ≡ true)
  raised removed user true below is not =
      let parts = and_parts (has_number session user) ((parent_of state.tree removed).0 == channel.0) is in
      (and_from (has_number session user) (is_below state.tree.channels removed user.channel) parts.0 below, parts.1)
  raised removed user false below is not = absurd (both_ways (member session channel user) not is)

  removing : (removed : ChannelId) → is_member state session channel ≡ false → is_member (set_by state (RemoveChannel removed session)) session channel ≡ true
      → Enters state session channel who (RemoveChannel removed session)
  removing removed before after =
      let up : UserRow → UserRow = moved_up state.tree removed in
      let follows = λ (user : UserRow) (is : member session channel (up user) ≡ true) (not : member session channel user ≡ false).
      raised removed user (is_below state.tree.channels removed user.channel) refl is not in
      let around : is_member_below state session removed ≡ true =
      some_moved (member session channel) (λ user. has_number session user && is_below state.tree.channels removed user.channel) up
      (λ user is not. (follows user is not).0) state.roster.sessions before after in
      let into : ((parent_of state.tree removed).0 == channel.0) ≡ true =
      of_any ((parent_of state.tree removed).0 == channel.0) state.roster.sessions
      (some_moved (member session channel) (λ user. (parent_of state.tree removed).0 == channel.0) up
      (λ user is not. (follows user is not).1) state.roster.sessions before after) in
      inr (inr (removed, refl, sym (same_channel (parent_of state.tree removed) channel into), around))

  no_policy : (id : ChannelId) (policy : Option ChannelPolicy) (edit : Edit) → option_map_or (λ p. Answer (answer_of_tree id p)) policy (Ignored (reason_code NotThere)) ≡ Accepted edit → ⊥
  no_policy id None edit is = cc
  no_policy id (Some policy) edit is = cc

  tree_enters : (command : TreeCommand) (edit : Edit) → outcome_of_tree state session command ≡ Accepted edit
      → is_member state session channel ≡ false → is_member (set_by state edit) session channel ≡ true → Enters state session channel who edit
  tree_enters (TreeCommand.make message) edit is before after =
      let same : edit_to_make state.tree session message ≡ edit = same_edit (edit_to_make state.tree session message) edit is in
      subst (Enters state session channel who) same
      (making (new_number state.tree) (parent_of_new message) (text_or_empty message.name) (is_to_be_temporary message) (info_of_new message) before
      (subst (λ (e : Edit). is_member (set_by state e) session channel ≡ true) (sym same) after))
  tree_enters (TreeCommand.edit id message) edit is before after =
      let same : edit_to_change_channel state.tree session id message ≡ edit = same_edit (edit_to_change_channel state.tree session id message) edit is in
      stays state session channel who edit (ap (λ (e : Edit). is_member (set_by state e) session channel) (sym same)) before after
  tree_enters (TreeCommand.remove id) edit is before after =
      let same : RemoveChannel id session ≡ edit = same_edit (RemoveChannel id session) edit is in
      subst (Enters state session channel who) same
      (removing id before (subst (λ (e : Edit). is_member (set_by state e) session channel ≡ true) (sym same) after))
  tree_enters (TreeCommand.query id) edit is before after = absurd (no_policy id (policy_of state id) edit is)
  tree_enters (TreeCommand.set id message) edit is before after =
      let same : SetAcl id (Some session) (policy_asked message) ≡ edit = same_edit (SetAcl id (Some session) (policy_asked message)) edit is in
      stays state session channel who edit (ap (λ (e : Edit). is_member (set_by state e) session channel) (sym same)) before after

-- ---- commands on users

-- what a UserState changes of a session
abbrev told_of : RosterState → SessionId → UserState → UserEdit
told_of roster session message =
    user_parts (new_channel roster session message) message.mute message.deaf message.priority_speaker message.self_mute message.self_deaf message.recording
    message.comment message.plugin_context (channels message.listening_channel_add) (channels message.listening_channel_remove)

module _ (state : StateValue) (session : SessionId) (channel : ChannelId) where
  -- a session that a UserState changes, and that then is in the channel, is the actor, and the channel is the new one
  moved_in : (other : SessionId) (change : UserEdit) (user : UserRow) (b : Bool) → has_number other user ≡ b
      → member session channel (cond b (changed_user change user) user) ≡ true → member session channel user ≡ false
      → (is_oneself session other && option_map_or (λ there. there.0 == channel.0) change.channel false) ≡ true
  moved_in other change user false is now not = absurd (both_ways (member session channel user) not now)
  moved_in other change user true is now not = into change.channel refl
    where
      own : has_number session user ≡ true → is_oneself session other ≡ true
      own same =
          let one : user.session.0 ≡ session.0 = eqb-true user.session.0 session.0 same in
          let two : user.session.0 ≡ other.0 = eqb-true user.session.0 other.0 is in
          eq-eqb session.0 other.0 (sym one ∙ two)

      into : (there : Option ChannelId) → change.channel ≡ there → (is_oneself session other && option_map_or (λ at. at.0 == channel.0) there false) ≡ true
      into None to =
          absurd (both_ways (member session channel user) not
          (ap (λ (o : Option ChannelId). has_number session user && ((unwrap_or o user.channel).0 == channel.0)) (sym to) ∙ now))
      into (Some there) to =
          let parts = and_parts (has_number session user) (there.0 == channel.0)
          (ap (λ (o : Option ChannelId). has_number session user && ((unwrap_or o user.channel).0 == channel.0)) (sym to) ∙ now) in
          and_from (is_oneself session other) (there.0 == channel.0) (own parts.0) parts.1

  -- the channel that was given
  into_given : (own : Bool) (there : Option ChannelId) → (own && option_map_or (λ at. at.0 == channel.0) there false) ≡ true
      → (own ≡ true) × (there ≡ Some channel)
  into_given own None is = absurd (false≢true (sym (and_false own) ∙ is))
    where
      and_false : (b : Bool) → (b && false) ≡ false
      and_false true = refl
      and_false false = refl
  into_given own (Some there) is =
      let parts = and_parts own (there.0 == channel.0) is in
      (parts.0, ap (λ (at : ChannelId). Some at) (same_channel there channel parts.1))

  changing : (message : UserState) (edit : Edit) → user_verdict state (Some session) (users.User message) ≡ Accepted edit
      → edit_to_change state.roster session (session_or session message.session) message ≡ edit
      → is_member state session channel ≡ false → is_member (set_by state edit) session channel ≡ true
      → Enters state session channel (actor_for state session (users.User message)) edit
  changing message edit is same before after =
      let other : SessionId = session_or session message.session in
      let told : UserEdit = told_of state.roster other message in
      let now : is_member (set_by state (edit_to_change state.roster session other message)) session channel ≡ true =
      subst (λ (e : Edit). is_member (set_by state e) session channel ≡ true) (sym same) after in
      let moved : (is_oneself session other && option_map_or (λ there. there.0 == channel.0) (new_channel state.roster other message) false) ≡ true =
      of_any (is_oneself session other && option_map_or (λ there. there.0 == channel.0) (new_channel state.roster other message) false) state.roster.sessions
      (some_moved (member session channel)
      (λ user. is_oneself session other && option_map_or (λ there. there.0 == channel.0) (new_channel state.roster other message) false)
      (λ user. cond (has_number other user) (changed_user told user) user)
      (λ user. moved_in other told user (has_number other user) refl) state.roster.sessions before now) in
      let (own, to) = into_given (is_oneself session other) (new_channel state.roster other message) moved in
      inl (enters_where_permitted_lem state session message edit channel is own to)

  no_answer : (id : ChannelId) (held : Option ℕ) (edit : Edit) → option_map_or (λ h. Answer (answer_frame id h)) held (Ignored (reason_code NotThere)) ≡ Accepted edit → ⊥
  no_answer id None edit is = cc
  no_answer id (Some held) edit is = cc

  tokens_only : (tokens : List (List ℕ)) (user : UserRow) (b : Bool) → member session channel (cond b (record user { tokens = tokens }) user) ≡ member session channel user
  tokens_only tokens user true = refl
  tokens_only tokens user false = refl

  user_enters : (message : UserMessage) (edit : Edit) → user_verdict state (Some session) message ≡ Accepted edit
      → outcome state (actor_for state session message) session (command_of session message) ≡ Accepted edit
      → is_member state session channel ≡ false → is_member (set_by state edit) session channel ≡ true
      → Enters state session channel (actor_for state session message) edit
  user_enters (users.Join message version) edit verdict_is is before after =
      let new : Edit = SetTokens session (tokens_kept message.tokens) in
      stays state session channel _ edit
      (ap (λ (e : Edit). is_member (set_by state e) session channel) (sym (same_edit new edit is))
      ∙ any_map (member session channel) (member session channel) (λ user. cond (has_number session user) (record user { tokens = tokens_kept message.tokens }) user)
      (λ user. tokens_only (tokens_kept message.tokens) user (has_number session user)) state.roster.sessions) before after
  user_enters (users.User message) edit verdict_is is before after =
      changing message edit verdict_is (same_edit (edit_to_change state.roster session (session_or session message.session) message) edit is) before after
  user_enters (users.Kick message) edit verdict_is is before after =
      let other : SessionId = session_or session message.session in
      goes state session channel _ edit (λ user. not (has_number other user))
      (ap (λ (e : Edit). (set_by state e).roster.sessions) (sym (same_edit (edit_to_kick session other message) edit is))) before after
  user_enters (users.Text message) edit verdict_is is before after =
      stays state session channel _ edit (ap (λ (e : Edit). is_member (set_by state e) session channel) (sym (same_edit (edit_to_tell session message) edit is))) before after
  user_enters (users.Target message) edit verdict_is is before after =
      let new : Edit = SetTarget session (number_of_target message) (target_asked message) in
      stays state session channel _ edit
      (ap (λ (e : Edit). is_member (set_by state e) session channel) (sym (same_edit new edit is))
      ∙ ap (list_any (member session channel)) (targeted_sessions state.roster session (number_of_target message) (target_asked message))) before after
  user_enters (users.Query message) edit verdict_is is before after =
      let id : ChannelId = channel_or_root message.channel_id in
      absurd (no_answer id (granted_where_there state (actor_for state session (users.Query message)) id) edit is)
  user_enters users.Leave edit verdict_is is before after =
      goes state session channel _ edit (λ user. not (has_number session user))
      (ap (λ (e : Edit). (set_by state e).roster.sessions) (sym (same_edit (Leave session) edit is))) before after

pub enters_where_permitted_law : EntersWherePermitted
unfolding verdict
enters_where_permitted_law state session (Tree message) edit channel is before after =
    let command = tree_command_of message in
    let rest = (outcome_at (first_standing (reasons_of_tree state session message)) (first_lack state (needs_of_tree state session message)) (first_standing (limits_of_tree state command))
    (outcome_of_tree state session command) edit is).1 in
    tree_enters state session channel (actor_named state session) command edit rest before (sym (set_members state edit session channel) ∙ after)
enters_where_permitted_law state session (User message) edit channel is before after =
    let command = command_of session message in
    let rest = (outcome_at (first_standing (reasons state (Some session) message)) (first_lack state (needs_of state session message)) (first_standing (limits state session command))
    (outcome state (actor_for state session message) session command) edit is).1 in
    user_enters state session channel message edit is rest before (sym (set_members state edit session channel) ∙ after)
