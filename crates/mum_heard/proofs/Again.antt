-- The frame of a command is heard as the command, and decided as it.
use Rattle.mum_heard.proofs.Common.{◌≡◌, ℕ, ◌==◌, ◌||◌, ◌^◌, ◌<◌, Bool, true, false, cond, List, [], ◌∷◌, drop, Option, Some, None, refl, sym, ap, subst, ◌∙◌, inl, inr, arith, unwrap_or, asked_verdict, decided, frame_verdict, heard_verdict, takes_nothing, reason_code, SessionId, Reason, spelled, kind_of, payload_of, spelling_of, ACL, CHANNEL_REMOVE, CHANNEL_STATE, TEXT_MESSAGE, USER_REMOVE, USER_STATE, VOICE_TARGET, kind-reads_back, payload_of-spelling, or_right, append-nil, acl, permission_query, text_message, voice_target, acl_of, permission_query_of, text_message_of, voice_target_of, authenticate, channel_remove, channel_state, user_remove, user_state, authenticate_of, channel_remove_of, channel_state_of, user_remove_of, user_state_of, own_frame, version_of, Case, case_of, first_standing, unless_ignored, is_gone, takes_no_edits, Acl, Remove, State, is_leave, Join, Kick, Leave, Query, Target, Text, action, command_heard, heard_map, login_heard, read, Machine, verdict, Ask, Asked, Tree, User, Command, Heard, Malformed, Message, TooLong, StateValue, Verdict, Ignored, CommandsAreHeardAgain, IsHeardAgain, LeavesAreHeardAgain, RequestsAreHeardAgain}
use Rattle.mum_heard.proofs.{Asking.asked_by, Parts.acl_parts, Parts.authenticate_parts, Parts.channel_remove_parts, Parts.channel_state_parts, Parts.permission_query_parts, Parts.text_message_parts, Parts.user_remove_parts, Parts.user_state_parts, Parts.voice_target_parts, Reading.message_heard}
use Rattle.mum_base.specs.declared.outcome.Reason.TheVariants as reasons
use Rattle.mum_frame.specs.declared.kind.TheConstants as kinds
use Rattle.mum_rules_tree.specs.Asked as channels
use Rattle.mum_rules_tree.specs.Reasons as tree
use Rattle.mum_rules_tree.specs.Verdict as tree_decision
use Rattle.mum_rules_user.specs.Asked as users
use Rattle.mum_rules_user.specs.Reasons as ignored
use Rattle.mum_rules_user.specs.Verdict as user_decision
use Rattle.mum_rules_user.specs.declared.message.UserMessage.TheVariants as about

-- ---- the own payload is heard as the message

-- the payload of a message, as this server encodes it, is heard as the message; of a login, with the version that it has
abbrev IsReadAgain : Asked → Type 0
IsReadAgain (Tree (State message)) = command_heard CHANNEL_STATE (spelled channel_state message) ≡ Message (Tree (State message))
IsReadAgain (Tree (Remove message)) = command_heard CHANNEL_REMOVE (spelled channel_remove message) ≡ Message (Tree (Remove message))
IsReadAgain (Tree (Acl message)) = command_heard ACL (spelled acl message) ≡ Message (Tree (Acl message))
IsReadAgain (User (Join message version)) = login_heard version (spelled authenticate message) ≡ Message (User (Join message version))
IsReadAgain (User (about.User message)) = command_heard USER_STATE (spelled user_state message) ≡ Message (User (about.User message))
IsReadAgain (User (Kick message)) = command_heard USER_REMOVE (spelled user_remove message) ≡ Message (User (Kick message))
IsReadAgain (User (Text message)) = command_heard TEXT_MESSAGE (spelled text_message message) ≡ Message (User (Text message))
IsReadAgain (User (Target message)) = command_heard VOICE_TARGET (spelled voice_target message) ≡ Message (User (Target message))
IsReadAgain (User (Query message)) = command_heard kinds.PERMISSION_QUERY (spelled permission_query message) ≡ Message (User (Query message))
IsReadAgain (User Leave) = ⊥

-- a message that was made of values
again : {X : Type 0} (f : X → Asked) (heard : Heard X) (what : Asked) → ((x : X) → heard ≡ Message x → IsReadAgain (f x)) → heard_map f heard ≡ Message what → IsReadAgain what
again f (Message x) what right is =
    let same : f x ≡ what = cc in
    subst IsReadAgain same (right x refl)
again f Malformed what right is = absurd (cc)
again f TooLong what right is = absurd (cc)

login_again : (version : Option ℕ) (payload : List ℕ) (what : Asked) → login_heard version payload ≡ Message what → IsReadAgain what
login_again version payload what heard =
    again (λ values. User (Join (authenticate_of values) version)) (read authenticate payload) what
    (message_heard authenticate authenticate_of authenticate_parts refl refl (λ values. User (Join (authenticate_of values) version)) payload) heard

module _ (payload : List ℕ) (what : Asked) where
  remove_again : heard_map (λ values. Tree (Remove (channel_remove_of values))) (read channel_remove payload) ≡ Message what → IsReadAgain what
  remove_again =
      again (λ values. Tree (Remove (channel_remove_of values))) (read channel_remove payload) what
      (message_heard channel_remove channel_remove_of channel_remove_parts refl refl (λ values. Tree (Remove (channel_remove_of values))) payload)

  state_again : heard_map (λ values. Tree (State (channel_state_of values))) (read channel_state payload) ≡ Message what → IsReadAgain what
  state_again =
      again (λ values. Tree (State (channel_state_of values))) (read channel_state payload) what
      (message_heard channel_state channel_state_of channel_state_parts refl refl (λ values. Tree (State (channel_state_of values))) payload)

  kick_again : heard_map (λ values. User (Kick (user_remove_of values))) (read user_remove payload) ≡ Message what → IsReadAgain what
  kick_again =
      again (λ values. User (Kick (user_remove_of values))) (read user_remove payload) what
      (message_heard user_remove user_remove_of user_remove_parts refl refl (λ values. User (Kick (user_remove_of values))) payload)

  user_again : heard_map (λ values. User (about.User (user_state_of values))) (read user_state payload) ≡ Message what → IsReadAgain what
  user_again =
      again (λ values. User (about.User (user_state_of values))) (read user_state payload) what
      (message_heard user_state user_state_of user_state_parts refl refl (λ values. User (about.User (user_state_of values))) payload)

  text_again : heard_map (λ values. User (Text (text_message_of values))) (read text_message payload) ≡ Message what → IsReadAgain what
  text_again =
      again (λ values. User (Text (text_message_of values))) (read text_message payload) what
      (message_heard text_message text_message_of text_message_parts refl refl (λ values. User (Text (text_message_of values))) payload)

  acl_again : heard_map (λ values. Tree (Acl (acl_of values))) (read acl payload) ≡ Message what → IsReadAgain what
  acl_again =
      again (λ values. Tree (Acl (acl_of values))) (read acl payload) what
      (message_heard acl acl_of acl_parts refl refl (λ values. Tree (Acl (acl_of values))) payload)

  target_again : heard_map (λ values. User (Target (voice_target_of values))) (read voice_target payload) ≡ Message what → IsReadAgain what
  target_again =
      again (λ values. User (Target (voice_target_of values))) (read voice_target payload) what
      (message_heard voice_target voice_target_of voice_target_parts refl refl (λ values. User (Target (voice_target_of values))) payload)

  query_again : heard_map (λ values. User (Query (permission_query_of values))) (read permission_query payload) ≡ Message what → IsReadAgain what
  query_again =
      again (λ values. User (Query (permission_query_of values))) (read permission_query payload) what
      (message_heard permission_query permission_query_of permission_query_parts refl refl (λ values. User (Query (permission_query_of values))) payload)

  -- what is heard by the type of the frame
  abbrev heard_by : Bool → Bool → Bool → Bool → Bool → Bool → Bool → Heard Asked
  heard_by a b c d e f g =
      cond a (heard_map (λ values. Tree (Remove (channel_remove_of values))) (read channel_remove payload))
      (cond b (heard_map (λ values. Tree (State (channel_state_of values))) (read channel_state payload))
      (cond c (heard_map (λ values. User (Kick (user_remove_of values))) (read user_remove payload))
      (cond d (heard_map (λ values. User (about.User (user_state_of values))) (read user_state payload))
      (cond e (heard_map (λ values. User (Text (text_message_of values))) (read text_message payload))
      (cond f (heard_map (λ values. Tree (Acl (acl_of values))) (read acl payload))
      (cond g (heard_map (λ values. User (Target (voice_target_of values))) (read voice_target payload))
      (heard_map (λ values. User (Query (permission_query_of values))) (read permission_query payload))))))))

  by_kind : (a b c d e f g : Bool) → heard_by a b c d e f g ≡ Message what → IsReadAgain what
  by_kind true b c d e f g heard = remove_again heard
  by_kind false true c d e f g heard = state_again heard
  by_kind false false true d e f g heard = kick_again heard
  by_kind false false false true e f g heard = user_again heard
  by_kind false false false false true f g heard = text_again heard
  by_kind false false false false false true g heard = acl_again heard
  by_kind false false false false false false true heard = target_again heard
  by_kind false false false false false false false heard = query_again heard

  command_again : (kind : ℕ) → command_heard kind payload ≡ Message what → IsReadAgain what
  command_again kind heard =
      by_kind (kind == CHANNEL_REMOVE) (kind == CHANNEL_STATE) (kind == USER_REMOVE) (kind == USER_STATE) (kind == TEXT_MESSAGE) (kind == ACL) (kind == VOICE_TARGET) heard

read_again : (machine : Machine) (kind : ℕ) (payload : List ℕ) (command : Command) → action machine kind payload ≡ Ask command → IsReadAgain command.what
read_again machine kind payload command asks =
    elim (asked_by machine kind payload command asks) [
      | inl login ↦ login_again machine.version payload command.what login
      | inr heard ↦ command_again payload command.what kind heard
    ]

-- ---- an actor of whom nothing is taken

-- the first reason holds
gone_first : (b : Bool) (others : List (Case Reason)) (verdict : Verdict) → b ≡ true → unless_ignored (case_of reasons.Gone b ∷ others) verdict ≡ Ignored (reason_code reasons.Gone)
gone_first b others verdict is = ap (λ (b : Bool). unless_ignored (case_of reasons.Gone b ∷ others) verdict) is

-- why a command on channels of nobody is ignored, where this says whether sessions made all edits that they can
abbrev ignored_of_nobody : Bool → Verdict
ignored_of_nobody b = Ignored (reason_code (unwrap_or (first_standing (case_of reasons.Gone b ∷ [])) reasons.NotLoggedIn))

takes_none : (state : StateValue) (actor : Option SessionId) (what : Asked) → takes_nothing state actor ≡ true → verdict state actor what ≡ Ignored (reason_code reasons.Gone)
unfolding verdict
takes_none state None (Tree message) gone = ap ignored_of_nobody gone
takes_none state None (User message) gone =
    gone_first (is_leave message || takes_no_edits state) (drop 1 (ignored.reasons state None message)) (user_decision.heard_verdict state None message) (or_right (is_leave message) (takes_no_edits state) gone)
takes_none state (Some session) (Tree message) gone = gone_first (is_gone state session || takes_no_edits state) (drop 1 (tree.reasons state session message)) (tree_decision.command_verdict state (tree_decision.actor_named state session) session (channels.command_of message)) gone
takes_none state (Some session) (User message) gone = gone_first (is_gone state session || takes_no_edits state) (drop 1 (ignored.reasons state (Some session) message)) (user_decision.heard_verdict state (Some session) message) gone

-- ---- an actor that is heard

kind_read : (kind : ℕ) (payload : List ℕ) → kind < 2 ^ 16 → kind_of (spelling_of kind payload) ≡ kind
unfolding kind_of
kind_read kind payload fits = ap kind_of (sym (append-nil (spelling_of kind payload))) ∙ kind-reads_back kind payload [] fits

module _ (state : StateValue) where
  frame_read : (actor : Option SessionId) (version : Option ℕ) (kind : ℕ) (payload : List ℕ) → kind < 2 ^ 16
      → asked_verdict state actor version (Some (spelling_of kind payload)) ≡ frame_verdict state actor version kind payload
  frame_read actor version kind payload fits =
      ap (λ (k : ℕ). frame_verdict state actor version k (payload_of (spelling_of kind payload))) (kind_read kind payload fits)
      ∙ ap (λ (p : List ℕ). frame_verdict state actor version kind p) (payload_of-spelling (record { kind = kind; payload = payload }))

  -- whoever has no session asks for nothing but a login
  second_holds : (b : Bool) (others : List (Case Reason)) (verdict : Verdict) → b ≡ false
      → Ignored (reason_code reasons.NotLoggedIn) ≡ unless_ignored (case_of reasons.Gone b ∷ case_of reasons.NotLoggedIn true ∷ others) verdict
  second_holds b others verdict is = sym (ap (λ (b : Bool). unless_ignored (case_of reasons.Gone b ∷ case_of reasons.NotLoggedIn true ∷ others) verdict) is)

  frame_again : (actor : Option SessionId) (what : Asked) → IsReadAgain what → takes_nothing state actor ≡ false
      → asked_verdict state actor (version_of what) (own_frame what) ≡ verdict state actor what
  unfolding channels.payload_of users.payload_of verdict
  frame_again None (Tree (State message)) read takes =
      frame_read None None CHANNEL_STATE (spelled channel_state message) (omega arith) ∙ sym (ap ignored_of_nobody takes)
  frame_again None (Tree (Remove message)) read takes =
      frame_read None None CHANNEL_REMOVE (spelled channel_remove message) (omega arith) ∙ sym (ap ignored_of_nobody takes)
  frame_again None (Tree (Acl message)) read takes =
      frame_read None None ACL (spelled acl message) (omega arith) ∙ sym (ap ignored_of_nobody takes)
  frame_again (Some session) (Tree (State message)) read takes =
      frame_read (Some session) None CHANNEL_STATE (spelled channel_state message) (omega arith) ∙ ap (heard_verdict state (Some session)) read
  frame_again (Some session) (Tree (Remove message)) read takes =
      frame_read (Some session) None CHANNEL_REMOVE (spelled channel_remove message) (omega arith) ∙ ap (heard_verdict state (Some session)) read
  frame_again (Some session) (Tree (Acl message)) read takes =
      frame_read (Some session) None ACL (spelled acl message) (omega arith) ∙ ap (heard_verdict state (Some session)) read
  frame_again actor (User (Join message version)) read takes =
      frame_read actor version kinds.AUTHENTICATE (spelled authenticate message) (omega arith) ∙ ap (heard_verdict state actor) read
  frame_again None (User (about.User message)) read takes =
      frame_read None None USER_STATE (spelled user_state message) (omega arith) ∙ second_holds (takes_no_edits state) (drop 2 (ignored.reasons state None (about.User message))) (user_decision.heard_verdict state None (about.User message)) takes
  frame_again None (User (Kick message)) read takes =
      frame_read None None USER_REMOVE (spelled user_remove message) (omega arith) ∙ second_holds (takes_no_edits state) (drop 2 (ignored.reasons state None (Kick message))) (user_decision.heard_verdict state None (Kick message)) takes
  frame_again None (User (Text message)) read takes =
      frame_read None None TEXT_MESSAGE (spelled text_message message) (omega arith) ∙ second_holds (takes_no_edits state) (drop 2 (ignored.reasons state None (Text message))) (user_decision.heard_verdict state None (Text message)) takes
  frame_again None (User (Target message)) read takes =
      frame_read None None VOICE_TARGET (spelled voice_target message) (omega arith) ∙ second_holds (takes_no_edits state) (drop 2 (ignored.reasons state None (Target message))) (user_decision.heard_verdict state None (Target message)) takes
  frame_again None (User (Query message)) read takes =
      frame_read None None kinds.PERMISSION_QUERY (spelled permission_query message) (omega arith) ∙ second_holds (takes_no_edits state) (drop 2 (ignored.reasons state None (Query message))) (user_decision.heard_verdict state None (Query message)) takes
  frame_again (Some session) (User (about.User message)) read takes =
      frame_read (Some session) None USER_STATE (spelled user_state message) (omega arith) ∙ ap (heard_verdict state (Some session)) read
  frame_again (Some session) (User (Kick message)) read takes =
      frame_read (Some session) None USER_REMOVE (spelled user_remove message) (omega arith) ∙ ap (heard_verdict state (Some session)) read
  frame_again (Some session) (User (Text message)) read takes =
      frame_read (Some session) None TEXT_MESSAGE (spelled text_message message) (omega arith) ∙ ap (heard_verdict state (Some session)) read
  frame_again (Some session) (User (Target message)) read takes =
      frame_read (Some session) None VOICE_TARGET (spelled voice_target message) (omega arith) ∙ ap (heard_verdict state (Some session)) read
  frame_again (Some session) (User (Query message)) read takes =
      frame_read (Some session) None kinds.PERMISSION_QUERY (spelled permission_query message) (omega arith) ∙ ap (heard_verdict state (Some session)) read
  frame_again actor (User Leave) read takes = absurd read

  decided_alike : (actor : Option SessionId) (what : Asked)
      → (takes_nothing state actor ≡ false → asked_verdict state actor (version_of what) (own_frame what) ≡ verdict state actor what)
      → decided state actor (version_of what) (own_frame what) ≡ verdict state actor what
  unfolding decided
  decided_alike actor what alike = by_test (takes_nothing state actor) refl
    where
      by_test : (b : Bool) → takes_nothing state actor ≡ b → cond b (Ignored (reason_code reasons.Gone)) (asked_verdict state actor (version_of what) (own_frame what)) ≡ verdict state actor what
      by_test true is = sym (takes_none state actor what is)
      by_test false is = alike is

pub commands_again : CommandsAreHeardAgain
commands_again machine kind payload command asks state actor =
    decided_alike state actor command.what (λ takes. frame_again state actor command.what (read_again machine kind payload command asks) takes)

pub leaves_again : LeavesAreHeardAgain
leaves_again state actor = decided_alike state actor (User Leave) (λ takes. refl)

pub requests_again : RequestsAreHeardAgain
requests_again what (inl asked) = subst IsHeardAgain asked.what_is (commands_again asked.machine asked.kind asked.payload asked.command asked.asks)
requests_again what (inr leave) = subst IsHeardAgain (sym leave) leaves_again
