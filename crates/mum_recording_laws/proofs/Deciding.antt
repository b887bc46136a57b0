-- What an audit decides of an entry is what is decided of its command.
use Rattle.mum_recording_laws.proofs.Common.{◌≡◌, ℕ, ◌==◌, ◌||◌, Bool, true, false, cond, List, [], ◌∷◌, drop, Option, Some, None, refl, sym, ap, subst, ⊤, unwrap_or, list_any, false≢true, asked_verdict, command_verdict, frame_verdict, heard_verdict, takes_nothing, reason_code, SessionId, Reason, kind_of, payload_of, ACL, AUTHENTICATE, CHANNEL_REMOVE, CHANNEL_STATE, TEXT_MESSAGE, USER_REMOVE, USER_STATE, VOICE_TARGET, acl, permission_query, text_message, voice_target, acl_of, permission_query_of, text_message_of, voice_target_of, channel_remove, channel_state, user_remove, user_state, channel_remove_of, channel_state_of, user_remove_of, user_state_of, Case, case_of, first_standing, unless_ignored, is_gone, takes_no_edits, Acl, Remove, State, is_leave, user_reasons, Join, Kick, Leave, Query, Target, Text, commands_after_login, command_heard, heard_map, login_heard, read, verdict, Asked, Tree, User, Heard, Malformed, Message, TooLong, StateValue, Verdict, Ignored, command_of, frame_heard}
use Rattle.mum_audit.specs.Decision.{decided}
use Rattle.mum_base.specs.declared.outcome.Reason.TheVariants as reasons
use Rattle.mum_rules_tree.specs.Asked as channels
use Rattle.mum_rules_tree.specs.Reasons as tree
use Rattle.mum_rules_tree.specs.Verdict as tree_decision
use Rattle.mum_rules_user.specs.Verdict as user_decision
use Rattle.mum_rules_user.specs.declared.message.UserMessage.TheVariants as about

-- ---- an actor of whom nothing is taken

gone_first : (b : Bool) (others : List (Case Reason)) (rest : Verdict) → b ≡ true → unless_ignored (case_of reasons.Gone b ∷ others) rest ≡ Ignored (reason_code reasons.Gone)
gone_first b others rest is = ap (λ (b : Bool). unless_ignored (case_of reasons.Gone b ∷ others) rest) is

either_one : (a b : Bool) → b ≡ true → (a || b) ≡ true
either_one true b is = refl
either_one false b is = is

takes_none : (state : StateValue) (actor : Option SessionId) (what : Asked) → takes_nothing state actor ≡ true → verdict state actor what ≡ Ignored (reason_code reasons.Gone)
unfolding verdict
takes_none state None (Tree message) gone = nobody (takes_no_edits state) gone
  where
    nobody : (b : Bool) → b ≡ true → Ignored (reason_code (unwrap_or (first_standing (case_of reasons.Gone b ∷ [])) reasons.NotLoggedIn)) ≡ Ignored (reason_code reasons.Gone)
    nobody true is = refl
    nobody false is = absurd (false≢true is)
takes_none state None (User message) gone =
    gone_first (is_leave message || takes_no_edits state) (drop 1 (user_reasons state None message)) (user_decision.heard_verdict state None message) (either_one (is_leave message) (takes_no_edits state) gone)
takes_none state (Some session) (Tree message) gone =
    gone_first (is_gone state session || takes_no_edits state) (drop 1 (tree.reasons state session message))
    (tree_decision.command_verdict state (tree_decision.actor_named state session) session (channels.command_of message)) gone
takes_none state (Some session) (User message) gone =
    gone_first (is_gone state session || takes_no_edits state) (drop 1 (user_reasons state (Some session) message)) (user_decision.heard_verdict state (Some session) message) gone

-- ---- commands that come after a login

-- neither a login nor a leave
abbrev pub IsLater : Asked → Type 0
IsLater (Tree message) = ⊤
IsLater (User (Join message version)) = ⊥
IsLater (User Leave) = ⊥
IsLater (User message) = ⊤

made : {X : Type 0} (f : X → Asked) (heard : Heard X) (what : Asked) → ((x : X) → IsLater (f x)) → heard_map f heard ≡ Message what → IsLater what
made f (Message x) what later is =
    let same : f x ≡ what = cc in
    subst IsLater same (later x)
made f Malformed what later is = absurd (cc)
made f TooLong what later is = absurd (cc)

module _ (payload : List ℕ) (what : Asked) where
  abbrev heard_by : Bool → Bool → Bool → Bool → Bool → Bool → Bool → Heard Asked
  heard_by a b c d e f g =
      cond a (heard_map (λ values. Tree (Remove (channel_remove_of values))) (read channel_remove payload))
      (cond b (heard_map (λ values. Tree (State (channel_state_of values))) (read channel_state payload))
      (cond c (heard_map (λ values. User (Kick (user_remove_of values))) (read user_remove payload))
      (cond d (heard_map (λ values. User (about.User (user_state_of values))) (read user_state payload))
      (cond e (heard_map (λ values. User (Text (text_message_of values))) (read text_message payload))
      (cond f (heard_map (λ values. Tree (Acl (acl_of values))) (read acl payload))
      (cond g (heard_map (λ values. User (Target (voice_target_of values))) (read voice_target payload))
      (heard_map (λ values. User (Query (permission_query_of values))) (read permission_query payload))))))))

  by_kind : (a b c d e f g : Bool) → heard_by a b c d e f g ≡ Message what → IsLater what
  by_kind true b c d e f g heard = made (λ values. Tree (Remove (channel_remove_of values))) (read channel_remove payload) what (λ values. tt) heard
  by_kind false true c d e f g heard = made (λ values. Tree (State (channel_state_of values))) (read channel_state payload) what (λ values. tt) heard
  by_kind false false true d e f g heard = made (λ values. User (Kick (user_remove_of values))) (read user_remove payload) what (λ values. tt) heard
  by_kind false false false true e f g heard = made (λ values. User (about.User (user_state_of values))) (read user_state payload) what (λ values. tt) heard
  by_kind false false false false true f g heard = made (λ values. User (Text (text_message_of values))) (read text_message payload) what (λ values. tt) heard
  by_kind false false false false false true g heard = made (λ values. Tree (Acl (acl_of values))) (read acl payload) what (λ values. tt) heard
  by_kind false false false false false false true heard = made (λ values. User (Target (voice_target_of values))) (read voice_target payload) what (λ values. tt) heard
  by_kind false false false false false false false heard = made (λ values. User (Query (permission_query_of values))) (read permission_query payload) what (λ values. tt) heard

  pub comes_later : (kind : ℕ) → command_heard kind payload ≡ Message what → IsLater what
  comes_later kind heard =
      by_kind (kind == CHANNEL_REMOVE) (kind == CHANNEL_STATE) (kind == USER_REMOVE) (kind == USER_STATE) (kind == TEXT_MESSAGE) (kind == ACL) (kind == VOICE_TARGET) heard

-- whoever has no session is not heard with one
second_holds : (b : Bool) (others : List (Case Reason)) (rest : Verdict) → b ≡ false
    → unless_ignored (case_of reasons.Gone b ∷ case_of reasons.NotLoggedIn true ∷ others) rest ≡ Ignored (reason_code reasons.NotLoggedIn)
second_holds b others rest is = ap (λ (b : Bool). unless_ignored (case_of reasons.Gone b ∷ case_of reasons.NotLoggedIn true ∷ others) rest) is

nobody_later : (state : StateValue) (what : Asked) → IsLater what → takes_no_edits state ≡ false → verdict state None what ≡ Ignored (reason_code reasons.NotLoggedIn)
unfolding verdict
nobody_later state (Tree message) later takes = nobody (takes_no_edits state) takes
  where
    nobody : (b : Bool) → b ≡ false → Ignored (reason_code (unwrap_or (first_standing (case_of reasons.Gone b ∷ [])) reasons.NotLoggedIn)) ≡ Ignored (reason_code reasons.NotLoggedIn)
    nobody false is = refl
    nobody true is = absurd (false≢true (sym is))
nobody_later state (User (about.User message)) later takes =
    second_holds (takes_no_edits state) (drop 2 (user_reasons state None (about.User message))) (user_decision.heard_verdict state None (about.User message)) takes
nobody_later state (User (Kick message)) later takes =
    second_holds (takes_no_edits state) (drop 2 (user_reasons state None (Kick message))) (user_decision.heard_verdict state None (Kick message)) takes
nobody_later state (User (Text message)) later takes =
    second_holds (takes_no_edits state) (drop 2 (user_reasons state None (Text message))) (user_decision.heard_verdict state None (Text message)) takes
nobody_later state (User (Target message)) later takes =
    second_holds (takes_no_edits state) (drop 2 (user_reasons state None (Target message))) (user_decision.heard_verdict state None (Target message)) takes
nobody_later state (User (Query message)) later takes =
    second_holds (takes_no_edits state) (drop 2 (user_reasons state None (Query message))) (user_decision.heard_verdict state None (Query message)) takes
nobody_later state (User (Join message version)) later takes = absurd later
nobody_later state (User Leave) later takes = absurd later

-- ---- an actor that is heard

heard_so : (state : StateValue) (actor : Option SessionId) (kind : ℕ) (payload : List ℕ) (what : Asked) → takes_nothing state actor ≡ false → command_heard kind payload ≡ Message what
    → command_verdict state actor kind payload ≡ verdict state actor what
heard_so state None kind payload what takes is = sym (nobody_later state what (comes_later payload what kind is) takes)
heard_so state (Some session) kind payload what takes is = ap (heard_verdict state (Some session)) is

frame_so : (state : StateValue) (actor : Option SessionId) (version : Option ℕ) (kind : ℕ) (payload : List ℕ) (what : Asked) → takes_nothing state actor ≡ false
    → frame_heard version kind payload ≡ Message what → frame_verdict state actor version kind payload ≡ verdict state actor what
frame_so state actor version kind payload what takes is = step (kind == AUTHENTICATE) (list_any (λ known. known == kind) commands_after_login) is
  where
    step : (login listed : Bool) → cond login (login_heard version payload) (cond listed (command_heard kind payload) Malformed) ≡ Message what
        → cond login (heard_verdict state actor (login_heard version payload)) (cond listed (command_verdict state actor kind payload) (Ignored (reason_code reasons.NotRead))) ≡ verdict state actor what
    step true listed heard = ap (heard_verdict state actor) heard
    step false true heard = heard_so state actor kind payload what takes heard
    step false false heard = absurd (cc)

asked_so : (state : StateValue) (actor : Option SessionId) (version : Option ℕ) (frame : Option (List ℕ)) (what : Asked) → takes_nothing state actor ≡ false
    → command_of version frame ≡ Message what → asked_verdict state actor version frame ≡ verdict state actor what
asked_so state actor version None what takes is = ap (heard_verdict state actor) is
asked_so state actor version (Some bytes) what takes is = frame_so state actor version (kind_of bytes) (payload_of bytes) what takes is

-- the verdict on an entry is the one on its command
pub decided_so : (state : StateValue) (actor : Option SessionId) (version : Option ℕ) (frame : Option (List ℕ)) (what : Asked) → command_of version frame ≡ Message what
    → decided state actor version frame ≡ verdict state actor what
unfolding decided
decided_so state actor version frame what is = step (takes_nothing state actor) refl
  where
    step : (b : Bool) → takes_nothing state actor ≡ b → cond b (Ignored (reason_code reasons.Gone)) (asked_verdict state actor version frame) ≡ verdict state actor what
    step true gone = sym (takes_none state actor what gone)
    step false takes = asked_so state actor version frame what takes is
