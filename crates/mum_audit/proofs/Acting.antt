-- What the machine of frames makes of a frame that is no voice, no Version and no Ping.
use Rattle.mum_audit.proofs.Common.{◌≡◌, ◌∙◌, ℕ, Bool, true, false, cond, List, ◌||◌, Option, Some, None, refl, sym, ap, true≢false, ◌==◌, list_any, reason_code, SessionId, NotRead, AUTHENTICATE, PING, UDP_TUNNEL, VERSION, Verdict, StateValue, action, after_login, command_action, commands_after_login, ignore, login_action, other_action, tree_or_user_action, command_heard, login_heard, Machine, resumed, Action, Asked, Heard, Message, Malformed, TooLong, IsAsked, IsVerdict, stage_of, command_verdict, frame_verdict, heard_verdict}
use Rattle.mum_state.specs.declared.verdict.Verdict.TheVariants.{Ignored}
use Rattle.mum_session.specs.Machine.{session_of}

-- a test that is not met
passed_over : {X : Type 0} (test : Bool) (x y : X) → test ≡ false → cond test x y ≡ y
passed_over test x y not_met = ap (λ t. cond t x y) not_met

-- none of three tests is met
pub none_of_three : (a b c : Bool) → (a || b || c) ≡ false → (a ≡ false) × (b ≡ false) × (c ≡ false)
none_of_three true b c none = absurd (true≢false none)
none_of_three false true c none = absurd (true≢false none)
none_of_three false false true none = absurd (true≢false none)
none_of_three false false false none = (refl, refl, refl)

-- ---- commands

heard_asked : (machine : Machine) (heard : Heard Asked) → IsAsked (command_action machine heard)
heard_asked machine (Message what) = tt
heard_asked machine Malformed = tt
heard_asked machine TooLong = tt

heard_is : (state : StateValue) (machine : Machine) (heard : Heard Asked) (decided : Verdict) → IsVerdict state (command_action machine heard) decided
    → decided ≡ heard_verdict state (session_of machine.stage) heard
heard_is state machine (Message what) decided is = is
heard_is state machine Malformed decided is = is
heard_is state machine TooLong decided is = is

module _ (version : Option ℕ) (kind : ℕ) (payload : List ℕ) where
  -- the machine of an actor
  abbrev machine_of : Option SessionId → Machine
  machine_of actor = resumed 0 0 version (stage_of actor)

  later_asked : (actor : Option SessionId) (listed : Bool)
      → IsAsked (cond listed (after_login (session_of (stage_of actor)) (tree_or_user_action (machine_of actor) kind payload)) (ignore NotRead))
  later_asked actor false = tt
  later_asked None true = tt
  later_asked (Some session) true = heard_asked (machine_of (Some session)) (command_heard kind payload)

  asked_by : (actor : Option SessionId) (login : Bool) → IsAsked (cond login (login_action (machine_of actor) payload) (other_action (machine_of actor) kind payload))
  asked_by actor true = heard_asked (machine_of actor) (login_heard version payload)
  asked_by actor false = later_asked actor (list_any (λ known. known == kind) commands_after_login)

  -- a login, or what comes after one
  action_is : (actor : Option SessionId) → (kind == UDP_TUNNEL) ≡ false → (kind == VERSION) ≡ false → (kind == PING) ≡ false
      → action (machine_of actor) kind payload ≡ cond (kind == AUTHENTICATE) (login_action (machine_of actor) payload) (other_action (machine_of actor) kind payload)
  unfolding action
  action_is None voice told ping = passed_over (kind == UDP_TUNNEL) _ _ voice ∙ passed_over (kind == VERSION) _ _ told ∙ passed_over (kind == PING) _ _ ping
  action_is (Some session) voice told ping = passed_over (kind == UDP_TUNNEL) _ _ voice ∙ passed_over (kind == VERSION) _ _ told ∙ passed_over (kind == PING) _ _ ping

  pub asked : (actor : Option SessionId) (acted : Action) → acted ≡ action (machine_of actor) kind payload
      → (kind == UDP_TUNNEL) ≡ false → (kind == VERSION) ≡ false → (kind == PING) ≡ false → IsAsked acted
  asked actor acted is voice told ping = rw (is ∙ action_is actor voice told ping) (asked_by actor (kind == AUTHENTICATE))

  module _ (state : StateValue) (decided : Verdict) where
    later_is : (actor : Option SessionId) (listed : Bool)
        → IsVerdict state (cond listed (after_login (session_of (stage_of actor)) (tree_or_user_action (machine_of actor) kind payload)) (ignore NotRead)) decided
        → decided ≡ cond listed (command_verdict state actor kind payload) (Ignored (reason_code NotRead))
    later_is actor false is = is
    later_is None true is = is
    later_is (Some session) true is = heard_is state (machine_of (Some session)) (command_heard kind payload) decided is

    login_is : (actor : Option SessionId) → IsVerdict state (login_action (machine_of actor) payload) decided → decided ≡ heard_verdict state actor (login_heard version payload)
    login_is None is = heard_is state (machine_of None) (login_heard version payload) decided is
    login_is (Some session) is = heard_is state (machine_of (Some session)) (login_heard version payload) decided is

    is_by : (actor : Option SessionId) (login : Bool) → IsVerdict state (cond login (login_action (machine_of actor) payload) (other_action (machine_of actor) kind payload)) decided
        → decided ≡ cond login (heard_verdict state actor (login_heard version payload))
        (cond (list_any (λ known. known == kind) commands_after_login) (command_verdict state actor kind payload) (Ignored (reason_code NotRead)))
    is_by actor true is = login_is actor is
    is_by actor false is = later_is actor (list_any (λ known. known == kind) commands_after_login) is

    pub verdict_is : (actor : Option SessionId) (acted : Action) → acted ≡ action (machine_of actor) kind payload
        → (kind == UDP_TUNNEL) ≡ false → (kind == VERSION) ≡ false → (kind == PING) ≡ false → IsVerdict state acted decided
        → decided ≡ frame_verdict state actor version kind payload
    verdict_is actor acted same voice told ping is =
        is_by actor (kind == AUTHENTICATE) (rw (sym (same ∙ action_is actor voice told ping)) is)
