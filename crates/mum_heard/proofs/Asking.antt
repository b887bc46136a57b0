-- How a frame asks for a command.
use Rattle.mum_heard.proofs.Common.{◌≡◌, ◌⊎◌, ℕ, ◌==◌, ◌&&◌, Bool, true, false, cond, List, Option, Some, None, Ok, Err, ap, inl, inr, list_any, SessionId, Gone, NotRead, decoded, AUTHENTICATE, PING, UDP_TUNNEL, VERSION, ping, version, Decoded, action, after_login, bans_action, command_action, commands_after_login, ignore, login_action, other_action, ping_action, tree_or_user_action, version_action, voice_action, command_heard, login_heard, Machine, is_rejected, session_of, Action, Ask, Bans, BAN_LIST, Asked, Command, Heard, Malformed, Message, TooLong}

module _ (machine : Machine) (kind : ℕ) (payload : List ℕ) (command : Command) where
  -- the payload is heard as the command, of a login with the version of the machine
  abbrev pub IsAskedBy : Type 0
  IsAskedBy = (login_heard machine.version payload ≡ Message command.what) ⊎ (command_heard kind payload ≡ Message command.what)

  heard_what : (heard : Heard Asked) → command_action machine heard ≡ Ask command → heard ≡ Message command.what
  heard_what (Message what) asks =
      let same : record { connection = machine.connection; worker = machine.worker; session = session_of machine.stage; what = what } ≡ command = cc in
      ap (λ (c : Command). Message c.what) same
  heard_what Malformed asks = absurd (cc)
  heard_what TooLong asks = absurd (cc)

  by_session : (session : Option SessionId) → after_login session (tree_or_user_action machine kind payload) ≡ Ask command → IsAskedBy
  by_session None asks = absurd (cc)
  by_session (Some session) asks = inr (heard_what (command_heard kind payload) asks)

  no_bans : (session : Option SessionId) (b : Bool) → cond b (after_login session (Bans payload)) (ignore NotRead) ≡ Ask command → ⊥
  no_bans session false asks = cc
  no_bans None true asks = cc
  no_bans (Some session) true asks = cc

  by_list : (b : Bool) → cond b (after_login (session_of machine.stage) (tree_or_user_action machine kind payload)) (bans_action machine kind payload) ≡ Ask command → IsAskedBy
  by_list true asks = by_session (session_of machine.stage) asks
  by_list false asks = absurd (no_bans (session_of machine.stage) (machine.bans && kind == BAN_LIST) asks)

  by_login : (b : Bool) → cond b (login_action machine payload) (other_action machine kind payload) ≡ Ask command → IsAskedBy
  by_login true asks = inl (heard_what (login_heard machine.version payload) asks)
  by_login false asks = by_list (list_any (λ known. known == kind) commands_after_login) asks

  no_ping : (found : Decoded ping) → ping_action found ≡ Ask command → ⊥
  no_ping (Ok values) asks = cc
  no_ping (Err fault) asks = cc

  no_version : (found : Decoded version) → version_action found ≡ Ask command → ⊥
  no_version (Ok values) asks = cc
  no_version (Err fault) asks = cc

  no_voice : (session : Option SessionId) → voice_action session payload ≡ Ask command → ⊥
  no_voice None asks = cc
  no_voice (Some session) asks = cc

  abbrev behind_ping : Action
  behind_ping = cond (kind == AUTHENTICATE) (login_action machine payload) (other_action machine kind payload)

  abbrev behind_version : Bool → Action
  behind_version b = cond b (ping_action (decoded ping payload)) behind_ping

  abbrev behind_voice : Bool → Bool → Action
  behind_voice b c = cond b (version_action (decoded version payload)) (behind_version c)

  by_type : (gone voice told timed : Bool) → cond gone (ignore Gone) (cond voice (voice_action (session_of machine.stage) payload) (behind_voice told timed)) ≡ Ask command → IsAskedBy
  by_type true voice told timed asks = absurd (cc)
  by_type false true told timed asks = absurd (no_voice (session_of machine.stage) asks)
  by_type false false true timed asks = absurd (no_version (decoded version payload) asks)
  by_type false false false true asks = absurd (no_ping (decoded ping payload) asks)
  by_type false false false false asks = by_login (kind == AUTHENTICATE) asks

  pub asked_by : action machine kind payload ≡ Ask command → IsAskedBy
  unfolding action
  asked_by asks = by_type (is_rejected machine.stage) (kind == UDP_TUNNEL) (kind == VERSION) (kind == PING) asks
