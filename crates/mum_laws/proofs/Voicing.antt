-- The packet that a frame is, where its action has the core hear one.
use Rattle.mum_laws.proofs.Common.{◌≡◌, ℕ, Bool, true, false, cond, List, [], Option, Some, None, Result, Ok, Err, refl, sym, ap, ◌∙◌, inl, inr, ◌==◌, ◌&&◌, ◌⊎◌, option_to_list, list_any, option_map, option_map_or, SessionId, Gone, kind_of, payload_of, AUTHENTICATE, PING, UDP_TUNNEL, VERSION, ping, version, decoded, Parts, packet, BadVoice, Decoded, action, after_login, bans_action, command_action, commands_after_login, ignore, other_action, ping_action, tree_or_user_action, version_action, voice_action, command_heard, login_heard, Machine, Action, Voice, Bans, BAN_LIST, Asked, Heard, Stage, BeforeLogin, LoggedIn, Connection, Seat, machine_of, HeldPacket, spoken, packet_by, packet_in, speaker_of}
use Rattle.mum_session.specs.Machine.{is_rejected, session_of}
use Rattle.mum_session.specs.declared.session.Stage.TheVariants.{Rejected}
use Rattle.mum_session.specs.declared.heard.Heard.TheVariants as heard

-- the packet that is heard by an action of a connection with this seat
abbrev pub heard_by : Option Seat → Action → Option HeldPacket
heard_by seat (Voice payload) = spoken seat (packet payload)
heard_by seat others = None

-- ---- what is no voice

abbrev Unheard : Option Seat → Action → Type 0
Unheard seat a = heard_by seat a ≡ None

pub chosen : (P : Action → Type 0) (b : Bool) (x y : Action) → (b ≡ true → P x) → (b ≡ false → P y) → P (cond b x y)
chosen P true x y hx hy = hx refl
chosen P false x y hx hy = hy refl

unheard_version : (seat : Option Seat) (read : Decoded version) → Unheard seat (version_action read)
unheard_version seat (Ok values) = refl
unheard_version seat (Err fault) = refl

unheard_ping : (seat : Option Seat) (read : Decoded ping) → Unheard seat (ping_action read)
unheard_ping seat (Ok values) = refl
unheard_ping seat (Err fault) = refl

unheard_command : (seat : Option Seat) (machine : Machine) (message : Heard Asked) → Unheard seat (command_action machine message)
unheard_command seat machine (heard.Message what) = refl
unheard_command seat machine heard.Malformed = refl
unheard_command seat machine heard.TooLong = refl

unheard_after : (seat : Option Seat) (session : Option SessionId) (a : Action) → Unheard seat a → Unheard seat (after_login session a)
unheard_after seat None a h = refl
unheard_after seat (Some session) a h = h

unheard_list : (seat : Option Seat) (machine : Machine) (kind : ℕ) (payload : List ℕ) → Unheard seat (bans_action machine kind payload)
unheard_list seat machine kind payload =
    chosen (Unheard seat) (machine.bans && kind == BAN_LIST) (after_login (session_of machine.stage) (Bans payload)) _
    (λ on. unheard_after seat (session_of machine.stage) (Bans payload) refl) (λ off. refl)

unheard_other : (seat : Option Seat) (machine : Machine) (kind : ℕ) (payload : List ℕ) → Unheard seat (other_action machine kind payload)
unheard_other seat machine kind payload =
    chosen (Unheard seat) (list_any (λ known. known == kind) commands_after_login) (after_login (session_of machine.stage) (tree_or_user_action machine kind payload)) _
    (λ on. unheard_after seat (session_of machine.stage) (tree_or_user_action machine kind payload) (unheard_command seat machine (command_heard kind payload)))
    (λ off. unheard_list seat machine kind payload)

-- ---- what is

-- the stage of a connection and its speaker
abbrev Speaks : Stage → Option Seat → Option SessionId → Type 0
Speaks stage seat speaker =
    ((is_rejected stage ≡ true) × (speaker ≡ None))
    ⊎ ((is_rejected stage ≡ false) × (session_of stage ≡ speaker) × (speaker ≡ option_map (λ (s : Seat). s.session) seat))

speaks_by : (rejected : Bool) (seat : Option Seat)
    → Speaks (cond rejected Rejected (option_map_or (λ (s : Seat). LoggedIn s.session) seat BeforeLogin)) seat (cond rejected None (option_map (λ (s : Seat). s.session) seat))
speaks_by true seat = inl (refl, refl)
speaks_by false None = inr (refl, refl, refl)
speaks_by false (Some seat) = inr (refl, refl, refl)

no_packet : (read : Result Parts BadVoice) → packet_by None read ≡ []
no_packet (Ok parts) = refl
no_packet (Err fault) = refl

voice_is : (seat : Option Seat) (session speaker : Option SessionId) (payload : List ℕ) → session ≡ speaker → speaker ≡ option_map (λ (s : Seat). s.session) seat
    → option_to_list (heard_by seat (voice_action session payload)) ≡ packet_by speaker (packet payload)
voice_is None session speaker payload same is =
    ap (λ (s : Option SessionId). option_to_list (heard_by None (voice_action s payload))) (same ∙ is) ∙ sym (no_packet (packet payload))
    ∙ ap (λ (s : Option SessionId). packet_by s (packet payload)) (sym is)
voice_is (Some seat) session speaker payload same is =
    ap (λ (s : Option SessionId). option_to_list (heard_by (Some seat) (voice_action s payload))) (same ∙ is) ∙ from (packet payload)
    ∙ ap (λ (s : Option SessionId). packet_by s (packet payload)) (sym is)
  where
    from : (read : Result Parts BadVoice) → option_to_list (spoken (Some seat) read) ≡ packet_by (Some seat.session) read
    from (Ok parts) = refl
    from (Err fault) = refl

-- what the frame is, and what is to be found of it: a packet of the speaker where its type is 1, and else none
abbrev IsOfFrame : Option SessionId → ℕ → List ℕ → List HeldPacket → Type 0
IsOfFrame speaker kind payload found = ((kind == 1) ≡ true → found ≡ packet_by speaker (packet payload)) × ((kind == 1) ≡ false → found ≡ [])

of_frame : (speaker : Option SessionId) (kind : ℕ) (payload : List ℕ) → IsOfFrame speaker kind payload (cond (kind == 1) (packet_by speaker (packet payload)) [])
of_frame speaker kind payload = from (kind == 1)
  where
    from : (b : Bool) → (b ≡ true → cond b (packet_by speaker (packet payload)) [] ≡ packet_by speaker (packet payload)) × (b ≡ false → cond b (packet_by speaker (packet payload)) [] ≡ [])
    from true = (λ e. refl, λ e. cc)
    from false = (λ e. cc, λ e. refl)

either : {P : Type 0} (b : Bool) → (b ≡ true → P) → (b ≡ false → P) → P
either true on off = on refl
either false on off = off refl

unsaid : (speaker : Option SessionId) (kind : ℕ) (payload : List ℕ) (found : List HeldPacket) → speaker ≡ None → IsOfFrame speaker kind payload found → found ≡ []
unsaid speaker kind payload found none is =
    either (kind == 1) (λ on. is.0 on ∙ ap (λ (s : Option SessionId). packet_by s (packet payload)) none ∙ no_packet (packet payload)) (λ off. is.1 off)

module _ (machine : Machine) (seat : Option Seat) (speaker : Option SessionId) (kind : ℕ) (payload : List ℕ) (found : List HeldPacket) (is : IsOfFrame speaker kind payload found) where
  abbrev Finds : Action → Type 0
  Finds a = option_to_list (heard_by seat a) ≡ found

  finds_none : (a : Action) → Unheard seat a → found ≡ [] → Finds a
  finds_none a unheard none = ap option_to_list unheard ∙ sym none

  finds : Speaks machine.stage seat speaker → Finds (action machine kind payload)
  unfolding action
  finds (inl (rejected, nobody)) =
      chosen Finds (is_rejected machine.stage) _ _ (λ on. finds_none (ignore Gone) refl (unsaid speaker kind payload found nobody is)) (λ off. cc)
  finds (inr (accepted, session, speaks)) =
      chosen Finds (is_rejected machine.stage) _ _ (λ on. cc)
      (λ off.
      chosen Finds (kind == UDP_TUNNEL) _ _
      (λ voice. voice_is seat (session_of machine.stage) speaker payload session speaks ∙ sym (is.0 voice))
      (λ other.
      chosen Finds (kind == VERSION) _ _ (λ on. finds_none _ (unheard_version seat (decoded version payload)) (is.1 other))
      (λ off. chosen Finds (kind == PING) _ _ (λ on. finds_none _ (unheard_ping seat (decoded ping payload)) (is.1 other))
      (λ off. chosen Finds (kind == AUTHENTICATE) _ _ (λ on. finds_none _ (unheard_command seat machine (login_heard machine.version payload)) (is.1 other))
      (λ off. finds_none _ (unheard_other seat machine kind payload) (is.1 other))))))

-- what is heard of a frame is the packet that it is
pub frame_finds : (c : ℕ) (connection : Connection) (bytes : List ℕ)
    → option_to_list (heard_by connection.seat (action (machine_of c connection) (kind_of bytes) (payload_of bytes))) ≡ packet_in connection bytes
frame_finds c connection bytes =
    finds (machine_of c connection) connection.seat (speaker_of connection) (kind_of bytes) (payload_of bytes) (packet_in connection bytes)
    (of_frame (speaker_of connection) (kind_of bytes) (payload_of bytes)) (speaks_by connection.rejected connection.seat)
