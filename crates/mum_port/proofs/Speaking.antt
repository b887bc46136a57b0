-- Only who is logged in asks for a packet to be heard.
use Rattle.mum_port.proofs.Common.{◌≡◌, ℕ, Bool, true, false, List, Option, Some, None, Ok, Err, refl, sym, ap, ◌∙◌, subst, true≢false, if◌then◌else◌, ◌==◌, ◌&&◌, list_any, SessionId, decoded, Frame, UDP_TUNNEL, VERSION, PING, AUTHENTICATE, ping, version, Decoded, action, after_login, bans_action, command_action, commands_after_login, ignore, login_action, ping_action, tree_or_user_action, version_action, voice_action, command_heard, login_heard, Machine, is_rejected, session_of, Action, Voice, Bans, BAN_LIST, Asked, Heard, Gone, NotRead, action_of, RoutesPacket}
use Rattle.mum_port.proofs.HandlePart.{RoutesOf}
use Rattle.mum_session.specs.declared.heard.Heard.TheVariants as heard

abbrev is_voice : Action → Bool
is_voice (Voice packet) = true
is_voice others = false

either_silent : (test : Bool) (a b : Action) → is_voice a ≡ false → is_voice b ≡ false → is_voice (if test then a else b) ≡ false
either_silent true a b one two = one
either_silent false a b one two = two

version-silent : (read : Decoded version) → is_voice (version_action read) ≡ false
version-silent (Ok values) = refl
version-silent (Err fault) = refl

ping-silent : (read : Decoded ping) → is_voice (ping_action read) ≡ false
ping-silent (Ok values) = refl
ping-silent (Err fault) = refl

command-silent : (machine : Machine) (heard_one : Heard Asked) → is_voice (command_action machine heard_one) ≡ false
command-silent machine (heard.Message what) = refl
command-silent machine heard.Malformed = refl
command-silent machine heard.TooLong = refl

later-silent : (session : Option SessionId) (a : Action) → is_voice a ≡ false → is_voice (after_login session a) ≡ false
later-silent None a silent = refl
later-silent (Some session) a silent = silent

bans-silent : (machine : Machine) (kind : ℕ) (payload : List ℕ) → is_voice (bans_action machine kind payload) ≡ false
bans-silent machine kind payload =
    either_silent (machine.bans && kind == BAN_LIST) (after_login (session_of machine.stage) (Bans payload)) (ignore NotRead)
    (later-silent (session_of machine.stage) (Bans payload) refl) refl

stranger-silent : (machine : Machine) (kind : ℕ) (payload : List ℕ) → session_of machine.stage ≡ None → is_voice (action machine kind payload) ≡ false
unfolding action
stranger-silent machine kind payload none =
    either_silent (is_rejected machine.stage) (ignore Gone) _ refl
    (either_silent (kind == UDP_TUNNEL) (voice_action (session_of machine.stage) payload) _ (ap (λ (s : Option SessionId). is_voice (voice_action s payload)) none)
    (either_silent (kind == VERSION) (version_action (decoded version payload)) _ (version-silent (decoded version payload))
    (either_silent (kind == PING) (ping_action (decoded ping payload)) _ (ping-silent (decoded ping payload))
    (either_silent (kind == AUTHENTICATE) (login_action machine payload) _ (command-silent machine (login_heard machine.version payload))
    (either_silent (list_any (λ known. known == kind) commands_after_login) (after_login (session_of machine.stage) (tree_or_user_action machine kind payload)) _
    (later-silent (session_of machine.stage) (tree_or_user_action machine kind payload) (command-silent machine (command_heard kind payload))) (bans-silent machine kind payload))))))

speaker_of : (machine : Machine) (kind : ℕ) (payload packet : List ℕ) (session : Option SessionId) → session_of machine.stage ≡ session → action machine kind payload ≡ Voice packet
    → (speaker : SessionId) × (session ≡ Some speaker)
speaker_of machine kind payload packet (Some speaker) is asks = (speaker, refl)
speaker_of machine kind payload packet None is asks =
    absurd (true≢false (sym (ap is_voice asks) ∙ stranger-silent machine kind payload is))

module _ {V : Type 0} (routed : V → ℕ → SessionId → List ℕ → V → Type 0) where
  routes_asked : (machine : Machine) (kind : ℕ) (payload : List ℕ) (asked : Action) (router after : V) → action machine kind payload ≡ asked
      → RoutesOf routed machine.connection (session_of machine.stage) (Some asked) router after → RoutesPacket routed machine.connection (session_of machine.stage) (Some asked) router after
  routes_asked machine kind payload (Voice packet) router after is routes =
      let speaker = speaker_of machine kind payload packet (session_of machine.stage) refl is in
      (speaker.0, speaker.1, subst (λ (s : Option SessionId). RoutesOf routed machine.connection s (Some (Voice packet)) router after) speaker.1 routes)
  routes_asked machine kind payload others router after is routes = routes

  pub routes_packet : (machine : Machine) (frame : Option Frame) (router after : V)
      → RoutesOf routed machine.connection (session_of machine.stage) (action_of machine frame) router after → RoutesPacket routed machine.connection (session_of machine.stage) (action_of machine frame) router after
  routes_packet machine None router after routes = routes
  routes_packet machine (Some frame) router after routes = routes_asked machine frame.kind frame.payload (action machine frame.kind frame.payload) router after refl routes
