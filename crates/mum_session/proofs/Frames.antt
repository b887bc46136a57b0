-- What a frame asks for and the machine after it, by the type of the frame.
use Rattle.mum_session.proofs.Common.{◌≡◌, ℕ, Bool, true, false, cond, List, Option, Some, None, Ok, Err, refl, sym, ap, ◌∙◌, ne_eqb, SessionId, decoded, UDP_TUNNEL, VERSION, PING, AUTHENTICATE, ping, version, Action, Decoded, action, after_frame, asks, kept_version, other_action, ping_action, version_action, version_after, voice_action, Machine, is_rejected}

pub voice-asks_nothing : (session : Option SessionId) (payload : List ℕ) → asks (voice_action session payload) ≡ false
voice-asks_nothing None payload = refl
voice-asks_nothing (Some session) payload = refl

pub ping-asks_nothing : (read : Decoded ping) → asks (ping_action read) ≡ false
ping-asks_nothing (Ok values) = refl
ping-asks_nothing (Err fault) = refl

version-asks_nothing : (read : Decoded version) → asks (version_action read) ≡ false
version-asks_nothing (Ok values) = refl
version-asks_nothing (Err fault) = refl

one_way : {X : Type 0} (test : Bool) (x : X) → cond test x x ≡ x
one_way true x = refl
one_way false x = refl

-- a type that is no Version leaves the number as it was
pub keeps-number : (machine : Machine) (kind : ℕ) (payload : List ℕ) → (kind ≡ VERSION → ⊥) → kept_version machine kind payload ≡ machine.version
keeps-number machine kind payload other = rw (ne_eqb kind VERSION other) (one_way (is_rejected machine.stage) machine.version)

-- the machine after what was asked for
pub behind : (machine : Machine) (kind : ℕ) (payload : List ℕ) (a : Action) → a ≡ action machine kind payload → (kind ≡ VERSION → ⊥) → record machine { awaits = asks a } ≡ after_frame machine kind payload
unfolding after_frame
behind machine kind payload a is other =
    ap (λ (b : Bool). record machine { awaits = b }) (ap asks is)
    ∙ ap (λ (number : Option ℕ). record machine { version = number; awaits = asks (action machine kind payload) }) (sym (keeps-number machine kind payload other))

-- where that is no command, nothing changes
pub behind-nothing : (machine : Machine) (kind : ℕ) (payload : List ℕ) (a : Action) → machine.awaits ≡ false → a ≡ action machine kind payload → asks a ≡ false → (kind ≡ VERSION → ⊥) → machine ≡ after_frame machine kind payload
behind-nothing machine kind payload a waits is quiet other =
    ap (λ (b : Bool). record machine { awaits = b }) (waits ∙ sym quiet) ∙ behind machine kind payload a is other

-- a rejected connection stays as it is, whatever comes
pub behind-gone : (machine : Machine) (kind : ℕ) (payload : List ℕ) → machine.awaits ≡ false → is_rejected machine.stage ≡ true → machine ≡ after_frame machine kind payload
unfolding after_frame action
behind-gone machine kind payload waits gone =
    rw gone (ap (λ (b : Bool). record machine { awaits = b }) waits)

-- after a Version
pub behind-version : (machine : Machine) (kind : ℕ) (payload : List ℕ) → machine.awaits ≡ false → is_rejected machine.stage ≡ false → kind ≡ VERSION
    → record machine { version = version_after machine.version (decoded version payload) } ≡ after_frame machine kind payload
unfolding after_frame action
behind-version machine kind payload waits stays is =
    rw (stays, is) (ap (λ (b : Bool). record machine { version = version_after machine.version (decoded version payload); awaits = b }) (waits ∙ sym (version-asks_nothing (decoded version payload))))

-- a type that stands for none of those that are distinguished first
pub other-asks : (machine : Machine) (kind : ℕ) (payload : List ℕ) → is_rejected machine.stage ≡ false
    → (kind ≡ UDP_TUNNEL → ⊥) → (kind ≡ VERSION → ⊥) → (kind ≡ PING → ⊥) → (kind ≡ AUTHENTICATE → ⊥) → other_action machine kind payload ≡ action machine kind payload
unfolding action
other-asks machine kind payload stays tunnel version ping login =
    let no_tunnel = ne_eqb kind UDP_TUNNEL tunnel in
    let no_version = ne_eqb kind VERSION version in
    let no_ping = ne_eqb kind PING ping in
    let no_login = ne_eqb kind AUTHENTICATE login in
    rw (stays, no_tunnel, no_version, no_ping, no_login) refl

-- a Version is taken whatever the stage is, but for a rejection
pub version-asks : (machine : Machine) (kind : ℕ) (payload : List ℕ) → is_rejected machine.stage ≡ false → kind ≡ VERSION → version_action (decoded version payload) ≡ action machine kind payload
unfolding action
version-asks machine kind payload stays is = rw (stays, is) refl
