-- What asks for bans.
use Rattle.mum_session.proofs.Common.{◌≡◌, ◌∙◌, ℕ, Bool, true, false, cond, List, Option, Some, None, Ok, Err, refl, sym, ap, subst, ◌==◌, ◌&&◌, eqb, list_any, and_parts, eqb-true, ne_eqb, SessionId, Gone, NotLoggedIn, NotRead, decoded, UDP_TUNNEL, VERSION, PING, AUTHENTICATE, ping, version, Decoded, action, after_login, bans_action, command_action, commands_after_login, ignore, login_action, other_action, ping_action, tree_or_user_action, version_action, voice_action, command_heard, login_heard, SendsBans, Machine, is_rejected, session_of, Action, Bans, BAN_LIST, Asked, Heard, Stage, BeforeLogin, LoggedIn, Rejected}
use Rattle.mum_session.specs.declared.heard.Heard.TheVariants as heard

abbrev is_bans : Action → Bool
is_bans (Bans payload) = true
is_bans others = false

-- one of two actions is these bans, and it is not the first
past : (test : Bool) (a b : Action) (sent : List ℕ) → is_bans a ≡ false → cond test a b ≡ Bans sent → b ≡ Bans sent
past true a b sent none is = absurd (cc (sym none ∙ ap is_bans is))
past false a b sent none is = is

voice-no_bans : (session : Option SessionId) (payload : List ℕ) → is_bans (voice_action session payload) ≡ false
voice-no_bans None payload = refl
voice-no_bans (Some session) payload = refl

version-no_bans : (read : Decoded version) → is_bans (version_action read) ≡ false
version-no_bans (Ok values) = refl
version-no_bans (Err fault) = refl

ping-no_bans : (read : Decoded ping) → is_bans (ping_action read) ≡ false
ping-no_bans (Ok values) = refl
ping-no_bans (Err fault) = refl

command-no_bans : (machine : Machine) (read : Heard Asked) → is_bans (command_action machine read) ≡ false
command-no_bans machine (heard.Message what) = refl
command-no_bans machine heard.Malformed = refl
command-no_bans machine heard.TooLong = refl

later-no_bans : (session : Option SessionId) (a : Action) → is_bans a ≡ false → is_bans (after_login session a) ≡ false
later-no_bans None a none = refl
later-no_bans (Some session) a none = none

-- a list of bans is met, by a connection that is logged in
met : (test : Bool) (session : Option SessionId) (payload sent : List ℕ) → cond test (after_login session (Bans payload)) (ignore NotRead) ≡ Bans sent
    → (test ≡ true) × ((own : SessionId) × (session ≡ Some own)) × (sent ≡ payload)
met true (Some own) payload sent is = (refl, (own, refl), cc)
met true None payload sent is = absurd (cc (ap is_bans is))
met false session payload sent is = absurd (cc (ap is_bans is))

sends_of : (machine : Machine) (kind : ℕ) (payload sent : List ℕ) → bans_action machine kind payload ≡ Bans sent → SendsBans machine kind payload sent
sends_of machine kind payload sent is =
    let so = met (machine.bans && kind == BAN_LIST) (session_of machine.stage) payload sent is in
    let parts = and_parts machine.bans (eqb kind BAN_LIST) so.0 in
    record { may_send = parts.0; session = so.1.0; logged_in = so.1.1; kind_is = eqb-true kind BAN_LIST parts.1; payload_is = so.2 }

pub sends : (machine : Machine) (kind : ℕ) (payload sent : List ℕ) → action machine kind payload ≡ Bans sent → SendsBans machine kind payload sent
unfolding action
sends machine kind payload sent is =
    let voice = past (is_rejected machine.stage) (ignore Gone) _ sent refl is in
    let told = past (kind == UDP_TUNNEL) (voice_action (session_of machine.stage) payload) _ sent (voice-no_bans (session_of machine.stage) payload) voice in
    let pinged = past (kind == VERSION) (version_action (decoded version payload)) _ sent (version-no_bans (decoded version payload)) told in
    let joins = past (kind == PING) (ping_action (decoded ping payload)) _ sent (ping-no_bans (decoded ping payload)) pinged in
    let later = past (kind == AUTHENTICATE) (login_action machine payload) _ sent (command-no_bans machine (login_heard machine.version payload)) joins in
    sends_of machine kind payload sent (past (list_any (λ known. known == kind) commands_after_login) (after_login (session_of machine.stage) (tree_or_user_action machine kind payload)) _ sent
    (later-no_bans (session_of machine.stage) (tree_or_user_action machine kind payload) (command-no_bans machine (command_heard kind payload))) later)

sent_by : (stage : Stage) (machine : Machine) (payload : List ℕ) (own : SessionId) → machine.stage ≡ stage → session_of stage ≡ Some own → machine.bans ≡ true
    → action machine BAN_LIST payload ≡ Bans payload
unfolding action
sent_by (LoggedIn session) machine payload own is some may = rw (is, may) refl
sent_by BeforeLogin machine payload own is some may = absurd cc
sent_by Rejected machine payload own is some may = absurd cc

pub sent : (machine : Machine) (kind : ℕ) (payload asked : List ℕ) → SendsBans machine kind payload asked → action machine kind payload ≡ Bans asked
sent machine kind payload asked sends =
    subst (λ (k : ℕ). action machine k payload ≡ Bans asked) (sym sends.kind_is)
    (sent_by machine.stage machine payload sends.session refl sends.logged_in sends.may_send ∙ ap (λ (l : List ℕ). Bans l) (sym sends.payload_is))

pub strange : (machine : Machine) (payload : List ℕ) → machine.stage ≡ BeforeLogin → machine.bans ≡ true → action machine BAN_LIST payload ≡ ignore NotLoggedIn
unfolding action
strange machine payload is may = rw (is, may) refl

-- a command that comes after a login
pub listed : (machine : Machine) (kind : ℕ) (payload bytes : List ℕ) → list_any (λ known. known == kind) commands_after_login ≡ true → bytes ≡ payload
    → after_login (session_of machine.stage) (tree_or_user_action machine kind bytes) ≡ other_action machine kind payload
listed machine kind payload bytes is same =
    ap (λ (p : List ℕ). after_login (session_of machine.stage) (tree_or_user_action machine kind p)) same
    ∙ sym (ap (λ (b : Bool). cond b (after_login (session_of machine.stage) (tree_or_user_action machine kind payload)) (bans_action machine kind payload)) is)

-- ---- all else

either : (test : Bool) (a b c d : Action) → a ≡ c → b ≡ d → cond test a b ≡ cond test c d
either true a b c d one two = one
either false a b c d one two = two

abbrev without : Machine → Machine
without machine = record machine { bans = false }

command_alike : (machine : Machine) (read : Heard Asked) → command_action machine read ≡ command_action (without machine) read
command_alike machine (heard.Message what) = refl
command_alike machine heard.Malformed = refl
command_alike machine heard.TooLong = refl

bans_alike : (machine : Machine) (kind : ℕ) (payload : List ℕ) (may : Bool) → (kind ≡ BAN_LIST → ⊥)
    → cond (may && kind == BAN_LIST) (after_login (session_of machine.stage) (Bans payload)) (ignore NotRead) ≡ ignore NotRead
bans_alike machine kind payload true other = rw (ne_eqb kind BAN_LIST other) refl
bans_alike machine kind payload false other = refl

pub alike : (machine : Machine) (kind : ℕ) (payload : List ℕ) → (kind ≡ BAN_LIST → ⊥) → action machine kind payload ≡ action (without machine) kind payload
unfolding action
alike machine kind payload other =
    either (is_rejected machine.stage) (ignore Gone) _ (ignore Gone) _ refl
    (either (kind == UDP_TUNNEL) (voice_action (session_of machine.stage) payload) _ (voice_action (session_of machine.stage) payload) _ refl
    (either (kind == VERSION) (version_action (decoded version payload)) _ (version_action (decoded version payload)) _ refl
    (either (kind == PING) (ping_action (decoded ping payload)) _ (ping_action (decoded ping payload)) _ refl
    (either (kind == AUTHENTICATE) (login_action machine payload) _ (login_action (without machine) payload) _ (command_alike machine (login_heard machine.version payload))
    (either (list_any (λ known. known == kind) commands_after_login) (after_login (session_of machine.stage) (tree_or_user_action machine kind payload)) _
    (after_login (session_of machine.stage) (tree_or_user_action (without machine) kind payload)) _
    (ap (after_login (session_of machine.stage)) (command_alike machine (command_heard kind payload))) (bans_alike machine kind payload machine.bans other))))))
