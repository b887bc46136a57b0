-- Payloads that are not looked at.
use Rattle.mum_session.proofs.Common.{◌≡◌, ◌==◌, ◌||◌, ℕ, eqb, Bool, true, false, List, Option, Some, None, refl, sym, list_any, eqb-false, ne_eqb, SessionId, VERSION, PING, AUTHENTICATE, Gone, Stage, BeforeLogin, LoggedIn, Rejected, action, ignore, taken_before_login, Machine, is_rejected, session_of}

first_false : (a b : Bool) → (a || b) ≡ false → a ≡ false
first_false true b h = h
first_false false b h = refl

second_false : (a b : Bool) → (a || b) ≡ false → b ≡ false
second_false true b h = absurd cc
second_false false b h = h

turned : (a b : ℕ) → eqb a b ≡ false → eqb b a ≡ false
turned a b h = ne_eqb b a (λ e. eqb-false a b h (sym e))

abbrev some_session : SessionId → Option SessionId
some_session session = Some session

not_some : (session : SessionId) → some_session session ≡ None → ⊥
not_some session h = cc

pub unread : (stage : Stage) (machine : Machine) (kind : ℕ) (payload other : List ℕ) → machine.stage ≡ stage → session_of stage ≡ None
    → list_any (λ known. known == kind) taken_before_login ≡ false → action machine kind payload ≡ action machine kind other
unfolding action
unread BeforeLogin machine kind payload other is none known =
    let version = turned VERSION kind (first_false (eqb VERSION kind) (eqb PING kind || (eqb AUTHENTICATE kind || false)) known) in
    let behind = second_false (eqb VERSION kind) (eqb PING kind || (eqb AUTHENTICATE kind || false)) known in
    let ping = turned PING kind (first_false (eqb PING kind) (eqb AUTHENTICATE kind || false) behind) in
    let login = turned AUTHENTICATE kind (first_false (eqb AUTHENTICATE kind) false (second_false (eqb PING kind) (eqb AUTHENTICATE kind || false) behind)) in
    rw (is, version, ping, login) refl
unread (LoggedIn session) machine kind payload other is none known = absurd (not_some session none)
unread Rejected machine kind payload other is none known = rw is refl

pub gone : (stage : Stage) (machine : Machine) (kind : ℕ) (payload : List ℕ) → machine.stage ≡ stage → is_rejected stage ≡ true → action machine kind payload ≡ ignore Gone
unfolding action
gone BeforeLogin machine kind payload is rejected = absurd cc
gone (LoggedIn session) machine kind payload is rejected = absurd cc
gone Rejected machine kind payload is rejected = rw is refl
