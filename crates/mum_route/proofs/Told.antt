-- Those who are reached are the members of the route, each with what its copy needs.
use Rattle.mum_route.proofs.Common.{◌≡◌, ◌≢◌, ◌∙◌, ℕ, ◌≤◌, Bool, false, cond, eqb, List, [], ◌∷◌, length, map, Option, Some, None, refl, sym, ap, arith, Contains, cons_option, filter_map, option_map, ne_eqb, contains_later, User, session_of, IsProper, StateValue, Context, Talk, Hearer, LOOPBACK, AreHeard, heard_as, heard_of, hearer_by, hearer_of, hearers_of, member_of, shares, can_hear, is_silent, Member, context_of, heard_from, member_by, reached_of}
use Rattle.mum_route.proofs.{Gathered.heard_each, Gathered.passing_members, Hearers.found_own, Hearers.members}

-- those whom a speaker reaches, with what their copies need
abbrev hearing : User → (User → Option Context) → List User → List Hearer
hearing own reach users = filter_map (λ user. option_map (hearer_by own user) (reach user)) users

pub as_members : (own : User) (reach : User → Option Context) (users : List User) → map member_of (hearing own reach users) ≡ members reach users
as_members own reach [] = refl
as_members own reach (user ∷ users) = by_reach (reach user) (as_members own reach users)
  where
    by_reach : (o : Option Context) → map member_of (hearing own reach users) ≡ members reach users
        → map member_of (cons_option (option_map (hearer_by own user) o) (hearing own reach users)) ≡ cons_option (option_map (member_by user) o) (members reach users)
    by_reach None rest = rest
    by_reach (Some context) rest = ap (λ (ms : List Member). member_by user context ∷ ms) rest

-- a session that is found, beside a speaker that is found
pub hearer_found : (state : StateValue) (own user : User) (context : Context) → session_of state.roster own.session ≡ Some own → session_of state.roster user.session ≡ Some user
    → hearer_of state own.session (member_by user context) ≡ Some (hearer_by own user context)
hearer_found state own user context mine found =
    ap (λ (o : Option User). option_map (λ one. record { session = (member_by user context).0; slot = one.slot; context = (member_by user context).1; same = shares (session_of state.roster own.session) one }) o) found
    ∙ ap (λ (o : Option User). let one : Hearer = record { session = (member_by user context).0; slot = user.slot; context = (member_by user context).1; same = shares o user } in Some one) mine

pub as_hearers : (state : StateValue) (own : User) (reach : User → Option Context) (users : List User) → IsProper state → session_of state.roster own.session ≡ Some own
    → ((user : User) → Contains users user → Contains state.roster.sessions user)
    → hearers_of state own.session (members reach users) ≡ hearing own reach users
as_hearers state own reach [] proper mine part = refl
as_hearers state own reach (user ∷ users) proper mine part =
    by_reach (reach user) (as_hearers state own reach users proper mine (λ one has. part one (contains_later user one users has)))
  where
    by_reach : (o : Option Context) → hearers_of state own.session (members reach users) ≡ hearing own reach users
        → hearers_of state own.session (cons_option (option_map (member_by user) o) (members reach users)) ≡ cons_option (option_map (hearer_by own user) o) (hearing own reach users)
    by_reach None rest = rest
    by_reach (Some context) rest =
        ap (λ (h : Option Hearer). cons_option h (hearers_of state own.session (members reach users)))
        (hearer_found state own user context mine (found_own state user proper (part user (0, omega arith, refl))))
        ∙ ap (λ (hs : List Hearer). hearer_by own user context ∷ hs) rest

-- whom one hears who is not silent, other than by loopback
pub heard_is : (state : StateValue) (own : User) (target : ℕ) → is_silent own ≡ false → target ≢ LOOPBACK
    → members (heard_as state own target) state.roster.sessions ≡ heard_from state own target
heard_is state own target heard away =
    passing_members (can_hear own.session) (context_of state own target) state.roster.sessions
    ∙ sym (ap (λ (b : Bool). cond b [] (cond (eqb target LOOPBACK) (member_by own Talk ∷ []) (reached_of state own target state.roster.sessions))) heard
    ∙ ap (λ (b : Bool). cond b (member_by own Talk ∷ []) (reached_of state own target state.roster.sessions)) (ne_eqb target LOOPBACK away))

-- what is gathered of all sessions
pub record IsGathered (state : StateValue) (own : User) (target : ℕ) (reached : List (Option Context)) (audience : List Hearer) : Type 0 where
  pub room : length state.roster.sessions ≤ length reached
  pub are : AreHeard (heard_as state own target) state.roster.sessions reached
  pub told : audience ≡ heard_of own state.roster.sessions reached
  pub heard : is_silent own ≡ false
  pub away : target ≢ LOOPBACK

pub gathered_members : (state : StateValue) (own : User) (target : ℕ) (reached : List (Option Context)) (audience : List Hearer)
    → IsGathered state own target reached audience → map member_of audience ≡ heard_from state own target
gathered_members state own target reached audience is =
    ap (map member_of) (is.told ∙ heard_each (hearer_by own) (heard_as state own target) state.roster.sessions reached is.room is.are)
    ∙ as_members own (heard_as state own target) state.roster.sessions
    ∙ heard_is state own target is.heard is.away

pub gathered_hearers : (state : StateValue) (own : User) (target : ℕ) (reached : List (Option Context)) (audience : List Hearer)
    → IsProper state → session_of state.roster own.session ≡ Some own
    → IsGathered state own target reached audience → audience ≡ hearers_of state own.session (heard_from state own target)
gathered_hearers state own target reached audience proper mine is =
    is.told ∙ heard_each (hearer_by own) (heard_as state own target) state.roster.sessions reached is.room is.are
    ∙ sym (ap (hearers_of state own.session) (sym (heard_is state own target is.heard is.away))
    ∙ as_hearers state own (heard_as state own target) state.roster.sessions proper mine (λ user has. has))
