-- Who is reached, by what is known of each session, with what its copy needs.
use Rattle.mum_route.proofs.Common.{◌≡◌, ◌≢◌, ◌∙◌, ℕ, suc, ◌≤◌, Bool, true, false, cond, eqb, List, [], ◌∷◌, length, map, get_or, Option, Some, None, refl, sym, ap, arith, Contains, cons_option, option_map, contains_later, User, session_of, IsProper, StateValue, Context, Talk, Hearer, LOOPBACK, AreHeard, heard_as, heard_of, hearer_by, members_by, hearers_of, member_of, is_silent, Member, heard_from, member_by, reached_of}
use Rattle.mum_route.proofs.{Gathered.heard_each, Hearers.found_own, Told.heard_is, Told.hearer_found}

-- whom one reaches who is not silent
pub members_reached : (state : StateValue) (own : User) (target : ℕ) (reached : List (Option Context)) → length state.roster.sessions ≤ length reached
    → AreHeard (heard_as state own target) state.roster.sessions reached → is_silent own ≡ false → target ≢ LOOPBACK
    → members_by state.roster.sessions reached ≡ heard_from state own target
members_reached state own target reached room are heard away =
    heard_each member_by (heard_as state own target) state.roster.sessions reached room are ∙ heard_is state own target heard away

-- and who is
nobody_in : (users : List User) (reached : List (Option Context)) → ((place : ℕ) → get_or reached place None ≡ None) → members_by users reached ≡ []
nobody_in [] reached none = refl
nobody_in (user ∷ users) [] none = refl
nobody_in (user ∷ users) (one ∷ reached) none =
    ap (λ (o : Option Context). cons_option (option_map (member_by user) o) (members_by users reached)) (none 0)
    ∙ nobody_in users reached (λ place. none (suc place))

pub silent_reaches : (state : StateValue) (own : User) (target : ℕ) (reached : List (Option Context)) → ((place : ℕ) → get_or reached place None ≡ None)
    → is_silent own ≡ true → members_by state.roster.sessions reached ≡ heard_from state own target
silent_reaches state own target reached none silent =
    nobody_in state.roster.sessions reached none
    ∙ sym (ap (λ (b : Bool). cond b [] (cond (eqb target LOOPBACK) (member_by own Talk ∷ []) (reached_of state own target state.roster.sessions))) silent)

-- ---- what is gathered

pub gathered_as_members : (own : User) (users : List User) (reached : List (Option Context)) → map member_of (heard_of own users reached) ≡ members_by users reached
gathered_as_members own [] reached = refl
gathered_as_members own (user ∷ users) [] = refl
gathered_as_members own (user ∷ users) (one ∷ reached) = by_one one (gathered_as_members own users reached)
  where
    by_one : (o : Option Context) → map member_of (heard_of own users reached) ≡ members_by users reached
        → map member_of (cons_option (option_map (hearer_by own user) o) (heard_of own users reached)) ≡ cons_option (option_map (member_by user) o) (members_by users reached)
    by_one None rest = rest
    by_one (Some context) rest = ap (λ (ms : List Member). member_by user context ∷ ms) rest

pub gathered_as_hearers : (state : StateValue) (own : User) (users : List User) (reached : List (Option Context)) → IsProper state
    → session_of state.roster own.session ≡ Some own → ((user : User) → Contains users user → Contains state.roster.sessions user)
    → heard_of own users reached ≡ hearers_of state own.session (members_by users reached)
gathered_as_hearers state own [] reached proper mine part = refl
gathered_as_hearers state own (user ∷ users) [] proper mine part = refl
gathered_as_hearers state own (user ∷ users) (one ∷ reached) proper mine part =
    by_one one (gathered_as_hearers state own users reached proper mine (λ other has. part other (contains_later user other users has)))
  where
    by_one : (o : Option Context) → heard_of own users reached ≡ hearers_of state own.session (members_by users reached)
        → cons_option (option_map (hearer_by own user) o) (heard_of own users reached)
        ≡ hearers_of state own.session (cons_option (option_map (member_by user) o) (members_by users reached))
    by_one None rest = rest
    by_one (Some context) rest =
        ap (λ (hs : List Hearer). hearer_by own user context ∷ hs) rest
        ∙ sym (ap (λ (h : Option Hearer). cons_option h (hearers_of state own.session (members_by users reached)))
        (hearer_found state own user context mine (found_own state user proper (part user (0, omega arith, refl)))))
