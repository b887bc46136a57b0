-- Those who hear are the members of the route, each found by its number.
use Rattle.mum_route.proofs.Common.{◌≡◌, ◌≢◌, ◌∙◌, ℕ, zero, suc, Bool, true, false, cond, List, [], ◌∷◌, map, Option, Some, None, refl, sym, ap, subst, arith, inl, inr, find, All, AllByRecursion, Contains, cons_option, option_map, cases_eq, eq-eqb, false≢true, recursion_from_All, SessionId, none_contained, User, session_of, has_number, StateValue, Hearer, LOOPBACK, hearer_of, hearers_at, hearers_of, member_of, shares, is_silent, Member, route}
use Rattle.mum_route.proofs.Hearers.{each_hearing, found_number, route_of_loopback, route_of_none, route_of_silent}

-- ---- what holds of each

-- a member, as the user who is found of its number
abbrev pub seated : StateValue → SessionId → Member → User → Hearer
seated state speaker member user = record { session = member.0; slot = user.slot; context = member.1; same = shares (session_of state.roster speaker) user }

pub each_seated : (state : StateValue) (speaker : SessionId) (Q : Member → Type 0) (P : Hearer → Type 0)
    → ((member : Member) (user : User) → session_of state.roster member.0 ≡ Some user → Q member → P (seated state speaker member user))
    → (members : List Member) → AllByRecursion Q members → AllByRecursion P (hearers_of state speaker members)
each_seated state speaker Q P each [] all = tt
each_seated state speaker Q P each (member ∷ members) all = by_found (session_of state.roster member.0) refl (each_seated state speaker Q P each members all.1)
  where
    by_found : (o : Option User) → session_of state.roster member.0 ≡ o → AllByRecursion P (hearers_of state speaker members)
        → AllByRecursion P (cons_option (option_map (seated state speaker member) o) (hearers_of state speaker members))
    by_found None none rest = rest
    by_found (Some user) found rest = (each member user found all.0, rest)

-- what holds of each member of a route, and so of it as it is found, holds of each who hears
pub each_hearer_by : (state : StateValue) (speaker : SessionId) (target : ℕ) (Q : Member → Type 0) (P : Hearer → Type 0)
    → ((member : Member) (user : User) → session_of state.roster member.0 ≡ Some user → Q member → P (seated state speaker member user))
    → AllByRecursion Q (route state speaker target) → AllByRecursion P (hearers_at state speaker target)
each_hearer_by state speaker target Q P each all = each_seated state speaker Q P each (route state speaker target) all

all_units : {A : Type 0} (xs : List A) → AllByRecursion (λ x. Unit {0}) xs
all_units [] = tt
all_units (x ∷ xs) = (tt, all_units xs)

pub each_hearer : (state : StateValue) (speaker : SessionId) (target : ℕ) (P : Hearer → Type 0)
    → ((member : Member) (user : User) → session_of state.roster member.0 ≡ Some user → P (seated state speaker member user))
    → AllByRecursion P (hearers_at state speaker target)
each_hearer state speaker target P each =
    each_hearer_by state speaker target (λ member. Unit {0}) P (λ member user found all. each member user found) (all_units (route state speaker target))

-- ---- each member is found

abbrev IsThere : StateValue → Member → Type 0
IsThere state member = (user : User) × (session_of state.roster member.0 ≡ Some user)

found_there : (p : User → Bool) (users : List User) (user : User) → p user ≡ true → Contains users user → (found : User) × (find p users ≡ Some found)
found_there p [] user on has = absurd (none_contained user has)
found_there p (x ∷ xs) user on has = by_first (p x) refl has (found_there p xs user on)
  where
    by_first : (b : Bool) → p x ≡ b → Contains (x ∷ xs) user → (Contains xs user → (found : User) × (find p xs ≡ Some found)) → (found : User) × (cond b (Some x) (find p xs) ≡ Some found)
    by_first true here has later = (x, refl)
    by_first false off (zero, within, is) later = absurd (false≢true (sym off ∙ ap p is ∙ on))
    by_first false off (suc k, within, is) later = later (k, omega arith, is)

there_by_loop : (state : StateValue) (speaker : SessionId) → AllByRecursion (IsThere state) (route state speaker LOOPBACK)
there_by_loop state speaker = by_found (session_of state.roster speaker) refl
  where
    by_silence : (own : User) → session_of state.roster speaker ≡ Some own → (b : Bool) → is_silent own ≡ b → AllByRecursion (IsThere state) (route state speaker LOOPBACK)
    by_silence own found true silent = subst (AllByRecursion (IsThere state)) (sym (route_of_silent state speaker LOOPBACK own found silent)) tt
    by_silence own found false heard =
        subst (AllByRecursion (IsThere state)) (sym (route_of_loopback state speaker own found heard))
        ((own, ap (session_of state.roster) (found_number state.roster.sessions speaker own found) ∙ found), tt)

    by_found : (o : Option User) → session_of state.roster speaker ≡ o → AllByRecursion (IsThere state) (route state speaker LOOPBACK)
    by_found None none = subst (AllByRecursion (IsThere state)) (sym (route_of_none state speaker LOOPBACK none)) tt
    by_found (Some own) found = by_silence own found (is_silent own) refl

there : (state : StateValue) (speaker : SessionId) (target : ℕ) → AllByRecursion (IsThere state) (route state speaker target)
there state speaker target = elim (cases_eq target LOOPBACK) [
  | inl loop ↦ subst (λ (n : ℕ). AllByRecursion (IsThere state) (route state speaker n)) (sym loop) (there_by_loop state speaker)
  | inr away ↦
      recursion_from_All (IsThere state) (route state speaker target)
      (each_hearing state speaker target (IsThere state) away
      (λ own user context is. found_there (has_number user.session) state.roster.sessions user (eq-eqb user.session.0 user.session.0 refl) is.there))
]

all_are_seated : (state : StateValue) (speaker : SessionId) (members : List Member) → AllByRecursion (IsThere state) members → map member_of (hearers_of state speaker members) ≡ members
all_are_seated state speaker [] all = refl
all_are_seated state speaker (member ∷ members) all =
    ap (λ (o : Option User). map member_of (cons_option (option_map (seated state speaker member) o) (hearers_of state speaker members))) all.0.1
    ∙ ap (λ (rest : List Member). member ∷ rest) (all_are_seated state speaker members all.1)

-- one who hears for each member, and no other
pub hearers_are : (state : StateValue) (speaker : SessionId) (target : ℕ) → map member_of (hearers_at state speaker target) ≡ route state speaker target
hearers_are state speaker target = all_are_seated state speaker (route state speaker target) (there state speaker target)
