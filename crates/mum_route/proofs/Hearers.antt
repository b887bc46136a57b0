-- Those who hear, one by one.
use Rattle.mum_route.proofs.Common.{◌≡◌, ◌≢◌, ◌∙◌, ℕ, zero, suc, ◌+◌, ◌<◌, ◌≤◌, Bool, true, false, cond, eqb, List, [], ◌∷◌, Option, Some, None, refl, sym, ap, subst, arith, ⊎_elim, find, All, AllByRecursion, AllPairs, Contains, cons_option, filter_map, option_map, option_map_or, cases_eq, eq-eqb, eqb-true, false≢true, ne_eqb, All-from_recursion, All-nil, AllPairs-cons, none-some, same_Some, SessionId, contains_later, none_contained, User, SlotsRise, session_of, has_number, IsProper, StateValue, Each, session_alone, Context, Talk, LOOPBACK, heard_as, can_hear, is_silent, Member, context_of, heard_from, member_by, reached_of, route}
use Rattle.mum_route.proofs.Gathered.{passing_members}

-- ---- a session that is there is found by its number

each_contained : {X : Type 0} (P : X → Type 0) (xs : List X) (x : X) → Each P xs → Contains xs x → P x
each_contained P [] x all has = absurd (none_contained x has)
each_contained P (y ∷ xs) x all (zero, within, is) = subst P is all.0
each_contained P (y ∷ xs) x all (suc k, within, is) = each_contained P xs x all.1 (k, omega arith, is)

none_found : {X : Type 0} (p : X → Bool) (xs : List X) (x : X) → p x ≡ true → Contains xs x → find p xs ≡ None → ⊥
none_found p [] x on has none = none_contained x has
none_found {X} p (y ∷ xs) x on has none = by_first (p y) refl has none (none_found p xs x on)
  where
    by_first : (b : Bool) → p y ≡ b → Contains (y ∷ xs) x → cond b (Some y) (find p xs) ≡ None → (Contains xs x → find p xs ≡ None → ⊥) → ⊥
    by_first true here has none later = none-some y (sym none)
    by_first false off (zero, within, is) none later = false≢true (sym off ∙ ap p is ∙ on)
    by_first false off (suc k, within, is) none later = later (k, omega arith, is) none

pub found_own : (state : StateValue) (user : User) → IsProper state → Contains state.roster.sessions user → session_of state.roster user.session ≡ Some user
found_own state user proper has = by_found (session_of state.roster user.session) refl
  where
    by_found : (found : Option User) → session_of state.roster user.session ≡ found → found ≡ Some user
    by_found None none = absurd (none_found (has_number user.session) state.roster.sessions user (eq-eqb user.session.0 user.session.0 refl) has none)
    by_found (Some first) found =
        let alone = session_alone state user.session first proper found in
        ap (λ (u : User). Some u)
        (sym (each_contained (λ other. has_number user.session other ≡ true → other ≡ first) state.roster.sessions user alone has (eq-eqb user.session.0 user.session.0 refl)))

-- a session that is found has the number
pub found_number : (users : List User) (session : SessionId) (user : User) → find (has_number session) users ≡ Some user → user.session ≡ session
found_number [] session user found = absurd (none-some user found)
found_number (first ∷ users) session user found = by_first (has_number session first) refl found (found_number users session user)
  where
    by_first : (b : Bool) → has_number session first ≡ b → cond b (Some first) (find (has_number session) users) ≡ Some user
        → (find (has_number session) users ≡ Some user → user.session ≡ session) → user.session ≡ session
    by_first true here found later =
        sym (ap (λ (u : User). u.session) (same_Some first user found)) ∙ ap (λ n. record { 0 = n }) (eqb-true first.session.0 session.0 here)
    by_first false off found later = later found

-- ---- those who are reached

abbrev pub members : (User → Option Context) → List User → List Member
members reach users = filter_map (λ user. option_map (member_by user) (reach user)) users

pub members_each : (reach : User → Option Context) (P : Member → Type 0) (whole users : List User) → ((user : User) → Contains users user → Contains whole user)
    → ((user : User) (context : Context) → Contains whole user → reach user ≡ Some context → P (member_by user context))
    → AllByRecursion P (members reach users)
members_each reach P whole [] part each = tt
members_each reach P whole (user ∷ users) part each =
    by_reach (reach user) refl (members_each reach P whole users (λ one has. part one (contains_later user one users has)) each)
  where
    by_reach : (o : Option Context) → reach user ≡ o → AllByRecursion P (members reach users) → AllByRecursion P (cons_option (option_map (member_by user) o) (members reach users))
    by_reach None none rest = rest
    by_reach (Some context) is rest = (each user context (part user (0, omega arith, refl)) is, rest)

low_slot : (limit low : ℕ) (users : List User) (user : User) → SlotsRise limit low users → Contains users user → low ≤ user.slot.0
low_slot limit low [] user rise has = absurd (none_contained user has)
low_slot limit low (first ∷ users) user rise (zero, within, is) = subst (λ (u : User). low ≤ u.slot.0) is rise.0
low_slot limit low (first ∷ users) user rise (suc k, within, is) =
    let later = low_slot limit (first.slot.0 + 1) users user rise.1 (k, omega arith, is) in let here = rise.0 in omega arith

pub members_pairs : (reach : User → Option Context) (R : Member → Member → Type 0) (whole users : List User) (limit low : ℕ) → ((user : User) → Contains users user → Contains whole user)
    → SlotsRise limit low users
    → ((a b : User) (x y : Context) → Contains whole a → Contains whole b → a.slot.0 < b.slot.0 → R (member_by a x) (member_by b y))
    → AllPairs R (members reach users)
members_pairs reach R whole [] limit low part rise pairs = λ i j d above within. absurd (omega arith)
members_pairs reach R whole (user ∷ users) limit low part rise pairs =
    by_reach (reach user)
    (members_pairs reach R whole users limit (user.slot.0 + 1) (λ one has. part one (contains_later user one users has)) rise.1 pairs)
    (λ context. All-from_recursion (R (member_by user context)) (members reach users)
    (members_each reach (R (member_by user context)) users users (λ one has. has)
    (λ one other has is. pairs user one context other (part user (0, omega arith, refl)) (part one (contains_later user one users has))
    (let low_here = low_slot limit (user.slot.0 + 1) users one rise.1 has in omega arith))))
  where
    by_reach : (o : Option Context) → AllPairs R (members reach users) → ((context : Context) → All (R (member_by user context)) (members reach users))
        → AllPairs R (cons_option (option_map (member_by user) o) (members reach users))
    by_reach None rest first = rest
    by_reach (Some context) rest first = AllPairs-cons R (member_by user context) (members reach users) (first context) rest

pub members_contain : (reach : User → Option Context) (users : List User) (user : User) (context : Context) → Contains users user → reach user ≡ Some context
    → Contains (members reach users) (member_by user context)
members_contain reach [] user context has is = absurd (none_contained user has)
members_contain reach (first ∷ users) user context has is = by_place has (λ later. members_contain reach users user context later is) (reach first) refl
  where
    by_place : Contains (first ∷ users) user → (Contains users user → Contains (members reach users) (member_by user context)) → (o : Option Context) → reach first ≡ o
        → Contains (cons_option (option_map (member_by first) o) (members reach users)) (member_by user context)
    by_place (zero, within, same) later None none = absurd (none-some context (sym none ∙ ap reach same ∙ is))
    by_place (zero, within, same) later (Some other) told =
        let one : other ≡ context = same_Some other context (sym told ∙ ap reach same ∙ is) in
        (0, omega arith, ap (λ (c : Context). member_by first c) one ∙ ap (λ (u : User). member_by u context) same)
    by_place (suc k, within, same) later None none = later (k, omega arith, same)
    by_place (suc k, within, same) later (Some other) told = contains_later (member_by first other) (member_by user context) (members reach users) (later (k, omega arith, same))

-- ---- the route

-- a session that is not silent reaches those who hear it
pub route_of_heard : (state : StateValue) (speaker : SessionId) (target : ℕ) (own : User) → target ≢ LOOPBACK → session_of state.roster speaker ≡ Some own → is_silent own ≡ false
    → route state speaker target ≡ members (heard_as state own target) state.roster.sessions
route_of_heard state speaker target own away found heard =
    ap (λ (o : Option User). option_map_or (λ user. heard_from state user target) o []) found
    ∙ ap (λ (b : Bool). cond b [] (cond (eqb target LOOPBACK) (member_by own Talk ∷ []) (reached_of state own target state.roster.sessions))) heard
    ∙ ap (λ (b : Bool). cond b (member_by own Talk ∷ []) (reached_of state own target state.roster.sessions)) (ne_eqb target LOOPBACK away)
    ∙ sym (passing_members (can_hear own.session) (context_of state own target) state.roster.sessions)

pub route_of_silent : (state : StateValue) (speaker : SessionId) (target : ℕ) (own : User) → session_of state.roster speaker ≡ Some own → is_silent own ≡ true
    → route state speaker target ≡ []
route_of_silent state speaker target own found silent =
    ap (λ (o : Option User). option_map_or (λ user. heard_from state user target) o []) found
    ∙ ap (λ (b : Bool). cond b [] (cond (eqb target LOOPBACK) (member_by own Talk ∷ []) (reached_of state own target state.roster.sessions))) silent

pub route_of_none : (state : StateValue) (speaker : SessionId) (target : ℕ) → session_of state.roster speaker ≡ None → route state speaker target ≡ []
route_of_none state speaker target none = ap (λ (o : Option User). option_map_or (λ user. heard_from state user target) o []) none

pub route_of_loopback : (state : StateValue) (speaker : SessionId) (own : User) → session_of state.roster speaker ≡ Some own → is_silent own ≡ false
    → route state speaker LOOPBACK ≡ (own.session, 0) ∷ []
route_of_loopback state speaker own found heard =
    ap (λ (o : Option User). option_map_or (λ user. heard_from state user LOOPBACK) o []) found
    ∙ ap (λ (b : Bool). cond b [] (member_by own Talk ∷ [])) heard

-- who is heard, and who hears it
pub record IsHearing (state : StateValue) (speaker : SessionId) (target : ℕ) (own user : User) (context : Context) : Type 0 where
  pub found : session_of state.roster speaker ≡ Some own
  pub there : Contains state.roster.sessions user
  pub can : can_hear own.session user ≡ true
  pub is : context_of state own target user ≡ Some context

heard_parts : (can : Bool) (o : Option Context) (context : Context) → cond can o None ≡ Some context → (can ≡ true) × (o ≡ Some context)
heard_parts true o context is = (refl, is)
heard_parts false o context is = absurd (none-some context is)

-- what holds of each who hears holds of each member
pub each_hearing : (state : StateValue) (speaker : SessionId) (target : ℕ) (P : Member → Type 0) → target ≢ LOOPBACK
    → ((own user : User) (context : Context) → IsHearing state speaker target own user context → P (member_by user context))
    → All P (route state speaker target)
each_hearing state speaker target P away each = by_found (session_of state.roster speaker) refl
  where
    by_silence : (own : User) → session_of state.roster speaker ≡ Some own → (b : Bool) → is_silent own ≡ b → All P (route state speaker target)
    by_silence own found true silent = subst (All P) (sym (route_of_silent state speaker target own found silent)) (All-nil P)
    by_silence own found false heard =
        subst (All P) (sym (route_of_heard state speaker target own away found heard))
        (All-from_recursion P (members (heard_as state own target) state.roster.sessions)
        (members_each (heard_as state own target) P state.roster.sessions state.roster.sessions (λ user has. has)
        (λ user context has is. let parts = heard_parts (can_hear own.session user) (context_of state own target user) context is in
        each own user context (record { found = found; there = has; can = parts.0; is = parts.1 }))))

    by_found : (o : Option User) → session_of state.roster speaker ≡ o → All P (route state speaker target)
    by_found None none = subst (All P) (sym (route_of_none state speaker target none)) (All-nil P)
    by_found (Some own) found = by_silence own found (is_silent own) refl

pairs_of_none : {X : Type 0} (R : X → X → Type 0) → AllPairs R []
pairs_of_none R = λ i j d above within. absurd (omega arith)

pairs_of_one : {X : Type 0} (R : X → X → Type 0) (x : X) → AllPairs R (x ∷ [])
pairs_of_one R x = λ i j d above within. absurd (omega arith)

-- what holds of each two sessions in the order of their slots holds of each two members
pub pairs_hearing : (state : StateValue) (speaker : SessionId) (target : ℕ) (R : Member → Member → Type 0) → IsProper state
    → ((a b : User) (x y : Context) → Contains state.roster.sessions a → Contains state.roster.sessions b → a.slot.0 < b.slot.0 → R (member_by a x) (member_by b y))
    → AllPairs R (route state speaker target)
pairs_hearing state speaker target R proper pairs = by_found (session_of state.roster speaker) refl
  where
    by_target : (own : User) → session_of state.roster speaker ≡ Some own → is_silent own ≡ false → AllPairs R (route state speaker target)
    by_target own found heard =
        ⊎_elim
        (λ (loop : target ≡ LOOPBACK).
        subst (λ (n : ℕ). AllPairs R (route state speaker n)) (sym loop)
        (subst (AllPairs R) (sym (route_of_loopback state speaker own found heard)) (pairs_of_one R (own.session, 0))))
        (λ (away : target ≢ LOOPBACK).
        subst (AllPairs R) (sym (route_of_heard state speaker target own away found heard))
        (members_pairs (heard_as state own target) R state.roster.sessions state.roster.sessions state.roster.limit 0 (λ user has. has) proper.roster.slots pairs))
        (cases_eq target LOOPBACK)

    by_silence : (own : User) → session_of state.roster speaker ≡ Some own → (b : Bool) → is_silent own ≡ b → AllPairs R (route state speaker target)
    by_silence own found true silent = subst (AllPairs R) (sym (route_of_silent state speaker target own found silent)) (pairs_of_none R)
    by_silence own found false heard = by_target own found heard

    by_found : (o : Option User) → session_of state.roster speaker ≡ o → AllPairs R (route state speaker target)
    by_found None none = subst (AllPairs R) (sym (route_of_none state speaker target none)) (pairs_of_none R)
    by_found (Some own) found = by_silence own found (is_silent own) refl
