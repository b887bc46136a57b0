-- Sessions that are listed: each once, and no more than there are in the state.
use Rattle.mum_control.proofs.Common.{◌≡◌, ℕ, ◌+◌, ◌<◌, ◌≤◌, ◌||◌, ◌&&◌, Bool, true, false, cond, not, List, [], ◌∷◌, ◌++◌, length, Some, refl, ap, sym, subst, ◌∙◌, arith, length-append, ◌==◌, filter, find, is_some, IsTrue, AllByRecursion, and_parts, eqb-true, eqb-false, ne_eqb, length-filter_both, SessionId, SLOTS, User, SlotsRise, has_number, IsProper, StateValue, AreApart, IsListing, is_listed, is_there, with_lagging}

-- ---- two tests of which neither holds

or_more : (first rest more : Bool) → IsTrue (not (first || rest)) → (IsTrue (not rest) → IsTrue (not more)) → IsTrue (not (first || more))
or_more true rest more none on = cc
or_more false rest more none on = on none

neither : (first rest : Bool) → IsTrue (not (first || rest)) → (first ≡ false) × IsTrue (not rest)
neither true rest none = cc
neither false rest none = (refl, none)

swapped : (a b : ℕ) → (a == b) ≡ false → (b == a) ≡ false
swapped a b other = ne_eqb b a (λ same. eqb-false a b other (sym same))

-- ---- a session more

not_listed_more : (sessions : List SessionId) (session first : SessionId) → IsTrue (not (is_listed sessions first)) → (session.0 == first.0) ≡ false
    → IsTrue (not (is_listed (sessions ++ session ∷ []) first))
not_listed_more [] session first none other = rw other refl
not_listed_more (x ∷ sessions) session first none other =
    or_more (x.0 == first.0) (is_listed sessions first) (is_listed (sessions ++ session ∷ []) first) none
    (λ rest. not_listed_more sessions session first rest other)

apart_more : (sessions : List SessionId) (session : SessionId) → AreApart sessions → IsTrue (not (is_listed sessions session)) → AreApart (sessions ++ session ∷ [])
apart_more [] session apart none = (refl, tt)
apart_more (first ∷ sessions) session apart none =
    let parts = neither (first.0 == session.0) (is_listed sessions session) none in
    (not_listed_more sessions session first apart.0 (swapped first.0 session.0 parts.0), apart_more sessions session apart.1 parts.1)

present_more : (P : SessionId → Type 0) (sessions : List SessionId) (session : SessionId) → AllByRecursion P sessions → P session → AllByRecursion P (sessions ++ session ∷ [])
present_more P [] session all here = (here, tt)
present_more P (first ∷ sessions) session all here = (all.0, present_more P sessions session all.1 here)

-- a session that is there and is not listed is listed
pub listing_more : (state : StateValue) (sessions : List SessionId) (session : SessionId) → IsListing state sessions → IsTrue (is_there state session)
    → IsTrue (not (is_listed sessions session)) → IsListing state (sessions ++ session ∷ [])
listing_more state sessions session listing there none = record {
  apart = apart_more sessions session listing.apart none;
  present = present_more (λ (s : SessionId). IsTrue (is_there state s)) sessions session listing.present there;
}

-- ---- those that a test leaves

not_listed_fewer_by : (b same rest fewer : Bool) → IsTrue (not (same || rest)) → (IsTrue (not rest) → IsTrue (not fewer)) → IsTrue (not (cond b (same || fewer) fewer))
not_listed_fewer_by true same rest fewer none on = or_more same rest fewer none on
not_listed_fewer_by false true rest fewer none on = cc
not_listed_fewer_by false false rest fewer none on = on none

is_listed_by : (b : Bool) (x : SessionId) (sessions : List SessionId) (first : SessionId)
    → is_listed (cond b (x ∷ sessions) sessions) first ≡ cond b ((x.0 == first.0) || is_listed sessions first) (is_listed sessions first)
is_listed_by true x sessions first = refl
is_listed_by false x sessions first = refl

not_listed_fewer : (p : SessionId → Bool) (sessions : List SessionId) (first : SessionId) → IsTrue (not (is_listed sessions first)) → IsTrue (not (is_listed (filter p sessions) first))
not_listed_fewer p [] first none = none
not_listed_fewer p (x ∷ sessions) first none =
    rw (is_listed_by (p x) x (filter p sessions) first)
    (not_listed_fewer_by (p x) (x.0 == first.0) (is_listed sessions first) (is_listed (filter p sessions) first) none (λ rest. not_listed_fewer p sessions first rest))

apart_fewer_by : (b : Bool) (first : SessionId) (sessions : List SessionId) → IsTrue (not (is_listed sessions first)) → AreApart sessions → AreApart (cond b (first ∷ sessions) sessions)
apart_fewer_by true first sessions none apart = (none, apart)
apart_fewer_by false first sessions none apart = apart

apart_fewer : (p : SessionId → Bool) (sessions : List SessionId) → AreApart sessions → AreApart (filter p sessions)
apart_fewer p [] apart = tt
apart_fewer p (first ∷ sessions) apart =
    apart_fewer_by (p first) first (filter p sessions) (not_listed_fewer p sessions first apart.0) (apart_fewer p sessions apart.1)

passing_by : (p : SessionId → Bool) (b : Bool) (first : SessionId) (sessions : List SessionId) → p first ≡ b → AllByRecursion (λ session. IsTrue (p session)) sessions
    → AllByRecursion (λ session. IsTrue (p session)) (cond b (first ∷ sessions) sessions)
passing_by p true first sessions is all = (is, all)
passing_by p false first sessions is all = all

passing : (p : SessionId → Bool) (sessions : List SessionId) → AllByRecursion (λ session. IsTrue (p session)) (filter p sessions)
passing p [] = tt
passing p (first ∷ sessions) = passing_by p (p first) first (filter p sessions) refl (passing p sessions)

-- of those that are listed, the ones that are in another state are listed there
pub listing_present : (state after : StateValue) (sessions : List SessionId) → IsListing state sessions → IsListing after (filter (is_there after) sessions)
listing_present state after sessions listing = record {
  apart = apart_fewer (is_there after) sessions listing.apart;
  present = passing (is_there after) sessions;
}

-- ---- no more than there are in the state

abbrev is_in : List User → SessionId → Bool
is_in users session = is_some (find (has_number session) users)

abbrev is_other : SessionId → User → Bool
is_other session user = not (has_number session user)

fewer_by : (b : Bool) (session : SessionId) (user : User) (users : List User) → length (filter (is_other session) users) ≤ length users
    → (IsTrue (is_in users session) → length (filter (is_other session) users) < length users)
    → IsTrue (is_some (cond b (Some user) (find (has_number session) users)))
    → length (cond (not b) (user ∷ filter (is_other session) users) (filter (is_other session) users)) < length users + 1
fewer_by true session user users most on here = omega arith
fewer_by false session user users most on here = let rest = on here in omega arith

others_few : (session : SessionId) (users : List User) → length (filter (is_other session) users) ≤ length users
others_few session users =
    let both : length (filter (has_number session) users) + length (filter (is_other session) users) ≡ length users =
    length-filter_both (has_number session) (is_other session) (λ user. refl) users in
    omega arith

fewer : (session : SessionId) (users : List User) → IsTrue (is_in users session) → length (filter (is_other session) users) < length users
fewer session [] here = cc
fewer session (user ∷ users) here =
    let less = fewer_by (has_number session user) session user users (others_few session users) (fewer session users) here in
    omega arith

stays_by : (b d : Bool) (other : SessionId) (user : User) (users left : List User) → (b ≡ true → d ≡ true → ⊥) → has_number other user ≡ d
    → (IsTrue (is_in users other) → IsTrue (is_in left other)) → IsTrue (is_some (cond d (Some user) (find (has_number other) users)))
    → IsTrue (is_in (cond (not b) (user ∷ left) left) other)
stays_by true true other user users left apart is on here = absurd (apart refl refl)
stays_by true false other user users left apart is on here = on here
stays_by false true other user users left apart is on here = rw is refl
stays_by false false other user users left apart is on here = rw is (on here)

stays : (session other : SessionId) (users : List User) → (other.0 == session.0) ≡ false → IsTrue (is_in users other) → IsTrue (is_in (filter (is_other session) users) other)
stays session other [] apart here = here
stays session other (user ∷ users) apart here =
    stays_by (has_number session user) (has_number other user) other user users (filter (is_other session) users)
    (λ one two. eqb-false other.0 session.0 apart (sym (eqb-true user.session.0 other.0 two) ∙ eqb-true user.session.0 session.0 one))
    refl (stays session other users apart) here

all_stay : (session : SessionId) (users : List User) (sessions : List SessionId) → IsTrue (not (is_listed sessions session))
    → AllByRecursion (λ other. IsTrue (is_in users other)) sessions → AllByRecursion (λ other. IsTrue (is_in (filter (is_other session) users) other)) sessions
all_stay session users [] none here = tt
all_stay session users (other ∷ sessions) none here =
    let parts = neither (other.0 == session.0) (is_listed sessions session) none in
    (stays session other users parts.0 here.0, all_stay session users sessions parts.1 here.1)

few_listed : (users : List User) (sessions : List SessionId) → AreApart sessions → AllByRecursion (λ session. IsTrue (is_in users session)) sessions → length sessions ≤ length users
few_listed users [] apart here = omega arith
few_listed users (session ∷ sessions) apart here =
    let left : List User = filter (is_other session) users in
    let rest : length sessions ≤ length left = few_listed left sessions apart.1 (all_stay session users sessions apart.0 here.1) in
    let less : length left < length users = fewer session users here.0 in
    omega arith

few_users : (limit low : ℕ) (users : List User) → SlotsRise limit low users → low + length users ≤ limit
few_users limit low [] rise = omega (arith, rise)
few_users limit low (user ∷ users) rise =
    let rest : user.slot.0 + 1 + length users ≤ limit = few_users limit (user.slot.0 + 1) users rise.1 in
    let first : low ≤ user.slot.0 = rise.0 in
    omega arith

-- a listing has no more sessions than there are slots
pub few_sessions : (state : StateValue) (sessions : List SessionId) → IsProper state → IsListing state sessions → length sessions ≤ SLOTS
few_sessions state sessions proper listing =
    let listed : length sessions ≤ length state.roster.sessions = few_listed state.roster.sessions sessions listing.apart listing.present in
    let users : 0 + length state.roster.sessions ≤ state.roster.limit = few_users state.roster.limit 0 state.roster.sessions proper.roster.slots in
    let most : state.roster.limit ≤ SLOTS = proper.roster.limit_fits in
    omega arith

-- there is room to list one that is there and not listed
pub room_to_list : (state : StateValue) (sessions : List SessionId) (session : SessionId) (lags : Bool) (count capacity : ℕ) → IsProper state → IsListing state sessions
    → lags ≡ (is_there state session && not (is_listed sessions session)) → lags ≡ true → length sessions ≡ count → SLOTS ≤ capacity → count < capacity
room_to_list state sessions session lags count capacity proper listing is holds counted room =
    let both = and_parts (is_there state session) (not (is_listed sessions session)) (sym is ∙ holds) in
    let few : length (sessions ++ session ∷ []) ≤ SLOTS = few_sessions state (sessions ++ session ∷ []) proper (listing_more state sessions session listing both.0 both.1) in
    omega (arith, length-append sessions (session ∷ []), few, counted, room)

-- the list afterwards
pub listed_so : (state : StateValue) (sessions after : List SessionId) (session : SessionId) (lags : Bool) → IsListing state sessions
    → lags ≡ (is_there state session && not (is_listed sessions session)) → after ≡ cond lags (sessions ++ session ∷ []) sessions
    → (after ≡ with_lagging state sessions session) × IsListing state after
listed_so state sessions after session lags listing is listed =
    (listed ∙ ap (λ (b : Bool). cond b (sessions ++ session ∷ []) sessions) is, subst (IsListing state) (sym listed) (listed_by lags is))
  where
    listed_by : (b : Bool) → b ≡ (is_there state session && not (is_listed sessions session)) → IsListing state (cond b (sessions ++ session ∷ []) sessions)
    listed_by false e = listing
    listed_by true e =
        let both = and_parts (is_there state session) (not (is_listed sessions session)) (sym e) in
        listing_more state sessions session listing both.0 both.1
