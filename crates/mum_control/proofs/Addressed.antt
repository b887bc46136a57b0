-- Notices are for slots that have a box.
use Rattle.mum_control.proofs.Common.{◌≡◌, ℕ, zero, suc, ◌+◌, ◌<◌, ◌≤◌, Bool, true, false, cond, Option, Some, List, [], ◌∷◌, ◌++◌, length, inl, inr, sym, subst, arith, find, slice_index_or, All, AllByRecursion, Contains, SessionId, Slot, SLOTS, User, SlotsRise, session_of, has_number, Edit, IsProper, StateValue, Notice, IsAddressee, notices, each_has_its_session_lem, IsInSlot}

-- ---- a user's slot is below the limit

low_limit : (limit low : ℕ) (users : List User) → SlotsRise limit low users → low ≤ limit
low_limit limit low [] rise = rise
low_limit limit low (user ∷ users) rise =
    let rest : user.slot.0 + 1 ≤ limit = low_limit limit (user.slot.0 + 1) users rise.1 in
    let first : low ≤ user.slot.0 = rise.0 in
    omega arith

slot_at : (limit low : ℕ) (users : List User) (k : ℕ) (d : User) → SlotsRise limit low users → k < length users → (slice_index_or users k d).slot.0 < limit
slot_at limit low [] k d rise within = absurd (omega arith)
slot_at limit low (user ∷ users) zero d rise within =
    let rest : user.slot.0 + 1 ≤ limit = low_limit limit (user.slot.0 + 1) users rise.1 in
    omega arith
slot_at limit low (user ∷ users) (suc k) d rise within = slot_at limit (user.slot.0 + 1) users k d rise.1 (omega (arith, within))

found_by : (b : Bool) (limit : ℕ) (x user : User) (rest : Option User) → cond b (Some x) rest ≡ Some user → x.slot.0 < limit → (rest ≡ Some user → user.slot.0 < limit) → user.slot.0 < limit
found_by true limit x user rest found here later = let same : x ≡ user = cc in subst (λ (one : User). one.slot.0 < limit) same here
found_by false limit x user rest found here later = later found

found_in_slot : (limit low : ℕ) (session : SessionId) (users : List User) (user : User) → SlotsRise limit low users → find (has_number session) users ≡ Some user → user.slot.0 < limit
found_in_slot limit low session [] user rise found = cc
found_in_slot limit low session (x ∷ users) user rise found =
    let rest : x.slot.0 + 1 ≤ limit = low_limit limit (x.slot.0 + 1) users rise.1 in
    found_by (has_number session x) limit x user (find (has_number session) users) found (omega arith) (found_in_slot limit (x.slot.0 + 1) session users user rise.1)

-- the slots of a proper state have boxes, whatever its limit is
has_box : (state : StateValue) (slot : ℕ) → IsProper state → slot < state.roster.limit → slot < SLOTS
has_box state slot proper below = let most : state.roster.limit ≤ SLOTS = proper.roster.limit_fits in omega (arith, below, most)

-- the slot of a session that is in a proper state has a box
pub session_in_slot : (state : StateValue) (session : SessionId) (user : User) → IsProper state → session_of state.roster session ≡ Some user → user.slot.0 < SLOTS
session_in_slot state session user proper found =
    has_box state user.slot.0 proper (found_in_slot state.roster.limit 0 session state.roster.sessions user proper.roster.slots found)

user_in_slot : (state : StateValue) (user : User) → IsProper state → Contains state.roster.sessions user → user.slot.0 < SLOTS
user_in_slot state user proper (k, within, is) =
    has_box state user.slot.0 proper
    (subst (λ (one : User). one.slot.0 < state.roster.limit) is (slot_at state.roster.limit 0 state.roster.sessions k user proper.roster.slots within))

addressee_in_slot : (before : StateValue) (edit : Edit) (after : StateValue) (user : User) → IsProper before → IsProper after → IsAddressee before edit after user → user.slot.0 < SLOTS
addressee_in_slot before edit after user first last (inl there) = user_in_slot after user last there
addressee_in_slot before edit after user first last (inr kicked) = user_in_slot before user first kicked.2

one_by_one : {A : Type 0} (P : A → Type 0) (xs : List A) → All P xs → AllByRecursion P xs
one_by_one P [] all = tt
one_by_one P (x ∷ xs) all = (all 0 x (omega arith), one_by_one P xs (λ k d within. all (suc k) d (omega (arith, within))))

pub notices_in_slots : (before : StateValue) (edit : Edit) (after : StateValue) → IsProper before → IsProper after → AllByRecursion IsInSlot (notices before edit after)
notices_in_slots before edit after first last =
    one_by_one IsInSlot (notices before edit after) (λ k d within.
    let told = each_has_its_session_lem before edit after k d within in
    let low = addressee_in_slot before edit after told.0 first last told.1 in
    subst (λ (slot : Slot). slot.0 < SLOTS) (sym told.2.1) low)

-- ---- those after others

pub all_joined : (xs ys : List Notice) → AllByRecursion IsInSlot xs → AllByRecursion IsInSlot ys → AllByRecursion IsInSlot (xs ++ ys)
all_joined [] ys all others = others
all_joined (x ∷ xs) ys all others = (all.0, all_joined xs ys all.1 others)
