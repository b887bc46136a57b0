-- Those who hear a packet, one by one, and the copies for them.
use Rattle.mum_core.proofs.Common.{◌≡◌, ℕ, suc, ◌<◌, Bool, true, false, List, [], ◌∷◌, length, map, Option, Some, None, refl, sym, ap, subst, ◌∙◌, arith, not, nat_lt, All, AllByRecursion, AllPairs, cons_option, option_map, and_parts, eq-eqb, false≢true, ltb-true, not-true, All-from_recursion, recursion_from_All, AllPairs-cons, same_Some, SessionId, User, has_number, IsProper, StateValue, Hearer, LOOPBACK, hearers_at, hearers_of, is_silent, IsInLowerSlot, Member, route, each_hearing, found_number, found_own, pairs_hearing, route_of_loopback, route_of_none, route_of_silent, each_hearer_by, each_seated, seated, Look, CoreState, state_at, worker_at, does, illegal, HeldPacket, WorkerState, idle}
use Rattle.mum_users.specs.Sessions.{session_of}
use Rattle.mum_core.proofs.{Changed.changed_same, RunLaws.none_stands, RunLaws.not_false}
use Rattle.mum_core.specs.steps.Look as look_step

-- ---- the speaker

never_to_speaker : (state : StateValue) (speaker : SessionId) (target : ℕ) → (target ≡ LOOPBACK → ⊥) → All (λ one. one.0.0 ≡ speaker.0 → ⊥) (route state speaker target)
never_to_speaker state speaker target away =
    each_hearing state speaker target (λ one. one.0.0 ≡ speaker.0 → ⊥) away
    (λ own user context is same.
    let number = found_number state.roster.sessions speaker own is.found in
    let other = not-true (has_number own.session user) (and_parts _ _ is.can).0 in
    false≢true (sym other ∙ eq-eqb user.session.0 own.session.0 (same ∙ ap (λ (s : SessionId). s.0) (sym number))))

pub nobody_hears_itself : (state : StateValue) (speaker : SessionId) (target : ℕ) → (target ≡ LOOPBACK → ⊥) → AllByRecursion (λ hearer. hearer.session.0 ≡ speaker.0 → ⊥) (hearers_at state speaker target)
nobody_hears_itself state speaker target away =
    each_hearer_by state speaker target (λ one. one.0.0 ≡ speaker.0 → ⊥) (λ hearer. hearer.session.0 ≡ speaker.0 → ⊥) (λ one user found other. other)
    (recursion_from_All (λ one. one.0.0 ≡ speaker.0 → ⊥) (route state speaker target) (never_to_speaker state speaker target away))

pub loopback_is_the_speaker : (state : StateValue) (speaker : SessionId) → AllByRecursion (λ hearer. hearer.session.0 ≡ speaker.0) (hearers_at state speaker LOOPBACK)
loopback_is_the_speaker state speaker =
    each_hearer_by state speaker LOOPBACK (λ one. one.0.0 ≡ speaker.0) (λ hearer. hearer.session.0 ≡ speaker.0) (λ one user found own. own) (by_found (session_of state.roster speaker) refl)
  where
    by_silence : (own : User) → session_of state.roster speaker ≡ Some own → (b : Bool) → is_silent own ≡ b → AllByRecursion (λ one. one.0.0 ≡ speaker.0) (route state speaker LOOPBACK)
    by_silence own found true silent = subst (AllByRecursion (λ (one : Member). one.0.0 ≡ speaker.0)) (sym (route_of_silent state speaker LOOPBACK own found silent)) tt
    by_silence own found false heard =
        subst (AllByRecursion (λ (one : Member). one.0.0 ≡ speaker.0)) (sym (route_of_loopback state speaker own found heard))
        (ap (λ (s : SessionId). s.0) (found_number state.roster.sessions speaker own found), tt)

    by_found : (o : Option User) → session_of state.roster speaker ≡ o → AllByRecursion (λ one. one.0.0 ≡ speaker.0) (route state speaker LOOPBACK)
    by_found None none = subst (AllByRecursion (λ (one : Member). one.0.0 ≡ speaker.0)) (sym (route_of_none state speaker LOOPBACK none)) tt
    by_found (Some own) found = by_silence own found (is_silent own) refl

-- ---- slots

-- the first is in a lower slot, and the two are not one session
abbrev pub IsApart : Hearer → Hearer → Type 0
IsApart hearer other = (hearer.slot.0 < other.slot.0) × (hearer.session.0 ≡ other.session.0 → ⊥)

abbrev pub AreApart : List Hearer → Type 0
AreApart [] = Unit {0}
AreApart (hearer ∷ rest) = AllByRecursion (IsApart hearer) rest × AreApart rest

apart_by : (state : StateValue) (speaker : SessionId) (one other : Member) (a b : User) → session_of state.roster one.0 ≡ Some a → session_of state.roster other.0 ≡ Some b
    → IsInLowerSlot state one other → IsApart (seated state speaker one a) (seated state speaker other b)
apart_by state speaker one other a b first second (low, high, found, again, below) =
    let here : a ≡ low = same_Some a low (sym first ∙ found) in
    let there : b ≡ high = same_Some b high (sym second ∙ again) in
    let rises : a.slot.0 < b.slot.0 = rw (here, there) below in (
      rises,
      λ same.
          let number : one.0 ≡ other.0 = ap (λ n. record { 0 = n }) same in
          let one_user : a ≡ b = same_Some a b (sym first ∙ ap (session_of state.roster) number ∙ second) in
          let slots = ap (λ (u : User). u.slot.0) one_user in
          omega (arith, rises, slots),
    )

found_apart : (state : StateValue) (speaker : SessionId) (ones : List Member) → AllPairs (IsInLowerSlot state) ones → AreApart (hearers_of state speaker ones)
found_apart state speaker [] pairs = tt
found_apart state speaker (one ∷ ones) pairs =
    by_found (session_of state.roster one.0) refl (found_apart state speaker ones (λ i j d before within. pairs (suc i) (suc j) d (omega arith) (omega arith)))
    (recursion_from_All (IsInLowerSlot state one) ones (λ i d within. pairs 0 (suc i) d (omega arith) (omega arith)))
  where
    by_found : (o : Option User) → session_of state.roster one.0 ≡ o → AreApart (hearers_of state speaker ones) → AllByRecursion (IsInLowerSlot state one) ones
        → AreApart (cons_option (option_map (seated state speaker one) o) (hearers_of state speaker ones))
    by_found None none rest lower = rest
    by_found (Some user) found rest lower = (
      each_seated state speaker (IsInLowerSlot state one) (IsApart (seated state speaker one user)) (λ other later again low. apart_by state speaker one other user later found again low) ones lower,
      rest,
    )

-- the slots of those who hear rise, and no two are one session
pub hearers_are_apart : (state : StateValue) (speaker : SessionId) (target : ℕ) → IsProper state → AreApart (hearers_at state speaker target)
hearers_are_apart state speaker target proper =
    found_apart state speaker (route state speaker target)
    (pairs_hearing state speaker target (IsInLowerSlot state) proper
    (λ a b x y first second below. (a, b, found_own state a proper first, found_own state b proper second, below)))

pub pairs_apart : (hearers : List Hearer) → AreApart hearers → AllPairs IsApart hearers
pairs_apart [] are = λ i j d before within. absurd (omega arith)
pairs_apart (hearer ∷ rest) are = AllPairs-cons IsApart hearer rest (All-from_recursion (IsApart hearer) rest are.0) (pairs_apart rest are.1)

-- ---- a look

pub copies_are_the_route : (core : CoreState) (w revision : ℕ) (held : HeldPacket) → illegal core (Look w revision) ≡ None → (worker_at core w).held ≡ Some held
    → (worker_at (does core (Look w revision)) w).copies ≡ map (look_step.outgoing held) (hearers_at (state_at core revision) held.speaker held.parts.target)
copies_are_the_route core w revision held h holds =
    let first = none_stands (not (nat_lt w (length core.workers))) _ _ h in
    let within : w < length core.workers = ltb-true w (length core.workers) (not_false (nat_lt w (length core.workers)) first.0) in
    ap (λ (x : WorkerState). x.copies) (changed_same core.workers w _ idle within) ∙ ap (look_step.copies (state_at core revision)) holds
