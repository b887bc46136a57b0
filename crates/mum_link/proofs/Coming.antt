-- Who comes in at a door.
use Rattle.mum_link.proofs.Common.{◌≡◌, ℕ, ◌<◌, Bool, true, false, nat_lt, Option, Some, None, List, [], ◌++◌, refl, sym, ap, subst, ◌∙◌, arith, ltb-true, append-nil, ArrivalsState, arrivals_at, counts_one, state_of, room, Arrivals, CountsOne, HaveRoom, LetsIn, taken}

nobody : (answer : Bool) (now : ℕ) (old new : Option Arrivals) → HaveRoom answer now old new → LetsIn false now old new
nobody answer now None new may = may.1
nobody answer now (Some old) None may = absurd may
nobody answer now (Some old) (Some new) may = (may.0, may.1)

somebody : (now : ℕ) (old mid new : Option Arrivals) → HaveRoom true now old mid → CountsOne mid new → LetsIn true now old new
somebody now None None new may counted = counted
somebody now None (Some mid) new may counted = absurd (cc may.1)
somebody now (Some old) None new may counted = absurd may
somebody now (Some old) (Some mid) None may counted = absurd counted
somebody now (Some old) (Some mid) (Some new) may counted =
    let here = may.1 in
    let some : 0 < room old.rate (state_of mid).used = ltb-true 0 (room old.rate (state_of mid).used) (sym may.2) in (
      counted.0 ∙ may.0,
      counted.1 ∙ ap counts_one here,
      subst (λ (s : ArrivalsState). 0 < room old.rate s.used) here some,
    )

-- nobody comes in, whether there was room or not
pub stays_out : (answer : Bool) (now : ℕ) (old tried new : Option Arrivals) → tried ≡ old → HaveRoom answer now tried new → LetsIn false now old new
stays_out answer now old tried new same may = nobody answer now old new (subst (λ (a : Option Arrivals). HaveRoom answer now a new) same may)

-- somebody comes in where there was room, and is counted
pub comes_in : (answer : Bool) (now : ℕ) (old tried asked passed new : Option Arrivals) → tried ≡ old → HaveRoom answer now tried asked → answer ≡ true → passed ≡ asked
    → CountsOne passed new → LetsIn true now old new
comes_in answer now old tried asked passed new same may some on counted =
    somebody now old asked new
    (subst (λ (b : Bool). HaveRoom b now old asked) some (subst (λ (a : Option Arrivals). HaveRoom answer now a asked) same may))
    (subst (λ (a : Option Arrivals). CountsOne a new) on counted)

-- nothing is kept
pub none_kept : (written : Option (List ℕ)) (kept : List ℕ) → kept ≡ [] → taken written kept ≡ written
none_kept None kept none = refl
none_kept (Some bytes) kept none = ap Some (ap (λ (k : List ℕ). bytes ++ k) none ∙ append-nil bytes)
