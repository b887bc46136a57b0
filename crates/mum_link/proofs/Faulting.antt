-- What keeps the cause of a fault true.
use Rattle.mum_link.proofs.Common.{◌≡◌, ℕ, zero, suc, ◌<◌, ◌∙◌, not, nat_lt, subst, Bool, true, false, Result, Ok, Err, Option, Some, None, is_some, unwrap_or, ◌⊎◌, inl, inr, refl, sym, ap, arith, lt-ltb, ltb-true, ForSome, Rose, PollWrite, has_waited, waits_since, error_kind, ErrorKind, Error, Closes, CountsFailedRead, CountsFailedWrite, CountsOneIf, IsBroken, Stays, has_cause, is_of_shut, is_passing, Fault, Call, TookNothing, LeftBehind, Stop, Shut, Patience}
use Rattle.mum_io.specs.declared.link.PollWrite.TheVariants as write

-- a count that rose is not 0
pub rose_above : (old new : ℕ) → Rose old new → 0 < new
rose_above old new (inl less) = omega arith
rose_above old new (inr (most, same)) = omega (arith, most, same)

-- a count of failures does not fall
pub does_not_fall : (failed : Bool) (old new : ℕ) → CountsOneIf failed old new → 0 < old → 0 < new
does_not_fall true old new rose some = rose_above old new rose
does_not_fall false old new same some = omega (arith, same, some)

-- while more calls fail, a fault has its cause still
pub cause_stays : (fault : Fault) (patience : Patience) (since : Option ℕ) (old new : ℕ) → (0 < old → 0 < new)
    → has_cause fault old patience since ≡ true → has_cause fault new patience since ≡ true
cause_stays Call patience since old new more cause = lt-ltb 0 new (more (ltb-true 0 old cause))
cause_stays (TookNothing now) patience since old new more cause = cause
cause_stays (LeftBehind now) patience since old new more cause = cause
cause_stays (Stop ending) patience since old new more cause = cause
cause_stays Shut patience since old new more cause = refl

some_is : (one other : Fault) → Some one ≡ Some other → one ≡ other
some_is one other is = cc

-- a call that failed is the cause of a fault
pub has_failed : (old new : ℕ) → Rose old new → nat_lt 0 new ≡ true
has_failed old new rose = lt-ltb 0 new (rose_above old new rose)

pub read_has_failed : (error : Error) (kind : ErrorKind) (old new : ℕ) → CountsFailedRead (Err error) old new → kind ≡ error_kind error
    → is_passing kind ≡ false → nat_lt 0 new ≡ true
read_has_failed error kind old new counts same failed =
    has_failed old new (subst (λ (b : Bool). CountsOneIf (not b) old new) (ap is_passing (sym same) ∙ failed) counts)

-- as long as only calls failed, each fault keeps its cause
causes_stay : (fault : Option Fault) (patience : Patience) (since : Option ℕ) (old new : ℕ) → (0 < old → 0 < new)
    → ForSome fault (λ cause. has_cause cause old patience since ≡ true) → ForSome fault (λ cause. has_cause cause new patience since ≡ true)
causes_stay fault patience since old new more has cause is = cause_stays cause patience since old new more (has cause is)

pub causes_after_read : (fault : Option Fault) (patience : Patience) (since : Option ℕ) (answer : Result ℕ Error) (old new : ℕ) → CountsFailedRead answer old new
    → ForSome fault (λ cause. has_cause cause old patience since ≡ true) → ForSome fault (λ cause. has_cause cause new patience since ≡ true)
causes_after_read fault patience since (Ok count) old new counts = causes_stay fault patience since old new (λ some. omega (arith, counts, some))
causes_after_read fault patience since (Err error) old new counts =
    causes_stay fault patience since old new (does_not_fall (not (is_passing (error_kind error))) old new counts)

pub causes_after_write : (fault : Option Fault) (patience : Patience) (since : Option ℕ) (answer : Result ℕ Error) (old new : ℕ) → CountsFailedWrite answer old new
    → ForSome fault (λ cause. has_cause cause old patience since ≡ true) → ForSome fault (λ cause. has_cause cause new patience since ≡ true)
causes_after_write fault patience since (Ok zero) old new counts = causes_stay fault patience since old new (λ some. rose_above old new (counts.1 refl))
causes_after_write fault patience since (Ok (suc count)) old new counts =
    causes_stay fault patience since old new (λ some. let same = counts.0 (omega arith) in omega (arith, same, some))
causes_after_write fault patience since (Err error) old new counts =
    causes_stay fault patience since old new (does_not_fall (not (is_passing (error_kind error))) old new counts)

pub causes_after_wait : (fault : Option Fault) (patience : Patience) (since : Option ℕ) (answer : Bool) (old new : ℕ) → CountsOneIf (not answer) old new
    → ForSome fault (λ cause. has_cause cause old patience since ≡ true) → ForSome fault (λ cause. has_cause cause new patience since ≡ true)
causes_after_wait fault patience since answer old new counts = causes_stay fault patience since old new (does_not_fall (not answer) old new counts)

-- where there is no fault, none wants a cause
pub none_wants_a_cause : (fault : Option Fault) (failures : ℕ) (patience : Patience) (since : Option ℕ) → fault ≡ None
    → ForSome fault (λ cause. has_cause cause failures patience since ≡ true)
none_wants_a_cause fault failures patience since none cause is = absurd (let e = sym none ∙ is in cc)

-- whose client had hung up, and who waited for long enough, has
has_waited_still : (since : Option ℕ) (hung_up : Bool) (now : ℕ) → has_waited since hung_up now ≡ true
    → has_waited (waits_since since hung_up now) true now ≡ true
has_waited_still since true now waited = waited
has_waited_still since false now waited = absurd cc

pub waited_still : (since after : Option ℕ) (hung_up over : Bool) (now : ℕ) → after ≡ waits_since since hung_up now
    → over ≡ has_waited since hung_up now → over ≡ true → has_waited after true now ≡ true
waited_still since after hung_up over now waits asked holds =
    ap (λ (s : Option ℕ). has_waited s true now) waits ∙ has_waited_still since hung_up now (sym asked ∙ holds)

-- a write that took nothing has failed, and a wait for room that cannot be
pub write_took_nothing : (count old new : ℕ) → CountsFailedWrite (Ok count) old new → count ≡ 0 → nat_lt 0 new ≡ true
write_took_nothing count old new counts none = has_failed old new (counts.1 none)

pub write_has_failed : (error : Error) (kind : ErrorKind) (old new : ℕ) → CountsFailedWrite (Err error) old new → kind ≡ error_kind error
    → is_passing kind ≡ false → nat_lt 0 new ≡ true
write_has_failed error kind old new counts same failed = read_has_failed error kind old new counts same failed

pub wait_has_failed : (answer : Bool) (old new : ℕ) → CountsOneIf (not answer) old new → answer ≡ false → nat_lt 0 new ≡ true
wait_has_failed answer old new counts fails = has_failed old new (subst (λ (b : Bool). CountsOneIf (not b) old new) fails counts)

-- where as many calls have failed, each fault keeps its cause
pub causes_same : (fault : Option Fault) (patience : Patience) (since : Option ℕ) (old new : ℕ) → new ≡ old
    → ForSome fault (λ cause. has_cause cause old patience since ≡ true) → ForSome fault (λ cause. has_cause cause new patience since ≡ true)
causes_same fault patience since old new same = causes_stay fault patience since old new (λ some. omega (arith, same, some))

-- the first fault has its cause, if both have
pub cause_first : (old : Option Fault) (fault : Fault) (failures : ℕ) (patience : Patience) (since : Option ℕ) → has_cause fault failures patience since ≡ true
    → ForSome old (λ cause. has_cause cause failures patience since ≡ true)
    → ForSome (Some (unwrap_or old fault)) (λ cause. has_cause cause failures patience since ≡ true)
cause_first None fault failures patience since has olds cause is =
    subst (λ (f : Fault). has_cause f failures patience since ≡ true) (some_is fault cause is) has
cause_first (Some first) fault failures patience since has olds cause is = olds cause is

-- ---- which faults follow which

-- what stays over one call and the next stays over both
pub stays_on : (old mid new : Option Fault) → Stays old mid → Stays mid new → Stays old new
stays_on None None new first next = next
stays_on None (Some fault) new first next = ap is_of_shut next ∙ first
stays_on (Some fault) None new first next = absurd cc
stays_on (Some fault) (Some other) new first next = next ∙ first

-- a fault of a link that was shut was there before
pub shut_before : (old new : Option Fault) → Stays old new → is_of_shut new ≡ true → is_of_shut old ≡ true
shut_before None new stays shut = absurd (let e = sym shut ∙ stays in cc)
shut_before (Some fault) new stays shut = sym (ap is_of_shut stays) ∙ shut

-- a fault stays there
pub broken_still : (old new : Option Fault) → Stays old new → IsBroken old → IsBroken new
broken_still None new stays broken = absurd cc
broken_still (Some fault) new stays broken = ap is_some stays

-- who was shut has a fault
pub closes_broken : (old new : Option Fault) → Closes old new → IsBroken new
closes_broken None new closes = ap is_some closes
closes_broken (Some fault) new closes = ap is_some closes

pub stays_same : (fault : Option Fault) → Stays fault fault
stays_same None = refl
stays_same (Some fault) = refl

-- there was none where there is none
pub none_before : (old new : Option Fault) → Stays old new → is_some new ≡ false → (old ≡ None) × (new ≡ None)
none_before None None stays none = (refl, refl)
none_before None (Some fault) stays none = absurd cc
none_before (Some fault) None stays none = absurd cc
none_before (Some fault) (Some other) stays none = absurd cc

-- the first fault stays
pub stays_first : (old : Option Fault) (fault : Fault) → is_of_shut (Some fault) ≡ false → Stays old (Some (unwrap_or old fault))
stays_first None fault open_still = open_still
stays_first (Some first) fault open_still = refl

pub closes_first : (old : Option Fault) → Closes old (Some (unwrap_or old Shut))
closes_first None = refl
closes_first (Some first) = refl

-- whether there is a fault
pub broken_is : (fault : Option Fault) (answer : Bool) → answer ≡ is_some fault → answer ≡ true → IsBroken fault
broken_is fault answer is holds = sym is ∙ holds

pub none_is : (fault : Option Fault) (answer : Bool) → answer ≡ is_some fault → answer ≡ false → fault ≡ None
none_is None answer is fails = refl
none_is (Some fault) answer is fails = absurd (let e = sym is ∙ fails in cc)

pub not_broken : (fault : Option Fault) (answer : Bool) → answer ≡ is_some fault → answer ≡ false → IsBroken fault → ⊥
not_broken None answer is fails broken = absurd cc
not_broken (Some fault) answer is fails broken = absurd (let e = sym is ∙ fails in cc)

-- what has found no room or failed took nothing
pub took_neither : (answer : PollWrite) (count : ℕ) → (answer ≡ write.NotYet) ⊎ (answer ≡ write.Failed) → answer ≡ write.Took count → ⊥
took_neither answer count (inl found) took = absurd (let e = sym found ∙ took in cc)
took_neither answer count (inr failed) took = absurd (let e = sym failed ∙ took in cc)

pub none_not_broken : (fault : Option Fault) → fault ≡ None → IsBroken fault → ⊥
none_not_broken fault none broken = absurd (let e = ap is_some (sym none) ∙ broken in cc)

pub closes_from : (old mid new : Option Fault) → mid ≡ old → Closes mid new → Closes old new
closes_from old mid new same closes = subst (λ (f : Option Fault). Closes f new) same closes
