-- Findings of which none is one.
use Rattle.mum_audit.proofs.Common.{◌≡◌, ℕ, Bool, true, false, cond, List, [], ◌∷◌, ◌++◌, Option, Some, None, refl, cond-true, Finding, first_wrong, next_line}

-- nothing is wrong
abbrev pub AreNone : List (Option Finding) → Type 0
AreNone [] = Unit {0}
AreNone (found ∷ others) = (found ≡ None) × AreNone others

pub none_wrong : (line : ℕ) (found : List (Option Finding)) → AreNone found → first_wrong line found ≡ None
unfolding first_wrong
none_wrong line [] none = refl
none_wrong line (None ∷ others) none = none_wrong (next_line line) others none.1
none_wrong line (Some finding ∷ others) none = let found = none.0 in cc found

pub none_from : (line : ℕ) (found : List (Option Finding)) → first_wrong line found ≡ None → AreNone found
unfolding first_wrong
none_from line [] none = tt
none_from line (None ∷ others) none = (refl, none_from (next_line line) others none)
none_from line (Some finding ∷ others) none = cc none

pub none_both : (above below : List (Option Finding)) → AreNone above → AreNone below → AreNone (above ++ below)
none_both [] below none others = others
none_both (found ∷ above) below none others = (none.0, none_both above below none.1 others)

pub none_above : (above below : List (Option Finding)) → AreNone (above ++ below) → AreNone above
none_above [] below none = tt
none_above (found ∷ above) below none = (none.0, none_above above below none.1)

pub none_below : (above below : List (Option Finding)) → AreNone (above ++ below) → AreNone below
none_below [] below none = none
none_below (found ∷ above) below none = none_below above below none.1

-- a finding unless a test is met
pub test_met : {X : Type 0} (test : Bool) (x : X) → cond test None (Some x) ≡ None → test ≡ true
test_met true x none = refl
test_met false x none = cc none

pub met_none : {X : Type 0} (test : Bool) (x : X) → test ≡ true → cond test None (Some x) ≡ None
met_none test x met = cond-true test None (Some x) met
