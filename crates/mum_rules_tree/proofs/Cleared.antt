-- Where nothing forbids a command, each thing that might is not so.
use Rattle.mum_rules_tree.proofs.Common.{◌≡◌, Bool, true, false, cond, List, [], ◌∷◌, Option, Some, None, refl, ⊤, find, option_map, option_map_or, Verdict, StateValue, Case, FitsWhereAccepted, first_standing}

cleared_at : {Code : Type 0} (b : Bool) (one : Case Code) (rest : Option (Case Code)) → option_map (λ (c : Case Code). c.code) (cond b (Some one) rest) ≡ None → (b ≡ false) × (option_map (λ (c : Case Code). c.code) rest ≡ None)
cleared_at true one rest none = cc
cleared_at false one rest none = (refl, none)

-- none of these applies
abbrev pub AllOff : {Code : Type 0} → List (Case Code) → Type 0
AllOff [] = ⊤
AllOff (one ∷ cases) = (one.stands ≡ false) × AllOff cases

pub all_off : {Code : Type 0} (cases : List (Case Code)) → first_standing cases ≡ None → AllOff cases
all_off [] none = tt
all_off (one ∷ cases) none =
    let (off, rest) = cleared_at one.stands one (find (λ c. c.stands) cases) none in
    (off, all_off cases rest)

-- a verdict fits unless something denies it, where what denies it is no edit
pub fits_unless : {X : Type 0} (state : StateValue) (denied : X → Verdict) (first : Option X) (verdict : Verdict) → ((x : X) → FitsWhereAccepted state (denied x)) → (first ≡ None → FitsWhereAccepted state verdict) → FitsWhereAccepted state (option_map_or denied first verdict)
fits_unless state denied None verdict no_edit rest = rest refl
fits_unless state denied (Some x) verdict no_edit rest = no_edit x
