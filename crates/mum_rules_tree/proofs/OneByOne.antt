-- Needs one after another: the first that is not met is what is missing.
use Rattle.mum_rules_tree.proofs.Common.{◌≡◌, Bool, true, false, not, cond, List, [], ◌∷◌, ◌++◌, Option, Some, None, Result, Ok, Err, refl, ap, sym, ◌∙◌, ⊤, find, option_map, option_map_or, Verdict, Lacks, Refused, StateValue, Lack, DenyType, deny_code, Case, Need, all_met, first_lack, first_standing, is_met, lack_of, unless_lacking, unless_refused}

-- what is answered where this need is the first that is not met
abbrev answer : Option Need → Result ⊤ Lack
answer found = option_map_or (λ lack. Err lack) (option_map lack_of found) (Ok tt)

on_at : (met : Bool) (wanted : Need) (rest more : Option Need) (given : Result ⊤ Lack) → answer (cond (not met) (Some wanted) rest) ≡ Ok tt → (answer rest ≡ Ok tt → answer more ≡ given) → answer (cond (not met) (Some wanted) more) ≡ given
on_at true wanted rest more given ok on = on ok
on_at false wanted rest more given ok on = cc

stop_at : (met : Bool) (wanted : Need) (rest more : Option Need) (lack : Lack) → answer (cond (not met) (Some wanted) rest) ≡ Err lack → (answer rest ≡ Err lack → answer more ≡ Err lack) → answer (cond (not met) (Some wanted) more) ≡ Err lack
stop_at true wanted rest more lack missing on = on missing
stop_at false wanted rest more lack missing on = missing

-- where all of these are met, the others decide
pub met_on : (state : StateValue) (needs others : List Need) → all_met state needs ≡ Ok tt → all_met state (needs ++ others) ≡ all_met state others
met_on state [] others ok = refl
met_on state (wanted ∷ needs) others ok =
    let p : Need → Bool = λ w. not (is_met state w) in
    on_at (is_met state wanted) wanted (find p needs) (find p (needs ++ others)) (all_met state others) ok (met_on state needs others)

-- where one of these is not, none of the others counts
pub met_stop : (state : StateValue) (needs others : List Need) (lack : Lack) → all_met state needs ≡ Err lack → all_met state (needs ++ others) ≡ Err lack
met_stop state [] others lack missing = cc
met_stop state (wanted ∷ needs) others lack missing =
    let p : Need → Bool = λ w. not (is_met state w) in
    stop_at (is_met state wanted) wanted (find p needs) (find p (needs ++ others)) lack missing (met_stop state needs others lack)

-- one need, then others, then more: the first two are met, or one of the second is not
pub second_stops : (state : StateValue) (first : Need) (others more : List Need) (lack : Lack) → Ok tt ≡ all_met state (first ∷ []) → Err lack ≡ all_met state others → Err lack ≡ all_met state (first ∷ [] ++ others ++ more)
second_stops state first others more lack ok missing = sym (met_on state (first ∷ []) (others ++ more) (sym ok) ∙ met_stop state others more lack (sym missing))

pub third_decides : (state : StateValue) (first : Need) (others more : List Need) → Ok tt ≡ all_met state (first ∷ []) → Ok tt ≡ all_met state others → all_met state more ≡ all_met state (first ∷ [] ++ others ++ more)
third_decides state first others more ok too = sym (met_on state (first ∷ []) (others ++ more) (sym ok) ∙ met_on state others more (sym too))

-- ---- what is then decided

abbrev all_well : Option Lack → Result ⊤ Lack
all_well found = option_map_or (λ lack. Err lack) found (Ok tt)

met_at : (found : Option Lack) (verdict : Verdict) → all_well found ≡ Ok tt → option_map_or (λ lack. Lacks lack.perm lack.channel) found verdict ≡ verdict
met_at None verdict ok = refl
met_at (Some lack) verdict ok = cc

unmet_at : (found : Option Lack) (verdict : Verdict) (missing : Lack) → all_well found ≡ Err missing → option_map_or (λ lack. Lacks lack.perm lack.channel) found verdict ≡ Lacks missing.perm missing.channel
unmet_at None verdict missing err = cc
unmet_at (Some lack) verdict missing err = let same : lack ≡ missing = cc in ap (λ (l : Lack). Lacks l.perm l.channel) same

-- what is missing is named
pub lacking : (state : StateValue) (needs : List Need) (verdict : Verdict) (missing : Lack) → all_met state needs ≡ Err missing → unless_lacking state needs verdict ≡ Lacks missing.perm missing.channel
lacking state needs verdict missing err = unmet_at (first_lack state needs) verdict missing err

-- where nothing is missing, the first limit that applies refuses
pub refused : (state : StateValue) (needs : List Need) (limits : List (Case DenyType)) (verdict : Verdict) (kind : DenyType) → all_met state needs ≡ Ok tt → first_standing limits ≡ Some kind → unless_lacking state needs (unless_refused limits verdict) ≡ Refused (deny_code kind)
refused state needs limits verdict kind ok stands =
    met_at (first_lack state needs) (unless_refused limits verdict) ok
    ∙ ap (λ (found : Option DenyType). option_map_or (λ k. Refused (deny_code k)) found verdict) stands

-- where no limit applies either, it is what it asks
pub passed : (state : StateValue) (needs : List Need) (limits : List (Case DenyType)) (verdict : Verdict) → all_met state needs ≡ Ok tt → first_standing limits ≡ None → unless_lacking state needs (unless_refused limits verdict) ≡ verdict
passed state needs limits verdict ok none =
    met_at (first_lack state needs) (unless_refused limits verdict) ok
    ∙ ap (λ (found : Option DenyType). option_map_or (λ k. Refused (deny_code k)) found verdict) none
