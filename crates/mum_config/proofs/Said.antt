-- What holds of a value of which nothing is said.
use Rattle.mum_config.proofs.Common.{◌≡◌, ℕ, ◌+◌, Bool, true, false, cond, List, [], ◌∷◌, ◌++◌, length, Option, None, Some, is_none, is_some, refl, sym, ap, ◌∙◌, arith, nat_le, nat_lt, unwrap_or, option_map, nat_tests, Data, array, string, fault_of_name, TooLong, ConfigFault, Fault, against, or_else, each_fault, elements_fault, rows_fault, elements_of, list_fault, name_fault, needed, text_fault, text_of, wanted, first_none, later_none, none_within, rows_fault-append, Each, is_name, is_short, is_text}
use Rattle.mum_document.specs.Object.{Row}

pub not_against : (cause : ConfigFault) (holds : Bool) → against cause holds ≡ None → holds ≡ false
not_against cause true none = absurd (cc)
not_against cause false none = refl

-- ---- tables

pub each_row : (dot : List ℕ) (rows : List Row) → rows_fault dot rows ≡ None → Each (λ row. row.1 ≡ None) rows
each_row dot [] none = tt
each_row dot (row ∷ rows) none = (none_within (dot ++ row.0) row.1 (first_none _ _ none), each_row dot rows (later_none _ _ none))

pub rows_apart : (dot : List ℕ) (rows more : List Row) → rows_fault dot (rows ++ more) ≡ None → (rows_fault dot rows ≡ None) × (rows_fault dot more ≡ None)
rows_apart dot rows more none =
    let both : or_else (rows_fault dot rows) (rows_fault dot more) ≡ None = sym (rows_fault-append dot rows more) ∙ none in
    (first_none _ _ both, later_none _ _ both)

pub object_rows : (dot : List ℕ) (opening : Option Fault) (rows : List Row) → or_else opening (rows_fault dot rows) ≡ None → Each (λ row. row.1 ≡ None) rows
object_rows dot opening rows none = each_row dot rows (later_none opening _ none)

-- ---- values

pub needed_there : (fault : Data → Option Fault) (found : Option Data) → needed fault found ≡ None → (value : Data) × (found ≡ Some value) × (fault value ≡ None)
unfolding needed
needed_there fault None none = absurd (cc)
needed_there fault (Some value) none = (value, refl, none)

pub text_within : (limit : ℕ) (value : Data) → text_fault limit value ≡ None → nat_lt limit (length (text_of value)) ≡ false
text_within limit (string text) none = not_against _ _ none
text_within limit value none = absurd (cc)

-- a text that may be left out is within its limit
pub text_short : (limit : ℕ) (found : Option Data) → nat_lt limit 0 ≡ false → wanted (text_fault limit) found ≡ None → nat_lt limit (length (unwrap_or (option_map text_of found) [])) ≡ false
unfolding wanted
text_short limit None zero none = zero
text_short limit (Some value) zero none = text_within limit value none

pub name_of_value : (value : Data) → name_fault value ≡ None → is_name (text_of value) ≡ true
name_of_value (string text) none = is_name_of (fault_of_name text) (not_against _ _ none)
  where
    is_name_of : {X : Type 0} (fault : Option X) → is_some fault ≡ false → is_none fault ≡ true
    is_name_of None none = refl
    is_name_of (Some fault) none = absurd (cc)
name_of_value value none = absurd (cc)

pub name_good : (found : Option Data) → needed name_fault found ≡ None → is_name (unwrap_or (option_map text_of found) []) ≡ true
unfolding needed
name_good None none = absurd (cc)
name_good (Some value) none = name_of_value value none

-- a name is not too long
pub short_name : (name : List ℕ) → is_name name ≡ true → is_short name ≡ true
short_name name good = short _ _ (nat_lt 128 (length name)) refl (passes_first _ _ _ good)
  where
    passes_first : {X : Type 0} (b : Bool) (x : X) (rest : Option X) → is_none (cond b (Some x) rest) ≡ true → is_none rest ≡ true
    passes_first true x rest none = absurd (cc)
    passes_first false x rest none = none

    within : (n : ℕ) → nat_lt 128 n ≡ false → nat_le n 128 ≡ true
    within n is = grind (arith, nat_tests)

    short : {X : Type 0} (x : X) (rest : Option X) (b : Bool) → nat_lt 128 (length name) ≡ b → is_none (cond b (Some x) rest) ≡ true → nat_le (length name) 128 ≡ true
    short x rest true is none = absurd (cc)
    short x rest false is none = within (length name) is

pub text_good : (found : Option Data) → wanted (text_fault 20000) found ≡ None → is_text (unwrap_or (option_map text_of found) []) ≡ true
text_good found none = ap (λ (b : Bool). is_none (cond b (Some TooLong) None)) (text_short 20000 found refl none)

pub list_short : (limit : ℕ) (found : Option Data) → nat_lt limit 0 ≡ false → wanted (list_fault limit) found ≡ None → nat_lt limit (length (unwrap_or (option_map elements_of found) [])) ≡ false
unfolding wanted
list_short limit None zero none = zero
list_short limit (Some value) zero none = within_limit value none
  where
    within_limit : (value : Data) → list_fault limit value ≡ None → nat_lt limit (length (elements_of value)) ≡ false
    within_limit (array values) none = not_against _ _ none
    within_limit value none = absurd (cc)

-- ---- lists

-- each element is tested with something that was met before it
pub each_element : {Met : Type 0} (fault : Met → Data → Option Fault) (next : Met → Data → Met) (P : Data → Type 0) → ((met : Met) (value : Data) → fault met value ≡ None → P value)
    → (met : Met) (place : ℕ) (values : List Data) → elements_fault fault next met place values ≡ None → Each P values
each_element fault next P so met place [] none = tt
each_element fault next P so met place (value ∷ values) none =
    (so met value (none_within _ _ (first_none _ _ none)), each_element fault next P so (next met value) (place + 1) values (later_none _ _ none))

pub each_alone : (fault : Data → Option Fault) (P : Data → Type 0) → ((value : Data) → fault value ≡ None → P value)
    → (place : ℕ) (values : List Data) → each_fault fault place values ≡ None → Each P values
each_alone fault P so place [] none = tt
each_alone fault P so place (value ∷ values) none =
    (so value (none_within _ _ (first_none _ _ none)), each_alone fault P so (place + 1) values (later_none _ _ none))
