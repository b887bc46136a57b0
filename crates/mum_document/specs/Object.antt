-- The one rule for objects and the one rule for lists: in which order their parts are tested.
use Rattle.std.specs.Prelude.{ℕ, ◌+◌, Bool, List, [], ◌∷◌, ◌++◌, Option, Some, None, codes, is_none, is_some, unwrap_or, if◌then◌else◌}
use Rattle.std.specs.{List.list_any, Option.option_map, Option.option_map_or, Str.bytes_eq}
use Rattle.serde_json.specs.Data.{Data, Members, member, no_members}
use Rattle.serde_json.specs.Find.{as_object, get}
use Rattle.mum_document.specs.declared.fault.ConfigFault.TheVariants.{Twice, UnknownKey, WrongKind}
use Rattle.mum_document.specs.Fault.{Fault, against, or_else, place_text, within}
use Rattle.mum_document.specs.Value.{elements_of, flag_of, name_fault, needed, number_of, text_of}

-- a line of an object's table: a key, and what is said against its value
abbrev pub Row : Type 0
Row = List ℕ × Option Fault

-- the first line of the table that says something; a key's way begins with a dot inside a list
abbrev pub rows_fault : List ℕ → List Row → Option Fault
rows_fault dot [] = None
rows_fault dot (row ∷ rows) = or_else (within (dot ++ row.0) row.1) (rows_fault dot rows)

-- the least key that is none of these: an object's members are in order of their keys
abbrev pub unknown_key : List (List ℕ) → Members → Option (List ℕ)
unknown_key names no_members = None
unknown_key names (member key value members) =
    if list_any (λ name. bytes_eq name key) names then unknown_key names members else Some key

abbrev pub unknown_fault : List ℕ → List (List ℕ) → Data → Option Fault
unknown_fault dot names value =
    option_map (λ key. record { cause = UnknownKey; key = dot ++ key })
    (option_map_or (unknown_key names) (as_object value) None)

-- before its keys: first that it is an object, then that it has no other keys
abbrev pub opening_fault : List ℕ → List (List ℕ) → Data → Option Fault
opening_fault dot names value = or_else (against WrongKind (is_none (as_object value))) (unknown_fault dot names value)

-- an object inside a list
abbrev pub object_fault : List (List ℕ) → List Row → Data → Option Fault
object_fault names rows value = or_else (opening_fault (codes ".") names value) (rows_fault (codes ".") rows)

-- the elements from a place on, in order, each tested with what the ones before it left
abbrev pub elements_fault : {Met : Type 0} → (Met → Data → Option Fault) → (Met → Data → Met) → Met → ℕ → List Data
    → Option Fault
elements_fault fault next met place [] = None
elements_fault fault next met place (value ∷ values) =
    or_else (within (place_text place) (fault met value))
    (elements_fault fault next (next met value) (place + 1) values)

-- the same where each is tested by itself
abbrev pub each_fault : (Data → Option Fault) → ℕ → List Data → Option Fault
each_fault fault place [] = None
each_fault fault place (value ∷ values) =
    or_else (within (place_text place) (fault value)) (each_fault fault (place + 1) values)

-- ---- what an object has at a key

abbrev pub has : List ℕ → Data → Bool
has name value = is_some (get name value)

abbrev pub number_at : List ℕ → ℕ → Data → ℕ
number_at name default value = unwrap_or (option_map number_of (get name value)) default

abbrev pub flag_at : List ℕ → Bool → Data → Bool
flag_at name default value = unwrap_or (option_map flag_of (get name value)) default

abbrev pub text_at : List ℕ → Data → List ℕ
text_at name value = unwrap_or (option_map text_of (get name value)) []

abbrev pub elements_at : List ℕ → Data → List Data
elements_at name value = unwrap_or (option_map elements_of (get name value)) []

-- ---- a name that no other of its list has

-- `met` are the names of the list so far
abbrev pub new_name_rows : List (List ℕ) → Data → List Row
new_name_rows met value =
    (codes "name", needed name_fault (get (codes "name") value))
    ∷ (codes "name", against Twice (list_any (bytes_eq (text_at (codes "name") value)) met))
    ∷ []
