-- What a reader answers: the value that is read, or the first fault.
use Rattle.std.specs.Prelude.{◌≡◌, ℕ, ⊤, List, [], map, Option, Some, None, Result, Ok, Err}
use Rattle.std.specs.{Borrow.Bor, Option.option_map}
use Rattle.serde_json.specs.{Data.Data, View.view}
use Rattle.serde_json.specs.declared.value.Value.{Value}
use Rattle.mum_document.specs.declared.fault.{DocumentError.DocumentError, ConfigFault.ConfigFault}
use Rattle.mum_document.specs.{Fault.Fault, Value.elements_of, Value.list_fault}
use Rattle.mum_document.specs.declared.fault.DocumentError.TheVariants as bad

-- the error names this fault, or memory ran out
unfoldable pub Names : DocumentError → Option Fault → Type 0
Names (bad.Fault cause key) fault = fault ≡ Some (record { cause = cause; key = key })
Names bad.OutOfMemory fault = ⊤

-- the value where nothing is said against it, or the first fault; memory may run out before either
abbrev pub Reads : {X : Type 0} → Option Fault → X → Result X DocumentError → Type 0
Reads fault value (Ok read) = (fault ≡ None) × (read ≡ value)
Reads fault value (Err error) = Names error fault

-- the same of a reader that lends a text
abbrev pub Lends : Option Fault → List ℕ → Result (Bor (List ℕ)) DocumentError → Type 0
Lends fault text (Ok read) = (fault ≡ None) × (read.now ≡ text)
Lends fault text (Err error) = Names error fault

-- the same of a reader that takes no memory and knows no way
abbrev pub Judges : {X : Type 0} → Option Fault → X → Result X ConfigFault → Type 0
Judges fault value (Ok read) = (fault ≡ None) × (read ≡ value)
Judges fault value (Err cause) = fault ≡ Some (record { cause = cause; key = [] })

-- the same of readers that lend a text
abbrev pub JudgesText : Option Fault → List ℕ → Result (Bor (List ℕ)) ConfigFault → Type 0
JudgesText fault text (Ok read) = (fault ≡ None) × (read.now ≡ text)
JudgesText fault text (Err cause) = fault ≡ Some (record { cause = cause; key = [] })

-- and of one that lends a list of values
abbrev pub JudgesList : ℕ → Data → Result (Bor (List Value)) ConfigFault → Type 0
JudgesList limit value (Ok read) = (list_fault limit value ≡ None) × (map view read.now ≡ elements_of value)
JudgesList limit value (Err cause) = list_fault limit value ≡ Some (record { cause = cause; key = [] })

-- the elements of a list, where one is given
abbrev pub ReadsElements : Option Fault → Option (List Data) → Result (Option (Bor (List Value))) DocumentError → Type 0
ReadsElements fault elements (Ok read) = (fault ≡ None) × (option_map (λ values. map view values.now) read ≡ elements)
ReadsElements fault elements (Err error) = Names error fault

-- the elements of a list, none where it is left out
abbrev pub ReadsValues : Option Fault → List Data → Result (Bor (List Value)) DocumentError → Type 0
ReadsValues fault elements (Ok read) = (fault ≡ None) × (map view read.now ≡ elements)
ReadsValues fault elements (Err error) = Names error fault
