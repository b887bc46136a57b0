-- What a value of a JSON document says.
use Rattle.std.specs.Prelude.{◌≡◌, ⊤, ◌⊎◌, ℕ, ℤ, pos, bit_and, Bool, List, [], ◌∷◌, Option, Some, None, Ok}
use Rattle.hex.specs.Hex.{decode_sized}
use Rattle.serde_json.specs.Data.{Data, Items, array, boolean, item, negative, no_items, number, string, unsigned}
use Rattle.serde_json.specs.Find.{get}
use Rattle.mum_base.specs.declared.{number.AccountId.AccountId, perm.Perm.Perm}

-- ---- single values

abbrev pub IsText : Data → List ℕ → Type 0
IsText value text = value ≡ string text

abbrev pub IsFlag : Data → Bool → Type 0
IsFlag value flag = value ≡ boolean flag

abbrev pub IsNumber : Data → ℕ → Type 0
IsNumber value n = value ≡ number (unsigned n)

abbrev pub IsSigned : Data → ℤ → Type 0
IsSigned value z = ((n : ℕ) × IsNumber value n × (z ≡ pos n)) ⊎ (value ≡ number (negative z))

abbrev pub IsAccountNumber : Data → AccountId → Type 0
IsAccountNumber value account = IsNumber value account.0

-- 32 bytes, in hexadecimal digits
abbrev pub IsDigest : Data → List ℕ → Type 0
IsDigest value bytes = (digits : List ℕ) × IsText value digits × (decode_sized digits 32 ≡ Ok bytes)

-- a set of permissions, by the bits of those that there are
abbrev pub IsSet : Data → Perm → Type 0
IsSet value set = (bits : ℕ) × IsNumber value bits × (set.0 ≡ bit_and bits 0x1F0FFF)

-- ---- lists

-- each value says what is at its place of the list
abbrev pub EachSays : {X : Type 0} → (Data → X → Type 0) → Items → List X → Type 0
EachSays Says no_items [] = ⊤
EachSays Says no_items (x ∷ xs) = ⊥
EachSays Says (item value values) [] = ⊥
EachSays Says (item value values) (x ∷ xs) = Says value x × EachSays Says values xs

abbrev pub IsListOf : {X : Type 0} → (Data → X → Type 0) → Data → List X → Type 0
IsListOf Says value xs = (items : Items) × (value ≡ array items) × EachSays Says items xs

abbrev pub HasItem : Items → Data → Type 0
HasItem no_items value = ⊥
HasItem (item first items) value = (first ≡ value) ⊎ HasItem items value

-- the document has a list at the key, and the value is in it
abbrev pub IsListed : List ℕ → Data → Data → Type 0
IsListed key document value = (items : Items) × (get key document ≡ Some (array items)) × HasItem items value

-- ---- keys

-- the key is there, and says this
abbrev pub Says : {X : Type 0} → (Data → X → Type 0) → Option Data → X → Type 0
Says IsSaid None x = ⊥
Says IsSaid (Some value) x = IsSaid value x

-- the key says this; where it is left out, this is the default
abbrev pub SaysOr : {X : Type 0} → (Data → X → Type 0) → X → Option Data → X → Type 0
SaysOr IsSaid default None x = x ≡ default
SaysOr IsSaid default (Some value) x = IsSaid value x

-- the key says this; where it is left out, there is none
abbrev pub SaysMaybe : {X : Type 0} → (Data → X → Type 0) → Option Data → Option X → Type 0
SaysMaybe IsSaid None found = found ≡ None
SaysMaybe IsSaid (Some value) None = ⊥
SaysMaybe IsSaid (Some value) (Some x) = IsSaid value x
