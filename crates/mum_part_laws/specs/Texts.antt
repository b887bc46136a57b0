-- For which cause a name or a text is refused: the first of those that apply.
use Rattle.std.specs.Prelude.{◌≡◌, ◌⊎◌, ◌<◌, ℕ, List, [], ◌∷◌, ◌++◌, length}
use Rattle.std.specs.List.{Contains}
use Rattle.mum_base.specs.Name.{name_fault, text_fault}
use Rattle.mum_base.specs.declared.name.NameFault.{NameFault}
use Rattle.mum_base.specs.declared.name.NameFault.TheVariants.{ControlCharacter, EdgeSpace, Empty, TooLong}
use Rattle.mum_part_laws.specs.Firsts.{NamesFirst}

-- 127 and what is below 32 are the control characters of one byte, and 32 is a space
abbrev pub AgainstName : List ℕ → NameFault → Type 0
AgainstName name Empty = name ≡ []
AgainstName name TooLong = 128 < length name
AgainstName name ControlCharacter = (byte : ℕ) × Contains name byte × ((byte < 32) ⊎ (byte ≡ 127))
AgainstName name EdgeSpace = ((rest : List ℕ) × (name ≡ 32 ∷ rest)) ⊎ ((rest : List ℕ) × (name ≡ rest ++ 32 ∷ []))

abbrev pub NamesAreRefusedForTheFirst : Type 0
NamesAreRefusedForTheFirst =
    (name : List ℕ)
    → NamesFirst (AgainstName name) (Empty ∷ TooLong ∷ ControlCharacter ∷ EdgeSpace ∷ []) (name_fault name)

abbrev pub AgainstText : List ℕ → NameFault → Type 0
AgainstText text TooLong = 20000 < length text
AgainstText text cause = ⊥

abbrev pub TextsAreRefusedForLength : Type 0
TextsAreRefusedForLength = (text : List ℕ) → NamesFirst (AgainstText text) (TooLong ∷ []) (text_fault text)
