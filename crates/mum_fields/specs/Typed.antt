-- What the values of a message are by their types: a number fits its type and is its own encoding's value, a
-- text is UTF-8, and bytes and encoded blocks have a length.
use Rattle.std.specs.Prelude.{◌≡◌, ℕ, ◌<◌, ◌^◌, List, length, IfSome}
use Rattle.std.specs.{List.All, Str.IsUtf8}
use Rattle.mum_fields.specs.Written.{written}
use Rattle.mum_fields.specs.declared.shape.Kind.{Kind, TheVariants.Number, TheVariants.Utf8, TheVariants.Raw}
use Rattle.mum_fields.specs.declared.shape.Label.{Label}
use Rattle.mum_fields.specs.declared.shape.Label.TheVariants.{Optional, Required, RequiredOr, Repeated}
use Rattle.mum_fields.specs.Table.{One, Value, Layout, Nothing, Field, Blocks, Values, value_of, scalar_number, items}

abbrev pub IsScalar : {X : Type 0} → (ℕ → X) → (X → ℕ) → X → Type 0
IsScalar value number x = (value (number x) ≡ x) × (number x < 2 ^ 64)

abbrev pub IsBytes : List ℕ → Type 0
IsBytes bytes = length bytes < 2 ^ 64

abbrev pub IsText : List ℕ → Type 0
IsText text = IsUtf8 text × (length text < 2 ^ 64)

-- one value of a type
abbrev pub IsOne : (kind : Kind) → One kind → Type 0
IsOne (Number scalar) x = IsScalar (value_of scalar) (scalar_number scalar) x
IsOne Utf8 text = IsText text
IsOne Raw bytes = IsBytes bytes

-- what a message has of a field
abbrev pub IsTyped : (label : Label) → (kind : Kind) → Value label kind → Type 0
IsTyped Optional kind value = IfSome value (IsOne kind)
IsTyped Required kind value = IfSome value (IsOne kind)
IsTyped (RequiredOr other) kind value = IfSome value (IsOne kind)
IsTyped Repeated kind values = All (IsOne kind) values

abbrev pub AreTyped : (fields : Layout) → Values fields → Type 0
AreTyped Nothing values = Unit {0}
AreTyped (Field label kind number others) values = IsTyped label kind values.0 × AreTyped others values.1
AreTyped (Blocks inside number others) values =
    All (λ x. AreTyped inside x × IsBytes (written (items inside x))) values.0 × AreTyped others values.1

-- the messages of a list, each with an encoding that has a length
abbrev pub AreTypedBlocks : (inside : Layout) → List (Values inside) → Type 0
AreTypedBlocks inside xs = All (λ x. AreTyped inside x × IsBytes (written (items inside x))) xs
