-- Texts as lists of bytes, however they lie in memory.
use Rattle.std.specs.Prelude.{ℕ, List, string_bytes}
use Rattle.std.specs.Arc.{arc_str_bytes}
use Rattle.mum_base.specs.declared.items.Holding.{Holding, TheVariants.Own, TheVariants.Shared}

-- the bytes of the text that is held, whether it is owned or shared
abbrev pub held_bytes : Holding → List ℕ
held_bytes (Own text) = string_bytes text
held_bytes (Shared text) = arc_str_bytes text
