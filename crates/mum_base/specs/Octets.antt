-- Bytes as a list, however they lie in memory.
use Rattle.std.specs.Prelude.{ℕ, List}
use Rattle.std.specs.Arc.{arc_slice_items}
use Rattle.mum_base.specs.declared.items.Bytes.{Bytes, TheVariants.Own, TheVariants.Shared}

-- the bytes that are held, whether they are owned or shared
abbrev pub held_items : Bytes → List ℕ
held_items (Own bytes) = bytes.items
held_items (Shared bytes) = arc_slice_items bytes
