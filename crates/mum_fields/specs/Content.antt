-- What a field carries.
use Rattle.std.specs.Prelude.{ℕ, List, length}
use Rattle.mum_fields.specs.declared.field.Value.{Value}
use Rattle.mum_fields.specs.declared.field.Value.TheVariants as values

-- what a field carries, without where it lies in memory
pub data Content : Type 0 where
  Varint : ℕ → Content
  Fixed8 : ℕ → Content
  Block : List ℕ → Content
  Fixed4 : ℕ → Content

abbrev pub content_of : Value → Content
content_of (values.Varint n) = Varint n
content_of (values.Fixed8 n) = Fixed8 n
content_of (values.Block block) = Block block.now
content_of (values.Fixed4 n) = Fixed4 n

-- how many bytes of a block after its length
abbrev pub block_size : Content → ℕ
block_size (Varint n) = 0
block_size (Fixed8 n) = 0
block_size (Block block) = length block
block_size (Fixed4 n) = 0
