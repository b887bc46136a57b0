-- What a writer writes: each field with the shortest varints.
use Rattle.std.specs.Prelude.{ℕ, map, Option, Some, None, ◌+◌, ◌*◌, ◌<◌, ◌^◌, List, [], ◌∷◌, ◌++◌, length}
use Rattle.std.specs.{Int.w32, Int.w64, Int.to_le_bytes, List.flat_map}
use Rattle.mum_fields.specs.{Varint.shortest, Field.Entry, Field.wire_type, Field.IsNumber}
use Rattle.mum_fields.specs.Content.{Content, Varint, Fixed8, Block, Fixed4}

-- a field without a place
pub record Item : Type 0 where
  pub number : ℕ
  pub content : Content

abbrev pub varint_item : ℕ → ℕ → Item
varint_item number value = record { number = number; content = Varint value }

abbrev pub block_item : ℕ → List ℕ → Item
block_item number block = record { number = number; content = Block block }

abbrev pub value_bytes : Content → List ℕ
value_bytes (Varint n) = shortest n
value_bytes (Fixed8 n) = to_le_bytes w64 n
value_bytes (Block block) = shortest (length block) ++ block
value_bytes (Fixed4 n) = to_le_bytes w32 n

abbrev pub spelling : Item → List ℕ
spelling item = shortest (item.number * 8 + wire_type item.content) ++ value_bytes item.content

abbrev pub written : List Item → List ℕ
written items = flat_map spelling items

-- what has an encoding
abbrev pub FitsContent : Content → Type 0
FitsContent (Varint n) = n < 2 ^ 64
FitsContent (Fixed8 n) = n < 2 ^ 64
FitsContent (Block block) = length block < 2 ^ 64
FitsContent (Fixed4 n) = n < 2 ^ 32

pub record Fits (item : Item) : Type 0 where
  pub number : IsNumber item.number
  pub content : FitsContent item.content

-- the length of a block comes before it
abbrev pub skipped : Content → ℕ
skipped (Varint n) = 0
skipped (Fixed8 n) = 0
skipped (Block block) = length (shortest (length block))
skipped (Fixed4 n) = 0

-- an item as a reader gives it, where its key begins at this place
abbrev pub placed_at : ℕ → Item → Entry
placed_at place item = record {
  number = item.number;
  content = item.content;
  place = place + length (shortest (item.number * 8 + wire_type item.content)) + skipped item.content;
}

abbrev pub placed_from : ℕ → List Item → List Entry
placed_from place [] = []
placed_from place (item ∷ items) = placed_at place item ∷ placed_from (place + length (spelling item)) items

-- ---- the fields of a message: each number that is set, and each element of a list by itself

abbrev pub number_items : {X : Type 0} → (X → ℕ) → ℕ → Option X → List Item
number_items spelled number None = []
number_items spelled number (Some x) = varint_item number (spelled x) ∷ []

abbrev pub block_items : ℕ → Option (List ℕ) → List Item
block_items number None = []
block_items number (Some block) = block_item number block ∷ []

abbrev pub each_number : {X : Type 0} → (X → ℕ) → ℕ → List X → List Item
each_number spelled number xs = map (λ x. varint_item number (spelled x)) xs

abbrev pub each_block : ℕ → List (List ℕ) → List Item
each_block number blocks = map (block_item number) blocks
