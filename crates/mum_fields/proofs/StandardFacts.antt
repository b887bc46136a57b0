-- Worked fields, after Protocol Buffers, "Encoding", so that a wrong rule in the specs does not check.
use Rattle.mum_fields.proofs.Common.{String, ◌≡◌, ℕ, ◌-◌, ◌^◌, true, false, List, [], ◌∷◌, codes, pos, negsuc, Option, Some, None, hex, FieldFault, Truncated, BadWireType, BadVarint, BadText, BadLength, Unsigned32, Unsigned64, Signed32, Truth, kind_code, Content, Varint, Fixed8, Block, Fixed4, Entry, Walk, at_start, fields, packed, text, message_code, varint_item, block_item, written, value_of, scalar_number}
use Rattle.mum_fields.proofs.Worked.{messages}
use Rattle.mum_fields.specs.declared.message.MessageFault.TheVariants as why

-- the fields of a payload
abbrev read : String → Walk Entry
read payload = fields (at_start (hex payload))

-- a field, and where its number or its block begins
abbrev entry : ℕ → Content → ℕ → Entry
entry number content place = record { number = number; content = content; place = place }

-- these fields to the end, or to a fault of this code at this place
abbrev whole : {X : Type 0} → List X → Walk X
whole items = record { items = items; fault = None }

abbrev stops : {X : Type 0} → List X → ℕ → ℕ → Walk X
stops items code place = record { items = items; fault = Some (record { code = code; at = place }) }

-- the number of a key and a varint
pub record AreNumbers : Type 0 where
  pub of_the_guide : read "089601" ≡ whole (entry 1 (Varint 150) 1 ∷ [])
  pub zero : read "0800" ≡ whole (entry 1 (Varint 0) 1 ∷ [])
  pub the_greatest_of_one_byte : read "087f" ≡ whole (entry 1 (Varint 127) 1 ∷ [])
  pub the_least_of_two : read "088001" ≡ whole (entry 1 (Varint 128) 1 ∷ [])
  pub zero_in_two_bytes : read "088000" ≡ whole (entry 1 (Varint 0) 1 ∷ [])
  pub zero_in_ten_bytes : read "0880808080808080808000" ≡ whole (entry 1 (Varint 0) 1 ∷ [])
  pub the_top_bit_of_64 : read "0880808080808080808001" ≡ whole (entry 1 (Varint (2 ^ 63)) 1 ∷ [])
  pub all_bits_of_64 : read "08ffffffffffffffffff01" ≡ whole (entry 1 (Varint (2 ^ 64 - 1)) 1 ∷ [])
  pub a_longer_key : read "880005" ≡ whole (entry 1 (Varint 5) 2 ∷ [])
  pub the_greatest_key_of_one_byte : read "7805" ≡ whole (entry 15 (Varint 5) 1 ∷ [])
  pub the_least_key_of_two : read "800105" ≡ whole (entry 16 (Varint 5) 2 ∷ [])
  pub the_greatest_key : read "f8ffffff0f07" ≡ whole (entry 536870911 (Varint 7) 5 ∷ [])
  pub nothing : read "" ≡ whole []

pub numbers : AreNumbers
unfolding messages
numbers = search

-- a length and as many bytes, and four or eight bytes with the least first
pub record AreBlocks : Type 0 where
  pub a_text : read "120774657374696e67" ≡ whole (entry 2 (Block (codes "testing")) 2 ∷ [])
  pub no_byte : read "0a00" ≡ whole (entry 1 (Block []) 2 ∷ [])
  pub a_longer_length : read "1280000805" ≡ whole (entry 2 (Block []) 3 ∷ entry 1 (Varint 5) 4 ∷ [])
  pub its_end : read "0a02aabb0805" ≡ whole (entry 1 (Block (hex "aabb")) 2 ∷ entry 1 (Varint 5) 5 ∷ [])
  pub under_the_greatest_key : read "faffffff0f01cc" ≡ whole (entry 536870911 (Block (hex "cc")) 6 ∷ [])
  pub eight_bytes : read "090102030405060708" ≡ whole (entry 1 (Fixed8 0x0807060504030201) 1 ∷ [])
  pub four_bytes : read "0d01020304" ≡ whole (entry 1 (Fixed4 0x04030201) 1 ∷ [])
  pub four_at_their_greatest : read "7dffffffff" ≡ whole (entry 15 (Fixed4 0xffffffff) 1 ∷ [])
  pub one_of_each : read "0896011202686908011d01020304190102030405060708" ≡ whole (entry 1 (Varint 150) 1 ∷ entry 2 (Block (codes "hi")) 5 ∷ entry 1 (Varint 1) 8 ∷ entry 3 (Fixed4 0x04030201) 10 ∷ entry 3 (Fixed8 0x0807060504030201) 15 ∷ [])

pub blocks : AreBlocks
unfolding messages
blocks = search

-- the bytes end inside a key, a number, a length (11) or a block (15)
pub record AreCut : Type 0 where
  pub behind_a_key : read "08" ≡ stops [] 11 1
  pub inside_a_key : read "80" ≡ stops [] 11 0
  pub nine_bytes_of_a_key : read "808080808080808080" ≡ stops [] 11 0
  pub nine_bytes_of_a_number : read "08808080808080808080" ≡ stops [] 11 1
  pub no_byte_of_eight : read "09" ≡ stops [] 11 1
  pub seven_of_eight : read "0901020304050607" ≡ stops [] 11 1
  pub three_of_four : read "0d010203" ≡ stops [] 11 1
  pub no_length : read "0a" ≡ stops [] 11 1
  pub half_a_length : read "0a80" ≡ stops [] 11 1
  pub no_byte_of_a_block : read "0a01" ≡ stops [] 15 2
  pub one_byte_too_few : read "0a03aabb" ≡ stops [] 15 2
  pub four_too_few : read "0a05aa" ≡ stops [] 15 2
  pub the_greatest_length : read "0affffffffffffffffff01" ≡ stops [] 15 11

pub cut : AreCut
unfolding messages
cut = search

-- a varint has ten bytes at most, and the tenth is 0 or 1
pub record AreAbove : Type 0 where
  pub an_eleventh_follows : read "0880808080808080808080" ≡ stops [] 13 1
  pub a_tenth_of_2_in_a_key : read "80808080808080808002" ≡ stops [] 13 0
  pub in_a_number : read "0880808080808080808002" ≡ stops [] 13 1
  pub in_a_length : read "0a80808080808080808002" ≡ stops [] 13 1

pub above : AreAbove
unfolding messages
above = search

-- groups, wire types that are none, and numbers that no field has
pub record AreNoFields : Type 0 where
  pub a_group_begins : read "0b" ≡ stops [] 12 0
  pub a_group_ends : read "0c" ≡ stops [] 12 0
  pub wire_type_6 : read "0e00" ≡ stops [] 12 0
  pub wire_type_7 : read "0f00" ≡ stops [] 12 0
  pub number_0 : read "0001" ≡ stops [] 12 0
  pub number_0_of_a_block : read "0200" ≡ stops [] 12 0
  pub behind_the_greatest : read "808080801001" ≡ stops [] 12 0
  pub a_key_of_64_bits : read "8880808080808080800100" ≡ stops [] 12 0
  pub the_greatest_with_wire_type_3 : read "fbffffff0f" ≡ stops [] 12 0

pub no_fields : AreNoFields
unfolding messages
no_fields = search

-- the first fault stops, and the fields before it are read
pub record AreBehind : Type 0 where
  pub a_field : read "08010b" ≡ stops (entry 1 (Varint 1) 1 ∷ []) 12 2
  pub a_field_and_a_key : read "080110" ≡ stops (entry 1 (Varint 1) 1 ∷ []) 11 3
  pub a_byte_of_127 : read "087fff" ≡ stops (entry 1 (Varint 127) 1 ∷ []) 11 2
  pub a_block : read "0a01aa1202bb" ≡ stops (entry 1 (Block (hex "aa")) 2 ∷ []) 15 5
  pub four_bytes : read "0d010203040900" ≡ stops (entry 1 (Fixed4 0x04030201) 1 ∷ []) 11 6
  pub whatever_follows : read "089601120268690b0801" ≡ stops (entry 1 (Varint 150) 1 ∷ entry 2 (Block (codes "hi")) 5 ∷ []) 12 7

pub behind : AreBehind
unfolding messages
behind = search

-- a field of a block has its place in the whole payload
pub record ArePlaced : Type 0 where
  pub a_block : fields (record { place = 100; rest = hex "12026869" }) ≡ whole (entry 2 (Block (codes "hi")) 102 ∷ [])
  pub numbers : fields (record { place = 100; rest = hex "0805089601" }) ≡ whole (entry 1 (Varint 5) 101 ∷ entry 1 (Varint 150) 103 ∷ [])
  pub a_fault : fields (record { place = 100; rest = hex "08050b" }) ≡ stops (entry 1 (Varint 5) 101 ∷ []) 12 102

pub placed : ArePlaced
unfolding messages
placed = search

-- numbers one after the other in a block
pub record ArePacked : Type 0 where
  pub of_the_guide : packed (record { place = 2; rest = hex "038e029ea705" }) ≡ whole (3 ∷ 270 ∷ 86942 ∷ [])
  pub none : packed (record { place = 2; rest = [] }) ≡ whole []
  pub before_a_cut_one : packed (record { place = 4; rest = hex "038e" }) ≡ stops (3 ∷ []) 11 5
  pub above_64_bits : packed (record { place = 2; rest = hex "80808080808080808002" }) ≡ stops [] 13 2

pub packed_blocks : ArePacked
unfolding messages
packed_blocks = search

-- ---- texts

abbrev text_fault : String → Option FieldFault
text_fault bytes = text 9 (hex bytes)

abbrev bad_text : Option FieldFault
bad_text = Some (record { code = 14; at = 9 })

-- a text is UTF-8
pub record AreTexts : Type 0 where
  pub no_byte : text_fault "" ≡ None
  pub letters : text_fault "7a6fc3ab" ≡ None
  pub the_greatest_character : text_fault "f48fbfbf" ≡ None
  pub half_a_character : text_fault "61c3" ≡ bad_text
  pub two_bytes_of_three : text_fault "e282" ≡ bad_text
  pub three_of_four : text_fault "f09f98" ≡ bad_text
  pub two_bytes_for_one : text_fault "c080" ≡ bad_text
  pub three_for_one : text_fault "e08080" ≡ bad_text
  pub half_of_a_pair_of_utf_16 : text_fault "eda080" ≡ bad_text
  pub above_the_greatest : text_fault "f4908080" ≡ bad_text
  pub a_byte_that_no_text_has : text_fault "ff" ≡ bad_text
  pub a_byte_that_begins_none : text_fault "80" ≡ bad_text

pub texts : AreTexts
unfolding messages
texts = search

-- ---- what a number is in a field of a type, and how it goes

-- the low bits, two's complement, and true where it is not 0
pub record AreValues : Type 0 where
  pub the_low_32_bits : value_of Unsigned32 4294967301 ≡ 5
  pub all_64 : value_of Unsigned64 (2 ^ 64 - 1) ≡ 2 ^ 64 - 1
  pub sixty_four_ones : value_of Signed32 (2 ^ 64 - 1) ≡ negsuc 0
  pub thirty_two_ones : value_of Signed32 (2 ^ 32 - 1) ≡ negsuc 0
  pub the_top_bit_of_32 : value_of Signed32 (2 ^ 31) ≡ negsuc 2147483647
  pub the_greatest_of_32_bits : value_of Signed32 (2 ^ 31 - 1) ≡ pos 2147483647
  pub bits_above_32 : value_of Signed32 18446744071562067968 ≡ negsuc 2147483647
  pub low_bits_of_0 : value_of Signed32 (2 ^ 32) ≡ pos 0
  pub the_top_bit_is_true : value_of Truth (2 ^ 63) ≡ true
  pub zero_is_false : value_of Truth 0 ≡ false

pub values : AreValues
values = search

-- a negative number takes 64 bits
pub record AreExtended : Type 0 where
  pub unsigned_32 : scalar_number Unsigned32 (2 ^ 32 - 1) ≡ 2 ^ 32 - 1
  pub unsigned_64 : scalar_number Unsigned64 (2 ^ 64 - 1) ≡ 2 ^ 64 - 1
  pub minus_one : scalar_number Signed32 (negsuc 0) ≡ 2 ^ 64 - 1
  pub the_least : scalar_number Signed32 (negsuc 2147483647) ≡ 18446744071562067968
  pub a_positive_one : scalar_number Signed32 (pos 5) ≡ 5
  pub truth : scalar_number Truth true ≡ 1
  pub falsehood : scalar_number Truth false ≡ 0

pub extended : AreExtended
extended = search

-- fields are written one after the other, with the shortest varints
pub record AreWritten : Type 0 where
  pub of_the_guide : written (varint_item 1 150 ∷ block_item 2 (codes "testing") ∷ []) ≡ hex "089601120774657374696e67"
  pub the_greatest : written (varint_item 536870911 (2 ^ 64 - 1) ∷ []) ≡ hex "f8ffffff0fffffffffffffffffff01"
  pub a_key_of_two_bytes : written (varint_item 16 0 ∷ []) ≡ hex "800100"
  pub an_empty_block : written (block_item 15 [] ∷ []) ≡ hex "7a00"

pub written_fields : AreWritten
unfolding messages
written_fields = search

-- the numbers of faults
pub record AreCodes : Type 0 where
  pub truncated : kind_code Truncated ≡ 11
  pub bad_wire_type : kind_code BadWireType ≡ 12
  pub bad_varint : kind_code BadVarint ≡ 13
  pub bad_text : kind_code BadText ≡ 14
  pub bad_length : kind_code BadLength ≡ 15
  pub missing_field : message_code (why.MissingField 5) ≡ Some 16
  pub out_of_memory : message_code why.OutOfMemory ≡ None

pub codes_of_faults : AreCodes
codes_of_faults = search
