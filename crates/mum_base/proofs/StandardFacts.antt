-- Worked values of names, texts, permissions (as the Murmur manual numbers them) and numbers, so that a wrong rule
-- in the specs does not check.
use Rattle.std.proofs.Common.{◌≡◌, ℕ, List, [], ◌∷◌, codes, replicate, flat_map, fold, Some, None, refl, arith, bit_or}
use Rattle.mum_base.specs.declared.{name.NameFault.TheVariants.Empty, name.NameFault.TheVariants.TooLong, name.NameFault.TheVariants.ControlCharacter, name.NameFault.TheVariants.EdgeSpace, number.TheConstants.ChannelId.ROOT, number.TheConstants.AccountId.SUPER_USER, perm.Perm.Perm, perm.TheConstants.Perm.NONE, perm.TheConstants.Perm.WRITE, perm.TheConstants.Perm.TRAVERSE, perm.TheConstants.Perm.ENTER, perm.TheConstants.Perm.SPEAK, perm.TheConstants.Perm.MUTE_DEAFEN, perm.TheConstants.Perm.MOVE, perm.TheConstants.Perm.MAKE_CHANNEL, perm.TheConstants.Perm.LINK_CHANNEL, perm.TheConstants.Perm.WHISPER, perm.TheConstants.Perm.TEXT_MESSAGE, perm.TheConstants.Perm.MAKE_TEMP_CHANNEL, perm.TheConstants.Perm.LISTEN, perm.TheConstants.Perm.KICK, perm.TheConstants.Perm.BAN, perm.TheConstants.Perm.REGISTER, perm.TheConstants.Perm.SELF_REGISTER, perm.TheConstants.Perm.RESET_USER_CONTENT, perm.TheConstants.Perm.ALL, perm.TheConstants.Perm.ROOT_ONLY, perm.TheConstants.Perm.START, perm.TheConstants.Perm.BY_WRITE}
use Rattle.mum_base.specs.{Name.name_fault, Name.text_fault, Perm.Holds, Perm.without_bits}
use Rattle.mum_base.proofs.Hex.{hex}

-- ---- names and texts

-- a letter of two bytes, ë, repeated
abbrev two_byte_letters : ℕ → List ℕ
two_byte_letters count = flat_map (λ letter. letter) (replicate count (hex "c3ab"))

-- it is bytes that count
pub record AreLengths : Type 0 where
  pub no_byte : name_fault [] ≡ Some Empty
  pub as_many_as_may_be : name_fault (replicate 128 97) ≡ None
  pub one_more : name_fault (replicate 129 97) ≡ Some TooLong
  pub as_many_of_two_bytes : name_fault (two_byte_letters 64) ≡ None
  pub more_of_two_bytes : name_fault (two_byte_letters 65) ≡ Some TooLong

pub lengths : AreLengths
lengths = search

pub record AreControlCharacters : Type 0 where
  pub the_first : name_fault (hex "00") ≡ Some ControlCharacter
  pub a_line_feed : name_fault (hex "0a") ≡ Some ControlCharacter
  pub the_last_before_the_space : name_fault (hex "1f") ≡ Some ControlCharacter
  pub the_delete_character : name_fault (hex "7f") ≡ Some ControlCharacter
  pub between_letters : name_fault (hex "610062") ≡ Some ControlCharacter
  pub u_0080_is_none : name_fault (hex "c280") ≡ None

pub control_characters : AreControlCharacters
control_characters = search

pub record AreSpaces : Type 0 where
  pub at_the_front : name_fault (codes " ann") ≡ Some EdgeSpace
  pub at_the_end : name_fault (codes "ann ") ≡ Some EdgeSpace
  pub alone : name_fault (codes " ") ≡ Some EdgeSpace
  pub within : name_fault (codes "an n") ≡ None
  pub in_none_of_four_bytes : name_fault (hex "7a6fc3ab") ≡ None

pub spaces : AreSpaces
spaces = search

-- the first cause counts
pub record AreFirstCauses : Type 0 where
  pub too_long_before_control : name_fault (replicate 129 0) ≡ Some TooLong
  pub control_before_space : name_fault (hex "201f") ≡ Some ControlCharacter

pub first_causes : AreFirstCauses
first_causes = search

pub record AreTexts : Type 0 where
  pub no_byte : text_fault [] ≡ None
  pub as_many_as_may_be : text_fault (replicate 20000 98) ≡ None
  pub one_more : text_fault (replicate 20001 98) ≡ Some TooLong
  pub spaces_and_control : text_fault (hex "200a00") ≡ None

pub texts : AreTexts
texts = search

-- ---- permissions

-- these together
abbrev together : List Perm → ℕ
together perms = fold (λ bits perm. bit_or bits perm.0) 0 perms

-- the permissions of a channel, and those of the root
abbrev of_a_channel : List Perm
of_a_channel = WRITE ∷ TRAVERSE ∷ ENTER ∷ SPEAK ∷ MUTE_DEAFEN ∷ MOVE ∷ MAKE_CHANNEL ∷ LINK_CHANNEL ∷ WHISPER ∷ TEXT_MESSAGE ∷ MAKE_TEMP_CHANNEL ∷ LISTEN ∷ []

abbrev of_the_root : List Perm
of_the_root = KICK ∷ BAN ∷ REGISTER ∷ SELF_REGISTER ∷ RESET_USER_CONTENT ∷ []

-- the sets that have a name, in words
pub record ArePermissionSets : Type 0 where
  pub of_channels : together of_a_channel ≡ 0xFFF
  pub of_roots : together of_the_root ≡ ROOT_ONLY.0
  pub all : together (record { 0 = together of_a_channel } ∷ of_the_root) ≡ ALL.0
  pub start : together (TRAVERSE ∷ ENTER ∷ SPEAK ∷ WHISPER ∷ TEXT_MESSAGE ∷ LISTEN ∷ []) ≡ START.0
  pub by_write : without_bits (together of_a_channel) (together (SPEAK ∷ WHISPER ∷ [])) ≡ BY_WRITE.0

pub permission_sets : ArePermissionSets
permission_sets = search

pub record AreHeld : Type 0 where
  pub everybody_speaks : Holds START.0 SPEAK.0
  pub nobody_writes : Holds START.0 WRITE.0 → ⊥
  pub a_part_is_not_the_whole : Holds START.0 BY_WRITE.0 → ⊥
  pub all_hold_the_start : Holds ALL.0 START.0
  pub nothing_is_always_held : Holds NONE.0 NONE.0

pub held : AreHeld
held = record {
  everybody_speaks = refl;
  nobody_writes = λ holds. omega (arith, holds);
  a_part_is_not_the_whole = λ holds. omega (arith, holds);
  all_hold_the_start = refl;
  nothing_is_always_held = refl;
}

pub record AreAddedAndTaken : Type 0 where
  pub one_more : together (START ∷ WRITE ∷ []) ≡ 0xB0F
  pub one_that_was_there : together (START ∷ SPEAK ∷ []) ≡ 0xB0E
  pub without_one : without_bits START.0 ENTER.0 ≡ 0xB0A
  pub without_one_that_was_not_there : without_bits START.0 WRITE.0 ≡ 0xB0E
  pub all_but_those_of_the_root : without_bits ALL.0 ROOT_ONLY.0 ≡ 0xFFF
  pub all_but_all : without_bits ALL.0 ALL.0 ≡ 0

pub added_and_taken : AreAddedAndTaken
added_and_taken = search

-- ---- numbers

-- the root is channel 0, and SuperUser is account 0
pub record AreNumbers : Type 0 where
  pub root : ROOT.0 ≡ 0
  pub super_user : SUPER_USER.0 ≡ 0

pub numbers : AreNumbers
numbers = search
