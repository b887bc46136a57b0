-- The header of the PROXY protocol, version 2, by which a relay gives the address of its client: section 2.2 of
-- https://www.haproxy.org/download/2.6/doc/proxy-protocol.txt. An address is its sixteen octets, as IPv6 writes it.
use Rattle.std.specs.Prelude.{ℕ, ◌≡◌, ◌+◌, ◌-◌, ◌*◌, ◌/◌, ◌%◌, ◌^◌, ◌<◌, ◌≤◌, ◌==◌, ◌||◌, Bool, true, List, [], ◌∷◌, ◌++◌, length, take, All, Option, Some, None, nat_lt, if◌then◌else◌}
use Rattle.std.specs.{Option.option_map, Net.Addr.ipv6_octets}
use Rattle.mum_address.specs.declared.proxy.Header.{Header, TheVariants.Needs, TheVariants.Whole, TheVariants.Refused}

abbrev pub signature : List ℕ
signature = 0x0D ∷ 0x0A ∷ 0x0D ∷ 0x0A ∷ 0x00 ∷ 0x0D ∷ 0x0A ∷ 0x51 ∷ 0x55 ∷ 0x49 ∷ 0x54 ∷ 0x0A ∷ []

-- an address of IPv4 as IPv6 writes it
abbrev pub mapped_octets : List ℕ → List ℕ
mapped_octets octets = 0 ∷ 0 ∷ 0 ∷ 0 ∷ 0 ∷ 0 ∷ 0 ∷ 0 ∷ 0 ∷ 0 ∷ 0xFF ∷ 0xFF ∷ octets

-- ---- the grammar

-- the families with their protocol whose addresses are not taken: unspecified; UDP over IPv4 and IPv6; sockets of one
-- machine, as streams and datagrams
abbrev pub is_other_family : ℕ → Bool
is_other_family family =
    (family == 0x00) || (family == 0x12) || (family == 0x22) || (family == 0x31) || (family == 0x32)

-- What address the command, the family with its protocol, and all bytes after the length give. The source comes first,
-- and further fields may follow the addresses and ports.
pub data Tells : ℕ → ℕ → List ℕ → Option (List ℕ) → Type 0 where
  -- the relay's own connection, whatever its family
  own : (family : ℕ) (rest : List ℕ) → Tells 0x20 family rest None
  -- TCP over IPv4: two addresses of four bytes and two ports
  ipv4 : (source more : List ℕ) → length source ≡ 4 → 12 ≤ length (source ++ more)
      → Tells 0x21 0x11 (source ++ more) (Some (mapped_octets source))
  -- TCP over IPv6: two addresses of sixteen bytes and two ports
  ipv6 : (source more : List ℕ) → length source ≡ 16 → 36 ≤ length (source ++ more)
      → Tells 0x21 0x21 (source ++ more) (Some source)
  -- a client with another address, or with none
  other : (family : ℕ) (rest : List ℕ) → is_other_family family ≡ true → Tells 0x21 family rest None

-- All these bytes are a header, which gives this address or none: the signature, the version with the command, the family
-- with the protocol, the length of the rest in two bytes, the higher first, and the rest.
pub record IsHeader (bytes : List ℕ) (told : Option (List ℕ)) : Type 0 where
  pub command : ℕ
  pub family : ℕ
  pub rest : List ℕ
  pub spelled : bytes ≡ signature ++ command ∷ family ∷ (length rest / 2 ^ 8) ∷ (length rest % 2 ^ 8) ∷ rest
  pub fits : length rest ≤ 520
  pub tells : Tells command family rest told

-- no header begins with these bytes
abbrev pub BeginsNone : List ℕ → Type 0
BeginsNone bytes = (more : List ℕ) (told : Option (List ℕ)) → IsHeader (bytes ++ more) told → ⊥

abbrev pub AreBytes : List ℕ → Type 0
AreBytes bytes = All (λ byte. byte < 2 ^ 8) bytes

-- a header begins with these bytes, and each that does has at least n more
pub record LacksBytes (bytes : List ℕ) (count : ℕ) : Type 0 where
  pub more : List ℕ
  pub told : Option (List ℕ)
  pub are_bytes : AreBytes more
  pub header : IsHeader (bytes ++ more) told
  pub at_least_one : 1 ≤ count
  pub at_least : (more : List ℕ) (told : Option (List ℕ)) → IsHeader (bytes ++ more) told → count ≤ length more
  pub fits : length bytes + count ≤ 536

-- ---- reading, as a function

-- what bytes are: the front of a header that needs n more at least, a whole header, or the front of none
pub data Reading : Type 0 where
  needs : ℕ → Reading
  whole : Option (List ℕ) → Reading
  refused : Reading

abbrev pub is_command : ℕ → Bool
is_command command = (command == 0x20) || (command == 0x21)

-- the command may have this family: for a client one of those above, for the relay's own connection any
abbrev pub is_family : ℕ → ℕ → Bool
is_family command family =
    if command == 0x21 then (family == 0x11) || (family == 0x21) || is_other_family family else true

-- the least length of the rest
abbrev pub least_rest : ℕ → ℕ → ℕ
least_rest command family =
    if command == 0x21 then (if family == 0x11 then 12 else if family == 0x21 then 36 else 0) else 0

-- the address that the rest gives
abbrev pub told_by : ℕ → ℕ → List ℕ → Option (List ℕ)
told_by command family rest =
    if command == 0x21
    then (if family == 0x11 then Some (mapped_octets (take 4 rest)) else if family
    == 0x21 then Some (take 16 rest) else None)
    else None

-- what has come of the rest, whose length is len
unfoldable pub reading_rest : ℕ → ℕ → ℕ → List ℕ → Reading
reading_rest command family len rest =
    if nat_lt 520 len then refused
    else if nat_lt len (least_rest command family) then refused
    else if nat_lt len (length rest) then refused
    else if nat_lt (length rest) len then needs (len - length rest)
    else whole (told_by command family rest)

-- the lower byte of the length has not come
abbrev pub reading_high : ℕ → Reading
reading_high high = if nat_lt 520 (high * 2 ^ 8) then refused else needs 1

-- what has come after the family
unfoldable pub reading_length : ℕ → ℕ → List ℕ → Reading
reading_length command family [] = needs 2
reading_length command family (high ∷ []) = reading_high high
reading_length command family (high ∷ low ∷ rest) = reading_rest command family (high * 2 ^ 8 + low) rest

-- what has come after the command
unfoldable pub reading_family : ℕ → List ℕ → Reading
reading_family command [] = needs 3
reading_family command (family ∷ bytes) =
    if is_family command family then reading_length command family bytes else refused

-- what has come after the signature
unfoldable pub reading_command : List ℕ → Reading
reading_command [] = needs 4
reading_command (command ∷ bytes) = if is_command command then reading_family command bytes else refused

-- what has come where these bytes of the signature are missing
unfoldable pub reading_behind : List ℕ → List ℕ → Reading
reading_behind [] bytes = reading_command bytes
reading_behind (next ∷ missing) [] = needs (length (next ∷ missing) + 4)
reading_behind (next ∷ missing) (byte ∷ bytes) = if byte == next then reading_behind missing bytes else refused

unfoldable pub reading : List ℕ → Reading
reading bytes = reading_behind signature bytes

-- what reading answered, with addresses as octets
abbrev pub plain : Header → Reading
plain (Needs count) = needs count
plain (Whole source) = whole (option_map ipv6_octets source)
plain Refused = refused
