-- Where a connection comes from, and how it comes in as a link.
use Rattle.std.specs.Prelude.{◌≡◌, ℕ, Bool, true, false, List, [], Option, Some, unwrap_or}
use Rattle.std.specs.{Option.ForSome, Io.KnownBytes.prepend_known}
use Rattle.mum_address.specs.Header.{IsHeader}

-- the address of its peer, as the sixteen octets of IPv6, and all bytes that come over it, where they are known
pub record Origin : Type 0 where
  pub address : List ℕ
  pub bytes : Option (List ℕ)

-- its peer has this address; and where all bytes that come over it are known, they are these, which were read, and after them
-- those that are left
abbrev pub HasRead : Origin → Option (List ℕ) → List ℕ → List ℕ → Type 0
HasRead origin left bytes address =
    (address ≡ origin.address) × ForSome origin.bytes (λ all. prepend_known bytes left ≡ Some all)

-- A link comes in. Without a header: nothing of it was read, and its address is that of its peer. After the header of a
-- relay: all of that was read, and nothing after it; its address is the one that the header names, or that of its peer, if
-- the header names none.
abbrev pub ComesIn : Bool → Origin → Option (List ℕ) → List ℕ → Type 0
ComesIn false origin left address = HasRead origin left [] address
ComesIn true origin left address =
    (header : List ℕ) × (named : Option (List ℕ)) × IsHeader header named
    × HasRead origin left header origin.address × (address ≡ unwrap_or named origin.address)
