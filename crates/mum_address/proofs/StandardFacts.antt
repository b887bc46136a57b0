-- Worked headers, after section 2.2 of the document on the PROXY protocol, and worked addresses, so that a wrong rule in
-- the specs does not check.
use Rattle.mum_address.proofs.Common.{◌≡◌, ℕ, List, [], ◌∷◌, ◌++◌, take, replicate, Some, None, codes, signature, reading_rest, reading_length, reading_family, reading_command, reading_behind, reading, needs, whole, refused}

-- 203.0.113.7 and 127.0.0.1 with their ports
abbrev ipv4_addresses : List ℕ
ipv4_addresses = 203 ∷ 0 ∷ 113 ∷ 7 ∷ 127 ∷ 0 ∷ 0 ∷ 1 ∷ 200 ∷ 0 ∷ 251 ∷ 0 ∷ []

-- 2001:db8::7
abbrev ipv6_source : List ℕ
ipv6_source = 0x20 ∷ 0x01 ∷ 0x0D ∷ 0xB8 ∷ 0 ∷ 0 ∷ 0 ∷ 0 ∷ 0 ∷ 0 ∷ 0 ∷ 0 ∷ 0 ∷ 0 ∷ 0 ∷ 7 ∷ []

-- ::ffff:203.0.113.7
abbrev mapped_source : List ℕ
mapped_source = 0 ∷ 0 ∷ 0 ∷ 0 ∷ 0 ∷ 0 ∷ 0 ∷ 0 ∷ 0 ∷ 0 ∷ 0xFF ∷ 0xFF ∷ 203 ∷ 0 ∷ 113 ∷ 7 ∷ []

pub record AreTold : Type 0 where
  pub tcp_over_ipv4 : reading (signature ++ 0x21 ∷ 0x11 ∷ 0 ∷ 12 ∷ ipv4_addresses) ≡ whole (Some mapped_source)
  pub with_a_further_field : reading (signature ++ 0x21 ∷ 0x11 ∷ 0 ∷ 15 ∷ ipv4_addresses ++ 1 ∷ 2 ∷ 3 ∷ []) ≡ whole (Some mapped_source)
  pub tcp_over_ipv6 : reading (signature ++ 0x21 ∷ 0x21 ∷ 0 ∷ 36 ∷ ipv6_source ++ replicate 20 1) ≡ whole (Some ipv6_source)
  pub as_long_as_may_be : reading (signature ++ 0x21 ∷ 0x21 ∷ 2 ∷ 8 ∷ ipv6_source ++ replicate 504 1) ≡ whole (Some ipv6_source)

pub told : AreTold
unfolding reading_rest reading_length reading_family reading_command reading_behind reading
told = search

pub record AreUntold : Type 0 where
  pub of_the_relay : reading (signature ++ 0x20 ∷ 0 ∷ 0 ∷ 0 ∷ []) ≡ whole None
  pub of_the_relay_with_a_family : reading (signature ++ 0x20 ∷ 0x11 ∷ 0 ∷ 0 ∷ []) ≡ whole None
  pub of_the_relay_with_addresses : reading (signature ++ 0x20 ∷ 0x11 ∷ 0 ∷ 12 ∷ ipv4_addresses) ≡ whole None
  pub unspecified : reading (signature ++ 0x21 ∷ 0x00 ∷ 0 ∷ 0 ∷ []) ≡ whole None
  pub udp_over_ipv4 : reading (signature ++ 0x21 ∷ 0x12 ∷ 0 ∷ 12 ∷ ipv4_addresses) ≡ whole None
  pub udp_over_ipv6 : reading (signature ++ 0x21 ∷ 0x22 ∷ 0 ∷ 0 ∷ []) ≡ whole None
  pub unix_stream : reading (signature ++ 0x21 ∷ 0x31 ∷ 0 ∷ 216 ∷ replicate 216 1) ≡ whole None
  pub unix_datagram : reading (signature ++ 0x21 ∷ 0x32 ∷ 0 ∷ 0 ∷ []) ≡ whole None
  pub of_the_relay_with_an_unnamed_family : reading (signature ++ 0x20 ∷ 0x41 ∷ 0 ∷ 0 ∷ []) ≡ whole None

pub untold : AreUntold
unfolding reading_rest reading_length reading_family reading_command reading_behind reading
untold = search

pub record AreFronts : Type 0 where
  pub no_byte : reading [] ≡ needs 16
  pub seven_bytes : reading (take 7 signature) ≡ needs 9
  pub a_signature : reading signature ≡ needs 4
  pub a_command : reading (signature ++ 0x21 ∷ []) ≡ needs 3
  pub a_family : reading (signature ++ 0x21 ∷ 0x11 ∷ []) ≡ needs 2
  pub half_a_length : reading (signature ++ 0x21 ∷ 0x11 ∷ 2 ∷ []) ≡ needs 1
  pub a_length : reading (signature ++ 0x21 ∷ 0x11 ∷ 0 ∷ 15 ∷ []) ≡ needs 15
  pub the_greatest_length : reading (signature ++ 0x21 ∷ 0x11 ∷ 2 ∷ 8 ∷ []) ≡ needs 520
  pub all_but_three_bytes : reading (signature ++ 0x21 ∷ 0x11 ∷ 0 ∷ 15 ∷ ipv4_addresses) ≡ needs 3

pub fronts : AreFronts
unfolding reading_rest reading_length reading_family reading_command reading_behind reading
fronts = search

pub record AreRefused : Type 0 where
  pub another_protocol : reading (codes "GET / HTTP/1.0") ≡ refused
  pub version_1 : reading (codes "PROXY TCP4 ") ≡ refused
  pub a_wrong_byte : reading (take 11 signature ++ 0x0B ∷ []) ≡ refused
  pub version_3 : reading (signature ++ 0x31 ∷ []) ≡ refused
  pub another_command : reading (signature ++ 0x22 ∷ []) ≡ refused
  pub an_unnamed_family : reading (signature ++ 0x21 ∷ 0x41 ∷ []) ≡ refused
  pub an_unnamed_protocol : reading (signature ++ 0x21 ∷ 0x13 ∷ 0 ∷ 12 ∷ ipv4_addresses) ≡ refused
  pub a_family_without_a_protocol : reading (signature ++ 0x21 ∷ 0x10 ∷ []) ≡ refused
  pub a_protocol_without_a_family : reading (signature ++ 0x21 ∷ 0x01 ∷ []) ≡ refused
  pub a_length_of_768 : reading (signature ++ 0x21 ∷ 0x11 ∷ 3 ∷ []) ≡ refused
  pub a_length_of_521 : reading (signature ++ 0x21 ∷ 0x11 ∷ 2 ∷ 9 ∷ []) ≡ refused
  pub too_short_for_ipv4 : reading (signature ++ 0x21 ∷ 0x11 ∷ 0 ∷ 11 ∷ []) ≡ refused
  pub too_short_for_ipv6 : reading (signature ++ 0x21 ∷ 0x21 ∷ 0 ∷ 35 ∷ []) ≡ refused
  pub one_byte_behind : reading (signature ++ 0x20 ∷ 0 ∷ 0 ∷ 0 ∷ 1 ∷ []) ≡ refused

pub refusals : AreRefused
unfolding reading_rest reading_length reading_family reading_command reading_behind reading
refusals = search
