-- Headers are distinguished.
use Rattle.mum_address.proofs.Common.{◌≡◌, ℕ, ◌≤◌, List, [], ◌++◌, length, Option, Some, refl, sym, ap, ◌∙◌, arith, inl, inr, mapped_octets, Tells, IsHeader}
use Rattle.mum_address.proofs.Fronts.{whole_is, whole_read, front_read}

pub one : (bytes : List ℕ) (told other : Option (List ℕ)) → IsHeader bytes told → IsHeader bytes other → told ≡ other
one bytes told other is also = whole_is told other (sym (whole_read bytes told is) ∙ whole_read bytes other also)

pub begins_no_other : (bytes more : List ℕ) (told other : Option (List ℕ)) → IsHeader bytes told → IsHeader (bytes ++ more) other → more ≡ []
begins_no_other bytes more told other is longer =
    elim (front_read bytes more other longer) [
      | inl all ↦ all.0
      | inr some ↦ absurd (let e = sym (whole_read bytes told is) ∙ some.1 in cc)
    ]

pub header_fits : (bytes : List ℕ) (told : Option (List ℕ)) → IsHeader bytes told → length bytes ≤ 536
header_fits bytes told is = omega (arith, ap length is.spelled, is.fits)

tells_sixteen : {command family : ℕ} {rest : List ℕ} {told : Option (List ℕ)} → Tells command family rest told → (octets : List ℕ) → told ≡ Some octets → length octets ≡ 16
tells_sixteen (Tells.own family rest) octets e = absurd cc
tells_sixteen (Tells.ipv4 source more len long) octets e =
    let same : mapped_octets source ≡ octets = cc in
    omega (arith, ap length same, len)
tells_sixteen (Tells.ipv6 source more len long) octets e =
    let same : source ≡ octets = cc in
    omega (arith, ap length same, len)
tells_sixteen (Tells.other family rest is_other) octets e = absurd cc

pub sixteen : (bytes octets : List ℕ) → IsHeader bytes (Some octets) → length octets ≡ 16
sixteen bytes octets is = tells_sixteen is.tells octets refl
