use Rattle.mum_address.proofs.Common.{take, ap, ◌∙◌, arith, length-take-le, octets_of, segments_of}
use Rattle.mum_address.proofs.Octets.{octets_of_sixteen, IsBytes-take}
use Rattle.mum_address.proofs.proxy.ipv6_of.Goals as goal

pub returns : goal.returns
returns c =
    let bytes = c.args.bytes.now in
    ap octets_of c.from.ensures ∙ ap (λ octets. octets_of (segments_of octets)) c.in-Some.ensures.cases.same
    ∙ octets_of_sixteen (take 16 bytes) (length-take-le 16 bytes (omega (arith, c.requires))) (IsBytes-take 16 bytes (omega (arith, c.requires)) (λ i. omega (arith, c.type_inv.bytes i)))
