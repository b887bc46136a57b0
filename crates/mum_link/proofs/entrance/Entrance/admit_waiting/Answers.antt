use Rattle.mum_link.proofs.Common.{◌≡◌, ap, subst, ◌∙◌, IfSome, ipv6_octets}
use Rattle.mum_link.proofs.Reading.{comes_behind, named_address}
use Rattle.mum_link.proofs.entrance.Entrance.admit_waiting.Goals as goal

pub returns-clause-comes : goal.returns-clause-comes
returns-clause-comes g c = λ link is.
    let waited = c.in_ok-socket.field-0 in
    let given = subst (λ r. IfSome r (λ link. link.address ≡ c.unwrap_or.result)) is c.admit.ensures.address in
    comes_behind (g.S.Socket.origin waited.socket) _ (g.S.Socket.left waited.socket) _ _ waited.reader (ipv6_octets waited.address) _ waited.came
    (c.requires waited c.in_ok-socket.ensures.taken.0) (c.admit.ensures.origin link is) (c.admit.ensures.left link is)
    (ap ipv6_octets (given ∙ c.unwrap_or.ensures) ∙ named_address ipv6_octets c.args.client waited.address)
