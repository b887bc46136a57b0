use Rattle.mum_link.proofs.Common.{ap, refl, option_map, ipv6_octets, plain}
use Rattle.mum_link.proofs.entrance.Entrance.next_waiting.Goals as goal

pub admit_waiting-requires : goal.admit_waiting-requires
admit_waiting-requires g c = λ waiting is.
    c.in_ok-read_waiting.ensures.answer _ refl (option_map ipv6_octets c.in-Whole.client) (ap plain c.in-Whole.is) waiting is
