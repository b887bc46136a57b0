use Rattle.mum_control.proofs.Common.{◌≡◌, length, arith, SLOTS}
use Rattle.mum_control.proofs.control.Control.post.Goals as goal

-- each slot has a box
pub offer_at-requires : goal.offer_at-requires
offer_at-requires g c =
    let each : length c.self.inside.posts.items ≡ SLOTS = c.self.invariant.box_each in
    omega (arith, each, c.requires, c.from-place.ensures)
