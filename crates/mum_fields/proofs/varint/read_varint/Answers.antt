use Rattle.mum_fields.proofs.Common.{◌≡◌, ◌-◌, ◌≤◌, get_or, sym, ◌∙◌, arith, refl, pow_more, mul-le-mul_left}
use Rattle.mum_fields.proofs.Varints.{behind-start, behind-more}
use Rattle.mum_fields.proofs.varint.read_varint.Goals as goal

pub loop-index-init : goal.loop-index-init
loop-index-init c = record { few = omega arith; scale = refl; below = omega arith; so_far = behind-start c.args.bytes.now }

pub loop-index-preserved : goal.loop-index-preserved
loop-index-preserved c =
    let power = pow_more 128 c.loop-index.index in
    let byte : c.from-byte.result ≡ get_or c.args.bytes.now c.loop-index.index 0 = c.from-byte.ensures in
    let seven_bits : c.from-byte.result - 128 ≤ 127 = omega (arith, c.type_inv.bytes c.loop-index.index) in
    record {
      few = omega arith;
      scale = omega arith;
      below = omega (arith, mul-le-mul_left c.loop-index.scale seven_bits);
      so_far = sym (behind-more c.loop-index.number c.loop-index.scale c.loop-index.index c.args.bytes.now c.from-byte.result (omega arith) (omega arith) byte (omega arith)) ∙ c.loop-index.invariant.so_far;
    }
