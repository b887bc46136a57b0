use Rattle.mum_voice.proofs.Common.{ℕ, ◌+◌, ◌≤◌, ◌^◌, ◌<◌, List, ◌++◌, length, ap, arith, length-append}
use Rattle.mum_voice.proofs.Shortest.{length-shortest_small}
use Rattle.mum_voice.proofs.packet.Packet.copy_into.Goals as goal

parts_fit : (sequence audio position : List ℕ) → length ((sequence ++ audio) ++ position) + 1 ≤ 1020 → length sequence + length audio + length position ≤ 1019
parts_fit sequence audio position fits = omega (arith, length-append (sequence ++ audio) position, length-append sequence audio)

pub append-requires-2 : goal.append-requires-2
append-requires-2 c =
    let small : c.from.result < 2 ^ 32 = omega arith in
    omega (arith, parts_fit c.args.self.now.sequence.now c.args.self.now.audio.now c.args.self.now.position.now (omega (arith, c.requires.packet.fits)), ap length c.requires.empty, ap length c.deref.ensures.0, ap length c.write_varint.ensures.bytes, length-shortest_small c.from.result small)

pub append-requires-3 : goal.append-requires-3
append-requires-3 c =
    let small : c.from.result < 2 ^ 32 = omega arith in
    omega (arith, parts_fit c.args.self.now.sequence.now c.args.self.now.audio.now c.args.self.now.position.now (omega (arith, c.requires.packet.fits)), ap length c.requires.empty, ap length c.deref.ensures.0, ap length c.write_varint.ensures.bytes, length-shortest_small c.from.result small)

pub append-requires-then-with_position : goal.append-requires-then-with_position
append-requires-then-with_position c =
    let small : c.from.result < 2 ^ 32 = omega arith in
    omega (arith, parts_fit c.args.self.now.sequence.now c.args.self.now.audio.now c.args.self.now.position.now (omega (arith, c.requires.packet.fits)), ap length c.requires.empty, ap length c.deref.ensures.0, ap length c.write_varint.ensures.bytes, length-shortest_small c.from.result small)
