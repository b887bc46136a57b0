use Rattle.mum_router.proofs.Common.{length, length-append, ap, arith, rules, ◌∙◌, plain_parts}
use Rattle.mum_router.proofs.{Copies.same_delivers, Copies.same_on, Delivering.delivers_next}
use Rattle.mum_router.proofs.offering.deliver_each.Goals as goal

pub loop-hearer-preserved : goal.loop-hearer-preserved
loop-hearer-preserved g c =
    let inv = c.loop-hearer.invariant in
    let told = c.deliver-was_sent.ensures.delivers in
    let packet = plain_parts c.args.packet.now in
    let first = c.args.draft.now in
    let draft = c.loop-hearer.draft in
    let one = same_delivers first draft packet _ _ _ inv.5 told.1 in
    let more = delivers_next first.note.edits first.speaker packet c.args.hearers.now c.loop-hearer.hearer-index _ c.args.outs.now.items c.loop-hearer.outs.items c.deliver-was_sent.new.outs.items c.loop-hearer.marks c.loop-hearer.sent told.0 c.deliver-was_sent.result (omega arith) told.2 inv.0 one in
    let marked = ap length c.push.ensures ∙ length-append c.loop-hearer.marks _ in (
      rw c.push.ensures (rw c.from-sent.ensures more),
      c.deliver-was_sent.ensures.draft,
      c.deliver-was_sent.ensures.boxes,
      omega (arith, marked, inv.3),
      search rules,
      same_on first draft c.deliver-was_sent.new.draft inv.5 c.deliver-was_sent.ensures.same,
    )
