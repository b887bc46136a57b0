use Rattle.mum_router.proofs.Common.{ℕ, List, ap, VoiceFacts}
use Rattle.mum_router.proofs.Returned.{came_back}
use Rattle.mum_router.proofs.outlet.Out.offer.Goals as goal

pub returns-then-not-put_as : goal.returns-then-not-put_as
returns-then-not-put_as g c =
    let to = c.args.to in
    let edits = c.args.note.edits in
    came_back c.self.inside.pass c.args.self.now c.put_as.new.pass (record { to = to; bytes = c.fill.new.list.items; edits = edits }) (record { to = to; bytes = c.args.bytes.now; edits = edits }) c.put_as.result
    c.self.view_is (ap (λ (items : List ℕ). let one : VoiceFacts = record { to = to; bytes = items; edits = edits } in one) c.fill.ensures) c.if-not-put_as.true c.put_as.ensures
