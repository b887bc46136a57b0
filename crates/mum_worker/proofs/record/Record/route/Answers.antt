-- A packet that was routed has some bytes, so its entry has a line.
use Rattle.mum_worker.proofs.CommonNames.{ℕ, ◌<◌, List, length, rules, subst}
use Rattle.mum_worker.proofs.Journals.{packet_filled, voice_behind}
use Rattle.mum_worker.proofs.record.Record.route.Goals as goal

pub invariant_of-self : goal.invariant_of-self
invariant_of-self g c =
    let filled : 0 < length c.args.packet =
    subst (λ (bytes : List ℕ). 0 < length bytes) c.as_slice.ensures (packet_filled c.as_slice.result.now c.in-Some.ensures.parts c.in-Some.ensures.parsed) in (
      search rules,
      search rules,
      search rules,
      search rules,
      voice_behind _ _ _ _ _ _ c.push_reserved.ensures.items filled c.self.invariant.4,
    )
