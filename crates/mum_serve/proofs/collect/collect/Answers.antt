-- What the roles came to is what is handed on.
use Rattle.mum_serve.proofs.Common.{◌≡◌, ◌∙◌, ℕ, true, ap, refl, subst, NoMoreCome, given_after_all, Opening}
use Rattle.mum_owner.specs.Turned.{has_ended}
use Rattle.mum_serve.proofs.Clocking.{clock_comes_back}
use Rattle.mum_serve.proofs.collect.collect.Goals as goal

pub returns-clause-clock : goal.returns-clause-clock
returns-clause-clock g c = clock_comes_back g.K.Clock.last g.K.Clock.calls c.finish-door.result.clock c.args.roles.owner c.finish-door.ensures.clock

pub returns-clause-came : goal.returns-clause-came
returns-clause-came g c =
    let owner = c.args.roles.owner in
    let end = c.finish-door.ensures in
    let left = c.finish-door.result.door in
    let ended = c.end_workers-by_worker.ensures in
    record {
      began = ap (λ (o : Opening). o.state) end.opening;
      controls = c.from_vec.ensures ∙ end.entries;
      decided = end.decided;
      by_worker = ended.entries;
      writable = record { controls = rw c.from_vec.ensures end.writable; by_worker = ended.writable };
      sums = rw (c.of.ensures, end.connections, end.accepted, ended.totals) refl;
      counted = end.counts;
      failed = λ yes. end.failed (end.door_failed ∙ yes);
      steady = λ no. end.steady (end.door_failed ∙ no);
      gave = subst (λ (n : ℕ). (g.D.Door.facts left).given ≡ given_after_all g.N.Doorside.door.given n) end.connections end.given;
      address = end.address;
      door_is = end.door;
      over = subst (λ (n : ℕ). has_ended owner ≡ true → NoMoreCome n owner.guests.limit g.N.Doorside.door.counts (g.D.Door.facts left).counts) end.connections end.over;
    }
