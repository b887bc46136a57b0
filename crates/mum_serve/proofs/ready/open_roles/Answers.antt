-- They are listed in their order.
use Rattle.mum_serve.proofs.Common.{sym, subst, service, AreNew, Unused}
use Rattle.mum_serve.proofs.ready.open_roles.Goals as goal

pub returns-in-Ok-open_each-clause-ready : goal.returns-in-Ok-open_each-clause-ready
returns-in-Ok-open_each-clause-ready g c =
    let roles = c.in-Ok-open_each.fresh.roles in
    record {
      owner = roles.owner;
      crew = roles.workers.items;
      viewer = roles.viewer;
      store = roles.store;
      are = c.listed.ensures.roles;
      new =
          subst
          (λ (unused : Unused _ _).
          AreNew g.K.Clock.last g.K.Clock.calls g.N.Naming.opening (service c.args.asked.now) c.args.beginning.workers c.args.rows c.args.objects roles.owner roles.workers.items roles.viewer roles.store unused)
          (sym c.listed.ensures.unused) c.in-Ok-open_each.ensures.fresh;
    }
