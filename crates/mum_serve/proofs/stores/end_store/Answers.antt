-- The store was settled where the roles have run.
use Rattle.mum_serve.proofs.Storing.{ends_store}
use Rattle.mum_serve.proofs.stores.end_store.Goals as goal

pub returns : goal.returns
returns g c =
    ends_store g.P.Keeper.facts c.args.end g.N.Keeping.keeper c.args.state.now c.args.unused c.args.store c.in-Some.store c.settle.new.store c.finish.result.keeper_failed c.finish.result.no_memory c.finish.result.keeper
    c.in-Some.is c.settle.ensures c.finish.ensures.keeper c.finish.ensures.failed c.finish.ensures.no_memory c.finish.ensures.since
