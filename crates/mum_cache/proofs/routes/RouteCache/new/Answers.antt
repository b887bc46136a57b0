use Rattle.mum_cache.proofs.Common.{no_routes}
use Rattle.mum_cache.proofs.routes.RouteCache.new.Goals as goal

pub returns : goal.returns
unfolding no_routes
returns c = c.in_ok-new.ensures
