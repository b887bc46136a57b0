-- What is kept of permissions and of routes.
use Rattle.mum_state.specs.State.{StateValue}
use Rattle.mum_cache.specs.declared.caches.Caches.{Caches}
use Rattle.mum_cache.specs.{Perms.ArePermsSound, Perms.no_perms, Routes.AreRoutesSound, Routes.no_routes}

-- nothing is kept
abbrev pub no_caches : Caches
no_caches = record { perms = no_perms; routes = no_routes }

-- both are sound
pub record AreSound (state : StateValue) (caches : Caches) : Type 0 where
  pub perms : ArePermsSound state caches.perms
  pub routes : AreRoutesSound state caches.routes
