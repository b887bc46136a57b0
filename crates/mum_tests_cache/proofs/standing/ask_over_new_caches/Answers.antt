use Rattle.std.proofs.Common.{IfOk, ◌≡◌, subst, sym}
use Rattle.mum_cache.specs.{Caches.AreSound, Perms.ArePermsSound, Perms.no_perms, Routes.AreRoutesSound, Routes.no_routes}
use Rattle.mum_tests_cache.proofs.standing.ask_over_new_caches.Goals as goal

pub ask-requires-clause-sound : goal.ask-requires-clause-sound
ask-requires-clause-sound g c =
    let perms : c.expect-caches.result.perms ≡ no_perms = subst (λ r. IfOk r (λ caches. caches.perms ≡ no_perms)) c.expect-caches.ensures c.new.ensures.perms in
    let routes : c.expect-caches.result.routes ≡ no_routes = subst (λ r. IfOk r (λ caches. caches.routes ≡ no_routes)) c.expect-caches.ensures c.new.ensures.routes in
    record {
      perms = subst (ArePermsSound c.args.state.now) (sym perms) (c.nothing_is_sound.ensures c.args.state.now).perms;
      routes = subst (AreRoutesSound c.args.state.now) (sym routes) (c.nothing_is_sound.ensures c.args.state.now).routes;
    }
