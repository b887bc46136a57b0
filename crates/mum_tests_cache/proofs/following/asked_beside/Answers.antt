use Rattle.std.proofs.Common.{IfOk, ◌≡◌, subst, sym}
use Rattle.mum_cache.specs.Perms.{ArePermsSound, no_perms}
use Rattle.mum_tests_cache.proofs.following.asked_beside.Goals as goal

pub ask-first-requires : goal.ask-first-requires
ask-first-requires g c =
    let none : c.expect-perms.result ≡ no_perms = subst (λ r. IfOk r (λ cache. cache ≡ no_perms)) c.expect-perms.ensures c.new.ensures in
    subst (ArePermsSound c.args.state.now) (sym none) (c.nothing_is_sound.ensures c.args.state.now).perms
