use Rattle.mum_router.proofs.Common.{sym, subst, arith, StateValue, AreSound}
use Rattle.mum_router.proofs.Sound.{sound_later}
use Rattle.mum_router.proofs.picking.look_for.Goals as goal

-- what is kept is sound at what was seen, and so at each list that the look may meet
pub look-requires : goal.look-requires
look-requires g c edits may y is a b d e h k l m n fits o p =
    let aimed = c.requires.packet.target in (
      omega (arith, aimed),
      subst (λ (state : StateValue). AreSound state c.args.caches.now) (sym is)
          (sound_later c.args.caches.now c.args.pass.now.opening.state c.args.pass.now.seen edits c.requires.proper may.seen may.fit c.requires.sound),
    )
