use Rattle.mum_keeper.proofs.Common.{subst, sym, StateValue, MayShare}
use Rattle.mum_keeper.proofs.Seeing.{may_share}
use Rattle.mum_keeper.proofs.look.look_once.Goals as goal

pub look-requires : goal.look-requires
look-requires g c edits may y is a b d e f h k =
    subst (λ (state : StateValue). MayShare state c.args.earlier.now c.args.policies) (sym is)
    (may_share c.args.pass.now c.args.earlier.now c.args.policies edits c.requires may)
