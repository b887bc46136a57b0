use Rattle.mum_owner.proofs.Common.{subst, sym, arith, AllByRecursion, WasAsked, Command}
use Rattle.mum_owner.proofs.Desks.{all_more}
use Rattle.mum_owner.proofs.logins.Logins.wait.Goals as goal

-- one more, which was asked for
pub invariant_of-self : goal.invariant_of-self
invariant_of-self c =
    let Were : Command → Type 0 = λ login. WasAsked login.what in
    let room = c.self.invariant.0 in
    let same = c.push_back_reserved.ensures.capacity in (
      omega (arith, room, same),
      subst (AllByRecursion Were) (sym c.push_back_reserved.ensures.items) (all_more Were c.self.inside.waiting.items c.args.login c.self.invariant.1 c.requires.asked),
    )
