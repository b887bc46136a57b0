use Rattle.mum_session.proofs.Common.{◌∙◌, sym, IfOk-weaker}
use Rattle.mum_session.proofs.Lists.{listed}
use Rattle.mum_session.proofs.session.Session.other.Goals as goal

pub returns-then-comes_after_login : goal.returns-then-comes_after_login
returns-then-comes_after_login c =
    let is = listed c.args.self.now c.args.kind c.args.payload c.as_slice.result.now (sym c.comes_after_login.ensures ∙ c.if-comes_after_login.true) c.as_slice.ensures in
    IfOk-weaker c.later.result _ _ (λ _ so. so ∙ is) c.later.ensures
