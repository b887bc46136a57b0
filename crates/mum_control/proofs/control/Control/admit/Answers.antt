use Rattle.mum_control.proofs.Common.{◌∙◌, List, ap, subst, sym, IsTrue, vec_capacity, Login, PublisherFacts, is_admitted, admitted_last, with_login, ControlFacts}
use Rattle.mum_control.proofs.Keeping.{kept_admitting}
use Rattle.mum_control.proofs.control.Control.admit.Goals as goal

pub invariant_of-self : goal.invariant_of-self
invariant_of-self g c =
    let inside = c.self.inside in
    kept_admitting g.N.Naming.opening inside.edits c.admit.new.self c.args.connection c.args.end inside.posts.items inside.pending inside.lagged.items
    (vec_capacity inside.lagged) c.self.invariant c.admit.ensures

pub returns-clause-login : goal.returns-clause-login
returns-clause-login g c =
    let inside = c.self.inside in
    ap (λ (p : PublisherFacts). let k : ControlFacts = record { publisher = p; posts = inside.posts.items; pending = inside.pending; lagged = inside.lagged.items; mark = inside.mark } in k) c.admit.ensures
    ∙ ap (λ (k : ControlFacts). record k { publisher = with_login k.publisher c.args.connection c.args.end }) c.self.view_is

pub returns-clause-admitted : goal.returns-clause-admitted
returns-clause-admitted g c =
    subst (λ (roll : List Login). IsTrue (is_admitted c.args.end c.args.connection roll)) (sym (ap (λ (p : PublisherFacts). p.roll) c.admit.ensures))
    (admitted_last c.args.end c.args.connection c.self.inside.edits.roll)
