use Rattle.mum_tree.proofs.Common.{List, sym, subst, IfSome, Row, LeadUp, IsWay, TreeState}
use Rattle.mum_tree.proofs.Upward.{way_found}
use Rattle.mum_tree.proofs.tree.Tree.path.Goals as goal

pub returns-clause-way : goal.returns-clause-way
returns-clause-way c =
    let rows = c.self.inside.rows.items in
    let same = c.deref.ensures.value in
    subst (λ (t : TreeState). IfSome c.find_path.result (λ found. IsWay t.channels c.args.id found.items)) c.self.view_is
    (subst (λ (rs : List Row). IfSome c.find_path.result (λ found. IsWay rs c.args.id found.items)) same
    (way_found (λ found. found.items) c.find_path.result c.deref.result.now c.args.id (subst LeadUp (sym same) c.self.invariant.proper.lead c.args.id) c.find_path.ensures.value c.find_path.ensures.there))
