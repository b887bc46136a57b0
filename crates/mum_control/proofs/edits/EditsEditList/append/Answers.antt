use Rattle.mum_control.proofs.Common.{◌∙◌, ap, subst, sym, IfSome, IsTrue, Edit, applied, fits, StateValue, IsLast, appended, latest, PublisherFacts, with_edit}
use Rattle.mum_control.proofs.{Appending.leads, Copied.copied}
use Rattle.mum_control.proofs.edits.EditsEditList.append.Goals as goal

-- the edit that was appended last is this one
pub go_on-requires : goal.go_on-requires
go_on-requires c =
    let edit = c.args.edit in
    let old = c.self.inside.publisher.now in
    let twin = c.self.inside.twin in
    let fit : IsTrue (fits twin edit) = subst (λ (s : StateValue). IsTrue (fits s edit)) (sym (c.self.invariant ∙ ap latest c.self.view_is)) c.requires.fits in
    let next = c.requires.next ∙ ap (λ (s : StateValue). applied s edit) (sym (c.self.invariant ∙ ap latest c.self.view_is)) in
    let last : IfSome c.last_appended.result (λ e. IsLast e.now (appended (with_edit old edit))) =
    subst (λ (p : PublisherFacts). IfSome c.last_appended.result (λ e. IsLast e.now (appended p))) c.in-Ok.ensures.ok c.last_appended.ensures in
    λ found is. leads old twin c.args.next edit found fit next
    (copied (λ (e : Edit). IsLast e (appended (with_edit old edit))) c.last_appended.result found last is)
