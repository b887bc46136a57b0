-- Nothing is posted while an edit is not published, and else the first notice that waits.
use Rattle.mum_control.proofs.Common.{◌∙◌, List, refl, subst, sym, Notice, PostsNext}
use Rattle.mum_control.proofs.{Reporting.all_due, Reporting.none_due, Reporting.reports_shown, Settling.posts_on}
use Rattle.mum_control.specs.declared.posted.Posted.TheVariants as posted
use Rattle.mum_control.proofs.control.Control.post_next.Goals as goal

pub post-requires-clause-reports : goal.post-requires-clause-reports
post-requires-clause-reports g c =
    reports_shown g.N.Naming.opening c.args.self.now.publisher c.in-Some-take_notice.notice c.in-Some.note c.in-Some.ensures.note.0 c.in-Some.ensures.note.1 c.in-Some-take_notice.ensures.3

pub returns-in-Some-take_notice : goal.returns-in-Some-take_notice
returns-in-Some-take_notice g c =
    let old = c.args.self.now in
    let mid = c.take_notice.new.self in
    let due = all_due old.publisher.pending old.pending c.in-Some.ensures.note.0 in
    subst (λ (pending : List Notice). PostsNext old pending c.post.result c.post.new.self) (sym (due ∙ c.in-Some-take_notice.ensures.0))
    (posts_on old mid mid.pending c.in-Some-take_notice.notice c.post.result c.post.new.self c.in-Some-take_notice.ensures.1 c.post.ensures)

pub returns-in-None : goal.returns-in-None
returns-in-None g c =
    let old = c.args.self.now in
    let due = all_due old.publisher.pending old.pending c.in-Some.ensures.note.0 in
    subst (λ (pending : List Notice). PostsNext old pending posted.None c.take_notice.new.self) (sym (due ∙ c.in-None.ensures.0)) (refl, c.in-None.ensures.1)

pub returns-in_default : goal.returns-in_default
returns-in_default g c =
    let old = c.args.self.now in
    subst (λ (pending : List Notice). PostsNext old pending posted.None old) (sym (none_due old.publisher.pending old.pending c.in_default.ensures.note)) (refl, refl)
