use Rattle.mum_owner.proofs.Common.{◌∙◌, refl, sym}
use Rattle.mum_owner.proofs.Desks.{posted_one}
use Rattle.mum_control.specs.declared.posted.Posted.TheVariants as posted
use Rattle.mum_owner.proofs.owner.Owner.post.Goals as goal

pub returns-in-None : goal.returns-in-None
returns-in-None g c =
    posted_one _ _ posted.None c.post_next.new.self _ _ c.self.view_is (sym c.has_lag.ensures ∙ c.if-has_lag.false) c.in-None.ensures refl refl

pub returns-in-Posted : goal.returns-in-Posted
returns-in-Posted g c =
    posted_one _ _ (posted.Posted c.in-Posted.field-0) c.post_next.new.self _ _ c.self.view_is (sym c.has_lag.ensures ∙ c.if-has_lag.false) c.in-Posted.ensures refl refl

pub returns-in-Lagged : goal.returns-in-Lagged
returns-in-Lagged g c =
    posted_one _ _ (posted.Lagged c.in-Lagged.session) c.post_next.new.self _ _ c.self.view_is (sym c.has_lag.ensures ∙ c.if-has_lag.false) c.in-Lagged.ensures refl c.note_lagged.ensures
