use Rattle.mum_router.proofs.Common.{List, subst, sym, ◌≢◌, All, recursion_from_All, Hearer}
use Rattle.mum_router.proofs.Others.{untouched}
use Rattle.mum_router.proofs.laws.other_boxes_stay.Goals as goal

pub returns : goal.returns
returns c = λ opening old speaker packet edits deliveries new routed routes slot nobody.
    untouched edits speaker packet slot deliveries old.outs new.outs routes.offers
    (recursion_from_All _ _ (subst (λ (hs : List Hearer). All (λ h. h.slot.0 ≢ slot) hs) (sym routes.each) nobody))
