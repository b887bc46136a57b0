use Rattle.mum_document.proofs.Common.{◌∙◌, Bor, view, Value}
use Rattle.mum_document.proofs.Objects.{is_found}
use Rattle.mum_document.proofs.object.Object.has.Goals as goal

pub returns : goal.returns
returns c = c.is_some.ensures ∙ is_found (λ (value : Bor Value). view value.now) _ _ c.get.ensures
