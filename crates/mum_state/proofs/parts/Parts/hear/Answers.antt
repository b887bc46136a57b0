use Rattle.mum_state.proofs.Common.{◌∙◌, Bool, ap, sym, Renewed, Nobody, sets_policy, heard_again}
use Rattle.mum_state.proofs.Marking.{heard_nobody}
use Rattle.mum_state.proofs.parts.Parts.hear.Goals as goal

pub returns-in-Nobody : goal.returns-in-Nobody
returns-in-Nobody c =
    heard_nobody c.args.self.now
    ∙ ap (λ (b : Bool). heard_again Nobody b c.args.self.now) c.if-sets_policy.ensures
    ∙ ap (λ (renewed : Renewed). heard_again renewed (sets_policy c.args.edit.now) c.args.self.now) (sym c.in-Nobody.is)
