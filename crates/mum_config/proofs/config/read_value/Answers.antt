use Rattle.mum_config.proofs.Common.{◌≡◌, true, false, refl, sym, ◌∙◌, out_of_memory}
use Rattle.mum_config.proofs.Documents.{no_value_said, value_read}
use Rattle.mum_config.proofs.config.read_value.Goals as goal

pub returns-in-Ok : goal.returns-in-Ok
returns-in-Ok c = value_read _ _ c.in-Ok.ensures.ok.0 c.in-Ok.ensures.ok.1

pub returns-in-Err : goal.returns-in-Err
returns-in-Err c = out_of_memory _ _ refl

pub returns-in-Err-2 : goal.returns-in-Err-2
returns-in-Err-2 c =
    rw (no_value_said _ (λ utf8. c.in-Err.ensures.err (λ memory. let bad : false ≡ true = sym c.if-is_memory.false ∙ c.is_memory.ensures.1 memory in absurd (cc)) utf8)) c.fault_at.ensures
