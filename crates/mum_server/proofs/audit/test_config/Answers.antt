-- The first fault of the document.
use Rattle.mum_server.proofs.Common.{◌∙◌, ℕ, List, sym, ap, option_map, told_fault, document_fault}
use Rattle.mum_server.proofs.audit.test_config.Goals as goal

pub returns-in-Err-Fault : goal.returns-in-Err-Fault
returns-in-Err-Fault c =
    rw c.faulty.ensures (
      ap (λ (bytes : List ℕ). option_map told_fault (document_fault bytes)) (sym c.as_slice.ensures) ∙ (rw c.in-Err-Fault.field-0-is at c.in-Err-Fault.ensures.reads),
      c.config_line.ensures,
    )
