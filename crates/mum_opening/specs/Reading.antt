-- What reading the document of a head answers.
use Rattle.std.specs.Prelude.{◌≡◌, ℕ, List, Some, None, Result, Ok, Err}
use Rattle.mum_state.specs.declared.edit.Edit.{Edit}
use Rattle.mum_config.specs.Refusal.{NamesByCode}
use Rattle.mum_config.specs.declared.{config.Config.Config, refusal.BadConfig.BadConfig}
use Rattle.mum_opening.specs.Opening.{described, document_edits, document_fault}

-- what a document describes in which there is no fault, or its first fault; or memory ran out
abbrev pub ReadsDescribed : List ℕ → Result Config BadConfig → Type 0
ReadsDescribed document (Ok config) = (document_fault document ≡ None) × (described document ≡ Some config)
ReadsDescribed document (Err error) = NamesByCode error (document_fault document)

-- the edits of a document in which there is no fault, or its first fault; or memory ran out
abbrev pub ReadsDocument : List ℕ → Result (List Edit) BadConfig → Type 0
ReadsDocument document (Ok edits) = (document_fault document ≡ None) × (edits ≡ document_edits document)
ReadsDocument document (Err error) = NamesByCode error (document_fault document)
