-- The edits of what a document describes are those of the document.
use Rattle.std.proofs.Common.{◌≡◌, ℕ, List, [], ◌∷◌, Some, sym, ap}
use Rattle.std.specs.Option.{option_map_or}
use Rattle.mum_state.specs.declared.edit.Edit.{Edit}
use Rattle.mum_state.specs.After.{after}
use Rattle.mum_config.specs.declared.config.Config.{Config}
use Rattle.mum_opening.specs.Opening.{described, document_edits, greatest_limits, opening, served_edits}

pub edits_are : (document : List ℕ) (config : Config) → described document ≡ Some config → config.edits ≡ document_edits document
edits_are [] config is = sym (ap (λ one. option_map_or (λ (c : Config). c.edits) one []) is)
edits_are (byte ∷ bytes) config is = sym (ap (λ one. option_map_or (λ (c : Config). c.edits) one []) is)

-- a server that is given what a document describes begins where the entries of a journal of that document do
pub opens_alike : (document : List ℕ) (config : Config) → described document ≡ Some config → after (served_edits config.edits) ≡ opening greatest_limits document
opens_alike document config is = ap (λ edits. after (served_edits edits)) (edits_are document config is)
