-- The state at which the steps of a recording and the entries of a journal begin: the limits and the document of its head.
use Rattle.std.specs.Prelude.{ℕ, List, [], ◌∷◌, ◌++◌, Option, Some, None}
use Rattle.std.specs.Option.{option_map_or}
use Rattle.mum_record.specs.declared.head.TheConstants.{MOST_CHANNELS, MOST_SESSIONS}
use Rattle.mum_state.specs.declared.edit.Edit.{Edit, TheVariants.SetLimits}
use Rattle.mum_state.specs.{After.after, State.StateValue}
use Rattle.mum_document.specs.Fault.{Fault}
use Rattle.mum_config.specs.Document.{config_in, fault_of}
use Rattle.mum_config.specs.declared.config.{Config.Config, TheConstants.DEFAULT_WORKERS}

-- the first fault of a document; where there is none, there is no fault
abbrev pub document_fault : List ℕ → Option Fault
document_fault [] = None
document_fault (byte ∷ bytes) = fault_of (byte ∷ bytes)

-- what a document describes; one of no bytes describes an empty server
abbrev pub described : List ℕ → Option Config
described [] = Some (record { workers = DEFAULT_WORKERS; edits = [] })
described (byte ∷ bytes) = config_in (byte ∷ bytes)

-- the edits that a document describes; without one the server starts empty. A recording and a journal name their own
-- workers, so those that a document names do not count
abbrev pub document_edits : List ℕ → List Edit
document_edits [] = []
document_edits (byte ∷ bytes) = option_map_or (λ config. config.edits) (config_in (byte ∷ bytes)) []

-- the edit that sets limits of sessions and of channels, where a head names them
abbrev pub limits_edits : Option (ℕ × ℕ) → List Edit
limits_edits None = []
limits_edits (Some limits) = SetLimits limits.0 limits.1 ∷ []

-- room for a session in each slot, and for a channel at each place: the limits of every server
abbrev pub greatest_limits : Option (ℕ × ℕ)
greatest_limits = Some (MOST_SESSIONS, MOST_CHANNELS)

-- the edits after which steps or entries begin: limits come first
abbrev pub opening_edits : Option (ℕ × ℕ) → List ℕ → List Edit
opening_edits limits document = limits_edits limits ++ document_edits document

-- the edits after which a server begins that is given these
abbrev pub served_edits : List Edit → List Edit
served_edits edits = limits_edits greatest_limits ++ edits

-- the state at which steps or entries begin
abbrev pub opening : Option (ℕ × ℕ) → List ℕ → StateValue
opening limits document = after (opening_edits limits document)
