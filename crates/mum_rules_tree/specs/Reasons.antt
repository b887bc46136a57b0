-- Why a message on channels is ignored.
use Rattle.std.specs.Prelude.{◌||◌, not, nat_le, nat_lt, Bool, List, [], ◌∷◌, length, is_none}
use Rattle.mum_base.specs.declared.{number.SessionId.SessionId, outcome.Reason.Reason}
use Rattle.mum_base.specs.declared.outcome.Reason.TheVariants.{Gone, TooLong, NotThere}
use Rattle.mum_users.specs.Sessions.{session_of}
use Rattle.mum_state.specs.declared.count.TheConstants.{EDIT_LIMIT}
use Rattle.mum_state.specs.State.{StateValue}
use Rattle.mum_rules_tree.specs.{Asked.names_there, Asked.payload_of, Decision.Case, Decision.case_of}
use Rattle.mum_rules_tree.specs.declared.{message.TreeMessage.TreeMessage, reason.TheConstants.COMMAND_LIMIT}

abbrev pub is_gone : StateValue → SessionId → Bool
is_gone state session = is_none (session_of state.roster session)

-- sessions made as many edits as they can
abbrev pub takes_no_edits : StateValue → Bool
takes_no_edits state = nat_le EDIT_LIMIT state.counts.revision

abbrev pub reasons : StateValue → SessionId → TreeMessage → List (Case Reason)
reasons state actor message =
    case_of Gone (is_gone state actor || takes_no_edits state)
    ∷ case_of TooLong (nat_lt COMMAND_LIMIT (length (payload_of message)))
    ∷ case_of NotThere (not (names_there state.tree message))
    ∷ []
