-- Why a message on users is ignored.
use Rattle.std.specs.Prelude.{◌&&◌, ◌||◌, not, nat_lt, Bool, true, false, List, [], ◌∷◌, length, Option, is_none}
use Rattle.std.specs.Option.{option_map_or}
use Rattle.mum_base.specs.declared.{number.SessionId.SessionId, outcome.Reason.Reason}
use Rattle.mum_base.specs.declared.outcome.Reason.TheVariants.{Gone, NotLoggedIn, TooLong, NotThere, OfAnother, EmptyText}
use Rattle.mum_state.specs.State.{StateValue}
use Rattle.mum_rules_tree.specs.{Decision.Case, Decision.case_of, Reasons.is_gone, Reasons.takes_no_edits}
use Rattle.mum_rules_tree.specs.declared.reason.TheConstants.{COMMAND_LIMIT}
use Rattle.mum_rules_user.specs.Asked.{is_empty_text, names_there, payload_of, sets_own_of_another}
use Rattle.mum_rules_user.specs.declared.message.UserMessage.{UserMessage, TheVariants.Join, TheVariants.Leave}

abbrev pub is_login : UserMessage → Bool
is_login (Join message version) = true
is_login message = false

abbrev pub is_leave : UserMessage → Bool
is_leave Leave = true
is_leave message = false

-- the session is gone; a connection that never had one has none that could leave
abbrev pub is_gone_for : StateValue → Option SessionId → UserMessage → Bool
is_gone_for state actor message = option_map_or (is_gone state) actor (is_leave message)

-- whoever has no session may log in, and nothing else
abbrev pub is_not_logged_in : Option SessionId → UserMessage → Bool
is_not_logged_in actor message = is_none actor && not (is_login message)

abbrev pub reasons : StateValue → Option SessionId → UserMessage → List (Case Reason)
reasons state actor message =
    case_of Gone (is_gone_for state actor message || takes_no_edits state)
    ∷ case_of NotLoggedIn (is_not_logged_in actor message)
    ∷ case_of TooLong (nat_lt COMMAND_LIMIT (length (payload_of message)))
    ∷ case_of NotThere (not (names_there state message))
    ∷ case_of OfAnother (option_map_or (λ session. sets_own_of_another session message) actor false)
    ∷ case_of EmptyText (is_empty_text message)
    ∷ []
