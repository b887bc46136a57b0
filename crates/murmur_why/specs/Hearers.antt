-- The lines of those who hear a packet, and of those who do not.
use Rattle.std.specs.Prelude.{ℕ, List, [], ◌∷◌, ◌++◌}
use Rattle.std.specs.List.{flat_map}
use Rattle.mum_base.specs.declared.number.SessionId.{SessionId}
use Rattle.mum_users.specs.declared.user.User.{User}
use Rattle.mum_state.specs.State.{StateValue}
use Rattle.mum_why.specs.Reason.{reason}
use Rattle.murmur_why.specs.{Names.session_text, Reasons.reason_text}

-- the line of a session, with its line feed
abbrev pub hearer_line : StateValue → SessionId → ℕ → SessionId → List ℕ
hearer_line state speaker target hearer =
    session_text state hearer ++ 32 ∷ reason_text state target (reason state speaker hearer target) ++ 10 ∷ []

-- the lines of sessions
abbrev pub hearer_lines : StateValue → SessionId → ℕ → List User → List ℕ
hearer_lines state speaker target users = flat_map (λ user. hearer_line state speaker target user.session) users
