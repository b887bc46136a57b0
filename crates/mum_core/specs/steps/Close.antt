-- A connection ends, for a cause that applies. Its leave waits to be decided.
use Rattle.std.specs.Prelude.{ℕ, ◌==◌, not, Bool, true, false, List, [], ◌∷◌, codes, decimal}
use Rattle.std.specs.{List.list_any, Option.option_map_or}
use Rattle.mum_base.specs.declared.number.{Cause.Cause, SessionId.SessionId}
use Rattle.mum_record.specs.Grammar.{cause_word}
use Rattle.mum_state.specs.declared.edit.Edit.{Edit, TheVariants.Kick}
use Rattle.mum_core.specs.{Case.Case, Case.is_closed, Case.not_opened, Connection.closed_at, Connection.session_of}
use Rattle.mum_core.specs.Core.{CoreState, connection_at, at_connection, up}
use Rattle.mum_base.specs.declared.number.Cause.TheVariants as causes

abbrev pub kicks : SessionId → Edit → Bool
kicks session (Kick kicked actor reason ban) = kicked.0 == session.0
kicks session others = false

-- an accepted edit put the session out
abbrev pub was_kicked : CoreState → SessionId → Bool
was_kicked core session = list_any (kicks session) core.accepted

-- whether a connection may end for a cause: its login was reported as rejected, its session was kicked, or a notice for
-- its session found the posts of its slot full
abbrev pub has_cause : CoreState → ℕ → Cause → Bool
has_cause core c causes.Rejected = (connection_at core c).rejected
has_cause core c causes.Kicked = option_map_or (was_kicked core) (session_of (connection_at core c)) false
has_cause core c causes.Lagged = (connection_at core c).lagged
has_cause core c others = true

abbrev pub forbids : CoreState → ℕ → Cause → List Case
forbids core c cause =
    not_opened core c
    ∷ is_closed core c
    ∷ record { stands = not (has_cause core c cause); given = c; against = 0 }
    ∷ []

abbrev pub does : CoreState → ℕ → CoreState
does core c = at_connection c (closed_at (up core.line)) core

abbrev pub lines : ℕ → Cause → List (List (List ℕ))
lines c cause = (codes "closed" ∷ decimal c ∷ cause_word cause ∷ []) ∷ []
