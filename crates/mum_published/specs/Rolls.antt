-- The roll: the logins that were accepted, in order.
use Rattle.std.specs.Prelude.{ℕ, ◌==◌, ◌&&◌, Bool, true, List, [], ◌∷◌}
use Rattle.std.specs.List.{list_any}
use Rattle.mum_base.specs.declared.{number.SessionId.SessionId, reply.ReplyEnd.ReplyEnd}
use Rattle.mum_base.specs.declared.reply.ReplyEnd.TheVariants.{Joined, Decided, Rejected}
use Rattle.mum_published.specs.declared.roll.Login.{Login}

-- a login of this connection, which was given this session
abbrev pub login : ℕ → SessionId → Login
login connection session = record { connection = connection; session = session }

-- whether a login of this connection that was given this session is on the roll
abbrev pub is_on_roll : ℕ → SessionId → List Login → Bool
is_on_roll connection session roll =
    list_any (λ one. (one.connection == connection) && (one.session.0 == session.0)) roll

-- whether the roll has the login that a reply to this connection with this end reports
abbrev pub is_admitted : ReplyEnd → ℕ → List Login → Bool
is_admitted (Joined session slot) connection roll = is_on_roll connection session roll
is_admitted Decided connection roll = true
is_admitted Rejected connection roll = true

-- the login that a reply to this connection with this end reports
abbrev pub login_of : ℕ → ReplyEnd → List Login
login_of connection (Joined session slot) = login connection session ∷ []
login_of connection Decided = []
login_of connection Rejected = []
