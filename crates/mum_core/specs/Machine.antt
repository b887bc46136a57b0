-- A connection as the machine of its frames.
use Rattle.std.specs.Prelude.{ℕ, false, if◌then◌else◌}
use Rattle.std.specs.Option.{option_map_or}
use Rattle.mum_session.specs.declared.session.Stage.{Stage}
use Rattle.mum_session.specs.declared.session.Stage.TheVariants.{BeforeLogin, LoggedIn, Rejected}
use Rattle.mum_session.specs.Machine.{Machine}
use Rattle.mum_core.specs.declared.connection.Connection.{Connection}

-- how far it has come: it is notified that its login was rejected, or has the seat that an accepted login gave it
abbrev pub stage_of : Connection → Stage
stage_of connection =
    if connection.rejected then Rejected
    else option_map_or (λ seat. LoggedIn seat.session) connection.seat BeforeLogin

-- the machine of the connection of this number, which waits for no reply where a frame is taken. Lists of bans are not read
abbrev pub machine_of : ℕ → Connection → Machine
machine_of c connection = record {
  connection = c;
  worker = connection.worker;
  version = connection.version;
  stage = stage_of connection;
  awaits = false;
  bans = false;
}
