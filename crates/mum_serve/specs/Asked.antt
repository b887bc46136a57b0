-- What a server is asked to do, as plain data.
use Rattle.std.specs.Option.{option_copied, option_map}
use Rattle.std.specs.Prelude.{ℕ, Bool, List, Option, Some}
use Rattle.mum_serve.specs.declared.asked.{Asked.Asked, Objects.Objects, ViewAsked.ViewAsked}

-- a second door at this address, for at most n views
pub record ViewService : Type 0 where
  pub address : List ℕ
  pub views : ℕ

-- a door at this address, n connections, a journal or none, a door for views or none, and a path at which channels are
-- kept, or none
pub record Service : Type 0 where
  pub address : List ℕ
  pub connections : ℕ
  pub journal : Bool
  pub view : Option ViewService
  pub keep : Option (List ℕ)

abbrev pub view_service : ViewAsked → ViewService
view_service asked = record { address = asked.address.now; views = asked.views }

-- what a run is asked for, as contracts see it
abbrev pub service : Asked → Service
service asked = record {
  address = asked.address.now;
  connections = asked.connections;
  journal = asked.journal;
  view = option_map view_service asked.view;
  keep = option_copied asked.keep;
}

-- the places in which a caller keeps what it lends
pub record Lent (D K P : Type 0) : Type 0 where
  pub door : Option D
  pub view : Option D
  pub clock : Option K
  pub keeper : Option P

-- the objects that a run was handed, all there
abbrev pub lent : {D K P : Type 0} → Objects D K P → Lent D K P
lent objects = record { door = Some objects.door; view = Some objects.view; clock = Some objects.clock; keeper = Some objects.keeper }
