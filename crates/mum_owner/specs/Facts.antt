-- What contracts see of the parts of an owner, as plain data.
use Rattle.std.specs.Prelude.{ℕ, Bool, List, Option}
use Rattle.mum_outbox.specs.Facts.{PassFacts}
use Rattle.mum_record.specs.declared.journal.ControlEntry.{ControlEntry}
use Rattle.mum_doorway.specs.Asking.{DoorwayFacts}
use Rattle.mum_published.specs.Facts.{ReplyFacts}
use Rattle.mum_session.specs.declared.command.Command.{Command}
use Rattle.mum_warden.specs.Warden.{WardenFacts}
use Rattle.mum_port.specs.declared.item.DeskItem.{DeskItem}
use Rattle.mum_control.specs.Facts.{ControlFacts}
use Rattle.mum_keeper.specs.Archive.{ArchiveFacts}
use Rattle.mum_owner.specs.Bell.{SideFacts}
use Rattle.mum_owner.specs.declared.{guests.Guest.Guest, kept.Coming.Coming, kept.Lag.Lag, entry.Draft.Draft}

-- the open connections by their numbers, how many were given and have closed, and how many are given in all
pub record GuestsFacts : Type 0 where
  pub rows : List Guest
  pub given : ℕ
  pub closed : ℕ
  pub limit : ℕ

-- what waits for a bell: a reply, a lag item, and a connection, with the link that the door gave
pub record KeptFacts (L : Type 0) : Type 0 where
  pub reply : Option ReplyFacts
  pub lag : Option Lag
  pub coming : Option (Coming L)

-- what was taken from the desk, and the connection whose leave is to be tried again
pub record DeskFacts : Type 0 where
  pub pass : PassFacts DeskItem
  pub leave : Option ℕ

-- whether a journal was asked for, what is prepared of its next entry, its entries, how many edits were accepted, and
-- whether memory ran out
pub record ScribeFacts : Type 0 where
  pub is_asked : Bool
  pub draft : Option Draft
  pub entries : List ControlEntry
  pub accepted : ℕ
  pub no_memory : Bool

-- an owner: its control, door, connections, bells, what waits for one, desk, waiting logins, journal, bans, archive
pub record OwnerFacts (D L : Type 0) : Type 0 where
  pub control : ControlFacts
  pub doorway : DoorwayFacts D
  pub guests : GuestsFacts
  pub bells : List (SideFacts L)
  pub kept : KeptFacts L
  pub desk : DeskFacts
  -- those that wait for their slot, in the order in which they came
  pub logins : List Command
  pub scribe : ScribeFacts
  pub warden : WardenFacts
  -- the bell of the store, where there is one
  pub archive : Option ArchiveFacts
  pub is_ending : Bool
