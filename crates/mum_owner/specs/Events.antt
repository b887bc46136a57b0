-- What turns of an owner make of its bans.
use mathlib.Core.Logic.{inl, inr}
use Rattle.std.specs.Prelude.{◌≡◌, ◌&&◌, ◌∷◌, Bool, true, false, List, [], Option, Some, None, MatchOption, option_to_list, unwrap_or, if◌then◌else◌}
use Rattle.mum_base.specs.declared.number.SessionId.{SessionId}
use Rattle.mum_io.specs.{Door.DoorFacts, Link.LinkFacts}
use Rattle.mum_bans.specs.Book.{Adds, Book, Event}
use Rattle.mum_published.specs.Facts.{ReplyFacts}
use Rattle.mum_session.specs.declared.command.Command.{Command}
use Rattle.mum_warden.specs.{Answer.sent, Warden.WardenFacts, Warden.event_in, Warden.verdict_in}
use Rattle.mum_port.specs.declared.item.DeskItem.{DeskItem}
use Rattle.mum_owner.specs.Banning.{IsGivenOrRefused, ListComesTo, SettledBy, banned_in, book_after, has_note, list_reply}
use Rattle.mum_owner.specs.{Facts.OwnerFacts, Given.roll_of, Guests.guest_with, Guests.owned}
use Rattle.mum_owner.specs.{Laws.FromTurns, Laws.over_turns, Written.is_leave, Written.is_login}
use Rattle.mum_owner.specs.Serving.{Next, Receives, ReceivesBy, ReceivesItem, Serves, must_wait, next, with_pass}
use Rattle.mum_owner.specs.Serving.Next.{Again, Goes, Rest, Take}
use Rattle.mum_owner.specs.declared.guests.Guest.{Guest}
use Rattle.mum_port.specs.declared.item.DeskItem.TheVariants as items

-- a removal adds a ban where its reply has a note and whom it removes had an open connection: of that connection's address,
-- for the reason for which there was room, at the clock's last answer
abbrev pub ban_added : Option Guest → Option ReplyFacts → WardenFacts → List Event
ban_added None reply warden = []
ban_added (Some guest) reply warden =
    if has_note reply then Adds guest.address (unwrap_or warden.book.reserved []) warden.last ∷ [] else []

module _ {D L : Type 0} where
  -- the events of the book by a command that is settled: the ban of a removal, if one is added
  abbrev pub events_given : (login : Bool) (banned : Option SessionId) (old : OwnerFacts D L) (command : Command)
      (new : OwnerFacts D L)
      → SettledBy login banned old command new → List Event
  events_given true banned old command new tests = []
  events_given false (Some banned) old command new (inl lacks) = []
  events_given false (Some banned) old command new (inr removes) =
      ban_added (guest_with banned old.guests.rows) removes.after.kept.reply removes.after.warden
  events_given false None old command new given = []

  -- the same of one that comes from the desk: a leave and a login that waits have none
  abbrev pub events_received : (leave waits : Bool) (old : OwnerFacts D L) (command : Command) (new : OwnerFacts D L)
      → ReceivesBy leave waits old command new → List Event
  events_received true waits old command new received = []
  events_received false true old command new received = []
  events_received false false old command new received =
      events_given (is_login command) (banned_in command) old command new received

  -- the same of one that may be of no open connection
  abbrev pub events_owned : (own : Option Command) (old new : OwnerFacts D L) → Receives old own new → List Event
  events_owned None old new same = []
  events_owned (Some command) old new received =
      events_received (is_leave command.what) (is_login command && must_wait old) old command new received

  -- a list sets the bans where that is its verdict
  abbrev pub events_listed : (event : Option Event) (warden : WardenFacts) (old : OwnerFacts D L) (reply : ReplyFacts)
      (book : Book) (new : OwnerFacts D L)
      → ListComesTo warden old reply book new → List Event
  events_listed event warden old reply book new (inl decided) = option_to_list event
  events_listed event warden old reply book new (inr starved) = []

  -- the events by an item of the desk
  abbrev pub events_item : (old : OwnerFacts D L) (item : Option DeskItem) (new : OwnerFacts D L)
      → ReceivesItem old item new → List Event
  events_item old None new received = []
  events_item old (Some (items.Closed connection)) new received = []
  events_item old (Some (items.Command command)) new received =
      events_owned (owned old.guests.rows command) old new received
  events_item old (Some (items.Bans connection session payload)) new settles =
      events_listed (event_in old.warden.book settles.allowed payload settles.warden.last) settles.warden old
      (list_reply (roll_of old) connection (sent session (verdict_in old.warden.book settles.allowed payload)))
      (book_after old.warden.book settles.allowed payload settles.warden.last) new settles.comes_to

  -- the events by a login that waited for its slot
  abbrev pub events_waiting : (own : Option Command) (old new : OwnerFacts D L)
      → MatchOption own (new ≡ old) (λ command. IsGivenOrRefused old command new) → List Event
  events_waiting None old new same = []
  events_waiting (Some command) old new given =
      events_given (is_login command) (banned_in command) old command new given

  -- the event of the book in a turn, if there is one
  abbrev pub events_served : (next : Next) (old : OwnerFacts D L) (worked : Bool) (new : OwnerFacts D L)
      → Serves next old worked new → List Event
  events_served Rest old worked new rests = []
  events_served (Again connection) old worked new given = []
  events_served Goes old worked new gives =
      events_waiting (owned old.guests.rows gives.login) (record old { logins = gives.rest }) new gives.given
  events_served Take old worked new takes = events_item (with_pass takes.pass old) takes.item new takes.received

module _ {D L : Type 0} (door_facts : D → DoorFacts) (link_facts : L → LinkFacts) where
  -- the events of the book, in order
  abbrev pub ban_events : FromTurns door_facts link_facts Event
  ban_events =
      over_turns door_facts link_facts
      (λ old turn new t. events_served (next t.after_offers) t.after_offers t.served t.after_desk t.serves)
