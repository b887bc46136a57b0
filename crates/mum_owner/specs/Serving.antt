-- What an owner does with the desk.
use Rattle.std.specs.Prelude.{◌≡◌, ◌⊎◌, ℕ, ◌==◌, ◌&&◌, nat_lt, ⊤, Bool, true, false, List, [], ◌∷◌, ◌++◌, find, length, is_none, is_some, Option, Some, None, MatchOption, if◌then◌else◌}
use Rattle.std.specs.Option.{option_and_then}
use Rattle.mum_base.specs.declared.number.{SessionId.SessionId, TheConstants.CONNECTION_LIMIT}
use Rattle.mum_outbox.specs.{Calls.Takes, Facts.PassFacts}
use Rattle.mum_outbox.specs.declared.kinds.TheConstants.{DESK_CAPACITY}
use Rattle.mum_published.specs.Facts.{ReplyFacts}
use Rattle.mum_rules_user.specs.declared.message.UserMessage.TheVariants.{Leave}
use Rattle.mum_session.specs.declared.command.{Asked.TheVariants.User, Command.Command}
use Rattle.mum_port.specs.Asked.{WasAsked}
use Rattle.mum_port.specs.declared.item.DeskItem.{DeskItem}
use Rattle.mum_control.specs.{Commanded.Commanded, Commanded.current, Facts.ControlFacts, Kept.next_slot, Kept.slot_of}
use Rattle.mum_control.specs.Posting.{EmptiesPost}
use Rattle.mum_owner.specs.{Banning.IsGivenOrRefused, Banning.SettlesList, Facts.KeptFacts, Facts.OwnerFacts}
use Rattle.mum_owner.specs.Given.{with_draft, with_reply}
use Rattle.mum_owner.specs.Guests.{is_gone_from, left, owned, session_of}
use Rattle.mum_owner.specs.Written.{is_leave, is_login, recorded, refused}
use Rattle.mum_owner.specs.declared.{desk.TheConstants.PENDING_LIMIT, guests.Guest.Guest}
use Rattle.mum_port.specs.declared.item.DeskItem.TheVariants as items

-- the command of an item, if it is one, was asked for
abbrev pub WasAskedIn : Option DeskItem → Type 0
WasAskedIn (Some (items.Command command)) = WasAsked command.what
WasAskedIn others = ⊤

-- the leave of a connection, which has this session
abbrev pub leave_of : ℕ → Option SessionId → Command
leave_of connection session = record { connection = connection; worker = 0; session = session; what = User Leave }

-- the box of a session's slot is emptied, where it is in the state
abbrev pub EmptiesFor : ControlFacts → Option SessionId → ControlFacts → Type 0
EmptiesFor control None after = after ≡ control
EmptiesFor control (Some session) after = EmptiesPost control (slot_of (current control) session) after

-- the reply to a leave that was decided is kept
abbrev pub kept_after : {L : Type 0} → Bool → ReplyFacts → KeptFacts L → KeptFacts L
kept_after true reply kept = with_reply reply kept
kept_after false reply kept = kept

-- a leave that was not decided is to be tried again
abbrev pub leave_after : Bool → ℕ → Option ℕ
leave_after true connection = None
leave_after false connection = Some connection

-- what is done with the desk: nothing, a leave is given again, the first login that waits goes, or an item is taken
pub data Next : Type 0 where
  Rest : Next
  Again : ℕ → Next
  Goes : Next
  Take : Next

-- nothing where a reply is kept. Else a kept leave is given again; else nothing where too many notices are pending; else a
-- login that waits goes, if it may; else an item is taken, where one more login may wait
abbrev pub next_by : (reply : Bool) (leave : Option ℕ) (many goes room : Bool) → Next
next_by true leave many goes room = Rest
next_by false (Some connection) many goes room = Again connection
next_by false None true goes room = Rest
next_by false None false true room = Goes
next_by false None false false true = Take
next_by false None false false false = Rest

module _ {D L : Type 0} where
  -- the connection for which the next login waits: it is open, and its session is gone from the slot that the login would
  -- get
  abbrev pub blocker : OwnerFacts D L → Option Guest
  blocker owner =
      option_and_then (λ slot. find (is_gone_from (current owner.control) slot) owner.guests.rows)
      (next_slot (current owner.control))

  -- ---- a leave

  -- the leave was given to the control owner, with the session that is kept for the connection. Where memory ran out
  -- before it was decided, it is to be tried again, and its reply is dropped
  pub record GivesLeave (old : OwnerFacts D L) (connection : ℕ) (decided : Bool) (new : OwnerFacts D L) : Type 0 where
    pub reply : ReplyFacts
    pub emptied : ControlFacts
    pub empties : EmptiesFor old.control (session_of connection old.guests.rows) emptied
    pub commanded : Commanded emptied (leave_of connection (session_of connection old.guests.rows)) reply new.control
    pub so : decided ≡ is_some new.control.mark
    pub others : new ≡ record old {
      control = new.control;
      kept = kept_after decided reply old.kept;
      desk = record old.desk { leave = leave_after decided connection };
      scribe =
          recorded connection new.control.mark reply.no_memory
          (with_draft (leave_of connection (session_of connection old.guests.rows)) old.scribe);
    }

  -- there was no memory for its entry in the journal: it is to be tried again
  pub record DropsLeave (old : OwnerFacts D L) (connection : ℕ) (decided : Bool) (new : OwnerFacts D L) : Type 0 where
    pub asked : old.scribe.is_asked ≡ true
    pub so : decided ≡ false
    pub others : new ≡ record old { desk = record old.desk { leave = Some connection }; scribe = refused old.scribe }

  abbrev pub LeaveIsGiven : OwnerFacts D L → ℕ → Bool → OwnerFacts D L → Type 0
  LeaveIsGiven old connection decided new =
      GivesLeave old connection decided new ⊎ DropsLeave old connection decided new

  -- ---- an item of the desk

  -- a login that comes now waits: others wait, or the slot that it would get has an open connection
  abbrev pub must_wait : OwnerFacts D L → Bool
  must_wait owner = if length owner.logins == 0 then is_some (blocker owner) else true

  -- a login that waits may go
  abbrev pub may_go : OwnerFacts D L → Bool
  may_go owner = if length owner.logins == 0 then false else is_none (blocker owner)

  abbrev pub ReceivesBy : (leave waits : Bool) → OwnerFacts D L → Command → OwnerFacts D L → Type 0
  ReceivesBy true waits old command new = (decided : Bool) × LeaveIsGiven old command.connection decided new
  ReceivesBy false true old command new = new ≡ record old { logins = old.logins ++ command ∷ [] }
  ReceivesBy false false old command new = IsGivenOrRefused old command new

  -- a command came, for the session that is kept for its connection: a leave is given, a login may have to wait, and any
  -- other is given or refused. Nothing changes for a command of a connection that is not open
  abbrev pub Receives : OwnerFacts D L → Option Command → OwnerFacts D L → Type 0
  Receives old None new = new ≡ old
  Receives old (Some command) new =
      ReceivesBy (is_leave command.what) (is_login command && must_wait old) old command new

  -- an item came from the desk, if one lay there. A command is for the session that is kept for its connection, whatever
  -- it says itself; a list of bans is of the session that it names
  abbrev pub ReceivesItem : OwnerFacts D L → Option DeskItem → OwnerFacts D L → Type 0
  ReceivesItem old None new = new ≡ old
  ReceivesItem old (Some (items.Closed connection)) new = new ≡ record old { guests = left connection old.guests }
  ReceivesItem old (Some (items.Command command)) new = Receives old (owned old.guests.rows command) new
  ReceivesItem old (Some (items.Bans connection session payload)) new = SettlesList old connection session payload new

  abbrev pub with_pass : PassFacts DeskItem → OwnerFacts D L → OwnerFacts D L
  with_pass pass owner = record owner { desk = record owner.desk { pass = pass } }

  -- one item was taken from the desk, or it gave none. A command was asked for
  pub record TakesItem (old : OwnerFacts D L) (worked : Bool) (new : OwnerFacts D L) : Type 0 where
    pub item : Option DeskItem
    pub pass : PassFacts DeskItem
    pub taken : Takes DESK_CAPACITY old.desk.pass item pass
    pub so : worked ≡ is_some item
    pub received : ReceivesItem (with_pass pass old) item new
    pub asked : (command : Command) → item ≡ Some (items.Command command) → WasAsked command.what

  -- the first login that waited does not wait any more: it was given or refused, for the session that is kept for its
  -- connection, or dropped, where that is not open any more
  pub record GivesWaiting (old : OwnerFacts D L) (worked : Bool) (new : OwnerFacts D L) : Type 0 where
    pub login : Command
    pub rest : List Command
    pub first : old.logins ≡ login ∷ rest
    pub asked : WasAsked login.what
    pub so : worked ≡ true
    pub given : MatchOption (owned old.guests.rows login) (new ≡ record old { logins = rest })
        (λ own. IsGivenOrRefused (record old { logins = rest }) own new)

  -- ---- what is done next

  abbrev pub Rests : OwnerFacts D L → Bool → OwnerFacts D L → Type 0
  Rests old worked new = (worked ≡ false) × (new ≡ old)

  abbrev pub next : OwnerFacts D L → Next
  next owner =
      next_by (is_some owner.kept.reply) owner.desk.leave (nat_lt PENDING_LIMIT (length owner.control.pending))
      (may_go owner)
      (nat_lt (length owner.logins) CONNECTION_LIMIT)

  abbrev pub Serves : Next → OwnerFacts D L → Bool → OwnerFacts D L → Type 0
  Serves Rest old worked new = Rests old worked new
  Serves (Again connection) old worked new = LeaveIsGiven old connection worked new
  Serves Goes old worked new = GivesWaiting old worked new
  Serves Take old worked new = TakesItem old worked new

  -- the desk was served
  abbrev pub ServesDesk : OwnerFacts D L → Bool → OwnerFacts D L → Type 0
  ServesDesk old worked new = Serves (next old) old worked new
