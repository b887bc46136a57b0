-- The turns of an owner, one after another, and what came of them.
use Rattle.std.specs.List.{filter_map}
use Rattle.std.specs.Prelude.{◌≡◌, ◌==◌, ◌&&◌, ◌+◌, ℕ, zero, suc, Bool, true, false, not, List, [], ◌∷◌, ◌++◌, map, slice_get, Option, Some, None, MatchOption, option_to_list}
use Rattle.mum_base.specs.declared.number.SessionId.{SessionId}
use Rattle.mum_io.specs.{Door.DoorFacts, Link.LinkFacts}
use Rattle.mum_io.specs.declared.door.Accept.{Accept}
use Rattle.mum_crew.specs.Turns.{TurnsTo}
use Rattle.mum_crew.specs.declared.role.Turn.{Turn}
use Rattle.mum_published.specs.{Bell.Rung, Bell.Rung.Answer, Bell.Rung.Comes, Facts.ReplyFacts}
use Rattle.mum_session.specs.declared.command.Command.{Command}
use Rattle.mum_port.specs.declared.item.DeskItem.{DeskItem}
use Rattle.mum_owner.specs.Banning.{IsGivenOrRefused, SettledBy, banned_in, is_banned}
use Rattle.mum_owner.specs.{Bell.SideFacts, Facts.DeskFacts, Facts.OwnerFacts, Ringing.worker_of, Guests.owned}
use Rattle.mum_owner.specs.{Turned.Asks, Turned.OwnerTurned, Turned.is_not_to_ask, Written.is_leave, Written.is_login}
use Rattle.mum_owner.specs.Serving.{Next, Receives, ReceivesBy, ReceivesItem, Serves, must_wait, next, with_pass}
use Rattle.mum_owner.specs.Serving.Next.{Again, Goes, Rest, Take}
use Rattle.mum_owner.specs.declared.kept.{Coming.Coming, Lag.Lag}
use Rattle.mum_io.specs.declared.door.Accept.TheVariants as accepted
use Rattle.mum_port.specs.declared.item.DeskItem.TheVariants as items

-- ---- one bell

abbrev pub puts_of : {L : Type 0} → Option (SideFacts L) → List (Rung L)
puts_of None = []
puts_of (Some side) = side.put

-- what was put into the bell of the worker of this number, in order
abbrev pub puts_at : {L : Type 0} → ℕ → List (SideFacts L) → List (Rung L)
puts_at place bells = puts_of (slice_get bells place)

-- the connection that was handed over, if one was, with its link
abbrev pub handed : {L : Type 0} → Rung L → Option (Coming L)
handed (Comes connection link) = Some (record { connection = connection; link = link })
handed others = None

-- the reply, if it is one
abbrev pub answered : {L : Type 0} → Rung L → Option ReplyFacts
answered (Answer reply) = Some reply
answered others = None

-- ---- whom an item is for

-- the connection is of the worker of this number, of n
abbrev pub is_of_worker : ℕ → ℕ → ℕ → Bool
is_of_worker place workers connection = worker_of connection workers == place

-- the numbers of n connections, in the order of their giving
abbrev pub numbers : ℕ → List ℕ
numbers zero = []
numbers (suc given) = numbers given ++ suc given ∷ []

-- ---- the desk

-- all that was taken from it, in order
abbrev pub items_taken : DeskFacts → List DeskItem
items_taken desk = map (λ tagged. tagged.item) desk.pass.taken

-- the command, if it is one
abbrev pub command_in : DeskItem → Option Command
command_in (items.Command command) = Some command
command_in others = None

abbrev pub leave_where : Bool → ℕ → Option ℕ
leave_where true connection = Some connection
leave_where false connection = None

-- the connection of a leave, if it is one
abbrev pub leave_in : Command → Option ℕ
leave_in command = leave_where (is_leave command.what) command.connection

-- it is neither a login nor a leave
abbrev pub is_other : Command → Bool
is_other command = not (is_login command) && not (is_leave command.what)

-- what a turn took from the desk, and what it settled of all that was taken
pub record Settled : Type 0 where
  -- the command that was taken from the desk
  pub taken : List Command
  -- the command that was given to the control owner, or answered since memory ran out before it was decided
  pub commands : List Command
  -- the login that was refused, since its address is banned
  pub banned : List Command
  -- the login that had waited, and was dropped since its connection is not open any more
  pub dropped : List Command
  -- the connection of the leave that was decided
  pub leaves : List ℕ
  -- the connection of the list of bans that was decided, or answered since memory ran out
  pub lists : List ℕ

abbrev pub nothing : Settled
nothing = record { taken = []; commands = []; banned = []; dropped = []; leaves = []; lists = [] }

-- a login that was tested: it is banned, or was given
abbrev pub one_tested : Bool → Command → Settled
one_tested true login = record nothing { banned = login ∷ [] }
one_tested false login = record nothing { commands = login ∷ [] }

-- a leave that was decided, or is to be tried again
abbrev pub one_leave : Bool → ℕ → Settled
one_leave decided connection = record nothing { leaves = option_to_list (leave_where decided connection) }

-- the connections of what was settled, but for what was dropped: each gets one reply
abbrev pub connections_of : Settled → List ℕ
connections_of what =
    map (λ (command : Command). command.connection) (what.commands ++ what.banned) ++ (what.lists ++ what.leaves)

module _ {D L : Type 0} where
  -- a command that was given or refused, which lay on the desk as this
  abbrev pub settled_given : (login : Bool) (banned : Option SessionId) (old : OwnerFacts D L) (command : Command)
      (new : OwnerFacts D L)
      → SettledBy login banned old command new → Command → Settled
  settled_given true banned old command new tests lay = one_tested (is_banned old command tests.warden.last) lay
  settled_given false banned old command new given lay = record nothing { commands = lay ∷ [] }

  -- a login that had waited: it was given or refused, where this is what was given for it, or dropped
  abbrev pub settled_waiting : (own : Option Command) (old : OwnerFacts D L) (login : Command) (new : OwnerFacts D L)
      → MatchOption own (new ≡ old) (λ command. IsGivenOrRefused old command new) → Settled
  settled_waiting None old login new same = record nothing { dropped = login ∷ [] }
  settled_waiting (Some command) old login new given =
      settled_given (is_login command) (banned_in command) old command new given login

  abbrev pub settled_by : (leave waits : Bool) (old : OwnerFacts D L) (command : Command) (new : OwnerFacts D L)
      → ReceivesBy leave waits old command new → Settled
  settled_by true waits old command new received = one_leave received.0 command.connection
  settled_by false true old command new received = nothing
  settled_by false false old command new received =
      settled_given (is_login command) (banned_in command) old command new received command

  -- a command of a connection that is not open settles nothing
  abbrev pub settled_owned : (own : Option Command) (old new : OwnerFacts D L) → Receives old own new → Settled
  settled_owned None old new received = nothing
  settled_owned (Some command) old new received =
      settled_by (is_leave command.what) (is_login command && must_wait old) old command new received

  abbrev pub settled_item : (old : OwnerFacts D L) (item : Option DeskItem) (new : OwnerFacts D L)
      → ReceivesItem old item new → Settled
  settled_item old None new received = nothing
  settled_item old (Some (items.Closed connection)) new received = nothing
  settled_item old (Some (items.Command command)) new received =
      record (settled_owned (owned old.guests.rows command) old new received) { taken = command ∷ [] }
  settled_item old (Some (items.Bans connection session payload)) new received =
      record nothing { lists = connection ∷ [] }

  -- what a turn took and settled
  abbrev pub settled : (next : Next) (old : OwnerFacts D L) (worked : Bool) (new : OwnerFacts D L)
      → Serves next old worked new → Settled
  settled Rest old worked new rests = nothing
  settled (Again connection) old worked new given = one_leave worked connection
  settled Goes old worked new gives =
      settled_waiting (owned old.guests.rows gives.login)
      (record old { logins = gives.rest }) gives.login new gives.given
  settled Take old worked new takes = settled_item (with_pass takes.pass old) takes.item new takes.received

-- ---- the turns

-- the connection that the door gave, if it gave one, with this number
abbrev pub came_by : {L : Type 0} → Accept L → ℕ → List (Coming L)
came_by (accepted.Conn link) connection = record { connection = connection; link = link } ∷ []
came_by others connection = []

-- what is kept now, where nothing was kept before
abbrev pub made : {X : Type 0} → Option X → Option X → List X
made None after = option_to_list after
made (Some before) after = []

-- a list that turns lead to
abbrev pub FromTurns : {D L : Type 0} → (D → DoorFacts) → (L → LinkFacts) → Type 0 → Type 0
FromTurns {D} {L} door_facts link_facts A =
    (old : OwnerFacts D L) (turns : List Turn) (new : OwnerFacts D L)
    → TurnsTo (OwnerTurned door_facts link_facts) old turns new → List A

module _ {D L : Type 0} (door_facts : D → DoorFacts) (link_facts : L → LinkFacts) where
  -- where the door was asked: the connection that it gave, with the next number
  abbrev pub came_where : (b : Bool) (old : OwnerFacts D L) (worked : Bool) (new : OwnerFacts D L)
      → Asks door_facts link_facts b old worked new → List (Coming L)
  came_where true old worked new rests = []
  came_where false old worked new asks = came_by asks.answer (old.guests.given + 1)

  -- what each turn gave, one after another
  abbrev pub over_turns : {A : Type 0}
      → ((old : OwnerFacts D L) (turn : Turn) (new : OwnerFacts D L) → OwnerTurned door_facts link_facts old turn new
      → List A) → FromTurns door_facts link_facts A
  over_turns given old [] new all = []
  over_turns given old (turn ∷ turns) new all = given old turn all.0 all.1 ++ over_turns given all.0 turns new all.2

  -- the connections that the door gave, in order, each with its number
  abbrev pub connections_given : FromTurns door_facts link_facts (Coming L)
  connections_given =
      over_turns (λ old turn new t. came_where (is_not_to_ask t.after_post) t.after_post t.came t.after_door t.asks)

  -- the replies to what was taken from the desk, in the order in which they were made
  abbrev pub replies_made : FromTurns door_facts link_facts ReplyFacts
  replies_made = over_turns (λ old turn new t. made t.after_offers.kept.reply t.after_desk.kept.reply)

  -- the lag items, in the order in which they were made
  abbrev pub lags_made : FromTurns door_facts link_facts Lag
  lags_made =
      over_turns (λ old turn new t. made t.after_desk.kept.lag t.after_press.kept.lag
      ++ made t.after_archive.kept.lag t.after_post.kept.lag)

  -- what a turn took from the desk, and settled
  abbrev pub settled_in : (old : OwnerFacts D L) (turn : Turn) (new : OwnerFacts D L)
      → OwnerTurned door_facts link_facts old turn new → Settled
  settled_in old turn new t = settled (next t.after_offers) t.after_offers t.served t.after_desk t.serves

  -- the commands that were taken from the desk, in order, as they lay there
  abbrev pub commands_taken : FromTurns door_facts link_facts Command
  commands_taken = over_turns (λ old turn new t. (settled_in old turn new t).taken)

  -- those of connections that were open when they were taken, each for the session that was kept for its connection then
  abbrev pub commands_owned : FromTurns door_facts link_facts Command
  commands_owned =
      over_turns (λ old turn new t. filter_map (owned t.after_offers.guests.rows) (settled_in old turn new t).taken)

  -- the commands that were given to the control owner, or answered since memory ran out, in order; leaves apart
  abbrev pub commands_given : FromTurns door_facts link_facts Command
  commands_given = over_turns (λ old turn new t. (settled_in old turn new t).commands)

  -- the same, and the logins that were refused or dropped, in order
  abbrev pub commands_settled : FromTurns door_facts link_facts Command
  commands_settled =
      over_turns (λ old turn new t. (settled_in old turn new t).commands
      ++ ((settled_in old turn new t).banned ++ (settled_in old turn new t).dropped))

  -- the connections whose leave was decided, in order
  abbrev pub leaves_decided : FromTurns door_facts link_facts ℕ
  leaves_decided = over_turns (λ old turn new t. (settled_in old turn new t).leaves)

  -- the connections of the commands that were given, refused, or answered since memory ran out, of the leaves that were
  -- decided and of the lists of bans, in the order in which that was done
  abbrev pub connections_settled : FromTurns door_facts link_facts ℕ
  connections_settled = over_turns (λ old turn new t. connections_of (settled_in old turn new t))
