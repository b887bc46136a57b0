-- For whom an owner decides in a turn.
use Rattle.mum_serve_laws.proofs.Common.{◌≡◌, ◌∙◌, ℕ, Bool, true, false, List, Option, Some, None, refl, ap, sym, subst, inl, inr, AllByRecursion, option_and_then, option_map, ◌&&◌, find, MatchOption, SessionId, Commanded, ControlFacts, Turn, DoorFacts, LinkFacts, IsGivenOrRefused, SettledBy, TestedBy, banned_in, is_banned, with_warden, OwnerFacts, IsGiven, is_of, owned, session_of, LeaveIsGiven, Next, Receives, ReceivesBy, ReceivesItem, Serves, leave_of, must_wait, next, with_pass, Again, Goes, Rest, Take, OwnerTurned, is_leave, is_login, Guest, DeskItem, ReplyFacts, Command, Decision, decided_as, decided_by, decided_given, decided_item, decided_leave, decided_owned, decided_receiving, decided_settling, decided_tested, decided_waiting, decisions_of}
use Rattle.mum_port.specs.declared.item.DeskItem.TheVariants as items

-- the command is for the session that is kept for its connection
abbrev pub IsOwn : List Guest → Command → Type 0
IsOwn rows command = command.session ≡ session_of command.connection rows

abbrev pub AreOwn : List Guest → List Decision → Type 0
AreOwn rows made = AllByRecursion (λ (decision : Decision). decision.command.session ≡ session_of decision.command.connection rows) made

found_session : (found : Option Guest) (login command : Command) → option_map (λ (guest : Guest). record login { session = guest.session }) found ≡ Some command → command.session ≡ option_and_then (λ (guest : Guest). guest.session) found
found_session None login command is = absurd (cc is)
found_session (Some guest) login command is =
    let same : record login { session = guest.session } ≡ command = cc is in ap (λ (c : Command). c.session) (sym same)

found_connection : (found : Option Guest) (login command : Command) → option_map (λ (guest : Guest). record login { session = guest.session }) found ≡ Some command → login.connection ≡ command.connection
found_connection None login command is = absurd (cc is)
found_connection (Some guest) login command is =
    let same : record login { session = guest.session } ≡ command = cc is in ap (λ (c : Command). c.connection) same

owned_is_own : (rows : List Guest) (login command : Command) → owned rows login ≡ Some command → IsOwn rows command
owned_is_own rows login command is =
    found_session (find (is_of login.connection) rows) login command is
    ∙ ap (λ (n : ℕ). session_of n rows) (found_connection (find (is_of login.connection) rows) login command is)

own_command : (rows : List Guest) (old : ControlFacts) (command : Command) (reply : ReplyFacts) (new : ControlFacts) → IsOwn rows command → (given : Commanded old command reply new)
    → AreOwn rows (decided_by old command reply new given)
own_command rows old command reply new own (inl drops) = tt
own_command rows old command reply new own (inr decides) = (own, tt)

module _ {D L : Type 0} where
  own_given : (old : OwnerFacts D L) (command : Command) (new : OwnerFacts D L) → IsOwn old.guests.rows command → (given : IsGiven old command new) → AreOwn old.guests.rows (decided_given old command new given)
  own_given old command new own (inl gives) = own_command old.guests.rows old.control command gives.reply new.control own gives.commanded
  own_given old command new own (inr drops) = tt

  own_leave : (old : OwnerFacts D L) (connection : ℕ) (was : Bool) (new : OwnerFacts D L) (given : LeaveIsGiven old connection was new) → AreOwn old.guests.rows (decided_leave old connection was new given)
  own_leave old connection was new (inl gives) =
      own_command old.guests.rows gives.emptied (leave_of connection (session_of connection old.guests.rows)) gives.reply new.control refl gives.commanded
  own_leave old connection was new (inr drops) = tt

  own_tested : (banned : Bool) (old : OwnerFacts D L) (login : Command) (new : OwnerFacts D L) → IsOwn old.guests.rows login → (tested : TestedBy banned old login new)
      → AreOwn old.guests.rows (decided_tested banned old login new tested)
  own_tested true old login new own answers = tt
  own_tested false old login new own given = own_given old login new own given

  own_settling : (login : Bool) (banned : Option SessionId) (old : OwnerFacts D L) (command : Command) (new : OwnerFacts D L) → IsOwn old.guests.rows command → (given : SettledBy login banned old command new)
      → AreOwn old.guests.rows (decided_settling login banned old command new given)
  own_settling true banned old command new own tests = own_tested (is_banned old command tests.warden.last) (with_warden tests.warden old) command new own tests.tested
  own_settling false (Some banned) old command new own (inl lacks) = tt
  own_settling false (Some banned) old command new own (inr removes) = own_given (with_warden removes.warden old) command removes.after own removes.given
  own_settling false None old command new own given = own_given old command new own given

  own_receiving : (leave waits : Bool) (old : OwnerFacts D L) (command : Command) (new : OwnerFacts D L) → IsOwn old.guests.rows command → (received : ReceivesBy leave waits old command new)
      → AreOwn old.guests.rows (decided_receiving leave waits old command new received)
  own_receiving true waits old command new own received = own_leave old command.connection received.0 new received.1
  own_receiving false true old command new own received = tt
  own_receiving false false old command new own received = own_settling (is_login command) (banned_in command) old command new own received

  own_owned : (own : Option Command) (old new : OwnerFacts D L) → ((command : Command) → own ≡ Some command → IsOwn old.guests.rows command) → (received : Receives old own new)
      → AreOwn old.guests.rows (decided_owned own old new received)
  own_owned None old new so received = tt
  own_owned (Some command) old new so received = own_receiving (is_leave command.what) (is_login command && must_wait old) old command new (so command refl) received

  own_item : (old : OwnerFacts D L) (item : Option DeskItem) (new : OwnerFacts D L) (received : ReceivesItem old item new) → AreOwn old.guests.rows (decided_item old item new received)
  own_item old None new received = tt
  own_item old (Some (items.Closed connection)) new received = tt
  own_item old (Some (items.Command command)) new received = own_owned (owned old.guests.rows command) old new (λ mine is. owned_is_own old.guests.rows command mine is) received
  own_item old (Some (items.Bans connection session payload)) new received = tt

  own_waiting : (own : Option Command) (old new : OwnerFacts D L) → ((command : Command) → own ≡ Some command → IsOwn old.guests.rows command)
      → (given : MatchOption own (new ≡ old) (λ command. IsGivenOrRefused old command new)) → AreOwn old.guests.rows (decided_waiting own old new given)
  own_waiting None old new so given = tt
  own_waiting (Some command) old new so given = own_settling (is_login command) (banned_in command) old command new (so command refl) given

  own_next : (next : Next) (old : OwnerFacts D L) (worked : Bool) (new : OwnerFacts D L) (serves : Serves next old worked new) → AreOwn old.guests.rows (decided_as next old worked new serves)
  own_next Rest old worked new rests = tt
  own_next (Again connection) old worked new given = own_leave old connection worked new given
  own_next Goes old worked new gives =
      own_waiting (owned old.guests.rows gives.login) (record old { logins = gives.rest }) new (λ mine is. owned_is_own old.guests.rows gives.login mine is) gives.given
  own_next Take old worked new takes = own_item (with_pass takes.pass old) takes.item new takes.received

module _ {D L : Type 0} (door_facts : D → DoorFacts) (link_facts : L → LinkFacts) where
  pub for_their_sessions : (old : OwnerFacts D L) (turn : Turn) (new : OwnerFacts D L) (turned : OwnerTurned door_facts link_facts old turn new) → AreOwn old.guests.rows (decisions_of door_facts link_facts old turn new turned)
  for_their_sessions old turn new turned =
      subst (λ (rows : List Guest). AreOwn rows (decisions_of door_facts link_facts old turn new turned)) (ap (λ (o : OwnerFacts D L). o.guests.rows) turned.offers.others)
      (own_next (next turned.after_offers) turned.after_offers turned.served turned.after_desk turned.serves)
