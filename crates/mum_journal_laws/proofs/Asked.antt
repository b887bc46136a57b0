-- Each command that turns decide was asked for by a frame, or is a leave.
use Rattle.mum_journal_laws.proofs.Common.{◌≡◌, ℕ, Bool, true, false, List, [], ◌∷◌, ◌++◌, Option, Some, None, refl, subst, inl, inr, option_map, ◌&&◌, find, MatchOption, SessionId, Commanded, ControlFacts, DoorFacts, LinkFacts, IsGivenOrRefused, SettledBy, TestedBy, banned_in, is_banned, with_warden, OwnerFacts, IsGiven, is_of, owned, LeaveIsGiven, Next, Receives, ReceivesBy, ReceivesItem, Serves, leave_of, must_wait, next, with_pass, Again, Goes, Rest, Take, is_leave, is_login, Guest, WasAsked, DeskItem, ReplyFacts, decisions, Command, Decision, decided_as, decided_by, decided_given, decided_item, decided_leave, decided_owned, decided_receiving, decided_settling, decided_tested, decided_waiting, decisions_of, AreAskedFor, DecisionsWereAskedFor}
use Rattle.mum_owner.specs.Guests.{session_of}
use Rattle.mum_port.specs.declared.item.DeskItem.TheVariants as items

-- the command for its own session is of the same
owned_what : (found : Option Guest) (login command : Command) → WasAsked login.what → option_map (λ (guest : Guest). record login { session = guest.session }) found ≡ Some command → WasAsked command.what
owned_what None login command asked is = absurd (cc)
owned_what (Some guest) login command asked is =
    let same : record login { session = guest.session } ≡ command = cc in
    subst (λ (c : Command). WasAsked c.what) same asked

asked_command : (old : ControlFacts) (command : Command) (reply : ReplyFacts) (new : ControlFacts) → WasAsked command.what → (given : Commanded old command reply new)
    → AreAskedFor (decided_by old command reply new given)
asked_command old command reply new asked (inl dropped) = tt
asked_command old command reply new asked (inr decides) = (asked, tt)

module _ {D L : Type 0} where
  asked_given : (old : OwnerFacts D L) (command : Command) (new : OwnerFacts D L) → WasAsked command.what → (given : IsGiven old command new) → AreAskedFor (decided_given old command new given)
  asked_given old command new asked (inl gives) = asked_command old.control command gives.reply new.control asked gives.commanded
  asked_given old command new asked (inr drops) = tt

  asked_leave : (old : OwnerFacts D L) (connection : ℕ) (was : Bool) (new : OwnerFacts D L) (given : LeaveIsGiven old connection was new) → AreAskedFor (decided_leave old connection was new given)
  asked_leave old connection was new (inl gives) =
      asked_command gives.emptied (leave_of connection (session_of connection old.guests.rows)) gives.reply new.control (inr refl) gives.commanded
  asked_leave old connection was new (inr drops) = tt

  asked_tested : (banned : Bool) (old : OwnerFacts D L) (login : Command) (new : OwnerFacts D L) → WasAsked login.what → (tested : TestedBy banned old login new)
      → AreAskedFor (decided_tested banned old login new tested)
  asked_tested true old login new asked answers = tt
  asked_tested false old login new asked given = asked_given old login new asked given

  asked_settling : (login : Bool) (banned : Option SessionId) (old : OwnerFacts D L) (command : Command) (new : OwnerFacts D L) → WasAsked command.what → (given : SettledBy login banned old command new)
      → AreAskedFor (decided_settling login banned old command new given)
  asked_settling true banned old command new asked tests = asked_tested (is_banned old command tests.warden.last) (with_warden tests.warden old) command new asked tests.tested
  asked_settling false (Some banned) old command new asked (inl lacks) = tt
  asked_settling false (Some banned) old command new asked (inr removes) = asked_given (with_warden removes.warden old) command removes.after asked removes.given
  asked_settling false None old command new asked given = asked_given old command new asked given

  asked_receiving : (leave waits : Bool) (old : OwnerFacts D L) (command : Command) (new : OwnerFacts D L) → WasAsked command.what → (received : ReceivesBy leave waits old command new)
      → AreAskedFor (decided_receiving leave waits old command new received)
  asked_receiving true waits old command new asked received = asked_leave old command.connection received.0 new received.1
  asked_receiving false true old command new asked received = tt
  asked_receiving false false old command new asked received = asked_settling (is_login command) (banned_in command) old command new asked received

  asked_owned : (own : Option Command) (old new : OwnerFacts D L) → ((command : Command) → own ≡ Some command → WasAsked command.what) → (received : Receives old own new)
      → AreAskedFor (decided_owned own old new received)
  asked_owned None old new asked received = tt
  asked_owned (Some command) old new asked received = asked_receiving (is_leave command.what) (is_login command && must_wait old) old command new (asked command refl) received

  asked_item : (old : OwnerFacts D L) (item : Option DeskItem) (new : OwnerFacts D L) → ((command : Command) → item ≡ Some (items.Command command) → WasAsked command.what)
      → (received : ReceivesItem old item new) → AreAskedFor (decided_item old item new received)
  asked_item old None new asked received = tt
  asked_item old (Some (items.Closed connection)) new asked received = tt
  asked_item old (Some (items.Command command)) new asked received =
      asked_owned (owned old.guests.rows command) old new (λ own is. owned_what (find (is_of command.connection) old.guests.rows) command own (asked command refl) is) received
  asked_item old (Some (items.Bans connection session payload)) new asked received = tt

  asked_waiting : (own : Option Command) (old new : OwnerFacts D L) → ((command : Command) → own ≡ Some command → WasAsked command.what)
      → (given : MatchOption own (new ≡ old) (λ command. IsGivenOrRefused old command new)) → AreAskedFor (decided_waiting own old new given)
  asked_waiting None old new asked given = tt
  asked_waiting (Some command) old new asked given = asked_settling (is_login command) (banned_in command) old command new (asked command refl) given

  asked_next : (n : Next) (old : OwnerFacts D L) (worked : Bool) (new : OwnerFacts D L) (serves : Serves n old worked new) → AreAskedFor (decided_as n old worked new serves)
  asked_next Rest old worked new rests = tt
  asked_next (Again connection) old worked new given = asked_leave old connection worked new given
  asked_next Goes old worked new gives =
      asked_waiting (owned old.guests.rows gives.login) (record old { logins = gives.rest }) new
      (λ own is. owned_what (find (is_of gives.login.connection) old.guests.rows) gives.login own gives.asked is) gives.given
  asked_next Take old worked new takes = asked_item (with_pass takes.pass old) takes.item new takes.asked takes.received

asked_append : (first later : List Decision) → AreAskedFor first → AreAskedFor later → AreAskedFor (first ++ later)
asked_append [] later one other = other
asked_append (decision ∷ first) later one other = (one.0, asked_append first later one.1 other)

module _ {D L : Type 0} (door_facts : D → DoorFacts) (link_facts : L → LinkFacts) where
  pub all_asked : DecisionsWereAskedFor D L door_facts link_facts
  all_asked old [] new all = tt
  all_asked old (turn ∷ turns) new (mid, turned, rest) =
      asked_append (decisions_of door_facts link_facts old turn mid turned) (decisions door_facts link_facts mid turns new rest)
      (asked_next (next turned.after_offers) turned.after_offers turned.served turned.after_desk turned.serves) (all_asked mid turns new rest)
