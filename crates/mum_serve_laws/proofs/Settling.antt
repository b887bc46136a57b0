-- What turns of an owner decide, beside what they settle.
use Rattle.mum_serve_laws.proofs.Common.{◌≡◌, ◌∙◌, ℕ, Bool, true, false, List, [], ◌∷◌, ◌++◌, Option, Some, None, refl, ap, sym, subst, inl, inr, option_map, ◌&&◌, find, is_some, MatchOption, SessionId, Mark, Commanded, current, ControlFacts, skip, IsSubsequenceBy, TurnsTo, Turn, DoorFacts, LinkFacts, IsGivenOrRefused, SettledBy, TestedBy, banned_in, is_banned, with_warden, OwnerFacts, IsGiven, is_of, owned, session_of, one_leave, one_tested, settled_by, settled_given, settled_in, settled_item, settled_owned, settled_waiting, LeaveIsGiven, Next, Receives, ReceivesBy, ReceivesItem, Serves, leave_of, must_wait, next, with_pass, Again, Goes, Rest, Take, OwnerTurned, is_leave, is_login, Guest, DeskItem, ReplyFacts, verdict, Command, Decision, decided_as, decided_by, decided_given, decided_item, decided_leave, decided_owned, decided_receiving, decided_settling, decided_tested, decided_waiting, decisions_of, Gave, IsOn, Work, decisions, work_done, work_of}
use Rattle.mum_owner.specs.Laws.{settled}
use Rattle.mum_serve_laws.proofs.Deciding.{decided_grows}
use Rattle.mum_port.specs.declared.item.DeskItem.TheVariants as items

-- ---- lists

joined : {A B : Type 0} (R : A → B → Type 0) (xs us : List A) (ys vs : List B) → IsSubsequenceBy R xs ys → IsSubsequenceBy R us vs → IsSubsequenceBy R (xs ++ us) (ys ++ vs)
joined R [] us [] vs one other = other
joined R [] us (y ∷ ys) vs one other = skip R y us (ys ++ vs) (joined R [] us ys vs tt other)
joined R (x ∷ xs) us [] vs one other = absurd one
joined R (x ∷ xs) us (y ∷ ys) vs (inl (is, rest)) other = inl (is, joined R xs us ys vs rest other)
joined R (x ∷ xs) us (y ∷ ys) vs (inr rest) other = inr (joined R (x ∷ xs) us ys vs rest other)

-- ---- a turn

abbrev Stands : List Decision → List Work → Type 0
Stands made work = IsSubsequenceBy IsOn made work

-- the same command, but for its session
abbrev IsSame : Command → Command → Type 0
IsSame command login = command ≡ record login { session = command.session }

from_guest : (found : Option Guest) (login command : Command) → option_map (λ (guest : Guest). record login { session = guest.session }) found ≡ Some command → IsSame command login
from_guest None login command is = absurd (cc is)
from_guest (Some guest) login command is =
    let same : record login { session = guest.session } ≡ command = cc is in
    subst (λ (c : Command). IsSame c login) same refl

of_command : (old : ControlFacts) (command login : Command) (reply : ReplyFacts) (new : ControlFacts) → IsSame command login → (given : Commanded old command reply new)
    → Stands (decided_by old command reply new given) (Gave login ∷ [])
of_command old command login reply new same (inl drops) = tt
of_command old command login reply new same (inr decides) = inl (same, tt)

of_a_leave : (old : ControlFacts) (command : Command) (reply : ReplyFacts) (new : ControlFacts) (connection : ℕ) (was : Bool)
    → was ≡ is_some new.mark → command.connection ≡ connection → is_leave command.what ≡ true → (given : Commanded old command reply new)
    → Stands (decided_by old command reply new given) (work_of (one_leave was connection))
of_a_leave old command reply new connection was so its leaves (inl drops) = tt
of_a_leave old command reply new connection was so its leaves (inr decides) =
    let known : was ≡ true = so ∙ ap (λ (m : Option Mark). is_some m) (decided_grows old command.connection command.session (verdict (current old) command.session command.what) reply new decides).1 in
    subst (λ (b : Bool). Stands (record { command = command; reply = reply } ∷ []) (work_of (one_leave b connection))) (sym known) (inl ((its, leaves), tt))

module _ {D L : Type 0} where
  of_given : (old : OwnerFacts D L) (command login : Command) (new : OwnerFacts D L) → IsSame command login → (given : IsGiven old command new) → Stands (decided_given old command new given) (Gave login ∷ [])
  of_given old command login new same (inl gives) = of_command old.control command login gives.reply new.control same gives.commanded
  of_given old command login new same (inr drops) = tt

  of_leave : (old : OwnerFacts D L) (connection : ℕ) (was : Bool) (new : OwnerFacts D L) (given : LeaveIsGiven old connection was new)
      → Stands (decided_leave old connection was new given) (work_of (one_leave was connection))
  of_leave old connection was new (inl gives) =
      of_a_leave gives.emptied (leave_of connection (session_of connection old.guests.rows)) gives.reply new.control connection was gives.so refl refl gives.commanded
  of_leave old connection was new (inr drops) = tt

  -- a login that was tested, which lay on the desk as this
  of_tested : (banned : Bool) (old : OwnerFacts D L) (login lay : Command) (new : OwnerFacts D L) → IsSame login lay → (tested : TestedBy banned old login new)
      → Stands (decided_tested banned old login new tested) (work_of (one_tested banned lay))
  of_tested true old login lay new same answers = tt
  of_tested false old login lay new same given = of_given old login lay new same given

  of_settling : (login : Bool) (banned : Option SessionId) (old : OwnerFacts D L) (command lay : Command) (new : OwnerFacts D L) → IsSame command lay → (given : SettledBy login banned old command new)
      → Stands (decided_settling login banned old command new given) (work_of (settled_given login banned old command new given lay))
  of_settling true banned old command lay new same tests =
      of_tested (is_banned old command tests.warden.last) (with_warden tests.warden old) command lay new same tests.tested
  of_settling false (Some banned) old command lay new same (inl lacks) = tt
  of_settling false (Some banned) old command lay new same (inr removes) = of_given (with_warden removes.warden old) command lay removes.after same removes.given
  of_settling false None old command lay new same given = of_given old command lay new same given

  of_receiving : (leave waits : Bool) (old : OwnerFacts D L) (command : Command) (new : OwnerFacts D L) (received : ReceivesBy leave waits old command new)
      → Stands (decided_receiving leave waits old command new received) (work_of (settled_by leave waits old command new received))
  of_receiving true waits old command new received = of_leave old command.connection received.0 new received.1
  of_receiving false true old command new received = tt
  of_receiving false false old command new received = of_settling (is_login command) (banned_in command) old command command new refl received

  of_owned : (own : Option Command) (old new : OwnerFacts D L) (received : Receives old own new)
      → Stands (decided_owned own old new received) (work_of (settled_owned own old new received))
  of_owned None old new received = tt
  of_owned (Some command) old new received = of_receiving (is_leave command.what) (is_login command && must_wait old) old command new received

  of_item : (old : OwnerFacts D L) (item : Option DeskItem) (new : OwnerFacts D L) (received : ReceivesItem old item new)
      → Stands (decided_item old item new received) (work_of (settled_item old item new received))
  of_item old None new received = tt
  of_item old (Some (items.Closed connection)) new received = tt
  of_item old (Some (items.Command command)) new received = of_owned (owned old.guests.rows command) old new received
  of_item old (Some (items.Bans connection session payload)) new received = tt

  of_waiting : (own : Option Command) (login : Command) (old new : OwnerFacts D L) → ((command : Command) → own ≡ Some command → IsSame command login)
      → (given : MatchOption own (new ≡ old) (λ command. IsGivenOrRefused old command new)) → Stands (decided_waiting own old new given) (work_of (settled_waiting own old login new given))
  of_waiting None login old new same given = tt
  of_waiting (Some command) login old new same given = of_settling (is_login command) (banned_in command) old command login new (same command refl) given

  of_next : (next : Next) (old : OwnerFacts D L) (worked : Bool) (new : OwnerFacts D L) (serves : Serves next old worked new)
      → Stands (decided_as next old worked new serves) (work_of (settled next old worked new serves))
  of_next Rest old worked new rests = tt
  of_next (Again connection) old worked new given = of_leave old connection worked new given
  of_next Goes old worked new gives =
      of_waiting (owned old.guests.rows gives.login) gives.login (record old { logins = gives.rest }) new
      (λ command is. from_guest (find (is_of gives.login.connection) old.guests.rows) gives.login command is) gives.given
  of_next Take old worked new takes = of_item (with_pass takes.pass old) takes.item new takes.received

-- ---- the turns

module _ {D L : Type 0} (door_facts : D → DoorFacts) (link_facts : L → LinkFacts) where
  pub of_the_desk : (old : OwnerFacts D L) (turns : List Turn) (new : OwnerFacts D L) (all : TurnsTo (OwnerTurned door_facts link_facts) old turns new)
      → IsSubsequenceBy IsOn (decisions door_facts link_facts old turns new all) (work_done door_facts link_facts old turns new all)
  of_the_desk old [] new same = tt
  of_the_desk old (turn ∷ turns) new (mid, turned, rest) =
      joined IsOn (decisions_of door_facts link_facts old turn mid turned) (decisions door_facts link_facts mid turns new rest)
      (work_of (settled_in door_facts link_facts old turn mid turned)) (work_done door_facts link_facts mid turns new rest)
      (of_next (next turned.after_offers) turned.after_offers turned.served turned.after_desk turned.serves)
      (of_the_desk mid turns new rest)
