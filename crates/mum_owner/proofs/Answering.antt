-- The replies that are made of commands and leaves, over each part of a turn and over turns.
use Rattle.mum_owner.proofs.Common.{◌≡◌, ◌∙◌, ℕ, Bool, true, false, List, [], ◌∷◌, ◌++◌, length, map, Option, Some, None, refl, ap, sym, inl, inr, ◌&&◌, find, is_some, nat_lt, MatchOption, option_to_list, option_map, map-append, SessionId, CONNECTION_LIMIT, Commanded, Decides, current, ControlFacts, ReplyFacts, TurnsTo, Turn, DoorFacts, LinkFacts, DeskItem, verdict, Command, Verdict, Accepted, Lacks, Refused, Rejected, Answer, Ignored, sent, WardenFacts, verdict_in, Book, KeptFacts, OwnerFacts, is_of, owned, session_of, connections_of, connections_settled, leave_where, made, one_tested, replies_made, settled, settled_by, settled_given, settled_item, settled_owned, settled_waiting, Answers, IsGivenOrRefused, ListComesTo, SettledBy, SettlesList, TestedBy, ban_reply, banned_in, book_after, is_banned, list_reply, with_warden, IsGiven, roll_of, LeaveIsGiven, Next, Receives, ReceivesBy, ReceivesItem, Serves, ServesDesk, kept_after, leave_of, may_go, must_wait, next, next_by, with_pass, Again, Goes, Rest, Take, OwnerTurned, is_leave, is_login, PENDING_LIMIT, Guest}
use Rattle.mum_port.specs.declared.item.DeskItem.TheVariants as items

abbrev pub connection_of : ReplyFacts → ℕ
connection_of reply = reply.connection

-- the connection of a reply that is kept
abbrev pub answered_to : Option ReplyFacts → List ℕ
answered_to kept = map connection_of (option_to_list kept)

-- ---- a reply goes to the connection of its command

decided_to : (old : ControlFacts) (connection : ℕ) (session : Option SessionId) (decided : Verdict) (reply : ReplyFacts) (new : ControlFacts)
    → Decides old connection session decided reply new → reply.connection ≡ connection
decided_to old connection session (Accepted edit) reply new accepts = ap connection_of accepts.answer
decided_to old connection session (Lacks perm channel) reply new denies = ap connection_of denies.1
decided_to old connection session (Refused kind) reply new denies = ap connection_of denies.1
decided_to old connection session (Rejected kind) reply new denies = ap connection_of denies.1
decided_to old connection session (Answer frame) reply new denies = ap connection_of denies.1
decided_to old connection session (Ignored why) reply new denies = ap connection_of denies.1

pub commanded_to : (old : ControlFacts) (command : Command) (reply : ReplyFacts) (new : ControlFacts) → Commanded old command reply new → reply.connection ≡ command.connection
commanded_to old command reply new (inl dropped) = ap connection_of dropped.1
commanded_to old command reply new (inr decides) =
    decided_to old command.connection command.session (verdict (current old) command.session command.what) reply new decides

-- ---- whether one is kept

-- no reply is kept, where something is done that may make one
abbrev pub AnswersNow : Next → Option ReplyFacts → Type 0
AnswersNow Rest reply = Unit {0}
AnswersNow (Again connection) reply = reply ≡ None
AnswersNow Goes reply = reply ≡ None
AnswersNow Take reply = reply ≡ None

pub answers_now : (reply : Option ReplyFacts) (leave : Option ℕ) (many goes room : Bool) → AnswersNow (next_by (is_some reply) leave many goes room) reply
answers_now (Some reply) leave many goes room = tt
answers_now None (Some connection) many goes room = refl
answers_now None None true goes room = tt
answers_now None None false true room = refl
answers_now None None false false true = refl
answers_now None None false false false = tt

made_same : (reply : Option ReplyFacts) → made reply reply ≡ []
made_same None = refl
made_same (Some reply) = refl

made_where : (before after : Option ReplyFacts) → before ≡ None → map connection_of (made before after) ≡ answered_to after
made_where before after none = ap (λ (r : Option ReplyFacts). map connection_of (made r after)) none

leave_kept : {L : Type 0} (decided : Bool) (reply : ReplyFacts) (kept : KeptFacts L) (connection : ℕ) → kept.reply ≡ None → reply.connection ≡ connection
    → answered_to (kept_after decided reply kept).reply ≡ option_to_list (leave_where decided connection)
leave_kept true reply kept connection none is = ap (λ (n : ℕ). n ∷ []) is
leave_kept false reply kept connection none is = ap (λ (r : Option ReplyFacts). answered_to r) none

abbrev connection_in : ℕ → Option Command → ℕ
connection_in other None = other
connection_in other (Some command) = command.connection

-- a command keeps its connection, whatever session it gets
pub owned_connection : (found : Option Guest) (login command : Command) → option_map (λ guest. record login { session = guest.session }) found ≡ Some command
    → command.connection ≡ login.connection
owned_connection None login command is = cc
owned_connection (Some guest) login command is =
    sym (ap (λ (o : Option Command). connection_in login.connection o) is)

module _ {D L : Type 0} where
  given_answered : (old : OwnerFacts D L) (command : Command) (new : OwnerFacts D L) → IsGiven old command new → answered_to new.kept.reply ≡ command.connection ∷ []
  given_answered old command new (inl gives) =
      ap (λ (o : OwnerFacts D L). answered_to o.kept.reply) gives.others
      ∙ ap (λ (n : ℕ). n ∷ []) (commanded_to old.control command gives.reply new.control gives.commanded)
  given_answered old command new (inr drops) = ap (λ (o : OwnerFacts D L). answered_to o.kept.reply) drops.others

  -- ---- bans

  replied_answered : (old : OwnerFacts D L) (reply : ReplyFacts) (new : OwnerFacts D L) → Answers old reply new → answered_to new.kept.reply ≡ reply.connection ∷ []
  replied_answered old reply new (inl is) = ap (λ (o : OwnerFacts D L). answered_to o.kept.reply) is
  replied_answered old reply new (inr is) = ap (λ (o : OwnerFacts D L). answered_to o.kept.reply) is

  tested_answered : (banned : Bool) (old : OwnerFacts D L) (login : Command) (new : OwnerFacts D L) (lay : Command) → TestedBy banned old login new → login.connection ≡ lay.connection
      → answered_to new.kept.reply ≡ connections_of (one_tested banned lay)
  tested_answered true old login new lay answers same = replied_answered old (ban_reply (roll_of old) login.connection) new answers ∙ ap (λ (n : ℕ). n ∷ []) same
  tested_answered false old login new lay given same = given_answered old login new given ∙ ap (λ (n : ℕ). n ∷ []) same

  settled_answered : (login : Bool) (banned : Option SessionId) (old : OwnerFacts D L) (command : Command) (new : OwnerFacts D L) (given : SettledBy login banned old command new) (lay : Command)
      → command.connection ≡ lay.connection → answered_to new.kept.reply ≡ connections_of (settled_given login banned old command new given lay)
  settled_answered true banned old command new tests lay same =
      tested_answered (is_banned old command tests.warden.last) (with_warden tests.warden old) command new lay tests.tested same
  settled_answered false (Some banned) old command new (inl lacks) lay same =
      ap (λ (o : OwnerFacts D L). answered_to o.kept.reply) lacks.others ∙ ap (λ (n : ℕ). n ∷ []) same
  settled_answered false (Some banned) old command new (inr removes) lay same =
      ap (λ (o : OwnerFacts D L). answered_to o.kept.reply) removes.others
      ∙ given_answered (with_warden removes.warden old) command removes.after removes.given ∙ ap (λ (n : ℕ). n ∷ []) same
  settled_answered false None old command new given lay same = given_answered old command new given ∙ ap (λ (n : ℕ). n ∷ []) same

  list_comes_answered : (warden : WardenFacts) (old : OwnerFacts D L) (reply : ReplyFacts) (book : Book) (new : OwnerFacts D L) → ListComesTo warden old reply book new
      → answered_to new.kept.reply ≡ reply.connection ∷ []
  list_comes_answered warden old reply book new (inl both) = ap (λ (o : OwnerFacts D L). answered_to o.kept.reply) both.1
  list_comes_answered warden old reply book new (inr both) = ap (λ (o : OwnerFacts D L). answered_to o.kept.reply) both.1

  list_answered : (old : OwnerFacts D L) (connection : ℕ) (session : SessionId) (payload : List ℕ) (new : OwnerFacts D L) → SettlesList old connection session payload new
      → answered_to new.kept.reply ≡ connection ∷ []
  list_answered old connection session payload new settles =
      list_comes_answered settles.warden old (list_reply (roll_of old) connection (sent session (verdict_in old.warden.book settles.allowed payload)))
      (book_after old.warden.book settles.allowed payload settles.warden.last) new settles.comes_to

  -- ---- leaves and items

  leave_answered : (old : OwnerFacts D L) (connection : ℕ) (decided : Bool) (new : OwnerFacts D L) → old.kept.reply ≡ None → LeaveIsGiven old connection decided new
      → answered_to new.kept.reply ≡ option_to_list (leave_where decided connection)
  leave_answered old connection decided new none (inl gives) =
      ap (λ (o : OwnerFacts D L). answered_to o.kept.reply) gives.others
      ∙ leave_kept decided gives.reply old.kept connection none
      (commanded_to gives.emptied (leave_of connection (session_of connection old.guests.rows)) gives.reply new.control gives.commanded)
  leave_answered old connection decided new none (inr drops) =
      ap (λ (o : OwnerFacts D L). answered_to o.kept.reply) drops.others ∙ ap (λ (r : Option ReplyFacts). answered_to r) none
      ∙ sym (ap (λ (b : Bool). option_to_list (leave_where b connection)) drops.so)

  stays_unanswered : (old new : OwnerFacts D L) → new.kept.reply ≡ old.kept.reply → old.kept.reply ≡ None → answered_to new.kept.reply ≡ []
  stays_unanswered old new same none = ap (λ (r : Option ReplyFacts). answered_to r) (same ∙ none)

  received_answered : (leave waits : Bool) (old : OwnerFacts D L) (command : Command) (new : OwnerFacts D L) (received : ReceivesBy leave waits old command new) → old.kept.reply ≡ None
      → answered_to new.kept.reply ≡ connections_of (settled_by leave waits old command new received)
  received_answered true waits old command new received none = leave_answered old command.connection received.0 new none received.1
  received_answered false true old command new received none = stays_unanswered old new (ap (λ (o : OwnerFacts D L). o.kept.reply) received) none
  received_answered false false old command new received none = settled_answered (is_login command) (banned_in command) old command new received command refl

  owned_answered : (own : Option Command) (old new : OwnerFacts D L) (received : Receives old own new) → old.kept.reply ≡ None
      → answered_to new.kept.reply ≡ connections_of (settled_owned own old new received)
  owned_answered None old new same none = stays_unanswered old new (ap (λ (o : OwnerFacts D L). o.kept.reply) same) none
  owned_answered (Some command) old new received none =
      received_answered (is_leave command.what) (is_login command && must_wait old) old command new received none

  -- a login that waited, where this is what was given for it
  login_answered : (own : Option Command) (old : OwnerFacts D L) (login : Command) (new : OwnerFacts D L) (given : MatchOption own (new ≡ old) (λ command. IsGivenOrRefused old command new)) → old.kept.reply ≡ None
      → ((command : Command) → own ≡ Some command → command.connection ≡ login.connection) → answered_to new.kept.reply ≡ connections_of (settled_waiting own old login new given)
  login_answered None old login new same none of_it = stays_unanswered old new (ap (λ (o : OwnerFacts D L). o.kept.reply) same) none
  login_answered (Some command) old login new given none of_it =
      settled_answered (is_login command) (banned_in command) old command new given login (of_it command refl)

  item_answered : (old : OwnerFacts D L) (item : Option DeskItem) (new : OwnerFacts D L) (received : ReceivesItem old item new) → old.kept.reply ≡ None
      → answered_to new.kept.reply ≡ connections_of (settled_item old item new received)
  item_answered old None new received none = stays_unanswered old new (ap (λ (o : OwnerFacts D L). o.kept.reply) received) none
  item_answered old (Some (items.Closed connection)) new received none = stays_unanswered old new (ap (λ (o : OwnerFacts D L). o.kept.reply) received) none
  item_answered old (Some (items.Command command)) new received none =
      owned_answered (owned old.guests.rows command) old new received none
  item_answered old (Some (items.Bans connection session payload)) new received none = list_answered old connection session payload new received

  -- what is done next answers, where nothing is kept; nothing is done where a reply is
  serves_answered : (next : Next) (old : OwnerFacts D L) (worked : Bool) (new : OwnerFacts D L) (serves : Serves next old worked new) → AnswersNow next old.kept.reply
      → map connection_of (made old.kept.reply new.kept.reply) ≡ connections_of (settled next old worked new serves)
  serves_answered Rest old worked new rests now =
      ap (λ (r : Option ReplyFacts). map connection_of (made old.kept.reply r)) (ap (λ (o : OwnerFacts D L). o.kept.reply) rests.1)
      ∙ ap (λ (l : List ReplyFacts). map connection_of l) (made_same old.kept.reply)
  serves_answered (Again connection) old worked new leave none =
      made_where old.kept.reply new.kept.reply none ∙ leave_answered old connection worked new none leave
  serves_answered Goes old worked new gives none =
      made_where old.kept.reply new.kept.reply none
      ∙ login_answered (owned old.guests.rows gives.login) (record old { logins = gives.rest }) gives.login new gives.given none
      (owned_connection (find (is_of gives.login.connection) old.guests.rows) gives.login)
  serves_answered Take old worked new takes none =
      made_where old.kept.reply new.kept.reply none ∙ item_answered (with_pass takes.pass old) takes.item new takes.received none

  desk_answered : (old : OwnerFacts D L) (worked : Bool) (new : OwnerFacts D L) (serves : ServesDesk old worked new)
      → map connection_of (made old.kept.reply new.kept.reply) ≡ connections_of (settled (next old) old worked new serves)
  desk_answered old worked new serves =
      serves_answered (next old) old worked new serves
      (answers_now old.kept.reply old.desk.leave (nat_lt PENDING_LIMIT (length old.control.pending)) (may_go old) (nat_lt (length old.logins) CONNECTION_LIMIT))

module _ {D L : Type 0} (door_facts : D → DoorFacts) (link_facts : L → LinkFacts) where
  pub all_answered : (old : OwnerFacts D L) (turns : List Turn) (new : OwnerFacts D L) (all : TurnsTo (OwnerTurned door_facts link_facts) old turns new)
      → map connection_of (replies_made door_facts link_facts old turns new all) ≡ connections_settled door_facts link_facts old turns new all
  all_answered old [] new all = refl
  all_answered old (turn ∷ turns) new all =
      let t = all.1 in
      let behind = replies_made door_facts link_facts all.0 turns new all.2 in
      map-append connection_of (made t.after_offers.kept.reply t.after_desk.kept.reply) behind
      ∙ ap (λ (l : List ℕ). l ++ map connection_of behind) (desk_answered t.after_offers t.served t.after_desk t.serves)
      ∙ ap (λ (l : List ℕ). connections_of (settled (next t.after_offers) t.after_offers t.served t.after_desk t.serves) ++ l) (all_answered all.0 turns new all.2)
