-- The roll of accepted logins is, in order, that of the replies that were made.
use Rattle.mum_owner.proofs.Common.{◌≡◌, ◌∙◌, ℕ, Bool, true, false, cond, List, [], ◌∷◌, ◌++◌, append-nil, append_assoc, Option, Some, None, refl, ap, sym, subst, inl, inr, ◌&&◌, length, nat_lt, MatchBool, MatchOption, is_none, is_some, option_to_list, flat_map-append, SessionId, Slot, CONNECTION_LIMIT, ReplyEnd, Joined, Decided, RejectedEnd, Book, Commanded, Decides, current, with_accepted, ControlFacts, slot_of, EmptiesPost, PostsNext, due_notices, Posted, roll_left, TurnsTo, Turn, DoorFacts, LinkFacts, Notice, DeskItem, Login, ReplyFacts, login_of, verdict, Command, Verdict, Accepted, Lacks, Refused, Rejected, Answer, Ignored, sent, WardenFacts, verdict_in, Answers, IsGivenOrRefused, ListComesTo, SettledBy, TestedBy, ban_reply, banned_in, book_after, is_banned, list_reply, with_warden, KeptFacts, OwnerFacts, IsGiven, roll_of, owned, session_of, made, replies_made, EmptiesFor, LeaveIsGiven, Next, Receives, ReceivesBy, ReceivesItem, Rests, Serves, ServesDesk, kept_after, leave_of, may_go, must_wait, next, with_pass, Again, Goes, Rest, Take, login_in, logins_in, ArchivesBy, Asks, OwnerTurned, PostsOne, Presses, Publishes, is_not_to_ask, is_over, is_through, lag_at, pressing, with_lag, is_leave, is_login, PENDING_LIMIT, Lag}
use Rattle.mum_owner.proofs.{Answering.AnswersNow, Answering.answers_now, Answering.commanded_to, Sitting.GivesNone, Sitting.leave_gives}
use Rattle.mum_port.specs.declared.item.DeskItem.TheVariants as items

-- ---- a command

abbrev control_roll : ControlFacts → List Login
control_roll control = control.publisher.roll

-- a reply that reports no login leaves the roll
quiet_roll : (old new : ControlFacts) (reply : ReplyFacts) → login_in reply ≡ [] → control_roll new ≡ control_roll old
    → control_roll new ≡ control_roll old ++ logins_in (reply ∷ [])
quiet_roll old new reply none same =
    same ∙ sym (append-nil (control_roll old)) ∙ ap (λ (l : List Login). control_roll old ++ (l ++ [])) (sym none)

denied_roll : (old new : ControlFacts) (connection : ℕ) (reply denied : ReplyFacts) → reply ≡ denied → login_of connection denied.end ≡ [] → control_roll new ≡ control_roll old
    → control_roll new ≡ control_roll old ++ login_of connection reply.end
denied_roll old new connection reply denied is none same =
    same ∙ sym (append-nil (control_roll old))
    ∙ ap (λ (l : List Login). control_roll old ++ l) (sym (ap (λ (r : ReplyFacts). login_of connection r.end) is ∙ none))

-- the login of a command that was decided is put on it
pub decided_roll : (old : ControlFacts) (connection : ℕ) (session : Option SessionId) (decided : Verdict) (reply : ReplyFacts) (new : ControlFacts)
    → Decides old connection session decided reply new → control_roll new ≡ control_roll old ++ login_of connection reply.end
decided_roll old connection session (Accepted edit) reply new accepts =
    sym (roll_left (with_accepted old.publisher connection edit) new.publisher reply.note accepts.published)
    ∙ ap (λ (r : ReplyFacts). control_roll old ++ login_of connection r.end) (sym accepts.answer)
decided_roll old connection session (Lacks perm channel) reply new denies = denied_roll old new connection reply _ denies.1 refl (ap control_roll denies.0)
decided_roll old connection session (Refused kind) reply new denies = denied_roll old new connection reply _ denies.1 refl (ap control_roll denies.0)
decided_roll old connection session (Rejected kind) reply new denies = denied_roll old new connection reply _ denies.1 refl (ap control_roll denies.0)
decided_roll old connection session (Answer frame) reply new denies = denied_roll old new connection reply _ denies.1 refl (ap control_roll denies.0)
decided_roll old connection session (Ignored why) reply new denies = denied_roll old new connection reply _ denies.1 refl (ap control_roll denies.0)

given_roll : (old : ControlFacts) (command : Command) (reply : ReplyFacts) (new : ControlFacts) → Commanded old command reply new
    → control_roll new ≡ control_roll old ++ login_of command.connection reply.end
given_roll old command reply new (inl dropped) = denied_roll old new command.connection reply _ dropped.1 refl (ap control_roll dropped.0)
given_roll old command reply new (inr decides) =
    decided_roll old command.connection command.session (verdict (current old) command.session command.what) reply new decides

-- which is the one that its reply reports
commanded_roll : (old : ControlFacts) (command : Command) (reply : ReplyFacts) (new : ControlFacts) → Commanded old command reply new
    → control_roll new ≡ control_roll old ++ logins_in (reply ∷ [])
commanded_roll old command reply new given =
    given_roll old command reply new given
    ∙ ap (λ (n : ℕ). control_roll old ++ login_of n reply.end) (sym (commanded_to old command reply new given))
    ∙ ap (λ (l : List Login). control_roll old ++ l) (sym (append-nil (login_in reply)))

-- ---- a leave

none_admitted : (end : ReplyEnd) (connection : ℕ) → GivesNone end → login_of connection end ≡ []
none_admitted (Joined session slot) connection gives = let no : Some session ≡ None = gives None in cc
none_admitted Decided connection gives = refl
none_admitted RejectedEnd connection gives = refl

slot_roll : (control : ControlFacts) (slot : Option Slot) (after : ControlFacts) → EmptiesPost control slot after → control_roll after ≡ control_roll control
slot_roll control None after is = ap control_roll is
slot_roll control (Some slot) after empties = ap control_roll empties.1

emptied_roll : (control : ControlFacts) (session : Option SessionId) (after : ControlFacts) → EmptiesFor control session after → control_roll after ≡ control_roll control
emptied_roll control None after is = ap control_roll is
emptied_roll control (Some session) after empties = slot_roll control (slot_of (current control) session) after empties

-- it changes nothing of the roll, whether it is decided or not
leave_roll : {L : Type 0} (decided : Bool) (roll before : List Login) (reply : ReplyFacts) (kept : KeptFacts L) → kept.reply ≡ None → login_in reply ≡ []
    → roll ≡ before ++ logins_in (reply ∷ []) → roll ≡ before ++ logins_in (option_to_list (kept_after decided reply kept).reply)
leave_roll true roll before reply kept none quiet is = is
leave_roll false roll before reply kept none quiet is =
    is ∙ ap (λ (l : List Login). before ++ (l ++ [])) quiet ∙ ap (λ (r : Option ReplyFacts). before ++ logins_in (option_to_list r)) (sym none)

-- ---- posting

notice_roll : (old : ControlFacts) (pending : List Notice) (answer : Posted) (new : ControlFacts) → PostsNext old pending answer new → control_roll new ≡ control_roll old
notice_roll old [] answer new posts = ap control_roll posts.1
notice_roll old (notice ∷ rest) answer new posts = ap control_roll posts.others

-- ---- the replies

made_none : (reply : Option ReplyFacts) → logins_in (made reply reply) ≡ []
made_none None = refl
made_none (Some reply) = refl

module _ {D L : Type 0} where
  -- the roll has these, and after them the login of the reply that is kept
  abbrev Rolls : List Login → OwnerFacts D L → Type 0
  Rolls before owner = roll_of owner ≡ before ++ logins_in (option_to_list owner.kept.reply)

  rolls_as : (before : List Login) (mid new : OwnerFacts D L) → new ≡ mid → Rolls before mid → Rolls before new
  rolls_as before mid new is rolls = subst (λ (o : OwnerFacts D L). Rolls before o) (sym is) rolls

  -- no reply is kept, or one that reports no login
  rolls_none : (old new : OwnerFacts D L) → roll_of new ≡ roll_of old → new.kept.reply ≡ old.kept.reply → old.kept.reply ≡ None → Rolls (roll_of old) new
  rolls_none old new roll same none =
      roll ∙ sym (append-nil (roll_of old)) ∙ ap (λ (r : Option ReplyFacts). roll_of old ++ logins_in (option_to_list r)) (sym (same ∙ none))

  given_rolls : (old : OwnerFacts D L) (command : Command) (new : OwnerFacts D L) → IsGiven old command new → Rolls (roll_of old) new
  given_rolls old command new (inl gives) =
      commanded_roll old.control command gives.reply new.control gives.commanded
      ∙ ap (λ (r : Option ReplyFacts). roll_of old ++ logins_in (option_to_list r)) (sym (ap (λ (o : OwnerFacts D L). o.kept.reply) gives.others))
  given_rolls old command new (inr drops) = rolls_as (roll_of old) _ new drops.others (sym (append-nil (roll_of old)))

  -- ---- bans

  answered_rolls : (old : OwnerFacts D L) (reply : ReplyFacts) (new : OwnerFacts D L) → login_in reply ≡ [] → Answers old reply new → Rolls (roll_of old) new
  answered_rolls old reply new none (inl is) = rolls_as (roll_of old) _ new is (quiet_roll old.control old.control reply none refl)
  answered_rolls old reply new none (inr is) = rolls_as (roll_of old) _ new is (sym (append-nil (roll_of old)))

  tested_rolls : (banned : Bool) (old : OwnerFacts D L) (login : Command) (new : OwnerFacts D L) → TestedBy banned old login new → Rolls (roll_of old) new
  tested_rolls true old login new answers = answered_rolls old (ban_reply (roll_of old) login.connection) new refl answers
  tested_rolls false old login new given = given_rolls old login new given

  settled_rolls : (login : Bool) (banned : Option SessionId) (old : OwnerFacts D L) (command : Command) (new : OwnerFacts D L) → SettledBy login banned old command new → Rolls (roll_of old) new
  settled_rolls true banned old command new tests =
      tested_rolls (is_banned old command tests.warden.last) (with_warden tests.warden old) command new tests.tested
  settled_rolls false (Some banned) old command new (inl lacks) = rolls_as (roll_of old) _ new lacks.others (sym (append-nil (roll_of old)))
  settled_rolls false (Some banned) old command new (inr removes) =
      rolls_as (roll_of old) _ new removes.others (given_rolls (with_warden removes.warden old) command removes.after removes.given)
  settled_rolls false None old command new given = given_rolls old command new given

  list_rolls : (warden : WardenFacts) (old : OwnerFacts D L) (reply : ReplyFacts) (book : Book) (new : OwnerFacts D L) → login_in reply ≡ [] → ListComesTo warden old reply book new
      → Rolls (roll_of old) new
  list_rolls warden old reply book new none (inl both) = rolls_as (roll_of old) _ new both.1 (quiet_roll old.control old.control reply none refl)
  list_rolls warden old reply book new none (inr both) = rolls_as (roll_of old) _ new both.1 (sym (append-nil (roll_of old)))

  -- ---- leaves and items

  leave_rolls : (old : OwnerFacts D L) (connection : ℕ) (decided : Bool) (new : OwnerFacts D L) → old.kept.reply ≡ None → LeaveIsGiven old connection decided new → Rolls (roll_of old) new
  leave_rolls old connection decided new none (inl gives) =
      let session : Option SessionId = session_of connection old.guests.rows in
      let quiet : login_in gives.reply ≡ [] =
      none_admitted gives.reply.end gives.reply.connection (leave_gives gives.emptied connection session gives.reply new.control gives.commanded) in
      let rolls : control_roll new.control ≡ control_roll old.control ++ logins_in (gives.reply ∷ []) =
      commanded_roll gives.emptied (leave_of connection session) gives.reply new.control gives.commanded
      ∙ ap (λ (l : List Login). l ++ logins_in (gives.reply ∷ [])) (emptied_roll old.control session gives.emptied gives.empties) in
      leave_roll decided (roll_of new) (roll_of old) gives.reply old.kept none quiet rolls
      ∙ ap (λ (r : Option ReplyFacts). roll_of old ++ logins_in (option_to_list r)) (sym (ap (λ (o : OwnerFacts D L). o.kept.reply) gives.others))
  leave_rolls old connection decided new none (inr drops) =
      rolls_none old new (ap (λ (o : OwnerFacts D L). roll_of o) drops.others) (ap (λ (o : OwnerFacts D L). o.kept.reply) drops.others) none

  same_rolls : (old new : OwnerFacts D L) → new ≡ old → old.kept.reply ≡ None → Rolls (roll_of old) new
  same_rolls old new same none = rolls_none old new (ap (λ (o : OwnerFacts D L). roll_of o) same) (ap (λ (o : OwnerFacts D L). o.kept.reply) same) none

  received_rolls : (leave waits : Bool) (old : OwnerFacts D L) (command : Command) (new : OwnerFacts D L) → ReceivesBy leave waits old command new → old.kept.reply ≡ None → Rolls (roll_of old) new
  received_rolls true waits old command new received none = leave_rolls old command.connection received.0 new none received.1
  received_rolls false true old command new received none =
      rolls_none old new (ap (λ (o : OwnerFacts D L). roll_of o) received) (ap (λ (o : OwnerFacts D L). o.kept.reply) received) none
  received_rolls false false old command new received none = settled_rolls (is_login command) (banned_in command) old command new received

  owned_rolls : (own : Option Command) (old new : OwnerFacts D L) → Receives old own new → old.kept.reply ≡ None → Rolls (roll_of old) new
  owned_rolls None old new same none = same_rolls old new same none
  owned_rolls (Some command) old new received none =
      received_rolls (is_leave command.what) (is_login command && must_wait old) old command new received none

  login_rolls : (own : Option Command) (old new : OwnerFacts D L) → MatchOption own (new ≡ old) (λ command. IsGivenOrRefused old command new) → old.kept.reply ≡ None → Rolls (roll_of old) new
  login_rolls None old new same none = same_rolls old new same none
  login_rolls (Some command) old new given none = settled_rolls (is_login command) (banned_in command) old command new given

  item_rolls : (old : OwnerFacts D L) (item : Option DeskItem) (new : OwnerFacts D L) → ReceivesItem old item new → old.kept.reply ≡ None → Rolls (roll_of old) new
  item_rolls old None new received none = same_rolls old new received none
  item_rolls old (Some (items.Closed connection)) new received none =
      rolls_none old new (ap (λ (o : OwnerFacts D L). roll_of o) received) (ap (λ (o : OwnerFacts D L). o.kept.reply) received) none
  item_rolls old (Some (items.Command command)) new received none = owned_rolls (owned old.guests.rows command) old new received none
  item_rolls old (Some (items.Bans connection session payload)) new settles none =
      list_rolls settles.warden old (list_reply (roll_of old) connection (sent session (verdict_in old.warden.book settles.allowed payload)))
      (book_after old.warden.book settles.allowed payload settles.warden.last) new refl settles.comes_to

  -- ---- the desk

  -- what is put on the roll is the login of the reply that was made
  abbrev RollsMade : OwnerFacts D L → OwnerFacts D L → Type 0
  RollsMade old new = roll_of new ≡ roll_of old ++ logins_in (made old.kept.reply new.kept.reply)

  rolls_made : (old new : OwnerFacts D L) → old.kept.reply ≡ None → Rolls (roll_of old) new → RollsMade old new
  rolls_made old new none rolls = rolls ∙ ap (λ (r : Option ReplyFacts). roll_of old ++ logins_in (made r new.kept.reply)) (sym none)

  serves_rolls : (next : Next) (old : OwnerFacts D L) (worked : Bool) (new : OwnerFacts D L) → Serves next old worked new → AnswersNow next old.kept.reply → RollsMade old new
  serves_rolls Rest old worked new rests now =
      subst (λ (o : OwnerFacts D L). RollsMade old o) (sym rests.1)
      (sym (append-nil (roll_of old)) ∙ ap (λ (l : List Login). roll_of old ++ l) (sym (made_none old.kept.reply)))
  serves_rolls (Again connection) old worked new leave none = rolls_made old new none (leave_rolls old connection worked new none leave)
  serves_rolls Goes old worked new gives none =
      rolls_made old new none (login_rolls (owned old.guests.rows gives.login) (record old { logins = gives.rest }) new gives.given none)
  serves_rolls Take old worked new takes none = rolls_made old new none (item_rolls (with_pass takes.pass old) takes.item new takes.received none)

  desk_rolls : (old : OwnerFacts D L) (worked : Bool) (new : OwnerFacts D L) → ServesDesk old worked new → RollsMade old new
  desk_rolls old worked new serves =
      serves_rolls (next old) old worked new serves
      (answers_now old.kept.reply old.desk.leave (nat_lt PENDING_LIMIT (length old.control.pending)) (may_go old) (nat_lt (length old.logins) CONNECTION_LIMIT))

  -- ---- the other parts

  lag_roll : (lag : Option Lag) (owner : OwnerFacts D L) → roll_of (with_lag lag owner) ≡ roll_of owner
  lag_roll None owner = refl
  lag_roll (Some lag) owner = refl

  pressed_roll : (old : OwnerFacts D L) (worked : Bool) (new : OwnerFacts D L) → Presses old worked new → roll_of new ≡ roll_of old
  pressed_roll old worked new presses = ap (λ (o : OwnerFacts D L). roll_of o) presses.1 ∙ lag_roll (pressing old) old

  published_roll : (old : OwnerFacts D L) (worked : Bool) (new : OwnerFacts D L) → Publishes old worked new → roll_of new ≡ roll_of old
  published_roll old true new publishes = ap (λ (o : OwnerFacts D L). roll_of o) publishes.1
  published_roll old false new same = ap (λ (o : OwnerFacts D L). roll_of o) same

  archived_roll : (there noted through : Bool) (old : OwnerFacts D L) (worked : Bool) (new : OwnerFacts D L) → ArchivesBy there noted through old worked new → roll_of new ≡ roll_of old
  archived_roll false noted through old worked new rests = ap (λ (o : OwnerFacts D L). roll_of o) rests.1
  archived_roll true true through old worked new (inl offers) = ap (λ (o : OwnerFacts D L). roll_of o) offers.others
  archived_roll true true through old worked new (inr lacks) = ap (λ (o : OwnerFacts D L). roll_of o) lacks.1
  archived_roll true false true old worked new ends = ap (λ (o : OwnerFacts D L). roll_of o) ends.others
  archived_roll true false false old worked new rests = ap (λ (o : OwnerFacts D L). roll_of o) rests.1

  posted_roll : (b : Bool) (old : OwnerFacts D L) (worked : Bool) (new : OwnerFacts D L) → MatchBool b (Rests old worked new) (PostsOne old worked new) → roll_of new ≡ roll_of old
  posted_roll true old worked new rests = ap (λ (o : OwnerFacts D L). roll_of o) rests.1
  posted_roll false old worked new posts =
      ap (λ (o : OwnerFacts D L). roll_of o) posts.others
      ∙ lag_roll (lag_at posts.answer old.guests.rows) (record old { control = posts.after })
      ∙ notice_roll old.control (due_notices old.control) posts.answer posts.after posts.posts

  ended_roll : (b : Bool) (owner : OwnerFacts D L) → roll_of (cond b (record owner { is_ending = true }) owner) ≡ roll_of owner
  ended_roll true owner = refl
  ended_roll false owner = refl

module _ {D L : Type 0} (door_facts : D → DoorFacts) (link_facts : L → LinkFacts) where
  asked_roll : (b : Bool) (old : OwnerFacts D L) (worked : Bool) (new : OwnerFacts D L) → Asks door_facts link_facts b old worked new → roll_of new ≡ roll_of old
  asked_roll true old worked new rests = ap (λ (o : OwnerFacts D L). roll_of o) rests.1
  asked_roll false old worked new asks = ap (λ (o : OwnerFacts D L). roll_of o) asks.others

  turned_roll : (old : OwnerFacts D L) (turn : Turn) (new : OwnerFacts D L) (t : OwnerTurned door_facts link_facts old turn new)
      → roll_of new ≡ roll_of old ++ logins_in (made t.after_offers.kept.reply t.after_desk.kept.reply)
  turned_roll old turn new t =
      let here : List Login = logins_in (made t.after_offers.kept.reply t.after_desk.kept.reply) in
      ap (λ (o : OwnerFacts D L). roll_of o) t.ends
      ∙ ended_roll (is_over t.after_door && is_none t.after_door.kept.coming) t.after_door
      ∙ asked_roll (is_not_to_ask t.after_post) t.after_post t.came t.after_door t.asks
      ∙ posted_roll (is_some t.after_archive.kept.lag) t.after_archive t.posted t.after_post t.posts
      ∙ archived_roll (is_some t.after_publish.archive) _ (is_through t.after_publish) t.after_publish t.archived t.after_archive t.archives
      ∙ published_roll t.after_press t.published t.after_publish t.publishes
      ∙ pressed_roll t.after_desk t.pressed t.after_press t.presses
      ∙ desk_rolls t.after_offers t.served t.after_desk t.serves
      ∙ ap (λ (o : OwnerFacts D L). roll_of o ++ here) t.offers.others

  -- over turns, one after another
  pub all_rolls : (old : OwnerFacts D L) (turns : List Turn) (new : OwnerFacts D L) (all : TurnsTo (OwnerTurned door_facts link_facts) old turns new)
      → roll_of new ≡ roll_of old ++ logins_in (replies_made door_facts link_facts old turns new all)
  all_rolls old [] new all = ap (λ (o : OwnerFacts D L). roll_of o) all ∙ sym (append-nil (roll_of old))
  all_rolls old (turn ∷ turns) new all =
      let t = all.1 in
      let here : List ReplyFacts = made t.after_offers.kept.reply t.after_desk.kept.reply in
      let behind : List ReplyFacts = replies_made door_facts link_facts all.0 turns new all.2 in
      all_rolls all.0 turns new all.2
      ∙ ap (λ (l : List Login). l ++ logins_in behind) (turned_roll old turn all.0 t)
      ∙ append_assoc (roll_of old) (logins_in here) (logins_in behind)
      ∙ ap (λ (l : List Login). roll_of old ++ l) (sym (flat_map-append login_in here behind))
