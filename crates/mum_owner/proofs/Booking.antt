-- The bans, over each part of a turn and over turns.
use Rattle.mum_owner.proofs.Common.{◌≡◌, ◌∙◌, ℕ, Bool, true, false, cond, List, [], ◌∷◌, ◌++◌, Option, Some, None, refl, ap, sym, inl, inr, ◌&&◌, MatchBool, MatchOption, fold, is_none, is_some, option_to_list, unwrap_or, QueueId, Adds, Book, Event, after, after_call, bans_of, Ban, SessionId, ControlFacts, TurnsTo, Turn, DoorFacts, LinkFacts, DeskItem, ReplyFacts, Command, sent, WardenFacts, event_in, noted, verdict_in, Answers, IsGivenOrRefused, ListComesTo, SettledBy, TestedBy, ban_reply, banned_in, book_after, has_note, is_banned, list_reply, with_ban, with_warden, ban_added, ban_events, events_given, events_item, events_listed, events_owned, events_received, events_served, events_waiting, OwnerFacts, roll_of, guest_with, owned, IsOpened, LeaveIsGiven, Next, Receives, ReceivesBy, ReceivesItem, Rests, Serves, must_wait, next, with_pass, Again, Goes, Rest, Take, Asks, OwnerTurned, PostsOne, is_not_to_ask, is_over, lag_at, pressing, with_lag, is_leave, is_login, Guest, Lag}
use Rattle.mum_owner.proofs.{Steps.shown_stays, Warding.warden_stays}
use Rattle.mum_port.specs.declared.item.DeskItem.TheVariants as items

fold_more : (bans : List Ban) (first later : List Event) → fold after bans (first ++ later) ≡ fold after (fold after bans first) later
fold_more bans [] later = refl
fold_more bans (event ∷ first) later = fold_more (after bans event) first later

called : (bans : List Ban) (event : Option Event) → after_call bans event ≡ fold after bans (option_to_list event)
called bans None = refl
called bans (Some event) = refl

added_by : (noted_so : Bool) (guest : Guest) (warden : WardenFacts)
    → (cond noted_so (noted guest.address warden) warden).book.bans
    ≡ fold after warden.book.bans (cond noted_so (Adds guest.address (unwrap_or warden.book.reserved []) warden.last ∷ []) [])
added_by true guest warden = refl
added_by false guest warden = refl

added : (guest : Option Guest) (reply : Option ReplyFacts) (warden : WardenFacts) → (with_ban guest reply warden).book.bans ≡ fold after warden.book.bans (ban_added guest reply warden)
added None reply warden = refl
added (Some guest) reply warden = added_by (has_note reply) guest warden

module _ {D L : Type 0} where
  abbrev LeavesBans : (old new : OwnerFacts D L) → List Event → Type 0
  LeavesBans old new events = new.warden.book.bans ≡ fold after old.warden.book.bans events

  still : (old new : OwnerFacts D L) → new.warden ≡ old.warden → LeavesBans old new []
  still old new same = ap (λ (w : WardenFacts). w.book.bans) same

  answered_warden : (old : OwnerFacts D L) (reply : ReplyFacts) (new : OwnerFacts D L) → Answers old reply new → new.warden ≡ old.warden
  answered_warden old reply new (inl is) = ap (λ (o : OwnerFacts D L). o.warden) is
  answered_warden old reply new (inr is) = ap (λ (o : OwnerFacts D L). o.warden) is

  tested_warden : (banned : Bool) (old : OwnerFacts D L) (login : Command) (new : OwnerFacts D L) → TestedBy banned old login new → new.warden ≡ old.warden
  tested_warden true old login new answers = answered_warden old (ban_reply (roll_of old) login.connection) new answers
  tested_warden false old login new given = warden_stays old login new given

  given_on : (login : Bool) (banned : Option SessionId) (old : OwnerFacts D L) (command : Command) (new : OwnerFacts D L) (given : SettledBy login banned old command new)
      → LeavesBans old new (events_given login banned old command new given)
  given_on true banned old command new tests =
      ap (λ (w : WardenFacts). w.book.bans) (tested_warden (is_banned old command tests.warden.last) (with_warden tests.warden old) command new tests.tested)
      ∙ ap (λ (b : Book). b.bans) tests.clock.book
  given_on false (Some banned) old command new (inl lacks) =
      ap (λ (o : OwnerFacts D L). o.warden.book.bans) lacks.others ∙ ap (λ (b : Book). b.bans) lacks.clock.book
  given_on false (Some banned) old command new (inr removes) =
      let guest : Option Guest = guest_with banned old.guests.rows in
      let events : List Event = ban_added guest removes.after.kept.reply removes.after.warden in
      let room : removes.after.warden.book.bans ≡ old.warden.book.bans =
      ap (λ (w : WardenFacts). w.book.bans) (warden_stays (with_warden removes.warden old) command removes.after removes.given)
      ∙ ap (λ (b : Book). b.bans) removes.reserves.is in
      ap (λ (o : OwnerFacts D L). o.warden.book.bans) removes.others ∙ added guest removes.after.kept.reply removes.after.warden
      ∙ ap (λ (bans : List Ban). fold after bans events) room
  given_on false None old command new given = still old new (warden_stays old command new given)

  leave_warden : (old : OwnerFacts D L) (connection : ℕ) (decided : Bool) (new : OwnerFacts D L) → LeaveIsGiven old connection decided new → new.warden ≡ old.warden
  leave_warden old connection decided new (inl gives) = ap (λ (o : OwnerFacts D L). o.warden) gives.others
  leave_warden old connection decided new (inr drops) = ap (λ (o : OwnerFacts D L). o.warden) drops.others

  received_on : (leave waits : Bool) (old : OwnerFacts D L) (command : Command) (new : OwnerFacts D L) (received : ReceivesBy leave waits old command new)
      → LeavesBans old new (events_received leave waits old command new received)
  received_on true waits old command new received = still old new (leave_warden old command.connection received.0 new received.1)
  received_on false true old command new received = still old new (ap (λ (o : OwnerFacts D L). o.warden) received)
  received_on false false old command new received = given_on (is_login command) (banned_in command) old command new received

  owned_on : (own : Option Command) (old new : OwnerFacts D L) (received : Receives old own new) → LeavesBans old new (events_owned own old new received)
  owned_on None old new same = still old new (ap (λ (o : OwnerFacts D L). o.warden) same)
  owned_on (Some command) old new received = received_on (is_leave command.what) (is_login command && must_wait old) old command new received

  listed_on : (allowed : Bool) (payload : List ℕ) (warden : WardenFacts) (old : OwnerFacts D L) (reply : ReplyFacts) (new : OwnerFacts D L)
      (comes : ListComesTo warden old reply (book_after old.warden.book allowed payload warden.last) new)
      → LeavesBans old new (events_listed (event_in old.warden.book allowed payload warden.last) warden old reply (book_after old.warden.book allowed payload warden.last) new comes)
  listed_on allowed payload warden old reply new (inl decided) =
      ap (λ (o : OwnerFacts D L). o.warden.book.bans) decided.1 ∙ ap (λ (b : Book). b.bans) decided.0
      ∙ called old.warden.book.bans (event_in old.warden.book allowed payload warden.last)
  listed_on allowed payload warden old reply new (inr starved) =
      ap (λ (o : OwnerFacts D L). o.warden.book.bans) starved.1 ∙ ap (λ (b : Book). b.bans) starved.0

  item_on : (old : OwnerFacts D L) (item : Option DeskItem) (new : OwnerFacts D L) (received : ReceivesItem old item new) → LeavesBans old new (events_item old item new received)
  item_on old None new same = still old new (ap (λ (o : OwnerFacts D L). o.warden) same)
  item_on old (Some (items.Closed connection)) new received = still old new (ap (λ (o : OwnerFacts D L). o.warden) received)
  item_on old (Some (items.Command command)) new received = owned_on (owned old.guests.rows command) old new received
  item_on old (Some (items.Bans connection session payload)) new settles =
      listed_on settles.allowed payload settles.warden old (list_reply (roll_of old) connection (sent session (verdict_in old.warden.book settles.allowed payload))) new settles.comes_to

  waiting_on : (own : Option Command) (old new : OwnerFacts D L) (given : MatchOption own (new ≡ old) (λ command. IsGivenOrRefused old command new))
      → LeavesBans old new (events_waiting own old new given)
  waiting_on None old new same = still old new (ap (λ (o : OwnerFacts D L). o.warden) same)
  waiting_on (Some command) old new given = given_on (is_login command) (banned_in command) old command new given

  served_on : (next : Next) (old : OwnerFacts D L) (worked : Bool) (new : OwnerFacts D L) (serves : Serves next old worked new) → LeavesBans old new (events_served next old worked new serves)
  served_on Rest old worked new rests = still old new (ap (λ (o : OwnerFacts D L). o.warden) rests.1)
  served_on (Again connection) old worked new given = still old new (leave_warden old connection worked new given)
  served_on Goes old worked new gives = waiting_on (owned old.guests.rows gives.login) (record old { logins = gives.rest }) new gives.given
  served_on Take old worked new takes = item_on (with_pass takes.pass old) takes.item new takes.received

  -- ---- the other parts

  lag_warden : (lag : Option Lag) (owner : OwnerFacts D L) → (with_lag lag owner).warden ≡ owner.warden
  lag_warden None owner = refl
  lag_warden (Some lag) owner = refl

  posted_warden : (b : Bool) (old : OwnerFacts D L) (worked : Bool) (new : OwnerFacts D L) → MatchBool b (Rests old worked new) (PostsOne old worked new) → new.warden ≡ old.warden
  posted_warden true old worked new rests = ap (λ (o : OwnerFacts D L). o.warden) rests.1
  posted_warden false old worked new posts =
      ap (λ (o : OwnerFacts D L). o.warden) posts.others ∙ lag_warden (lag_at posts.answer old.guests.rows) (record old { control = posts.after })

  ended_warden : (b : Bool) (owner : OwnerFacts D L) → (cond b (record owner { is_ending = true }) owner).warden ≡ owner.warden
  ended_warden true owner = refl
  ended_warden false owner = refl

module _ {D L : Type 0} (door_facts : D → DoorFacts) (link_facts : L → LinkFacts) where
  asked_warden : (b : Bool) (old : OwnerFacts D L) (worked : Bool) (new : OwnerFacts D L) → Asks door_facts link_facts b old worked new → new.warden ≡ old.warden
  asked_warden true old worked new rests = ap (λ (o : OwnerFacts D L). o.warden) rests.1
  asked_warden false old worked new asks = ap (λ (o : OwnerFacts D L). o.warden) asks.others

  -- what the desk makes of the bans is all that a turn makes of them
  turned_warden : (old : OwnerFacts D L) (turn : Turn) (new : OwnerFacts D L) (t : OwnerTurned door_facts link_facts old turn new) → new.warden ≡ t.after_desk.warden
  turned_warden old turn new t =
      ap (λ (o : OwnerFacts D L). o.warden) t.ends ∙ ended_warden (is_over t.after_door && is_none t.after_door.kept.coming) t.after_door
      ∙ asked_warden (is_not_to_ask t.after_post) t.after_post t.came t.after_door t.asks
      ∙ posted_warden (is_some t.after_archive.kept.lag) t.after_archive t.posted t.after_post t.posts
      ∙ (shown_stays t.after_press t.published t.after_publish _ t.archived t.after_archive t.publishes t.archives).warden
      ∙ ap (λ (o : OwnerFacts D L). o.warden) t.presses.1 ∙ lag_warden (pressing t.after_desk) t.after_desk

  all_on : (old : OwnerFacts D L) (turns : List Turn) (new : OwnerFacts D L) (all : TurnsTo (OwnerTurned door_facts link_facts) old turns new)
      → LeavesBans old new (ban_events door_facts link_facts old turns new all)
  all_on old [] new all = still old new (ap (λ (o : OwnerFacts D L). o.warden) all)
  all_on old (turn ∷ turns) new all =
      let t = all.1 in
      let events : List Event = events_served (next t.after_offers) t.after_offers t.served t.after_desk t.serves in
      let later : List Event = ban_events door_facts link_facts all.0 turns new all.2 in
      let one : all.0.warden.book.bans ≡ fold after old.warden.book.bans events =
      ap (λ (w : WardenFacts). w.book.bans) (turned_warden old turn all.0 t)
      ∙ served_on (next t.after_offers) t.after_offers t.served t.after_desk t.serves
      ∙ ap (λ (o : OwnerFacts D L). fold after o.warden.book.bans events) t.offers.others in
      all_on all.0 turns new all.2 ∙ ap (λ (bans : List Ban). fold after bans later) one ∙ sym (fold_more old.warden.book.bans events later)

  -- from the opening on
  pub bans_of_turns : (control : ControlFacts) (door : D) (connections : ℕ) (journal : Bool) (queues : List QueueId) (store : Option QueueId) (opened owner : OwnerFacts D L) (turns : List Turn)
      → IsOpened control door connections journal queues store opened → (all : TurnsTo (OwnerTurned door_facts link_facts) opened turns owner)
      → owner.warden.book.bans ≡ bans_of (ban_events door_facts link_facts opened turns owner all)
  bans_of_turns control door connections journal queues store opened owner turns new all =
      all_on opened turns owner all
      ∙ ap (λ (bans : List Ban). fold after bans (ban_events door_facts link_facts opened turns owner all)) (ap (λ (o : OwnerFacts D L). o.warden.book.bans) new)
