-- What each part of a turn leaves as it was.
use Rattle.mum_owner.proofs.Common.{◌≡◌, ◌∙◌, ℕ, ◌+◌, ◌⊎◌, Bool, true, false, cond, List, map, Option, Some, None, refl, ap, sym, subst, inl, inr, ◌||◌, ◌==◌, filter, find, is_some, length, nat_lt, MatchBool, MatchOption, list_any, option_and_then, option_map, SessionId, Slot, CONNECTION_LIMIT, ReplyEnd, Joined, Decided, current, ControlFacts, ReplyFacts, next_slot, Posted, DeskItem, Command, StateValue, sent, WardenFacts, verdict_in, Book, GuestsFacts, KeptFacts, OwnerFacts, is_gone_from, is_not_of, is_of, joined_by, lag_for, lag_noted, lagging, may_lag, owned, Answers, IsGivenOrRefused, ListComesTo, SettledBy, SettlesList, TestedBy, ban_reply, banned_in, book_after, is_banned, list_reply, with_warden, IsGiven, replied, roll_of, starved, GivesWaiting, LeaveIsGiven, Next, Receives, ReceivesBy, ReceivesItem, Rests, Serves, ServesDesk, TakesItem, blocker, kept_after, may_go, next, next_by, Again, Goes, Rest, Take, is_login, Archives, ArchivesBy, PostsNotice, PostsOne, Presses, Publishes, is_through, lag_at, pressing, with_lag, PENDING_LIMIT, Guest, Lag}
use Rattle.mum_base.specs.declared.reply.ReplyEnd.TheVariants.{Rejected}
use Rattle.mum_owner.proofs.Lagging.{HasUnlagged, RowsStay, found_lagging, found_unlagged, rows_joined, rows_left, rows_same}
use Rattle.mum_control.specs.declared.posted.Posted.TheVariants as posted
use Rattle.mum_port.specs.declared.item.DeskItem.TheVariants as items

-- ---- the connections

joined_limit : (end : ReplyEnd) (connection : ℕ) (guests : GuestsFacts) → (joined_by end connection guests).limit ≡ guests.limit
joined_limit (Joined session slot) connection guests = refl
joined_limit Decided connection guests = refl
joined_limit Rejected connection guests = refl

pub joined_given : (end : ReplyEnd) (connection : ℕ) (guests : GuestsFacts) → (joined_by end connection guests).given ≡ guests.given
joined_given (Joined session slot) connection guests = refl
joined_given Decided connection guests = refl
joined_given Rejected connection guests = refl

reply_keeps_lag : {L : Type 0} (decided : Bool) (reply : ReplyFacts) (kept : KeptFacts L) → (kept_after decided reply kept).lag ≡ kept.lag
reply_keeps_lag true reply kept = refl
reply_keeps_lag false reply kept = refl

reply_keeps_coming : {L : Type 0} (decided : Bool) (reply : ReplyFacts) (kept : KeptFacts L) → (kept_after decided reply kept).coming ≡ kept.coming
reply_keeps_coming true reply kept = refl
reply_keeps_coming false reply kept = refl

-- ---- lag items

gone_unlagged : (state : StateValue) (slot : Option Slot) (rows : List Guest) (found : Guest) → option_and_then (λ s. find (is_gone_from state s) rows) slot ≡ Some found
    → found.lagged ≡ false → HasUnlagged found.connection rows
gone_unlagged state None rows found so unlagged = cc
gone_unlagged state (Some slot) rows found so unlagged = found_unlagged (is_gone_from state slot) rows found so unlagged

-- a lag item that is made of a connection is its own, and none was made before
of_guest : (lagged : Bool) (session : Option SessionId) (connection : ℕ) (lag : Lag)
    → cond lagged None (option_map (λ s. record { connection = connection; session = s }) session) ≡ Some lag → (lagged ≡ false) × (connection ≡ lag.connection)
of_guest true session connection lag so = cc
of_guest false None connection lag so = cc
of_guest false (Some session) connection lag so = (refl, ap (λ (l : Option Lag). connection_in connection l) so)
  where
    connection_in : ℕ → Option Lag → ℕ
    connection_in other None = other
    connection_in other (Some item) = item.connection

lag_unlagged : (guest : Option Guest) (rows : List Guest) (lag : Lag)
    → ((found : Guest) → guest ≡ Some found → found.lagged ≡ false → HasUnlagged found.connection rows) → option_and_then lag_for guest ≡ Some lag
    → HasUnlagged lag.connection rows
lag_unlagged None rows lag unlagged so = cc
lag_unlagged (Some guest) rows lag unlagged so =
    let own = of_guest guest.lagged guest.session guest.connection lag so in
    subst (λ (n : ℕ). HasUnlagged n rows) own.1 (unlagged guest refl own.0)

found_connection : (found : Option Guest) (session : SessionId) (rows : List Guest) (lag : Lag)
    → ((guest : Guest) → found ≡ Some guest → HasUnlagged guest.connection rows)
    → option_map (λ guest. record { connection = guest.connection; session = session }) found ≡ Some lag → HasUnlagged lag.connection rows
found_connection None session rows lag unlagged so = cc
found_connection (Some guest) session rows lag unlagged so =
    let own = of_guest false (Some session) guest.connection lag so in
    subst (λ (n : ℕ). HasUnlagged n rows) own.1 (unlagged guest refl)

pub none_where : (waiting : Bool) (lag : Option Lag) → (waiting || is_some lag) ≡ false → lag ≡ None
none_where true lag so = cc
none_where false None so = refl
none_where false (Some lag) so = cc

none_kept : (lag : Option Lag) → is_some lag ≡ false → lag ≡ None
none_kept None so = refl
none_kept (Some lag) so = cc

module _ {D L : Type 0} where
  -- ---- the desk

  -- the desk was served
  pub record DeskStays (old new : OwnerFacts D L) : Type 0 where
    pub limit : new.guests.limit ≡ old.guests.limit
    pub asked : new.scribe.is_asked ≡ old.scribe.is_asked
    pub given : new.guests.given ≡ old.guests.given
    pub doorway : new.doorway ≡ old.doorway
    pub bells : new.bells ≡ old.bells
    pub archive : new.archive ≡ old.archive
    pub lag : new.kept.lag ≡ old.kept.lag
    pub coming : new.kept.coming ≡ old.kept.coming
    pub rows : RowsStay old.guests.rows new.guests.rows

  desk_same : (old : OwnerFacts D L) → DeskStays old old
  desk_same old = record { limit = refl; asked = refl; given = refl; doorway = refl; bells = refl; archive = refl; lag = refl; coming = refl; rows = rows_same old.guests.rows }

  desk_as : (old mid new : OwnerFacts D L) → new ≡ mid → DeskStays old mid → DeskStays old new
  desk_as old mid new is stays = subst (λ (o : OwnerFacts D L). DeskStays old o) (sym is) stays

  replied_so : (old : OwnerFacts D L) (reply : ReplyFacts) → DeskStays old (replied reply old)
  replied_so old reply = record {
    limit = refl;
    asked = refl;
    given = refl;
    doorway = refl;
    bells = refl;
    archive = refl;
    lag = refl;
    coming = refl;
    rows = rows_same old.guests.rows;
  }

  starved_so : (old : OwnerFacts D L) (connection : ℕ) → DeskStays old (starved connection old)
  starved_so old connection = record {
    limit = refl;
    asked = refl;
    given = refl;
    doorway = refl;
    bells = refl;
    archive = refl;
    lag = refl;
    coming = refl;
    rows = rows_same old.guests.rows;
  }

  given_so : (old : OwnerFacts D L) (command : Command) (new : OwnerFacts D L) → IsGiven old command new → DeskStays old new
  given_so old command new (inl gives) = desk_as old _ new gives.others (record {
    limit = joined_limit gives.reply.end command.connection old.guests;
    asked = refl;
    given = joined_given gives.reply.end command.connection old.guests;
    doorway = refl;
    bells = refl;
    archive = refl;
    lag = refl;
    coming = refl;
    rows = rows_joined gives.reply.end command.connection old.guests;
  })
  given_so old command new (inr drops) = desk_as old _ new drops.others (starved_so old command.connection)

  -- ---- bans

  -- the warden is of no matter here, before and after
  warden_so : (old new : OwnerFacts D L) (warden : WardenFacts) → DeskStays (with_warden warden old) new → DeskStays old new
  warden_so old new warden stays = record {
    limit = stays.limit;
    asked = stays.asked;
    given = stays.given;
    doorway = stays.doorway;
    bells = stays.bells;
    archive = stays.archive;
    lag = stays.lag;
    coming = stays.coming;
    rows = stays.rows;
  }

  banned_so : (old after : OwnerFacts D L) (warden : WardenFacts) → DeskStays old after → DeskStays old (with_warden warden after)
  banned_so old after warden stays = record {
    limit = stays.limit;
    asked = stays.asked;
    given = stays.given;
    doorway = stays.doorway;
    bells = stays.bells;
    archive = stays.archive;
    lag = stays.lag;
    coming = stays.coming;
    rows = stays.rows;
  }

  answered_so : (old : OwnerFacts D L) (reply : ReplyFacts) (new : OwnerFacts D L) → Answers old reply new → DeskStays old new
  answered_so old reply new (inl is) = desk_as old _ new is (replied_so old reply)
  answered_so old reply new (inr is) = desk_as old _ new is (starved_so old reply.connection)

  tested_so : (banned : Bool) (old : OwnerFacts D L) (login : Command) (new : OwnerFacts D L) → TestedBy banned old login new → DeskStays old new
  tested_so true old login new answers = answered_so old (ban_reply (roll_of old) login.connection) new answers
  tested_so false old login new given = given_so old login new given

  settled_so : (login : Bool) (banned : Option SessionId) (old : OwnerFacts D L) (command : Command) (new : OwnerFacts D L) → SettledBy login banned old command new → DeskStays old new
  settled_so true banned old command new tests =
      warden_so old new tests.warden (tested_so (is_banned old command tests.warden.last) (with_warden tests.warden old) command new tests.tested)
  settled_so false (Some banned) old command new (inl lacks) =
      warden_so old new lacks.warden (desk_as (with_warden lacks.warden old) _ new lacks.others (starved_so (with_warden lacks.warden old) command.connection))
  settled_so false (Some banned) old command new (inr removes) =
      desk_as old _ new removes.others
      (banned_so old removes.after _ (warden_so old removes.after removes.warden (given_so (with_warden removes.warden old) command removes.after removes.given)))
  settled_so false None old command new given = given_so old command new given

  command_so : (old : OwnerFacts D L) (command : Command) (new : OwnerFacts D L) → IsGivenOrRefused old command new → DeskStays old new
  command_so old command new given = settled_so (is_login command) (banned_in command) old command new given

  list_comes_so : (warden : WardenFacts) (old : OwnerFacts D L) (reply : ReplyFacts) (book : Book) (new : OwnerFacts D L) → ListComesTo warden old reply book new → DeskStays old new
  list_comes_so warden old reply book new (inl both) = warden_so old new warden (desk_as (with_warden warden old) _ new both.1 (replied_so (with_warden warden old) reply))
  list_comes_so warden old reply book new (inr both) =
      warden_so old new warden (desk_as (with_warden warden old) _ new both.1 (starved_so (with_warden warden old) reply.connection))

  list_so : (old : OwnerFacts D L) (connection : ℕ) (session : SessionId) (payload : List ℕ) (new : OwnerFacts D L) → SettlesList old connection session payload new → DeskStays old new
  list_so old connection session payload new settles =
      list_comes_so settles.warden old (list_reply (roll_of old) connection (sent session (verdict_in old.warden.book settles.allowed payload)))
      (book_after old.warden.book settles.allowed payload settles.warden.last) new settles.comes_to

  -- ---- leaves and items

  leave_so : (old : OwnerFacts D L) (connection : ℕ) (decided : Bool) (new : OwnerFacts D L) → LeaveIsGiven old connection decided new → DeskStays old new
  leave_so old connection decided new (inl gives) = desk_as old _ new gives.others (record {
    limit = refl;
    asked = refl;
    given = refl;
    doorway = refl;
    bells = refl;
    archive = refl;
    lag = reply_keeps_lag decided gives.reply old.kept;
    coming = reply_keeps_coming decided gives.reply old.kept;
    rows = rows_same old.guests.rows;
  })
  leave_so old connection decided new (inr drops) = desk_as old _ new drops.others (record {
    limit = refl;
    asked = refl;
    given = refl;
    doorway = refl;
    bells = refl;
    archive = refl;
    lag = refl;
    coming = refl;
    rows = rows_same old.guests.rows;
  })

  received_so : (leave waits : Bool) (old : OwnerFacts D L) (command : Command) (new : OwnerFacts D L) → ReceivesBy leave waits old command new → DeskStays old new
  received_so true waits old command new received = leave_so old command.connection received.0 new received.1
  received_so false true old command new received = desk_as old _ new received (record {
    limit = refl;
    asked = refl;
    given = refl;
    doorway = refl;
    bells = refl;
    archive = refl;
    lag = refl;
    coming = refl;
    rows = rows_same old.guests.rows;
  })
  received_so false false old command new received = command_so old command new received

  owned_so : (own : Option Command) (old new : OwnerFacts D L) → Receives old own new → DeskStays old new
  owned_so None old new same = desk_as old old new same (desk_same old)
  owned_so (Some command) old new received = received_so _ _ old command new received

  closed_by : (b : Bool) (connection : ℕ) (old : OwnerFacts D L)
      → DeskStays old (record old { guests = cond b (record old.guests { rows = filter (is_not_of connection) old.guests.rows; closed = old.guests.closed + 1 }) old.guests })
  closed_by true connection old = record {
    limit = refl;
    asked = refl;
    given = refl;
    doorway = refl;
    bells = refl;
    archive = refl;
    lag = refl;
    coming = refl;
    rows = rows_left connection old.guests.rows;
  }
  closed_by false connection old = desk_same old

  item_so : (old : OwnerFacts D L) (item : Option DeskItem) (new : OwnerFacts D L) → ReceivesItem old item new → DeskStays old new
  item_so old None new received = desk_as old old new received (desk_same old)
  item_so old (Some (items.Closed connection)) new received =
      desk_as old _ new received (closed_by (list_any (is_of connection) old.guests.rows) connection old)
  item_so old (Some (items.Command command)) new received = owned_so (owned old.guests.rows command) old new received
  item_so old (Some (items.Bans connection session payload)) new received = list_so old connection session payload new received

  taken_so : (old : OwnerFacts D L) (worked : Bool) (new : OwnerFacts D L) → TakesItem old worked new → DeskStays old new
  taken_so old worked new takes =
      let mid : OwnerFacts D L = record old { desk = record old.desk { pass = takes.pass } } in
      let rest : DeskStays mid new = item_so mid takes.item new takes.received in
      record { limit = rest.limit; asked = rest.asked; given = rest.given; doorway = rest.doorway; bells = rest.bells; archive = rest.archive; lag = rest.lag; coming = rest.coming; rows = rest.rows }

  login_so : (own : Option Command) (old new : OwnerFacts D L) → MatchOption own (new ≡ old) (λ command. IsGivenOrRefused old command new) → DeskStays old new
  login_so None old new same = desk_as old old new same (desk_same old)
  login_so (Some command) old new given = command_so old command new given

  waiting_so : (old : OwnerFacts D L) (worked : Bool) (new : OwnerFacts D L) → GivesWaiting old worked new → DeskStays old new
  waiting_so old worked new gives =
      let rest = login_so (owned old.guests.rows gives.login) (record old { logins = gives.rest }) new gives.given in
      record { limit = rest.limit; asked = rest.asked; given = rest.given; doorway = rest.doorway; bells = rest.bells; archive = rest.archive; lag = rest.lag; coming = rest.coming; rows = rest.rows }

  serves_so : (next : Next) (old : OwnerFacts D L) (worked : Bool) (new : OwnerFacts D L) → Serves next old worked new → DeskStays old new
  serves_so Rest old worked new rests = desk_as old old new rests.1 (desk_same old)
  serves_so (Again connection) old worked new given = leave_so old connection worked new given
  serves_so Goes old worked new gives = waiting_so old worked new gives
  serves_so Take old worked new takes = taken_so old worked new takes

  pub desk_stays : (old : OwnerFacts D L) (worked : Bool) (new : OwnerFacts D L) → ServesDesk old worked new → DeskStays old new
  desk_stays old worked new serves = serves_so (next old) old worked new serves

  -- a reply that is kept stays
  pub reply_stays : (old : OwnerFacts D L) (worked : Bool) (new : OwnerFacts D L) (reply : ReplyFacts) → ServesDesk old worked new → old.kept.reply ≡ Some reply
      → new.kept.reply ≡ Some reply
  reply_stays old worked new reply serves keeps =
      let kept : is_some old.kept.reply ≡ true = ap (λ (r : Option ReplyFacts). is_some r) keeps in
      let rests : Rests old worked new =
      subst (λ (b : Bool). Serves (next_by b old.desk.leave (nat_lt PENDING_LIMIT (length old.control.pending)) (may_go old) (nat_lt (length old.logins) CONNECTION_LIMIT)) old worked new) kept serves in
      ap (λ (o : OwnerFacts D L). o.kept.reply) rests.1 ∙ keeps

  -- ---- lag items

  -- a lag item was made for a connection for which none was made
  pub record MakesLag (old new : OwnerFacts D L) : Type 0 where
    pub item : Lag
    pub none : old.kept.lag ≡ None
    pub some : new.kept.lag ≡ Some item
    pub unlagged : HasUnlagged item.connection old.guests.rows
    pub rows : new.guests.rows ≡ map (lag_noted item.connection) old.guests.rows

  -- no lag item was made
  pub record MakesNone (old new : OwnerFacts D L) : Type 0 where
    pub lag : new.kept.lag ≡ old.kept.lag
    pub rows : new.guests.rows ≡ old.guests.rows

  -- a lag item was made, or none, and what else was done is of the control owner
  pub record LagStays (old new : OwnerFacts D L) : Type 0 where
    pub limit : new.guests.limit ≡ old.guests.limit
    pub asked : new.scribe.is_asked ≡ old.scribe.is_asked
    pub given : new.guests.given ≡ old.guests.given
    pub doorway : new.doorway ≡ old.doorway
    pub bells : new.bells ≡ old.bells
    pub archive : new.archive ≡ old.archive
    pub reply : new.kept.reply ≡ old.kept.reply
    pub coming : new.kept.coming ≡ old.kept.coming
    pub desk : new.desk ≡ old.desk
    pub logins : new.logins ≡ old.logins
    pub lags : MakesLag old new ⊎ MakesNone old new

  lag_same : (old : OwnerFacts D L) → LagStays old old
  lag_same old = record { limit = refl; asked = refl; given = refl; doorway = refl; bells = refl; archive = refl; reply = refl; coming = refl; desk = refl; logins = refl; lags = inr (record { lag = refl; rows = refl }) }

  lag_as : (old mid new : OwnerFacts D L) → new ≡ mid → LagStays old mid → LagStays old new
  lag_as old mid new is stays = subst (λ (o : OwnerFacts D L). LagStays old o) (sym is) stays

  -- a lag item is made where none is kept, of a connection for which none was made
  lag_so : (old : OwnerFacts D L) (lag : Option Lag) → (old.kept.lag ≡ None) → ((item : Lag) → lag ≡ Some item → HasUnlagged item.connection old.guests.rows)
      → LagStays old (with_lag lag old)
  lag_so old None none unlagged = lag_same old
  lag_so old (Some lag) none unlagged = record {
    limit = refl;
    asked = refl;
    given = refl;
    doorway = refl;
    bells = refl;
    archive = refl;
    reply = refl;
    coming = refl;
    desk = refl;
    logins = refl;
    lags = inl (record { item = lag; none = none; some = refl; unlagged = unlagged lag refl; rows = refl });
  }

  presses_so : (b : Bool) (old : OwnerFacts D L) → (b ≡ false → old.kept.lag ≡ None) → LagStays old (with_lag (cond b None (option_and_then lag_for (blocker old))) old)
  presses_so true old none = lag_same old
  presses_so false old none =
      lag_so old (option_and_then lag_for (blocker old)) (none refl) (λ item so.
      lag_unlagged (blocker old) old.guests.rows item (gone_unlagged (current old.control) (next_slot (current old.control)) old.guests.rows) so)

  pub press_stays : (old : OwnerFacts D L) (worked : Bool) (new : OwnerFacts D L) → Presses old worked new → LagStays old new
  press_stays old worked new presses =
      lag_as old (with_lag (pressing old) old) new presses.1
      (presses_so (length old.logins == 0 || is_some old.kept.lag) old (none_where (length old.logins == 0) old.kept.lag))

  -- publishing makes no lag item
  pub record PublishStays (old new : OwnerFacts D L) : Type 0 where
    pub kept : new.kept ≡ old.kept
    pub guests : new.guests ≡ old.guests
    pub asked : new.scribe.is_asked ≡ old.scribe.is_asked
    pub doorway : new.doorway ≡ old.doorway
    pub bells : new.bells ≡ old.bells
    pub desk : new.desk ≡ old.desk
    pub logins : new.logins ≡ old.logins
    pub warden : new.warden ≡ old.warden

  publish_as : (old mid new : OwnerFacts D L) → new ≡ mid → PublishStays old mid → PublishStays old new
  publish_as old mid new is stays = subst (λ (o : OwnerFacts D L). PublishStays old o) (sym is) stays

  publish_same : (old : OwnerFacts D L) → PublishStays old old
  publish_same old = record { kept = refl; guests = refl; asked = refl; doorway = refl; bells = refl; desk = refl; logins = refl; warden = refl }

  pub publish_stays : (old : OwnerFacts D L) (worked : Bool) (new : OwnerFacts D L) → Publishes old worked new → PublishStays old new
  publish_stays old true new publishes =
      publish_as old _ new publishes.1 (record { kept = refl; guests = refl; asked = refl; doorway = refl; bells = refl; desk = refl; logins = refl; warden = refl })
  publish_stays old false new is = publish_as old old new is (publish_same old)

  -- ---- the store

  archives_so : (there noted through : Bool) (old : OwnerFacts D L) (worked : Bool) (new : OwnerFacts D L) → ArchivesBy there noted through old worked new → PublishStays old new
  archives_so false noted through old worked new rests = publish_as old old new rests.1 (publish_same old)
  archives_so true true through old worked new (inl offers) =
      publish_as old _ new offers.others (record { kept = refl; guests = refl; asked = refl; doorway = refl; bells = refl; desk = refl; logins = refl; warden = refl })
  archives_so true true through old worked new (inr lacks) =
      publish_as old _ new lacks.1 (record { kept = refl; guests = refl; asked = refl; doorway = refl; bells = refl; desk = refl; logins = refl; warden = refl })
  archives_so true false true old worked new ends =
      publish_as old _ new ends.others (record { kept = refl; guests = refl; asked = refl; doorway = refl; bells = refl; desk = refl; logins = refl; warden = refl })
  archives_so true false false old worked new rests = publish_as old old new rests.1 (publish_same old)

  -- publishing, and what is done for the store after it
  pub shown_stays : (old : OwnerFacts D L) (published : Bool) (mid : OwnerFacts D L) (noted archived : Bool) (new : OwnerFacts D L) → Publishes old published mid
      → Archives noted mid archived new → PublishStays old new
  shown_stays old published mid noted archived new publishes archives =
      let one = publish_stays old published mid publishes in
      let other = archives_so (is_some mid.archive) noted (is_through mid) mid archived new archives in
      record {
        kept = other.kept ∙ one.kept;
        guests = other.guests ∙ one.guests;
        asked = other.asked ∙ one.asked;
        doorway = other.doorway ∙ one.doorway;
        bells = other.bells ∙ one.bells;
        desk = other.desk ∙ one.desk;
        logins = other.logins ∙ one.logins;
        warden = other.warden ∙ one.warden;
      }

  -- ---- posting

  lagged_so : (answer : Posted) (old : OwnerFacts D L) → old.kept.lag ≡ None → LagStays old (with_lag (lag_at answer old.guests.rows) old)
  lagged_so posted.None old none = lag_same old
  lagged_so (posted.Posted session) old none = lag_same old
  lagged_so (posted.Lagged session) old none =
      lag_so old (lagging session old.guests.rows) none (λ item so.
      found_connection (find (may_lag session) old.guests.rows) session old.guests.rows item (found_lagging session old.guests.rows) so)

  -- the control owner of what was before is of no matter here
  posted_lags : (old new : OwnerFacts D L) (control : ControlFacts) → MakesLag (record old { control = control }) new ⊎ MakesNone (record old { control = control }) new
      → MakesLag old new ⊎ MakesNone old new
  posted_lags old new control (inl m) = inl (record { item = m.item; none = m.none; some = m.some; unlagged = m.unlagged; rows = m.rows })
  posted_lags old new control (inr m) = inr (record { lag = m.lag; rows = m.rows })

  posts_one_so : (old : OwnerFacts D L) (worked : Bool) (new : OwnerFacts D L) → old.kept.lag ≡ None → PostsOne old worked new → LagStays old new
  posts_one_so old worked new none posts =
      let mid : OwnerFacts D L = record old { control = posts.after } in
      let rest : LagStays mid new = lag_as mid (with_lag (lag_at posts.answer old.guests.rows) mid) new posts.others (lagged_so posts.answer mid none) in
      record {
        limit = rest.limit;
        asked = rest.asked;
        given = rest.given;
        doorway = rest.doorway;
        bells = rest.bells;
        archive = rest.archive;
        reply = rest.reply;
        coming = rest.coming;
        desk = rest.desk;
        logins = rest.logins;
        lags = posted_lags old new posts.after rest.lags;
      }

  posts_so : (b : Bool) (old : OwnerFacts D L) (worked : Bool) (new : OwnerFacts D L) → is_some old.kept.lag ≡ b → MatchBool b (Rests old worked new) (PostsOne old worked new) → LagStays old new
  posts_so true old worked new kept rests = lag_as old old new rests.1 (lag_same old)
  posts_so false old worked new kept posts = posts_one_so old worked new (none_kept old.kept.lag kept) posts

  pub post_stays : (old : OwnerFacts D L) (worked : Bool) (new : OwnerFacts D L) → PostsNotice old worked new → LagStays old new
  post_stays old worked new posts = posts_so (is_some old.kept.lag) old worked new refl posts
