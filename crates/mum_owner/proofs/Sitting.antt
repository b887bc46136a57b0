-- The session that is kept for each open connection is that of its last accepted login.
use Rattle.mum_owner.proofs.Common.{◌≡◌, ◌∙◌, ◌⊎◌, ℕ, ◌+◌, ◌<◌, ◌≤◌, Bool, true, false, cond, List, [], ◌∷◌, ◌++◌, append-nil, append_assoc, map, Option, Some, None, refl, ap, sym, subst, inl, inr, arith, ◌==◌, ◌&&◌, filter, find, is_none, length, nat_lt, MatchOption, AllByRecursion, list_any, option_map, option_map_or, eqb-true, ne_eqb, fold-append, QueueId, SessionId, Slot, CONNECTION_LIMIT, deny_code, reason_code, DenyType, Reason, ReplyEnd, Joined, Decided, RejectedEnd, Book, Commanded, Decides, current, ControlFacts, TurnsTo, Turn, DoorFacts, LinkFacts, Accept, DeskItem, ReplyFacts, first_lack, first_standing, unless_refused, Lack, command_of, limits, needs, reasons, actor_for, heard_verdict, Leave, reply_end, verdict, User, Command, StateValue, Verdict, Accepted, Lacks, Refused, Rejected, Answer, Ignored, sent, WardenFacts, verdict_in, Answers, IsGivenOrRefused, ListComesTo, SettledBy, TestedBy, ban_reply, banned_in, book_after, is_banned, list_reply, with_warden, GuestsFacts, KeptFacts, OwnerFacts, IsGiven, roll_of, is_not_of, is_of, joined_by, lag_noted, new_guest, owned, seated, session_of, made, replies_made, IsOpened, LeaveIsGiven, Next, Receives, ReceivesBy, ReceivesItem, Serves, ServesDesk, kept_after, leave_of, may_go, must_wait, next, with_pass, Again, Goes, Rest, Take, HasLastSession, last_session, session_after, session_by, Asks, OwnerTurned, guests_by, is_not_to_ask, is_over, is_leave, is_login, PENDING_LIMIT, Guest}
use Rattle.mum_owner.proofs.{Answering.AnswersNow, Answering.answers_now, Answering.commanded_to, Answering.owned_connection, Lagging.AllWithin, Lagging.rows_joined, Lagging.rows_left, Lagging.rows_noted, Lagging.within_entered, Steps.LagStays, Steps.MakesLag, Steps.MakesNone, Steps.post_stays, Steps.press_stays, Steps.shown_stays}
use Rattle.mum_io.specs.declared.door.Accept.TheVariants as accepted
use Rattle.mum_port.specs.declared.item.DeskItem.TheVariants as items
use Rattle.mum_state.specs.declared.edit.Edit.TheVariants as edits

-- ---- replies that give no session

-- a reply of this end gives no session
abbrev pub GivesNone : ReplyEnd → Type 0
GivesNone end = (before : Option SessionId) → session_by end before ≡ before

abbrev VerdictGivesNone : Verdict → Type 0
VerdictGivesNone decided = GivesNone (reply_end decided)

ignored_gives : (found : Option Reason) (decided : Verdict) → VerdictGivesNone decided → VerdictGivesNone (option_map_or (λ reason. Ignored (reason_code reason)) found decided)
ignored_gives None decided last = last
ignored_gives (Some reason) decided last = λ before. refl

lacking_gives : (found : Option Lack) (decided : Verdict) → VerdictGivesNone decided → VerdictGivesNone (option_map_or (λ lack. Lacks lack.perm lack.channel) found decided)
lacking_gives None decided last = last
lacking_gives (Some lack) decided last = λ before. refl

refused_gives : (found : Option DenyType) (decided : Verdict) → VerdictGivesNone decided → VerdictGivesNone (option_map_or (λ kind. Refused (deny_code kind)) found decided)
refused_gives None decided last = last
refused_gives (Some kind) decided last = λ before. refl

leave_heard : (state : StateValue) (session : Option SessionId) → VerdictGivesNone (heard_verdict state session Leave)
leave_heard state None = λ before. refl
leave_heard state (Some actor) =
    let refusals = limits state actor (command_of actor Leave) in
    lacking_gives (first_lack state (needs state (actor_for state actor Leave) actor (command_of actor Leave)))
    (unless_refused refusals (Accepted (edits.Leave actor)))
    (refused_gives (first_standing refusals) (Accepted (edits.Leave actor)) (λ before. refl))

leave_decided : (state : StateValue) (session : Option SessionId) → VerdictGivesNone (verdict state session (User Leave))
unfolding verdict
leave_decided state None = ignored_gives (first_standing (reasons state None Leave)) (heard_verdict state None Leave) (leave_heard state None)
leave_decided state (Some actor) = ignored_gives (first_standing (reasons state (Some actor) Leave)) (heard_verdict state (Some actor) Leave) (leave_heard state (Some actor))

decides_end : (old : ControlFacts) (connection : ℕ) (session : Option SessionId) (decided : Verdict) (reply : ReplyFacts) (new : ControlFacts)
    → Decides old connection session decided reply new → reply.end ≡ reply_end decided
decides_end old connection session (Accepted edit) reply new accepts = ap (λ (r : ReplyFacts). r.end) accepts.answer
decides_end old connection session (Lacks perm channel) reply new denies = ap (λ (r : ReplyFacts). r.end) denies.1
decides_end old connection session (Refused kind) reply new denies = ap (λ (r : ReplyFacts). r.end) denies.1
decides_end old connection session (Rejected kind) reply new denies = ap (λ (r : ReplyFacts). r.end) denies.1
decides_end old connection session (Answer frame) reply new denies = ap (λ (r : ReplyFacts). r.end) denies.1
decides_end old connection session (Ignored why) reply new denies = ap (λ (r : ReplyFacts). r.end) denies.1

pub leave_gives : (old : ControlFacts) (connection : ℕ) (session : Option SessionId) (reply : ReplyFacts) (new : ControlFacts) → Commanded old (leave_of connection session) reply new → GivesNone reply.end
leave_gives old connection session reply new (inl dropped) = subst (λ (e : ReplyEnd). GivesNone e) (sym (ap (λ (r : ReplyFacts). r.end) dropped.1)) (λ before. refl)
leave_gives old connection session reply new (inr decides) =
    subst (λ (e : ReplyEnd). GivesNone e)
    (sym (decides_end old connection session (verdict (current old) session (User Leave)) reply new decides)) (leave_decided (current old) session)

-- ---- one more reply

one_more : (connection : ℕ) (replies : List ReplyFacts) (reply : ReplyFacts) → last_session connection (replies ++ reply ∷ []) ≡ session_after connection (last_session connection replies) reply
one_more connection replies reply = fold-append (session_after connection) None replies (reply ∷ [])

not_given : (b : Bool) (end : ReplyEnd) (before : Option SessionId) → GivesNone end → cond b (session_by end before) before ≡ before
not_given true end before gives = gives before
not_given false end before gives = refl

none_more : (connection : ℕ) (replies : List ReplyFacts) (reply : ReplyFacts) → GivesNone reply.end → last_session connection (replies ++ reply ∷ []) ≡ last_session connection replies
none_more connection replies reply gives =
    one_more connection replies reply ∙ not_given (connection == reply.connection) reply.end (last_session connection replies) gives

-- ---- what is kept of the connections

-- each has the session of its last accepted login, and nobody logged in over one that was not given
pub record AreSeated (guests : GuestsFacts) (replies : List ReplyFacts) : Type 0 where
  pub sessions : AllByRecursion (HasLastSession replies) guests.rows
  pub within : AllWithin guests.given guests.rows
  pub none : (connection : ℕ) → guests.given < connection → last_session connection replies ≡ None

rows_on : (replies more : List ReplyFacts) (rows : List Guest) → ((connection : ℕ) → last_session connection more ≡ last_session connection replies)
    → AllByRecursion (HasLastSession replies) rows → AllByRecursion (HasLastSession more) rows
rows_on replies more [] same all = tt
rows_on replies more (guest ∷ rows) same all = (all.0 ∙ sym (same guest.connection), rows_on replies more rows same all.1)

replies_on : (guests : GuestsFacts) (replies more : List ReplyFacts) → ((connection : ℕ) → last_session connection more ≡ last_session connection replies)
    → AreSeated guests replies → AreSeated guests more
replies_on guests replies more same are = record {
  sessions = rows_on replies more guests.rows same are.sessions;
  within = are.within;
  none = λ connection past. same connection ∙ are.none connection past;
}

quiet_on : (guests : GuestsFacts) (replies : List ReplyFacts) (reply : ReplyFacts) → GivesNone reply.end → AreSeated guests replies → AreSeated guests (replies ++ reply ∷ [])
quiet_on guests replies reply gives are = replies_on guests replies (replies ++ reply ∷ []) (λ connection. none_more connection replies reply gives) are

-- ---- a login is accepted

seated_row : (b : Bool) (session : SessionId) (slot : Slot) (guest : Guest) (before : Option SessionId) → guest.session ≡ before
    → (cond b (record guest { session = Some session; slot = Some slot }) guest).session ≡ cond b (Some session) before
seated_row true session slot guest before is = refl
seated_row false session slot guest before is = is

same_number : (b : Bool) (session : SessionId) (slot : Slot) (guest : Guest) → (cond b (record guest { session = Some session; slot = Some slot }) guest).connection ≡ guest.connection
same_number true session slot guest = refl
same_number false session slot guest = refl

module _ (connection : ℕ) (session : SessionId) (slot : Slot) (replies : List ReplyFacts) (reply : ReplyFacts) (to : reply.connection ≡ connection) (end : reply.end ≡ Joined session slot) where
  -- what the reply gives to a connection
  joined_more : (other : ℕ) → last_session other (replies ++ reply ∷ []) ≡ cond (other == connection) (Some session) (last_session other replies)
  joined_more other =
      one_more other replies reply ∙ ap (λ (n : ℕ). cond (other == n) (session_by reply.end (last_session other replies)) (last_session other replies)) to
      ∙ ap (λ (e : ReplyEnd). cond (other == connection) (session_by e (last_session other replies)) (last_session other replies)) end

  joined_rows : (rows : List Guest) → AllByRecursion (HasLastSession replies) rows → AllByRecursion (HasLastSession (replies ++ reply ∷ [])) (map (seated connection session slot) rows)
  joined_rows [] all = tt
  joined_rows (guest ∷ rows) all = (
    seated_row (is_of connection guest) session slot guest (last_session guest.connection replies) all.0 ∙ sym (joined_more guest.connection)
        ∙ ap (λ (n : ℕ). last_session n (replies ++ reply ∷ [])) (sym (same_number (is_of connection guest) session slot guest)),
    joined_rows rows all.1,
  )

  past_joined : (given other : ℕ) → connection ≤ given → given < other → last_session other replies ≡ None → last_session other (replies ++ reply ∷ []) ≡ None
  past_joined given other was past none =
      let apart : (other == connection) ≡ false = ne_eqb other connection (λ same. absurd (omega (arith, same, was, past))) in
      joined_more other ∙ ap (λ (b : Bool). cond b (Some session) (last_session other replies)) apart ∙ none

joined_on : (end : ReplyEnd) (connection : ℕ) (guests : GuestsFacts) (replies : List ReplyFacts) (reply : ReplyFacts) → reply.end ≡ end → reply.connection ≡ connection
    → connection ≤ guests.given → AreSeated guests replies → AreSeated (joined_by end connection guests) (replies ++ reply ∷ [])
joined_on (Joined session slot) connection guests replies reply is to was are = record {
  sessions = joined_rows connection session slot replies reply to is guests.rows are.sessions;
  within = (rows_joined (Joined session slot) connection guests).within guests.given are.within;
  none = λ other past. past_joined connection session slot replies reply to is guests.given other was past (are.none other past);
}
joined_on Decided connection guests replies reply is to was are =
    quiet_on guests replies reply (subst (λ (e : ReplyEnd). GivesNone e) (sym is) (λ before. refl)) are
joined_on RejectedEnd connection guests replies reply is to was are =
    quiet_on guests replies reply (subst (λ (e : ReplyEnd). GivesNone e) (sym is) (λ before. refl)) are

-- ---- the connection of a command is one of those that were given

number_within : (found : Option Guest) (login command : Command) (given : ℕ) → ((guest : Guest) → found ≡ Some guest → login.connection ≤ given)
    → option_map (λ guest. record login { session = guest.session }) found ≡ Some command → login.connection ≤ given
number_within None login command given of_it is = cc
number_within (Some guest) login command given of_it is = of_it guest refl

found_first : (b : Bool) (connection given : ℕ) (guest : Guest) (rows : List Guest) (found : Guest) → is_of connection guest ≡ b → guest.connection ≤ given
    → (find (is_of connection) rows ≡ Some found → connection ≤ given) → cond b (Some guest) (find (is_of connection) rows) ≡ Some found → connection ≤ given
found_first true connection given guest rows found here first later is = subst (λ (n : ℕ). n ≤ given) (eqb-true guest.connection connection here) first
found_first false connection given guest rows found here first later is = later is

found_within : (connection given : ℕ) (rows : List Guest) (found : Guest) → AllWithin given rows → find (is_of connection) rows ≡ Some found → connection ≤ given
found_within connection given [] found all is = cc
found_within connection given (guest ∷ rows) found all is =
    found_first (is_of connection guest) connection given guest rows found refl all.0 (λ later. found_within connection given rows found all.1 later) is

owned_within : (rows : List Guest) (command own : Command) (given : ℕ) → AllWithin given rows → owned rows command ≡ Some own → own.connection ≤ given
owned_within rows command own given all is =
    subst (λ (n : ℕ). n ≤ given) (sym (owned_connection (find (is_of command.connection) rows) command own is))
    (number_within (find (is_of command.connection) rows) command own given (λ guest found. found_within command.connection given rows guest all found) is)

-- ---- connections that close, lag and come

kept_row : (b : Bool) (replies : List ReplyFacts) (guest : Guest) (rows : List Guest) → HasLastSession replies guest → AllByRecursion (HasLastSession replies) rows
    → AllByRecursion (HasLastSession replies) (cond b (guest ∷ rows) rows)
kept_row true replies guest rows first all = (first, all)
kept_row false replies guest rows first all = all

rows_without : (gone : ℕ) (replies : List ReplyFacts) (rows : List Guest) → AllByRecursion (HasLastSession replies) rows → AllByRecursion (HasLastSession replies) (filter (is_not_of gone) rows)
rows_without gone replies [] all = tt
rows_without gone replies (guest ∷ rows) all =
    kept_row (is_not_of gone guest) replies guest (filter (is_not_of gone) rows) all.0 (rows_without gone replies rows all.1)

left_on : (b : Bool) (gone : ℕ) (guests : GuestsFacts) (replies : List ReplyFacts) → AreSeated guests replies
    → AreSeated (cond b (record guests { rows = filter (is_not_of gone) guests.rows; closed = guests.closed + 1 }) guests) replies
left_on true gone guests replies are = record {
  sessions = rows_without gone replies guests.rows are.sessions;
  within = (rows_left gone guests.rows).within guests.given are.within;
  none = are.none;
}
left_on false gone guests replies are = are

noted_row : (b : Bool) (replies : List ReplyFacts) (guest : Guest) → HasLastSession replies guest → HasLastSession replies (cond b (record guest { lagged = true }) guest)
noted_row true replies guest has = has
noted_row false replies guest has = has

rows_with_lag : (connection : ℕ) (replies : List ReplyFacts) (rows : List Guest) → AllByRecursion (HasLastSession replies) rows
    → AllByRecursion (HasLastSession replies) (map (lag_noted connection) rows)
rows_with_lag connection replies [] all = tt
rows_with_lag connection replies (guest ∷ rows) all = (noted_row (is_of connection guest) replies guest all.0, rows_with_lag connection replies rows all.1)

-- the rows and the number of those that were given are all that matters
seats_of : (old new : GuestsFacts) (replies : List ReplyFacts) (rows : List Guest) → new.rows ≡ rows → new.given ≡ old.given → AllByRecursion (HasLastSession replies) rows
    → AllWithin old.given rows → AreSeated old replies → AreSeated new replies
seats_of old new replies rows is same sessions within are = record {
  sessions = subst (λ (r : List Guest). AllByRecursion (HasLastSession replies) r) (sym is) sessions;
  within = subst (λ (r : List Guest). AllWithin new.given r) (sym is) (subst (λ (n : ℕ). AllWithin n rows) (sym same) within);
  none = λ connection past. are.none connection (subst (λ (n : ℕ). n < connection) same past);
}

one_row_more : (given : ℕ) (address : List ℕ) (replies : List ReplyFacts) (rows : List Guest) → last_session (given + 1) replies ≡ None → AllByRecursion (HasLastSession replies) rows
    → AllByRecursion (HasLastSession replies) (rows ++ new_guest (given + 1) address ∷ [])
one_row_more given address replies [] none all = (sym none, tt)
one_row_more given address replies (guest ∷ rows) none all = (all.0, one_row_more given address replies rows none all.1)

came_on : {L : Type 0} (link_facts : L → LinkFacts) (answer : Accept L) (guests : GuestsFacts) (replies : List ReplyFacts) → AreSeated guests replies
    → AreSeated (guests_by link_facts answer guests) replies
came_on link_facts (accepted.Conn link) guests replies are = record {
  sessions = one_row_more guests.given (link_facts link).address replies guests.rows (are.none (guests.given + 1) (omega arith)) are.sessions;
  within = within_entered guests.given (link_facts link).address guests.rows are.within;
  none = λ connection past. are.none connection (omega (arith, past));
}
came_on link_facts accepted.NotYet guests replies are = are
came_on link_facts accepted.End guests replies are = are
came_on link_facts accepted.Failed guests replies are = are

made_same : (reply : Option ReplyFacts) → made reply reply ≡ []
made_same None = refl
made_same (Some reply) = refl

module _ {D L : Type 0} where
  -- the connections of an owner are seated by these replies, and then by the one that it keeps
  abbrev SeatsNow : List ReplyFacts → OwnerFacts D L → Type 0
  SeatsNow replies owner = AreSeated owner.guests (replies ++ made None owner.kept.reply)

  seats_as : (replies : List ReplyFacts) (guests : GuestsFacts) (kept : Option ReplyFacts) (new : OwnerFacts D L) → new.guests ≡ guests → new.kept.reply ≡ kept
      → AreSeated guests (replies ++ made None kept) → SeatsNow replies new
  seats_as replies guests kept new is reply are =
      subst (λ (g : GuestsFacts). AreSeated g (replies ++ made None new.kept.reply)) (sym is)
      (subst (λ (r : Option ReplyFacts). AreSeated guests (replies ++ made None r)) (sym reply) are)

  no_reply : (replies : List ReplyFacts) (guests : GuestsFacts) (new : OwnerFacts D L) → new.guests ≡ guests → new.kept.reply ≡ None → AreSeated guests replies → SeatsNow replies new
  no_reply replies guests new is none are = seats_as replies guests None new is none (subst (λ (l : List ReplyFacts). AreSeated guests l) (sym (append-nil replies)) are)

  quiet_reply : (replies : List ReplyFacts) (reply : ReplyFacts) (old new : OwnerFacts D L) → new.guests ≡ old.guests → new.kept.reply ≡ Some reply → GivesNone reply.end
      → AreSeated old.guests replies → SeatsNow replies new
  quiet_reply replies reply old new is kept gives are = seats_as replies old.guests (Some reply) new is kept (quiet_on old.guests replies reply gives are)

  given_seats : (replies : List ReplyFacts) (old : OwnerFacts D L) (command : Command) (new : OwnerFacts D L) → command.connection ≤ old.guests.given → AreSeated old.guests replies
      → IsGiven old command new → SeatsNow replies new
  given_seats replies old command new within are (inl gives) =
      seats_as replies (joined_by gives.reply.end command.connection old.guests) (Some gives.reply) new (ap (λ (o : OwnerFacts D L). o.guests) gives.others)
      (ap (λ (o : OwnerFacts D L). o.kept.reply) gives.others)
      (joined_on gives.reply.end command.connection old.guests replies gives.reply refl (commanded_to old.control command gives.reply new.control gives.commanded) within are)
  given_seats replies old command new within are (inr drops) =
      quiet_reply replies _ old new (ap (λ (o : OwnerFacts D L). o.guests) drops.others) (ap (λ (o : OwnerFacts D L). o.kept.reply) drops.others) (λ before. refl) are

  answered_seats : (replies : List ReplyFacts) (old : OwnerFacts D L) (reply : ReplyFacts) (new : OwnerFacts D L) → GivesNone reply.end → AreSeated old.guests replies → Answers old reply new
      → SeatsNow replies new
  answered_seats replies old reply new gives are (inl is) =
      quiet_reply replies reply old new (ap (λ (o : OwnerFacts D L). o.guests) is) (ap (λ (o : OwnerFacts D L). o.kept.reply) is) gives are
  answered_seats replies old reply new gives are (inr is) =
      quiet_reply replies _ old new (ap (λ (o : OwnerFacts D L). o.guests) is) (ap (λ (o : OwnerFacts D L). o.kept.reply) is) (λ before. refl) are

  tested_seats : (replies : List ReplyFacts) (banned : Bool) (old : OwnerFacts D L) (login : Command) (new : OwnerFacts D L) → login.connection ≤ old.guests.given → AreSeated old.guests replies
      → TestedBy banned old login new → SeatsNow replies new
  tested_seats replies true old login new within are answers = answered_seats replies old (ban_reply (roll_of old) login.connection) new (λ before. refl) are answers
  tested_seats replies false old login new within are given = given_seats replies old login new within are given

  settled_seats : (replies : List ReplyFacts) (login : Bool) (banned : Option SessionId) (old : OwnerFacts D L) (command : Command) (new : OwnerFacts D L) → command.connection ≤ old.guests.given
      → AreSeated old.guests replies → SettledBy login banned old command new → SeatsNow replies new
  settled_seats replies true banned old command new within are tests =
      tested_seats replies (is_banned old command tests.warden.last) (with_warden tests.warden old) command new within are tests.tested
  settled_seats replies false (Some banned) old command new within are (inl lacks) =
      quiet_reply replies _ old new (ap (λ (o : OwnerFacts D L). o.guests) lacks.others) (ap (λ (o : OwnerFacts D L). o.kept.reply) lacks.others) (λ before. refl) are
  settled_seats replies false (Some banned) old command new within are (inr removes) =
      seats_as replies removes.after.guests removes.after.kept.reply new (ap (λ (o : OwnerFacts D L). o.guests) removes.others)
      (ap (λ (o : OwnerFacts D L). o.kept.reply) removes.others)
      (given_seats replies (with_warden removes.warden old) command removes.after within are removes.given)
  settled_seats replies false None old command new within are given = given_seats replies old command new within are given

  list_seats : (replies : List ReplyFacts) (warden : WardenFacts) (old : OwnerFacts D L) (connection : ℕ) (wire : List ℕ) (book : Book) (new : OwnerFacts D L) → AreSeated old.guests replies
      → ListComesTo warden old (list_reply (roll_of old) connection wire) book new → SeatsNow replies new
  list_seats replies warden old connection wire book new are (inl both) =
      quiet_reply replies _ old new (ap (λ (o : OwnerFacts D L). o.guests) both.1) (ap (λ (o : OwnerFacts D L). o.kept.reply) both.1) (λ before. refl) are
  list_seats replies warden old connection wire book new are (inr both) =
      quiet_reply replies _ old new (ap (λ (o : OwnerFacts D L). o.guests) both.1) (ap (λ (o : OwnerFacts D L). o.kept.reply) both.1) (λ before. refl) are

  -- ---- leaves and items

  leave_kept : (replies : List ReplyFacts) (decided : Bool) (reply : ReplyFacts) (old new : OwnerFacts D L) → old.kept.reply ≡ None → new.guests ≡ old.guests
      → new.kept ≡ kept_after decided reply old.kept → GivesNone reply.end → AreSeated old.guests replies → SeatsNow replies new
  leave_kept replies true reply old new none is kept gives are = quiet_reply replies reply old new is (ap (λ (k : KeptFacts L). k.reply) kept) gives are
  leave_kept replies false reply old new none is kept gives are = no_reply replies old.guests new is (ap (λ (k : KeptFacts L). k.reply) kept ∙ none) are

  leave_seats : (replies : List ReplyFacts) (old : OwnerFacts D L) (connection : ℕ) (decided : Bool) (new : OwnerFacts D L) → old.kept.reply ≡ None → AreSeated old.guests replies
      → LeaveIsGiven old connection decided new → SeatsNow replies new
  leave_seats replies old connection decided new none are (inl gives) =
      leave_kept replies decided gives.reply old new none (ap (λ (o : OwnerFacts D L). o.guests) gives.others) (ap (λ (o : OwnerFacts D L). o.kept) gives.others)
      (leave_gives gives.emptied connection (session_of connection old.guests.rows) gives.reply new.control gives.commanded) are
  leave_seats replies old connection decided new none are (inr drops) =
      no_reply replies old.guests new (ap (λ (o : OwnerFacts D L). o.guests) drops.others) (ap (λ (o : OwnerFacts D L). o.kept.reply) drops.others ∙ none) are

  received_seats : (replies : List ReplyFacts) (leave waits : Bool) (old : OwnerFacts D L) (command : Command) (new : OwnerFacts D L) → command.connection ≤ old.guests.given
      → old.kept.reply ≡ None → AreSeated old.guests replies → ReceivesBy leave waits old command new → SeatsNow replies new
  received_seats replies true waits old command new within none are received = leave_seats replies old command.connection received.0 new none are received.1
  received_seats replies false true old command new within none are received =
      no_reply replies old.guests new (ap (λ (o : OwnerFacts D L). o.guests) received) (ap (λ (o : OwnerFacts D L). o.kept.reply) received ∙ none) are
  received_seats replies false false old command new within none are received =
      settled_seats replies (is_login command) (banned_in command) old command new within are received

  same_seats : (replies : List ReplyFacts) (old new : OwnerFacts D L) → old.kept.reply ≡ None → AreSeated old.guests replies → new ≡ old → SeatsNow replies new
  same_seats replies old new none are same =
      no_reply replies old.guests new (ap (λ (o : OwnerFacts D L). o.guests) same) (ap (λ (o : OwnerFacts D L). o.kept.reply) same ∙ none) are

  owned_seats : (replies : List ReplyFacts) (own : Option Command) (old new : OwnerFacts D L) → ((command : Command) → own ≡ Some command → command.connection ≤ old.guests.given)
      → old.kept.reply ≡ None → AreSeated old.guests replies → Receives old own new → SeatsNow replies new
  owned_seats replies None old new within none are same = same_seats replies old new none are same
  owned_seats replies (Some command) old new within none are received =
      received_seats replies (is_leave command.what) (is_login command && must_wait old) old command new (within command refl) none are received

  login_seats : (replies : List ReplyFacts) (own : Option Command) (old new : OwnerFacts D L) → ((command : Command) → own ≡ Some command → command.connection ≤ old.guests.given)
      → old.kept.reply ≡ None → AreSeated old.guests replies → MatchOption own (new ≡ old) (λ command. IsGivenOrRefused old command new) → SeatsNow replies new
  login_seats replies None old new within none are same = same_seats replies old new none are same
  login_seats replies (Some command) old new within none are given =
      settled_seats replies (is_login command) (banned_in command) old command new (within command refl) are given

  item_seats : (replies : List ReplyFacts) (old : OwnerFacts D L) (item : Option DeskItem) (new : OwnerFacts D L) → old.kept.reply ≡ None → AreSeated old.guests replies → ReceivesItem old item new
      → SeatsNow replies new
  item_seats replies old None new none are received = same_seats replies old new none are received
  item_seats replies old (Some (items.Closed connection)) new none are received =
      no_reply replies _ new (ap (λ (o : OwnerFacts D L). o.guests) received) (ap (λ (o : OwnerFacts D L). o.kept.reply) received ∙ none)
      (left_on (list_any (is_of connection) old.guests.rows) connection old.guests replies are)
  item_seats replies old (Some (items.Command command)) new none are received =
      owned_seats replies (owned old.guests.rows command) old new (λ own is. owned_within old.guests.rows command own old.guests.given are.within is) none are received
  item_seats replies old (Some (items.Bans connection session payload)) new none are settles =
      list_seats replies settles.warden old connection (sent session (verdict_in old.warden.book settles.allowed payload))
      (book_after old.warden.book settles.allowed payload settles.warden.last) new are settles.comes_to

  -- ---- the desk

  abbrev SeatsThen : List ReplyFacts → OwnerFacts D L → OwnerFacts D L → Type 0
  SeatsThen replies old new = AreSeated new.guests (replies ++ made old.kept.reply new.kept.reply)

  seats_then : (replies : List ReplyFacts) (old new : OwnerFacts D L) → old.kept.reply ≡ None → SeatsNow replies new → SeatsThen replies old new
  seats_then replies old new none are = subst (λ (r : Option ReplyFacts). AreSeated new.guests (replies ++ made r new.kept.reply)) (sym none) are

  serves_seats : (replies : List ReplyFacts) (next : Next) (old : OwnerFacts D L) (worked : Bool) (new : OwnerFacts D L) → AreSeated old.guests replies → Serves next old worked new
      → AnswersNow next old.kept.reply → SeatsThen replies old new
  serves_seats replies Rest old worked new are rests now =
      subst (λ (o : OwnerFacts D L). SeatsThen replies old o) (sym rests.1)
      (subst (λ (l : List ReplyFacts). AreSeated old.guests l) (sym (ap (λ (l : List ReplyFacts). replies ++ l) (made_same old.kept.reply) ∙ append-nil replies)) are)
  serves_seats replies (Again connection) old worked new are leave none = seats_then replies old new none (leave_seats replies old connection worked new none are leave)
  serves_seats replies Goes old worked new are gives none =
      seats_then replies old new none
      (login_seats replies (owned old.guests.rows gives.login) (record old { logins = gives.rest }) new
      (λ own is. owned_within old.guests.rows gives.login own old.guests.given are.within is) none are gives.given)
  serves_seats replies Take old worked new are takes none =
      seats_then replies old new none (item_seats replies (with_pass takes.pass old) takes.item new none are takes.received)

  desk_seats : (replies : List ReplyFacts) (old : OwnerFacts D L) (worked : Bool) (new : OwnerFacts D L) → AreSeated old.guests replies → ServesDesk old worked new → SeatsThen replies old new
  desk_seats replies old worked new are serves =
      serves_seats replies (next old) old worked new are serves
      (answers_now old.kept.reply old.desk.leave (nat_lt PENDING_LIMIT (length old.control.pending)) (may_go old) (nat_lt (length old.logins) CONNECTION_LIMIT))

  -- ---- the other parts

  lags_seat : (replies : List ReplyFacts) (old new : OwnerFacts D L) → new.guests.given ≡ old.guests.given → AreSeated old.guests replies → MakesLag old new ⊎ MakesNone old new
      → AreSeated new.guests replies
  lags_seat replies old new same are (inl m) =
      seats_of old.guests new.guests replies (map (lag_noted m.item.connection) old.guests.rows) m.rows same (rows_with_lag m.item.connection replies old.guests.rows are.sessions)
      ((rows_noted m.item.connection old.guests.rows).within old.guests.given are.within) are
  lags_seat replies old new same are (inr m) = seats_of old.guests new.guests replies old.guests.rows m.rows same are.sessions are.within are

  lag_seats : (replies : List ReplyFacts) (old new : OwnerFacts D L) → LagStays old new → AreSeated old.guests replies → AreSeated new.guests replies
  lag_seats replies old new stays are = lags_seat replies old new stays.given are stays.lags

  ended_guests : (b : Bool) (owner : OwnerFacts D L) → (cond b (record owner { is_ending = true }) owner).guests ≡ owner.guests
  ended_guests true owner = refl
  ended_guests false owner = refl

module _ {D L : Type 0} (door_facts : D → DoorFacts) (link_facts : L → LinkFacts) where
  asked_seats : (b : Bool) (replies : List ReplyFacts) (old : OwnerFacts D L) (worked : Bool) (new : OwnerFacts D L) → AreSeated old.guests replies → Asks door_facts link_facts b old worked new
      → AreSeated new.guests replies
  asked_seats true replies old worked new are rests = subst (λ (g : GuestsFacts). AreSeated g replies) (sym (ap (λ (o : OwnerFacts D L). o.guests) rests.1)) are
  asked_seats false replies old worked new are asks =
      subst (λ (g : GuestsFacts). AreSeated g replies) (sym (ap (λ (o : OwnerFacts D L). o.guests) asks.others)) (came_on link_facts asks.answer old.guests replies are)

  turned_seats : (replies : List ReplyFacts) (old : OwnerFacts D L) (turn : Turn) (new : OwnerFacts D L) (t : OwnerTurned door_facts link_facts old turn new) → AreSeated old.guests replies
      → AreSeated new.guests (replies ++ made t.after_offers.kept.reply t.after_desk.kept.reply)
  turned_seats replies old turn new t are =
      let more = replies ++ made t.after_offers.kept.reply t.after_desk.kept.reply in
      let offered = subst (λ (g : GuestsFacts). AreSeated g replies) (sym (ap (λ (o : OwnerFacts D L). o.guests) t.offers.others)) are in
      let served = desk_seats replies t.after_offers t.served t.after_desk offered t.serves in
      let pressed = lag_seats more t.after_desk t.after_press (press_stays t.after_desk t.pressed t.after_press t.presses) served in
      let shown = shown_stays t.after_press t.published t.after_publish _ t.archived t.after_archive t.publishes t.archives in
      let archived = subst (λ (g : GuestsFacts). AreSeated g more) (sym shown.guests) pressed in
      let posted = lag_seats more t.after_archive t.after_post (post_stays t.after_archive t.posted t.after_post t.posts) archived in
      let asked = asked_seats (is_not_to_ask t.after_post) more t.after_post t.came t.after_door posted t.asks in
      subst (λ (g : GuestsFacts). AreSeated g more)
      (sym (ap (λ (o : OwnerFacts D L). o.guests) t.ends ∙ ended_guests (is_over t.after_door && is_none t.after_door.kept.coming) t.after_door)) asked

  all_seats : (replies : List ReplyFacts) (old : OwnerFacts D L) (turns : List Turn) (new : OwnerFacts D L) (all : TurnsTo (OwnerTurned door_facts link_facts) old turns new) → AreSeated old.guests replies
      → AreSeated new.guests (replies ++ replies_made door_facts link_facts old turns new all)
  all_seats replies old [] new all are =
      subst (λ (l : List ReplyFacts). AreSeated new.guests l) (sym (append-nil replies))
      (subst (λ (g : GuestsFacts). AreSeated g replies) (sym (ap (λ (o : OwnerFacts D L). o.guests) all)) are)
  all_seats replies old (turn ∷ turns) new all are =
      let t = all.1 in
      let here = made t.after_offers.kept.reply t.after_desk.kept.reply in
      subst (λ (l : List ReplyFacts). AreSeated new.guests l) (append_assoc replies here (replies_made door_facts link_facts all.0 turns new all.2))
      (all_seats (replies ++ here) all.0 turns new all.2 (turned_seats replies old turn all.0 t are))

  -- from the opening on
  pub sessions_kept : (control : ControlFacts) (door : D) (connections : ℕ) (journal : Bool) (queues : List QueueId) (store : Option QueueId) (opened owner : OwnerFacts D L) (turns : List Turn)
      → IsOpened control door connections journal queues store opened → (all : TurnsTo (OwnerTurned door_facts link_facts) opened turns owner)
      → AllByRecursion (HasLastSession (replies_made door_facts link_facts opened turns owner all)) owner.guests.rows
  sessions_kept control door connections journal queues store opened owner turns new all =
      let none : AreSeated (record { rows = []; given = 0; closed = 0; limit = connections }) [] = record { sessions = tt; within = tt; none = λ connection past. refl } in
      let are = all_seats [] opened turns owner all (subst (λ (g : GuestsFacts). AreSeated g []) (sym (ap (λ (o : OwnerFacts D L). o.guests) new)) none) in
      are.sessions
