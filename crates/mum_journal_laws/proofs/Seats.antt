-- The session that is kept for an open connection is that of its last accepted login, among the decisions.
use Rattle.mum_journal_laws.proofs.Common.{◌≡◌, ◌∙◌, ℕ, ◌+◌, ◌<◌, ◌≤◌, ◌==◌, Bool, true, false, cond, List, [], ◌∷◌, ◌++◌, append-nil, map, Option, Some, None, refl, ap, sym, subst, inl, inr, arith, ◌&&◌, ◌||◌, filter, find, is_none, is_some, length, nat_eq, nat_lt, IfSome, MatchBool, MatchOption, AllByRecursion, list_any, option_and_then, option_map, option_map_or, eq-eqb, eqb-true, ne_eqb, insert_entry, QueueId, with_login, Book, Frame, Actor, deny_code, reason_code, SessionId, Slot, CONNECTION_LIMIT, DenyType, Reason, NotThere, ReplyEnd, Decided, Joined, RejectedEnd, Commanded, Decides, current, ControlFacts, slot_of, EmptiesPost, TurnsTo, Turn, DoorFacts, LinkFacts, Accept, Answers, IsGivenOrRefused, ListComesTo, SettledBy, TestedBy, ban_reply, banned_in, book_after, is_banned, list_reply, with_warden, with_command, GuestsFacts, OwnerFacts, IsGiven, roll_of, is_not_of, is_of, joined_by, lag_noted, left, new_guest, owned, seated, IsOpened, EmptiesFor, LeaveIsGiven, Next, Receives, ReceivesBy, ReceivesItem, Rests, Serves, leave_after, leave_of, may_go, must_wait, next, next_by, with_pass, Again, Goes, Rest, Take, ArchivesBy, Asks, OwnerTurned, PostsOne, Presses, Publishes, guests_by, is_not_to_ask, is_over, is_through, lag_at, makes_note, pressing, with_lag, is_leave, is_login, PENDING_LIMIT, Guest, Lag, DeskItem, appended, state_of, Opening, ReplyFacts, TreeCommand, first_lack, first_standing, unless_refused, actor_named, command_verdict, tree_verdict, TreeMessage, Lack, UserCommand, command_of, limits, needs, reasons, actor_for, heard_verdict, UserMessage, Leave, decisions, edits_after, turns_lead, reply_end, verdict, Asked, Tree, User, Command, granted_where_there, StateValue, policy_of, Edit, Verdict, Accepted, Answer, Ignored, Lacks, Refused, Decision, decided_as, decided_by, decided_command, decided_given, decided_item, decided_leave, decided_owned, decided_receiving, decided_settling, decided_tested, decided_waiting, decisions_of, sent, WardenFacts, verdict_in, AreAnswered, AreForTheirLogins, DecisionsAreForTheirLogins, Logins, logins_after, session_in, with_login_of}
use Rattle.mum_state.specs.declared.verdict.Verdict.TheVariants.{Rejected}
use Rattle.mum_owner.specs.Guests.{session_of}
use Rattle.mum_io.specs.declared.door.Accept.TheVariants as accepted
use Rattle.mum_port.specs.declared.item.DeskItem.TheVariants as items
use Rattle.mum_rules_tree.specs.Asked as tree_asked
use Rattle.mum_rules_tree.specs.Limits as tree_limits
use Rattle.mum_rules_tree.specs.Needs as tree_needs
use Rattle.mum_rules_tree.specs.Outcome as tree_outcome
use Rattle.mum_rules_tree.specs.Reasons as tree_reasons
use Rattle.mum_rules_user.specs.Outcome as user_outcome

-- ---- a leave is no login

-- a reply of this end gives no session
abbrev GivesNone : ReplyEnd → Type 0
GivesNone end = (connection : ℕ) (logins : Logins) → with_login connection end logins ≡ logins

abbrev VerdictGivesNone : Verdict → Type 0
VerdictGivesNone decided = GivesNone (reply_end decided)

ignored_gives : (found : Option Reason) (decided : Verdict) → VerdictGivesNone decided → VerdictGivesNone (option_map_or (λ reason. Ignored (reason_code reason)) found decided)
ignored_gives None decided last = last
ignored_gives (Some reason) decided last = λ connection logins. refl

lacking_gives : (found : Option Lack) (decided : Verdict) → VerdictGivesNone decided → VerdictGivesNone (option_map_or (λ lack. Lacks lack.perm lack.channel) found decided)
lacking_gives None decided last = last
lacking_gives (Some lack) decided last = λ connection logins. refl

refused_gives : (found : Option DenyType) (decided : Verdict) → VerdictGivesNone decided → VerdictGivesNone (option_map_or (λ kind. Refused (deny_code kind)) found decided)
refused_gives None decided last = last
refused_gives (Some kind) decided last = λ connection logins. refl

-- what an actor is answered to a query is no edit
answer_gives : {X : Type 0} (found : Option X) (frame : X → Frame) (why : ℕ) → VerdictGivesNone (option_map_or (λ x. Answer (frame x)) found (Ignored why))
answer_gives None frame why = λ connection logins. refl
answer_gives (Some x) frame why = λ connection logins. refl

tree_outcome_gives : (state : StateValue) (actor : SessionId) (command : TreeCommand) → VerdictGivesNone (tree_outcome.outcome state actor command)
tree_outcome_gives state actor (TreeCommand.make message) = λ connection logins. refl
tree_outcome_gives state actor (TreeCommand.edit id message) = λ connection logins. refl
tree_outcome_gives state actor (TreeCommand.remove id) = λ connection logins. refl
tree_outcome_gives state actor (TreeCommand.query id) = answer_gives (policy_of state id) (λ policy. tree_outcome.answer_frame id policy) (reason_code NotThere)
tree_outcome_gives state actor (TreeCommand.set id message) = λ connection logins. refl

user_outcome_gives : (state : StateValue) (who : Actor) (actor : SessionId) (command : UserCommand) → VerdictGivesNone (user_outcome.outcome state who actor command)
user_outcome_gives state who actor (UserCommand.renew message) = λ connection logins. refl
user_outcome_gives state who actor (UserCommand.change session message) = λ connection logins. refl
user_outcome_gives state who actor (UserCommand.kick session message) = λ connection logins. refl
user_outcome_gives state who actor (UserCommand.text message) = λ connection logins. refl
user_outcome_gives state who actor (UserCommand.target message) = λ connection logins. refl
user_outcome_gives state who actor (UserCommand.query id) =
    answer_gives (granted_where_there state who id) (λ held. user_outcome.answer_frame id held) (reason_code NotThere)
user_outcome_gives state who actor UserCommand.leave = λ connection logins. refl

tree_gives : (state : StateValue) (actor : SessionId) (message : TreeMessage) → VerdictGivesNone (tree_verdict state actor message)
tree_gives state actor message =
    let command = tree_asked.command_of message in
    let refusals = tree_limits.limits state command in
    ignored_gives (first_standing (tree_reasons.reasons state actor message)) (command_verdict state (actor_named state actor) actor command)
    (lacking_gives (first_lack state (tree_needs.needs state.tree (actor_named state actor) command)) (unless_refused refusals (tree_outcome.outcome state actor command))
    (refused_gives (first_standing refusals) (tree_outcome.outcome state actor command) (tree_outcome_gives state actor command)))

user_heard : (state : StateValue) (actor : SessionId) (message : UserMessage) → VerdictGivesNone (heard_verdict state (Some actor) message)
user_heard state actor message =
    let who = actor_for state actor message in
    let command = command_of actor message in
    let refusals = limits state actor command in
    lacking_gives (first_lack state (needs state who actor command)) (unless_refused refusals (user_outcome.outcome state who actor command))
    (refused_gives (first_standing refusals) (user_outcome.outcome state who actor command) (user_outcome_gives state who actor command))

-- whoever has a session logs in no more
pub actor_gives : (state : StateValue) (actor : SessionId) (what : Asked) → VerdictGivesNone (verdict state (Some actor) what)
unfolding verdict
actor_gives state actor (Tree message) = tree_gives state actor message
actor_gives state actor (User message) =
    ignored_gives (first_standing (reasons state (Some actor) message)) (heard_verdict state (Some actor) message) (user_heard state actor message)

leave_gives : (state : StateValue) (session : Option SessionId) → VerdictGivesNone (verdict state session (User Leave))
unfolding verdict
leave_gives state None = ignored_gives (first_standing (reasons state None Leave)) (heard_verdict state None Leave) (λ connection logins. refl)
leave_gives state (Some actor) = actor_gives state actor (User Leave)

decides_end : (old : ControlFacts) (connection : ℕ) (session : Option SessionId) (decided : Verdict) (reply : ReplyFacts) (new : ControlFacts)
    → Decides old connection session decided reply new → reply.end ≡ reply_end decided
decides_end old connection session (Accepted edit) reply new accepts = ap (λ (r : ReplyFacts). r.end) accepts.answer
decides_end old connection session (Lacks perm channel) reply new denies = ap (λ (r : ReplyFacts). r.end) denies.1
decides_end old connection session (Refused kind) reply new denies = ap (λ (r : ReplyFacts). r.end) denies.1
decides_end old connection session (Rejected kind) reply new denies = ap (λ (r : ReplyFacts). r.end) denies.1
decides_end old connection session (Answer frame) reply new denies = ap (λ (r : ReplyFacts). r.end) denies.1
decides_end old connection session (Ignored why) reply new denies = ap (λ (r : ReplyFacts). r.end) denies.1

-- ---- logins

-- of two entries the first is found
first_same : (b : Bool) (given kept : SessionId) (x : Option SessionId) → cond b (Some given) x ≡ cond b (Some given) (cond b (Some kept) x)
first_same true given kept x = refl
first_same false given kept x = refl

first_apart : (a b : Bool) (given kept : SessionId) (x : Option SessionId) → (a ≡ true → b ≡ false) → cond a (Some kept) (cond b (Some given) x) ≡ cond b (Some given) (cond a (Some kept) x)
first_apart true b given kept x apart = ap (λ (c : Bool). cond c (Some given) (Some kept)) (sym (apart refl))
first_apart false b given kept x apart = refl

not_both : (one other third : ℕ) → (other == third) ≡ false → (one == third) ≡ true → (one == other) ≡ false
not_both one other third apart same = ne_eqb one other (λ also. false_true (sym apart ∙ eq-eqb other third (sym also ∙ eqb-true one third same)))
  where
    false_true : false ≡ true → ⊥
    false_true e = cc

-- after one more login: its connection has its session, and each other has what it had
pub login_found : (logins : Logins) (connection : ℕ) (session : SessionId) (other : ℕ)
    → session_in (insert_entry nat_eq logins connection session) other ≡ cond (other == connection) (Some session) (session_in logins other)
login_found [] connection session other = refl
login_found (entry ∷ logins) connection session other = by_test (connection == entry.0) refl (login_found logins connection session other)
  where
    by_test : (b : Bool) → (connection == entry.0) ≡ b
        → session_in (insert_entry nat_eq logins connection session) other ≡ cond (other == connection) (Some session) (session_in logins other)
        → session_in (cond b ((entry.0, session) ∷ logins) (entry ∷ insert_entry nat_eq logins connection session)) other ≡ cond (other == connection) (Some session) (session_in (entry ∷ logins) other)
    by_test true is rest =
        first_same (other == entry.0) session entry.1 (session_in logins other)
        ∙ ap (λ (n : ℕ). cond (other == n) (Some session) (session_in (entry ∷ logins) other)) (sym (eqb-true connection entry.0 is))
    by_test false is rest =
        ap (λ (x : Option SessionId). cond (other == entry.0) (Some entry.1) x) rest
        ∙ first_apart (other == entry.0) (other == connection) session entry.1 (session_in logins other) (λ same. not_both other connection entry.0 is same)

-- ---- what is kept of the connections

-- each is of a connection up to this one
abbrev pub AllWithin : ℕ → List Guest → Type 0
AllWithin last rows = AllByRecursion (λ guest. guest.connection ≤ last) rows

-- a connection that is open
abbrev pub is_open : ℕ → List Guest → Bool
is_open connection rows = list_any (is_of connection) rows

abbrev pub HasLogin : Logins → Guest → Type 0
HasLogin logins guest = guest.session ≡ session_in logins guest.connection

-- each open connection has the session of its last accepted login, nobody logged in over one that was not given, and a leave
-- that is to be tried again is of an open connection
pub record Seats (logins : Logins) (guests : GuestsFacts) (leave : Option ℕ) : Type 0 where
  pub sessions : AllByRecursion (HasLogin logins) guests.rows
  pub within : AllWithin guests.given guests.rows
  pub none : (connection : ℕ) → guests.given < connection → session_in logins connection ≡ None
  pub leaving : IfSome leave (λ connection. is_open connection guests.rows ≡ true)

-- the same of another owner with these guests, and a leave that is to be tried again, or none
seats_as : (logins : Logins) (guests other : GuestsFacts) (leave now : Option ℕ) → other ≡ guests → now ≡ leave → Seats logins guests leave → Seats logins other now
seats_as logins guests other leave now same is seats =
    subst (λ (g : GuestsFacts). Seats logins g now) (sym same) (subst (λ (l : Option ℕ). Seats logins guests l) (sym is) seats)

with_leave : (logins : Logins) (guests : GuestsFacts) (leave now : Option ℕ) → IfSome now (λ connection. is_open connection guests.rows ≡ true) → Seats logins guests leave → Seats logins guests now
with_leave logins guests leave now open_still seats = record { sessions = seats.sessions; within = seats.within; none = seats.none; leaving = open_still }

-- ---- numbers of connections

within_mapped : (change : Guest → Guest) → ((guest : Guest) → (change guest).connection ≡ guest.connection) → (last : ℕ) (rows : List Guest) → AllWithin last rows → AllWithin last (map change rows)
within_mapped change number last [] all = tt
within_mapped change number last (guest ∷ rows) all = (subst (λ (n : ℕ). n ≤ last) (sym (number guest)) all.0, within_mapped change number last rows all.1)

within_left : (gone last : ℕ) (rows : List Guest) → AllWithin last rows → AllWithin last (filter (is_not_of gone) rows)
within_left gone last [] all = tt
within_left gone last (guest ∷ rows) all = by_test (is_not_of gone guest) (within_left gone last rows all.1)
  where
    by_test : (b : Bool) → AllWithin last (filter (is_not_of gone) rows) → AllWithin last (cond b (guest ∷ filter (is_not_of gone) rows) (filter (is_not_of gone) rows))
    by_test true rest = (all.0, rest)
    by_test false rest = rest

within_entered : (given : ℕ) (address : List ℕ) (rows : List Guest) → AllWithin given rows → AllWithin (given + 1) (rows ++ new_guest (given + 1) address ∷ [])
within_entered given address [] all = (omega arith, tt)
within_entered given address (guest ∷ rows) all = (omega (arith, all.0), within_entered given address rows all.1)

-- ---- a connection that is found

found_session : (logins : Logins) (connection : ℕ) (rows : List Guest) (guest : Guest) → AllByRecursion (HasLogin logins) rows → find (is_of connection) rows ≡ Some guest
    → (guest.session ≡ session_in logins connection) × (is_open connection rows ≡ true)
found_session logins connection [] guest all found = absurd (cc)
found_session logins connection (first ∷ rows) guest all found = by_test (is_of connection first) refl found (λ later. found_session logins connection rows guest all.1 later)
  where
    by_test : (b : Bool) → is_of connection first ≡ b → cond b (Some first) (find (is_of connection) rows) ≡ Some guest
        → (find (is_of connection) rows ≡ Some guest → (guest.session ≡ session_in logins connection) × (is_open connection rows ≡ true))
        → (guest.session ≡ session_in logins connection) × ((b || list_any (is_of connection) rows) ≡ true)
    by_test true is found rest =
        let same : first ≡ guest = cc in
        (ap (λ (g : Guest). g.session) (sym same) ∙ all.0 ∙ ap (session_in logins) (eqb-true first.connection connection is), refl)
    by_test false is found rest = rest found

-- the session that is kept for an open connection
kept_session : (logins : Logins) (connection : ℕ) (rows : List Guest) → AllByRecursion (HasLogin logins) rows → is_open connection rows ≡ true → session_of connection rows ≡ session_in logins connection
kept_session logins connection [] all there = absurd (cc)
kept_session logins connection (guest ∷ rows) all there = by_test (is_of connection guest) refl there (λ later. kept_session logins connection rows all.1 later)
  where
    by_test : (b : Bool) → is_of connection guest ≡ b → (b || list_any (is_of connection) rows) ≡ true
        → (is_open connection rows ≡ true → session_of connection rows ≡ session_in logins connection)
        → option_and_then (λ (g : Guest). g.session) (cond b (Some guest) (find (is_of connection) rows)) ≡ session_in logins connection
    by_test true is there rest = all.0 ∙ ap (session_in logins) (eqb-true guest.connection connection is)
    by_test false is there rest = rest there

open_within : (connection given : ℕ) (rows : List Guest) → AllWithin given rows → is_open connection rows ≡ true → connection ≤ given
open_within connection given [] all there = absurd (cc)
open_within connection given (guest ∷ rows) all there = by_test (is_of connection guest) refl there (λ later. open_within connection given rows all.1 later)
  where
    by_test : (b : Bool) → is_of connection guest ≡ b → (b || list_any (is_of connection) rows) ≡ true → (is_open connection rows ≡ true → connection ≤ given) → connection ≤ given
    by_test true is there rest = omega (arith, eqb-true guest.connection connection is, all.0)
    by_test false is there rest = rest there

-- the command for the session that is kept for its connection
pub record IsOwned (logins : Logins) (rows : List Guest) (command : Command) : Type 0 where
  pub session : command.session ≡ session_in logins command.connection
  pub there : is_open command.connection rows ≡ true

owned_by : (logins : Logins) (rows : List Guest) (found : Option Guest) (login command : Command) → AllByRecursion (HasLogin logins) rows → find (is_of login.connection) rows ≡ found
    → option_map (λ (guest : Guest). record login { session = guest.session }) found ≡ Some command → IsOwned logins rows command
owned_by logins rows None login command all found is = absurd (cc)
owned_by logins rows (Some guest) login command all found is =
    let same : record login { session = guest.session } ≡ command = cc in
    let both = found_session logins login.connection rows guest all found in
    subst (λ (c : Command). IsOwned logins rows c) same (record { session = both.0; there = both.1 })

pub owned_so : (logins : Logins) (rows : List Guest) (login command : Command) → AllByRecursion (HasLogin logins) rows → owned rows login ≡ Some command → IsOwned logins rows command
owned_so logins rows login command all is = owned_by logins rows (find (is_of login.connection) rows) login command all refl is

-- ---- connections that log in, close, lag and come

seated_row : (b : Bool) (session : SessionId) (slot : Slot) (guest : Guest) (before : Option SessionId) → guest.session ≡ before
    → (cond b (record guest { session = Some session; slot = Some slot }) guest).session ≡ cond b (Some session) before
seated_row true session slot guest before is = refl
seated_row false session slot guest before is = is

same_number : (b : Bool) (session : SessionId) (slot : Slot) (guest : Guest) → (cond b (record guest { session = Some session; slot = Some slot }) guest).connection ≡ guest.connection
same_number true session slot guest = refl
same_number false session slot guest = refl

joined_rows : (connection : ℕ) (session : SessionId) (slot : Slot) (logins : Logins) (rows : List Guest) → AllByRecursion (HasLogin logins) rows
    → AllByRecursion (HasLogin (insert_entry nat_eq logins connection session)) (map (seated connection session slot) rows)
joined_rows connection session slot logins [] all = tt
joined_rows connection session slot logins (guest ∷ rows) all = (
  seated_row (is_of connection guest) session slot guest (session_in logins guest.connection) all.0
      ∙ sym (login_found logins connection session guest.connection)
      ∙ ap (λ (n : ℕ). session_in (insert_entry nat_eq logins connection session) n) (sym (same_number (is_of connection guest) session slot guest)),
  joined_rows connection session slot logins rows all.1,
)

open_seated : (other connection : ℕ) (session : SessionId) (slot : Slot) (rows : List Guest) → is_open other (map (seated connection session slot) rows) ≡ is_open other rows
open_seated other connection session slot [] = refl
open_seated other connection session slot (guest ∷ rows) =
    ap (λ (n : ℕ). (n == other) || is_open other (map (seated connection session slot) rows)) (same_number (is_of connection guest) session slot guest)
    ∙ ap (λ (b : Bool). is_of other guest || b) (open_seated other connection session slot rows)

leave_moved : (leave : Option ℕ) (rows more : List Guest) → ((connection : ℕ) → is_open connection more ≡ is_open connection rows) → IfSome leave (λ connection. is_open connection rows ≡ true)
    → IfSome leave (λ connection. is_open connection more ≡ true)
leave_moved None rows more same leaving = tt
leave_moved (Some connection) rows more same leaving = same connection ∙ leaving

past_joined : (logins : Logins) (connection : ℕ) (session : SessionId) (given other : ℕ) → connection ≤ given → given < other → session_in logins other ≡ None
    → session_in (insert_entry nat_eq logins connection session) other ≡ None
past_joined logins connection session given other was past none =
    login_found logins connection session other
    ∙ ap (λ (b : Bool). cond b (Some session) (session_in logins other)) (ne_eqb other connection (λ same. omega (arith, same, was, past))) ∙ none

joined_seats : (end : ReplyEnd) (connection : ℕ) (logins : Logins) (guests : GuestsFacts) (leave : Option ℕ) → is_open connection guests.rows ≡ true → Seats logins guests leave
    → Seats (with_login connection end logins) (joined_by end connection guests) leave
joined_seats (Joined session slot) connection logins guests leave there seats = record {
  sessions = joined_rows connection session slot logins guests.rows seats.sessions;
  within = within_mapped (seated connection session slot) (λ guest. same_number (is_of connection guest) session slot guest) guests.given guests.rows seats.within;
  none = λ other past. past_joined logins connection session guests.given other (open_within connection guests.given guests.rows seats.within there) past (seats.none other past);
  leaving = leave_moved leave guests.rows (map (seated connection session slot) guests.rows) (λ other. open_seated other connection session slot guests.rows) seats.leaving;
}
joined_seats Decided connection logins guests leave there seats = seats
joined_seats RejectedEnd connection logins guests leave there seats = seats

kept_row : (b : Bool) (logins : Logins) (guest : Guest) (rows : List Guest) → HasLogin logins guest → AllByRecursion (HasLogin logins) rows → AllByRecursion (HasLogin logins) (cond b (guest ∷ rows) rows)
kept_row true logins guest rows first all = (first, all)
kept_row false logins guest rows first all = all

rows_without : (gone : ℕ) (logins : Logins) (rows : List Guest) → AllByRecursion (HasLogin logins) rows → AllByRecursion (HasLogin logins) (filter (is_not_of gone) rows)
rows_without gone logins [] all = tt
rows_without gone logins (guest ∷ rows) all = kept_row (is_not_of gone guest) logins guest (filter (is_not_of gone) rows) all.0 (rows_without gone logins rows all.1)

left_seats : (b : Bool) (gone : ℕ) (logins : Logins) (guests : GuestsFacts) → Seats logins guests None
    → Seats logins (cond b (record guests { rows = filter (is_not_of gone) guests.rows; closed = guests.closed + 1 }) guests) None
left_seats true gone logins guests seats = record {
  sessions = rows_without gone logins guests.rows seats.sessions;
  within = within_left gone guests.given guests.rows seats.within;
  none = seats.none;
  leaving = tt;
}
left_seats false gone logins guests seats = seats

noted_row : (b : Bool) (logins : Logins) (guest : Guest) → HasLogin logins guest → HasLogin logins (cond b (record guest { lagged = true }) guest)
noted_row true logins guest has = has
noted_row false logins guest has = has

rows_with_lag : (connection : ℕ) (logins : Logins) (rows : List Guest) → AllByRecursion (HasLogin logins) rows → AllByRecursion (HasLogin logins) (map (lag_noted connection) rows)
rows_with_lag connection logins [] all = tt
rows_with_lag connection logins (guest ∷ rows) all = (noted_row (is_of connection guest) logins guest all.0, rows_with_lag connection logins rows all.1)

noted_number : (b : Bool) (guest : Guest) → (cond b (record guest { lagged = true }) guest).connection ≡ guest.connection
noted_number true guest = refl
noted_number false guest = refl

open_noted : (other connection : ℕ) (rows : List Guest) → is_open other (map (lag_noted connection) rows) ≡ is_open other rows
open_noted other connection [] = refl
open_noted other connection (guest ∷ rows) =
    ap (λ (n : ℕ). (n == other) || is_open other (map (lag_noted connection) rows)) (noted_number (is_of connection guest) guest)
    ∙ ap (λ (b : Bool). is_of other guest || b) (open_noted other connection rows)

one_row_more : (given : ℕ) (address : List ℕ) (logins : Logins) (rows : List Guest) → session_in logins (given + 1) ≡ None → AllByRecursion (HasLogin logins) rows
    → AllByRecursion (HasLogin logins) (rows ++ new_guest (given + 1) address ∷ [])
one_row_more given address logins [] none all = (sym none, tt)
one_row_more given address logins (guest ∷ rows) none all = (all.0, one_row_more given address logins rows none all.1)

open_more : (connection : ℕ) (rows : List Guest) (guest : Guest) → is_open connection rows ≡ true → is_open connection (rows ++ guest ∷ []) ≡ true
open_more connection [] guest there = absurd (cc)
open_more connection (first ∷ rows) guest there = by_test (is_of connection first) there (λ later. open_more connection rows guest later)
  where
    by_test : (b : Bool) → (b || list_any (is_of connection) rows) ≡ true → (is_open connection rows ≡ true → is_open connection (rows ++ guest ∷ []) ≡ true) → (b || list_any (is_of connection) (rows ++ guest ∷ [])) ≡ true
    by_test true there rest = refl
    by_test false there rest = rest there

leave_more : (leave : Option ℕ) (rows : List Guest) (guest : Guest) → IfSome leave (λ connection. is_open connection rows ≡ true) → IfSome leave (λ connection. is_open connection (rows ++ guest ∷ []) ≡ true)
leave_more None rows guest leaving = tt
leave_more (Some connection) rows guest leaving = open_more connection rows guest leaving

came_seats : {L : Type 0} (link_facts : L → LinkFacts) (answer : Accept L) (logins : Logins) (guests : GuestsFacts) (leave : Option ℕ) → Seats logins guests leave
    → Seats logins (guests_by link_facts answer guests) leave
came_seats link_facts (accepted.Conn link) logins guests leave seats = record {
  sessions = one_row_more guests.given (link_facts link).address logins guests.rows (seats.none (guests.given + 1) (omega arith)) seats.sessions;
  within = within_entered guests.given (link_facts link).address guests.rows seats.within;
  none = λ connection past. seats.none connection (omega (arith, past));
  leaving = leave_more leave guests.rows (new_guest (guests.given + 1) (link_facts link).address) seats.leaving;
}
came_seats link_facts accepted.NotYet logins guests leave seats = seats
came_seats link_facts accepted.End logins guests leave seats = seats
came_seats link_facts accepted.Failed logins guests leave seats = seats

-- ---- what is done next

again_leave : (reply : Bool) (leave : Option ℕ) (many goes room : Bool) (connection : ℕ) → next_by reply leave many goes room ≡ Again connection → leave ≡ Some connection
again_leave true leave many goes room connection is = absurd (cc)
again_leave false (Some kept) many goes room connection is =
    let same : kept ≡ connection = cc in
    ap (λ (n : ℕ). Some n) same
again_leave false None true goes room connection is = absurd (cc)
again_leave false None false true room connection is = absurd (cc)
again_leave false None false false true connection is = absurd (cc)
again_leave false None false false false connection is = absurd (cc)

take_leave : (reply : Bool) (leave : Option ℕ) (many goes room : Bool) → next_by reply leave many goes room ≡ Take → leave ≡ None
take_leave true leave many goes room is = absurd (cc)
take_leave false (Some kept) many goes room is = absurd (cc)
take_leave false None many goes room is = refl

-- ---- an owner

for_join : (opening : Opening) (edits : List Edit) (logins : Logins) (first later : List Decision) → AreForTheirLogins opening edits logins first
    → AreForTheirLogins opening (edits_after opening edits first) (logins_after opening edits logins first) later → AreForTheirLogins opening edits logins (first ++ later)
for_join opening edits logins [] later one other = other
for_join opening edits logins (decision ∷ first) later one other =
    (one.0, for_join opening (with_command opening edits decision.command) (with_login_of opening edits decision.command logins) first later one.1 other)

ends_join : (opening : Opening) (edits : List Edit) (first later : List Decision) → AreAnswered opening edits first → AreAnswered opening (edits_after opening edits first) later
    → AreAnswered opening edits (first ++ later)
ends_join opening edits [] later one other = other
ends_join opening edits (decision ∷ first) later one other = (one.0, ends_join opening (with_command opening edits decision.command) first later one.1 other)

-- emptying a box changes no state
posts_emptied : (old : ControlFacts) (slot : Option Slot) (after : ControlFacts) → EmptiesPost old slot after → current after ≡ current old
posts_emptied old None after same = ap current same
posts_emptied old (Some slot) after empties = ap current empties.1

box_emptied : (old : ControlFacts) (session : Option SessionId) (after : ControlFacts) → EmptiesFor old session after → current after ≡ current old
box_emptied old None after same = ap current same
box_emptied old (Some session) after empties = posts_emptied old (slot_of (current old) session) after empties

leave_open : (was : Bool) (connection : ℕ) (rows : List Guest) → is_open connection rows ≡ true → IfSome (leave_after was connection) (λ other. is_open other rows ≡ true)
leave_open true connection rows there = tt
leave_open false connection rows there = there

leaving_at : (leave : Option ℕ) (connection : ℕ) (rows : List Guest) → leave ≡ Some connection → IfSome leave (λ other. is_open other rows ≡ true) → is_open connection rows ≡ true
leaving_at leave connection rows is leaving = subst (λ (l : Option ℕ). IfSome l (λ other. is_open other rows ≡ true)) is leaving

module _ {D L : Type 0} where
  abbrev SeatedAs : Logins → OwnerFacts D L → Type 0
  SeatedAs logins owner = Seats logins owner.guests owner.desk.leave

  -- these decisions are for their logins, and the sessions that are kept after them are those of the logins
  record Follows (logins : Logins) (old : ControlFacts) (made : List Decision) (new : OwnerFacts D L) : Type 0 where
    own : AreForTheirLogins old.publisher.opening (appended old.publisher) logins made
    ends : AreAnswered old.publisher.opening (appended old.publisher) made
    seats : SeatedAs (logins_after old.publisher.opening (appended old.publisher) logins made) new

  -- no command is decided, and the same is kept of connections
  quiet : (logins : Logins) (old new : OwnerFacts D L) → SeatedAs logins old → new.guests ≡ old.guests → new.desk.leave ≡ old.desk.leave → Follows logins old.control [] new
  quiet logins old new seats guests leave = record { own = tt; ends = tt; seats = seats_as logins old.guests new.guests old.desk.leave new.desk.leave guests leave seats }

  same_follows : (logins : Logins) (old new : OwnerFacts D L) → SeatedAs logins old → new ≡ old → Follows logins old.control [] new
  same_follows logins old new seats same = quiet logins old new seats (ap (λ (o : OwnerFacts D L). o.guests) same) (ap (λ (o : OwnerFacts D L). o.desk.leave) same)

  -- ---- a command

  commanded_follows : (logins : Logins) (old : OwnerFacts D L) (command : Command) (reply : ReplyFacts) (new : OwnerFacts D L) → IsOwned logins old.guests.rows command → SeatedAs logins old
      → new.guests ≡ joined_by reply.end command.connection old.guests → new.desk.leave ≡ old.desk.leave → (given : Commanded old.control command reply new.control)
      → Follows logins old.control (decided_by old.control command reply new.control given) new
  commanded_follows logins old command reply new owned seats guests leave (inl dropped) =
      quiet logins old new seats (guests ∙ ap (λ (r : ReplyFacts). joined_by r.end command.connection old.guests) dropped.1) leave
  commanded_follows logins old command reply new owned seats guests leave (inr decides) =
      let decided = verdict (current old.control) command.session command.what in
      let ends : reply.end ≡ reply_end decided = decides_end old.control command.connection command.session decided reply new.control decides in record {
        own = (owned.session, tt);
        ends = (ends, tt);
        seats =
            seats_as (with_login command.connection (reply_end decided) logins) (joined_by (reply_end decided) command.connection old.guests) new.guests old.desk.leave new.desk.leave
            (guests ∙ ap (λ (e : ReplyEnd). joined_by e command.connection old.guests) ends) leave
            (joined_seats (reply_end decided) command.connection logins old.guests old.desk.leave owned.there seats);
      }

  given_follows : (logins : Logins) (old : OwnerFacts D L) (command : Command) (new : OwnerFacts D L) → IsOwned logins old.guests.rows command → SeatedAs logins old → (given : IsGiven old command new)
      → Follows logins old.control (decided_given old command new given) new
  given_follows logins old command new owned seats (inl gives) =
      commanded_follows logins old command gives.reply new owned seats (ap (λ (o : OwnerFacts D L). o.guests) gives.others) (ap (λ (o : OwnerFacts D L). o.desk.leave) gives.others) gives.commanded
  given_follows logins old command new owned seats (inr drops) =
      quiet logins old new seats (ap (λ (o : OwnerFacts D L). o.guests) drops.others) (ap (λ (o : OwnerFacts D L). o.desk.leave) drops.others)

  answered_follows : (logins : Logins) (old : OwnerFacts D L) (reply : ReplyFacts) (new : OwnerFacts D L) → SeatedAs logins old → Answers old reply new → Follows logins old.control [] new
  answered_follows logins old reply new seats (inl is) = quiet logins old new seats (ap (λ (o : OwnerFacts D L). o.guests) is) (ap (λ (o : OwnerFacts D L). o.desk.leave) is)
  answered_follows logins old reply new seats (inr is) = quiet logins old new seats (ap (λ (o : OwnerFacts D L). o.guests) is) (ap (λ (o : OwnerFacts D L). o.desk.leave) is)

  tested_follows : (logins : Logins) (banned : Bool) (old : OwnerFacts D L) (login : Command) (new : OwnerFacts D L) → IsOwned logins old.guests.rows login → SeatedAs logins old
      → (tested : TestedBy banned old login new) → Follows logins old.control (decided_tested banned old login new tested) new
  tested_follows logins true old login new owned seats answers = answered_follows logins old (ban_reply (roll_of old) login.connection) new seats answers
  tested_follows logins false old login new owned seats given = given_follows logins old login new owned seats given

  settling_follows : (logins : Logins) (login : Bool) (banned : Option SessionId) (old : OwnerFacts D L) (command : Command) (new : OwnerFacts D L) → IsOwned logins old.guests.rows command
      → SeatedAs logins old → (given : SettledBy login banned old command new) → Follows logins old.control (decided_settling login banned old command new given) new
  settling_follows logins true banned old command new owned seats tests =
      tested_follows logins (is_banned old command tests.warden.last) (with_warden tests.warden old) command new owned seats tests.tested
  settling_follows logins false (Some banned) old command new owned seats (inl lacks) =
      quiet logins old new seats (ap (λ (o : OwnerFacts D L). o.guests) lacks.others) (ap (λ (o : OwnerFacts D L). o.desk.leave) lacks.others)
  settling_follows logins false (Some banned) old command new owned seats (inr removes) =
      let given = given_follows logins (with_warden removes.warden old) command removes.after owned seats removes.given in record {
        own = given.own;
        ends = given.ends;
        seats = seats_as (logins_after old.control.publisher.opening (appended old.control.publisher) logins (decided_given (with_warden removes.warden old) command removes.after removes.given)) removes.after.guests new.guests removes.after.desk.leave new.desk.leave (ap (λ (o : OwnerFacts D L). o.guests) removes.others)
            (ap (λ (o : OwnerFacts D L). o.desk.leave) removes.others) given.seats;
      }
  settling_follows logins false None old command new owned seats given = given_follows logins old command new owned seats given

  command_follows : (logins : Logins) (old : OwnerFacts D L) (command : Command) (new : OwnerFacts D L) → IsOwned logins old.guests.rows command → SeatedAs logins old
      → (given : IsGivenOrRefused old command new) → Follows logins old.control (decided_command old command new given) new
  command_follows logins old command new owned seats given = settling_follows logins (is_login command) (banned_in command) old command new owned seats given

  list_follows : (logins : Logins) (old : OwnerFacts D L) (connection : ℕ) (session : SessionId) (payload : List ℕ) (new : OwnerFacts D L) → SeatedAs logins old
      → (warden : WardenFacts) (reply : ReplyFacts) (book : Book) → ListComesTo warden old reply book new → Follows logins old.control [] new
  list_follows logins old connection session payload new seats warden reply book (inl both) =
      quiet logins old new seats (ap (λ (o : OwnerFacts D L). o.guests) both.1) (ap (λ (o : OwnerFacts D L). o.desk.leave) both.1)
  list_follows logins old connection session payload new seats warden reply book (inr both) =
      quiet logins old new seats (ap (λ (o : OwnerFacts D L). o.guests) both.1) (ap (λ (o : OwnerFacts D L). o.desk.leave) both.1)

  -- ---- a leave

  leave_commanded : (logins : Logins) (old emptied : ControlFacts) (connection : ℕ) (session : Option SessionId) (reply : ReplyFacts) (new : OwnerFacts D L) → session ≡ session_in logins connection
      → current emptied ≡ current old → SeatedAs logins new → (given : Commanded emptied (leave_of connection session) reply new.control)
      → Follows logins old (decided_by emptied (leave_of connection session) reply new.control given) new
  leave_commanded logins old emptied connection session reply new own same seats (inl dropped) = record { own = tt; ends = tt; seats = seats }
  leave_commanded logins old emptied connection session reply new own same seats (inr decides) = record {
    own = (own, tt);
    ends = (
      decides_end emptied connection session (verdict (current emptied) session (User Leave)) reply new.control decides
          ∙ ap (λ (state : StateValue). reply_end (verdict state session (User Leave))) same,
      tt,
    );
    seats = subst (λ (l : Logins). SeatedAs l new) (sym (leave_gives (state_of old.publisher.opening (appended old.publisher)) session connection logins)) seats;
  }

  leave_follows : (logins : Logins) (old : OwnerFacts D L) (connection : ℕ) (was : Bool) (new : OwnerFacts D L) → is_open connection old.guests.rows ≡ true → SeatedAs logins old
      → (given : LeaveIsGiven old connection was new) → Follows logins old.control (decided_leave old connection was new given) new
  leave_follows logins old connection was new there seats (inl gives) =
      leave_commanded logins old.control gives.emptied connection (session_of connection old.guests.rows) gives.reply new
      (kept_session logins connection old.guests.rows seats.sessions there) (box_emptied old.control (session_of connection old.guests.rows) gives.emptied gives.empties)
      (seats_as logins old.guests new.guests (leave_after was connection) new.desk.leave (ap (λ (o : OwnerFacts D L). o.guests) gives.others) (ap (λ (o : OwnerFacts D L). o.desk.leave) gives.others)
      (with_leave logins old.guests old.desk.leave (leave_after was connection) (leave_open was connection old.guests.rows there) seats))
      gives.commanded
  leave_follows logins old connection was new there seats (inr drops) = record {
    own = tt;
    ends = tt;
    seats =
        seats_as logins old.guests new.guests (Some connection) new.desk.leave (ap (λ (o : OwnerFacts D L). o.guests) drops.others) (ap (λ (o : OwnerFacts D L). o.desk.leave) drops.others)
        (with_leave logins old.guests old.desk.leave (Some connection) there seats);
  }

  -- ---- an item of the desk, and a login that waited

  receiving_follows : (logins : Logins) (leave waits : Bool) (old : OwnerFacts D L) (command : Command) (new : OwnerFacts D L) → IsOwned logins old.guests.rows command → SeatedAs logins old
      → (received : ReceivesBy leave waits old command new) → Follows logins old.control (decided_receiving leave waits old command new received) new
  receiving_follows logins true waits old command new owned seats received = leave_follows logins old command.connection received.0 new owned.there seats received.1
  receiving_follows logins false true old command new owned seats received =
      quiet logins old new seats (ap (λ (o : OwnerFacts D L). o.guests) received) (ap (λ (o : OwnerFacts D L). o.desk.leave) received)
  receiving_follows logins false false old command new owned seats received = command_follows logins old command new owned seats received

  owned_follows : (logins : Logins) (own : Option Command) (old new : OwnerFacts D L) → ((command : Command) → own ≡ Some command → IsOwned logins old.guests.rows command) → SeatedAs logins old
      → (received : Receives old own new) → Follows logins old.control (decided_owned own old new received) new
  owned_follows logins None old new so seats received = same_follows logins old new seats received
  owned_follows logins (Some command) old new so seats received =
      receiving_follows logins (is_leave command.what) (is_login command && must_wait old) old command new (so command refl) seats received

  item_follows : (logins : Logins) (old : OwnerFacts D L) (item : Option DeskItem) (new : OwnerFacts D L) → old.desk.leave ≡ None → SeatedAs logins old → (received : ReceivesItem old item new)
      → Follows logins old.control (decided_item old item new received) new
  item_follows logins old None new free seats received = same_follows logins old new seats received
  item_follows logins old (Some (items.Closed connection)) new free seats received = record {
    own = tt;
    ends = tt;
    seats =
        seats_as logins (left connection old.guests) new.guests None new.desk.leave (ap (λ (o : OwnerFacts D L). o.guests) received) (ap (λ (o : OwnerFacts D L). o.desk.leave) received ∙ free)
        (left_seats (list_any (is_of connection) old.guests.rows) connection logins old.guests (seats_as logins old.guests old.guests old.desk.leave None refl (sym free) seats));
  }
  item_follows logins old (Some (items.Command command)) new free seats received =
      owned_follows logins (owned old.guests.rows command) old new (λ own is. owned_so logins old.guests.rows command own seats.sessions is) seats received
  item_follows logins old (Some (items.Bans connection session payload)) new free seats settles =
      list_follows logins old connection session payload new seats settles.warden (list_reply (roll_of old) connection (sent session (verdict_in old.warden.book settles.allowed payload)))
      (book_after old.warden.book settles.allowed payload settles.warden.last) settles.comes_to

  waiting_follows : (logins : Logins) (own : Option Command) (old new : OwnerFacts D L) → ((command : Command) → own ≡ Some command → IsOwned logins old.guests.rows command) → SeatedAs logins old
      → (given : MatchOption own (new ≡ old) (λ command. IsGivenOrRefused old command new)) → Follows logins old.control (decided_waiting own old new given) new
  waiting_follows logins None old new so seats given = same_follows logins old new seats given
  waiting_follows logins (Some command) old new so seats given = command_follows logins old command new (so command refl) seats given

  -- ---- the desk

  follows_as : (logins : Logins) (n : Next) (old : OwnerFacts D L) (worked : Bool) (new : OwnerFacts D L) → next old ≡ n → SeatedAs logins old → (serves : Serves n old worked new)
      → Follows logins old.control (decided_as n old worked new serves) new
  follows_as logins Rest old worked new is seats (so, same) = same_follows logins old new seats same
  follows_as logins (Again connection) old worked new is seats given =
      leave_follows logins old connection worked new (leaving_at old.desk.leave connection old.guests.rows (again_leave (is_some old.kept.reply) old.desk.leave (nat_lt PENDING_LIMIT (length old.control.pending)) (may_go old) (nat_lt (length old.logins) CONNECTION_LIMIT) connection is) seats.leaving) seats given
  follows_as logins Goes old worked new is seats gives =
      waiting_follows logins (owned old.guests.rows gives.login) (record old { logins = gives.rest }) new (λ own found. owned_so logins old.guests.rows gives.login own seats.sessions found) seats gives.given
  follows_as logins Take old worked new is seats takes =
      item_follows logins (with_pass takes.pass old) takes.item new (take_leave (is_some old.kept.reply) old.desk.leave (nat_lt PENDING_LIMIT (length old.control.pending)) (may_go old) (nat_lt (length old.logins) CONNECTION_LIMIT) is) seats takes.received

  -- ---- the other parts

  lag_seats : (logins : Logins) (lag : Option Lag) (owner : OwnerFacts D L) → SeatedAs logins owner → SeatedAs logins (with_lag lag owner)
  lag_seats logins None owner seats = seats
  lag_seats logins (Some lag) owner seats = record {
    sessions = rows_with_lag lag.connection logins owner.guests.rows seats.sessions;
    within = within_mapped (lag_noted lag.connection) (λ guest. noted_number (is_of lag.connection guest) guest) owner.guests.given owner.guests.rows seats.within;
    none = seats.none;
    leaving = leave_moved owner.desk.leave owner.guests.rows (map (lag_noted lag.connection) owner.guests.rows) (λ other. open_noted other lag.connection owner.guests.rows) seats.leaving;
  }

  moved_seats : (logins : Logins) (old new : OwnerFacts D L) → new.guests ≡ old.guests → new.desk.leave ≡ old.desk.leave → SeatedAs logins old → SeatedAs logins new
  moved_seats logins old new guests leave seats = seats_as logins old.guests new.guests old.desk.leave new.desk.leave guests leave seats

  same_seats : (logins : Logins) (old seen new : OwnerFacts D L) → seen.guests ≡ old.guests → seen.desk.leave ≡ old.desk.leave → new ≡ seen → SeatedAs logins old → SeatedAs logins new
  same_seats logins old seen new guests leave is seats =
      moved_seats logins old new (ap (λ (o : OwnerFacts D L). o.guests) is ∙ guests) (ap (λ (o : OwnerFacts D L). o.desk.leave) is ∙ leave) seats

  pressed_seats : (logins : Logins) (old : OwnerFacts D L) (worked : Bool) (new : OwnerFacts D L) → Presses old worked new → SeatedAs logins old → SeatedAs logins new
  pressed_seats logins old worked new presses seats = subst (λ (o : OwnerFacts D L). SeatedAs logins o) (sym presses.1) (lag_seats logins (pressing old) old seats)

  published_seats : (logins : Logins) (old : OwnerFacts D L) (worked : Bool) (new : OwnerFacts D L) → Publishes old worked new → SeatedAs logins old → SeatedAs logins new
  published_seats logins old true new done seats = same_seats logins old _ new refl refl done.1 seats
  published_seats logins old false new same seats = same_seats logins old old new refl refl same seats

  archived_seats : (logins : Logins) (there noted through : Bool) (old : OwnerFacts D L) (worked : Bool) (new : OwnerFacts D L) → ArchivesBy there noted through old worked new → SeatedAs logins old → SeatedAs logins new
  archived_seats logins false noted through old worked new (so, same) seats = same_seats logins old old new refl refl same seats
  archived_seats logins true true through old worked new (inl offers) seats = same_seats logins old (record old { archive = new.archive }) new refl refl offers.others seats
  archived_seats logins true true through old worked new (inr lacks) seats = same_seats logins old _ new refl refl lacks.1 seats
  archived_seats logins true false true old worked new notes seats = same_seats logins old (record old { archive = new.archive }) new refl refl notes.others seats
  archived_seats logins true false false old worked new (so, same) seats = same_seats logins old old new refl refl same seats

  posted_seats : (logins : Logins) (b : Bool) (old : OwnerFacts D L) (worked : Bool) (new : OwnerFacts D L) → MatchBool b (Rests old worked new) (PostsOne old worked new) → SeatedAs logins old → SeatedAs logins new
  posted_seats logins true old worked new (so, same) seats = same_seats logins old old new refl refl same seats
  posted_seats logins false old worked new one seats =
      subst (λ (o : OwnerFacts D L). SeatedAs logins o) (sym one.others) (lag_seats logins (lag_at one.answer old.guests.rows) (record old { control = one.after }) seats)

  ended_seats : (logins : Logins) (b : Bool) (owner new : OwnerFacts D L) → new ≡ cond b (record owner { is_ending = true }) owner → SeatedAs logins owner → SeatedAs logins new
  ended_seats logins true owner new is seats = same_seats logins owner (record owner { is_ending = true }) new refl refl is seats
  ended_seats logins false owner new is seats = same_seats logins owner owner new refl refl is seats

-- what is said of the decisions of turns
pub record Follow (opening : Opening) (edits : List Edit) (logins : Logins) (made : List Decision) : Type 0 where
  pub own : AreForTheirLogins opening edits logins made
  pub ends : AreAnswered opening edits made

module _ {D L : Type 0} (door_facts : D → DoorFacts) (link_facts : L → LinkFacts) where
  asked_seats : (logins : Logins) (b : Bool) (old : OwnerFacts D L) (worked : Bool) (new : OwnerFacts D L) → Asks door_facts link_facts b old worked new → SeatedAs logins old → SeatedAs logins new
  asked_seats logins true old worked new (so, same) seats = same_seats logins old old new refl refl same seats
  asked_seats logins false old worked new asks seats =
      seats_as logins (guests_by link_facts asks.answer old.guests) new.guests old.desk.leave new.desk.leave (ap (λ (o : OwnerFacts D L). o.guests) asks.others)
      (ap (λ (o : OwnerFacts D L). o.desk.leave) asks.others) (came_seats link_facts asks.answer logins old.guests old.desk.leave seats)

  turn_follows : (logins : Logins) (old : OwnerFacts D L) (turn : Turn) (new : OwnerFacts D L) (t : OwnerTurned door_facts link_facts old turn new) → SeatedAs logins old
      → Follows logins old.control (decisions_of door_facts link_facts old turn new t) new
  turn_follows logins old turn new t seats =
      let made = decisions_of door_facts link_facts old turn new t in
      let offered : SeatedAs logins t.after_offers = same_seats logins old _ t.after_offers refl refl t.offers.others seats in
      let control : t.after_offers.control ≡ old.control = ap (λ (o : OwnerFacts D L). o.control) t.offers.others in
      let served : Follows logins old.control made t.after_desk =
      subst (λ (k : ControlFacts). Follows logins k made t.after_desk) control
      (follows_as logins (next t.after_offers) t.after_offers t.served t.after_desk refl offered t.serves) in
      let after : Logins = logins_after old.control.publisher.opening (appended old.control.publisher) logins made in
      let pressed : SeatedAs after t.after_press = pressed_seats after t.after_desk t.pressed t.after_press t.presses served.seats in
      let shown : SeatedAs after t.after_publish = published_seats after t.after_press t.published t.after_publish t.publishes pressed in
      let archived : SeatedAs after t.after_archive =
      archived_seats after (is_some t.after_publish.archive) (makes_note t.after_offers t.after_desk || t.published) (is_through t.after_publish) t.after_publish t.archived t.after_archive t.archives shown in
      let posted : SeatedAs after t.after_post = posted_seats after (is_some t.after_archive.kept.lag) t.after_archive t.posted t.after_post t.posts archived in
      let asked : SeatedAs after t.after_door = asked_seats after (is_not_to_ask t.after_post) t.after_post t.came t.after_door t.asks posted in record {
        own = served.own;
        ends = served.ends;
        seats = ended_seats after (is_over t.after_door && is_none t.after_door.kept.coming) t.after_door new t.ends asked;
      }

  turns_follow : (logins : Logins) (old : OwnerFacts D L) (turns : List Turn) (new : OwnerFacts D L) (all : TurnsTo (OwnerTurned door_facts link_facts) old turns new) → SeatedAs logins old
      → Follow old.control.publisher.opening (appended old.control.publisher) logins (decisions door_facts link_facts old turns new all)
  turns_follow logins old [] new all seats = record { own = tt; ends = tt }
  turns_follow logins old (turn ∷ turns) new (mid, t, rest) seats =
      let opening : Opening = old.control.publisher.opening in
      let edits : List Edit = appended old.control.publisher in
      let made : List Decision = decisions_of door_facts link_facts old turn mid t in
      let later : List Decision = decisions door_facts link_facts mid turns new rest in
      let one = turn_follows logins old turn mid t seats in
      let lead = (turns_lead door_facts link_facts old (turn ∷ []) mid (mid, t, refl)).leads in
      let list : appended mid.control.publisher ≡ edits_after opening edits made = lead.all ∙ ap (λ (ds : List Decision). edits_after opening edits ds) (append-nil made) in
      let after : Logins = logins_after opening edits logins made in
      let others : Follow opening (edits_after opening edits made) after later =
      subst (λ (es : List Edit). Follow opening es after later) list
      (subst (λ (o : Opening). Follow o (appended mid.control.publisher) after later) lead.opening (turns_follow after mid turns new rest one.seats)) in record {
        own = for_join opening edits logins made later one.own others.own;
        ends = ends_join opening edits made later one.ends others.ends;
      }

  -- from the opening on
  pub opened_follow : (control : ControlFacts) (door : D) (connections : ℕ) (journal : Bool) (queues : List QueueId) (store : Option QueueId) (opened owner : OwnerFacts D L) (turns : List Turn)
      → IsOpened control door connections journal queues store opened → (all : TurnsTo (OwnerTurned door_facts link_facts) opened turns owner)
      → Follow opened.control.publisher.opening (appended opened.control.publisher) [] (decisions door_facts link_facts opened turns owner all)
  opened_follow control door connections journal queues store opened owner turns new all =
      let none : Seats [] (record { rows = []; given = 0; closed = 0; limit = connections }) None = record { sessions = tt; within = tt; none = λ connection past. refl; leaving = tt } in
      turns_follow [] opened turns owner all
      (seats_as [] (record { rows = []; given = 0; closed = 0; limit = connections }) opened.guests None opened.desk.leave (ap (λ (o : OwnerFacts D L). o.guests) new) (ap (λ (o : OwnerFacts D L). o.desk.leave) new) none)

  pub decisions_follow : DecisionsAreForTheirLogins D L door_facts link_facts
  decisions_follow control door connections journal queues store opened owner turns new all = (opened_follow control door connections journal queues store opened owner turns new all).own
