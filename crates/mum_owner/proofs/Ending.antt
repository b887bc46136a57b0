-- That no note comes any more is put once, after all notes.
use Rattle.mum_owner.proofs.Common.{◌≡◌, ◌∙◌, ℕ, ◌+◌, Bool, true, false, cond, List, [], ◌∷◌, ◌++◌, length, map, Option, Some, None, refl, ap, sym, subst, inl, inr, ◌==◌, ◌&&◌, ◌||◌, not, filter, is_none, is_some, nat_le, nat_lt, IfSome, IsTrue, MatchBool, MatchOption, list_any, option_map, and_from, and_parts, eqb-true, or_right, nil_from_length, QueueId, CONNECTION_LIMIT, Book, note_of, ControlFacts, PostsNext, due_notices, Posted, TurnsTo, Turn, DoorFacts, LinkFacts, ArchiveFacts, OffersNote, OffersRing, TellsStore, new_archive, Noted, Ring, Notice, DeskItem, NoteFacts, ReplyFacts, Edit, sent, WardenFacts, verdict_in, IsGivenOrRefused, ListComesTo, book_after, has_note, list_reply, GuestsFacts, OwnerFacts, roll_of, is_not_of, is_of, lag_noted, owned, AreNotes, EndsOnce, IsOpened, Receives, ReceivesItem, Rests, Serves, ServesDesk, may_go, next_by, with_pass, Archives, ArchivesBy, Asks, OwnerTurned, PostsOne, Publishes, is_not_to_ask, is_over, is_through, lag_at, makes_note, pressing, with_lag, PENDING_LIMIT, Guest, Lag}
use Rattle.mum_keeper.specs.{Archive.with_full, Archive.with_put, Bell.NoMore}
use Rattle.mum_owner.proofs.{Noting.before_store, Noting.behind_store, Steps.DeskStays, Steps.desk_stays}
use Rattle.mum_port.specs.declared.item.DeskItem.TheVariants as items

-- ---- what was put

one_note_more : (rings : List Ring) (note : NoteFacts) → AreNotes rings → AreNotes (rings ++ Noted note ∷ [])
one_note_more [] note are = refl
one_note_more (Noted first ∷ rings) note are = one_note_more rings note are
one_note_more (NoMore ∷ rings) note are = cc

-- only notes were put so far
pub record IsOpen (side : ArchiveFacts) : Type 0 where
  pub told : side.is_told ≡ false
  pub notes : AreNotes side.put

open_ends : (side : ArchiveFacts) → IsOpen side → EndsOnce side
open_ends side open_so =
    subst (λ (b : Bool). MatchBool b ((notes : List Ring) × (side.put ≡ notes ++ NoMore ∷ []) × AreNotes notes) (AreNotes side.put)) (sym open_so.told) open_so.notes

-- ---- from tests to facts

none_there : {A : Type 0} (xs : List A) → (length xs == 0) ≡ true → xs ≡ []
none_there xs so = nil_from_length xs (eqb-true (length xs) 0 so)

none_kept : {A : Type 0} (found : Option A) → is_none found ≡ true → found ≡ None
none_kept None so = refl
none_kept (Some x) so = cc

second_of : (a b c : Bool) → b ≡ true → (a || (b || c)) ≡ true
second_of a b c so = or_right a (b || c) (ap (λ (x : Bool). x || c) so)

-- ---- notices

pub posted_publisher : (control : ControlFacts) (pending : List Notice) (answer : Posted) (after : ControlFacts) → PostsNext control pending answer after → after.publisher ≡ control.publisher
posted_publisher control [] answer after posts = ap (λ (c : ControlFacts). c.publisher) posts.1
posted_publisher control (notice ∷ rest) answer after posts = ap (λ (c : ControlFacts). c.publisher) posts.others

-- ---- replies

no_new_note : (before after : Option ReplyFacts) → after ≡ before → (not (is_some before) && has_note after) ≡ false
no_new_note None after same = ap (λ (r : Option ReplyFacts). has_note r) same
no_new_note (Some reply) after same = refl

no_note : (before after : Option ReplyFacts) → has_note after ≡ false → (not (is_some before) && has_note after) ≡ false
no_note None after none = none
no_note (Some reply) after none = refl

all_four : (a b c d : Bool) → a ≡ true → b ≡ true → c ≡ true → d ≡ true → (a && (b && (c && d))) ≡ true
all_four a b c d one two three four = and_from a (b && (c && d)) one (and_from b (c && d) two (and_from c d three four))

rows_left : (b : Bool) (connection : ℕ) (guests : GuestsFacts) → guests.rows ≡ []
    → (cond b (record guests { rows = filter (is_not_of connection) guests.rows; closed = guests.closed + 1 }) guests).rows ≡ []
rows_left true connection guests none = ap (λ (rows : List Guest). filter (is_not_of connection) rows) none
rows_left false connection guests none = none

-- whether more connections come, by what that depends on
abbrev over_by : Bool → ℕ → ℕ → Bool
over_by stopped limit given = stopped || nat_le limit given

offered_open : (took : Bool) (note : NoteFacts) (side after : ArchiveFacts) → IsOpen side → OffersRing (Noted note) side took after → IsOpen after
offered_open true note side after open_so is = record {
  told = ap (λ (s : ArchiveFacts). s.is_told) is ∙ open_so.told;
  notes = subst (λ (s : ArchiveFacts). AreNotes s.put) (sym is) (one_note_more side.put note open_so.notes);
}
offered_open false note side after open_so is = record {
  told = ap (λ (s : ArchiveFacts). s.is_told) is ∙ open_so.told;
  notes = subst (λ (s : ArchiveFacts). AreNotes s.put) (sym is) open_so.notes;
}

module _ {D L : Type 0} where
  -- nothing is to come that could give a note
  pub record IsThrough (owner : OwnerFacts D L) : Type 0 where
    pub over : is_over owner ≡ true
    pub rows : owner.guests.rows ≡ []
    pub leave : owner.desk.leave ≡ None
    pub pending : owner.control.publisher.pending ≡ []

  through_of : (owner : OwnerFacts D L) → is_through owner ≡ true → IsThrough owner
  through_of owner so =
      let over = is_over owner in
      let rows = length owner.guests.rows == 0 in
      let leave = is_none owner.desk.leave in
      let pending = length owner.control.publisher.pending == 0 in
      let all = and_parts over (rows && (leave && pending)) so in
      let behind = and_parts rows (leave && pending) all.1 in
      let last = and_parts leave pending behind.1 in
      record {
        over = all.0;
        rows = none_there owner.guests.rows behind.0;
        leave = none_kept owner.desk.leave last.0;
        pending = none_there owner.control.publisher.pending last.1;
      }

  is_through_so : (owner : OwnerFacts D L) → IsThrough owner → is_through owner ≡ true
  is_through_so owner through =
      all_four (is_over owner) (length owner.guests.rows == 0) (is_none owner.desk.leave) (length owner.control.publisher.pending == 0) through.over
      (ap (λ (rows : List Guest). length rows == 0) through.rows) (ap (λ (l : Option ℕ). is_none l) through.leave)
      (ap (λ (e : List Edit). length e == 0) through.pending)

  through_as : (mid new : OwnerFacts D L) → new ≡ mid → IsThrough mid → IsThrough new
  through_as mid new is through = subst (λ (o : OwnerFacts D L). IsThrough o) (sym is) through

  -- ---- the desk, where no connection is open and no leave is to be tried again

  -- no connection was opened, nothing was given to the control owner, and no reply with a note was made
  pub record IsQuiet (old new : OwnerFacts D L) : Type 0 where
    pub rows : new.guests.rows ≡ []
    pub leave : new.desk.leave ≡ old.desk.leave
    pub control : new.control ≡ old.control
    pub note : makes_note old new ≡ false

  quiet_same : (old new : OwnerFacts D L) → old.guests.rows ≡ [] → new ≡ old → IsQuiet old new
  quiet_same old new none same = record {
    rows = ap (λ (o : OwnerFacts D L). o.guests.rows) same ∙ none;
    leave = ap (λ (o : OwnerFacts D L). o.desk.leave) same;
    control = ap (λ (o : OwnerFacts D L). o.control) same;
    note = no_new_note old.kept.reply new.kept.reply (ap (λ (o : OwnerFacts D L). o.kept.reply) same);
  }

  list_quiet : (warden : WardenFacts) (old : OwnerFacts D L) (connection : ℕ) (wire : List ℕ) (book : Book) (new : OwnerFacts D L) → old.guests.rows ≡ []
      → ListComesTo warden old (list_reply (roll_of old) connection wire) book new → IsQuiet old new
  list_quiet warden old connection wire book new none (inl both) = record {
    rows = ap (λ (o : OwnerFacts D L). o.guests.rows) both.1 ∙ none;
    leave = ap (λ (o : OwnerFacts D L). o.desk.leave) both.1;
    control = ap (λ (o : OwnerFacts D L). o.control) both.1;
    note = no_note old.kept.reply new.kept.reply (ap (λ (o : OwnerFacts D L). has_note o.kept.reply) both.1);
  }
  list_quiet warden old connection wire book new none (inr both) = record {
    rows = ap (λ (o : OwnerFacts D L). o.guests.rows) both.1 ∙ none;
    leave = ap (λ (o : OwnerFacts D L). o.desk.leave) both.1;
    control = ap (λ (o : OwnerFacts D L). o.control) both.1;
    note = no_note old.kept.reply new.kept.reply (ap (λ (o : OwnerFacts D L). has_note o.kept.reply) both.1);
  }

  item_quiet : (old : OwnerFacts D L) (item : Option DeskItem) (new : OwnerFacts D L) → old.guests.rows ≡ [] → ReceivesItem old item new → IsQuiet old new
  item_quiet old None new none received = quiet_same old new none received
  item_quiet old (Some (items.Closed connection)) new none received = record {
    rows = ap (λ (o : OwnerFacts D L). o.guests.rows) received ∙ rows_left (list_any (is_of connection) old.guests.rows) connection old.guests none;
    leave = ap (λ (o : OwnerFacts D L). o.desk.leave) received;
    control = ap (λ (o : OwnerFacts D L). o.control) received;
    note = no_new_note old.kept.reply new.kept.reply (ap (λ (o : OwnerFacts D L). o.kept.reply) received);
  }
  item_quiet old (Some (items.Command command)) new none received =
      quiet_same old new none (subst (λ (rows : List Guest). Receives old (owned rows command) new) none received)
  item_quiet old (Some (items.Bans connection session payload)) new none settles =
      list_quiet settles.warden old connection (sent session (verdict_in old.warden.book settles.allowed payload))
      (book_after old.warden.book settles.allowed payload settles.warden.last) new none settles.comes_to

  -- what is done next gives no leave again
  serves_quiet : (reply many goes room : Bool) (old : OwnerFacts D L) (worked : Bool) (new : OwnerFacts D L) → old.guests.rows ≡ []
      → Serves (next_by reply None many goes room) old worked new → IsQuiet old new
  serves_quiet true many goes room old worked new none rests = quiet_same old new none rests.1
  serves_quiet false true goes room old worked new none rests = quiet_same old new none rests.1
  serves_quiet false false true room old worked new none gives =
      let same : new ≡ record old { logins = gives.rest } =
      subst (λ (rows : List Guest). MatchOption (owned rows gives.login) (new ≡ record old { logins = gives.rest }) (λ own. IsGivenOrRefused (record old { logins = gives.rest }) own new))
      none gives.given in
      let quiet = quiet_same (record old { logins = gives.rest }) new none same in
      record { rows = quiet.rows; leave = quiet.leave; control = quiet.control; note = quiet.note }
  serves_quiet false false false true old worked new none takes =
      let quiet = item_quiet (with_pass takes.pass old) takes.item new none takes.received in
      record { rows = quiet.rows; leave = quiet.leave; control = quiet.control; note = quiet.note }
  serves_quiet false false false false old worked new none rests = quiet_same old new none rests.1

  desk_quiet : (old : OwnerFacts D L) (worked : Bool) (new : OwnerFacts D L) → old.guests.rows ≡ [] → old.desk.leave ≡ None → ServesDesk old worked new → IsQuiet old new
  desk_quiet old worked new none no_leave serves =
      serves_quiet (is_some old.kept.reply) (nat_lt PENDING_LIMIT (length old.control.pending)) (may_go old) (nat_lt (length old.logins) CONNECTION_LIMIT) old worked new none
      (subst
      (λ (l : Option ℕ). Serves (next_by (is_some old.kept.reply) l (nat_lt PENDING_LIMIT (length old.control.pending)) (may_go old) (nat_lt (length old.logins) CONNECTION_LIMIT)) old worked new)
      no_leave serves)

  same_over : (old new : OwnerFacts D L) → DeskStays old new → is_over new ≡ is_over old
  same_over old new stays =
      ap (λ (b : Bool). over_by b new.guests.limit new.guests.given) (ap (λ (d : _). d.stopped) stays.doorway)
      ∙ ap (λ (n : ℕ). over_by old.doorway.stopped n new.guests.given) stays.limit
      ∙ ap (λ (n : ℕ). over_by old.doorway.stopped old.guests.limit n) stays.given

  desk_through : (old : OwnerFacts D L) (worked : Bool) (new : OwnerFacts D L) → IsThrough old → ServesDesk old worked new → IsThrough new × (makes_note old new ≡ false)
  desk_through old worked new through serves =
      let quiet = desk_quiet old worked new through.rows through.leave serves in (
        record {
          over = same_over old new (desk_stays old worked new serves) ∙ through.over;
          rows = quiet.rows;
          leave = quiet.leave ∙ through.leave;
          pending = ap (λ (c : ControlFacts). c.publisher.pending) quiet.control ∙ through.pending;
        },
        quiet.note,
      )

  -- ---- the other parts

  lag_through : (lag : Option Lag) (owner : OwnerFacts D L) → IsThrough owner → IsThrough (with_lag lag owner)
  lag_through None owner through = through
  lag_through (Some lag) owner through = record {
    over = through.over;
    rows = ap (λ (rows : List Guest). map (lag_noted lag.connection) rows) through.rows;
    leave = through.leave;
    pending = through.pending;
  }

  publish_through : (old : OwnerFacts D L) (worked : Bool) (new : OwnerFacts D L) → IsThrough old → Publishes old worked new → IsThrough new × (worked ≡ false)
  publish_through old true new through publishes =
      let some : (length old.control.publisher.pending == 0) ≡ false = publishes.0 in
      let never : true ≡ false = sym (ap (λ (e : List Edit). length e == 0) through.pending) ∙ some in
      cc
  publish_through old false new through same = (through_as old new same through, refl)

  posted_through : (b : Bool) (old : OwnerFacts D L) (worked : Bool) (new : OwnerFacts D L) → IsThrough old → MatchBool b (Rests old worked new) (PostsOne old worked new) → IsThrough new
  posted_through true old worked new through rests = through_as old new rests.1 through
  posted_through false old worked new through posts =
      let same : posts.after.publisher ≡ old.control.publisher = posted_publisher old.control (due_notices old.control) posts.answer posts.after posts.posts in
      let mid : IsThrough (record old { control = posts.after }) = record {
        over = through.over;
        rows = through.rows;
        leave = through.leave;
        pending = ap (λ (p : _). p.pending) same ∙ through.pending;
      } in
      through_as _ new posts.others (lag_through (lag_at posts.answer old.guests.rows) (record old { control = posts.after }) mid)

  ended_through : (b : Bool) (owner : OwnerFacts D L) → IsThrough owner → IsThrough (cond b (record owner { is_ending = true }) owner)
  ended_through true owner through = record { over = through.over; rows = through.rows; leave = through.leave; pending = through.pending }
  ended_through false owner through = through

  -- ---- the bell of the store

  -- it got notes, and that none comes any more once, after all of them, where nothing is to come that could give one
  pub record IsTold (side : ArchiveFacts) (owner : OwnerFacts D L) : Type 0 where
    pub ends : EndsOnce side
    pub through : side.is_told ≡ true → IsThrough owner

  abbrev pub HasTold : OwnerFacts D L → Type 0
  HasTold owner = IfSome owner.archive (λ side. IsTold side owner)

  open_told : (side : ArchiveFacts) (owner : OwnerFacts D L) → IsOpen side → IsTold side owner
  open_told side owner open_so = record {
    ends = open_ends side open_so;
    through = λ told. let never : true ≡ false = sym told ∙ open_so.told in cc;
  }

  -- ---- the part that is for the store

  some_told : (side : ArchiveFacts) (owner : OwnerFacts D L) → owner.archive ≡ Some side → IsTold side owner → HasTold owner
  some_told side owner is told = subst (λ (a : Option ArchiveFacts). IfSome a (λ side. IsTold side owner)) (sym is) told

  -- the end is put after notes
  ended_told : (took : Bool) (side after : ArchiveFacts) (owner : OwnerFacts D L) → IsOpen side → IsThrough owner
      → MatchBool took (after ≡ record (with_put NoMore side) { is_told = true }) (after ≡ with_full side) → IsTold after owner
  ended_told true side after owner open_so through is = record {
    ends = subst (λ (s : ArchiveFacts). EndsOnce s) (sym is) (side.put, refl, open_so.notes);
    through = λ told. through;
  }
  ended_told false side after owner open_so through is =
      open_told after owner (record {
        told = ap (λ (s : ArchiveFacts). s.is_told) is ∙ open_so.told;
        notes = subst (λ (s : ArchiveFacts). AreNotes s.put) (sym is) open_so.notes;
      })

  -- where the end was not put yet
  open_archived : (there noted through : Bool) (side : ArchiveFacts) (old : OwnerFacts D L) (worked : Bool) (new : OwnerFacts D L) → IsOpen side → old.archive ≡ Some side → is_through old ≡ through
      → ArchivesBy there noted through old worked new → HasTold new
  open_archived false noted through side old worked new open_so is so rests =
      some_told side new (ap (λ (o : OwnerFacts D L). o.archive) rests.1 ∙ is) (open_told side new open_so)
  open_archived true true through side old worked new open_so is so (inl offers) =
      let given : OffersNote (note_of old.control.publisher) (Some side) worked new.archive =
      subst (λ (a : Option ArchiveFacts). OffersNote (note_of old.control.publisher) a worked new.archive) is offers.offers in
      some_told given.0 new given.1 (open_told given.0 new (offered_open worked (note_of old.control.publisher) side given.0 open_so given.2))
  open_archived true true through side old worked new open_so is so (inr lacks) =
      some_told side new (ap (λ (o : OwnerFacts D L). o.archive) lacks.1 ∙ is) (open_told side new open_so)
  open_archived true false true side old worked new open_so is so ends =
      let given : TellsStore (Some side) worked new.archive = subst (λ (a : Option ArchiveFacts). TellsStore a worked new.archive) is ends.tells in
      let tells : MatchBool worked (given.0 ≡ record (with_put NoMore side) { is_told = true }) (given.0 ≡ with_full side) =
      subst (λ (b : Bool). MatchBool b ((worked ≡ false) × (given.0 ≡ side)) (MatchBool worked (given.0 ≡ record (with_put NoMore side) { is_told = true }) (given.0 ≡ with_full side)))
      open_so.told given.2 in
      let was = through_of old so in
      let same : IsThrough (record old { archive = new.archive }) = record { over = was.over; rows = was.rows; leave = was.leave; pending = was.pending } in
      some_told given.0 new given.1 (ended_told worked side given.0 new open_so (through_as _ new ends.others same) tells)
  open_archived true false false side old worked new open_so is so rests =
      some_told side new (ap (λ (o : OwnerFacts D L). o.archive) rests.1 ∙ is) (open_told side new open_so)

  -- where it was put: nothing more is
  told_archived : (there : Bool) (side : ArchiveFacts) (old : OwnerFacts D L) (worked : Bool) (new : OwnerFacts D L) → EndsOnce side → side.is_told ≡ true → IsThrough old → old.archive ≡ Some side
      → ArchivesBy there false true old worked new → HasTold new
  told_archived false side old worked new ends told through is rests =
      some_told side new (ap (λ (o : OwnerFacts D L). o.archive) rests.1 ∙ is) (record { ends = ends; through = λ again. through_as old new rests.1 through })
  told_archived true side old worked new ends told through is tells =
      let given : TellsStore (Some side) worked new.archive = subst (λ (a : Option ArchiveFacts). TellsStore a worked new.archive) is tells.tells in
      let same : given.0 ≡ side =
      (subst (λ (b : Bool). MatchBool b ((worked ≡ false) × (given.0 ≡ side)) (MatchBool worked (given.0 ≡ record (with_put NoMore side) { is_told = true }) (given.0 ≡ with_full side)))
      told given.2).1 in
      let rest : IsThrough (record old { archive = new.archive }) = record { over = through.over; rows = through.rows; leave = through.leave; pending = through.pending } in
      some_told side new (given.1 ∙ ap (λ (s : ArchiveFacts). Some s) same) (record { ends = ends; through = λ again. through_as _ new tells.others rest })

  no_store : (noted through : Bool) (old : OwnerFacts D L) (worked : Bool) (new : OwnerFacts D L) → old.archive ≡ None → ArchivesBy false noted through old worked new → HasTold new
  no_store noted through old worked new is rests =
      subst (λ (a : Option ArchiveFacts). IfSome a (λ side. IsTold side new)) (sym (ap (λ (o : OwnerFacts D L). o.archive) rests.1 ∙ is)) tt

  -- ---- over a turn

  told_moves : (mid new : OwnerFacts D L) → (IsThrough mid → IsThrough new) → (archive : Option ArchiveFacts) → IfSome archive (λ side. IsTold side mid) → IfSome archive (λ side. IsTold side new)
  told_moves mid new on None told = tt
  told_moves mid new on (Some side) told = record { ends = told.ends; through = λ so. on (told.through so) }

  told_behind : (mid new : OwnerFacts D L) → new.archive ≡ mid.archive → (IsThrough mid → IsThrough new) → HasTold mid → HasTold new
  told_behind mid new same on told =
      subst (λ (a : Option ArchiveFacts). IfSome a (λ side. IsTold side new)) (sym same) (told_moves mid new on mid.archive told)

module _ {D L : Type 0} (door_facts : D → DoorFacts) (link_facts : L → LinkFacts) where
  -- the door is not asked any more
  asked_through : (b : Bool) (old : OwnerFacts D L) (worked : Bool) (new : OwnerFacts D L) → b ≡ true → IsThrough old → Asks door_facts link_facts b old worked new → IsThrough new
  asked_through true old worked new not_asked through rests = through_as old new rests.1 through
  asked_through false old worked new not_asked through asks = cc

  module _ (old : OwnerFacts D L) (turn : Turn) (new : OwnerFacts D L) (t : OwnerTurned door_facts link_facts old turn new) where
    -- so far as the part that is for the store
    through_before : IsThrough old → IsThrough t.after_publish × ((makes_note t.after_offers t.after_desk || t.published) ≡ false)
    through_before through =
        let offered : IsThrough t.after_offers = through_as _ t.after_offers t.offers.others (record { over = through.over; rows = through.rows; leave = through.leave; pending = through.pending }) in
        let served = desk_through t.after_offers t.served t.after_desk offered t.serves in
        let pressed : IsThrough t.after_press = through_as _ t.after_press t.presses.1 (lag_through (pressing t.after_desk) t.after_desk served.0) in
        let published = publish_through t.after_press t.published t.after_publish pressed t.publishes in (
          published.0,
          ap (λ (b : Bool). b || t.published) served.1 ∙ published.1,
        )

    through_behind : IsThrough t.after_archive → IsThrough new
    through_behind through =
        let posted = posted_through (is_some t.after_archive.kept.lag) t.after_archive t.posted t.after_post through t.posts in
        let asked = asked_through (is_not_to_ask t.after_post) t.after_post t.came t.after_door
        (second_of (is_some t.after_post.kept.coming) (is_over t.after_post) _ posted.over) posted t.asks in
        through_as _ new t.ends (ended_through (is_over t.after_door && is_none t.after_door.kept.coming) t.after_door asked)

    told_by : (told : Bool) (side : ArchiveFacts) → side.is_told ≡ told → old.archive ≡ Some side → IsTold side old → HasTold t.after_archive
    told_by true side so is told =
        let before = through_before (told.through so) in
        let archives : ArchivesBy (is_some t.after_publish.archive) false true t.after_publish t.archived t.after_archive =
        subst (λ (b : Bool). ArchivesBy (is_some t.after_publish.archive) false b t.after_publish t.archived t.after_archive) (is_through_so t.after_publish before.0)
        (subst (λ (b : Bool). Archives b t.after_publish t.archived t.after_archive) before.1 t.archives) in
        told_archived (is_some t.after_publish.archive) side t.after_publish t.archived t.after_archive told.ends so before.0
        (before_store door_facts link_facts old turn new t ∙ is) archives
    told_by false side so is told =
        let notes : AreNotes side.put =
        subst (λ (b : Bool). MatchBool b ((notes : List Ring) × (side.put ≡ notes ++ NoMore ∷ []) × AreNotes notes) (AreNotes side.put)) so told.ends in
        open_archived (is_some t.after_publish.archive) (makes_note t.after_offers t.after_desk || t.published) (is_through t.after_publish) side t.after_publish t.archived t.after_archive
        (record { told = so; notes = notes }) (before_store door_facts link_facts old turn new t ∙ is) refl t.archives

    told_where : (archive : Option ArchiveFacts) → old.archive ≡ archive → IfSome archive (λ side. IsTold side old) → HasTold t.after_archive
    told_where None is told =
        let none : t.after_publish.archive ≡ None = before_store door_facts link_facts old turn new t ∙ is in
        no_store (makes_note t.after_offers t.after_desk || t.published) (is_through t.after_publish) t.after_publish t.archived t.after_archive none
        (subst
        (λ (a : Option ArchiveFacts). ArchivesBy (is_some a) (makes_note t.after_offers t.after_desk || t.published) (is_through t.after_publish) t.after_publish t.archived t.after_archive) none
        t.archives)
    told_where (Some side) is told = told_by side.is_told side refl is told

    turned_told : HasTold old → HasTold new
    turned_told told =
        told_behind t.after_archive new (behind_store door_facts link_facts old turn new t).archive through_behind (told_where old.archive refl told)

  all_told : (old : OwnerFacts D L) (turns : List Turn) (new : OwnerFacts D L) → TurnsTo (OwnerTurned door_facts link_facts) old turns new → HasTold old → HasTold new
  all_told old [] new all told = subst (λ (o : OwnerFacts D L). HasTold o) (sym all) told
  all_told old (turn ∷ turns) new all told = all_told all.0 turns new all.2 (turned_told old turn all.0 all.1 told)

  new_told : (store : Option QueueId) (opened : OwnerFacts D L) → opened.archive ≡ option_map new_archive store → HasTold opened
  new_told None opened is = subst (λ (a : Option ArchiveFacts). IfSome a (λ side. IsTold side opened)) (sym is) tt
  new_told (Some queue) opened is = some_told (new_archive queue) opened is (open_told (new_archive queue) opened (record { told = refl; notes = refl }))

  told_turns : (control : ControlFacts) (door : D) (connections : ℕ) (journal : Bool) (queues : List QueueId) (store : Option QueueId) (opened owner : OwnerFacts D L) (turns : List Turn)
      → IsOpened control door connections journal queues store opened → TurnsTo (OwnerTurned door_facts link_facts) opened turns owner → HasTold owner
  told_turns control door connections journal queues store opened owner turns new all =
      all_told opened turns owner all (new_told store opened (ap (λ (o : OwnerFacts D L). o.archive) new))

  ends_of : (owner : OwnerFacts D L) (archive : Option ArchiveFacts) → IfSome archive (λ side. IsTold side owner) → IfSome archive EndsOnce
  ends_of owner None told = tt
  ends_of owner (Some side) told = told.ends

  through_where : (owner : OwnerFacts D L) (archive : Option ArchiveFacts) → IfSome archive (λ side. IsTold side owner)
      → IfSome archive (λ side. IsTrue side.is_told → IsTrue (is_through owner))
  through_where owner None told = tt
  through_where owner (Some side) told = λ so. is_through_so owner (told.through so)

  -- from the opening on
  pub ends_once : (control : ControlFacts) (door : D) (connections : ℕ) (journal : Bool) (queues : List QueueId) (store : Option QueueId) (opened owner : OwnerFacts D L) (turns : List Turn)
      → IsOpened control door connections journal queues store opened → TurnsTo (OwnerTurned door_facts link_facts) opened turns owner → IfSome owner.archive EndsOnce
  ends_once control door connections journal queues store opened owner turns new all =
      ends_of owner owner.archive (told_turns control door connections journal queues store opened owner turns new all)

  pub told_through : (control : ControlFacts) (door : D) (connections : ℕ) (journal : Bool) (queues : List QueueId) (store : Option QueueId) (opened owner : OwnerFacts D L) (turns : List Turn)
      → IsOpened control door connections journal queues store opened → TurnsTo (OwnerTurned door_facts link_facts) opened turns owner
      → IfSome owner.archive (λ side. IsTrue side.is_told → IsTrue (is_through owner))
  told_through control door connections journal queues store opened owner turns new all =
      through_where owner owner.archive (told_turns control door connections journal queues store opened owner turns new all)
