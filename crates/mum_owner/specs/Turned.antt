-- The turn of an owner, as the chain of its parts.
use Rattle.std.specs.Prelude.{◌≡◌, ◌+◌, ◌==◌, ◌&&◌, ◌||◌, ◌⊎◌, ℕ, not, Bool, true, false, List, length, is_some, is_none, Option, Some, None, MatchBool, if◌then◌else◌}
use Rattle.std.specs.Option.{option_and_then}
use Rattle.mum_io.specs.{Door.AcceptCounts, Door.DoorFacts, Door.given_after, Link.LinkFacts}
use Rattle.mum_io.specs.declared.door.Accept.{Accept}
use Rattle.mum_crew.specs.declared.role.Turn.{Turn}
use Rattle.mum_doorway.specs.Asking.{failed_by, stopped_by}
use Rattle.mum_published.specs.Calls.{all_published}
use Rattle.mum_control.specs.{Commanded.note_of, Facts.ControlFacts, Posting.PostsNext, Posting.due_notices}
use Rattle.mum_control.specs.declared.posted.Posted.{Posted}
use Rattle.mum_keeper.specs.Archive.{OffersNote, TellsStore, is_archive_told}
use Rattle.mum_owner.specs.{Banning.has_note, Facts.GuestsFacts, Facts.KeptFacts, Facts.OwnerFacts}
use Rattle.mum_owner.specs.{Ringing.OffersKept, Ringing.are_told, Serving.Rests, Serving.ServesDesk, Serving.blocker}
use Rattle.mum_owner.specs.Written.{refused}
use Rattle.mum_owner.specs.Guests.{are_all_given, are_none_open, entered, has_room, have_all_left, lag_for, lagging, with_lag_noted}
use Rattle.mum_owner.specs.declared.{guests.Guest.Guest, kept.Lag.Lag}
use Rattle.mum_control.specs.declared.posted.Posted.TheVariants as posted
use Rattle.mum_crew.specs.declared.role.Turn.TheVariants as turns
use Rattle.mum_io.specs.declared.door.Accept.TheVariants as accepted

-- a notice was taken
abbrev pub has_posted : Posted → Bool
has_posted posted.None = false
has_posted others = true

-- the lag item for the connection of a session that was found to lag
abbrev pub lag_at : Posted → List Guest → Option Lag
lag_at (posted.Lagged session) rows = lagging session rows
lag_at others rows = None

module _ {D L : Type 0} where
  -- what is kept was offered
  pub record Offered (old : OwnerFacts D L) (worked : Bool) (new : OwnerFacts D L) : Type 0 where
    pub offers : OffersKept old.bells old.kept old.is_ending worked new.bells new.kept
    pub others : new ≡ record old { bells = new.bells; kept = new.kept }

  -- ---- lag items

  -- a lag item is made and kept, if there is one to make
  abbrev pub with_lag : Option Lag → OwnerFacts D L → OwnerFacts D L
  with_lag None owner = owner
  with_lag (Some lag) owner =
      record owner { guests = with_lag_noted lag.connection owner.guests; kept = record owner.kept { lag = Some lag } }

  -- where a login waits for the slot of an open connection and no lag item is kept: the one for that connection
  abbrev pub pressing : OwnerFacts D L → Option Lag
  pressing owner =
      if length owner.logins == 0 || is_some owner.kept.lag then None else option_and_then lag_for (blocker owner)

  abbrev pub Presses : OwnerFacts D L → Bool → OwnerFacts D L → Type 0
  Presses old worked new = (worked ≡ is_some (pressing old)) × (new ≡ with_lag (pressing old) old)

  -- ---- publishing and posting

  -- all that was not published is published; or nothing is, since nothing was to be published or memory ran out
  abbrev pub Publishes : OwnerFacts D L → Bool → OwnerFacts D L → Type 0
  Publishes old true new =
      ((length old.control.publisher.pending == 0) ≡ false)
      × (new ≡ record old { control = record old.control { publisher = all_published old.control.publisher } })
  Publishes old false new = new ≡ old

  -- the first notice that was to be posted was, if there was one. The first Lagged of a session that is kept for an open
  -- connection makes a lag item for it
  pub record PostsOne (old : OwnerFacts D L) (worked : Bool) (new : OwnerFacts D L) : Type 0 where
    pub answer : Posted
    pub after : ControlFacts
    pub posts : PostsNext old.control (due_notices old.control) answer after
    pub so : worked ≡ has_posted answer
    pub others : new ≡ with_lag (lag_at answer old.guests.rows) (record old { control = after })

  -- nothing is posted where a lag item is kept
  abbrev pub PostsNotice : OwnerFacts D L → Bool → OwnerFacts D L → Type 0
  PostsNotice old worked new = MatchBool (is_some old.kept.lag) (Rests old worked new) (PostsOne old worked new)

  -- ---- the door

  -- the door ended, failed, or has given all its connections
  abbrev pub is_over : OwnerFacts D L → Bool
  is_over owner = owner.doorway.stopped || are_all_given owner.guests

  -- the door is not to be asked: a connection is kept, no more come, or as many as may be are open
  abbrev pub is_not_to_ask : OwnerFacts D L → Bool
  is_not_to_ask owner = is_some owner.kept.coming || (is_over owner || not (has_room owner.guests))

  -- the owner ends once no more connections come and none is kept
  abbrev pub ended : OwnerFacts D L → OwnerFacts D L
  ended owner = if is_over owner && is_none owner.kept.coming then record owner { is_ending = true } else owner

  -- no more connections come, each has closed, and each bell was notified, that of the store too, where there is one
  abbrev pub has_ended : OwnerFacts D L → Bool
  has_ended owner =
      is_over owner && (have_all_left owner.guests && (are_told owner.bells && is_archive_told owner.archive))

  -- ---- the store

  -- the reply that was made between these has a note
  abbrev pub makes_note : OwnerFacts D L → OwnerFacts D L → Bool
  makes_note old new = not (is_some old.kept.reply) && has_note new.kept.reply

  -- nothing is to come that could give a note: no more connections come, none is open, no leave is to be tried again, and all
  -- is published
  abbrev pub is_through : OwnerFacts D L → Bool
  is_through owner =
      is_over owner
      && (are_none_open owner.guests && (is_none owner.desk.leave && (length owner.control.publisher.pending == 0)))

  -- a further note, of all that is published, is offered once to the bell of the store, and not kept. All is published before
  pub record OffersFurther (old : OwnerFacts D L) (took : Bool) (new : OwnerFacts D L) : Type 0 where
    pub offers : OffersNote (note_of old.control.publisher) old.archive took new.archive
    pub others : new ≡ record old { archive = new.archive }

  -- memory ran out for a further note: the store gets none, and the owner says so at its end
  abbrev pub LacksNote : OwnerFacts D L → Bool → OwnerFacts D L → Type 0
  LacksNote old took new = (took ≡ false) × (new ≡ record old { scribe = refused old.scribe })

  -- that no note comes any more is offered once to the bell of the store, unless it took that before
  pub record EndsNotes (old : OwnerFacts D L) (took : Bool) (new : OwnerFacts D L) : Type 0 where
    pub tells : TellsStore old.archive took new.archive
    pub others : new ≡ record old { archive = new.archive }

  abbrev pub ArchivesBy : (there noted through : Bool) → OwnerFacts D L → Bool → OwnerFacts D L → Type 0
  ArchivesBy false noted through old worked new = Rests old worked new
  ArchivesBy true true through old worked new = OffersFurther old worked new ⊎ LacksNote old worked new
  ArchivesBy true false true old worked new = EndsNotes old worked new
  ArchivesBy true false false old worked new = Rests old worked new

  -- where there is a store: a turn that gave a note makes a further one for it; and any other, once nothing is to come that
  -- could give one, has that sent to it
  abbrev pub Archives : (noted : Bool) → OwnerFacts D L → Bool → OwnerFacts D L → Type 0
  Archives noted old worked new = ArchivesBy (is_some old.archive) noted (is_through old) old worked new

abbrev pub guests_by : {L : Type 0} → (L → LinkFacts) → Accept L → GuestsFacts → GuestsFacts
guests_by link_facts (accepted.Conn link) guests = entered (link_facts link).address guests
guests_by link_facts others guests = guests

abbrev pub kept_by : {L : Type 0} → Accept L → ℕ → KeptFacts L → KeptFacts L
kept_by (accepted.Conn link) connection kept =
    record kept { coming = Some (record { connection = connection; link = link }) }
kept_by others connection kept = kept

abbrev pub has_answered : {L : Type 0} → Accept L → Bool
has_answered accepted.NotYet = false
has_answered others = true

-- a turn is done where the owner has ended, and worked where one of its parts did
abbrev pub turn_of : Bool → Bool → Turn
turn_of true worked = turns.Done
turn_of false true = turns.Worked
turn_of false false = turns.Idle

module _ {D L : Type 0} (door_facts : D → DoorFacts) (link_facts : L → LinkFacts) where
  -- the door was asked once: a connection that it gave gets the next number and is kept, and no more come once it ended
  -- or failed
  pub record AsksOnce (old : OwnerFacts D L) (worked : Bool) (new : OwnerFacts D L) : Type 0 where
    pub answer : Accept L
    pub counted : AcceptCounts answer (door_facts old.doorway.door).counts (door_facts new.doorway.door).counts
    pub gave : (door_facts new.doorway.door).given ≡ given_after answer (door_facts old.doorway.door).given
    pub stopped : new.doorway.stopped ≡ stopped_by answer false
    pub failed : new.doorway.failed ≡ failed_by answer old.doorway.failed
    pub so : worked ≡ has_answered answer
    pub others : new ≡ record old {
      doorway = new.doorway;
      guests = guests_by link_facts answer old.guests;
      kept = kept_by answer (old.guests.given + 1) old.kept;
    }

  abbrev pub Asks : (rests : Bool) → OwnerFacts D L → Bool → OwnerFacts D L → Type 0
  Asks true old worked new = Rests old worked new
  Asks false old worked new = AsksOnce old worked new

  -- ---- the whole turn

  -- a turn did each of its parts at most once, in this order, each at what the one before left
  pub record OwnerTurned (old : OwnerFacts D L) (turn : Turn) (new : OwnerFacts D L) : Type 0 where
    pub offered : Bool
    pub served : Bool
    pub pressed : Bool
    pub published : Bool
    pub archived : Bool
    pub posted : Bool
    pub came : Bool
    pub after_offers : OwnerFacts D L
    pub after_desk : OwnerFacts D L
    pub after_press : OwnerFacts D L
    pub after_publish : OwnerFacts D L
    pub after_archive : OwnerFacts D L
    pub after_post : OwnerFacts D L
    pub after_door : OwnerFacts D L
    pub offers : Offered old offered after_offers
    pub serves : ServesDesk after_offers served after_desk
    pub presses : Presses after_desk pressed after_press
    pub publishes : Publishes after_press published after_publish
    pub archives : Archives (makes_note after_offers after_desk || published) after_publish archived after_archive
    pub posts : PostsNotice after_archive posted after_post
    pub asks : Asks (is_not_to_ask after_post) after_post came after_door
    pub ends : new ≡ ended after_door
    pub came_to : turn
        ≡ turn_of (has_ended new) (offered || (served || (pressed || (published || (archived || (posted || came))))))
