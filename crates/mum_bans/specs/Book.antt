-- The bans of a book after what happened to it.
use Rattle.std.specs.Prelude.{◌≡◌, ℕ, ◌-◌, List, [], ◌∷◌, ◌++◌, length, map, fold, drop, Option, Some, None, unwrap_or, if◌then◌else◌}
use Rattle.mum_bans.specs.declared.{ban.Ban.Ban, ban_entry.BanEntry.BanEntry}
use Rattle.mum_bans.specs.declared.limits.TheConstants.{BAN_LIMIT, MASK_LIMIT}
use Rattle.mum_bans.specs.{Ban.is_same, Cut.IsCut}

-- What happens to a book: its bans are set to these entries at this moment, or one ban is added, of this address, for
-- this reason, at this moment.
pub data Event : Type 0 where
  Sets : List BanEntry → ℕ → Event
  Adds : List ℕ → List ℕ → ℕ → Event

-- the ban that an entry asks for, if it starts at this moment
abbrev pub ban_from : ℕ → BanEntry → Ban
ban_from moment entry = record {
  address = unwrap_or entry.address [];
  mask = unwrap_or entry.mask 0;
  name = unwrap_or entry.name [];
  hash = unwrap_or entry.hash [];
  reason = unwrap_or entry.reason [];
  duration = unwrap_or entry.duration 0;
  start = moment;
}

-- the start of the first of these bans that is the same, or the ban's own
abbrev pub first_start : List Ban → Ban → ℕ
first_start [] ban = ban.start
first_start (other ∷ others) ban = if is_same other ban then other.start else first_start others ban

-- the ban that an entry asks for: where it is there already, it keeps its start
abbrev pub set_ban : List Ban → ℕ → BanEntry → Ban
set_ban bans moment entry = record (ban_from moment entry) { start = first_start bans (ban_from moment entry) }

-- a ban of one address without end
abbrev pub added_ban : List ℕ → List ℕ → ℕ → Ban
added_ban address reason moment = record {
  address = address;
  mask = MASK_LIMIT;
  name = [];
  hash = [];
  reason = reason;
  duration = 0;
  start = moment;
}

-- the last bans, as many as a book may hold
abbrev pub last_bans : List Ban → List Ban
last_bans bans = drop (length bans - BAN_LIMIT) bans

-- the bans after one event
abbrev pub after : List Ban → Event → List Ban
after bans (Sets entries moment) = map (set_ban bans moment) entries
after bans (Adds address reason moment) = last_bans (bans ++ added_ban address reason moment ∷ [])

-- the bans after all events, from none on
abbrev pub bans_of : List Event → List Ban
bans_of events = fold after [] events

-- the bans after a call: it is an event, or leaves them as they were
abbrev pub after_call : List Ban → Option Event → List Ban
after_call bans None = bans
after_call bans (Some event) = after bans event

-- ---- a book as contracts see it

-- its bans in their order, and the reason of the ban for which there is room
pub record Book : Type 0 where
  pub bans : List Ban
  pub reserved : Option (List ℕ)

-- there is room for a ban with as much of the text as may be its reason
pub record Reserves (old : Book) (text : List ℕ) (new : Book) : Type 0 where
  pub reason : List ℕ
  pub is_cut : IsCut text reason
  pub is : new ≡ record old { reserved = Some reason }

-- the ban for which there was room is added
abbrev pub with_added : Book → List ℕ → ℕ → Book
with_added book address moment = record {
  bans = after book.bans (Adds address (unwrap_or book.reserved []) moment);
  reserved = None;
}

-- ---- many calls, one after the other

-- a call: the event that it is, if it is one, and the bans after it
pub record Call : Type 0 where
  pub event : Option Event
  pub bans : List Ban

-- each call leaves the bans as its event makes them
abbrev pub AreCalls : List Ban → List Call → Type 0
AreCalls bans [] = Unit {0}
AreCalls bans (call ∷ calls) = (call.bans ≡ after_call bans call.event) × AreCalls call.bans calls

abbrev pub bans_after : List Ban → List Call → List Ban
bans_after bans [] = bans
bans_after bans (call ∷ calls) = bans_after call.bans calls

abbrev pub with_event : Option Event → List Event → List Event
with_event None events = events
with_event (Some event) events = event ∷ events

abbrev pub events_of : List Call → List Event
events_of [] = []
events_of (call ∷ calls) = with_event call.event (events_of calls)
