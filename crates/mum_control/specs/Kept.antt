-- What the control owner keeps true of its parts.
use Rattle.std.specs.Prelude.{◌≡◌, ℕ, ◌<◌, ◌≤◌, ◌==◌, not, Bool, List, [], ◌∷◌, length, Option, is_some, IsSomeAnd, IsTrue, ⊤}
use Rattle.std.specs.{List.AllByRecursion, List.list_any, Option.option_map}
use Rattle.mum_base.specs.declared.number.{ChannelId.ChannelId, SessionId.SessionId, Slot.Slot, TheConstants.SLOTS}
use Rattle.mum_base.specs.declared.perm.Perm.{Perm}
use Rattle.mum_base.specs.Perm.{Holds}
use Rattle.mum_users.specs.Sessions.{next_join, session_of}
use Rattle.mum_outbox.specs.Facts.{PassFacts as BoxFacts}
use Rattle.mum_state.specs.{Permissions.perm_of, State.StateValue}
use Rattle.mum_published.specs.{Calls.appended, Calls.latest, Facts.Opening, Facts.PublisherFacts}
use Rattle.mum_notify.specs.declared.notice.Notice.{Notice}
use Rattle.mum_parcel.specs.{Facts.PostFacts, Rules.Reports}

-- the session is in the state
abbrev pub is_there : StateValue → SessionId → Bool
is_there state session = is_some (session_of state.roster session)

-- the slot of a session
abbrev pub slot_of : StateValue → SessionId → Option Slot
slot_of state session = option_map (λ user. user.slot) (session_of state.roster session)

-- the slot that the next session that joins gets; none where no more may join
abbrev pub next_slot : StateValue → Option Slot
next_slot state = option_map (λ next. next.1) (next_join state.roster)

-- the session has this permission in the channel, and both are in the state
abbrev pub MayIn : StateValue → SessionId → Perm → ChannelId → Type 0
MayIn state session perm channel = IsSomeAnd (perm_of state session channel) (λ held. Holds held perm.0)

-- the session is one of these
abbrev pub is_listed : List SessionId → SessionId → Bool
is_listed sessions session = list_any (λ listed. listed.0 == session.0) sessions

-- no session is listed twice
abbrev pub AreApart : List SessionId → Type 0
AreApart [] = ⊤
AreApart (session ∷ sessions) = IsTrue (not (is_listed sessions session)) × AreApart sessions

-- each session is listed once and is in the state
pub record IsListing (state : StateValue) (sessions : List SessionId) : Type 0 where
  pub apart : AreApart sessions
  pub present : AllByRecursion (λ session. IsTrue (is_there state session)) sessions

-- the notice is for a slot that has a box
abbrev pub IsInSlot : Notice → Type 0
IsInSlot notice = notice.slot.0 < SLOTS

-- each pending notice has a box and reports an accepted edit, and there is room to list each session
pub record IsKept (opening : Opening) (publisher : PublisherFacts) (posts : List (BoxFacts PostFacts))
    (pending : List Notice) (lagged : List SessionId) (room : ℕ) : Type 0 where
  pub same_opening : publisher.opening ≡ opening
  pub box_each : length posts ≡ SLOTS
  pub in_slots : AllByRecursion IsInSlot pending
  pub of_edits : AllByRecursion (Reports opening (appended publisher)) pending
  pub listing : IsListing (latest publisher) lagged
  pub room_is : SLOTS ≤ room
