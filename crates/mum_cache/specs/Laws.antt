-- What holds of all that is kept.
use Rattle.std.specs.Prelude.{◌≡◌, ℕ, ◌<◌, ◌↔◌, List, set, IsTrue, IsSome}
use Rattle.mum_base.specs.declared.number.{ChannelId.ChannelId, SessionId.SessionId}
use Rattle.mum_base.specs.declared.number.TheConstants.{PLACES, SLOTS}
use Rattle.mum_users.specs.Sessions.{session_of}
use Rattle.mum_state.specs.declared.edit.Edit.{Edit}
use Rattle.mum_state.specs.{After.all_fit, After.led_to, Proper.IsProper, State.StateValue}
use Rattle.mum_route.specs.declared.routes.TheConstants.{LOOPBACK}
use Rattle.mum_cache.specs.declared.{perms.PermEntry.PermEntry, routes.RouteEntry.RouteEntry, caches.Caches.Caches}
use Rattle.mum_cache.specs.{Caches.AreSound, Caches.no_caches, Places.slot_of}
use Rattle.mum_cache.specs.Perms.{ArePermsSound, IsThere, PermStands, answers, index_of, perm_at}
use Rattle.mum_cache.specs.Routes.{AreRoutesSound, RouteAnswers, RouteStands, route_entry_at, route_index_of, route_kept_at}

-- ---- soundness

-- what is sound at a state is sound at each to which edits lead that fit
abbrev pub SoundStays : Type 0
SoundStays =
    (state : StateValue) (edits : List Edit) (caches : Caches) → IsProper state → IsTrue (all_fit state edits)
    → AreSound state caches → AreSound (led_to state edits) caches

-- where nothing is kept all of it is
abbrev pub NothingIsSound : Type 0
NothingIsSound = (state : StateValue) → AreSound state no_caches

-- ---- the entry that is asked for

-- one of a session and a channel that are there answers exactly where it is valid
abbrev pub AnswersWhereItStands : Type 0
AnswersWhereItStands =
    (state : StateValue) (entry : PermEntry) → IsTrue entry.used → IsThere state entry.session entry.channel
    → IsTrue (answers state entry.session entry.channel entry) ↔ PermStands state (slot_of state entry.session) entry

-- and so does a kept route of a speaker that is there, for a target that is not loopback
abbrev pub RoutesAnswerWhereTheyStand : Type 0
RoutesAnswerWhereTheyStand =
    (state : StateValue) (speaker : SessionId) (target : ℕ) (entries : List RouteEntry)
    → IsSome (session_of state.roster speaker)
    → target < LOOPBACK → IsTrue (route_kept_at state speaker target entries).used
    → (route_kept_at state speaker target entries).speaker ≡ speaker
    → RouteAnswers state speaker target entries
    ↔ RouteStands state (slot_of state speaker) (route_kept_at state speaker target entries)

-- ---- the others

-- a new answer takes no entry whose session and channel are both there, but that of this session and channel
abbrev pub OtherPermsStay : Type 0
OtherPermsStay =
    (state : StateValue) (entries : List PermEntry) (session : SessionId) (channel : ChannelId) (new : PermEntry)
    (slot place : ℕ)
    → IsProper state → ArePermsSound state entries → IsThere state session channel → slot < SLOTS → place < PLACES
    → IsTrue (perm_at entries slot place).used
    → IsThere state (perm_at entries slot place).session (perm_at entries slot place).channel
    → ((perm_at entries slot place).session ≡ session → (perm_at entries slot place).channel ≡ channel → ⊥)
    → perm_at (set entries (index_of state session channel) new) slot place ≡ perm_at entries slot place

-- nor one whose speaker is there, but that of this speaker and target
abbrev pub OtherRoutesStay : Type 0
OtherRoutesStay =
    (state : StateValue) (entries : List RouteEntry) (speaker : SessionId) (target : ℕ) (new : RouteEntry)
    (slot other : ℕ)
    → IsProper state → AreRoutesSound state entries → IsSome (session_of state.roster speaker) → target < LOOPBACK
    → slot < SLOTS → other < LOOPBACK → IsTrue (route_entry_at entries slot other).used
    → IsSome (session_of state.roster (route_entry_at entries slot other).speaker)
    → ((route_entry_at entries slot other).speaker ≡ speaker → other ≡ target → ⊥)
    → route_entry_at (set entries (route_index_of state speaker target) new) slot other
    ≡ route_entry_at entries slot other
