-- What holds of all edits and of all lists of edits.
use Rattle.std.specs.Prelude.{◌≡◌, ℕ, ◌≤◌, ◌↔◌, false, not, List, [], ◌∷◌, Some, IsTrue, ⊤}
use Rattle.std.specs.{List.list_any, Option.option_map}
use Rattle.mum_base.specs.declared.number.{ChannelId.ChannelId, SessionId.SessionId, Slot.Slot}
use Rattle.mum_tree.specs.Rows.{is_there, row_of}
use Rattle.mum_users.specs.declared.user.User.{User}
use Rattle.mum_users.specs.{Sessions.session_of, State.has_number}
use Rattle.mum_state.specs.declared.edit.Edit.{Edit}
use Rattle.mum_state.specs.{After.all_fit, After.led_to, Applied.applied, Counts.slot_count}
use Rattle.mum_state.specs.{Fits.fits, Fits.gives_right_numbers, Named.names_there}
use Rattle.mum_state.specs.{Permissions.may_speak, Permissions.perm_of, Proper.IsProper, Routed.route_inputs}
use Rattle.mum_state.specs.{Set.set_by, State.Counts, State.StateValue, Suppression.is_cleared, Suppression.is_set_anew}

-- edits that fit lead from a proper state to a proper one
abbrev pub KeepsProper : Type 0
KeepsProper =
    (state : StateValue) (edits : List Edit) → IsProper state → IsTrue (all_fit state edits)
    → IsProper (led_to state edits)

-- one that names what is there, and gives right numbers, fits exactly where what it sets is proper and what it leaves is
abbrev pub FitsWhereProper : Type 0
FitsWhereProper =
    (state : StateValue) (edit : Edit) → IsProper state → IsTrue (names_there state edit)
    → IsTrue (gives_right_numbers state edit)
    → IsTrue (fits state edit) ↔ (IsProper (set_by state edit) × IsProper (applied state edit))

-- each number is at most that at its place
abbrev pub AreAtMost : List ℕ → List ℕ → Type 0
AreAtMost [] [] = ⊤
AreAtMost (count ∷ counts) (later ∷ laters) = (count ≤ later) × AreAtMost counts laters
AreAtMost counts laters = ⊥

-- no count is lower, and none of a slot is
pub record AreCountsOn (before later : Counts) : Type 0 where
  pub revision : before.revision ≤ later.revision
  pub policy : before.policy ≤ later.policy
  pub routing : before.routing ≤ later.routing
  pub slots : AreAtMost before.slots later.slots

-- no count falls by an edit, whatever it is
abbrev pub CountsNeverFall : Type 0
CountsNeverFall = (state : StateValue) (edits : List Edit) → AreCountsOn state.counts (led_to state edits).counts

-- the channel has this place
abbrev pub HasPlace : StateValue → ChannelId → ℕ → Type 0
HasPlace state channel place = option_map (λ row. row.place) (row_of state.tree.channels channel) ≡ Some place

-- the session is in this slot
abbrev pub IsInSlot : StateValue → SessionId → Slot → Type 0
IsInSlot state session slot = option_map (λ user. user.slot) (session_of state.roster session) ≡ Some slot

-- while a session is there it keeps its slot, and a channel keeps its place
abbrev pub SeatsStand : Type 0
SeatsStand =
    (state : StateValue) (edits : List Edit) → IsProper state → IsTrue (all_fit state edits)
    → ((session : SessionId) (slot later : Slot) → IsInSlot state session slot
    → IsInSlot (led_to state edits) session later → slot ≡ later)
    × ((channel : ChannelId) (place later : ℕ) → HasPlace state channel place
    → HasPlace (led_to state edits) channel later → place ≡ later)

-- the greatest numbers that channels and sessions had never fall
abbrev pub NumbersNeverFall : Type 0
NumbersNeverFall =
    (state : StateValue) (edits : List Edit) → IsTrue (all_fit state edits)
    → (state.tree.greatest ≤ (led_to state edits).tree.greatest)
    × (state.roster.last ≤ (led_to state edits).roster.last)

-- who joins, enters another channel or has its tokens set is suppressed exactly where it may not speak in its channel
-- after the edit, and so is everybody where a policy is set; but for whom the same edit lets speak
abbrev pub SuppressedWhereSilent : Type 0
SuppressedWhereSilent =
    (state : StateValue) (edit : Edit) (session : SessionId) (user : User) → IsProper state → IsTrue (fits state edit)
    → session_of (applied state edit).roster session ≡ Some user
    → IsTrue (is_set_anew state.roster.sessions edit user) → is_cleared edit user ≡ false
    → user.suppress ≡ not (may_speak (applied state edit) user)

-- a session or a channel that is there, under a number not above the greatest that was given before, was there before
abbrev pub PresentWasPresent : Type 0
PresentWasPresent =
    (state : StateValue) (edits : List Edit) → IsTrue (all_fit state edits)
    → ((session : SessionId) → session.0 ≤ state.roster.last
    → IsTrue (list_any (has_number session) (led_to state edits).roster.sessions)
    → IsTrue (list_any (has_number session) state.roster.sessions))
    × ((channel : ChannelId) → channel.0 ≤ state.tree.greatest
    → IsTrue (is_there (led_to state edits).tree.channels channel) → IsTrue (is_there state.tree.channels channel))

-- what a session may do in a channel is the same while it is there, its slot's count is the same and the policy count is
abbrev pub PermissionsStand : Type 0
PermissionsStand =
    (state : StateValue) (edits : List Edit) (session : SessionId) (slot : Slot) (channel : ChannelId)
    → IsProper state → IsTrue (all_fit state edits)
    → IsInSlot state session slot → IsInSlot (led_to state edits) session slot
    → state.counts.policy ≡ (led_to state edits).counts.policy
    → slot_count state slot ≡ slot_count (led_to state edits) slot
    → perm_of state session channel ≡ perm_of (led_to state edits) session channel

-- what a route reads is the same while the routing count is
abbrev pub RoutesStand : Type 0
RoutesStand =
    (state : StateValue) (edits : List Edit) → IsProper state → IsTrue (all_fit state edits)
    → state.counts.routing ≡ (led_to state edits).counts.routing
    → route_inputs state ≡ route_inputs (led_to state edits)
