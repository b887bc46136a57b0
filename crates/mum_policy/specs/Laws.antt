-- What holds of every answer of the walk, in words of its own.
use Rattle.std.specs.Prelude.{◌≡◌, ℕ, ◌+◌, ◌^◌, ◌<◌, ◌&&◌, ◌||◌, Bool, true, false, not, List, [], ◌∷◌, ◌++◌, bit_and, bit_or, filter, find, reverse, Option, Some, None, if◌then◌else◌}
use Rattle.std.specs.List.{All, list_any, slice_get}
use Rattle.mum_base.specs.Perm.{Holds, without_bits}
use Rattle.mum_base.specs.declared.number.{ChannelId.ChannelId, TheConstants.AccountId.SUPER_USER}
use Rattle.mum_base.specs.declared.perm.TheConstants.Perm.{ALL, BY_WRITE, ROOT_ONLY, SPEAK, START, TRAVERSE, WHISPER, WRITE}
use Rattle.mum_policy.specs.declared.{policy.AclEntry.AclEntry, policy.ChannelPolicy.ChannelPolicy, walk.Walk.Walk}
use Rattle.mum_policy.specs.Member.{Actor, PolicyMap}
use Rattle.mum_policy.specs.Walk.{along, applies, finished, full_set, holds, is_account, is_asked, matches, on_root, perm, walk_start}

-- ---- one permission

-- it is one bit of 32
abbrev pub IsPermission : ℕ → Type 0
IsPermission bits = (number : ℕ) × (number < 32) × (bits ≡ 2 ^ number)

-- the entry grants or denies it
abbrev pub names_permission : ℕ → AclEntry → Bool
names_permission permission entry = holds entry.grant.0 permission || holds entry.deny.0 permission

-- the last of these entries that names it
abbrev pub last_naming : ℕ → List AclEntry → Option AclEntry
last_naming permission entries = find (names_permission permission) (reverse entries)

-- an entry leaves it held where it does not deny it; where there is no entry, it is held as it was before
abbrev pub held_by : ℕ → Bool → Option AclEntry → Bool
held_by permission before None = before
held_by permission before (Some entry) = not (holds entry.deny.0 permission)

-- whether it is held after these entries: the last that names it decides
abbrev pub held_after : ℕ → Bool → List AclEntry → Bool
held_after permission before entries = held_by permission before (last_naming permission entries)

-- ---- the entries on the way

-- a channel without a policy has none
abbrev pub entries_of : Option ChannelPolicy → List AclEntry
entries_of None = []
entries_of (Some policy) = policy.acls

-- it inherits nothing from the channels above
abbrev pub starts_over : Option ChannelPolicy → Bool
starts_over None = false
starts_over (Some policy) = not policy.inherit_acls

-- the entries that match, of the channel at this place of the path
abbrev pub matching_at : PolicyMap → List ChannelId → Actor → ℕ → ChannelId → List AclEntry
matching_at policies path who place channel =
    filter (matches policies path who place) (entries_of (policies channel))

-- the entries that match, of the channels from this place of the path down
unfoldable pub matching : PolicyMap → List ChannelId → Actor → ℕ → List ChannelId → List AclEntry
matching policies path who place [] = []
matching policies path who place (channel ∷ below) =
    matching_at policies path who place channel ++ matching policies path who (place + 1) below

-- The entries that count: those that match and apply, of each channel below which none starts over. So they
-- are of the channels from the last that starts over, or from the root, down to the asked one.
unfoldable pub counting : PolicyMap → List ChannelId → Actor → ℕ → List ChannelId → List AclEntry
counting policies path who place [] = []
counting policies path who place (channel ∷ below) =
    (if list_any (λ lower. starts_over (policies lower)) below then []
    else filter (applies (is_asked below)) (matching_at policies path who place channel))
    ++ counting policies path who (place + 1) below

-- whether a permission is held after the entries that count, of which the start set is the beginning
abbrev pub is_held : PolicyMap → List ChannelId → Actor → ℕ → Bool
is_held policies path who permission =
    held_after permission (holds START.0 permission) (counting policies path who 0 path)

-- ---- the way

-- these entries, which match, leave one of the two marks, whatever their flags
abbrev pub leaves_a_mark : List AclEntry → Bool
leaves_a_mark entries = held_after TRAVERSE.0 true entries || held_after WRITE.0 false entries

-- the session passes the last of these channels, which begin the path
abbrev pub passes : PolicyMap → List ChannelId → Actor → List ChannelId → Bool
passes policies path who channels = leaves_a_mark (matching policies path who 0 channels)

-- it passes each channel of the path
abbrev pub IsWayOpen : PolicyMap → List ChannelId → Actor → Type 0
IsWayOpen policies path who =
    (above below : List ChannelId) (channel : ChannelId) → path ≡ above ++ channel ∷ below
    → passes policies path who (above ++ channel ∷ []) ≡ true

-- the session is of account 0
abbrev pub is_super_user : Actor → Bool
is_super_user who = is_account who.account SUPER_USER

-- ---- hypotheses on policies

-- this holds of each entry of each policy
abbrev pub EachEntry : PolicyMap → (AclEntry → Type 0) → Type 0
EachEntry policies P =
    (channel : ChannelId) (policy : ChannelPolicy) → policies channel ≡ Some policy → All P policy.acls

-- the denies are numbers of 32 bits, as every `Perm` of the code is
abbrev pub AreDeniesIn32Bits : PolicyMap → Type 0
AreDeniesIn32Bits policies = EachEntry policies (λ entry. entry.deny.0 < 2 ^ 32)

-- only permissions that exist are granted
abbrev pub AreGrantsKnown : PolicyMap → Type 0
AreGrantsKnown policies = EachEntry policies (λ entry. Holds ALL.0 entry.grant.0)

-- ---- the laws

-- In the set at the end of a walk, a permission is held exactly where the last entry that counts and names it
-- does not deny it, and, where none names it, exactly where the start set has it.
abbrev pub LastNamingEntryDecides : Type 0
LastNamingEntryDecides =
    (policies : PolicyMap) (path : List ChannelId) (who : Actor) (permission : ℕ) (end : Walk)
    → AreDeniesIn32Bits policies → IsPermission permission → along policies path who 0 path walk_start ≡ Some end
    → holds end.set.0 permission ≡ is_held policies path who permission

-- A session that passes each channel may do in the last what the entries leave it, and with Write the rest;
-- off the root, nothing that means something on the root alone.
abbrev pub EntriesDecide : Type 0
EntriesDecide =
    (policies : PolicyMap) (path : List ChannelId) (who : Actor) (permission : ℕ)
    → AreDeniesIn32Bits policies → IsPermission permission → is_super_user who ≡ false → IsWayOpen policies path who
    → let held = is_held policies path who in
    holds (perm policies path who) permission
    ≡ ((on_root path || not (holds ROOT_ONLY.0 permission))
    && (held permission || (held WRITE.0 && holds (full_set (on_root path)) permission)))

-- What the end of a walk adds to a set is nothing where the set lacks Write, else what of `BY_WRITE`, and on
-- the root of `ROOT_ONLY`, it lacks.
abbrev pub WriteAddsTheRest : Type 0
WriteAddsTheRest =
    (root : Bool) (set permission : ℕ) → IsPermission permission → holds set permission ≡ false
    → holds (finished root set) permission
    ≡ (holds set WRITE.0 && (holds BY_WRITE.0 permission || (root && holds ROOT_ONLY.0 permission)))

-- What it takes from the set is, off the root, what of `ROOT_ONLY` the set has.
abbrev pub NothingElseIsTaken : Type 0
NothingElseIsTaken =
    (root : Bool) (set permission : ℕ) → IsPermission permission → holds set permission ≡ true
    → holds (finished root set) permission ≡ (root || not (holds ROOT_ONLY.0 permission))

-- nobody has a permission that does not exist
abbrev pub NobodyHasMore : Type 0
NobodyHasMore =
    (policies : PolicyMap) (path : List ChannelId) (who : Actor) → AreGrantsKnown policies
    → Holds ALL.0 (perm policies path who)

-- nobody has one of the permissions of the root anywhere else
abbrev pub NothingOfTheRootElsewhere : Type 0
NothingOfTheRootElsewhere =
    (policies : PolicyMap) (path : List ChannelId) (who : Actor) → on_root path ≡ false
    → bit_and (perm policies path who) ROOT_ONLY.0 ≡ 0

-- Where a channel of the path leaves neither mark, nothing is held at the end of the path, be it that channel or
-- one below. The entries are those that match for the end of the path.
abbrev pub NoWayThrough : Type 0
NoWayThrough =
    (policies : PolicyMap) (path : List ChannelId) (who : Actor) (above below : List ChannelId) (channel : ChannelId)
    → is_super_user who ≡ false → path ≡ above ++ channel ∷ below
    → passes policies path who (above ++ channel ∷ []) ≡ false → perm policies path who ≡ 0

-- each entry of these channels, which begin both paths, matches for the end of the one as for the end of the other
abbrev pub MatchAlike : PolicyMap → Actor → List ChannelId → List ChannelId → List ChannelId → Type 0
MatchAlike policies who channels path longer =
    (place : ℕ) (channel : ChannelId) → slice_get channels place ≡ Some channel
    → All (λ entry. matches policies longer who place entry ≡ matches policies path who place entry)
    (entries_of (policies channel))

-- So nothing is held below the end of the path either, if the entries down to that channel match alike there.
abbrev pub NoWayBelow : Type 0
NoWayBelow =
    (policies : PolicyMap) (path : List ChannelId) (who : Actor) (above below lower : List ChannelId)
    (channel : ChannelId) → is_super_user who ≡ false → path ≡ above ++ channel ∷ below
    → passes policies path who (above ++ channel ∷ []) ≡ false
    → MatchAlike policies who (above ++ channel ∷ []) path (path ++ lower) → perm policies (path ++ lower) who ≡ 0

-- SuperUser may do everything but Speak and Whisper, whatever the lists say; off the root, nothing that means
-- something on the root alone.
abbrev pub SuperUserMayAll : Type 0
SuperUserMayAll =
    (policies : PolicyMap) (path : List ChannelId) (who : Actor) → is_super_user who ≡ true
    → perm policies path who
    ≡ without_bits (if on_root path then ALL.0 else without_bits ALL.0 ROOT_ONLY.0) (bit_or SPEAK.0 WHISPER.0)
