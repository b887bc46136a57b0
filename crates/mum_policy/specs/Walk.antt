-- What a session may do in a channel: "ACL" of the Murmur manual.
use Rattle.std.specs.Prelude.{ℕ, ◌+◌, ◌==◌, ◌&&◌, ◌||◌, ◌≡◌, Bool, true, false, not, List, [], ◌∷◌, length, reverse, bit_and, bit_or, Option, Some, None, if◌then◌else◌}
use Rattle.mum_base.specs.Perm.{without_bits}
use Rattle.mum_base.specs.declared.number.{AccountId.AccountId, ChannelId.ChannelId, TheConstants.AccountId.SUPER_USER}
use Rattle.mum_base.specs.declared.{number.TheConstants.ChannelId.ROOT, perm.Perm.Perm}
use Rattle.mum_base.specs.declared.perm.TheConstants.Perm.{BY_WRITE, ROOT_ONLY, START, TRAVERSE, WRITE}
use Rattle.mum_policy.specs.declared.policy.{AclEntry.AclEntry, ChannelPolicy.ChannelPolicy, Whom.Whom}
use Rattle.mum_policy.specs.declared.{policy.Whom.TheVariants.Account, policy.Whom.TheVariants.Group, walk.Walk.Walk}
use Rattle.mum_policy.specs.Member.{Actor, PolicyMap, member}

-- ---- permissions

-- what SuperUser may do, and what Write adds: all but Speak and Whisper, on the root those of the root too
abbrev pub full_set : Bool → ℕ
full_set on_root = if on_root then bit_or BY_WRITE.0 ROOT_ONLY.0 else BY_WRITE.0

-- every one of these permissions is in the set
abbrev pub holds : ℕ → ℕ → Bool
holds set bits = bit_and set bits == bits

-- ---- one entry

-- A walk has the set so far, and two marks: whether Traverse and Write were granted on the way.
abbrev pub walk_start : Walk
walk_start = record { set = START; traverse = true; write = false }

-- it goes on while a mark is set
abbrev pub goes_on : Walk → Bool
goes_on walk = walk.traverse || walk.write

-- An entry sets a mark where it grants its permission, and then clears it where it denies it. That marks are kept
-- along the path, whatever the sets are, is this server's own choice.
abbrev pub marked : Bool → AclEntry → ℕ → Bool
marked mark entry bit = (mark || holds entry.grant.0 bit) && not (holds entry.deny.0 bit)

-- the set with the grants and without the denies
abbrev pub granted : Perm → AclEntry → Perm
granted set entry = record { 0 = without_bits (bit_or set.0 entry.grant.0) entry.deny.0 }

-- In the asked channel an entry applies by `here`, and from a channel above by `subs`.
abbrev pub applies : Bool → AclEntry → Bool
applies asked entry = if asked then entry.here else entry.subs

-- An entry that matches changes the marks, whatever its flags; where it applies, it changes the set.
unfoldable pub after_match : Bool → AclEntry → Walk → Walk
after_match asked entry walk =
    record {
      set = (if applies asked entry then granted walk.set entry else walk.set);
      traverse = marked walk.traverse entry TRAVERSE.0;
      write = marked walk.write entry WRITE.0;
    }

-- ---- one channel

-- the session is of this account
abbrev pub is_account : Option AccountId → AccountId → Bool
is_account None account = false
is_account (Some own) account = own.0 == account.0

-- the session is whom the entry names: an account by its number, a group by its name, evaluated for the last channel
-- of the path
abbrev pub names : PolicyMap → List ChannelId → Actor → ℕ → Whom → Bool
names policies path who place (Account account) = is_account who.account account
names policies path who place (Group name) = member policies path place name who

-- an entry of the channel at this place matches
unfoldable pub matches : PolicyMap → List ChannelId → Actor → ℕ → AclEntry → Bool
matches policies path who place entry = names policies path who place entry.whom

-- a walk after these entries, in list order, where `matching` says which of them match
unfoldable pub after_entries : (AclEntry → Bool) → Bool → List AclEntry → Walk → Walk
after_entries matching asked [] walk = walk
after_entries matching asked (entry ∷ entries) walk =
    after_entries matching asked entries (if matching entry then after_match asked entry walk else walk)

-- The set is the start set again where the channel does not inherit; the marks stay.
abbrev pub entering : Bool → Walk → Walk
entering inherit walk = record { set = (if inherit then walk.set else START); traverse = walk.traverse; write = walk.write }

-- a walk after the channel at this place, which has this policy
abbrev pub after_policy : PolicyMap → List ChannelId → Actor → ℕ → Bool → ChannelPolicy → Walk → Walk
after_policy policies path who place asked policy walk =
    after_entries (matches policies path who place) asked policy.acls (entering policy.inherit_acls walk)

-- a channel without a policy is skipped
unfoldable pub after_channel : PolicyMap → List ChannelId → Actor → ℕ → Bool → Option ChannelPolicy → Walk → Walk
after_channel policies path who place asked None walk = walk
after_channel policies path who place asked (Some policy) walk = after_policy policies path who place asked policy walk

-- how many entries a channel has
abbrev pub entry_count : Option ChannelPolicy → ℕ
entry_count None = 0
entry_count (Some policy) = length policy.acls

-- ---- the path

-- nothing is below the asked channel
abbrev pub is_asked : List ChannelId → Bool
is_asked [] = true
is_asked (channel ∷ below) = false

-- the walk from the channel at a place of the path down to the asked one; none where neither mark is set after a
-- channel, since the walk ends there
unfoldable pub along : PolicyMap → List ChannelId → Actor → ℕ → List ChannelId → Walk → Option Walk
along policies path who place [] walk = Some walk
along policies path who place (channel ∷ below) walk =
    let after : Walk = after_channel policies path who place (is_asked below) (policies channel) walk in
    if goes_on after then along policies path who (place + 1) below after else None

-- how many entries these channels have, up to the one at which the walk ends
unfoldable pub visits_along : PolicyMap → List ChannelId → Actor → ℕ → List ChannelId → Walk → ℕ
visits_along policies path who place [] walk = 0
visits_along policies path who place (channel ∷ below) walk =
    let after : Walk = after_channel policies path who place (is_asked below) (policies channel) walk in
    entry_count (policies channel)
    + (if goes_on after then visits_along policies path who (place + 1) below after else 0)

-- ---- the answer

-- of the asked channel and those above it, whether the asked one is the root
unfoldable pub is_root : List ChannelId → Bool
is_root [] = false
is_root (asked ∷ above) = asked.0 == ROOT.0

-- the path ends at the root
abbrev pub on_root : List ChannelId → Bool
on_root path = is_root (reverse path)

-- Write adds the full set. Off the root, the permissions of the root are removed.
abbrev pub finished : Bool → ℕ → ℕ
finished root set =
    let held : ℕ = (if holds set WRITE.0 then bit_or set (full_set root) else set) in
    if root then held else without_bits held ROOT_ONLY.0

-- nothing, where the walk ended early
abbrev pub set_of : Bool → Option Walk → ℕ
set_of root None = 0
set_of root (Some walk) = finished root walk.set.0

-- what the session may do in the last channel of the path
unfoldable pub perm : PolicyMap → List ChannelId → Actor → ℕ
perm policies path who =
    if is_account who.account SUPER_USER then full_set (on_root path)
    else set_of (on_root path) (along policies path who 0 path walk_start)

-- how many entries are read for that
unfoldable pub visits : PolicyMap → List ChannelId → Actor → ℕ
visits policies path who =
    if is_account who.account SUPER_USER then 0
    else visits_along policies path who 0 path walk_start

-- the first channel of a path is the root
abbrev pub BeginsAtRoot : List ChannelId → Type 0
BeginsAtRoot [] = ⊥
BeginsAtRoot (first ∷ below) = first.0 ≡ ROOT.0
