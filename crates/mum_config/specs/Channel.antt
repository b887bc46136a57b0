-- Channels.
use Rattle.std.specs.Prelude.{◌≡◌, ℕ, pos, ◌+◌, ◌==◌, ◌&&◌, ◌||◌, nat_eq, nat_le, nat_lt, not, Bool, true, false, List, [], ◌∷◌, ◌++◌, length, map, Option, Some, None, Result, Ok, Err, codes, is_none, is_some, unwrap_or, if◌then◌else◌}
use Rattle.std.specs.{Borrow.Bor, List.list_any, Map.lookup, Option.option_and_then, Option.option_map_or, Str.bytes_eq}
use Rattle.indexmap.specs.IndexMap.{IndexMap, insert_entry}
use Rattle.serde_json.specs.{Data.Data, Find.as_number, Find.as_u64, Find.get}
use Rattle.mum_base.specs.declared.number.{ChannelId.ChannelId, TheConstants.ChannelId.ROOT}
use Rattle.mum_policy.specs.declared.policy.ChannelPolicy.{ChannelPolicy}
use Rattle.mum_tree.specs.declared.channel.ChannelInfo.{ChannelInfo}
use Rattle.mum_tree.specs.declared.channel.TheConstants.{CHANNEL_LIMIT, PATH_LIMIT}
use Rattle.mum_state.specs.declared.edit.Edit.{Edit}
use Rattle.mum_state.specs.declared.edit.Edit.TheVariants.{EditChannel, MakeChannel, SetAcl}
use Rattle.mum_document.specs.declared.{fault.DocumentError.DocumentError, given.GivenInfo.GivenInfo}
use Rattle.mum_document.specs.declared.given.GivenPolicy.{GivenPolicy}
use Rattle.mum_document.specs.declared.fault.ConfigFault.TheVariants.{Limit, NoSuch, OutOfRange, Twice}
use Rattle.mum_document.specs.Value.{greatest, name_fault, needed, number_fault}
use Rattle.mum_document.specs.{Fault.Fault, Fault.against, Reading.Names}
use Rattle.mum_document.specs.Object.{Row, number_at, object_fault, text_at}
use Rattle.mum_document.specs.Given.{given_info, given_policy, info_rows, policy_rows}
use Rattle.mum_config.specs.declared.channel.Met.{Met}

-- the channels so far
pub record ChannelsMet : Type 0 where
  -- the number of the entry before
  pub last : Option ℕ
  -- each channel's number, and how many channels lead to it from the root, with both
  pub depths : List (ℕ × ℕ)
  -- each channel's parent and name
  pub seats : List (ℕ × List ℕ)

-- the root is there before all entries
abbrev pub root_met : ChannelsMet
root_met = record { last = None; depths = (0, 1) ∷ []; seats = [] }

-- how many channels lead from the root to the channel of a number, if it is there
abbrev pub depth_of : List (ℕ × ℕ) → ℕ → Option ℕ
depth_of depths number = lookup (λ met. number == met) depths

abbrev pub channel_number : Data → ℕ
channel_number value = number_at (codes "id") 0 value

abbrev pub parent_number : Data → ℕ
parent_number value = number_at (codes "parent") 0 value

abbrev pub channel_name : Data → List ℕ
channel_name value = text_at (codes "name") value

-- how many lead to the parent that a channel names
abbrev pub depth_above : List (ℕ × ℕ) → Data → ℕ
depth_above depths value = unwrap_or (depth_of depths (parent_number value)) 0

-- the number is above that of the entry before
abbrev pub rises : Option ℕ → ℕ → Bool
rises last number = option_map_or (λ before. nat_lt before number) last true

-- a channel of this name is under this parent
abbrev pub has_seat : List (ℕ × List ℕ) → ℕ → List ℕ → Bool
has_seat seats parent name = list_any (λ seat. (parent == seat.0) && bytes_eq name seat.1) seats

-- the entry of the root
abbrev pub is_root_entry : Data → Bool
is_root_entry value = option_map_or (λ number. number == ROOT.0) (option_and_then as_u64 (option_and_then as_number (get (codes "id") value))) false

abbrev pub seats_of : List (ℕ × Bor (List ℕ)) → List (ℕ × List ℕ)
seats_of seats = map (λ seat. (seat.0, seat.1.now)) seats

-- the channels so far, as a reader keeps them
abbrev pub met_of : Met → ChannelsMet
met_of met = record {
  last = met.last;
  depths = met.depths.entries;
  seats = seats_of met.seats.keys;
}

-- ---- what is said against an entry

-- the keys that each channel may have
abbrev pub shared_names : List (List ℕ)
shared_names =
    codes "position" ∷ codes "max_users" ∷ codes "description" ∷ codes "inherit_acls" ∷ codes "groups" ∷ codes "acls" ∷ []

abbrev pub number_rows : Option ℕ → Data → List Row
number_rows last value =
    (codes "id", needed (number_fault 0 greatest) (get (codes "id") value))
    ∷ (codes "id", against OutOfRange (not (rises last (channel_number value))))
    ∷ []

abbrev pub parent_rows : List (ℕ × ℕ) → Data → List Row
parent_rows depths value =
    (codes "parent", needed (number_fault 0 greatest) (get (codes "parent") value))
    ∷ (codes "parent", against NoSuch (is_none (depth_of depths (parent_number value))))
    ∷ (codes "parent", against Limit (nat_le PATH_LIMIT (depth_above depths value)))
    ∷ []

abbrev pub name_rows : List (ℕ × List ℕ) → Data → List Row
name_rows seats value =
    (codes "name", needed name_fault (get (codes "name") value))
    ∷ (codes "name", against Twice (has_seat seats (parent_number value) (channel_name value)))
    ∷ []

-- the root has no parent, and keeps its name
unfoldable pub root_fault : ChannelsMet → Data → Option Fault
root_fault met value =
    object_fault (codes "id" ∷ shared_names) (number_rows met.last value ++ info_rows value ++ policy_rows value) value

unfoldable pub made_fault : ChannelsMet → Data → Option Fault
made_fault met value =
    object_fault (codes "id" ∷ codes "parent" ∷ codes "name" ∷ shared_names)
    (number_rows met.last value ++ parent_rows met.depths value ++ name_rows met.seats value ++ info_rows value
    ++ policy_rows value) value

unfoldable pub channel_fault : ChannelsMet → Data → Option Fault
channel_fault met value = if is_root_entry value then root_fault met value else made_fault met value

-- more entries than there can be channels; the root counts where no entry is its own
abbrev pub are_too_many : List Data → Bool
are_too_many values =
    nat_lt CHANNEL_LIMIT (length values + (if list_any is_root_entry values then 0 else 1))

-- ---- what an entry is read as

unfoldable pub with_channel_met : ChannelsMet → Data → ChannelsMet
with_channel_met met value =
    if is_root_entry value then record met { last = Some (channel_number value) }
    else record {
      last = Some (channel_number value);
      depths = insert_entry nat_eq met.depths (channel_number value) (depth_above met.depths value + 1);
      seats = met.seats ++ (parent_number value, channel_name value) ∷ [];
    }

abbrev pub gives_info : GivenInfo → Bool
gives_info given = is_some given.position || is_some given.max_users || is_some given.description

-- what is not given is plain
abbrev pub info_of : GivenInfo → ChannelInfo
info_of given = record {
  description = unwrap_or given.description [];
  position = unwrap_or given.position (pos 0);
  max_users = unwrap_or given.max_users 0;
}

-- the edit of the root that sets what is given, if something is
abbrev pub root_edits : GivenInfo → List Edit
root_edits given =
    if gives_info given then EditChannel ROOT None None None given.description given.position given.max_users [] []
    ∷ [] else []

abbrev pub made_edit : Data → Edit
made_edit value =
    MakeChannel (record { 0 = channel_number value }) (record { 0 = parent_number value }) (channel_name value) false
    (info_of (given_info value)) None

abbrev pub gives_policy : GivenPolicy → Bool
gives_policy given = is_some given.inherit_acls || is_some given.groups || is_some given.acls

-- what is not given is as in a policy that is open
abbrev pub policy_of : GivenPolicy → ChannelPolicy
policy_of given = record {
  inherit_acls = unwrap_or given.inherit_acls true;
  groups = unwrap_or given.groups [];
  acls = unwrap_or given.acls [];
}

abbrev pub policy_edits : ChannelId → GivenPolicy → List Edit
policy_edits channel given = if gives_policy given then SetAcl channel None (policy_of given) ∷ [] else []

-- a channel is made, or the root changed; then it gets its policy
unfoldable pub channel_edits : Data → List Edit
channel_edits value =
    (if is_root_entry value then root_edits (given_info value) else made_edit value ∷ [])
    ++ policy_edits (record { 0 = channel_number value }) (given_policy value)

-- the depths of the channels where nothing is said against their entries, or the first fault
abbrev pub ReadsDepths : {S : Type 0} → Option Fault → ChannelsMet → Result (IndexMap ℕ ℕ S) DocumentError → Type 0
ReadsDepths fault met (Ok depths) = (fault ≡ None) × (depths.entries ≡ met.depths)
ReadsDepths fault met (Err error) = Names error fault
