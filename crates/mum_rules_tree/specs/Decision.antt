-- How a command is decided: by reasons to ignore it, then by what it needs, then by its limits. The first that applies
-- decides.
use Rattle.std.specs.Prelude.{◌||◌, not, Bool, false, List, [], find, slice_index_or, Option, Result, Ok, Err, ⊤, IsTrue}
use Rattle.std.specs.{List.All, List.list_any, Option.option_map, Option.option_map_or}
use Rattle.mum_base.specs.declared.{number.ChannelId.ChannelId, perm.Perm.Perm, outcome.DenyType.DenyType}
use Rattle.mum_base.specs.declared.outcome.Reason.{Reason}
use Rattle.mum_base.specs.Codes.{deny_code, reason_code}
use Rattle.mum_policy.specs.{Member.Actor, Walk.holds}
use Rattle.mum_state.specs.declared.verdict.Verdict.{Verdict}
use Rattle.mum_state.specs.declared.verdict.Verdict.TheVariants.{Accepted, Lacks, Refused, Ignored}
use Rattle.mum_state.specs.{Fits.fits, Permissions.granted_where_there, State.StateValue}
use Rattle.mum_rules_tree.specs.declared.needs.Lack.{Lack}

-- ---- reasons and limits

-- a reason to ignore a command or a limit of it, and whether it applies
pub record Case (Code : Type 0) : Type 0 where
  pub code : Code
  pub stands : Bool

abbrev pub case_of : {Code : Type 0} → Code → Bool → Case Code
case_of code stands = record { code = code; stands = stands }

-- the first that applies
abbrev pub first_standing : {Code : Type 0} → List (Case Code) → Option Code
first_standing cases = option_map (λ one. one.code) (find (λ one. one.stands) cases)

-- ---- needs

-- a way to meet a need: the actor has the permission in the channel
pub record Way : Type 0 where
  pub who : Actor
  pub perm : Perm
  pub channel : ChannelId

-- a need is met in one of these ways; where it is met in none, the first is what is missing
pub record Need : Type 0 where
  pub first : Way
  pub others : List Way

abbrev pub way : Actor → Perm → ChannelId → Way
way who perm channel = record { who = who; perm = perm; channel = channel }

-- a need with one way
abbrev pub need : Actor → Perm → ChannelId → Need
need who perm channel = record { first = way who perm channel; others = [] }

-- the permission is held there
unfoldable pub is_open : StateValue → Way → Bool
is_open state one = option_map_or (λ held. holds held one.perm.0) (granted_where_there state one.who one.channel) false

abbrev pub is_met : StateValue → Need → Bool
is_met state wanted = is_open state wanted.first || list_any (is_open state) wanted.others

abbrev pub lack_of : Need → Lack
lack_of wanted = record { perm = wanted.first.perm; channel = wanted.first.channel }

-- what is missing of the first need that is not met
abbrev pub first_lack : StateValue → List Need → Option Lack
first_lack state needs = option_map lack_of (find (λ wanted. not (is_met state wanted)) needs)

-- each need is met, or this is what is missing
abbrev pub all_met : StateValue → List Need → Result ⊤ Lack
all_met state needs = option_map_or (λ lack. Err lack) (first_lack state needs) (Ok tt)

-- where the place of a channel is marked, the actor has the permission there
abbrev pub AreMet : StateValue → Actor → Perm → List Bool → Type 0
AreMet state who perm marks =
    All (λ row. IsTrue (slice_index_or marks row.place false)
    → IsTrue (is_open state (way who perm row.channel.id))) state.tree.channels

-- ---- the first that applies decides

abbrev pub unless_ignored : List (Case Reason) → Verdict → Verdict
unless_ignored reasons verdict = option_map_or (λ reason. Ignored (reason_code reason)) (first_standing reasons) verdict

abbrev pub unless_lacking : StateValue → List Need → Verdict → Verdict
unless_lacking state needs verdict =
    option_map_or (λ lack. Lacks lack.perm lack.channel) (first_lack state needs) verdict

abbrev pub unless_refused : List (Case DenyType) → Verdict → Verdict
unless_refused limits verdict = option_map_or (λ kind. Refused (deny_code kind)) (first_standing limits) verdict

-- ---- what an accepted command is

-- an accepted edit fits the state
abbrev pub FitsWhereAccepted : StateValue → Verdict → Type 0
FitsWhereAccepted state (Accepted edit) = IsTrue (fits state edit)
FitsWhereAccepted state verdict = ⊤
