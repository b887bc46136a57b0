-- What a verdict says of the tables, in words of its own.
use Rattle.std.specs.Prelude.{◌≡◌, ℕ, ◌||◌, true, false, List, ◌∷◌, ◌++◌, Option, Some, ⊤, IsTrue}
use Rattle.std.specs.List.{All}
use Rattle.mum_base.specs.declared.{number.ChannelId.ChannelId, number.SessionId.SessionId, outcome.DenyType.DenyType}
use Rattle.mum_base.specs.declared.{outcome.Reason.Reason, perm.Perm.Perm, perm.TheConstants.Perm.WRITE}
use Rattle.mum_base.specs.Codes.{deny_code, reason_code}
use Rattle.mum_frame.specs.declared.frame.Frame.{Frame}
use Rattle.mum_policy.specs.declared.policy.ChannelPolicy.{ChannelPolicy}
use Rattle.mum_tree.specs.Refusals.{parent_of}
use Rattle.mum_state.specs.declared.{verdict.Verdict.Verdict, edit.Edit.Edit, edit.Edit.TheVariants.SetAcl}
use Rattle.mum_state.specs.declared.verdict.Verdict.TheVariants.{Accepted, Answer, Ignored, Lacks, Refused}
use Rattle.mum_state.specs.{Proper.IsProper, State.StateValue}
use Rattle.mum_rules_tree.specs.declared.message.TreeMessage.{TreeMessage}
use Rattle.mum_rules_tree.specs.{Asked.command_of, Denial.denial, Limits.limits, Needs.needs, Reasons.reasons}
use Rattle.mum_rules_tree.specs.Verdict.{actor_named, tree_verdict}
use Rattle.mum_rules_tree.specs.Decision.{Case, Need, case_of, is_met, is_open, way}

-- what this message needs, and its limits, for the actor
abbrev pub needs_of : StateValue → SessionId → TreeMessage → List Need
needs_of state actor message = needs state.tree (actor_named state actor) (command_of message)

-- none of these applies
abbrev pub NoneStands : {Code : Type 0} → List (Case Code) → Type 0
NoneStands cases = All (λ one. one.stands ≡ false) cases

-- each of these is met
abbrev pub AllMet : StateValue → List Need → Type 0
AllMet state needs = All (λ wanted. is_met state wanted ≡ true) needs

-- a permission that is missing is the first way of a need that is not met, and all before it is met
pub record IsFirstMissing (state : StateValue) (needs : List Need) (perm : Perm) (channel : ChannelId) : Type 0 where
  pub before : List Need
  pub missing : Need
  pub after : List Need
  pub whole : needs ≡ before ++ missing ∷ after
  pub met : AllMet state before
  pub unmet : is_met state missing ≡ false
  pub named_perm : missing.first.perm ≡ perm
  pub named_channel : missing.first.channel ≡ channel

-- a denial names the first permission that is missing, and comes only where there is no reason to ignore the message
abbrev pub NamesFirstMissing : Type 0
NamesFirstMissing =
    (state : StateValue) (actor : SessionId) (message : TreeMessage) (perm : Perm) (channel : ChannelId)
    → tree_verdict state actor message ≡ Lacks perm channel
    → NoneStands (reasons state actor message) × IsFirstMissing state (needs_of state actor message) perm channel

-- what is accepted has no reason, no need and no limit against it
abbrev pub AcceptsWhereNothingStands : Type 0
AcceptsWhereNothingStands =
    (state : StateValue) (actor : SessionId) (message : TreeMessage) (edit : Edit)
    → tree_verdict state actor message ≡ Accepted edit
    → NoneStands (reasons state actor message) × AllMet state (needs_of state actor message)
    × NoneStands (limits state (command_of message))

-- the first of these that applies has this code
pub record IsFirstStanding {Code : Type 0} (cases : List (Case Code)) (code : Code) : Type 0 where
  pub before : List (Case Code)
  pub after : List (Case Code)
  pub whole : cases ≡ before ++ case_of code true ∷ after
  pub none : NoneStands before

-- it is an edit, or an answer
abbrev pub IsAcceptedOrAnswered : Verdict → Type 0
IsAcceptedOrAnswered (Accepted edit) = ⊤
IsAcceptedOrAnswered (Answer frame) = ⊤
IsAcceptedOrAnswered verdict = ⊥

-- a message is accepted or answered where no reason, no need and no limit is against it
abbrev pub GrantsWhereNothingStands : Type 0
GrantsWhereNothingStands =
    (state : StateValue) (actor : SessionId) (message : TreeMessage) → IsProper state
    → NoneStands (reasons state actor message) → AllMet state (needs_of state actor message)
    → NoneStands (limits state (command_of message))
    → IsAcceptedOrAnswered (tree_verdict state actor message)

-- a message is ignored for the first reason that applies
abbrev pub IgnoresForFirstReason : Type 0
IgnoresForFirstReason =
    (state : StateValue) (actor : SessionId) (message : TreeMessage) (why : ℕ) → IsProper state
    → tree_verdict state actor message ≡ Ignored why
    → (reason : Reason) × (why ≡ reason_code reason) × IsFirstStanding (reasons state actor message) reason

-- a refusal names the first limit that applies, and comes only where no reason and no need is against the message
abbrev pub RefusesForFirstLimit : Type 0
RefusesForFirstLimit =
    (state : StateValue) (actor : SessionId) (message : TreeMessage) (kind : ℕ)
    → tree_verdict state actor message ≡ Refused kind
    → NoneStands (reasons state actor message) × AllMet state (needs_of state actor message)
    × ((limit : DenyType) × (kind ≡ deny_code limit) × IsFirstStanding (limits state (command_of message)) limit)

-- a verdict that is reported as a denial is no edit: who is denied changes nothing
abbrev pub DenialsAreNoEdits : Type 0
DenialsAreNoEdits =
    (session : Option SessionId) (verdict : Verdict) (frame : Frame) (edit : Edit)
    → denial session verdict ≡ Some frame → verdict ≡ Accepted edit → ⊥

-- a policy is set only for a session that has Write on the channel or on its parent
abbrev pub WritersSetPolicies : Type 0
WritersSetPolicies =
    (state : StateValue) (actor : SessionId) (message : TreeMessage) (channel : ChannelId) (by : Option SessionId)
    (policy : ChannelPolicy)
    → tree_verdict state actor message ≡ Accepted (SetAcl channel by policy)
    → (by ≡ Some actor)
    × IsTrue (is_open state (way (actor_named state actor) WRITE channel)
    || is_open state (way (actor_named state actor) WRITE (parent_of state.tree channel)))
