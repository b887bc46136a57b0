-- Who makes, changes, moves, links and removes channels, and who is sent their policies.
use Rattle.std.specs.Prelude.{◌≡◌, ℕ, ℤ, ◌||◌, Bool, List, ◌++◌, Option, Some, is_some, if◌then◌else◌, IsTrue}
use Rattle.std.specs.List.{All}
use Rattle.mum_base.specs.declared.{number.ChannelId.ChannelId, number.SessionId.SessionId, perm.Perm.Perm}
use Rattle.mum_base.specs.declared.perm.TheConstants.Perm.{LINK_CHANNEL, MAKE_CHANNEL, MAKE_TEMP_CHANNEL, WRITE}
use Rattle.mum_frame.specs.declared.frame.Frame.{Frame}
use Rattle.mum_policy.specs.declared.policy.ChannelPolicy.{ChannelPolicy}
use Rattle.mum_tree.specs.Refusals.{parent_of}
use Rattle.mum_tree.specs.declared.channel.ChannelInfo.{ChannelInfo}
use Rattle.mum_msg_rule.specs.declared.acl.Acl.{Acl as AclMessage}
use Rattle.mum_state.specs.State.{StateValue, policy_of}
use Rattle.mum_state.specs.declared.edit.Edit.TheVariants.{EditChannel, MakeChannel, RemoveChannel}
use Rattle.mum_state.specs.declared.verdict.Verdict.TheVariants.{Accepted, Answer}
use Rattle.mum_rules_tree.specs.{Asked.channel, Decision.is_open, Decision.way, Outcome.answer_frame}
use Rattle.mum_rules_tree.specs.Verdict.{actor_named, tree_verdict}
use Rattle.mum_rules_tree.specs.declared.message.TreeMessage.{TreeMessage, TheVariants.Acl}

-- the session has the permission in the channel
abbrev pub may : StateValue → SessionId → Perm → ChannelId → Bool
may state actor perm id = is_open state (way (actor_named state actor) perm id)

-- a channel is made for the actor, which has MakeTempChannel under the parent where the channel is temporary, and
-- MakeChannel where it is not
abbrev pub MakersMake : Type 0
MakersMake =
    (state : StateValue) (actor : SessionId) (message : TreeMessage) (id parent : ChannelId) (name : List ℕ)
    (temporary : Bool)
    (info : ChannelInfo) (maker : Option SessionId)
    → tree_verdict state actor message ≡ Accepted (MakeChannel id parent name temporary info maker)
    → (maker ≡ Some actor) × IsTrue (may state actor (if temporary then MAKE_TEMP_CHANNEL else MAKE_CHANNEL) parent)

-- where an edit gives a channel a name, a description, a position or a greatest number of users, the actor has Write on it
abbrev pub WritersDescribe : Type 0
WritersDescribe =
    (state : StateValue) (actor : SessionId) (message : TreeMessage) (id : ChannelId) (by : Option SessionId)
    (name : Option (List ℕ))
    (parent : Option ChannelId) (description : Option (List ℕ)) (position : Option ℤ) (max_users : Option ℕ)
    (add remove : List ChannelId)
    → tree_verdict state actor message
    ≡ Accepted (EditChannel id by name parent description position max_users add remove)
    → IsTrue (is_some name || is_some description || is_some position || is_some max_users)
    → (by ≡ Some actor) × IsTrue (may state actor WRITE id)

-- where an edit gives a channel another parent, the actor has Write on it and MakeChannel there
abbrev pub WritersMove : Type 0
WritersMove =
    (state : StateValue) (actor : SessionId) (message : TreeMessage) (id there : ChannelId) (by : Option SessionId)
    (name description : Option (List ℕ)) (position : Option ℤ) (max_users : Option ℕ) (add remove : List ChannelId)
    → tree_verdict state actor message
    ≡ Accepted (EditChannel id by name (Some there) description position max_users add remove)
    → (by ≡ Some actor) × IsTrue (may state actor WRITE id) × IsTrue (may state actor MAKE_CHANNEL there)

-- for each channel that an edit links to one or parts from it, the actor has LinkChannel on both
abbrev pub LinkersLink : Type 0
LinkersLink =
    (state : StateValue) (actor : SessionId) (message : TreeMessage) (id : ChannelId) (by : Option SessionId)
    (name : Option (List ℕ))
    (parent : Option ChannelId) (description : Option (List ℕ)) (position : Option ℤ) (max_users : Option ℕ)
    (add remove : List ChannelId)
    → tree_verdict state actor message
    ≡ Accepted (EditChannel id by name parent description position max_users add remove)
    → (by ≡ Some actor)
    × All (λ other. IsTrue (may state actor LINK_CHANNEL id) × IsTrue (may state actor LINK_CHANNEL other))
    (add ++ remove)

-- a channel is removed by the actor, which has Write on it
abbrev pub WritersRemove : Type 0
WritersRemove =
    (state : StateValue) (actor : SessionId) (message : TreeMessage) (id : ChannelId) (by : SessionId)
    → tree_verdict state actor message ≡ Accepted (RemoveChannel id by)
    → (by ≡ actor) × IsTrue (may state actor WRITE id)

-- a message that is answered is an ACL message that names a channel; the answer is this channel's policy, and the actor has
-- Write on it or on its parent
abbrev pub WritersReadPolicies : Type 0
WritersReadPolicies =
    (state : StateValue) (actor : SessionId) (message : TreeMessage) (frame : Frame)
    → tree_verdict state actor message ≡ Answer frame
    → (query : AclMessage) × (number : ℕ) × (policy : ChannelPolicy)
    × (message ≡ Acl query) × (query.channel_id ≡ Some number)
    × (policy_of state (channel number) ≡ Some policy) × (frame ≡ answer_frame (channel number) policy)
    × IsTrue (may state actor WRITE (channel number) || may state actor WRITE (parent_of state.tree (channel number)))
