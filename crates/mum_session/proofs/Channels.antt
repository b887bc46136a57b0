-- What holds of all decisions on channels, case by case.
use Rattle.mum_session.proofs.Common.{ℤ, ℕ, Bool, List, Option, None, Some, option_map_or, ChannelId, SessionId, Perm, Frame, ChannelPolicy, ChannelInfo, MakeChannel, EditChannel, RemoveChannel, SetAcl, Verdict, Accepted, Lacks, Refused, Answer, Ignored, StateValue, policy_of, TreeMessage, TreeCommand, tree_command_of, first_lack, first_standing, limits_of_tree, answer_of_tree, outcome_of_tree, reasons_of_tree, actor_named, tree_verdict}
use Rattle.mum_rules_tree.specs.Needs.{needs as needs_of_tree}

pub record Holds (P : Verdict → Type 0) : Type 0 where
  pub ignored : (why : ℕ) → P (Ignored why)
  pub lacks : (perm : Perm) (channel : ChannelId) → P (Lacks perm channel)
  pub refused : (kind : ℕ) → P (Refused kind)
  pub answered : (frame : Frame) → P (Answer frame)
  pub made : (id parent : ChannelId) (name : List ℕ) (temporary : Bool) (info : ChannelInfo) (maker : Option SessionId) → P (Accepted (MakeChannel id parent name temporary info maker))
  pub changed : (id : ChannelId) (actor : Option SessionId) (name : Option (List ℕ)) (parent : Option ChannelId) (description : Option (List ℕ)) (position : Option ℤ) (max_users : Option ℕ)
      (links_add links_remove : List ChannelId) → P (Accepted (EditChannel id actor name parent description position max_users links_add links_remove))
  pub removed : (id : ChannelId) (actor : SessionId) → P (Accepted (RemoveChannel id actor))
  pub ruled : (channel : ChannelId) (actor : Option SessionId) (policy : ChannelPolicy) → P (Accepted (SetAcl channel actor policy))

pub unless : {X : Type 0} (P : Verdict → Type 0) (f : X → Verdict) (o : Option X) (v : Verdict) → ((x : X) → P (f x)) → P v → P (option_map_or f o v)
unless P f None v each rest = rest
unless P f (Some x) v each rest = each x

outcome_holds : (P : Verdict → Type 0) → Holds P → (state : StateValue) (actor : SessionId) (command : TreeCommand) → P (outcome_of_tree state actor command)
outcome_holds P h state actor (TreeCommand.make message) = h.made _ _ _ _ _ _
outcome_holds P h state actor (TreeCommand.edit id message) = h.changed _ _ _ _ _ _ _ _ _
outcome_holds P h state actor (TreeCommand.remove id) = h.removed _ _
outcome_holds P h state actor (TreeCommand.query id) =
    unless P (λ policy. Answer (answer_of_tree id policy)) (policy_of state id) _ (λ policy. h.answered _) (h.ignored _)
outcome_holds P h state actor (TreeCommand.set id message) = h.ruled _ _ _

pub tree_holds : (P : Verdict → Type 0) → Holds P → (state : StateValue) (actor : SessionId) (message : TreeMessage) → P (tree_verdict state actor message)
tree_holds P h state actor message =
    unless P _ (first_standing (reasons_of_tree state actor message)) _ (λ reason. h.ignored _)
    (unless P _ (first_lack state (needs_of_tree state.tree (actor_named state actor) (tree_command_of message))) _ (λ lack. h.lacks _ _)
    (unless P _ (first_standing (limits_of_tree state (tree_command_of message))) _ (λ kind. h.refused _)
    (outcome_holds P h state actor (tree_command_of message))))
