-- What stays where whether sessions may speak is set again.
use Rattle.mum_state.proofs.Common.{◌≡◌, Bool, true, false, cond, refl, ◌∙◌, ChannelId, User, has_number, is_in, Edit, has_member, StateValue, heard_anew, is_set_anew, with_clearing, with_suppression}
use Rattle.mum_state.proofs.{Clearing.by_clearing, Each.any_map}

pub clearing_tree : (edit : Edit) (state : StateValue) → (with_clearing edit state).tree ≡ state.tree
clearing_tree edit state = by_clearing (λ after. after.tree ≡ state.tree) edit state refl (λ session. refl)

pub clearing_policies : (edit : Edit) (state : StateValue) → (with_clearing edit state).policies ≡ state.policies
clearing_policies edit state = by_clearing (λ after. after.policies ≡ state.policies) edit state refl (λ session. refl)

-- who is in a channel does not hang on who may speak there
still_in : (channel : ChannelId) (b on : Bool) (user : User) → is_in channel (cond b (record user { suppress = on }) user) ≡ is_in channel user
still_in channel true on user = refl
still_in channel false on user = refl

suppression_members : (channel : ChannelId) (before : StateValue) (edit : Edit) (state : StateValue)
    → has_member (with_suppression before edit state).roster.sessions channel ≡ has_member state.roster.sessions channel
suppression_members channel before edit state =
    any_map (is_in channel) (is_in channel) (λ user. cond (is_set_anew before.roster.sessions edit user) (heard_anew state user) user)
    (λ user. still_in channel (is_set_anew before.roster.sessions edit user) _ user) state.roster.sessions

clearing_members : (channel : ChannelId) (edit : Edit) (state : StateValue) → has_member (with_clearing edit state).roster.sessions channel ≡ has_member state.roster.sessions channel
clearing_members channel edit state =
    by_clearing (λ after. has_member after.roster.sessions channel ≡ has_member state.roster.sessions channel) edit state refl
    (λ session.
    any_map (is_in channel) (is_in channel) (λ user. cond (has_number session user) (record user { suppress = false }) user)
    (λ user. still_in channel (has_number session user) false user) state.roster.sessions)

pub heard_members : (channel : ChannelId) (before : StateValue) (edit : Edit) (state : StateValue)
    → has_member (with_clearing edit (with_suppression before edit state)).roster.sessions channel ≡ has_member state.roster.sessions channel
heard_members channel before edit state = clearing_members channel edit (with_suppression before edit state) ∙ suppression_members channel before edit state
