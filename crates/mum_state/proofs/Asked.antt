-- What a session may do is asked of it as whoever it is.
use Rattle.mum_state.proofs.Common.{◌≡◌, Bool, true, false, cond, refl, sym, ap, Option, Some, None, option_map, ChannelId, SessionId, is_there, User, session_of, channels_of, granted_where_in, actor_from, granted_to, perm_of, StateValue}

pub asked_of : (state : StateValue) (session : SessionId) (channel : ChannelId) (user : User) → session_of state.roster session ≡ Some user
    → granted_where_in (channels_of state) (actor_from state.tree user) channel ≡ perm_of state session channel
asked_of state session channel user found = step (is_there state.tree.channels channel)
  where
    step : (b : Bool) → cond b (Some (granted_to state (actor_from state.tree user) channel)) None ≡ option_map (λ who. granted_to state who channel) (cond b (option_map (actor_from state.tree) (session_of state.roster session)) None)
    step true = sym (ap (λ (o : Option User). option_map (λ who. granted_to state who channel) (option_map (actor_from state.tree) o)) found)
    step false = refl
