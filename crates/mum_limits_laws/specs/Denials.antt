-- What a verdict says of the needs and the limits of a command, which a law names in their order.
use Rattle.std.specs.Prelude.{◌≡◌, ⊤, ℕ, List, IsTrue, false}
use Rattle.std.specs.List.{All}
use Rattle.mum_base.specs.declared.number.ChannelId.{ChannelId}
use Rattle.mum_policy.specs.Walk.{holds}
use Rattle.mum_tree.specs.Rows.{is_there}
use Rattle.mum_users.specs.declared.user.User.{User}
use Rattle.mum_part_laws.specs.Firsts.{IsFirst}
use Rattle.mum_state.specs.{Permissions.actor_with, Permissions.granted_to, State.StateValue}
use Rattle.mum_state.specs.declared.verdict.Verdict.{Verdict}
use Rattle.mum_state.specs.declared.verdict.Verdict.TheVariants.{Accepted, Answer, Lacks, Refused}

abbrev pub channel : ℕ → ChannelId
channel n = record { 0 = n }

-- the session, where it has these access tokens, has not the permission of this number in the channel of that number
abbrev pub MayNotWith : StateValue → User → List (List ℕ) → ℕ → ℕ → Type 0
MayNotWith state user tokens permission n =
    IsTrue (is_there state.tree.channels (channel n))
    → holds (granted_to state (actor_with state.tree user tokens) (channel n)) permission ≡ false

-- it has not by its own tokens
abbrev pub MayNot : StateValue → User → ℕ → ℕ → Type 0
MayNot state user permission n = MayNotWith state user user.tokens permission n

-- A denial names the first need that is not met, by its permission and its channel. What is accepted, answered, or refused
-- for a limit lacks none.
abbrev pub IsDeniedFor : {Need : Type 0} → (Need → ℕ) → (Need → ℕ) → (Need → Type 0) → List Need → Verdict → Type 0
IsDeniedFor {Need} permission place IsLacking order (Lacks perm id) =
    (need : Need) × (perm.0 ≡ permission need) × (id.0 ≡ place need) × IsFirst IsLacking order need
IsDeniedFor permission place IsLacking order (Accepted edit) = All (λ need. ¬ IsLacking need) order
IsDeniedFor permission place IsLacking order (Answer frame) = All (λ need. ¬ IsLacking need) order
IsDeniedFor permission place IsLacking order (Refused kind) = All (λ need. ¬ IsLacking need) order
IsDeniedFor permission place IsLacking order other = ⊤

-- A refusal has the number of the first limit that applies. Against what is accepted applies none.
abbrev pub IsRefusedFor : {Limit : Type 0} → (Limit → ℕ) → (Limit → Type 0) → List Limit → Verdict → Type 0
IsRefusedFor {Limit} number Applies order (Refused kind) =
    (limit : Limit) × (kind ≡ number limit) × IsFirst Applies order limit
IsRefusedFor number Applies order (Accepted edit) = All (λ limit. ¬ Applies limit) order
IsRefusedFor number Applies order other = ⊤
