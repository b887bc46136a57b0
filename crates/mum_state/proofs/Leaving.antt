-- A session less.
use Rattle.mum_state.proofs.Common.{not, SessionId, is_there, left, has_number, is_of_session, IsProper-left, IsProper, is_sound_user, StateValue}
use Rattle.mum_state.proofs.{Listed.all_filter, Parted.with_roster}

-- without a session the state stays proper
pub left_proper : (state : StateValue) (session : SessionId) → IsProper state → IsProper (record state { roster = left state.roster session })
left_proper state session proper =
    with_roster state (left state.roster session) proper (IsProper-left state.roster session proper.roster)
    (all_filter is_sound_user (λ user. not (has_number session user)) state.roster.sessions proper.users)
    (all_filter (λ user. is_there state.tree.channels user.channel) (λ user. not (has_number session user)) state.roster.sessions proper.inside)
    (all_filter (λ pair. is_there state.tree.channels pair.channel) (λ pair. not (is_of_session session pair)) state.roster.listeners proper.listening)
