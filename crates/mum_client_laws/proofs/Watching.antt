-- Of whom messages on sessions are sent: for one session, of it or of none.
use Rattle.mum_client_laws.proofs.Common.{◌≡◌, ◌≤◌, ◌⊎◌, ◌==◌, Bool, true, false, cond, List, [], ◌∷◌, Option, Some, None, refl, ap, ◌∙◌, inl, inr, count_by, filter, eqb-true, SessionId, session_of, RosterState, has_number, User, given, Edit, MakeChannel, RemoveChannel, SetAcl, SetTokens, SetUser, each_find, found_passes, none_found, watched, whom_to_watch}
use Rattle.mum_client_laws.proofs.Lists.{none_given, only_given}

pub same_session : (one other : SessionId) → (one.0 == other.0) ≡ true → one ≡ other
same_session one other is = ap (λ n. record { 0 = n }) (eqb-true one.0 other.0 is)

-- those that are looked at are nobody, one session or everybody
pub looked_at : (roster : RosterState) (P : List User → Type 0) → P [] → ((one : SessionId) → P (given (session_of roster one))) → P roster.sessions
    → (edit : Edit) (closes : Bool) → P (watched (whom_to_watch edit closes) roster)
looked_at roster P nobody one everybody edit true = everybody
looked_at roster P nobody one everybody (RemoveChannel id actor) false = everybody
looked_at roster P nobody one everybody (SetAcl channel actor policy) false = everybody
looked_at roster P nobody one everybody (SetTokens session tokens) false = one session
looked_at roster P nobody one everybody (MakeChannel id parent name true info (Some maker)) false = one maker
looked_at roster P nobody one everybody (MakeChannel id parent name true info None) false = nobody
looked_at roster P nobody one everybody (MakeChannel id parent name false info maker) false = nobody
looked_at roster P nobody one everybody (SetUser session actor channel mute deaf clear_suppress priority self_mute self_deaf recording comment context listen unlisten) false = one session
looked_at roster P nobody one everybody edit false = nobody

-- another session is not the one that is found
pub found_other : (one session : SessionId) (roster : RosterState) → (one.0 == session.0) ≡ false → filter (has_number session) (given (session_of roster one)) ≡ []
found_other one session roster apart = step (session_of roster one) refl
  where
    step : (found : Option User) → session_of roster one ≡ found → filter (has_number session) (given found) ≡ []
    step None none = refl
    step (Some user) is =
        let number : user.session.0 ≡ one.0 = eqb-true user.session.0 one.0 (found_passes (has_number one) roster.sessions user is) in
        ap (λ (b : Bool). cond {A = List User} b (user ∷ []) []) (ap (λ n. n == session.0) number ∙ apart)

pub found_own : (session : SessionId) (roster : RosterState) (now : User) → session_of roster session ≡ Some now → filter (has_number session) (given (session_of roster session)) ≡ now ∷ []
found_own session roster now is =
    ap (λ (found : Option User). filter (has_number session) (given found)) is
    ∙ ap (λ (b : Bool). cond {A = List User} b (now ∷ []) []) (found_passes (has_number session) roster.sessions now is)

found_or_not : (session : SessionId) (roster : RosterState) (now : User) → session_of roster session ≡ Some now → (one : SessionId)
    → (filter (has_number session) (given (session_of roster one)) ≡ now ∷ []) ⊎ (filter (has_number session) (given (session_of roster one)) ≡ [])
found_or_not session roster now is one = step (one.0 == session.0) refl
  where
    step : (b : Bool) → (one.0 == session.0) ≡ b
        → (filter (has_number session) (given (session_of roster one)) ≡ now ∷ []) ⊎ (filter (has_number session) (given (session_of roster one)) ≡ [])
    step true same = inl (ap (λ (other : SessionId). filter (has_number session) (given (session_of roster other))) (same_session one session same) ∙ found_own session roster now is)
    step false apart = inr (found_other one session roster apart)

-- whoever is there is among those that are looked at, or none of these is it
pub seen_or_not : (session : SessionId) (roster : RosterState) (now : User) → count_by (has_number session) roster.sessions ≤ 1 → session_of roster session ≡ Some now
    → (edit : Edit) (closes : Bool)
    → (filter (has_number session) (watched (whom_to_watch edit closes) roster) ≡ now ∷ []) ⊎ (filter (has_number session) (watched (whom_to_watch edit closes) roster) ≡ [])
seen_or_not session roster now few is =
    looked_at roster (λ users. (filter (has_number session) users ≡ now ∷ []) ⊎ (filter (has_number session) users ≡ [])) (inr refl)
    (found_or_not session roster now is) (inl (only_given (has_number session) roster.sessions few ∙ ap given is))

-- whoever is not there is not found, and is not looked at
pub never_found : (session : SessionId) (roster : RosterState) → session_of roster session ≡ None → (one : SessionId)
    → filter (has_number session) (given (session_of roster one)) ≡ []
never_found session roster none one = step (session_of roster one) refl
  where
    step : (found : Option User) → session_of roster one ≡ found → filter (has_number session) (given found) ≡ []
    step None is = refl
    step (Some user) is =
        ap (λ (b : Bool). cond {A = List User} b (user ∷ []) [])
        (each_find (λ (other : User). has_number session other ≡ false) (has_number one) roster.sessions user (none_found (has_number session) roster.sessions none) is).0

pub never_seen : (session : SessionId) (roster : RosterState) → session_of roster session ≡ None → (edit : Edit) (closes : Bool)
    → filter (has_number session) (watched (whom_to_watch edit closes) roster) ≡ []
never_seen session roster none =
    looked_at roster (λ users. filter (has_number session) users ≡ []) refl (never_found session roster none) (none_given (has_number session) roster.sessions none)
