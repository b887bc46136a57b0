-- Whoever listens knows what is, over any edits.
use Rattle.mum_client_laws.proofs.Common.{◌≡◌, ◌==◌, ◌&&◌, ◌||◌, ℕ, Bool, true, false, not, cond, List, [], ◌∷◌, ◌++◌, map, Option, Some, None, refl, ap, sym, ◌∙◌, filter, flat_map, and_parts, eq-eqb, eqb-true, true≢false, append-nil, is_some, fold-append, AccountId, SessionId, Slot, next_number, session_of, has_number, User, applied, fits, given, IsProper, StateValue, Edit, Join, RemoveChannel, fit_parts, fit_proper, notices, others, parcel, to_each, user_frame, sync_block, user_told, Notice, Brings, frames_to, all_heard, heard, Known, nothing, public, NewcomersKnowWhatIs, StaysDuring, WhoJoinsKnowsWhatIs, WhoListensKnowsWhatIs, WhoStaysKnowsWhatIs, after_all, is_here, sent_of}
use Rattle.mum_client_laws.proofs.{ChannelsAfter.channels_known, Framed.both_framed, Framed.frames_append, Framed.frames_posted, Membership.members, Newcomers.block_brings, Removing.removal_known, Staying.brings}

pub found_row : (state : StateValue) (session : SessionId) → is_here state session ≡ true → (user : User) × (session_of state.roster session ≡ Some user)
found_row state session here = step (session_of state.roster session) refl here
  where
    step : (found : Option User) → session_of state.roster session ≡ found → is_some found ≡ true → (user : User) × (session_of state.roster session ≡ Some user)
    step None is some = absurd (true≢false (sym some))
    step (Some user) is some = (user, is)

pub newcomers_know_what_is_lem : NewcomersKnowWhatIs
newcomers_know_what_is_lem state session proper here =
    let (user, is) = found_row state session here in block_brings state proper session user is

-- ---- whoever joins

-- nobody is among the others
none_other : (session : SessionId) (users : List User) → filter (has_number session) (filter (λ user. not (has_number session user)) users) ≡ []
none_other session [] = refl
none_other session (user ∷ users) = step (has_number session user) refl (none_other session users)
  where
    step : (b : Bool) → has_number session user ≡ b → filter (has_number session) (filter (λ one. not (has_number session one)) users) ≡ []
        → filter (has_number session) (cond (not b) (user ∷ filter (λ one. not (has_number session one)) users) (filter (λ one. not (has_number session one)) users)) ≡ []
    step true is rest = rest
    step false is rest =
        ap (λ (b : Bool). cond b (user ∷ filter (has_number session) (filter (λ one. not (has_number session one)) users)) (filter (has_number session) (filter (λ one. not (has_number session one)) users))) is
        ∙ rest

nothing_after : (sent : List Notice) → sent ++ [] ++ [] ++ [] ++ [] ++ [] ≡ sent
nothing_after sent =
    append-nil (sent ++ [] ++ [] ++ [] ++ []) ∙ append-nil (sent ++ [] ++ [] ++ []) ∙ append-nil (sent ++ [] ++ []) ∙ append-nil (sent ++ []) ∙ append-nil sent

-- whoever joins is there
pub joiner_here : (state : StateValue) (session : SessionId) (slot : Slot) (name : List ℕ) (account : Option AccountId) (tokens : List (List ℕ)) → let join : Edit = Join session slot name account tokens in
    fits state join ≡ true → is_here (applied state join) session ≡ true
joiner_here state session slot name account tokens fit =
    let join : Edit = Join session slot name account tokens in
    let next : session.0 ≡ (next_number state.roster).0 =
    eqb-true session.0 (next_number state.roster).0 (and_parts (session.0 == (next_number state.roster).0) _ (fit_parts state join fit).numbers).0 in
    members state join session
    ∙ ap (λ (b : Bool). (b || is_some (session_of state.roster session)) && not false) (eq-eqb (next_number state.roster).0 session.0 (sym next))

pub who_joins_knows_what_is_lem : WhoJoinsKnowsWhatIs
who_joins_knows_what_is_lem state session slot name account tokens proper fit =
    let join : Edit = Join session slot name account tokens in
    let after : StateValue = applied state join in
    let here : is_here after session ≡ true = joiner_here state session slot name account tokens fit in
    let (user, is) = found_row after session here in
    let (messages, framed, heard_all) = block_brings after (fit_proper state join proper fit).1 session user is in
    let tells : List Notice = flat_map (λ one. to_each (others after session) (user_frame (user_told after.roster one))) (given (session_of after.roster session)) in
    let none : frames_to session (flat_map (λ one. to_each (others after session) (user_frame (user_told after.roster one))) (given (session_of after.roster session))) ≡ [] =
    ap (λ (found : Option User). frames_to session (flat_map (λ one. to_each (others after session) (user_frame (user_told after.roster one))) (given found))) is
    ∙ ap (frames_to session) (append-nil (to_each (others after session) (user_frame (user_told after.roster user))))
    ∙ frames_posted session (parcel (user_frame (user_told after.roster user))) (λ one. refl) (others after session)
    ∙ ap (λ (users : List User). map (λ one. user_frame (user_told after.roster user)) users) (none_other session after.roster.sessions) in
    let all : frames_to session (notices state join after) ≡ frames_to session (sync_block after session) =
    ap (frames_to session) (nothing_after (sync_block after session ++ tells))
    ∙ frames_append session (sync_block after session) tells ∙ ap (λ (frames : List (List ℕ)). frames_to session (sync_block after session) ++ frames) none
    ∙ append-nil (frames_to session (sync_block after session)) in
    (messages, framed ∙ sym all, heard_all)

-- ---- whoever stays

pub who_stays_knows_what_is_lem : WhoStaysKnowsWhatIs
who_stays_knows_what_is_lem state (RemoveChannel top actor) session proper fit here there =
    let (was, before) = found_row state session here in
    let (now, is) = found_row (applied state (RemoveChannel top actor)) session there in
    brings state (RemoveChannel top actor) session was now proper fit before is (removal_known state top actor proper fit)
who_stays_knows_what_is_lem state edit session proper fit here there =
    let (was, before) = found_row state session here in
    let (now, is) = found_row (applied state edit) session there in
    brings state edit session was now proper fit before is (channels_known state edit proper fit tt)

-- what one list of notices brings, and then another
both_bring : (session : SessionId) (one other : List Notice) (first middle last : Known) → Brings session one first middle → Brings session other middle last
    → Brings session (one ++ other) first last
both_bring session one other first middle last (begins, begun, so) (ends, ended, then_so) = (
  begins ++ ends,
  both_framed session begins ends one other begun ended,
  fold-append heard first begins ends ∙ ap (λ (known : Known). all_heard known ends) so ∙ then_so,
)

here_first : (session : SessionId) (state : StateValue) (edits : List Edit) → StaysDuring session state edits → is_here state session ≡ true
here_first session state [] stays = stays
here_first session state (edit ∷ edits) stays = stays.0

edits_bring : (session : SessionId) (state : StateValue) (edits : List Edit) → IsProper state → StaysDuring session state edits
    → Brings session (sent_of state edits) (public state) (public (after_all state edits))
edits_bring session state [] proper stays = ([], refl, refl)
edits_bring session state (edit ∷ edits) proper stays =
    both_bring session (notices state edit (applied state edit)) (sent_of (applied state edit) edits) (public state) (public (applied state edit)) (public (after_all (applied state edit) edits))
    (who_stays_knows_what_is_lem state edit session proper stays.1 stays.0 (here_first session (applied state edit) edits stays.2))
    (edits_bring session (applied state edit) edits (fit_proper state edit proper stays.1).1 stays.2)

pub who_listens_knows_what_is_lem : WhoListensKnowsWhatIs
who_listens_knows_what_is_lem state session slot name account tokens edits proper fit stays =
    let join : Edit = Join session slot name account tokens in
    let after : StateValue = applied state join in
    both_bring session (notices state join after) (sent_of after edits) nothing (public after) (public (after_all after edits))
    (who_joins_knows_what_is_lem state session slot name account tokens proper fit) (edits_bring session after edits (fit_proper state join proper fit).1 stays)
