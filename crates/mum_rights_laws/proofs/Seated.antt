-- What an accepted message on users sets of sessions, of what they listen to and of their voice targets.
use Rattle.mum_rights_laws.proofs.Common.{◌≡◌, ℕ, ◌==◌, ◌&&◌, not, Bool, true, false, cond, List, [], ◌∷◌, length, Option, Some, None, refl, ap, sym, ◌∙◌, arith, filter, find, option_map, option_map_or, nat_tests, and_parts, both_ways, eq-eqb, eqb-true, ne_eqb, ChannelId, SessionId, UserEdit, changed_user, listens, left, session_of, RosterState, has_number, is_of, is_of_session, is_pair, is_target, target_below, target_of, targeted, with_target, ListenerPair, TargetRow, User, applied, session_edit, set_by, StateValue, Edit, Kicks, Leaves, SetTokens, targeted_sessions, heard, silent_after, number_of_target, session_or, target_asked, tokens_kept, UserMessage}
use Rattle.mum_users.specs.declared.target.Target.{Target}
use Rattle.mum_rights_laws.proofs.{Kept.any_kept, Kept.found_kept, Kept.found_mapped, Kept.none_kept, Settled.found_as, Settled.gone_as, UserKinds.IsUserKind, UserKinds.aims, UserKinds.change_of, UserKinds.changes, UserKinds.kicks, UserKinds.leaves, UserKinds.renews, UserKinds.says}

-- ---- rows

-- what an edit makes of a session that stays
abbrev pub tokened : Edit → User → User
tokened (SetTokens session tokens) user = cond (has_number session user) (record user { tokens = tokens }) user
tokened edit user = user

abbrev pub seated : Edit → User → User
seated edit user = option_map_or (λ one. cond (has_number one.session user) (changed_user one.change user) user) (session_edit edit) (tokened edit user)

-- the session goes
abbrev pub goes : Edit → SessionId → Bool
goes (Leaves one) session = one.0 == session.0
goes (Kicks one by reason ban) session = one.0 == session.0
goes edit session = false

found_same : {X : Type 0} (o : Option X) → o ≡ option_map (λ x. x) o
found_same None = refl
found_same (Some x) = refl

apart_from : (a b c : ℕ) → (a == b) ≡ true → (c == b) ≡ false → (a == c) ≡ false
apart_from a b c one two = ne_eqb a c (λ same. both_ways (c == b) two (eq-eqb c b (sym same ∙ eqb-true a b one)))

left_session : (roster : RosterState) (one session : SessionId) → session_of (left roster one) session ≡ cond (one.0 == session.0) None (session_of roster session)
left_session roster one session = step (one.0 == session.0) refl
  where
    step : (b : Bool) → (one.0 == session.0) ≡ b → session_of (left roster one) session ≡ cond b None (session_of roster session)
    step true same =
        none_kept (has_number session) (λ user. not (has_number one user))
        (λ user is. ap not (eq-eqb user.session.0 one.0 (eqb-true user.session.0 session.0 is ∙ sym (eqb-true one.0 session.0 same)))) roster.sessions
    step false apart =
        found_kept (has_number session) (λ user. not (has_number one user)) (λ user is. ap not (apart_from user.session.0 session.0 one.0 is apart)) roster.sessions

changed_number : (session one : SessionId) (change : UserEdit) (user : User) → has_number session (cond (has_number one user) (changed_user change user) user) ≡ has_number session user
changed_number session one change user = step (has_number one user)
  where
    step : (b : Bool) → has_number session (cond b (changed_user change user) user) ≡ has_number session user
    step true = refl
    step false = refl

tokens_number : (session one : SessionId) (tokens : List (List ℕ)) (user : User) → has_number session (cond (has_number one user) (record user { tokens = tokens }) user) ≡ has_number session user
tokens_number session one tokens user = step (has_number one user)
  where
    step : (b : Bool) → has_number session (cond b (record user { tokens = tokens }) user) ≡ has_number session user
    step true = refl
    step false = refl

module _ (before : StateValue) (actor : SessionId) (own : User) (tokens : List (List ℕ)) where
  sessions_set : {message : UserMessage} {edit : Edit} → IsUserKind before actor own tokens message edit → (session : SessionId)
      → session_of (set_by before edit).roster session ≡ cond (goes edit session) None (option_map (seated edit) (session_of before.roster session))
  sessions_set (renews login version) session =
      found_mapped (has_number session) (λ user. cond (has_number actor user) (record user { tokens = tokens_kept login.tokens }) user)
      (tokens_number session actor (tokens_kept login.tokens)) before.roster.sessions
  sessions_set (changes asked may) session =
      let change = change_of before.roster actor asked in
      found_mapped (has_number session) (λ user. cond (has_number (session_or actor asked.session) user) (changed_user change user) user)
      (changed_number session (session_or actor asked.session) change) before.roster.sessions
  sessions_set (kicks asked may) session =
      left_session before.roster (session_or actor asked.session) session
      ∙ ap (λ (o : Option User). cond ((session_or actor asked.session).0 == session.0) None o) (found_same (session_of before.roster session))
  sessions_set (says asked) session = found_same (session_of before.roster session)
  sessions_set (aims asked) session =
      ap (λ users. find (has_number session) users) (targeted_sessions before.roster actor (number_of_target asked) (target_asked asked))
      ∙ found_same (session_of before.roster session)
  sessions_set leaves session =
      left_session before.roster actor session ∙ ap (λ (o : Option User). cond (actor.0 == session.0) None o) (found_same (session_of before.roster session))

  -- whoever is there was there, is as the edit makes it but for suppression, and does not go
  pub record IsSeated (edit : Edit) (session : SessionId) (was now : User) : Type 0 where
    pub stays : goes edit session ≡ false
    pub row : heard (silent_after before edit (set_by before edit)) (seated edit was) ≡ now

  staying : (b : Bool) (o : Option User) (now : User) → cond b None o ≡ Some now → (b ≡ false) × (o ≡ Some now)
  staying true o now is = cc
  staying false o now is = (refl, is)

  something : (f : User → User) (o : Option User) (now : User) → option_map f o ≡ Some now → (was : User) × (o ≡ Some was) × (f was ≡ now)
  something f None now is = cc
  something f (Some was) now is = (was, refl, cc)

  pub was_there : {message : UserMessage} {edit : Edit} → IsUserKind before actor own tokens message edit → (session : SessionId) (now : User)
      → session_of (applied before edit).roster session ≡ Some now
      → (was : User) × (session_of before.roster session ≡ Some was) × IsSeated edit session was now
  was_there {edit = edit} kind session now found =
      let (mid, set, same) = found_as before edit session now found in
      let (stay, some) = staying (goes edit session) (option_map (seated edit) (session_of before.roster session)) mid (sym (sessions_set kind session) ∙ set) in
      let (was, is, row) = something (seated edit) (session_of before.roster session) mid some in
      (was, is, record { stays = stay; row = ap (heard (silent_after before edit (set_by before edit))) row ∙ same })

  -- whoever is gone went
  pub went : {message : UserMessage} {edit : Edit} → IsUserKind before actor own tokens message edit → (session : SessionId) (was : User)
      → session_of before.roster session ≡ Some was → session_of (applied before edit).roster session ≡ None → goes edit session ≡ true
  went {edit = edit} kind session was is gone =
      step (goes edit session) (sym (ap (λ (o : Option User). cond (goes edit session) None (option_map (seated edit) o)) is) ∙ sym (sessions_set kind session) ∙ gone_as before edit session gone)
    where
      step : (b : Bool) → cond b None (Some (seated edit was)) ≡ None → b ≡ true
      step true none = refl
      step false none = cc

-- ---- what others listen to, and their targets

not_listed : (b : Bool) → (b && true) ≡ b
not_listed true = refl
not_listed false = refl

pub targeted_listeners : (roster : RosterState) (session : SessionId) (id : ℕ) (target : Target) → (targeted roster session id target).listeners ≡ roster.listeners
targeted_listeners roster session id target = step (length target.items == 0)
  where
    step : (b : Bool) → (cond b (record roster { targets = filter (λ row. not (is_target session id row)) roster.targets })
        (record roster { targets = with_target (record { session = session; id = id; target = target }) roster.targets })).listeners ≡ roster.listeners
    step true = refl
    step false = refl

pub targeted_limit : (roster : RosterState) (session : SessionId) (id : ℕ) (target : Target) → (targeted roster session id target).limit ≡ roster.limit
targeted_limit roster session id target = step (length target.items == 0)
  where
    step : (b : Bool) → (cond b (record roster { targets = filter (λ row. not (is_target session id row)) roster.targets })
        (record roster { targets = with_target (record { session = session; id = id; target = target }) roster.targets })).limit ≡ roster.limit
    step true = refl
    step false = refl

-- the new target is not this session's under this number
found_beside : (session : SessionId) (id : ℕ) (new : TargetRow) → is_target session id new ≡ false → (rows : List TargetRow)
    → find (is_target session id) (with_target new rows) ≡ find (is_target session id) rows
found_beside session id new apart [] = ap (λ (b : Bool). cond b (Some new) None) apart
found_beside session id new apart (row ∷ rows) = step (target_below new.session new.id row) (is_target new.session new.id row) refl (found_beside session id new apart rows)
  where
    first : (xs : List TargetRow) → find (is_target session id) (new ∷ xs) ≡ find (is_target session id) xs
    first xs = ap (λ (b : Bool). cond b (Some new) (find (is_target session id) xs)) apart

    other : is_target new.session new.id row ≡ true → find (is_target session id) (row ∷ rows) ≡ find (is_target session id) rows
    other same =
        let (owner, number) = and_parts (row.session.0 == new.session.0) (row.id == new.id) same in
        let off : is_target session id row ≡ false =
        ap (λ n. (n == session.0) && (row.id == id)) (eqb-true row.session.0 new.session.0 owner)
        ∙ ap (λ n. (new.session.0 == session.0) && (n == id)) (eqb-true row.id new.id number) ∙ apart in
        ap (λ (b : Bool). cond b (Some row) (find (is_target session id) rows)) off

    step : (below same : Bool) → is_target new.session new.id row ≡ same → find (is_target session id) (with_target new rows) ≡ find (is_target session id) rows
        → find (is_target session id) (cond below (row ∷ with_target new rows) (cond same (new ∷ rows) (new ∷ row ∷ rows))) ≡ find (is_target session id) (row ∷ rows)
    step true same is rest = ap (λ (o : Option TargetRow). cond (is_target session id row) (Some row) o) rest
    step false true is rest = first rows ∙ sym (other is)
    step false false is rest = first (row ∷ rows)

turned : (a b c d : ℕ) → ((a == b) && (c == d)) ≡ false → ((b == a) && (d == c)) ≡ false
turned a b c d off = grind (arith, nat_tests)

pub targeted_apart : (roster : RosterState) (one session : SessionId) (id number : ℕ) (target : Target) → ((one.0 == session.0) && (number == id)) ≡ false
    → target_of (targeted roster one number target) session id ≡ target_of roster session id
targeted_apart roster one session id number target apart = step (length target.items == 0)
  where
    step : (b : Bool) → target_of (cond b (record roster { targets = filter (λ row. not (is_target one number row)) roster.targets })
        (record roster { targets = with_target (record { session = one; id = number; target = target }) roster.targets })) session id ≡ target_of roster session id
    step true =
        ap (option_map (λ (row : TargetRow). row.target))
        (found_kept (is_target session id) (λ row. not (is_target one number row))
        (λ row is.
        let (owner, named) = and_parts (row.session.0 == session.0) (row.id == id) is in
        ap not (ap (λ n. (n == one.0) && (row.id == number)) (eqb-true row.session.0 session.0 owner)
        ∙ ap (λ n. (session.0 == one.0) && (n == number)) (eqb-true row.id id named) ∙ turned one.0 session.0 number id apart)) roster.targets)
    step false = ap (option_map (λ (row : TargetRow). row.target)) (found_beside session id (record { session = one; id = number; target = target }) apart roster.targets)

pub targeted_beside : (roster : RosterState) (one session : SessionId) (id number : ℕ) (target : Target) → (one.0 == session.0) ≡ false
    → target_of (targeted roster one number target) session id ≡ target_of roster session id
targeted_beside roster one session id number target apart = targeted_apart roster one session id number target (ap (λ (b : Bool). b && (number == id)) apart)

pub left_listens : (roster : RosterState) (one session : SessionId) (channel : ChannelId) → (one.0 == session.0) ≡ false → listens (left roster one) session channel ≡ listens roster session channel
left_listens roster one session channel apart =
    any_kept (is_pair session channel) (λ (pair : ListenerPair). not (is_of_session one pair)) true
    (λ pair is. ap not (apart_from pair.session.0 session.0 one.0 (and_parts (pair.session.0 == session.0) (pair.channel.0 == channel.0) is).0 apart)) roster.listeners
    ∙ not_listed (listens roster session channel)

pub left_aims : (roster : RosterState) (one session : SessionId) (id : ℕ) → (one.0 == session.0) ≡ false → target_of (left roster one) session id ≡ target_of roster session id
left_aims roster one session id apart =
    ap (option_map (λ (row : TargetRow). row.target))
    (found_kept (is_target session id) (λ row. not (is_of one row))
    (λ row is. ap not (apart_from row.session.0 session.0 one.0 (and_parts (row.session.0 == session.0) (row.id == id) is).0 apart)) roster.targets)
