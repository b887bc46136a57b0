-- A change of the sessions is refused for the first cause that applies.
use Rattle.mum_part_laws.proofs.Common.{◌≡◌, ◌⊎◌, ℕ, ◌<◌, ◌==◌, ◌||◌, ◌&&◌, not, Bool, true, false, cond, List, [], ◌∷◌, Option, Some, None, inl, inr, refl, sym, ap, subst, ◌∙◌, length, nat_le, nat_lt, sum_by, ◌^◌, ◌-◌, Contains, count_by, find, list_any, false≢true, none-some, bytes_eq-Decides, ChannelId, SessionId, UserFault, Full, ListenerLimit, NameInUse, NoSession, SessionsUsedUp, TargetId, TargetSize, UserListenerLimit, ListenerPair, Target, TargetItem, User, is_crowded, listens, is_used_up, RosterState, has_name, has_number, is_of_channel, is_of_session, is_oversize, NamesFirst, AgainstEdit, AgainstJoin, AgainstListening, AgainstTarget, EditsNameTheFirst, IsGone, IsTooLarge, JoinsNameTheFirst, ListeningNamesTheFirst, TargetsNameTheFirst, listened_count, listener_count}
use Rattle.mum_users.specs.{Edit.pairs_after, Sessions.is_full}
use Rattle.mum_part_laws.proofs.Chains.{Tells, chain_names, tells_and, tells_any, tells_eq, tells_le, tells_lt, tells_off, tells_or, tells_so}

-- ---- whether a session is here

none_here : {X : Type 0} (p : X → Bool) (xs : List X) → Tells (not (list_any p xs)) (find p xs ≡ None)
none_here p [] = record { so = λ is. refl; not_so = λ is none. false≢true (sym is) }
none_here {X} p (x ∷ xs) = step (p x) (none_here p xs)
  where
    step : (b : Bool) → Tells (not (list_any p xs)) (find p xs ≡ None) → Tells (not (b || list_any p xs)) (cond b (Some x) (find p xs) ≡ None)
    step true rest = record { so = λ is. absurd (false≢true is); not_so = λ is none. none-some x (sym none) }
    step false rest = rest

gone : (roster : RosterState) (session : SessionId) → Tells (not (list_any (has_number session) roster.sessions)) (IsGone roster session)
gone roster session = none_here (has_number session) roster.sessions

named : (roster : RosterState) (name : List ℕ) → Tells (list_any (has_name name) roster.sessions) ((user : User) × Contains roster.sessions user × (user.name ≡ name))
named roster name =
    tells_any (has_name name) (λ (user : User). user.name ≡ name)
    (λ user. record { so = λ is. (bytes_eq-Decides user.name name).0 is; not_so = λ is same. false≢true (sym is ∙ (bytes_eq-Decides user.name name).1 same) }) roster.sessions

-- ---- the laws

pub joins_lem : JoinsNameTheFirst
joins_lem roster name =
    chain_names (AgainstJoin roster name) ((NameInUse, list_any (has_name name) roster.sessions) ∷ (Full, is_full roster) ∷ (SessionsUsedUp, is_used_up roster) ∷ []) (
      named roster name,
      (λ _. (
        tells_le roster.limit (length roster.sessions),
        (λ _. (
          tells_le (2 ^ 32 - 1) roster.last,
          (λ _. tt),
        )),
      )),
    )

-- what is answered where a session listens already, test by test
unless_so : (s a b : Bool) → cond (not s && a) (Some ListenerLimit) (cond (not s && b) (Some UserListenerLimit) None) ≡ cond s None (cond a (Some ListenerLimit) (cond b (Some UserListenerLimit) None))
unless_so true a b = refl
unless_so false a b = refl

pub listening_lem : ListeningNamesTheFirst
listening_lem roster session channel =
    let near : Bool = listens roster session channel in
    let crowd : Bool = nat_le 64 (listener_count roster channel) in
    let many : Bool = nat_le 32 (listened_count roster session) in
    subst (NamesFirst (AgainstListening roster session channel) (NoSession ∷ ListenerLimit ∷ UserListenerLimit ∷ []))
    (ap (λ (o : Option UserFault). cond (not (list_any (has_number session) roster.sessions)) (Some NoSession) o) (unless_so near crowd many))
    (chain_names (AgainstListening roster session channel)
    ((NoSession, not (list_any (has_number session) roster.sessions)) ∷ (ListenerLimit, not near && crowd) ∷ (UserListenerLimit, not near && many) ∷ []) (
      gone roster session,
      (λ _. (
        tells_and (not near) crowd (tells_off near) (tells_le 64 (listener_count roster channel)),
        (λ _. (
          tells_and (not near) many (tells_off near) (tells_le 32 (listened_count roster session)),
          (λ _. tt),
        )),
      )),
    ))

pub edits_lem : EditsNameTheFirst
edits_lem roster session change =
    let pairs : List ListenerPair = pairs_after session change roster.listeners in
    chain_names (AgainstEdit roster session change)
    ((NoSession, not (list_any (has_number session) roster.sessions)) ∷ (ListenerLimit, list_any (is_crowded pairs) change.listen) ∷ (UserListenerLimit, nat_lt 32 (count_by (is_of_session session) pairs)) ∷ []) (
      gone roster session,
      (λ _. (
        tells_any (is_crowded pairs) (λ (channel : ChannelId). 64 < count_by (is_of_channel channel) pairs) (λ channel. tells_lt 64 (count_by (is_of_channel channel) pairs)) change.listen,
        (λ _. (
          tells_lt 32 (count_by (is_of_session session) pairs),
          (λ _. tt),
        )),
      )),
    )

too_large : (target : Target) → Tells (is_oversize target) (IsTooLarge target)
too_large target =
    let items : Bool = nat_lt 16 (length target.items) in
    let sessions : Bool = nat_lt 128 (sum_by (λ item. length item.sessions) target.items) in
    let long : Bool = list_any (λ item. nat_lt 128 (length item.group)) target.items in
    tells_so (is_oversize target)
    (λ (is : ((16 < length target.items) ⊎ (128 < sum_by (λ item. length item.sessions) target.items)) ⊎ ((item : TargetItem) × Contains target.items item × (128 < length item.group))). regrouped is)
    (λ (is : IsTooLarge target). back is)
    (tells_or (items || sessions) long
    (tells_or items sessions (tells_lt 16 (length target.items)) (tells_lt 128 (sum_by (λ item. length item.sessions) target.items)))
    (tells_any (λ item. nat_lt 128 (length item.group)) (λ (item : TargetItem). 128 < length item.group) (λ item. tells_lt 128 (length item.group)) target.items))
  where
    regrouped : {A B C : Type 0} → (A ⊎ B) ⊎ C → A ⊎ B ⊎ C
    regrouped {A} {B} {C} is = elim is as (λ _. A ⊎ B ⊎ C) [ inl first ↦ (elim first as (λ _. A ⊎ B ⊎ C) [ inl a ↦ inl a | inr b ↦ inr (inl b) ]) | inr c ↦ inr (inr c) ]

    back : {A B C : Type 0} → A ⊎ B ⊎ C → (A ⊎ B) ⊎ C
    back {A} {B} {C} is = elim is as (λ _. (A ⊎ B) ⊎ C) [ inl a ↦ inl (inl a) | inr rest ↦ (elim rest as (λ _. (A ⊎ B) ⊎ C) [ inl b ↦ inl (inr b) | inr c ↦ inr c ]) ]

pub targets_lem : TargetsNameTheFirst
targets_lem roster session id target =
    chain_names (AgainstTarget roster session id target)
    ((NoSession, not (list_any (has_number session) roster.sessions)) ∷ (TargetId, (id == 0) || nat_lt 30 id) ∷ (TargetSize, is_oversize target) ∷ []) (
      gone roster session,
      (λ _. (
        tells_or (id == 0) (nat_lt 30 id) (tells_eq id 0) (tells_lt 30 id),
        (λ _. (
          too_large target,
          (λ _. tt),
        )),
      )),
    )
