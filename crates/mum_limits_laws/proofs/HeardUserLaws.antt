-- A message on users is ignored for the first reason that applies.
use Rattle.mum_limits_laws.proofs.Common.{◌≡◌, ◌≢◌, ◌⊎◌, ℕ, ◌==◌, ◌&&◌, ◌||◌, not, Bool, false, List, [], ◌∷◌, length, Option, Some, None, inl, inr, refl, sym, ap, ◌∙◌, subst, arith, is_none, is_some, unwrap_or, ◌^◌, Contains, list_all, option_map_or, eq-eqb, false≢true, ne_eqb, none-some, same_Some, SessionId, EmptyText, Gone, NotLoggedIn, NotThere, OfAnother, Authenticate, UserState, session_of, has_number, holds_of_given, StateValue, some_found, is_number_there, first_standing, takes_no_edits, is_empty_text, is_here, is_oneself, session_or, sets_own, sets_own_of_another, is_gone_for, is_leave, is_login, UserMessage, Join, Kick, Leave, Query, Text, NamesFirst, Tells, tells_and, tells_either, tells_eq, tells_le, tells_lt, tells_not, tells_or, tells_so, IsNobody, GivesOwn, IsEmptyText, IsGone, IsNoSession, IsOfAnother, NamesNoUser, UserMessagesAreIgnoredForTheFirst}
use Rattle.mum_base.specs.declared.outcome.Reason.TheVariants.{TooLong}
use Rattle.mum_rules_user.proofs.Public.{ignores_for_first_reason_lem}
use Rattle.mum_rules_user.specs.{Asked.names_there, Asked.payload_of, Reasons.reasons}
use Rattle.mum_rules_user.specs.declared.message.UserMessage.TheVariants.{User}
use Rattle.mum_limits_laws.specs.HeardUsers.{AgainstHearing, NamesNobody}
use Rattle.mum_limits_laws.proofs.{Cases.first_is, Cases.some_given, Cases.table_names, Cases.tells_missing, HeardLaws.absent, HeardLaws.listed, HeardLaws.nobody, HeardLaws.same_number}

-- ---- who sends it

leaves : (message : UserMessage) → Tells (is_leave message) (message ≡ Leave)
leaves Leave = record { so = λ _. refl; not_so = λ off _. false≢true (sym off) }
leaves message = record { so = λ on. absurd (false≢true on); not_so = λ _ same. cc }

gone : (state : StateValue) (actor : Option SessionId) (message : UserMessage) → Tells (is_gone_for state actor message) (IsGone state actor message)
gone state None message = leaves message
gone state (Some session) message = tells_missing (session_of state.roster session)

no_login : (message : UserMessage) → Tells (not (is_login message)) ((login : Authenticate) (version : Option ℕ) → message ≢ Join login version)
no_login (Join login version) = record { so = λ on. absurd (false≢true on); not_so = λ _ never. never login version refl }
no_login message = record { so = λ _ login version same. cc; not_so = λ off _. false≢true (sym off) }

-- ---- whom it names

pub no_session : (state : StateValue) (n : ℕ) → Tells (not (is_here state.roster n)) (IsNoSession state n)
no_session state n =
    subst (λ (b : Bool). Tells (not b) (IsNoSession state n)) (some_found (has_number (record { 0 = n })) state.roster.sessions) (absent (session_of state.roster (record { 0 = n })))

module _ (p : ℕ → Bool) (P : ℕ → Type 0) (tells : (n : ℕ) → Tells (not (p n)) (P n)) where
  given : (found : Option ℕ) → Tells (not (holds_of_given p found)) ((n : ℕ) × (found ≡ Some n) × P n)
  given None = record { so = λ on. absurd (false≢true on); not_so = λ _ some. none-some some.0 some.1 }
  given (Some n) =
      tells_so (not (p n)) (λ (none : P n). (n, refl, none))
      (λ (some : (m : ℕ) × (Some n ≡ Some m) × P m). subst P (sym (same_Some n some.0 some.1)) some.2) (tells n)

  needed : (found : Option ℕ) → Tells (not (option_map_or p found false)) ((found ≡ None) ⊎ ((n : ℕ) × (found ≡ Some n) × P n))
  needed None = record { so = λ _. inl refl; not_so = λ off _. false≢true (sym off) }
  needed (Some n) =
      tells_so (not (p n)) (λ (none : P n). inr (n, refl, none))
      (λ (either : (Some n ≡ None) ⊎ ((m : ℕ) × (Some n ≡ Some m) × P m)). elim either as (λ _. P n) [
        | inl never ↦ absurd (none-some n (sym never))
        | inr some ↦ subst P (sym (same_Some n some.0 some.1)) some.2
      ]) (tells n)

abbrev Of : StateValue → (ℕ → Type 0) → Type 0
Of state Named = (n : ℕ) × Named n × IsNobody state n

abbrev Tested : StateValue → UserState → Type 0
Tested state asked =
    ((((n : ℕ) × (asked.session ≡ Some n) × IsNoSession state n) ⊎ Of state (λ n. asked.channel_id ≡ Some n)) ⊎ Of state (Contains asked.listening_channel_add))
    ⊎ Of state (Contains asked.listening_channel_remove)

to : (state : StateValue) (asked : UserState) → Tested state asked → NamesNoUser state asked
to state asked tested = elim tested as (λ _. NamesNoUser state asked) [
  | inl three ↦ (elim three as (λ _. NamesNoUser state asked) [
    | inl two ↦ (elim two as (λ _. NamesNoUser state asked) [
      | inl session ↦ inl session
      | inr some ↦ inr (some.0, inl some.1, some.2)
    ])
    | inr some ↦ inr (some.0, inr (inl some.1), some.2)
  ])
  | inr some ↦ inr (some.0, inr (inr some.1), some.2)
]

back : (state : StateValue) (asked : UserState) → NamesNoUser state asked → Tested state asked
back state asked names = elim names as (λ _. Tested state asked) [
  | inl session ↦ inl (inl (inl session))
  | inr some ↦ (elim some.1 as (λ _. Tested state asked) [
    | inl is ↦ inl (inl (inr (some.0, is, some.2)))
    | inr rest ↦ (elim rest as (λ _. Tested state asked) [
      | inl is ↦ inl (inr (some.0, is, some.2))
      | inr is ↦ inr (some.0, is, some.2)
    ])
  ])
]

names_nobody : (state : StateValue) (message : UserMessage) → Tells (not (names_there state message)) (NamesNobody state message)
names_nobody state (User asked) =
    let one : Bool = holds_of_given (is_here state.roster) asked.session in
    let two : Bool = holds_of_given (is_number_there state.tree) asked.channel_id in
    let three : Bool = list_all (is_number_there state.tree) asked.listening_channel_add in
    let four : Bool = list_all (is_number_there state.tree) asked.listening_channel_remove in
    tells_so (not (one && two && three && four)) (to state asked) (back state asked)
    (tells_either (one && two && three) four
    (tells_either (one && two) three
    (tells_either one two
    (given (is_here state.roster) (IsNoSession state) (no_session state) asked.session)
    (given (is_number_there state.tree) (IsNobody state) (nobody state) asked.channel_id))
    (listed state asked.listening_channel_add))
    (listed state asked.listening_channel_remove))
names_nobody state (Kick asked) = needed (is_here state.roster) (IsNoSession state) (no_session state) asked.session
names_nobody state (Query asked) = given (is_number_there state.tree) (IsNobody state) (nobody state) asked.channel_id
names_nobody state message = record { so = λ on. absurd (false≢true on); not_so = λ _ never. never }

-- ---- what it gives of another

no_length : {X : Type 0} (x : X) (xs : List X) → (length (x ∷ xs) == 0) ≡ false
no_length x xs = ne_eqb (length (x ∷ xs)) 0 (λ (e : length (x ∷ xs) ≡ 0). absurd (omega (arith, e)))

pub empty : {X : Type 0} (xs : List X) → Tells (length xs == 0) (xs ≡ [])
empty [] = record { so = λ _. refl; not_so = λ off _. false≢true (sym off) }
empty {X} (x ∷ xs) = record { so = λ on. absurd (false≢true (sym (no_length x xs) ∙ on)); not_so = λ _ same. cc }

own : (asked : UserState) → Tells (sets_own asked) (GivesOwn asked)
own asked =
    let mute : Bool = is_some asked.self_mute in
    let deaf : Bool = is_some asked.self_deaf in
    let comment : Bool = is_some asked.comment in
    let context : Bool = is_some asked.plugin_context in
    let records : Bool = is_some asked.recording in
    let adds : Bool = length asked.listening_channel_add == 0 in
    let removes : Bool = length asked.listening_channel_remove == 0 in
    tells_or (mute || deaf || comment || context || records || not adds) (not removes)
    (tells_or (mute || deaf || comment || context || records) (not adds)
    (tells_or (mute || deaf || comment || context) records
    (tells_or (mute || deaf || comment) context
    (tells_or (mute || deaf) comment
    (tells_or mute deaf (some_given asked.self_mute) (some_given asked.self_deaf))
    (some_given asked.comment))
    (some_given asked.plugin_context))
    (some_given asked.recording))
    (tells_not adds (empty asked.listening_channel_add)))
    (tells_not removes (empty asked.listening_channel_remove))

pub another : (session : SessionId) (found : Option ℕ) → Tells (not (is_oneself session (session_or session found))) ((n : ℕ) × (found ≡ Some n) × (n ≢ session.0))
another session None = record {
  so = λ on. absurd (false≢true (sym (ap not (eq-eqb session.0 session.0 refl)) ∙ on));
  not_so = λ _ some. none-some some.0 some.1;
}
another session (Some n) =
    tells_so (not (session.0 == n)) (λ (apart : session.0 ≡ n → ⊥). (n, refl, (λ same. apart (sym same))))
    (λ (some : (m : ℕ) × (Some n ≡ Some m) × (m ≢ session.0)). λ same. some.2 (sym (same_Some n some.0 some.1) ∙ sym same))
    (tells_not (session.0 == n) (tells_eq session.0 n))

of_session : (session : SessionId) (message : UserMessage) → Tells (sets_own_of_another session message) (IsOfAnother (Some session) message)
of_session session (User asked) =
    tells_and (not (is_oneself session (session_or session asked.session))) (sets_own asked) (another session asked.session) (own asked)
of_session session message = record { so = λ on. absurd (false≢true on); not_so = λ _ never. never }

of_nobody : (message : UserMessage) → Tells false (IsOfAnother None message)
of_nobody message = record { so = λ on. absurd (false≢true on); not_so = λ _ never. never }

of_another : (actor : Option SessionId) (message : UserMessage) → Tells (option_map_or (λ session. sets_own_of_another session message) actor false) (IsOfAnother actor message)
of_another None message = of_nobody message
of_another (Some session) message = of_session session message

says_nothing : (message : UserMessage) → Tells (is_empty_text message) (IsEmptyText message)
says_nothing (Text asked) = empty (unwrap_or asked.message [])
says_nothing message = record { so = λ on. absurd (false≢true on); not_so = λ _ never. never }

-- ---- the law

names : (state : StateValue) (actor : Option SessionId) (message : UserMessage)
    → NamesFirst (AgainstHearing state actor message) (Gone ∷ NotLoggedIn ∷ TooLong ∷ NotThere ∷ OfAnother ∷ EmptyText ∷ []) (first_standing (reasons state actor message))
names state actor message =
    table_names (AgainstHearing state actor message) (reasons state actor message) (
      tells_or (is_gone_for state actor message) (takes_no_edits state) (gone state actor message) (tells_le (2 ^ 62) state.counts.revision),
      (λ _. (
        tells_and (is_none actor) (not (is_login message)) (tells_missing actor) (no_login message),
        (λ _. (
          tells_lt 65000 (length (payload_of message)),
          (λ _. (
            names_nobody state message,
            (λ _. (
              of_another actor message,
              (λ _. (
                says_nothing message,
                (λ _. tt),
              )),
            )),
          )),
        )),
      )),
    )

pub user_messages_lem : UserMessagesAreIgnoredForTheFirst
user_messages_lem state actor message why proper is =
    let first = ignores_for_first_reason_lem state actor message why proper is in (
      first.0,
      first.1 ∙ same_number first.0,
      first_is (AgainstHearing state actor message) (Gone ∷ NotLoggedIn ∷ TooLong ∷ NotThere ∷ OfAnother ∷ EmptyText ∷ []) (reasons state actor message) first.0 (names state actor message) first.2,
    )
