-- A message on channels is ignored for the first reason that applies.
use Rattle.mum_limits_laws.proofs.Common.{◌≡◌, ◌⊎◌, ℕ, ◌&&◌, not, Bool, List, [], ◌∷◌, length, Option, Some, None, inl, inr, refl, sym, ◌∙◌, subst, is_some, ◌^◌, Contains, list_all, option_or, false≢true, none-some, same_Some, reason_code, SessionId, Reason, EmptyText, Gone, Malformed, NotLoggedIn, NotRead, NotThere, OfAnother, row_of, session_of, holds_of_given, StateValue, is_named_there, is_number_there, names_there, payload_of, first_standing, is_gone, reasons, takes_no_edits, TreeMessage, Acl, Remove, State, ignores_for_first_reason_lem, NamesFirst, Tells, tells_either, tells_le, tells_lt, tells_or, tells_so, AgainstHearing, IsNobody, NamesNobody, TreeMessagesAreIgnoredForTheFirst}
use Rattle.mum_base.specs.declared.outcome.Reason.TheVariants.{TooLong}
use Rattle.mum_limits_laws.specs.Heard.{number}
use Rattle.mum_limits_laws.proofs.Cases.{first_is, table_names, tells_missing, tells_not_all}

-- ---- whom a message names

pub absent : {X : Type 0} (o : Option X) → Tells (not (is_some o)) (o ≡ None)
absent None = record { so = λ is. refl; not_so = λ is none. false≢true (sym is) }
absent (Some x) = record { so = λ is. absurd (false≢true is); not_so = λ is none. none-some x (sym none) }

pub nobody : (state : StateValue) (n : ℕ) → Tells (not (is_number_there state.tree n)) (IsNobody state n)
nobody state n = absent (row_of state.tree.channels (record { 0 = n }))

-- a number that is needed
needed : (state : StateValue) (found : Option ℕ) → Tells (not (is_named_there state.tree found)) ((found ≡ None) ⊎ ((n : ℕ) × (found ≡ Some n) × IsNobody state n))
needed state None = record { so = λ is. inl refl; not_so = λ is _. false≢true (sym is) }
needed state (Some n) =
    tells_so (not (is_number_there state.tree n)) (λ (none : IsNobody state n). inr (n, refl, none))
    (λ (either : (Some n ≡ None) ⊎ ((m : ℕ) × (Some n ≡ Some m) × IsNobody state m)). elim either as (λ _. IsNobody state n) [
      | inl never ↦ absurd (none-some n (sym never))
      | inr some ↦ subst (IsNobody state) (sym (same_Some n some.0 some.1)) some.2
    ]) (nobody state n)

-- and one that may be left out
given : (state : StateValue) (found : Option ℕ) → Tells (not (holds_of_given (is_number_there state.tree) found)) ((n : ℕ) × (found ≡ Some n) × IsNobody state n)
given state None = record { so = λ is. absurd (false≢true is); not_so = λ is some. none-some some.0 some.1 }
given state (Some n) =
    tells_so (not (is_number_there state.tree n)) (λ (none : IsNobody state n). (n, refl, none))
    (λ (some : (m : ℕ) × (Some n ≡ Some m) × IsNobody state m). subst (IsNobody state) (sym (same_Some n some.0 some.1)) some.2) (nobody state n)

pub listed : (state : StateValue) (numbers : List ℕ) → Tells (not (list_all (is_number_there state.tree) numbers)) ((n : ℕ) × Contains numbers n × IsNobody state n)
listed state numbers = tells_not_all (is_number_there state.tree) (IsNobody state) (nobody state) numbers

-- of the channel and the parent one is needed, and both are there where they are given
module _ (state : StateValue) (adds removes : List ℕ) where
  abbrev One : Option ℕ → Option ℕ → ℕ → Type 0
  One id parent n = (id ≡ Some n) ⊎ (parent ≡ Some n) ⊎ Contains adds n ⊎ Contains removes n

  abbrev Nobody : Option ℕ → Option ℕ → Type 0
  Nobody id parent = ((id ≡ None) × (parent ≡ None)) ⊎ ((n : ℕ) × One id parent n × IsNobody state n)

  abbrev Tested : Option ℕ → Option ℕ → Type 0
  Tested id parent =
      ((((option_or id parent ≡ None) ⊎ ((n : ℕ) × (option_or id parent ≡ Some n) × IsNobody state n)) ⊎ ((n : ℕ) × (parent ≡ Some n) × IsNobody state n))
      ⊎ ((n : ℕ) × Contains adds n × IsNobody state n)) ⊎ ((n : ℕ) × Contains removes n × IsNobody state n)

  first_of : (id parent : Option ℕ) → (option_or id parent ≡ None) ⊎ ((n : ℕ) × (option_or id parent ≡ Some n) × IsNobody state n) → Nobody id parent
  first_of None parent either = elim either as (λ _. Nobody None parent) [
    | inl none ↦ inl (refl, none)
    | inr some ↦ inr (some.0, inr (inl some.1), some.2)
  ]
  first_of (Some m) parent either = elim either as (λ _. Nobody (Some m) parent) [
    | inl never ↦ absurd (none-some m (sym never))
    | inr some ↦ inr (some.0, inl some.1, some.2)
  ]

  to : (id parent : Option ℕ) → Tested id parent → Nobody id parent
  to id parent tested = elim tested as (λ _. Nobody id parent) [
    | inl three ↦ (elim three as (λ _. Nobody id parent) [
      | inl two ↦ (elim two as (λ _. Nobody id parent) [
        | inl one ↦ first_of id parent one
        | inr some ↦ inr (some.0, inr (inl some.1), some.2)
      ])
      | inr some ↦ inr (some.0, inr (inr (inl some.1)), some.2)
    ])
    | inr some ↦ inr (some.0, inr (inr (inr some.1)), some.2)
  ]

  named_first : (id parent : Option ℕ) (n : ℕ) → id ≡ Some n → option_or id parent ≡ Some n
  named_first None parent n is = absurd (none-some n is)
  named_first (Some m) parent n is = is

  neither : (id parent : Option ℕ) → id ≡ None → parent ≡ None → option_or id parent ≡ None
  neither None parent none also = also
  neither (Some m) parent none also = absurd (none-some m (sym none))

  back : (id parent : Option ℕ) → Nobody id parent → Tested id parent
  back id parent nobody_there = elim nobody_there as (λ _. Tested id parent) [
    | inl both ↦ inl (inl (inl (inl (neither id parent both.0 both.1))))
    | inr some ↦ (elim some.1 as (λ _. Tested id parent) [
      | inl is ↦ inl (inl (inl (inr (some.0, named_first id parent some.0 is, some.2))))
      | inr rest ↦ (elim rest as (λ _. Tested id parent) [
        | inl is ↦ inl (inl (inr (some.0, is, some.2)))
        | inr more ↦ (elim more as (λ _. Tested id parent) [
          | inl is ↦ inl (inr (some.0, is, some.2))
          | inr is ↦ inr (some.0, is, some.2)
        ])
      ])
    ])
  ]

names_nobody : (state : StateValue) (message : TreeMessage) → Tells (not (names_there state.tree message)) (NamesNobody state message)
names_nobody state (State asked) =
    let one : Bool = is_named_there state.tree (option_or asked.channel_id asked.parent) in
    let two : Bool = holds_of_given (is_number_there state.tree) asked.parent in
    let three : Bool = list_all (is_number_there state.tree) asked.links_add in
    let four : Bool = list_all (is_number_there state.tree) asked.links_remove in
    tells_so (not (one && two && three && four))
    (to state asked.links_add asked.links_remove asked.channel_id asked.parent) (back state asked.links_add asked.links_remove asked.channel_id asked.parent)
    (tells_either (one && two && three) four
    (tells_either (one && two) three
    (tells_either one two (needed state (option_or asked.channel_id asked.parent)) (given state asked.parent))
    (listed state asked.links_add))
    (listed state asked.links_remove))
names_nobody state (Remove asked) = needed state asked.channel_id
names_nobody state (Acl asked) = needed state asked.channel_id

-- ---- the law

names : (state : StateValue) (actor : SessionId) (message : TreeMessage)
    → NamesFirst (AgainstHearing state actor message) (Gone ∷ TooLong ∷ NotThere ∷ []) (first_standing (reasons state actor message))
names state actor message =
    table_names (AgainstHearing state actor message) (reasons state actor message) (
      tells_or (is_gone state actor) (takes_no_edits state) (tells_missing (session_of state.roster actor)) (tells_le (2 ^ 62) state.counts.revision),
      (λ _. (
        tells_lt 65000 (length (payload_of message)),
        (λ _. (
          names_nobody state message,
          (λ _. tt),
        )),
      )),
    )

pub same_number : (reason : Reason) → reason_code reason ≡ number reason
same_number NotRead = refl
same_number Malformed = refl
same_number NotLoggedIn = refl
same_number NotThere = refl
same_number OfAnother = refl
same_number EmptyText = refl
same_number TooLong = refl
same_number Gone = refl

pub tree_messages_lem : TreeMessagesAreIgnoredForTheFirst
tree_messages_lem state actor message why proper is =
    let first = ignores_for_first_reason_lem state actor message why proper is in (
      first.0,
      first.1 ∙ same_number first.0,
      first_is (AgainstHearing state actor message) (Gone ∷ TooLong ∷ NotThere ∷ []) (reasons state actor message) first.0 (names state actor message) first.2,
    )
