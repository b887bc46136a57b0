-- What the entries of a journal leave, place by place.
use Rattle.mum_recording_laws.proofs.Common.{◌≡◌, ℕ, zero, suc, ◌≤◌, ◌<◌, Bool, true, false, List, [], ◌∷◌, ◌++◌, length, take, drop, Option, Some, None, refl, sym, ap, subst, ◌∙◌, arith, inl, inr, length-append, IsSome, is_some, nat_le, slice_get, cases_eq, leb-false, leb-true, SessionId, ControlEntry, Journal, edits_of, after_entries, after_entry, verdict_on, past_at, Past, AreAsked}
use Rattle.mum_audit.specs.Past.{session_of}
use Rattle.mum_recording_laws.proofs.Seated.{keeps_session}

-- ---- one entry more

pub next_past : (past : Past) (entries : List ControlEntry) (j : ℕ) (entry : ControlEntry) → slice_get entries j ≡ Some entry
    → after_entries past (take (suc j) entries) ≡ after_entry (after_entries past (take j entries)) entry
next_past past [] j entry is = absurd (cc)
next_past past (first ∷ entries) zero entry is = let same : first ≡ entry = cc in ap (after_entry past) same
next_past past (first ∷ entries) (suc j) entry is = next_past (after_entry past first) entries j entry is

no_more_past : (past : Past) (entries : List ControlEntry) (j : ℕ) → slice_get entries j ≡ None → after_entries past (take (suc j) entries) ≡ after_entries past (take j entries)
no_more_past past [] zero is = refl
no_more_past past [] (suc j) is = refl
no_more_past past (first ∷ entries) zero is = absurd (cc)
no_more_past past (first ∷ entries) (suc j) is = no_more_past (after_entry past first) entries j is

pub take_next : (entries : List ControlEntry) (j : ℕ) (entry : ControlEntry) → slice_get entries j ≡ Some entry → take (suc j) entries ≡ take j entries ++ entry ∷ []
take_next [] j entry is = absurd (cc)
take_next (first ∷ entries) zero entry is = let same : first ≡ entry = cc in ap (λ (one : ControlEntry). one ∷ []) same
take_next (first ∷ entries) (suc j) entry is = ap (λ (rest : List ControlEntry). first ∷ rest) (take_next entries j entry is)

pub drop_next : (entries : List ControlEntry) (j : ℕ) (entry : ControlEntry) → slice_get entries j ≡ Some entry → drop j entries ≡ entry ∷ drop (suc j) entries
drop_next [] j entry is = absurd (cc)
drop_next (first ∷ entries) zero entry is = let same : first ≡ entry = cc in ap (λ (one : ControlEntry). one ∷ entries) same
drop_next (first ∷ entries) (suc j) entry is = drop_next entries j entry is

pub drop_none : (entries : List ControlEntry) (j : ℕ) → slice_get entries j ≡ None → drop j entries ≡ []
drop_none [] zero is = refl
drop_none [] (suc j) is = refl
drop_none (first ∷ entries) zero is = absurd (cc)
drop_none (first ∷ entries) (suc j) is = drop_none entries j is

-- ---- further entries

module _ (journal : Journal) (asked : AreAsked journal) where
  step_rises : (j : ℕ) → length (past_at journal j).accepted ≤ length (past_at journal (suc j)).accepted
  step_rises j = from (slice_get journal.controls j) refl
    where
      from : (o : Option ControlEntry) → slice_get journal.controls j ≡ o → length (past_at journal j).accepted ≤ length (past_at journal (suc j)).accepted
      from None is = let same = ap (λ (past : Past). length past.accepted) (no_more_past (past_at journal 0) journal.controls j is) in omega (arith, same)
      from (Some entry) is =
          let same = ap (λ (past : Past). length past.accepted) (next_past (past_at journal 0) journal.controls j entry is) in
          let more = length-append (past_at journal j).accepted (edits_of (verdict_on (past_at journal j) entry)) in
          omega (arith, same, more)

  pub rises : (i j : ℕ) → i ≤ j → length (past_at journal i).accepted ≤ length (past_at journal j).accepted
  rises i zero low = let same : i ≡ 0 = omega (arith, low) in subst (λ (k : ℕ). length (past_at journal k).accepted ≤ length (past_at journal 0).accepted) (sym same) (omega arith)
  rises i (suc j) low = elim (cases_eq i (suc j)) [
    | inl same ↦ subst (λ (k : ℕ). length (past_at journal k).accepted ≤ length (past_at journal (suc j)).accepted) (sym same) (omega arith)
    | inr apart ↦
        let before = rises i j (omega (arith, low, apart)) in
        let next = step_rises j in
        omega (arith, before, next)
  ]

  step_keeps : (c : ℕ) (session : SessionId) (j : ℕ) → session_of (past_at journal j) c ≡ Some session → session_of (past_at journal (suc j)) c ≡ Some session
  step_keeps c session j has = from (slice_get journal.controls j) refl
    where
      from : (o : Option ControlEntry) → slice_get journal.controls j ≡ o → session_of (past_at journal (suc j)) c ≡ Some session
      from None is = ap (λ (past : Past). session_of past c) (no_more_past (past_at journal 0) journal.controls j is) ∙ has
      from (Some entry) is =
          ap (λ (past : Past). session_of past c) (next_past (past_at journal 0) journal.controls j entry is)
          ∙ keeps_session (past_at journal j) (take j journal.controls) entry c session (asked j entry is) has

  keeps : (c : ℕ) (session : SessionId) (i j : ℕ) → i ≤ j → session_of (past_at journal i) c ≡ Some session → session_of (past_at journal j) c ≡ Some session
  keeps c session i zero low has = let same : i ≡ 0 = omega (arith, low) in subst (λ (k : ℕ). session_of (past_at journal k) c ≡ Some session) same has
  keeps c session i (suc j) low has = elim (cases_eq i (suc j)) [
    | inl same ↦ subst (λ (k : ℕ). session_of (past_at journal k) c ≡ Some session) same has
    | inr apart ↦ step_keeps c session j (keeps c session i j (omega (arith, low, apart)) has)
  ]

  -- ---- where a connection has its session

  -- wherever n edits are accepted
  abbrev pub LoggedAt : ℕ → ℕ → Type 0
  LoggedAt c least = (i : ℕ) → least ≤ length (past_at journal i).accepted → IsSome (session_of (past_at journal i) c)

  pub logged_more : (c least more : ℕ) → least ≤ more → LoggedAt c least → LoggedAt c more
  logged_more c least more low logged = λ i high. logged i (omega (arith, low, high))

  pub logged_by : (c : ℕ) (session : SessionId) (j least : ℕ) → session_of (past_at journal (suc j)) c ≡ Some session → length (past_at journal j).accepted < least → LoggedAt c least
  logged_by c session j least has low = λ i high. from i high (nat_le i j) refl
    where
      from : (i : ℕ) → least ≤ length (past_at journal i).accepted → (b : Bool) → nat_le i j ≡ b → IsSome (session_of (past_at journal i) c)
      from i high true is = let more = rises i j (leb-true i j is) in absurd (omega (arith, low, high, more))
      from i high false is =
          let above = leb-false i j is in
          ap (λ (o : Option SessionId). is_some o) (keeps c session (suc j) i (omega (arith, above)) has)
