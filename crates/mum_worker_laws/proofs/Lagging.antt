-- A lag closes the ports of its session.
use Rattle.mum_worker_laws.proofs.Common.{◌≡◌, ◌∙◌, ℕ, true, List, [], ◌∷◌, filter, Option, refl, ap, sym, subst, inl, inr, All, All-append, All-cons, All-filter, All-nil, All-same, Cause, SessionId, Along, LinkFacts, PortFacts, Lags, is_closed, session_of, WorkerFacts, stays, HearsLag, LagsWhereIts, RecordFacts, befell, lag_befell, lags_befell, shut_for, IsClosedWhere, IsShutByLag}

module _ {L : Type 0} (facts : L → LinkFacts) where
  lagged_closed : (old : PortFacts L) (closed : Option Cause) (new : PortFacts L) → Lags facts old closed new → is_closed new.stage ≡ true
  lagged_closed old closed new (inl stays_so) = ap (λ (p : PortFacts L). is_closed p.stage) stays_so.same ∙ stays_so.was_closed
  lagged_closed old closed new (inr closes) = ap (λ (p : PortFacts L). is_closed p.stage) closes.2.rest

  closed_where : (session : SessionId) (old : PortFacts L) (before : RecordFacts) (new : PortFacts L) (after : RecordFacts) → LagsWhereIts facts session old before new after → IsClosedWhere session new
  closed_where session old before new after (inl passes) its = absurd (passes.another (sym (ap (λ (p : PortFacts L). session_of p.machine.stage) passes.same) ∙ its))
  closed_where session old before new after (inr lags) its = lagged_closed old lags.closed new lags.lags

  each_closed : (session : SessionId) (olds : List (PortFacts L)) (before : RecordFacts) (news : List (PortFacts L)) (after : RecordFacts) → Along (LagsWhereIts facts session) olds before news after → All (IsClosedWhere session) news
  each_closed session [] before [] after same = All-nil (IsClosedWhere session)
  each_closed session [] before (new ∷ news) after none = absurd none
  each_closed session (old ∷ olds) before [] after none = absurd none
  each_closed session (old ∷ olds) before (new ∷ news) after along =
      All-cons (IsClosedWhere session) new news (closed_where session old before new along.0 along.1) (each_closed session olds along.0 news after along.2)

  pub lag_closes : (session : SessionId) (old new : WorkerFacts L) → HearsLag facts session old new → All (IsClosedWhere session) new.ports
  lag_closes session old new hears =
      All-same (IsClosedWhere session) new.ports (filter stays hears.each.stepped) hears.each.left
      (All-filter stays (IsClosedWhere session) hears.each.stepped (each_closed session old.ports old.common.kept hears.each.stepped new.common.kept hears.each.along))

  -- ---- the cause

  one_shut : (connection : ℕ) (old : PortFacts L) (closed : Option Cause) (new : PortFacts L) → Lags facts old closed new → All IsShutByLag (befell connection (shut_for closed))
  one_shut connection old closed new (inl stays_so) = subst (λ (c : Option Cause). All IsShutByLag (befell connection (shut_for c))) (sym stays_so.so) (All-nil IsShutByLag)
  one_shut connection old closed new (inr closes) =
      subst (λ (c : Option Cause). All IsShutByLag (befell connection (shut_for c))) (sym closes.1) (All-cons IsShutByLag _ [] refl (All-nil IsShutByLag))

  shut_where : (session : SessionId) (old : PortFacts L) (before : RecordFacts) (new : PortFacts L) (after : RecordFacts) (lags : LagsWhereIts facts session old before new after)
      → All IsShutByLag (lag_befell facts session old before new after lags)
  shut_where session old before new after (inl passes) = All-nil IsShutByLag
  shut_where session old before new after (inr lags) = one_shut old.machine.connection old lags.closed new lags.lags

  pub shut_by_lag : (session : SessionId) (olds : List (PortFacts L)) (before : RecordFacts) (news : List (PortFacts L)) (after : RecordFacts) (along : Along (LagsWhereIts facts session) olds before news after)
      → All IsShutByLag (lags_befell facts session olds before news after along)
  shut_by_lag session [] before [] after same = All-nil IsShutByLag
  shut_by_lag session [] before (new ∷ news) after none = absurd none
  shut_by_lag session (old ∷ olds) before [] after none = absurd none
  shut_by_lag session (old ∷ olds) before (new ∷ news) after along =
      All-append IsShutByLag (lag_befell facts session old before new along.0 along.1) (lags_befell facts session olds along.0 news after along.2)
      (shut_where session old before new along.0 along.1) (shut_by_lag session olds along.0 news after along.2)
