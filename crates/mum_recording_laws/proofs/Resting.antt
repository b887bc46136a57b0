-- Cores in which nothing is underway, after some of the control entries of a journal.
use Rattle.mum_recording_laws.proofs.Common.{◌≡◌, ℕ, ◌+◌, ◌==◌, ◌&&◌, Bool, true, false, List, [], ◌∷◌, ◌++◌, length, None, refl, sym, ap, subst, ◌∙◌, inl, inr, is_some, list_any, cases_eq, eq-eqb, or_parts, list_any-append, ControlEntry, Connection, Stays, CoreState, connection_at, is_opened, worker_at, at_place, Past, has_version, leaves, rejects}
use Rattle.mum_recording_laws.proofs.{Following.Follows, Moving.IsFree, Moving.Moves, Moving.still_opened, Sitting.AreCalm}

-- ---- connections

-- what earlier entries leave open of a connection
pub record Sits (earlier : List ControlEntry) (c : ℕ) (x : Connection) : Type 0 where
  pub waiting : x.waiting ≡ None
  pub decided : x.decided ≡ None
  pub there : list_any (leaves c) earlier ≡ false → (x.leave ≡ Stays) × (x.closed ≡ None)
  pub welcome : list_any (rejects c) earlier ≡ false → x.rejected ≡ false
  pub no_version : list_any (has_version c) earlier ≡ false → x.version ≡ None
  pub seated : is_some x.seat ≡ true → x.rejected ≡ false

pub neither : (p : ControlEntry → Bool) (earlier : List ControlEntry) (entry : ControlEntry) → list_any p (earlier ++ entry ∷ []) ≡ false → (list_any p earlier ≡ false) × (p entry ≡ false)
neither p earlier entry none =
    let both = or_parts (list_any p earlier) (list_any p (entry ∷ [])) (sym (list_any-append p earlier (entry ∷ [])) ∙ none) in
    (both.0, (or_parts (p entry) false both.1).0)

-- one entry more says nothing against it
pub sits_on : (earlier : List ControlEntry) (entry : ControlEntry) (c : ℕ) (x : Connection) → Sits earlier c x → Sits (earlier ++ entry ∷ []) c x
sits_on earlier entry c x sits = record {
  waiting = sits.waiting;
  decided = sits.decided;
  there = λ none. sits.there (neither (leaves c) earlier entry none).0;
  welcome = λ none. sits.welcome (neither (rejects c) earlier entry none).0;
  no_version = λ none. sits.no_version (neither (has_version c) earlier entry none).0;
  seated = sits.seated;
}

-- a test of entries of a connection, of an entry of it
pub own_test : (entry : ControlEntry) (c : ℕ) (b : Bool) → entry.connection ≡ c → ((entry.connection == c) && b) ≡ false → b ≡ false
own_test entry c b at none = sym (ap (λ (own : Bool). own && b) (eq-eqb entry.connection c at)) ∙ none

-- ---- a core

-- n connections, each at its worker, and nothing underway
pub record Ready (n : ℕ) (place : ℕ → ℕ) (core : CoreState) (past : Past) (earlier : List ControlEntry) : Type 0 where
  pub follows : Follows core past
  pub published : core.published ≡ length core.accepted
  pub many : length core.connections ≡ n
  pub at : (c : ℕ) → is_opened core c ≡ true → (connection_at core c).worker ≡ place c
  pub sits : (c : ℕ) → Sits earlier c (connection_at core c)
  pub free : (w : ℕ) → IsFree core.published (worker_at core w)

pub calm_of : (n : ℕ) (place : ℕ → ℕ) (core : CoreState) (past : Past) (earlier : List ControlEntry) → Ready n place core past earlier → AreCalm core
calm_of n place core past earlier ready i waits = sym (ap (λ (x : Connection). x.decided) (at_place core (i + 1) i refl)) ∙ (ready.sits (i + 1)).decided

-- where one connection has changed
pub settles : (n : ℕ) (place : ℕ → ℕ) (old new : CoreState) (past : Past) (earlier : List ControlEntry) (c : ℕ) (change : Connection → Connection)
    → ((d : ℕ) → Sits earlier d (connection_at old d)) → ((d : ℕ) → is_opened old d ≡ true → (connection_at old d).worker ≡ place d) → length old.connections ≡ n
    → ((w : ℕ) → IsFree new.published (worker_at new w)) → Moves c change old new → Follows new past → new.published ≡ length new.accepted
    → Sits earlier c (connection_at new c) → (connection_at new c).worker ≡ place c → Ready n place new past earlier
settles n place old new past earlier c change sits at many free moves follows published own worker = record {
  follows = follows;
  published = published;
  many = moves.many ∙ many;
  at = λ d opened. elim (cases_eq d c) [
    | inl same ↦ subst (λ (e : ℕ). (connection_at new e).worker ≡ place e) (sym same) worker
    | inr apart ↦ ap (λ (x : Connection). x.worker) (moves.other d apart) ∙ at d (still_there d opened)
  ];
  sits = λ d. elim (cases_eq d c) [
    | inl same ↦ subst (λ (e : ℕ). Sits earlier e (connection_at new e)) (sym same) own
    | inr apart ↦ subst (Sits earlier d) (sym (moves.other d apart)) (sits d)
  ];
  free = free;
}
  where
    still_there : (d : ℕ) → is_opened new d ≡ true → is_opened old d ≡ true
    still_there d opened = still_opened new old d (sym moves.many) opened
