-- The packets that a run routes, as the voice entries of workers have them.
use Rattle.mum_recording_laws.proofs.Common.{◌≡◌, ℕ, zero, suc, ◌+◌, ◌≤◌, ◌<◌, ◌==◌, not, Bool, true, false, cond, List, [], ◌∷◌, ◌++◌, length, map, filter, Option, Some, None, refl, sym, ap, subst, ◌∙◌, arith, nat_lt, option_to_list, slice_get, AllByRecursion, AllZip, filter_map, flat_map, option_map, eqb-true, ltb-true, length-append, Marked, WorkerEntry, Closed, Voice, Step, Look, HearersAreTheRoute, route, at, StateValue, Edit, CoreState, state_at, worker_at, IsRun, gathered, ran, does, illegal, HeldPacket, idle, copies, looked, changed_same, state_stays, IsWithin, accepted_grows, goes_on, looks_are_bounded, none_stands, not_false, within, is_voice, IsRight, revision_of, Past, Rise, each_both, IsRouted, Routed, routed, routed_at}
use Rattle.mum_audit.specs.Past.{state_at as past_at}
use Rattle.mum_recording_laws.proofs.Following.{Follows}

-- ---- where packets go

-- a packet goes to those who hear it at its revision, which the last core has
pub record IsRightly (last : CoreState) (one : Routed) : Type 0 where
  pub accepted : one.revision ≤ length last.accepted
  pub members : one.members ≡ route (state_at last one.revision) one.speaker one.parts.target

rightly : HearersAreTheRoute → (core : CoreState) (v revision : ℕ) (run : List Step) (held : HeldPacket) → IsWithin core → IsRun core (Look v revision ∷ run)
    → IsRightly (ran core (Look v revision ∷ run)) (routed_at core revision held)
rightly law core v revision run held inside allowed =
    let bounds = looks_are_bounded core v revision allowed.0 in
    let low : revision ≤ length core.accepted = below revision core.published (length core.accepted) bounds.2 inside in
    let grown = accepted_grows core (Look v revision ∷ run) in
    let more : length (ran core (Look v revision ∷ run)).accepted ≡ length core.accepted + length grown.0 = ap (λ (edits : List Edit). length edits) grown.1 ∙ length-append core.accepted grown.0 in
    record {
      accepted = omega (arith, low, more);
      members = law (state_at core revision) held.speaker held.parts.target
          ∙ ap (λ (state : StateValue). route state held.speaker held.parts.target) (sym (state_stays core (Look v revision ∷ run) revision low));
    }
  where
    below : (a b c : ℕ) → a ≤ b → b ≤ c → a ≤ c
    below a b c one other = omega (arith, one, other)

pub all_rightly : HearersAreTheRoute → (w : ℕ) (core : CoreState) (run : List Step) → IsWithin core → IsRun core run → AllByRecursion (IsRightly (ran core run)) (gathered (routed w) core run)
all_rightly law w core [] inside allowed = tt
all_rightly law w core (Look v revision ∷ run) inside allowed =
    each_both (IsRightly (ran core (Look v revision ∷ run))) (routed w core (Look v revision)) (gathered (routed w) (does core (Look v revision)) run)
    (here (v == w) (worker_at core w).held) (all_rightly law w (does core (Look v revision)) run (within core (Look v revision) inside) allowed.1)
  where
    here : (b : Bool) (o : Option HeldPacket) → AllByRecursion (IsRightly (ran core (Look v revision ∷ run))) (cond b (option_to_list (option_map (routed_at core revision) o)) [])
    here false o = tt
    here true None = tt
    here true (Some held) = (rightly law core v revision run held inside allowed, tt)
all_rightly law w core (step ∷ run) inside allowed = all_rightly law w (does core step) run (within core step inside) allowed.1

-- ---- revisions never fall

lower : (less more : ℕ) (revisions : List ℕ) → less ≤ more → Rise more revisions → Rise less revisions
lower less more [] below rise = tt
lower less more (one ∷ revisions) below rise = (through less more one below rise.0, rise.1)
  where
    through : (a b c : ℕ) → a ≤ b → b ≤ c → a ≤ c
    through a b c one other = omega (arith, one, other)

abbrev pub revisions_in : List Routed → List ℕ
revisions_in items = map (λ item. item.revision) items

seen_at : (core : CoreState) (v revision : ℕ) → illegal core (Look v revision) ≡ None → (worker_at (does core (Look v revision)) v).seen ≡ revision
seen_at core v revision allowed =
    let first = none_stands (not (nat_lt v (length core.workers))) _ _ allowed in
    let there : v < length core.workers = ltb-true v (length core.workers) (not_false (nat_lt v (length core.workers)) first.0) in
    ap (λ worker. worker.seen) (changed_same core.workers v (λ worker. looked revision (copies (state_at core revision) (worker_at core v).held) worker) idle there)

pub rises : (w : ℕ) (core : CoreState) (run : List Step) → IsRun core run → Rise (worker_at core w).seen (revisions_in (gathered (routed w) core run))
rises w core [] allowed = tt
rises w core (Look v revision ∷ run) allowed = at_look (v == w) refl (worker_at core w).held (rises w (does core (Look v revision)) run allowed.1)
  where
    rest : List Routed
    rest = gathered (routed w) (does core (Look v revision)) run

    later : Rise (worker_at (does core (Look v revision)) w).seen (revisions_in rest) → Rise (worker_at core w).seen (revisions_in rest)
    later rise = lower (worker_at core w).seen (worker_at (does core (Look v revision)) w).seen (revisions_in rest) (goes_on core (Look v revision) w allowed.0).0 rise

    at_look : (b : Bool) → (v == w) ≡ b → (o : Option HeldPacket) → Rise (worker_at (does core (Look v revision)) w).seen (revisions_in rest)
        → Rise (worker_at core w).seen (revisions_in (cond b (option_to_list (option_map (routed_at core revision) o)) [] ++ rest))
    at_look false is o rise = later rise
    at_look true is None rise = later rise
    at_look true is (Some held) rise =
        let same : v ≡ w = eqb-true v w is in
        let low : (worker_at core w).seen ≤ revision = subst (λ (n : ℕ). (worker_at core n).seen ≤ revision) same (looks_are_bounded core v revision allowed.0).0 in
        let now : (worker_at (does core (Look v revision)) w).seen ≡ revision = subst (λ (n : ℕ). (worker_at (does core (Look v revision)) n).seen ≡ revision) same (seen_at core v revision allowed.0) in
        (low, subst (λ (n : ℕ). Rise n (revisions_in rest)) now rise)
rises w core (step ∷ run) allowed =
    lower (worker_at core w).seen (worker_at (does core step) w).seen (revisions_in (gathered (routed w) (does core step) run)) (goes_on core step w allowed.0).0 (rises w (does core step) run allowed.1)

-- ---- the entries of a worker

pub same_revisions : (past : Past) (entries : List WorkerEntry) (items : List Routed) → AllZip (IsRouted past) (filter is_voice entries) items → filter_map revision_of entries ≡ revisions_in items
same_revisions past [] [] zip = refl
same_revisions past [] (item ∷ items) zip = absurd zip
same_revisions past (Closed c cause ∷ entries) items zip = same_revisions past entries items zip
same_revisions past (Voice c revision bytes marked ∷ entries) [] zip = absurd zip
same_revisions past (Voice c revision bytes marked ∷ entries) (item ∷ items) zip =
    ap (λ (n : ℕ). n ∷ filter_map revision_of entries) zip.0.2 ∙ ap (λ (list : List ℕ). item.revision ∷ list) (same_revisions past entries items zip.1)

module _ (last : CoreState) (past : Past) (follows : Follows last past) where
  same_state : (revision : ℕ) → state_at last revision ≡ past_at past revision
  same_state revision =
      ap (λ (state : StateValue). at state last.accepted revision) (sym follows.opening)
      ∙ ap (λ (edits : List Edit). at past.opening edits revision) (sym follows.accepted)

  right : (c revision : ℕ) (bytes : List ℕ) (marked : List Marked) (item : Routed) → IsRouted past (Voice c revision bytes marked) item → IsRightly last item → IsRight past (Voice c revision bytes marked)
  right c revision bytes marked item is good = record {
    accepted = subst (λ (n : ℕ). n ≤ length past.accepted) (sym is.2) (subst (λ (edits : List Edit). item.revision ≤ length edits) (sym follows.accepted) good.accepted);
    parts = item.parts;
    parsed = is.1;
    speaker = item.speaker;
    logged_in = is.0;
    audience = is.3 ∙ good.members
        ∙ ap (λ (state : StateValue). route state item.speaker item.parts.target) (same_state item.revision ∙ ap (past_at past) (sym is.2));
  }

  pub entries_right : (entries : List WorkerEntry) (items : List Routed) → AllZip (IsRouted past) (filter is_voice entries) items → AllByRecursion (IsRightly last) items → AllByRecursion (IsRight past) entries
  entries_right [] items zip good = tt
  entries_right (Closed c cause ∷ entries) items zip good = (tt, entries_right entries items zip good)
  entries_right (Voice c revision bytes marked ∷ entries) [] zip good = absurd zip
  entries_right (Voice c revision bytes marked ∷ entries) (item ∷ items) zip good = (right c revision bytes marked item zip.0 good.0, entries_right entries items zip.1 good.1)

pub each_of : {X : Type 0} (P : X → Type 0) (lists : List (List X)) → ((k : ℕ) (list : List X) → slice_get lists k ≡ Some list → AllByRecursion P list) → AllByRecursion P (flat_map (λ list. list) lists)
each_of P [] each = tt
each_of P (list ∷ lists) each = each_both P list (flat_map (λ list. list) lists) (each zero list refl) (each_of P lists (λ k one is. each (suc k) one is))
