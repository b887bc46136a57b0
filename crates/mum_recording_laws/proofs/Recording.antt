-- A journal of a run is legal.
use Rattle.mum_recording_laws.proofs.Common.{◌≡◌, ◌≢◌, ℕ, ◌+◌, ◌≤◌, List, Some, sym, subst, arith, slice_get, slice_index_or, AllByRecursion, AllPairs, filter_map, false≢true, All-from_recursion, slice_get-get_or, Journal, WorkerEntry, HearersAreTheRoute, CoreState, connection_at, worker_at, gathered, ran, IsWithin, past_before, past_of, IsRight, closed_by, revision_of, Past, Pairs, all_pairs, each_weaker, rise_pairs, JournalsOfRunsAreLegal, first_core, closed, routed}
use Rattle.mum_recording_laws.proofs.{Closing.all_apart, Closing.all_there, Closing.once, Following.begins, Following.each_has, Following.follow, Routing.all_rightly, Routing.each_of, Routing.entries_right, Routing.revisions_in, Routing.rises, Routing.same_revisions, Sitting.AreCalm}

calm : (journal : Journal) → AreCalm (first_core journal)
calm journal i waits = absurd (false≢true waits)

inside : (journal : Journal) → IsWithin (first_core journal)
inside journal = omega arith

pub journals_of_runs_lem : HearersAreTheRoute → JournalsOfRunsAreLegal
journals_of_runs_lem law journal run allowed recorded =
    let first : CoreState = first_core journal in
    let past : Past = past_of journal in
    let told = follow first (past_before journal) run journal.controls (begins journal) (calm journal) allowed recorded.entries.commands in
    record {
      verdicts = each_has (past_before journal) journal.controls told.0;
      rising = λ k d within.
          let entries : List WorkerEntry = slice_index_or journal.by_worker k d in
          let there : slice_get journal.by_worker k ≡ Some entries = slice_get-get_or journal.by_worker k d within in
          let same : filter_map revision_of entries ≡ revisions_in (gathered (routed k) first run) = same_revisions past entries (gathered (routed k) first run) (recorded.entries.packets k entries there) in
          subst (AllPairs (λ (earlier later : ℕ). earlier ≤ later)) (sym same)
          (all_pairs (λ (earlier later : ℕ). earlier ≤ later) (revisions_in (gathered (routed k) first run)) (rise_pairs (worker_at first k).seen (revisions_in (gathered (routed k) first run)) (rises k first run allowed)));
      heard = All-from_recursion (IsRight past) _ (each_of (IsRight past) journal.by_worker (λ k entries there.
          entries_right (ran first run) past told.1 entries (gathered (routed k) first run) (recorded.entries.packets k entries there) (all_rightly law k first run (inside journal) allowed)));
      closed_once = all_pairs (λ (one other : ℕ). one ≢ other) _
          (all_apart (λ d. (connection_at (ran first run) d).worker) 0 journal.by_worker (λ k entries there.
          let same : filter_map closed_by entries ≡ gathered (closed k) first run = recorded.closings k entries there in (
            subst (Pairs (λ (one other : ℕ). one ≢ other)) (sym same) (once k first run allowed),
            each_weaker (λ d. (connection_at (ran first run) d).worker ≡ k) (λ d. (connection_at (ran first run) d).worker ≡ 0 + k) (λ d at. omega (arith, at)) (filter_map closed_by entries)
                (subst (AllByRecursion (λ d. (connection_at (ran first run) d).worker ≡ k)) (sym same) (all_there k first run allowed)),
          )));
    }
