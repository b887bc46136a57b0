-- A journal is legal exactly where no line is wrong.
use Rattle.mum_audit.proofs.Common.{◌≡◌, ◌≢◌, ◌∙◌, ℕ, ◌≤◌, List, [], Option, Some, None, refl, sym, ap, ◌↔◌, AllPairs, filter_map, All-from_recursion, recursion_from_All, Journal, WorkerEntry, Audited, Wrong, Finding, answer, audited, counts_of, entries_of, findings, findings_of_controls, first_line, first_wrong, lines_on, past_before, past_of, IsLegal, IsRight, closed_by, revision_of, Trail, before_workers, worker_findings}
use Rattle.mum_audit.proofs.{Clean.none_above, Clean.none_below, Clean.none_both, Clean.none_from, Clean.none_wrong, Legality.AllRight, Legality.right_verdicts, Legality.right_workers, Legality.verdicts_right, Legality.workers_right, Pairs.Rise, Pairs.all_pairs, Pairs.apart_pairs, Pairs.each_weaker, Pairs.none_seen, Pairs.pairs_apart, Pairs.pairs_of, Pairs.pairs_rise, Pairs.rise_pairs}

-- before the lines of the workers
abbrev trail_of : Journal → Trail
trail_of journal = before_workers (lines_on (first_line journal) (findings_of_controls journal))

abbrev Rises : List WorkerEntry → Type 0
Rises entries = Rise 0 (filter_map revision_of entries)

abbrev NeverFalls : List WorkerEntry → Type 0
NeverFalls entries = AllPairs (λ (a b : ℕ). a ≤ b) (filter_map revision_of entries)

pub legal_from : (journal : Journal) → first_wrong (first_line journal) (findings journal) ≡ None → IsLegal journal
unfolding findings
legal_from journal nothing =
    let above = findings_of_controls journal in
    let below = worker_findings (past_of journal) (trail_of journal) journal.by_worker in
    let none = none_from (first_line journal) (findings journal) nothing in
    let right = workers_right (past_of journal) (trail_of journal) journal.by_worker (none_below above below none) in
    record {
      verdicts = verdicts_right (past_before journal) journal.controls (none_above above below none);
      rising = All-from_recursion NeverFalls journal.by_worker
          (each_weaker Rises NeverFalls (λ entries rise. all_pairs (λ (a b : ℕ). a ≤ b) (filter_map revision_of entries) (rise_pairs 0 (filter_map revision_of entries) rise)) journal.by_worker right.rising);
      heard = All-from_recursion (IsRight (past_of journal)) (entries_of journal) right.heard;
      closed_once = all_pairs (λ (a b : ℕ). a ≢ b) (filter_map closed_by (entries_of journal)) (apart_pairs [] (filter_map closed_by (entries_of journal)) right.closed_once);
    }

pub from_legal : (journal : Journal) → IsLegal journal → first_wrong (first_line journal) (findings journal) ≡ None
unfolding findings
from_legal journal legal =
    let above = findings_of_controls journal in
    let below = worker_findings (past_of journal) (trail_of journal) journal.by_worker in
    let closings = filter_map closed_by (entries_of journal) in
    let right : AllRight (past_of journal) (trail_of journal) journal.by_worker = record {
      rising = each_weaker NeverFalls Rises (λ entries pairs. pairs_rise (filter_map revision_of entries) (pairs_of (λ (a b : ℕ). a ≤ b) (filter_map revision_of entries) pairs)) journal.by_worker
          (recursion_from_All NeverFalls journal.by_worker legal.rising);
      heard = recursion_from_All (IsRight (past_of journal)) (entries_of journal) legal.heard;
      closed_once = pairs_apart [] closings (none_seen closings) (pairs_of (λ (a b : ℕ). a ≢ b) closings legal.closed_once);
    } in
    none_wrong (first_line journal) (findings journal)
    (none_both above below (right_verdicts (past_before journal) journal.controls legal.verdicts) (right_workers (past_of journal) (trail_of journal) journal.by_worker right))

-- the answer that is made of what is found
pub answer_is : (journal : Journal) (given : Audited) (found : Option (ℕ × Finding)) → given ≡ answer journal found → found ≡ first_wrong (first_line journal) (findings journal) → given ≡ audited journal
unfolding audited
answer_is journal given found is wrong = is ∙ ap (answer journal) wrong

wrong_not_counts : (journal : Journal) (line : ℕ) (finding : Finding) → Wrong line finding.given finding.defined ≡ counts_of journal → ⊥
wrong_not_counts journal line finding same = cc same

wrong_not_none : (wrong : ℕ × Finding) → Some wrong ≡ None → ⊥
wrong_not_none wrong same = cc same

-- the answer is the counts exactly for a legal journal
pub counts_where_legal : (journal : Journal) (given : Audited) → given ≡ audited journal → (given ≡ counts_of journal) ↔ IsLegal journal
unfolding audited
counts_where_legal journal given is = by (first_wrong (first_line journal) (findings journal)) refl is
  where
    by : (found : Option (ℕ × Finding)) → first_wrong (first_line journal) (findings journal) ≡ found → given ≡ answer journal found → (given ≡ counts_of journal) ↔ IsLegal journal
    by None found same = ((λ counts. legal_from journal found), (λ legal. same))
    by (Some (line, finding)) found same =
        ((λ counts. absurd (wrong_not_counts journal line finding (sym same ∙ counts))), (λ legal. absurd (wrong_not_none (line, finding) (sym found ∙ from_legal journal legal))))
