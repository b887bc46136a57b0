-- Which line a finding is of.
use Rattle.mum_audit.proofs.Common.{◌≡◌, ◌∙◌, ℕ, zero, suc, ◌+◌, ◌-◌, ◌^◌, ◌<◌, ◌≤◌, List, [], ◌∷◌, ◌++◌, length, map, Option, Some, None, refl, sym, ap, arith, length-append, min, slice_get, length-map, same_Some, first_step_line, head_lines, journal_line, version_with, control_line, end_line, entry_line, lines_from, lines_of, ControlEntry, WorkerEntry, Finding, findings, findings_of_controls, first_line, first_wrong, lines_on, past_before, past_of, after_entry, control_findings, EachLineIsTested, TheFirstIsNamed, Past, Trail, at_worker, before_workers, entry_findings, next_line, worker_findings}
use Rattle.mum_audit.specs.Workers as workers

-- ---- one for each line

as_many_controls : (past : Past) (entries : List ControlEntry) → length (control_findings past entries) ≡ length entries
unfolding control_findings
as_many_controls past [] = refl
as_many_controls past (entry ∷ entries) = ap suc (as_many_controls (after_entry past entry) entries)

as_many_entries : (past : Past) (trail : Trail) (entries : List WorkerEntry) → length (entry_findings past trail entries) ≡ length entries
unfolding entry_findings
as_many_entries past trail [] = refl
as_many_entries past trail (entry ∷ entries) = ap suc (as_many_entries past (workers.after_entry trail entry) entries)

as_many_lines : (past : Past) (trail : Trail) (by_worker : List (List WorkerEntry)) (n : ℕ) → length (worker_findings past trail by_worker) ≡ length (lines_from n by_worker)
unfolding worker_findings lines_from
as_many_lines past trail [] n = refl
as_many_lines past trail (entries ∷ by_worker) n =
    let begun : Trail = at_worker trail in
    let below = worker_findings past (workers.after_entries begun entries) by_worker in
    ap suc (length-append (entry_findings past begun entries) below
    ∙ ap (λ (m : ℕ). m + length below) (as_many_entries past begun entries ∙ sym (length-map entries entry_line))
    ∙ ap (λ (m : ℕ). length (map entry_line entries) + m) (as_many_lines past (workers.after_entries begun entries) by_worker (n + 1))
    ∙ sym (length-append (map entry_line entries) (lines_from (n + 1) by_worker)))

pub each_line : EachLineIsTested
unfolding findings lines_of
each_line journal =
    let head = head_lines journal_line journal.workers journal.limits journal.config in
    let controls = map control_line journal.controls in
    let lists = lines_from 0 journal.by_worker in
    let above = findings_of_controls journal in
    let trail = before_workers (lines_on (first_line journal) above) in
    let below = worker_findings (past_of journal) trail journal.by_worker in
    let first : length above ≡ length controls = as_many_controls (past_before journal) journal.controls ∙ sym (length-map journal.controls control_line) in
    let second = as_many_lines (past_of journal) trail journal.by_worker 0 in
    let both = length-append above below in
    let three = length-append (head ++ controls ++ lists) (end_line ∷ []) in
    let two = length-append (head ++ controls) lists in
    let one = length-append head controls in
    omega (arith, first, second, both, three, two, one)

-- ---- the first

record IsNamed (line : ℕ) (found : List (Option Finding)) (named : ℕ) (finding : Finding) : Type 0 where
  before : ℕ
  right : (i : ℕ) → i < before → slice_get found i ≡ Some None
  wrong : slice_get found before ≡ Some (Some finding)
  number : named ≡ min (line + before) (2 ^ 64 - 1)

named_in : (line : ℕ) (found : List (Option Finding)) (named : ℕ) (finding : Finding) → line ≤ 2 ^ 64 - 1 → first_wrong line found ≡ Some (named, finding) → IsNamed line found named finding
unfolding first_wrong
named_in line [] named finding within is = cc is
named_in line (None ∷ others) named finding within is =
    let rest = named_in (next_line line) others named finding (omega arith) is in
    let number = rest.number in
    record {
      before = suc rest.before;
      right = λ i below. right_more others rest.before rest.right i below;
      wrong = rest.wrong;
      number = omega (arith, number);
    }
  where
    right_more : (others : List (Option Finding)) (before : ℕ) → ((i : ℕ) → i < before → slice_get others i ≡ Some None) → (i : ℕ) → i < suc before → slice_get (None ∷ others) i ≡ Some None
    right_more others before right zero below = refl
    right_more others before right (suc i) below = right i (omega (arith, below))
named_in line (Some first ∷ others) named finding within is =
    let here : ℕ × Finding = (line, first) in
    let there : ℕ × Finding = (named, finding) in
    let same = same_Some here there is in
    let line_is : line ≡ named = ap (λ (w : ℕ × Finding). w.0) same in
    record {
      before = zero;
      right = λ i below. absurd (omega (arith, below));
      wrong = ap (λ (w : ℕ × Finding). Some (Some w.1)) same;
      number = omega (arith, line_is, within);
    }

first_within : (limits : Option (ℕ × ℕ)) → first_step_line (version_with limits) ≤ 2 ^ 64 - 1
first_within None = omega arith
first_within (Some limits) = omega arith

pub first_named : TheFirstIsNamed
first_named journal line finding is =
    let named = named_in (first_line journal) (findings journal) line finding (first_within journal.limits) is in
    record { before = named.before; right = named.right; wrong = named.wrong; number = named.number }
