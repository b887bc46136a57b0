-- One line further: what is wrong from there on, and what is taken in.
use Rattle.mum_audit.proofs.Common.{◌≡◌, ◌∙◌, ℕ, zero, suc, ◌+◌, ◌<◌, ◌≤◌, List, [], ◌∷◌, ◌++◌, length, get_or, drop, Option, Some, None, refl, sym, ap, subst, arith, at_drop_all, at_drop_more, IsViewOf, ViewValue, views_stay, StateValue, Each, ControlEntry, Journal, WorkerEntry, Voice, Closed, Finding, findings, findings_of_controls, first_line, first_wrong, lines_on, past_before, past_of, after_entries, after_entry, control_findings, entry_finding, Past, Trail, before_workers, entry_findings, next_line, worker_findings}
use Rattle.mum_audit.specs.Workers as workers

-- ---- findings

pub wrong_on : (line : ℕ) (found : Option Finding) (others : List (Option Finding)) → found ≡ None → first_wrong line (found ∷ others) ≡ first_wrong (next_line line) others
unfolding first_wrong
wrong_on line found others none = ap (λ (f : Option Finding). first_wrong line (f ∷ others)) none

pub wrong_here : (line : ℕ) (found : Option Finding) (others : List (Option Finding)) (finding : Finding) → found ≡ Some finding → first_wrong line (found ∷ others) ≡ Some (line, finding)
unfolding first_wrong
wrong_here line found others finding some = ap (λ (f : Option Finding). first_wrong line (f ∷ others)) some

pub nothing_wrong : (line : ℕ) → first_wrong line [] ≡ None
unfolding first_wrong
nothing_wrong line = refl

-- ---- the control entries

module _ (past : Past) (entries : List ControlEntry) (i : ℕ) (entry : ControlEntry) (within : i < length entries) (is : entry ≡ get_or entries i entry) where
  controls_from : control_findings past (drop i entries) ≡ entry_finding past entry ∷ control_findings (after_entry past entry) (drop (i + 1) entries)
  unfolding control_findings
  controls_from = at_drop_more (control_findings past) entries i entry within
      ∙ ap (λ (one : ControlEntry). control_findings past (one ∷ drop (i + 1) entries)) (sym is)

  pub controls_on : (line : ℕ) → entry_finding past entry ≡ None
      → first_wrong line (control_findings past (drop i entries)) ≡ first_wrong (next_line line) (control_findings (after_entry past entry) (drop (i + 1) entries))
  controls_on line none = ap (first_wrong line) controls_from ∙ wrong_on line (entry_finding past entry) (control_findings (after_entry past entry) (drop (i + 1) entries)) none

  pub control_here : (line : ℕ) (finding : Finding) → entry_finding past entry ≡ Some finding → first_wrong line (control_findings past (drop i entries)) ≡ Some (line, finding)
  control_here line finding some = ap (first_wrong line) controls_from ∙ wrong_here line (entry_finding past entry) (control_findings (after_entry past entry) (drop (i + 1) entries)) finding some

  pub past_on : after_entries past (drop i entries) ≡ after_entries (after_entry past entry) (drop (i + 1) entries)
  past_on = at_drop_more (after_entries past) entries i entry within
      ∙ ap (λ (one : ControlEntry). after_entries past (one ∷ drop (i + 1) entries)) (sym is)

  pub lines_past : (line : ℕ) → lines_on line (control_findings past (drop i entries)) ≡ lines_on (next_line line) (control_findings (after_entry past entry) (drop (i + 1) entries))
  unfolding lines_on
  lines_past line = ap (lines_on line) controls_from

-- ---- the entries of a worker

-- the line after an entry is the one below it
pub line_after : (trail : Trail) (entry : WorkerEntry) → (workers.after_entry trail entry).line ≡ next_line trail.line
line_after trail (Voice connection revision packet copies) = refl
line_after trail (Closed connection cause) = refl

module _ (past : Past) (trail : Trail) (entries : List WorkerEntry) (i : ℕ) (entry : WorkerEntry) (within : i < length entries) (is : entry ≡ get_or entries i entry) where
  entries_from : entry_findings past trail (drop i entries) ≡ workers.entry_finding past trail entry ∷ entry_findings past (workers.after_entry trail entry) (drop (i + 1) entries)
  unfolding entry_findings
  entries_from = at_drop_more (entry_findings past trail) entries i entry within
      ∙ ap (λ (one : WorkerEntry). entry_findings past trail (one ∷ drop (i + 1) entries)) (sym is)

  pub entries_on : workers.entry_finding past trail entry ≡ None
      → first_wrong trail.line (entry_findings past trail (drop i entries))
      ≡ first_wrong (workers.after_entry trail entry).line (entry_findings past (workers.after_entry trail entry) (drop (i + 1) entries))
  entries_on none = ap (first_wrong trail.line) entries_from
      ∙ wrong_on trail.line (workers.entry_finding past trail entry) (entry_findings past (workers.after_entry trail entry) (drop (i + 1) entries)) none
      ∙ ap (λ (line : ℕ). first_wrong line (entry_findings past (workers.after_entry trail entry) (drop (i + 1) entries))) (sym (line_after trail entry))

  pub entry_here : (finding : Finding) → workers.entry_finding past trail entry ≡ Some finding → first_wrong trail.line (entry_findings past trail (drop i entries)) ≡ Some (trail.line, finding)
  entry_here finding some = ap (first_wrong trail.line) entries_from
      ∙ wrong_here trail.line (workers.entry_finding past trail entry) (entry_findings past (workers.after_entry trail entry) (drop (i + 1) entries)) finding some

  pub trail_on : workers.after_entries trail (drop i entries) ≡ workers.after_entries (workers.after_entry trail entry) (drop (i + 1) entries)
  trail_on = at_drop_more (workers.after_entries trail) entries i entry within
      ∙ ap (λ (one : WorkerEntry). workers.after_entries trail (one ∷ drop (i + 1) entries)) (sym is)

-- ---- the workers

-- n findings further, the line is that of the trail
pub lines_after : (past : Past) (trail : Trail) (entries : List WorkerEntry) → lines_on trail.line (entry_findings past trail entries) ≡ (workers.after_entries trail entries).line
unfolding lines_on entry_findings
lines_after past trail [] = refl
lines_after past trail (entry ∷ entries) =
    ap (λ (line : ℕ). lines_on line (entry_findings past (workers.after_entry trail entry) entries)) (sym (line_after trail entry))
    ∙ lines_after past (workers.after_entry trail entry) entries

-- what is wrong first among lines and those below them
pub wrong_below : (line : ℕ) (above below : List (Option Finding)) → first_wrong line above ≡ None → first_wrong line (above ++ below) ≡ first_wrong (lines_on line above) below
unfolding first_wrong lines_on
wrong_below line [] below none = refl
wrong_below line (None ∷ above) below none = wrong_below (next_line line) above below none
wrong_below line (Some finding ∷ above) below some = cc

pub wrong_above : (line : ℕ) (above below : List (Option Finding)) (wrong : ℕ × Finding) → first_wrong line above ≡ Some wrong → first_wrong line (above ++ below) ≡ Some wrong
unfolding first_wrong
wrong_above line [] below wrong some = cc
wrong_above line (None ∷ above) below wrong some = wrong_above (next_line line) above below wrong some
wrong_above line (Some finding ∷ above) below wrong some = some

module _ (past : Past) (trail : Trail) (by_worker : List (List WorkerEntry)) (i : ℕ) (entries : List WorkerEntry) (within : i < length by_worker) (is : entries ≡ get_or by_worker i entries) where
  abbrev begun : Trail
  begun = workers.at_worker trail

  abbrev below : List (Option Finding)
  below = worker_findings past (workers.after_entries begun entries) (drop (i + 1) by_worker)

  workers_from : worker_findings past trail (drop i by_worker) ≡ None ∷ entry_findings past begun entries ++ below
  unfolding worker_findings
  workers_from = at_drop_more (worker_findings past trail) by_worker i entries within
      ∙ ap (λ (one : List WorkerEntry). worker_findings past trail (one ∷ drop (i + 1) by_worker)) (sym is)

  pub workers_on : first_wrong begun.line (entry_findings past begun entries) ≡ None
      → first_wrong trail.line (worker_findings past trail (drop i by_worker)) ≡ first_wrong (workers.after_entries begun entries).line below
  workers_on none = ap (first_wrong trail.line) workers_from
      ∙ wrong_on trail.line None (entry_findings past begun entries ++ below) refl
      ∙ wrong_below begun.line (entry_findings past begun entries) below none
      ∙ ap (λ (line : ℕ). first_wrong line below) (lines_after past begun entries)

  pub worker_here : (wrong : ℕ × Finding) → first_wrong begun.line (entry_findings past begun entries) ≡ Some wrong
      → first_wrong trail.line (worker_findings past trail (drop i by_worker)) ≡ Some wrong
  worker_here wrong some = ap (first_wrong trail.line) workers_from
      ∙ wrong_on trail.line None (entry_findings past begun entries ++ below) refl
      ∙ wrong_above begun.line (entry_findings past begun entries) below wrong some

-- each entry can be written
pub each_at : {X : Type 0} (P : X → Type 0) (xs : List X) (i : ℕ) (x : X) → Each P xs → i < length xs → x ≡ get_or xs i x → P x
each_at P [] i x all within is = absurd (omega (arith, within))
each_at P (first ∷ xs) zero x all within is = rw is all.0
each_at P (first ∷ xs) (suc i) x all within is = each_at P xs i x all.1 (omega (arith, within)) is

-- ---- after the last

pub controls_over : (past : Past) (line : ℕ) (entries : List ControlEntry) (i : ℕ) → length entries ≤ i → first_wrong line (control_findings past (drop i entries)) ≡ None
unfolding control_findings first_wrong
controls_over past line entries i over = at_drop_all (λ rest. first_wrong line (control_findings past rest)) entries i over

pub lines_over : (past : Past) (line : ℕ) (entries : List ControlEntry) (i : ℕ) → length entries ≤ i → lines_on line (control_findings past (drop i entries)) ≡ line
unfolding control_findings lines_on
lines_over past line entries i over = at_drop_all (λ rest. lines_on line (control_findings past rest)) entries i over

pub entries_over : (past : Past) (trail : Trail) (entries : List WorkerEntry) (i : ℕ) → length entries ≤ i → first_wrong trail.line (entry_findings past trail (drop i entries)) ≡ None
unfolding entry_findings first_wrong
entries_over past trail entries i over = at_drop_all (λ rest. first_wrong trail.line (entry_findings past trail rest)) entries i over

pub workers_over : (past : Past) (trail : Trail) (by_worker : List (List WorkerEntry)) (i : ℕ) → length by_worker ≤ i → first_wrong trail.line (worker_findings past trail (drop i by_worker)) ≡ None
unfolding worker_findings first_wrong
workers_over past trail by_worker i over = at_drop_all (λ rest. first_wrong trail.line (worker_findings past trail rest)) by_worker i over

-- ---- the whole journal

pub opening_stays : (past : Past) (entries : List ControlEntry) → (after_entries past entries).opening ≡ past.opening
opening_stays past [] = refl
opening_stays past (entry ∷ entries) = opening_stays (after_entry past entry) entries

pub found_above : (journal : Journal) (wrong : ℕ × Finding) → first_wrong (first_line journal) (findings_of_controls journal) ≡ Some wrong → first_wrong (first_line journal) (findings journal) ≡ Some wrong
unfolding findings
found_above journal wrong some =
    wrong_above (first_line journal) (findings_of_controls journal)
    (worker_findings (past_of journal) (before_workers (lines_on (first_line journal) (findings_of_controls journal))) journal.by_worker) wrong some

-- where the control entries are right, what is found is what is wrong with the workers
pub found_below : (journal : Journal) (past : Past) (line : ℕ) (found : Option (ℕ × Finding)) → first_wrong (first_line journal) (findings_of_controls journal) ≡ None
    → past ≡ past_of journal → line ≡ lines_on (first_line journal) (findings_of_controls journal) → found ≡ first_wrong line (worker_findings past (before_workers line) journal.by_worker)
    → found ≡ first_wrong (first_line journal) (findings journal)
unfolding findings
found_below journal past line found none past_is line_is is =
    is
    ∙ ap (λ (p : Past). first_wrong line (worker_findings p (before_workers line) journal.by_worker)) past_is
    ∙ ap (λ (n : ℕ). first_wrong n (worker_findings (past_of journal) (before_workers n) journal.by_worker)) line_is
    ∙ sym (wrong_below (first_line journal) (findings_of_controls journal)
    (worker_findings (past_of journal) (before_workers (lines_on (first_line journal) (findings_of_controls journal))) journal.by_worker) none)

-- what was found among the control entries
pub found_in_controls : (journal : Journal) (past : Past) (line : ℕ) (slice : List ControlEntry) (found : Option (ℕ × Finding)) → past ≡ past_before journal → line ≡ first_line journal
    → slice ≡ journal.controls → found ≡ first_wrong line (control_findings past slice) → first_wrong (first_line journal) (findings_of_controls journal) ≡ found
found_in_controls journal past line slice found past_is line_is slice_is is =
    sym (is ∙ ap (λ (p : Past). first_wrong line (control_findings p slice)) past_is
    ∙ ap (λ (n : ℕ). first_wrong n (control_findings (past_before journal) slice)) line_is
    ∙ ap (λ (es : List ControlEntry). first_wrong (first_line journal) (control_findings (past_before journal) es)) slice_is)

-- what is known after the control entries
pub past_behind : (journal : Journal) (past after : Past) (slice : List ControlEntry) → past ≡ past_before journal → slice ≡ journal.controls → after ≡ after_entries past slice → after ≡ past_of journal
past_behind journal past after slice past_is slice_is is =
    is ∙ ap (λ (p : Past). after_entries p slice) past_is ∙ ap (after_entries (past_before journal)) slice_is

pub line_behind : (journal : Journal) (past : Past) (line after : ℕ) (slice : List ControlEntry) → past ≡ past_before journal → line ≡ first_line journal → slice ≡ journal.controls
    → after ≡ lines_on line (control_findings past slice) → after ≡ lines_on (first_line journal) (findings_of_controls journal)
line_behind journal past line after slice past_is line_is slice_is is =
    is ∙ ap (λ (p : Past). lines_on line (control_findings p slice)) past_is
    ∙ ap (λ (n : ℕ). lines_on n (control_findings (past_before journal) slice)) line_is
    ∙ ap (λ (es : List ControlEntry). lines_on (first_line journal) (control_findings (past_before journal) es)) slice_is

-- a view of the opening stays one while edits are accepted
pub view_stays : (past after : Past) (entries : List ControlEntry) (view : ViewValue) → after ≡ after_entries past entries → IsViewOf past.opening [] view → IsViewOf after.opening after.accepted view
view_stays past after entries view is seen =
    subst (λ (opening : StateValue). IsViewOf opening after.accepted view)
    (sym (ap (λ (p : Past). p.opening) is ∙ opening_stays past entries)) (views_stay past.opening [] after.accepted view seen)
