-- What is found among the control entries, or else with the workers.
use Rattle.mum_audit.proofs.Common.{◌≡◌, ◌∙◌, ℕ, Option, List, sym, ap, IfOk-weaker, first_step_line, WorkerEntry, Finding, first_line, first_wrong, Past, Trail, before_workers, worker_findings}
use Rattle.mum_audit.proofs.Walks.{found_above, found_below, found_in_controls, line_behind, past_behind, view_stays}
use Rattle.mum_audit.proofs.journal.check_lines.Goals as goal

found_from : (past : Past) (line : ℕ) (trail : Trail) (slice by_worker : List (List WorkerEntry)) (found : Option (ℕ × Finding)) → trail ≡ before_workers line → slice ≡ by_worker
    → found ≡ first_wrong trail.line (worker_findings past trail slice) → found ≡ first_wrong line (worker_findings past (before_workers line) by_worker)
found_from past line trail slice by_worker found trail_is slice_is is =
    is ∙ ap (λ (t : Trail). first_wrong t.line (worker_findings past t slice)) trail_is
    ∙ ap (λ (ws : List (List WorkerEntry)). first_wrong line (worker_findings past (before_workers line) ws)) slice_is

pub returns-in-Some : goal.returns-in-Some
returns-in-Some c =
    let journal = c.args.journal.now in
    let line : c.first_step_line-line.result ≡ first_line journal = c.first_step_line-line.ensures ∙ ap first_step_line c.with_limits.ensures in
    let found = found_in_controls journal c.args.past.now c.first_step_line-line.result c.as_slice-controls.result.now _ c.requires.past line c.as_slice-controls.ensures c.in_ok-wrong.ensures.wrong in
    sym (found_above journal c.in-Some.wrong (found ∙ c.in-Some.is))

pub check_workers-requires : goal.check_workers-requires
check_workers-requires c =
    view_stays c.args.past.now c.check_controls.new.past c.as_slice-controls.result.now c.args.hearing.now.view (c.in_ok-wrong.ensures.past c.in_default.is) c.requires.view

pub returns : goal.returns
returns c =
    let journal = c.args.journal.now in
    let slice = c.as_slice-controls.result.now in
    let line : c.first_step_line-line.result ≡ first_line journal = c.first_step_line-line.ensures ∙ ap first_step_line c.with_limits.ensures in
    let found = found_in_controls journal c.args.past.now c.first_step_line-line.result slice _ c.requires.past line c.as_slice-controls.ensures c.in_ok-wrong.ensures.wrong in
    let past = past_behind journal c.args.past.now c.check_controls.new.past slice c.requires.past c.as_slice-controls.ensures (c.in_ok-wrong.ensures.past c.in_default.is) in
    let after = line_behind journal c.args.past.now c.first_step_line-line.result c.check_controls.new.line slice c.requires.past line c.as_slice-controls.ensures (c.in_ok-wrong.ensures.line c.in_default.is) in
    IfOk-weaker c.check_workers.result _ _
    (λ wrong is. found_below journal c.check_controls.new.past c.check_controls.new.line wrong (found ∙ c.in_default.is) past after
    (found_from c.check_controls.new.past c.check_controls.new.line c.new-trail.result c.as_slice.result.now journal.by_worker wrong c.new-trail.ensures c.as_slice.ensures is))
    c.check_workers.ensures
