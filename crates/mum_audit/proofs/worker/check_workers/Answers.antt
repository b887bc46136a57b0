-- Each worker that is right goes on, and the first wrong line ends it.
use Rattle.mum_audit.proofs.Common.{◌≡◌, ◌∙◌, ◌<◌, ℕ, Option, List, drop, length, arith, sym, ap, ◌+◌, WorkerEntry, Finding, first_wrong, Past, Trail, at_worker, entry_findings, worker_findings}
use Rattle.mum_audit.specs.Workers.{after_entries}
use Rattle.mum_audit.proofs.Walks.{worker_here, workers_on, workers_over}
use Rattle.mum_audit.proofs.worker.check_workers.Goals as goal

-- what was found among the entries of a worker
found_there : (past : Past) (trail begun : Trail) (entries slice : List WorkerEntry) (found : Option (ℕ × Finding)) → begun ≡ at_worker trail → slice ≡ entries
    → found ≡ first_wrong begun.line (entry_findings past begun slice) → first_wrong (at_worker trail).line (entry_findings past (at_worker trail) entries) ≡ found
found_there past trail begun entries slice found begun_is slice_is is =
    sym (is ∙ ap (λ (t : Trail). first_wrong t.line (entry_findings past t slice)) begun_is
    ∙ ap (λ (es : List WorkerEntry). first_wrong (at_worker trail).line (entry_findings past (at_worker trail) es)) slice_is)

pub loop-entries-preserved : goal.loop-entries-preserved
loop-entries-preserved c =
    let past = c.args.past.now in
    let trail = c.loop-entries.trail in
    let by_worker = c.args.by_worker.now in
    let i = c.loop-entries.entries-index in
    let entries = c.entries-item.result in
    let within : i < length by_worker = omega arith in
    let none = found_there past trail c.begin_worker.new.self entries c.as_slice-entries.result.now _ c.begin_worker.ensures c.as_slice-entries.ensures c.in_ok-wrong.ensures.wrong ∙ c.in_default.is in
    let gone_on : c.check_entries.new.trail ≡ after_entries (at_worker trail) entries =
    c.in_ok-wrong.ensures.trail c.in_default.is ∙ ap (λ (t : Trail). after_entries t c.as_slice-entries.result.now) c.begin_worker.ensures
    ∙ ap (after_entries (at_worker trail)) c.as_slice-entries.ensures in
    record {
      view = c.in_ok-wrong.ensures.view;
      wrong = c.loop-entries.invariant.wrong ∙ workers_on past trail by_worker i entries within c.entries-item.is none
          ∙ sym (ap (λ (t : Trail). first_wrong t.line (worker_findings past t (drop (i + 1) by_worker))) gone_on);
    }

pub returns-in-Some : goal.returns-in-Some
returns-in-Some c =
    let past = c.args.past.now in
    let trail = c.loop-entries.trail in
    let by_worker = c.args.by_worker.now in
    let i = c.loop-entries.entries-index in
    let entries = c.entries-item.result in
    let within : i < length by_worker = omega arith in
    let found = found_there past trail c.begin_worker.new.self entries c.as_slice-entries.result.now _ c.begin_worker.ensures c.as_slice-entries.ensures c.in_ok-wrong.ensures.wrong ∙ c.in-Some.is in
    sym (c.loop-entries.invariant.wrong ∙ worker_here past trail by_worker i entries within c.entries-item.is c.in-Some.wrong found)

pub returns : goal.returns
returns c =
    sym (c.loop-entries.invariant.wrong ∙ workers_over c.args.past.now c.loop-entries.trail c.args.by_worker.now c.loop-entries.entries-index (omega arith))
