-- Each entry that is right goes on, and the first wrong one ends it.
use Rattle.mum_audit.proofs.Common.{◌≡◌, ◌∙◌, ◌<◌, None, Some, length, arith, sym}
use Rattle.mum_audit.specs.Workers.{after_entry, entry_finding}
use Rattle.mum_audit.proofs.Walks.{entries_on, entries_over, entry_here, trail_on}
use Rattle.mum_audit.proofs.worker.check_entries.Goals as goal

pub loop-entry-preserved : goal.loop-entry-preserved
loop-entry-preserved c =
    let past = c.args.past.now in
    let trail = c.loop-entry.trail in
    let entries = c.args.entries.now in
    let i = c.loop-entry.entry-index in
    let entry = c.entry-item.result in
    let within : i < length entries = omega arith in
    let none : entry_finding past trail entry ≡ None = sym c.in_ok-finding.ensures.finding ∙ c.in_default.is in
    let gone_on : c.check_entry.new.trail ≡ after_entry trail entry = c.in_ok-finding.ensures.trail c.in_default.is in
    rw gone_on
    (record {
      view = c.in_ok-finding.ensures.view;
      wrong = c.loop-entry.invariant.wrong ∙ entries_on past trail entries i entry within c.entry-item.is none;
      trail = c.loop-entry.invariant.trail ∙ trail_on past trail entries i entry within c.entry-item.is;
    })

pub returns-in-Some-clause-wrong : goal.returns-in-Some-clause-wrong
returns-in-Some-clause-wrong c =
    let past = c.args.past.now in
    let trail = c.loop-entry.trail in
    let entries = c.args.entries.now in
    let i = c.loop-entry.entry-index in
    let entry = c.entry-item.result in
    let within : i < length entries = omega arith in
    let found : entry_finding past trail entry ≡ Some c.in-Some.finding = sym c.in_ok-finding.ensures.finding ∙ c.in-Some.is in
    rw c.line-line.ensures
    (sym (c.loop-entry.invariant.wrong ∙ entry_here past trail entries i entry within c.entry-item.is c.in-Some.finding found))

pub returns-clause-wrong : goal.returns-clause-wrong
returns-clause-wrong c =
    sym (c.loop-entry.invariant.wrong ∙ entries_over c.args.past.now c.loop-entry.trail c.args.entries.now c.loop-entry.entry-index (omega arith))
