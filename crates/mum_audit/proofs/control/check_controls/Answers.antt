-- Each entry that is right goes on, and the first wrong one ends it.
use Rattle.mum_audit.proofs.Common.{◌≡◌, ◌∙◌, ◌<◌, None, Some, length, arith, sym, entry_finding}
use Rattle.mum_audit.proofs.Walks.{control_here, controls_on, controls_over, lines_over, lines_past, past_on}
use Rattle.mum_audit.proofs.control.check_controls.Goals as goal

pub loop-entry-preserved : goal.loop-entry-preserved
loop-entry-preserved c =
    let past = c.loop-entry.past in
    let entries = c.args.entries.now in
    let i = c.loop-entry.entry-index in
    let entry = c.entry-item.result in
    let within : i < length entries = omega arith in
    let none : entry_finding past entry ≡ None = sym c.in_ok-finding.ensures.finding ∙ c.in_default.is in
    rw (c.next_line.ensures, c.in_ok-finding.ensures.past)
    (record {
      wrong = c.loop-entry.invariant.wrong ∙ controls_on past entries i entry within c.entry-item.is c.loop-entry.line none;
      past = c.loop-entry.invariant.past ∙ past_on past entries i entry within c.entry-item.is;
      line = c.loop-entry.invariant.line ∙ lines_past past entries i entry within c.entry-item.is c.loop-entry.line;
    })

pub returns-in-Some-clause-wrong : goal.returns-in-Some-clause-wrong
returns-in-Some-clause-wrong c =
    let past = c.loop-entry.past in
    let entries = c.args.entries.now in
    let i = c.loop-entry.entry-index in
    let entry = c.entry-item.result in
    let within : i < length entries = omega arith in
    let found : entry_finding past entry ≡ Some c.in-Some.finding = sym c.in_ok-finding.ensures.finding ∙ c.in-Some.is in
    sym (c.loop-entry.invariant.wrong ∙ control_here past entries i entry within c.entry-item.is c.loop-entry.line c.in-Some.finding found)

pub returns-clause-wrong : goal.returns-clause-wrong
returns-clause-wrong c =
    sym (c.loop-entry.invariant.wrong ∙ controls_over c.loop-entry.past c.loop-entry.line c.args.entries.now c.loop-entry.entry-index (omega arith))

pub returns-clause-line : goal.returns-clause-line
returns-clause-line c none =
    sym (c.loop-entry.invariant.line ∙ lines_over c.loop-entry.past c.loop-entry.line c.args.entries.now c.loop-entry.entry-index (omega arith))
