-- Each line that is taken goes on, and each way out says what was read.
use Rattle.mum_record.proofs.Common.{◌≡◌, ◌∙◌, List, ℕ, Err, Result, refl, sym, subst, arith, Journal, JournalFault, journal_of, ReadsText, AnswersBy}
use Rattle.mum_record.proofs.TextLaws.{reads_on, reads_no_further, reads_to_end, answers-found, answers-fault}
use Rattle.mum_record.proofs.journal_reader.read_journal.Goals as goal

pub lines-init : goal.lines-init
unfolding journal_of
lines-init c = record { reading = rw c.new-draft.ensures refl; counted = omega arith }

pub lines-preserved : goal.lines-preserved
lines-preserved c =
    record {
      reading = c.lines.invariant.reading
          ∙ reads_on c.lines.draft c.take.new.self c.lines.number c.in-Some.line.now c.lines.rest.now c.in-Some.behind.now c.in-Some.ensures.lines c.in-Ok.ensures;
      counted = omega (arith, c.in-Some.ensures.shorter, c.lines.invariant.counted);
    }

stopped : (text : List ℕ) (read : Result Journal ℕ) (r : Result Journal JournalFault) → journal_of text ≡ read → AnswersBy read r → ReadsText text r
stopped text read r is h = subst (λ (x : Result Journal ℕ). AnswersBy x r) (sym is) h

pub returns-in-Err-clause-exact : goal.returns-in-Err-clause-exact
returns-in-Err-clause-exact c =
    stopped c.args.text.now _ (Err c.fault_at.result) c.lines.invariant.reading
    (reads_no_further c.lines.draft c.take.new.self c.lines.number c.in-Some.line.now c.lines.rest.now c.in-Some.behind.now c.in-Err.fault c.fault_at.result c.in-Some.ensures.lines c.in-Err.ensures c.fault_at.ensures)

pub returns-in-Err-clause-refused : goal.returns-in-Err-clause-refused
returns-in-Err-clause-refused c = answers-fault c.args.text.now (Err c.fault_at.result)
    (stopped c.args.text.now _ (Err c.fault_at.result) c.lines.invariant.reading
    (reads_no_further c.lines.draft c.take.new.self c.lines.number c.in-Some.line.now c.lines.rest.now c.in-Some.behind.now c.in-Err.fault c.fault_at.result c.in-Some.ensures.lines c.in-Err.ensures c.fault_at.ensures))

pub returns-clause-exact : goal.returns-clause-exact
returns-clause-exact c =
    stopped c.args.text.now _ c.ended.result (c.lines.invariant.reading ∙ reads_to_end c.lines.draft c.lines.number c.lines.rest.now c.in_default.ensures.lines) c.ended.ensures.answer

pub returns-clause-found : goal.returns-clause-found
returns-clause-found c = answers-found c.args.text.now c.ended.result
    (stopped c.args.text.now _ c.ended.result (c.lines.invariant.reading ∙ reads_to_end c.lines.draft c.lines.number c.lines.rest.now c.in_default.ensures.lines) c.ended.ensures.answer)

pub returns-clause-refused : goal.returns-clause-refused
returns-clause-refused c = answers-fault c.args.text.now c.ended.result
    (stopped c.args.text.now _ c.ended.result (c.lines.invariant.reading ∙ reads_to_end c.lines.draft c.lines.number c.lines.rest.now c.in_default.ensures.lines) c.ended.ensures.answer)
