use Rattle.mum_record.proofs.Common.{entry_words}
use Rattle.mum_record.proofs.entry.push_entry.Goals as goal

pub returns-in-Closed-clause-text : goal.returns-in-Closed-clause-text
unfolding entry_words
returns-in-Closed-clause-text c = rw (c.in-Closed.is) (rw (c.place_word.ensures.word, c.cause_name.ensures) at c.push_line.ensures)
