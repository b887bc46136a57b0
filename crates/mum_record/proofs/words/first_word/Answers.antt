use Rattle.mum_record.proofs.Splits.{first_word-none, first_word-some, first_word-shorter}
use Rattle.mum_record.proofs.words.first_word.Goals as goal

pub returns-in-Some-clause-words : goal.returns-in-Some-clause-words
returns-in-Some-clause-words c = first_word-some c.args.line.now c.split_once.result _ c.split_once.ensures.cases c.in-Some.is

pub returns-in-Some-clause-shorter : goal.returns-in-Some-clause-shorter
returns-in-Some-clause-shorter c = first_word-shorter c.args.line.now c.split_once.result _ c.split_once.ensures.cases c.in-Some.is

pub returns-in-None-clause-words : goal.returns-in-None-clause-words
returns-in-None-clause-words c = first_word-none c.args.line.now c.split_once.result c.split_once.ensures.cases c.in-None.is
