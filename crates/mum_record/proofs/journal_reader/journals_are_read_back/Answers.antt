use Rattle.mum_record.proofs.TextLaws.{journal_of-text, texts_say_one}
use Rattle.mum_record.proofs.journal_reader.journals_are_read_back.Goals as goal

pub returns-clause-read_back : goal.returns-clause-read_back
returns-clause-read_back c = journal_of-text

pub returns-clause-one : goal.returns-clause-one
returns-clause-one c = texts_say_one
