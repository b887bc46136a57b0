use Rattle.mum_part_laws.proofs.TextLaws.{names_lem, texts_lem}
use Rattle.mum_part_laws.proofs.texts.names_and_texts_name_the_first.Goals as goal

pub returns-clause-names : goal.returns-clause-names
returns-clause-names c = names_lem

pub returns-clause-texts : goal.returns-clause-texts
returns-clause-texts c = texts_lem
