use Rattle.mum_part_laws.proofs.NameLaws.{names_are_known_lem, tokens_are_words_lem}
use Rattle.mum_part_laws.proofs.groups.names_are_known.Goals as goal

pub returns-clause-tokens : goal.returns-clause-tokens
returns-clause-tokens c = tokens_are_words_lem

pub returns-clause-words : goal.returns-clause-words
returns-clause-words c = names_are_known_lem
