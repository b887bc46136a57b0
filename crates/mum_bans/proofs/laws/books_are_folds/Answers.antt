use Rattle.mum_bans.proofs.Common.{[]}
use Rattle.mum_bans.proofs.Folds.{calls_fold, one_more}
use Rattle.mum_bans.proofs.laws.books_are_folds.Goals as goal

pub returns-clause-calls : goal.returns-clause-calls
returns-clause-calls c = calls_fold []

pub returns-clause-one_more : goal.returns-clause-one_more
returns-clause-one_more c = one_more
