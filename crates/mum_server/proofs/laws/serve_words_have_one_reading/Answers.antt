use Rattle.mum_server.proofs.ServeWords.{asked_once}
use Rattle.mum_server.proofs.laws.serve_words_have_one_reading.Goals as goal

pub returns : goal.returns
returns c = asked_once
