use Rattle.mum_document.proofs.Common.{◌≡◌, rules, place_text, Names}
use Rattle.mum_document.proofs.fault.seen_at.Goals as goal

pub returns-in-Ok : goal.returns-in-Ok
returns-in-Ok c = λ fault names. let way : c.as_str.result.now ≡ place_text c.args.place = search rules in rw way at (c.seen_from.ensures fault names)

pub returns-in-Err : goal.returns-in-Err
unfolding Names
returns-in-Err c = λ fault names. tt
