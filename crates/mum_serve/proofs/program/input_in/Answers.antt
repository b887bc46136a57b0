-- What was read of the input says what all of it says.
use Rattle.mum_serve.proofs.Common.{List, ℕ, Ok, Err, subst, Describes}
use Rattle.mum_serve.proofs.Refused.{all_say, is_input}
use Rattle.mum_serve.proofs.program.input_in.Goals as goal

pub returns-in-Ok-described-clause-says : goal.returns-in-Ok-described-clause-says
returns-in-Ok-described-clause-says g c =
    rw c.from_vec-document.ensures
    (is_input (g.I.Source.left c.args.input.now) c.in-Ok.bytes.items c.in-Ok-described.config c.in-Ok.ensures.bytes
    (subst (λ (b : List ℕ). Describes b (Ok c.in-Ok-described.config)) c.deref.ensures.value c.in-Ok-described.ensures.describes))

pub returns-in-Err-clause-says : goal.returns-in-Err-clause-says
returns-in-Err-clause-says g c =
    all_say (g.I.Source.left c.args.input.now) c.in-Ok.bytes.items (Err c.in-Err.end) c.in-Ok.ensures.bytes
    (subst (λ (b : List ℕ). Describes b (Err c.in-Err.end)) c.deref.ensures.value c.in-Err.ensures.describes)
