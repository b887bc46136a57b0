-- The first word decides.
use Rattle.mum_server.proofs.Common.{◌≡◌, ◌↔◌, IsTrue, codes, subst, List, ℕ, arith, string_bytes}
use Rattle.mum_server.proofs.ServeWords.{begins}
use Rattle.mum_server.proofs.command.begins_with_serve.Goals as goal

pub returns-in-len1-up : goal.returns-in-len1-up
returns-in-len1-up c =
    let low = c.in-len1-up.len_at_least in
    begins string_bytes c.args.words.now c.name-item.result c.is_word.result (omega (arith, low)) c.name-item.is
    (subst (λ (name : List ℕ). IsTrue c.is_word.result ↔ (name ≡ codes "serve")) c.as_str.ensures.value c.is_word.ensures)
