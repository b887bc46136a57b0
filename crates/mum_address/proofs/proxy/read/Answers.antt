use Rattle.mum_address.proofs.Common.{◌≡◌, List, ℕ, ◌++◌, drop, take, ap, sym, refl, ◌∙◌, Decides-eqb, take-append-drop, slice_eq-Decides, signature}
use Rattle.mum_address.proofs.Fronts.{read_signed}
use Rattle.mum_address.proofs.proxy.read.Goals as goal

pub returns-in-Some : goal.returns-in-Some
returns-in-Some c =
    let bytes = c.args.bytes.now in
    let cases = c.in-Some.ensures.cases in
    let same : take 12 bytes ≡ signature = (slice_eq-Decides Decides-eqb (take 12 bytes) signature _ (sym cases.0)).0 refl in
    let is : bytes ≡ signature ++ c.in-Some.rest.now = sym (take-append-drop 12 bytes) ∙ ap (λ (front : List ℕ). front ++ drop 12 bytes) same ∙ ap (λ (rest : List ℕ). signature ++ rest) (sym cases.1) in
    c.read_command.ensures ∙ sym (read_signed bytes c.in-Some.rest.now is)
