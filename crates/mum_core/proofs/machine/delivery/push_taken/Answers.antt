use Rattle.mum_core.proofs.Common.{◌≡◌, ◌∙◌, ℕ, List, [], ◌∷◌, ◌++◌, Some, false, refl, sym, ap, string_bytes, codes, decimal, SessionId, Seat, Delivery, is_for, line, joined}
use Rattle.mum_core.proofs.machine.delivery.push_taken.Goals as goal

stale_words : (c : ℕ) (seat : Seat) (oldest : Delivery) → is_for oldest.to seat ≡ false → codes "stale" ∷ decimal c ∷ [] ≡ line c seat (Some oldest)
stale_words c seat oldest other = rw other refl

pub returns-clause-line : goal.returns-clause-line
returns-clause-line g c =
    let oldest : Delivery = g.W.Waiting.delivery c.args.oldest.now in
    let other : is_for oldest.to c.args.seat.now ≡ false =
    ap (λ (to : SessionId). is_for to c.args.seat.now) (sym c.recipient.ensures) ∙ (sym c.is_for.ensures ∙ c.if-is_for.false) in
    (rw c.from.ensures at c.in_ok-push_line.ensures)
    ∙ ap (λ (words : List (List ℕ)). string_bytes c.args.text.now ++ joined (words ∷ [])) (stale_words c.args.connection c.args.seat.now oldest other)
