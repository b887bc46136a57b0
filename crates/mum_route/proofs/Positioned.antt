-- A copy has its position by whether two contexts are equal.
use Rattle.mum_route.proofs.Common.{◌≡◌, ◌≢◌, ◌∙◌, ℕ, ◌+◌, ◌*◌, ◌^◌, Bool, true, false, List, [], ◌∷◌, ◌++◌, bytes_eq, cond, Some, refl, sym, ap, append_assoc, bytes_eq-Decides, append-nil, SessionId, Parts, shortest_word, User, Hearer, copy_for, shares, HasPositionBy, before_position}

-- the parts of a copy, with its last one after the others
rejoined : (speaker : SessionId) (packet : Parts) (context : ℕ) (last : List ℕ)
    → (packet.kind * 2 ^ 5 + context) ∷ shortest_word speaker.0 ++ packet.sequence ++ packet.audio ++ last ≡ before_position speaker packet context ++ last
rejoined speaker packet context last = simp append_assoc

with_last : (speaker : SessionId) (packet : Parts) (hearer : Hearer) (b : Bool) → hearer.same ≡ b
    → copy_for speaker packet hearer ≡ before_position speaker packet hearer.context ++ cond b packet.position []
with_last speaker packet hearer b is =
    ap (λ (s : Bool). (packet.kind * 2 ^ 5 + hearer.context) ∷ shortest_word speaker.0 ++ packet.sequence ++ packet.audio ++ cond s packet.position []) is
    ∙ rejoined speaker packet hearer.context (cond b packet.position [])

pub has_position_by : (own user : User) (speaker : SessionId) (packet : Parts) (hearer : Hearer) → hearer.same ≡ shares (Some own) user → HasPositionBy own user speaker packet hearer
has_position_by own user speaker packet hearer is = (
  λ same. with_last speaker packet hearer true (is ∙ (bytes_eq-Decides own.context user.context).1 same),
  λ other. by_bytes (bytes_eq own.context user.context) refl other,
)
  where
    by_bytes : (b : Bool) → bytes_eq own.context user.context ≡ b → own.context ≢ user.context → copy_for speaker packet hearer ≡ before_position speaker packet hearer.context
    by_bytes true e other = absurd (other ((bytes_eq-Decides own.context user.context).0 e))
    by_bytes false e other = with_last speaker packet hearer false (is ∙ e) ∙ append-nil (before_position speaker packet hearer.context)
