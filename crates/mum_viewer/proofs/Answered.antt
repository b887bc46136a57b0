-- What a turn comes to, and how many views there are after a connection.
use Rattle.mum_viewer.proofs.Common.{◌≡◌, ℕ, ◌+◌, Bool, true, false, List, Result, Ok, Err, IsTrue, refl, ap, ◌↔◌, AllocError, LinkFacts, turn_of, Takes, ViewsFacts}
use Rattle.mum_crew.specs.declared.role.Turn.TheVariants as turns

pub is_done : (ended stepped answered : Bool) → (turn_of ended stepped answered ≡ turns.Done) ↔ IsTrue ended
is_done true stepped answered = (λ e. refl, λ e. refl)
is_done false true answered = (λ e. absurd (cc e), λ e. absurd (cc e))
is_done false false true = (λ e. absurd (cc e), λ e. absurd (cc e))
is_done false false false = (λ e. absurd (cc e), λ e. absurd (cc e))

module _ {L : Type 0} (facts : L → LinkFacts) where
  pub one_more : (old new : ViewsFacts L) (link : L) (text : Result (List ℕ) AllocError) → Takes facts old link text new → new.given ≡ old.given + 1
  one_more old new link (Ok text) takes = ap (λ (views : ViewsFacts L). views.given) takes
  one_more old new link (Err error) takes = ap (λ (views : ViewsFacts L). views.given) takes.0
