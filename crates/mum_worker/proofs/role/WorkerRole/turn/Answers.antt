use Rattle.mum_worker.proofs.CommonNames.{◌≡◌, ℕ, Bool, true, false, ◌↔◌, IsTrue, refl, ap, ◌∙◌, if◌then◌else◌, Turn, Worked, Idle, Done, is_done, WorkerOpening}
use Rattle.mum_worker.proofs.Openings.{turned_same}
use Rattle.mum_worker.proofs.role.WorkerRole.turn.Goals as goal

says_done : (ended worked : Bool) (answer : Turn) → answer ≡ (if ended then Done else (if worked then Worked else Idle)) → (answer ≡ Done) ↔ IsTrue ended
says_done true worked answer e = (λ d. refl, λ t. e)
says_done false true answer e = (λ d. absurd (cc (d, e)), λ t. absurd (cc t))
says_done false false answer e = (λ d. absurd (cc (d, e)), λ t. absurd (cc t))

pub returns-clause-opening : goal.returns-clause-opening
returns-clause-opening g c =
    let same = turned_same g.L.Link.facts g.N.Naming.opening c.args.self.now c.turn.new.self c.turn.result c.turn.ensures in
    let put : ℕ → Bool → WorkerOpening = λ n j. record { number = n; journal = j } in
    ap (λ n. put n c.turn.new.self.common.kept.journal) same.number ∙ ap (put c.args.self.now.number) same.journal

pub returns-clause-ended : goal.returns-clause-ended
returns-clause-ended g c = says_done (is_done c.turn.new.self) c.turn.ensures.worked c.turn.result c.turn.ensures.answer_is
