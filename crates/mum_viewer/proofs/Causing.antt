-- What the answer of a turn shows.
use Rattle.mum_viewer.proofs.Common.{◌≡◌, ◌⊎◌, inl, inr, ◌+◌, Bool, true, false, IsTrue, List, [], ◌∷◌, refl, sym, ap, subst, ◌∙◌, ◌↔◌, AllByRecursion, Along, Turn, Rose, AcceptCounts, DoorFacts, Accept, Conn, NotYet, End, Failed, LinkFacts, AllStalled, IsOpenView, HasAnswered, HasMoved, HasNothingToDo, SomeMoved, OpenSteps, ViewFacts, ViewMoves, counted_by, Asks, ViewerFacts, ViewerTurned, has_ended, is_not_to_ask, turn_of, Answers, StepsViews, ViewsFacts, Counted, Went, Waits, Wrote, Finished, Broke}
use Rattle.mum_viewer.proofs.{Answered.is_done, Answered.one_more, Idle.all_stalled}
use Rattle.mum_crew.specs.declared.role.Turn.TheVariants as turns

-- ---- steps

module _ {L : Type 0} (facts : L → LinkFacts) where
  moved_or_same : (went : Went) (old new : ViewFacts L) (before : Counted) → OpenSteps facts old went new → HasMoved facts old new ⊎ (counted_by went before ≡ before)
  moved_or_same Waits old new before step = inr refl
  moved_or_same Wrote old new before step = inl (inl (step.0, step.1.appended, step.2))
  moved_or_same Finished old new before step = inl (inr step.3.shut)
  moved_or_same Broke old new before step = inl (inr step.1.shut)

  some_moved : (olds news : List (ViewFacts L)) (before after : Counted) → Along (ViewMoves facts) olds before news after → AllByRecursion IsOpenView olds
      → before.worked ≡ false → after.worked ≡ true → SomeMoved facts olds news
  some_moved [] [] before after same all was is = absurd (cc (ap (λ (counted : Counted). counted.worked) same, was, is))
  some_moved [] (new ∷ news) before after along all was is = absurd along
  some_moved (old ∷ olds) [] before after along all was is = absurd along
  some_moved (old ∷ olds) (new ∷ news) before after (between, move, rest) (one, others) was is =
      elim (moved_or_same move.went old new before (move.steps.moves one)) [
        | inl moved ↦ inl moved
        | inr same ↦ inr (some_moved olds news between after rest others (ap (λ (counted : Counted). counted.worked) (move.counts_it ∙ same) ∙ was) is)
      ]

-- ---- turns

module _ {D L : Type 0} (door_facts : D → DoorFacts) (facts : L → LinkFacts) where
  gave : (answer : Accept L) (old new : ViewerFacts D L) (worked : Bool) → AcceptCounts answer (door_facts old.doorway.door).counts (door_facts new.doorway.door).counts
      → Answers facts old.views answer worked new.views → worked ≡ true → HasAnswered door_facts old new
  gave (Conn link) old new worked counted answers is = inl (one_more facts old.views new.views link answers.1.text answers.1.takes)
  gave NotYet old new worked counted answers is = absurd (cc (answers.0, is))
  gave End old new worked counted answers is = inr (inl counted.rose)
  gave Failed old new worked counted answers is = inr (inr counted.rose)

  asked : (stops : Bool) (old new : ViewerFacts D L) (worked : Bool) → is_not_to_ask old ≡ stops → Asks door_facts facts old worked new → worked ≡ true
      → HasAnswered door_facts old new
  asked true old new worked stopped asks is = absurd (cc ((asks.rests stopped).0, is))
  asked false old new worked stopped asks is = let once = asks.asks stopped in gave once.answer old new worked once.counted once.answers is

  answered : (old new : ViewerFacts D L) (mid : ViewsFacts L) (worked : Bool) → mid.given ≡ old.views.given
      → Asks door_facts facts (record old { views = mid }) worked new → worked ≡ true → HasAnswered door_facts old new
  answered old new mid worked same asks is =
      let before : ViewerFacts D L = record old { views = mid } in
      elim (asked (is_not_to_ask before) before new worked refl asks is) [
        | inl more ↦ inl (more ∙ ap (λ n. n + 1) same)
        | inr stopped ↦ inr stopped
      ]

  worked_by : (ended stepped answer : Bool) (old new : ViewerFacts D L) (turned : ViewerTurned door_facts facts old turns.Worked new)
      → has_ended new ≡ ended → turned.stepped ≡ stepped → turned.answered ≡ answer → turns.Worked ≡ turn_of ended stepped answer → AllByRecursion IsOpenView old.views.list
      → SomeMoved facts old.views.list turned.steps.steps.stepped ⊎ HasAnswered door_facts old new
  worked_by true stepped answer old new turned ended steps answers came all = absurd (cc came)
  worked_by false true answer old new turned ended steps answers came all =
      inl (some_moved facts old.views.list turned.steps.steps.stepped (record { whole = old.views.whole; worked = false })
      (record { whole = turned.between.whole; worked = turned.stepped }) turned.steps.steps.along all refl steps)
  worked_by false false true old new turned ended steps answers came all =
      inr (answered old new turned.between turned.answered (ap (λ (views : ViewsFacts L). views.given) turned.steps.others) turned.asks answers)
  worked_by false false false old new turned ended steps answers came all = absurd (cc came)

  pub worked : (old new : ViewerFacts D L) (turned : ViewerTurned door_facts facts old turns.Worked new) → AllByRecursion IsOpenView old.views.list
      → SomeMoved facts old.views.list turned.steps.steps.stepped ⊎ HasAnswered door_facts old new
  worked old new turned all = worked_by (has_ended new) turned.stepped turned.answered old new turned refl refl refl turned.came_to all

  -- ---- a turn in which nothing was to be done

  gave_nothing : (answer : Accept L) (old new : ViewerFacts D L) (worked : Bool) → AcceptCounts answer (door_facts old.doorway.door).counts (door_facts new.doorway.door).counts
      → Answers facts old.views answer worked new.views → worked ≡ false
      → (new.views ≡ old.views) × Rose (door_facts old.doorway.door).counts.stalls (door_facts new.doorway.door).counts.stalls
  gave_nothing (Conn link) old new worked counted answers is = absurd (cc (answers.0, is))
  gave_nothing NotYet old new worked counted answers is = (answers.1, counted.rose)
  gave_nothing End old new worked counted answers is = absurd (cc (answers.0, is))
  gave_nothing Failed old new worked counted answers is = absurd (cc (answers.0, is))

  asked_nothing : (stops : Bool) (old new : ViewerFacts D L) (worked : Bool) → is_not_to_ask old ≡ stops → Asks door_facts facts old worked new → worked ≡ false
      → (new.views ≡ old.views) × ((is_not_to_ask new ≡ true) ⊎ Rose (door_facts old.doorway.door).counts.stalls (door_facts new.doorway.door).counts.stalls)
  asked_nothing true old new worked stopped asks is =
      let same = (asks.rests stopped).1 in
      (ap (λ (viewer : ViewerFacts D L). viewer.views) same, inl (ap (λ (viewer : ViewerFacts D L). is_not_to_ask viewer) same ∙ stopped))
  asked_nothing false old new worked stopped asks is =
      let once = asks.asks stopped in
      let none = gave_nothing once.answer old new worked once.counted once.answers is in
      (none.0, inr none.1)

  idle_by : (ended stepped answer : Bool) (old new : ViewerFacts D L) (turned : ViewerTurned door_facts facts old turns.Idle new)
      → turned.stepped ≡ stepped → turned.answered ≡ answer → turns.Idle ≡ turn_of ended stepped answer → AllByRecursion IsOpenView old.views.list
      → HasNothingToDo door_facts facts old new
  idle_by true stepped answer old new turned steps answers came all = absurd (cc came)
  idle_by false true answer old new turned steps answers came all = absurd (cc came)
  idle_by false false true old new turned steps answers came all = absurd (cc came)
  idle_by false false false old new turned steps answers came all =
      let mid : ViewerFacts D L = record old { views = turned.between } in
      let none = asked_nothing (is_not_to_ask mid) mid new turned.answered refl turned.asks answers in
      let still = all_stalled facts old.views turned.between all
      (subst (λ (b : Bool). StepsViews facts old.views b turned.between) steps turned.steps) in
      record {
        views = subst (λ (views : ViewsFacts L). AllStalled facts old.views.list views.list) (sym none.0) still;
        door = none.1;
      }

  pub idle : (old new : ViewerFacts D L) (turned : ViewerTurned door_facts facts old turns.Idle new) → AllByRecursion IsOpenView old.views.list
      → HasNothingToDo door_facts facts old new
  idle old new turned all = idle_by (has_ended new) turned.stepped turned.answered old new turned refl refl turned.came_to all

  pub done : (old : ViewerFacts D L) (turn : Turn) (new : ViewerFacts D L) → ViewerTurned door_facts facts old turn new
      → (turn ≡ turns.Done) ↔ IsTrue (has_ended new)
  done old turn new turned =
      subst (λ (t : Turn). (t ≡ turns.Done) ↔ IsTrue (has_ended new)) (sym turned.came_to) (is_done (has_ended new) turned.stepped turned.answered)
