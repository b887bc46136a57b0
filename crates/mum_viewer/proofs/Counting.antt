-- How many texts were taken whole.
use Rattle.mum_viewer.proofs.Common.{◌≡◌, ℕ, zero, suc, ◌+◌, Bool, true, false, List, [], ◌∷◌, Result, Ok, Err, refl, ap, ◌∙◌, arith, AllocError, Along, TurnsTo, Turn, given_after_all, next_count, Accept, Conn, NotYet, End, Failed, LinkFacts, DoorFacts, HasTurned, finished_along, finished_in, finished_over, finished_with, ViewFacts, ViewMoves, counted_by, Asks, ViewerFacts, ViewerTurned, is_not_to_ask, Answers, Takes, ViewsFacts, Counted, Went, Waits, Wrote, Finished, Broke}

next_first : (count more : ℕ) → given_after_all (next_count count) more ≡ next_count (given_after_all count more)
next_first count zero = refl
next_first count (suc more) = ap next_count (next_first count more)

both : (count first more : ℕ) → given_after_all (given_after_all count first) more ≡ given_after_all count (more + first)
both count first zero = let e : first ≡ 0 + first = omega arith in ap (λ n. given_after_all count n) e
both count first (suc more) =
    let e : suc (more + first) ≡ suc more + first = omega arith in
    ap next_count (both count first more) ∙ ap (λ n. given_after_all count n) e

by_went : (went : Went) (before : Counted) (more : ℕ) → given_after_all (counted_by went before).whole more ≡ given_after_all before.whole (finished_with went more)
by_went Waits before more = refl
by_went Wrote before more = refl
by_went Finished before more = next_first before.whole more
by_went Broke before more = refl

module _ {L : Type 0} (facts : L → LinkFacts) where
  along_counts : (olds : List (ViewFacts L)) (before : Counted) (news : List (ViewFacts L)) (after : Counted) (all : Along (ViewMoves facts) olds before news after)
      → after.whole ≡ given_after_all before.whole (finished_along facts olds before news after all)
  along_counts [] before [] after same = ap (λ (counted : Counted). counted.whole) same
  along_counts [] before (new ∷ news) after along = absurd along
  along_counts (old ∷ olds) before [] after along = absurd along
  along_counts (old ∷ olds) before (new ∷ news) after (between, move, rest) =
      let more = finished_along facts olds between news after rest in
      along_counts olds between news after rest
      ∙ (ap (λ (counted : Counted). given_after_all counted.whole more) move.counts_it ∙ by_went move.went before more)

  takes_same : (old new : ViewsFacts L) (link : L) (text : Result (List ℕ) AllocError) → Takes facts old link text new → new.whole ≡ old.whole
  takes_same old new link (Ok text) takes = ap (λ (views : ViewsFacts L). views.whole) takes
  takes_same old new link (Err error) takes = ap (λ (views : ViewsFacts L). views.whole) takes.0

  answers_same : (old new : ViewsFacts L) (answer : Accept L) (worked : Bool) → Answers facts old answer worked new → new.whole ≡ old.whole
  answers_same old new (Conn link) worked answers = takes_same old new link answers.1.text answers.1.takes
  answers_same old new NotYet worked answers = ap (λ (views : ViewsFacts L). views.whole) answers.1
  answers_same old new End worked answers = ap (λ (views : ViewsFacts L). views.whole) answers.1
  answers_same old new Failed worked answers = ap (λ (views : ViewsFacts L). views.whole) answers.1

module _ {D L : Type 0} (door_facts : D → DoorFacts) (facts : L → LinkFacts) where
  asks_same : (stops : Bool) (old new : ViewerFacts D L) (worked : Bool) → is_not_to_ask old ≡ stops → Asks door_facts facts old worked new
      → new.views.whole ≡ old.views.whole
  asks_same true old new worked is asks = ap (λ (viewer : ViewerFacts D L). viewer.views.whole) (asks.rests is).1
  asks_same false old new worked is asks = let once = asks.asks is in answers_same facts old.views new.views once.answer worked once.answers

  turn_counts : (old : ViewerFacts D L) (turn : Turn) (new : ViewerFacts D L) (turned : ViewerTurned door_facts facts old turn new)
      → new.views.whole ≡ given_after_all old.views.whole (finished_in door_facts facts old turn new turned)
  turn_counts old turn new turned =
      let mid : ViewerFacts D L = record old { views = turned.between } in
      asks_same (is_not_to_ask mid) mid new turned.answered refl turned.asks
      ∙ along_counts facts old.views.list (record { whole = old.views.whole; worked = false }) turned.steps.steps.stepped
      (record { whole = turned.between.whole; worked = turned.stepped }) turned.steps.steps.along

  turns_count : (old : ViewerFacts D L) (turns : List Turn) (new : ViewerFacts D L) (all : TurnsTo (ViewerTurned door_facts facts) old turns new)
      → new.views.whole ≡ given_after_all old.views.whole (finished_over door_facts facts old turns new all)
  turns_count old [] new same = ap (λ (viewer : ViewerFacts D L). viewer.views.whole) same
  turns_count old (turn ∷ turns) new (mid, turned, rest) =
      let first = finished_in door_facts facts old turn mid turned in
      let more = finished_over door_facts facts mid turns new rest in
      turns_count mid turns new rest ∙ (ap (λ n. given_after_all n more) (turn_counts old turn mid turned) ∙ both old.views.whole first more)

  pub all_counted : (turns : List Turn) (viewer : ViewerFacts D L) (run : HasTurned door_facts facts turns viewer)
      → viewer.views.whole ≡ given_after_all 0 (finished_over door_facts facts run.opened turns viewer run.all)
  all_counted turns viewer run =
      turns_count run.opened turns viewer run.all
      ∙ ap (λ (v : ViewerFacts D L). given_after_all v.views.whole (finished_over door_facts facts run.opened turns viewer run.all)) run.opening
