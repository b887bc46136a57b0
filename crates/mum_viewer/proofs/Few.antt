-- How many views are open.
use Rattle.mum_viewer.proofs.Common.{◌≡◌, ℕ, ◌<◌, ◌≤◌, nat_le, Bool, true, false, List, [], ◌∷◌, length, Result, Ok, Err, refl, sym, ap, subst, arith, AllocError, leb-false, or_parts, length-append, along_long, fewer, TurnsTo, Turn, Accept, Conn, NotYet, End, Failed, LinkFacts, DoorFacts, HasTurned, ViewFacts, ViewMoves, is_open, new_view, Asks, ViewerFacts, ViewerTurned, is_not_to_ask, is_over, Answers, StepsViews, Takes, ViewsFacts, VIEWS_OPEN}

module _ {L : Type 0} (facts : L → LinkFacts) where
  steps_few : (old new : ViewsFacts L) (worked : Bool) → StepsViews facts old worked new → length old.list ≤ VIEWS_OPEN → length new.list ≤ VIEWS_OPEN
  steps_few old new worked steps few =
      let less = fewer is_open steps.steps.stepped in
      let is = ap (λ (l : List (ViewFacts L)). length l) steps.steps.left in
      let long = along_long (ViewMoves facts) old.list steps.steps.stepped (record { whole = old.whole; worked = false })
      (record { whole = new.whole; worked = worked }) steps.steps.along in
      omega (arith, less, is, long, few)

  takes_few : (old new : ViewsFacts L) (link : L) (text : Result (List ℕ) AllocError) → Takes facts old link text new
      → length old.list < VIEWS_OPEN → length new.list ≤ VIEWS_OPEN
  takes_few old new link (Ok text) takes few =
      let is = ap (λ (views : ViewsFacts L). length views.list) takes in
      let more = length-append old.list (new_view link text ∷ []) in
      omega (arith, is, more, few)
  takes_few old new link (Err error) takes few =
      let is = ap (λ (views : ViewsFacts L). length views.list) takes.0 in
      omega (arith, is, few)

  same_few : (old new : ViewsFacts L) → new ≡ old → length old.list < VIEWS_OPEN → length new.list ≤ VIEWS_OPEN
  same_few old new same few =
      let is = ap (λ (views : ViewsFacts L). length views.list) same in
      omega (arith, is, few)

  answers_few : (old new : ViewsFacts L) (answer : Accept L) (worked : Bool) → Answers facts old answer worked new
      → length old.list < VIEWS_OPEN → length new.list ≤ VIEWS_OPEN
  answers_few old new (Conn link) worked answers few = takes_few old new link answers.1.text answers.1.takes few
  answers_few old new NotYet worked answers few = same_few old new answers.1 few
  answers_few old new End worked answers few = same_few old new answers.1 few
  answers_few old new Failed worked answers few = same_few old new answers.1 few

module _ {D L : Type 0} (door_facts : D → DoorFacts) (facts : L → LinkFacts) where
  asks_few : (stops : Bool) (old new : ViewerFacts D L) (worked : Bool) → is_not_to_ask old ≡ stops → Asks door_facts facts old worked new
      → length old.views.list ≤ VIEWS_OPEN → length new.views.list ≤ VIEWS_OPEN
  asks_few true old new worked is asks few =
      subst (λ (viewer : ViewerFacts D L). length viewer.views.list ≤ VIEWS_OPEN) (sym (asks.rests is).1) few
  asks_few false old new worked is asks few =
      let once = asks.asks is in
      let parts = or_parts (is_over old) (nat_le VIEWS_OPEN (length old.views.list)) is in
      answers_few facts old.views new.views once.answer worked once.answers
      (leb-false VIEWS_OPEN (length old.views.list) parts.1)

  turns_few : (old : ViewerFacts D L) (turns : List Turn) (new : ViewerFacts D L) → TurnsTo (ViewerTurned door_facts facts) old turns new
      → length old.views.list ≤ VIEWS_OPEN → length new.views.list ≤ VIEWS_OPEN
  turns_few old [] new same few = subst (λ (viewer : ViewerFacts D L). length viewer.views.list ≤ VIEWS_OPEN) (sym same) few
  turns_few old (turn ∷ turns) new (mid, turned, rest) few =
      let between : ViewerFacts D L = record old { views = turned.between } in
      let now = steps_few facts old.views turned.between turned.stepped turned.steps few in
      turns_few mid turns new rest (asks_few (is_not_to_ask between) between mid turned.answered refl turned.asks now)

  pub all_few : (turns : List Turn) (viewer : ViewerFacts D L) → HasTurned door_facts facts turns viewer → length viewer.views.list ≤ VIEWS_OPEN
  all_few turns viewer run =
      let none = ap (λ (v : ViewerFacts D L). length v.views.list) run.opening in
      turns_few run.opened turns viewer run.all (omega (arith, none))
