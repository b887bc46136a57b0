-- What the answer of a turn shows.
use Rattle.mum_worker_laws.proofs.Common.{◌≡◌, ◌∙◌, ℕ, zero, suc, Bool, true, false, true≢false, ◌||◌, is_some, if◌then◌else◌, List, [], ◌∷◌, ◌++◌, Option, Some, None, refl, ap, sym, subst, inl, inr, ◌⊎◌, ⊎_elim, list_any, Along, TurnsTo, Turn, Worked, Idle, LinkFacts, PortFacts, Rung, Answer, Comes, Lagging, NoMore, Opening, BellFacts, TakesRung, BoxesFacts, WorkerFacts, is_done, Hears, HasOpened, PortSteps, Shares, Turned, WorkerTurned, shares_of, FindsNothing, HasNothingToDo, HasWorked, StepWorked, is_no_more}
use Rattle.mum_crew.specs.declared.role.Turn.TheVariants.{Done}

neither : (a b : Bool) → a || b ≡ false → (a ≡ false) × (b ≡ false)
neither true b is = absurd (true≢false is)
neither false b is = (refl, is)

either : (a b : Bool) → a || b ≡ true → (a ≡ true) ⊎ (b ≡ true)
either true b is = inl refl
either false b is = inr is

-- ---- the answer

idle_says : (done worked : Bool) → Idle ≡ (if done then Done else (if worked then Worked else Idle)) → (done ≡ false) × (worked ≡ false)
idle_says true worked is = absurd (cc is)
idle_says false true is = absurd (cc is)
idle_says false false is = (refl, refl)

worked_says : (done worked : Bool) → Worked ≡ (if done then Done else (if worked then Worked else Idle)) → worked ≡ true
worked_says true worked is = absurd (cc is)
worked_says false true is = refl
worked_says false false is = absurd (cc is)

done_says : (done worked : Bool) → Done ≡ (if done then Done else (if worked then Worked else Idle)) → done ≡ true
done_says true worked is = refl
done_says false true is = absurd (cc is)
done_says false false is = absurd (cc is)

module _ {L : Type 0} (facts : L → LinkFacts) (opening : Opening) where
  pub done_when : (old new : WorkerFacts L) (answer : Turn) → Turned facts opening old new answer → answer ≡ Done → is_done new ≡ true
  done_when old new answer turned is = done_says (is_done new) turned.worked (sym is ∙ turned.answer_is)

  pub done_then : (old new : WorkerFacts L) (answer : Turn) → Turned facts opening old new answer → is_done new ≡ true → answer ≡ Done
  done_then old new answer turned is = turned.answer_is ∙ ap (λ (b : Bool). if b then Done else (if turned.worked then Worked else Idle)) is

  -- ---- the bell

  silent : (item : Option (Rung L)) (heard : Bool) → heard ≡ is_some item → heard ≡ false → item ≡ None
  silent None heard is none = refl
  silent (Some item) heard is none = absurd (true≢false (sym is ∙ none))

  heard_one : (item : Option (Rung L)) (heard : Bool) → heard ≡ is_some item → heard ≡ true → (one : Rung L) × (item ≡ Some one)
  heard_one None heard is some = absurd (true≢false (sym some ∙ is))
  heard_one (Some item) heard is some = (item, refl)

  hear_bell : (item : Option (Rung L)) (old new : WorkerFacts L) → Hears facts item old new → new.bell ≡ old.bell
  hear_bell None old new same = ap (λ (w : WorkerFacts L). w.bell) same
  hear_bell (Some (Answer reply)) old new hears = ap (λ (w : WorkerFacts L). w.bell) hears.rest
  hear_bell (Some (Comes connection link)) old new hears = ap (λ (w : WorkerFacts L). w.bell) hears.rest
  hear_bell (Some (Lagging session)) old new hears = ap (λ (w : WorkerFacts L). w.bell) hears.rest
  hear_bell (Some NoMore) old new same = ap (λ (w : WorkerFacts L). w.bell) same

  bell_after : (old new : WorkerFacts L) (answer : Turn) (turned : Turned facts opening old new answer) → new.bell ≡ turned.hears.bell
  bell_after old new answer turned =
      ap (λ (w : WorkerFacts L). w.bell) turned.steps.rest ∙ hear_bell turned.hears.item (record old { bell = turned.hears.bell }) turned.between turned.hears.hears

  -- where the bell gave nothing, the ports step as they were
  unheard : (old new : WorkerFacts L) (answer : Turn) (turned : Turned facts opening old new answer) → turned.heard ≡ false → (turned.hears.item ≡ None) × (turned.between ≡ record old { bell = turned.hears.bell })
  unheard old new answer turned none =
      let nothing = silent turned.hears.item turned.heard turned.hears.heard_is none in
      (nothing, subst (λ (r : Option (Rung L)). Hears facts r (record old { bell = turned.hears.bell }) turned.between) nothing turned.hears.hears)

  -- ---- the ports

  idle_along : (boxes : BoxesFacts) (olds : List (PortFacts L)) (before : Shares) (news : List (PortFacts L)) (after : Shares) → Along (PortSteps facts opening boxes) olds before news after
      → after.worked ≡ false → (before.worked ≡ false) × Along (FindsNothing facts boxes) olds before.desk news after.desk
  idle_along boxes [] before [] after same none = (ap (λ (s : Shares). s.worked) (sym same) ∙ none, ap (λ (s : Shares). s.desk) same)
  idle_along boxes [] before (new ∷ news) after along none = absurd along
  idle_along boxes (old ∷ olds) before [] after along none = absurd along
  idle_along boxes (old ∷ olds) before (new ∷ news) after (between, steps, along) none =
      let rest = idle_along boxes olds between news after along none in
      let both = neither before.worked steps.step.worked (sym steps.worked ∙ rest.0) in
      let turn = steps.turned in
      (both.0, (between.desk, (turn.0, turn.1.idle both.1), rest.1))

  one_on : (boxes : BoxesFacts) (old : PortFacts L) (olds : List (PortFacts L)) (new : PortFacts L) (news : List (PortFacts L)) → StepWorked facts opening boxes olds news
      → StepWorked facts opening boxes (old ∷ olds) (new ∷ news)
  one_on boxes old olds new news one = record {
    place = suc one.place;
    port = one.port;
    there = one.there;
    after = one.after;
    after_there = one.after_there;
    machine = one.machine;
    did = one.did;
    steps = one.steps;
    posts = one.posts;
    voices = one.voices;
    something = one.something;
  }

  one_here : (boxes : BoxesFacts) (old : PortFacts L) (olds : List (PortFacts L)) (before : Shares) (new : PortFacts L) (news : List (PortFacts L)) (after : Shares) (steps : PortSteps facts opening boxes old before new after)
      → steps.step.worked ≡ true → StepWorked facts opening boxes (old ∷ olds) (new ∷ news)
  one_here boxes old olds before new news after steps worked =
      let turn = steps.turned in record {
        place = zero;
        port = old;
        there = refl;
        after = new;
        after_there = refl;
        machine = old.machine;
        did = turn.0;
        steps = record {
          of_port = refl;
          posts = boxes.posts;
          voices = boxes.voices;
          desk = before.desk;
          desk_after = after.desk;
          router = before.common;
          router_after = steps.routed;
          step = steps.step;
          turn = turn.1;
        };
        posts = refl;
        voices = refl;
        something = turn.1.worked worked;
      }

  worked_along : (boxes : BoxesFacts) (olds : List (PortFacts L)) (before : Shares) (news : List (PortFacts L)) (after : Shares) → Along (PortSteps facts opening boxes) olds before news after
      → after.worked ≡ true → (before.worked ≡ true) ⊎ StepWorked facts opening boxes olds news
  worked_along boxes [] before [] after same worked = inl (ap (λ (s : Shares). s.worked) (sym same) ∙ worked)
  worked_along boxes [] before (new ∷ news) after along worked = absurd along
  worked_along boxes (old ∷ olds) before [] after along worked = absurd along
  worked_along boxes (old ∷ olds) before (new ∷ news) after (between, steps, along) worked =
      ⊎_elim
      (λ (was : between.worked ≡ true).
      ⊎_elim (λ (so : before.worked ≡ true). inl so) (λ (so : steps.step.worked ≡ true). inr (one_here boxes old olds before new news between steps so))
      (either before.worked steps.step.worked (sym steps.worked ∙ was)))
      (λ (one : StepWorked facts opening boxes olds news). inr (one_on boxes old olds new news one))
      (worked_along boxes olds between news after along worked)

  -- ---- the turn

  pub nothing_to_do : (old new : WorkerFacts L) → Turned facts opening old new Idle → HasNothingToDo facts old new
  nothing_to_do old new turned =
      let says = idle_says (is_done new) turned.worked turned.answer_is in
      let idle = idle_along turned.between.boxes turned.between.ports (shares_of turned.between turned.heard) turned.steps.steps.stepped (shares_of new turned.worked) turned.steps.steps.along says.1 in
      let quiet = unheard old new Idle turned idle.0 in record {
        bell = bell_after old new Idle turned ∙ subst (λ (r : Option (Rung L)). TakesRung old.bell r turned.hears.bell) quiet.0 turned.hears.takes;
        ports = record {
          stepped = turned.steps.steps.stepped;
          along = subst (λ (w : WorkerFacts L). Along (FindsNothing facts w.boxes) w.ports w.desk turned.steps.steps.stepped new.desk) quiet.1 idle.1;
          left = turned.steps.steps.left;
        };
        not_done = says.0;
      }

  pub has_worked : (old new : WorkerFacts L) → Turned facts opening old new Worked → HasWorked facts opening old new
  has_worked old new turned = by turned.heard refl
    where
      by : (heard : Bool) → turned.heard ≡ heard → HasWorked facts opening old new
      by true is =
          let one = heard_one turned.hears.item turned.heard turned.hears.heard_is is in
          inl (record {
            item = one.0;
            taken = bell_after old new Worked turned ∙ subst (λ (r : Option (Rung L)). TakesRung old.bell r turned.hears.bell) one.1 turned.hears.takes;
          })
      by false is =
          let quiet = unheard old new Worked turned is in
          let stepped = turned.steps.steps.stepped in
          let says = worked_says (is_done new) turned.worked turned.answer_is in
          let along = subst (λ (w : WorkerFacts L). Along (PortSteps facts opening w.boxes) w.ports (shares_of w turned.heard) stepped (shares_of new turned.worked)) quiet.1 turned.steps.steps.along in
          let unheard_along = subst (λ (b : Bool). Along (PortSteps facts opening old.boxes) old.ports (shares_of old b) stepped (shares_of new turned.worked)) is along in
          ⊎_elim (λ (so : false ≡ true). absurd (true≢false (sym so)))
          (λ (one : StepWorked facts opening old.boxes old.ports stepped). inr (record {
            bell = bell_after old new Worked turned ∙ subst (λ (r : Option (Rung L)). TakesRung old.bell r turned.hears.bell) quiet.0 turned.hears.takes;
            ports = record {
              stepped = stepped;
              along = subst (λ (b : Bool). Along (PortSteps facts opening old.boxes) old.ports (shares_of old false) stepped (shares_of new b)) says unheard_along;
              left = turned.steps.steps.left;
            };
            one = one;
          }))
          (worked_along old.boxes old.ports (shares_of old false) stepped (shares_of new turned.worked) unheard_along says)

  -- ---- the last word of the bell

  -- whether what the bell gave says that no connection comes any more
  abbrev ends_with : Option (Rung L) → Bool
  ends_with None = false
  ends_with (Some item) = is_no_more item

  or_none : (b : Bool) → b ≡ b || false
  or_none true = refl
  or_none false = refl

  or_some : (b : Bool) → true ≡ b || true
  or_some true = refl
  or_some false = refl

  any_last : (items : List (Rung L)) (item : Rung L) → list_any is_no_more (items ++ item ∷ []) ≡ list_any is_no_more items || is_no_more item
  any_last [] item = sym (or_none (is_no_more item))
  any_last (first ∷ items) item = by (is_no_more first) (any_last items item)
    where
      by : (b : Bool) → list_any is_no_more (items ++ item ∷ []) ≡ list_any is_no_more items || is_no_more item → b || list_any is_no_more (items ++ item ∷ []) ≡ (b || list_any is_no_more items) || is_no_more item
      by true rest = refl
      by false rest = rest

  hear_ended : (item : Option (Rung L)) (old new : WorkerFacts L) → Hears facts item old new → new.ended ≡ old.ended || ends_with item
  hear_ended None old new same = ap (λ (w : WorkerFacts L). w.ended) same ∙ or_none old.ended
  hear_ended (Some (Answer reply)) old new hears = ap (λ (w : WorkerFacts L). w.ended) hears.rest ∙ or_none old.ended
  hear_ended (Some (Comes connection link)) old new hears = ap (λ (w : WorkerFacts L). w.ended) hears.rest ∙ or_none old.ended
  hear_ended (Some (Lagging session)) old new hears = ap (λ (w : WorkerFacts L). w.ended) hears.rest ∙ or_none old.ended
  hear_ended (Some NoMore) old new same = ap (λ (w : WorkerFacts L). w.ended) same ∙ or_some old.ended

  item_ended : (item : Option (Rung L)) (old new : BellFacts L) → TakesRung old item new → list_any is_no_more new.taken ≡ list_any is_no_more old.taken || ends_with item
  item_ended None old new takes = ap (λ (b : BellFacts L). list_any is_no_more b.taken) takes ∙ or_none (list_any is_no_more old.taken)
  item_ended (Some item) old new takes = ap (λ (b : BellFacts L). list_any is_no_more b.taken) takes ∙ any_last old.taken item

  turn_ended : (old new : WorkerFacts L) (turn : Turn) → Turned facts opening old new turn → old.ended ≡ list_any is_no_more old.bell.taken → new.ended ≡ list_any is_no_more new.bell.taken
  turn_ended old new turn turned was =
      ap (λ (w : WorkerFacts L). w.ended) turned.steps.rest
      ∙ (hear_ended turned.hears.item (record old { bell = turned.hears.bell }) turned.between turned.hears.hears
      ∙ (ap (λ (b : Bool). b || ends_with turned.hears.item) was
      ∙ (sym (item_ended turned.hears.item old.bell turned.hears.bell turned.hears.takes)
      ∙ ap (λ (b : BellFacts L). list_any is_no_more b.taken) (sym (bell_after old new turn turned)))))

  turns_ended : (old : WorkerFacts L) (turns : List Turn) (new : WorkerFacts L) → TurnsTo (WorkerTurned facts opening) old turns new → old.ended ≡ list_any is_no_more old.bell.taken → new.ended ≡ list_any is_no_more new.bell.taken
  turns_ended old [] new same was = subst (λ (w : WorkerFacts L). w.ended ≡ list_any is_no_more w.bell.taken) (sym same) was
  turns_ended old (turn ∷ turns) new (mid, turned, rest) was = turns_ended mid turns new rest (turn_ended old mid turn turned was)

  pub has_ended : (number : ℕ) (pass : _) (journal : Option ℕ) (opened : WorkerFacts L) (turns : List Turn) (worker : WorkerFacts L) → HasOpened number pass journal opened
      → TurnsTo (WorkerTurned facts opening) opened turns worker → worker.ended ≡ list_any is_no_more worker.bell.taken
  has_ended number pass journal opened turns worker begun all =
      turns_ended opened turns worker all (begun.not_ended ∙ ap (λ (l : List (Rung L)). list_any is_no_more l) (sym begun.nothing_taken))
