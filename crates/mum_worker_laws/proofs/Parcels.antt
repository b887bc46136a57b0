-- What the ports of a worker took from their boxes lies in the order of the offers.
use Rattle.mum_worker_laws.proofs.Common.{◌≡◌, ℕ, List, [], ◌∷◌, ◌++◌, filter, Option, Some, None, ap, sym, subst, inl, inr, arith, All, AllPairs, All-cons, All-filter, All-get_or, All-head, All-nil, All-push, All-same, All-set, All-tail, get_or_from_slice_get, slice_get_within, set, Cause, SessionId, ReplyEnd, Joined, Decided, Rejected, Along, TurnsTo, Turn, LinkFacts, IsNewPass, QueueFacts, IsBefore, Tagged, PortDid, PortFacts, new_port, Answers, Lags, passes_after, PassesTake, TakesAtMostOne, PassesFacts, Rung, Answer, Comes, Lagging, NoMore, Opening, ArePassesFor, BoxesFacts, WorkerFacts, intake_of, stays, AnswersFirst, Hears, LagsWhereIts, TakesOrTurns, HasOpened, RecordFacts, PortSteps, Shares, Turned, WorkerTurned, shares_of, Intake, AreInOrder, AreTakenInOrder, TookInOrder}
use Rattle.mum_outbox.specs.Facts.{PassFacts}

-- ---- one pass

nothing_taken : {I : Type 0} (taken : List (Tagged I)) → taken ≡ [] → AllPairs IsBefore taken
nothing_taken taken none = subst (AllPairs IsBefore) (sym none) (λ i j d before within. absurd (omega (arith, within)))

new_in_order : {I : Type 0} (owner : QueueFacts) (pass : PassFacts I) → IsNewPass owner pass → TookInOrder pass
new_in_order owner pass new = nothing_taken pass.taken (ap (λ (p : PassFacts _). p.taken) new)

took_in_order : {I : Type 0} (capacity : ℕ) (pass : PassFacts I) (parcel : Option I) (after : PassFacts I) → TakesAtMostOne capacity pass parcel after → TookInOrder pass → TookInOrder after
took_in_order capacity pass parcel after (inl unused) was = subst TookInOrder (sym unused.1) was
took_in_order capacity pass (Some parcel) after (inr takes) was = takes.3
took_in_order capacity pass None after (inr takes) was = subst (AllPairs IsBefore) (sym (ap (λ (p : PassFacts _). p.taken) takes.0)) was

-- ---- the passes of a port

passes_in_order : (passes : Option PassesFacts) (did : PortDid) (after : Option PassesFacts) → PassesTake passes did after → AreInOrder passes → AreInOrder after
passes_in_order None did None takes was = tt
passes_in_order None did (Some after) takes was = absurd takes
passes_in_order (Some passes) did None takes was = tt
passes_in_order (Some passes) did (Some after) takes was = (
  took_in_order _ passes.post did.post after.post takes.post was.0,
  took_in_order _ passes.voice did.voice after.voice takes.voice was.1,
)

given_in_order : (boxes : BoxesFacts) (end : ReplyEnd) (given : Option PassesFacts) → ArePassesFor boxes end given → AreInOrder given
given_in_order boxes (Joined session slot) None is = tt
given_in_order boxes (Joined session slot) (Some passes) is = (new_in_order is.post_box passes.post is.post, new_in_order is.voice_box passes.voice is.voice)
given_in_order boxes Decided given is = subst AreInOrder (sym is) tt
given_in_order boxes Rejected given is = subst AreInOrder (sym is) tt

after_in_order : (boxes : BoxesFacts) (end : ReplyEnd) (given passes : Option PassesFacts) → ArePassesFor boxes end given → AreInOrder passes → AreInOrder (passes_after end given passes)
after_in_order boxes (Joined session slot) given passes is was = given_in_order boxes (Joined session slot) given is
after_in_order boxes Decided given passes is was = was
after_in_order boxes Rejected given passes is was = was

module _ {L : Type 0} where
  in_order_same : (old new : PortFacts L) → new.passes ≡ old.passes → AreTakenInOrder old → AreTakenInOrder new
  in_order_same old new same was = subst AreInOrder (sym same) was

module _ {L : Type 0} (facts : L → LinkFacts) where
  -- ---- the bell

  answers_in_order : (boxes : BoxesFacts) (end : ReplyEnd) (wire : List ℕ) (given : Option PassesFacts) (old : PortFacts L) (closed : Option Cause) (new : PortFacts L)
      → ArePassesFor boxes end given → AreTakenInOrder old → Answers facts end wire given old closed new → AreTakenInOrder new
  answers_in_order boxes end wire given old closed new is was (inl stays_so) = in_order_same old new (ap (λ (p : PortFacts L). p.passes) stays_so.same) was
  answers_in_order boxes end wire given old closed new is was (inr (inl takes)) =
      subst AreInOrder (sym (ap (λ (p : PortFacts L). p.passes) takes.rest)) (after_in_order boxes end given old.passes is was)
  answers_in_order boxes end wire given old closed new is was (inr (inr closes)) = in_order_same old new (ap (λ (p : PortFacts L). p.passes) closes.closes.rest) was

  reply_in_order : (boxes : BoxesFacts) (connection : ℕ) (end : ReplyEnd) (wire : List ℕ) (given : Option PassesFacts) (olds : List (PortFacts L)) (closed : Option Cause) (news : List (PortFacts L))
      → ArePassesFor boxes end given → All AreTakenInOrder olds → AnswersFirst facts connection end wire given olds closed news → All AreTakenInOrder news
  reply_in_order boxes connection end wire given olds closed news is all (inl none) = All-same AreTakenInOrder news olds none.same all
  reply_in_order boxes connection end wire given olds closed news is all (inr first) =
      let read = get_or_from_slice_get olds first.place first.old first.old first.there in
      let within = slice_get_within olds first.place first.old first.there in
      let was = subst AreTakenInOrder read (All-get_or AreTakenInOrder olds first.place first.old within all) in
      All-same AreTakenInOrder news (set olds first.place first.new) first.others
      (All-set AreTakenInOrder olds first.place first.new (answers_in_order boxes end wire given first.old closed first.new is was first.answers) all)

  comes_in_order : (intake : Intake) (connection : ℕ) (link : L) (olds : List (PortFacts L)) (kept : RecordFacts) (intake_after : Intake) (news : List (PortFacts L)) (after : RecordFacts)
      → All AreTakenInOrder olds → TakesOrTurns intake connection link olds kept intake_after news after → All AreTakenInOrder news
  comes_in_order intake connection link olds kept intake_after news after all (inl takes) =
      All-same AreTakenInOrder news (olds ++ new_port connection intake.number link ∷ []) takes.ports_are
      (All-push AreTakenInOrder olds (new_port connection intake.number link) all tt)
  comes_in_order intake connection link olds kept intake_after news after all (inr turns) = All-same AreTakenInOrder news olds turns.ports_same all

  lag_in_order : (session : SessionId) (old : PortFacts L) (before : RecordFacts) (new : PortFacts L) (after : RecordFacts) → LagsWhereIts facts session old before new after → AreTakenInOrder old → AreTakenInOrder new
  lag_in_order session old before new after (inl passes) was = in_order_same old new (ap (λ (p : PortFacts L). p.passes) passes.same) was
  lag_in_order session old before new after (inr lags) was = of_lag lags.closed lags.lags
    where
      of_lag : (closed : Option Cause) → Lags facts old closed new → AreTakenInOrder new
      of_lag closed (inl stays_so) = in_order_same old new (ap (λ (p : PortFacts L). p.passes) stays_so.same) was
      of_lag closed (inr closes) = in_order_same old new (ap (λ (p : PortFacts L). p.passes) closes.2.rest) was

  -- what holds of the first holds of the last, one after the other
  all_along : {C : Type 0} (step : PortFacts L → C → PortFacts L → C → Type 0) → ((old : PortFacts L) (before : C) (new : PortFacts L) (after : C) → step old before new after → AreTakenInOrder old → AreTakenInOrder new)
      → (olds : List (PortFacts L)) (before : C) (news : List (PortFacts L)) (after : C) → Along step olds before news after → All AreTakenInOrder olds → All AreTakenInOrder news
  all_along step so [] before [] after same all = All-nil AreTakenInOrder
  all_along step so [] before (new ∷ news) after none all = absurd none
  all_along step so (old ∷ olds) before [] after none all = absurd none
  all_along step so (old ∷ olds) before (new ∷ news) after along all =
      All-cons AreTakenInOrder new news
      (so old before new along.0 along.1 (All-head AreTakenInOrder old olds all))
      (all_along step so olds along.0 news after along.2 (All-tail AreTakenInOrder old olds all))

  left_in_order : (stepped news : List (PortFacts L)) → news ≡ filter stays stepped → All AreTakenInOrder stepped → All AreTakenInOrder news
  left_in_order stepped news left all = All-same AreTakenInOrder news (filter stays stepped) left (All-filter stays AreTakenInOrder stepped all)

  bell_in_order : (item : Option (Rung L)) (old new : WorkerFacts L) → Hears facts item old new → All AreTakenInOrder old.ports → All AreTakenInOrder new.ports
  bell_in_order None old new same all = All-same AreTakenInOrder new.ports old.ports (ap (λ (w : WorkerFacts L). w.ports) same) all
  bell_in_order (Some (Answer reply)) old new hears all =
      reply_in_order old.boxes reply.connection reply.end reply.wire hears.takes.passes old.ports hears.takes.closed new.ports hears.takes.given all hears.takes.answers
  bell_in_order (Some (Comes connection link)) old new hears all =
      comes_in_order (intake_of old) connection link old.ports old.common.kept (intake_of new) new.ports new.common.kept all hears.takes
  bell_in_order (Some (Lagging session)) old new hears all =
      left_in_order hears.each.stepped new.ports hears.each.left
      (all_along (LagsWhereIts facts session) (lag_in_order session) old.ports old.common.kept hears.each.stepped new.common.kept hears.each.along all)
  bell_in_order (Some NoMore) old new same all = All-same AreTakenInOrder new.ports old.ports (ap (λ (w : WorkerFacts L). w.ports) same) all

module _ {L : Type 0} (facts : L → LinkFacts) (opening : Opening) where
  -- ---- the steps, and the turns

  step_in_order : (boxes : BoxesFacts) (old : PortFacts L) (before : Shares) (new : PortFacts L) (after : Shares) → PortSteps facts opening boxes old before new after → AreTakenInOrder old → AreTakenInOrder new
  step_in_order boxes old before new after steps was = passes_in_order old.passes steps.turned.0 new.passes steps.turned.1.takes.passes was

  turn_in_order : (old new : WorkerFacts L) (answer : Turn) → Turned facts opening old new answer → All AreTakenInOrder old.ports → All AreTakenInOrder new.ports
  turn_in_order old new answer turned all =
      left_in_order facts turned.steps.steps.stepped new.ports turned.steps.steps.left
      (all_along facts (PortSteps facts opening turned.between.boxes) (step_in_order turned.between.boxes) turned.between.ports (shares_of turned.between turned.heard)
      turned.steps.steps.stepped (shares_of new turned.worked) turned.steps.steps.along
      (bell_in_order facts turned.hears.item (record old { bell = turned.hears.bell }) turned.between turned.hears.hears all))

  turns_in_order : (old : WorkerFacts L) (turns : List Turn) (new : WorkerFacts L) → TurnsTo (WorkerTurned facts opening) old turns new → All AreTakenInOrder old.ports → All AreTakenInOrder new.ports
  turns_in_order old [] new same all = All-same AreTakenInOrder new.ports old.ports (ap (λ (w : WorkerFacts L). w.ports) same) all
  turns_in_order old (turn ∷ turns) new (mid, turned, rest) all = turns_in_order mid turns new rest (turn_in_order old mid turn turned all)

  pub opened_in_order : (number : ℕ) (pass : _) (journal : Option ℕ) (opened : WorkerFacts L) (turns : List Turn) (worker : WorkerFacts L) → HasOpened number pass journal opened
      → TurnsTo (WorkerTurned facts opening) opened turns worker → All AreTakenInOrder worker.ports
  opened_in_order number pass journal opened turns worker begun all =
      turns_in_order opened turns worker all (All-same AreTakenInOrder opened.ports [] begun.no_port (All-nil AreTakenInOrder))
