-- Ports keep their passes at boxes that are the same, whatever passes were made of them.
use Rattle.mum_worker.proofs.CommonNames.{◌≡◌, ℕ, List, [], ◌∷◌, ◌++◌, filter, Option, Some, None, refl, sym, ap, subst, ◌∙◌, inl, inr, slice_get, All, option_map, All-cons, All-filter, All-get_or, All-head, All-nil, All-push, All-same, All-set, All-tail, All-weaker, get_or_from_slice_get, slice_get-map, slice_get_within, set, Cause, SessionId, ReplyEnd, Joined, Decided, Rejected, Along, EachAlong, LinkFacts, PassFacts, QueueFacts, QueueId, PortFacts, new_port, Answers, Lags, passes_after, IsPosted, IsVoiced, PassesFacts, AreSameBoxes, BoxesFacts, ArePassesFor, queues, stays, AnswersFirst, LagsWhereIts, TakesOrTurns, RecordFacts, OwnsPasses, Intake}

box_of : (found : Option QueueFacts) (queue : QueueId) → option_map (λ (box : QueueFacts). box.queue) found ≡ Some queue → (box : QueueFacts) × (found ≡ Some box) × (box.queue ≡ queue)
box_of None queue e = absurd (cc e)
box_of (Some box) queue e = (box, refl, cc e)

-- a box at a place was there, with the same queue
same_at : (olds news : List QueueFacts) (place : ℕ) (new : QueueFacts) → queues news ≡ queues olds → slice_get news place ≡ Some new
    → (old : QueueFacts) × (slice_get olds place ≡ Some old) × (old.queue ≡ new.queue)
same_at olds news place new same found =
    box_of (slice_get olds place) new.queue
    (sym (slice_get-map (λ (box : QueueFacts). box.queue) olds place)
    ∙ (ap (λ (all : List QueueId). slice_get all place) (sym same)
    ∙ (slice_get-map (λ (box : QueueFacts). box.queue) news place ∙ ap (option_map (λ (box : QueueFacts). box.queue)) found)))

posted_still : (olds news : List QueueFacts) (passes : Option PassesFacts) → queues news ≡ queues olds → IsPosted olds passes → IsPosted news passes
posted_still olds news None same posted = tt
posted_still olds news (Some passes) same posted = λ queue found. let old = same_at olds news passes.slot.0 queue same found in posted old.0 old.1 ∙ old.2

voiced_still : (olds news : List QueueFacts) (passes : Option PassesFacts) → queues news ≡ queues olds → IsVoiced olds passes → IsVoiced news passes
voiced_still olds news None same voiced = tt
voiced_still olds news (Some passes) same voiced = λ queue found. let old = same_at olds news passes.slot.0 queue same found in voiced old.0 old.1 ∙ old.2

-- the passes are of these boxes
abbrev pub HasPasses : BoxesFacts → Option PassesFacts → Type 0
HasPasses boxes passes = IsPosted boxes.posts passes × IsVoiced boxes.voices passes

pub passes_still : (old new : BoxesFacts) (passes : Option PassesFacts) → AreSameBoxes old new → HasPasses old passes → HasPasses new passes
passes_still old new passes same has = (posted_still old.posts new.posts passes same.posts has.0, voiced_still old.voices new.voices passes same.voices has.1)

-- so are those that a reply gives
given_passes : (boxes : BoxesFacts) (end : ReplyEnd) (passes : Option PassesFacts) → ArePassesFor boxes end passes → HasPasses boxes passes
given_passes boxes (Joined session slot) None is = (tt, tt)
given_passes boxes (Joined session slot) (Some passes) is = (
  (λ queue found.
      let there : Some queue ≡ Some is.post_box = sym found ∙ (ap (λ s. slice_get boxes.posts s.0) is.slot_is ∙ is.post_there) in
      let same : queue ≡ is.post_box = cc there in
      ap (λ (p : PassFacts _). p.queue) is.post ∙ ap (λ (b : QueueFacts). b.queue) (sym same)),
  (λ queue found.
      let there : Some queue ≡ Some is.voice_box = sym found ∙ (ap (λ s. slice_get boxes.voices s.0) is.slot_is ∙ is.voice_there) in
      let same : queue ≡ is.voice_box = cc there in
      ap (λ (p : PassFacts _). p.queue) is.voice ∙ ap (λ (b : QueueFacts). b.queue) (sym same)),
)
given_passes boxes Decided passes is = subst (HasPasses boxes) (sym is) (tt, tt)
given_passes boxes Rejected passes is = subst (HasPasses boxes) (sym is) (tt, tt)

after_passes : (boxes : BoxesFacts) (end : ReplyEnd) (given passes : Option PassesFacts) → ArePassesFor boxes end given → HasPasses boxes passes → HasPasses boxes (passes_after end given passes)
after_passes boxes (Joined session slot) given passes is has = given_passes boxes (Joined session slot) given is
after_passes boxes Decided given passes is has = has
after_passes boxes Rejected given passes is has = has

module _ {L : Type 0} where
  pub owned : (boxes : BoxesFacts) (port : PortFacts L) → HasPasses boxes port.passes → OwnsPasses boxes port
  owned boxes port has = record { posted = has.0; voiced = has.1 }

  pub all_still : (old new : BoxesFacts) (ports : List (PortFacts L)) → AreSameBoxes old new → All (OwnsPasses old) ports → All (OwnsPasses new) ports
  all_still old new ports same all =
      All-weaker (OwnsPasses old) (OwnsPasses new) (λ port is. owned new port (passes_still old new port.passes same (is.posted, is.voiced))) ports all

  pub owned_same : (boxes : BoxesFacts) (old new : PortFacts L) → new.passes ≡ old.passes → OwnsPasses boxes old → OwnsPasses boxes new
  owned_same boxes old new same is = owned boxes new (subst (HasPasses boxes) (sym same) (is.posted, is.voiced))

module _ {L : Type 0} (facts : L → LinkFacts) where
  -- a port that takes a reply has the passes that it gives, or those that it had
  pub answers_owned : (boxes : BoxesFacts) (end : ReplyEnd) (wire : List ℕ) (given : Option PassesFacts) (old : PortFacts L) (closed : Option Cause) (new : PortFacts L)
      → ArePassesFor boxes end given → OwnsPasses boxes old → Answers facts end wire given old closed new → OwnsPasses boxes new
  answers_owned boxes end wire given old closed new is has (inl stays) = owned_same boxes old new (ap (λ (p : PortFacts L). p.passes) stays.same) has
  answers_owned boxes end wire given old closed new is has (inr (inl takes)) =
      owned boxes new (subst (HasPasses boxes) (sym (ap (λ (p : PortFacts L). p.passes) takes.rest)) (after_passes boxes end given old.passes is (has.posted, has.voiced)))
  answers_owned boxes end wire given old closed new is has (inr (inr closes)) = owned_same boxes old new (ap (λ (p : PortFacts L). p.passes) closes.closes.rest) has

  pub lags_owned : (boxes : BoxesFacts) (old : PortFacts L) (closed : Option Cause) (new : PortFacts L)
      → OwnsPasses boxes old → Lags facts old closed new → OwnsPasses boxes new
  lags_owned boxes old closed new has (inl stays) = owned_same boxes old new (ap (λ (p : PortFacts L). p.passes) stays.same) has
  lags_owned boxes old closed new has (inr closes) = owned_same boxes old new (ap (λ (p : PortFacts L). p.passes) closes.2.rest) has

  pub answers_all : (boxes : BoxesFacts) (connection : ℕ) (end : ReplyEnd) (wire : List ℕ) (given : Option PassesFacts) (olds : List (PortFacts L)) (closed : Option Cause) (news : List (PortFacts L))
      → ArePassesFor boxes end given → All (OwnsPasses boxes) olds → AnswersFirst facts connection end wire given olds closed news → All (OwnsPasses boxes) news
  answers_all boxes connection end wire given olds closed news is all (inl none) = All-same (OwnsPasses boxes) news olds none.same all
  answers_all boxes connection end wire given olds closed news is all (inr first) =
      let read = get_or_from_slice_get olds first.place first.old first.old first.there in
      let within = slice_get_within olds first.place first.old first.there in
      let has = subst (OwnsPasses boxes) read (All-get_or (OwnsPasses boxes) olds first.place first.old within all) in
      All-same (OwnsPasses boxes) news (set olds first.place first.new) first.others
      (All-set (OwnsPasses boxes) olds first.place first.new (answers_owned boxes end wire given first.old closed first.new is has first.answers) all)

  pub takes_all : (boxes : BoxesFacts) (intake : Intake) (connection : ℕ) (link : L) (olds : List (PortFacts L)) (kept : RecordFacts) (intake_after : Intake) (news : List (PortFacts L)) (after : RecordFacts)
      → All (OwnsPasses boxes) olds → TakesOrTurns intake connection link olds kept intake_after news after → All (OwnsPasses boxes) news
  takes_all boxes intake connection link olds kept intake_after news after all (inl takes) =
      All-same (OwnsPasses boxes) news (olds ++ new_port connection intake.number link ∷ []) takes.ports_are
      (All-push (OwnsPasses boxes) olds (new_port connection intake.number link) all (record { posted = tt; voiced = tt }))
  takes_all boxes intake connection link olds kept intake_after news after all (inr turns) = All-same (OwnsPasses boxes) news olds turns.ports_same all

  where_owned : (boxes : BoxesFacts) (session : SessionId) (old : PortFacts L) (before : RecordFacts) (new : PortFacts L) (after : RecordFacts)
      → OwnsPasses boxes old → LagsWhereIts facts session old before new after → OwnsPasses boxes new
  where_owned boxes session old before new after has (inl passes) = owned_same boxes old new (ap (λ (p : PortFacts L). p.passes) passes.same) has
  where_owned boxes session old before new after has (inr lags) = lags_owned boxes old lags.closed new has lags.lags

  along_owned : (boxes : BoxesFacts) (session : SessionId) (olds : List (PortFacts L)) (before : RecordFacts) (news : List (PortFacts L)) (after : RecordFacts)
      → All (OwnsPasses boxes) olds → Along (LagsWhereIts facts session) olds before news after → All (OwnsPasses boxes) news
  along_owned boxes session [] before [] after all along = All-nil (OwnsPasses boxes)
  along_owned boxes session (old ∷ olds) before (new ∷ news) after all along =
      All-cons (OwnsPasses boxes) new news
      (where_owned boxes session old before new along.0 (All-head (OwnsPasses boxes) old olds all) along.1)
      (along_owned boxes session olds along.0 news after (All-tail (OwnsPasses boxes) old olds all) along.2)
  along_owned boxes session [] before (new ∷ news) after all along = absurd along
  along_owned boxes session (old ∷ olds) before [] after all along = absurd along

  pub lags_all : (boxes : BoxesFacts) (session : SessionId) (olds : List (PortFacts L)) (before : RecordFacts) (news : List (PortFacts L)) (after : RecordFacts)
      → All (OwnsPasses boxes) olds → EachAlong (LagsWhereIts facts session) stays olds before news after → All (OwnsPasses boxes) news
  lags_all boxes session olds before news after all each =
      All-same (OwnsPasses boxes) news (filter stays each.stepped) each.left
      (All-filter stays (OwnsPasses boxes) each.stepped (along_owned boxes session olds before each.stepped after all each.along))
