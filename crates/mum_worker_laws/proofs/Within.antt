-- The lists of edits that looks saw, beside what the pass of their worker saw last.
use Rattle.mum_worker_laws.proofs.Common.{◌≡◌, ◌⊎◌, List, [], ◌∷◌, refl, inl, inr, arith, All, AllPairs, All-append, All-cons, All-head, All-nil, IsPrefix, TurnsTo, Turn, LinkFacts, prefix_trans, edits_told, Opening, PassFacts, Edit, WorkerFacts, WorkerTurned, AreOfOneList, Follows, HoldsFor, IsTold, Look, Moment, SeesFrom, Told, Looked, Took, edits_of, edits_with, history, looks_in, take_in, takes_in}
use Rattle.mum_worker_laws.proofs.Going.{IsRightly, IsSeen, all_on, all_tail, go_turns, sees_more}

-- ---- two beginnings of one list

joined : {A : Type 0} (x y : A) (xs ys : List A) → x ≡ y → IsPrefix xs ys ⊎ IsPrefix ys xs → IsPrefix (x ∷ xs) (y ∷ ys) ⊎ IsPrefix (y ∷ ys) (x ∷ xs)
joined x y xs ys same (inl front) = inl (front.0, cc (same, front.1))
joined x y xs ys same (inr front) = inr (front.0, cc (same, front.1))

either_begins : {A : Type 0} (xs ys zs : List A) → IsPrefix xs zs → IsPrefix ys zs → IsPrefix xs ys ⊎ IsPrefix ys xs
either_begins [] ys zs one other = inl (ys, refl)
either_begins (x ∷ xs) [] zs one other = inr (x ∷ xs, refl)
either_begins (x ∷ xs) (y ∷ ys) [] one other = absurd (cc (one.1))
either_begins (x ∷ xs) (y ∷ ys) (z ∷ zs) one other =
    joined x y xs ys (cc (one.1, other.1)) (either_begins xs ys zs (one.0, cc (one.1)) (other.0, cc (other.1)))

-- ---- the looks of turns

-- the look saw a beginning of these edits
abbrev pub SawOf : List Edit → Look → Type 0
SawOf edits look = IsPrefix look.edits edits

looks_seen : (pass : PassFacts) (moments : List Moment) → All (IsSeen pass) moments → All (SawOf pass.seen) (looks_in moments)
looks_seen pass [] seen = All-nil (SawOf pass.seen)
looks_seen pass (Told reply ∷ moments) seen = looks_seen pass moments (all_tail (IsSeen pass) (Told reply) moments seen)
looks_seen pass (Took takes learnt ∷ moments) seen = looks_seen pass moments (all_tail (IsSeen pass) (Took takes learnt) moments seen)
looks_seen pass (Looked look ∷ moments) seen =
    All-cons (SawOf pass.seen) look (looks_in moments) (All-head (IsSeen pass) (Looked look) moments seen).0
    (looks_seen pass moments (all_tail (IsSeen pass) (Looked look) moments seen))

-- what was taken is reported of a list that all of it begins
takes_known : (opening : Opening) (known : List Edit) (moments : List Moment) → All (IsRightly opening) moments → All (λ moment. IsPrefix (edits_of moment) known) moments
    → All (IsTold opening known) (takes_in moments)
takes_known opening known [] rightly within = All-nil (IsTold opening known)
takes_known opening known (moment ∷ moments) rightly within =
    All-append (IsTold opening known) (take_in moment) (takes_in moments)
    (of_one moment (All-head (IsRightly opening) moment moments rightly) (All-head (λ moment. IsPrefix (edits_of moment) known) moment moments within))
    (takes_known opening known moments (all_tail (IsRightly opening) moment moments rightly) (all_tail (λ moment. IsPrefix (edits_of moment) known) moment moments within))
  where
    of_one : (moment : Moment) → IsRightly opening moment → IsPrefix (edits_of moment) known → All (IsTold opening known) (take_in moment)
    of_one (Told reply) is front = All-nil (IsTold opening known)
    of_one (Looked look) is front = All-nil (IsTold opening known)
    of_one (Took takes learnt) is front =
        all_on (IsTold opening (edits_told learnt)) (IsTold opening known)
        (λ take told. record { rules = told.rules; begins = prefix_trans (edits_with take.parcel) (edits_told learnt) known told.begins front }) takes is

-- what was taken before a moment holds for it
holds_for : (opening : Opening) (before after : Moment) → IsRightly opening before → Follows before after → HoldsFor before after
holds_for opening (Told reply) after is follows = λ i d within. absurd (omega (arith, within))
holds_for opening (Looked look) after is follows = λ i d within. absurd (omega (arith, within))
holds_for opening (Took takes learnt) after is follows =
    all_on (IsTold opening (edits_told learnt)) (λ take. SeesFrom (edits_with take.parcel) after)
    (λ take told. sees_more (edits_with take.parcel) (edits_told learnt) told.begins after follows) takes is

pub looks_begin : (published seen : List Edit) → IsPrefix seen published → (looks : List Look) → All (SawOf seen) looks → All (SawOf published) looks
looks_begin published seen front looks all =
    all_on (SawOf seen) (SawOf published) (λ look saw. prefix_trans look.edits seen published saw front) looks all

pub looks_pair : (published : List Edit) (looks others : List Look) → All (SawOf published) looks → All (SawOf published) others
    → All (λ look. All (λ next. AreOfOneList look.edits next.edits) others) looks
looks_pair published looks others all rest =
    all_on (SawOf published) (λ look. All (λ next. AreOfOneList look.edits next.edits) others)
    (λ look saw. all_on (SawOf published) (λ next. AreOfOneList look.edits next.edits)
    (λ next sees. either_begins look.edits next.edits published saw sees) others rest)
    looks all

module _ {L : Type 0} (facts : L → LinkFacts) (opening : Opening) where
  pub looks_within : (old : WorkerFacts L) (turns : List Turn) (new : WorkerFacts L) (all : TurnsTo (WorkerTurned facts opening) old turns new)
      → All (SawOf new.common.router.pass.seen) (looks_in (history facts opening old turns new all))
  looks_within old turns new all =
      looks_seen new.common.router.pass (history facts opening old turns new all)
      (go_turns opening facts old turns new all).looked

  -- what ports took is by the rules, and the worker knows the edits that came with it
  pub takes_within : (old : WorkerFacts L) (turns : List Turn) (new : WorkerFacts L) (all : TurnsTo (WorkerTurned facts opening) old turns new)
      → All (IsTold opening new.common.router.pass.known) (takes_in (history facts opening old turns new all))
  takes_within old turns new all =
      let goes = go_turns opening facts old turns new all in
      takes_known opening new.common.router.pass.known (history facts opening old turns new all) goes.rightly goes.within

  -- what ports took holds for what comes after
  pub takes_hold : (old : WorkerFacts L) (turns : List Turn) (new : WorkerFacts L) (all : TurnsTo (WorkerTurned facts opening) old turns new)
      → AllPairs HoldsFor (history facts opening old turns new all)
  takes_hold old turns new all =
      let goes = go_turns opening facts old turns new all in
      λ i j d below within. holds_for opening _ _ (goes.rightly i d (omega (arith, below, within))) (goes.pairs i j d below within)
