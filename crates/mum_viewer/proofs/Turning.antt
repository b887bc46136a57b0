-- What holds of the open views of a viewer, turn by turn.
use Rattle.mum_viewer.proofs.Common.{◌≡◌, ◌≢◌, ◌⊎◌, inl, inr, ℕ, Bool, true, false, not, List, [], ◌∷◌, ◌++◌, filter, if◌then◌else◌, Result, Ok, Err, refl, sym, ap, subst, ◌∙◌, IsPrefix, AllByRecursion, AllocError, Appends-nil, Contains-append_left, Contains-push, TurnsTo, Turn, append-nil, Rose, DoorFacts, Appends, LinkFacts, Conn, NotYet, End, Failed, Accept, prefix_self, prefix_trans, ask_at, looked, state_of, PassFacts, Along, IsOpenView, Looks, view_ask, view_text, EndWell, HasTurned, IsShown, IsWhole, OpenSteps, ViewFacts, ViewMoves, is_open, new_view, Asks, ViewerFacts, ViewerTurned, is_not_to_ask, Answers, StepsViews, Takes, ViewsFacts, Counted, Waits, Wrote, Finished, Broke, Went}
use Rattle.mum_viewer.proofs.Shown.{open_on, text_not_empty}

-- ---- lists

pub all_and : {X : Type 0} (P : X → Type 0) (xs : List X) (x : X) → AllByRecursion P xs → P x → AllByRecursion P (xs ++ x ∷ [])
all_and P [] x all one = (one, tt)
all_and P (y ∷ xs) x all one = (all.0, all_and P xs x all.1 one)

pub all_so : {X : Type 0} (P Q : X → Type 0) (xs : List X) → ((x : X) → P x → Q x) → AllByRecursion P xs → AllByRecursion Q xs
all_so P Q [] so all = tt
all_so P Q (x ∷ xs) so all = (so x all.0, all_so P Q xs so all.1)

-- one that is left is open
left_if : {L : Type 0} (P : ViewFacts L → Type 0) (over : Bool) (view : ViewFacts L) (kept : List (ViewFacts L)) → view.over ≡ over
    → (view.over ≡ false → P view) → AllByRecursion P kept → AllByRecursion P (if not over then view ∷ kept else kept)
left_if P true view kept is one others = others
left_if P false view kept is one others = (one is, others)

module _ {L : Type 0} (facts : L → LinkFacts) where
  -- ---- a step

  left_on : (went : Went) (old new : ViewFacts L) → old.left ≢ [] → OpenSteps facts old went new → new.over ≡ false → new.left ≢ []
  left_on Waits old new more step over = λ none. more (sym step.0.left ∙ none)
  left_on Wrote old new more step over = step.3
  left_on Finished old new more step over = absurd (cc (over, step.3.over))
  left_on Broke old new more step over = absurd (cc (over, step.1.over))

  shown_on : (pass : PassFacts) (went : Went) (old new : ViewFacts L) → IsShown facts pass old → OpenSteps facts old went new → new.over ≡ false → IsShown facts pass new
  shown_on pass went old new shown step over = record {
    gave = shown.gave;
    edits = shown.edits;
    asked = shown.asked;
    begins = shown.begins;
    sent = open_on facts shown.gave (view_text (state_of pass.opening shown.edits)) went old new shown.sent step;
    is_open = over;
    more = left_on went old new shown.more step over;
  }

  shown_along : (pass : PassFacts) (olds news : List (ViewFacts L)) (before after : Counted) → Along (ViewMoves facts) olds before news after
      → AllByRecursion (IsShown facts pass) olds → AllByRecursion (IsShown facts pass) (filter is_open news)
  shown_along pass [] [] before after same all = tt
  shown_along pass [] (new ∷ news) before after along all = absurd along
  shown_along pass (old ∷ olds) [] before after along all = absurd along
  shown_along pass (old ∷ olds) (new ∷ news) before after (between, move, rest) (one, others) =
      left_if (IsShown facts pass) new.over new (filter is_open news) refl
      (λ over. shown_on pass move.went old new one (move.steps.moves one.is_open) over)
      (shown_along pass olds news between after rest others)

  -- what is over was written whole, or its link failed

  ends_by : (pass : PassFacts) (went : Went) (old new : ViewFacts L) → IsShown facts pass old → OpenSteps facts old went new → new.over ≡ true
      → IsWhole facts pass new ⊎ Rose (facts old.link).counts.faults (facts new.link).counts.faults
  ends_by pass Waits old new shown step over = absurd (cc (over, step.1.over))
  ends_by pass Wrote old new shown step over = absurd (cc (over, step.4.over))
  ends_by pass Finished old new shown step over =
      let text = view_text (state_of pass.opening shown.edits) in
      let has = open_on facts shown.gave text Finished old new shown.sent step in
      let all_sent : text ≡ has.sent = has.text_is ∙ (ap (λ l. has.sent ++ l) step.2 ∙ append-nil has.sent) in
      inl (record {
        gave = shown.gave;
        edits = shown.edits;
        asked = shown.asked;
        begins = shown.begins;
        sent = subst (λ (l : List ℕ). Appends (facts shown.gave).written (facts new.link).written l) (sym all_sent) has.appended;
      })
  ends_by pass Broke old new shown step over = inr step.2.rose

  end_along : (pass : PassFacts) (olds news : List (ViewFacts L)) (before after : Counted) → Along (ViewMoves facts) olds before news after
      → AllByRecursion (IsShown facts pass) olds → EndWell facts pass olds news
  end_along pass [] [] before after same all = tt
  end_along pass [] (new ∷ news) before after along all = absurd along
  end_along pass (old ∷ olds) [] before after along all = absurd along
  end_along pass (old ∷ olds) (new ∷ news) before after (between, move, rest) (one, others) =
      (λ over. ends_by pass move.went old new one (move.steps.moves one.is_open) over, end_along pass olds news between after rest others)

  steps_shown : (old new : ViewsFacts L) (worked : Bool) → StepsViews facts old worked new
      → AllByRecursion (IsShown facts old.pass) old.list → AllByRecursion (IsShown facts new.pass) new.list
  steps_shown old new worked steps all =
      let same : new.pass ≡ old.pass = ap (λ (views : ViewsFacts L). views.pass) steps.others in
      let left = shown_along old.pass old.list steps.steps.stepped (record { whole = old.whole; worked = false }) (record { whole = new.whole; worked = worked }) steps.steps.along all in
      subst (λ (pass : PassFacts). AllByRecursion (IsShown facts pass) new.list) (sym same)
      (subst (λ (l : List (ViewFacts L)). AllByRecursion (IsShown facts old.pass) l) (sym steps.steps.left) left)

  -- ---- a look

  looked_on : (old : PassFacts) (edits : _) (view : ViewFacts L) → IsPrefix old.seen edits → IsShown facts old view → IsShown facts (looked old edits view_ask) view
  looked_on old edits view on shown = record {
    gave = shown.gave;
    edits = shown.edits;
    asked = Contains-append_left old.asks (ask_at edits view_ask ∷ []) (ask_at shown.edits view_ask) shown.asked;
    begins = prefix_trans shown.edits old.seen edits shown.begins on;
    sent = shown.sent;
    is_open = shown.is_open;
    more = shown.more;
  }

  looks_shown : (old new : PassFacts) (found : Result (List ℕ) AllocError) (view : ViewFacts L) → Looks view_text old found new → IsShown facts old view → IsShown facts new view
  looks_shown old new found view looks shown =
      subst (λ (pass : PassFacts). IsShown facts pass view) (sym looks.asked) (looked_on old looks.edits view looks.met.seen shown)

  new_shown : (old new : PassFacts) (link : L) (text : List ℕ) → Looks view_text old (Ok text) new → IsShown facts new (new_view link text)
  new_shown old new link text looks =
      subst (λ (pass : PassFacts). IsShown facts pass (new_view link text)) (sym looks.asked) (record {
        gave = link;
        edits = looks.edits;
        asked = Contains-push old.asks (ask_at looks.edits view_ask);
        begins = prefix_self looks.edits;
        sent = record { sent = []; text_is = sym looks.is; appended = Appends-nil (facts link).written };
        is_open = refl;
        more = λ none. text_not_empty (state_of old.opening looks.edits) (sym looks.is ∙ none);
      })

  -- ---- the door's answer

  takes_shown : (old new : ViewsFacts L) (link : L) (text : Result (List ℕ) AllocError) → Looks view_text old.pass text new.pass → Takes facts old link text new
      → AllByRecursion (IsShown facts old.pass) old.list → AllByRecursion (IsShown facts new.pass) new.list
  takes_shown old new link (Ok text) looks takes all =
      let before = all_so (IsShown facts old.pass) (IsShown facts new.pass) old.list (λ view shown. looks_shown old.pass new.pass (Ok text) view looks shown) all in
      subst (λ (l : List (ViewFacts L)). AllByRecursion (IsShown facts new.pass) l) (sym (ap (λ (views : ViewsFacts L). views.list) takes))
      (all_and (IsShown facts new.pass) old.list (new_view link text) before (new_shown old.pass new.pass link text looks))
  takes_shown old new link (Err error) looks takes all =
      let before = all_so (IsShown facts old.pass) (IsShown facts new.pass) old.list (λ view shown. looks_shown old.pass new.pass (Err error) view looks shown) all in
      subst (λ (l : List (ViewFacts L)). AllByRecursion (IsShown facts new.pass) l) (sym (ap (λ (views : ViewsFacts L). views.list) takes.0)) before

  same_shown : (old new : ViewsFacts L) → new ≡ old → AllByRecursion (IsShown facts old.pass) old.list → AllByRecursion (IsShown facts new.pass) new.list
  same_shown old new same all = subst (λ (views : ViewsFacts L). AllByRecursion (IsShown facts views.pass) views.list) (sym same) all

  answers_shown : (old new : ViewsFacts L) (answer : Accept L) (worked : Bool) → Answers facts old answer worked new
      → AllByRecursion (IsShown facts old.pass) old.list → AllByRecursion (IsShown facts new.pass) new.list
  answers_shown old new (Conn link) worked answers all = takes_shown old new link answers.1.text answers.1.looks answers.1.takes all
  answers_shown old new NotYet worked answers all = same_shown old new answers.1 all
  answers_shown old new End worked answers all = same_shown old new answers.1 all
  answers_shown old new Failed worked answers all = same_shown old new answers.1 all

-- ---- turns

module _ {D L : Type 0} (door_facts : D → DoorFacts) (facts : L → LinkFacts) where
  asks_shown : (stops : Bool) (old new : ViewerFacts D L) (worked : Bool) → is_not_to_ask old ≡ stops → Asks door_facts facts old worked new
      → AllByRecursion (IsShown facts old.views.pass) old.views.list → AllByRecursion (IsShown facts new.views.pass) new.views.list
  asks_shown true old new worked is asks all = same_shown facts old.views new.views (ap (λ (viewer : ViewerFacts D L). viewer.views) (asks.rests is).1) all
  asks_shown false old new worked is asks all =
      let once = asks.asks is in
      answers_shown facts old.views new.views once.answer worked once.answers all

  pub turn_shown : (old : ViewerFacts D L) (turn : Turn) (new : ViewerFacts D L) → ViewerTurned door_facts facts old turn new
      → AllByRecursion (IsShown facts old.views.pass) old.views.list → AllByRecursion (IsShown facts new.views.pass) new.views.list
  turn_shown old turn new turned all =
      let mid : ViewerFacts D L = record old { views = turned.between } in
      asks_shown (is_not_to_ask mid) mid new turned.answered refl turned.asks
      (steps_shown facts old.views turned.between turned.stepped turned.steps all)

  turns_shown : (old : ViewerFacts D L) (turns : List Turn) (new : ViewerFacts D L) → TurnsTo (ViewerTurned door_facts facts) old turns new
      → AllByRecursion (IsShown facts old.views.pass) old.views.list → AllByRecursion (IsShown facts new.views.pass) new.views.list
  turns_shown old [] new same all = same_shown facts old.views new.views (ap (λ (viewer : ViewerFacts D L). viewer.views) same) all
  turns_shown old (turn ∷ turns) new (mid, turned, rest) all = turns_shown mid turns new rest (turn_shown old turn mid turned all)

  pub all_shown : (turns : List Turn) (viewer : ViewerFacts D L) → HasTurned door_facts facts turns viewer
      → AllByRecursion (IsShown facts viewer.views.pass) viewer.views.list
  all_shown turns viewer run =
      turns_shown run.opened turns viewer run.all
      (subst (λ (v : ViewerFacts D L). AllByRecursion (IsShown facts v.views.pass) v.views.list) (sym run.opening) tt)

  pub all_end : (turns : List Turn) (old : ViewerFacts D L) (answer : Turn) (new : ViewerFacts D L) → HasTurned door_facts facts turns old
      → (last : ViewerTurned door_facts facts old answer new) → EndWell facts old.views.pass old.views.list last.steps.steps.stepped
  all_end turns old answer new run last =
      end_along facts old.views.pass old.views.list last.steps.steps.stepped (record { whole = old.views.whole; worked = false })
      (record { whole = last.between.whole; worked = last.stepped }) last.steps.steps.along (all_shown turns old run)

  pub all_open : (turns : List Turn) (viewer : ViewerFacts D L) → HasTurned door_facts facts turns viewer → AllByRecursion IsOpenView viewer.views.list
  all_open turns viewer run =
      all_so (IsShown facts viewer.views.pass) IsOpenView viewer.views.list (λ view shown. shown.is_open) (all_shown turns viewer run)
