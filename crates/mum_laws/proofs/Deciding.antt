-- The accepted edits are those of the verdicts.
use Rattle.mum_laws.proofs.Common.{◌≡◌, ℕ, zero, suc, ◌+◌, ◌≤◌, false, List, [], ◌∷◌, ◌++◌, length, take, Option, Some, None, refl, sym, ap, ◌∙◌, arith, append_assoc, is_none, not, option_map, option_map_or, append-nil, led_to, StateValue, Edit, Verdict, Accepted, Lacks, Refused, Rejected, Answer, Ignored, verdict_words, Version, Step, Open, Frame, Publish, Tell, Look, Offer, Post, Drain, Collect, Close, End, mark, edits_of, verdict, Asked, next_command, session_of, CoreState, connection_at, is_opened, start, gathered, ran, said_of, does, frame_action, frame_version, illegal, lines, accepted_grows, collect_keeps, drain_keeps, frame_keeps, none_stands, notes_keep, opening_stays, posted_keeps, puts_keep, taken_core, told_core, accepted, accepted_by, verdict_on}
use Rattle.mum_record.specs.declared.step.Step.TheVariants as steps
use Rattle.mum_core.specs.steps.Edit as edit_step
use Rattle.mum_core.specs.steps.Offer as offer_step

-- ---- the list

edits_are : (decided : Verdict) → edits_of decided ≡ accepted_by (Some decided)
edits_are (Accepted edit) = refl
edits_are (Lacks perm channel) = refl
edits_are (Refused kind) = refl
edits_are (Rejected kind) = refl
edits_are (Answer frame) = refl
edits_are (Ignored why) = refl

none_more : (old new : CoreState) → new.accepted ≡ old.accepted → new.accepted ≡ old.accepted ++ []
none_more old new same = same ∙ sym (append-nil old.accepted)

decided_more : (core : CoreState) (c : ℕ) (decided : Option Verdict)
    → (option_map_or (edit_step.decides core c) decided core).accepted ≡ core.accepted ++ accepted_by decided
decided_more core c None = sym (append-nil core.accepted)
decided_more core c (Some decided) = ap (λ (edits : List Edit). core.accepted ++ edits) (edits_are decided)

each_accepts : (core : CoreState) (step : Step) → (does core step).accepted ≡ core.accepted ++ accepted core step
each_accepts core (Open c w) = none_more core (does core (Open c w)) refl
each_accepts core (Frame c bytes) = none_more core (does core (Frame c bytes)) (frame_keeps core c (frame_version core c bytes) (frame_action core c bytes)).0
each_accepts core (steps.Edit c) = decided_more core c (edit_step.decision core c)
each_accepts core Publish = none_more core (does core Publish) refl
each_accepts core (Tell c revision) = none_more core (does core (Tell c revision)) (notes_keep (told_core core c) (connection_at core c).worker revision).0
each_accepts core (Look w revision) = none_more core (does core (Look w revision)) refl
each_accepts core (Offer w) = none_more core (does core (Offer w)) (puts_keep (taken_core core w) (offer_step.next_copy core w)).0
each_accepts core (Drain c) = none_more core (does core (Drain c)) (drain_keeps core (connection_at core c).seat).0
each_accepts core Post = none_more core (does core Post) (posted_keeps core).0
each_accepts core (Collect c) = none_more core (does core (Collect c)) (collect_keeps core (connection_at core c).seat).0
each_accepts core (Close c cause) = none_more core (does core (Close c cause)) refl
each_accepts core End = none_more core (does core End) refl

pub list_is : (core : CoreState) (run : List Step) → (ran core run).accepted ≡ core.accepted ++ gathered accepted core run
list_is core [] = sym (append-nil core.accepted)
list_is core (step ∷ run) =
    let more : List Edit = gathered accepted (does core step) run in
    list_is (does core step) run ∙ ap (λ (edits : List Edit). edits ++ more) (each_accepts core step) ∙ append_assoc core.accepted (accepted core step) more

pub state_is : (version : Version) (opening : StateValue) (workers : ℕ) (run : List Step)
    → led_to (ran (start version opening workers) run).opening (ran (start version opening workers) run).accepted
    ≡ led_to opening (gathered accepted (start version opening workers) run)
state_is version opening workers run =
    ap (λ (state : StateValue). led_to state (ran (start version opening workers) run).accepted) (opening_stays (start version opening workers) run)
    ∙ ap (led_to opening) (list_is (start version opening workers) run)

-- ---- the line

some_command : (o : Option Asked) → is_none o ≡ false → (command : Asked) × (o ≡ Some command)
some_command None h = cc
some_command (Some command) h = (command, refl)

pub verdict_told : (core : CoreState) (c : ℕ) → illegal core (steps.Edit c) ≡ None
    → (decided : Verdict) × (verdict_on core c ≡ Some decided) × (lines core (steps.Edit c) ≡ said_of c (verdict_words (mark (length core.accepted + 1) decided)) ∷ [])
verdict_told core c legal =
    let first = none_stands (not (is_opened core c)) _ _ legal in
    let second = none_stands (is_none (next_command (connection_at core c))) _ _ first.1 in
    let there = some_command (next_command (connection_at core c)) second.0 in
    let decide = verdict (led_to core.opening core.accepted) (session_of (connection_at core c)) in
    let decided : Verdict = decide there.0 in
    let is : verdict_on core c ≡ Some decided = ap (option_map decide) there.1 in
    (decided, is, ap (λ (o : Option Verdict). edit_step.line core c o ∷ []) is)

-- ---- the state at a revision

take_front : (n : ℕ) (xs ys : List Edit) → n ≤ length xs → take n (xs ++ ys) ≡ take n xs
take_front zero xs ys le = refl
take_front (suc n) [] ys le = absurd (omega (arith, le))
take_front (suc n) (x ∷ xs) ys le = ap (λ (rest : List Edit). x ∷ rest) (take_front n xs ys (omega (arith, le)))

pub state_stays : (core : CoreState) (revision : ℕ) (run : List Step) → revision ≤ length core.accepted
    → led_to (ran core run).opening (take revision (ran core run).accepted) ≡ led_to core.opening (take revision core.accepted)
state_stays core revision run le =
    let grown = accepted_grows core run in
    ap (λ (state : StateValue). led_to state (take revision (ran core run).accepted)) (opening_stays core run)
    ∙ ap (λ (edits : List Edit). led_to core.opening (take revision edits)) grown.1
    ∙ ap (led_to core.opening) (take_front revision core.accepted grown.0 le)
