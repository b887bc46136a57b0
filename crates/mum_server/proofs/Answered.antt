-- What a line of the configuration, and what a line of a step, is answered by.
use Rattle.mum_server.proofs.Common.{◌≡◌, ℕ, List, [], ◌++◌, Option, Some, None, Result, Ok, Err, Bool, true, false, refl, sym, ap, ◌∙◌, option_map, Fault, fault_code, told_fault, Step, config_of, version_with, Version, step_of, CoreState, start, text_of, does, lines, after, Edit, StateValue, Phase, Running, Over, TooLong, BadRecording, BadJournal, BadConfig, IllegalStep, AuditWrong, End, Finished, Faulty, ReadFault, WriteFault, OutOfMemory, document_edits, document_fault, limits_edits, opening, Goes, Stops, answer, config_answer, opening_answer, phase_after, step_answer, Begins, Describes, LineAnswers, Names, Opens, is_end}
use Rattle.mum_record.specs.declared.step.Step.TheVariants as words

-- a document without a fault opens at what it describes, once the limits are set
pub config_opens : (w : ℕ) (limits : Option (ℕ × ℕ)) (document : List ℕ) (edits : List Edit) (version : Version) (state : StateValue) (core : CoreState) → document_fault document ≡ None
    → edits ≡ document_edits document → version ≡ version_with limits → state ≡ after (limits_edits limits ++ edits) → core ≡ start version state w
    → config_answer w limits (Some document) ≡ Goes (Running core) []
config_opens w limits document edits version state core good are of leads is =
    ap (λ (fault : Option Fault). opening_answer fault (Running (start (version_with limits) (opening limits document) w))) good
    ∙ ap (λ (c : CoreState). Goes (Running c) [])
    (ap (λ (es : List Edit). start (version_with limits) (after (limits_edits limits ++ es)) w) (sym are)
    ∙ ap (λ (s : StateValue). start (version_with limits) s w) (sym leads)
    ∙ ap (λ (v : Version). start v state w) (sym of)
    ∙ sym is)

-- one with a fault stops there
pub config_stops : (w : ℕ) (limits : Option (ℕ × ℕ)) (document : List ℕ) (fault : Fault) → document_fault document ≡ Some fault → config_answer w limits (Some document) ≡ Stops (BadConfig (fault_code fault.cause) fault.key)
config_stops w limits document fault bad =
    ap (λ (f : Option Fault). opening_answer f (Running (start (version_with limits) (opening limits document) w))) bad

told_same : (one other : ℕ × List ℕ) → Some one ≡ Some other → one ≡ other
told_same one other same = cc

-- and is reported by its number
told_stops : (w : ℕ) (limits : Option (ℕ × ℕ)) (document : List ℕ) (found : Option Fault) (code : ℕ) (key : List ℕ) → document_fault document ≡ found
    → option_map told_fault found ≡ Some (code, key) → config_answer w limits (Some document) ≡ Stops (BadConfig code key)
told_stops w limits document None code key is told = absurd (cc)
told_stops w limits document (Some fault) code key is told =
    let same : told_fault fault ≡ (code, key) = told_same (told_fault fault) (code, key) told in
    let numbered : fault_code fault.cause ≡ code = ap (λ (both : ℕ × List ℕ). both.0) same in
    let placed : fault.key ≡ key = ap (λ (both : ℕ × List ℕ). both.1) same in
    config_stops w limits document fault is ∙ ap (λ (c : ℕ). Stops (BadConfig c fault.key)) numbered ∙ ap (λ (k : List ℕ). Stops (BadConfig code k)) placed

-- where no edits are described, nothing is opened
pub opens_not : (n w : ℕ) (limits : Option (ℕ × ℕ)) (document : List ℕ) (end : End) → Describes n document (Err end) → Opens n w limits document (Err end)
opens_not n w limits document (Faulty m (BadConfig code key)) h = (told_stops w limits document (document_fault document) code key refl h.0, h.1)
opens_not n w limits document (Faulty m TooLong) h = absurd h
opens_not n w limits document (Faulty m BadRecording) h = absurd h
opens_not n w limits document (Faulty m BadJournal) h = absurd h
opens_not n w limits document (Faulty m (IllegalStep given against)) h = absurd h
opens_not n w limits document (Faulty m (AuditWrong given defined)) h = absurd h
opens_not n w limits document OutOfMemory h = tt
opens_not n w limits document Finished h = absurd h
opens_not n w limits document ReadFault h = absurd h
opens_not n w limits document WriteFault h = absurd h

-- after a line that names no document nothing begins
pub unnamed_begins_not : (n w : ℕ) (limits : Option (ℕ × ℕ)) (line : List ℕ) (end : End) → Names n (config_of line) (Err end) → Begins n w limits line (Err end)
unnamed_begins_not n w limits line (Faulty m fault) h = (ap (config_answer w limits) h.0 ∙ ap Stops (sym h.1), h.2)
unnamed_begins_not n w limits line OutOfMemory h = tt
unnamed_begins_not n w limits line Finished h = absurd h
unnamed_begins_not n w limits line ReadFault h = absurd h
unnamed_begins_not n w limits line WriteFault h = absurd h

-- after one that names a document begins what that opens
pub named_begins : (n w : ℕ) (limits : Option (ℕ × ℕ)) (line document : List ℕ) (result : Result CoreState End) → config_of line ≡ Some document → Opens n w limits document result → Begins n w limits line result
named_begins n w limits line document (Ok core) is h = ap (config_answer w limits) is ∙ h
named_begins n w limits line document (Err (Faulty m fault)) is h = (ap (config_answer w limits) is ∙ h.0, h.1)
named_begins n w limits line document (Err OutOfMemory) is h = tt
named_begins n w limits line document (Err Finished) is h = absurd h
named_begins n w limits line document (Err ReadFault) is h = absurd h
named_begins n w limits line document (Err WriteFault) is h = absurd h

abbrev pub IsDone : CoreState → Step → List ℕ → CoreState → List ℕ → Type 0
IsDone core step old new text =
    (step_answer core (Some step) ≡ Goes (phase_after core step) (lines core step)) × (new ≡ does core step) × (text ≡ old ++ text_of (lines core step))

goes_by : (core new : CoreState) (step : Step) (line old text : List ℕ) (phase : Phase) → step_of line ≡ Some step → old ≡ [] → IsDone core step old new text → phase ≡ phase_after core step
    → (told : List (List (List ℕ))) × (answer (Running core) line ≡ Goes phase told) × (text ≡ text_of told)
unfolding answer
goes_by core new step line old text phase said none h is = (
  lines core step,
  ap (step_answer core) said ∙ h.0 ∙ ap (λ (p : Phase). Goes p (lines core step)) (sym is),
  h.2 ∙ ap (λ (xs : List ℕ). xs ++ text_of (lines core step)) none,
)

runs_on : (core : CoreState) (step : Step) → is_end step ≡ false → phase_after core step ≡ Running (does core step)
runs_on core words.End more = cc
runs_on core others more = refl

ends_there : (core : CoreState) (step : Step) → is_end step ≡ true → phase_after core step ≡ Over
ends_there core words.End last = refl
ends_there core others last = cc

-- a step that is not the last leaves the phase of steps
pub step_goes : (core new : CoreState) (step : Step) (line old text : List ℕ) → step_of line ≡ Some step → is_end step ≡ false
    → old ≡ [] → IsDone core step old new text
    → (told : List (List (List ℕ))) × (answer (Running core) line ≡ Goes (Running new) told) × (text ≡ text_of told)
step_goes core new step line old text said more none h = goes_by core new step line old text (Running new) said none h (ap Running h.1 ∙ sym (runs_on core step more))

-- the last one leaves none
pub step_ends : (core new : CoreState) (step : Step) (line old text : List ℕ) → step_of line ≡ Some step → is_end step ≡ true
    → old ≡ [] → IsDone core step old new text
    → (told : List (List (List ℕ))) × (answer (Running core) line ≡ Goes Over told) × (text ≡ text_of told)
step_ends core new step line old text said last none h = goes_by core new step line old text Over said none h (sym (ends_there core step last))

-- a line that says a step was taken, with the last step or another
pub line_taken : (n : ℕ) (core new : CoreState) (step : Step) (line old text : List ℕ) (last : Bool) → step_of line ≡ Some step → last ≡ is_end step
    → old ≡ [] → IsDone core step old new text → LineAnswers n core line (Ok last) new text
line_taken n core new step line old text true said is none h = step_ends core new step line old text said (sym is) none h
line_taken n core new step line old text false said is none h = step_goes core new step line old text said (sym is) none h
