-- What turns of a worker note of parcels for others and of the memory that ran out.
use Rattle.mum_serve_laws.proofs.Common.{◌≡◌, ◌∙◌, ℕ, ◌+◌, min, Bool, true, false, List, [], ◌∷◌, ◌++◌, Option, Some, None, refl, ap, sym, subst, arith, ◌||◌, option_to_list, list_any, list_any-append, inl, inr, Cause, SessionId, Along, TurnsTo, Turn, LinkFacts, LAST, action_of, PortFacts, Step, Rung, Answer, Comes, Lagging, NoMore, Opening, PassFacts, BoxesFacts, WorkerFacts, intake_of, Hears, LagsWhereIts, TakesOrTurns, HasOpened, RecordFacts, after_close, after_step, first_record, is_memory, without_room, CommonFacts, RoutesPacket, PortSteps, Shares, Turned, WorkerTurned, shares_of, Intake, Moment, look_made, causes_along, causes_heard, causes_in, causes_lagged, causes_lagging, causes_turned, strays_along, strays_in, strays_stepped, strays_turned}
use Rattle.mum_session.specs.Machine.{session_of}
use Rattle.mum_serve_laws.proofs.Handled.{handled}

-- ---- numbers and truths

or_none : (b : Bool) → (b || false) ≡ b
or_none true = refl
or_none false = refl

or_on : (a b c : Bool) → ((a || b) || c) ≡ (a || (b || c))
or_on true b c = refl
or_on false b c = refl

nothing_more : (n : ℕ) → n ≡ n + 0
nothing_more n = omega arith

none_first : (n : ℕ) → 0 + n ≡ n
none_first n = omega arith

one_by_one : (n a b : ℕ) → (n + a) + b ≡ n + (a + b)
one_by_one n a b = omega arith

capped : (s n a b top : ℕ) → s ≡ min n top → a ≡ b → min (s + a) top ≡ min (n + b) top
capped s n a b top is same = omega (arith, is, same)

-- ---- what is noted

-- n parcels for others were taken, and ports closed for these causes
record Notes (strays : ℕ) (causes : List Cause) (old new : RecordFacts) : Type 0 where
  stale : (count : ℕ) → old.stale ≡ min count LAST → new.stale ≡ min (count + strays) LAST
  memory : new.no_memory ≡ (old.no_memory || list_any is_memory causes)

quiet : (old new : RecordFacts) → new.stale ≡ old.stale → new.no_memory ≡ old.no_memory → Notes 0 [] old new
quiet old new stale memory = record {
  stale = λ count so. stale ∙ so ∙ ap (λ (n : ℕ). min n LAST) (nothing_more count);
  memory = memory ∙ sym (or_none old.no_memory);
}

rests : (old new : RecordFacts) → new ≡ old → Notes 0 [] old new
rests old new same = quiet old new (ap (λ (k : RecordFacts). k.stale) same) (ap (λ (k : RecordFacts). k.no_memory) same)

and_then : (a b : ℕ) (ms ns : List Cause) (old mid new : RecordFacts) → Notes a ms old mid → Notes b ns mid new → Notes (a + b) (ms ++ ns) old new
and_then a b ms ns old mid new first later = record {
  stale = λ count so. later.stale (count + a) (first.stale count so) ∙ ap (λ (n : ℕ). min n LAST) (one_by_one count a b);
  memory = later.memory ∙ ap (λ (c : Bool). c || list_any is_memory ns) first.memory
      ∙ or_on old.no_memory (list_any is_memory ms) (list_any is_memory ns)
      ∙ ap (λ (c : Bool). old.no_memory || c) (sym (list_any-append is_memory ms ns));
}

-- no parcel for others in the first part
behind : (b : ℕ) (ms ns : List Cause) (old mid new : RecordFacts) → Notes 0 ms old mid → Notes b ns mid new → Notes b (ms ++ ns) old new
behind b ms ns old mid new first later =
    subst (λ (n : ℕ). Notes n (ms ++ ns) old new) (none_first b) (and_then 0 b ms ns old mid new first later)

closed : (connection : ℕ) (cause : Option Cause) (old new : RecordFacts) → new ≡ after_close connection cause old → Notes 0 (option_to_list cause) old new
closed connection None old new is = rests old new is
closed connection (Some cause) old new is = record {
  stale = λ count so. ap (λ (k : RecordFacts). k.stale) is ∙ so ∙ ap (λ (n : ℕ). min n LAST) (nothing_more count);
  memory = ap (λ (k : RecordFacts). k.no_memory) is ∙ ap (λ (c : Bool). old.no_memory || c) (sym (or_none (is_memory cause)));
}

noted : (connection : ℕ) (step : Step) (strays : ℕ) (cause : Option Cause) (old new : RecordFacts) → step.stale ≡ strays → step.closed ≡ cause → new ≡ after_step connection step old
    → Notes strays (option_to_list cause) old new
noted connection step strays cause old new many why is =
    let mid : RecordFacts = record old { stale = min (old.stale + step.stale) LAST } in
    let closes : Notes 0 (option_to_list cause) mid new = subst (λ (c : Option Cause). Notes 0 (option_to_list c) mid new) why (closed connection step.closed mid new is) in record {
      stale = λ count so. closes.stale (count + strays) (capped old.stale count step.stale strays LAST so many)
          ∙ ap (λ (n : ℕ). min n LAST) (sym (nothing_more (count + strays)));
      memory = closes.memory;
    }

-- ---- a frame

-- a packet that is routed notes neither
record Keeps (old new : RecordFacts) : Type 0 where
  stale : new.stale ≡ old.stale
  memory : new.no_memory ≡ old.no_memory

keeps : (old new : RecordFacts) → new ≡ old → Keeps old new
keeps old new same = record { stale = ap (λ (k : RecordFacts). k.stale) same; memory = ap (λ (k : RecordFacts). k.no_memory) same }

abbrev KeepsBoth : CommonFacts → CommonFacts → List Moment → Type 0
KeepsBoth old new moments = Keeps old.kept new.kept

both_same : (old new : CommonFacts) → new ≡ old → KeepsBoth old new []
both_same old new same = keeps old.kept new.kept (ap (λ (c : CommonFacts). c.kept) same)

module _ (opening : Opening) where
  made : (old : CommonFacts) (connection : ℕ) (speaker : SessionId) (bytes : List ℕ) (new : CommonFacts) (routes : RoutesPacket opening old connection speaker bytes new)
      → KeepsBoth old new (look_made opening old connection speaker bytes new routes)
  made old connection speaker bytes new (inl drops) = keeps old.kept new.kept drops.none_kept
  made old connection speaker bytes new (inr routed) =
      record { stale = ap (λ (k : RecordFacts). k.stale) routed.entry; memory = ap (λ (k : RecordFacts). k.no_memory) routed.entry }

  -- ---- the turns

  module _ {L : Type 0} (facts : L → LinkFacts) where
    stepped : (boxes : BoxesFacts) (old : PortFacts L) (before : Shares) (new : PortFacts L) (after : Shares) (steps : PortSteps facts opening boxes old before new after)
        → Notes (strays_stepped facts opening boxes old before new after steps) (option_to_list steps.turned.0.closed) before.common.kept after.common.kept
    stepped boxes old before new after steps =
        let turn = steps.turned.1 in
        let same : Keeps before.common.kept steps.routed.kept =
        handled opening KeepsBoth both_same made old.machine.connection (session_of old.machine.stage) (action_of old.machine steps.turned.0.handled) before.common steps.routed turn.routes in
        behind (strays_stepped facts opening boxes old before new after steps) [] (option_to_list steps.turned.0.closed) before.common.kept steps.routed.kept after.common.kept
        (quiet before.common.kept steps.routed.kept same.stale same.memory)
        (noted old.machine.connection steps.step (strays_stepped facts opening boxes old before new after steps) steps.turned.0.closed steps.routed.kept after.common.kept
        turn.takes.stale turn.ends.reported (ap (λ (c : CommonFacts). c.kept) steps.noted))

    along : (boxes : BoxesFacts) (olds : List (PortFacts L)) (before : Shares) (news : List (PortFacts L)) (after : Shares) (all : Along (PortSteps facts opening boxes) olds before news after)
        → Notes (strays_along facts opening boxes olds before news after all) (causes_along facts opening boxes olds before news after all) before.common.kept after.common.kept
    along boxes [] before [] after same = rests before.common.kept after.common.kept (ap (λ (s : Shares). s.common.kept) same)
    along boxes [] before (new ∷ news) after none = absurd none
    along boxes (old ∷ olds) before [] after none = absurd none
    along boxes (old ∷ olds) before (new ∷ news) after (between, step, rest) =
        and_then (strays_stepped facts opening boxes old before new between step) (strays_along facts opening boxes olds between news after rest)
        (option_to_list step.turned.0.closed) (causes_along facts opening boxes olds between news after rest)
        before.common.kept between.common.kept after.common.kept
        (stepped boxes old before new between step) (along boxes olds between news after rest)

    lagged : (session : SessionId) (old : PortFacts L) (before : RecordFacts) (new : PortFacts L) (after : RecordFacts) (lags : LagsWhereIts facts session old before new after)
        → Notes 0 (causes_lagged facts opening session old before new after lags) before after
    lagged session old before new after (inl passes) = rests before after passes.kept_same
    lagged session old before new after (inr lags) = closed old.machine.connection lags.closed before after lags.noted

    lagging : (session : SessionId) (olds : List (PortFacts L)) (before : RecordFacts) (news : List (PortFacts L)) (after : RecordFacts) (all : Along (LagsWhereIts facts session) olds before news after)
        → Notes 0 (causes_lagging facts opening session olds before news after all) before after
    lagging session [] before [] after same = rests before after same
    lagging session [] before (new ∷ news) after none = absurd none
    lagging session (old ∷ olds) before [] after none = absurd none
    lagging session (old ∷ olds) before (new ∷ news) after (between, one, rest) =
        behind 0 (causes_lagged facts opening session old before new between one) (causes_lagging facts opening session olds between news after rest) before between after
        (lagged session old before new between one) (lagging session olds between news after rest)

    comes : (intake : Intake) (connection : ℕ) (link : L) (ports : List (PortFacts L)) (kept : RecordFacts) (intake_after : Intake) (ports_after : List (PortFacts L)) (kept_after : RecordFacts) → TakesOrTurns intake connection link ports kept intake_after ports_after kept_after → Notes 0 [] kept kept_after
    comes intake connection link ports kept intake_after ports_after kept_after (inl takes) =
        quiet kept kept_after (ap (λ (k : RecordFacts). k.stale) takes.kept_is) (ap (λ (k : RecordFacts). k.no_memory) takes.kept_is)
    comes intake connection link ports kept intake_after ports_after kept_after (inr turns) = rests kept kept_after turns.kept_same

    heard : (item : Option (Rung L)) (old new : WorkerFacts L) (hears : Hears facts item old new) → Notes 0 (causes_heard facts opening item old new hears) old.common.kept new.common.kept
    heard None old new same = rests old.common.kept new.common.kept (ap (λ (w : WorkerFacts L). w.common.kept) same)
    heard (Some (Answer reply)) old new hears = closed reply.connection hears.takes.closed old.common.kept new.common.kept hears.takes.noted
    heard (Some (Comes connection link)) old new hears = comes (intake_of old) connection link old.ports old.common.kept (intake_of new) new.ports new.common.kept hears.takes
    heard (Some (Lagging session)) old new hears = lagging session old.ports old.common.kept hears.each.stepped new.common.kept hears.each.along
    heard (Some NoMore) old new same = rests old.common.kept new.common.kept (ap (λ (w : WorkerFacts L). w.common.kept) same)

    turn_notes : (old new : WorkerFacts L) (turn : Turn) (turned : Turned facts opening old new turn)
        → Notes (strays_turned facts opening old new turn turned) (causes_turned facts opening old new turn turned) old.common.kept new.common.kept
    turn_notes old new turn turned =
        behind (strays_turned facts opening old new turn turned)
        (causes_heard facts opening turned.hears.item (record old { bell = turned.hears.bell }) turned.between turned.hears.hears)
        (causes_along facts opening turned.between.boxes turned.between.ports (shares_of turned.between turned.heard) turned.steps.steps.stepped (shares_of new turned.worked) turned.steps.steps.along)
        old.common.kept turned.between.common.kept new.common.kept
        (heard turned.hears.item (record old { bell = turned.hears.bell }) turned.between turned.hears.hears)
        (along turned.between.boxes turned.between.ports (shares_of turned.between turned.heard) turned.steps.steps.stepped (shares_of new turned.worked) turned.steps.steps.along)

    turns_note : (old : WorkerFacts L) (turns : List Turn) (new : WorkerFacts L) (all : TurnsTo (WorkerTurned facts opening) old turns new)
        → Notes (strays_in facts opening old turns new all) (causes_in facts opening old turns new all) old.common.kept new.common.kept
    turns_note old [] new same = rests old.common.kept new.common.kept (ap (λ (w : WorkerFacts L). w.common.kept) same)
    turns_note old (turn ∷ turns) new (mid, turned, rest) =
        and_then (strays_turned facts opening old mid turn turned) (strays_in facts opening mid turns new rest)
        (causes_turned facts opening old mid turn turned) (causes_in facts opening mid turns new rest)
        old.common.kept mid.common.kept new.common.kept
        (turn_notes old mid turn turned) (turns_note mid turns new rest)

    -- ---- from the opening on

    first_stale : (journal : Option ℕ) → (without_room (first_record journal)).stale ≡ min 0 LAST
    first_stale None = refl
    first_stale (Some count) = refl

    first_memory : (journal : Option ℕ) → (without_room (first_record journal)).no_memory ≡ false
    first_memory None = refl
    first_memory (Some count) = refl

    pub stale_counted : (number : ℕ) (pass : PassFacts) (journal : Option ℕ) (opened : WorkerFacts L) (turns : List Turn) (worker : WorkerFacts L) → HasOpened number pass journal opened → (all : TurnsTo (WorkerTurned facts opening) opened turns worker)
        → worker.common.kept.stale ≡ min (strays_in facts opening opened turns worker all) LAST
    stale_counted number pass journal opened turns worker begun all =
        (turns_note opened turns worker all).stale 0 (ap (λ (k : RecordFacts). k.stale) begun.kept_is ∙ first_stale journal)
        ∙ ap (λ (n : ℕ). min n LAST) (none_first (strays_in facts opening opened turns worker all))

    pub memory_noted : (number : ℕ) (pass : PassFacts) (journal : Option ℕ) (opened : WorkerFacts L) (turns : List Turn) (worker : WorkerFacts L) → HasOpened number pass journal opened → (all : TurnsTo (WorkerTurned facts opening) opened turns worker)
        → worker.common.kept.no_memory ≡ list_any is_memory (causes_in facts opening opened turns worker all)
    memory_noted number pass journal opened turns worker begun all =
        (turns_note opened turns worker all).memory
        ∙ ap (λ (b : Bool). b || list_any is_memory (causes_in facts opening opened turns worker all)) (ap (λ (k : RecordFacts). k.no_memory) begun.kept_is ∙ first_memory journal)
