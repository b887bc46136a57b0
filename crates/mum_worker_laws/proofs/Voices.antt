-- One voice entry for each packet that is routed, over turns.
use Rattle.mum_worker_laws.proofs.Common.{◌≡◌, ◌∙◌, ℕ, ◌+◌, min, Bool, true, false, List, [], ◌∷◌, ◌++◌, append_assoc, map, length, if◌then◌else◌, Option, Some, None, Result, Ok, ap, sym, inl, inr, filter_map, append-nil, map-append, filter_map-append, Cause, SessionId, Along, TurnsTo, Turn, LinkFacts, action_of, PortFacts, PortRoutes, LAST, Step, told_by_passes, Rung, Answer, Comes, Lagging, NoMore, NoteFacts, Opening, WorkerEntry, RouterFacts, session_of, Action, Voice, Parts, packet, BadVoice, BoxesFacts, WorkerFacts, intake_of, Hears, LagsWhereIts, TakesOrTurns, HasOpened, RecordFacts, after_close, after_step, has_closing_room, CommonFacts, RoutesPacket, PortSteps, Shares, Turned, WorkerTurned, shares_of, Intake, Look, Moment, Take, Told, Took, history, look_asked, look_in, look_made, look_stepped, looks_in, moments_along, moments_of, moments_stepped, takes_by, told_by, talk_in, talk_made}
use Rattle.mum_record.specs.declared.journal.WorkerEntry.TheVariants as entries

-- these moments were written down: each look has an entry, where a journal is kept
record Writes (moments : List Moment) (old new : RecordFacts) : Type 0 where
  journal : new.journal ≡ old.journal
  voices : old.journal ≡ true → filter_map talk_in new.entries ≡ filter_map talk_in old.entries ++ map talk_made (looks_in moments)

rests : (old new : RecordFacts) → new ≡ old → Writes [] old new
rests old new same = record {
  journal = ap (λ (k : RecordFacts). k.journal) same;
  voices = λ asked. ap (λ (k : RecordFacts). filter_map talk_in k.entries) same ∙ sym (append-nil (filter_map talk_in old.entries));
}

chained : {X : Type 0} (a b c ms ns both : List X) → b ≡ a ++ ms → c ≡ b ++ ns → both ≡ ms ++ ns → c ≡ a ++ both
chained a b c ms ns both one other joined = other ∙ (ap (λ l. l ++ ns) one ∙ (append_assoc a ms ns ∙ ap (λ l. a ++ l) (sym joined)))

talks_join : (ms ns : List Moment) → map talk_made (looks_in (ms ++ ns)) ≡ map talk_made (looks_in ms) ++ map talk_made (looks_in ns)
talks_join ms ns = ap (λ (l : List Look). map talk_made l) (filter_map-append look_in ms ns) ∙ map-append talk_made (looks_in ms) (looks_in ns)

and_then : (ms ns : List Moment) (old mid new : RecordFacts) → Writes ms old mid → Writes ns mid new → Writes (ms ++ ns) old new
and_then ms ns old mid new one other = record {
  journal = other.journal ∙ one.journal;
  voices = λ asked.
      chained (filter_map talk_in old.entries) (filter_map talk_in mid.entries) (filter_map talk_in new.entries) (map talk_made (looks_in ms)) (map talk_made (looks_in ns)) (map talk_made (looks_in (ms ++ ns)))
      (one.voices asked) (other.voices (one.journal ∙ asked)) (talks_join ms ns);
}

-- what is taken adds no packet
quiet : (takes : List Take) (note : Option NoteFacts) (old new : RecordFacts) → Writes [] old new → Writes (Took takes note ∷ []) old new
quiet takes learnt old new writes = record { journal = writes.journal; voices = writes.voices }

-- ---- closes

closing_silent : (room : Bool) (before : List WorkerEntry) (connection : ℕ) (cause : Cause) → filter_map talk_in (if room then before ++ entries.Closed connection cause ∷ [] else before) ≡ filter_map talk_in before ++ []
closing_silent true before connection cause = filter_map-append talk_in before (entries.Closed connection cause ∷ [])
closing_silent false before connection cause = sym (append-nil (filter_map talk_in before))

closed : (connection : ℕ) (cause : Option Cause) (old new : RecordFacts) → new ≡ after_close connection cause old → Writes [] old new
closed connection None old new is = rests old new is
closed connection (Some cause) old new is = record {
  journal = ap (λ (k : RecordFacts). k.journal) is;
  voices = λ asked. ap (λ (k : RecordFacts). filter_map talk_in k.entries) is ∙ closing_silent (has_closing_room old) old.entries connection cause;
}

-- ---- a packet

said : (opening : Opening) (old : CommonFacts) (connection : ℕ) (speaker : SessionId) (bytes : List ℕ) (new : CommonFacts) (routes : RoutesPacket opening old connection speaker bytes new)
    → Writes (look_made opening old connection speaker bytes new routes) old.kept new.kept
said opening old connection speaker bytes new (inl drops) = rests old.kept new.kept drops.none_kept
said opening old connection speaker bytes new (inr keeps) =
    let deliveries = keeps.once.routes.1 in
    let entry : WorkerEntry = entries.Voice connection keeps.routed.revision bytes new.router.marks in
    let revision = keeps.once.routes.2.revision in
    let marks = ap (λ (r : RouterFacts). r.marks) keeps.once.routes.2.router in
    record {
      journal = ap (λ (k : RecordFacts). k.journal) keeps.entry;
      voices = λ asked.
          ap (λ (k : RecordFacts). filter_map talk_in k.entries) keeps.entry
          ∙ ap (λ (b : Bool). filter_map talk_in (if b then old.kept.entries ++ entry ∷ [] else old.kept.entries)) asked
          ∙ filter_map-append talk_in old.kept.entries (entry ∷ [])
          ∙ ap (λ (n : ℕ). filter_map talk_in old.kept.entries ++ record { connection = connection; revision = n; read = packet bytes; copies = new.router.marks } ∷ []) revision
          ∙ ap (λ (r : Result Parts BadVoice). filter_map talk_in old.kept.entries ++ record { connection = connection; revision = length keeps.once.routes.0; read = r; copies = new.router.marks } ∷ []) keeps.once.parsed
          ∙ ap (λ ms. filter_map talk_in old.kept.entries ++ record { connection = connection; revision = length keeps.once.routes.0; read = Ok keeps.once.parts; copies = ms } ∷ []) marks;
    }

-- ---- the step of a port

module _ (opening : Opening) where
  same_common : (old new : CommonFacts) → new ≡ old → Writes [] old.kept new.kept
  same_common old new same = rests old.kept new.kept (ap (λ (c : CommonFacts). c.kept) same)

  of_asked : (connection : ℕ) (session : Option SessionId) (asked : Option Action) (old new : CommonFacts) (routes : PortRoutes (RoutesPacket opening) connection session asked old new)
      → Writes (look_asked opening connection session asked old new routes) old.kept new.kept
  of_asked connection session (Some (Voice packet)) old new routes = said opening old connection routes.0 packet new routes.2
  of_asked connection session others old new same = same_common old new same

  module _ {L : Type 0} (facts : L → LinkFacts) where
    -- what is noted after it adds no packet
    behind : (moments : List Moment) (old mid new : RecordFacts) → Writes moments old mid → Writes [] mid new → Writes moments old new
    behind moments old mid new one other = record {
      journal = other.journal ∙ one.journal;
      voices = λ asked. other.voices (one.journal ∙ asked) ∙ append-nil (filter_map talk_in mid.entries) ∙ one.voices asked;
    }

    stepped : (boxes : BoxesFacts) (old : PortFacts L) (before : Shares) (new : PortFacts L) (after : Shares) (steps : PortSteps facts opening boxes old before new after)
        → Writes (moments_stepped opening facts boxes old before new after steps) before.common.kept after.common.kept
    stepped boxes old before new after steps =
        and_then (look_stepped opening facts boxes old before new after steps) (Took (takes_by old.machine steps.turned.0) (told_by_passes new.passes) ∷ []) before.common.kept steps.routed.kept after.common.kept
        (of_asked old.machine.connection (session_of old.machine.stage) (action_of old.machine steps.turned.0.handled) before.common steps.routed steps.turned.1.routes)
        (quiet (takes_by old.machine steps.turned.0) (told_by_passes new.passes) steps.routed.kept after.common.kept
        (noted old.machine.connection steps.step steps.routed.kept after.common.kept (ap (λ (c : CommonFacts). c.kept) steps.noted)))
      where
        noted : (connection : ℕ) (step : Step) (kept after_it : RecordFacts) → after_it ≡ after_step connection step kept → Writes [] kept after_it
        noted connection step kept after_it is =
            let silent = closed connection step.closed (record kept { stale = min (kept.stale + step.stale) LAST }) after_it is in
            record { journal = silent.journal; voices = silent.voices }

    along : (boxes : BoxesFacts) (olds : List (PortFacts L)) (before : Shares) (news : List (PortFacts L)) (after : Shares) (all : Along (PortSteps facts opening boxes) olds before news after)
        → Writes (moments_along opening facts boxes olds before news after all) before.common.kept after.common.kept
    along boxes [] before [] after same = same_common before.common after.common (ap (λ (s : Shares). s.common) same)
    along boxes [] before (new ∷ news) after none = absurd none
    along boxes (old ∷ olds) before [] after none = absurd none
    along boxes (old ∷ olds) before (new ∷ news) after (between, step, rest) =
        and_then (moments_stepped opening facts boxes old before new between step) (moments_along opening facts boxes olds between news after rest)
        before.common.kept between.common.kept after.common.kept
        (stepped boxes old before new between step) (along boxes olds between news after rest)

    -- ---- the bell, and the turns

    lagged : (session : SessionId) (olds : List (PortFacts L)) (before : RecordFacts) (news : List (PortFacts L)) (after : RecordFacts) → Along (LagsWhereIts facts session) olds before news after → Writes [] before after
    lagged session [] before [] after same = rests before after same
    lagged session [] before (new ∷ news) after none = absurd none
    lagged session (old ∷ olds) before [] after none = absurd none
    lagged session (old ∷ olds) before (new ∷ news) after (between, inl passes, rest) =
        behind [] before between after (rests before between passes.kept_same) (lagged session olds between news after rest)
    lagged session (old ∷ olds) before (new ∷ news) after (between, inr lags, rest) =
        behind [] before between after (closed old.machine.connection lags.closed before between lags.noted) (lagged session olds between news after rest)

    comes : (intake : Intake) (connection : ℕ) (link : L) (ports : List (PortFacts L)) (kept : RecordFacts) (intake_after : Intake) (ports_after : List (PortFacts L)) (kept_after : RecordFacts) → TakesOrTurns intake connection link ports kept intake_after ports_after kept_after → Writes [] kept kept_after
    comes intake connection link ports kept intake_after ports_after kept_after (inl takes) = record {
      journal = ap (λ (k : RecordFacts). k.journal) takes.kept_is;
      voices = λ asked. ap (λ (k : RecordFacts). filter_map talk_in k.entries) takes.kept_is ∙ sym (append-nil (filter_map talk_in kept.entries));
    }
    comes intake connection link ports kept intake_after ports_after kept_after (inr turns) = rests kept kept_after turns.kept_same

    -- a reply is no look
    told : (reply : _) (old new : RecordFacts) → Writes [] old new → Writes (Told reply ∷ []) old new
    told reply old new silent = record { journal = silent.journal; voices = silent.voices }

    heard : (item : Option (Rung L)) (old new : WorkerFacts L) → Hears facts item old new → Writes (told_by item) old.common.kept new.common.kept
    heard None old new same = same_common old.common new.common (ap (λ (w : WorkerFacts L). w.common) same)
    heard (Some (Answer reply)) old new hears = told reply old.common.kept new.common.kept (closed reply.connection hears.takes.closed old.common.kept new.common.kept hears.takes.noted)
    heard (Some (Comes connection link)) old new hears = comes (intake_of old) connection link old.ports old.common.kept (intake_of new) new.ports new.common.kept hears.takes
    heard (Some (Lagging session)) old new hears = lagged session old.ports old.common.kept hears.each.stepped new.common.kept hears.each.along
    heard (Some NoMore) old new same = same_common old.common new.common (ap (λ (w : WorkerFacts L). w.common) same)

    turn_writes : (old new : WorkerFacts L) (turn : Turn) (turned : Turned facts opening old new turn)
        → Writes (moments_of facts opening old new turn turned) old.common.kept new.common.kept
    turn_writes old new turn turned =
        and_then (told_by turned.hears.item)
        (moments_along opening facts turned.between.boxes turned.between.ports (shares_of turned.between turned.heard) turned.steps.steps.stepped (shares_of new turned.worked) turned.steps.steps.along)
        old.common.kept turned.between.common.kept new.common.kept
        (heard turned.hears.item (record old { bell = turned.hears.bell }) turned.between turned.hears.hears)
        (along turned.between.boxes turned.between.ports (shares_of turned.between turned.heard) turned.steps.steps.stepped (shares_of new turned.worked) turned.steps.steps.along)

    turns_write : (old : WorkerFacts L) (turns : List Turn) (new : WorkerFacts L) (all : TurnsTo (WorkerTurned facts opening) old turns new)
        → Writes (history facts opening old turns new all) old.common.kept new.common.kept
    turns_write old [] new same = same_common old.common new.common (ap (λ (w : WorkerFacts L). w.common) same)
    turns_write old (turn ∷ turns) new (mid, turned, rest) =
        and_then (moments_of facts opening old mid turn turned) (history facts opening mid turns new rest)
        old.common.kept mid.common.kept new.common.kept
        (turn_writes old mid turn turned) (turns_write mid turns new rest)

    pub one_entry_each : (number : ℕ) (pass : _) (room : ℕ) (opened : WorkerFacts L) (turns : List Turn) (worker : WorkerFacts L) → HasOpened number pass (Some room) opened → (all : TurnsTo (WorkerTurned facts opening) opened turns worker)
        → filter_map talk_in worker.common.kept.entries ≡ map talk_made (looks_in (history facts opening opened turns worker all))
    one_entry_each number pass room opened turns worker begun all =
        (turns_write opened turns worker all).voices (ap (λ (k : RecordFacts). k.journal) begun.kept_is)
        ∙ ap (λ (k : RecordFacts). filter_map talk_in k.entries ++ map talk_made (looks_in (history facts opening opened turns worker all))) begun.kept_is
