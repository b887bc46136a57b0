-- A connection that awaits a reply is not heard before it comes.
use Rattle.mum_worker_laws.proofs.Common.{◌≡◌, ◌≢◌, ◌∙◌, ℕ, zero, suc, true, true≢false, not, IsTrue, List, [], ◌∷◌, All, slice_set, Option, Some, None, refl, ap, sym, subst, inl, inr, Each, eqb-true, All-from_recursion, recursion_from_All, SessionId, Along, TurnsTo, Turn, Frame, LinkFacts, action_of, asked_item, machine_after, port_after_put, PortFacts, may_handle, new_port, PortRoutes, Steps, is_live, DeskItem, awaits_then, waits_still, and-left, and-right, told_by_passes, Rung, Answer, Comes, Lagging, NoMore, Opening, Machine, session_of, Action, Voice, BoxesFacts, WorkerFacts, intake_of, stays, AnswersFirst, Hears, LagsWhereIts, TakesOrTurns, RecordFacts, CommonFacts, RoutesPacket, PortSteps, Shares, WorkerTurned, shares_of, Intake, Moment, Took, history, look_asked, look_made, look_stepped, moments_along, moments_of, moments_stepped, takes_by, told_by, AwaitsReply, IsNoPacketOf, IsNoReplyTo, IsOfAnother, if_taken, ports_taken, taken_in}
use Rattle.mum_worker_laws.proofs.{Changing.awaits_lagged, Changing.place_answered, Changing.place_lagged, Counts.each-append, Counts.each_back, Counts.each_front, Counts.each_left, Lasting.first_is_of, Own.connection-machine_after}

-- ---- no packet meanwhile

module _ {L : Type 0} where
  pub each_set : (P : PortFacts L → Type 0) (xs : List (PortFacts L)) (k : ℕ) (x : PortFacts L) → P x → Each P xs → Each P (slice_set xs k x)
  each_set P [] k x is each = tt
  each_set P (y ∷ xs) zero x is each = (is, each.1)
  each_set P (y ∷ xs) (suc k) x is each = (each.0, each_set P xs k x is each.1)

module _ (opening : Opening) (asked : ℕ) where
  made_of_another : (old : CommonFacts) (connection : ℕ) (speaker : SessionId) (bytes : List ℕ) (new : CommonFacts) (routes : RoutesPacket opening old connection speaker bytes new) → connection ≢ asked
      → Each (IsNoPacketOf asked) (look_made opening old connection speaker bytes new routes)
  made_of_another old connection speaker bytes new (inl drops) another = tt
  made_of_another old connection speaker bytes new (inr keeps) another = (another, tt)

  asked_of_another : (connection : ℕ) (session : Option SessionId) (does : Option Action) (old new : CommonFacts) (routes : PortRoutes (RoutesPacket opening) connection session does old new) → connection ≢ asked
      → Each (IsNoPacketOf asked) (look_asked opening connection session does old new routes)
  asked_of_another connection session (Some (Voice packet)) old new routes another = made_of_another old connection routes.0 packet new routes.2 another
  asked_of_another connection session others old new same another = tt

  handled_of_another : (machine : Machine) (handled : Option Frame) (old new : CommonFacts) (routes : PortRoutes (RoutesPacket opening) machine.connection (session_of machine.stage) (action_of machine handled) old new)
      → ((frame : Frame) → handled ≡ Some frame → machine.connection ≢ asked)
      → Each (IsNoPacketOf asked) (look_asked opening machine.connection (session_of machine.stage) (action_of machine handled) old new routes)
  handled_of_another machine None old new routes another = tt
  handled_of_another machine (Some frame) old new routes another =
      asked_of_another machine.connection (session_of machine.stage) (action_of machine (Some frame)) old new routes (another frame refl)

  module _ {L : Type 0} where
    -- a port that awaits a reply handles nothing
    not_handled : (port : PortFacts L) → port.machine.awaits ≡ true → IsTrue (may_handle port) → ⊥
    not_handled port awaits may =
        true≢false (sym (and-left (not port.machine.awaits) _ (and-right (is_live port.stage) _ may)) ∙ ap not awaits)

  module _ {L : Type 0} (facts : L → LinkFacts) where
    step_of_another : (boxes : BoxesFacts) (old : PortFacts L) (before : Shares) (new : PortFacts L) (after : Shares) (steps : PortSteps facts opening boxes old before new after) → AwaitsReply asked old
        → Each (IsNoPacketOf asked) (moments_stepped opening facts boxes old before new after steps)
    step_of_another boxes old before new after steps awaits =
        each-append (IsNoPacketOf asked) (look_stepped opening facts boxes old before new after steps) (Took (takes_by old.machine steps.turned.0) (told_by_passes new.passes) ∷ [])
        (handled_of_another old.machine steps.turned.0.handled before.common steps.routed steps.turned.1.routes
        (λ frame is its. not_handled (port_after_put steps.turned.0.put old) (awaits its) (steps.turned.1.handles.allowed frame is)))
        (tt, tt)

    step_awaits : (boxes : BoxesFacts) (old : PortFacts L) (before : Shares) (new : PortFacts L) (after : Shares) → PortSteps facts opening boxes old before new after → AwaitsReply asked old → AwaitsReply asked new
    step_awaits boxes old before new after steps awaits =
        let turn = steps.turned in
        let happened : Steps facts (RoutesPacket opening) old old.machine turn.0 new = record {
          of_port = refl;
          posts = boxes.posts;
          voices = boxes.voices;
          desk = before.desk;
          desk_after = after.desk;
          router = before.common;
          router_after = steps.routed;
          step = steps.step;
          turn = turn.1;
        } in
        λ its.
        let was : old.machine.awaits ≡ true = awaits (sym (connection-machine_after old.machine turn.0.handled) ∙ (ap (λ (m : Machine). m.connection) (sym turn.1.handles.machine) ∙ its)) in
        ap (λ (m : Machine). m.awaits) (turn.1.handles.machine ∙ ap (λ (f : Option Frame). machine_after old.machine f) (waits_still facts (RoutesPacket opening) old old.machine turn.0 new happened was)) ∙ was

    along_of_another : (boxes : BoxesFacts) (olds : List (PortFacts L)) (before : Shares) (news : List (PortFacts L)) (after : Shares) (along : Along (PortSteps facts opening boxes) olds before news after)
        → Each (AwaitsReply asked) olds → Each (AwaitsReply asked) news × Each (IsNoPacketOf asked) (moments_along opening facts boxes olds before news after along)
    along_of_another boxes [] before [] after same await = (tt, tt)
    along_of_another boxes [] before (new ∷ news) after along await = absurd along
    along_of_another boxes (old ∷ olds) before [] after along await = absurd along
    along_of_another boxes (old ∷ olds) before (new ∷ news) after (between, steps, along) await =
        let rest = along_of_another boxes olds between news after along await.1 in (
          (step_awaits boxes old before new between steps await.0, rest.0),
          each-append (IsNoPacketOf asked) (moments_stepped opening facts boxes old before new between steps) (moments_along opening facts boxes olds between news after along)
              (step_of_another boxes old before new between steps await.0) rest.1,
        )

    -- ---- the bell

    answer_awaits : (connection : ℕ) (end : _) (wire : List ℕ) (passes : _) (olds : List (PortFacts L)) (closed : _) (news : List (PortFacts L)) → AnswersFirst facts connection end wire passes olds closed news
        → connection ≢ asked → Each (AwaitsReply asked) olds → Each (AwaitsReply asked) news
    answer_awaits connection end wire passes olds closed news (inl none) another await = subst (λ (l : List (PortFacts L)). Each (AwaitsReply asked) l) (sym none.same) await
    answer_awaits connection end wire passes olds closed news (inr first) another await =
        let its = eqb-true first.old.machine.connection connection (first_is_of facts opening connection olds first.place first.old first.first first.there) in
        let place = place_answered facts opening end wire passes first.old closed first.new first.answers in
        subst (λ (l : List (PortFacts L)). Each (AwaitsReply asked) l) (sym first.others)
        (each_set (AwaitsReply asked) olds first.place first.new (λ of_it. absurd (another (sym its ∙ (sym place.number ∙ of_it)))) await)

    taken_awaits : (intake : Intake) (connection : ℕ) (link : L) (ports : List (PortFacts L)) (kept : RecordFacts) (intake_after : Intake) (ports_after : List (PortFacts L)) (kept_after : RecordFacts) (takes : TakesOrTurns intake connection link ports kept intake_after ports_after kept_after)
        → Each (IsOfAnother asked) (if_taken intake connection link ports kept intake_after ports_after kept_after takes) → Each (AwaitsReply asked) ports → Each (AwaitsReply asked) ports_after
    taken_awaits intake connection link ports kept intake_after ports_after kept_after (inl takes) others await =
        subst (λ (l : List (PortFacts L)). Each (AwaitsReply asked) l) (sym takes.ports_are)
        (each-append (AwaitsReply asked) ports (new_port connection intake.number link ∷ []) await (λ its. absurd (others.0 its), tt))
    taken_awaits intake connection link ports kept intake_after ports_after kept_after (inr turns) others await = subst (λ (l : List (PortFacts L)). Each (AwaitsReply asked) l) (sym turns.ports_same) await

    lag_awaits : (session : SessionId) (old : PortFacts L) (before : RecordFacts) (new : PortFacts L) (after : RecordFacts) → LagsWhereIts facts session old before new after → AwaitsReply asked old → AwaitsReply asked new
    lag_awaits session old before new after (inl passes) awaits = subst (λ (p : PortFacts L). AwaitsReply asked p) (sym passes.same) awaits
    lag_awaits session old before new after (inr lags) awaits =
        λ its. awaits_lagged facts opening old lags.closed new lags.lags ∙ awaits (sym (place_lagged facts opening old lags.closed new lags.lags).number ∙ its)

    lags_await : (session : SessionId) (olds : List (PortFacts L)) (before : RecordFacts) (news : List (PortFacts L)) (after : RecordFacts) → Along (LagsWhereIts facts session) olds before news after
        → Each (AwaitsReply asked) olds → Each (AwaitsReply asked) news
    lags_await session [] before [] after same await = tt
    lags_await session [] before (new ∷ news) after along await = absurd along
    lags_await session (old ∷ olds) before [] after along await = absurd along
    lags_await session (old ∷ olds) before (new ∷ news) after (between, lags, along) await =
        (lag_awaits session old before new between lags await.0, lags_await session olds between news after along await.1)

    hear_awaits : (item : Option (Rung L)) (old new : WorkerFacts L) (hears : Hears facts item old new) → Each (IsNoReplyTo asked) (told_by item) → Each (IsOfAnother asked) (taken_in facts item old new hears)
        → Each (AwaitsReply asked) old.ports → Each (AwaitsReply asked) new.ports
    hear_awaits None old new same spared others await = subst (λ (w : WorkerFacts L). Each (AwaitsReply asked) w.ports) (sym same) await
    hear_awaits (Some (Answer reply)) old new hears spared others await =
        answer_awaits reply.connection reply.end reply.wire hears.takes.passes old.ports hears.takes.closed new.ports hears.takes.answers spared.0 await
    hear_awaits (Some (Comes connection link)) old new hears spared others await =
        taken_awaits (intake_of old) connection link old.ports old.common.kept (intake_of new) new.ports new.common.kept hears.takes others await
    hear_awaits (Some (Lagging session)) old new hears spared others await =
        subst (λ (l : List (PortFacts L)). Each (AwaitsReply asked) l) (sym hears.each.left)
        (each_left (AwaitsReply asked) stays hears.each.stepped (lags_await session old.ports old.common.kept hears.each.stepped new.common.kept hears.each.along await))
    hear_awaits (Some NoMore) old new same spared others await = subst (λ (w : WorkerFacts L). Each (AwaitsReply asked) w.ports) (sym same) await

    -- ---- the turns

    none_of_it : (old : WorkerFacts L) (turns : List Turn) (new : WorkerFacts L) (all : TurnsTo (WorkerTurned facts opening) old turns new)
        → Each (IsNoReplyTo asked) (history facts opening old turns new all) → Each (IsOfAnother asked) (ports_taken facts opening old turns new all)
        → Each (AwaitsReply asked) old.ports → Each (IsNoPacketOf asked) (history facts opening old turns new all)
    none_of_it old [] new all spared others await = tt
    none_of_it old (turn ∷ turns) new (mid, turned, rest) spared others await =
        let moments : List Moment = moments_of facts opening old mid turn turned in
        let later : List Moment = history facts opening mid turns new rest in
        let looks : List Moment = moments_along opening facts turned.between.boxes turned.between.ports (shares_of turned.between turned.heard) turned.steps.steps.stepped (shares_of mid turned.worked) turned.steps.steps.along in
        let taken : List (PortFacts L) = taken_in facts turned.hears.item (record old { bell = turned.hears.bell }) turned.between turned.hears.hears in
        let heard = hear_awaits turned.hears.item (record old { bell = turned.hears.bell }) turned.between turned.hears.hears
        (each_front (IsNoReplyTo asked) (told_by turned.hears.item) looks (each_front (IsNoReplyTo asked) moments later spared))
        (each_front (IsOfAnother asked) taken (ports_taken facts opening mid turns new rest) others) await in
        let stepped = along_of_another turned.between.boxes turned.between.ports (shares_of turned.between turned.heard) turned.steps.steps.stepped (shares_of mid turned.worked) turned.steps.steps.along heard in
        each-append (IsNoPacketOf asked) moments later
        (each-append (IsNoPacketOf asked) (told_by turned.hears.item) looks (none_told turned.hears.item) stepped.1)
        (none_of_it mid turns new rest (each_back (IsNoReplyTo asked) moments later spared)
        (each_back (IsOfAnother asked) taken (ports_taken facts opening mid turns new rest) others)
        (subst (λ (l : List (PortFacts L)). Each (AwaitsReply asked) l) (sym turned.steps.steps.left) (each_left (AwaitsReply asked) stays turned.steps.steps.stepped stepped.0)))
      where
        none_told : (item : Option (Rung L)) → Each (IsNoPacketOf asked) (told_by item)
        none_told None = tt
        none_told (Some (Answer reply)) = (tt, tt)
        none_told (Some (Comes connection link)) = tt
        none_told (Some (Lagging session)) = tt
        none_told (Some NoMore) = tt

    pub no_packet : (old : WorkerFacts L) (turns : List Turn) (new : WorkerFacts L) (all : TurnsTo (WorkerTurned facts opening) old turns new) → All (AwaitsReply asked) old.ports
        → All (IsNoReplyTo asked) (history facts opening old turns new all) → All (IsOfAnother asked) (ports_taken facts opening old turns new all)
        → All (IsNoPacketOf asked) (history facts opening old turns new all)
    no_packet old turns new all await spared others =
        All-from_recursion (IsNoPacketOf asked) (history facts opening old turns new all)
        (none_of_it old turns new all
        (recursion_from_All (IsNoReplyTo asked) (history facts opening old turns new all) spared)
        (recursion_from_All (IsOfAnother asked) (ports_taken facts opening old turns new all) others)
        (recursion_from_All (AwaitsReply asked) old.ports await))

module _ {L : Type 0} (facts : L → LinkFacts) (opening : Opening) where
  pub command_awaits : (old new : PortFacts L) (machine : Machine) (did : _) (item : DeskItem) → Steps facts (RoutesPacket opening) old machine did new
      → asked_item machine did.handled ≡ Some item → IsTrue new.machine.awaits
  command_awaits = awaits_then facts (RoutesPacket opening)
