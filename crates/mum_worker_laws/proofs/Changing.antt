-- What one event makes of the life of a port.
use Rattle.mum_worker_laws.proofs.Common.{◌≡◌, ◌==◌, ◌∙◌, ℕ, Bool, true, false, cond, if◌then◌else◌, IsTrue, List, [], ◌∷◌, ◌++◌, Option, Some, None, refl, ap, sym, subst, inl, inr, flat_map, Each, cons_option, filter_map, eqb-true, append-nil, option_to_list, flat_map-append, Cause, SessionId, ReplyEnd, Frame, LinkFacts, PortDid, action_of, desk_after_put, machine_after, waiting_after_put, PortFacts, due_item, Event, Happens, Heard, Lives, Steps, frames_handled, items_put, lagged, replied, stepped, Answers, Lags, DeskItem, PassesFacts, waits_still, Opening, ReplyFacts, Machine, BoxesFacts, is_of, LagsWhereIts, RecordFacts, RoutesPacket, PortSteps, Shares, Moment, Take, Told, moments_stepped, takes_by, IsLife, IsNoReplyTo, Life, Said, is_item_of, items_of, packets_said, parcels_taken, put_by, routed_of, said_by, taken_of, Befallen, Happening, Heeded, befell, happenings, happenings_of, lag_befell, shut_for, step_befell}
use Rattle.mum_outbox.specs.Facts.{PassFacts}
use Rattle.mum_worker_laws.proofs.{Counts.nothing_either, Speaking.step_said, Speaking.step_taken, Own.OwnItem, Own.asked-own, Own.connection-machine_after, Own.due-own, Own.item-of, Own.put-own}

-- ---- one event more

items_put-append : (events more : List Event) → items_put (events ++ more) ≡ items_put events ++ items_put more
items_put-append events more = flat_map-append _ events more

pub frames-append : (events more : List Event) → frames_handled (events ++ more) ≡ frames_handled events ++ frames_handled more
frames-append events more = flat_map-append _ events more

module _ {L V : Type 0} (facts : L → LinkFacts) (routed : V → ℕ → SessionId → List ℕ → V → Type 0) where
  lives_more : (old : PortFacts L) (events : List Event) (mid : PortFacts L) (event : Event) (new : PortFacts L) → Lives facts routed old events mid
      → Happens facts routed mid event new → Lives facts routed old (events ++ event ∷ []) new
  lives_more old [] mid event new same happens =
      (new, subst (λ (p : PortFacts L). Happens facts routed p event new) same happens, refl)
  lives_more old (first ∷ events) mid event new (next, happened, lives) happens =
      (next, happened, lives_more next events mid event new lives happens)

said-append : (events more : List Event) → packets_said (events ++ more) ≡ packets_said events ++ packets_said more
said-append events more = flat_map-append _ events more

taken-append : (events more : List Event) → parcels_taken (events ++ more) ≡ parcels_taken events ++ parcels_taken more
taken-append events more = flat_map-append _ events more

happenings-append : (events more : List Event) → happenings (events ++ more) ≡ happenings events ++ happenings more
happenings-append events more = flat_map-append _ events more

-- what befell a port is what befell its connection, and nothing of it befell another
befell-of : (connection own : ℕ) (b : Bool) (those : List Happening) → (own == connection) ≡ b → happenings_of connection (befell own those) ≡ cond b those []
befell-of connection own true [] is = refl
befell-of connection own false [] is = refl
befell-of connection own true (one ∷ those) is =
    ap (λ (t : Bool). cons_option (if t then Some one else None) (happenings_of connection (befell own those))) is
    ∙ ap (λ (l : List Happening). one ∷ l) (befell-of connection own true those is)
befell-of connection own false (one ∷ those) is =
    ap (λ (t : Bool). cons_option (if t then Some one else None) (happenings_of connection (befell own those))) is
    ∙ befell-of connection own false those is

-- ---- what is reported of a worker

-- what was heard and routed, and what befell ports
pub record Course : Type 0 where
  pub moments : List Moment
  pub befallen : List Befallen

abbrev pub nothing : Course
nothing = record { moments = []; befallen = [] }

-- one after the other
abbrev pub join : Course → Course → Course
join first then_ = record { moments = first.moments ++ then_.moments; befallen = first.befallen ++ then_.befallen }

pub join-nothing : (course : Course) → join course nothing ≡ course
join-nothing course = λ i. record { moments = append-nil course.moments i; befallen = append-nil course.befallen i }

-- a reply, as the port hears it
abbrev pub heard_of : ReplyFacts → Option PassesFacts → Heard
heard_of reply passes = record { end = reply.end; wire = reply.wire; passes = passes }

abbrev reply_event : ReplyFacts → Option PassesFacts → Option Cause → Event
reply_event reply passes closed = replied (heard_of reply passes) closed

abbrev pub reply_course : ReplyFacts → Option PassesFacts → Option Cause → Course
reply_course reply passes closed = record {
  moments = Told reply ∷ [];
  befallen = befell reply.connection (Heeded (heard_of reply passes) ∷ shut_for closed);
}

abbrev lag_course : ℕ → Option Cause → Course
lag_course connection closed = record { moments = []; befallen = befell connection (shut_for closed) }

-- ---- a life

module _ {L : Type 0} where
  -- its connection stays, and it waits for the desk with items of that connection
  pub record IsOwn (life : Life L) : Type 0 where
    pub number : life.last.machine.connection ≡ life.first.machine.connection
    pub waits : OwnItem life.last.machine.connection life.last.waiting

  pub record Still (connection : ℕ) (life : Life L) : Type 0 where
    pub of_it : life.last.machine.connection ≡ connection
    pub awaits : life.last.machine.awaits ≡ true
    pub nothing : frames_handled life.events ≡ []

  -- a port of the connection that awaited a reply at first does so still, and handled nothing
  abbrev pub Waits : ℕ → Life L → Type 0
  Waits connection life = life.first.machine.connection ≡ connection → IsTrue life.first.machine.awaits → Still connection life

module _ {L : Type 0} (facts : L → LinkFacts) (opening : Opening) where
  -- a life goes on, with what was sent meanwhile, and what its port put on the desk
  pub record Changes (told : Course) (put : List DeskItem) (old new : Life L) : Type 0 where
    pub first : new.first ≡ old.first
    pub lived : IsLife facts opening old → IsLife facts opening new
    pub owned : IsOwn old → IsOwn new
    pub puts : put_by new ≡ put_by old ++ put
    pub its : IsOwn old → (connection : ℕ) (b : Bool) → (old.first.machine.connection == connection) ≡ b → items_of connection put ≡ cond b put []
    pub since : List Said
    pub says : packets_said new.events ≡ packets_said old.events ++ since
    pub heard : IsOwn old → (connection : ℕ) (b : Bool) → (old.first.machine.connection == connection) ≡ b → filter_map (routed_of connection) told.moments ≡ cond b since []
    pub more : List Take
    pub takes : parcels_taken new.events ≡ parcels_taken old.events ++ more
    pub took : IsOwn old → (connection : ℕ) (b : Bool) → (old.first.machine.connection == connection) ≡ b → flat_map (taken_of connection) told.moments ≡ cond b more []
    pub befell : List Happening
    pub happens : happenings new.events ≡ happenings old.events ++ befell
    pub mine : IsOwn old → (connection : ℕ) (b : Bool) → (old.first.machine.connection == connection) ≡ b → happenings_of connection told.befallen ≡ cond b befell []
    pub waits : (connection : ℕ) → Each (IsNoReplyTo connection) told.moments → Waits connection old → Waits connection new

  pub unchanged : (life : Life L) → Changes nothing [] life life
  unchanged life = record {
    first = refl;
    lived = λ lives. lives;
    owned = λ own. own;
    puts = sym (append-nil (put_by life));
    its = λ own connection b is. nothing_either b;
    since = [];
    says = sym (append-nil (packets_said life.events));
    heard = λ own connection b is. nothing_either b;
    more = [];
    takes = sym (append-nil (parcels_taken life.events));
    took = λ own connection b is. nothing_either b;
    befell = [];
    happens = sym (append-nil (happenings life.events));
    mine = λ own connection b is. nothing_either b;
    waits = λ connection spared waits. waits;
  }

  -- the life of this port goes on to that port, beside what the desk was offered
  pub record One (told : Course) (life : Life L) (before : List DeskItem) (new : PortFacts L) (after : List DeskItem) : Type 0 where
    pub put : List DeskItem
    pub now : Life L
    pub changes : Changes told put life now
    pub last_is : now.last ≡ new
    pub desk : after ≡ before ++ put

  -- ---- a step

  offered_more : (put due : Option DeskItem) (desk after : PassFacts DeskItem) → after ≡ desk_after_put put due desk → after.offered ≡ desk.offered ++ option_to_list put
  offered_more (Some item) due desk after is = ap (λ (p : PassFacts DeskItem). p.offered) is
  offered_more None None desk after is = ap (λ (p : PassFacts DeskItem). p.offered) is ∙ sym (append-nil desk.offered)
  offered_more None (Some item) desk after is = ap (λ (p : PassFacts DeskItem). p.offered) is ∙ sym (append-nil desk.offered)

  one_of : (put : Option DeskItem) (connection own : ℕ) (b : Bool) → OwnItem own put → (own == connection) ≡ b → items_of connection (option_to_list put) ≡ cond b (option_to_list put) []
  one_of None connection own true owned is = refl
  one_of None connection own false owned is = refl
  one_of (Some item) connection own b owned is =
      ap (λ (test : Bool). cond test (item ∷ []) []) (item-of item own connection (owned item refl) ∙ is)

  abbrev stepped_life : Life L → Machine → PortDid → PortFacts L → Life L
  stepped_life life machine did new = record { first = life.first; events = life.events ++ stepped machine did ∷ []; last = new }

  still_step : (life : Life L) (machine : Machine) (did : PortDid) (new : PortFacts L) → Steps facts (RoutesPacket opening) life.last machine did new
      → (connection : ℕ) → Still connection life → Still connection (stepped_life life machine did new)
  still_step life machine did new steps connection still =
      let none = waits_still facts (RoutesPacket opening) life.last machine did new steps still.awaits in
      let same : new.machine ≡ life.last.machine = steps.turn.handles.machine ∙ ap (λ (f : Option Frame). machine_after life.last.machine f) none in record {
        of_it = ap (λ (m : Machine). m.connection) same ∙ still.of_it;
        awaits = ap (λ (m : Machine). m.awaits) same ∙ still.awaits;
        nothing = frames-append life.events (stepped machine did ∷ [])
            ∙ (ap (λ (f : Option Frame). frames_handled life.events ++ (option_to_list f ++ [])) none ∙ (append-nil (frames_handled life.events) ∙ still.nothing));
      }

  own_step : (life : Life L) (machine : Machine) (did : PortDid) (new : PortFacts L) → Steps facts (RoutesPacket opening) life.last machine did new → IsOwn life → IsOwn (stepped_life life machine did new)
  own_step life machine did new steps own =
      let number : new.machine.connection ≡ life.last.machine.connection = ap (λ (m : Machine). m.connection) steps.turn.handles.machine ∙ connection-machine_after life.last.machine did.handled in record {
        number = number ∙ own.number;
        waits = λ item is.
            subst (λ (n : ℕ). is_item_of n item ≡ true) (sym number)
            (asked-own life.last.machine did.handled (waiting_after_put did.put life.last.waiting) (put-own life.last.machine.connection did.put life.last.waiting own.waits) item (sym steps.turn.puts.waiting ∙ is));
      }

  put_its : (life : Life L) (machine : Machine) (did : PortDid) (new : PortFacts L) → Steps facts (RoutesPacket opening) life.last machine did new → IsOwn life
      → (connection : ℕ) (b : Bool) → (life.first.machine.connection == connection) ≡ b → items_of connection (option_to_list did.put) ≡ cond b (option_to_list did.put) []
  put_its life machine did new steps own connection b is =
      one_of did.put connection life.last.machine.connection b
      (λ item put. due-own life.last own.waits item (steps.turn.puts.due item put))
      (ap (λ (n : ℕ). n == connection) own.number ∙ is)

  -- these moments are the packet that the frame of a step is, if it is one
  abbrev IsSaid : List Moment → Machine → PortDid → Type 0
  IsSaid told machine did =
      (connection : ℕ) → filter_map (routed_of connection) told ≡ cond (machine.connection == connection) (said_by machine (action_of machine did.handled)) []

  -- and the parcels that the step took
  abbrev IsTaken : List Moment → Machine → PortDid → Type 0
  IsTaken told machine did = (connection : ℕ) → flat_map (taken_of connection) told ≡ cond (machine.connection == connection) (takes_by machine did) []

  changes_step : (told : Course) (life : Life L) (machine : Machine) (did : PortDid) (new : PortFacts L) → Steps facts (RoutesPacket opening) life.last machine did new
      → IsSaid told.moments machine did → IsTaken told.moments machine did → told.befallen ≡ befell machine.connection (shut_for did.closed) → Changes told (option_to_list did.put) life (stepped_life life machine did new)
  changes_step told life machine did new steps said taken befallen_is = record {
    first = refl;
    lived = λ lives. lives_more facts (RoutesPacket opening) life.first life.events life.last (stepped machine did) new lives steps;
    owned = own_step life machine did new steps;
    puts = items_put-append life.events (stepped machine did ∷ []) ∙ ap (λ (l : List DeskItem). items_put life.events ++ l) (append-nil (option_to_list did.put));
    its = λ own connection b is. put_its life machine did new steps own connection b is;
    since = said_by machine (action_of machine did.handled);
    says = said-append life.events (stepped machine did ∷ [])
        ∙ ap (λ (l : List Said). packets_said life.events ++ l) (append-nil (said_by machine (action_of machine did.handled)));
    heard = λ own connection b is.
        said connection
        ∙ ap (λ (t : Bool). cond t (said_by machine (action_of machine did.handled)) [])
        (ap (λ (m : Machine). m.connection == connection) steps.of_port ∙ (ap (λ (n : ℕ). n == connection) own.number ∙ is));
    more = takes_by machine did;
    takes = taken-append life.events (stepped machine did ∷ []) ∙ ap (λ (l : List Take). parcels_taken life.events ++ l) (append-nil (takes_by machine did));
    took = λ own connection b is.
        taken connection
        ∙ ap (λ (t : Bool). cond t (takes_by machine did) [])
        (ap (λ (m : Machine). m.connection == connection) steps.of_port ∙ (ap (λ (n : ℕ). n == connection) own.number ∙ is));
    befell = shut_for did.closed;
    happens = happenings-append life.events (stepped machine did ∷ [])
        ∙ ap (λ (l : List Happening). happenings life.events ++ l) (append-nil (shut_for did.closed));
    mine = λ own connection b is.
        ap (λ (l : List Befallen). happenings_of connection l) befallen_is
        ∙ befell-of connection machine.connection b (shut_for did.closed)
        (ap (λ (m : Machine). m.connection == connection) steps.of_port ∙ (ap (λ (n : ℕ). n == connection) own.number ∙ is));
    waits = λ connection spared waits of_it awaits. still_step life machine did new steps connection (waits of_it awaits);
  }

  abbrev pub step_course : (boxes : BoxesFacts) (old : PortFacts L) (before : Shares) (new : PortFacts L) (after : Shares) → PortSteps facts opening boxes old before new after → Course
  step_course boxes old before new after steps = record {
    moments = moments_stepped opening facts boxes old before new after steps;
    befallen = step_befell facts opening boxes old before new after steps;
  }

  pub one_step : (boxes : BoxesFacts) (life : Life L) (old : PortFacts L) (before : Shares) (new : PortFacts L) (after : Shares) (steps : PortSteps facts opening boxes old before new after) → life.last ≡ old
      → One (step_course boxes old before new after steps) life before.desk.offered new after.desk.offered
  one_step boxes life old before new after steps same =
      let happened : Steps facts (RoutesPacket opening) old old.machine steps.turned.0 new = record {
        of_port = refl;
        posts = boxes.posts;
        voices = boxes.voices;
        desk = before.desk;
        desk_after = after.desk;
        router = before.common;
        router_after = steps.routed;
        step = steps.step;
        turn = steps.turned.1;
      } in record {
        put = option_to_list steps.turned.0.put;
        now = stepped_life life old.machine steps.turned.0 new;
        changes = changes_step (step_course boxes old before new after steps) life old.machine steps.turned.0 new
            (subst (λ (p : PortFacts L). Steps facts (RoutesPacket opening) p old.machine steps.turned.0 new) (sym same) happened)
            (λ connection. step_said opening connection facts boxes old before new after steps)
            (λ connection. step_taken opening connection facts boxes old before new after steps) refl;
        last_is = refl;
        desk = offered_more steps.turned.0.put (due_item old) before.desk after.desk steps.turned.1.puts.pass;
      }

  -- ---- a reply, and a lag

  -- neither changes the connection or what waits for the desk
  pub record KeepsPlace (old new : PortFacts L) : Type 0 where
    pub number : new.machine.connection ≡ old.machine.connection
    pub waiting : new.waiting ≡ old.waiting

  same_place : (old new : PortFacts L) → new ≡ old → KeepsPlace old new
  same_place old new same = record {
    number = ap (λ (p : PortFacts L). p.machine.connection) same;
    waiting = ap (λ (p : PortFacts L). p.waiting) same;
  }

  pub place_answered : (end : ReplyEnd) (wire : List ℕ) (passes : Option PassesFacts) (old : PortFacts L) (closed : Option Cause) (new : PortFacts L)
      → Answers facts end wire passes old closed new → KeepsPlace old new
  place_answered end wire passes old closed new (inl stays) = same_place old new stays.same
  place_answered end wire passes old closed new (inr (inl takes)) = record {
    number = ap (λ (p : PortFacts L). p.machine.connection) takes.rest;
    waiting = ap (λ (p : PortFacts L). p.waiting) takes.rest;
  }
  place_answered end wire passes old closed new (inr (inr closes)) = record {
    number = ap (λ (p : PortFacts L). p.machine.connection) closes.closes.rest;
    waiting = ap (λ (p : PortFacts L). p.waiting) closes.closes.rest;
  }

  pub place_lagged : (old : PortFacts L) (closed : Option Cause) (new : PortFacts L) → Lags facts old closed new → KeepsPlace old new
  place_lagged old closed new (inl stays) = same_place old new stays.same
  place_lagged old closed new (inr lags) = record {
    number = ap (λ (p : PortFacts L). p.machine.connection) lags.2.rest;
    waiting = ap (λ (p : PortFacts L). p.waiting) lags.2.rest;
  }

  pub awaits_lagged : (old : PortFacts L) (closed : Option Cause) (new : PortFacts L) → Lags facts old closed new → new.machine.awaits ≡ old.machine.awaits
  awaits_lagged old closed new (inl stays) = ap (λ (p : PortFacts L). p.machine.awaits) stays.same
  awaits_lagged old closed new (inr lags) = ap (λ (p : PortFacts L). p.machine.awaits) lags.2.rest

  abbrev event_life : Life L → Event → PortFacts L → Life L
  event_life life event new = record { first = life.first; events = life.events ++ event ∷ []; last = new }

  own_place : (life : Life L) (event : Event) (new : PortFacts L) → KeepsPlace life.last new → IsOwn life → IsOwn (event_life life event new)
  own_place life event new place own = record {
    number = place.number ∙ own.number;
    waits = λ item is. subst (λ (n : ℕ). is_item_of n item ≡ true) (sym place.number) (own.waits item (sym place.waiting ∙ is));
  }

  pub one_reply : (reply : ReplyFacts) (passes : Option PassesFacts) (closed : Option Cause) (life : Life L) (new : PortFacts L) → is_of reply.connection life.last ≡ true
      → Answers facts reply.end reply.wire passes life.last closed new → One (reply_course reply passes closed) life [] new []
  one_reply reply passes closed life new its answers =
      let place = place_answered reply.end reply.wire passes life.last closed new answers in record {
        put = [];
        now = event_life life (reply_event reply passes closed) new;
        changes = record {
          first = refl;
          lived = λ lives. lives_more facts (RoutesPacket opening) life.first life.events life.last (reply_event reply passes closed) new lives answers;
          owned = own_place life (reply_event reply passes closed) new place;
          puts = items_put-append life.events (reply_event reply passes closed ∷ []);
          its = λ own connection b is. nothing_either b;
          since = [];
          says = said-append life.events (reply_event reply passes closed ∷ []);
          heard = λ own connection b is. nothing_either b;
          more = [];
          takes = taken-append life.events (reply_event reply passes closed ∷ []);
          took = λ own connection b is. nothing_either b;
          befell = Heeded (heard_of reply passes) ∷ shut_for closed;
          happens = happenings-append life.events (reply_event reply passes closed ∷ [])
              ∙ ap (λ (l : List Happening). happenings life.events ++ (Heeded (heard_of reply passes) ∷ l)) (append-nil (shut_for closed));
          mine = λ own connection b is.
              befell-of connection reply.connection b (Heeded (heard_of reply passes) ∷ shut_for closed)
              (ap (λ (n : ℕ). n == connection) (sym (eqb-true life.last.machine.connection reply.connection its)) ∙ (ap (λ (n : ℕ). n == connection) own.number ∙ is));
          waits = λ connection spared waits of_it awaits.
              let still = waits of_it awaits in
              absurd (spared.0 (sym (eqb-true life.last.machine.connection reply.connection its) ∙ still.of_it));
        };
        last_is = refl;
        desk = refl;
      }

  one_lagged : (closed : Option Cause) (life : Life L) (new : PortFacts L) → Lags facts life.last closed new → One (lag_course life.last.machine.connection closed) life [] new []
  one_lagged closed life new lags =
      let place = place_lagged life.last closed new lags in record {
        put = [];
        now = event_life life (lagged closed) new;
        changes = record {
          first = refl;
          lived = λ lives. lives_more facts (RoutesPacket opening) life.first life.events life.last (lagged closed) new lives lags;
          owned = own_place life (lagged closed) new place;
          puts = items_put-append life.events (lagged closed ∷ []);
          its = λ own connection b is. nothing_either b;
          since = [];
          says = said-append life.events (lagged closed ∷ []);
          heard = λ own connection b is. nothing_either b;
          more = [];
          takes = taken-append life.events (lagged closed ∷ []);
          took = λ own connection b is. nothing_either b;
          befell = shut_for closed;
          happens = happenings-append life.events (lagged closed ∷ []) ∙ ap (λ (l : List Happening). happenings life.events ++ l) (append-nil (shut_for closed));
          mine = λ own connection b is. befell-of connection life.last.machine.connection b (shut_for closed) (ap (λ (n : ℕ). n == connection) own.number ∙ is);
          waits = λ connection spared waits of_it awaits.
              let still = waits of_it awaits in record {
                of_it = place.number ∙ still.of_it;
                awaits = awaits_lagged life.last closed new lags ∙ still.awaits;
                nothing = frames-append life.events (lagged closed ∷ []) ∙ (append-nil (frames_handled life.events) ∙ still.nothing);
              };
        };
        last_is = refl;
        desk = refl;
      }

  pub one_lag : (session : SessionId) (life : Life L) (old : PortFacts L) (before : RecordFacts) (new : PortFacts L) (after : RecordFacts) (lags : LagsWhereIts facts session old before new after)
      → life.last ≡ old → One (record { moments = []; befallen = lag_befell facts session old before new after lags }) life [] new []
  one_lag session life old before new after (inl passes) same = record {
    put = [];
    now = life;
    changes = unchanged life;
    last_is = same ∙ sym passes.same;
    desk = refl;
  }
  one_lag session life old before new after (inr lags) same =
      subst (λ (p : PortFacts L). One (lag_course p.machine.connection lags.closed) life [] new []) same
      (one_lagged lags.closed life new (subst (λ (p : PortFacts L). Lags facts p lags.closed new) (sym same) lags.lags))
