-- What turns make of the ports of a worker.
use Rattle.mum_worker_laws.proofs.Common.{◌≡◌, ◌∙◌, ℕ, ◌+◌, Bool, true, false, true≢false, not, List, [], ◌∷◌, ◌++◌, map, filter, slice_get, slice_set, get_or, zero, suc, position, append_assoc, if◌then◌else◌, Option, Some, None, refl, ap, sym, subst, inl, inr, arith, Each, filter_map, flat_map, flat_map-append, append-nil, map-append, All-from_recursion, filter-append, recursion_from_All, position-Some, Cause, ReplyEnd, Along, TurnsTo, Turn, LinkFacts, PortFacts, new_port, Answers, is_closed, is_gone, stage_after_reply, DeskItem, PassesFacts, Stage, Live, Ending, Closed, Rung, Answer, Comes, Lagging, NoMore, Opening, ReplyFacts, BoxesFacts, WorkerFacts, is_of, intake_of, stays, AnswersFirst, Hears, LagsWhereIts, TakesOrTurns, HasOpened, RecordFacts, PortSteps, Shares, Turned, WorkerTurned, shares_of, Intake, Take, Told, history, moments_along, moments_of, told_by, Happening, befallen, bell_befell, happenings, happenings_of, lag_befell, lags_befell, reply_befell, steps_befell, turn_befell, HandlesNothing, HaveLived, IsLife, IsNoReplyTo, Life, Said, befell_all, count, if_taken, is_item_of, is_life_of, items_of, packets_said, parcels_taken, ports_taken, put_by, put_by_all, put_of, routed_of, said_by_all, taken_by_all, taken_in, taken_of}
use Rattle.mum_outbox.specs.Facts.{PassFacts}
use Rattle.mum_worker_laws.proofs.{Changing.Course, Changing.IsOwn, Changing.One, Changing.Waits, Changing.join, Changing.nothing, Changing.one_lag, Changing.one_reply, Changing.one_step, Changing.reply_course, Changing.step_course, Counts.count-append, Counts.each-append, Counts.each_so, Counts.left_twice, Growing.Grows, Growing.HasAtMostOne, Growing.firsts, Growing.grow_along, Growing.grow_set, Growing.grows_on, Growing.grows_same, Growing.lasts, Growing.with_put, Growing.with_taken, Own.OwnItem}
use Rattle.mum_base.specs.declared.reply.ReplyEnd.TheVariants as ends

-- ---- a reply does not let a port go

open-kept : (stage : Stage) → is_closed stage ≡ false → is_gone stage ≡ false
open-kept Live opened = refl
open-kept (Ending parting) opened = refl
open-kept (Closed cause farewell) opened = absurd (true≢false opened)

pub answered-open : (end : ReplyEnd) (stage : Stage) → is_closed stage ≡ false → is_closed (stage_after_reply end stage) ≡ false
answered-open (ends.Joined session slot) stage opened = opened
answered-open ends.Decided stage opened = opened
answered-open ends.Rejected Live opened = refl
answered-open ends.Rejected (Ending parting) opened = refl
answered-open ends.Rejected (Closed cause farewell) opened = opened

-- the life of a port that is there
module _ {L : Type 0} where
  abbrev pub begin : PortFacts L → Life L
  begin port = record { first = port; events = []; last = port }

  pub firsts-begin : (ports : List (PortFacts L)) → firsts (map begin ports) ≡ ports
  firsts-begin [] = refl
  firsts-begin (port ∷ ports) = ap (λ (l : List (PortFacts L)). port ∷ l) (firsts-begin ports)

  pub lasts-begin : (ports : List (PortFacts L)) → lasts (map begin ports) ≡ ports
  lasts-begin [] = refl
  lasts-begin (port ∷ ports) = ap (λ (l : List (PortFacts L)). port ∷ l) (lasts-begin ports)

  nothing_put : (ports : List (PortFacts L)) → put_by_all (map begin ports) ≡ []
  nothing_put [] = refl
  nothing_put (port ∷ ports) = nothing_put ports

  no_trace : {X : Type 0} (trace : Life L → List X) → ((port : PortFacts L) → trace (begin port) ≡ []) → (connection : ℕ) (ports : List (PortFacts L)) → flat_map trace (filter (is_life_of connection) (map begin ports)) ≡ []
  no_trace trace none connection [] = refl
  no_trace trace none connection (port ∷ ports) = at (is_of connection port) (no_trace trace none connection ports)
    where
      at : (b : Bool) → flat_map trace (filter (is_life_of connection) (map begin ports)) ≡ []
          → flat_map trace (if b then begin port ∷ filter (is_life_of connection) (map begin ports) else filter (is_life_of connection) (map begin ports)) ≡ []
      at true rest = ap (λ (l : List _). l ++ flat_map trace (filter (is_life_of connection) (map begin ports))) (none port) ∙ rest
      at false rest = rest

  nothing_put_of : (connection : ℕ) (ports : List (PortFacts L)) → put_of connection (map begin ports) ≡ []
  nothing_put_of connection ports = no_trace (λ (life : Life L). put_by life) (λ port. refl) connection ports

  nothing_said : (connection : ℕ) (ports : List (PortFacts L)) → said_by_all connection (map begin ports) ≡ []
  nothing_said connection ports = no_trace (λ (life : Life L). packets_said life.events) (λ port. refl) connection ports

  nothing_taken : (connection : ℕ) (ports : List (PortFacts L)) → taken_by_all connection (map begin ports) ≡ []
  nothing_taken connection ports = no_trace (λ (life : Life L). parcels_taken life.events) (λ port. refl) connection ports

  nothing_befell : (connection : ℕ) (ports : List (PortFacts L)) → befell_all connection (map begin ports) ≡ []
  nothing_befell connection ports = no_trace (λ (life : Life L). happenings life.events) (λ port. refl) connection ports

  -- a port that waits for the desk does so with an item of its own connection
  abbrev pub WaitsForOwn : PortFacts L → Type 0
  WaitsForOwn port = OwnItem port.machine.connection port.waiting

  own_lasts : (lives : List (Life L)) → Each IsOwn lives → Each WaitsForOwn (filter stays (lasts lives))
  own_lasts [] own = tt
  own_lasts (life ∷ lives) own = at (stays life.last) (own_lasts lives own.1)
    where
      at : (b : Bool) → Each WaitsForOwn (filter stays (lasts lives)) → Each WaitsForOwn (if b then life.last ∷ filter stays (lasts lives) else filter stays (lasts lives))
      at true rest = (own.0.waits, rest)
      at false rest = rest

  own_begin : (ports : List (PortFacts L)) → Each WaitsForOwn ports → Each IsOwn (map begin ports)
  own_begin [] own = tt
  own_begin (port ∷ ports) own = (record { number = refl; waits = own.0 }, own_begin ports own.1)

  waits_begin : (connection : ℕ) (ports : List (PortFacts L)) → Each (Waits connection) (map begin ports)
  waits_begin connection [] = tt
  waits_begin connection (port ∷ ports) = (λ of_it awaits. record { of_it = of_it; awaits = awaits; nothing = refl }, waits_begin connection ports)

-- ---- the bell

module _ {L : Type 0} (facts : L → LinkFacts) (opening : Opening) where
  stays_on : (end : ReplyEnd) (wire : List ℕ) (passes : Option PassesFacts) (old : PortFacts L) (closed : Option Cause) (new : PortFacts L)
      → Answers facts end wire passes old closed new → stays old ≡ true → stays new ≡ true
  stays_on end wire passes old closed new (inl same) there = ap (λ (p : PortFacts L). stays p) same.same ∙ there
  stays_on end wire passes old closed new (inr (inl takes)) there =
      ap (λ (p : PortFacts L). stays p) takes.rest ∙ ap not (open-kept (stage_after_reply end old.stage) (answered-open end old.stage takes.was_open))
  stays_on end wire passes old closed new (inr (inr closes)) there = ap (λ (p : PortFacts L). stays p) closes.closes.rest

  -- what was heard leads from these ports to those
  pub record HeardLives (told : Course) (taken : List (PortFacts L)) (lives : List (Life L)) (ports : List (PortFacts L)) : Type 0 where
    pub now : List (Life L)
    pub grows : Grows facts opening told [] taken lives now
    pub kept : ports ≡ filter stays (lasts now)

  same_ports : (lives : List (Life L)) (old new : List (PortFacts L)) → new ≡ old → old ≡ filter stays (lasts lives) → HeardLives nothing [] lives new
  same_ports lives old new same kept = record {
    now = lives;
    grows = grows_same facts opening lives;
    kept = same ∙ kept;
  }

  pub first_is_of : (connection : ℕ) (ports : List (PortFacts L)) (place : ℕ) (port : PortFacts L) → position (is_of connection) ports ≡ Some place → slice_get ports place ≡ Some port → is_of connection port ≡ true
  first_is_of connection ports place port first there =
      ap (λ (p : PortFacts L). is_of connection p) (sym (read_there ports place port there)) ∙ (position-Some (is_of connection) ports place port first).1
    where
      read_there : (xs : List (PortFacts L)) (k : ℕ) (x : PortFacts L) → slice_get xs k ≡ Some x → get_or xs k x ≡ x
      read_there [] k x is = absurd (cc is)
      read_there (y ∷ xs) zero x is = cc is
      read_there (y ∷ xs) (suc k) x is = read_there xs k x is

  -- a reply that no port takes
  reply_dropped : (reply : ReplyFacts) (lives : List (Life L)) → Grows facts opening (record { moments = Told reply ∷ []; befallen = [] }) [] [] lives lives
  reply_dropped reply lives =
      let same = grows_same facts opening lives in record {
        begun = same.begun;
        lived = same.lived;
        owned = same.owned;
        total = same.total;
        order = same.order;
        says = same.says;
        takes = same.takes;
        happens = same.happens;
        waits = λ connection spared waits. waits;
      }

  hear_reply : (reply : ReplyFacts) (passes : Option PassesFacts) (closed : Option Cause) (olds news : List (PortFacts L)) (lives : List (Life L)) → olds ≡ filter stays (lasts lives)
      → (answers : AnswersFirst facts reply.connection reply.end reply.wire passes olds closed news)
      → HeardLives (record { moments = Told reply ∷ []; befallen = reply_befell facts reply passes olds closed news answers }) [] lives news
  hear_reply reply passes closed olds news lives kept (inl none) = record {
    now = lives;
    grows = reply_dropped reply lives;
    kept = none.same ∙ kept;
  }
  hear_reply reply passes closed olds news lives kept (inr first) =
      let its = first_is_of reply.connection olds first.place first.old first.first first.there in
      let there : slice_get (filter stays (lasts lives)) first.place ≡ Some first.old =
      subst (λ (l : List (PortFacts L)). slice_get l first.place ≡ Some first.old) kept first.there in
      let one_set : (life : Life L) → life.last ≡ first.old → One facts opening (reply_course reply passes closed) life [] first.new [] =
      λ life same. one_reply facts opening reply passes closed life first.new
      (ap (λ (p : PortFacts L). is_of reply.connection p) same ∙ its)
      (subst (λ (p : PortFacts L). Answers facts reply.end reply.wire passes p closed first.new) (sym same) first.answers) in
      let set = grow_set facts opening (reply_course reply passes closed) first.old first.new
      (stays_on reply.end reply.wire passes first.old closed first.new first.answers) one_set lives first.place there in record {
        now = set.now;
        grows = set.grows;
        kept = first.others ∙ (ap (λ (l : List (PortFacts L)). slice_set l first.place first.new) kept ∙ sym set.kept);
      }

  new_own : (port : PortFacts L) (connection number : ℕ) (link : L) → port ≡ new_port connection number link → WaitsForOwn port
  new_own port connection number link is item waits = absurd (cc (sym (ap (λ (p : PortFacts L). p.waiting) is) ∙ waits))

  -- a port more
  grows_new : (lives : List (Life L)) (connection number : ℕ) (link : L)
      → Grows facts opening nothing [] (new_port connection number link ∷ []) lives (lives ++ begin (new_port connection number link) ∷ [])
  grows_new lives connection number link =
      let port : PortFacts L = new_port connection number link in record {
        begun = map-append (λ (life : Life L). life.first) lives (begin port ∷ []);
        lived = λ lived. each-append (IsLife facts opening) lives (begin port ∷ []) lived (refl, tt);
        owned = λ own. each-append IsOwn lives (begin port ∷ []) own (record { number = refl; waits = new_own port connection number link refl }, tt);
        total = λ test. count_new test;
        order = λ own asked few. order_new asked;
        says = λ own asked few. says_new asked;
        takes = λ own asked few. taken_new asked;
        happens = λ own asked few. befell_new asked;
        waits = λ asked spared waits. each-append (Waits asked) lives (begin port ∷ []) waits (λ of_it awaits. absurd (true≢false (sym awaits)), tt);
      }
    where
      put_new : put_by_all (lives ++ begin (new_port connection number link) ∷ []) ≡ put_by_all lives
      put_new = flat_map-append (λ (life : Life L). put_by life) lives (begin (new_port connection number link) ∷ []) ∙ append-nil (put_by_all lives)

      count_new : (test : DeskItem → Bool) → count test (put_by_all (lives ++ begin (new_port connection number link) ∷ [])) ≡ count test (put_by_all lives) + count test []
      count_new test = omega (arith, ap (λ (l : List DeskItem). count test l) put_new)

      one_new : {X : Type 0} (trace : Life L → List X) → trace (begin (new_port connection number link)) ≡ [] → (b : Bool) → flat_map trace (if b then begin (new_port connection number link) ∷ [] else []) ≡ []
      one_new trace none true = ap (λ (l : List _). l ++ []) none
      one_new trace none false = refl

      trace_new : {X : Type 0} (trace : Life L → List X) → trace (begin (new_port connection number link)) ≡ [] → (asked : ℕ) → flat_map trace (filter (is_life_of asked) (lives ++ begin (new_port connection number link) ∷ [])) ≡ flat_map trace (filter (is_life_of asked) lives) ++ []
      trace_new trace none asked =
          ap (λ (l : List (Life L)). flat_map trace l) (filter-append (is_life_of asked) lives (begin (new_port connection number link) ∷ []))
          ∙ (flat_map-append trace (filter (is_life_of asked) lives) (filter (is_life_of asked) (begin (new_port connection number link) ∷ []))
          ∙ ap (λ (l : List _). flat_map trace (filter (is_life_of asked) lives) ++ l) (one_new trace none (is_of asked (new_port connection number link))))

      order_new : (asked : ℕ) → put_of asked (lives ++ begin (new_port connection number link) ∷ []) ≡ put_of asked lives ++ items_of asked []
      order_new asked = trace_new (λ (life : Life L). put_by life) refl asked

      says_new : (asked : ℕ) → said_by_all asked (lives ++ begin (new_port connection number link) ∷ []) ≡ said_by_all asked lives ++ []
      says_new asked = trace_new (λ (life : Life L). packets_said life.events) refl asked

      taken_new : (asked : ℕ) → taken_by_all asked (lives ++ begin (new_port connection number link) ∷ []) ≡ taken_by_all asked lives ++ []
      taken_new asked = trace_new (λ (life : Life L). parcels_taken life.events) refl asked

      befell_new : (asked : ℕ) → befell_all asked (lives ++ begin (new_port connection number link) ∷ []) ≡ befell_all asked lives ++ []
      befell_new asked = trace_new (λ (life : Life L). happenings life.events) refl asked

  hear_new : (intake : Intake) (connection : ℕ) (link : L) (olds : List (PortFacts L)) (kept_before : RecordFacts) (intake_after : Intake) (news : List (PortFacts L)) (kept_after : RecordFacts) (takes : TakesOrTurns intake connection link olds kept_before intake_after news kept_after)
      (lives : List (Life L)) → olds ≡ filter stays (lasts lives) → HeardLives nothing (if_taken intake connection link olds kept_before intake_after news kept_after takes) lives news
  hear_new intake connection link olds kept_before intake_after news kept_after (inl takes) lives kept = record {
    now = lives ++ begin (new_port connection intake.number link) ∷ [];
    grows = grows_new lives connection intake.number link;
    kept = takes.ports_are
        ∙ (ap (λ (l : List (PortFacts L)). l ++ new_port connection intake.number link ∷ []) kept
        ∙ (sym (filter-append stays (lasts lives) (new_port connection intake.number link ∷ []))
        ∙ ap (λ (l : List (PortFacts L)). filter stays l) (sym (map-append (λ (life : Life L). life.last) lives (begin (new_port connection intake.number link) ∷ [])))));
  }
  hear_new intake connection link olds kept_before intake_after news kept_after (inr turns) lives kept = same_ports lives olds news turns.ports_same kept

  hear_lives : (item : Option (Rung L)) (old new : WorkerFacts L) (hears : Hears facts item old new) (lives : List (Life L)) → old.ports ≡ filter stays (lasts lives)
      → HeardLives (record { moments = told_by item; befallen = bell_befell facts item old new hears }) (taken_in facts item old new hears) lives new.ports
  hear_lives None old new same lives kept = same_ports lives old.ports new.ports (ap (λ (w : WorkerFacts L). w.ports) same) kept
  hear_lives (Some (Answer reply)) old new hears lives kept =
      hear_reply reply hears.takes.passes hears.takes.closed old.ports new.ports lives kept hears.takes.answers
  hear_lives (Some (Comes connection link)) old new hears lives kept =
      hear_new (intake_of old) connection link old.ports old.common.kept (intake_of new) new.ports new.common.kept hears.takes lives kept
  hear_lives (Some (Lagging session)) old new hears lives kept =
      let grown = grow_along facts opening (LagsWhereIts facts session) (λ (r : RecordFacts). [])
      (λ port before after_port after lags. record { moments = []; befallen = lag_befell facts session port before after_port after lags })
      (λ ports before ports_after after along. record { moments = []; befallen = lags_befell facts session ports before ports_after after along }) (λ before after same. refl) (λ port ports before after_port after_ports after along. refl)
      (λ life port before after_port after lags same. one_lag facts opening session life port before after_port after lags same)
      lives old.ports old.common.kept hears.each.stepped new.common.kept kept hears.each.along in record {
        now = grown.now;
        grows = with_put facts opening (record { moments = []; befallen = lags_befell facts session old.ports old.common.kept hears.each.stepped new.common.kept hears.each.along }) grown.put [] [] lives grown.now (sym grown.desk) grown.grows;
        kept = hears.each.left ∙ sym grown.kept;
      }
  hear_lives (Some NoMore) old new same lives kept = same_ports lives old.ports new.ports (ap (λ (w : WorkerFacts L). w.ports) same) kept

  -- the desk is left alone meanwhile
  hear_desk : (item : Option (Rung L)) (old new : WorkerFacts L) → Hears facts item old new → new.desk ≡ old.desk
  hear_desk None old new same = ap (λ (w : WorkerFacts L). w.desk) same
  hear_desk (Some (Answer reply)) old new hears = ap (λ (w : WorkerFacts L). w.desk) hears.rest
  hear_desk (Some (Comes connection link)) old new hears = ap (λ (w : WorkerFacts L). w.desk) hears.rest
  hear_desk (Some (Lagging session)) old new hears = ap (λ (w : WorkerFacts L). w.desk) hears.rest
  hear_desk (Some NoMore) old new same = ap (λ (w : WorkerFacts L). w.desk) same

  -- ---- the turns

  -- these lives lead from a worker to one that has these ports, and these items on the desk
  pub record Lasts (told : Course) (taken : List (PortFacts L)) (lives : List (Life L)) (before : List DeskItem) (ports : List (PortFacts L)) (after : List DeskItem) : Type 0 where
    pub put : List DeskItem
    pub now : List (Life L)
    pub grows : Grows facts opening told put taken lives now
    pub kept : ports ≡ filter stays (lasts now)
    pub desk : after ≡ before ++ put

  abbrev steps_course : (boxes : BoxesFacts) (olds : List (PortFacts L)) (before : Shares) (news : List (PortFacts L)) (after : Shares) → Along (PortSteps facts opening boxes) olds before news after → Course
  steps_course boxes olds before news after along = record {
    moments = moments_along opening facts boxes olds before news after along;
    befallen = steps_befell facts opening boxes olds before news after along;
  }

  turn_lives : (old new : WorkerFacts L) (turn : Turn) (turned : Turned facts opening old new turn) (lives : List (Life L)) → old.ports ≡ filter stays (lasts lives)
      → Lasts (record { moments = moments_of facts opening old new turn turned; befallen = turn_befell facts opening old new turn turned })
      (taken_in facts turned.hears.item (record old { bell = turned.hears.bell }) turned.between turned.hears.hears) lives old.desk.offered new.ports new.desk.offered
  turn_lives old new turn turned lives kept =
      let heard = hear_lives turned.hears.item (record old { bell = turned.hears.bell }) turned.between turned.hears.hears lives kept in
      let rung : Course = record {
        moments = told_by turned.hears.item;
        befallen = bell_befell facts turned.hears.item (record old { bell = turned.hears.bell }) turned.between turned.hears.hears;
      } in
      let looks : Course = steps_course turned.between.boxes turned.between.ports (shares_of turned.between turned.heard)
      turned.steps.steps.stepped (shares_of new turned.worked) turned.steps.steps.along in
      let stepped = grow_along facts opening (PortSteps facts opening turned.between.boxes) (λ (s : Shares). s.desk.offered)
      (step_course facts opening turned.between.boxes) (steps_course turned.between.boxes) (λ before after same. refl) (λ port ports before after_port after_ports after along. refl)
      (λ life port before after_port after steps same. one_step facts opening turned.between.boxes life port before after_port after steps same)
      heard.now turned.between.ports (shares_of turned.between turned.heard) turned.steps.steps.stepped (shares_of new turned.worked) heard.kept turned.steps.steps.along in
      let taken : List (PortFacts L) = taken_in facts turned.hears.item (record old { bell = turned.hears.bell }) turned.between turned.hears.hears in record {
        put = stepped.put;
        now = stepped.now;
        grows = with_taken facts opening (join rung looks) stepped.put (taken ++ []) taken lives stepped.now (append-nil taken)
            (grows_on facts opening rung looks [] stepped.put taken [] lives heard.now stepped.now heard.grows stepped.grows);
        kept = turned.steps.steps.left ∙ sym stepped.kept;
        desk = stepped.desk ∙ ap (λ (d : PassFacts DeskItem). d.offered ++ stepped.put) (hear_desk turned.hears.item (record old { bell = turned.hears.bell }) turned.between turned.hears.hears);
      }

  pub turns_live : (old : WorkerFacts L) (turns : List Turn) (new : WorkerFacts L) (all : TurnsTo (WorkerTurned facts opening) old turns new) (lives : List (Life L)) → old.ports ≡ filter stays (lasts lives)
      → Lasts (record { moments = history facts opening old turns new all; befallen = befallen facts opening old turns new all }) (ports_taken facts opening old turns new all) lives old.desk.offered new.ports new.desk.offered
  turns_live old [] new same lives kept = record {
    put = [];
    now = lives;
    grows = grows_same facts opening lives;
    kept = ap (λ (w : WorkerFacts L). w.ports) same ∙ kept;
    desk = ap (λ (w : WorkerFacts L). w.desk.offered) same ∙ sym (append-nil old.desk.offered);
  }
  turns_live old (turn ∷ turns) new (mid, turned, rest) lives kept =
      let first = turn_lives old mid turn turned lives kept in
      let others = turns_live mid turns new rest first.now first.kept in record {
        put = first.put ++ others.put;
        now = others.now;
        grows = grows_on facts opening
            (record { moments = moments_of facts opening old mid turn turned; befallen = turn_befell facts opening old mid turn turned })
            (record { moments = history facts opening mid turns new rest; befallen = befallen facts opening mid turns new rest })
            first.put others.put (taken_in facts turned.hears.item (record old { bell = turned.hears.bell }) turned.between turned.hears.hears)
            (ports_taken facts opening mid turns new rest) lives first.now others.now first.grows others.grows;
        kept = others.kept;
        desk = others.desk ∙ (ap (λ (l : List DeskItem). l ++ others.put) first.desk ∙ append_assoc old.desk.offered first.put others.put);
      }

  -- ---- from an opening on

  -- each port that is kept owes the desk something, and waits for it with items of its own connection
  pub record IsSettled (ports : List (PortFacts L)) : Type 0 where
    pub stay : filter stays ports ≡ ports
    pub own : Each WaitsForOwn ports

  pub opened_settled : (number : ℕ) (pass : _) (journal : Option ℕ) (opened : WorkerFacts L) (turns : List Turn) (mid : WorkerFacts L) → HasOpened number pass journal opened
      → TurnsTo (WorkerTurned facts opening) opened turns mid → IsSettled mid.ports
  opened_settled number pass journal opened turns mid begun all =
      let lasting = turns_live opened turns mid all [] begun.no_port in record {
        stay = ap (λ (l : List (PortFacts L)). filter stays l) lasting.kept ∙ (left_twice stays (lasts lasting.now) ∙ sym lasting.kept);
        own = subst (λ (l : List (PortFacts L)). Each WaitsForOwn l) (sym lasting.kept) (own_lasts lasting.now (lasting.grows.owned tt));
      }

  lived_begin : (ports : List (PortFacts L)) → Each (IsLife facts opening) (map begin ports)
  lived_begin [] = tt
  lived_begin (port ∷ ports) = (refl, lived_begin ports)

  sums : (new old now none put : ℕ) → new ≡ old + put → now ≡ none + put → none ≡ 0 → new ≡ old + now
  sums new old now none put a b c = omega (arith, a, b, c)

  pub have_lived : (old : WorkerFacts L) (turns : List Turn) (new : WorkerFacts L) (all : TurnsTo (WorkerTurned facts opening) old turns new) → IsSettled old.ports
      → ((connection : ℕ) → HasAtMostOne connection (old.ports ++ ports_taken facts opening old turns new all))
      → HaveLived facts opening old turns new all
  have_lived old turns new all settled few =
      let lasting = turns_live old turns new all (map begin old.ports) (sym settled.stay ∙ ap (λ (l : List (PortFacts L)). filter stays l) (sym (lasts-begin old.ports))) in
      let begun : firsts lasting.now ≡ old.ports ++ ports_taken facts opening old turns new all =
      lasting.grows.begun ∙ ap (λ (l : List (PortFacts L)). l ++ ports_taken facts opening old turns new all) (firsts-begin old.ports) in record {
        lives = lasting.now;
        begun = begun;
        lived = All-from_recursion (IsLife facts opening) lasting.now (lasting.grows.lived (lived_begin old.ports));
        kept = lasting.kept;
        put = λ test.
            sums (count test new.desk.offered) (count test old.desk.offered) (count test (put_by_all lasting.now)) (count test (put_by_all (map begin old.ports))) (count test lasting.put)
            (ap (λ (l : List DeskItem). count test l) lasting.desk ∙ count-append test old.desk.offered lasting.put)
            (lasting.grows.total test)
            (ap (λ (l : List DeskItem). count test l) (nothing_put old.ports));
        order = λ connection.
            ap (λ (l : List DeskItem). items_of connection l) lasting.desk
            ∙ (filter-append (is_item_of connection) old.desk.offered lasting.put
            ∙ ap (λ (l : List DeskItem). items_of connection old.desk.offered ++ l)
            (sym (lasting.grows.order (own_begin old.ports settled.own) connection (subst (λ (l : List (PortFacts L)). HasAtMostOne connection l) (sym begun) (few connection))
            ∙ ap (λ (l : List DeskItem). l ++ items_of connection lasting.put) (nothing_put_of connection old.ports))));
        routed = λ connection.
            sym (lasting.grows.says (own_begin old.ports settled.own) connection (subst (λ (l : List (PortFacts L)). HasAtMostOne connection l) (sym begun) (few connection))
            ∙ ap (λ (l : List Said). l ++ filter_map (routed_of connection) (history facts opening old turns new all)) (nothing_said connection old.ports));
        taken = λ connection.
            sym (lasting.grows.takes (own_begin old.ports settled.own) connection (subst (λ (l : List (PortFacts L)). HasAtMostOne connection l) (sym begun) (few connection))
            ∙ ap (λ (l : List Take). l ++ flat_map (taken_of connection) (history facts opening old turns new all)) (nothing_taken connection old.ports));
        befallen_to = λ connection.
            sym (lasting.grows.happens (own_begin old.ports settled.own) connection (subst (λ (l : List (PortFacts L)). HasAtMostOne connection l) (sym begun) (few connection))
            ∙ ap (λ (l : List Happening). l ++ happenings_of connection (befallen facts opening old turns new all)) (nothing_befell connection old.ports));
        waits = λ connection none.
            All-from_recursion (HandlesNothing connection) lasting.now
            (each_so (Waits connection) (HandlesNothing connection) (λ life waits of_it awaits. (waits of_it awaits).nothing) lasting.now
            (lasting.grows.waits connection (recursion_from_All (IsNoReplyTo connection) (history facts opening old turns new all) none) (waits_begin connection old.ports)));
      }
