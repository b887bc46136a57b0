-- What the desk has of a port once it is gone, and what each port did in order.
use Rattle.mum_worker_laws.proofs.Common.{◌≡◌, ◌==◌, ◌∙◌, ℕ, ◌+◌, Bool, true, false, not, cond, List, [], ◌∷◌, ◌++◌, All, length, filter, Option, Some, None, refl, ap, sym, subst, inl, inr, arith, option_to_list, Each, All-from_recursion, recursion_from_All, TurnsTo, Turn, LinkFacts, Frame, asked_item, PortFacts, item_of, new_port, Event, Lives, items_asked, lagged, replied, stepped, words_said, is_gone, DeskItem, Leave, LastWord, Done, Stage, Live, Ending, Closed, put_once, conserved, front_of, written_in_order, Rung, Answer, Comes, Lagging, NoMore, Opening, SessionId, action, Machine, session_of, Action, Ask, Bans, WorkerFacts, is_of, intake_of, stays, Hears, TakesOrTurns, HasOpened, RecordFacts, RoutesPacket, WorkerTurned, Intake, HaveLived, IsLife, IsNew, IsOrderly, Life, count, if_taken, is_closed_of, ports_taken, put_by, put_by_all, taken_in}
use Rattle.mum_worker_laws.proofs.{Changing.IsOwn, Counts.count-append, Counts.count-cons, Counts.count-left, Counts.each-append, Counts.each_both, Counts.each_map, Counts.one, Growing.firsts, Growing.lasts, Lasting.turns_live, LinkEnds.all_frames}

-- ---- the word that a port is gone

length-item : (b : Bool) (item : DeskItem) → length (cond b (item ∷ []) []) ≡ one b
length-item true item = refl
length-item false item = refl

words_closed : (connection : ℕ) (machine : Machine) (stage : Stage) → count (is_closed_of connection) (words_said machine stage) ≡ cond (is_gone stage) (one (machine.connection == connection)) 0
words_closed connection machine Live = refl
words_closed connection machine (Ending parting) = refl
words_closed connection machine (Closed cause Leave) = refl
words_closed connection machine (Closed cause LastWord) = refl
words_closed connection machine (Closed cause Done) = length-item (machine.connection == connection) _

-- no frame asks for it
none_acted : (connection own : ℕ) (session : Option SessionId) (asked : Action) (rest : List DeskItem)
    → count (is_closed_of connection) (option_to_list (item_of own session asked) ++ rest) ≡ count (is_closed_of connection) rest
none_acted connection own session (Ask command) rest = refl
none_acted connection own (Some sender) (Bans payload) rest = refl
none_acted connection own None (Bans payload) rest = refl
none_acted connection own session others rest = refl

none_asked : (connection : ℕ) (machine : Machine) (frame : Option Frame) (rest : List DeskItem)
    → count (is_closed_of connection) (option_to_list (asked_item machine frame) ++ rest) ≡ count (is_closed_of connection) rest
none_asked connection machine None rest = refl
none_asked connection machine (Some frame) rest = none_acted connection machine.connection (session_of machine.stage) (action machine frame.kind frame.payload) rest

asked_closed : (connection : ℕ) (events : List Event) → count (is_closed_of connection) (items_asked events) ≡ 0
asked_closed connection [] = refl
asked_closed connection (stepped machine did ∷ events) = none_asked connection machine did.handled (items_asked events) ∙ asked_closed connection events
asked_closed connection (replied heard closed ∷ events) = asked_closed connection events
asked_closed connection (lagged closed ∷ events) = asked_closed connection events

one_or_kept : (gone : Bool) (n : ℕ) → cond gone n 0 + cond (not gone) n 0 ≡ n
one_or_kept true n = omega arith
one_or_kept false n = omega arith

no_command : (commands waiting : ℕ) → 0 ≡ commands + waiting → commands ≡ 0
no_command commands waiting is = omega (arith, is)

put_closed : (put commands words gone kept own : ℕ) → put ≡ commands + words → commands ≡ 0 → words ≡ gone → gone + kept ≡ own → put + kept ≡ own
put_closed put commands words gone kept own a b c d = omega (arith, a, b, c, d)

all_closed : (put one_put rest_put left one_left rest_left first one_first rest_first : ℕ) → put ≡ one_put + rest_put → left ≡ one_left + rest_left → first ≡ one_first + rest_first
    → one_put + one_left ≡ one_first → rest_put + rest_left ≡ rest_first → put + left ≡ first
all_closed put one_put rest_put left one_left rest_left first one_first rest_first a b c d e = omega (arith, a, b, c, d, e)

module _ {L : Type 0} where
  if_new : (intake : Intake) (connection : ℕ) (link : L) (ports : List (PortFacts L)) (kept : RecordFacts) (intake_after : Intake) (ports_after : List (PortFacts L)) (kept_after : RecordFacts) (takes : TakesOrTurns intake connection link ports kept intake_after ports_after kept_after)
      → Each IsNew (if_taken intake connection link ports kept intake_after ports_after kept_after takes)
  if_new intake connection link ports kept intake_after ports_after kept_after (inl takes) = (record { connection = connection; worker = intake.number; link = link; is = refl }, tt)
  if_new intake connection link ports kept intake_after ports_after kept_after (inr turns) = tt

module _ {L : Type 0} (facts : L → LinkFacts) (opening : Opening) where
  taken_new : (item : Option (Rung L)) (old new : WorkerFacts L) (hears : Hears facts item old new) → Each IsNew (taken_in facts item old new hears)
  taken_new None old new hears = tt
  taken_new (Some (Answer reply)) old new hears = tt
  taken_new (Some (Comes connection link)) old new hears = if_new (intake_of old) connection link old.ports old.common.kept (intake_of new) new.ports new.common.kept hears.takes
  taken_new (Some (Lagging session)) old new hears = tt
  taken_new (Some NoMore) old new hears = tt

  pub ports_new : (old : WorkerFacts L) (turns : List Turn) (new : WorkerFacts L) (all : TurnsTo (WorkerTurned facts opening) old turns new) → Each IsNew (ports_taken facts opening old turns new all)
  ports_new old [] new all = tt
  ports_new old (turn ∷ turns) new (mid, turned, rest) =
      each-append IsNew (taken_in facts turned.hears.item (record old { bell = turned.hears.bell }) turned.between turned.hears.hears) (ports_taken facts opening mid turns new rest)
      (taken_new turned.hears.item (record old { bell = turned.hears.bell }) turned.between turned.hears.hears)
      (ports_new mid turns new rest)

  -- ---- each port in order

  from_new : (life : Life L) (new : IsNew life.first) → IsLife facts opening life
      → Lives facts (RoutesPacket opening) (new_port new.connection new.worker new.link) life.events life.last
  from_new life new lives = subst (λ (p : PortFacts L). Lives facts (RoutesPacket opening) p life.events life.last) new.is lives

  orderly_life : (life : Life L) → IsNew life.first → IsLife facts opening life → IsOrderly life
  orderly_life life new is_life =
      let lives = from_new life new is_life in
      let handled = conserved facts (RoutesPacket opening) new.connection new.worker new.link life.events life.last lives in
      let wrote = written_in_order facts (RoutesPacket opening) new.connection new.worker new.link life.events life.last lives in
      let put = put_once facts (RoutesPacket opening) new.connection new.worker new.link life.events life.last lives in record {
        handles = record {
          behind = handled.0;
          bytes = handled.1;
          each = handled.2;
          kept = handled.3;
          front = λ frames rest splits.
              front_of facts (RoutesPacket opening) new.connection new.worker new.link life.events life.last frames rest lives splits;
          at_end = λ ended. all_frames facts opening new.connection new.worker new.link life.events life.last lives ended;
        };
        writes = record { behind = wrote.0; bytes = wrote.1; kept = wrote.2 };
        puts = record { commands = put.0; put = put.1; asked = put.2 };
      }

  firsts_new : (number : ℕ) (pass : _) (journal : Option ℕ) (opened : WorkerFacts L) (turns : List Turn) (worker : WorkerFacts L) → HasOpened number pass journal opened
      → (all : TurnsTo (WorkerTurned facts opening) opened turns worker) (lives : List (Life L)) → firsts lives ≡ opened.ports ++ ports_taken facts opening opened turns worker all
      → Each (λ (life : Life L). IsNew life.first) lives
  firsts_new number pass journal opened turns worker begun all lives is =
      let taken : firsts lives ≡ ports_taken facts opening opened turns worker all =
      is ∙ ap (λ (l : List (PortFacts L)). l ++ ports_taken facts opening opened turns worker all) begun.no_port in
      each_map IsNew (λ (life : Life L). life.first) lives (subst (λ (l : List (PortFacts L)). Each IsNew l) (sym taken) (ports_new opened turns worker all))

  pub all_orderly : (number : ℕ) (pass : _) (journal : Option ℕ) (opened : WorkerFacts L) (turns : List Turn) (worker : WorkerFacts L) → HasOpened number pass journal opened
      → (all : TurnsTo (WorkerTurned facts opening) opened turns worker) (lived : HaveLived facts opening opened turns worker all) → All IsOrderly lived.lives
  all_orderly number pass journal opened turns worker begun all lived =
      All-from_recursion IsOrderly lived.lives
      (each_both (λ (life : Life L). IsNew life.first) (IsLife facts opening) IsOrderly orderly_life lived.lives
      (firsts_new number pass journal opened turns worker begun all lived.lives lived.begun)
      (recursion_from_All (IsLife facts opening) lived.lives lived.lived))

  -- ---- one word for each port

  life_closed : (connection : ℕ) (life : Life L) → IsOrderly life → IsOwn life
      → count (is_closed_of connection) (put_by life) + cond (stays life.last) (one (is_of connection life.last)) 0 ≡ one (is_of connection life.first)
  life_closed connection life orderly own =
      put_closed (count (is_closed_of connection) (put_by life)) (count (is_closed_of connection) orderly.puts.commands) (count (is_closed_of connection) (words_said life.last.machine life.last.stage))
      (cond (is_gone life.last.stage) (one (is_of connection life.last)) 0) (cond (stays life.last) (one (is_of connection life.last)) 0) (one (is_of connection life.first))
      (ap (λ (l : List DeskItem). count (is_closed_of connection) l) orderly.puts.put ∙ count-append (is_closed_of connection) orderly.puts.commands (words_said life.last.machine life.last.stage))
      (no_command (count (is_closed_of connection) orderly.puts.commands) (count (is_closed_of connection) (option_to_list life.last.waiting))
      (sym (asked_closed connection life.events) ∙ (ap (λ (l : List DeskItem). count (is_closed_of connection) l) orderly.puts.asked ∙ count-append (is_closed_of connection) orderly.puts.commands (option_to_list life.last.waiting))))
      (words_closed connection life.last.machine life.last.stage)
      (one_or_kept (is_gone life.last.stage) (one (is_of connection life.last)) ∙ ap (λ (n : ℕ). one (n == connection)) own.number)

  lives_closed : (connection : ℕ) (lives : List (Life L)) → Each IsOrderly lives → Each IsOwn lives
      → count (is_closed_of connection) (put_by_all lives) + count (is_of connection) (filter stays (lasts lives)) ≡ count (is_of connection) (firsts lives)
  lives_closed connection [] orderly own = omega arith
  lives_closed connection (life ∷ lives) orderly own =
      all_closed (count (is_closed_of connection) (put_by_all (life ∷ lives))) (count (is_closed_of connection) (put_by life)) (count (is_closed_of connection) (put_by_all lives))
      (count (is_of connection) (filter stays (lasts (life ∷ lives)))) (cond (stays life.last) (one (is_of connection life.last)) 0) (count (is_of connection) (filter stays (lasts lives)))
      (count (is_of connection) (firsts (life ∷ lives))) (one (is_of connection life.first)) (count (is_of connection) (firsts lives))
      (count-append (is_closed_of connection) (put_by life) (put_by_all lives))
      (count-left (is_of connection) stays life.last (lasts lives))
      (count-cons (is_of connection) life.first (firsts lives))
      (life_closed connection life orderly.0 own.0)
      (lives_closed connection lives orderly.1 own.1)

  sums_up : (offered all none put ports taken : ℕ) → offered ≡ put → all ≡ none + put → none ≡ 0 → all + ports ≡ taken → offered + ports ≡ taken
  sums_up offered all none put ports taken a b c d = omega (arith, a, b, c, d)

  pub one_closed : (number : ℕ) (pass : _) (journal : Option ℕ) (opened : WorkerFacts L) (turns : List Turn) (worker : WorkerFacts L) (connection : ℕ) → HasOpened number pass journal opened
      → (all : TurnsTo (WorkerTurned facts opening) opened turns worker)
      → count (is_closed_of connection) worker.desk.offered + count (is_of connection) worker.ports ≡ count (is_of connection) (ports_taken facts opening opened turns worker all)
  one_closed number pass journal opened turns worker connection begun all =
      let lasting = turns_live facts opening opened turns worker all [] begun.no_port in
      let taken : List (PortFacts L) = ports_taken facts opening opened turns worker all in
      let new = firsts_new number pass journal opened turns worker begun all lasting.now (lasting.grows.begun ∙ ap (λ (l : List (PortFacts L)). l ++ taken) (sym begun.no_port)) in
      let orderly = each_both (λ (life : Life L). IsNew life.first) (IsLife facts opening) IsOrderly orderly_life lasting.now new (lasting.grows.lived tt) in
      sums_up (count (is_closed_of connection) worker.desk.offered) (count (is_closed_of connection) (put_by_all lasting.now)) 0 (count (is_closed_of connection) lasting.put)
      (count (is_of connection) worker.ports) (count (is_of connection) taken)
      (ap (λ (l : List DeskItem). count (is_closed_of connection) l) (lasting.desk ∙ ap (λ (l : List DeskItem). l ++ lasting.put) begun.nothing_put))
      (lasting.grows.total (is_closed_of connection))
      refl
      (ap (λ (l : List (PortFacts L)). count (is_closed_of connection) (put_by_all lasting.now) + count (is_of connection) l) lasting.kept
      ∙ (lives_closed connection lasting.now orderly (lasting.grows.owned tt) ∙ ap (λ (l : List (PortFacts L)). count (is_of connection) l) lasting.grows.begun))
