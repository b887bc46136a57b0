-- One closing entry for each port, over turns.
use Rattle.mum_worker_laws.proofs.Common.{◌≡◌, ◌==◌, ◌∙◌, ◌≤◌, ◌&&◌, ◌||◌, ℕ, zero, suc, ◌+◌, ◌-◌, Bool, true, false, not, cond, min, List, [], ◌∷◌, ◌++◌, filter, length, nat_lt, slice_get, slice_set, if◌then◌else◌, Option, Some, None, refl, ap, sym, subst, inl, inr, arith, append_assoc, Each, nat_tests, eqb-true, append-nil, filter_map-append, Cause, SessionId, CONNECTION_LIMIT, ReplyEnd, Along, TurnsTo, Turn, LinkFacts, LAST, PortDid, action_of, stage_kept, PortFacts, new_port, Answers, Lags, is_closed, is_gone, stage_after_post, LooksWhereItMay, PortRoutes, Settled, PassesFacts, Leave, LastWord, Done, Stage, Live, Ending, Closed, taking-is, stage_once_put-closed, and-right, Rung, Answer, Comes, Lagging, NoMore, Opening, ReplyFacts, WorkerEntry, Machine, answered, Action, Voice, BoxesFacts, WorkerFacts, is_of, intake_of, stays, AnswersFirst, Hears, LagsWhereIts, TakesOrTurns, HasOpened, RecordFacts, after_close, first_record, has_closing_room, without_room, CommonFacts, RoutesPacket, PortSteps, Shares, Turned, WorkerTurned, shares_of, Intake, Befallen, Closing, befallen, befell, bell_befell, closing_in, closing_told, closings_in, closings_told, lags_befell, reply_befell, shut_for, steps_befell, turn_befell, closes_one, is_closing_of, is_open_of, is_open_one, IsNew, count, if_taken, ports_taken, taken_in}
use Rattle.mum_worker_laws.proofs.{Counts.count-append, Counts.count-cons, Counts.count-left, Counts.one, Ending.ports_new, Lasting.answered-open, Lasting.first_is_of, Own.connection-machine_after}
use Rattle.mum_base.specs.declared.reply.ReplyEnd.TheVariants as ends
use Rattle.mum_record.specs.declared.journal.WorkerEntry.TheVariants as entries

-- ---- an entry more

abbrev pub weigh : Option Cause → ℕ → ℕ
weigh None n = 0
weigh (Some cause) n = n

abbrev pub any : ℕ → Bool
any connection = true

-- what is noted of a close, where there is a journal
pub record Notes (connection : ℕ) (closed : Option Cause) (kept after : RecordFacts) : Type 0 where
  pub journal : after.journal ≡ true
  pub left : after.left ≡ kept.left
  pub owed : after.owed + weigh closed 1 ≡ kept.owed
  pub entries : (test : ℕ → Bool) → count (closes_one test) after.entries ≡ count (closes_one test) kept.entries + weigh closed (one (test connection))
  pub shut : closings_told after.entries ≡ closings_told kept.entries ++ closings_in (befell connection (shut_for closed))

room_owed : (journal : Bool) (owed : ℕ) → journal ≡ true → 1 ≤ owed → journal && nat_lt 0 owed ≡ true
room_owed true owed asked some = grind (arith, nat_tests)
room_owed false owed asked some = absurd (cc)

one_less : (after owed : ℕ) → after ≡ owed - 1 → 1 ≤ owed → after + 1 ≡ owed
one_less after owed is some = omega (arith, is, some)

pub notes : (connection : ℕ) (closed : Option Cause) (kept : RecordFacts) → kept.journal ≡ true → weigh closed 1 ≤ kept.owed → Notes connection closed kept (after_close connection closed kept)
notes connection None kept asked room = record {
  journal = asked;
  left = refl;
  owed = omega arith;
  entries = λ test. omega arith;
  shut = sym (append-nil (closings_told kept.entries));
}
notes connection (Some cause) kept asked room =
    let has : has_closing_room kept ≡ true = room_owed kept.journal kept.owed asked room in
    let closing : WorkerEntry = entries.Closed connection cause in
    let more : (after_close connection (Some cause) kept).entries ≡ kept.entries ++ closing ∷ [] =
    ap (λ (b : Bool). if b then kept.entries ++ closing ∷ [] else kept.entries) has in
    record {
      journal = asked;
      left = refl;
      owed = one_less (after_close connection (Some cause) kept).owed kept.owed (ap (λ (b : Bool). if b then kept.owed - 1 else kept.owed) has) room;
      entries = λ test. last_counted test more;
      shut = ap (λ (l : List WorkerEntry). closings_told l) more ∙ filter_map-append closing_told kept.entries (closing ∷ []);
    }
  where
    last_counted : (test : ℕ → Bool) → (after_close connection (Some cause) kept).entries ≡ kept.entries ++ entries.Closed connection cause ∷ []
        → count (closes_one test) (after_close connection (Some cause) kept).entries ≡ count (closes_one test) kept.entries + one (test connection)
    last_counted test more =
        let behind = count-append (closes_one test) kept.entries (entries.Closed connection cause ∷ []) in
        let last = count-cons (closes_one test) (entries.Closed connection cause) [] in
        let all = ap (λ (l : List WorkerEntry). count (closes_one test) l) more in
        omega (arith, all, behind, last)

-- what a packet notes is no close
pub record Same (kept after : RecordFacts) : Type 0 where
  pub journal : after.journal ≡ kept.journal
  pub left : after.left ≡ kept.left
  pub owed : after.owed ≡ kept.owed
  pub entries : (test : ℕ → Bool) → count (closes_one test) after.entries ≡ count (closes_one test) kept.entries
  pub shut : closings_told after.entries ≡ closings_told kept.entries

same_kept : (kept after : RecordFacts) → after ≡ kept → Same kept after
same_kept kept after is = record {
  journal = ap (λ (k : RecordFacts). k.journal) is;
  left = ap (λ (k : RecordFacts). k.left) is;
  owed = ap (λ (k : RecordFacts). k.owed) is;
  entries = λ test. ap (λ (k : RecordFacts). count (closes_one test) k.entries) is;
  shut = ap (λ (k : RecordFacts). closings_told k.entries) is;
}

voice_counted : (test : ℕ → Bool) (before : List WorkerEntry) (connection revision : ℕ) (bytes : List ℕ) (marks : _) (journal : Bool)
    → count (closes_one test) (if journal then before ++ entries.Voice connection revision bytes marks ∷ [] else before) ≡ count (closes_one test) before
voice_counted test before connection revision bytes marks true =
    let behind = count-append (closes_one test) before (entries.Voice connection revision bytes marks ∷ []) in
    let last = count-cons (closes_one test) (entries.Voice connection revision bytes marks) [] in
    omega (arith, behind, last)
voice_counted test before connection revision bytes marks false = refl

voice_tells : (before : List WorkerEntry) (connection revision : ℕ) (bytes : List ℕ) (marks : _) (journal : Bool)
    → closings_told (if journal then before ++ entries.Voice connection revision bytes marks ∷ [] else before) ≡ closings_told before
voice_tells before connection revision bytes marks true =
    filter_map-append closing_told before (entries.Voice connection revision bytes marks ∷ []) ∙ append-nil (closings_told before)
voice_tells before connection revision bytes marks false = refl

routed_same : (opening : Opening) (old : CommonFacts) (connection : ℕ) (speaker : SessionId) (bytes : List ℕ) (new : CommonFacts) → RoutesPacket opening old connection speaker bytes new → Same old.kept new.kept
routed_same opening old connection speaker bytes new (inl drops) = same_kept old.kept new.kept drops.none_kept
routed_same opening old connection speaker bytes new (inr keeps) = record {
  journal = ap (λ (k : RecordFacts). k.journal) keeps.entry;
  left = ap (λ (k : RecordFacts). k.left) keeps.entry;
  owed = ap (λ (k : RecordFacts). k.owed) keeps.entry;
  entries = λ test.
      ap (λ (k : RecordFacts). count (closes_one test) k.entries) keeps.entry
      ∙ voice_counted test old.kept.entries connection keeps.routed.revision bytes new.router.marks old.kept.journal;
  shut = ap (λ (k : RecordFacts). closings_told k.entries) keeps.entry
      ∙ voice_tells old.kept.entries connection keeps.routed.revision bytes new.router.marks old.kept.journal;
}

acted_same : (opening : Opening) (connection : ℕ) (session : Option SessionId) (asked : Option Action) (old new : CommonFacts) → PortRoutes (RoutesPacket opening) connection session asked old new → Same old.kept new.kept
acted_same opening connection session (Some (Voice packet)) old new routes = routed_same opening old connection routes.0 packet new routes.2
acted_same opening connection session others old new same = same_kept old.kept new.kept (ap (λ (c : CommonFacts). c.kept) same)

-- ---- a port

by_last : (last : Bool) (stage : Stage) → is_closed stage ≡ false → is_closed (stage_after_post last stage) ≡ false
by_last true stage opened = refl
by_last false stage opened = opened

-- a port that is let go is closed
let_go : (test : ℕ → Bool) (machine : Machine) (stage : Stage) → cond (not (is_gone stage)) (one (if is_closed stage then false else test machine.connection)) 0 ≡ one (if is_closed stage then false else test machine.connection)
let_go test machine Live = refl
let_go test machine (Ending parting) = refl
let_go test machine (Closed cause Leave) = refl
let_go test machine (Closed cause LastWord) = refl
let_go test machine (Closed cause Done) = refl

module _ {L : Type 0} where
  -- a port closes once, and stays that of its connection
  pub record Goes (closed : Option Cause) (old new : PortFacts L) : Type 0 where
    pub connection : new.machine.connection ≡ old.machine.connection
    pub counted : (test : ℕ → Bool) → one (is_open_one test new) + weigh closed (one (test old.machine.connection)) ≡ one (is_open_one test old)

  goes_on : (old new : PortFacts L) → new.machine.connection ≡ old.machine.connection → is_closed new.stage ≡ is_closed old.stage → Goes None old new
  goes_on old new same stage = record {
    connection = same;
    counted = λ test.
        let opened = ap (λ (b : Bool). one (if b then false else test new.machine.connection)) stage in
        let tested = ap (λ (n : ℕ). one (if is_closed old.stage then false else test n)) same in
        omega (arith, opened, tested);
  }

  goes_off : (old new : PortFacts L) (cause : Cause) → new.machine.connection ≡ old.machine.connection → is_closed old.stage ≡ false → is_closed new.stage ≡ true → Goes (Some cause) old new
  goes_off old new cause same was_open is_shut = record {
    connection = same;
    counted = λ test.
        let shut = ap (λ (b : Bool). one (if b then false else test new.machine.connection)) is_shut in
        let opened = ap (λ (b : Bool). one (if b then false else test old.machine.connection)) was_open in
        omega (arith, shut, opened);
  }

  kept_open : (old : PortFacts L) (did : PortDid) (new : PortFacts L) → LooksWhereItMay old did new → is_closed (stage_kept old did) ≡ is_closed old.stage
  kept_open old did new (inl nothing) =
      ap (λ p. is_closed (stage_kept old (record did { post = p }))) nothing.0.0 ∙ stage_once_put-closed did.put old.waiting old.stage
  kept_open old did new (inr looks) =
      let opened : is_closed old.stage ≡ false = ap (λ (s : Stage). is_closed s) (taking-is old looks.0 looks.1).0 in
      by_last _ _ (stage_once_put-closed did.put old.waiting old.stage ∙ opened) ∙ sym opened

  all_open : (test : ℕ → Bool) (ports : List (PortFacts L)) → count (is_open_one test) (filter stays ports) ≡ count (is_open_one test) ports
  all_open test [] = refl
  all_open test (port ∷ ports) =
      let rest = all_open test ports in
      let first = let_go test port.machine port.stage in
      let kept = count-left (is_open_one test) stays port ports in
      let all = count-cons (is_open_one test) port ports in
      omega (arith, rest, first, kept, all)

  -- one of them was changed
  changed : (test : ℕ → Bool) (ports : List (PortFacts L)) (place : ℕ) (old new : PortFacts L) → slice_get ports place ≡ Some old
      → count (is_open_one test) (slice_set ports place new) + one (is_open_one test old) ≡ count (is_open_one test) ports + one (is_open_one test new)
  changed test [] place old new there = absurd (cc there)
  changed test (port ∷ ports) zero old new there =
      let before = count-cons (is_open_one test) port ports in
      let after = count-cons (is_open_one test) new ports in
      let is : one (is_open_one test port) ≡ one (is_open_one test old) = ap (λ (p : PortFacts L). one (is_open_one test p)) (some_is port old there) in
      omega (arith, before, after, is)
    where
      some_is : (a b : PortFacts L) → Some a ≡ Some b → a ≡ b
      some_is a b is = cc is
  changed test (port ∷ ports) (suc place) old new there =
      let rest = changed test ports place old new there in
      let before = count-cons (is_open_one test) port ports in
      let after = count-cons (is_open_one test) port (slice_set ports place new) in
      omega (arith, rest, before, after)

-- ---- what is kept in balance: as many closing entries are owed as connections may still come, and ports are open

pub record Balance {L : Type 0} (kept : RecordFacts) (ports : List (PortFacts L)) (rest : ℕ) : Type 0 where
  pub journal : kept.journal ≡ true
  pub owed : kept.owed ≡ kept.left + (rest + count (is_open_one any) ports)

-- what became of it: as many entries came as ports closed, and they report the closings that befell ports
pub record Keeps {L : Type 0} (taken : (ℕ → Bool) → ℕ) (told : List Befallen) (kept : RecordFacts) (olds : List (PortFacts L)) (after : RecordFacts) (news : List (PortFacts L)) (rest : ℕ) : Type 0 where
  pub balance : Balance after news rest
  pub entries : (test : ℕ → Bool) → count (closes_one test) after.entries + count (is_open_one test) news ≡ count (closes_one test) kept.entries + (count (is_open_one test) olds + taken test)
  pub shut : closings_told after.entries ≡ closings_told kept.entries ++ closings_in told

-- closings after closings
told_on : (kept mid after : List Closing) (told more : List Befallen) → mid ≡ kept ++ closings_in told → after ≡ mid ++ closings_in more → after ≡ kept ++ closings_in (told ++ more)
told_on kept mid after told more first other =
    other ∙ (ap (λ (l : List Closing). l ++ closings_in more) first
    ∙ (append_assoc kept (closings_in told) (closings_in more) ∙ ap (λ (l : List Closing). kept ++ l) (sym (filter_map-append closing_in told more))))

none_told : (kept after : List Closing) → after ≡ kept → after ≡ kept ++ closings_in []
none_told kept after same = same ∙ sym (append-nil kept)

abbrev pub none_taken : (ℕ → Bool) → ℕ
none_taken test = 0

may_close : (closed : Option Cause) (owed left rest others new old : ℕ) → owed ≡ left + (rest + (old + others)) → new + weigh closed 1 ≡ old → weigh closed 1 ≤ owed
may_close None owed left rest others new old a b = omega arith
may_close (Some cause) owed left rest others new old a b = omega (arith, a, b)

module _ {L : Type 0} where
  -- one port went, and its close was noted
  one_goes : (connection : ℕ) (closed : Option Cause) (old new : PortFacts L) (olds : List (PortFacts L)) (kept mid after : RecordFacts) (rest : ℕ) → Balance kept (old ∷ olds) rest → Goes closed old new → connection ≡ old.machine.connection
      → Same kept mid → after ≡ after_close connection closed mid → Notes old.machine.connection closed mid after
  one_goes connection closed old new olds kept mid after rest balance goes is same noted =
      let all = count-cons (is_open_one any) old olds in
      let owed = balance.owed in
      let owed_same = same.owed in
      let left_same = same.left in
      let step = goes.counted any in
      let room : weigh closed 1 ≤ mid.owed =
      may_close closed mid.owed mid.left rest (count (is_open_one any) olds) (one (is_open_one any new)) (one (is_open_one any old)) (omega (arith, all, owed, owed_same, left_same)) step in
      subst (λ (k : RecordFacts). Notes old.machine.connection closed mid k) (sym noted)
      (subst (λ (n : ℕ). Notes old.machine.connection closed mid (after_close n closed mid)) (sym is) (notes old.machine.connection closed mid (same.journal ∙ balance.journal) room))

  -- it went before the others
  then_others : (closed : Option Cause) (told : List Befallen) (old new : PortFacts L) (olds news : List (PortFacts L)) (kept mid after last : RecordFacts) (rest : ℕ) → Balance kept (old ∷ olds) rest → Goes closed old new → Same kept mid
      → Notes old.machine.connection closed mid after → (Balance after olds (rest + one (is_open_one any new)) → Keeps none_taken told after olds last news (rest + one (is_open_one any new)))
      → Keeps none_taken (befell old.machine.connection (shut_for closed) ++ told) kept (old ∷ olds) last (new ∷ news) rest
  then_others closed told old new olds news kept mid after last rest balance goes same noted others =
      let all = count-cons (is_open_one any) old olds in
      let owed = balance.owed in
      let owed_same = same.owed in
      let left_same = same.left in
      let left_after = noted.left in
      let owed_after = noted.owed in
      let step = goes.counted any in
      let more = others (record { journal = noted.journal; owed = settle closed after.owed after.left mid.owed mid.left kept.owed kept.left rest (count (is_open_one any) (old ∷ olds)) (one (is_open_one any old)) (count (is_open_one any) olds) (one (is_open_one any new)) all owed owed_same left_same left_after owed_after step }) in
      record {
        balance = record {
          journal = more.balance.journal;
          owed =
              let so = more.balance.owed in
              let both = count-cons (is_open_one any) new news in
              omega (arith, so, both);
        };
        entries = λ test. sums test (more.entries test);
        shut = told_on (closings_told kept.entries) (closings_told after.entries) (closings_told last.entries) (befell old.machine.connection (shut_for closed)) told
            (noted.shut ∙ ap (λ (l : List Closing). l ++ closings_in (befell old.machine.connection (shut_for closed))) same.shut) more.shut;
      }
    where
      settle : (closed : Option Cause) (owed3 left3 owed2 left2 owed1 left1 rest all one_old others one_new : ℕ) → all ≡ one_old + others → owed1 ≡ left1 + (rest + all) → owed2 ≡ owed1 → left2 ≡ left1 → left3 ≡ left2
          → owed3 + weigh closed 1 ≡ owed2 → one_new + weigh closed 1 ≡ one_old → owed3 ≡ left3 + ((rest + one_new) + others)
      settle None owed3 left3 owed2 left2 owed1 left1 rest all one_old others one_new a b c d e f g = omega (arith, a, b, c, d, e, f, g)
      settle (Some cause) owed3 left3 owed2 left2 owed1 left1 rest all one_old others one_new a b c d e f g = omega (arith, a, b, c, d, e, f, g)

      sums : (test : ℕ → Bool) → count (closes_one test) last.entries + count (is_open_one test) news ≡ count (closes_one test) after.entries + (count (is_open_one test) olds + 0)
          → count (closes_one test) last.entries + count (is_open_one test) (new ∷ news) ≡ count (closes_one test) kept.entries + (count (is_open_one test) (old ∷ olds) + 0)
      sums test more =
          let before = count-cons (is_open_one test) old olds in
          let after_it = count-cons (is_open_one test) new news in
          let same_entries = same.entries test in
          let entry = noted.entries test in
          let step = goes.counted test in
          omega (arith, more, before, after_it, same_entries, entry, step)

module _ {L : Type 0} (facts : L → LinkFacts) (opening : Opening) where
  -- ---- the steps of the ports

  goes_settled : (old : PortFacts L) (did : PortDid) (new : PortFacts L) (closed : Option Cause) → new.machine.connection ≡ old.machine.connection → LooksWhereItMay old did new → Settled facts old did new closed → Goes closed old new
  goes_settled old did new None same looks stays_so = goes_on old new same (ap (λ (s : Stage). is_closed s) stays_so.stage ∙ kept_open old did new looks)
  goes_settled old did new (Some cause) same looks closes = goes_off old new cause same closes.was_open (ap (λ (s : Stage). is_closed s) closes.stage)

  stale_same : (kept : RecordFacts) (stale : ℕ) → Same kept (record kept { stale = stale })
  stale_same kept stale = record { journal = refl; left = refl; owed = refl; entries = λ test. refl; shut = refl }

  same_twice : (a b c : RecordFacts) → Same a b → Same b c → Same a c
  same_twice a b c first second = record {
    journal = second.journal ∙ first.journal;
    left = second.left ∙ first.left;
    owed = second.owed ∙ first.owed;
    entries = λ test. second.entries test ∙ first.entries test;
    shut = second.shut ∙ first.shut;
  }

  steps_keep : (boxes : BoxesFacts) (olds : List (PortFacts L)) (before : Shares) (news : List (PortFacts L)) (after : Shares) (rest : ℕ) (along : Along (PortSteps facts opening boxes) olds before news after) → Balance before.common.kept olds rest
      → Keeps none_taken (steps_befell facts opening boxes olds before news after along) before.common.kept olds after.common.kept news rest
  steps_keep boxes [] before [] after rest same balance = record {
    balance = subst (λ (s : Shares). Balance {L = L} s.common.kept [] rest) (sym same) balance;
    entries = λ test. let is = ap (λ (s : Shares). count (closes_one test) s.common.kept.entries) same in omega (arith, is);
    shut = none_told (closings_told before.common.kept.entries) (closings_told after.common.kept.entries) (ap (λ (s : Shares). closings_told s.common.kept.entries) same);
  }
  steps_keep boxes [] before (new ∷ news) after rest none balance = absurd none
  steps_keep boxes (old ∷ olds) before [] after rest none balance = absurd none
  steps_keep boxes (old ∷ olds) before (new ∷ news) after rest (between, step, along) balance =
      let turn = step.turned.1 in
      let did = step.turned.0 in
      let number : new.machine.connection ≡ old.machine.connection = ap (λ (m : Machine). m.connection) turn.handles.machine ∙ connection-machine_after old.machine did.handled in
      let goes : Goes did.closed old new = goes_settled old did new did.closed number turn.takes.looks turn.ends.settled in
      let mid : RecordFacts = record step.routed.kept { stale = min (step.routed.kept.stale + step.step.stale) LAST } in
      let same : Same before.common.kept mid =
      same_twice before.common.kept step.routed.kept mid (acted_same opening old.machine.connection _ (action_of old.machine did.handled) before.common step.routed turn.routes) (stale_same step.routed.kept _) in
      let noted = one_goes old.machine.connection did.closed old new olds before.common.kept mid between.common.kept rest balance goes refl same
      (ap (λ (c : CommonFacts). c.kept) step.noted ∙ ap (λ (closed : Option Cause). after_close old.machine.connection closed mid) turn.ends.reported) in
      then_others did.closed (steps_befell facts opening boxes olds between news after along) old new olds news before.common.kept mid between.common.kept after.common.kept rest balance goes same noted
      (λ more. steps_keep boxes olds between news after (rest + one (is_open_one any new)) along more)

  -- ---- the bell

  goes_lagged : (old : PortFacts L) (closed : Option Cause) (new : PortFacts L) → Lags facts old closed new → Goes closed old new
  goes_lagged old closed new (inl same) =
      subst (λ (c : Option Cause). Goes c old new) (sym same.so) (goes_on old new (ap (λ (p : PortFacts L). p.machine.connection) same.same) (ap (λ (p : PortFacts L). is_closed p.stage) same.same))
  goes_lagged old closed new (inr closes) =
      subst (λ (c : Option Cause). Goes c old new) (sym closes.1)
      (goes_off old new _ (ap (λ (p : PortFacts L). p.machine.connection) closes.2.rest) closes.0 (ap (λ (p : PortFacts L). is_closed p.stage) closes.2.rest))

  answered_number : (end : ReplyEnd) (machine : Machine) → (answered end machine).connection ≡ machine.connection
  answered_number (ends.Joined session slot) machine = refl
  answered_number ends.Decided machine = refl
  answered_number ends.Rejected machine = refl

  goes_answered : (end : ReplyEnd) (wire : List ℕ) (passes : Option PassesFacts) (old : PortFacts L) (closed : Option Cause) (new : PortFacts L) → Answers facts end wire passes old closed new → Goes closed old new
  goes_answered end wire passes old closed new (inl same) =
      subst (λ (c : Option Cause). Goes c old new) (sym same.so) (goes_on old new (ap (λ (p : PortFacts L). p.machine.connection) same.same) (ap (λ (p : PortFacts L). is_closed p.stage) same.same))
  goes_answered end wire passes old closed new (inr (inl takes)) =
      subst (λ (c : Option Cause). Goes c old new) (sym takes.so)
      (goes_on old new (ap (λ (p : PortFacts L). p.machine.connection) takes.rest ∙ answered_number end old.machine)
      (ap (λ (p : PortFacts L). is_closed p.stage) takes.rest ∙ answered-open end old.stage takes.was_open ∙ sym takes.was_open))
  goes_answered end wire passes old closed new (inr (inr closes)) =
      subst (λ (c : Option Cause). Goes c old new) (sym closes.so)
      (goes_off old new _ (ap (λ (p : PortFacts L). p.machine.connection) closes.closes.rest ∙ answered_number end old.machine) closes.was_open (ap (λ (p : PortFacts L). is_closed p.stage) closes.closes.rest))

  same_here : (kept : RecordFacts) → Same kept kept
  same_here kept = record { journal = refl; left = refl; owed = refl; entries = λ test. refl; shut = refl }

  lags_keep : (session : SessionId) (olds : List (PortFacts L)) (before : RecordFacts) (news : List (PortFacts L)) (after : RecordFacts) (rest : ℕ) (along : Along (LagsWhereIts facts session) olds before news after) → Balance before olds rest
      → Keeps none_taken (lags_befell facts session olds before news after along) before olds after news rest
  lags_keep session [] before [] after rest same balance = record {
    balance = subst (λ (k : RecordFacts). Balance {L = L} k [] rest) (sym same) balance;
    entries = λ test. let is = ap (λ (k : RecordFacts). count (closes_one test) k.entries) same in omega (arith, is);
    shut = none_told (closings_told before.entries) (closings_told after.entries) (ap (λ (k : RecordFacts). closings_told k.entries) same);
  }
  lags_keep session [] before (new ∷ news) after rest none balance = absurd none
  lags_keep session (old ∷ olds) before [] after rest none balance = absurd none
  lags_keep session (old ∷ olds) before (new ∷ news) after rest (between, inl passes, along) balance =
      let goes : Goes None old new = goes_on old new (ap (λ (p : PortFacts L). p.machine.connection) passes.same) (ap (λ (p : PortFacts L). is_closed p.stage) passes.same) in
      let noted = one_goes old.machine.connection None old new olds before before between rest balance goes refl (same_here before) passes.kept_same in
      then_others None (lags_befell facts session olds between news after along) old new olds news before before between after rest balance goes (same_here before) noted
      (λ more. lags_keep session olds between news after (rest + one (is_open_one any new)) along more)
  lags_keep session (old ∷ olds) before (new ∷ news) after rest (between, inr lags, along) balance =
      let goes = goes_lagged old lags.closed new lags.lags in
      let noted = one_goes old.machine.connection lags.closed old new olds before before between rest balance goes refl (same_here before) lags.noted in
      then_others lags.closed (lags_befell facts session olds between news after along) old new olds news before before between after rest balance goes (same_here before) noted
      (λ more. lags_keep session olds between news after (rest + one (is_open_one any new)) along more)

  -- those that are let go were closed
  left_keep : (told : List Befallen) (kept : RecordFacts) (olds : List (PortFacts L)) (after : RecordFacts) (stepped news : List (PortFacts L)) → news ≡ filter stays stepped → Keeps none_taken told kept olds after stepped 0 → Keeps none_taken told kept olds after news 0
  left_keep told kept olds after stepped news is keeps = record {
    balance = record {
      journal = keeps.balance.journal;
      owed =
          let owed = keeps.balance.owed in
          let left_ones = ap (λ (ps : List (PortFacts L)). count (is_open_one any) ps) is ∙ all_open any stepped in
          omega (arith, owed, left_ones);
    };
    entries = λ test.
        let so = keeps.entries test in
        let left_ones = ap (λ (ps : List (PortFacts L)). count (is_open_one test) ps) is ∙ all_open test stepped in
        omega (arith, so, left_ones);
    shut = keeps.shut;
  }

  -- a reply
  reply_keeps : (reply : ReplyFacts) (passes : Option PassesFacts) (olds : List (PortFacts L)) (closed : Option Cause) (news : List (PortFacts L)) (kept after : RecordFacts)
      (answers : AnswersFirst facts reply.connection reply.end reply.wire passes olds closed news) → after ≡ after_close reply.connection closed kept → Balance kept olds 0
      → Keeps none_taken (reply_befell facts reply passes olds closed news answers) kept olds after news 0
  reply_keeps reply passes olds closed news kept after (inl none) noted balance =
      let same : after ≡ kept = noted ∙ ap (λ (c : Option Cause). after_close reply.connection c kept) none.closed_none in record {
        balance = record {
          journal = ap (λ (k : RecordFacts). k.journal) same ∙ balance.journal;
          owed =
              let owed = balance.owed in
              let owed_same = ap (λ (k : RecordFacts). k.owed) same in
              let left_same = ap (λ (k : RecordFacts). k.left) same in
              let ports_same = ap (λ (ps : List (PortFacts L)). count (is_open_one any) ps) none.same in
              omega (arith, owed, owed_same, left_same, ports_same);
        };
        entries = λ test.
            let entries_same = ap (λ (k : RecordFacts). count (closes_one test) k.entries) same in
            let ports_same = ap (λ (ps : List (PortFacts L)). count (is_open_one test) ps) none.same in
            omega (arith, entries_same, ports_same);
        shut = none_told (closings_told kept.entries) (closings_told after.entries) (ap (λ (k : RecordFacts). closings_told k.entries) same);
      }
  reply_keeps reply passes olds closed news kept after (inr first) noted balance =
      let connection : ℕ = reply.connection in
      let goes = goes_answered reply.end reply.wire passes first.old closed first.new first.answers in
      let its : first.old.machine.connection ≡ connection = eqb-true first.old.machine.connection connection (first_is_of facts opening connection olds first.place first.old first.first first.there) in
      let set = changed any olds first.place first.old first.new first.there in
      let owed = balance.owed in
      let step = goes.counted any in
      let room : weigh closed 1 ≤ kept.owed = may_weigh closed kept.owed kept.left (count (is_open_one any) olds) (count (is_open_one any) (slice_set olds first.place first.new)) (one (is_open_one any first.new)) (one (is_open_one any first.old)) owed set step in
      let so : Notes connection closed kept after = subst (λ (k : RecordFacts). Notes connection closed kept k) (sym noted) (notes connection closed kept balance.journal room) in
      record {
        balance = record {
          journal = so.journal;
          owed =
              let left_after = so.left in
              let owed_after = so.owed in
              let ports = ap (λ (ps : List (PortFacts L)). count (is_open_one any) ps) first.others in
              balanced closed after.owed after.left kept.owed kept.left (count (is_open_one any) olds) (count (is_open_one any) (slice_set olds first.place first.new)) (count (is_open_one any) news) (one (is_open_one any first.new)) (one (is_open_one any first.old))
              owed set step left_after owed_after ports;
        };
        entries = λ test.
            let set_test = changed test olds first.place first.old first.new first.there in
            let ports = ap (λ (ps : List (PortFacts L)). count (is_open_one test) ps) first.others in
            let step_test = goes.counted test in
            let entry = so.entries test in
            let tested = ap (λ (n : ℕ). weigh closed (one (test n))) its in
            omega (arith, set_test, ports, step_test, entry, tested);
        shut = so.shut;
      }
    where
      may_weigh : (closed : Option Cause) (owed left all set one_new one_old : ℕ) → owed ≡ left + (0 + all) → set + one_old ≡ all + one_new → one_new + weigh closed 1 ≡ one_old → weigh closed 1 ≤ owed
      may_weigh None owed left all set one_new one_old a b c = omega arith
      may_weigh (Some cause) owed left all set one_new one_old a b c = omega (arith, a, b, c)

      balanced : (closed : Option Cause) (owed2 left2 owed1 left1 all set now one_new one_old : ℕ) → owed1 ≡ left1 + (0 + all) → set + one_old ≡ all + one_new → one_new + weigh closed 1 ≡ one_old → left2 ≡ left1 → owed2 + weigh closed 1 ≡ owed1 → now ≡ set
          → owed2 ≡ left2 + (0 + now)
      balanced None owed2 left2 owed1 left1 all set now one_new one_old a b c d e f = omega (arith, a, b, c, d, e, f)
      balanced (Some cause) owed2 left2 owed1 left1 all set now one_new one_old a b c d e f = omega (arith, a, b, c, d, e, f)

  -- a connection that comes
  room_for : (journal : Bool) (left : ℕ) → journal ≡ true → not journal || nat_lt 0 left ≡ true → 1 ≤ left
  room_for true left asked room = grind (arith, nat_tests)
  room_for false left asked room = absurd (cc)

  comes_keep : (intake : Intake) (connection : ℕ) (link : L) (ports : List (PortFacts L)) (kept : RecordFacts) (intake_after : Intake) (ports_after : List (PortFacts L)) (kept_after : RecordFacts) (takes : TakesOrTurns intake connection link ports kept intake_after ports_after kept_after) → Balance kept ports 0
      → Keeps (λ test. count (is_open_one test) (if_taken intake connection link ports kept intake_after ports_after kept_after takes)) [] kept ports kept_after ports_after 0
  comes_keep intake connection link ports kept intake_after ports_after kept_after (inl takes) balance =
      let port : PortFacts L = new_port connection intake.number link in
      let some : 1 ≤ kept.left = room_for kept.journal kept.left balance.journal (and-right (nat_lt (length ports) CONNECTION_LIMIT) _ takes.room) in
      record {
        balance = record {
          journal = ap (λ (k : RecordFacts). k.journal) takes.kept_is ∙ balance.journal;
          owed =
              let owed = balance.owed in
              let owed_same = ap (λ (k : RecordFacts). k.owed) takes.kept_is in
              let left_less = ap (λ (k : RecordFacts). k.left) takes.kept_is in
              let more = ap (λ (ps : List (PortFacts L)). count (is_open_one any) ps) takes.ports_are ∙ count-append (is_open_one any) ports (port ∷ []) in
              let last = count-cons (is_open_one any) port [] in
              omega (arith, owed, owed_same, left_less, more, last, some);
        };
        entries = λ test.
            let entries_same = ap (λ (k : RecordFacts). count (closes_one test) k.entries) takes.kept_is in
            let more = ap (λ (ps : List (PortFacts L)). count (is_open_one test) ps) takes.ports_are ∙ count-append (is_open_one test) ports (port ∷ []) in
            omega (arith, entries_same, more);
        shut = none_told (closings_told kept.entries) (closings_told kept_after.entries) (ap (λ (k : RecordFacts). closings_told k.entries) takes.kept_is);
      }
  comes_keep intake connection link ports kept intake_after ports_after kept_after (inr turns) balance = record {
    balance = record {
      journal = ap (λ (k : RecordFacts). k.journal) turns.kept_same ∙ balance.journal;
      owed =
          let owed = balance.owed in
          let owed_same = ap (λ (k : RecordFacts). k.owed) turns.kept_same in
          let left_same = ap (λ (k : RecordFacts). k.left) turns.kept_same in
          let ports_same = ap (λ (ps : List (PortFacts L)). count (is_open_one any) ps) turns.ports_same in
          omega (arith, owed, owed_same, left_same, ports_same);
    };
    entries = λ test.
        let entries_same = ap (λ (k : RecordFacts). count (closes_one test) k.entries) turns.kept_same in
        let ports_same = ap (λ (ps : List (PortFacts L)). count (is_open_one test) ps) turns.ports_same in
        omega (arith, entries_same, ports_same);
    shut = none_told (closings_told kept.entries) (closings_told kept_after.entries) (ap (λ (k : RecordFacts). closings_told k.entries) turns.kept_same);
  }

  nothing_keeps : (kept : RecordFacts) (ports : List (PortFacts L)) → Balance kept ports 0 → Keeps none_taken [] kept ports kept ports 0
  nothing_keeps kept ports balance = record { balance = balance; entries = λ test. omega arith; shut = sym (append-nil (closings_told kept.entries)) }

  -- what the bell gave
  hears_keep : (item : Option (Rung L)) (old new : WorkerFacts L) (hears : Hears facts item old new) → Balance old.common.kept old.ports 0
      → Keeps (λ test. count (is_open_one test) (taken_in facts item old new hears)) (bell_befell facts item old new hears) old.common.kept old.ports new.common.kept new.ports 0
  hears_keep None old new same balance =
      subst (λ (w : WorkerFacts L). Keeps none_taken [] old.common.kept old.ports w.common.kept w.ports 0) (sym same) (nothing_keeps old.common.kept old.ports balance)
  hears_keep (Some (Answer reply)) old new hears balance =
      reply_keeps reply hears.takes.passes old.ports hears.takes.closed new.ports old.common.kept new.common.kept hears.takes.answers hears.takes.noted balance
  hears_keep (Some (Comes connection link)) old new hears balance =
      comes_keep (intake_of old) connection link old.ports old.common.kept (intake_of new) new.ports new.common.kept hears.takes balance
  hears_keep (Some (Lagging session)) old new hears balance =
      left_keep (lags_befell facts session old.ports old.common.kept hears.each.stepped new.common.kept hears.each.along) old.common.kept old.ports new.common.kept hears.each.stepped new.ports hears.each.left
      (lags_keep session old.ports old.common.kept hears.each.stepped new.common.kept 0 hears.each.along balance)
  hears_keep (Some NoMore) old new same balance =
      subst (λ (w : WorkerFacts L). Keeps none_taken [] old.common.kept old.ports w.common.kept w.ports 0) (sym same) (nothing_keeps old.common.kept old.ports balance)

  -- ---- turns

  turn_keeps : (old new : WorkerFacts L) (answer : Turn) (turned_so : Turned facts opening old new answer) → Balance old.common.kept old.ports 0
      → Keeps (λ test. count (is_open_one test) (taken_in facts turned_so.hears.item (record old { bell = turned_so.hears.bell }) turned_so.between turned_so.hears.hears))
      (turn_befell facts opening old new answer turned_so) old.common.kept old.ports new.common.kept new.ports 0
  turn_keeps old new answer turned_so balance =
      let mid = turned_so.between in
      let heard = hears_keep turned_so.hears.item (record old { bell = turned_so.hears.bell }) mid turned_so.hears.hears balance in
      let told : List Befallen = steps_befell facts opening mid.boxes mid.ports (shares_of mid turned_so.heard) turned_so.steps.steps.stepped (shares_of new turned_so.worked) turned_so.steps.steps.along in
      let stepped =
      left_keep told mid.common.kept mid.ports new.common.kept turned_so.steps.steps.stepped new.ports turned_so.steps.steps.left
      (steps_keep mid.boxes mid.ports (shares_of mid turned_so.heard) turned_so.steps.steps.stepped (shares_of new turned_so.worked) 0 turned_so.steps.steps.along heard.balance) in
      record {
        balance = stepped.balance;
        entries = λ test.
            let first = heard.entries test in
            let second = stepped.entries test in
            omega (arith, first, second);
        shut = told_on (closings_told old.common.kept.entries) (closings_told mid.common.kept.entries) (closings_told new.common.kept.entries)
            (bell_befell facts turned_so.hears.item (record old { bell = turned_so.hears.bell }) mid turned_so.hears.hears) told heard.shut stepped.shut;
      }

  turns_keep : (old : WorkerFacts L) (turns : List Turn) (new : WorkerFacts L) (all : TurnsTo (WorkerTurned facts opening) old turns new) → Balance old.common.kept old.ports 0
      → Keeps (λ test. count (is_open_one test) (ports_taken facts opening old turns new all)) (befallen facts opening old turns new all) old.common.kept old.ports new.common.kept new.ports 0
  turns_keep old [] new same balance =
      subst (λ (w : WorkerFacts L). Keeps none_taken [] old.common.kept old.ports w.common.kept w.ports 0) (sym same) (nothing_keeps old.common.kept old.ports balance)
  turns_keep old (turn ∷ turns) new (mid, turned_so, rest) balance =
      let first = turn_keeps old mid turn turned_so balance in
      let others = turns_keep mid turns new rest first.balance in
      let taken : List (PortFacts L) = taken_in facts turned_so.hears.item (record old { bell = turned_so.hears.bell }) turned_so.between turned_so.hears.hears in
      record {
        balance = others.balance;
        entries = λ test.
            let one_turn = first.entries test in
            let more = others.entries test in
            let both = count-append (is_open_one test) taken (ports_taken facts opening mid turns new rest) in
            omega (arith, one_turn, more, both);
        shut = told_on (closings_told old.common.kept.entries) (closings_told mid.common.kept.entries) (closings_told new.common.kept.entries)
            (turn_befell facts opening old mid turn turned_so) (befallen facts opening mid turns new rest) first.shut others.shut;
      }

  -- those that are taken in are open
  taken_open : (test : ℕ → Bool) (ports : List (PortFacts L)) → Each IsNew ports → count (is_open_one test) ports ≡ count (λ (port : PortFacts L). test port.machine.connection) ports
  taken_open test [] new = refl
  taken_open test (port ∷ ports) new =
      let rest = taken_open test ports new.1 in
      let opened = count-cons (is_open_one test) port ports in
      let tested = count-cons (λ (one_port : PortFacts L). test one_port.machine.connection) port ports in
      let same = ap (λ (p : PortFacts L). one (is_open_one test p)) new.0.is in
      let so = ap (λ (p : PortFacts L). one (test p.machine.connection)) new.0.is in
      omega (arith, rest, opened, tested, same, so)

  first_balance : (number : ℕ) (pass : _) (room : ℕ) (opened : WorkerFacts L) → HasOpened number pass (Some room) opened → Balance opened.common.kept opened.ports 0
  first_balance number pass room opened begun =
      let kept : RecordFacts = without_room (first_record (Some room)) in
      let none : List (PortFacts L) = [] in
      let begins : Balance kept none 0 = record { journal = refl; owed = omega arith } in
      subst (λ (ps : List (PortFacts L)). Balance opened.common.kept ps 0) (sym begun.no_port) (subst (λ (k : RecordFacts). Balance k none 0) (sym begun.kept_is) begins)

  -- the closing entries are of the closings that befell ports
  pub closings_are : (number : ℕ) (pass : _) (room : ℕ) (opened : WorkerFacts L) (turns : List Turn) (worker : WorkerFacts L) → HasOpened number pass (Some room) opened
      → (all : TurnsTo (WorkerTurned facts opening) opened turns worker) → closings_told worker.common.kept.entries ≡ closings_in (befallen facts opening opened turns worker all)
  closings_are number pass room opened turns worker begun all =
      (turns_keep opened turns worker all (first_balance number pass room opened begun)).shut
      ∙ ap (λ (k : RecordFacts). closings_told k.entries ++ closings_in (befallen facts opening opened turns worker all)) begun.kept_is

  pub one_closing : (number : ℕ) (pass : _) (room : ℕ) (opened : WorkerFacts L) (turns : List Turn) (worker : WorkerFacts L) (connection : ℕ) → HasOpened number pass (Some room) opened
      → (all : TurnsTo (WorkerTurned facts opening) opened turns worker)
      → count (is_closing_of connection) worker.common.kept.entries + count (is_open_of connection) worker.ports ≡ count (is_of connection) (ports_taken facts opening opened turns worker all)
  one_closing number pass room opened turns worker connection begun all =
      let balance = first_balance number pass room opened begun in
      let test : ℕ → Bool = λ asked. asked == connection in
      let sums = (turns_keep opened turns worker all balance).entries test in
      let no_entries = ap (λ (k : RecordFacts). count (closes_one test) k.entries) begun.kept_is in
      let no_ports = ap (λ (ps : List (PortFacts L)). count (is_open_one test) ps) begun.no_port in
      let taken = taken_open test (ports_taken facts opening opened turns worker all) (ports_new facts opening opened turns worker all) in
      omega (arith, sums, no_entries, no_ports, taken)
