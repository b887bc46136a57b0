-- What a run decides could be asked for.
use Rattle.mum_recording_laws.proofs.Common.{◌≡◌, ℕ, zero, suc, ◌+◌, ◌-◌, ◌<◌, ◌==◌, true, false, List, [], ◌∷◌, ◌++◌, length, take, Option, Some, None, refl, sym, ap, subst, ◌∙◌, arith, inl, inr, append_assoc, append-nil, ⊤, IfSome, IsTrue, is_none, is_some, nat_lt, option_to_list, slice_get, AllByRecursion, AllZip, list_any, option_map, option_or, and_parts, cases_eq, false_from_ne_true, false≢true, ltb-true, ne_eqb, or_right, kind_of, payload_of, Each, IsControl, IsJournal, may_carry, Journal, ControlEntry, Step, Close, Collect, Drain, End, Frame, Look, Offer, Open, Post, Publish, Tell, Leave, mark, verdict, Asked, User, Message, Connection, LeaveStage, Reply, Seat, answered, is_rejected, leave_waiting, next_command, next_of_frame, seat_given, session_of, CoreState, connection_at, current, is_opened, IsRun, gathered, does, illegal, at_place, conn, placed, past_before, after_entries, after_entry, Past, session_in, first_core, AreAsked, IsAsked, IsCommand, has_version, leaves, rejects, AreOfRun, IsDecided, command_of, decided, frame_heard}
use Rattle.mum_recording_laws.proofs.{Knowing.AreKnown, Knowing.Known, Knowing.either, Knowing.known_on, Knowing.leave_not_rejected, Knowing.leave_only, Knowing.more_seats, Knowing.not_leave, Knowing.others_known, Knowing.own_part, Knowing.version_of_login, Knowing.waiting_is, Options.none_some, Options.same_some, Options.some_mapped, Following.Follows, Following.MayDecide, Following.begins, Following.does_is, Following.follows_entry, Following.follows_quiet, Following.may_decide, Following.only_leave, Following.told_of, Suiting.IsLogin, Suiting.Suits, Suiting.heard_as, Suiting.login_of, Suiting.suits_later, Suiting.suits_login, Sitting.AreCalm, Sitting.IsNotBy, Sitting.calm_step, Sitting.changed_here}
use Rattle.mum_record.specs.declared.step.Step.TheVariants as steps
use Rattle.mum_core.specs.declared.connection.Leave.TheVariants as leaving
use Rattle.mum_core.specs.steps.Edit as edit_step

module _ (core : CoreState) (past : Past) (earlier : List ControlEntry) (c : ℕ) (what : Asked) (entry : ControlEntry) (known : Known earlier c (connection_at core c)) (opened : is_opened core c ≡ true)
    (next : next_command (connection_at core c) ≡ Some what) (says : IsDecided entry (told_of core c what)) (carried : IsTrue (may_carry entry.version entry.frame)) (follows : Follows core past) where
  abbrev x : Connection
  x = connection_at core c

  abbrev r : Reply
  r = edit_step.reply_to core c (verdict (current core) (session_of x) what)

  the_next : (w : Asked) → next_of_frame x ≡ Some w → w ≡ what
  the_next w is = same_some w what (sym (ap (λ (o : Option Asked). option_or o (leave_waiting x.leave)) is) ∙ next)

  suits : (w : Asked) → next_of_frame x ≡ Some w → Suits x.version x.seat what
  suits w is =
      subst (Suits x.version x.seat) (the_next w is) (subst (λ (o : Option Asked). IfSome o (Suits x.version x.seat)) (waiting_is x w is) known.waits)

  never_leaves : (w : Asked) → next_of_frame x ≡ Some w → what ≡ User Leave → ⊥
  never_leaves w is same = subst (Suits x.version x.seat) same (suits w is)

  after_known : (o : Option Asked) → next_of_frame x ≡ o → Known (earlier ++ entry ∷ []) c (answered o r x)
  after_known None is = record {
    left = λ some. refl;
    turned = λ some. elim (either (rejects c) earlier entry some) [
      | inl there ↦ known.turned there
      | inr here ↦
          absurd (false≢true (sym (leave_not_rejected (current core) (session_of x) (length core.accepted + 1))
          ∙ sym (ap (λ (asked : Asked). is_rejected (mark (length core.accepted + 1) (verdict (current core) (session_of x) asked))) (only_leave x what next is))
          ∙ sym (ap (λ m. is_rejected m) says.outcome) ∙ own_part entry c (is_rejected entry.verdict) here))
    ];
    told = λ some. elim (either (has_version c) earlier entry some) [
      | inl there ↦ known.told there
      | inr here ↦
          absurd (subst (IsLogin entry.version) (only_leave x what next is) (version_of_login entry what carried says.asked (own_part entry c (is_some entry.version) here)))
    ];
    waits = known.waits;
  }
  after_known (Some w) is = record {
    left = λ some. elim (either (leaves c) earlier entry some) [
      | inl there ↦ known.left there
      | inr here ↦ absurd (never_leaves w is (leave_only entry what says.asked (own_part entry c (is_none entry.frame) here)))
    ];
    turned = λ some. (
      refl,
      elim (either (rejects c) earlier entry some) [
        | inl there ↦ absurd (none_some x.waiting w (known.turned there).0 (waiting_is x w is))
        | inr here ↦ or_right x.rejected (is_rejected r.mark) (sym (ap (λ m. is_rejected m) says.outcome) ∙ own_part entry c (is_rejected entry.verdict) here)
      ],
    );
    told = λ some. elim (either (has_version c) earlier entry some) [
      | inl there ↦ known.told there
      | inr here ↦
          let has : is_some entry.version ≡ true = own_part entry c (is_some entry.version) here in
          sym (ap (λ (o : Option ℕ). is_some o) (suits_login x.version entry.version x.seat what (version_of_login entry what carried says.asked has) (suits w is))) ∙ has
    ];
    waits = tt;
  }

  -- ---- it could be asked for

  once : entry.frame ≡ None → list_any (leaves c) earlier ≡ false
  once ended = false_from_ne_true (list_any (leaves c) earlier) (λ some. from (next_of_frame x) refl (known.left some))
    where
      leaves_so : what ≡ User Leave
      leaves_so = leave_only entry what says.asked (ap (λ (o : Option (List ℕ)). is_none o) ended)

      from : (o : Option Asked) → next_of_frame x ≡ o → x.leave ≡ leaving.Decided → ⊥
      from None is left =
          none_some (leave_waiting x.leave) what (ap (λ (leave : LeaveStage). leave_waiting leave) left) (sym (ap (λ (o : Option Asked). option_or o (leave_waiting x.leave)) is) ∙ next)
      from (Some w) is left = never_leaves w is leaves_so

  module _ (bytes : List ℕ) (framed : entry.frame ≡ Some bytes) where
    asks : command_of entry.version (Some bytes) ≡ Message what
    asks = sym (ap (command_of entry.version) framed) ∙ says.asked

    taken : next_of_frame x ≡ Some what
    taken = from (next_of_frame x) refl
      where
        from : (o : Option Asked) → next_of_frame x ≡ o → next_of_frame x ≡ Some what
        from None is = absurd (not_leave entry.version bytes what asks (only_leave x what next is))
        from (Some w) is = is ∙ ap (λ (one : Asked). Some one) (the_next w is)

    is_command : IsCommand past earlier entry bytes
    is_command = record {
      what = what;
      asks = asks;
      welcome = subst (λ (d : ℕ). list_any (rejects d) earlier ≡ false) (sym says.connection)
          (false_from_ne_true (list_any (rejects c) earlier) (λ some. none_some x.waiting what (known.turned some).0 (waiting_is x what taken)));
      logs_in = λ none. elim (heard_as entry.version (kind_of bytes) (payload_of bytes) what asks) [
        | inl login ↦ login.0
        | inr later ↦
            let none_here : session_of x ≡ None = sym (follows.sessions c) ∙ sym (ap (session_in past) says.connection) ∙ none in
            absurd (some_mapped (λ (seat : Seat). seat.session) (option_or (seat_given x.decided) x.seat)
            (more_seats x.decided x.seat (suits_later x.version x.seat what later (suits what taken))) none_here)
      ];
      no_version = λ login none. subst (λ (d : ℕ). list_any (has_version d) earlier ≡ false) (sym says.connection)
          (false_from_ne_true (list_any (has_version c) earlier) (λ some.
          let heard : IsLogin entry.version what =
          login_of entry.version (payload_of bytes) what (subst (λ (kind : ℕ). frame_heard entry.version kind (payload_of bytes) ≡ Message what) login asks) in
          let same : entry.version ≡ x.version = suits_login x.version entry.version x.seat what heard (suits what taken) in
          false≢true (sym (ap (λ (o : Option ℕ). is_some o) (sym same ∙ none)) ∙ known.told some)));
    }

  first_number : 0 < c
  first_number = ltb-true 0 c (and_parts (nat_lt 0 c) (nat_lt (c - 1) (length core.connections)) opened).0

  asked_one : IsAsked past earlier entry
  asked_one = record {
    numbered = subst (λ (d : ℕ). 0 < d) (sym says.connection) first_number;
    once = λ ended. subst (λ (d : ℕ). list_any (leaves d) earlier ≡ false) (sym says.connection) (once ended);
    command = is_command;
  }

-- ---- a run

abbrev NotesAll : Past → List ControlEntry → List ControlEntry → Type 0
NotesAll past earlier [] = ⊤
NotesAll past earlier (entry ∷ entries) = IsAsked past earlier entry × NotesAll (after_entry past entry) (earlier ++ entry ∷ []) entries

abbrev pub AreCarried : List ControlEntry → Type 0
AreCarried entries = AllByRecursion (λ (entry : ControlEntry). IsTrue (may_carry entry.version entry.frame)) entries

abbrev Rest : CoreState → List Step → Type 0
Rest core run =
    (past : Past) (earlier entries : List ControlEntry) → Follows core past → AreCalm core → AreKnown earlier core → IsRun core run → AllZip IsDecided entries (gathered decided core run)
    → AreCarried entries → NotesAll past earlier entries

pub known_here : (core : CoreState) (earlier : List ControlEntry) (c : ℕ) → is_opened core c ≡ true → AreKnown earlier core → Known earlier c (connection_at core c)
known_here core earlier c opened known =
    let first : nat_lt 0 c ≡ true = (and_parts (nat_lt 0 c) (nat_lt (c - 1) (length core.connections)) opened).0 in
    let low : 0 < c = ltb-true 0 c first in
    let same : c - 1 + 1 ≡ c = omega (arith, low) in
    subst (Known earlier c) (sym (placed core c first)) (subst (λ (d : ℕ). Known earlier d (conn core (c - 1))) same (known (c - 1)))

module _ (core : CoreState) (past : Past) (earlier : List ControlEntry) (c : ℕ) (run : List Step) (follows : Follows core past) (calm : AreCalm core) (known : AreKnown earlier core)
    (allowed : IsRun core (steps.Edit c ∷ run)) where
  abbrev next : CoreState
  next = does core (steps.Edit c)

  may : MayDecide core c
  may = may_decide core c allowed.0

  pub known_next : (what : Asked) (entry : ControlEntry) → next_command (connection_at core c) ≡ Some what → IsDecided entry (told_of core c what) → IsTrue (may_carry entry.version entry.frame)
      → AreKnown (earlier ++ entry ∷ []) next
  known_next what entry is says carried i = elim (cases_eq c (i + 1)) [
    | inl same ↦
        let own : connection_at next c ≡ answered (next_of_frame (connection_at core c)) (edit_step.reply_to core c (verdict (current core) (session_of (connection_at core c)) what)) (connection_at core c) =
        ap (λ (new : CoreState). connection_at new c) (does_is core past c what follows calm may.opened is)
        ∙ changed_here core c (λ y. answered (next_of_frame y) (edit_step.reply_to core c (verdict (current core) (session_of (connection_at core c)) what)) y) may.opened in
        let here : Known (earlier ++ entry ∷ []) c (connection_at next c) =
        subst (Known (earlier ++ entry ∷ []) c) (sym own)
        (after_known core past earlier c what entry (known_here core earlier c may.opened known) may.opened is says carried follows (next_of_frame (connection_at core c)) refl) in
        subst (Known (earlier ++ entry ∷ []) (i + 1)) (at_place next (i + 1) i refl) (subst (λ (d : ℕ). Known (earlier ++ entry ∷ []) d (connection_at next d)) same here)
    | inr apart ↦
        others_known earlier entry (i + 1) (conn next i) (ap (λ (d : ℕ). d == i + 1) says.connection ∙ ne_eqb c (i + 1) apart) (known_on earlier core (steps.Edit c) i allowed.0 apart (known i))
  ]

  decides_one : Rest (does core (steps.Edit c)) run → (entries : List ControlEntry) → AllZip IsDecided entries (gathered decided core (steps.Edit c ∷ run)) → AreCarried entries → NotesAll past earlier entries
  decides_one rest entries zip carried = at (next_command (connection_at core c)) refl entries zip carried
    where
      at : (o : Option Asked) → next_command (connection_at core c) ≡ o → (entries : List ControlEntry) → AllZip IsDecided entries (option_to_list (option_map (told_of core c) o) ++ gathered decided next run)
          → AreCarried entries → NotesAll past earlier entries
      at None is entries zip carried = absurd (false≢true (sym may.some ∙ ap (λ (o : Option Asked). is_none o) is))
      at (Some what) is [] zip carried = absurd zip
      at (Some what) is (entry ∷ entries) zip carried = (
        asked_one core past earlier c what entry (known_here core earlier c may.opened known) may.opened is zip.0 carried.0 follows,
        rest (after_entry past entry) (earlier ++ entry ∷ []) entries (follows_entry core past c what follows calm may.opened is entry zip.0) (calm_step core (steps.Edit c) allowed.0 calm)
            (known_next what entry is zip.0 carried.0) allowed.1 zip.1 carried.1,
      )

pub quiet_known : (earlier : List ControlEntry) (core : CoreState) (step : Step) → illegal core step ≡ None → ((i : ℕ) → IsNotBy step i) → AreKnown earlier core → AreKnown earlier (does core step)
quiet_known earlier core step allowed other known i = known_on earlier core step i allowed (other i) (known i)

notes : (core : CoreState) (run : List Step) → Rest core run
notes core [] past earlier [] follows calm known allowed zip carried = tt
notes core [] past earlier (entry ∷ entries) follows calm known allowed zip carried = absurd zip
notes core (steps.Edit c ∷ run) past earlier entries follows calm known allowed zip carried =
    decides_one core past earlier c run follows calm known allowed (λ past earlier entries. notes (does core (steps.Edit c)) run past earlier entries) entries zip carried
notes core (step ∷ run) past earlier entries follows calm known allowed zip carried =
    notes (does core step) run past earlier entries (follows_quiet core step past tt follows) (calm_step core step allowed.0 calm) (quiet_known earlier core step allowed.0 (λ i. tt) known) allowed.1 zip carried

-- ---- by the places of the entries

notes_at : (past : Past) (earlier entries : List ControlEntry) → NotesAll past earlier entries → (i : ℕ) (entry : ControlEntry) → slice_get entries i ≡ Some entry
    → IsAsked (after_entries past (take i entries)) (earlier ++ take i entries) entry
notes_at past earlier [] all i entry is = absurd (cc)
notes_at past earlier (first ∷ entries) all zero entry is =
    let same : first ≡ entry = cc in
    subst (IsAsked past (earlier ++ [])) same (subst (λ (list : List ControlEntry). IsAsked past list first) (sym (append-nil earlier)) all.0)
notes_at past earlier (first ∷ entries) all (suc i) entry is =
    subst (λ (list : List ControlEntry). IsAsked (after_entries (after_entry past first) (take i entries)) list entry) (append_assoc earlier (first ∷ []) (take i entries))
    (notes_at (after_entry past first) (earlier ++ first ∷ []) entries all.1 i entry is)

pub carried_of : (entries : List ControlEntry) → Each IsControl entries → AreCarried entries
carried_of [] all = tt
carried_of (entry ∷ entries) all = (all.0.1.1, carried_of entries all.1)

pub known_first : (journal : Journal) → AreKnown [] (first_core journal)
known_first journal i = record { left = λ some. absurd (false≢true some); turned = λ some. absurd (false≢true some); told = λ some. absurd (false≢true some); waits = tt }

pub asked_of_run : (journal : Journal) (run : List Step) → IsJournal journal → IsRun (first_core journal) run → AreOfRun journal (first_core journal) run → AreAsked journal
asked_of_run journal run written allowed recorded =
    notes_at (past_before journal) [] journal.controls
    (notes (first_core journal) run (past_before journal) [] journal.controls (begins journal) (λ i waits. absurd (false≢true waits)) (known_first journal) allowed recorded.commands
    (carried_of journal.controls written.controls))
