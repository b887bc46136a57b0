-- What a run of a server came to, beside the turns of its roles.
use Rattle.mum_serve_laws.proofs.Common.{◌≡◌, ◌∙◌, ℕ, ◌+◌, ◌-◌, ◌^◌, min, Bool, true, false, List, [], ◌∷◌, ◌++◌, map, length, Option, Some, refl, ap, sym, subst, arith, length-append, ◌||◌, All, AllZip, Contains, filter_map, flat_map, list_any, sum_by, All-append, All-nil, Contains-append_left, list_any-append, sum_by-append, IsPrefix, Cause, TurnsLead, TurnsTo, Turn, DoorFacts, LinkFacts, current, KeeperFacts, KeptRows, OwnerFacts, prefix_trans, appended, state_of, Login, Opening, PassFacts, PublisherFacts, ControlEntry, WorkerEntry, copies_of, full_of, looks_of, Service, closing_room, entries_of, per_worker, AreWithin, AreOpenedFrom, WorkerBegins, fresh_pass, with_workers, HasRun, nothing, with_worker, viewer_memory, Objects, Entries, Summary, Totals, led_to, StateValue, Edit, Decision, WorkerFacts, HasOpened, is_memory, WorkerTurned, Look, history, login_made, looks_in, Talk, talk_in, talk_made, GoesToHearers, causes_in, copies_refused, copies_sent, strays_in, up_to_64, edits_after, entries_after, logins_decided, AreOfTheTurns, AreRouted, AreWritten, causes_of_each, decisions_of_run, edits_of_run, looks_of_each, strays_of_each}
use Rattle.mum_serve_laws.proofs.{Counting.copies_are_refused, Counting.copies_are_sent, Counting.go_to_hearers, Counting.looks_counted, Deciding.connections_counted, Deciding.edits_decided, Deciding.entries_decided, Deciding.logins_accepted, Deciding.none_unasked, Noting.memory_noted, Noting.stale_counted}

-- ---- lists that go on

-- what a list has is in each that begins with it
stays_in : {A : Type 0} (front whole : List A) → IsPrefix front whole → (x : A) → Contains front x → Contains whole x
stays_in {A} front whole begins x has = subst (λ (l : List A). Contains l x) begins.1 (Contains-append_left front begins.0 x has)

-- ---- sums

added : (total now a b top : ℕ) → total ≡ min a top → now ≡ min b top → min (total + now) top ≡ min (a + b) top
added total now a b top so is = omega (arith, so, is)

in_parts : (a one rest both : ℕ) → both ≡ one + rest → (a + one) + rest ≡ a + both
in_parts a one rest both is = omega (arith, is)

none_first : (n : ℕ) → 0 + n ≡ n
none_first n = omega arith

no_more : (a none : ℕ) → none ≡ 0 → a ≡ a + none
no_more a none is = omega (arith, is)

or_none : (b : Bool) → b ≡ (b || false)
or_none true = refl
or_none false = refl

or_on : (a b c : Bool) → ((a || b) || c) ≡ (a || (b || c))
or_on true b c = refl
or_on false b c = refl

-- these numbers are these sums, as far as 64 bits count them
record Sums (looks copies full stale : ℕ) (memory : Bool) (a b c d : ℕ) (m : Bool) : Type 0 where
  looks_are : looks ≡ up_to_64 a
  copies_are : copies ≡ up_to_64 b
  full_are : full ≡ up_to_64 c
  stale_is : stale ≡ up_to_64 d
  memory_is : memory ≡ m

as_well : (looks copies full stale : ℕ) (memory : Bool) (a b c d a' b' c' d' : ℕ) (m m' : Bool) → a ≡ a' → b ≡ b' → c ≡ c' → d ≡ d' → m ≡ m' → Sums looks copies full stale memory a b c d m → Sums looks copies full stale memory a' b' c' d' m'
as_well looks copies full stale memory a b c d a' b' c' d' m m' p q r s t sums = record {
  looks_are = sums.looks_are ∙ ap (λ (n : ℕ). up_to_64 n) p;
  copies_are = sums.copies_are ∙ ap (λ (n : ℕ). up_to_64 n) q;
  full_are = sums.full_are ∙ ap (λ (n : ℕ). up_to_64 n) r;
  stale_is = sums.stale_is ∙ ap (λ (n : ℕ). up_to_64 n) s;
  memory_is = sums.memory_is ∙ t;
}

-- ---- the workers

abbrev flat : List (List Look) → List Look
flat each = flat_map (λ looks. looks) each

-- what adds what workers came to, one after the other
module _ {L T : Type 0} (facts : L → LinkFacts) (opening : Opening) (all : List (WorkerFacts L) → T → T) (add : WorkerFacts L → T → T)
    (looks copies full stale : T → ℕ) (memory : T → Bool)
    (all_none : (t : T) → all [] t ≡ t) (all_more : (w : WorkerFacts L) (ws : List (WorkerFacts L)) (t : T) → all (w ∷ ws) t ≡ all ws (add w t))
    (add_looks : (w : WorkerFacts L) (t : T) → looks (add w t) ≡ up_to_64 (looks t + looks_of w.common.router.pass))
    (add_copies : (w : WorkerFacts L) (t : T) → copies (add w t) ≡ up_to_64 (copies t + copies_of w.common.router.outs))
    (add_full : (w : WorkerFacts L) (t : T) → full (add w t) ≡ up_to_64 (full t + full_of w.common.router.outs))
    (add_stale : (w : WorkerFacts L) (t : T) → stale (add w t) ≡ up_to_64 (stale t + w.common.kept.stale))
    (add_memory : (w : WorkerFacts L) (t : T) → memory (add w t) ≡ (memory t || w.common.kept.no_memory)) where
  abbrev CameTo : T → ℕ → ℕ → ℕ → ℕ → Bool → Type 0
  CameTo t a b c d m = Sums (looks t) (copies t) (full t) (stale t) (memory t) a b c d m

  -- a worker more, by what its turns came to
  one_more : (number : ℕ) (closings : Option ℕ) (old new : WorkerFacts L) → WorkerBegins opening closings number old → (turns : List Turn) (led : TurnsTo (WorkerTurned facts opening) old turns new)
      → (t : T) (a b c d : ℕ) (m : Bool) → CameTo t a b c d m
      → CameTo (add new t) (a + length (looks_in (history facts opening old turns new led))) (b + sum_by copies_sent (looks_in (history facts opening old turns new led)))
      (c + sum_by copies_refused (looks_in (history facts opening old turns new led))) (d + strays_in facts opening old turns new led) (m || list_any is_memory (causes_in facts opening old turns new led))
  one_more number closings old new begins turns led t a b c d m sums =
      let routed : List Look = looks_in (history facts opening old turns new led) in record {
        looks_are = add_looks new t ∙ added (looks t) (looks_of new.common.router.pass) a (length routed) (2 ^ 64 - 1) sums.looks_are
            (looks_counted opening facts number (fresh_pass opening) closings old turns new begins.opened refl led);
        copies_are = add_copies new t ∙ added (copies t) (copies_of new.common.router.outs) b (sum_by copies_sent routed) (2 ^ 64 - 1) sums.copies_are
            (copies_are_sent opening facts old turns new begins.unused led);
        full_are = add_full new t ∙ added (full t) (full_of new.common.router.outs) c (sum_by copies_refused routed) (2 ^ 64 - 1) sums.full_are
            (copies_are_refused opening facts old turns new begins.unused led);
        stale_is = add_stale new t ∙ added (stale t) new.common.kept.stale d (strays_in facts opening old turns new led) (2 ^ 64 - 1) sums.stale_is
            (stale_counted opening facts number (fresh_pass opening) closings old turns new begins.opened led);
        memory_is = add_memory new t ∙ ap (λ (b : Bool). b || new.common.kept.no_memory) sums.memory_is
            ∙ ap (λ (b : Bool). m || b) (memory_noted opening facts number (fresh_pass opening) closings old turns new begins.opened led);
      }

  all_workers : (number : ℕ) (closings : Option ℕ) (olds news : List (WorkerFacts L)) → AreOpenedFrom opening closings number olds → (led : AllZip (TurnsLead (WorkerTurned facts opening)) olds news)
      → (t : T) (a b c d : ℕ) (m : Bool) → CameTo t a b c d m
      → CameTo (all news t) (a + length (flat (looks_of_each facts opening olds news led))) (b + sum_by copies_sent (flat (looks_of_each facts opening olds news led)))
      (c + sum_by copies_refused (flat (looks_of_each facts opening olds news led))) (d + strays_of_each facts opening olds news led) (m || list_any is_memory (causes_of_each facts opening olds news led))
  all_workers number closings [] [] begins led t a b c d m sums =
      subst (λ (u : T). CameTo u (a + 0) (b + 0) (c + 0) (d + 0) (m || false)) (sym (all_none t))
      (as_well (looks t) (copies t) (full t) (stale t) (memory t) a b c d (a + 0) (b + 0) (c + 0) (d + 0) m (m || false) (no_more a 0 refl) (no_more b 0 refl) (no_more c 0 refl) (no_more d 0 refl) (or_none m) sums)
  all_workers number closings [] (new ∷ news) begins led t a b c d m sums = absurd led
  all_workers number closings (old ∷ olds) [] begins led t a b c d m sums = absurd led
  all_workers number closings (old ∷ olds) (new ∷ news) begins led t a b c d m sums =
      let turns : List Turn = led.0.0 in
      let routed : List Look = looks_in (history facts opening old turns new led.0.1) in
      let others : List Look = flat (looks_of_each facts opening olds news led.1) in
      let strays : ℕ = strays_in facts opening old turns new led.0.1 in
      let rest : ℕ = strays_of_each facts opening olds news led.1 in
      let causes : List Cause = causes_in facts opening old turns new led.0.1 in
      let behind : List Cause = causes_of_each facts opening olds news led.1 in
      let after : T = all news (add new t) in
      subst (λ (u : T). CameTo u (a + length (routed ++ others)) (b + sum_by copies_sent (routed ++ others)) (c + sum_by copies_refused (routed ++ others)) (d + (strays + rest)) (m || list_any is_memory (causes ++ behind)))
      (sym (all_more new news t))
      (as_well (looks after) (copies after) (full after) (stale after) (memory after)
      ((a + length routed) + length others) ((b + sum_by copies_sent routed) + sum_by copies_sent others) ((c + sum_by copies_refused routed) + sum_by copies_refused others)
      ((d + strays) + rest)
      (a + length (routed ++ others)) (b + sum_by copies_sent (routed ++ others)) (c + sum_by copies_refused (routed ++ others)) (d + (strays + rest))
      ((m || list_any is_memory causes) || list_any is_memory behind) (m || list_any is_memory (causes ++ behind))
      (in_parts a (length routed) (length others) (length (routed ++ others)) (length-append routed others))
      (in_parts b (sum_by copies_sent routed) (sum_by copies_sent others) (sum_by copies_sent (routed ++ others)) (sum_by-append copies_sent routed others))
      (in_parts c (sum_by copies_refused routed) (sum_by copies_refused others) (sum_by copies_refused (routed ++ others)) (sum_by-append copies_refused routed others))
      (in_parts d strays rest (strays + rest) refl)
      (or_on m (list_any is_memory causes) (list_any is_memory behind) ∙ ap (λ (b : Bool). m || b) (sym (list_any-append is_memory causes behind)))
      (all_workers (number + 1) closings olds news begins.1 led.1 (add new t)
      (a + length routed) (b + sum_by copies_sent routed) (c + sum_by copies_refused routed) (d + strays) (m || list_any is_memory causes)
      (one_more number closings old new begins.0 turns led.0.1 t a b c d m sums)))

module _ {L : Type 0} (facts : L → LinkFacts) (opening : Opening) where
  -- ---- what they wrote down

  -- each has an entry for each packet that it routed
  abbrev HasTalks : Type 0
  HasTalks = (number : ℕ) (pass : PassFacts) (room : ℕ) (opened worker : WorkerFacts L) (turns : List Turn) → HasOpened number pass (Some room) opened
      → (all : TurnsTo (WorkerTurned facts opening) opened turns worker)
      → filter_map talk_in worker.common.kept.entries ≡ map talk_made (looks_in (history facts opening opened turns worker all))

  all_talks : HasTalks → (number room : ℕ) (olds news : List (WorkerFacts L)) → AreOpenedFrom opening (Some room) number olds → (led : AllZip (TurnsLead (WorkerTurned facts opening)) olds news)
      → map (filter_map talk_in) (map entries_of news) ≡ map (map talk_made) (looks_of_each facts opening olds news led)
  all_talks has number room [] [] begins led = refl
  all_talks has number room [] (new ∷ news) begins led = absurd led
  all_talks has number room (old ∷ olds) [] begins led = absurd led
  all_talks has number room (old ∷ olds) (new ∷ news) begins led =
      ap (λ (talks : List Talk). talks ∷ map (filter_map talk_in) (map entries_of news)) (has number (fresh_pass opening) room old new led.0.0 begins.0.opened led.0.1)
      ∙ ap (λ (rest : List (List Talk)). map talk_made (looks_in (history facts opening old led.0.0 new led.0.1)) ∷ rest) (all_talks has (number + 1) room olds news begins.1 led.1)

  -- ---- whom their packets go to

  abbrev SawFrom : List Edit → Look → Type 0
  SawFrom edits look = IsPrefix look.edits edits

  abbrev SeesEnd : Type 0
  SeesEnd = (old worker : WorkerFacts L) (turns : List Turn) (all : TurnsTo (WorkerTurned facts opening) old turns worker)
      → All (λ look. IsPrefix look.edits worker.common.router.pass.seen) (looks_in (history facts opening old turns worker all))

  all_within : SeesEnd → (publisher : PublisherFacts) (list : List Edit) → IsPrefix publisher.published list → (olds news : List (WorkerFacts L)) (led : AllZip (TurnsLead (WorkerTurned facts opening)) olds news)
      → AreWithin publisher news → All (SawFrom list) (flat (looks_of_each facts opening olds news led))
  all_within sees publisher list front [] [] led within = All-nil (SawFrom list)
  all_within sees publisher list front [] (new ∷ news) led within = absurd led
  all_within sees publisher list front (old ∷ olds) [] led within = absurd led
  all_within sees publisher list front (old ∷ olds) (new ∷ news) led within =
      All-append (SawFrom list) (looks_in (history facts opening old led.0.0 new led.0.1)) (flat (looks_of_each facts opening olds news led.1))
      (λ k d inside. prefix_trans _ new.common.router.pass.seen list (sees old new led.0.0 led.0.1 k d inside) (prefix_trans new.common.router.pass.seen publisher.published list within.0.seen front))
      (all_within sees publisher list front olds news led.1 within.1)

  -- ---- whose they are

  abbrev SpeaksFor : List Login → Look → Type 0
  SpeaksFor logins look = Contains logins (login_made look)

  abbrev AreAdmitted : Type 0
  AreAdmitted = (number : ℕ) (pass : PassFacts) (journal : Option ℕ) (opened worker : WorkerFacts L) (turns : List Turn) → HasOpened number pass journal opened
      → (all : TurnsTo (WorkerTurned facts opening) opened turns worker)
      → All (SpeaksFor worker.common.router.pass.roll) (looks_in (history facts opening opened turns worker all))

  all_admitted : AreAdmitted → (publisher : PublisherFacts) (closings : Option ℕ) (number : ℕ) (olds news : List (WorkerFacts L)) → AreOpenedFrom opening closings number olds
      → (led : AllZip (TurnsLead (WorkerTurned facts opening)) olds news) → AreWithin publisher news → All (SpeaksFor publisher.roll) (flat (looks_of_each facts opening olds news led))
  all_admitted admitted publisher closings number [] [] begins led within = All-nil (SpeaksFor publisher.roll)
  all_admitted admitted publisher closings number [] (new ∷ news) begins led within = absurd led
  all_admitted admitted publisher closings number (old ∷ olds) [] begins led within = absurd led
  all_admitted admitted publisher closings number (old ∷ olds) (new ∷ news) begins led within =
      let roll : List Login = new.common.router.pass.roll in
      All-append (SpeaksFor publisher.roll) (looks_in (history facts opening old led.0.0 new led.0.1)) (flat (looks_of_each facts opening olds news led.1))
      (λ k d inside. stays_in roll publisher.roll within.0.roll _ (admitted number (fresh_pass opening) closings old new led.0.0 begins.0.opened led.0.1 k d inside))
      (all_admitted admitted publisher closings (number + 1) olds news begins.1 led.1 within.1)

  all_hear : (olds news : List (WorkerFacts L)) (led : AllZip (TurnsLead (WorkerTurned facts opening)) olds news) → All (GoesToHearers opening) (flat (looks_of_each facts opening olds news led))
  all_hear [] [] led = All-nil (GoesToHearers opening)
  all_hear [] (new ∷ news) led = absurd led
  all_hear (old ∷ olds) [] led = absurd led
  all_hear (old ∷ olds) (new ∷ news) led =
      All-append (GoesToHearers opening) (looks_in (history facts opening old led.0.0 new led.0.1)) (flat (looks_of_each facts opening olds news led.1))
      (go_to_hearers opening facts old led.0.0 new led.0.1) (all_hear olds news led.1)

-- ---- a run

module _ {D K P L : Type 0} (facts : L → LinkFacts) (door_facts : D → DoorFacts) (last calls : K → ℕ) (keeper_facts : P → KeeperFacts) (state : StateValue) (asked : Service) (workers : ℕ) (rows : Option KeptRows) (opened : Objects D K P) (summary : Summary) (entries : Entries) (left : Objects D K P) (run : HasRun facts door_facts last calls keeper_facts state asked workers rows opened summary entries left) where
  abbrev made : List Decision
  made = decisions_of_run facts door_facts last calls keeper_facts state asked workers rows opened summary entries left run

  -- what the owner appended
  pub list_is : appended run.owner.control.publisher ≡ edits_after run.began [] made
  list_is =
      let first = run.turned.first_owner in
      edits_decided door_facts facts first run.turned.owner_turned.0 run.owner run.turned.owner_turned.1
      ∙ ap (λ (o : Opening). edits_after o (appended first.control.publisher) made) run.turned.begun.owner_begins.control.opening_is
      ∙ ap (λ (es : List Edit). edits_after run.began es made) run.turned.begun.owner_begins.control.nothing

  sums : Sums (with_workers run.crew nothing).looks (with_workers run.crew nothing).copies (with_workers run.crew nothing).full (with_workers run.crew nothing).stale (with_workers run.crew nothing).no_memory
      (0 + length (flat (looks_of_each facts run.began run.turned.first_crew run.crew run.turned.crew_turned)))
      (0 + sum_by copies_sent (flat (looks_of_each facts run.began run.turned.first_crew run.crew run.turned.crew_turned)))
      (0 + sum_by copies_refused (flat (looks_of_each facts run.began run.turned.first_crew run.crew run.turned.crew_turned)))
      (0 + strays_of_each facts run.began run.turned.first_crew run.crew run.turned.crew_turned)
      (list_any is_memory (causes_of_each facts run.began run.turned.first_crew run.crew run.turned.crew_turned))
  sums =
      all_workers facts run.began with_workers with_worker (λ t. t.looks) (λ t. t.copies) (λ t. t.full) (λ t. t.stale) (λ t. t.no_memory)
      (λ t. refl) (λ w ws t. refl) (λ w t. refl) (λ w t. refl) (λ w t. refl) (λ w t. refl) (λ w t. refl)
      0 (closing_room asked.journal asked.connections workers) run.turned.first_crew run.crew run.turned.begun.crew_begins.each run.turned.crew_turned
      nothing 0 0 0 0 false (record { looks_are = refl; copies_are = refl; full_are = refl; stale_is = refl; memory_is = refl })

  pub of_the_turns : AreOfTheTurns facts door_facts last calls keeper_facts state asked workers rows opened summary entries left run
  of_the_turns =
      let begins = run.turned.begun.owner_begins in record {
        connections = ap (λ (t : Totals). t.connections) run.came.sums
            ∙ connections_counted door_facts facts run.turned.first_owner.control opened.door asked.connections asked.journal begins.bells begins.store run.turned.first_owner run.owner run.turned.owner_turned.0 begins.opened run.turned.owner_turned.1;
        accepted = ap (λ (t : Totals). t.accepted) run.came.sums ∙ ap (λ (es : List Edit). length es) list_is;
        looks = ap (λ (t : Totals). t.looks) run.came.sums ∙ sums.looks_are ∙ ap (λ (n : ℕ). up_to_64 n) (none_first _);
        copies = ap (λ (t : Totals). t.copies) run.came.sums ∙ sums.copies_are ∙ ap (λ (n : ℕ). up_to_64 n) (none_first _);
        full = ap (λ (t : Totals). t.full) run.came.sums ∙ sums.full_are ∙ ap (λ (n : ℕ). up_to_64 n) (none_first _);
        stale = ap (λ (t : Totals). t.stale) run.came.sums ∙ sums.stale_is ∙ ap (λ (n : ℕ). up_to_64 n) (none_first _);
        memory = run.memory ∙ ap (λ (b : Bool). ((run.owner.scribe.no_memory || b) || viewer_memory run.viewer) || run.starved) sums.memory_is;
      }

  first_asked : run.turned.first_owner.scribe.is_asked ≡ asked.journal
  first_asked = ap (λ (o : OwnerFacts D L). o.scribe.is_asked) run.turned.begun.owner_begins.opened

  first_entries : run.turned.first_owner.scribe.entries ≡ []
  first_entries = ap (λ (o : OwnerFacts D L). o.scribe.entries) run.turned.begun.owner_begins.opened

  pub are_written : HasTalks facts run.began → AreWritten facts door_facts last calls keeper_facts state asked workers rows opened summary entries left run
  are_written has = record {
    controls = λ is.
        let first = run.turned.first_owner in
        run.came.controls
        ∙ entries_decided door_facts facts first run.turned.owner_turned.0 run.owner run.turned.owner_turned.1 (first_asked ∙ is)
        ∙ ap (λ (es : List ControlEntry). es ++ entries_after first.control.publisher.opening (appended first.control.publisher) made) first_entries
        ∙ ap (λ (o : Opening). entries_after o (appended first.control.publisher) made) run.turned.begun.owner_begins.control.opening_is
        ∙ ap (λ (es : List Edit). entries_after run.began es made) run.turned.begun.owner_begins.control.nothing;
    voices = λ is.
        ap (λ (es : List (List WorkerEntry)). map (filter_map talk_in) es) run.came.by_worker
        ∙ all_talks facts run.began has 0 (per_worker asked.connections workers) run.turned.first_crew run.crew
        (subst (λ (b : Bool). AreOpenedFrom run.began (closing_room b asked.connections workers) 0 run.turned.first_crew) is run.turned.begun.crew_begins.each) run.turned.crew_turned;
    nothing = λ is. run.came.controls ∙ none_unasked door_facts facts run.turned.first_owner run.turned.owner_turned.0 run.owner run.turned.owner_turned.1 (first_asked ∙ is) ∙ first_entries;
  }

  -- whose logins the owner accepted
  roll_is : run.owner.control.publisher.roll ≡ logins_decided made
  roll_is =
      let first = run.turned.first_owner in
      logins_accepted door_facts facts first run.turned.owner_turned.0 run.owner run.turned.owner_turned.1
      ∙ ap (λ (l : List Login). l ++ logins_decided made) run.turned.begun.owner_begins.control.no_login

  pub are_routed : SeesEnd facts run.began → AreAdmitted facts run.began → AreRouted facts door_facts last calls keeper_facts state asked workers rows opened summary entries left run
  are_routed sees admitted = record {
    begins = all_within facts run.began sees run.owner.control.publisher (edits_of_run facts door_facts last calls keeper_facts state asked workers rows opened summary entries left run)
        (run.owner.control.publisher.pending, list_is) run.turned.first_crew run.crew run.turned.crew_turned run.one_list;
    hearers = all_hear facts run.began run.turned.first_crew run.crew run.turned.crew_turned;
    opening = run.began_at;
    speakers = subst (λ (l : List Login). All (SpeaksFor facts run.began l) (flat (looks_of_each facts run.began run.turned.first_crew run.crew run.turned.crew_turned))) roll_is
        (all_admitted facts run.began admitted run.owner.control.publisher (closing_room asked.journal asked.connections workers) 0 run.turned.first_crew run.crew
        run.turned.begun.crew_begins.each run.turned.crew_turned run.one_list);
  }

  -- the state after all that was accepted
  pub end_is : current run.owner.control ≡ state_of run.began (edits_of_run facts door_facts last calls keeper_facts state asked workers rows opened summary entries left run)
  end_is =
      ap (λ (s : StateValue). led_to s (appended run.owner.control.publisher)) (run.came.began ∙ sym run.began_at)
      ∙ ap (λ (es : List Edit). state_of run.began es) list_is
