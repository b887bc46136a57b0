-- The lines that a draft has taken, and how each line leads to the next draft.
use Rattle.mum_record.proofs.Common.{◌≡◌, ℕ, ◌+◌, ◌<◌, ◌≤◌, Bool, true, false, List, [], ◌∷◌, ◌++◌, map, length, get_or, Option, Some, None, refl, sym, ap, subst, ◌∙◌, arith, lit<, cond, append_assoc, zero-add, length-append, option_and_then_some, ltb-true, ltb-false, lt-ltb, le-ltb, false_from_ne_true, bytes_eq-Decides, append-nil, map-append, join_with_byte-slice_split, nat_lt, IfSome, option_and_then, join_with_byte, bytes_eq, IsBytes, words_in, journal_line, journal_version, workers_of, limits_of, config_of, workers_line, limits_line, limits_lines, config_line, version_with, head_lines, AreLimits, IsWorkersLine, Version, One, Two, WORKERS_LIMIT, control_words, entry_words, control_line, entry_line, worker_line, end_line, lines_from, lines_of, IsControl, IsEntry, Each, IsJournal, control_of, entry_of, is_worker_line, ends_entries, with_entries, with_control, with_entry, after_workers, taken_at, taken, no_draft, journal_in, ControlEntry, WorkerEntry, Voice, Closed, Journal, Draft, Stage, Head, Workers, Limits, Config, Controls, Entries, Over}
use Rattle.mum_record.proofs.{Fits.Each-append, HeadLemmas.journal_version-found, HeadLemmas.workers_of-found, HeadLemmas.workers_of-line, HeadLemmas.limits_of-found, HeadLemmas.limits_of-line, ConfigLaws.config_of-found, ConfigLaws.config_of-line, Laws.chosen, Laws.mapped, EntryLaws.control_of-found, EntryLaws.control_of-line, EntryLaws.entry_of-found, EntryLaws.entry_of-line}

-- ---- the lines

-- the head without the configuration
abbrev pub begun_lines : ℕ → Option (ℕ × ℕ) → List (List ℕ)
begun_lines workers limits = journal_line (version_with limits) ∷ workers_line workers ∷ limits_lines limits

-- the head and the control entries
abbrev pub top_lines : Draft → List (List ℕ)
top_lines d = head_lines journal_line d.workers d.limits d.config ++ map control_line d.controls

-- the lines that a draft has taken
abbrev pub lines_at : Stage → Draft → List (List ℕ)
lines_at Head d = []
lines_at (Workers v) d = journal_line v ∷ []
lines_at Limits d = journal_line Two ∷ workers_line d.workers ∷ []
lines_at Config d = begun_lines d.workers d.limits
lines_at Controls d = top_lines d
lines_at Entries d = top_lines d ++ lines_from 0 d.by_worker ++ worker_line (length d.by_worker) ∷ map entry_line d.entries
lines_at Over d = lines_of (journal_in d)

abbrev pub IsBegun : Draft → Type 0
IsBegun d = (d.controls ≡ []) × (d.by_worker ≡ []) × (d.entries ≡ [])

-- 1 to 8 workers, and limits in their ranges if there are any
abbrev pub HasHead : Draft → Type 0
HasHead d = (1 ≤ d.workers) × (d.workers ≤ WORKERS_LIMIT) × IfSome d.limits AreLimits

-- what a draft holds could be written
abbrev pub SoundAt : Stage → Draft → Type 0
SoundAt Head d = IsBegun d × (d.limits ≡ None)
SoundAt (Workers v) d = IsBegun d × (d.limits ≡ None)
SoundAt Limits d = IsBegun d × (1 ≤ d.workers) × (d.workers ≤ WORKERS_LIMIT)
SoundAt Config d = IsBegun d × HasHead d
SoundAt Controls d = HasHead d × IsBytes d.config × Each IsControl d.controls × (d.by_worker ≡ []) × (d.entries ≡ [])
SoundAt Entries d =
    HasHead d × IsBytes d.config × Each IsControl d.controls × (length d.by_worker + 1 ≤ d.workers) × Each (Each IsEntry) d.by_worker × Each IsEntry d.entries
SoundAt Over d = IsJournal (journal_in d)

pub lines_from-append : (n : ℕ) (xs ys : List (List WorkerEntry)) → lines_from n (xs ++ ys) ≡ lines_from n xs ++ lines_from (n + length xs) ys
unfolding lines_from
lines_from-append n [] ys = ap (λ (k : ℕ). lines_from k ys) (let e : n ≡ n + 0 = omega arith in e)
lines_from-append n (x ∷ xs) ys =
    let more = lines_from-append (n + 1) xs ys in
    let count : n + 1 + length xs ≡ n + length (x ∷ xs) = omega arith in
    ap (λ (ls : List (List ℕ)). (worker_line n ∷ map entry_line x) ++ ls) (more ∙ ap (λ (k : ℕ). lines_from (n + 1) xs ++ lines_from k ys) count)
    ∙ sym (append_assoc (worker_line n ∷ map entry_line x) (lines_from (n + 1) xs) (lines_from (n + length (x ∷ xs)) ys))

lines_from-one : (n : ℕ) (entries : List WorkerEntry) → lines_from n (entries ∷ []) ≡ worker_line n ∷ map entry_line entries
unfolding lines_from
lines_from-one n entries = append-nil (worker_line n ∷ map entry_line entries)

-- the lines of the workers that are read to their ends, and of one more
pub lines_from-push : (done : List (List WorkerEntry)) (entries : List WorkerEntry)
    → lines_from 0 (done ++ entries ∷ []) ≡ lines_from 0 done ++ worker_line (length done) ∷ map entry_line entries
lines_from-push done entries =
    lines_from-append 0 done (entries ∷ [])
    ∙ ap (λ (ls : List (List ℕ)). lines_from 0 done ++ ls) (lines_from-one (0 + length done) entries ∙ ap (λ (k : ℕ). worker_line k ∷ map entry_line entries) (zero-add (length done)))

length-push : {X : Type 0} (xs : List X) (x : X) → length (xs ++ x ∷ []) ≡ length xs + 1
length-push xs x = length-append xs (x ∷ [])

-- ---- a line that is taken

-- one of two that a test chooses
pub picked : {A : Type 0} {P : Type 0} (b : Bool) (x y : Option A) (a : A) → (b ≡ true → x ≡ Some a → P) → (b ≡ false → y ≡ Some a → P) → cond b x y ≡ Some a → P
picked true x y a here there h = here refl h
picked false x y a here there h = there refl h

pub line_is : (line : List ℕ) (words : List (List ℕ)) → words_in line ≡ words → line ≡ join_with_byte 32 words
line_is line words h = sym (join_with_byte-slice_split 32 line) ∙ ap (join_with_byte 32) h

-- the draft after a worker that another follows, or that none follows
ended : Bool → Draft → Draft
ended more d = record d { stage = cond more Entries Over; by_worker = d.by_worker ++ d.entries ∷ []; entries = [] }

ended_lines_are : (d : Draft) (last : List ℕ) → (top_lines d ++ lines_from 0 (d.by_worker ++ d.entries ∷ [])) ++ last ∷ []
    ≡ (top_lines d ++ lines_from 0 d.by_worker ++ worker_line (length d.by_worker) ∷ map entry_line d.entries) ++ last ∷ []
ended_lines_are d last =
    ap (λ (ls : List (List ℕ)). ls ++ last ∷ [])
    (ap (λ (ls : List (List ℕ)). top_lines d ++ ls) (lines_from-push d.by_worker d.entries)
    ∙ sym (append_assoc (top_lines d) (lines_from 0 d.by_worker) (worker_line (length d.by_worker) ∷ map entry_line d.entries)))

ended-sound : (more : Bool) (d : Draft) (line : List ℕ) → SoundAt Entries d → nat_lt (length d.by_worker + 1) d.workers ≡ more
    → cond more (is_worker_line (length d.by_worker + 1) line) (bytes_eq line end_line) ≡ true
    → SoundAt (cond more Entries Over) (ended more d) × (lines_at (cond more Entries Over) (ended more d) ≡ lines_at Entries d ++ line ∷ [])
unfolding ended lines_of
ended-sound true d line h test same =
    let count = length-push d.by_worker d.entries in
    let room : length (d.by_worker ++ d.entries ∷ []) + 1 ≤ d.workers = omega (arith, ltb-true (length d.by_worker + 1) d.workers test, count) in
    let is : line ≡ worker_line (length d.by_worker + 1) = (bytes_eq-Decides line (worker_line (length d.by_worker + 1))).0 same in
    let last : worker_line (length (d.by_worker ++ d.entries ∷ [])) ≡ line = ap worker_line count ∙ sym is in (
      (h.0, h.1, h.2, room, Each-append (Each IsEntry) d.by_worker (d.entries ∷ []) h.4 (h.5, tt), tt),
      ap (λ (l : List ℕ). (top_lines d ++ lines_from 0 (d.by_worker ++ d.entries ∷ [])) ++ l ∷ []) last ∙ ended_lines_are d line,
    )
ended-sound false d line h test same =
    let count = length-push d.by_worker d.entries in
    let full = ltb-false (length d.by_worker + 1) d.workers test in
    let is : line ≡ end_line = (bytes_eq-Decides line end_line).0 same in
    let lists : length (d.by_worker ++ d.entries ∷ []) ≡ d.workers = omega (arith, count, full, h.3) in (
      record {
        least = h.0.0;
        greatest = h.0.1;
        lists = lists;
        limits = h.0.2;
        config = h.1;
        controls = h.2;
        entries = Each-append (Each IsEntry) d.by_worker (d.entries ∷ []) h.4 (h.5, tt);
      },
      rw is (ended_lines_are d end_line),
    )

-- a line of workers
workers-sound : (v : Version) (d : Draft) (line : List ℕ) (w : ℕ) → SoundAt (Workers v) d → IsWorkersLine line w
    → let next : Draft = record d { stage = after_workers v; workers = w } in SoundAt (after_workers v) next × (lines_at (after_workers v) next ≡ lines_at (Workers v) d ++ line ∷ [])
workers-sound One d line w h is = rw (h.1, is.2) ((h.0, (is.0, is.1, tt)), refl)
workers-sound Two d line w h is = rw is.2 ((h.0, is.0, is.1), refl)

taken_at-sound : (st : Stage) (d : Draft) (line : List ℕ) (next : Draft) → d.stage ≡ st → SoundAt st d → taken_at st d line ≡ Some next
    → SoundAt next.stage next × (lines_at next.stage next ≡ lines_at st d ++ line ∷ [])
unfolding lines_from ended
taken_at-sound Head d line next at h e =
    mapped (λ (v : Version). record d { stage = Workers v }) (journal_version line) next (λ v v_is e1.
    rw (← e1, journal_version-found line v v_is) (h, refl)) e
taken_at-sound (Workers v) d line next at h e =
    mapped (λ (w : ℕ). record d { stage = after_workers v; workers = w }) (workers_of line) next (λ w w_is e1.
    rw (← e1) (workers-sound v d line w h (workers_of-found line w w_is))) e
taken_at-sound Limits d line next at h e =
    mapped (λ (limits : ℕ × ℕ). record d { stage = Config; limits = Some limits }) (limits_of line) next (λ limits is e1.
    let found = limits_of-found line limits is in
    rw (← e1, found.1) ((h.0, (h.1, h.2, found.0)), refl)) e
taken_at-sound Config d line next at h e =
    mapped (λ (document : List ℕ). record d { stage = Controls; config = document }) (config_of line) next (λ document is e1.
    let found = config_of-found line document is in
    let lines : head_lines journal_line d.workers d.limits document ++ [] ≡ begun_lines d.workers d.limits ++ config_line document ∷ [] =
    append-nil (head_lines journal_line d.workers d.limits document) in
    rw (← e1, found.1, h.0.0) ((h.1, found.0, tt, h.0.1, h.0.2), lines)) e
taken_at-sound Controls d line next at h e =
    chosen line (worker_line 0) _ _ next
    (λ w e1.
    let is : record d { stage = Entries } ≡ next = cc in
    let tail : (top_lines d ++ []) ++ worker_line 0 ∷ [] ≡ top_lines d ++ worker_line 0 ∷ [] = ap (λ (ls : List (List ℕ)). ls ++ worker_line 0 ∷ []) (append-nil (top_lines d)) in
    rw (← is, w, h.3, h.4) ((h.0, h.1, h.2, h.0.0, tt, tt), tail))
    (mapped (with_control d) (control_of (words_in line)) next (λ entry is e1.
    let found = control_of-found (words_in line) entry is in
    let one = line_is line (control_words entry) found.1 in
    let head : List (List ℕ) = head_lines journal_line d.workers d.limits d.config in
    let more = map-append control_line d.controls (entry ∷ []) ∙ ap (λ (l : List ℕ). map control_line d.controls ++ l ∷ []) (sym one) in
    rw (← e1) (subst (λ (s : Stage). SoundAt s (with_control d entry) × (lines_at s (with_control d entry) ≡ lines_at Controls d ++ line ∷ [])) (sym at) (
      (h.0, h.1, Each-append IsControl d.controls (entry ∷ []) h.2 (found.0, tt), h.3, h.4),
      ap (λ (ls : List (List ℕ)). head ++ ls) more ∙ sym (append_assoc head (map control_line d.controls) (line ∷ [])),
    ))))
    e
taken_at-sound Entries d line next at h e =
    picked (ends_entries d line) _ _ next
    (λ ends e1.
    let is : with_entries d ≡ next = cc in
    rw (← is) (ended-sound (nat_lt (length d.by_worker + 1) d.workers) d line h refl ends))
    (λ ends. mapped (with_entry d) (entry_of (words_in line)) next (λ entry is e1.
    let found = entry_of-found (words_in line) entry is in
    let one = line_is line (entry_words entry) found.1 in
    let before : List (List ℕ) = top_lines d ++ lines_from 0 d.by_worker in
    let more = map-append entry_line d.entries (entry ∷ []) ∙ ap (λ (l : List ℕ). map entry_line d.entries ++ l ∷ []) (sym one) in
    rw (← e1) (subst (λ (s : Stage). SoundAt s (with_entry d entry) × (lines_at s (with_entry d entry) ≡ lines_at Entries d ++ line ∷ [])) (sym at) (
      (h.0, h.1, h.2, h.3, h.4, Each-append IsEntry d.entries (entry ∷ []) h.5 (found.0, tt)),
      ap (λ (ls : List (List ℕ)). before ++ worker_line (length d.by_worker) ∷ ls) more
          ∙ sym (append_assoc before (worker_line (length d.by_worker) ∷ map entry_line d.entries) (line ∷ [])),
    ))))
    e
taken_at-sound Over d line next at h e = cc

pub taken-sound : (d : Draft) (line : List ℕ) (next : Draft) → SoundAt d.stage d → taken d line ≡ Some next
    → SoundAt next.stage next × (lines_at next.stage next ≡ lines_at d.stage d ++ line ∷ [])
unfolding taken
taken-sound d line next h e = taken_at-sound d.stage d line next refl h e

-- ---- lines that are taken one after another

abbrev pub run : Draft → List (List ℕ) → Option Draft
run d [] = Some d
run d (line ∷ lines) = option_and_then (λ (next : Draft). run next lines) (taken d line)

pub run-sound : (lines : List (List ℕ)) (d next : Draft) → SoundAt d.stage d → run d lines ≡ Some next
    → SoundAt next.stage next × (lines_at next.stage next ≡ lines_at d.stage d ++ lines)
run-sound [] d next h e = let is : d ≡ next = cc in rw (← is) (h, sym (append-nil (lines_at d.stage d)))
run-sound (line ∷ lines) d next h e =
    option_and_then_some (λ (after : Draft). run after lines) (taken d line) next e (λ after is e1.
    let one = taken-sound d line after h is in
    let rest = run-sound lines after next one.0 e1 in
    (rest.0, rest.1 ∙ ap (λ (ls : List (List ℕ)). ls ++ lines) one.1 ∙ append_assoc (lines_at d.stage d) (line ∷ []) lines))

pub run-some : (xs ys : List (List ℕ)) (d middle : Draft) → run d xs ≡ Some middle → run d (xs ++ ys) ≡ run middle ys
run-some [] ys d middle h = let is : d ≡ middle = cc in ap (λ (x : Draft). run x ys) is
run-some (x ∷ xs) ys d middle h =
    option_and_then_some (λ (after : Draft). run after xs) (taken d x) middle h (λ after is e.
    rw is (run-some xs ys after middle e))

pub run-front : (xs ys : List (List ℕ)) (d last : Draft) → run d (xs ++ ys) ≡ Some last → (middle : Draft) × (run d xs ≡ Some middle) × (run middle ys ≡ Some last)
run-front [] ys d last h = (d, refl, h)
run-front (x ∷ xs) ys d last h =
    option_and_then_some (λ (after : Draft). run after (xs ++ ys)) (taken d x) last h (λ after is e.
    let rest = run-front xs ys after last e in
    (rest.0, rw is rest.1, rest.2))

-- ---- the lines of a journal are taken

abbrev pub at_controls : ℕ → Option (ℕ × ℕ) → List ℕ → List ControlEntry → Draft
at_controls w l c cs = record { stage = Controls; workers = w; limits = l; config = c; controls = cs; by_worker = []; entries = [] }

abbrev pub at_entries : ℕ → Option (ℕ × ℕ) → List ℕ → List ControlEntry → List (List WorkerEntry) → List WorkerEntry → Draft
at_entries w l c cs done es = record { stage = Entries; workers = w; limits = l; config = c; controls = cs; by_worker = done; entries = es }

abbrev pub at_end : ℕ → Option (ℕ × ℕ) → List ℕ → List ControlEntry → List (List WorkerEntry) → Draft
at_end w l c cs lists = record { stage = Over; workers = w; limits = l; config = c; controls = cs; by_worker = lists; entries = [] }

-- lines that begin with other letters differ
other_first : (a b : List ℕ) (x y : ℕ) → get_or a 0 0 ≡ x → get_or b 0 0 ≡ y → x < y → bytes_eq a b ≡ false
other_first a b x y at_a at_b less =
    false_from_ne_true (bytes_eq a b) (λ same.
    let e : get_or a 0 0 ≡ get_or b 0 0 = ap (λ (l : List ℕ). get_or l 0 0) ((bytes_eq-Decides a b).0 same) in
    omega arith)

other_after : (a b : List ℕ) (x y : ℕ) → get_or a 0 0 ≡ x → get_or b 0 0 ≡ y → y < x → bytes_eq a b ≡ false
other_after a b x y at_a at_b less =
    false_from_ne_true (bytes_eq a b) (λ same.
    let e : get_or a 0 0 ≡ get_or b 0 0 = ap (λ (l : List ℕ). get_or l 0 0) ((bytes_eq-Decides a b).0 same) in
    omega arith)

control_begins : (entry : ControlEntry) → get_or (control_line entry) 0 0 ≡ 99
unfolding control_words
control_begins entry = refl

control_is_no_worker : (entry : ControlEntry) → is_worker_line 0 (control_line entry) ≡ false
control_is_no_worker entry = other_first (control_line entry) (worker_line 0) 99 119 (control_begins entry) refl (lit< tt)

entry_is_no_worker : (n : ℕ) (entry : WorkerEntry) → is_worker_line n (entry_line entry) ≡ false
unfolding entry_words
entry_is_no_worker n (Voice c r p cs) = other_first (entry_line (Voice c r p cs)) (worker_line n) 118 119 refl refl (lit< tt)
entry_is_no_worker n (Closed c cause) = other_after (entry_line (Closed c cause)) (worker_line n) 120 119 refl refl (lit< tt)

entry_is_no_end : (entry : WorkerEntry) → bytes_eq (entry_line entry) end_line ≡ false
unfolding entry_words
entry_is_no_end (Voice c r p cs) = other_after (entry_line (Voice c r p cs)) end_line 118 101 refl refl (lit< tt)
entry_is_no_end (Closed c cause) = other_after (entry_line (Closed c cause)) end_line 120 101 refl refl (lit< tt)

both_false : (b x y : Bool) → x ≡ false → y ≡ false → cond b x y ≡ false
both_false true x y one two = one
both_false false x y one two = two

run-controls : (w : ℕ) (l : Option (ℕ × ℕ)) (c : List ℕ) (before cs : List ControlEntry) → Each IsControl cs → run (at_controls w l c before) (map control_line cs) ≡ Some (at_controls w l c (before ++ cs))
unfolding taken
run-controls w l c before [] h = ap (λ (xs : List ControlEntry). Some (at_controls w l c xs)) (sym (append-nil before))
run-controls w l c before (e ∷ es) h =
    rw (control_is_no_worker e, control_of-line e h.0)
    (run-controls w l c (before ++ e ∷ []) es h.1 ∙ ap (λ (xs : List ControlEntry). Some (at_controls w l c xs)) (append_assoc before (e ∷ []) es))

run-entries : (w : ℕ) (l : Option (ℕ × ℕ)) (c : List ℕ) (cs : List ControlEntry) (done : List (List WorkerEntry)) (before es : List WorkerEntry) → Each IsEntry es
    → run (at_entries w l c cs done before) (map entry_line es) ≡ Some (at_entries w l c cs done (before ++ es))
unfolding taken
run-entries w l c cs done before [] h = ap (λ (xs : List WorkerEntry). Some (at_entries w l c cs done xs)) (sym (append-nil before))
run-entries w l c cs done before (e ∷ es) h =
    let other : ends_entries (at_entries w l c cs done before) (entry_line e) ≡ false = both_false (nat_lt (length done + 1) w) _ _ (entry_is_no_worker (length done + 1) e) (entry_is_no_end e) in
    rw (other, entry_of-line e h.0)
    (run-entries w l c cs done (before ++ e ∷ []) es h.1 ∙ ap (λ (xs : List WorkerEntry). Some (at_entries w l c cs done xs)) (append_assoc before (e ∷ []) es))

same_line : (line : List ℕ) → bytes_eq line line ≡ true
same_line line = (bytes_eq-Decides line line).1 refl

take_end : (w : ℕ) (l : Option (ℕ × ℕ)) (c : List ℕ) (cs : List ControlEntry) (done : List (List WorkerEntry)) (es : List WorkerEntry) → length done + 1 ≡ w
    → taken (at_entries w l c cs done es) end_line ≡ Some (at_end w l c cs (done ++ es ∷ []))
unfolding taken
take_end w l c cs done es last =
    let full : nat_lt (length done + 1) w ≡ false = le-ltb (length done + 1) w (omega arith) in
    rw full refl

take_worker : (w : ℕ) (l : Option (ℕ × ℕ)) (c : List ℕ) (cs : List ControlEntry) (done : List (List WorkerEntry)) (es : List WorkerEntry) → length done + 1 < w
    → taken (at_entries w l c cs done es) (worker_line (length done + 1)) ≡ Some (at_entries w l c cs (done ++ es ∷ []) [])
unfolding taken
take_worker w l c cs done es more =
    let room : nat_lt (length done + 1) w ≡ true = lt-ltb (length done + 1) w more in
    rw (room, same_line (worker_line (length done + 1))) refl

-- the entries of a worker and all after them
run-workers : (others : List (List WorkerEntry)) (w : ℕ) (l : Option (ℕ × ℕ)) (c : List ℕ) (cs : List ControlEntry) (done : List (List WorkerEntry)) (es : List WorkerEntry)
    → Each IsEntry es → Each (Each IsEntry) others → length done + 1 + length others ≡ w
    → run (at_entries w l c cs done []) (map entry_line es ++ (lines_from (length done + 1) others ++ end_line ∷ [])) ≡ Some (at_end w l c cs (done ++ es ∷ others))
unfolding lines_from
run-workers [] w l c cs done es here there count =
    run-some (map entry_line es) (end_line ∷ []) (at_entries w l c cs done []) (at_entries w l c cs done es) (run-entries w l c cs done [] es here)
    ∙ rw (take_end w l c cs done es (omega arith)) refl
run-workers (next ∷ more) w l c cs done es here there count =
    let pushed = length-push done es in
    let room : length done + 1 < w = omega arith in
    let rest = run-workers more w l c cs (done ++ es ∷ []) next there.0 there.1 (omega arith) in
    let index : length (done ++ es ∷ []) + 1 ≡ length done + 1 + 1 = omega arith in
    let behind : List (List ℕ) = lines_from (length done + 1 + 1) more ++ end_line ∷ [] in
    let moved : run (at_entries w l c cs (done ++ es ∷ []) []) (map entry_line next ++ behind) ≡ Some (at_end w l c cs ((done ++ es ∷ []) ++ next ∷ more)) =
    ap (λ (k : ℕ). run (at_entries w l c cs (done ++ es ∷ []) []) (map entry_line next ++ (lines_from k more ++ end_line ∷ []))) (sym index) ∙ rest in
    let cut : (map entry_line next ++ lines_from (length done + 1 + 1) more) ++ end_line ∷ [] ≡ map entry_line next ++ behind = append_assoc (map entry_line next) (lines_from (length done + 1 + 1) more) (end_line ∷ []) in
    run-some (map entry_line es) _ (at_entries w l c cs done []) (at_entries w l c cs done es) (run-entries w l c cs done [] es here)
    ∙ rw (take_worker w l c cs done es room, cut)
    (moved ∙ ap (λ (lists : List (List WorkerEntry)). Some (at_end w l c cs lists)) (append_assoc done (es ∷ []) (next ∷ more)))

run-lists : (w : ℕ) (l : Option (ℕ × ℕ)) (c : List ℕ) (cs : List ControlEntry) (lists : List (List WorkerEntry)) → 1 ≤ w → length lists ≡ w → Each (Each IsEntry) lists
    → run (at_controls w l c cs) (lines_from 0 lists ++ end_line ∷ []) ≡ Some (at_end w l c cs lists)
unfolding lines_from taken
run-lists w l c cs [] some count h = absurd (omega arith)
run-lists w l c cs (es ∷ others) some count h =
    rw (same_line (worker_line 0), append_assoc (map entry_line es) (lines_from 1 others) (end_line ∷ [])) (run-workers others w l c cs [] es h.0 h.1 (omega arith))

take_head : (w : ℕ) (l : Option (ℕ × ℕ)) (c : List ℕ) (more : List (List ℕ)) → 1 ≤ w → w ≤ WORKERS_LIMIT → IfSome l AreLimits → IsBytes c
    → run no_draft (head_lines journal_line w l c ++ more) ≡ run (at_controls w l c []) more
unfolding taken journal_version
take_head w None c more least greatest fit small = rw (workers_of-line (workers_line w) w (least, greatest, refl), config_of-line c small) refl
take_head w (Some l) c more least greatest fit small =
    rw (workers_of-line (workers_line w) w (least, greatest, refl), limits_of-line (limits_line l) l (fit, refl), config_of-line c small) refl

pub run-journal : (j : Journal) → IsJournal j → run no_draft (lines_of j) ≡ Some (at_end j.workers j.limits j.config j.controls j.by_worker)
unfolding lines_of
run-journal j h =
    let head : List (List ℕ) = head_lines journal_line j.workers j.limits j.config in
    let controls : List (List ℕ) = map control_line j.controls in
    let lists : List (List ℕ) = lines_from 0 j.by_worker in
    let behind : List (List ℕ) = lists ++ end_line ∷ [] in
    let begun : Draft = at_controls j.workers j.limits j.config [] in
    let cut : ((head ++ controls) ++ lists) ++ end_line ∷ [] ≡ head ++ (controls ++ behind) =
    append_assoc (head ++ controls) lists (end_line ∷ []) ∙ append_assoc head controls behind in
    ap (run no_draft) cut
    ∙ take_head j.workers j.limits j.config (controls ++ behind) h.least h.greatest h.limits h.config
    ∙ run-some controls behind begun (at_controls j.workers j.limits j.config j.controls) (run-controls j.workers j.limits j.config [] j.controls h.controls)
    ∙ run-lists j.workers j.limits j.config j.controls j.by_worker h.least h.lists h.entries
