-- The computed reading of a text is the grammar of journals, and stops at the first faulty line.
use Rattle.mum_record.proofs.Common.{◌≡◌, ℕ, zero, suc, ◌+◌, ◌-◌, ◌<◌, ◌≤◌, Bool, true, false, List, [], ◌∷◌, ◌++◌, map, length, take, Option, Some, None, IfOk, IfErr, Result, Ok, Err, refl, sym, ap, subst, ◌∙◌, arith, lit<, lit≤, codes, append_assoc, length-append, zero-add, option_and_then_some, append-nil, join_with_byte-slice_split, length-slice_split, if◌then◌else◌, IfSome, option_and_then, decimal, join_with_byte, IsBytes, journal_line, workers_line, limits_line, limits_lines, config_line, config_word, version_with, head_lines, AreLimits, Version, One, Two, WORKERS_LIMIT, control_words, entry_words, control_line, entry_line, worker_line, end_line, lines_from, lines_of, ended_lines, IsControl, IsEntry, Each, IsJournal, IsTextOf, BeginJournal, taken, no_draft, journal_in, is_over, ending, goes_on, reading_from, pieces_of, journal_of, is_line_feed, ReadsText, AnswersBy, IsFirstFault, NamesFirstFault, Takes, StopsAt, ControlEntry, WorkerEntry, Journal, LineFault, JournalFault, Draft, Stage, Head, Workers, Limits, Config, Controls, Entries, Over}
use Rattle.mum_record.specs.declared.journal.JournalFault.TheVariants.{NotALine, OutOfMemory}
use Rattle.mum_record.proofs.{Graphic.IsPart, Graphic.split_parts, Graphic.line_IsPart, Graphic.literal_IsPart, Graphic.literal_graphic, Graphic.decimal_graphic, Fits.Each-append, ConfigLaws.config_words_graphic, EntryLaws.control_graphic, EntryLaws.entry_graphic, DraftLaws.SoundAt, DraftLaws.begun_lines, DraftLaws.top_lines, DraftLaws.lines_at, DraftLaws.lines_from-append, DraftLaws.run, DraftLaws.run-sound, DraftLaws.run-some, DraftLaws.run-front, DraftLaws.run-journal, DraftLaws.at_end}
use Rattle.mum_record.specs.declared.step.LineFault.TheVariants as line

-- ---- a draft can be completed

blanks : ℕ → List (List WorkerEntry)
blanks zero = []
blanks (suc k) = [] ∷ blanks k

length-blanks : (k : ℕ) → length (blanks k) ≡ k
unfolding blanks
length-blanks zero = refl
length-blanks (suc k) = let more = length-blanks k in omega arith

Each-blanks : (k : ℕ) → Each (Each IsEntry) (blanks k)
unfolding blanks
Each-blanks zero = tt
Each-blanks (suc k) = (tt, Each-blanks k)

no_bytes : IsBytes []
no_bytes i = lit< tt

-- a journal of the lines that are there, with nothing more
plain_journal : (w : ℕ) (l : Option (ℕ × ℕ)) (c : List ℕ) (cs : List ControlEntry) (lists : List (List WorkerEntry)) → Journal
plain_journal w l c cs lists = record { workers = w; limits = l; config = c; controls = cs; by_worker = lists }

plain : (w : ℕ) (l : Option (ℕ × ℕ)) (c : List ℕ) (cs : List ControlEntry) (lists : List (List WorkerEntry)) → 1 ≤ w → w ≤ WORKERS_LIMIT → IfSome l AreLimits → length lists ≡ w → IsBytes c → Each IsControl cs
    → Each (Each IsEntry) lists → IsJournal (plain_journal w l c cs lists)
unfolding plain_journal
plain w l c cs lists least greatest limits count small controls entries =
    record { least = least; greatest = greatest; lists = count; limits = limits; config = small; controls = controls; entries = entries }

-- limits that any journal of version 2 may have
least_limits : ℕ × ℕ
least_limits = (128, 1024)

least_are_limits : AreLimits least_limits
unfolding least_limits
least_are_limits = (lit≤ tt, lit≤ tt, lit≤ tt, lit≤ tt)

limits_for : Version → Option (ℕ × ℕ)
limits_for One = None
limits_for Two = Some least_limits

limits_for-fit : (v : Version) → IfSome (limits_for v) AreLimits
unfolding limits_for
limits_for-fit One = tt
limits_for-fit Two = least_are_limits

limits_for-version : (v : Version) → version_with (limits_for v) ≡ v
unfolding limits_for
limits_for-version One = refl
limits_for-version Two = refl

-- the lines of workers that are there, of one more, and of others
lists_cut : (done : List (List WorkerEntry)) (es : List WorkerEntry) (others : List (List WorkerEntry))
    → lines_from 0 (done ++ es ∷ others) ≡ lines_from 0 done ++ ((worker_line (length done) ∷ map entry_line es) ++ lines_from (length done + 1) others)
unfolding lines_from
lists_cut done es others =
    lines_from-append 0 done (es ∷ others)
    ∙ ap (λ (k : ℕ). lines_from 0 done ++ ((worker_line k ∷ map entry_line es) ++ lines_from (k + 1) others)) (zero-add (length done))

-- a head without its configuration, and what comes after
config_cut : (w : ℕ) (l : Option (ℕ × ℕ)) (behind : List (List ℕ))
    → ((head_lines journal_line w l [] ++ []) ++ behind) ++ end_line ∷ [] ≡ begun_lines w l ++ config_line [] ∷ (behind ++ end_line ∷ [])
config_cut w None behind = refl
config_cut w (Some l) behind = refl

pub completed : (st : Stage) (d : Draft) → SoundAt st d → BeginJournal (lines_at st d)
unfolding lines_of lines_from plain_journal blanks
completed Head d h = (plain_journal 1 None [] [] (blanks 1), _, plain 1 None [] [] (blanks 1) (lit≤ tt) (lit≤ tt) tt refl no_bytes tt (Each-blanks 1), refl)
completed (Workers v) d h =
    let l : Option (ℕ × ℕ) = limits_for v in (
      plain_journal 1 l [] [] (blanks 1),
      workers_line 1 ∷ ((limits_lines l ++ config_line [] ∷ []) ++ []) ++ (lines_from 0 (blanks 1)) ++ end_line ∷ [],
      plain 1 l [] [] (blanks 1) (lit≤ tt) (lit≤ tt) (limits_for-fit v) refl no_bytes tt (Each-blanks 1),
      ap (λ (u : Version). journal_line u ∷ workers_line 1 ∷ ((limits_lines l ++ config_line [] ∷ []) ++ []) ++ (lines_from 0 (blanks 1)) ++ end_line ∷ []) (limits_for-version v),
    )
completed Limits d h =
    let w : ℕ = d.workers in (
      plain_journal w (Some least_limits) [] [] (blanks w),
      limits_line least_limits ∷ config_line [] ∷ (lines_from 0 (blanks w) ++ end_line ∷ []),
      plain w (Some least_limits) [] [] (blanks w) h.1 h.2 least_are_limits (length-blanks w) no_bytes tt (Each-blanks w),
      refl,
    )
completed Config d h =
    let w : ℕ = d.workers in
    let behind : List (List ℕ) = lines_from 0 (blanks w) in (
      plain_journal w d.limits [] [] (blanks w),
      config_line [] ∷ (behind ++ end_line ∷ []),
      plain w d.limits [] [] (blanks w) h.1.0 h.1.1 h.1.2 (length-blanks w) no_bytes tt (Each-blanks w),
      config_cut w d.limits behind,
    )
completed Controls d h =
    let w : ℕ = d.workers in (
      plain_journal w d.limits d.config d.controls (blanks w),
      lines_from 0 (blanks w) ++ end_line ∷ [],
      plain w d.limits d.config d.controls (blanks w) h.0.0 h.0.1 h.0.2 (length-blanks w) h.1 h.2 (Each-blanks w),
      append_assoc (top_lines d) (lines_from 0 (blanks w)) (end_line ∷ []),
    )
completed Entries d h =
    let w : ℕ = d.workers in
    let n : ℕ = length d.by_worker in
    let k : ℕ = w - (n + 1) in
    let lists : List (List WorkerEntry) = d.by_worker ++ d.entries ∷ blanks k in
    let count : length lists ≡ w = omega (arith, length-append d.by_worker (d.entries ∷ blanks k), length-blanks k, h.3) in
    let here : List (List ℕ) = worker_line n ∷ map entry_line d.entries in
    let behind : List (List ℕ) = lines_from (n + 1) (blanks k) in
    let before : List (List ℕ) = top_lines d ++ lines_from 0 d.by_worker in
    let cut : lines_from 0 lists ≡ lines_from 0 d.by_worker ++ (here ++ behind) = lists_cut d.by_worker d.entries (blanks k) in
    let joined : (top_lines d ++ (lines_from 0 d.by_worker ++ (here ++ behind))) ++ end_line ∷ [] ≡ (before ++ here) ++ (behind ++ end_line ∷ []) =
    ap (λ (ls : List (List ℕ)). ls ++ end_line ∷ []) (sym (append_assoc (top_lines d) (lines_from 0 d.by_worker) (here ++ behind)) ∙ sym (append_assoc before here behind))
    ∙ append_assoc (before ++ here) behind (end_line ∷ []) in (
      plain_journal w d.limits d.config d.controls lists,
      behind ++ end_line ∷ [],
      plain w d.limits d.config d.controls lists h.0.0 h.0.1 h.0.2 count h.1 h.2 (Each-append (Each IsEntry) d.by_worker (d.entries ∷ blanks k) h.4 (h.5, Each-blanks k)),
      ap (λ (ls : List (List ℕ)). (top_lines d ++ ls) ++ end_line ∷ []) cut ∙ joined,
    )
completed Over d h = (journal_in d, [], h, sym (append-nil (lines_of (journal_in d))))

-- ---- the lines of a text

AreParts : List (List ℕ) → Type 0
AreParts [] = Unit {0}
AreParts (line ∷ lines) = IsPart 10 line × AreParts lines

parts_joined : (xs ys : List (List ℕ)) → AreParts xs → AreParts ys → AreParts (xs ++ ys)
unfolding AreParts
parts_joined [] ys here there = there
parts_joined (x ∷ xs) ys here there = (here.0, parts_joined xs ys here.1 there)

pieces-lines : (lines : List (List ℕ)) → AreParts lines → pieces_of (ended_lines lines) ≡ lines ++ [] ∷ []
unfolding AreParts
pieces-lines [] h = refl
pieces-lines (line ∷ lines) h =
    ap pieces_of (append_assoc line (10 ∷ []) (ended_lines lines))
    ∙ split_parts 10 line (ended_lines lines) h.0
    ∙ ap (λ (ls : List (List ℕ)). line ∷ ls) (pieces-lines lines h.1)

joined-lines : (lines : List (List ℕ)) → join_with_byte 10 (lines ++ [] ∷ []) ≡ ended_lines lines
joined-lines [] = refl
joined-lines (line ∷ []) = sym (append_assoc line (10 ∷ []) [] ∙ refl)
joined-lines (line ∷ next ∷ more) =
    ap (λ (l : List ℕ). line ++ 10 ∷ l) (joined-lines (next ∷ more))
    ∙ sym (append_assoc line (10 ∷ []) (ended_lines (next ∷ more)))

controls_parts : (cs : List ControlEntry) → Each IsControl cs → AreParts (map control_line cs)
unfolding AreParts
controls_parts [] h = tt
controls_parts (c ∷ cs) h = (line_IsPart (control_words c) (control_graphic c h.0.0), controls_parts cs h.1)

entries_parts : (es : List WorkerEntry) → Each IsEntry es → AreParts (map entry_line es)
unfolding AreParts
entries_parts [] h = tt
entries_parts (e ∷ es) h = (line_IsPart (entry_words e) (entry_graphic e h.0.0), entries_parts es h.1)

worker_part : (n : ℕ) → n ≤ WORKERS_LIMIT → IsPart 10 (worker_line n)
worker_part n h = line_IsPart (codes "worker" ∷ decimal n ∷ []) (literal_graphic (codes "worker") refl, (decimal_graphic n (omega arith), tt))

lists_parts : (n : ℕ) (lists : List (List WorkerEntry)) → n + length lists ≤ WORKERS_LIMIT → Each (Each IsEntry) lists → AreParts (lines_from n lists)
unfolding lines_from AreParts
lists_parts n [] count h = tt
lists_parts n (es ∷ others) count h =
    (worker_part n (omega arith), parts_joined (map entry_line es) (lines_from (n + 1) others) (entries_parts es h.0) (lists_parts (n + 1) others (omega arith) h.1))

end_part : AreParts (end_line ∷ [])
unfolding AreParts
end_part = (literal_IsPart end_line refl, tt)

version_part : (v : Version) → IsPart 10 (journal_line v)
version_part One = literal_IsPart (journal_line One) refl
version_part Two = literal_IsPart (journal_line Two) refl

limits_parts : (l : Option (ℕ × ℕ)) → IfSome l AreLimits → AreParts (limits_lines l)
unfolding AreParts
limits_parts None h = tt
limits_parts (Some l) h = (
  line_IsPart (codes "limits" ∷ decimal l.0 ∷ decimal l.1 ∷ [])
      (literal_graphic (codes "limits") refl, (decimal_graphic l.0 (omega (arith, h.1)), (decimal_graphic l.1 (omega (arith, h.3)), tt))),
  tt,
)

head_parts : (j : Journal) → IsJournal j → AreParts (head_lines journal_line j.workers j.limits j.config)
unfolding AreParts
head_parts j h = (
  version_part (version_with j.limits),
  (
    line_IsPart (codes "workers" ∷ decimal j.workers ∷ []) (literal_graphic (codes "workers") refl, (decimal_graphic j.workers (omega (arith, h.greatest)), tt)),
    parts_joined (limits_lines j.limits) (config_line j.config ∷ []) (limits_parts j.limits h.limits)
        (line_IsPart (codes "config" ∷ config_word j.config ∷ []) (config_words_graphic j.config h.config), tt),
  ),
)

lines_parts : (j : Journal) → IsJournal j → AreParts (lines_of j)
unfolding lines_of
lines_parts j h =
    let head : List (List ℕ) = head_lines journal_line j.workers j.limits j.config in
    let controls : List (List ℕ) = map control_line j.controls in
    let lists : List (List ℕ) = lines_from 0 j.by_worker in
    parts_joined ((head ++ controls) ++ lists) (end_line ∷ [])
    (parts_joined (head ++ controls) lists
    (parts_joined head controls (head_parts j h) (controls_parts j.controls h.controls))
    (lists_parts 0 j.by_worker (omega (arith, h.lists, h.greatest)) h.entries))
    end_part

pub text-pieces : (j : Journal) → IsJournal j → pieces_of (ended_lines (lines_of j)) ≡ lines_of j ++ [] ∷ []
text-pieces j h = pieces-lines (lines_of j) (lines_parts j h)

-- ---- the reading of all lines

goes-ok : (n : ℕ) (o : Option Draft) (rest : Draft → Result Journal ℕ) (j : Journal) → goes_on n o rest ≡ Ok j → (next : Draft) × (o ≡ Some next) × (rest next ≡ Ok j)
goes-ok n None rest j h = cc
goes-ok n (Some next) rest j h = (next, refl, h)

-- what a draft says at its end
abbrev said : Bool → Draft → ℕ → Result Journal ℕ
said over d n = if over then Ok (journal_in d) else Err n

said-ok : (over : Bool) (d : Draft) (n : ℕ) (j : Journal) → said over d n ≡ Ok j → (over ≡ true) × (journal_in d ≡ j)
said-ok true d n j h = (refl, cc)
said-ok false d n j h = cc

said-err : (over : Bool) (d : Draft) (n m : ℕ) → said over d n ≡ Err m → (m ≡ n) × (over ≡ true → ⊥)
said-err true d n m h = cc
said-err false d n m h = (cc, λ yes. cc)

ending-ok : (d : Draft) (n : ℕ) (rest : List ℕ) (j : Journal) → ending d n rest ≡ Ok j → (rest ≡ []) × (is_over d.stage ≡ true) × (journal_in d ≡ j)
ending-ok d n [] j h = let end = said-ok (is_over d.stage) d n j h in (refl, end.0, end.1)
ending-ok d n (byte ∷ bytes) j h = cc

-- what is read is the journal of lines that were taken in order, with nothing after
record Took (d : Draft) (pieces : List (List ℕ)) (j : Journal) : Type 0 where
  lines : List (List ℕ)
  last : Draft
  all : pieces ≡ lines ++ [] ∷ []
  went : run d lines ≡ Some last
  over : is_over last.stage ≡ true
  is : journal_in last ≡ j

took : (pieces : List (List ℕ)) (d : Draft) (n : ℕ) (j : Journal) → reading_from d n pieces ≡ Ok j → Took d pieces j
unfolding reading_from
took [] d n j h = cc
took (rest ∷ []) d n j h =
    let end = ending-ok d n rest j h in
    record { lines = []; last = d; all = ap (λ (r : List ℕ). r ∷ []) end.0; went = refl; over = end.1; is = end.2 }
took (line ∷ next ∷ more) d n j h =
    let step = goes-ok n (taken d line) (λ (after : Draft). reading_from after (n + 1) (next ∷ more)) j h in
    let rest = took (next ∷ more) step.0 (n + 1) j step.2 in
    record {
      lines = line ∷ rest.lines;
      last = rest.last;
      all = ap (λ (ls : List (List ℕ)). line ∷ ls) rest.all;
      went = ap (option_and_then (λ (after : Draft). run after rest.lines)) step.1 ∙ rest.went;
      over = rest.over;
      is = rest.is;
    }

over_is : (st : Stage) → is_over st ≡ true → st ≡ Over
over_is Head h = cc
over_is (Workers v) h = cc
over_is Limits h = cc
over_is Config h = cc
over_is Controls h = cc
over_is Entries h = cc
over_is Over h = refl

sound_over : (st : Stage) (d : Draft) (lines : List (List ℕ)) → st ≡ Over → SoundAt st d → lines_at st d ≡ lines → IsJournal (journal_in d) × (lines_of (journal_in d) ≡ lines)
sound_over Head d lines is h e = cc
sound_over (Workers v) d lines is h e = cc
sound_over Limits d lines is h e = cc
sound_over Config d lines is h e = cc
sound_over Controls d lines is h e = cc
sound_over Entries d lines is h e = cc
sound_over Over d lines is h e = (h, e)

-- what is read is a journal whose text this is
pub journal_of-found : (text : List ℕ) (j : Journal) → journal_of text ≡ Ok j → IsTextOf text j
unfolding journal_of
journal_of-found text j h =
    let all = took (pieces_of text) no_draft 1 j h in
    let sound = run-sound all.lines no_draft all.last ((refl, refl, refl), refl) all.went in
    let over = sound_over all.last.stage all.last all.lines (over_is all.last.stage all.over) sound.0 sound.1 in
    let recordable : IsJournal j = subst IsJournal all.is over.0 in
    let lines : lines_of j ≡ all.lines = ap lines_of (sym all.is) ∙ over.1 in
    record {
      recordable = recordable;
      written = sym (join_with_byte-slice_split 10 text) ∙ ap (join_with_byte 10) all.all ∙ joined-lines all.lines ∙ ap ended_lines (sym lines);
    }

goes_back : (d : Draft) (n : ℕ) (line : List ℕ) (rest : List (List ℕ)) (after : Draft) (r : Result Journal ℕ) → 0 < length rest → taken d line ≡ Some after
    → reading_from after (n + 1) rest ≡ r → reading_from d n (line ∷ rest) ≡ r
unfolding reading_from
goes_back d n line [] after r some is e = absurd (omega arith)
goes_back d n line (next ∷ more) after r some is e = rw is e

-- lines that are taken to the end are read as the journal
reading-run : (lines : List (List ℕ)) (d last : Draft) (n : ℕ) → run d lines ≡ Some last → is_over last.stage ≡ true → reading_from d n (lines ++ [] ∷ []) ≡ Ok (journal_in last)
unfolding reading_from
reading-run [] d last n h over = let is : d ≡ last = cc in rw is (rw over refl)
reading-run (line ∷ lines) d last n h over =
    option_and_then_some (λ (after : Draft). run after lines) (taken d line) last h (λ after is e.
    let rest = reading-run lines after last (n + 1) e over in
    goes_back d n line (lines ++ [] ∷ []) after (Ok (journal_in last)) (omega (arith, length-append lines ([] ∷ []))) is rest)

-- the text of a journal is read as that journal
pub journal_of-text : (j : Journal) → IsJournal j → journal_of (ended_lines (lines_of j)) ≡ Ok j
unfolding journal_of
journal_of-text j h =
    ap (reading_from no_draft 1) (text-pieces j h)
    ∙ reading-run (lines_of j) no_draft (at_end j.workers j.limits j.config j.controls j.by_worker) 1 (run-journal j h) refl

pub texts_say_one : (text : List ℕ) (a b : Journal) → IsTextOf text a → IsTextOf text b → a ≡ b
texts_say_one text a b one two =
    let first : journal_of text ≡ Ok a = ap journal_of one.written ∙ journal_of-text a one.recordable in
    let second : journal_of text ≡ Ok b = ap journal_of two.written ∙ journal_of-text b two.recordable in
    cc

-- ---- the first faulty line

abbrev taken_of : Draft → List ℕ → Option Draft
taken_of d line = taken d line

-- lines that were taken in order, and the piece after them that is not
record Stuck (d : Draft) (n : ℕ) (pieces : List (List ℕ)) (m : ℕ) : Type 0 where
  front : List (List ℕ)
  piece : List ℕ
  back : List (List ℕ)
  middle : Draft
  all : pieces ≡ front ++ piece ∷ back
  counted : m ≡ n + length front
  went : run d front ≡ Some middle
  refused : 0 < length back → taken_of middle piece ≡ None
  unended : length back ≡ 0 → piece ≡ [] → is_over middle.stage ≡ true → ⊥

ending-err : (d : Draft) (n : ℕ) (rest : List ℕ) (m : ℕ) → ending d n rest ≡ Err m → (m ≡ n) × (rest ≡ [] → is_over d.stage ≡ true → ⊥)
ending-err d n [] m h = let end = said-err (is_over d.stage) d n m h in (end.0, λ none. end.1)
ending-err d n (byte ∷ bytes) m h = (cc, λ none over. cc)

goes-err : (P : Type 0) (n m : ℕ) (o : Option Draft) (rest : Draft → Result Journal ℕ) → (o ≡ None → m ≡ n → P) → ((next : Draft) → o ≡ Some next → rest next ≡ Err m → P) → goes_on n o rest ≡ Err m → P
goes-err P n m None rest here there h = here refl (let e : m ≡ n = cc in e)
goes-err P n m (Some next) rest here there h = there next refl h

stuck : (pieces : List (List ℕ)) (d : Draft) (n m : ℕ) → 0 < length pieces → reading_from d n pieces ≡ Err m → Stuck d n pieces m
unfolding reading_from
stuck [] d n m some h = absurd (omega arith)
stuck (rest ∷ []) d n m some h =
    let end = ending-err d n rest m h in
    record { front = []; piece = rest; back = []; middle = d; all = refl; counted = omega (arith, end.0); went = refl; refused = λ more. absurd (omega arith); unended = λ none. end.1 }
stuck (line ∷ next ∷ more) d n m some h =
    goes-err (Stuck d n (line ∷ next ∷ more) m) n m (taken d line) (λ (after : Draft). reading_from after (n + 1) (next ∷ more))
    (λ none is. record { front = []; piece = line; back = next ∷ more; middle = d; all = refl; counted = omega (arith, is); went = refl; refused = λ _. none; unended = λ zero. absurd (omega arith) })
    (λ after is e.
    let rest = stuck (next ∷ more) after (n + 1) m (omega arith) e in
    record {
      front = line ∷ rest.front;
      piece = rest.piece;
      back = rest.back;
      middle = rest.middle;
      all = ap (λ (ls : List (List ℕ)). line ∷ ls) rest.all;
      counted = omega (arith, rest.counted);
      went = rw is rest.went;
      refused = rest.refused;
      unended = rest.unended;
    })
    h

take_front : {X : Type 0} (xs ys : List X) → take (length xs) (xs ++ ys) ≡ xs
take_front [] ys = refl
take_front (x ∷ xs) ys = ap (λ l. x ∷ l) (take_front xs ys)

take_one_more : {X : Type 0} (xs : List X) (y : X) (ys : List X) → take (suc (length xs)) (xs ++ y ∷ ys) ≡ xs ++ y ∷ []
take_one_more [] y ys = refl
take_one_more (x ∷ xs) y ys = ap (λ l. x ∷ l) (take_one_more xs y ys)

-- the last of two equal lists of one element more
push_parts : {X : Type 0} (xs ys : List X) (x y : X) → xs ++ x ∷ [] ≡ ys ++ y ∷ [] → (xs ≡ ys) × (x ≡ y)
push_parts [] [] x y h = (refl, cc)
push_parts [] (b ∷ bs) x y h = let e = ap length h in absurd (omega (arith, length-append bs (y ∷ []), e))
push_parts (a ∷ more) [] x y h = let e = ap length h in absurd (omega (arith, length-append more (x ∷ []), e))
push_parts (a ∷ more) (b ∷ bs) x y h =
    let head : a ≡ b = cc in
    let tail : more ++ x ∷ [] ≡ bs ++ y ∷ [] = cc in
    let rest = push_parts more bs x y tail in
    (ap (λ l. a ∷ l) rest.0 ∙ ap (λ c. c ∷ bs) head, rest.1)

no_line_after : (front : List (List ℕ)) (piece : List ℕ) (middle : Draft) → run no_draft front ≡ Some middle → taken middle piece ≡ None → BeginJournal (front ++ piece ∷ []) → ⊥
no_line_after front piece middle went refused begun =
    let j : Journal = begun.0 in
    let whole : run no_draft ((front ++ piece ∷ []) ++ begun.1) ≡ Some (at_end j.workers j.limits j.config j.controls j.by_worker) =
    ap (run no_draft) (sym begun.3) ∙ run-journal j begun.2 in
    let some = run-front (front ++ piece ∷ []) begun.1 no_draft (at_end j.workers j.limits j.config j.controls j.by_worker) whole in
    let next : run middle (piece ∷ []) ≡ Some some.0 = sym (run-some front (piece ∷ []) no_draft middle went) ∙ some.1 in
    let none : run middle (piece ∷ []) ≡ None = ap (option_and_then (λ (after : Draft). run after [])) refused in
    cc

no_text_of : (front : List (List ℕ)) (piece : List ℕ) (middle : Draft) (text : List ℕ) (j : Journal) → pieces_of text ≡ front ++ piece ∷ [] → run no_draft front ≡ Some middle
    → (piece ≡ [] → is_over middle.stage ≡ true → ⊥) → IsTextOf text j → ⊥
no_text_of front piece middle text j all went unended is =
    let pieces : front ++ piece ∷ [] ≡ lines_of j ++ [] ∷ [] = sym all ∙ ap pieces_of is.written ∙ text-pieces j is.recordable in
    let parts = push_parts front (lines_of j) piece [] pieces in
    let whole : run no_draft front ≡ Some (at_end j.workers j.limits j.config j.controls j.by_worker) = ap (run no_draft) parts.0 ∙ run-journal j is.recordable in
    let same : middle ≡ at_end j.workers j.limits j.config j.controls j.by_worker = cc in
    unended parts.1 (ap (λ (d : Draft). is_over d.stage) same)

nothing_behind : {X : Type 0} (xs : List X) → length xs ≡ 0 → xs ≡ []
nothing_behind [] h = refl
nothing_behind (x ∷ xs) h = absurd (omega arith)

pub journal_of-fault : (text : List ℕ) (n : ℕ) → journal_of text ≡ Err n → IsFirstFault text n
unfolding journal_of
journal_of-fault text n h =
    let where_it_is = stuck (pieces_of text) no_draft 1 n (omega (arith, length-slice_split is_line_feed text)) h in
    let front : List (List ℕ) = where_it_is.front in
    let piece : List ℕ = where_it_is.piece in
    let back : List (List ℕ) = where_it_is.back in
    let size : length (pieces_of text) ≡ length front + length (piece ∷ back) = ap length where_it_is.all ∙ length-append front (piece ∷ back) in
    let sound = run-sound front no_draft where_it_is.middle ((refl, refl, refl), refl) where_it_is.went in
    let begun : BeginJournal front = subst BeginJournal sound.1 (completed where_it_is.middle.stage where_it_is.middle sound.0) in
    let less : n - 1 ≡ length front = omega (arith, where_it_is.counted) in
    let more : n ≡ suc (length front) = omega (arith, where_it_is.counted) in
    let first : take (n - 1) (pieces_of text) ≡ front = ap (λ (k : ℕ). take k (pieces_of text)) less ∙ ap (take (length front)) where_it_is.all ∙ take_front front (piece ∷ back) in
    let second : take n (pieces_of text) ≡ front ++ piece ∷ [] = ap (λ (k : ℕ). take k (pieces_of text)) more ∙ ap (take (suc (length front))) where_it_is.all ∙ take_one_more front piece back in
    record {
      least = omega arith;
      greatest = omega (arith, size);
      before = subst BeginJournal (sym first) begun;
      there = λ line begins. no_line_after front piece where_it_is.middle where_it_is.went (where_it_is.refused (omega (arith, size))) (subst BeginJournal second begins);
      missing = λ last j is.
          let none : length back ≡ 0 = omega (arith, size) in
          no_text_of front piece where_it_is.middle text j (where_it_is.all ∙ ap (λ (ls : List (List ℕ)). front ++ piece ∷ ls) (nothing_behind back none)) where_it_is.went (where_it_is.unended none) is;
    }

-- ---- what reading a text answers

pub answers-found : (text : List ℕ) (r : Result Journal JournalFault) → ReadsText text r → IfOk r (IsTextOf text)
answers-found text (Ok j) h = journal_of-found text j h
answers-found text (Err e) h = tt

pub answers-fault : (text : List ℕ) (r : Result Journal JournalFault) → ReadsText text r → IfErr r (NamesFirstFault text)
answers-fault text (Ok j) h = tt
answers-fault text (Err (NotALine n)) h = journal_of-fault text n h
answers-fault text (Err OutOfMemory) h = tt

-- ---- a line at a time

goes_over : (d : Draft) (n : ℕ) (line : List ℕ) (rest : List (List ℕ)) → 0 < length rest
    → reading_from d n (line ∷ rest) ≡ goes_on n (taken d line) (λ (after : Draft). reading_from after (n + 1) rest)
unfolding reading_from
goes_over d n line [] some = absurd (omega arith)
goes_over d n line (next ∷ more) some = refl

some_pieces : (text : List ℕ) → 0 < length (pieces_of text)
some_pieces text = omega (arith, length-slice_split is_line_feed text)

-- a line that is taken
pub reads_on : (d next : Draft) (n : ℕ) (line rest behind : List ℕ) → pieces_of rest ≡ line ∷ pieces_of behind → taken d line ≡ Some next
    → reading_from d n (pieces_of rest) ≡ reading_from next (n + 1) (pieces_of behind)
reads_on d next n line rest behind cut is =
    ap (reading_from d n) cut ∙ goes_over d n line (pieces_of behind) (some_pieces behind)
    ∙ ap (λ (o : Option Draft). goes_on n o (λ (after : Draft). reading_from after (n + 1) (pieces_of behind))) is

-- a line that is not
pub reads_no_further : (d new : Draft) (n : ℕ) (line rest behind : List ℕ) (fault : LineFault) (answer : JournalFault) → pieces_of rest ≡ line ∷ pieces_of behind
    → Takes d line (Err fault) new → StopsAt n fault answer → AnswersBy (reading_from d n (pieces_of rest)) (Err answer)
reads_no_further d new n text rest behind line.NotALine answer cut none stops =
    let stopped : reading_from d n (pieces_of rest) ≡ Err n =
    ap (reading_from d n) cut ∙ goes_over d n text (pieces_of behind) (some_pieces behind)
    ∙ ap (λ (o : Option Draft). goes_on n o (λ (after : Draft). reading_from after (n + 1) (pieces_of behind))) none in
    subst (λ (a : JournalFault). AnswersBy (reading_from d n (pieces_of rest)) (Err a)) (sym stops) stopped
reads_no_further d new n text rest behind line.OutOfMemory answer cut none stops =
    subst (λ (a : JournalFault). AnswersBy (reading_from d n (pieces_of rest)) (Err a)) (sym stops) tt

-- after the last line feed
pub reads_to_end : (d : Draft) (n : ℕ) (rest : List ℕ) → pieces_of rest ≡ rest ∷ [] → reading_from d n (pieces_of rest) ≡ ending d n rest
unfolding reading_from
reads_to_end d n rest cut = rw cut refl
