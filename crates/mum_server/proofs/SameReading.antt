-- What comes after the lines before one that is too long makes no difference to the first fault.
use Rattle.mum_server.proofs.Common.{◌≡◌, ℕ, ◌+◌, ◌≤◌, Bool, true, false, cond, List, [], ◌∷◌, ◌++◌, length, Option, Some, None, Result, Ok, Err, refl, sym, ap, ◌∙◌, arith, append_assoc, append-nil, slice_split, le-ltb, HasNoLineFeed, Each, ended_lines, journal_of, no_draft, reading_from, taken, is_line_feed, Journal, IfSome, End, Finished, Faulty, ReadFault, WriteFault, OutOfMemory, LineFault, BadJournal, TooLong, IsFront, IsGathered, ReadsGathered, ReadsInput, journal_read, long_line, read_with}
use Rattle.mum_record.specs.JournalReading.{goes_on}
use Rattle.mum_server.proofs.{TooLong.IsFilled, TooLong.split_filled, Underway.line_split}

abbrev TypeOf : {A : Type 0} → A → Type 0
TypeOf {A} x = A

-- what is read of a journal so far, which has no name here
abbrev Draft : Type 0
Draft = TypeOf no_draft

-- the lines of a text and what follows them
ended_split : (lines : List (List ℕ)) (rest : List ℕ) → Each HasNoLineFeed lines → slice_split is_line_feed (ended_lines lines ++ rest) ≡ lines ++ slice_split is_line_feed rest
ended_split [] rest all = refl
ended_split (line ∷ lines) rest all =
    ap (slice_split is_line_feed) (append_assoc (line ++ 10 ∷ []) (ended_lines lines) rest ∙ append_assoc line (10 ∷ []) (ended_lines lines ++ rest))
    ∙ line_split line (ended_lines lines ++ rest) all.0
    ∙ ap (λ (parts : List (List ℕ)). line ∷ parts) (ended_split lines rest all.1)

reading_cons : (draft : Draft) (n : ℕ) (line : List ℕ) (parts : List (List ℕ)) → IsFilled parts
    → reading_from draft n (line ∷ parts) ≡ goes_on n (taken draft line) (λ after. reading_from after (n + 1) parts)
unfolding reading_from
reading_cons draft n line [] h = absurd cc
reading_cons draft n line (next ∷ parts) h = refl

-- a fault is at the line where the reading begins or later
abbrev IsLater : ℕ → Result Journal ℕ → Type 0
IsLater n (Ok journal) = Unit {0}
IsLater n (Err m) = n ≤ m

later-sooner : (n k : ℕ) (r : Result Journal ℕ) → k ≤ n → IsLater n r → IsLater k r
later-sooner n k (Ok journal) le h = tt
later-sooner n k (Err m) le h = omega (arith, le, h)

later-goes : (n : ℕ) (found : Option Draft) (rest : Draft → Result Journal ℕ) → ((draft : Draft) → IsLater n (rest draft)) → IsLater n (goes_on n found rest)
later-goes n None rest h = omega arith
later-goes n (Some draft) rest h = h draft

later-if : (n : ℕ) (b : Bool) (journal : Journal) → IsLater n (cond b (Ok journal) (Err n))
later-if n true journal = tt
later-if n false journal = omega arith

later : (draft : Draft) (n : ℕ) (parts : List (List ℕ)) → IsLater n (reading_from draft n parts)
unfolding reading_from
later draft n [] = omega arith
later draft n ([] ∷ []) = later-if n _ _
later draft n ((byte ∷ rest) ∷ []) = omega arith
later draft n (line ∷ next ∷ more) = later-goes n (taken draft line) (λ after. reading_from after (n + 1) (next ∷ more)) (λ after. later-sooner (n + 1) n (reading_from after (n + 1) (next ∷ more)) (omega arith) (later after (n + 1) (next ∷ more)))

-- a reading that gets to the line that is too long stops there
stops_there : (n : ℕ) (r : Result Journal ℕ) → IsLater n r → read_with (Some n) r ≡ Err (n, TooLong)
stops_there n (Ok journal) h = refl
stops_there n (Err m) h = ap (λ (b : Bool). Err (cond b (m, BadJournal) (n, TooLong))) (le-ltb m n h)

same_goes : (k n : ℕ) (found : Option Draft) (f g : Draft → Result Journal ℕ) → ((draft : Draft) → read_with (Some k) (f draft) ≡ read_with (Some k) (g draft))
    → read_with (Some k) (goes_on n found f) ≡ read_with (Some k) (goes_on n found g)
same_goes k n None f g h = refl
same_goes k n (Some draft) f g h = h draft

filled_behind : (lines parts : List (List ℕ)) → IsFilled parts → IsFilled (lines ++ parts)
filled_behind [] parts h = h
filled_behind (line ∷ lines) parts h = (line, lines ++ parts, refl)

-- what is after the lines before it makes no difference
same_behind : (lines : List (List ℕ)) (draft : Draft) (n : ℕ) (some other : List (List ℕ)) → IsFilled some → IsFilled other
    → read_with (Some (n + length lines)) (reading_from draft n (lines ++ some)) ≡ read_with (Some (n + length lines)) (reading_from draft n (lines ++ other))
same_behind [] draft n some other f g =
    let here : n + 0 ≡ n = omega arith in
    ap (λ (k : ℕ). read_with (Some k) (reading_from draft n some)) here ∙ stops_there n (reading_from draft n some) (later draft n some)
    ∙ sym (ap (λ (k : ℕ). read_with (Some k) (reading_from draft n other)) here ∙ stops_there n (reading_from draft n other) (later draft n other))
same_behind (line ∷ lines) draft n some other f g =
    let k = n + 1 + length lines in
    let sum : n + length (line ∷ lines) ≡ k = omega arith in
    ap (λ (m : ℕ). read_with (Some m) (reading_from draft n (line ∷ lines ++ some))) sum
    ∙ ap (read_with (Some k)) (reading_cons draft n line (lines ++ some) (filled_behind lines some f))
    ∙ same_goes k n (taken draft line) (λ after. reading_from after (n + 1) (lines ++ some)) (λ after. reading_from after (n + 1) (lines ++ other))
    (λ after. same_behind lines after (n + 1) some other f g)
    ∙ sym (ap (λ (m : ℕ). read_with (Some m) (reading_from draft n (line ∷ lines ++ other))) sum
    ∙ ap (read_with (Some k)) (reading_cons draft n line (lines ++ other) (filled_behind lines other g)))

front_reading : (bytes text : List ℕ) (long : ℕ) → IsFront bytes text long → read_with (Some long) (journal_of text) ≡ read_with (Some long) (journal_of bytes)
unfolding journal_of
front_reading bytes text long front =
    let number : long ≡ 1 + length front.lines = front.number ∙ omega arith in
    let parts : slice_split is_line_feed text ≡ front.lines ++ [] ∷ [] =
    ap (slice_split is_line_feed) (front.text_is ∙ sym (append-nil (ended_lines front.lines))) ∙ ended_split front.lines [] front.single in
    let others : slice_split is_line_feed bytes ≡ front.lines ++ slice_split is_line_feed front.rest =
    ap (slice_split is_line_feed) (front.bytes_are ∙ ap (λ (xs : List ℕ). xs ++ front.rest) front.text_is) ∙ ended_split front.lines front.rest front.single in
    ap (λ (k : ℕ). read_with (Some k) (reading_from no_draft 1 (slice_split is_line_feed text))) number
    ∙ ap (λ (p : List (List ℕ)). read_with (Some (1 + length front.lines)) (reading_from no_draft 1 p)) parts
    ∙ same_behind front.lines no_draft 1 ([] ∷ []) (slice_split is_line_feed front.rest) ([], [], refl) (split_filled front.rest)
    ∙ sym (ap (λ (k : ℕ). read_with (Some k) (reading_from no_draft 1 (slice_split is_line_feed bytes))) number
    ∙ ap (λ (p : List (List ℕ)). read_with (Some (1 + length front.lines)) (reading_from no_draft 1 p)) others)

-- the first fault of what was gathered is that of the whole input
pub same_reading : (bytes text : List ℕ) (long : Option ℕ) → IsGathered long bytes text → read_with long (journal_of text) ≡ read_with long (journal_of bytes)
same_reading bytes text None is = ap (λ (xs : List ℕ). read_with None (journal_of xs)) is
same_reading bytes text (Some long) front = front_reading bytes text long front

-- ---- an input

read_so : (bytes text : List ℕ) (long : Option ℕ) (r : Result Journal (ℕ × LineFault)) → long ≡ long_line bytes → IsGathered long bytes text → read_with long (journal_of text) ≡ r → journal_read bytes ≡ r
unfolding journal_read
read_so bytes text long r is gathered read =
    ap (λ (l : Option ℕ). read_with l (journal_of bytes)) (sym is) ∙ sym (same_reading bytes text long gathered) ∙ read

pub input_read : (left : Option (List ℕ)) (text : List ℕ) (long : Option ℕ) (result : Result Journal End) → IfSome left (λ bytes. (long ≡ long_line bytes) × IsGathered long bytes text)
    → ReadsGathered long text result → ReadsInput left result
input_read None text long (Ok journal) gathered reads = tt
input_read (Some bytes) text long (Ok journal) gathered reads = read_so bytes text long (Ok journal) gathered.0 gathered.1 reads
input_read None text long (Err (Faulty n fault)) gathered reads = tt
input_read (Some bytes) text long (Err (Faulty n fault)) gathered reads = read_so bytes text long (Err (n, fault)) gathered.0 gathered.1 reads
input_read left text long (Err OutOfMemory) gathered reads = tt
input_read left text long (Err ReadFault) gathered reads = tt
input_read left text long (Err Finished) gathered reads = absurd reads
input_read left text long (Err WriteFault) gathered reads = absurd reads
