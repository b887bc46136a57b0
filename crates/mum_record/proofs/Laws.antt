-- The computed reading of a line is its grammar, both ways.
use Rattle.mum_record.proofs.Common.{◌≡◌, ℕ, suc, ◌/◌, ◌%◌, ◌^◌, ◌<◌, List, [], ◌∷◌, length, get_or, Option, Some, None, IfSome, Result, Ok, Err, IfOk, IsErrOf, refl, sym, ap, ◌∙◌, arith, Bool, true, false, ◌&&◌, lit<, cond, codes, bytes_eq-Decides, option_and_then_some, and_parts, ltb-true, ne_eqb, false_from_ne_true, digits_decimal, decimal_nonempty, IsUtf8-from_ascii, digit_at, digit_from_value, join_with_byte-slice_split, decimal, slice_split, join_with_byte, list_all, nat_lt, ◌↔◌, option_map, bytes_eq, IsUtf8, AllDigits, encode_with, encode_lower, IsBytes, Cause, LineFault, NotALine, OutOfMemory, Step, Open, Frame, Edit, Publish, Tell, Look, Offer, Post, Drain, Collect, Close, End, words_of, line_of, cause_word, revision_word, FitsTypes, IsRecordable, IsLineOf, IsRecordedCause, Reads, place_of, revision_of, frame_of, told_of, cause_of, step_of_verb, step_naming, step_with, step_of_words, step_of, ◌-◌, is_space}
use Rattle.mum_record.proofs.{Numbers.own, Numbers.none_unless, Numbers.number_within-found, Numbers.number_within-decimal, Frames.frame_of-found, Frames.frame_of-encode_lower, Frames.lower_digit-graphic, Splits.IsWord, Splits.AreAllWords, Splits.slice_split-join_all, Splits.join-IsAscii}
use Rattle.mum_base.specs.declared.number.Cause.TheVariants as causes

-- ---- what is read is written so

-- one of two that a test chooses
pub chosen : {A : Type 0} {P : Type 0} (word name : List ℕ) (x y : Option A) (a : A)
    → (word ≡ name → x ≡ Some a → P) → (y ≡ Some a → P) → cond (bytes_eq word name) x y ≡ Some a → P
chosen {A} {P} word name x y a here there h = from (bytes_eq word name) refl h
  where
    from : (b : Bool) → bytes_eq word name ≡ b → cond b x y ≡ Some a → P
    from true is e = here ((bytes_eq-Decides word name).0 is) e
    from false is e = there e

-- a value after a constructor
pub mapped : {A B : Type 0} {P : Type 0} (f : A → B) (o : Option A) (b : B) → ((a : A) → o ≡ Some a → f a ≡ b → P) → option_map f o ≡ Some b → P
mapped f None b from h = cc
mapped f (Some a) b from h = from a refl (let e : f a ≡ b = cc in e)

pub cause_of-found : (word : List ℕ) (cause : Cause) → cause_of word ≡ Some cause → IsRecordedCause cause × (word ≡ cause_word cause)
unfolding cause_of
cause_of-found word cause h =
    chosen word (codes "end") _ _ cause (λ w e. let is : causes.End ≡ cause = cc in rw (← is) (tt, w))
    (chosen word (codes "fault") _ _ cause (λ w e. let is : causes.LinkFault ≡ cause = cc in rw (← is) (tt, w))
    (chosen word (codes "toolong") _ _ cause (λ w e. let is : causes.FrameTooLong ≡ cause = cc in rw (← is) (tt, w))
    (chosen word (codes "rejected") _ _ cause (λ w e. let is : causes.Rejected ≡ cause = cc in rw (← is) (tt, w))
    (chosen word (codes "kicked") _ _ cause (λ w e. let is : causes.Kicked ≡ cause = cc in rw (← is) (tt, w))
    (chosen word (codes "lagged") _ _ cause (λ w e. let is : causes.Lagged ≡ cause = cc in rw (← is) (tt, w)) (λ e. cc))))))
    h

pub told_of-found : (word : List ℕ) (revision : Option ℕ) → told_of word ≡ Some revision → IfSome revision (λ r. r < 2 ^ 64) × (word ≡ revision_word revision)
unfolding told_of
told_of-found word revision h =
    chosen word (codes "-") _ _ revision (λ w e. let is : None ≡ revision = cc in rw (← is) (tt, w))
    (mapped Some (revision_of word) revision (λ n is e. let found = number_within-found 0 (2 ^ 64 - 1) word n is in
    let fits : n < 2 ^ 64 = omega (arith, found.1) in
    rw (← e) (fits, found.2)))
    h

step_of_verb-found : (verb : List ℕ) (step : Step) → step_of_verb verb ≡ Some step → IsRecordable step × (verb ∷ [] ≡ words_of step)
unfolding step_of_verb words_of
step_of_verb-found verb step h =
    chosen verb (codes "publish") _ _ step (λ w e. let is : Publish ≡ step = cc in rw (← is, w) ((tt, tt), refl))
    (chosen verb (codes "post") _ _ step (λ w e. let is : Post ≡ step = cc in rw (← is, w) ((tt, tt), refl))
    (chosen verb (codes "end") _ _ step (λ w e. let is : End ≡ step = cc in rw (← is, w) ((tt, tt), refl)) (λ e. cc)))
    h

step_naming-found : (verb name : List ℕ) (n : ℕ) (step : Step) → n < 2 ^ 32 → name ≡ decimal n → step_naming verb n ≡ Some step
    → IsRecordable step × (verb ∷ name ∷ [] ≡ words_of step)
unfolding step_naming words_of
step_naming-found verb name n step small named h =
    chosen verb (codes "edit") _ _ step (λ w e. let is : Edit n ≡ step = cc in rw (← is, w, named) ((small, tt), refl))
    (chosen verb (codes "offer") _ _ step (λ w e. let is : Offer n ≡ step = cc in rw (← is, w, named) ((small, tt), refl))
    (chosen verb (codes "drain") _ _ step (λ w e. let is : Drain n ≡ step = cc in rw (← is, w, named) ((small, tt), refl))
    (chosen verb (codes "collect") _ _ step (λ w e. let is : Collect n ≡ step = cc in rw (← is, w, named) ((small, tt), refl)) (λ e. cc))))
    h

step_with-found : (verb name word : List ℕ) (n : ℕ) (step : Step) → n < 2 ^ 32 → name ≡ decimal n → step_with verb n word ≡ Some step
    → IsRecordable step × (verb ∷ name ∷ word ∷ [] ≡ words_of step)
unfolding step_with words_of
step_with-found verb name word n step small named h =
    chosen verb (codes "open") _ _ step
    (λ w. mapped (Open n) (place_of word) step (λ m is e. let found = number_within-found 0 (2 ^ 32 - 1) word m is in let fits : m < 2 ^ 32 = omega (arith, found.1) in rw (← e, w, named, found.2) (((small, fits), tt), refl)))
    (chosen verb (codes "frame") _ _ step
    (λ w. mapped (Frame n) (frame_of word) step (λ bytes is e. let found = frame_of-found word bytes is in rw (← e, w, named, found.2) (((small, found.0), found.1), refl)))
    (chosen verb (codes "tell") _ _ step
    (λ w. mapped (Tell n) (told_of word) step (λ revision is e. let found = told_of-found word revision is in rw (← e, w, named, found.1) (((small, found.0), tt), refl)))
    (chosen verb (codes "look") _ _ step
    (λ w. mapped (Look n) (revision_of word) step (λ m is e. let found = number_within-found 0 (2 ^ 64 - 1) word m is in let fits : m < 2 ^ 64 = omega (arith, found.1) in rw (← e, w, named, found.2) (((small, fits), tt), refl)))
    (chosen verb (codes "close") _ _ step
    (λ w. mapped (Close n) (cause_of word) step (λ cause is e. let found = cause_of-found word cause is in rw (← e, w, named, found.1) ((small, found.0), refl)))
    (λ e. cc)))))
    h

step_of_words-found : (words : List (List ℕ)) (step : Step) → step_of_words words ≡ Some step → IsRecordable step × (words ≡ words_of step)
unfolding step_of_words
step_of_words-found [] step h = cc
step_of_words-found (verb ∷ []) step h = step_of_verb-found verb step h
step_of_words-found (verb ∷ name ∷ []) step h =
    option_and_then_some (step_naming verb) (place_of name) step h (λ n is e.
    let found = number_within-found 0 (2 ^ 32 - 1) name n is in
    step_naming-found verb name n step (omega (arith, found.1)) found.2 e)
step_of_words-found (verb ∷ name ∷ word ∷ []) step h =
    option_and_then_some (λ (n : ℕ). step_with verb n word) (place_of name) step h (λ n is e.
    let found = number_within-found 0 (2 ^ 32 - 1) name n is in
    step_with-found verb name word n step (omega (arith, found.1)) found.2 e)
step_of_words-found (verb ∷ name ∷ word ∷ more ∷ others) step h = cc

-- what is read is a step, and the line is its line
pub step_of-found : (line : List ℕ) (step : Step) → step_of line ≡ Some step → IsLineOf line step
unfolding step_of
step_of-found line step h =
    let found = step_of_words-found (slice_split is_space line) step h in
    (found.0, sym (join_with_byte-slice_split 32 line) ∙ ap (join_with_byte 32) found.1)

-- ---- what is written is read back

pub cause_of-cause_word : (cause : Cause) → IsRecordedCause cause → cause_of (cause_word cause) ≡ Some cause
unfolding cause_of
cause_of-cause_word causes.End h = refl
cause_of-cause_word causes.LinkFault h = refl
cause_of-cause_word causes.FrameTooLong h = refl
cause_of-cause_word causes.Rejected h = refl
cause_of-cause_word causes.Kicked h = refl
cause_of-cause_word causes.Lagged h = refl
cause_of-cause_word causes.Memory h = absurd h

told_of-revision_word : (revision : Option ℕ) → IfSome revision (λ r. r < 2 ^ 64) → told_of (revision_word revision) ≡ Some revision
unfolding told_of
told_of-revision_word None h = refl
told_of-revision_word (Some r) h =
    let read = number_within-decimal 0 (2 ^ 64 - 1) r (omega arith) (omega arith) h in
    let digit = digit_at (decimal r) 0 (digits_decimal own r h) (decimal_nonempty r h) in
    let other : bytes_eq (decimal r) (codes "-") ≡ false = false_from_ne_true (bytes_eq (decimal r) (codes "-")) (λ same.
    let dash : get_or (decimal r) 0 0 ≡ 45 = ap (λ (w : List ℕ). get_or w 0 0) ((bytes_eq-Decides (decimal r) (codes "-")).0 same) in
    omega (arith, digit.0)) in
    rw (other, read) refl

pub place_of-decimal : (n : ℕ) → n < 2 ^ 32 → place_of (decimal n) ≡ Some n
place_of-decimal n h = number_within-decimal 0 (2 ^ 32 - 1) n (omega arith) (omega arith) (omega arith)

step_of_words-words_of : (step : Step) → IsRecordable step → step_of_words (words_of step) ≡ Some step
unfolding step_of_words words_of step_of_verb step_naming step_with
step_of_words-words_of (Open c w) h = rw (place_of-decimal c h.0.0, place_of-decimal w h.0.1) refl
step_of_words-words_of (Frame c bytes) h = rw (place_of-decimal c h.0.0, frame_of-encode_lower bytes h.0.1 h.1) refl
step_of_words-words_of (Edit c) h = rw (place_of-decimal c h.0) refl
step_of_words-words_of Publish h = refl
step_of_words-words_of (Tell c revision) h = rw (place_of-decimal c h.0.0, told_of-revision_word revision h.0.1) refl
step_of_words-words_of (Look w revision) h = rw (place_of-decimal w h.0.0, number_within-decimal 0 (2 ^ 64 - 1) revision (omega arith) (omega (arith, h.0.1)) h.0.1) refl
step_of_words-words_of (Offer w) h = rw (place_of-decimal w h.0) refl
step_of_words-words_of Post h = refl
step_of_words-words_of (Drain c) h = rw (place_of-decimal c h.0) refl
step_of_words-words_of (Collect c) h = rw (place_of-decimal c h.0) refl
step_of_words-words_of (Close c cause) h = rw (place_of-decimal c h.0, cause_of-cause_word cause h.1) refl
step_of_words-words_of End h = refl

-- ---- the words of a step have no space in them

digits_IsWord : (word : List ℕ) → AllDigits 10 word → IsWord word
digits_IsWord [] h = tt
digits_IsWord (d ∷ ds) h =
    let range = digit_from_value d h.0 in
    (ne_eqb d 32 (λ e. omega (arith, range.0)), omega (arith, range.1), digits_IsWord ds h.1)

pub decimal_IsWord : (n : ℕ) → n < 2 ^ 64 → IsWord (decimal n)
decimal_IsWord n h = digits_IsWord (decimal n) (digits_decimal own n h)

revision_IsWord : (revision : Option ℕ) → IfSome revision (λ r. r < 2 ^ 64) → IsWord (revision_word revision)
revision_IsWord None h = (refl, lit< tt, tt)
revision_IsWord (Some r) h = decimal_IsWord r h

lower_IsWord : (bytes : List ℕ) → IsBytes bytes → IsWord (encode_lower bytes)
unfolding encode_with
lower_IsWord [] small = tt
lower_IsWord (b ∷ bs) small =
    let byte : b < 256 = small 0 in
    let high = lower_digit-graphic (b / 16) (omega arith) in
    let low = lower_digit-graphic (b % 16) (omega arith) in
    (high.0, high.1, (low.0, low.1, lower_IsWord bs (λ i. small (suc i))))

-- a literal word, which computes
pub literal_IsWord : (word : List ℕ) → list_all (λ b. nat_lt 32 b && nat_lt b 128) word ≡ true → IsWord word
literal_IsWord [] h = tt
literal_IsWord (b ∷ bs) h =
    let parts = and_parts (nat_lt 32 b && nat_lt b 128) _ h in
    let ends = and_parts (nat_lt 32 b) (nat_lt b 128) parts.0 in
    (ne_eqb b 32 (λ e. omega (arith, ltb-true 32 b ends.0)), ltb-true b 128 ends.1, literal_IsWord bs parts.1)

cause_IsWord : (cause : Cause) → IsWord (cause_word cause)
cause_IsWord causes.End = literal_IsWord (codes "end") refl
cause_IsWord causes.LinkFault = literal_IsWord (codes "fault") refl
cause_IsWord causes.FrameTooLong = literal_IsWord (codes "toolong") refl
cause_IsWord causes.Rejected = literal_IsWord (codes "rejected") refl
cause_IsWord causes.Kicked = literal_IsWord (codes "kicked") refl
cause_IsWord causes.Lagged = literal_IsWord (codes "lagged") refl
cause_IsWord causes.Memory = literal_IsWord (codes "memory") refl

place_IsWord : (n : ℕ) → n < 2 ^ 32 → IsWord (decimal n)
place_IsWord n h = decimal_IsWord n (omega arith)

words_of-AreAllWords : (step : Step) → FitsTypes step → AreAllWords (words_of step)
unfolding words_of
words_of-AreAllWords (Open c w) h = (literal_IsWord (codes "open") refl, (place_IsWord c h.0, (place_IsWord w h.1, tt)))
words_of-AreAllWords (Frame c bytes) h = (literal_IsWord (codes "frame") refl, (place_IsWord c h.0, (lower_IsWord bytes h.1, tt)))
words_of-AreAllWords (Edit c) h = (literal_IsWord (codes "edit") refl, (place_IsWord c h, tt))
words_of-AreAllWords Publish h = (literal_IsWord (codes "publish") refl, tt)
words_of-AreAllWords (Tell c revision) h = (literal_IsWord (codes "tell") refl, (place_IsWord c h.0, (revision_IsWord revision h.1, tt)))
words_of-AreAllWords (Look w revision) h = (literal_IsWord (codes "look") refl, (place_IsWord w h.0, (decimal_IsWord revision h.1, tt)))
words_of-AreAllWords (Offer w) h = (literal_IsWord (codes "offer") refl, (place_IsWord w h, tt))
words_of-AreAllWords Post h = (literal_IsWord (codes "post") refl, tt)
words_of-AreAllWords (Drain c) h = (literal_IsWord (codes "drain") refl, (place_IsWord c h, tt))
words_of-AreAllWords (Collect c) h = (literal_IsWord (codes "collect") refl, (place_IsWord c h, tt))
words_of-AreAllWords (Close c cause) h = (literal_IsWord (codes "close") refl, (place_IsWord c h, (cause_IsWord cause, tt)))
words_of-AreAllWords End h = (literal_IsWord (codes "end") refl, tt)

-- a step has a word
some_words : (step : Step) → 0 < length (words_of step)
unfolding words_of
some_words (Open c w) = omega arith
some_words (Frame c bytes) = omega arith
some_words (Edit c) = omega arith
some_words Publish = omega arith
some_words (Tell c revision) = omega arith
some_words (Look w revision) = omega arith
some_words (Offer w) = omega arith
some_words Post = omega arith
some_words (Drain c) = omega arith
some_words (Collect c) = omega arith
some_words (Close c cause) = omega arith
some_words End = omega arith

-- the line of a step says that step
pub step_of-line_of : (step : Step) → IsRecordable step → step_of (line_of step) ≡ Some step
unfolding step_of
step_of-line_of step h =
    ap step_of_words (slice_split-join_all (words_of step) (some_words step) (words_of-AreAllWords step h.0)) ∙ step_of_words-words_of step h

-- and is a text
pub line_of-IsUtf8 : (step : Step) → IsRecordable step → IsUtf8 (line_of step)
line_of-IsUtf8 step h = IsUtf8-from_ascii (line_of step) (join-IsAscii (words_of step) (words_of-AreAllWords step h.0))

-- ---- what reading a line answers

-- a step that was read is one whose line this is
pub Reads-found : (line : List ℕ) (r : Result Step LineFault) → Reads r (step_of line) → IfOk r (IsLineOf line)
Reads-found line (Ok step) h = step_of-found line step h
Reads-found line (Err e) h = tt

-- a line is refused where it is that of no step, and there alone
pub Reads-refused : (line : List ℕ) (r : Result Step LineFault) → Reads r (step_of line) → IsErrOf r NotALine ↔ ((step : Step) → IsLineOf line step → ⊥)
Reads-refused line (Ok read) h = (λ e step is. cc, λ never. absurd (never read (step_of-found line read h)))
Reads-refused line (Err NotALine) h = (
  λ e step is.
      let found : step_of line ≡ Some step = rw is.1 (step_of-line_of step is.0) in
      cc,
  λ never. refl,
)
Reads-refused line (Err OutOfMemory) h = (
  λ e step is. cc,
  λ never.
      let none : step_of line ≡ None = none_unless (step_of line) (λ step is. never step (step_of-found line step is)) in
      cc (rw none at h),
)

-- a line that is no text says no step
pub step_of-no_text : (line : List ℕ) → (IsUtf8 line → ⊥) → step_of line ≡ None
step_of-no_text line not_text =
    none_unless (step_of line) (λ step is.
    let found = step_of-found line step is in
    let text : IsUtf8 line = rw found.1 (line_of-IsUtf8 step found.0) in
    not_text text)
