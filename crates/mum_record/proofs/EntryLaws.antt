-- The computed reading of an entry of a journal is its grammar, both ways.
use Rattle.mum_record.proofs.Common.{◌≡◌, ℕ, ◌+◌, ◌-◌, ◌*◌, ◌%◌, ◌^◌, ◌<◌, Bool, true, false, ◌&&◌, List, [], ◌∷◌, ◌++◌, map, length, get_or, Option, Some, None, is_some, IfSome, Result, Ok, Err, refl, sym, ap, subst, ◌∙◌, arith, cond, codes, cond_some, option_and_then_some, cond-true, and_parts, and_from, ltb-true, lt-ltb, false_from_ne_true, bytes_eq-Decides, join_with_byte-slice_split, digits_decimal, decimal_nonempty, digit_at, nat_lt, ◌==◌, if◌then◌else◌, option_map, decimal, slice_split, join_with_byte, list_all, bytes_eq, encode_lower, decode_of, IsBytes, lower_digits, FromHexError, decode_of-encode_lower, decode_of-ok, length-encode_with, Cause, Mark, Accepted, Lacks, Refused, Rejected, Answer, Ignored, IsOneFrame, words_in, place_of, revision_of, byte_of, bytes_of, cause_word, revision_word, frame_of, cause_of, verdict_words, command_word, control_words, mark_word, copy_word, entry_words, FitsVerdict, FitsControl, Each, FitsCopy, FitsEntry, IsControl, IsEntry, may_carry, control_line, entry_line, version_of, command_of, verdict_with, lack_of, verdict_of, control_with, control_of, is_slash, mark_of, copy_with, copy_in, copy_of, copies_of, closing_cause_of, closed_of, voice_with, voice_of, entry_of, ControlEntry, Marked, WorkerEntry, Voice, Closed, is_lower_digit, eqb-true, eq-eqb}
use Rattle.mum_record.proofs.{Numbers.own, Numbers.none_unless, Numbers.number_within-found, Numbers.number_within-decimal, Frames.frame_of-found, Frames.frame_of-encode_lower, Frames.digits_are_of, Frames.encode_lower-digits, Frames.length-digits, Frames.some_if_tested, Splits.slice_split-join_all, Laws.chosen, Laws.mapped, Laws.cause_of-found, Laws.place_of-decimal, Graphic.IsGraphic, Graphic.AreGraphic, Graphic.IsPart, Graphic.graphic_AreAllWords, Graphic.split_part, Graphic.split_parts, Graphic.decimal_graphic, Graphic.decimal_IsPart, Graphic.literal_graphic, Graphic.number_graphic, Graphic.digits_lower_graphic, Graphic.cause_graphic, Graphic.slashed_graphic}
use Rattle.mum_base.specs.declared.number.Cause.TheVariants as causes

-- ---- numbers

pub place-found : (word : List ℕ) (n : ℕ) → place_of word ≡ Some n → (n < 2 ^ 32) × (word ≡ decimal n)
place-found word n h =
    let found = number_within-found 0 (2 ^ 32 - 1) word n h in
    (omega (arith, found.1), found.2)

pub revision-found : (word : List ℕ) (n : ℕ) → revision_of word ≡ Some n → (n < 2 ^ 64) × (word ≡ decimal n)
revision-found word n h =
    let found = number_within-found 0 (2 ^ 64 - 1) word n h in
    (omega (arith, found.1), found.2)

pub byte-found : (word : List ℕ) (n : ℕ) → byte_of word ≡ Some n → (n < 2 ^ 8) × (word ≡ decimal n)
byte-found word n h =
    let found = number_within-found 0 (2 ^ 8 - 1) word n h in
    (omega (arith, found.1), found.2)

revision_of-decimal : (n : ℕ) → n < 2 ^ 64 → revision_of (decimal n) ≡ Some n
revision_of-decimal n h = number_within-decimal 0 (2 ^ 64 - 1) n (omega arith) (omega arith) h

byte_of-decimal : (n : ℕ) → n < 2 ^ 8 → byte_of (decimal n) ≡ Some n
byte_of-decimal n h = number_within-decimal 0 (2 ^ 8 - 1) n (omega arith) (omega arith) (omega arith)

-- ---- bytes

kept : List ℕ → List ℕ → Option (List ℕ)
kept word bytes = if bytes_eq word (encode_lower bytes) && nat_lt 0 (length bytes) then Some bytes else None

bytes_of-decoded : (word bytes : List ℕ) → decode_of word ≡ Ok bytes → bytes_of word ≡ kept word bytes
unfolding bytes_of kept
bytes_of-decoded word bytes h = rw h refl

bytes_of-undecoded : (word : List ℕ) (e : FromHexError) → decode_of word ≡ Err e → bytes_of word ≡ None
unfolding bytes_of
bytes_of-undecoded word e h = rw h refl

bytes_from : (word bytes : List ℕ) (r : Result (List ℕ) FromHexError) → decode_of word ≡ r → bytes_of word ≡ Some bytes → IsBytes bytes × (0 < length bytes) × (word ≡ encode_lower bytes)
unfolding kept
bytes_from word bytes (Ok read) is h =
    let pick = cond_some (bytes_eq word (encode_lower read) && nat_lt 0 (length read)) read bytes (sym (bytes_of-decoded word read is) ∙ h) in
    let parts = and_parts (bytes_eq word (encode_lower read)) (nat_lt 0 (length read)) pick.0 in
    let small : IsBytes read = (decode_of-ok word read is).3 in
    rw (← pick.1) (small, ltb-true 0 (length read) parts.1, (bytes_eq-Decides word (encode_lower read)).0 parts.0)
bytes_from word bytes (Err e) is h =
    let none = bytes_of-undecoded word e is in
    cc

pub bytes_of-found : (word bytes : List ℕ) → bytes_of word ≡ Some bytes → IsBytes bytes × (0 < length bytes) × (word ≡ encode_lower bytes)
bytes_of-found word bytes h = bytes_from word bytes (decode_of word) refl h

pub bytes_of-encode_lower : (bytes : List ℕ) → IsBytes bytes → 0 < length bytes → bytes_of (encode_lower bytes) ≡ Some bytes
unfolding kept
bytes_of-encode_lower bytes small some =
    bytes_of-decoded (encode_lower bytes) bytes (decode_of-encode_lower bytes small)
    ∙ cond-true (bytes_eq (encode_lower bytes) (encode_lower bytes) && nat_lt 0 (length bytes)) (Some bytes) None
    (and_from (bytes_eq (encode_lower bytes) (encode_lower bytes)) (nat_lt 0 (length bytes)) ((bytes_eq-Decides (encode_lower bytes) (encode_lower bytes)).1 refl) (lt-ltb 0 (length bytes) some))

-- bytes that a word says are what it decodes to
pub bytes_of-decodes : (word bytes : List ℕ) → is_some (bytes_of word) ≡ true → decode_of word ≡ Ok bytes → bytes_of word ≡ Some bytes
unfolding kept
bytes_of-decodes word bytes some h =
    let decoded = bytes_of-decoded word bytes h in
    decoded ∙ some_if_tested (bytes_eq word (encode_lower bytes) && nat_lt 0 (length bytes)) bytes (rw decoded at some)

-- an even number of digits, of two at least, says bytes where all are lower digits
pub bytes_of-tested : (word : List ℕ) (tested : Bool) → list_all is_lower_digit word ≡ tested → 0 < length word → length word % 2 ≡ 0 → tested ≡ is_some (bytes_of word)
bytes_of-tested word true digits some even =
    let of = digits_are_of word even digits in
    let size = length-digits word of.0 of.2 in
    let found : bytes_of word ≡ Some of.0 = subst (λ (w : List ℕ). bytes_of w ≡ Some of.0) (sym of.2) (bytes_of-encode_lower of.0 of.1 (omega arith)) in
    sym (ap is_some found)
bytes_of-tested word false digits some even =
    sym (ap is_some (none_unless (bytes_of word) (λ bytes is.
    let found = bytes_of-found word bytes is in
    let all : list_all is_lower_digit word ≡ true = rw found.2 (encode_lower-digits bytes found.0) in
    cc)))

-- no digits, or an odd number of them, say none
pub bytes_of-none : (word : List ℕ) → (0 < length word → length word % 2 ≡ 0 → ⊥) → is_some (bytes_of word) ≡ false
bytes_of-none word never =
    ap is_some (none_unless (bytes_of word) (λ bytes is.
    let found = bytes_of-found word bytes is in
    let size = length-digits word bytes found.2 in
    never (omega (arith, found.1)) (omega arith)))

-- the digits of bytes are as many as twice the bytes
pub digits_other : (bytes word : List ℕ) (k : ℕ) → length word ≡ 2 * k + 1 → bytes_eq (encode_lower bytes) word ≡ false
digits_other bytes word k odd =
    false_from_ne_true (bytes_eq (encode_lower bytes) word) (λ same.
    let size = length-encode_with lower_digits bytes in
    let e : length (encode_lower bytes) ≡ length word = ap length ((bytes_eq-Decides (encode_lower bytes) word).0 same) in
    omega arith)

-- a number does not begin with a dash
decimal_no_dash : (n : ℕ) → n < 2 ^ 64 → bytes_eq (decimal n) (codes "-") ≡ false
decimal_no_dash n h =
    let digit = digit_at (decimal n) 0 (digits_decimal own n h) (decimal_nonempty n h) in
    false_from_ne_true (bytes_eq (decimal n) (codes "-")) (λ same.
    let dash : get_or (decimal n) 0 0 ≡ 45 = ap (λ (w : List ℕ). get_or w 0 0) ((bytes_eq-Decides (decimal n) (codes "-")).0 same) in
    omega (arith, digit.0))

-- ---- what is read is written so

version_of-found : (word : List ℕ) (version : Option ℕ) → version_of word ≡ Some version → IfSome version (λ v. v < 2 ^ 32) × (word ≡ revision_word version)
unfolding version_of
version_of-found word version h =
    chosen word (codes "-") _ _ version (λ w e. let is : None ≡ version = cc in rw (← is) (tt, w))
    (mapped Some (place_of word) version (λ n is e. let found = place-found word n is in rw (← e) found))
    h

command_of-found : (word : List ℕ) (frame : Option (List ℕ)) → command_of word ≡ Some frame → IfSome frame IsBytes × IfSome frame IsOneFrame × (word ≡ command_word frame)
unfolding command_of
command_of-found word frame h =
    chosen word (codes "leave") _ _ frame (λ w e. let is : None ≡ frame = cc in rw (← is) (tt, tt, w))
    (mapped Some (frame_of word) frame (λ bytes is e. let found = frame_of-found word bytes is in rw (← e) found))
    h

verdict_with-found : (name word : List ℕ) (mark : Mark) → verdict_with name word ≡ Some mark → FitsVerdict mark × (name ∷ word ∷ [] ≡ verdict_words mark)
unfolding verdict_with
verdict_with-found name word mark h =
    chosen name (codes "accepted") _ _ mark (λ w. mapped Accepted (revision_of word) mark (λ n is e. let found = revision-found word n is in rw (← e, w, found.1) (found.0, refl)))
    (chosen name (codes "refused") _ _ mark (λ w. mapped Refused (byte_of word) mark (λ n is e. let found = byte-found word n is in rw (← e, w, found.1) (found.0, refl)))
    (chosen name (codes "rejected") _ _ mark (λ w. mapped Rejected (byte_of word) mark (λ n is e. let found = byte-found word n is in rw (← e, w, found.1) (found.0, refl)))
    (chosen name (codes "ignored") _ _ mark (λ w. mapped Ignored (byte_of word) mark (λ n is e. let found = byte-found word n is in rw (← e, w, found.1) (found.0, refl)))
    (λ e. cc))))
    h

lack_of-found : (perm channel : List ℕ) (mark : Mark) → lack_of perm channel ≡ Some mark → FitsVerdict mark × (codes "lacks" ∷ perm ∷ channel ∷ [] ≡ verdict_words mark)
unfolding lack_of
lack_of-found perm channel mark h =
    option_and_then_some (λ (p : ℕ). option_map (λ (c : ℕ). Lacks (record { 0 = p }) (record { 0 = c })) (place_of channel)) (place_of perm) mark h (λ p is e.
    mapped (λ (c : ℕ). Lacks (record { 0 = p }) (record { 0 = c })) (place_of channel) mark (λ c there e2.
    let one = place-found perm p is in
    let two = place-found channel c there in
    rw (← e2, one.1, two.1) ((one.0, two.0), refl)) e)

verdict_of-found : (words : List (List ℕ)) (mark : Mark) → verdict_of words ≡ Some mark → FitsVerdict mark × (words ≡ verdict_words mark)
unfolding verdict_of
verdict_of-found [] mark h = cc
verdict_of-found (name ∷ []) mark h =
    chosen name (codes "answer") _ _ mark (λ w e. let is : Answer ≡ mark = cc in rw (← is, w) (tt, refl)) (λ e. cc) h
verdict_of-found (name ∷ word ∷ []) mark h = verdict_with-found name word mark h
verdict_of-found (name ∷ perm ∷ channel ∷ []) mark h =
    chosen name (codes "lacks") _ _ mark (λ w e. rw w (lack_of-found perm channel mark e)) (λ e. cc) h
verdict_of-found (name ∷ perm ∷ channel ∷ more ∷ others) mark h = cc

control_with-found : (connection version command : List ℕ) (verdict : List (List ℕ)) (entry : ControlEntry) → control_with connection version command verdict ≡ Some entry
    → IsControl entry × (codes "c" ∷ connection ∷ version ∷ command ∷ verdict ≡ control_words entry)
unfolding control_with control_words
control_with-found connection version command verdict entry h =
    option_and_then_some _ (place_of connection) entry h (λ c c_is e1.
    option_and_then_some _ (version_of version) entry e1 (λ v v_is e2.
    option_and_then_some _ (command_of command) entry e2 (λ f f_is e3.
    option_and_then_some _ (verdict_of verdict) entry e3 (λ m m_is e4.
    let made : ControlEntry = record { connection = c; version = v; frame = f; verdict = m } in
    let pick = cond_some (may_carry v f) made entry e4 in
    let one = place-found connection c c_is in
    let two = version_of-found version v v_is in
    let three = command_of-found command f f_is in
    let four = verdict_of-found verdict m m_is in
    rw (← pick.1, one.1, two.1, three.2, four.1) (((one.0, two.0, three.0, four.0), (three.1, pick.0)), refl)))))

pub control_of-found : (words : List (List ℕ)) (entry : ControlEntry) → control_of words ≡ Some entry → IsControl entry × (words ≡ control_words entry)
unfolding control_of
control_of-found [] entry h = cc
control_of-found (mark ∷ []) entry h = cc
control_of-found (mark ∷ connection ∷ []) entry h = cc
control_of-found (mark ∷ connection ∷ version ∷ []) entry h = cc
control_of-found (mark ∷ connection ∷ version ∷ command ∷ verdict) entry h =
    chosen mark (codes "c") _ _ entry (λ w e. rw w (control_with-found connection version command verdict entry e)) (λ e. cc) h

pub mark_of-found : (word : List ℕ) (sent : Bool) → mark_of word ≡ Some sent → word ≡ mark_word sent
unfolding mark_of
mark_of-found word sent h =
    chosen word (codes "s") _ _ sent (λ w e. let is : true ≡ sent = cc in rw (← is) w)
    (chosen word (codes "f") _ _ sent (λ w e. let is : false ≡ sent = cc in rw (← is) w) (λ e. cc))
    h

copy_with-found : (session context mark : List ℕ) (copy : Marked) → copy_with session context mark ≡ Some copy
    → FitsCopy copy × (join_with_byte 47 (session ∷ context ∷ mark ∷ []) ≡ copy_word copy)
unfolding copy_with copy_word
copy_with-found session context mark copy h =
    option_and_then_some _ (place_of session) copy h (λ s s_is e1.
    option_and_then_some _ (byte_of context) copy e1 (λ c c_is e2.
    mapped (λ (m : Bool). record { session = record { 0 = s }; context = c; sent = m }) (mark_of mark) copy (λ m m_is e3.
    let one = place-found session s s_is in
    let two = byte-found context c c_is in
    rw (← e3, one.1, two.1, mark_of-found mark m m_is) ((one.0, two.0), refl)) e2))

copy_in-found : (parts : List (List ℕ)) (copy : Marked) → copy_in parts ≡ Some copy → FitsCopy copy × (join_with_byte 47 parts ≡ copy_word copy)
copy_in-found [] copy h = cc
copy_in-found (session ∷ []) copy h = cc
copy_in-found (session ∷ context ∷ []) copy h = cc
copy_in-found (session ∷ context ∷ mark ∷ []) copy h = copy_with-found session context mark copy h
copy_in-found (session ∷ context ∷ mark ∷ more ∷ others) copy h = cc

copy_of-found : (word : List ℕ) (copy : Marked) → copy_of word ≡ Some copy → FitsCopy copy × (word ≡ copy_word copy)
unfolding copy_of
copy_of-found word copy h =
    let found = copy_in-found (slice_split is_slash word) copy h in
    (found.0, sym (join_with_byte-slice_split 47 word) ∙ found.1)

copies_of-found : (words : List (List ℕ)) (copies : List Marked) → copies_of words ≡ Some copies → Each FitsCopy copies × (words ≡ map copy_word copies)
unfolding copies_of
copies_of-found [] copies h = let is : [] ≡ copies = cc in rw (← is) (tt, refl)
copies_of-found (word ∷ words) copies h =
    option_and_then_some (λ (copy : Marked). option_map (λ (more : List Marked). copy ∷ more) (copies_of words)) (copy_of word) copies h (λ copy is e.
    mapped (λ (more : List Marked). copy ∷ more) (copies_of words) copies (λ more there e2.
    let one = copy_of-found word copy is in
    let rest = copies_of-found words more there in
    rw (← e2, one.1, rest.1) ((one.0, rest.0), refl)) e)

voice_with-found : (connection revision packet count : List ℕ) (copies : List (List ℕ)) (entry : WorkerEntry) → voice_with connection revision packet count copies ≡ Some entry
    → IsEntry entry × (codes "v" ∷ connection ∷ revision ∷ packet ∷ count ∷ copies ≡ entry_words entry)
unfolding voice_with entry_words
voice_with-found connection revision packet count copies entry h =
    option_and_then_some _ (place_of connection) entry h (λ c c_is e1.
    option_and_then_some _ (revision_of revision) entry e1 (λ r r_is e2.
    option_and_then_some _ (bytes_of packet) entry e2 (λ p p_is e3.
    option_and_then_some _ (revision_of count) entry e3 (λ n n_is e4.
    option_and_then_some _ (copies_of copies) entry e4 (λ all all_is e5.
    let pick = cond_some (n == length all) (Voice c r p all) entry e5 in
    let one = place-found connection c c_is in
    let two = revision-found revision r r_is in
    let three = bytes_of-found packet p p_is in
    let four = revision-found count n n_is in
    let five = copies_of-found copies all all_is in
    let same : n ≡ length all = eqb-true n (length all) pick.0 in
    let many : length all < 2 ^ 64 = omega (arith, four.0) in
    rw (← pick.1, one.1, two.1, three.2, four.1, five.1, same) (((one.0, two.0, three.0, many, five.0), three.1), refl))))))

voice_of-found : (words : List (List ℕ)) (entry : WorkerEntry) → voice_of words ≡ Some entry → IsEntry entry × (codes "v" ∷ words ≡ entry_words entry)
unfolding voice_of
voice_of-found [] entry h = cc
voice_of-found (connection ∷ []) entry h = cc
voice_of-found (connection ∷ revision ∷ []) entry h = cc
voice_of-found (connection ∷ revision ∷ packet ∷ []) entry h = cc
voice_of-found (connection ∷ revision ∷ packet ∷ count ∷ copies) entry h = voice_with-found connection revision packet count copies entry h

closing_cause_of-found : (word : List ℕ) (cause : Cause) → closing_cause_of word ≡ Some cause → word ≡ cause_word cause
unfolding closing_cause_of
closing_cause_of-found word cause h =
    chosen word (codes "memory") _ _ cause (λ w e. let is : causes.Memory ≡ cause = cc in rw (← is) w) (λ e. (cause_of-found word cause e).1) h

closed_of-found : (words : List (List ℕ)) (entry : WorkerEntry) → closed_of words ≡ Some entry → IsEntry entry × (codes "x" ∷ words ≡ entry_words entry)
unfolding closed_of entry_words
closed_of-found [] entry h = cc
closed_of-found (connection ∷ []) entry h = cc
closed_of-found (connection ∷ cause ∷ []) entry h =
    option_and_then_some (λ (c : ℕ). option_map (Closed c) (closing_cause_of cause)) (place_of connection) entry h (λ c c_is e1.
    mapped (Closed c) (closing_cause_of cause) entry (λ why why_is e2.
    let one = place-found connection c c_is in
    rw (← e2, one.1, closing_cause_of-found cause why why_is) ((one.0, tt), refl)) e1)
closed_of-found (connection ∷ cause ∷ more ∷ others) entry h = cc

pub entry_of-found : (words : List (List ℕ)) (entry : WorkerEntry) → entry_of words ≡ Some entry → IsEntry entry × (words ≡ entry_words entry)
unfolding entry_of
entry_of-found [] entry h = cc
entry_of-found (mark ∷ words) entry h =
    chosen mark (codes "v") _ _ entry (λ w e. rw w (voice_of-found words entry e))
    (chosen mark (codes "x") _ _ entry (λ w e. rw w (closed_of-found words entry e)) (λ e. cc))
    h

-- ---- what is written is read back

version_of-word : (version : Option ℕ) → IfSome version (λ v. v < 2 ^ 32) → version_of (revision_word version) ≡ Some version
unfolding version_of
version_of-word None h = refl
version_of-word (Some v) h = rw (decimal_no_dash v (omega (arith, h)), place_of-decimal v h) refl

command_of-word : (frame : Option (List ℕ)) → IfSome frame IsBytes → IfSome frame IsOneFrame → command_of (command_word frame) ≡ Some frame
unfolding command_of
command_of-word None small one = refl
command_of-word (Some bytes) small one = rw (digits_other bytes (codes "leave") 2 refl, frame_of-encode_lower bytes small one) refl

verdict_of-words : (mark : Mark) → FitsVerdict mark → verdict_of (verdict_words mark) ≡ Some mark
unfolding verdict_of verdict_with lack_of
verdict_of-words (Accepted n) h = rw (revision_of-decimal n h) refl
verdict_of-words (Lacks perm channel) h = rw (place_of-decimal perm.0 h.0, place_of-decimal channel.0 h.1) refl
verdict_of-words (Refused n) h = rw (byte_of-decimal n h) refl
verdict_of-words (Rejected n) h = rw (byte_of-decimal n h) refl
verdict_of-words Answer h = refl
verdict_of-words (Ignored n) h = rw (byte_of-decimal n h) refl

pub control_of-words : (entry : ControlEntry) → IsControl entry → control_of (control_words entry) ≡ Some entry
unfolding control_of control_with control_words
control_of-words entry h =
    rw (place_of-decimal entry.connection h.0.0, version_of-word entry.version h.0.1, command_of-word entry.frame h.0.2 h.1.0, verdict_of-words entry.verdict h.0.3, h.1.1) refl

mark_of-word : (sent : Bool) → mark_of (mark_word sent) ≡ Some sent
unfolding mark_of
mark_of-word true = refl
mark_of-word false = refl

mark_IsPart : (sent : Bool) → IsPart 47 (mark_word sent)
mark_IsPart true = (refl, tt)
mark_IsPart false = (refl, tt)

copy_of-word : (copy : Marked) → FitsCopy copy → copy_of (copy_word copy) ≡ Some copy
unfolding copy_of copy_word copy_with
copy_of-word copy h =
    let session : List ℕ = decimal copy.session.0 in
    let context : List ℕ = decimal copy.context in
    let first = split_parts 47 session (context ++ 47 ∷ mark_word copy.sent) (decimal_IsPart copy.session.0 (omega (arith, h.0))) in
    let second = split_parts 47 context (mark_word copy.sent) (decimal_IsPart copy.context (omega (arith, h.1))) in
    let third = split_part 47 (mark_word copy.sent) (mark_IsPart copy.sent) in
    ap copy_in (first ∙ ap (λ (ws : List (List ℕ)). session ∷ ws) (second ∙ ap (λ (ws : List (List ℕ)). context ∷ ws) third))
    ∙ rw (place_of-decimal copy.session.0 h.0, byte_of-decimal copy.context h.1, mark_of-word copy.sent) refl

copies_of-words : (copies : List Marked) → Each FitsCopy copies → copies_of (map copy_word copies) ≡ Some copies
unfolding copies_of
copies_of-words [] h = refl
copies_of-words (copy ∷ copies) h = rw (copy_of-word copy h.0, copies_of-words copies h.1) refl

closing_cause_of-word : (cause : Cause) → closing_cause_of (cause_word cause) ≡ Some cause
unfolding closing_cause_of cause_of
closing_cause_of-word causes.End = refl
closing_cause_of-word causes.LinkFault = refl
closing_cause_of-word causes.FrameTooLong = refl
closing_cause_of-word causes.Rejected = refl
closing_cause_of-word causes.Kicked = refl
closing_cause_of-word causes.Lagged = refl
closing_cause_of-word causes.Memory = refl

pub entry_of-words : (entry : WorkerEntry) → IsEntry entry → entry_of (entry_words entry) ≡ Some entry
unfolding entry_of entry_words voice_of voice_with closed_of
entry_of-words (Voice connection revision packet copies) h =
    rw (place_of-decimal connection h.0.0, revision_of-decimal revision h.0.1, bytes_of-encode_lower packet h.0.2 h.1, revision_of-decimal (length copies) h.0.3, copies_of-words copies h.0.4, eq-eqb (length copies) (length copies) refl) refl
entry_of-words (Closed connection cause) h = rw (place_of-decimal connection h.0, closing_cause_of-word cause) refl

-- ---- the words of an entry are graphic

place_graphic : (n : ℕ) → n < 2 ^ 32 → IsGraphic (decimal n)
place_graphic n h = decimal_graphic n (omega arith)

byte_graphic : (n : ℕ) → n < 2 ^ 8 → IsGraphic (decimal n)
byte_graphic n h = decimal_graphic n (omega arith)

verdict_graphic : (mark : Mark) → FitsVerdict mark → AreGraphic (verdict_words mark)
verdict_graphic (Accepted n) h = (literal_graphic (codes "accepted") refl, (decimal_graphic n h, tt))
verdict_graphic (Lacks perm channel) h = (literal_graphic (codes "lacks") refl, (place_graphic perm.0 h.0, (place_graphic channel.0 h.1, tt)))
verdict_graphic (Refused n) h = (literal_graphic (codes "refused") refl, (byte_graphic n h, tt))
verdict_graphic (Rejected n) h = (literal_graphic (codes "rejected") refl, (byte_graphic n h, tt))
verdict_graphic Answer h = (literal_graphic (codes "answer") refl, tt)
verdict_graphic (Ignored n) h = (literal_graphic (codes "ignored") refl, (byte_graphic n h, tt))

version_graphic : (version : Option ℕ) → IfSome version (λ v. v < 2 ^ 32) → IsGraphic (revision_word version)
version_graphic None h = number_graphic None tt
version_graphic (Some v) h = number_graphic (Some v) (omega (arith, h))

command_graphic : (frame : Option (List ℕ)) → IfSome frame IsBytes → IsGraphic (command_word frame)
command_graphic None h = literal_graphic (codes "leave") refl
command_graphic (Some bytes) h = digits_lower_graphic bytes h

pub control_graphic : (entry : ControlEntry) → FitsControl entry → AreGraphic (control_words entry)
unfolding control_words
control_graphic entry h =
    (literal_graphic (codes "c") refl, (place_graphic entry.connection h.0, (version_graphic entry.version h.1, (command_graphic entry.frame h.2, verdict_graphic entry.verdict h.3))))

mark_graphic : (sent : Bool) → IsGraphic (mark_word sent)
mark_graphic true = literal_graphic (codes "s") refl
mark_graphic false = literal_graphic (codes "f") refl

copy_graphic : (copy : Marked) → FitsCopy copy → IsGraphic (copy_word copy)
unfolding copy_word
copy_graphic copy h =
    slashed_graphic (decimal copy.session.0 ∷ decimal copy.context ∷ mark_word copy.sent ∷ [])
    (place_graphic copy.session.0 h.0, (byte_graphic copy.context h.1, (mark_graphic copy.sent, tt)))

copies_graphic : (copies : List Marked) → Each FitsCopy copies → AreGraphic (map copy_word copies)
copies_graphic [] h = tt
copies_graphic (copy ∷ copies) h = (copy_graphic copy h.0, copies_graphic copies h.1)

pub entry_graphic : (entry : WorkerEntry) → FitsEntry entry → AreGraphic (entry_words entry)
unfolding entry_words
entry_graphic (Voice connection revision packet copies) h =
    (literal_graphic (codes "v") refl, (place_graphic connection h.0, (decimal_graphic revision h.1, (digits_lower_graphic packet h.2, (decimal_graphic (length copies) h.3, copies_graphic copies h.4)))))
entry_graphic (Closed connection cause) h = (literal_graphic (codes "x") refl, (place_graphic connection h, (cause_graphic cause, tt)))

some_control_words : (entry : ControlEntry) → 0 < length (control_words entry)
unfolding control_words
some_control_words entry = omega arith

some_entry_words : (entry : WorkerEntry) → 0 < length (entry_words entry)
unfolding entry_words
some_entry_words (Voice connection revision packet copies) = omega arith
some_entry_words (Closed connection cause) = omega arith

-- an entry is read back from its line
pub control_of-line : (entry : ControlEntry) → IsControl entry → control_of (words_in (control_line entry)) ≡ Some entry
control_of-line entry h =
    ap control_of (slice_split-join_all (control_words entry) (some_control_words entry) (graphic_AreAllWords _ (control_graphic entry h.0)))
    ∙ control_of-words entry h

pub entry_of-line : (entry : WorkerEntry) → IsEntry entry → entry_of (words_in (entry_line entry)) ≡ Some entry
entry_of-line entry h =
    ap entry_of (slice_split-join_all (entry_words entry) (some_entry_words entry) (graphic_AreAllWords _ (entry_graphic entry h.0)))
    ∙ entry_of-words entry h

-- ---- lines that are cut short

some_verdict : (mark : Mark) → [] ≡ verdict_words mark → ⊥
some_verdict (Accepted n) h = cc
some_verdict (Lacks perm channel) h = cc
some_verdict (Refused n) h = cc
some_verdict (Rejected n) h = cc
some_verdict Answer h = cc
some_verdict (Ignored n) h = cc

-- a control entry has a verdict
pub control_of-cut : (mark connection version command : List ℕ) → control_of (mark ∷ connection ∷ version ∷ command ∷ []) ≡ None
unfolding control_words
control_of-cut mark connection version command =
    none_unless (control_of (mark ∷ connection ∷ version ∷ command ∷ [])) (λ entry is.
    let found = control_of-found (mark ∷ connection ∷ version ∷ command ∷ []) entry is in
    let rest : [] ≡ verdict_words entry.verdict = cc (found.1) in
    some_verdict entry.verdict rest)

-- an entry of a worker has a word after its mark
pub entry_of-cut : (mark : List ℕ) → entry_of (mark ∷ []) ≡ None
unfolding entry_of voice_of closed_of
entry_of-cut mark = nothing (bytes_eq mark (codes "v")) (bytes_eq mark (codes "x"))
  where
    none : Option WorkerEntry
    none = None

    nothing : (a b : Bool) → cond a none (cond b none none) ≡ none
    nothing true b = refl
    nothing false true = refl
    nothing false false = refl

-- the frame of a command is one frame
pub command_of-one : (word : List ℕ) (frame : Option (List ℕ)) → command_of word ≡ Some frame → IfSome frame IsOneFrame
command_of-one word frame h = (command_of-found word frame h).1
