-- How much audio begins the bytes, as a function and by the rules.
use Rattle.mum_voice.proofs.Common.{◌≡◌, ℕ, zero, suc, ◌+◌, ◌-◌, ◌%◌, ◌^◌, ◌<◌, ◌≤◌, true, false, List, [], ◌∷◌, ◌++◌, length, get_or, take, drop, Option, Some, None, refl, sym, ap, subst, ◌∙◌, append_assoc, arith, inl, inr, lit≤, option_map, cases_lt, le-ltb, lt-ltb, ne_eqb, drop_at, length-append, length-take, length-drop, drop-drop, drop-cons, take-add, BeginsWith, word_at, IsOpus, AreSegments, IsAudio, is_audio_kind, opus_len_by, opus_len, segments_len_within, segments_len, audio_len}
use Rattle.mum_voice.proofs.Spelling.{IsBytes, IsBytes-rest, IsBytes-drop, word_at-spelled, word_at-found}

-- ---- segments

-- a length after n bytes
abbrev pub after : ℕ → Option ℕ → Option ℕ
after len rest = option_map (λ more. len + more) rest

after-after : (m n k : ℕ) (rest : Option ℕ) → m + n ≡ k → after m (after n rest) ≡ after k rest
after-after m n k None e = refl
after-after m n k (Some rest) e = ap (λ (j : ℕ). Some j) (omega arith)

some_is : (m n : ℕ) → Some m ≡ Some n → m ≡ n
some_is m n e = cc

-- more segments than bytes are never there
enough : (count other : ℕ) (bytes : List ℕ) → length bytes ≤ count → length bytes ≤ other → segments_len_within count bytes ≡ segments_len_within other bytes
unfolding segments_len_within
enough zero zero bytes le le' = refl
enough zero (suc other) [] le le' = refl
enough zero (suc other) (header ∷ bytes) le le' = absurd (omega arith)
enough (suc count) zero [] le le' = refl
enough (suc count) zero (header ∷ bytes) le le' = absurd (omega arith)
enough (suc count) (suc other) [] le le' = refl
enough (suc count) (suc other) (header ∷ bytes) le le' =
    let same = enough count other (drop (header % 2 ^ 7) bytes) (omega (arith, length-drop (header % 2 ^ 7) bytes)) (omega (arith, length-drop (header % 2 ^ 7) bytes)) in
    rw same refl

segment_short : (count header : ℕ) (bytes : List ℕ) → length bytes < header % 2 ^ 7 → segments_len_within (suc count) (header ∷ bytes) ≡ None
unfolding segments_len_within
segment_short count header bytes lt = rw (lt-ltb _ _ lt) refl

segment_last : (count header : ℕ) (bytes : List ℕ) → header % 2 ^ 7 ≤ length bytes → header < 2 ^ 7 → segments_len_within (suc count) (header ∷ bytes) ≡ Some (1 + header % 2 ^ 7)
unfolding segments_len_within
segment_last count header bytes le lt = rw (le-ltb _ _ le, lt-ltb header (2 ^ 7) lt) refl

segment_another : (count header : ℕ) (bytes : List ℕ) → header % 2 ^ 7 ≤ length bytes → 2 ^ 7 ≤ header
    → segments_len_within (suc count) (header ∷ bytes) ≡ after (1 + header % 2 ^ 7) (segments_len_within count (drop (header % 2 ^ 7) bytes))
unfolding segments_len_within
segment_another count header bytes le above = rw (le-ltb _ _ le, le-ltb header (2 ^ 7) above) refl

-- what a loop at the place len knows of the bytes from there on
module _ (bytes : List ℕ) (len header next : ℕ) (here : len < length bytes) (is : get_or bytes len 0 ≡ header) (goes : len + (1 + header % 2 ^ 7) ≡ next) where
  at_header : segments_len_within (length bytes - len) (drop len bytes) ≡ segments_len_within (suc (length bytes - suc len)) (header ∷ drop (suc len) bytes)
  at_header =
      let k : length bytes - len ≡ suc (length bytes - suc len) = omega arith in
      let cell : drop len bytes ≡ header ∷ drop (suc len) bytes = drop-cons bytes len 0 here ∙ ap (λ (b : ℕ). b ∷ drop (suc len) bytes) is in
      rw (k, cell) refl

  pub loop_short : length bytes < next → after len (segments_len_within (length bytes - len) (drop len bytes)) ≡ None
  loop_short past = ap (after len) (at_header ∙ segment_short (length bytes - suc len) header (drop (suc len) bytes) (omega (arith, length-drop (suc len) bytes)))

  pub loop_last : next ≤ length bytes → header < 2 ^ 7 → after len (segments_len_within (length bytes - len) (drop len bytes)) ≡ Some next
  loop_last within lt = ap (after len) (at_header ∙ segment_last (length bytes - suc len) header (drop (suc len) bytes) (omega (arith, length-drop (suc len) bytes)) lt) ∙ ap (λ (n : ℕ). Some n) goes

  pub loop_another : next ≤ length bytes → 2 ^ 7 ≤ header → after len (segments_len_within (length bytes - len) (drop len bytes)) ≡ after next (segments_len_within (length bytes - next) (drop next bytes))
  loop_another within above =
      let one = at_header ∙ segment_another (length bytes - suc len) header (drop (suc len) bytes) (omega (arith, length-drop (suc len) bytes)) above in
      let k : suc len + header % 2 ^ 7 ≡ next = omega arith in
      let rest : drop (header % 2 ^ 7) (drop (suc len) bytes) ≡ drop next bytes = drop-drop (header % 2 ^ 7) (suc len) bytes ∙ ap (λ (n : ℕ). drop n bytes) k in
      let same = enough (length bytes - suc len) (length bytes - next) (drop next bytes) (omega (arith, length-drop next bytes)) (omega (arith, length-drop next bytes)) in
      ap (after len) one ∙ after-after len (1 + header % 2 ^ 7) next (segments_len_within (length bytes - suc len) (drop (header % 2 ^ 7) (drop (suc len) bytes))) goes ∙ ap (λ (r : List ℕ). after next (segments_len_within (length bytes - suc len) r)) rest ∙ ap (after next) same

pub loop_ended : (bytes : List ℕ) (len : ℕ) → len ≡ length bytes → after len (segments_len_within (length bytes - len) (drop len bytes)) ≡ None
unfolding segments_len_within
loop_ended bytes len e =
    let k : length bytes - len ≡ 0 = omega arith in
    rw k refl

-- ---- segments that are there are found, whatever follows

length_positive : {audio : List ℕ} → AreSegments audio → 0 < length audio
length_positive (AreSegments.last sound lt) = omega arith
length_positive (AreSegments.another sound others lt t) = omega arith

segments_len_within-spelled : (count : ℕ) {audio : List ℕ} → AreSegments audio → (rest : List ℕ) → length (audio ++ rest) ≤ count → segments_len_within count (audio ++ rest) ≡ Some (length audio)
segments_len_within-spelled zero {audio} s rest le = absurd (omega (arith, length_positive s, length-append audio rest))
segments_len_within-spelled (suc count) (AreSegments.last sound lt) rest le =
    let k : length sound % 2 ^ 7 ≡ length sound = omega arith in
    segment_last count (length sound) (sound ++ rest) (omega (arith, length-append sound rest)) lt ∙ ap (λ (n : ℕ). Some n) (omega arith)
segments_len_within-spelled (suc count) (AreSegments.another sound others lt t) rest le =
    let k : (0x80 + length sound) % 2 ^ 7 ≡ length sound = omega arith in
    let whole : (sound ++ others) ++ rest ≡ sound ++ (others ++ rest) = append_assoc sound others rest in
    let after_sound : drop ((0x80 + length sound) % 2 ^ 7) ((sound ++ others) ++ rest) ≡ others ++ rest = rw (k, whole) (drop_at sound (others ++ rest) (length sound) refl) in
    let inner = segments_len_within-spelled count t rest (omega (arith, length-append (sound ++ others) rest, length-append sound others, length-append others rest)) in
    segment_another count (0x80 + length sound) ((sound ++ others) ++ rest) (omega (arith, length-append (sound ++ others) rest, length-append sound others)) (omega arith)
    ∙ ap (λ (r : List ℕ). after (1 + (0x80 + length sound) % 2 ^ 7) (segments_len_within count r)) after_sound
    ∙ ap (after (1 + (0x80 + length sound) % 2 ^ 7)) inner
    ∙ ap (λ (n : ℕ). Some n) (omega (arith, length-append sound others))

pub segments_len-spelled : {audio : List ℕ} → AreSegments audio → (rest : List ℕ) → segments_len (audio ++ rest) ≡ Some (length audio)
unfolding segments_len
segments_len-spelled {audio} s rest = segments_len_within-spelled (length (audio ++ rest)) s rest (omega arith)

-- ---- segments that are found are there

after_some : (m len : ℕ) (rest : Option ℕ) → after m rest ≡ Some len → (more : ℕ) × (rest ≡ Some more) × (m + more ≡ len)
after_some m len None e = absurd cc
after_some m len (Some more) e = (more, refl, some_is (m + more) len e)

last_found : (header : ℕ) (bytes : List ℕ) → header % 2 ^ 7 ≤ length bytes → header < 2 ^ 7 → AreSegments (header ∷ take (header % 2 ^ 7) bytes)
last_found header bytes le lt =
    let k : length (take (header % 2 ^ 7) bytes) ≡ header = omega (arith, length-take (header % 2 ^ 7) bytes) in
    subst (λ (h : ℕ). AreSegments (h ∷ take (header % 2 ^ 7) bytes)) k (AreSegments.last (take (header % 2 ^ 7) bytes) (omega arith))

another_found : (header more : ℕ) (bytes : List ℕ) → header < 2 ^ 8 → header % 2 ^ 7 ≤ length bytes → 2 ^ 7 ≤ header
    → AreSegments (take more (drop (header % 2 ^ 7) bytes)) → AreSegments (header ∷ take (header % 2 ^ 7 + more) bytes)
another_found header more bytes byte le above rest =
    let k : 0x80 + length (take (header % 2 ^ 7) bytes) ≡ header = omega (arith, length-take (header % 2 ^ 7) bytes) in
    let all = AreSegments.another (take (header % 2 ^ 7) bytes) (take more (drop (header % 2 ^ 7) bytes)) (omega arith) rest in
    rw (take-add (header % 2 ^ 7) more bytes) (subst (λ (h : ℕ). AreSegments (h ∷ (take (header % 2 ^ 7) bytes ++ take more (drop (header % 2 ^ 7) bytes)))) k all)

segments_len_within-found : (count : ℕ) (bytes : List ℕ) (len : ℕ) → IsBytes bytes → segments_len_within count bytes ≡ Some len → (len ≤ length bytes) × AreSegments (take len bytes)
unfolding segments_len_within
segments_len_within-found zero bytes len fits e = absurd cc
segments_len_within-found (suc count) [] len fits e = absurd cc
segments_len_within-found (suc count) (header ∷ bytes) len fits e =
    elim (cases_lt (length bytes) (header % 2 ^ 7)) [
      | inl lt ↦ absurd (let none = segment_short count header bytes lt in cc)
      | inr le ↦ elim (cases_lt header (2 ^ 7)) [
        | inl lt ↦
            let k : len ≡ suc (header % 2 ^ 7) = omega (arith, some_is (1 + header % 2 ^ 7) len (sym (segment_last count header bytes le lt) ∙ e)) in
            (omega arith, rw k (last_found header bytes le lt))
        | inr above ↦
            let found = after_some (1 + header % 2 ^ 7) len (segments_len_within count (drop (header % 2 ^ 7) bytes)) (sym (segment_another count header bytes le above) ∙ e) in
            let inner = segments_len_within-found count (drop (header % 2 ^ 7) bytes) found.0 (IsBytes-drop (header % 2 ^ 7) bytes (IsBytes-rest header bytes fits)) found.1 in
            let k : len ≡ suc (header % 2 ^ 7 + found.0) = omega (arith, found.2) in
            (omega (arith, inner.0, length-drop (header % 2 ^ 7) bytes), rw k (another_found header found.0 bytes (fits 0) le above inner.1))
      ]
    ]

segments_len-found : (bytes : List ℕ) (len : ℕ) → IsBytes bytes → segments_len bytes ≡ Some len → (len ≤ length bytes) × AreSegments (take len bytes)
unfolding segments_len
segments_len-found bytes len fits e = segments_len_within-found (length bytes) bytes len fits e

-- ---- Opus

opus_some : (bytes : List ℕ) (number header : ℕ) → number ≤ 0x3FFF → header + number % 0x2000 ≤ length bytes → opus_len_by bytes (Some (number, header)) ≡ Some (header + number % 0x2000)
opus_some bytes number header small le = rw (le-ltb 0x3FFF number small, le-ltb _ _ le) refl

opus_large : (bytes : List ℕ) (number header : ℕ) → 0x3FFF < number → opus_len_by bytes (Some (number, header)) ≡ None
opus_large bytes number header large = rw (lt-ltb 0x3FFF number large) refl

opus_short : (bytes : List ℕ) (number header : ℕ) → number ≤ 0x3FFF → length bytes < header + number % 0x2000 → opus_len_by bytes (Some (number, header)) ≡ None
opus_short bytes number header small lt = rw (le-ltb 0x3FFF number small, lt-ltb _ _ lt) refl

opus_len-spelled : {audio : List ℕ} → IsOpus audio → (rest : List ℕ) → opus_len (audio ++ rest) ≡ Some (length audio)
unfolding opus_len
opus_len-spelled {audio} o rest =
    let whole : audio ++ rest ≡ o.header ++ (o.sound ++ rest) = ap (λ (a : List ℕ). a ++ rest) o.bytes ∙ append_assoc o.header o.sound rest in
    let read : word_at (audio ++ rest) ≡ Some (o.number, length o.header) = ap word_at whole ∙ word_at-spelled o.spelled (o.sound ++ rest) in
    let len : length audio ≡ length o.header + o.number % 0x2000 = omega (arith, ap length o.bytes, length-append o.header o.sound, o.len) in
    ap (opus_len_by (audio ++ rest)) read ∙ opus_some (audio ++ rest) o.number (length o.header) o.fits (omega (arith, length-append audio rest)) ∙ ap (λ (n : ℕ). Some n) (sym len)

opus_found : (bytes : List ℕ) (number header len : ℕ) → BeginsWith bytes number header → opus_len_by bytes (Some (number, header)) ≡ Some len → (len ≤ length bytes) × IsOpus (take len bytes)
opus_found bytes number header len begins e =
    elim (cases_lt 0x3FFF number) [
      | inl large ↦ absurd (let none = opus_large bytes number header large in cc)
      | inr small ↦ elim (cases_lt (length bytes) (header + number % 0x2000)) [
        | inl lt ↦ absurd (let none = opus_short bytes number header small lt in cc)
        | inr le ↦
            let k : header + number % 0x2000 ≡ len = some_is (header + number % 0x2000) len (sym (opus_some bytes number header small le) ∙ e) in
            let sound : length (take (number % 0x2000) (drop header bytes)) ≡ number % 0x2000 = omega (arith, length-take (number % 0x2000) (drop header bytes), length-drop header bytes) in
            (omega arith, record { number = number; header = take header bytes; sound = take (number % 0x2000) (drop header bytes); spelled = begins.spelled; fits = small; len = sound; bytes = rw (← k) (take-add header (number % 0x2000) bytes) })
      ]
    ]

opus_found_by : (bytes : List ℕ) (read : Option (ℕ × ℕ)) (len : ℕ) → IsBytes bytes → word_at bytes ≡ read → opus_len_by bytes read ≡ Some len → (len ≤ length bytes) × IsOpus (take len bytes)
opus_found_by bytes None len fits is e = absurd cc
opus_found_by bytes (Some found) len fits is e = opus_found bytes found.0 found.1 len (word_at-found bytes found.0 found.1 fits is) e

opus_len-found : (bytes : List ℕ) (len : ℕ) → IsBytes bytes → opus_len bytes ≡ Some len → (len ≤ length bytes) × IsOpus (take len bytes)
unfolding opus_len
opus_len-found bytes len fits e = opus_found_by bytes (word_at bytes) len fits refl e

-- ---- every kind

pub audio_len-spelled : {kind : ℕ} {audio : List ℕ} → IsAudio kind audio → (rest : List ℕ) → audio_len kind (audio ++ rest) ≡ Some (length audio)
unfolding audio_len
audio_len-spelled (IsAudio.celt_alpha audio s) rest = segments_len-spelled s rest
audio_len-spelled (IsAudio.speex audio s) rest = segments_len-spelled s rest
audio_len-spelled (IsAudio.celt_beta audio s) rest = segments_len-spelled s rest
audio_len-spelled (IsAudio.opus audio o) rest = opus_len-spelled o rest

is_audio_kind-above : (kind : ℕ) → 4 < kind → is_audio_kind kind ≡ false
is_audio_kind-above kind lt = rw (ne_eqb kind 0 (omega arith), ne_eqb kind 2 (omega arith), ne_eqb kind 3 (omega arith), ne_eqb kind 4 (omega arith)) refl

pub audio_len-found : (kind : ℕ) (bytes : List ℕ) (len : ℕ) → is_audio_kind kind ≡ true → IsBytes bytes → audio_len kind bytes ≡ Some len → (len ≤ length bytes) × IsAudio kind (take len bytes)
unfolding audio_len
audio_len-found zero bytes len known fits e = let s = segments_len-found bytes len fits e in (s.0, IsAudio.celt_alpha (take len bytes) s.1)
audio_len-found (suc zero) bytes len known fits e = absurd cc
audio_len-found (suc (suc zero)) bytes len known fits e = let s = segments_len-found bytes len fits e in (s.0, IsAudio.speex (take len bytes) s.1)
audio_len-found (suc (suc (suc zero))) bytes len known fits e = let s = segments_len-found bytes len fits e in (s.0, IsAudio.celt_beta (take len bytes) s.1)
audio_len-found (suc (suc (suc (suc zero)))) bytes len known fits e = let s = opus_len-found bytes len fits e in (s.0, IsAudio.opus (take len bytes) s.1)
audio_len-found (suc (suc (suc (suc (suc kind))))) bytes len known fits e = absurd (let none = is_audio_kind-above (suc (suc (suc (suc (suc kind))))) (omega arith) in cc)

pub kind-known : {kind : ℕ} {audio : List ℕ} → IsAudio kind audio → (is_audio_kind kind ≡ true) × (kind ≤ 4)
kind-known (IsAudio.celt_alpha audio s) = (refl, lit≤ tt)
kind-known (IsAudio.speex audio s) = (refl, lit≤ tt)
kind-known (IsAudio.celt_beta audio s) = (refl, lit≤ tt)
kind-known (IsAudio.opus audio o) = (refl, lit≤ tt)
