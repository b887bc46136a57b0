-- A packet's parts and its first fault, as a function and by the rules.
use Rattle.mum_voice.proofs.Common.{◌≡◌, ℕ, ◌+◌, ◌*◌, ◌/◌, ◌%◌, ◌^◌, ◌<◌, ◌≤◌, Bool, true, false, List, [], ◌∷◌, ◌++◌, length, take, drop, Option, Some, None, Result, Ok, Err, refl, sym, ap, subst, ◌∙◌, append_assoc, arith, inl, inr, IfOk, IsNone, cases_lt, le-ltb, lt-ltb, take_at, drop_at, take-append-drop, BadVoice, Packet, BeginsWith, BeginsWithNone, word_at, PACKET_LIMIT, Parts, plain_parts, parsed, IsAudio, IsPacket, client_bytes, bad_length, bad_type, bad_varint, bad_audio, is_audio_kind, IsHeader, HasNoAudio, HasVoiceFault, audio_len, packet_by_audio, packet_by_sequence, packet}
use Rattle.mum_voice.proofs.{Spelling.IsBytes, Spelling.IsBytes-rest, Spelling.IsBytes-drop, Spelling.word_at-spelled, Spelling.word_at-found, Spelling.word_at-begins, Spelling.begins_none, Spelling.none_begins, AudioLength.audio_len-spelled, AudioLength.audio_len-found, AudioLength.kind-known}

-- ---- the first tests

packet_long : (header : ℕ) (bytes : List ℕ) → PACKET_LIMIT < length bytes + 1 → packet (header ∷ bytes) ≡ Err bad_length
unfolding packet
packet_long header bytes lt = rw (lt-ltb _ _ lt) refl

packet_unknown : (header : ℕ) (bytes : List ℕ) → length bytes + 1 ≤ PACKET_LIMIT → is_audio_kind (header / 2 ^ 5) ≡ false → packet (header ∷ bytes) ≡ Err bad_type
unfolding packet
packet_unknown header bytes le unknown = rw (le-ltb _ _ le, unknown) refl

packet_known : (header : ℕ) (bytes : List ℕ) → length bytes + 1 ≤ PACKET_LIMIT → is_audio_kind (header / 2 ^ 5) ≡ true → packet (header ∷ bytes) ≡ packet_by_sequence header bytes (word_at bytes)
unfolding packet
packet_known header bytes le known = rw (le-ltb _ _ le, known) refl

err_is : (e f : BadVoice) → ◌≡◌ {A = Result Parts BadVoice} (Err e) (Err f) → e ≡ f
err_is e f h = cc

ok_is : (p q : Parts) → ◌≡◌ {A = Result Parts BadVoice} (Ok p) (Ok q) → p ≡ q
ok_is p q h = cc

-- ---- what the grammar has is read

-- the parts that are so in the bytes
made : ℕ → ℕ → List ℕ → List ℕ → List ℕ → Parts
made kind target sequence audio position = record { kind = kind; target = target; sequence = sequence; audio = audio; position = position }

by_audio : (header kind target : ℕ) (sequence audio position : List ℕ) → header / 2 ^ 5 ≡ kind → header % 2 ^ 5 ≡ target
    → packet_by_audio header sequence (audio ++ position) (Some (length audio)) ≡ Ok (made kind target sequence audio position)
unfolding made
by_audio header kind target sequence audio position k t = rw (k, t, take_at audio position (length audio) refl, drop_at audio position (length audio) refl) refl

by_sequence : (header number kind target : ℕ) (sequence audio position : List ℕ) → header / 2 ^ 5 ≡ kind → header % 2 ^ 5 ≡ target → IsAudio kind audio
    → packet_by_sequence header (sequence ++ (audio ++ position)) (Some (number, length sequence)) ≡ Ok (made kind target sequence audio position)
by_sequence header number kind target sequence audio position k t is =
    let len : audio_len (header / 2 ^ 5) (audio ++ position) ≡ Some (length audio) = rw k (audio_len-spelled is position) in
    rw (take_at sequence (audio ++ position) (length sequence) refl, drop_at sequence (audio ++ position) (length sequence) refl, len) (by_audio header kind target sequence audio position k t)

pub packet-spelled : (p : Parts) → IsPacket p → packet (client_bytes p) ≡ Ok p
unfolding made
packet-spelled p is =
    let header = p.kind * 2 ^ 5 + p.target in
    let target = is.target in
    let k : (p.kind * 2 ^ 5 + p.target) / 2 ^ 5 ≡ p.kind = omega arith in
    let t : (p.kind * 2 ^ 5 + p.target) % 2 ^ 5 ≡ p.target = omega arith in
    let whole : (p.sequence ++ p.audio) ++ p.position ≡ p.sequence ++ (p.audio ++ p.position) = append_assoc p.sequence p.audio p.position in
    let known : is_audio_kind (header / 2 ^ 5) ≡ true = rw k (kind-known is.audio).0 in
    let read : word_at ((p.sequence ++ p.audio) ++ p.position) ≡ Some (is.number, length p.sequence) = ap word_at whole ∙ word_at-spelled is.sequence (p.audio ++ p.position) in
    packet_known header ((p.sequence ++ p.audio) ++ p.position) (omega (arith, is.fits)) known
    ∙ ap (packet_by_sequence header ((p.sequence ++ p.audio) ++ p.position)) read
    ∙ ap (λ (bytes : List ℕ). packet_by_sequence header bytes (Some (is.number, length p.sequence))) whole
    ∙ by_sequence header is.number p.kind p.target p.sequence p.audio p.position k t is.audio

-- ---- what is read is in the grammar

found_by_audio : (header number len : ℕ) (bytes : List ℕ) (p : Parts) (read : Option ℕ) → length bytes + 1 ≤ PACKET_LIMIT → is_audio_kind (header / 2 ^ 5) ≡ true → IsBytes bytes
    → BeginsWith bytes number len → audio_len (header / 2 ^ 5) (drop len bytes) ≡ read → packet_by_audio header (take len bytes) (drop len bytes) read ≡ Ok p → IsPacket p × (header ∷ bytes ≡ client_bytes p)
found_by_audio header number len bytes p None le known fits begins is e = absurd cc
found_by_audio header number len bytes p (Some k) le known fits begins is e =
    let found = audio_len-found (header / 2 ^ 5) (drop len bytes) k known (IsBytes-drop len bytes fits) is in
    let all : (take len bytes ++ take k (drop len bytes)) ++ drop k (drop len bytes) ≡ bytes =
    append_assoc (take len bytes) (take k (drop len bytes)) (drop k (drop len bytes)) ∙ ap (λ (r : List ℕ). take len bytes ++ r) (take-append-drop k (drop len bytes)) ∙ take-append-drop len bytes in
    let first : header / 2 ^ 5 * 2 ^ 5 + header % 2 ^ 5 ≡ header = omega arith in
    let q : Parts = record { kind = header / 2 ^ 5; target = header % 2 ^ 5; sequence = take len bytes; audio = take k (drop len bytes); position = drop k (drop len bytes) } in
    let whole : header ∷ bytes ≡ client_bytes q = rw (first, all) refl in
    let fine : IsPacket q = record { target = omega arith; number = number; sequence = begins.spelled; audio = found.1; fits = omega (arith, ap length whole) } in
    subst (λ (r : Parts). IsPacket r × (header ∷ bytes ≡ client_bytes r)) (ok_is q p e) (fine, whole)

found_by_sequence : (header : ℕ) (bytes : List ℕ) (p : Parts) (read : Option (ℕ × ℕ)) → length bytes + 1 ≤ PACKET_LIMIT → is_audio_kind (header / 2 ^ 5) ≡ true → IsBytes bytes
    → word_at bytes ≡ read → packet_by_sequence header bytes read ≡ Ok p → IsPacket p × (header ∷ bytes ≡ client_bytes p)
found_by_sequence header bytes p None le known fits is e = absurd cc
found_by_sequence header bytes p (Some found) le known fits is e =
    found_by_audio header found.0 found.1 bytes p (audio_len (header / 2 ^ 5) (drop found.1 bytes)) le known fits (word_at-found bytes found.0 found.1 fits is) refl e

found_by_kind : (header : ℕ) (bytes : List ℕ) (p : Parts) (known : Bool) → length bytes + 1 ≤ PACKET_LIMIT → is_audio_kind (header / 2 ^ 5) ≡ known → IsBytes bytes
    → packet (header ∷ bytes) ≡ Ok p → IsPacket p × (header ∷ bytes ≡ client_bytes p)
found_by_kind header bytes p true le is fits e = found_by_sequence header bytes p (word_at bytes) le is fits refl (sym (packet_known header bytes le is) ∙ e)
found_by_kind header bytes p false le is fits e = absurd (let unknown = packet_unknown header bytes le is in cc)

pub packet-found : (bytes : List ℕ) (p : Parts) → IsBytes bytes → packet bytes ≡ Ok p → IsPacket p × (bytes ≡ client_bytes p)
unfolding packet
packet-found [] p fits e = absurd cc
packet-found (header ∷ bytes) p fits e =
    elim (cases_lt PACKET_LIMIT (length bytes + 1)) [
      | inl lt ↦ absurd (let long = packet_long header bytes lt in cc)
      | inr le ↦ found_by_kind header bytes p (is_audio_kind (header / 2 ^ 5)) le refl (IsBytes-rest header bytes fits) e
    ]

-- ---- a fault that is answered is there

fault_by_audio : (header number len : ℕ) (bytes : List ℕ) (fault : BadVoice) (read : Option ℕ) → IsHeader header bytes → BeginsWith bytes number len
    → audio_len (header / 2 ^ 5) (drop len bytes) ≡ read → packet_by_audio header (take len bytes) (drop len bytes) read ≡ Err fault → HasVoiceFault (header ∷ bytes) fault
fault_by_audio header number len bytes fault None is begins none e =
    subst (λ (f : BadVoice). HasVoiceFault (header ∷ bytes) f) (err_is bad_audio fault e) (HasVoiceFault.no_audio header number len bytes is begins (λ audio position a same. absurd (let some = ap (audio_len (header / 2 ^ 5)) same ∙ audio_len-spelled a position in cc)))
fault_by_audio header number len bytes fault (Some k) is begins some e = absurd cc

fault_by_sequence : (header : ℕ) (bytes : List ℕ) (fault : BadVoice) (read : Option (ℕ × ℕ)) → IsHeader header bytes → IsBytes bytes
    → word_at bytes ≡ read → packet_by_sequence header bytes read ≡ Err fault → HasVoiceFault (header ∷ bytes) fault
fault_by_sequence header bytes fault None is fits none e =
    subst (λ (f : BadVoice). HasVoiceFault (header ∷ bytes) f) (err_is bad_varint fault e) (HasVoiceFault.no_sequence header bytes is (begins_none bytes None none refl))
fault_by_sequence header bytes fault (Some found) is fits some e =
    fault_by_audio header found.0 found.1 bytes fault (audio_len (header / 2 ^ 5) (drop found.1 bytes)) is (word_at-found bytes found.0 found.1 fits some) refl e

fault_by_kind : (header : ℕ) (bytes : List ℕ) (fault : BadVoice) (known : Bool) → length bytes + 1 ≤ PACKET_LIMIT → is_audio_kind (header / 2 ^ 5) ≡ known → IsBytes bytes
    → packet (header ∷ bytes) ≡ Err fault → HasVoiceFault (header ∷ bytes) fault
fault_by_kind header bytes fault true le is fits e = fault_by_sequence header bytes fault (word_at bytes) (record { fits = le; known = is }) fits refl (sym (packet_known header bytes le is) ∙ e)
fault_by_kind header bytes fault false le is fits e =
    subst (λ (f : BadVoice). HasVoiceFault (header ∷ bytes) f) (err_is bad_type fault (sym (packet_unknown header bytes le is) ∙ e)) (HasVoiceFault.unknown_kind header bytes le is)

pub fault-found : (bytes : List ℕ) (fault : BadVoice) → IsBytes bytes → packet bytes ≡ Err fault → HasVoiceFault bytes fault
unfolding packet
fault-found [] fault fits e = subst (λ (f : BadVoice). HasVoiceFault [] f) (err_is bad_length fault e) HasVoiceFault.empty
fault-found (header ∷ bytes) fault fits e =
    elim (cases_lt PACKET_LIMIT (length bytes + 1)) [
      | inl lt ↦ subst (λ (f : BadVoice). HasVoiceFault (header ∷ bytes) f) (err_is bad_length fault (sym (packet_long header bytes lt) ∙ e)) (HasVoiceFault.too_long (header ∷ bytes) (omega arith))
      | inr le ↦ fault_by_kind header bytes fault (is_audio_kind (header / 2 ^ 5)) le refl (IsBytes-rest header bytes fits) e
    ]

-- ---- a fault that is there is answered

nothing_read : (bytes : List ℕ) → IsBytes bytes → BeginsWithNone bytes → word_at bytes ≡ None
nothing_read bytes fits none = is_nothing (word_at bytes) (none_begins bytes (word_at bytes) fits refl none)
  where
    is_nothing : (read : Option (ℕ × ℕ)) → IsNone read → read ≡ None
    is_nothing None none = refl
    is_nothing (Some found) none = absurd cc

no_audio_read : (kind : ℕ) (bytes : List ℕ) (read : Option ℕ) → is_audio_kind kind ≡ true → IsBytes bytes → audio_len kind bytes ≡ read → HasNoAudio kind bytes → read ≡ None
no_audio_read kind bytes None known fits is none = refl
no_audio_read kind bytes (Some len) known fits is none =
    let found = audio_len-found kind bytes len known fits is in
    absurd (none (take len bytes) (drop len bytes) found.1 (sym (take-append-drop len bytes)))

pub fault-there : {bytes : List ℕ} {fault : BadVoice} → IsBytes bytes → HasVoiceFault bytes fault → packet bytes ≡ Err fault
unfolding packet
fault-there fits HasVoiceFault.empty = refl
fault-there fits (HasVoiceFault.too_long [] lt) = absurd (omega arith)
fault-there fits (HasVoiceFault.too_long (header ∷ bytes) lt) = packet_long header bytes (omega arith)
fault-there fits (HasVoiceFault.unknown_kind header bytes le unknown) = packet_unknown header bytes le unknown
fault-there fits (HasVoiceFault.no_sequence header bytes is none) =
    packet_known header bytes is.fits is.known ∙ ap (packet_by_sequence header bytes) (nothing_read bytes (IsBytes-rest header bytes fits) none)
fault-there fits (HasVoiceFault.no_audio header number len bytes is begins none) =
    packet_known header bytes is.fits is.known
    ∙ ap (packet_by_sequence header bytes) (word_at-begins bytes number len begins)
    ∙ ap (packet_by_audio header (take len bytes) (drop len bytes))
    (no_audio_read (header / 2 ^ 5) (drop len bytes) (audio_len (header / 2 ^ 5) (drop len bytes)) is.known (IsBytes-drop len bytes (IsBytes-rest header bytes fits)) refl none)

pub is_proper : (bytes : List ℕ) (r : Result Packet BadVoice) → IsBytes bytes → parsed r ≡ packet bytes → IfOk r (λ p. IsPacket (plain_parts p))
is_proper bytes (Ok p) fits is = (packet-found bytes (plain_parts p) fits (sym is)).0
is_proper bytes (Err e) fits is = tt
