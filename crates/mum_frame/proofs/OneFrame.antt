-- Bytes that are one frame.
use Rattle.mum_frame.proofs.Common.{◌≡◌, ℕ, ◌+◌, ◌-◌, ◌<◌, ◌≤◌, ◌==◌, true, List, [], ◌++◌, length, take, drop, get_or, refl, sym, ap, ◌∙◌, arith, length-drop, nat_le, and_parts, and_from, eqb-true, eq-eqb, leb-true, le-leb, append-nil, drop_all, take_rest, length-take-le, big_number, HEADER_LENGTH, PAYLOAD_LIMIT, Frame, frame_spelling, IsFrame, IsOneFrame, is_one_frame, kind_of, named_length, payload_of}
use Rattle.mum_frame.proofs.Headers.{drop-header, kind-reads_back, length-reads_back, length-spelling_of, whole_is}

-- the type and the payload are read back
pub kind_of-spelling : (frame : Frame) → IsFrame frame → kind_of (frame_spelling frame) ≡ frame.kind
unfolding kind_of
kind_of-spelling frame is =
    ap (big_number 2) (sym (append-nil (frame_spelling frame))) ∙ kind-reads_back frame.kind frame.payload [] is.kind_fits

pub payload_of-spelling : (frame : Frame) → payload_of (frame_spelling frame) ≡ frame.payload
unfolding payload_of
payload_of-spelling frame =
    ap (drop HEADER_LENGTH) (sym (append-nil (frame_spelling frame))) ∙ (drop-header frame.kind frame.payload [] ∙ append-nil frame.payload)

-- a frame's header names what follows it
pub one_frame-tested : (bytes : List ℕ) → IsOneFrame bytes → is_one_frame bytes ≡ true
one_frame-tested bytes one =
    let frame = one.0 in
    let limit = one.1.within_limit in
    let long : length bytes ≡ HEADER_LENGTH + length frame.payload = ap length one.2 ∙ length-spelling_of frame.kind frame.payload in
    let whole : bytes ≡ frame_spelling frame ++ [] = one.2 ∙ sym (append-nil (frame_spelling frame)) in
    let named : named_length bytes ≡ length frame.payload = ap named_length whole ∙ length-reads_back frame.kind frame.payload [] limit in
    and_from (length bytes == HEADER_LENGTH + named_length bytes) (nat_le (named_length bytes) PAYLOAD_LIMIT)
    (eq-eqb (length bytes) (HEADER_LENGTH + named_length bytes) (omega arith))
    (le-leb (named_length bytes) PAYLOAD_LIMIT (omega arith))

-- a frame that nothing follows
pub alone_is : (bytes : List ℕ) (frame : Frame) → IsFrame frame × (bytes ≡ frame_spelling frame ++ drop (HEADER_LENGTH + length frame.payload) bytes)
    → length bytes ≤ HEADER_LENGTH + length frame.payload → bytes ≡ frame_spelling frame
alone_is bytes frame begun short =
    let behind : drop (HEADER_LENGTH + length frame.payload) bytes ≡ [] = drop_all (HEADER_LENGTH + length frame.payload) bytes short in
    begun.1 ∙ ap (λ (xs : List ℕ). frame_spelling frame ++ xs) behind ∙ append-nil (frame_spelling frame)

-- what a header names the length of is a frame
pub one_frame-found : (bytes : List ℕ) → ((k : ℕ) → get_or bytes k 0 < 256) → is_one_frame bytes ≡ true → IsOneFrame bytes
one_frame-found bytes small tested =
    let parts = and_parts (length bytes == HEADER_LENGTH + named_length bytes) (nat_le (named_length bytes) PAYLOAD_LIMIT) tested in
    let long : length bytes ≡ HEADER_LENGTH + named_length bytes = eqb-true (length bytes) (HEADER_LENGTH + named_length bytes) parts.0 in
    let limit : named_length bytes ≤ PAYLOAD_LIMIT = leb-true (named_length bytes) PAYLOAD_LIMIT parts.1 in
    let payload : List ℕ = take (named_length bytes) (take (length bytes - HEADER_LENGTH) (drop HEADER_LENGTH bytes)) in
    let high = small 0 in
    let low = small 1 in
    let found = whole_is bytes payload _ (named_length bytes) small refl (omega arith) refl limit (omega arith) refl in
    let size : length payload ≡ named_length bytes =
    ap length (ap (take (named_length bytes)) (take_rest bytes HEADER_LENGTH)) ∙ length-take-le (named_length bytes) (drop HEADER_LENGTH bytes) (omega (arith, length-drop HEADER_LENGTH bytes)) in
    (_, found.0, alone_is bytes _ found (omega arith))
