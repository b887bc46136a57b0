-- What a header says of the bytes after it, and that a frame is read back from its encoding.
use Rattle.mum_frame.proofs.Common.{◌≡◌, ℕ, ◌+◌, ◌*◌, ◌/◌, ◌%◌, ◌^◌, ◌-◌, ◌<◌, ◌≤◌, List, [], ◌∷◌, ◌++◌, length, take, drop, get_or, refl, sym, ap, ◌∙◌, arith, length-append, length-drop, drop_at, take_at, take-append-drop, drop-drop, length-take-le, take_rest, big_bytes, big_number, big_number-reads_back, HEADER_LENGTH, PAYLOAD_LIMIT, Frame, frame_spelling, spelling_of, IsFrame, named_length, TooLong, HasNoFrame}

-- the header of a frame, in front of what follows it
pub spelling_of-parts : (kind : ℕ) (payload rest : List ℕ)
    → spelling_of kind payload ++ rest ≡ big_bytes 2 kind ++ (big_bytes 4 (length payload) ++ (payload ++ rest))
unfolding spelling_of
spelling_of-parts kind payload rest = refl

pub length-spelling_of : (kind : ℕ) (payload : List ℕ) → length (spelling_of kind payload) ≡ HEADER_LENGTH + length payload
unfolding spelling_of
length-spelling_of kind payload = omega arith

-- the type is read back
pub kind-reads_back : (kind : ℕ) (payload rest : List ℕ) → kind < 2 ^ 16 → big_number 2 (spelling_of kind payload ++ rest) ≡ kind
kind-reads_back kind payload rest h =
    ap (big_number 2) (spelling_of-parts kind payload rest) ∙ big_number-reads_back 2 kind (big_bytes 4 (length payload) ++ (payload ++ rest)) h

-- the length is read back
pub length-reads_back : (kind : ℕ) (payload rest : List ℕ) → length payload ≤ PAYLOAD_LIMIT
    → named_length (spelling_of kind payload ++ rest) ≡ length payload
unfolding named_length
length-reads_back kind payload rest h =
    ap named_length (spelling_of-parts kind payload rest) ∙ big_number-reads_back 4 (length payload) (payload ++ rest) (omega arith)

-- what follows the header
pub drop-header : (kind : ℕ) (payload rest : List ℕ) → drop HEADER_LENGTH (spelling_of kind payload ++ rest) ≡ payload ++ rest
drop-header kind payload rest = rw (spelling_of-parts kind payload rest) refl

-- bytes that begin with a frame name its length, and have room for it
pub record HasRoom (bytes : List ℕ) : Type 0 where
  pub header : HEADER_LENGTH ≤ length bytes
  pub within_limit : named_length bytes ≤ PAYLOAD_LIMIT
  pub payload : HEADER_LENGTH + named_length bytes ≤ length bytes

pub begun_has_room : (bytes : List ℕ) (frame : Frame) (rest : List ℕ) → IsFrame frame → bytes ≡ frame_spelling frame ++ rest → HasRoom bytes
begun_has_room bytes frame rest is e =
    let named : named_length bytes ≡ length frame.payload = ap named_length e ∙ length-reads_back frame.kind frame.payload rest is.within_limit in
    let whole : length bytes ≡ HEADER_LENGTH + length frame.payload + length rest = ap length e ∙ length-append (frame_spelling frame) rest ∙ ap (λ (n : ℕ). n + length rest) (length-spelling_of frame.kind frame.payload) in
    let limit = is.within_limit in
    record { header = omega arith; within_limit = omega arith; payload = omega arith }

-- a length above the limit begins no frame
pub HasNoFrame-above_limit : (bytes : List ℕ) → TooLong bytes → HasNoFrame bytes
HasNoFrame-above_limit bytes above frame rest is e =
    let room = begun_has_room bytes frame rest is e in
    let named = above.above in
    omega arith

-- nor does less than a header
pub HasNoFrame-no_header : (bytes : List ℕ) → length bytes < HEADER_LENGTH → HasNoFrame bytes
HasNoFrame-no_header bytes short frame rest is e =
    let room = begun_has_room bytes frame rest is e in omega arith

-- nor does less than the named payload
pub HasNoFrame-cut : (bytes : List ℕ) → length bytes < HEADER_LENGTH + named_length bytes → HasNoFrame bytes
HasNoFrame-cut bytes short frame rest is e =
    let room = begun_has_room bytes frame rest is e in omega arith

-- two frames that begin the same bytes are one, and the same follows them
pub spelling-injective : (f g : Frame) (x y : List ℕ) → IsFrame f → IsFrame g → frame_spelling f ++ x ≡ frame_spelling g ++ y → (f ≡ g) × (x ≡ y)
spelling-injective f g x y is_f is_g e =
    let kinds : f.kind ≡ g.kind = sym (kind-reads_back f.kind f.payload x is_f.kind_fits) ∙ ap (big_number 2) e ∙ kind-reads_back g.kind g.payload y is_g.kind_fits in
    let lengths : length f.payload ≡ length g.payload = sym (length-reads_back f.kind f.payload x is_f.within_limit) ∙ ap named_length e ∙ length-reads_back g.kind g.payload y is_g.within_limit in
    let behind : f.payload ++ x ≡ g.payload ++ y = sym (drop-header f.kind f.payload x) ∙ ap (drop HEADER_LENGTH) e ∙ drop-header g.kind g.payload y in
    let payloads : f.payload ≡ g.payload =
    sym (take_at f.payload x (length f.payload) refl) ∙ ap (take (length f.payload)) behind ∙ take_at g.payload y (length f.payload) (sym lengths) in
    let rests : x ≡ y =
    sym (drop_at f.payload x (length f.payload) refl) ∙ ap (drop (length f.payload)) behind ∙ drop_at g.payload y (length f.payload) (sym lengths) in
    let same_kind : f ≡ record f { kind = g.kind } = ap (λ (kind : ℕ). record f { kind = kind }) kinds in
    let same : f ≡ g = same_kind ∙ ap (λ (payload : List ℕ). record g { payload = payload }) payloads in
    (same, rests)

-- two bytes are those of the number that they name
two_bytes-is : (a b : ℕ) (rest : List ℕ) → a < 256 → b < 256 → big_bytes 2 (big_number 2 (a ∷ b ∷ rest)) ≡ a ∷ b ∷ []
two_bytes-is a b rest ha hb =
    let at_a : (a * 256 + (b * 1 + 0)) / 256 % 256 ≡ a = omega arith in
    let at_b : (a * 256 + (b * 1 + 0)) % 256 ≡ b = omega arith in
    cc

-- and so are four
four_bytes-is : (a b c d : ℕ) (rest : List ℕ) → a < 256 → b < 256 → c < 256 → d < 256
    → big_bytes 4 (big_number 4 (a ∷ b ∷ c ∷ d ∷ rest)) ≡ a ∷ b ∷ c ∷ d ∷ []
four_bytes-is a b c d rest ha hb hc hd =
    let at_a : (a * 16777216 + (b * 65536 + (c * 256 + (d * 1 + 0)))) / 16777216 % 256 ≡ a = omega arith in
    let at_b : (a * 16777216 + (b * 65536 + (c * 256 + (d * 1 + 0)))) / 65536 % 256 ≡ b = omega arith in
    let at_c : (a * 16777216 + (b * 65536 + (c * 256 + (d * 1 + 0)))) / 256 % 256 ≡ c = omega arith in
    let at_d : (a * 16777216 + (b * 65536 + (c * 256 + (d * 1 + 0)))) % 256 ≡ d = omega arith in
    cc

-- bytes are the encoding of what their header names, and what follows
pub header_is : (bytes : List ℕ) → ((k : ℕ) → get_or bytes k 0 < 256) → HEADER_LENGTH ≤ length bytes
    → bytes ≡ big_bytes 2 (big_number 2 bytes) ++ (big_bytes 4 (named_length bytes) ++ drop HEADER_LENGTH bytes)
unfolding named_length
header_is (a ∷ b ∷ c ∷ d ∷ e ∷ f ∷ rest) small h =
    let kind = two_bytes-is a b (c ∷ d ∷ e ∷ f ∷ rest) (small 0) (small 1) in
    let named = four_bytes-is c d e f rest (small 2) (small 3) (small 4) (small 5) in
    sym (ap (λ (xs : List ℕ). xs ++ (big_bytes 4 (big_number 4 (c ∷ d ∷ e ∷ f ∷ rest)) ++ rest)) kind
    ∙ ap (λ (xs : List ℕ). a ∷ b ∷ (xs ++ rest)) named)
header_is [] small h = absurd (omega arith)
header_is (a ∷ []) small h = absurd (omega arith)
header_is (a ∷ b ∷ []) small h = absurd (omega arith)
header_is (a ∷ b ∷ c ∷ []) small h = absurd (omega arith)
header_is (a ∷ b ∷ c ∷ d ∷ []) small h = absurd (omega arith)
header_is (a ∷ b ∷ c ∷ d ∷ e ∷ []) small h = absurd (omega arith)

-- bytes with room for what their header names begin with that frame
pub frame_is : (bytes : List ℕ) → ((k : ℕ) → get_or bytes k 0 < 256) → HEADER_LENGTH + named_length bytes ≤ length bytes
    → bytes ≡ spelling_of (big_number 2 bytes) (take (named_length bytes) (drop HEADER_LENGTH bytes)) ++ drop (HEADER_LENGTH + named_length bytes) bytes
frame_is bytes small room =
    let payload : List ℕ = take (named_length bytes) (drop HEADER_LENGTH bytes) in
    let long : length payload ≡ named_length bytes =
    length-take-le (named_length bytes) (drop HEADER_LENGTH bytes) (omega (arith, length-drop HEADER_LENGTH bytes)) in
    let behind : payload ++ drop (HEADER_LENGTH + named_length bytes) bytes ≡ drop HEADER_LENGTH bytes =
    ap (λ (xs : List ℕ). payload ++ xs) (sym (drop-drop (named_length bytes) HEADER_LENGTH bytes))
    ∙ take-append-drop (named_length bytes) (drop HEADER_LENGTH bytes) in
    header_is bytes small (let header : HEADER_LENGTH ≤ length bytes = omega arith in header)
    ∙ ap (λ (n : ℕ). big_bytes 2 (big_number 2 bytes) ++ (big_bytes 4 n ++ drop HEADER_LENGTH bytes)) (sym long)
    ∙ ap (λ (xs : List ℕ). big_bytes 2 (big_number 2 bytes) ++ (big_bytes 4 (length payload) ++ xs)) (sym behind)
    ∙ sym (spelling_of-parts (big_number 2 bytes) payload (drop (HEADER_LENGTH + named_length bytes) bytes))

-- the length, as a read of the bytes from the third on sees it
pub named_length-rest : (bytes : List ℕ) → named_length bytes ≡ big_number 4 (take (length bytes - 2) (drop 2 bytes))
unfolding named_length
named_length-rest bytes = ap (big_number 4) (sym (take_rest bytes 2))

-- bytes with room for the payload that they name begin with a frame
pub whole_is : (bytes payload : List ℕ) (kind named : ℕ) → ((k : ℕ) → get_or bytes k 0 < 256)
    → kind ≡ big_number 2 bytes → kind < 2 ^ 16 → named ≡ named_length bytes → named ≤ PAYLOAD_LIMIT
    → HEADER_LENGTH + named ≤ length bytes → payload ≡ take named (take (length bytes - HEADER_LENGTH) (drop HEADER_LENGTH bytes))
    → let frame : Frame = record { kind = kind; payload = payload } in
    IsFrame frame × (bytes ≡ frame_spelling frame ++ drop (HEADER_LENGTH + length payload) bytes)
whole_is bytes payload kind named small kind_is kind_fits named_is limit room payload_is =
    let shown : payload ≡ take (named_length bytes) (drop HEADER_LENGTH bytes) =
    payload_is ∙ ap (take named) (take_rest bytes HEADER_LENGTH) ∙ ap (λ (n : ℕ). take n (drop HEADER_LENGTH bytes)) named_is in
    let long : length payload ≡ named_length bytes =
    ap length shown ∙ length-take-le (named_length bytes) (drop HEADER_LENGTH bytes) (omega (arith, length-drop HEADER_LENGTH bytes)) in
    let whole : bytes ≡ spelling_of kind payload ++ drop (HEADER_LENGTH + length payload) bytes =
    frame_is bytes small (omega arith)
    ∙ ap (λ (xs : List ℕ). spelling_of (big_number 2 bytes) xs ++ drop (HEADER_LENGTH + named_length bytes) bytes) (sym shown)
    ∙ ap (λ (k : ℕ). spelling_of k payload ++ drop (HEADER_LENGTH + named_length bytes) bytes) (sym kind_is)
    ∙ ap (λ (n : ℕ). spelling_of kind payload ++ drop (HEADER_LENGTH + n) bytes) (sym long) in
    (record { kind_fits = kind_fits; within_limit = omega arith }, whole)
