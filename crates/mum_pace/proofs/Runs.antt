-- A run of bytes, all of one payload or of one header, is its bytes in turn.
use Rattle.mum_pace.proofs.Common.{◌≡◌, ℕ, zero, suc, ◌+◌, ◌-◌, ◌<◌, ◌≤◌, ◌&&◌, ◌||◌, nat_lt, Bool, true, false, List, [], ◌∷◌, ◌++◌, length, take, drop, refl, sym, ap, subst, ◌∙◌, append_assoc, append-nil, add_assoc, zero-add, arith, if◌then◌else◌, lt-ltb, eq-eqb, ne_eqb, length-append, drop-length, take-length, Cost, Front, Place, begun, after_header, after_byte_by, after_byte, after_bytes, one_if, is_message, passed, nothing, cost_of_header, cost_of_payload, cost_at_header, cost_by, cost_of, plus, cost_in, is_in_a_ping, goes_on, are_of_pings, pieces_to_come, IsFront, begins_piece, pieces_in}
use Rattle.mum_pace.proofs.OnePiece.{pieces_in-next, pieces_in-grow}

-- ---- sums of costs

pub plus_nothing : (cost : Cost) → plus nothing cost ≡ cost
plus_nothing cost = simp zero-add

pub plus_assoc : (a b c : Cost) → plus a (plus b c) ≡ plus (plus a b) c
plus_assoc a b c = simp add_assoc

-- ---- bytes and more bytes

pub after_bytes-append : (place : Place) (bytes more : List ℕ) → after_bytes place (bytes ++ more) ≡ after_bytes (after_bytes place bytes) more
unfolding after_bytes
after_bytes-append place [] more = refl
after_bytes-append place (byte ∷ bytes) more = after_bytes-append (after_byte place byte) bytes more

pub cost_in-append : (place : Place) (bytes more : List ℕ) → cost_in place (bytes ++ more) ≡ plus (cost_in place bytes) (cost_in (after_bytes place bytes) more)
unfolding after_bytes cost_in
cost_in-append place [] more = sym (plus_nothing (cost_in place more))
cost_in-append place (byte ∷ bytes) more =
    ap (plus (cost_of place byte)) (cost_in-append (after_byte place byte) bytes more)
    ∙ plus_assoc (cost_of place byte) (cost_in (after_byte place byte) bytes) (cost_in (after_bytes (after_byte place byte) bytes) more)

-- ---- one byte

pub in_header : (place : Place) (byte : ℕ) → place.left ≡ 0 → after_byte place byte ≡ after_header place (place.header ++ byte ∷ [])
unfolding after_byte_by
in_header place byte e = ap (λ (left : ℕ). after_byte_by left place byte) e

pub in_payload : (place : Place) (byte left : ℕ) → place.left ≡ suc left → after_byte place byte ≡ record place { left = left }
unfolding after_byte_by
in_payload place byte left e = ap (λ (n : ℕ). after_byte_by n place byte) e

pub cost_in_header : (place : Place) (byte : ℕ) → place.left ≡ 0 → cost_of place byte ≡ cost_at_header (place.header ++ byte ∷ [])
unfolding cost_by
cost_in_header place byte e = ap (λ (left : ℕ). cost_by left place byte) e

pub cost_in_payload : (place : Place) (byte left : ℕ) → place.left ≡ suc left → cost_of place byte ≡ cost_of_payload place
unfolding cost_by
cost_in_payload place byte left e = ap (λ (n : ℕ). cost_by n place byte) e

pub header_goes_on : (place : Place) (header : List ℕ) → length header < 6 → after_header place header ≡ record place { header = header }
unfolding after_header
header_goes_on place header lt = rw (ne_eqb (length header) 6 (omega arith)) refl

pub header_ends : (place : Place) (header : List ℕ) → length header ≡ 6 → after_header place header ≡ begun header
unfolding after_header
header_ends place header e = rw (eq-eqb (length header) 6 e) refl

pub cost_goes_on : (header : List ℕ) → length header < 6 → cost_at_header header ≡ nothing
unfolding cost_at_header
cost_goes_on header lt = rw (ne_eqb (length header) 6 (omega arith)) refl

pub cost_ends : (header : List ℕ) → length header ≡ 6 → cost_at_header header ≡ cost_of_header (begun header).kind
unfolding cost_at_header
cost_ends header e = rw (eq-eqb (length header) 6 e) refl

-- ---- runs of a payload

-- the pieces of a run: that of its first byte, and those of the rest
pub pieces-next : (place : Place) (left count : ℕ) → place.left ≡ suc left → place.left ≤ place.payload
    → pieces_to_come place (suc count) ≡ (cost_of_payload place).messages + pieces_to_come (record place { left = left }) count
pieces-next place left count e within =
    elim (is_message place.kind) as (λ m. (if m then pieces_in (passed place + suc count) - pieces_in (passed place) else 0)
    ≡ one_if (m && begins_piece (passed place)) + (if m then pieces_in (place.payload - left + 6 + count) - pieces_in (place.payload - left + 6) else 0)) [
      | true ↦
          let p : ℕ = passed place in
          let here : place.payload - left + 6 ≡ p + 1 = omega arith in
          let there : p + suc count ≡ p + 1 + count = omega arith in
          let grown = pieces_in-grow (p + 1) (p + 1 + count) (omega arith) in
          let next = pieces_in-next p in
          rw (here, there) (omega arith)
      | false ↦ refl
    ]

payload_place : (count rest : ℕ) (place : Place) (bytes : List ℕ) → place.left ≡ count + rest → count ≤ length bytes
    → after_bytes place bytes ≡ after_bytes (record place { left = rest }) (drop count bytes)
unfolding after_bytes
payload_place zero rest place bytes e le = ap (λ (left : ℕ). after_bytes (record place { left = left }) bytes) (e ∙ zero-add rest)
payload_place (suc count) rest place [] e le = absurd (omega arith)
payload_place (suc count) rest place (byte ∷ bytes) e le =
    let one = in_payload place byte (count + rest) (omega arith) in
    ap (λ (next : Place). after_bytes next bytes) one
    ∙ payload_place count rest (record place { left = count + rest }) bytes refl (omega arith)

pub pieces-none : (place : Place) → pieces_to_come place 0 ≡ 0
pieces-none place =
    elim (is_message place.kind) as (λ m. (if m then pieces_in (passed place + 0) - pieces_in (passed place) else 0) ≡ 0) [
      | true ↦ let e : passed place + 0 ≡ passed place = omega arith in rw e (omega arith)
      | false ↦ refl
    ]

-- what n pieces cost
abbrev pub cost_of_pieces : ℕ → Cost
cost_of_pieces pieces = record { frames = 0; messages = pieces; voice = 0 }

payload_cost : (count rest : ℕ) (place : Place) (bytes : List ℕ) → place.left ≡ count + rest → place.left ≤ place.payload → count ≤ length bytes
    → cost_in place bytes ≡ plus (cost_of_pieces (pieces_to_come place count)) (cost_in (record place { left = rest }) (drop count bytes))
unfolding cost_in
payload_cost zero rest place bytes e within le =
    ap (λ (left : ℕ). cost_in (record place { left = left }) bytes) (e ∙ zero-add rest)
    ∙ sym (plus_nothing (cost_in (record place { left = rest }) bytes))
    ∙ ap (λ (n : ℕ). plus (cost_of_pieces n) (cost_in (record place { left = rest }) bytes)) (sym (pieces-none place))
payload_cost (suc count) rest place [] e within le = absurd (omega arith)
payload_cost (suc count) rest place (byte ∷ bytes) e within le =
    let is : place.left ≡ suc (count + rest) = omega arith in
    let after : Place = record place { left = count + rest } in
    let behind : Cost = cost_in (record place { left = rest }) (drop count bytes) in
    let one = in_payload place byte (count + rest) is in
    let cost = cost_in_payload place byte (count + rest) is in
    let more = payload_cost count rest after bytes refl (omega arith) (omega arith) in
    ap (λ (next : Place). plus (cost_of place byte) (cost_in next bytes)) one
    ∙ ap (λ (c : Cost). plus c (cost_in after bytes)) cost
    ∙ ap (plus (cost_of_payload place)) more
    ∙ plus_assoc (cost_of_payload place) (cost_of_pieces (pieces_to_come after count)) behind
    ∙ ap (λ (n : ℕ). plus (cost_of_pieces n) behind) (sym (pieces-next place (count + rest) count is within))

twice : (a b : Bool) → (a && (a && b)) ≡ (a && b)
twice true b = refl
twice false b = refl

-- a byte of a payload is of what its frame is
payload_ping : (place : Place) (byte left : ℕ) (bytes : List ℕ) → place.left ≡ suc left → place.header ≡ []
    → are_of_pings place (byte ∷ bytes) ≡ (is_in_a_ping place && are_of_pings (record place { left = left }) bytes)
unfolding are_of_pings
payload_ping place byte left bytes e apart =
    let one = in_payload place byte left e in
    ap (λ (next : Place). (goes_on next bytes || is_in_a_ping next) && are_of_pings next bytes) one
    ∙ ap (λ (header : List ℕ). (goes_on (record place { header = header; left = left }) bytes || is_in_a_ping place) && are_of_pings (record place { left = left }) bytes) apart

payload_pings : (count rest : ℕ) (place : Place) (bytes : List ℕ) → place.left ≡ suc count + rest → place.header ≡ [] → suc count ≤ length bytes
    → are_of_pings place bytes ≡ (is_in_a_ping place && are_of_pings (record place { left = rest }) (drop (suc count) bytes))
payload_pings count rest place [] e apart le = absurd (omega arith)
payload_pings zero rest place (byte ∷ bytes) e apart le = payload_ping place byte rest bytes (omega arith) apart
payload_pings (suc count) rest place (byte ∷ bytes) e apart le =
    payload_ping place byte (suc count + rest) bytes (omega arith) apart
    ∙ ap (λ (b : Bool). is_in_a_ping place && b) (payload_pings count rest (record place { left = suc count + rest }) bytes refl apart (omega arith))
    ∙ twice (is_in_a_ping place) (are_of_pings (record place { left = rest }) (drop (suc count) bytes))

-- ---- runs of a header

-- n more bytes of the next header
abbrev pub gathered : Place → List ℕ → Place
gathered place header = record place { header = header }

more_of_header : (header : List ℕ) (byte count : ℕ) (bytes : List ℕ) → (header ++ byte ∷ []) ++ take count bytes ≡ header ++ take (suc count) (byte ∷ bytes)
more_of_header header byte count bytes = append_assoc header (byte ∷ []) (take count bytes)

pub length-push : (header : List ℕ) (byte : ℕ) → length (header ++ byte ∷ []) ≡ length header + 1
length-push header byte = length-append header (byte ∷ [])

nothing_more : (place : Place) → gathered place (place.header ++ []) ≡ place
nothing_more place = ap (gathered place) (append-nil place.header)

header_place : (count : ℕ) (place : Place) (bytes : List ℕ) → place.left ≡ 0 → length place.header + count < 6 → count ≤ length bytes
    → after_bytes place bytes ≡ after_bytes (gathered place (place.header ++ take count bytes)) (drop count bytes)
unfolding after_bytes
header_place zero place bytes e lt le = ap (λ (next : Place). after_bytes next bytes) (sym (nothing_more place))
header_place (suc count) place [] e lt le = absurd (omega arith)
header_place (suc count) place (byte ∷ bytes) e lt le =
    let n = length-push place.header byte in
    let one = in_header place byte e ∙ header_goes_on place (place.header ++ byte ∷ []) (omega arith) in
    ap (λ (next : Place). after_bytes next bytes) one
    ∙ header_place count (gathered place (place.header ++ byte ∷ [])) bytes e (omega arith) (omega arith)
    ∙ ap (λ (header : List ℕ). after_bytes (gathered place header) (drop count bytes)) (more_of_header place.header byte count bytes)

header_cost : (count : ℕ) (place : Place) (bytes : List ℕ) → place.left ≡ 0 → length place.header + count < 6 → count ≤ length bytes
    → cost_in place bytes ≡ cost_in (gathered place (place.header ++ take count bytes)) (drop count bytes)
unfolding cost_in
header_cost zero place bytes e lt le = ap (λ (next : Place). cost_in next bytes) (sym (nothing_more place))
header_cost (suc count) place [] e lt le = absurd (omega arith)
header_cost (suc count) place (byte ∷ bytes) e lt le =
    let n = length-push place.header byte in
    let one = in_header place byte e ∙ header_goes_on place (place.header ++ byte ∷ []) (omega arith) in
    let cost = cost_in_header place byte e ∙ cost_goes_on (place.header ++ byte ∷ []) (omega arith) in
    let next : Place = gathered place (place.header ++ byte ∷ []) in
    ap (λ (c : Cost). plus c (cost_in (after_byte place byte) bytes)) cost
    ∙ plus_nothing (cost_in (after_byte place byte) bytes)
    ∙ ap (λ (after : Place). cost_in after bytes) one
    ∙ header_cost count next bytes e (omega arith) (omega arith)
    ∙ ap (λ (header : List ℕ). cost_in (gathered place header) (drop count bytes)) (more_of_header place.header byte count bytes)

-- all but the last byte of a header, and that one: a frame begins
last_of_header : (place : Place) (byte : ℕ) → place.left ≡ 0 → length place.header ≡ 5 → after_byte place byte ≡ begun (place.header ++ byte ∷ [])
last_of_header place byte e five =
    let n = length-push place.header byte in
    in_header place byte e ∙ header_ends place (place.header ++ byte ∷ []) (omega arith)

ended_place : (count : ℕ) (place : Place) (bytes : List ℕ) → place.left ≡ 0 → length place.header + suc count ≡ 6 → suc count ≤ length bytes
    → after_bytes place bytes ≡ after_bytes (begun (place.header ++ take (suc count) bytes)) (drop (suc count) bytes)
unfolding after_bytes
ended_place count place [] e six le = absurd (omega arith)
ended_place zero place (byte ∷ bytes) e six le =
    ap (λ (next : Place). after_bytes next bytes) (last_of_header place byte e (omega arith))
ended_place (suc count) place (byte ∷ bytes) e six le =
    let n = length-push place.header byte in
    let one = in_header place byte e ∙ header_goes_on place (place.header ++ byte ∷ []) (omega arith) in
    ap (λ (next : Place). after_bytes next bytes) one
    ∙ ended_place count (gathered place (place.header ++ byte ∷ [])) bytes e (omega arith) (omega arith)
    ∙ ap (λ (header : List ℕ). after_bytes (begun header) (drop (suc count) bytes)) (more_of_header place.header byte (suc count) bytes)

ended_cost : (count : ℕ) (place : Place) (bytes : List ℕ) → place.left ≡ 0 → length place.header + suc count ≡ 6 → suc count ≤ length bytes
    → cost_in place bytes ≡ plus (cost_of_header (begun (place.header ++ take (suc count) bytes)).kind) (cost_in (begun (place.header ++ take (suc count) bytes)) (drop (suc count) bytes))
unfolding cost_in
ended_cost count place [] e six le = absurd (omega arith)
ended_cost zero place (byte ∷ bytes) e six le =
    let n = length-push place.header byte in
    let cost = cost_in_header place byte e ∙ cost_ends (place.header ++ byte ∷ []) (omega arith) in
    ap (λ (next : Place). plus (cost_of place byte) (cost_in next bytes)) (last_of_header place byte e (omega arith))
    ∙ ap (λ (c : Cost). plus c (cost_in (begun (place.header ++ byte ∷ [])) bytes)) cost
ended_cost (suc count) place (byte ∷ bytes) e six le =
    let n = length-push place.header byte in
    let one = in_header place byte e ∙ header_goes_on place (place.header ++ byte ∷ []) (omega arith) in
    let cost = cost_in_header place byte e ∙ cost_goes_on (place.header ++ byte ∷ []) (omega arith) in
    let next : Place = gathered place (place.header ++ byte ∷ []) in
    ap (λ (c : Cost). plus c (cost_in (after_byte place byte) bytes)) cost
    ∙ plus_nothing (cost_in (after_byte place byte) bytes)
    ∙ ap (λ (after : Place). cost_in after bytes) one
    ∙ ended_cost count next bytes e (omega arith) (omega arith)
    ∙ ap (λ (header : List ℕ). plus (cost_of_header (begun header).kind) (cost_in (begun header) (drop (suc count) bytes))) (more_of_header place.header byte (suc count) bytes)

-- a byte of a header that goes on says nothing
silent_byte : (place : Place) (byte next : ℕ) (bytes : List ℕ) → place.left ≡ 0 → length place.header + 1 < 6
    → are_of_pings place (byte ∷ next ∷ bytes) ≡ are_of_pings (gathered place (place.header ++ byte ∷ [])) (next ∷ bytes)
unfolding are_of_pings
silent_byte place byte next bytes e lt =
    let n = length-push place.header byte in
    let one = in_header place byte e ∙ header_goes_on place (place.header ++ byte ∷ []) (omega arith) in
    let after : Place = gathered place (place.header ++ byte ∷ []) in
    let some = lt-ltb 0 (length (place.header ++ byte ∷ [])) (omega arith) in
    let more = lt-ltb 0 (length (next ∷ bytes)) (omega arith) in
    ap (λ (p : Place). (goes_on p (next ∷ bytes) || is_in_a_ping p) && are_of_pings p (next ∷ bytes)) one
    ∙ ap (λ (b : Bool). ((b && nat_lt 0 (length (next ∷ bytes))) || is_in_a_ping after) && are_of_pings after (next ∷ bytes)) some
    ∙ ap (λ (b : Bool). (b || is_in_a_ping after) && are_of_pings after (next ∷ bytes)) more

-- the last byte of what was read, of a header that does not end, is of what the frame before is
lone_byte : (place : Place) (byte : ℕ) → place.left ≡ 0 → length place.header + 1 < 6
    → are_of_pings place (byte ∷ []) ≡ (is_in_a_ping place && true)
unfolding are_of_pings
lone_byte place byte e lt =
    let n = length-push place.header byte in
    let one = in_header place byte e ∙ header_goes_on place (place.header ++ byte ∷ []) (omega arith) in
    let some = lt-ltb 0 (length (place.header ++ byte ∷ [])) (omega arith) in
    ap (λ (p : Place). (goes_on p [] || is_in_a_ping p) && true) one
    ∙ ap (λ (b : Bool). ((b && false) || is_in_a_ping place) && true) some

header_pings : (count : ℕ) (place : Place) (bytes : List ℕ) → place.left ≡ 0 → length place.header + suc count < 6 → suc count ≡ length bytes
    → are_of_pings place bytes ≡ (is_in_a_ping place && true)
header_pings count place [] e lt le = absurd (omega arith)
header_pings zero place (byte ∷ []) e lt le = lone_byte place byte e lt
header_pings zero place (byte ∷ next ∷ bytes) e lt le = absurd (omega arith)
header_pings (suc count) place (byte ∷ []) e lt le = absurd (omega arith)
header_pings (suc count) place (byte ∷ next ∷ bytes) e lt le =
    let n = length-push place.header byte in
    silent_byte place byte next bytes e (omega arith)
    ∙ header_pings count (gathered place (place.header ++ byte ∷ [])) (next ∷ bytes) e (omega arith) (omega arith)

ended_pings : (count : ℕ) (place : Place) (bytes : List ℕ) → place.left ≡ 0 → length place.header + suc count ≡ 6 → suc count ≤ length bytes
    → are_of_pings place bytes ≡ (is_in_a_ping (begun (place.header ++ take (suc count) bytes)) && are_of_pings (begun (place.header ++ take (suc count) bytes)) (drop (suc count) bytes))
unfolding are_of_pings begun
ended_pings count place [] e six le = absurd (omega arith)
ended_pings zero place (byte ∷ bytes) e six le =
    ap (λ (p : Place). (goes_on p bytes || is_in_a_ping p) && are_of_pings p bytes) (last_of_header place byte e (omega arith))
ended_pings (suc count) place (byte ∷ []) e six le = absurd (omega arith)
ended_pings (suc count) place (byte ∷ next ∷ bytes) e six le =
    let n = length-push place.header byte in
    silent_byte place byte next bytes e (omega arith)
    ∙ ended_pings count (gathered place (place.header ++ byte ∷ [])) (next ∷ bytes) e (omega arith) (omega arith)
    ∙ ap (λ (header : List ℕ). is_in_a_ping (begun header) && are_of_pings (begun header) (drop (suc count) (next ∷ bytes))) (more_of_header place.header byte (suc count) (next ∷ bytes))

-- ---- what goes past a run

-- so much of the payload under way
pub IsFront-payload : (place : Place) (read : List ℕ) (count rest : ℕ) → 0 < place.left → place.left ≤ place.payload → place.header ≡ []
    → place.left ≡ count + rest → count ≤ length read → (0 < length read → 0 < count)
    → IsFront place read (record { length = count; cost = cost_of_pieces (pieces_to_come place count) }) (record place { left = rest })
IsFront-payload place read count rest lt within apart e le some =
    record {
      within = le;
      some = some;
      place = payload_place count rest place read e le;
      cost = payload_cost count rest place read e within le;
      pings = λ any.
          let is : count ≡ suc (count - 1) = omega (arith, some any) in
          subst (λ (n : ℕ). place.left ≡ n + rest → n ≤ length read → are_of_pings place read ≡ (is_in_a_ping place && are_of_pings (record place { left = rest }) (drop n read)))
          (sym is) (λ e' le'. payload_pings (count - 1) rest place read e' apart le') e le;
    }

-- what was read of a header that does not end in it
pub IsFront-header : (place : Place) (read : List ℕ) → place.left ≡ 0 → length place.header + length read < 6
    → IsFront place read (record { length = length read; cost = nothing }) (gathered place (place.header ++ read))
unfolding are_of_pings
IsFront-header place read e lt =
    let all : take (length read) read ≡ read = take-length read in
    let none : drop (length read) read ≡ [] = drop-length read in
    record {
      within = omega arith;
      some = λ h. h;
      place = header_place (length read) place read e lt (omega arith) ∙ ap (λ (xs : List ℕ). after_bytes (gathered place (place.header ++ xs)) (drop (length read) read)) all;
      cost = header_cost (length read) place read e lt (omega arith)
          ∙ ap (λ (xs : List ℕ). cost_in (gathered place (place.header ++ xs)) (drop (length read) read)) all
          ∙ sym (plus_nothing (cost_in (gathered place (place.header ++ read)) (drop (length read) read)));
      pings = λ any.
          header_pings (length read - 1) place read e (omega arith) (omega arith)
          ∙ ap (λ (xs : List ℕ). is_in_a_ping place && are_of_pings (gathered place (place.header ++ read)) xs) (sym none);
    }

-- what ends a header
pub IsFront-ended : (place : Place) (read : List ℕ) (count : ℕ) → place.left ≡ 0 → length place.header + count ≡ 6 → length place.header < 6 → count ≤ length read
    → IsFront place read (record { length = count; cost = cost_of_header (begun (place.header ++ take count read)).kind }) (begun (place.header ++ take count read))
IsFront-ended place read zero e six lt le = absurd (omega arith)
IsFront-ended place read (suc count) e six lt le =
    record {
      within = le;
      some = λ _. omega arith;
      place = ended_place count place read e six le;
      cost = ended_cost count place read e six le;
      pings = λ _. ended_pings count place read e six le;
    }

-- ---- the same of a front and a place that are known by equations

is_front : (place : Place) (read : List ℕ) {front other : Front} {new next : Place} → IsFront place read other next → front ≡ other → new ≡ next → IsFront place read front new
is_front place read {front} {other} {new} {next} is e f =
    subst (λ (p : Place). IsFront place read front p) (sym f) (subst (λ (x : Front). IsFront place read x next) (sym e) is)

-- of a payload
pub payload_front : (place new : Place) (read : List ℕ) (front : Front) → 0 < place.left → place.left ≤ place.payload → place.header ≡ []
    → front.length ≤ length read → front.length ≤ place.left → (0 < length read → 0 < front.length)
    → front.cost ≡ cost_of_pieces (pieces_to_come place front.length) → new ≡ record place { left = place.left - front.length } → IsFront place read front new
payload_front place new read front lt within apart le most some cost e =
    is_front place read (IsFront-payload place read front.length (place.left - front.length) lt within apart (omega arith) le some)
    (ap (λ (c : Cost). record { length = front.length; cost = c }) cost) e

-- of a header that does not end
pub header_front : (place new : Place) (read : List ℕ) (front : Front) → place.left ≡ 0 → length place.header + length read < 6
    → front.length ≡ length read → front.cost ≡ nothing → new ≡ gathered place (place.header ++ read) → IsFront place read front new
header_front place new read front left lt len cost e =
    let same : front ≡ record { length = length read; cost = nothing } =
    ap (λ (n : ℕ). record { length = n; cost = front.cost }) len ∙ ap (λ (c : Cost). record { length = length read; cost = c }) cost in
    is_front place read (IsFront-header place read left lt) same e

-- of a header that ends
pub ended_front : (place new : Place) (read : List ℕ) (front : Front) → place.left ≡ 0 → length place.header + front.length ≡ 6 → length place.header < 6
    → front.length ≤ length read → front.cost ≡ cost_of_header new.kind → new ≡ begun (place.header ++ take front.length read) → IsFront place read front new
ended_front place new read front left six lt le cost e =
    let begins = begun (place.header ++ take front.length read) in
    let same : front ≡ record { length = front.length; cost = cost_of_header begins.kind } = ap (λ (c : Cost). record { length = front.length; cost = c }) (cost ∙ ap (λ (p : Place). cost_of_header p.kind) e) in
    is_front place read (IsFront-ended place read front.length left six lt le) same e
