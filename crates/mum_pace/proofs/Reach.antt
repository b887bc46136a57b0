-- Whatever bytes come, as many as are allowed find room.
use Rattle.mum_pace.proofs.Common.{◌≡◌, ℕ, zero, suc, ◌+◌, ◌-◌, ◌*◌, ◌<◌, ◌≤◌, ◌==◌, ◌&&◌, ◌||◌, not, nat_lt, Bool, true, false, List, [], ◌∷◌, ◌++◌, length, min, refl, sym, ap, subst, ◌∙◌, arith, inl, inr, ◌⊎◌, if◌then◌else◌, cases_lt, cases_eq, cond-true, cond-false, lt-ltb, le-ltb, ne_eqb, Cost, IsPlace, begins_piece, bytes_within, pieces_in, Place, begun, after_byte, after_bytes, one_if, is_message, passed, cost_of_header, cost_of_payload, cost_of, cost_in, length_within, pieces_left, pieces_to_come}
use Rattle.mum_pace.proofs.{Headers.behind, OnePiece.bytes_within-is, OnePiece.pieces_in-is, OnePiece.pieces_in-next, OnePiece.within_is_few, Runs.cost_ends, Runs.cost_goes_on, Runs.cost_in_header, Runs.cost_in_payload, Runs.gathered, Runs.header_ends, Runs.header_goes_on, Runs.in_header, Runs.in_payload, Runs.length-push, Runs.pieces-next, Runs.pieces-none}

-- ---- places

step_place : (left : ℕ) (place : Place) (byte : ℕ) → place.left ≡ left → IsPlace place → IsPlace (after_byte place byte)
unfolding begun
step_place zero place byte e is =
    let n = length-push place.header byte in
    let one = in_header place byte e in
    let header : List ℕ = place.header ++ byte ∷ [] in
    elim (cases_lt (length header) 6) [
      | inl lt ↦ subst IsPlace (sym (one ∙ header_goes_on place header lt))
          (record { unfinished = lt; within = is.within; apart = λ some. absurd (omega arith) })
      | inr le ↦ subst IsPlace (sym (one ∙ header_ends place header (omega (arith, is.unfinished))))
          (record { unfinished = omega arith; within = omega arith; apart = λ _. refl })
    ]
step_place (suc left) place byte e is =
    subst IsPlace (sym (in_payload place byte left e))
    (record { unfinished = is.unfinished; within = omega (arith, is.within); apart = λ _. is.apart (omega arith) })

pub IsPlace-after_byte : (place : Place) (byte : ℕ) → IsPlace place → IsPlace (after_byte place byte)
IsPlace-after_byte place byte is = step_place place.left place byte refl is

pub IsPlace-after_bytes : (place : Place) (bytes : List ℕ) → IsPlace place → IsPlace (after_bytes place bytes)
unfolding after_bytes
IsPlace-after_bytes place [] is = is
IsPlace-after_bytes place (byte ∷ bytes) is = IsPlace-after_bytes (after_byte place byte) bytes (IsPlace-after_byte place byte is)

-- ---- how many bytes surely find room: as many as are allowed, and if no piece is in the way, what may still come of a header that does not end

pub reach : Place → ℕ → ℕ → ℕ
reach place messages voice =
    if nat_lt messages (pieces_left place) then bytes_within (pieces_in (passed place) + messages) - passed place
    else place.left + min (messages - pieces_left place) voice * 6 + (5 - length place.header)

reach_pieces : (place : Place) (messages voice : ℕ) → messages < pieces_left place → reach place messages voice ≡ bytes_within (pieces_in (passed place) + messages) - passed place
unfolding reach
reach_pieces place messages voice lt = cond-true (nat_lt messages (pieces_left place)) _ _ (lt-ltb messages (pieces_left place) lt)

reach_frames : (place : Place) (messages voice : ℕ) → pieces_left place ≤ messages → reach place messages voice ≡ place.left + min (messages - pieces_left place) voice * 6 + (5 - length place.header)
unfolding reach
reach_frames place messages voice le = cond-false (nat_lt messages (pieces_left place)) _ _ (le-ltb messages (pieces_left place) le)

pub within_pieces : (place : Place) (messages voice : ℕ) → messages < pieces_left place → length_within place messages voice ≡ bytes_within (pieces_in (passed place) + messages) - passed place
unfolding length_within
within_pieces place messages voice lt = cond-true (nat_lt messages (pieces_left place)) _ _ (lt-ltb messages (pieces_left place) lt)

pub within_frames : (place : Place) (messages voice : ℕ) → pieces_left place ≤ messages → length_within place messages voice ≡ place.left + min (messages - pieces_left place) voice * 6
unfolding length_within
within_frames place messages voice le = cond-false (nat_lt messages (pieces_left place)) _ _ (le-ltb messages (pieces_left place) le)

pub within_reach : (place : Place) (messages voice : ℕ) → length_within place messages voice ≤ reach place messages voice
within_reach place messages voice =
    elim (cases_lt messages (pieces_left place)) [
      | inl lt ↦ omega (arith, reach_pieces place messages voice lt, within_pieces place messages voice lt)
      | inr le ↦ omega (arith, reach_frames place messages voice le, within_frames place messages voice le)
    ]

-- ---- one byte

-- a byte of this cost has room, and after it at least as many find room as before, without it
abbrev pub HasRoom : ℕ → Cost → Place → ℕ → ℕ → Type 0
HasRoom before cost after messages voice =
    (cost.messages ≤ messages) × (cost.voice ≤ voice) × (before ≤ reach after (messages - cost.messages) (voice - cost.voice) + 1)

-- a payload that is no message's has no pieces
pub no_pieces : (place : Place) (bytes : ℕ) → is_message place.kind ≡ false → pieces_to_come place bytes ≡ 0
no_pieces place bytes e = cond-false (is_message place.kind) _ 0 e

message_pieces : (place : Place) (bytes : ℕ) → is_message place.kind ≡ true → pieces_to_come place bytes ≡ pieces_in (passed place + bytes) - pieces_in (passed place)
message_pieces place bytes e = cond-true (is_message place.kind) _ 0 e

cases_bool : (b : Bool) → (b ≡ true) ⊎ (b ≡ false)
cases_bool true = inl refl
cases_bool false = inr refl

-- of a payload, with the pieces of a message known
module _ (place : Place) (left messages voice : ℕ) (is : IsPlace place) (e : place.left ≡ suc left) where
  abbrev pub after : Place
  after = record place { left = left }

  in_pieces : pieces_left place ≡ (cost_of_payload place).messages + pieces_left after
  in_pieces = ap (pieces_to_come place) e ∙ pieces-next place left left e is.within

  -- all pieces find room
  room_for_all : pieces_left place ≤ messages → HasRoom (reach place messages voice) (cost_of_payload place) after messages voice
  room_for_all le =
      let pieces = in_pieces in
      let here = reach_frames place messages voice le in
      let there = reach_frames after (messages - (cost_of_payload place).messages) (voice - 0) (omega arith) in
      (omega arith, omega arith, omega arith)

  -- not all of them do
  room_for_some : messages < pieces_left place → 0 < reach place messages voice → HasRoom (reach place messages voice) (cost_of_payload place) after messages voice
  room_for_some lt some =
      elim (cases_bool (is_message place.kind)) [
        | inl message ↦
            let p : ℕ = passed place in
            let one = one_piece message in
            let here = reach_pieces place messages voice lt in
            let next = pieces_in-next p in
            let few = within_is_few (p + 1) (pieces_in p + messages) (omega arith) in
            let pieces = in_pieces in
            let there = reach_pieces after (messages - (cost_of_payload place).messages) (voice - 0) (omega arith) in
            let passed_on : passed after ≡ p + 1 = omega (arith, is.within) in
            let same : pieces_in (passed after) + (messages - (cost_of_payload place).messages) ≡ pieces_in p + messages = omega (arith, ap pieces_in passed_on) in
            let there_too = ap bytes_within same in
            (omega arith, omega arith, omega arith)
        | inr other ↦ absurd (omega (arith, no_pieces place place.left other))
      ]
    where
      one_piece : is_message place.kind ≡ true → (cost_of_payload place).messages ≡ (if begins_piece (passed place) then 1 else 0)
      one_piece message = ap (λ (b : Bool). one_if (b && begins_piece (passed place))) message

  pub room_in_payload : 0 < reach place messages voice → HasRoom (reach place messages voice) (cost_of_payload place) after messages voice
  room_in_payload some =
      elim (cases_lt messages (pieces_left place)) [
        | inl lt ↦ room_for_some lt some
        | inr le ↦ room_for_all le
      ]

-- ---- the last byte of a header

-- a frame of this type may begin where a frame of voice and a message find room
abbrev BeginsInRoom : ℕ → ℕ → ℕ → ℕ → Type 0
BeginsInRoom payload messages voice kind = HasRoom (min messages voice * 6) (cost_of_header kind) (behind kind payload) messages voice

free_frame : (payload messages voice kind : ℕ) → 0 < min messages voice → is_message kind ≡ false → one_if (kind == 1) ≤ 1 → BeginsInRoom payload messages voice kind
free_frame payload messages voice kind some other one =
    let none = no_pieces (behind kind payload) payload other in
    let cost : one_if (is_message kind) ≡ 0 = ap one_if other in
    let there = reach_frames (behind kind payload) (messages - one_if (is_message kind)) (voice - one_if (kind == 1)) (omega arith) in
    (omega arith, omega arith, omega arith)

message_frame : (payload messages voice kind : ℕ) → 0 < min messages voice → is_message kind ≡ true → (kind == 1) ≡ false → BeginsInRoom payload messages voice kind
message_frame payload messages voice kind some message other =
    let cost : one_if (is_message kind) ≡ 1 = ap one_if message in
    let no_voice : one_if (kind == 1) ≡ 0 = ap one_if other in
    let begun_here : passed (behind kind payload) ≡ 6 = omega arith in
    let first : pieces_in (passed (behind kind payload)) ≡ 1 = ap pieces_in begun_here ∙ six in
    let more = message_pieces (behind kind payload) payload message in
    let all = pieces_in-is (passed (behind kind payload) + payload) in
    elim (cases_lt (messages - one_if (is_message kind)) (pieces_left (behind kind payload))) [
      | inl lt ↦
          let there = reach_pieces (behind kind payload) (messages - one_if (is_message kind)) (voice - one_if (kind == 1)) lt in
          let same : pieces_in (passed (behind kind payload)) + (messages - one_if (is_message kind)) ≡ messages = omega arith in
          let there_too = ap bytes_within same in
          let long = bytes_within-is messages in
          (omega arith, omega arith, omega arith)
      | inr le ↦
          let there = reach_frames (behind kind payload) (messages - one_if (is_message kind)) (voice - one_if (kind == 1)) le in
          (omega arith, omega arith, omega arith)
    ]
  where
    six : pieces_in 6 ≡ 1
    six = pieces_in-is 6

begins_in_room : (payload messages voice kind : ℕ) → 0 < min messages voice → BeginsInRoom payload messages voice kind
begins_in_room payload messages voice kind some =
    elim (cases_eq kind 1) [
      | inl voice_frame ↦ subst (BeginsInRoom payload messages voice) (sym voice_frame) (free_frame payload messages voice 1 some refl (omega arith))
      | inr not_voice ↦ elim (cases_eq kind 3) [
        | inl ping ↦ subst (BeginsInRoom payload messages voice) (sym ping) (free_frame payload messages voice 3 some refl (omega arith))
        | inr not_ping ↦ message_frame payload messages voice kind some
            (ap (λ (b : Bool). not (b || (kind == 3))) (ne_eqb kind 1 not_voice) ∙ ap not (ne_eqb kind 3 not_ping)) (ne_eqb kind 1 not_voice)
      ]
    ]

begun-behind : (header : List ℕ) → begun header ≡ behind (begun header).kind (begun header).payload
unfolding begun
begun-behind header = refl

-- ---- any byte

room_by : (left : ℕ) (place : Place) (byte messages voice : ℕ) → place.left ≡ left → IsPlace place → 0 < reach place messages voice
    → HasRoom (reach place messages voice) (cost_of place byte) (after_byte place byte) messages voice
room_by (suc left) place byte messages voice e is some =
    subst (λ (next : Place). HasRoom (reach place messages voice) (cost_of place byte) next messages voice) (sym (in_payload place byte left e))
    (subst (λ (cost : Cost). HasRoom (reach place messages voice) cost (after place left messages voice is e) messages voice) (sym (cost_in_payload place byte left e))
    (room_in_payload place left messages voice is e some))
room_by zero place byte messages voice e is some =
    let header : List ℕ = place.header ++ byte ∷ [] in
    let n = length-push place.header byte in
    let place_is = in_header place byte e in
    let cost_is = cost_in_header place byte e in
    let none : pieces_left place ≡ 0 = ap (pieces_to_come place) e ∙ pieces-none place in
    let here = reach_frames place messages voice (omega arith) in
    elim (cases_lt (length header) 6) [
      | inl lt ↦
          let there = reach_frames (gathered place header) (messages - 0) (voice - 0) (omega arith) in
          subst (λ (next : Place). HasRoom (reach place messages voice) (cost_of place byte) next messages voice) (sym (place_is ∙ header_goes_on place header lt))
          (subst (λ (cost : Cost). HasRoom (reach place messages voice) cost (gathered place header) messages voice) (sym (cost_is ∙ cost_goes_on header lt))
          (omega arith, omega arith, omega arith))
      | inr le ↦
          let six : length header ≡ 6 = omega (arith, is.unfinished) in
          let begins = subst (λ (next : Place). HasRoom (min messages voice * 6) (cost_of_header (begun header).kind) next messages voice) (sym (begun-behind header))
          (begins_in_room (begun header).payload messages voice (begun header).kind (omega arith)) in
          subst (λ (next : Place). HasRoom (reach place messages voice) (cost_of place byte) next messages voice) (sym (place_is ∙ header_ends place header six))
          (subst (λ (cost : Cost). HasRoom (reach place messages voice) cost (begun header) messages voice) (sym (cost_is ∙ cost_ends header six))
          (begins.0, begins.1, omega (arith, begins.2)))
    ]

pub room_for_byte : (place : Place) (byte messages voice : ℕ) → IsPlace place → 0 < reach place messages voice
    → HasRoom (reach place messages voice) (cost_of place byte) (after_byte place byte) messages voice
room_for_byte place byte messages voice is some = room_by place.left place byte messages voice refl is some

-- ---- bytes

pub room_for_bytes : (place : Place) (bytes : List ℕ) (messages voice : ℕ) → IsPlace place → length bytes ≤ reach place messages voice
    → ((cost_in place bytes).messages ≤ messages) × ((cost_in place bytes).voice ≤ voice)
unfolding cost_in
room_for_bytes place [] messages voice is le = (omega arith, omega arith)
room_for_bytes place (byte ∷ bytes) messages voice is le =
    let one = room_for_byte place byte messages voice is (omega arith) in
    let more = room_for_bytes (after_byte place byte) bytes (messages - (cost_of place byte).messages) (voice - (cost_of place byte).voice)
    (IsPlace-after_byte place byte is) (omega (arith, one.2)) in
    (omega (arith, one.0, more.0), omega (arith, one.1, more.1))

pub room_within : (place : Place) (bytes : List ℕ) (messages voice : ℕ) → IsPlace place → length bytes ≤ length_within place messages voice
    → ((cost_in place bytes).messages ≤ messages) × ((cost_in place bytes).voice ≤ voice)
room_within place bytes messages voice is le =
    room_for_bytes place bytes messages voice is (omega (arith, within_reach place messages voice))
