-- The frames of a stream are one list, and any calls of a framer give the front of it.
use Rattle.mum_frame.proofs.Common.{◌≡◌, ℕ, zero, suc, ◌+◌, ◌<◌, List, [], ◌∷◌, ◌++◌, length, take, drop, get_or, inl, inr, refl, sym, ap, ◌∙◌, arith, append_assoc, flat_map, All, Each, cases_lt, get_or-drop, get_or_past, length-drop, length-take-le, All-from_recursion, recursion_from_All, big_number, big_from-lt, HEADER_LENGTH, PAYLOAD_LIMIT, Frame, frame_spelling, IsFrame, HasNoFrame, named_length, IsFront, Splits}
use Rattle.mum_frame.proofs.Headers.{spelling-injective, HasNoFrame-above_limit, HasNoFrame-no_header, HasNoFrame-cut, frame_is}

-- these frames, and then these bytes
abbrev pub joined : List Frame → List ℕ → List ℕ
joined frames rest = flat_map frame_spelling frames ++ rest

pub joined-cons : (frame : Frame) (frames : List Frame) (rest : List ℕ) → joined (frame ∷ frames) rest ≡ frame_spelling frame ++ joined frames rest
joined-cons frame frames rest = append_assoc (frame_spelling frame) (flat_map frame_spelling frames) rest

-- frames that begin a stream begin the longest list of them
longest : (front frames : List Frame) (behind rest : List ℕ) → Each IsFrame front → Each IsFrame frames → HasNoFrame rest
    → joined front behind ≡ joined frames rest → IsFront front frames
longest [] frames behind rest is_front is_frames none e = (frames, refl)
longest (f ∷ front) [] behind rest is_front is_frames none e =
    absurd (none f (joined front behind) is_front.0 (sym e ∙ joined-cons f front behind))
longest (f ∷ front) (g ∷ frames) behind rest is_front is_frames none e =
    let same = spelling-injective f g (joined front behind) (joined frames rest) is_front.0 is_frames.0
    (sym (joined-cons f front behind) ∙ e ∙ joined-cons g frames rest) in
    let more = longest front frames behind rest is_front.1 is_frames.1 none same.1 in
    (more.0, ap (λ (h : Frame). h ∷ frames) (sym same.0) ∙ ap (λ (xs : List Frame). f ∷ xs) more.1)

pub longest-Splits : (stream rest behind : List ℕ) (frames front : List Frame) → Splits stream frames rest → All IsFrame front
    → stream ≡ joined front behind → IsFront front frames
longest-Splits stream rest behind frames front is is_front e =
    longest front frames behind rest (recursion_from_All IsFrame front is_front) (recursion_from_All IsFrame frames is.each) is.no_frame
    (sym e ∙ is.whole)

-- two longest lists are one
same_reading : (frames others : List Frame) (rest other : List ℕ) → Each IsFrame frames → Each IsFrame others → HasNoFrame rest → HasNoFrame other
    → joined frames rest ≡ joined others other → (frames ≡ others) × (rest ≡ other)
same_reading [] [] rest other is_frames is_others stuck other_stuck e = (refl, e)
same_reading [] (g ∷ others) rest other is_frames is_others stuck other_stuck e =
    absurd (stuck g (joined others other) is_others.0 (e ∙ joined-cons g others other))
same_reading (f ∷ frames) [] rest other is_frames is_others stuck other_stuck e =
    absurd (other_stuck f (joined frames rest) is_frames.0 (sym e ∙ joined-cons f frames rest))
same_reading (f ∷ frames) (g ∷ others) rest other is_frames is_others stuck other_stuck e =
    let same = spelling-injective f g (joined frames rest) (joined others other) is_frames.0 is_others.0
    (sym (joined-cons f frames rest) ∙ e ∙ joined-cons g others other) in
    let behind = same_reading frames others rest other is_frames.1 is_others.1 stuck other_stuck same.1 in
    (ap (λ (h : Frame). h ∷ frames) same.0 ∙ ap (λ (xs : List Frame). g ∷ xs) behind.0, behind.1)

pub one_reading : (stream rest other : List ℕ) (frames others : List Frame) → Splits stream frames rest → Splits stream others other
    → (frames ≡ others) × (rest ≡ other)
one_reading stream rest other frames others is is_other =
    same_reading frames others rest other (recursion_from_All IsFrame frames is.each) (recursion_from_All IsFrame others is_other.each)
    is.no_frame is_other.no_frame (sym is.whole ∙ is_other.whole)

-- a reading, found from the front
abbrev Reading : List ℕ → Type 0
Reading stream = (frames : List Frame) × ((rest : List ℕ) × ((stream ≡ joined frames rest) × Each IsFrame frames × HasNoFrame rest))

reading_of : (fuel : ℕ) (bytes : List ℕ) → length bytes < fuel → ((k : ℕ) → get_or bytes k 0 < 256) → Reading bytes
reading_of zero bytes fuel_left small = absurd (omega arith)
reading_of (suc fuel) bytes fuel_left small =
    let stuck : HasNoFrame bytes → Reading bytes = λ none. ([], (bytes, (refl, tt, none))) in
    elim (cases_lt (length bytes) HEADER_LENGTH) [
      | inl short ↦ stuck (HasNoFrame-no_header bytes short)
      | inr header ↦ elim (cases_lt PAYLOAD_LIMIT (named_length bytes)) [
        | inl above ↦ stuck (HasNoFrame-above_limit bytes (record { header = header; above = above }))
        | inr within ↦ elim (cases_lt (length bytes) (HEADER_LENGTH + named_length bytes)) [
          | inl cut ↦ stuck (HasNoFrame-cut bytes cut)
          | inr room ↦
              let payload : List ℕ = take (named_length bytes) (drop HEADER_LENGTH bytes) in
              let frame : Frame = record { kind = big_number 2 bytes; payload = payload } in
              let behind : List ℕ = drop (HEADER_LENGTH + named_length bytes) bytes in
              let long : length payload ≡ named_length bytes =
              length-take-le (named_length bytes) (drop HEADER_LENGTH bytes) (omega (arith, length-drop HEADER_LENGTH bytes)) in
              let is_frame : IsFrame frame = record { kind_fits = big_from-lt 0 2 bytes small; within_limit = omega arith } in
              let less : length behind < fuel = omega (arith, length-drop (HEADER_LENGTH + named_length bytes) bytes) in
              let small_behind : (k : ℕ) → get_or behind k 0 < 256 = λ k. rw (get_or-drop (HEADER_LENGTH + named_length bytes) bytes k 0) (small (HEADER_LENGTH + named_length bytes + k)) in
              let next = reading_of fuel behind less small_behind in
              let whole : bytes ≡ joined (frame ∷ next.0) next.1.0 =
              frame_is bytes small room ∙ ap (λ (xs : List ℕ). frame_spelling frame ++ xs) next.1.1.0 ∙ sym (joined-cons frame next.0 next.1.0) in
              (frame ∷ next.0, (next.1.0, (whole, (is_frame, next.1.1.1), next.1.1.2)))
        ]
      ]
    ]

pub some_reading : (stream : List ℕ) → All (λ byte. byte < 256) stream → (frames : List Frame) × ((rest : List ℕ) × Splits stream frames rest)
some_reading stream bytes =
    let small : (k : ℕ) → get_or stream k 0 < 256 = λ k. elim (cases_lt k (length stream)) [
      | inl within ↦ bytes k 0 within
      | inr past ↦ rw (get_or_past stream k 0 past) (omega arith)
    ] in
    let found = reading_of (suc (length stream)) stream (omega arith) small in (
      found.0,
      (
        found.1.0,
        record {
          whole = found.1.1.0;
          each = All-from_recursion IsFrame found.0 found.1.1.1;
          no_frame = found.1.1.2;
        },
      ),
    )
