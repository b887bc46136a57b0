-- The lines of a journal as they are gathered.
use Rattle.mum_server.proofs.Common.{◌≡◌, ℕ, ◌+◌, ◌-◌, ◌<◌, ◌⊎◌, Bool, cond, List, [], ◌∷◌, ◌++◌, length, take, drop, Option, Some, None, refl, sym, ap, ◌∙◌, arith, inl, inr, append_assoc, length-append, IfSome, slice_split, cases_lt, append-nil, length-take-le, flat_map-append, slice_split_first, slice_split-whole, split_nowhere, Each, ended_lines, is_line_feed, LINE_LIMIT, HasNoLineFeed, IsExhausted, IsOpen, IsTooLong, Parts, ReaderState, Reads, at_start, line_length, first-within, IsGathered, first_long, long_line, is_too_long}
use Rattle.mum_server.proofs.{TooLong.IsFilled, TooLong.above_by, TooLong.all_by, TooLong.longer_too_long, TooLong.short_enough, TooLong.split_filled, TooLong.too_long, Underway.given_split, Underway.read_same}

-- ---- the first line that is too long

long_cons : (left n : ℕ) (line : List ℕ) (parts : List (List ℕ)) → IsFilled parts
    → first_long left n (line ∷ parts) ≡ cond (is_too_long left (length line) (length line + 1)) (Some n) (first_long (left - (length line + 1)) (n + 1) parts)
unfolding first_long
long_cons left n line [] h = absurd cc
long_cons left n line (next ∷ parts) h = refl

long_last : (left n : ℕ) (rest : List ℕ) → first_long left n (rest ∷ []) ≡ cond (is_too_long left (length rest) (length rest)) (Some n) None
unfolding first_long
long_last left n rest = refl

whole_first : (left n : ℕ) (bytes : List ℕ) → IsTooLong left bytes → first_long left n (slice_split is_line_feed bytes) ≡ Some n
whole_first left n bytes long =
    elim (cases_lt (line_length bytes) (length bytes)) [
      | inl inside ↦
          let line = take (line_length bytes) bytes in
          let rest = slice_split is_line_feed (drop (line_length bytes + 1) bytes) in
          let len : length line ≡ line_length bytes = length-take-le (line_length bytes) bytes (omega (arith, inside)) in
          let above : (LINE_LIMIT < length line) ⊎ (left < length line + 1) = above_by left (line_length bytes) (length bytes) (length line) inside len long in
          ap (first_long left n) (slice_split_first is_line_feed bytes 0 inside)
          ∙ long_cons left n line rest (split_filled (drop (line_length bytes + 1) bytes))
          ∙ ap (λ (b : Bool). cond b (Some n) (first_long (left - (length line + 1)) (n + 1) rest)) (too_long left (length line) (length line + 1) above)
      | inr outside ↦
          let all : (LINE_LIMIT < length bytes) ⊎ (left < length bytes) = all_by left (line_length bytes) (length bytes) outside (first-within is_line_feed bytes) long in
          ap (first_long left n) (slice_split-whole is_line_feed bytes outside) ∙ long_last left n bytes
          ∙ ap (λ (b : Bool). cond b (Some n) None) (too_long left (length bytes) (length bytes) all)
    ]

-- ---- what is gathered so far

pub record Gathering (bytes text : List ℕ) (reader : ReaderState) (rest : List ℕ) (n : ℕ) : Type 0 where
  pub lines : List (List ℕ)
  pub text_is : text ≡ ended_lines lines
  pub single : Each HasNoLineFeed lines
  pub bytes_are : bytes ≡ text ++ (reader.kept ++ rest)
  pub number : n ≡ length lines + 1
  pub long : long_line bytes ≡ first_long reader.room n (slice_split is_line_feed (reader.kept ++ rest))

-- as far as the input reports it
abbrev pub IsGathering : Option (List ℕ) → List ℕ → ReaderState → Option (List ℕ) → ℕ → Type 0
IsGathering None text reader left n = Unit {0}
IsGathering (Some bytes) text reader (Some rest) n = Gathering bytes text reader rest n
IsGathering (Some bytes) text reader None n = ⊥

pub gathers_first : (left : Option (List ℕ)) (text : List ℕ) (reader : ReaderState) (n : ℕ) → text ≡ [] → reader ≡ at_start → n ≡ 1 → IsGathering left text reader left n
gathers_first None text reader n empty start one = tt
gathers_first (Some bytes) text reader n empty start one = rw (empty, start, one) (record { lines = []; text_is = refl; single = tt; bytes_are = refl; number = refl; long = refl })

Each-last : (lines : List (List ℕ)) (line : List ℕ) → Each HasNoLineFeed lines → HasNoLineFeed line → Each HasNoLineFeed (lines ++ line ∷ [])
Each-last [] line all one = (one, tt)
Each-last (x ∷ xs) line all one = (all.0, Each-last xs line all.1 one)

ended-last : (lines : List (List ℕ)) (line : List ℕ) → ended_lines (lines ++ line ∷ []) ≡ ended_lines lines ++ (line ++ 10 ∷ [])
ended-last lines line =
    flat_map-append (λ (one : List ℕ). one ++ 10 ∷ []) lines (line ∷ [])
    ∙ ap (λ (more : List ℕ). ended_lines lines ++ more) (append-nil (line ++ 10 ∷ []))

moved : (text kept rest line last after : List ℕ) (taken : List ℕ) → rest ≡ taken ++ after → kept ++ taken ≡ line ++ 10 ∷ last
    → text ++ (kept ++ rest) ≡ (text ++ (line ++ 10 ∷ [])) ++ (last ++ after)
moved text kept rest line last after taken consumed parts =
    ap (λ (xs : List ℕ). text ++ xs)
    (ap (λ (xs : List ℕ). kept ++ xs) consumed ∙ sym (append_assoc kept taken after) ∙ ap (λ (xs : List ℕ). xs ++ after) parts
    ∙ append_assoc line (10 ∷ last) after ∙ sym (append_assoc line (10 ∷ []) (last ++ after)))
    ∙ sym (append_assoc text (line ++ 10 ∷ []) (last ++ after))

-- one line more
pub gathers_line : (first left left_after : Option (List ℕ)) (text longer line : List ℕ) (reader last : ReaderState) (n : ℕ) → IsGathering first text reader left n
    → Parts line reader last left left_after → longer ≡ text ++ (line ++ 10 ∷ []) → IsGathering first longer last left_after (n + 1)
gathers_line None left left_after text longer line reader last n g parts is = tt
gathers_line (Some bytes) None left_after text longer line reader last n g parts is = absurd g
gathers_line (Some bytes) (Some rest) None text longer line reader last n g parts is = absurd parts.consumed
gathers_line (Some bytes) (Some rest) (Some after) text longer line reader last n g parts is =
    let room : reader.room - (length line + 1) ≡ last.room = omega (arith, parts.room) in
    record {
      lines = g.lines ++ line ∷ [];
      text_is = is ∙ ap (λ (xs : List ℕ). xs ++ (line ++ 10 ∷ [])) g.text_is ∙ sym (ended-last g.lines line);
      single = Each-last g.lines line g.single parts.one_line;
      bytes_are = g.bytes_are ∙ moved text reader.kept rest line last.kept after parts.taken parts.consumed parts.parts ∙ ap (λ (xs : List ℕ). xs ++ (last.kept ++ after)) (sym is);
      number = omega (arith, g.number, length-append g.lines (line ∷ []));
      long = g.long ∙ ap (first_long reader.room n) (given_split reader last line rest after parts)
          ∙ long_cons reader.room n line (slice_split is_line_feed (last.kept ++ after)) (split_filled (last.kept ++ after))
          ∙ ap (λ (b : Bool). cond b (Some n) (first_long (reader.room - (length line + 1)) (n + 1) (slice_split is_line_feed (last.kept ++ after))))
          (short_enough reader.room (length line) (length line + 1) parts.short (omega (arith, parts.room)))
          ∙ ap (λ (left : ℕ). first_long left (n + 1) (slice_split is_line_feed (last.kept ++ after))) room;
    }

-- the end after a line feed
pub gathers_end : (first left left_after : Option (List ℕ)) (text : List ℕ) (reader last : ReaderState) (n : ℕ) → IsGathering first text reader left n → Reads reader last left left_after
    → last.kept ≡ [] → IsExhausted left left_after → IfSome first (λ bytes. (None ≡ long_line bytes) × IsGathered None bytes text)
gathers_end None left left_after text reader last n g reads empty none = tt
gathers_end (Some bytes) None left_after text reader last n g reads empty none = absurd g
gathers_end (Some bytes) (Some rest) None text reader last n g reads empty none = absurd reads.consumed
gathers_end (Some bytes) (Some rest) (Some after) text reader last n g reads empty none =
    let all : reader.kept ++ rest ≡ [] = read_same reader last rest after reads ∙ ap (λ (xs : List ℕ). xs ++ after) empty ∙ none in (
      sym (g.long ∙ ap (λ (xs : List ℕ). first_long reader.room n (slice_split is_line_feed xs)) all ∙ long_last reader.room n []
          ∙ ap (λ (b : Bool). cond b (Some n) None) (short_enough reader.room 0 0 (omega arith) (omega arith))),
      sym (g.bytes_are ∙ ap (λ (xs : List ℕ). text ++ xs) all ∙ append-nil text),
    )

-- the end after bytes that no line feed ends
pub gathers_rest : (first left left_after : Option (List ℕ)) (text longer : List ℕ) (reader last : ReaderState) (n : ℕ) → IsGathering first text reader left n → Reads reader last left left_after
    → IsOpen last → longer ≡ text ++ last.kept → IsExhausted left left_after → IfSome first (λ bytes. (None ≡ long_line bytes) × IsGathered None bytes longer)
gathers_rest None left left_after text longer reader last n g reads opens is none = tt
gathers_rest (Some bytes) None left_after text longer reader last n g reads opens is none = absurd g
gathers_rest (Some bytes) (Some rest) None text longer reader last n g reads opens is none = absurd reads.consumed
gathers_rest (Some bytes) (Some rest) (Some after) text longer reader last n g reads opens is none =
    let all : reader.kept ++ rest ≡ last.kept = read_same reader last rest after reads ∙ ap (λ (xs : List ℕ). last.kept ++ xs) none ∙ append-nil last.kept in (
      sym (g.long ∙ ap (λ (xs : List ℕ). first_long reader.room n (slice_split is_line_feed xs)) all ∙ ap (first_long reader.room n) (split_nowhere is_line_feed last.kept opens.unended)
          ∙ long_last reader.room n last.kept
          ∙ ap (λ (b : Bool). cond b (Some n) None) (short_enough reader.room (length last.kept) (length last.kept) opens.short (omega (arith, opens.within, reads.room)))),
      is ∙ sym (g.bytes_are ∙ ap (λ (xs : List ℕ). text ++ xs) all),
    )

-- a line that is too long
pub gathers_long : (first left left_after : Option (List ℕ)) (text : List ℕ) (reader last : ReaderState) (n : ℕ) → IsGathering first text reader left n → Reads reader last left left_after
    → IsTooLong last.room last.kept → IfSome first (λ bytes. (Some n ≡ long_line bytes) × IsGathered (Some n) bytes text)
gathers_long None left left_after text reader last n g reads long = tt
gathers_long (Some bytes) None left_after text reader last n g reads long = absurd g
gathers_long (Some bytes) (Some rest) None text reader last n g reads long = absurd reads.consumed
gathers_long (Some bytes) (Some rest) (Some after) text reader last n g reads long = (
  sym (g.long ∙ ap (λ (xs : List ℕ). first_long reader.room n (slice_split is_line_feed xs)) (read_same reader last rest after reads)
      ∙ ap (λ (room : ℕ). first_long room n (slice_split is_line_feed (last.kept ++ after))) (sym reads.room)
      ∙ whole_first last.room n (last.kept ++ after) (longer_too_long last.room last.kept after long)),
  record { lines = g.lines; rest = reader.kept ++ rest; text_is = g.text_is; single = g.single; bytes_are = g.bytes_are; number = g.number },
)
