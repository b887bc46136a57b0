-- What is read on, and the line that is found in it.
use Rattle.mum_lines.proofs.Common.{◌≡◌, ℕ, ◌+◌, ◌-◌, ◌<◌, ◌≤◌, ◌⊎◌, List, ◌∷◌, ◌++◌, length, take, drop, get_or, Option, Some, None, refl, sym, ap, ◌∙◌, arith, inl, inr, append_assoc, length-append, take-append-drop, position, IfSome, position_or_len, eqb-true, cases_lt, length-take-le, drop_more, passes_at_first, Consumes, IsAtEnd, Keeps, Consumes-kept, Consumes-trans, is_line_feed, LINE_LIMIT, HasNoLineFeed, IsUnended, Parts, ReaderState, line_length, ReadOn}
use Rattle.mum_lines.proofs.LineFeeds.{first-stays, found-at, found-none, is-none}

-- bytes with a line feed have it when more are read
pub still_found : (old cur taken : List ℕ) → cur ≡ old ++ taken → None ≡ position is_line_feed cur → line_length old < length old → ⊥
still_found old cur taken is none lt =
    let stays = first-stays is_line_feed old taken lt in
    let le = found-none is_line_feed (old ++ taken) (ap (position is_line_feed) (sym is) ∙ sym none) in
    absurd (omega (arith, stays, le, lt, length-append old taken))

-- one read more
pub reads_more : (first mid last : List ℕ) (a b c : Option (List ℕ)) (more : List ℕ) → ReadOn first mid a b → last ≡ mid ++ more → Consumes b c more → ReadOn first last a c
reads_more first mid last a b c more read is consumed = record {
  taken = read.taken ++ more;
  consumed = Consumes-trans a b c read.taken more read.consumed consumed;
  kept = is ∙ ap (λ (xs : List ℕ). xs ++ more) read.kept ∙ append_assoc first read.taken more;
}

-- one that got nothing
pub reads_none : (first mid last : List ℕ) (a b c : Option (List ℕ)) → ReadOn first mid a b → last ≡ mid → Keeps b c → ReadOn first last a c
reads_none first mid last a b c read is keeps = record {
  taken = read.taken;
  consumed = Consumes-kept a b c read.taken read.consumed keeps;
  kept = is ∙ read.kept;
}

-- what is kept may go on
pub opened : (room : ℕ) (kept mid : List ℕ) → kept ≡ mid → None ≡ position is_line_feed mid → (((LINE_LIMIT < length mid) ⊎ (room < length mid)) → ⊥)
    → IsUnended kept room
opened room kept mid is none few = record {
  unended = ap (position is_line_feed) is ∙ sym none;
  short = elim (cases_lt LINE_LIMIT (length kept)) [
    | inl above ↦ absurd (few (inl (omega (arith, above, ap length is))))
    | inr within ↦ within
  ];
  within = elim (cases_lt room (length kept)) [
    | inl above ↦ absurd (few (inr (omega (arith, above, ap length is))))
    | inr within ↦ within
  ];
}

-- a source that was at its end before a read that got nothing is there
pub at_end_kept : (a b c : Option (List ℕ)) (taken : List ℕ) → Consumes a b taken → IsAtEnd b → Keeps b c → IfSome a (λ bytes. IsAtEnd c)
at_end_kept None b c taken consumed end keeps = tt
at_end_kept (Some x) None c taken consumed end keeps = absurd consumed
at_end_kept (Some x) (Some y) None taken consumed end keeps = absurd keeps
at_end_kept (Some x) (Some y) (Some z) taken consumed end keeps = keeps ∙ end

-- the bytes up to a line feed, it, and what follows it
cut_at : (bytes : List ℕ) (at : ℕ) → position is_line_feed bytes ≡ Some at → bytes ≡ take at bytes ++ 10 ∷ drop (at + 1) bytes
cut_at bytes at found =
    let f = found-at is_line_feed bytes at found in
    let byte = get_or bytes at 0 in
    let is : byte ≡ 10 = eqb-true byte 10 (ap (λ (i : ℕ). is_line_feed (get_or bytes i 0)) (sym f.0) ∙ passes_at_first is_line_feed bytes 0 (omega (arith, f.0, f.1))) in
    sym (take-append-drop at bytes) ∙ ap (λ (rest : List ℕ). take at bytes ++ rest) (drop_more bytes at 0 f.1 ∙ ap (λ (b : ℕ). b ∷ drop (at + 1) bytes) is)

front_has_none : (bytes : List ℕ) (at : ℕ) → position is_line_feed bytes ≡ Some at → HasNoLineFeed (take at bytes)
front_has_none bytes at found =
    let f = found-at is_line_feed bytes at found in
    let front = take at bytes in
    let long : length front ≡ at = length-take-le at bytes (omega (arith, f.1)) in
    elim (cases_lt (position_or_len is_line_feed front) (length front)) [
      | inl inside ↦
          let stays = first-stays is_line_feed front (drop at bytes) inside in
          let same = ap (position_or_len is_line_feed) (take-append-drop at bytes) in
          absurd (omega (arith, stays, same, f.0, long, inside))
      | inr outside ↦ is-none is_line_feed front outside
    ]

-- a line that was found is given
pub gives_line : (old : ReaderState) (mid : List ℕ) (at : ℕ) (line rest : List ℕ) (room buffer : ℕ) (a b : Option (List ℕ)) → ReadOn old.kept mid a b → position is_line_feed mid ≡ Some at
    → at < old.room → length mid ≤ LINE_LIMIT + 1 → line ≡ take at mid → rest ≡ drop (at + 1) mid → room ≡ old.room - (at + 1) → buffer ≡ old.buffer
    → Parts line old (record { kept = rest; room = room; buffer = buffer }) a b
gives_line old mid at line rest room buffer a b read found within fits line_is rest_is room_is buffer_is =
    let f = found-at is_line_feed mid at found in
    let long : length line ≡ at = ap length line_is ∙ length-take-le at mid (omega (arith, f.1)) in
    record {
      taken = read.taken;
      consumed = read.consumed;
      parts = sym read.kept ∙ cut_at mid at found ∙ rw (line_is, rest_is) refl;
      one_line = rw line_is (front_has_none mid at found);
      short = omega (arith, long, f.1, fits);
      room = omega (arith, long, room_is, within);
      buffer = buffer_is;
    }
