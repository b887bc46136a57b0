-- The parts of the word of a copy, between slashes.
use Rattle.mum_record.proofs.Common.{◌≡◌, ℕ, Bool, true, false, List, [], ◌∷◌, length, Option, Some, None, MatchOption, refl, sym, ap, ◌∙◌, arith, lit<, Bor, slice_split_first, join_with_byte-slice_split, length-slice_split, IsSplitOnceResult, split_once_first, slice_split, join_with_byte, before_first, after_first, option_map, option_and_then, place_of, byte_of, mark_word, is_slash, mark_of, copy_with, copy_in, copy_of, Marked}
use Rattle.mum_record.proofs.{Numbers.none_unless, Splits.slice_split-whole, EntryLaws.mark_of-found}

-- the part before the first slash, and what follows it
pub slashed : (word : List ℕ) (r : Option (Bor (List ℕ) × Bor (List ℕ))) → IsSplitOnceResult 47 word r
    → MatchOption r (slice_split is_slash word ≡ word ∷ []) (λ parts. slice_split is_slash word ≡ parts.0.now ∷ slice_split is_slash parts.1.now)
slashed word None h =
    let none = split_once_first 47 word None h (lit< tt) in
    slice_split-whole is_slash word (omega arith)
slashed word (Some x) h =
    let parts = split_once_first 47 word (Some x) h (lit< tt) in
    let cut : slice_split is_slash word ≡ before_first is_slash word ∷ slice_split is_slash (after_first is_slash word) = slice_split_first is_slash word 0 parts.0 in
    rw (parts.1, parts.2) cut

no_mark : (session context mark : List ℕ) → mark_of mark ≡ None → copy_with session context mark ≡ None
unfolding copy_with
no_mark session context mark none = rw none (from (place_of session) (byte_of context))
  where
    made : ℕ → ℕ → Bool → Marked
    made s c m = record { session = record { 0 = s }; context = c; sent = m }

    from : (a b : Option ℕ) → option_and_then (λ (s : ℕ). option_and_then (λ (c : ℕ). option_map (made s c) None) b) a ≡ None
    from None b = refl
    from (Some s) None = refl
    from (Some s) (Some c) = refl

one_part : (sent : Bool) (m n : List ℕ) (more : List (List ℕ)) → slice_split is_slash (mark_word sent) ≡ m ∷ n ∷ more → ⊥
one_part true m n more h = cc
one_part false m n more h = cc

-- two parts and a mark
pub copy_of-parts : (word session context mark : List ℕ) → slice_split is_slash word ≡ session ∷ context ∷ slice_split is_slash mark → copy_of word ≡ copy_with session context mark
unfolding copy_of
copy_of-parts word session context mark cut = ap copy_in cut ∙ by_parts (slice_split is_slash mark) refl
  where
    by_parts : (parts : List (List ℕ)) → slice_split is_slash mark ≡ parts → copy_in (session ∷ context ∷ parts) ≡ copy_with session context mark
    by_parts [] h = let size = length-slice_split is_slash mark in let e : length (slice_split is_slash mark) ≡ 0 = ap length h in absurd (omega arith)
    by_parts (m ∷ []) h =
        let same : mark ≡ m = sym (join_with_byte-slice_split 47 mark) ∙ ap (join_with_byte 47) h in
        ap (copy_with session context) (sym same)
    by_parts (m ∷ n ∷ more) h =
        sym (no_mark session context mark (none_unless (mark_of mark) (λ sent is.
        let w = mark_of-found mark sent is in
        one_part sent m n more (sym (ap (slice_split is_slash) w) ∙ h))))

pub copy_of-one : (word : List ℕ) → slice_split is_slash word ≡ word ∷ [] → copy_of word ≡ None
unfolding copy_of
copy_of-one word cut = ap copy_in cut

pub copy_of-two : (word session rest : List ℕ) → slice_split is_slash word ≡ session ∷ slice_split is_slash rest → slice_split is_slash rest ≡ rest ∷ [] → copy_of word ≡ None
unfolding copy_of
copy_of-two word session rest cut last = ap copy_in (cut ∙ ap (λ (ws : List (List ℕ)). session ∷ ws) last)
