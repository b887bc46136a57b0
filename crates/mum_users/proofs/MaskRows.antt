-- Rows of masks: the mask of a channel and a word after one is put in.
use Rattle.mum_users.proofs.Common.{◌≡◌, ℕ, suc, ◌*◌, ◌%◌, eq-eqb, subst, ◌+◌, ◌<◌, ◌≤◌, ◌^◌, Bool, true, false, not, cond, eqb, List, [], ◌∷◌, length, get_or, set, refl, sym, ap, ◌∙◌, inl, inr, arith, IsTrue, count_by, insert, position_or_len, remove, IsNonDecreasingBy, bit_at, bit_not, bit_or, bit_and, w128, bit_at_clear_other, bit_at_clear_same, bit_at_set_other, bit_at_set_same, and_le_l, one_shl, or_disjoint, pow_pos, cases_lt, eqb-true, ne_eqb, nat_tests, ChannelId, MaskRow, IsBelowAll, Rises, is_mask, is_mask_below, is_mask_of, mask_at, mask_below, with_mask}
use Rattle.mum_users.proofs.{Counts.count_by-cons, Orders.IsBelowAll-through, Search.Rises-at}

one_more : (n : ℕ) → 1 + n ≡ suc n
one_more n = omega arith

-- ---- the place of a row

abbrev pub place_for : ChannelId → ℕ → List MaskRow → ℕ
place_for channel word rows = position_or_len (λ row. not (is_mask_below channel word row)) rows

module _ (new : MaskRow) where
  abbrev spot : List MaskRow → ℕ
  spot rows = place_for new.channel new.word rows

  pub with_mask-set : (rows : List MaskRow) (d : MaskRow) → eqb new.mask 0 ≡ false → spot rows < length rows → is_mask_of new.channel new.word (get_or rows (spot rows) d) ≡ true → set rows (spot rows) new ≡ with_mask new rows
  with_mask-set [] d some within there = absurd (omega arith)
  with_mask-set (row ∷ rows) d some within there = split (mask_below row new) refl (with_mask-set rows d some)
    where
      split : (b : Bool) → mask_below row new ≡ b → (spot rows < length rows → is_mask_of new.channel new.word (get_or rows (spot rows) d) ≡ true → set rows (spot rows) new ≡ with_mask new rows) → set (row ∷ rows) (spot (row ∷ rows)) new ≡ with_mask new (row ∷ rows)
      split true e rest =
          let inside : 1 + spot rows < length (row ∷ rows) = rw e at within in
          let same = rw (e, one_more (spot rows)) at there in
          rw (e, one_more (spot rows)) (ap (λ ys. row ∷ ys) (rest (omega arith) same))
      split false e rest = let same : is_mask_of new.channel new.word row ≡ true = rw e at there in rw (e, same, some) refl

  pub with_mask-remove : (rows : List MaskRow) (d : MaskRow) → eqb new.mask 0 ≡ true → spot rows < length rows → is_mask_of new.channel new.word (get_or rows (spot rows) d) ≡ true → remove rows (spot rows) ≡ with_mask new rows
  with_mask-remove [] d none within there = absurd (omega arith)
  with_mask-remove (row ∷ rows) d none within there = split (mask_below row new) refl (with_mask-remove rows d none)
    where
      split : (b : Bool) → mask_below row new ≡ b → (spot rows < length rows → is_mask_of new.channel new.word (get_or rows (spot rows) d) ≡ true → remove rows (spot rows) ≡ with_mask new rows) → remove (row ∷ rows) (spot (row ∷ rows)) ≡ with_mask new (row ∷ rows)
      split true e rest =
          let inside : 1 + spot rows < length (row ∷ rows) = rw e at within in
          let same = rw (e, one_more (spot rows)) at there in
          rw (e, one_more (spot rows)) (ap (λ ys. row ∷ ys) (rest (omega arith) same))
      split false e rest = let same : is_mask_of new.channel new.word row ≡ true = rw e at there in rw (e, same, none) refl

  pub with_mask-insert : (rows : List MaskRow) → eqb new.mask 0 ≡ false → ((d : MaskRow) → spot rows < length rows → is_mask_of new.channel new.word (get_or rows (spot rows) d) ≡ false) → insert rows (spot rows) new ≡ with_mask new rows
  with_mask-insert [] some apart = rw some refl
  with_mask-insert (row ∷ rows) some apart = split (mask_below row new) refl (with_mask-insert rows some)
    where
      split : (b : Bool) → mask_below row new ≡ b → (((d : MaskRow) → spot rows < length rows → is_mask_of new.channel new.word (get_or rows (spot rows) d) ≡ false) → insert rows (spot rows) new ≡ with_mask new rows) → insert (row ∷ rows) (spot (row ∷ rows)) new ≡ with_mask new (row ∷ rows)
      split true e rest =
          rw (e, one_more (spot rows)) (ap (λ ys. row ∷ ys) (rest (λ d lt. rw (e, one_more (spot rows)) at (apart d (rw e (omega arith))))))
      split false e rest = let other : is_mask_of new.channel new.word row ≡ false = rw e at (apart new (rw e (omega arith))) in rw (e, other, some) refl

  pub with_mask-none : (rows : List MaskRow) → eqb new.mask 0 ≡ true → ((d : MaskRow) → spot rows < length rows → is_mask_of new.channel new.word (get_or rows (spot rows) d) ≡ false) → rows ≡ with_mask new rows
  with_mask-none [] none apart = rw none refl
  with_mask-none (row ∷ rows) none apart = split (mask_below row new) refl (with_mask-none rows none)
    where
      split : (b : Bool) → mask_below row new ≡ b → (((d : MaskRow) → spot rows < length rows → is_mask_of new.channel new.word (get_or rows (spot rows) d) ≡ false) → rows ≡ with_mask new rows) → (row ∷ rows) ≡ with_mask new (row ∷ rows)
      split true e rest =
          rw e (ap (λ ys. row ∷ ys) (rest (λ d lt. rw (e, one_more (spot rows)) at (apart d (rw e (omega arith))))))
      split false e rest = let other : is_mask_of new.channel new.word row ≡ false = rw e at (apart new (rw e (omega arith))) in rw (e, other, none) refl

-- ---- order

mask_channel : (row other : MaskRow) → IsTrue (mask_below row other) → row.channel.0 ≤ other.channel.0
mask_channel row other lower = grind (arith, nat_tests)

pub channels_in_order : (rows : List MaskRow) → Rises mask_below rows → IsNonDecreasingBy (λ (row : MaskRow). row.channel.0) rows
channels_in_order rows rise i j d le within = elim (cases_lt i j) [
  | inl lt ↦ mask_channel (get_or rows i d) (get_or rows j d) (Rises-at mask_below rows i j d rise lt within)
  | inr ge ↦ (let same : i ≡ j = omega arith in omega (arith, ap (λ (k : ℕ). (get_or rows k d).channel.0) same))
]

pub mask_through : (a b c : MaskRow) → IsTrue (mask_below a b) → IsTrue (mask_below b c) → IsTrue (mask_below a c)
mask_through a b c x y = grind (arith, nat_tests)

mask_other_way : (new row : MaskRow) → is_mask_of new.channel new.word row ≡ false → mask_below row new ≡ false → IsTrue (mask_below new row)
mask_other_way new row other not_below = grind (arith, nat_tests)

mask_same : (new row other : MaskRow) → is_mask_of new.channel new.word row ≡ true → IsTrue (mask_below row other) → IsTrue (mask_below new other)
mask_same new row other same lower = grind (arith, nat_tests)

below_is_other : (channel : ChannelId) (word : ℕ) (row : MaskRow) → is_mask_below channel word row ≡ true → is_mask_of channel word row ≡ false
below_is_other channel word row lower = grind (arith, nat_tests)

pub below_down : (channel : ChannelId) (word : ℕ) (row other : MaskRow) → IsTrue (mask_below row other) → is_mask_below channel word other ≡ true → is_mask_below channel word row ≡ true
below_down channel word row other lower low = grind (arith, nat_tests)

-- the mask of a channel and a word, where the row at its place is that of them, and where it is not
module _ (channel : ChannelId) (word : ℕ) where
  pub mask_at-there : (rows : List MaskRow) (d : MaskRow) → place_for channel word rows < length rows → is_mask_of channel word (get_or rows (place_for channel word rows) d) ≡ true → mask_at channel word rows ≡ (get_or rows (place_for channel word rows) d).mask
  mask_at-there [] d within there = absurd (omega arith)
  mask_at-there (row ∷ rows) d within there = split (is_mask_below channel word row) refl (mask_at-there rows d)
    where
      split : (b : Bool) → is_mask_below channel word row ≡ b → (place_for channel word rows < length rows → is_mask_of channel word (get_or rows (place_for channel word rows) d) ≡ true → mask_at channel word rows ≡ (get_or rows (place_for channel word rows) d).mask) → mask_at channel word (row ∷ rows) ≡ (get_or (row ∷ rows) (place_for channel word (row ∷ rows)) d).mask
      split true e rest =
          let inside : 1 + place_for channel word rows < length (row ∷ rows) = rw e at within in
          let is = rw (e, one_more (place_for channel word rows)) at there in
          let head : is_mask_of channel word row ≡ false = below_is_other channel word row e in
          rw (e, one_more (place_for channel word rows), head) (rest (omega arith) is)
      split false e rest = let is : is_mask_of channel word row ≡ true = rw e at there in rw (e, is) refl

  above_other : (row other : MaskRow) → is_mask_below channel word row ≡ false → is_mask_of channel word row ≡ false → IsTrue (mask_below row other) → (is_mask_of channel word other ≡ false) × (is_mask_below channel word other ≡ false)
  above_other row other low is lower = (grind (arith, nat_tests), grind (arith, nat_tests))

  none_above : (row : MaskRow) (rows : List MaskRow) → is_mask_below channel word row ≡ false → is_mask_of channel word row ≡ false → IsBelowAll mask_below row rows → mask_at channel word rows ≡ 0
  none_above row [] low is all = refl
  none_above row (other ∷ rows) low is all = let head : is_mask_of channel word other ≡ false = (above_other row other low is all.0).0 in rw head (none_above row rows low is all.1)

  pub mask_at-absent : (rows : List MaskRow) → Rises mask_below rows → ((d : MaskRow) → place_for channel word rows < length rows → is_mask_of channel word (get_or rows (place_for channel word rows) d) ≡ false) → mask_at channel word rows ≡ 0
  mask_at-absent [] rise other = refl
  mask_at-absent (row ∷ rows) rise other = split (is_mask_below channel word row) refl (mask_at-absent rows rise.1)
    where
      split : (b : Bool) → is_mask_below channel word row ≡ b → (((d : MaskRow) → place_for channel word rows < length rows → is_mask_of channel word (get_or rows (place_for channel word rows) d) ≡ false) → mask_at channel word rows ≡ 0) → mask_at channel word (row ∷ rows) ≡ 0
      split true e rest =
          let head : is_mask_of channel word row ≡ false = below_is_other channel word row e in
          rw head (rest (λ d lt. rw (e, one_more (place_for channel word rows)) at (other d (rw e (omega arith)))))
      split false e rest =
          let head : is_mask_of channel word row ≡ false = rw e at (other row (rw e (omega arith))) in
          rw head (none_above row rows e head rise.0)

-- ---- rows in order stay in order

module _ (new : MaskRow) where
  IsBelowAll-with_mask : (first : MaskRow) (rows : List MaskRow) → IsTrue (mask_below first new) → IsBelowAll mask_below first rows → IsBelowAll mask_below first (with_mask new rows)
  IsBelowAll-with_mask first [] lower all = either (eqb new.mask 0)
    where
      either : (z : Bool) → IsBelowAll mask_below first (cond z [] (new ∷ []))
      either true = tt
      either false = (lower, tt)
  IsBelowAll-with_mask first (row ∷ rows) lower all = split (mask_below row new) (is_mask_of new.channel new.word row) (eqb new.mask 0) refl refl refl (IsBelowAll-with_mask first rows lower all.1)
    where
      split : (b s z : Bool) → mask_below row new ≡ b → is_mask_of new.channel new.word row ≡ s → eqb new.mask 0 ≡ z → IsBelowAll mask_below first (with_mask new rows) → IsBelowAll mask_below first (with_mask new (row ∷ rows))
      split true s z e f g rest = rw e (all.0, rest)
      split false true true e f g rest = rw (e, f, g) all.1
      split false true false e f g rest = rw (e, f, g) (lower, all.1)
      split false false true e f g rest = rw (e, f, g) all
      split false false false e f g rest = rw (e, f, g) (lower, all)

  IsBelowAll-same : (row : MaskRow) (rows : List MaskRow) → is_mask_of new.channel new.word row ≡ true → IsBelowAll mask_below row rows → IsBelowAll mask_below new rows
  IsBelowAll-same row [] same all = tt
  IsBelowAll-same row (other ∷ rows) same all = (mask_same new row other same all.0, IsBelowAll-same row rows same all.1)

  -- the new row is below all rows from one on that is not below it
  below_rest : (row : MaskRow) (rows : List MaskRow) → is_mask_of new.channel new.word row ≡ false → mask_below row new ≡ false → IsBelowAll mask_below row rows → IsBelowAll mask_below new (row ∷ rows)
  below_rest row rows f e all =
      let lower = mask_other_way new row f e in
      (lower, IsBelowAll-through mask_below mask_through new row rows lower all)

  pub Rises-with_mask : (rows : List MaskRow) → Rises mask_below rows → Rises mask_below (with_mask new rows)
  Rises-with_mask [] rise = either (eqb new.mask 0)
    where
      either : (z : Bool) → Rises mask_below (cond z [] (new ∷ []))
      either true = tt
      either false = (tt, tt)
  Rises-with_mask (row ∷ rows) rise = split (mask_below row new) (is_mask_of new.channel new.word row) (eqb new.mask 0) refl refl refl (Rises-with_mask rows rise.1)
    where
      split : (b s z : Bool) → mask_below row new ≡ b → is_mask_of new.channel new.word row ≡ s → eqb new.mask 0 ≡ z → Rises mask_below (with_mask new rows) → Rises mask_below (with_mask new (row ∷ rows))
      split true s z e f g rest = rw e (IsBelowAll-with_mask row rows e rise.0, rest)
      split false true true e f g rest = rw (e, f, g) rise.1
      split false true false e f g rest = rw (e, f, g) (IsBelowAll-same row rows f rise.0, rise.1)
      split false false true e f g rest = rw (e, f, g) rise
      split false false false e f g rest = rw (e, f, g) (below_rest row rows f e rise.0, rise)

  -- ---- the mask of a channel and a word afterwards

  module _ (channel : ChannelId) (word : ℕ) where
    above_is_other : (row other : MaskRow) → is_mask_of channel word row ≡ true → IsTrue (mask_below row other) → is_mask_of channel word other ≡ false
    above_is_other row other is lower = grind (arith, nat_tests)

    pub absent_above : (row : MaskRow) (rows : List MaskRow) → is_mask_of channel word row ≡ true → IsBelowAll mask_below row rows → mask_at channel word rows ≡ 0
    absent_above row [] is all = refl
    absent_above row (other ∷ rows) is all = rw (above_is_other row other is all.0) (absent_above row rows is all.1)

    same_key : (row : MaskRow) → is_mask_of new.channel new.word row ≡ true → is_mask_of channel word row ≡ is_mask_of channel word new
    same_key row same = grind (arith, nat_tests)

    below_apart : (row : MaskRow) → IsTrue (mask_below row new) → is_mask_of channel word row ≡ true → is_mask_of channel word new ≡ false
    below_apart row lower is = grind (arith, nat_tests)

    apart : (row : MaskRow) → is_mask_of new.channel new.word row ≡ false → is_mask_of channel word new ≡ true → is_mask_of channel word row ≡ false
    apart row other is = grind (arith, nat_tests)

    swap : (a b : Bool) (m n r : ℕ) → (a ≡ true → b ≡ false) → cond a m (cond b n r) ≡ cond b n (cond a m r)
    swap true true m n r other = let never : true ≡ false = other refl in cc
    swap true false m n r other = refl
    swap false b m n r other = refl

    zero_mask : eqb new.mask 0 ≡ true → new.mask ≡ 0
    zero_mask z = eqb-true _ _ z

    pub mask_at-with_mask : (rows : List MaskRow) → Rises mask_below rows → mask_at channel word (with_mask new rows) ≡ cond (is_mask_of channel word new) new.mask (mask_at channel word rows)
    mask_at-with_mask [] rise = either (eqb new.mask 0) (is_mask_of channel word new) refl refl
      where
        either : (z n : Bool) → eqb new.mask 0 ≡ z → is_mask_of channel word new ≡ n → mask_at channel word (cond z [] (new ∷ [])) ≡ cond (is_mask_of channel word new) new.mask 0
        either true true g is = rw is (sym (zero_mask g))
        either true false g is = rw is refl
        either false n g is = refl
    mask_at-with_mask (row ∷ rows) rise = split (mask_below row new) (is_mask_of new.channel new.word row) (eqb new.mask 0) refl refl refl (mask_at-with_mask rows rise.1)
      where
        split : (b s z : Bool) → mask_below row new ≡ b → is_mask_of new.channel new.word row ≡ s → eqb new.mask 0 ≡ z
            → mask_at channel word (with_mask new rows) ≡ cond (is_mask_of channel word new) new.mask (mask_at channel word rows)
            → mask_at channel word (with_mask new (row ∷ rows)) ≡ cond (is_mask_of channel word new) new.mask (mask_at channel word (row ∷ rows))
        split true s z e f g rest =
            rw e (ap (λ (r : ℕ). cond (is_mask_of channel word row) row.mask r) rest
            ∙ swap (is_mask_of channel word row) (is_mask_of channel word new) row.mask new.mask (mask_at channel word rows) (below_apart row e))
        split false true true e f g rest = rw (e, f, g) (gone (is_mask_of channel word row) refl)
          where
            gone : (b : Bool) → is_mask_of channel word row ≡ b → mask_at channel word rows ≡ cond (is_mask_of channel word new) new.mask (cond b row.mask (mask_at channel word rows))
            gone true is = rw (← same_key row f, is) (absent_above row rows is rise.0 ∙ sym (zero_mask g))
            gone false is = rw (← same_key row f, is) refl
        split false true false e f g rest = rw (e, f, g) (replaced (is_mask_of channel word row) refl)
          where
            replaced : (b : Bool) → is_mask_of channel word row ≡ b → cond (is_mask_of channel word new) new.mask (mask_at channel word rows) ≡ cond (is_mask_of channel word new) new.mask (cond b row.mask (mask_at channel word rows))
            replaced true is = rw (← same_key row f, is) refl
            replaced false is = refl
        split false false true e f g rest = rw (e, f, g) (absent (is_mask_of channel word new) refl)
          where
            absent : (b : Bool) → is_mask_of channel word new ≡ b → cond (is_mask_of channel word row) row.mask (mask_at channel word rows) ≡ cond b new.mask (cond (is_mask_of channel word row) row.mask (mask_at channel word rows))
            absent true is = absent_above new (row ∷ rows) is (below_rest row rows f e rise.0) ∙ sym (zero_mask g)
            absent false is = refl
        split false false false e f g rest = rw (e, f, g) refl

-- ---- masks of 128 bits that are not 0

module _ (new : MaskRow) where
  -- rows whose mask is empty or no mask
  abbrev empties : List MaskRow → ℕ
  empties rows = count_by (λ row. not (is_mask row.mask)) rows

  -- the new row is none of them, where its mask is below 2 ^ 128
  is_no_empty : eqb new.mask 0 ≡ false → new.mask < 2 ^ 128 → cond {A = ℕ} (not (is_mask new.mask)) 1 0 ≡ 0
  is_no_empty some within = ap (λ (b : Bool). cond {A = ℕ} (not b) 1 0) is
    where
      is : is_mask new.mask ≡ true
      is = grind (arith, nat_tests)

  pub empties-with_mask : (rows : List MaskRow) → new.mask < 2 ^ 128 → empties rows ≡ 0 → empties (with_mask new rows) ≡ 0
  empties-with_mask [] within none = either (eqb new.mask 0) refl
    where
      either : (z : Bool) → eqb new.mask 0 ≡ z → empties (cond z [] (new ∷ [])) ≡ 0
      either true g = refl
      either false g = omega (arith, count_by-cons (λ r. not (is_mask r.mask)) new [], is_no_empty g within)
  empties-with_mask (row ∷ rows) within none = split (mask_below row new) (is_mask_of new.channel new.word row) (eqb new.mask 0) refl refl refl (empties-with_mask rows within)
    where
      counted : empties (row ∷ rows) ≡ cond (not (is_mask row.mask)) 1 0 + empties rows
      counted = count_by-cons (λ r. not (is_mask r.mask)) row rows

      split : (b s z : Bool) → mask_below row new ≡ b → is_mask_of new.channel new.word row ≡ s → eqb new.mask 0 ≡ z → (empties rows ≡ 0 → empties (with_mask new rows) ≡ 0) → empties (with_mask new (row ∷ rows)) ≡ 0
      split true s z e f g rest = rw e (omega (arith, rest (omega (arith, counted, none)), counted, none, count_by-cons (λ r. not (is_mask r.mask)) row (with_mask new rows)))
      split false true true e f g rest = rw (e, f, g) (omega (arith, counted, none))
      split false true false e f g rest = rw (e, f, g) (omega (arith, counted, none, count_by-cons (λ r. not (is_mask r.mask)) new rows, is_no_empty g within))
      split false false true e f g rest = rw (e, f, g) none
      split false false false e f g rest = rw (e, f, g) (omega (arith, none, count_by-cons (λ r. not (is_mask r.mask)) new (row ∷ rows), is_no_empty g within))

  pub length-with_mask : (rows : List MaskRow) → length (with_mask new rows) ≤ length rows + 1
  length-with_mask [] = either (eqb new.mask 0)
    where
      either : (z : Bool) → length (cond z [] (new ∷ [])) ≤ length {A = MaskRow} [] + 1
      either true = omega arith
      either false = omega arith
  length-with_mask (row ∷ rows) = split (mask_below row new) (is_mask_of new.channel new.word row) (eqb new.mask 0) refl refl refl (length-with_mask rows)
    where
      split : (b s z : Bool) → mask_below row new ≡ b → is_mask_of new.channel new.word row ≡ s → eqb new.mask 0 ≡ z → length (with_mask new rows) ≤ length rows + 1 → length (with_mask new (row ∷ rows)) ≤ length (row ∷ rows) + 1
      split true s z e f g rest = rw e (omega (arith, rest))
      split false true true e f g rest = rw (e, f, g) (omega arith)
      split false true false e f g rest = rw (e, f, g) (omega arith)
      split false false true e f g rest = rw (e, f, g) (omega arith)
      split false false false e f g rest = rw (e, f, g) (omega arith)

pub mask_at-lt : (channel : ChannelId) (word : ℕ) (rows : List MaskRow) → count_by (λ row. not (is_mask row.mask)) rows ≡ 0 → mask_at channel word rows < 2 ^ 128
mask_at-lt channel word [] none = omega arith
mask_at-lt channel word (row ∷ rows) none =
    let counted = count_by-cons (λ r. not (is_mask r.mask)) row rows in
    step (is_mask_of channel word row) (is_mask row.mask) refl refl (omega (arith, counted, none)) (mask_at-lt channel word rows (omega (arith, counted, none)))
  where
    step : (b m : Bool) → is_mask_of channel word row ≡ b → is_mask row.mask ≡ m → cond {A = ℕ} (not (is_mask row.mask)) 1 0 ≡ 0 → mask_at channel word rows < 2 ^ 128 → mask_at channel word (row ∷ rows) < 2 ^ 128
    step b true e m counted rest = grind (arith, nat_tests)
    step b false e m counted rest = absurd (omega (arith, counted, ap (λ (k : Bool). cond {A = ℕ} (not k) 1 0) m))

-- ---- one bit of a mask

pub bit_set : (mask k i : ℕ) → k < 128 → bit_at (bit_or mask (1 * 2 ^ k % 2 ^ 128)) i ≡ cond (eqb i k) 1 (bit_at mask i)
bit_set mask k i within = step (eqb i k) refl
  where
    step : (b : Bool) → eqb i k ≡ b → bit_at (bit_or mask (1 * 2 ^ k % 2 ^ 128)) i ≡ cond b 1 (bit_at mask i)
    step true e = subst (λ (j : ℕ). bit_at (bit_or mask (1 * 2 ^ k % 2 ^ 128)) j ≡ 1) (sym (eqb-true _ _ e)) (bit_at_set_same w128 mask k within)
    step false e = bit_at_set_other w128 mask k within i (λ same. cc (eq-eqb i k same))

pub bit_clear : (mask k i : ℕ) → k < 128 → i < 128 → bit_at (bit_and mask (bit_not w128 (1 * 2 ^ k % 2 ^ 128))) i ≡ cond (eqb i k) 0 (bit_at mask i)
bit_clear mask k i within inside = step (eqb i k) refl
  where
    step : (b : Bool) → eqb i k ≡ b → bit_at (bit_and mask (bit_not w128 (1 * 2 ^ k % 2 ^ 128))) i ≡ cond b 0 (bit_at mask i)
    step true e = subst (λ (j : ℕ). bit_at (bit_and mask (bit_not w128 (1 * 2 ^ k % 2 ^ 128))) j ≡ 0) (sym (eqb-true _ _ e)) (bit_at_clear_same w128 mask k within)
    step false e = bit_at_clear_other w128 mask k within i inside (λ same. cc (eq-eqb i k same))

-- ---- the same, as code finds the place and tests the row there

module _ (channel : ChannelId) (word : ℕ) (rows seen again : List MaskRow) (place : ℕ) (e : seen ≡ rows) (f : again ≡ rows) (found : place ≡ place_for channel word seen) where
  place_is : place ≡ place_for channel word rows
  place_is = found ∙ ap (place_for channel word) e

  abbrev row_with : ℕ → MaskRow
  row_with mask = record { channel = channel; word = word; mask = mask }

  -- the row that is there gets another mask, or is taken out
  pub put_over : (next : ℕ → ℕ) (d : MaskRow) (old : ℕ) → place < length again → ((d : MaskRow) → place < length again → is_mask_of channel word (get_or again place d) ≡ true) → old ≡ (get_or rows place d).mask
      → cond (eqb (next old) 0) (remove rows place) (set rows place (row_with (next old))) ≡ with_mask (row_with (next (mask_at channel word rows))) rows
  put_over next d old within same is =
      subst (λ (m : ℕ). cond (eqb (next m) 0) (remove rows place) (set rows place (row_with (next m))) ≡ with_mask (row_with (next (mask_at channel word rows))) rows) (sym old_is)
      (step (eqb (next (mask_at channel word rows)) 0) refl)
    where
      inside : place_for channel word rows < length rows
      inside = omega (arith, within, place_is, ap length f)

      there : is_mask_of channel word (get_or rows (place_for channel word rows) d) ≡ true
      there = rw (f, place_is) at (same d within)

      old_is : old ≡ mask_at channel word rows
      old_is = is ∙ ap (λ (k : ℕ). (get_or rows k d).mask) place_is ∙ sym (mask_at-there channel word rows d inside there)

      step : (z : Bool) → eqb (next (mask_at channel word rows)) 0 ≡ z → cond z (remove rows place) (set rows place (row_with (next (mask_at channel word rows)))) ≡ with_mask (row_with (next (mask_at channel word rows))) rows
      step true g = rw place_is (with_mask-remove (row_with (next (mask_at channel word rows))) rows d g inside there)
      step false g = rw place_is (with_mask-set (row_with (next (mask_at channel word rows))) rows d g inside there)

  module _ (rise : Rises mask_below rows) (other : (d : MaskRow) → place < length again → is_mask_of channel word (get_or again place d) ≡ false) where
    not_there : (d : MaskRow) → place_for channel word rows < length rows → is_mask_of channel word (get_or rows (place_for channel word rows) d) ≡ false
    not_there d lt = rw (f, place_is) at (other d (omega (arith, lt, place_is, ap length f)))

    none_yet : mask_at channel word rows ≡ 0
    none_yet = mask_at-absent channel word rows rise not_there

    -- a row with one bit goes in
    pub put_before : (k : ℕ) → k < 128 → insert rows place (row_with (1 * 2 ^ k % 2 ^ 128)) ≡ with_mask (row_with (bit_or (mask_at channel word rows) (1 * 2 ^ k % 2 ^ 128))) rows
    put_before k within =
        subst (λ (m : ℕ). insert rows place (row_with (1 * 2 ^ k % 2 ^ 128)) ≡ with_mask (row_with (bit_or m (1 * 2 ^ k % 2 ^ 128))) rows) (sym none_yet)
        (subst (λ (m : ℕ). insert rows place (row_with (1 * 2 ^ k % 2 ^ 128)) ≡ with_mask (row_with m) rows) (sym alone)
        (rw place_is (with_mask-insert (row_with (1 * 2 ^ k % 2 ^ 128)) rows some not_there)))
      where
        alone : bit_or 0 (1 * 2 ^ k % 2 ^ 128) ≡ 1 * 2 ^ k % 2 ^ 128
        alone = or_disjoint 0 (1 * 2 ^ k % 2 ^ 128) (omega (arith, and_le_l 0 (1 * 2 ^ k % 2 ^ 128))) ∙ omega arith

        some : eqb (1 * 2 ^ k % 2 ^ 128) 0 ≡ false
        some = ne_eqb _ _ (λ zero. omega (arith, zero, one_shl k 128 within, pow_pos k))

    -- nothing is cleared where nothing is set
    pub put_none : (bits : ℕ) → rows ≡ with_mask (row_with (bit_and (mask_at channel word rows) bits)) rows
    put_none bits =
        with_mask-none (row_with (bit_and (mask_at channel word rows) bits)) rows (eq-eqb _ _ (omega (arith, none_yet, and_le_l (mask_at channel word rows) bits))) not_there
