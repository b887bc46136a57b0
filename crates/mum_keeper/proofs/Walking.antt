-- Steps along two lists of rows: what one of them adds, and what is left.
use Rattle.mum_keeper.proofs.Common.{◌≡◌, ℕ, zero, suc, ◌+◌, ◌<◌, ◌≤◌, Bool, true, false, if◌then◌else◌, List, [], ◌∷◌, ◌++◌, append_assoc, drop, map, set, length, get_or, Option, Some, None, refl, sym, ap, subst, ◌∙◌, arith, slice_get, insert, slice_get_within, append-nil, drop-drop, drop_all, map-append, any_like, is_alone, is_new, is_taken, others_done, place_of, rows_done, step_of, unmatched, with_row, Step}
use Rattle.mum_keeper.specs.declared.merge.Step.TheVariants as steps

-- ---- lists from a place on

-- what is at the place, and then the rest
abbrev begins : {A : Type 0} → Option A → List A → List A
begins None rest = []
begins (Some first) rest = first ∷ rest

from_place : {A : Type 0} (xs : List A) (at : ℕ) (x : A) → at < length xs → x ≡ get_or xs at x → drop at xs ≡ x ∷ drop (suc at) xs
from_place [] at x within is = absurd (omega arith)
from_place (y ∷ xs) zero x within is = ap (λ z. z ∷ xs) (sym is)
from_place (y ∷ xs) (suc at) x within is = from_place xs at x (omega arith) is

from_given : {A : Type 0} (xs : List A) (at : ℕ) (given : Option A) → given ≡ slice_get xs at → drop at xs ≡ begins given (drop (suc at) xs)
from_given [] zero given is = sym (ap (λ g. begins g []) is)
from_given [] (suc at) given is = sym (ap (λ g. begins g []) is)
from_given (y ∷ xs) zero given is = sym (ap (λ g. begins g xs) is)
from_given (y ∷ xs) (suc at) given is = from_given xs at given is

-- ---- one step

module _ {A : Type 0} (before same : A → A → Bool) where
  abbrev step_by : Bool → Bool → Bool → Step
  step_by first second like = if first then steps.Alone else if second then steps.Behind else if like then steps.Same else steps.Differs

  abbrev left : (A → A → Bool) → Step → List A → List A → List A
  left is_like step rows others = unmatched before is_like (drop (rows_done step) rows) (drop (others_done step) others)

  gone_by : (first second like : Bool) (row other : A) (rows others alone behind both : List A)
      → alone ≡ unmatched before any_like rows (other ∷ others) → behind ≡ unmatched before any_like (row ∷ rows) others → both ≡ unmatched before any_like rows others
      → (if first then row ∷ alone else if second then behind else both)
      ≡ (if is_alone (step_by first second like) then row ∷ [] else []) ++ left any_like (step_by first second like) (row ∷ rows) (other ∷ others)
  gone_by true second like row other rows others alone behind both a b c = ap (λ l. row ∷ l) a
  gone_by false true like row other rows others alone behind both a b c = b
  gone_by false false true row other rows others alone behind both a b c = c
  gone_by false false false row other rows others alone behind both a b c = c

  gone_first : (row : A) (rows : List A) (other : Option A) (others : List A)
      → unmatched before any_like (row ∷ rows) (begins other others)
      ≡ (if is_alone (step_of before same row other) then row ∷ [] else []) ++ left any_like (step_of before same row other) (row ∷ rows) (begins other others)
  unfolding unmatched
  gone_first row rows None others = refl
  gone_first row rows (Some other) others =
      gone_by (before row other) (before other row) (same row other) row other rows others (unmatched before any_like rows (other ∷ others)) (unmatched before any_like (row ∷ rows) others) (unmatched before any_like rows others) refl refl refl

  come_by : (first second like : Bool) (row other : A) (rows others alone behind both : List A)
      → alone ≡ unmatched before same rows (other ∷ others) → behind ≡ unmatched before same (row ∷ rows) others → both ≡ unmatched before same rows others
      → (if first then row ∷ alone else if second then behind else (if like then [] else row ∷ []) ++ both)
      ≡ (if is_new (step_by first second like) then row ∷ [] else []) ++ left same (step_by first second like) (row ∷ rows) (other ∷ others)
  come_by true second like row other rows others alone behind both a b c = ap (λ l. row ∷ l) a
  come_by false true like row other rows others alone behind both a b c = b
  come_by false false true row other rows others alone behind both a b c = c
  come_by false false false row other rows others alone behind both a b c = ap (λ l. row ∷ l) c

  come_first : (row : A) (rows : List A) (other : Option A) (others : List A)
      → unmatched before same (row ∷ rows) (begins other others)
      ≡ (if is_new (step_of before same row other) then row ∷ [] else []) ++ left same (step_of before same row other) (row ∷ rows) (begins other others)
  unfolding unmatched
  come_first row rows None others = refl
  come_first row rows (Some other) others =
      come_by (before row other) (before other row) (same row other) row other rows others (unmatched before same rows (other ∷ others)) (unmatched before same (row ∷ rows) others) (unmatched before same rows others) refl refl refl

  -- ---- a step at a place in each list

  module _ (rows others : List A) (at at_other : ℕ) (row : A) (other : Option A) (step : Step) (within : at < length rows) (is_row : row ≡ get_or rows at row)
      (is_other : other ≡ slice_get others at_other) (is_step : step ≡ step_of before same row other) where
    left_at : (is_like : A → A → Bool) → left is_like step (row ∷ drop (suc at) rows) (begins other (drop (suc at_other) others))
        ≡ unmatched before is_like (drop (at + rows_done step) rows) (drop (at_other + others_done step) others)
    left_at is_like =
        ap (λ l. left is_like step l (begins other (drop (suc at_other) others))) (sym (from_place rows at row within is_row))
        ∙ (ap (λ l. left is_like step (drop at rows) l) (sym (from_given others at_other other is_other))
        ∙ (ap (λ l. unmatched before is_like l (drop (others_done step) (drop at_other others))) (drop-drop (rows_done step) at rows)
        ∙ ap (λ l. unmatched before is_like (drop (at + rows_done step) rows) l) (drop-drop (others_done step) at_other others)))

    begun : (is_like : A → A → Bool) → unmatched before is_like (drop at rows) (drop at_other others)
        ≡ unmatched before is_like (row ∷ drop (suc at) rows) (begins other (drop (suc at_other) others))
    begun is_like =
        ap (λ l. unmatched before is_like l (drop at_other others)) (from_place rows at row within is_row)
        ∙ ap (λ l. unmatched before is_like (row ∷ drop (suc at) rows) l) (from_given others at_other other is_other)

    pub gone_step : unmatched before any_like (drop at rows) (drop at_other others)
        ≡ (if is_alone step then row ∷ [] else []) ++ unmatched before any_like (drop (at + rows_done step) rows) (drop (at_other + others_done step) others)
    gone_step =
        begun any_like
        ∙ (subst (λ (s : Step). unmatched before any_like (row ∷ drop (suc at) rows) (begins other (drop (suc at_other) others)) ≡ (if is_alone s then row ∷ [] else []) ++ left any_like s (row ∷ drop (suc at) rows) (begins other (drop (suc at_other) others)))
        (sym is_step) (gone_first row (drop (suc at) rows) other (drop (suc at_other) others))
        ∙ ap (λ l. (if is_alone step then row ∷ [] else []) ++ l) (left_at any_like))

    pub come_step : unmatched before same (drop at rows) (drop at_other others)
        ≡ (if is_new step then row ∷ [] else []) ++ unmatched before same (drop (at + rows_done step) rows) (drop (at_other + others_done step) others)
    come_step =
        begun same
        ∙ (subst (λ (s : Step). unmatched before same (row ∷ drop (suc at) rows) (begins other (drop (suc at_other) others)) ≡ (if is_new s then row ∷ [] else []) ++ left same s (row ∷ drop (suc at) rows) (begins other (drop (suc at_other) others)))
        (sym is_step) (come_first row (drop (suc at) rows) other (drop (suc at_other) others))
        ∙ ap (λ l. (if is_new step then row ∷ [] else []) ++ l) (left_at same))

-- ---- steps stay within the lists

module _ {A : Type 0} (before same : A → A → Bool) where
  within_by : (first second like : Bool) (at_other count : ℕ) → at_other < count
      → (rows_done (step_by before same first second like) ≤ 1) × (at_other + others_done (step_by before same first second like) ≤ count) × (1 ≤ rows_done (step_by before same first second like) + others_done (step_by before same first second like))
  within_by true second like at_other count less = (omega arith, omega arith, omega arith)
  within_by false true like at_other count less = (omega arith, omega arith, omega arith)
  within_by false false true at_other count less = (omega arith, omega arith, omega arith)
  within_by false false false at_other count less = (omega arith, omega arith, omega arith)

  pub stays_within : (others : List A) (at_other : ℕ) (row : A) (other : Option A) → at_other ≤ length others → other ≡ slice_get others at_other
      → (rows_done (step_of before same row other) ≤ 1) × (at_other + others_done (step_of before same row other) ≤ length others) × (1 ≤ rows_done (step_of before same row other) + others_done (step_of before same row other))
  stays_within others at_other row None most is = (omega arith, omega arith, omega arith)
  stays_within others at_other row (Some other) most is =
      within_by (before row other) (before other row) (same row other) at_other (length others) (slice_get_within others at_other other (sym is))

-- ---- what a loop has added after a step, and at its end

added : {A C : Type 0} (f : A → C) (front new whole : List C) (more rest all : List A) → new ≡ front ++ map f more → all ≡ more ++ rest → front ++ map f all ≡ whole → new ++ map f rest ≡ whole
added f front new whole more rest all is parts so =
    ap (λ l. l ++ map f rest) is
    ∙ (append_assoc front (map f more) (map f rest)
    ∙ (ap (λ l. front ++ l) (sym (map-append f more rest))
    ∙ (ap (λ l. front ++ map f l) (sym parts) ∙ so)))

pub walked_all : {A C : Type 0} (before like : A → A → Bool) (f : A → C) (rows others : List A) (at at_other : ℕ) (front whole : List C) → length rows ≤ at
    → front ++ map f (unmatched before like (drop at rows) (drop at_other others)) ≡ whole → front ≡ whole
unfolding unmatched
walked_all before like f rows others at at_other front whole past so =
    sym (append-nil front)
    ∙ (ap (λ l. front ++ map f (unmatched before like l (drop at_other others))) (sym (drop_all at rows past)) ∙ so)

module _ {A C : Type 0} (before same : A → A → Bool) (f : A → C) (rows others : List A) (at at_other n m : ℕ) (row : A) (other : Option A) (step : Step) (front new whole : List C)
    (within : at < length rows) (is_row : row ≡ get_or rows at row) (is_other : other ≡ slice_get others at_other) (is_step : step ≡ step_of before same row other)
    (is_n : n ≡ rows_done step) (is_m : m ≡ others_done step) where
  abbrev left_of : (A → A → Bool) → ℕ → ℕ → List A
  left_of like i j = unmatched before like (drop (at + i) rows) (drop (at_other + j) others)

  counted : (like : A → A → Bool) → left_of like (rows_done step) (others_done step) ≡ left_of like n m
  counted like = ap (λ i. left_of like i (others_done step)) (sym is_n) ∙ ap (λ j. left_of like n j) (sym is_m)

  pub gone_next : new ≡ front ++ map f (if is_alone step then row ∷ [] else [])
      → front ++ map f (unmatched before any_like (drop at rows) (drop at_other others)) ≡ whole
      → new ++ map f (unmatched before any_like (drop (at + n) rows) (drop (at_other + m) others)) ≡ whole
  gone_next is so =
      added f front new whole (if is_alone step then row ∷ [] else []) (left_of any_like n m) (unmatched before any_like (drop at rows) (drop at_other others)) is
      (gone_step before same rows others at at_other row other step within is_row is_other is_step ∙ ap (λ l. (if is_alone step then row ∷ [] else []) ++ l) (counted any_like)) so

  pub come_next : new ≡ front ++ map f (if is_new step then row ∷ [] else [])
      → front ++ map f (unmatched before same (drop at rows) (drop at_other others)) ≡ whole
      → new ++ map f (unmatched before same (drop (at + n) rows) (drop (at_other + m) others)) ≡ whole
  come_next is so =
      added f front new whole (if is_new step then row ∷ [] else []) (left_of same n m) (unmatched before same (drop at rows) (drop at_other others)) is
      (come_step before same rows others at at_other row other step within is_row is_other is_step ∙ ap (λ l. (if is_new step then row ∷ [] else []) ++ l) (counted same)) so

  -- the step stays within the lists, and less is left
  pub next_within : at_other ≤ length others → (at + n ≤ length rows) × (at_other + m ≤ length others) × (1 ≤ n + m)
  next_within most =
      let stays = subst (λ (s : Step). (rows_done s ≤ 1) × (at_other + others_done s ≤ length others) × (1 ≤ rows_done s + others_done s)) (sym is_step) (stays_within before same others at_other row other most is_other) in
      (omega (arith, stays.0, is_n, within), omega (arith, stays.1, is_m), omega (arith, stays.2, is_n, is_m))

-- ---- the place of a row

pub place_more : {A : Type 0} (before : A → A → Bool) (new : A) (rows : List A) (at : ℕ) (row : A) → at < length rows → row ≡ get_or rows at row → before row new ≡ true
    → at + place_of before new (drop at rows) ≡ place_of before new rows → (at + 1) + place_of before new (drop (at + 1) rows) ≡ place_of before new rows
place_more before new rows at row within is_row is so =
    let from : drop at rows ≡ row ∷ drop (suc at) rows = from_place rows at row within is_row in
    let less : place_of before new (drop at rows) ≡ suc (place_of before new (drop (suc at) rows)) =
    ap (λ l. place_of before new l) from ∙ rw is refl in
    let next : suc at ≡ at + 1 = omega arith in
    subst (λ (k : ℕ). k + place_of before new (drop k rows) ≡ place_of before new rows) next (omega (arith, less, so))

pub place_here : {A : Type 0} (before : A → A → Bool) (new : A) (rows : List A) (at : ℕ) (row : A) → at < length rows → row ≡ get_or rows at row → before row new ≡ false
    → at + place_of before new (drop at rows) ≡ place_of before new rows → at ≡ place_of before new rows
place_here before new rows at row within is_row is so =
    let from : drop at rows ≡ row ∷ drop (suc at) rows = from_place rows at row within is_row in
    let none : place_of before new (drop at rows) ≡ 0 = ap (λ l. place_of before new l) from ∙ rw is refl in
    omega (arith, none, so)

pub place_past : {A : Type 0} (before : A → A → Bool) (new : A) (rows : List A) (at : ℕ) → length rows ≤ at
    → at + place_of before new (drop at rows) ≡ place_of before new rows → at ≡ place_of before new rows
place_past before new rows at past so =
    let none : place_of before new (drop at rows) ≡ 0 = ap (λ l. place_of before new l) (drop_all at rows past) in
    omega (arith, none, so)

-- ---- a row that is put at its place

pub place_within : {A : Type 0} (before : A → A → Bool) (new : A) (rows : List A) → place_of before new rows ≤ length rows
place_within before new [] = omega arith
place_within before new (row ∷ rows) = step (before row new) (place_within before new rows)
  where
    step : (b : Bool) → place_of before new rows ≤ length rows → (if b then suc (place_of before new rows) else 0) ≤ suc (length rows)
    step true rest = omega (arith, rest)
    step false rest = omega arith

-- the new row takes the place of one that has its key, or is put before the one at its place
pub put_at_place : {A : Type 0} (before : A → A → Bool) (new : A) (rows : List A) (taken : Bool) → is_taken before new (slice_get rows (place_of before new rows)) ≡ taken
    → with_row before new rows ≡ (if taken then set rows (place_of before new rows) new else insert rows (place_of before new rows) new)
put_at_place before new [] true is = absurd (cc is)
put_at_place before new [] false is = refl
put_at_place {A} before new (first ∷ rows) taken is = step (λ t here. put_at_place before new rows t here) (before first new) (before new first) taken refl is
  where
    further : (t : Bool) → with_row before new rows ≡ (if t then set rows (place_of before new rows) new else insert rows (place_of before new rows) new)
        → first ∷ with_row before new rows ≡ (if t then set (first ∷ rows) (suc (place_of before new rows)) new else insert (first ∷ rows) (suc (place_of before new rows)) new)
    further true so = ap (λ (l : List A). first ∷ l) so
    further false so = ap (λ (l : List A). first ∷ l) so

    step : ((t : Bool) → is_taken before new (slice_get rows (place_of before new rows)) ≡ t → with_row before new rows ≡ (if t then set rows (place_of before new rows) new else insert rows (place_of before new rows) new))
        → (b c t : Bool) → before new first ≡ c → is_taken before new (slice_get (first ∷ rows) (if b then suc (place_of before new rows) else 0)) ≡ t
        → (if b then first ∷ with_row before new rows else if c then new ∷ first ∷ rows else new ∷ rows)
        ≡ (if t then set (first ∷ rows) (if b then suc (place_of before new rows) else 0) new else insert (first ∷ rows) (if b then suc (place_of before new rows) else 0) new)
    step rest true c t on here = further t (rest t here)
    step rest false true true on here = absurd (cc (here, on))
    step rest false true false on here = refl
    step rest false false true on here = refl
    step rest false false false on here = absurd (cc (here, on))

-- the same, of the rows as the code has them
pub put_over : {A : Type 0} (before : A → A → Bool) (new : A) (rows one two : List A) (at : ℕ) (taken : Bool) → one ≡ rows → two ≡ rows → at ≡ place_of before new one
    → is_taken before new (slice_get two at) ≡ taken → (if taken then set rows at new else insert rows at new) ≡ with_row before new rows
put_over before new rows one two at taken is_one is_two is_at is =
    let place : at ≡ place_of before new rows = is_at ∙ ap (λ l. place_of before new l) is_one in
    let there : is_taken before new (slice_get rows (place_of before new rows)) ≡ taken =
    ap (λ k. is_taken before new (slice_get rows k)) (sym place) ∙ (ap (λ l. is_taken before new (slice_get l at)) (sym is_two) ∙ is) in
    ap (λ k. if taken then set rows k new else insert rows k new) place ∙ sym (put_at_place before new rows taken there)

-- a row that has the key is there
pub taken_within : {A : Type 0} (before : A → A → Bool) (new : A) (rows : List A) (at : ℕ) → is_taken before new (slice_get rows at) ≡ true → at < length rows
taken_within before new [] zero is = absurd (cc is)
taken_within before new [] (suc at) is = absurd (cc is)
taken_within before new (row ∷ rows) zero is = omega arith
taken_within before new (row ∷ rows) (suc at) is = let less = taken_within before new rows at is in omega (arith, less)
