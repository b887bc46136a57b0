-- Lists of rows, each before those after it: a row more, and which rows have no like among others.
use Rattle.std.specs.Prelude.{ℕ, suc, Bool, true, false, not, List, [], ◌∷◌, ◌++◌, if◌then◌else◌, IsTrue, Option, Some, None}
use Rattle.std.specs.List.{AllPairs}
use Rattle.mum_keeper.specs.declared.merge.Step.{Step}
use Rattle.mum_keeper.specs.declared.merge.Step.TheVariants as steps

-- two rows of one key are alike
abbrev pub any_like : {A : Type 0} → A → A → Bool
any_like row other = true

module _ {A : Type 0} (before : A → A → Bool) where
  -- each row is before those after it
  abbrev pub Rise : List A → Type 0
  Rise rows = AllPairs (λ row later. IsTrue (before row later)) rows

  -- the row at its place among the others, in place of one that is neither before it nor after it
  abbrev pub with_row : A → List A → List A
  with_row new [] = new ∷ []
  with_row new (row ∷ rows) =
      if before row new then row ∷ with_row new rows
      else if before new row then new ∷ row ∷ rows
      else new ∷ rows

  -- how many rows come before this one
  abbrev pub place_of : A → List A → ℕ
  place_of new [] = 0
  place_of new (row ∷ rows) = if before row new then suc (place_of new rows) else 0

  -- the row that is there, if one is, has the key of the new one, which does not come after it
  abbrev pub is_taken : A → Option A → Bool
  is_taken new None = false
  is_taken new (Some row) = not (before new row)

  -- of two lists that rise, the rows of the first that have no like in the second: `is_like` is asked of two of which
  -- neither is before the other
  unfoldable pub unmatched : (is_like : A → A → Bool) → List A → List A → List A
  unmatched is_like [] others = []
  unmatched is_like (row ∷ rows) [] = row ∷ unmatched is_like rows []
  unmatched is_like (row ∷ rows) (other ∷ others) =
      if before row other then row ∷ unmatched is_like rows (other ∷ others)
      else if before other row then unmatched is_like (row ∷ rows) others
      else (if is_like row other then [] else row ∷ []) ++ unmatched is_like rows others

  -- how the first rows of two lists lie
  abbrev pub step_of : (is_like : A → A → Bool) → A → Option A → Step
  step_of is_like row None = steps.Alone
  step_of is_like row (Some other) =
      if before row other then steps.Alone
      else if before other row then steps.Behind
      else if is_like row other then steps.Same
      else steps.Differs

-- how many rows of the first list are done with, and how many of the other
abbrev pub rows_done : Step → ℕ
rows_done steps.Alone = 1
rows_done steps.Behind = 0
rows_done steps.Same = 1
rows_done steps.Differs = 1

abbrev pub others_done : Step → ℕ
others_done steps.Alone = 0
others_done steps.Behind = 1
others_done steps.Same = 1
others_done steps.Differs = 1

-- the row has none of its key among the others
abbrev pub is_alone : Step → Bool
is_alone steps.Alone = true
is_alone steps.Behind = false
is_alone steps.Same = false
is_alone steps.Differs = false

-- the row has no like among the others
abbrev pub is_new : Step → Bool
is_new steps.Alone = true
is_new steps.Behind = false
is_new steps.Same = false
is_new steps.Differs = true
