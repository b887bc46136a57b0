-- The first of several causes, in an order that a law says itself.
use Rattle.std.specs.Prelude.{◌≡◌, List, ◌∷◌, ◌++◌, Option, Some, None}
use Rattle.std.specs.List.{All}

-- the cause applies, and none before it in the order
pub record IsFirst {Cause : Type 0} (Applies : Cause → Type 0) (order : List Cause) (cause : Cause) : Type 0 where
  pub earlier : List Cause
  pub later : List Cause
  pub whole : order ≡ earlier ++ cause ∷ later
  pub applies : Applies cause
  pub none_earlier : All (λ other. ¬ Applies other) earlier

-- the answer is the first that applies; where none does it is none
abbrev pub NamesFirst : {Cause : Type 0} → (Cause → Type 0) → List Cause → Option Cause → Type 0
NamesFirst Applies order None = All (λ cause. ¬ Applies cause) order
NamesFirst Applies order (Some cause) = IsFirst Applies order cause
