-- What the calls of a keeper answer, and what they leave.
use Rattle.std.specs.Prelude.{◌≡◌, ℕ, List, [], ◌∷◌, ◌++◌, Option, IfSome, ⊤}
use Rattle.std.specs.Option.{option_map}
use Rattle.mum_io.specs.Counts.{Rose}
use Rattle.mum_kept.specs.declared.rows.KeptRows.{KeptRows}
use Rattle.mum_keeper.specs.Changes.{AreInOrder, all_made}
use Rattle.mum_keeper.specs.declared.{change.Change.Change, keeper.KeepEnd.KeepEnd, keeper.Loaded.Loaded}
use Rattle.mum_keeper.specs.declared.keeper.KeepEnd.TheVariants as ends
use Rattle.mum_keeper.specs.declared.keeper.Loaded.TheVariants as loaded

-- a call of a keeper, with what it was handed
pub data KeeperCall : Type 0 where
  OpenCall : List ℕ → KeeperCall
  LoadCall : KeeperCall
  KeepCall : List Change → KeeperCall

-- what is known of a keeper: how many calls failed; the rows that it has, the path at which it was opened, and all calls in
-- order, where these are known
pub record KeeperFacts : Type 0 where
  pub faults : ℕ
  pub rows : Option KeptRows
  pub opened_at : Option (List ℕ)
  pub calls : Option (List KeeperCall)

-- one call more
abbrev pub with_call : KeeperCall → Option (List KeeperCall) → Option (List KeeperCall)
with_call call calls = option_map (λ made. made ++ call ∷ []) calls

-- a fault is counted exactly where a call failed
abbrev pub KeepCounts : KeepEnd → ℕ → ℕ → Type 0
KeepCounts ends.Kept old new = new ≡ old
KeepCounts ends.Failed old new = Rose old new
KeepCounts ends.NoMemory old new = new ≡ old

-- the same of a call that asks for rows
abbrev pub LoadCounts : Loaded → ℕ → ℕ → Type 0
LoadCounts (loaded.Rows rows) old new = new ≡ old
LoadCounts loaded.Failed old new = Rose old new
LoadCounts loaded.NoMemory old new = new ≡ old

-- the path of the keeper, where it is known, is the one at which it was opened, or as before
abbrev pub OpensAt : KeepEnd → Option (List ℕ) → Option (List ℕ) → List ℕ → Type 0
OpensAt ends.Kept old new path = IfSome new (λ known. known ≡ path)
OpensAt ends.Failed old new path = new ≡ old
OpensAt ends.NoMemory old new path = new ≡ old

-- these are the keeper's rows, where they are known, and then they are in order
abbrev pub AreRowsOf : Option KeptRows → KeptRows → Type 0
AreRowsOf known_rows rows = IfSome known_rows (λ known. (known ≡ rows) × AreInOrder known)

abbrev pub Loads : Loaded → Option KeptRows → Type 0
Loads (loaded.Rows rows) known = AreRowsOf known rows
Loads loaded.Failed known = ⊤
Loads loaded.NoMemory known = ⊤

-- all changes were made, or the rows are as they were
abbrev pub Makes : KeepEnd → List Change → Option KeptRows → Option KeptRows → Type 0
Makes ends.Kept changes old new = new ≡ option_map (all_made changes) old
Makes ends.Failed changes old new = new ≡ old
Makes ends.NoMemory changes old new = new ≡ old
