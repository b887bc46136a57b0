-- The keeper of a server before its run: it is opened and asked for its rows, where channels are kept; and what these are for.
use Rattle.std.specs.Prelude.{◌≡◌, ⊤, ℕ, List, [], ◌∷◌, ◌++◌, IfSome, Option, Some, None, Result, Ok, Err}
use Rattle.mum_io.specs.Counts.{Rose}
use Rattle.mum_state.specs.declared.edit.Edit.{Edit}
use Rattle.mum_state.specs.{After.after, State.StateValue}
use Rattle.mum_config.specs.Limits.{settings_and_accounts}
use Rattle.mum_opening.specs.Opening.{served_edits}
use Rattle.mum_kept.specs.{Good.IsGood, Rebuild.rebuild}
use Rattle.mum_kept.specs.declared.rows.{KeptChannel.KeptChannel, KeptRows.KeptRows}
use Rattle.mum_keeper.specs.Keeping.{AreRowsOf, KeeperFacts}
use Rattle.mum_serve.specs.declared.load.LoadFault.{LoadFault}
use Rattle.mum_serve.specs.declared.load.LoadFault.TheVariants as faults

-- ---- what a server begins with

-- the edits of a configuration, where no channel was kept; and else its settings and its accounts alone, and then the edits
-- that make the kept channels again
abbrev pub edits_beside : List Edit → KeptRows → List KeptChannel → List Edit
edits_beside edits rows [] = edits
edits_beside edits rows (channel ∷ channels) = settings_and_accounts edits ++ rebuild rows

-- the same, where rows were loaded
abbrev pub edits_over : List Edit → Option KeptRows → List Edit
edits_over edits None = edits
edits_over edits (Some rows) = edits_beside edits rows rows.channels

-- the state at which a server begins that is given these edits of a configuration, and these rows, where channels are kept
abbrev pub state_over : List Edit → Option KeptRows → StateValue
state_over edits rows = after (served_edits (edits_over edits rows))

-- ---- what a keeper answers

-- the rows are good; or not, or memory ran out
abbrev pub AreGoodOr : KeptRows → Result KeptRows LoadFault → Type 0
AreGoodOr rows (Ok these) = (these ≡ rows) × IsGood rows
AreGoodOr rows (Err faults.NotGood) = IsGood rows → ⊥
AreGoodOr rows (Err faults.OutOfMemory) = ⊤
AreGoodOr rows (Err faults.Failed) = ⊥

module _ {P : Type 0} (keeper_facts : P → KeeperFacts) where
  -- no call failed, and what is known of its rows and its path is the same
  pub record IsAsBefore (keeper left : P) : Type 0 where
    pub counted : (keeper_facts left).faults ≡ (keeper_facts keeper).faults
    pub rows : (keeper_facts left).rows ≡ (keeper_facts keeper).rows
    pub path : (keeper_facts left).opened_at ≡ (keeper_facts keeper).opened_at

  -- the keeper was opened at this path, and gave these rows: its own, where these are known. No call failed
  pub record HasLoaded (path : List ℕ) (keeper loaded : P) (rows : KeptRows) : Type 0 where
    pub at : IfSome (keeper_facts loaded).opened_at (λ known. known ≡ path)
    pub are : AreRowsOf (keeper_facts loaded).rows rows
    pub same : (keeper_facts loaded).rows ≡ (keeper_facts keeper).rows
    pub counted : (keeper_facts loaded).faults ≡ (keeper_facts keeper).faults

  -- where channels are kept the keeper gave rows, and these are good; and else it is as it was
  abbrev pub Loads : Option (List ℕ) → P → P → Option KeptRows → Type 0
  Loads None keeper loaded None = loaded ≡ keeper
  Loads None keeper loaded (Some rows) = ⊥
  Loads (Some path) keeper loaded None = ⊥
  Loads (Some path) keeper loaded (Some rows) = HasLoaded path keeper loaded rows × IsGood rows

  -- the keeper was to be opened, and a call of it failed
  abbrev pub FailsToLoad : Option (List ℕ) → P → P → Type 0
  FailsToLoad None keeper left = ⊥
  FailsToLoad (Some path) keeper left =
      Rose (keeper_facts keeper).faults (keeper_facts left).faults
      × ((keeper_facts left).rows ≡ (keeper_facts keeper).rows)

  -- the keeper was to be opened, and gave rows that are not good
  abbrev pub LoadsBadRows : Option (List ℕ) → P → P → Type 0
  LoadsBadRows None keeper left = ⊥
  LoadsBadRows (Some path) keeper left = (rows : KeptRows) × HasLoaded path keeper left rows × (IsGood rows → ⊥)

  -- no call of the keeper failed, and its rows are the same; where no channels are kept it is as it was
  abbrev pub IsUnchanged : Option (List ℕ) → P → P → Type 0
  IsUnchanged None keeper left = left ≡ keeper
  IsUnchanged (Some path) keeper left =
      ((keeper_facts left).faults ≡ (keeper_facts keeper).faults)
      × ((keeper_facts left).rows ≡ (keeper_facts keeper).rows)

  -- an open keeper gave rows that are good; or it did not, for this cause
  abbrev pub GivesRows : P → Result KeptRows LoadFault → P → Type 0
  GivesRows keeper (Ok rows) left = IsGood rows × AreRowsOf (keeper_facts left).rows rows × IsAsBefore keeper left
  GivesRows keeper (Err faults.NotGood) left =
      (rows : KeptRows) × (IsGood rows → ⊥) × AreRowsOf (keeper_facts left).rows rows × IsAsBefore keeper left
  GivesRows keeper (Err faults.OutOfMemory) left = IsAsBefore keeper left
  GivesRows keeper (Err faults.Failed) left =
      Rose (keeper_facts keeper).faults (keeper_facts left).faults
      × ((keeper_facts left).rows ≡ (keeper_facts keeper).rows)

  -- why no rows are there
  abbrev pub LoadsNothing : Option (List ℕ) → P → LoadFault → P → Type 0
  LoadsNothing path keeper faults.Failed left = FailsToLoad path keeper left
  LoadsNothing path keeper faults.NotGood left = LoadsBadRows path keeper left
  LoadsNothing path keeper faults.OutOfMemory left = IsUnchanged path keeper left
