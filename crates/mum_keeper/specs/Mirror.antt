-- A keeper, and the rows to which it was brought last.
use Rattle.std.specs.Prelude.{◌≡◌, ◌≢◌, ◌⊎◌, Bool, true, false, List, [], IsTrue}
use Rattle.std.specs.Option.{option_map}
use Rattle.mum_io.specs.Counts.{Rose}
use Rattle.mum_kept.specs.declared.rows.KeptRows.{KeptRows}
use Rattle.mum_keeper.specs.Changes.{difference}
use Rattle.mum_keeper.specs.Keeping.{AreRowsOf, KeepCall, KeeperFacts, with_call}
use Rattle.mum_keeper.specs.declared.{change.Change.Change, keeper.KeepEnd.KeepEnd, naming.KeeperOpening.KeeperOpening}
use Rattle.mum_keeper.specs.declared.keeper.KeepEnd.TheVariants as ends

-- the keeper; the rows that its last Kept left, or that it was opened with; whether a call failed since then; and
-- whether memory ran out since then
pub record MirrorFacts (P : Type 0) : Type 0 where
  pub keeper : P
  pub rows : KeptRows
  pub failed : Bool
  pub no_memory : Bool

-- nothing was compared yet
abbrev pub new_mirror : {P : Type 0} → P → KeptRows → MirrorFacts P
new_mirror keeper rows = record { keeper = keeper; rows = rows; failed = false; no_memory = false }

-- what a keeper had counted when its store was opened
abbrev pub opening_of : KeeperFacts → KeeperOpening
opening_of known = record { faults = known.faults; opened_at = known.opened_at }

-- since the store was opened, the count of faults rose where a call failed, and else stayed; and the keeper is open at the
-- path at which it was
pub record IsSince (opening : KeeperOpening) (known : KeeperFacts) (failed : Bool) : Type 0 where
  pub fails : IsTrue failed → Rose opening.faults known.faults
  pub steady : failed ≡ false → known.faults ≡ opening.faults
  pub path : known.opened_at ≡ opening.opened_at

-- the rows are the keeper's, where these are known
pub record IsMirror (opening : KeeperOpening) (known : KeeperFacts) (rows : KeptRows) (failed : Bool) : Type 0 where
  pub mirrors : AreRowsOf known.rows rows
  pub since : IsSince opening known failed

-- the keeper now has these rows, where its rows are known; or it has those that it had, since it failed, or since memory
-- ran out
abbrev pub BringsTo : KeeperFacts → KeptRows → KeepEnd → KeeperFacts → Type 0
BringsTo old now ends.Kept new = (new.rows ≡ option_map (λ known. now) old.rows) × (new.faults ≡ old.faults)
BringsTo old now ends.Failed new = (new.rows ≡ old.rows) × Rose old.faults new.faults
BringsTo old now ends.NoMemory new = (new.rows ≡ old.rows) × (new.faults ≡ old.faults)

-- only a Kept takes the new rows over
abbrev pub rows_left : KeepEnd → KeptRows → KeptRows → KeptRows
rows_left ends.Kept rows now = now
rows_left ends.Failed rows now = rows
rows_left ends.NoMemory rows now = rows

-- that the keeper failed is not forgotten
abbrev pub failed_now : KeepEnd → Bool → Bool
failed_now ends.Kept before = before
failed_now ends.Failed before = true
failed_now ends.NoMemory before = before

-- that memory ran out is not forgotten
abbrev pub starved_now : KeepEnd → Bool → Bool
starved_now ends.Kept before = before
starved_now ends.Failed before = before
starved_now ends.NoMemory before = true

-- what a comparison with these rows leaves
abbrev pub after_compare : {P : Type 0} → MirrorFacts P → KeptRows → KeepEnd → P → MirrorFacts P
after_compare old now end keeper = record {
  keeper = keeper;
  rows = rows_left end old.rows now;
  failed = failed_now end old.failed;
  no_memory = starved_now end old.no_memory;
}

module _ {P : Type 0} (facts : P → KeeperFacts) where
  -- the keeper was called once, by `keep` and with these changes, or not at all, since memory ran out before
  abbrev pub CalledOnce : P → List Change → KeepEnd → P → Type 0
  CalledOnce old changes end new =
      ((facts new).calls ≡ with_call (KeepCall changes) (facts old).calls) ⊎ ((new ≡ old) × (end ≡ ends.NoMemory))

  -- a keeper that had some rows is brought to others: where no changes lead over it is not called, and else once, with
  -- exactly these changes
  pub record Brings (old : P) (rows now : KeptRows) (end : KeepEnd) (new : P) : Type 0 where
    pub rests : difference rows now ≡ [] → (new ≡ old) × (end ≢ ends.Failed)
    pub calls : difference rows now ≢ [] → CalledOnce old (difference rows now) end new
    pub brings : BringsTo (facts old) now end (facts new)
    pub path : (facts new).opened_at ≡ (facts old).opened_at

  -- the rows were compared with these, once
  pub record Compares (old : MirrorFacts P) (now : KeptRows) (end : KeepEnd) (new : MirrorFacts P) : Type 0 where
    pub brings : Brings old.keeper old.rows now end new.keeper
    pub leaves : new ≡ after_compare old now end new.keeper
