-- What a port does on its link.
use Rattle.std.specs.Prelude.{◌≡◌, ℕ, ◌<◌, IsTrue, List, [], ◌++◌, length, Option}
use Rattle.mum_base.specs.declared.number.Cause.TheVariants.{End, LinkFault, Memory}
use Rattle.mum_io.specs.Counts.{Counts, NoneFalls, Rose}
use Rattle.mum_io.specs.Link.{Appends, Consumes, IsAtEnd, Keeps, LinkFacts}
use Rattle.mum_port.specs.declared.stage.Went.{Went, TheVariants.Stalled, TheVariants.Worked, TheVariants.Closes}

-- how a read ended: what it took and what was lost of it for memory, the counts, and what was left to be read
abbrev pub ReadEnded : Went → List ℕ → List ℕ → Counts → Counts → Option (List ℕ) → Type 0
ReadEnded Stalled took lost old new left = (took ≡ []) × (lost ≡ []) × Rose old.stalls new.stalls
ReadEnded Worked took lost old new left = (0 < length took) × (lost ≡ [])
ReadEnded (Closes End) took lost old new left = (took ≡ []) × (lost ≡ []) × Rose old.ends new.ends × IsAtEnd left
ReadEnded (Closes LinkFault) took lost old new left = (took ≡ []) × (lost ≡ []) × Rose old.faults new.faults
ReadEnded (Closes Memory) took lost old new left = 0 < length took
ReadEnded others took lost old new left = ⊥

-- how a write ended: what it wrote, and the counts
abbrev pub WriteEnded : Went → List ℕ → Counts → Counts → Type 0
WriteEnded Stalled wrote old new = (wrote ≡ []) × Rose old.stalls new.stalls
WriteEnded Worked wrote old new = 0 < length wrote
WriteEnded (Closes LinkFault) wrote old new = (wrote ≡ []) × Rose old.faults new.faults
WriteEnded others wrote old new = ⊥

module _ {L : Type 0} (facts : L → LinkFacts) where
  -- a read: the bytes that it took are after those that were kept, but for what was lost for memory
  pub record ReadsLink (old : L) (kept : List ℕ) (went : Went) (new : L) (kept_after : List ℕ) : Type 0 where
    pub took : List ℕ
    pub lost : List ℕ
    pub kept_are : kept ++ took ≡ kept_after ++ lost
    pub consumed : Consumes (facts old).left (facts new).left took
    pub written_same : Keeps (facts old).written (facts new).written
    pub none_falls : NoneFalls (facts old).counts (facts new).counts
    pub shut_same : (facts new).is_shut ≡ (facts old).is_shut
    pub ended : ReadEnded went took lost (facts old).counts (facts new).counts (facts old).left

  -- a write: the first bytes of those that were to be written were, and the others are to be
  pub record WritesLink (old : L) (out : List ℕ) (went : Went) (new : L) (out_after : List ℕ) : Type 0 where
    pub wrote : List ℕ
    pub bytes : out ≡ wrote ++ out_after
    pub appended : Appends (facts old).written (facts new).written wrote
    pub left_same : Keeps (facts old).left (facts new).left
    pub none_falls : NoneFalls (facts old).counts (facts new).counts
    pub shut_same : (facts new).is_shut ≡ (facts old).is_shut
    pub ended : WriteEnded went wrote (facts old).counts (facts new).counts

  -- the link is shut, and nothing else of it changes
  pub record ShutsLink (old new : L) : Type 0 where
    pub shut : IsTrue (facts new).is_shut
    pub counts_same : (facts new).counts ≡ (facts old).counts
    pub left_same : Keeps (facts old).left (facts new).left
    pub written_same : Keeps (facts old).written (facts new).written
