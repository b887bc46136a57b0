-- What the write of a step leaves, by the bytes that were written.
use Rattle.mum_port.proofs.Common.{◌≡◌, ◌≢◌, ℕ, ◌<◌, IsTrue, List, [], ◌∷◌, ◌++◌, length, refl, sym, ap, subst, ◌∙◌, inl, inr, arith, End, LinkFault, FrameTooLong, Rejected, Kicked, Lagged, Memory, NoneFalls, Rose, Appends, Keeps, LinkFacts, NoneFalls-refl, PortFacts, may_write, WriteEnded, stage_by, Writes, Went, NotDue, Stalled, Worked, Closes}
use Rattle.mum_port.proofs.{Links.Keeps-appends, ReadPart.Keeps-same}

some_wrote : (wrote : List ℕ) → 0 < length wrote → wrote ≢ []
some_wrote [] some is = absurd (omega (arith, some))
some_wrote (x ∷ wrote) some is = absurd (cc is)

module _ {L : Type 0} (facts : L → LinkFacts) where
  abbrev pub wrote_of : (old : PortFacts L) (went : Went) (new : PortFacts L) → Writes facts old went new → List ℕ
  wrote_of old went new (inl never) = []
  wrote_of old went new (inr once) = once.wrote.wrote

  -- what shows why it ended as it did
  abbrev pub WriteShows : PortFacts L → PortFacts L → Went → List ℕ → Type 0
  WriteShows old new NotDue wrote = (wrote ≡ []) × (new ≡ old) × (IsTrue (may_write old) → ⊥)
  WriteShows old new Stalled wrote = (wrote ≡ []) × Rose (facts old.link).counts.stalls (facts new.link).counts.stalls
  WriteShows old new Worked wrote = wrote ≢ []
  WriteShows old new (Closes LinkFault) wrote = IsTrue (may_write old) × Rose (facts old.link).counts.faults (facts new.link).counts.faults
  WriteShows old new others bytes = ⊥

  shown_once : (old : PortFacts L) (went : Went) (new : PortFacts L) (wrote : List ℕ) → IsTrue (may_write old) → WriteEnded went wrote (facts old.link).counts (facts new.link).counts
      → WriteShows old new went wrote
  shown_once old NotDue new wrote allowed ended = absurd ended
  shown_once old Stalled new wrote allowed ended = ended
  shown_once old Worked new wrote allowed ended = some_wrote wrote ended
  shown_once old (Closes End) new wrote allowed ended = absurd ended
  shown_once old (Closes LinkFault) new wrote allowed ended = (allowed, ended.1)
  shown_once old (Closes FrameTooLong) new wrote allowed ended = absurd ended
  shown_once old (Closes Rejected) new wrote allowed ended = absurd ended
  shown_once old (Closes Kicked) new wrote allowed ended = absurd ended
  shown_once old (Closes Lagged) new wrote allowed ended = absurd ended
  shown_once old (Closes Memory) new wrote allowed ended = absurd ended

  pub record WriteLeaves (old : PortFacts L) (went : Went) (new : PortFacts L) (wrote : List ℕ) : Type 0 where
    pub bytes : old.out ≡ wrote ++ new.out
    pub appended : Appends (facts old.link).written (facts new.link).written wrote
    pub left_same : Keeps (facts old.link).left (facts new.link).left
    pub none_falls : NoneFalls (facts old.link).counts (facts new.link).counts
    pub shut_same : (facts new.link).is_shut ≡ (facts old.link).is_shut
    pub shows : WriteShows old new went wrote
    pub machine : new.machine ≡ old.machine
    pub framer : new.framer ≡ old.framer
    pub waiting : new.waiting ≡ old.waiting
    pub passes : new.passes ≡ old.passes
    pub first : new.voice_first ≡ old.voice_first
    pub stage : new.stage ≡ stage_by went old.stage

  pub write-leaves : (old : PortFacts L) (went : Went) (new : PortFacts L) (writes : Writes facts old went new)
      → WriteLeaves old went new (wrote_of old went new writes)
  write-leaves old went new (inl never) = record {
    bytes = ap (λ (p : PortFacts L). p.out) (sym never.same);
    appended = Keeps-appends _ _ (Keeps-same _ _ (ap (λ (p : PortFacts L). (facts p.link).written) never.same));
    left_same = Keeps-same _ _ (ap (λ (p : PortFacts L). (facts p.link).left) never.same);
    none_falls = subst (λ (p : PortFacts L). NoneFalls (facts old.link).counts (facts p.link).counts) (sym never.same) (NoneFalls-refl (facts old.link).counts);
    shut_same = ap (λ (p : PortFacts L). (facts p.link).is_shut) never.same;
    shows = subst (λ (w : Went). WriteShows old new w []) (sym never.so) (refl, never.same, never.forbidden);
    machine = ap (λ (p : PortFacts L). p.machine) never.same;
    framer = ap (λ (p : PortFacts L). p.framer) never.same;
    waiting = ap (λ (p : PortFacts L). p.waiting) never.same;
    passes = ap (λ (p : PortFacts L). p.passes) never.same;
    first = ap (λ (p : PortFacts L). p.voice_first) never.same;
    stage = ap (λ (p : PortFacts L). p.stage) never.same ∙ ap (λ (w : Went). stage_by w old.stage) (sym never.so);
  }
  write-leaves old went new (inr once) = record {
    bytes = once.wrote.bytes;
    appended = once.wrote.appended;
    left_same = once.wrote.left_same;
    none_falls = once.wrote.none_falls;
    shut_same = once.wrote.shut_same;
    shows = shown_once old went new _ once.allowed once.wrote.ended;
    machine = ap (λ (p : PortFacts L). p.machine) once.rest;
    framer = ap (λ (p : PortFacts L). p.framer) once.rest;
    waiting = ap (λ (p : PortFacts L). p.waiting) once.rest;
    passes = ap (λ (p : PortFacts L). p.passes) once.rest;
    first = ap (λ (p : PortFacts L). p.voice_first) once.rest;
    stage = ap (λ (p : PortFacts L). p.stage) once.rest;
  }
