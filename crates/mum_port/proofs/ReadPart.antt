-- What the put and the read of a step leave, by what they did.
use Rattle.mum_port.proofs.Common.{◌≡◌, ◌≢◌, ℕ, ◌<◌, Bool, true, false, List, [], ◌∷◌, ◌++◌, length, Option, Some, None, refl, sym, ap, subst, ◌∙◌, inl, inr, arith, Cause, End, LinkFault, FrameTooLong, Rejected, Kicked, Lagged, Memory, Counts, NoneFalls, Rose, Consumes, IsAtEnd, Keeps, LinkFacts, NoneFalls-refl, PassFacts, desk_after_put, port_after_put, MayRead, PortFacts, due_item, ReadEnded, stage_by, Puts, Reads, DeskItem, Stage, Went, NotDue, Stalled, Worked, Closes}
use Rattle.mum_port.proofs.Links.{Keeps-consumes}

-- for what a part of a step closes its port
abbrev pub closes : Went → Option Cause
closes NotDue = None
closes Stalled = None
closes Worked = None
closes (Closes cause) = Some cause

pub stage_by-open : (went : Went) (stage : Stage) → closes went ≡ None → stage_by went stage ≡ stage
stage_by-open NotDue stage open_still = refl
stage_by-open Stalled stage open_still = refl
stage_by-open Worked stage open_still = refl
stage_by-open (Closes cause) stage open_still = absurd (cc open_still)

pub Keeps-refl : (known : Option (List ℕ)) → Keeps known known
Keeps-refl None = tt
Keeps-refl (Some bytes) = refl

pub Keeps-same : (old new : Option (List ℕ)) → new ≡ old → Keeps old new
Keeps-same old new same = subst (λ (known : Option (List ℕ)). Keeps old known) (sym same) (Keeps-refl old)

-- ---- the put

module _ {L : Type 0} where
  abbrev pub put_of : (old : PortFacts L) (desk : PassFacts DeskItem) (put : Bool) (new : PortFacts L) (after : PassFacts DeskItem) → Puts old desk put new after → Option DeskItem
  put_of old desk put new after (inl item) = Some item.item
  put_of old desk put new after (inr nothing) = None

  pub put-port : (old : PortFacts L) (desk : PassFacts DeskItem) (put : Bool) (new : PortFacts L) (after : PassFacts DeskItem) (puts : Puts old desk put new after)
      → new ≡ port_after_put (put_of old desk put new after puts) old
  put-port old desk put new after (inl item) = item.left
  put-port old desk put new after (inr nothing) = nothing.same

  pub put-due : (old : PortFacts L) (desk : PassFacts DeskItem) (put : Bool) (new : PortFacts L) (after : PassFacts DeskItem) (puts : Puts old desk put new after)
      (item : DeskItem) → put_of old desk put new after puts ≡ Some item → due_item old ≡ Some item
  put-due old desk put new after (inl one) item is = one.due ∙ is
  put-due old desk put new after (inr nothing) item is = absurd (cc is)

  pub put-pass : (old : PortFacts L) (desk : PassFacts DeskItem) (put : Bool) (new : PortFacts L) (after : PassFacts DeskItem) (puts : Puts old desk put new after)
      → after ≡ desk_after_put (put_of old desk put new after puts) (due_item old) desk
  put-pass old desk put new after (inl one) = one.offered
  put-pass old desk put new after (inr nothing) = nothing.refused

  pub put-worked : (old : PortFacts L) (desk : PassFacts DeskItem) (put : Bool) (new : PortFacts L) (after : PassFacts DeskItem) (puts : Puts old desk put new after)
      → put ≡ false → put_of old desk put new after puts ≡ None
  put-worked old desk put new after (inl one) idle = absurd (cc (sym one.so ∙ idle))
  put-worked old desk put new after (inr nothing) idle = refl

  pub put-some : (old : PortFacts L) (desk : PassFacts DeskItem) (put : Bool) (new : PortFacts L) (after : PassFacts DeskItem) (puts : Puts old desk put new after)
      → put ≡ true → put_of old desk put new after puts ≢ None
  put-some old desk put new after (inl one) worked is = absurd (cc is)
  put-some old desk put new after (inr nothing) worked is = absurd (cc (sym nothing.so ∙ worked))

-- ---- the read

-- what memory was missing for is lost, and nothing else
lost_with_memory : (went : Went) (took lost : List ℕ) (old new : Counts) (left : Option (List ℕ)) → ReadEnded went took lost old new left → closes went ≡ None → lost ≡ []
lost_with_memory NotDue took lost old new left ended open_still = absurd ended
lost_with_memory Stalled took lost old new left ended open_still = ended.1
lost_with_memory Worked took lost old new left ended open_still = ended.1
lost_with_memory (Closes cause) took lost old new left ended open_still = absurd (cc open_still)

some_took : (took : List ℕ) → 0 < length took → took ≢ []
some_took [] some is = absurd (omega (arith, some))
some_took (x ∷ took) some is = absurd (cc is)

module _ {L : Type 0} (facts : L → LinkFacts) where
  abbrev pub took_of : (old : PortFacts L) (went : Went) (new : PortFacts L) → Reads facts old went new → List ℕ
  took_of old went new (inl never) = []
  took_of old went new (inr once) = once.read.took

  abbrev pub lost_of : (old : PortFacts L) (went : Went) (new : PortFacts L) → Reads facts old went new → List ℕ
  lost_of old went new (inl never) = []
  lost_of old went new (inr once) = once.read.lost

  -- the other parts of the port stay
  pub record ReadLeaves (old : PortFacts L) (went : Went) (new : PortFacts L) (took lost : List ℕ) : Type 0 where
    pub bytes : old.framer.kept ++ took ≡ new.framer.kept ++ lost
    pub lost_none : closes went ≡ None → lost ≡ []
    pub consumed : Consumes (facts old.link).left (facts new.link).left took
    pub written_same : Keeps (facts old.link).written (facts new.link).written
    pub none_falls : NoneFalls (facts old.link).counts (facts new.link).counts
    pub shut_same : (facts new.link).is_shut ≡ (facts old.link).is_shut
    pub machine : new.machine ≡ old.machine
    pub waiting : new.waiting ≡ old.waiting
    pub out : new.out ≡ old.out
    pub passes : new.passes ≡ old.passes
    pub first : new.voice_first ≡ old.voice_first
    pub stage : new.stage ≡ stage_by went old.stage
    pub allowed : took ≢ [] → MayRead old

  pub read-leaves : (old : PortFacts L) (went : Went) (new : PortFacts L) (reads : Reads facts old went new)
      → ReadLeaves old went new (took_of old went new reads) (lost_of old went new reads)
  read-leaves old went new (inl never) = record {
    bytes = ap (λ (p : PortFacts L). p.framer.kept ++ []) (sym never.same);
    lost_none = λ open_still. refl;
    consumed = Keeps-consumes _ _ (Keeps-same _ _ (ap (λ (p : PortFacts L). (facts p.link).left) never.same));
    written_same = Keeps-same _ _ (ap (λ (p : PortFacts L). (facts p.link).written) never.same);
    none_falls = subst (λ (p : PortFacts L). NoneFalls (facts old.link).counts (facts p.link).counts) (sym never.same) (NoneFalls-refl (facts old.link).counts);
    shut_same = ap (λ (p : PortFacts L). (facts p.link).is_shut) never.same;
    machine = ap (λ (p : PortFacts L). p.machine) never.same;
    waiting = ap (λ (p : PortFacts L). p.waiting) never.same;
    out = ap (λ (p : PortFacts L). p.out) never.same;
    passes = ap (λ (p : PortFacts L). p.passes) never.same;
    first = ap (λ (p : PortFacts L). p.voice_first) never.same;
    stage = ap (λ (p : PortFacts L). p.stage) never.same ∙ ap (λ (w : Went). stage_by w old.stage) (sym never.so);
    allowed = λ some. absurd (some refl);
  }
  read-leaves old went new (inr once) = record {
    bytes = once.read.kept_are;
    lost_none = lost_with_memory went _ _ _ _ _ once.read.ended;
    consumed = once.read.consumed;
    written_same = once.read.written_same;
    none_falls = once.read.none_falls;
    shut_same = once.read.shut_same;
    machine = ap (λ (p : PortFacts L). p.machine) once.rest;
    waiting = ap (λ (p : PortFacts L). p.waiting) once.rest;
    out = ap (λ (p : PortFacts L). p.out) once.rest;
    passes = ap (λ (p : PortFacts L). p.passes) once.rest;
    first = ap (λ (p : PortFacts L). p.voice_first) once.rest;
    stage = ap (λ (p : PortFacts L). p.stage) once.rest;
    allowed = λ some. once.allowed;
  }

  -- a read that took nothing, or after which the port goes on, and what shows each cause
  abbrev pub ReadShows : PortFacts L → PortFacts L → Went → List ℕ → Type 0
  ReadShows old new NotDue took = (took ≡ []) × (new ≡ old) × (MayRead old → ⊥)
  ReadShows old new Stalled took = (took ≡ []) × Rose (facts old.link).counts.stalls (facts new.link).counts.stalls
  ReadShows old new Worked took = took ≢ []
  ReadShows old new (Closes End) took = MayRead old × (took ≡ []) × Rose (facts old.link).counts.ends (facts new.link).counts.ends × IsAtEnd (facts old.link).left
  ReadShows old new (Closes LinkFault) took = MayRead old × Rose (facts old.link).counts.faults (facts new.link).counts.faults
  ReadShows old new (Closes Memory) took = MayRead old × (took ≢ [])
  ReadShows old new others bytes = ⊥

  shown_once : (old : PortFacts L) (went : Went) (new : PortFacts L) (took lost : List ℕ) → MayRead old → ReadEnded went took lost (facts old.link).counts (facts new.link).counts (facts old.link).left
      → ReadShows old new went took
  shown_once old NotDue new took lost allowed ended = absurd ended
  shown_once old Stalled new took lost allowed ended = (ended.0, ended.2)
  shown_once old Worked new took lost allowed ended = some_took took ended.0
  shown_once old (Closes End) new took lost allowed ended = (allowed, ended.0, ended.2, ended.3)
  shown_once old (Closes LinkFault) new took lost allowed ended = (allowed, ended.2)
  shown_once old (Closes FrameTooLong) new took lost allowed ended = absurd ended
  shown_once old (Closes Rejected) new took lost allowed ended = absurd ended
  shown_once old (Closes Kicked) new took lost allowed ended = absurd ended
  shown_once old (Closes Lagged) new took lost allowed ended = absurd ended
  shown_once old (Closes Memory) new took lost allowed ended = (allowed, some_took took ended)

  pub read-shows : (old : PortFacts L) (went : Went) (new : PortFacts L) (reads : Reads facts old went new)
      → ReadShows old new went (took_of old went new reads)
  read-shows old went new (inl never) = subst (λ (w : Went). ReadShows old new w []) (sym never.so) (refl, never.same, never.forbidden)
  read-shows old went new (inr once) = shown_once old went new _ _ once.allowed once.read.ended
