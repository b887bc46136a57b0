-- For what a step closes its port, and what shows it.
use Rattle.mum_port.proofs.Common.{◌≡◌, ℕ, ◌<◌, Bool, true, false, IsTrue, List, [], ◌∷◌, ◌++◌, length, Option, Some, None, refl, sym, ap, subst, ◌∙◌, ◌⊎◌, inl, inr, true≢false, arith, ◌≤◌, if◌then◌else◌, ne_eqb, append-nil, Cause, End, LinkFault, FrameTooLong, Rejected, Kicked, Lagged, Memory, SessionId, Frame, HasFrame, HasNoFrame, TooLong, HasNoFrame-above_limit, Counts, NoneFalls, Rose, IsAtEnd, LinkFacts, NoneFalls-same, NoneFalls-trans, Rose-earlier, Rose-later, PassFacts, QueueFacts, bytes_of, port_after_put, stage_kept, PortFacts, may_handle, cause_of, closed_for, is_closed, parting_cause, PortChain, Settles, settled, Settled, ShowsCause, UsedMemory, DeskItem, Step, Parting, Stage, Live, Ending, Closed}
use Rattle.mum_port.proofs.{Balance.all_read, Balance.link_put, Balance.link_take, Balance.settle-link, Course.GoesOn, Course.HandleCloses, Course.ReadCloses, Course.Way, Course.WriteCloses, Course.as_open, Course.at_close, Course.did_of, Course.frame, Course.goes_on, Course.handle_part, Course.item, Course.port_put, Course.read_part, Course.remains, Course.stage_end, Course.took, Course.unsent, Course.way, Course.write_part, ReadPart.closes, ReadPart.stage_by-open}
use Rattle.mum_port.specs.declared.stage.Parting.TheVariants as partings

-- ---- facts on stages

-- a port that ends, and did not close, has bytes to write
ending_keeps : (out : List ℕ) (parting : Parting) → cause_of (settled out (Ending parting)) ≡ None → 0 < length out
ending_keeps [] parting none = absurd (cc none)
ending_keeps (x ∷ out) parting none = omega arith

-- one that closed for nothing that a part met was to end, and kept nothing
ended_so : (out : List ℕ) (parting : Parting) (cause : Cause) → cause_of (settled out (Ending parting)) ≡ Some cause → (cause ≡ parting_cause parting) × (out ≡ [])
ended_so [] parting cause is = (cc (sym is), refl)
ended_so (x ∷ out) parting cause is =
    let open_still : cause_of (settled (x ∷ out) (Ending parting)) ≡ None =
    ap (λ (b : Bool). cause_of (if b then closed_for (parting_cause parting) else Ending parting)) (ne_eqb (length (x ∷ out)) 0 (λ none. absurd (omega (arith, none)))) in
    absurd (cc (sym open_still ∙ is))

-- what a port may do depends on these parts of it alone
pub may_same : {L : Type 0} (port later : PortFacts L) → later.stage ≡ port.stage → later.machine ≡ port.machine → later.waiting ≡ port.waiting → later.out ≡ port.out
    → may_handle later ≡ may_handle port
may_same port later stage machine waiting out = rw (stage, machine, waiting, out) refl

module _ {L V : Type 0} {facts : L → LinkFacts} {routed : V → ℕ → SessionId → List ℕ → V → Type 0}
    {posts voices : List QueueFacts} {old : PortFacts L} {desk : PassFacts DeskItem} {router : V} {step : Step}
    {new : PortFacts L} {desk_after : PassFacts DeskItem} {router_after : V}
    (c : PortChain facts routed posts voices old desk router step new desk_after router_after) where
  -- ---- counts

  pub falls_read : NoneFalls (facts old.link).counts (facts c.after_read.link).counts
  falls_read = subst (λ (l : L). NoneFalls (facts l).counts (facts c.after_read.link).counts) (link_put c) (read_part c).none_falls

  falls_settle : NoneFalls (facts c.after_write.link).counts (facts new.link).counts
  falls_settle = NoneFalls-same _ _ (settle-link facts _ _ _ _ c.settles).0

  falls_write : NoneFalls (facts c.after_read.link).counts (facts c.after_write.link).counts
  falls_write = subst (λ (l : L). NoneFalls (facts l).counts (facts c.after_write.link).counts) (link_take c) (write_part c).none_falls

  pub falls_end : NoneFalls (facts c.after_read.link).counts (facts new.link).counts
  falls_end = NoneFalls-trans _ _ _ falls_write falls_settle

  pub falls_all : NoneFalls (facts old.link).counts (facts new.link).counts
  falls_all = NoneFalls-trans _ _ _ falls_read falls_end

  -- a count that rose in the read, or in the write, has risen in the step
  pub rose_read : (of : Counts → ℕ) → ((a b : Counts) → NoneFalls a b → of a ≤ of b) → Rose (of (facts c.after_put.link).counts) (of (facts c.after_read.link).counts) → Rose (of (facts old.link).counts) (of (facts new.link).counts)
  rose_read of rises rose =
      Rose-later _ _ _ (subst (λ (l : L). Rose (of (facts l).counts) (of (facts c.after_read.link).counts)) (link_put c) rose) (rises _ _ falls_end)

  pub rose_write : (of : Counts → ℕ) → ((a b : Counts) → NoneFalls a b → of a ≤ of b) → Rose (of (facts c.after_take.link).counts) (of (facts c.after_write.link).counts) → Rose (of (facts old.link).counts) (of (facts new.link).counts)
  rose_write of rises rose =
      Rose-later _ _ _ (Rose-earlier _ _ _ (rises _ _ falls_read) (subst (λ (l : L). Rose (of (facts l).counts) (of (facts c.after_write.link).counts)) (link_take c) rose)) (rises _ _ falls_settle)

  -- ---- what a close drops

  dropped_bytes : (cause : Cause) → c.closed ≡ Some cause → at_close c.closed (remains c) ≡ remains c
  dropped_bytes cause is = ap (λ (x : Option Cause). at_close x (remains c)) is

  -- where no frame was handled and no byte was taken, it is what was kept
  remains_old : frame c ≡ None → took c ≡ [] → old.framer.kept ≡ remains c
  remains_old no_frame no_bytes =
      sym (append-nil old.framer.kept)
      ∙ (ap (λ (l : List ℕ). old.framer.kept ++ l) (sym no_bytes)
      ∙ (all_read c ∙ ap (λ (f : Option Frame). bytes_of f ++ remains c) no_frame))

  -- where no frame was handled and memory was there, it is what was kept after the read
  remains_read : frame c ≡ None → closes c.read ≡ None → c.after_read.framer.kept ≡ remains c
  remains_read no_frame reads_on =
      (handle_part c).bytes
      ∙ (ap (λ (f : Option Frame). bytes_of f ++ (handle_part c).unhandled) no_frame
      ∙ (sym (append-nil (handle_part c).unhandled) ∙ ap (λ (l : List ℕ). (handle_part c).unhandled ++ l) (sym ((read_part c).lost_none reads_on))))

  -- ---- each cause

  shown_by_read : (cause : Cause) → ReadCloses c cause → ShowsCause facts old (did_of c) new cause
  shown_by_read End reads =
      let same : old.framer.kept ≡ at_close c.closed (remains c) = remains_old reads.no_frame reads.shown.1 ∙ sym (dropped_bytes End reads.closed) in
      let none : HasNoFrame old.framer.kept = subst (λ (p : PortFacts L). HasNoFrame p.framer.kept) (port_put c) reads.shown.0.no_frame in (
        rose_read (λ (k : Counts). k.ends) (λ a b falls. falls.ends) reads.shown.2,
        reads.no_frame,
        reads.shown.1,
        subst HasNoFrame same none,
        subst (λ (l : L). IsAtEnd (facts l).left) (link_put c) reads.shown.3,
      )
  shown_by_read LinkFault reads = rose_read (λ (k : Counts). k.faults) (λ a b falls. falls.faults) reads.shown.1
  shown_by_read FrameTooLong reads = absurd reads.shown
  shown_by_read Rejected reads = absurd reads.shown
  shown_by_read Kicked reads = absurd reads.shown
  shown_by_read Lagged reads = absurd reads.shown
  shown_by_read Memory reads = inl reads.shown.1

  -- what it might do after the read it might do before
  pub may_before : closes c.read ≡ None → IsTrue (may_handle c.after_read) → IsTrue (may_handle (port_after_put (item c) old))
  may_before reads_on may =
      subst (λ (p : PortFacts L). IsTrue (may_handle p)) (port_put c)
      (subst IsTrue (may_same c.after_put c.after_read ((read_part c).stage ∙ stage_by-open c.read c.after_put.stage reads_on) (read_part c).machine (read_part c).waiting (read_part c).out) may)

  used_memory : (bytes : List ℕ) → took c ≡ bytes → closes c.read ≡ None → HandleCloses c Memory → UsedMemory old (did_of c)
  used_memory (x ∷ bytes) some reads_on handles = inl (λ none. absurd (cc (sym none ∙ some)))
  used_memory [] none reads_on handles =
      let same : old.framer.kept ≡ c.after_read.framer.kept =
      sym (ap (λ (p : PortFacts L). p.framer.kept) (port_put c))
      ∙ (sym (append-nil c.after_put.framer.kept)
      ∙ (ap (λ (l : List ℕ). c.after_put.framer.kept ++ l) (sym none)
      ∙ ((read_part c).bytes
      ∙ (ap (λ (l : List ℕ). c.after_read.framer.kept ++ l) ((read_part c).lost_none reads_on) ∙ append-nil c.after_read.framer.kept)))) in
      inr (may_before reads_on handles.may, subst HasFrame (sym same) handles.shown)

  shown_by_handle : (cause : Cause) → closes c.read ≡ None → HandleCloses c cause → ShowsCause facts old (did_of c) new cause
  shown_by_handle End reads_on handles = absurd handles.shown
  shown_by_handle LinkFault reads_on handles = absurd handles.shown
  shown_by_handle FrameTooLong reads_on handles =
      let same : c.after_read.framer.kept ≡ at_close c.closed (remains c) = remains_read handles.shown.0 reads_on ∙ sym (dropped_bytes FrameTooLong handles.closed) in
      let above : TooLong (at_close c.closed (remains c)) = subst TooLong same handles.shown.1 in
      (handles.shown.0, above, HasNoFrame-above_limit _ above)
  shown_by_handle Rejected reads_on handles = absurd handles.shown
  shown_by_handle Kicked reads_on handles = absurd handles.shown
  shown_by_handle Lagged reads_on handles = absurd handles.shown
  shown_by_handle Memory reads_on handles = used_memory (took c) refl reads_on handles

  shown_by_write : (cause : Cause) → WriteCloses c cause → ShowsCause facts old (did_of c) new cause
  shown_by_write End writes = absurd writes.shown
  shown_by_write LinkFault writes = rose_write (λ (k : Counts). k.faults) (λ a b falls. falls.faults) writes.shown.1
  shown_by_write FrameTooLong writes = absurd writes.shown
  shown_by_write Rejected writes = absurd writes.shown
  shown_by_write Kicked writes = absurd writes.shown
  shown_by_write Lagged writes = absurd writes.shown
  shown_by_write Memory writes = absurd writes.shown

  shown_by_parting : (parting : Parting) → stage_kept old (did_of c) ≡ Ending parting → at_close c.closed (unsent c) ≡ []
      → ShowsCause facts old (did_of c) new (parting_cause parting)
  shown_by_parting partings.Rejected stage none = (stage, none)
  shown_by_parting partings.Kicked stage none = (stage, none)

  unsent_none : (cause : Cause) → c.closed ≡ Some cause → closes c.handled ≡ None → c.after_write.out ≡ [] → at_close c.closed (unsent c) ≡ []
  unsent_none cause is handles_on none =
      ap (λ (x : Option Cause). at_close x (unsent c)) is
      ∙ (ap (λ (l : List ℕ). l ++ (handle_part c).dropped) none ∙ (handle_part c).dropped_none handles_on)

  -- it met nothing, so it was to end, and wrote all
  shown_at_end : (cause : Cause) (stage : Stage) → c.closed ≡ Some cause → is_closed old.stage ≡ false → GoesOn c → c.after_write.stage ≡ stage
      → cause_of (settled c.after_write.out c.after_write.stage) ≡ Some cause → ShowsCause facts old (did_of c) new cause
  shown_at_end cause Live closed was_open on is by = absurd (cc (sym by ∙ ap (λ (s : Stage). cause_of (settled c.after_write.out s)) is))
  shown_at_end cause (Ending parting) closed was_open on is by =
      let so = ended_so c.after_write.out parting cause (sym (ap (λ (s : Stage). cause_of (settled c.after_write.out s)) is) ∙ by) in
      subst (λ (x : Cause). ShowsCause facts old (did_of c) new x) (sym so.0)
      (shown_by_parting parting (sym (stage_end c on.reads_on on.handles_on on.writes_on) ∙ is) (unsent_none cause closed on.handles_on so.1))
  shown_at_end cause (Closed before farewell) closed was_open on is by =
      let shut : is_closed c.after_write.stage ≡ true = ap is_closed is in
      let opened : is_closed c.after_write.stage ≡ false =
      ap is_closed ((write_part c).stage ∙ stage_by-open c.wrote c.after_take.stage on.writes_on) ∙ (as_open c on.reads_on on.handles_on ∙ was_open) in
      absurd (true≢false (sym shut ∙ opened))

  same_cause : (cause other : Cause) → c.closed ≡ Some cause → c.closed ≡ Some other → cause ≡ other
  same_cause cause other one two = cc (sym one ∙ two)

  shown : (cause : Cause) → c.closed ≡ Some cause → is_closed old.stage ≡ false → cause_of (settled c.after_write.out c.after_write.stage) ≡ Some cause
      → ShowsCause facts old (did_of c) new cause
  shown cause closed was_open by = by_way (way c)
    where
      by_way : Way c → ShowsCause facts old (did_of c) new cause
      by_way (inl (other, reads)) = subst (λ (x : Cause). ShowsCause facts old (did_of c) new x) (same_cause other cause reads.closed closed) (shown_by_read other reads)
      by_way (inr (inl (other, reads_on, handles))) =
          subst (λ (x : Cause). ShowsCause facts old (did_of c) new x) (same_cause other cause handles.closed closed) (shown_by_handle other reads_on handles)
      by_way (inr (inr (inl (other, reads_on, handles_on, writes)))) =
          subst (λ (x : Cause). ShowsCause facts old (did_of c) new x) (same_cause other cause writes.closed closed) (shown_by_write other writes)
      by_way (inr (inr (inr on))) = shown_at_end cause c.after_write.stage closed was_open on refl by

  -- ---- the end of the step

  ending_stays : (parting : Parting) → GoesOn c → new ≡ c.after_write → ((is_closed old.stage ≡ true) ⊎ (cause_of (settled c.after_write.out c.after_write.stage) ≡ None))
      → new.stage ≡ Ending parting → 0 < length new.out
  ending_stays parting on same (inl was_closed) ending =
      let opened : is_closed c.after_write.stage ≡ false = ap is_closed (sym (ap (λ (p : PortFacts L). p.stage) same) ∙ ending) in
      let shut : is_closed c.after_write.stage ≡ true =
      ap is_closed ((write_part c).stage ∙ stage_by-open c.wrote c.after_take.stage on.writes_on) ∙ (as_open c on.reads_on on.handles_on ∙ was_closed) in
      absurd (true≢false (sym shut ∙ opened))
  ending_stays parting on same (inr none) ending =
      let stage : c.after_write.stage ≡ Ending parting = sym (ap (λ (p : PortFacts L). p.stage) same) ∙ ending in
      subst (λ (p : PortFacts L). 0 < length p.out) (sym same)
      (ending_keeps c.after_write.out parting (sym (ap (λ (s : Stage). cause_of (settled c.after_write.out s)) stage) ∙ none))

  shut_before : (facts c.after_write.link).is_shut ≡ (facts old.link).is_shut
  shut_before =
      (write_part c).shut_same ∙ (ap (λ (l : L). (facts l).is_shut) (link_take c) ∙ ((read_part c).shut_same ∙ ap (λ (l : L). (facts l).is_shut) (link_put c)))

  pub settled_in_turn : Settles facts (is_closed old.stage) c.after_write c.closed new → Settled facts old (did_of c) new c.closed
  settled_in_turn (inl stays) =
      let on = goes_on c stays.so in
      subst (λ (x : Option Cause). Settled facts old (did_of c) new x) (sym stays.so) (record {
        stage = ap (λ (p : PortFacts L). p.stage) stays.same ∙ stage_end c on.reads_on on.handles_on on.writes_on;
        shut_same = ap (λ (p : PortFacts L). (facts p.link).is_shut) stays.same ∙ shut_before;
        unwritten = λ parting ending. ending_stays parting on stays.same stays.why ending;
      })
  settled_in_turn (inr now) =
      subst (λ (x : Option Cause). Settled facts old (did_of c) new x) (sym now.so) (record {
        was_open = now.was_open;
        shown = shown now.cause now.so now.was_open now.by;
        stage = ap (λ (p : PortFacts L). p.stage) now.closes.rest;
        shut = now.closes.shuts.shut;
        framer_empty = ap (λ (p : PortFacts L). p.framer) now.closes.rest;
        nothing_unwritten = ap (λ (p : PortFacts L). p.out) now.closes.rest;
      })
