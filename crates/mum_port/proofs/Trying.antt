-- A step tried each of its parts where it might.
use Rattle.mum_port.proofs.Common.{◌≡◌, ◌≢◌, ℕ, false, IsTrue, List, [], ◌∷◌, ◌++◌, Option, Some, None, length, refl, sym, ap, subst, ◌∙◌, inl, inr, arith, ◌⊎◌, ◌==◌, append-nil, ne_eqb, Cause, End, LinkFault, FrameTooLong, Rejected, Kicked, Lagged, Memory, SessionId, Frame, HasFrame, HasNoFrame, HasNoFrame-above_limit, Counts, Rose, LinkFacts, PassFacts, QueueFacts, action_of, echo_of, port_after_put, queued, stage_once_put, MayRead, PortFacts, may_handle, may_write, taking_session, ReadEnded, after_word, is_closed, PortChain, Reads, FindsPostEmpty, FindsVoiceEmpty, HasLooked, HasRead, DeskItem, PassesFacts, Step, Stage, Live, Went, NotDue, Stalled, Worked, Closes}
use Rattle.mum_port.proofs.{Balance.all_sent, Balance.echo_handle, Balance.kept_put, BoxParts.taking-is, Course.Way, Course.as_open, Course.bytes_written, Course.did_of, Course.first_handle, Course.frame, Course.goes_on, Course.handle_closes, Course.handle_part, Course.item, Course.passes_handle, Course.port_put, Course.read_part, Course.session_handle, Course.stage_handle, Course.take_part, Course.took, Course.way, Course.write_part, Ends.may_same, Ends.rose_read, Ends.rose_write, HandlePart.HandleShows, HandlePart.HandledOrNot, Parcels.nothing_before, Parcels.taking-of, PassTakes.passes_end, ReadPart.ReadShows, ReadPart.closes, ReadPart.read-shows, ReadPart.stage_by-open, ReadPart.took_of, WritePart.WriteShows}

-- ---- the parts

module _ {L : Type 0} (facts : L → LinkFacts) where
  -- a read that might be made took bytes, or a count of its link rose
  read_tried : (old new : PortFacts L) (went : Went) (took : List ℕ) → MayRead old → ReadShows facts old new went took
      → (took ≢ []) ⊎ (Rose (facts old.link).counts.stalls (facts new.link).counts.stalls
      ⊎ (Rose (facts old.link).counts.ends (facts new.link).counts.ends ⊎ Rose (facts old.link).counts.faults (facts new.link).counts.faults))
  read_tried old new NotDue took may shows = absurd (shows.2 may)
  read_tried old new Stalled took may shows = inr (inl shows.1)
  read_tried old new Worked took may shows = inl shows
  read_tried old new (Closes End) took may shows = inr (inr (inl shows.2))
  read_tried old new (Closes LinkFault) took may shows = inr (inr (inr shows.1))
  read_tried old new (Closes FrameTooLong) took may shows = absurd shows
  read_tried old new (Closes Rejected) took may shows = absurd shows
  read_tried old new (Closes Kicked) took may shows = absurd shows
  read_tried old new (Closes Lagged) took may shows = absurd shows
  read_tried old new (Closes Memory) took may shows = inl shows.1

  -- a write that might be made wrote bytes, met a cause, or found its link not ready
  write_tried : (old new : PortFacts L) (went : Went) (wrote : List ℕ) → IsTrue (may_write old) → closes went ≡ None → wrote ≡ [] → WriteShows facts old new went wrote
      → Rose (facts old.link).counts.stalls (facts new.link).counts.stalls
  write_tried old new NotDue wrote may on none shows = absurd (shows.2 may)
  write_tried old new Stalled wrote may on none shows = shows.1
  write_tried old new Worked wrote may on none shows = absurd (shows none)
  write_tried old new (Closes cause) wrote may on none shows = absurd (cc on)

  -- a read that closed its port took nothing, but where memory ran out
  read_took : (old : PortFacts L) (went : Went) (new : PortFacts L) (reads : Reads facts old went new) (cause : Cause) → went ≡ Closes cause
      → (cause ≡ Memory) ⊎ ((took_of facts old went new reads ≡ []) × MayRead old)
  read_took old went new (inl never) cause is = absurd (cc (sym never.so ∙ is))
  read_took old went new (inr once) cause is = by_cause cause (subst (λ (w : Went). ReadEnded w once.read.took once.read.lost (facts old.link).counts (facts new.link).counts (facts old.link).left) is once.read.ended)
    where
      by_cause : (c : Cause) → ReadEnded (Closes c) once.read.took once.read.lost (facts old.link).counts (facts new.link).counts (facts old.link).left
          → (c ≡ Memory) ⊎ ((once.read.took ≡ []) × MayRead old)
      by_cause End ended = inr (ended.0, once.allowed)
      by_cause LinkFault ended = inr (ended.0, once.allowed)
      by_cause FrameTooLong ended = absurd ended
      by_cause Rejected ended = absurd ended
      by_cause Kicked ended = absurd ended
      by_cause Lagged ended = absurd ended
      by_cause Memory ended = inl refl

has_no : (kept : List ℕ) → HasFrame kept → HasNoFrame kept → ⊥
has_no kept has none = none has.0 has.1 has.2 has.3

-- a whole frame was handled, or memory ran out
frame_tried : {V : Type 0} (routed : V → ℕ → SessionId → List ℕ → V → Type 0) (kept : List ℕ) (frame : Option Frame) (went : Went) → HasFrame kept → frame ≡ None
    → HandleShows routed kept frame went → went ≡ Closes Memory
frame_tried routed kept frame NotDue has none shows = absurd shows
frame_tried routed kept frame Stalled has none shows = absurd (has_no kept has shows.1)
frame_tried routed kept frame Worked has none shows = absurd (shows none)
frame_tried routed kept frame (Closes End) has none shows = absurd shows
frame_tried routed kept frame (Closes LinkFault) has none shows = absurd shows
frame_tried routed kept frame (Closes FrameTooLong) has none shows = absurd (has_no kept has (HasNoFrame-above_limit kept shows.1))
frame_tried routed kept frame (Closes Rejected) has none shows = absurd shows
frame_tried routed kept frame (Closes Kicked) has none shows = absurd shows
frame_tried routed kept frame (Closes Lagged) has none shows = absurd shows
frame_tried routed kept frame (Closes Memory) has none shows = refl

-- a live port stays live after its put
put-live : (put waiting : Option DeskItem) (stage : Stage) → stage ≡ Live → stage_once_put put waiting stage ≡ Live
put-live None waiting stage live = live
put-live (Some item) (Some waits) stage live = live
put-live (Some item) None stage live = ap after_word live

some_length : (out : List ℕ) → out ≢ [] → (length out == 0) ≡ false
some_length [] some = absurd (some refl)
some_length (x ∷ out) some = ne_eqb (length (x ∷ out)) 0 (λ none. absurd (omega (arith, none)))

module _ {L : Type 0} where
  may-write : (port : PortFacts L) → is_closed port.stage ≡ false → port.out ≢ [] → IsTrue (may_write port)
  may-write port opened some = rw (opened, some_length port.out some) refl

module _ {L V : Type 0} {facts : L → LinkFacts} {routed : V → ℕ → SessionId → List ℕ → V → Type 0}
    {posts voices : List QueueFacts} {old : PortFacts L} {desk : PassFacts DeskItem} {router : V} {step : Step}
    {new : PortFacts L} {desk_after : PassFacts DeskItem} {router_after : V}
    (c : PortChain facts routed posts voices old desk router step new desk_after router_after) where
  -- ---- the read

  pub has_read : MayRead (port_after_put (item c) old) → HasRead facts old (did_of c) new
  has_read may =
      by (read_tried facts c.after_put c.after_read c.read (took c) (subst (λ (p : PortFacts L). MayRead p) (sym (port_put c)) may) (read-shows facts c.after_put c.read c.after_read c.reads))
    where
      by : (took c ≢ []) ⊎ (Rose (facts c.after_put.link).counts.stalls (facts c.after_read.link).counts.stalls
          ⊎ (Rose (facts c.after_put.link).counts.ends (facts c.after_read.link).counts.ends ⊎ Rose (facts c.after_put.link).counts.faults (facts c.after_read.link).counts.faults))
          → HasRead facts old (did_of c) new
      by (inl some) = inl some
      by (inr (inl rose)) = inr (inl (rose_read c (λ (k : Counts). k.stalls) (λ a b falls. falls.stalls) rose))
      by (inr (inr (inl rose))) = inr (inr (inl (rose_read c (λ (k : Counts). k.ends) (λ a b falls. falls.ends) rose)))
      by (inr (inr (inr rose))) = inr (inr (inr (rose_read c (λ (k : Counts). k.faults) (λ a b falls. falls.faults) rose)))

  -- ---- the frame

  kept_then : closes c.read ≡ None → old.framer.kept ++ took c ≡ c.after_read.framer.kept
  kept_then reads_on =
      ap (λ (l : List ℕ). l ++ took c) (sym (kept_put c))
      ∙ ((read_part c).bytes ∙ (ap (λ (l : List ℕ). c.after_read.framer.kept ++ l) ((read_part c).lost_none reads_on) ∙ append-nil c.after_read.framer.kept))

  may_then : closes c.read ≡ None → IsTrue (may_handle (port_after_put (item c) old)) → IsTrue (may_handle c.after_read)
  may_then reads_on may =
      may_same c.after_put c.after_read ((read_part c).stage ∙ stage_by-open c.read c.after_put.stage reads_on) (read_part c).machine (read_part c).waiting (read_part c).out
      ∙ subst (λ (p : PortFacts L). IsTrue (may_handle p)) (sym (port_put c)) may

  handled_or_lacked : IsTrue (may_handle c.after_read) → HasFrame c.after_read.framer.kept → frame c ≡ None → HandledOrNot routed c.after_read (frame c) c.handled c.after_handle
      → c.handled ≡ Closes Memory
  handled_or_lacked may has none (inl never) = absurd (never.3 may)
  handled_or_lacked may has none (inr due) = frame_tried routed c.after_read.framer.kept (frame c) c.handled has none due.1

  lacked : closes c.read ≡ None → IsTrue (may_handle (port_after_put (item c) old)) → HasFrame (old.framer.kept ++ took c) → frame c ≡ None → c.closed ≡ Some Memory
  lacked reads_on may has none =
      (handle_closes c Memory reads_on
      (handled_or_lacked (may_then reads_on may) (subst HasFrame (kept_then reads_on) has) none (handle_part c).shows)).closed

  pub has_handled : IsTrue (may_handle (port_after_put (item c) old)) → HasFrame (old.framer.kept ++ took c) → frame c ≡ None → c.closed ≡ Some Memory
  has_handled may has none = by_way (way c)
    where
      read_lacked : (cause : Cause) → c.closed ≡ Some cause → ((cause ≡ Memory) ⊎ ((took c ≡ []) × MayRead c.after_put)) → c.closed ≡ Some Memory
      read_lacked cause closed (inl memory) = closed ∙ ap (λ (x : Cause). Some x) memory
      read_lacked cause closed (inr nothing) =
          absurd (has_no old.framer.kept
          (subst HasFrame (ap (λ (l : List ℕ). old.framer.kept ++ l) nothing.0 ∙ append-nil old.framer.kept) has)
          (subst (λ (p : PortFacts L). HasNoFrame p.framer.kept) (port_put c) nothing.1.no_frame))

      by_way : Way c → c.closed ≡ Some Memory
      by_way (inl (cause, reads)) = read_lacked cause reads.closed (read_took facts c.after_put c.read c.after_read c.reads cause reads.so)
      by_way (inr (inl (cause, reads_on, handles))) = lacked reads_on may has none
      by_way (inr (inr (inl (cause, reads_on, handles_on, writes)))) = lacked reads_on may has none
      by_way (inr (inr (inr on))) = lacked on.reads_on may has none

  -- ---- the boxes

  might_look : (session : SessionId) → taking_session old ≡ Some session → echo_of (action_of old.machine (frame c)) ≡ [] → c.closed ≡ None → taking_session c.after_handle ≡ Some session
  might_look session looks silent none =
      let on = goes_on c none in
      let is = taking-is old session looks in
      let live : c.after_handle.stage ≡ Live =
      stage_handle c on.reads_on on.handles_on ∙ (ap (λ (p : PortFacts L). p.stage) (port_put c) ∙ put-live (item c) old.waiting old.stage is.0) in
      let out : c.after_handle.out ≡ [] =
      nothing_before c.after_handle.out (handle_part c).dropped
      (sym (echo_handle c) ∙ (ap (λ (l : List ℕ). l ++ echo_of (action_of old.machine (frame c))) is.1 ∙ silent)) in
      taking-of c.after_handle session live out (session_handle c ∙ is.2)

  pub has_looked : (session : SessionId) → taking_session old ≡ Some session → echo_of (action_of old.machine (frame c)) ≡ [] → c.closed ≡ None
      → HasLooked posts voices session old (did_of c) new
  has_looked session looks silent none =
      let may = might_look session looks silent none in record {
        post = λ no_post gave.
            subst (FindsPostEmpty posts old.passes) (sym (passes_end c)) (subst (λ (s : Option PassesFacts). FindsPostEmpty posts s c.after_take.passes) (passes_handle c)
            ((take_part c).post_empty_so session may no_post (λ first. gave (sym (first_handle c) ∙ first))));
        voice = λ no_voice gave.
            subst (FindsVoiceEmpty voices old.passes) (sym (passes_end c)) (subst (λ (s : Option PassesFacts). FindsVoiceEmpty voices s c.after_take.passes) (passes_handle c)
            ((take_part c).voice_empty_so session may no_voice (λ first. gave (sym (first_handle c) ∙ first))));
      }

  -- ---- the write

  out_then : c.closed ≡ None → c.after_take.out ≡ old.out ++ queued old.machine (did_of c)
  out_then none =
      (write_part c).bytes
      ∙ (ap (λ (l : List ℕ). bytes_written c ++ l)
      (sym (append-nil c.after_write.out) ∙ ap (λ (l : List ℕ). c.after_write.out ++ l) (sym ((handle_part c).dropped_none (goes_on c none).handles_on)))
      ∙ sym (all_sent c))

  pub has_written : is_closed old.stage ≡ false → old.out ++ queued old.machine (did_of c) ≢ [] → c.closed ≡ None → bytes_written c ≡ []
      → Rose (facts old.link).counts.stalls (facts new.link).counts.stalls
  has_written opened some none nothing =
      let on = goes_on c none in
      rose_write c (λ (k : Counts). k.stalls) (λ a b falls. falls.stalls)
      (write_tried facts c.after_take c.after_write c.wrote (bytes_written c)
      (may-write c.after_take (as_open c on.reads_on on.handles_on ∙ opened) (λ none_left. some (sym (out_then none) ∙ none_left)))
      on.writes_on nothing (write_part c).shows)
