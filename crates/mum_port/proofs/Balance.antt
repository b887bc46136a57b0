-- The bytes of a step: what was read, handled and kept, and what was to be written, was written and is kept.
use Rattle.mum_port.proofs.Common.{◌≡◌, ℕ, Bool, true, false, List, [], ◌++◌, Option, Some, None, refl, sym, ap, subst, ◌∙◌, inl, inr, append_assoc, append-nil, Cause, SessionId, Consumes, Keeps, LinkFacts, PassFacts, QueueFacts, PostFacts, VoiceFacts, Machine, session_of, action_of, bytes_of, echo_of, post_bytes, queued, voice_bytes, MayRead, PortFacts, is_closed, PortChain, Settles, ReadsInTurn, WritesInTurn, DeskItem, Step}
use Rattle.mum_port.proofs.{Course.closed_rests, Course.Way, Course.at_close, Course.bytes_written, Course.did_of, Course.frame, Course.goes_on, Course.handle_part, Course.lost, Course.machine_read, Course.out_read, Course.port_put, Course.post, Course.read_part, Course.remains, Course.session_handle, Course.take_part, Course.took, Course.unsent, Course.voice, Course.way, Course.write_part, Links.Appends-keeps, Links.Consumes-keeps, Links.Keeps-then_appends, ReadPart.Keeps-same, ReadPart.closes}

-- what stays twice stays
pub Keeps-trans : (a b c : Option (List ℕ)) → Keeps a b → Keeps b c → Keeps a c
Keeps-trans None b c one two = tt
Keeps-trans (Some xs) None c one two = absurd one
Keeps-trans (Some xs) (Some ys) None one two = absurd two
Keeps-trans (Some xs) (Some ys) (Some zs) one two = two ∙ one

-- ---- the lists

-- what was kept and taken, over the bytes that a frame left and those that memory was missing for
read_balance : (kept took mid lost frame unhandled : List ℕ) → kept ++ took ≡ mid ++ lost → mid ≡ frame ++ unhandled → kept ++ took ≡ frame ++ (unhandled ++ lost)
read_balance kept took mid lost frame unhandled reads handles =
    reads ∙ (ap (λ (l : List ℕ). l ++ lost) handles ∙ append_assoc frame unhandled lost)

-- what was to be written, where nothing was dropped
write_balance : (old echo mid post voice wrote new : List ℕ) → old ++ echo ≡ mid ++ [] → (mid ++ post) ++ voice ≡ wrote ++ new → old ++ (echo ++ (post ++ voice)) ≡ wrote ++ (new ++ [])
write_balance old echo mid post voice wrote new echoed written =
    sym (append_assoc old echo (post ++ voice))
    ∙ (ap (λ (l : List ℕ). l ++ (post ++ voice)) (echoed ∙ append-nil mid)
    ∙ (sym (append_assoc mid post voice)
    ∙ (written ∙ ap (λ (l : List ℕ). wrote ++ l) (sym (append-nil new)))))

-- and where an echo may have been, and nothing was taken after it
echo_balance : (old echo mid post voice wrote new dropped : List ℕ) → old ++ echo ≡ mid ++ dropped → post ≡ [] → voice ≡ [] → wrote ≡ [] → new ≡ mid
    → old ++ (echo ++ (post ++ voice)) ≡ wrote ++ (new ++ dropped)
echo_balance old echo mid post voice wrote new dropped echoed no_post no_voice no_write same =
    rw (no_post, no_voice, no_write, same) (ap (λ (l : List ℕ). old ++ l) (append-nil echo) ∙ echoed)

-- what is dropped at a close, and what is kept, is all that is left
kept_or_dropped : (closed : Option Cause) (bytes kept : List ℕ) → (closed ≡ None → bytes ≡ kept) → ((cause : Cause) → closed ≡ Some cause → kept ≡ []) → bytes ≡ kept ++ at_close closed bytes
kept_or_dropped None bytes kept stays drops = stays refl ∙ sym (append-nil kept)
kept_or_dropped (Some cause) bytes kept stays drops = ap (λ (l : List ℕ). l ++ bytes) (sym (drops cause refl))

false_unless : (test : Bool) → (test ≡ true → ⊥) → test ≡ false
false_unless false never = refl
false_unless true never = absurd (never refl)

pub at_close-none : (closed : Option Cause) (bytes : List ℕ) → closed ≡ None → at_close closed bytes ≡ []
at_close-none None bytes is = refl
at_close-none (Some cause) bytes is = absurd (cc is)

module _ {L : Type 0} (facts : L → LinkFacts) where
  pub settle-same : (was_closed : Bool) (old : PortFacts L) (closed : Option Cause) (new : PortFacts L) → Settles facts was_closed old closed new → closed ≡ None → new ≡ old
  settle-same was_closed old closed new (inl stays) none = stays.same
  settle-same was_closed old closed new (inr now) none = absurd (cc (sym none ∙ now.so))

  pub settle-empty : (was_closed : Bool) (old : PortFacts L) (closed : Option Cause) (new : PortFacts L) → Settles facts was_closed old closed new
      → (cause : Cause) → closed ≡ Some cause → (new.framer.kept ≡ []) × (new.out ≡ [])
  settle-empty was_closed old closed new (inl stays) cause some = absurd (cc (sym stays.so ∙ some))
  settle-empty was_closed old closed new (inr now) cause some = (ap (λ (p : PortFacts L). p.framer.kept) now.closes.rest, ap (λ (p : PortFacts L). p.out) now.closes.rest)

  pub settle-machine : (was_closed : Bool) (old : PortFacts L) (closed : Option Cause) (new : PortFacts L) → Settles facts was_closed old closed new
      → (new.machine ≡ old.machine) × (new.waiting ≡ old.waiting) × (new.passes ≡ old.passes)
  settle-machine was_closed old closed new (inl stays) =
      (ap (λ (p : PortFacts L). p.machine) stays.same, ap (λ (p : PortFacts L). p.waiting) stays.same, ap (λ (p : PortFacts L). p.passes) stays.same)
  settle-machine was_closed old closed new (inr now) =
      (ap (λ (p : PortFacts L). p.machine) now.closes.rest, ap (λ (p : PortFacts L). p.waiting) now.closes.rest, ap (λ (p : PortFacts L). p.passes) now.closes.rest)

  pub settle-first : (was_closed : Bool) (old : PortFacts L) (closed : Option Cause) (new : PortFacts L) → Settles facts was_closed old closed new
      → new.voice_first ≡ old.voice_first
  settle-first was_closed old closed new (inl stays) = ap (λ (p : PortFacts L). p.voice_first) stays.same
  settle-first was_closed old closed new (inr now) = ap (λ (p : PortFacts L). p.voice_first) now.closes.rest

  pub settle-link : (was_closed : Bool) (old : PortFacts L) (closed : Option Cause) (new : PortFacts L) → Settles facts was_closed old closed new
      → ((facts new.link).counts ≡ (facts old.link).counts) × Keeps (facts old.link).left (facts new.link).left × Keeps (facts old.link).written (facts new.link).written
  settle-link was_closed old closed new (inl stays) = (
    ap (λ (p : PortFacts L). (facts p.link).counts) stays.same,
    Keeps-same _ _ (ap (λ (p : PortFacts L). (facts p.link).left) stays.same),
    Keeps-same _ _ (ap (λ (p : PortFacts L). (facts p.link).written) stays.same),
  )
  settle-link was_closed old closed new (inr now) = (now.closes.shuts.counts_same, now.closes.shuts.left_same, now.closes.shuts.written_same)

module _ {L V : Type 0} {facts : L → LinkFacts} {routed : V → ℕ → SessionId → List ℕ → V → Type 0}
    {posts voices : List QueueFacts} {old : PortFacts L} {desk : PassFacts DeskItem} {router : V} {step : Step}
    {new : PortFacts L} {desk_after : PassFacts DeskItem} {router_after : V}
    (c : PortChain facts routed posts voices old desk router step new desk_after router_after) where
  -- ---- the link between the parts

  pub link_put : c.after_put.link ≡ old.link
  link_put = ap (λ (p : PortFacts L). p.link) (port_put c)

  pub link_take : c.after_take.link ≡ c.after_read.link
  link_take = (take_part c).link ∙ (handle_part c).link

  -- ---- what was read

  pub kept_put : c.after_put.framer.kept ≡ old.framer.kept
  kept_put = ap (λ (p : PortFacts L). p.framer.kept) (port_put c)

  pub kept_write : c.after_write.framer.kept ≡ c.after_handle.framer.kept
  kept_write = ap (λ (f : _). f.kept) ((write_part c).framer ∙ (take_part c).framer)

  -- all that was kept and taken is the frame that was handled, and what remains
  pub all_read : old.framer.kept ++ took c ≡ bytes_of (frame c) ++ remains c
  all_read =
      ap (λ (l : List ℕ). l ++ took c) (sym (kept_put))
      ∙ read_balance c.after_put.framer.kept (took c) c.after_read.framer.kept (lost c) (bytes_of (frame c)) (handle_part c).unhandled (read_part c).bytes (handle_part c).bytes

  remains_kept : c.closed ≡ None → remains c ≡ new.framer.kept
  remains_kept none =
      let on = goes_on c none in
      let lost_none : lost c ≡ [] = (read_part c).lost_none on.reads_on in
      ap (λ (l : List ℕ). (handle_part c).unhandled ++ l) lost_none
      ∙ (append-nil (handle_part c).unhandled
      ∙ ((handle_part c).unhandled_kept on.handles_on
      ∙ (sym (kept_write) ∙ ap (λ (p : PortFacts L). p.framer.kept) (sym (settle-same facts _ _ _ _ c.settles none)))))

  pub reads_in_turn : ReadsInTurn facts old (did_of c) new
  reads_in_turn = record {
    bytes = all_read ∙ ap (λ (l : List ℕ). bytes_of (frame c) ++ l)
        (kept_or_dropped c.closed (remains c) new.framer.kept (remains_kept) (λ cause some. (settle-empty facts _ _ _ _ c.settles cause some).0));
    lost_at_close = at_close-none c.closed (remains c);
    allowed = λ some. subst (λ (p : PortFacts L). MayRead p) (port_put c) ((read_part c).allowed some);
    consumed = Consumes-keeps _ _ _ (took c)
        (subst (λ (l : L). Consumes (facts l).left (facts c.after_read.link).left (took c)) (link_put) (read_part c).consumed)
        (Keeps-trans _ _ _ (subst (λ (l : L). Keeps (facts l).left (facts c.after_write.link).left) (link_take) (write_part c).left_same) (settle-link facts _ _ _ _ c.settles).1);
  }

  -- ---- what was written

  pub echo_handle : old.out ++ echo_of (action_of old.machine (frame c)) ≡ c.after_handle.out ++ (handle_part c).dropped
  echo_handle =
      ap (λ (l : List ℕ). l ++ echo_of (action_of old.machine (frame c))) (sym (out_read c))
      ∙ (ap (λ (m : Machine). c.after_read.out ++ echo_of (action_of m (frame c))) (sym (machine_read c)) ∙ (handle_part c).out)

  pub out_take : c.after_take.out ≡ (c.after_handle.out ++ post_bytes (session_of old.machine.stage) (post c)) ++ voice_bytes (session_of old.machine.stage) (voice c)
  out_take =
      (take_part c).out
      ∙ ap (λ (s : Option SessionId). (c.after_handle.out ++ post_bytes s (post c)) ++ voice_bytes s (voice c)) (session_handle c)

  all_sent-on : closes c.handled ≡ None → old.out ++ queued old.machine (did_of c) ≡ bytes_written c ++ unsent c
  all_sent-on handles_on =
      let none : (handle_part c).dropped ≡ [] = (handle_part c).dropped_none handles_on in
      write_balance _ _ c.after_handle.out _ _ _ c.after_write.out
      (echo_handle ∙ ap (λ (l : List ℕ). c.after_handle.out ++ l) none) (sym (out_take) ∙ (write_part c).bytes)
      ∙ ap (λ (l : List ℕ). bytes_written c ++ (c.after_write.out ++ l)) (sym none)

  pub all_sent : old.out ++ queued old.machine (did_of c) ≡ bytes_written c ++ unsent c
  all_sent = sent (way c)
    where
      sent : Way c → old.out ++ queued old.machine (did_of c) ≡ bytes_written c ++ unsent c
      sent (inl (cause, reads)) = all_sent-on (ap closes reads.not_due)
      sent (inr (inl (cause, reads_on, handles))) =
          echo_balance _ _ c.after_handle.out _ _ _ c.after_write.out (handle_part c).dropped (echo_handle)
          (ap (λ (p : Option PostFacts). post_bytes (session_of old.machine.stage) p) handles.resting.no_post)
          (ap (λ (v : Option VoiceFacts). voice_bytes (session_of old.machine.stage) v) handles.resting.no_voice)
          handles.resting.no_write.1 (ap (λ (p : PortFacts L). p.out) handles.resting.same)
      sent (inr (inr (inl (cause, reads_on, handles_on, writes)))) = all_sent-on handles_on
      sent (inr (inr (inr goes))) = all_sent-on goes.handles_on

  unsent_kept : c.closed ≡ None → unsent c ≡ new.out
  unsent_kept none =
      ap (λ (l : List ℕ). c.after_write.out ++ l) ((handle_part c).dropped_none (goes_on c none).handles_on)
      ∙ (append-nil c.after_write.out ∙ ap (λ (p : PortFacts L). p.out) (sym (settle-same facts _ _ _ _ c.settles none)))

  pub writes_in_turn : WritesInTurn facts old (did_of c) new
  writes_in_turn = record {
    bytes = all_sent ∙ ap (λ (l : List ℕ). bytes_written c ++ l)
        (kept_or_dropped c.closed (unsent c) new.out (unsent_kept) (λ cause some. (settle-empty facts _ _ _ _ c.settles cause some).1));
    unsaid_at_close = at_close-none c.closed (unsent c);
    allowed = λ some. false_unless (is_closed old.stage) (λ closed. some (closed_rests c closed).no_write.1);
    appended = Appends-keeps _ _ _ (bytes_written c)
        (Keeps-then_appends _ _ _ (bytes_written c)
        (subst (λ (l : L). Keeps (facts l).written (facts c.after_take.link).written) (link_put)
        (subst (λ (l : L). Keeps (facts c.after_put.link).written (facts l).written) (sym (link_take)) (read_part c).written_same))
        (write_part c).appended)
        (settle-link facts _ _ _ _ c.settles).2;
  }
