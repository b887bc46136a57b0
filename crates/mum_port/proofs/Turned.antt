-- The sentences of a step, of the chain of its parts.
use Rattle.mum_port.proofs.Common.{◌≡◌, ℕ, ◌+◌, ◌≤◌, IsTrue, List, ◌++◌, length, Option, Some, None, is_none, not, refl, sym, ap, subst, ◌∙◌, ◌⊎◌, inl, inr, arith, length-append, leb-true, SessionId, Frame, LinkFacts, PassFacts, QueueFacts, PostFacts, VoiceFacts, Machine, session_of, PortDid, action_of, asked_item, echo_of, port_after_put, post_bytes, queued, voice_bytes, PortFacts, may_handle, waiting_after, is_live, PortChain, EndsInTurn, HandlesInTurn, KeepsWithin, LooksWhereItMay, PortTurn, PutsInTurn, RoutesPacket, WritesInTurn, DeskItem, Step, UNWRITTEN_LIMIT}
use Rattle.mum_port.proofs.{Balance.reads_in_turn, Balance.settle-machine, Balance.writes_in_turn, BoxParts.taking-is, Course.Way, Course.did_of, Course.frame, Course.handle_part, Course.machine_read, Course.machine_write, Course.port_put, Course.read_part, Course.take_part, Course.way, Course.write_part, Ends.falls_all, Ends.may_before, Ends.settled_in_turn, HandlePart.RoutesOf, Idle.and-right, Idle.did_something, Idle.is_idle, Idle.too_long, ReadPart.closes, ReadPart.put-due, ReadPart.put-pass, PassTakes.looks_where_it_may, PassTakes.takes_by_turns, PassTakes.takes_in_turn, Speaking.routes_packet, Trying.has_handled, Trying.has_looked, Trying.has_read, Trying.has_written}

-- ---- the bound on what is kept

-- one more frame after at most the limit, or after nothing
bounded : (limit frame_limit old more wrote kept unsaid : ℕ) → old + more ≡ wrote + (kept + unsaid) → more ≤ frame_limit → ((more ≡ 0) ⊎ (old ≤ limit)) → old ≤ limit + frame_limit → kept ≤ limit + frame_limit
bounded limit frame_limit old more wrote kept unsaid sum few (inl none) within = omega (arith, sum, few, none, within)
bounded limit frame_limit old more wrote kept unsaid sum few (inr little) within = omega (arith, sum, few, little, within)

lengths : (old more wrote kept unsaid : List ℕ) → old ++ more ≡ wrote ++ (kept ++ unsaid) → length old + length more ≡ length wrote + (length kept + length unsaid)
lengths old more wrote kept unsaid same =
    sym (length-append old more) ∙ (ap (λ (l : List ℕ). length l) same ∙ (length-append wrote (kept ++ unsaid) ∙ ap (λ (n : ℕ). length wrote + n) (length-append kept unsaid)))

module _ {L : Type 0} where
  little_unwritten : (port : PortFacts L) → IsTrue (may_handle port) → length port.out ≤ UNWRITTEN_LIMIT
  little_unwritten port may =
      leb-true (length port.out) UNWRITTEN_LIMIT
      (and-right (is_none port.waiting) _ (and-right (not port.machine.awaits) _ (and-right (is_live port.stage) _ may)))

  -- nothing is to be written more, or little was
  more_or_little : (old new : PortFacts L) (did : PortDid) (handled : Option Frame) → did.handled ≡ handled → HandlesInTurn old did new → LooksWhereItMay old did new
      → (length (queued old.machine did) ≡ 0) ⊎ (length old.out ≤ UNWRITTEN_LIMIT)
  more_or_little old new did (Some one) is handles looks = inr (little_unwritten (port_after_put did.put old) (handles.allowed one is))
  more_or_little old new did None is handles (inl unlooked) =
      inl (ap (λ (f : Option Frame). length (echo_of (action_of old.machine f) ++ (post_bytes (session_of old.machine.stage) did.post ++ voice_bytes (session_of old.machine.stage) did.voice))) is
      ∙ (ap (λ (p : Option PostFacts). length (post_bytes (session_of old.machine.stage) p ++ voice_bytes (session_of old.machine.stage) did.voice)) unlooked.0.0
      ∙ ap (λ (v : Option VoiceFacts). length (voice_bytes (session_of old.machine.stage) v)) unlooked.0.1))
  more_or_little old new did None is handles (inr looks) =
      inr (subst (λ (l : List ℕ). length l ≤ UNWRITTEN_LIMIT) (sym (taking-is old looks.0 looks.1).1) (omega arith))

module _ {L : Type 0} (facts : L → LinkFacts) where
  keeps_within : (old new : PortFacts L) (did : PortDid) → HandlesInTurn old did new → LooksWhereItMay old did new → WritesInTurn facts old did new → KeepsWithin old did new
  keeps_within old new did handles looks writes frame_limit few within =
      bounded UNWRITTEN_LIMIT frame_limit (length old.out) (length (queued old.machine did)) (length did.wrote) (length new.out) (length did.unsaid)
      (lengths old.out (queued old.machine did) did.wrote new.out did.unsaid writes.bytes) few (more_or_little old new did did.handled refl handles looks) within

-- ---- the sentences

module _ {L V : Type 0} {facts : L → LinkFacts} {routed : V → ℕ → SessionId → List ℕ → V → Type 0}
    {posts voices : List QueueFacts} {old : PortFacts L} {desk : PassFacts DeskItem} {router : V} {step : Step}
    {new : PortFacts L} {desk_after : PassFacts DeskItem} {router_after : V}
    (c : PortChain facts routed posts voices old desk router step new desk_after router_after) where
  -- where a frame was handled the read met no cause
  reads_on : (f : Frame) → frame c ≡ Some f → closes c.read ≡ None
  reads_on f is = by_way (way c)
    where
      by_way : Way c → closes c.read ≡ None
      by_way (inl (cause, reads)) = absurd (cc (sym reads.no_frame ∙ is))
      by_way (inr (inl (cause, reads_so, handles))) = reads_so
      by_way (inr (inr (inl (cause, reads_so, handles_on, writes)))) = reads_so
      by_way (inr (inr (inr on))) = on.reads_on

  pub handles_in_turn : HandlesInTurn old (did_of c) new
  handles_in_turn = record {
    whole = (handle_part c).whole;
    allowed = λ f is. may_before c (reads_on f is) ((handle_part c).allowed f is);
    machine = (settle-machine facts _ _ _ _ c.settles).0 ∙ machine_write c;
  }

  pub routes_in_turn : RoutesPacket routed old.machine.connection (session_of old.machine.stage) (action_of old.machine (frame c)) router router_after
  routes_in_turn =
      routes_packet routed old.machine (frame c) router router_after
      (subst (λ (m : Machine). RoutesOf routed m.connection (session_of m.stage) (action_of m (frame c)) router router_after) (machine_read c) (handle_part c).routes)

  pub puts_in_turn : PutsInTurn old desk (did_of c) new desk_after
  puts_in_turn = record {
    due = put-due old desk c.put c.after_put desk_after c.puts;
    pass = put-pass old desk c.put c.after_put desk_after c.puts;
    waiting = (settle-machine facts _ _ _ _ c.settles).1 ∙ ((write_part c).waiting ∙ ((take_part c).waiting ∙ ((handle_part c).waiting
        ∙ (ap (λ (m : Machine). waiting_after (asked_item m (frame c)) c.after_read.waiting) (machine_read c)
        ∙ ap (λ (w : Option DeskItem). waiting_after (asked_item old.machine (frame c)) w)
        ((read_part c).waiting ∙ ap (λ (p : PortFacts L). p.waiting) (port_put c))))));
  }

  pub ends_in_turn : EndsInTurn facts old (did_of c) step new
  ends_in_turn = record {
    reported = ap (λ (s : Step). s.closed) c.came_to;
    settled = settled_in_turn c c.settles;
    too_long = too_long c;
    none_falls = falls_all c;
  }

  pub turned : PortTurn facts routed posts voices old desk router (did_of c) step new desk_after router_after
  turned = record {
    reads = reads_in_turn c;
    handles = handles_in_turn;
    routes = routes_in_turn;
    puts = puts_in_turn;
    takes = takes_in_turn c;
    by_turns = takes_by_turns c;
    writes = writes_in_turn c;
    within = keeps_within facts old new (did_of c) handles_in_turn (looks_where_it_may c) (writes_in_turn c);
    ends = ends_in_turn;
    idle = is_idle c;
    worked = did_something c;
    has_read = has_read c;
    has_handled = has_handled c;
    has_looked = has_looked c;
    has_written = has_written c;
  }

  -- a step did something of which the sentences hold
  pub did_turn : (did : PortDid) × PortTurn facts routed posts voices old desk router did step new desk_after router_after
  did_turn = (did_of c, turned)
