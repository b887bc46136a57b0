-- What a step takes from the boxes of its passes.
use Rattle.mum_port.proofs.Common.{◌≡◌, ℕ, ◌+◌, Bool, List, [], ◌++◌, Option, Some, None, refl, sym, ap, subst, ◌∙◌, inl, inr, ⊎_elim, SessionId, LinkFacts, PassFacts, QueueFacts, session_of, PortDid, stray_posts, stray_voices, PortFacts, taking_session, stage_by, PortChain, foreign_count, FindsPostEmpty, FindsVoiceEmpty, LooksWhereItMay, PassesTake, TakesByTurns, TakesInTurn, voice_first_after, DeskItem, Step, PassesFacts, Stage, Live, Ending, Closed, Went, NotDue, Stalled, Worked, Closes}
use Rattle.mum_port.proofs.{Balance.echo_handle, Balance.settle-first, Balance.settle-machine, BoxParts.taking-is, Closing.Puts-live, Closing.stage_by-live, Course.did_of, Course.first_handle, Course.handle_part, Course.passes_handle, Course.post, Course.read_part, Course.session_handle, Course.take_part, Course.voice, Course.write_part, Parcels.BothTaken, Parcels.nothing_before, Parcels.taking-of, ReadPart.closes}

-- ---- passes

passes-take : (passes after : Option PassesFacts) (did : PortDid) → BothTaken passes did.post did.voice after → PassesTake passes did after
passes-take None None did taken = taken
passes-take None (Some after) did taken = absurd taken
passes-take (Some passes) None did taken = absurd taken
passes-take (Some passes) (Some after) did taken = record { slot = taken.0; post = taken.1; voice = taken.2 }

-- ---- who looks

-- a port that is live after a part of a step met no cause in it
live_goes_on : (went : Went) (stage : Stage) → stage_by went stage ≡ Live → closes went ≡ None
live_goes_on NotDue stage live = refl
live_goes_on Stalled stage live = refl
live_goes_on Worked stage live = refl
live_goes_on (Closes cause) Live live = absurd (cc live)
live_goes_on (Closes cause) (Ending parting) live = absurd (cc live)
live_goes_on (Closes cause) (Closed before farewell) live = absurd (cc live)

module _ {L V : Type 0} {facts : L → LinkFacts} {routed : V → ℕ → SessionId → List ℕ → V → Type 0}
    {posts voices : List QueueFacts} {old : PortFacts L} {desk : PassFacts DeskItem} {router : V} {step : Step}
    {new : PortFacts L} {desk_after : PassFacts DeskItem} {router_after : V}
    (c : PortChain facts routed posts voices old desk router step new desk_after router_after) where
  looks_old : (session : SessionId) → c.after_handle.stage ≡ Live → c.after_handle.out ≡ [] → session_of c.after_handle.machine.stage ≡ Some session → taking_session old ≡ Some session
  looks_old session live none there =
      let handled : stage_by c.handled c.after_read.stage ≡ Live = sym (handle_part c).stage ∙ live in
      let live_read : c.after_read.stage ≡ Live = stage_by-live c.handled c.after_read.stage handled in
      let live_put : c.after_put.stage ≡ Live = stage_by-live c.read c.after_put.stage (sym (read_part c).stage ∙ live_read) in
      let dropped_none = (handle_part c).dropped_none (live_goes_on c.handled c.after_read.stage handled) in
      let out_none = nothing_before old.out _ (echo_handle c ∙ (ap (λ (l : List ℕ). l ++ (handle_part c).dropped) none ∙ dropped_none)) in
      taking-of old session (Puts-live old desk c.put c.after_put desk_after c.puts live_put) out_none (sym (session_handle c) ∙ there)

  post_session : (session : SessionId) → taking_session c.after_handle ≡ Some session → taking_session old ≡ Some session
  post_session session looks =
      let is = taking-is c.after_handle session looks in
      looks_old session is.0 is.1 is.2

  pub passes_end : new.passes ≡ c.after_take.passes
  passes_end = (settle-machine facts _ _ _ _ c.settles).2 ∙ (write_part c).passes

  first_end : new.voice_first ≡ c.after_take.voice_first
  first_end = settle-first facts _ _ _ _ c.settles ∙ (write_part c).first

  pub looks_where_it_may : LooksWhereItMay old (did_of c) new
  looks_where_it_may = ⊎_elim
      (λ unlooked. inl ((unlooked.0, unlooked.1), passes_end ∙ (unlooked.2 ∙ passes_handle c)))
      (λ looked. inr (looked.0, post_session looked.0 looked.1)) (take_part c).looked

  stale_is : step.stale ≡ stray_posts (session_of old.machine.stage) (post c) + stray_voices (session_of old.machine.stage) (voice c)
  stale_is =
      let one = (take_part c).post_count ∙ ap (λ (s : Option SessionId). stray_posts s (post c)) (session_handle c) in
      let two = (take_part c).voice_count ∙ ap (λ (s : Option SessionId). stray_voices s (voice c)) (session_handle c) in
      ap (λ (s : Step). s.stale) c.came_to ∙ (ap (λ (n : ℕ). n + foreign_count c.heard) one ∙ ap (λ (n : ℕ). stray_posts (session_of old.machine.stage) (post c) + n) two)

  pub takes_in_turn : TakesInTurn old (did_of c) step new
  takes_in_turn = record {
    passes = passes-take old.passes new.passes (did_of c)
        (subst (BothTaken old.passes (post c) (voice c)) (sym passes_end)
        (subst (λ (s : Option PassesFacts). BothTaken s (post c) (voice c) c.after_take.passes) (passes_handle c) (take_part c).taken));
    looks = looks_where_it_may;
    stale = stale_is;
  }

  pub takes_by_turns : TakesByTurns posts voices old (did_of c) new
  takes_by_turns = record {
    notice_behind_notice = λ first some.
        let found = (take_part c).notice_behind_notice (first_handle c ∙ first) some in
        (found.0, subst (FindsVoiceEmpty voices old.passes) (sym passes_end) (subst (λ (s : Option PassesFacts). FindsVoiceEmpty voices s c.after_take.passes) (passes_handle c) found.1));
    voice_behind_voice = λ first some no_post.
        subst (FindsPostEmpty posts old.passes) (sym passes_end)
        (subst (λ (s : Option PassesFacts). FindsPostEmpty posts s c.after_take.passes) (passes_handle c)
        ((take_part c).voice_behind_voice (first_handle c ∙ first) some no_post));
    next = first_end ∙ ((take_part c).next ∙ ap (λ (b : Bool). voice_first_after (post c) (voice c) b) (first_handle c));
  }
