-- The packet that the step of a port routes is that of the frame that it handles.
use Rattle.mum_worker_laws.proofs.Common.{◌≡◌, ◌==◌, ◌∙◌, ℕ, Bool, true, false, cond, List, [], ◌∷◌, ◌++◌, Option, Some, None, Result, refl, ap, sym, inl, inr, if◌then◌else◌, cons_option, filter_map, flat_map, flat_map-append, append-nil, filter_map-append, SessionId, LinkFacts, action_of, PortFacts, PortRoutes, told_by_passes, Opening, Machine, session_of, Action, Voice, Parts, packet, BadVoice, BoxesFacts, CommonFacts, RoutesPacket, PortSteps, Shares, Moment, Take, Took, look_asked, look_made, look_stepped, moments_stepped, takes_by, Said, routed_of, said_by, said_of, taken_of}
use Rattle.mum_worker_laws.proofs.{Counts.nothing_either, Taking.takes_of_it}

one_said : (b : Bool) (said : Said) → cons_option (if b then Some said else None) [] ≡ cond b (said ∷ []) []
one_said true said = refl
one_said false said = refl

module _ (opening : Opening) (asked : ℕ) where
  -- these moments are those packets, where they are of the connection that is asked for
  abbrev Are : ℕ → List Moment → List Said → Type 0
  Are connection told said = filter_map (routed_of asked) told ≡ cond (connection == asked) said []

  made_said : (old : CommonFacts) (connection : ℕ) (speaker : SessionId) (bytes : List ℕ) (new : CommonFacts) (routes : RoutesPacket opening old connection speaker bytes new)
      → Are connection (look_made opening old connection speaker bytes new routes) (said_of (Some speaker) (packet bytes))
  made_said old connection speaker bytes new (inl drops) =
      nothing_either (connection == asked) ∙ ap (λ (r : Result Parts BadVoice). cond (connection == asked) (said_of (Some speaker) r) []) (sym drops.not_one.parsed)
  made_said old connection speaker bytes new (inr keeps) =
      one_said (connection == asked) (record { speaker = speaker; packet = keeps.once.parts })
      ∙ ap (λ (r : Result Parts BadVoice). cond (connection == asked) (said_of (Some speaker) r) []) (sym keeps.once.parsed)

  asked_said : (machine : Machine) (does : Option Action) (old new : CommonFacts) (routes : PortRoutes (RoutesPacket opening) machine.connection (session_of machine.stage) does old new)
      → Are machine.connection (look_asked opening machine.connection (session_of machine.stage) does old new routes) (said_by machine does)
  asked_said machine (Some (Voice bytes)) old new routes =
      made_said old machine.connection routes.0 bytes new routes.2
      ∙ ap (λ (s : Option SessionId). cond (machine.connection == asked) (said_of s (packet bytes)) []) (sym routes.1)
  asked_said machine others old new same = nothing_either (machine.connection == asked)

  pub step_said : {L : Type 0} (facts : L → LinkFacts) (boxes : BoxesFacts) (old : PortFacts L) (before : Shares) (new : PortFacts L) (after : Shares)
      (steps : PortSteps facts opening boxes old before new after)
      → Are old.machine.connection (moments_stepped opening facts boxes old before new after steps) (said_by old.machine (action_of old.machine steps.turned.0.handled))
  step_said facts boxes old before new after steps =
      let looks = look_stepped opening facts boxes old before new after steps in
      filter_map-append (routed_of asked) looks (Took (takes_by old.machine steps.turned.0) (told_by_passes new.passes) ∷ [])
      ∙ (append-nil (filter_map (routed_of asked) looks)
      ∙ asked_said old.machine (action_of old.machine steps.turned.0.handled) before.common steps.routed steps.turned.1.routes)

  -- nothing is taken by a look
  looks_take : (old : CommonFacts) (connection : ℕ) (speaker : SessionId) (bytes : List ℕ) (new : CommonFacts) (routes : RoutesPacket opening old connection speaker bytes new)
      → flat_map (taken_of asked) (look_made opening old connection speaker bytes new routes) ≡ []
  looks_take old connection speaker bytes new (inl drops) = refl
  looks_take old connection speaker bytes new (inr keeps) = refl

  asked_take : (connection : ℕ) (session : Option SessionId) (does : Option Action) (old new : CommonFacts) (routes : PortRoutes (RoutesPacket opening) connection session does old new)
      → flat_map (taken_of asked) (look_asked opening connection session does old new routes) ≡ []
  asked_take connection session (Some (Voice bytes)) old new routes = looks_take old connection routes.0 bytes new routes.2
  asked_take connection session others old new same = refl

  pub step_taken : {L : Type 0} (facts : L → LinkFacts) (boxes : BoxesFacts) (old : PortFacts L) (before : Shares) (new : PortFacts L) (after : Shares)
      (steps : PortSteps facts opening boxes old before new after)
      → flat_map (taken_of asked) (moments_stepped opening facts boxes old before new after steps) ≡ cond (old.machine.connection == asked) (takes_by old.machine steps.turned.0) []
  step_taken facts boxes old before new after steps =
      let looks = look_stepped opening facts boxes old before new after steps in
      let took : Moment = Took (takes_by old.machine steps.turned.0) (told_by_passes new.passes) in
      flat_map-append (taken_of asked) looks (took ∷ [])
      ∙ (ap (λ (l : List Take). l ++ (taken_of asked took ++ []))
      (asked_take old.machine.connection (session_of old.machine.stage) (action_of old.machine steps.turned.0.handled) before.common steps.routed steps.turned.1.routes)
      ∙ (append-nil (taken_of asked took)
      ∙ takes_of_it asked old.machine steps.turned.0 (old.machine.connection == asked) refl))
