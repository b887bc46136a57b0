-- What holds of a step of a port, where it holds of a packet that was routed and of what stays as it is.
use Rattle.mum_serve_laws.proofs.Common.{◌≡◌, ℕ, List, [], Option, Some, SessionId, PortRoutes, Opening, Action, Voice, CommonFacts, RoutesPacket, Moment, look_asked, look_made}

module _ (opening : Opening) (R : CommonFacts → CommonFacts → List Moment → Type 0)
    (same : (old new : CommonFacts) → new ≡ old → R old new [])
    (made : (old : CommonFacts) (connection : ℕ) (speaker : SessionId) (bytes : List ℕ) (new : CommonFacts) (routes : RoutesPacket opening old connection speaker bytes new) → R old new (look_made opening old connection speaker bytes new routes)) where
  pub handled : (connection : ℕ) (session : Option SessionId) (asked : Option Action) (old new : CommonFacts) (routes : PortRoutes (RoutesPacket opening) connection session asked old new)
      → R old new (look_asked opening connection session asked old new routes)
  handled connection session (Some (Voice packet)) old new routes = made old connection routes.0 packet new routes.2
  handled connection session others old new stays = same old new stays
