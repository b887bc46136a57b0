-- What holds of each reply that is heard and of each packet that is routed, from one to the next, holds over turns.
use Rattle.mum_step_laws.proofs.Common.{◌≡◌, ◌∙◌, ℕ, List, [], ◌∷◌, ◌++◌, length, Option, Some, None, refl, sym, ap, inl, inr, SessionId, idle, Along, TurnsTo, Turn, LinkFacts, action_of, PortFacts, told_by_passes, PortRoutes, Rung, Comes, Lagging, NoMore, NoteFacts, Opening, PassFacts, ReplyFacts, RouterFacts, Delivery, RoutesAt, Routed, Action, Voice, Edit, Parts, BoxesFacts, WorkerFacts, Admits, Hears, LearnsGiven, CommonFacts, RoutesPacket, PortSteps, Shares, Turned, WorkerTurned, shares_of, Moment, Take, Told, Looked, Took, history, look_asked, look_made, look_stepped, moments_along, moments_of, moments_stepped, takes_by, told_by, WorkersAreWorkers}
use Rattle.mum_published.specs.Bell.{Answer}
use Rattle.mum_session.specs.Machine.{session_of}
use Rattle.mum_step_laws.proofs.WorkerRunning.{Leads, leads_on, leads_same, leads_saw, leads_told, leads_took}

-- a relation of routers by what happened between them, that holds of nothing, of a reply, of what was taken, of a route, and of one
-- thing after another
record Walks (opening : Opening) (R : RouterFacts → RouterFacts → List Moment → Type 0) : Type 0 where
  same : (old new : RouterFacts) → new ≡ old → R old new []
  told : (reply : ReplyFacts) (old mid new : RouterFacts) → LearnsGiven reply.note old mid → Admits reply.roll mid new → R old new (Told reply ∷ [])
  took : (takes : List Take) (note : Option NoteFacts) (old new : RouterFacts) → LearnsGiven note old new → R old new (Took takes note ∷ [])
  saw : (connection : ℕ) (old : RouterFacts) (speaker : SessionId) (packet : Parts) (edits : List Edit) (deliveries : List Delivery) (new : RouterFacts) (routed : Routed)
      → RoutesAt opening old speaker packet edits deliveries new routed
      → R old new (Looked (record { connection = connection; speaker = speaker; packet = packet; edits = edits; deliveries = deliveries }) ∷ [])
  on : (old mid new : RouterFacts) (ms ns : List Moment) → R old mid ms → R mid new ns → R old new (ms ++ ns)

module _ (opening : Opening) (R : RouterFacts → RouterFacts → List Moment → Type 0) (walks : Walks opening R) where
  made : (old : CommonFacts) (connection : ℕ) (speaker : SessionId) (bytes : List ℕ) (new : CommonFacts) (routes : RoutesPacket opening old connection speaker bytes new)
      → R old.router new.router (look_made opening old connection speaker bytes new routes)
  made old connection speaker bytes new (inl drops) = walks.same old.router new.router drops.not_one.same
  made old connection speaker bytes new (inr keeps) =
      walks.saw connection old.router speaker keeps.once.parts keeps.once.routes.0 keeps.once.routes.1 new.router keeps.routed keeps.once.routes.2

  same_common : (old new : CommonFacts) → new ≡ old → R old.router new.router []
  same_common old new is = walks.same old.router new.router (ap (λ (c : CommonFacts). c.router) is)

  of_asked : (connection : ℕ) (session : Option SessionId) (asked : Option Action) (old new : CommonFacts) (routes : PortRoutes (RoutesPacket opening) connection session asked old new)
      → R old.router new.router (look_asked opening connection session asked old new routes)
  of_asked connection session (Some (Voice packet)) old new routes = made old connection routes.0 packet new routes.2
  of_asked connection session others old new is = same_common old new is

  module _ {L : Type 0} (facts : L → LinkFacts) where
    stepped : (boxes : BoxesFacts) (old : PortFacts L) (before : Shares) (new : PortFacts L) (after : Shares) (steps : PortSteps facts opening boxes old before new after)
        → R before.common.router after.common.router (moments_stepped opening facts boxes old before new after steps)
    stepped boxes old before new after steps =
        walks.on before.common.router steps.routed.router after.common.router
        (look_stepped opening facts boxes old before new after steps) (Took (takes_by old.machine steps.turned.0) (told_by_passes new.passes) ∷ [])
        (of_asked old.machine.connection (session_of old.machine.stage) (action_of old.machine steps.turned.0.handled) before.common steps.routed steps.turned.1.routes)
        (walks.took (takes_by old.machine steps.turned.0) (told_by_passes new.passes) steps.routed.router after.common.router steps.learns)

    along_all : (boxes : BoxesFacts) (olds : List (PortFacts L)) (before : Shares) (news : List (PortFacts L)) (after : Shares) (along : Along (PortSteps facts opening boxes) olds before news after)
        → R before.common.router after.common.router (moments_along opening facts boxes olds before news after along)
    along_all boxes [] before [] after is = same_common before.common after.common (ap (λ (s : Shares). s.common) is)
    along_all boxes [] before (new ∷ news) after none = absurd none
    along_all boxes (old ∷ olds) before [] after none = absurd none
    along_all boxes (old ∷ olds) before (new ∷ news) after (between, step, rest) =
        walks.on before.common.router between.common.router after.common.router
        (moments_stepped opening facts boxes old before new between step)
        (moments_along opening facts boxes olds between news after rest)
        (stepped boxes old before new between step)
        (along_all boxes olds between news after rest)

    heard : (item : Option (Rung L)) (old new : WorkerFacts L) → Hears facts item old new → R old.common.router new.common.router (told_by item)
    heard None old new is = same_common old.common new.common (ap (λ (w : WorkerFacts L). w.common) is)
    heard (Some (Answer reply)) old new hears = walks.told reply old.common.router hears.takes.noted_by new.common.router hears.takes.learns hears.takes.admits
    heard (Some (Comes connection link)) old new hears = walks.same old.common.router new.common.router hears.router
    heard (Some (Lagging session)) old new hears = walks.same old.common.router new.common.router hears.router
    heard (Some NoMore) old new is = same_common old.common new.common (ap (λ (w : WorkerFacts L). w.common) is)

    turned_one : (old new : WorkerFacts L) (turn : Turn) (turned : Turned facts opening old new turn)
        → R old.common.router new.common.router (moments_of facts opening old new turn turned)
    turned_one old new turn turned =
        walks.on old.common.router turned.between.common.router new.common.router
        (told_by turned.hears.item)
        (moments_along opening facts turned.between.boxes turned.between.ports (shares_of turned.between turned.heard) turned.steps.steps.stepped (shares_of new turned.worked) turned.steps.steps.along)
        (heard turned.hears.item (record old { bell = turned.hears.bell }) turned.between turned.hears.hears)
        (along_all turned.between.boxes turned.between.ports (shares_of turned.between turned.heard) turned.steps.steps.stepped (shares_of new turned.worked) turned.steps.steps.along)

    turned_all : (old : WorkerFacts L) (turns : List Turn) (new : WorkerFacts L) (all : TurnsTo (WorkerTurned facts opening) old turns new)
        → R old.common.router new.common.router (history facts opening old turns new all)
    turned_all old [] new is = same_common old.common new.common (ap (λ (w : WorkerFacts L). w.common) is)
    turned_all old (turn ∷ turns) new (mid, turned, rest) =
        walks.on old.common.router mid.common.router new.common.router
        (moments_of facts opening old mid turn turned)
        (history facts opening mid turns new rest)
        (turned_one old mid turn turned) (turned_all mid turns new rest)

-- ---- a worker of the core

module _ (opening : Opening) (published : List Edit) where
  leads_walk : Walks opening (Leads opening published)
  leads_walk = record {
    same = leads_same opening published;
    told = leads_told opening published;
    took = leads_took opening published;
    saw = leads_saw opening published;
    on = leads_on opening published;
  }

module _ {L : Type 0} (facts : L → LinkFacts) where
  pub workers : WorkersAreWorkers facts
  workers opening number pass journal opened worker turns published begun fresh all front =
      let first : opened.common.router.pass ≡ record { opening = opening; seen = []; known = []; asks = []; roll = [] } = begun.pass_is ∙ fresh in
      let leads = turned_all opening (Leads opening published) (leads_walk opening published) facts opened turns worker all in
      let runs = leads.runs front idle (record {
        seen_is = ap (λ (p : PassFacts). length p.seen) (sym first);
        least_is = ap (λ (p : PassFacts). length p.known) (sym first);
        held_is = refl;
        copies_are = refl;
      }) in record {
        allowed = runs.allowed;
        offers = runs.offers;
        stands = runs.stands;
      }
