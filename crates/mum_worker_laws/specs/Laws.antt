-- The turns of a worker, one after another, and what came of them.
use mathlib.Core.{Logic.inl, Logic.inr, List.IsPrefix}
use Rattle.std.specs.Prelude.{◌==◌, ◌⊎◌, ⊤, ℕ, Bool, true, false, List, [], ◌∷◌, ◌++◌, map, slice_get, Option, Some, None, option_to_list, if◌then◌else◌}
use Rattle.std.specs.List.{All, Contains, filter_map, flat_map}
use Rattle.std.specs.Option.{ForSome}
use Rattle.mum_base.specs.declared.number.SessionId.{SessionId}
use Rattle.mum_io.specs.Link.{LinkFacts}
use Rattle.mum_frame.specs.Frame.{spelling_of}
use Rattle.mum_frame.specs.declared.kind.TheConstants.{UDP_TUNNEL}
use Rattle.mum_voice.specs.Packet.{Parts}
use Rattle.mum_outbox.specs.Facts.{PassFacts}
use Rattle.mum_outbox.specs.declared.queue.Offered.{TheVariants.Sent, TheVariants.Full, Offered}
use Rattle.mum_crew.specs.{Along.Along, Turns.TurnsTo}
use Rattle.mum_crew.specs.declared.role.Turn.{Turn}
use Rattle.mum_state.specs.declared.edit.Edit.{Edit}
use Rattle.mum_published.specs.{Bell.Rung, Bell.Answer, Calls.ask_at, Calls.edits_told}
use Rattle.mum_published.specs.{Facts.NoteFacts, Facts.Opening, Facts.ReplyFacts, Rolls.login}
use Rattle.mum_published.specs.declared.{roll.Login.Login, rule.AskAt.AskAt}
use Rattle.mum_parcel.specs.{Facts.PostFacts, Facts.VoiceFacts, Rules.IsCopy, Rules.IsNotice}
use Rattle.mum_session.specs.Machine.{Machine, session_of}
use Rattle.mum_session.specs.declared.action.Action.{TheVariants.Voice, Action}
use Rattle.mum_router.specs.{Laws.RoutedPacket, Offering.Delivery, Offering.Outs, Offering.parcel_for, Picking.ask_of}
use Rattle.mum_port.specs.{Did.PortDid, Did.action_of, Did.is_for, Facts.PortFacts, Passes.told_by as told_by_passes}
use Rattle.mum_port.specs.Turn.{RoutesPacket as PortRoutes}
use Rattle.mum_worker.specs.{Boxes.BoxesFacts, Facts.WorkerFacts, Routing.CommonFacts, Routing.RoutesPacket}
use Rattle.mum_worker.specs.Stepping.{PortSteps, Shares}
use Rattle.mum_worker.specs.Turning.{Turned, WorkerTurned, shares_of}

-- ---- what happens

-- a packet that was routed: whose it was, what it was, the edits that its look saw, and the copies that were offered
pub record Look : Type 0 where
  pub connection : ℕ
  pub speaker : SessionId
  pub packet : Parts
  pub edits : List Edit
  pub deliveries : List Delivery

-- a notice, or a copy of a packet
pub data Parcel : Type 0 where
  Noticed : PostFacts → Parcel
  Copied : VoiceFacts → Parcel

-- a parcel that a port took: the number of its connection, the session that it had then, and what it took. It is written
-- where it is for this session, and else dropped
pub record Take : Type 0 where
  pub connection : ℕ
  pub session : Option SessionId
  pub parcel : Parcel

-- a reply that was heard, a packet that was routed, or what a step of a port took, with the note that its worker learnt
-- then
pub data Moment : Type 0 where
  Told : ReplyFacts → Moment
  Looked : Look → Moment
  Took : List Take → Option NoteFacts → Moment

-- the look of a moment, if it is one
abbrev pub look_in : Moment → Option Look
look_in (Told reply) = None
look_in (Looked look) = Some look
look_in (Took takes learnt) = None

-- what a moment took, and what all of these took, in order
abbrev pub take_in : Moment → List Take
take_in (Told reply) = []
take_in (Looked look) = []
take_in (Took takes learnt) = takes

abbrev pub takes_in : List Moment → List Take
takes_in moments = flat_map take_in moments

-- the packets that were routed, in order
abbrev pub looks_in : List Moment → List Look
looks_in moments = filter_map look_in moments

-- what a look asks, at the revision of the edits that it saw
abbrev pub ask_made : Look → AskAt
ask_made look = ask_at look.edits (ask_of look.speaker look.packet)

-- a look as the packet that was routed by it, and these packets in order
abbrev pub routed_packet : Look → RoutedPacket
routed_packet look = record { speaker = look.speaker; packet = look.packet; edits = look.edits }

-- the packets that these moments routed, in order
abbrev pub packets_in : List Moment → List RoutedPacket
packets_in moments = map routed_packet (looks_in moments)

-- ---- what is known

-- the edits that came with a parcel
abbrev pub edits_with : Parcel → List Edit
edits_with (Noticed notice) = notice.edits
edits_with (Copied copy) = copy.edits

-- the edits that a reply reports, that a look saw, or that were learnt of what was taken
abbrev pub edits_of : Moment → List Edit
edits_of (Told reply) = edits_told reply.note
edits_of (Looked look) = look.edits
edits_of (Took takes learnt) = edits_told learnt

-- a look sees a list that begins with these
abbrev pub SeesFrom : List Edit → Moment → Type 0
SeesFrom edits (Told reply) = ⊤
SeesFrom edits (Looked look) = IsPrefix edits look.edits
SeesFrom edits (Took takes learnt) = ⊤

-- what was reported, seen or learnt before begins what a look sees
abbrev pub Follows : Moment → Moment → Type 0
Follows before after = SeesFrom (edits_of before) after

-- one of the two lists goes on from the other
abbrev pub AreOfOneList : List Edit → List Edit → Type 0
AreOfOneList edits others = IsPrefix edits others ⊎ IsPrefix others edits

-- so do the edits that came with each parcel that was taken before: what was sent holds
abbrev pub HoldsFor : Moment → Moment → Type 0
HoldsFor before after = All (λ take. SeesFrom (edits_with take.parcel) after) (take_in before)

-- ---- what is taken

-- a notice reports an edit of those that came with it; a copy is what the rules give its session after those that came with it
abbrev pub IsByTheRules : Opening → Parcel → Type 0
IsByTheRules opening (Noticed notice) = IsNotice opening notice
IsByTheRules opening (Copied copy) = IsCopy opening copy

-- so it is with what was taken, and this list begins with the edits that came with it
pub record IsTold (opening : Opening) (edits : List Edit) (take : Take) : Type 0 where
  pub rules : IsByTheRules opening take.parcel
  pub begins : IsPrefix (edits_with take.parcel) edits

abbrev pub take_of : {A : Type 0} → Machine → (A → Parcel) → A → Take
take_of machine parcel taken =
    record { connection = machine.connection; session = session_of machine.stage; parcel = parcel taken }

-- for whom a parcel is, and the frame that its bytes are written as
abbrev pub to_whom : Parcel → SessionId
to_whom (Noticed notice) = notice.to
to_whom (Copied copy) = copy.to

abbrev pub frame_of : Parcel → List ℕ
frame_of (Noticed notice) = notice.bytes
frame_of (Copied copy) = spelling_of UDP_TUNNEL copy.bytes

-- the bytes that are to be written of what was taken: its frame, where it is for the session of the port
abbrev pub bytes_of_take : Take → List ℕ
bytes_of_take take = if is_for take.session (to_whom take.parcel) then frame_of take.parcel else []

-- what a step of a port took that had this machine before it
abbrev pub takes_by : Machine → PortDid → List Take
takes_by machine did =
    map (take_of machine Noticed) (option_to_list did.post) ++ map (take_of machine Copied) (option_to_list did.voice)

-- ---- whose packets they are

-- the login that gave the session that a packet was routed for, to the connection that sent it
abbrev pub login_made : Look → Login
login_made look = login look.connection look.speaker

-- the session of a connection, where it has one, was given by a login of it that is on the roll
abbrev pub IsLoggedIn : List Login → Machine → Type 0
IsLoggedIn roll machine =
    ForSome (session_of machine.stage) (λ session. Contains roll (login machine.connection session))

abbrev pub HasLogin : {L : Type 0} → List Login → PortFacts L → Type 0
HasLogin roll port = IsLoggedIn roll port.machine

-- ---- the copies

abbrev pub offered_in : Option (PassFacts VoiceFacts) → List VoiceFacts
offered_in None = []
offered_in (Some pass) = pass.offered

-- the copies that were sent to the voice box of a slot, in order
abbrev pub copies_at : ℕ → Outs → List VoiceFacts
copies_at slot outs = offered_in (slice_get outs slot)

abbrev pub if_sent : Offered VoiceFacts → VoiceFacts → Option VoiceFacts
if_sent Sent parcel = Some parcel
if_sent (Full back) parcel = None

abbrev pub if_there : Bool → Offered VoiceFacts → VoiceFacts → Option VoiceFacts
if_there true answer parcel = if_sent answer parcel
if_there false answer parcel = None

-- the copy, where it is for this slot and was sent
abbrev pub copy_for : ℕ → List Edit → SessionId → Parts → Delivery → Option VoiceFacts
copy_for slot edits speaker packet delivery =
    if_there (delivery.hearer.slot.0 == slot) delivery.answer (parcel_for edits speaker packet delivery.hearer)

-- the copies of a packet that were sent to this slot
abbrev pub copies_made : ℕ → Look → List VoiceFacts
copies_made slot look = filter_map (copy_for slot look.edits look.speaker look.packet) look.deliveries

-- ---- a step

module _ (opening : Opening) where
  abbrev pub look_made : (old : CommonFacts) (connection : ℕ) (speaker : SessionId) (bytes : List ℕ) (new : CommonFacts)
      → RoutesPacket opening old connection speaker bytes new → List Moment
  look_made old connection speaker bytes new (inl drops) = []
  look_made old connection speaker bytes new (inr keeps) = Looked (record {
    connection = connection;
    speaker = speaker;
    packet = keeps.once.parts;
    edits = keeps.once.routes.0;
    deliveries = keeps.once.routes.1;
  }) ∷ []

  -- the packet that was asked to be routed
  abbrev pub look_asked : (connection : ℕ) (session : Option SessionId) (asked : Option Action) (old new : CommonFacts)
      → PortRoutes (RoutesPacket opening) connection session asked old new → List Moment
  look_asked connection session (Some (Voice packet)) old new routes =
      look_made old connection routes.0 packet new routes.2
  look_asked connection session others old new same = []

  module _ {L : Type 0} (facts : L → LinkFacts) where
    -- the packet that the step of a port routed, if it did
    abbrev pub look_stepped : (boxes : BoxesFacts) (old : PortFacts L) (before : Shares) (new : PortFacts L)
        (after : Shares) → PortSteps facts opening boxes old before new after → List Moment
    look_stepped boxes old before new after steps =
        look_asked old.machine.connection (session_of old.machine.stage)
        (action_of old.machine steps.turned.0.handled) before.common steps.routed
        steps.turned.1.routes

    -- the packet that the step of a port routed, and then what it took
    abbrev pub moments_stepped : (boxes : BoxesFacts) (old : PortFacts L) (before : Shares) (new : PortFacts L)
        (after : Shares) → PortSteps facts opening boxes old before new after → List Moment
    moments_stepped boxes old before new after steps =
        look_stepped boxes old before new after steps
        ++ Took (takes_by old.machine steps.turned.0) (told_by_passes new.passes) ∷ []

    -- what ports routed and took, one after the other
    abbrev pub moments_along : (boxes : BoxesFacts) (olds : List (PortFacts L)) (before : Shares)
        (news : List (PortFacts L)) (after : Shares) → Along (PortSteps facts opening boxes) olds before news after
        → List Moment
    moments_along boxes [] before [] after none = []
    moments_along boxes [] before (new ∷ news) after none = []
    moments_along boxes (old ∷ olds) before [] after none = []
    moments_along boxes (old ∷ olds) before (new ∷ news) after along =
        moments_stepped boxes old before new along.0 along.1 ++ moments_along boxes olds along.0 news after along.2

-- ---- the turns

abbrev pub told_of : {L : Type 0} → Rung L → List Moment
told_of (Answer reply) = Told reply ∷ []
told_of others = []

-- the reply that a turn heard, if it did
abbrev pub told_by : {L : Type 0} → Option (Rung L) → List Moment
told_by None = []
told_by (Some item) = told_of item

module _ {L : Type 0} (facts : L → LinkFacts) (opening : Opening) where
  -- what a turn heard, routed and took, in order
  abbrev pub moments_of : (old new : WorkerFacts L) (turn : Turn) → Turned facts opening old new turn → List Moment
  moments_of old new turn turned =
      told_by turned.hears.item
      ++ moments_along opening facts turned.between.boxes turned.between.ports (shares_of turned.between turned.heard)
      turned.steps.steps.stepped (shares_of new turned.worked) turned.steps.steps.along

  -- the replies that the turns heard, the packets that they routed, and the parcels that they took, in order
  abbrev pub history : (old : WorkerFacts L) (turns : List Turn) (new : WorkerFacts L)
      → TurnsTo (WorkerTurned facts opening) old turns new → List Moment
  history old [] new all = []
  history old (turn ∷ turns) new all = moments_of old all.0 turn all.1 ++ history all.0 turns new all.2
