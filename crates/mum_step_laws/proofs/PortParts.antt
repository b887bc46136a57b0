-- What a port does is what the steps of its connection do.
use Rattle.mum_step_laws.proofs.Common.{◌≡◌, ◌∙◌, ℕ, ◌+◌, ◌-◌, ◌<◌, Bool, true, false, cond, true≢false, List, [], ◌∷◌, ◌++◌, length, map, take, Option, Some, None, Result, Ok, Err, refl, sym, ap, subst, inr, arith, length-append, nat_lt, ◌==◌, ◌&&◌, ◌||◌, filter, is_none, is_some, not, nat_le, option_and_then, option_to_list, slice_get, slice_index_or, flat_map, option_map, option_map_or, option_or, and_parts, eq-eqb, eqb-true, false≢true, lt-ltb, not-true, append-nil, Cause, SessionId, Gone, ReplyEnd, changed_same, first_that_stands, asking, closed_at, fresh_connection, marks_rejection, is_untold, leave_waiting, leaving, seat_given, told, wire_in, wire_of, CoreState, connection_at, is_opened, outbox_at, posts_at, up, worker_at, Queues, does_from, is_for, takes, with_stale, own_front, own_notice, machine_of, stage_of, reply, seat_in, does, frame_action, frame_version, illegal, HeldPacket, WorkerState, idle, in_hand, Connection, Leave, Reply, Seat, Totals, Parcel, framed, notice_queues, carried, copy_queues, spoken, kind_of-spelling, payload_of-spelling, IsFrame, frame_spelling, kind_of, payload_of, VERSION, LinkFacts, decoded, Notice, PostFacts, VoiceFacts, awaits-after_frame, post-leaves, voice-leaves, connection-after_frame, stage-after_frame, worker-after_frame, is_last, post_bytes, stray_posts, stray_voices, voice_bytes, PortFacts, item_of, may_handle, new_port, next_word, waits_with, Acts, Sinks, is_live, CollectsPost, DrainsVoice, sinks, TakesPost, TakesVoice, foreign_count, has_taken, stage_after_post, DeskItem, PassesFacts, UNWRITTEN_LIMIT, Stage, Ending, Live, Opening, version-asks, Decoded, action, after_frame, asks, ignore, kept_version, version_action, version_after, Machine, machine_answered, fresh_with_bans, is_rejected, stage_after, mark, reply_end, Action, Ask, Voice, Echo, Keep, Ignore, Bans, BAN_LIST, alike, sends, Asked, Edit, SetServer, SetLimits, AddAccount, Join, LeaveEdit, Kick, MakeChannel, EditChannel, RemoveChannel, SetUser, SetTokens, SetTarget, SetAcl, Verdict, Accepted, Lacks, Refused, Rejected, Answer, Ignored, Parts, packet, BadVoice, CommonFacts, RoutesPacket, said_by, said_of, ClosesAreCloses, ConnectionsAreOpened, FramesAreFrames, IsKnownAs, IsOpenAs, IsSeated, KickedMayClose, KnowsCause, ListsAreNoSteps, MayNote, NoticesAreCollected, RepliesAreTold, SpeechIsDrained, asked_in, held_of, totals_after, SentText, text_of_notice, text_of_parcel, parcel_of_core}
use Rattle.mum_frame.specs.declared.frame.Frame.{Frame}
use Rattle.mum_state.specs.declared.edit.Edit.TheVariants.{Text}
use Rattle.mum_session.specs.Machine.{session_of}
use Rattle.mum_core.specs.Delivery.{Delivery}
use Rattle.mum_step_laws.proofs.{ControlParts.changed_connection, KickParts.kicked_cause, WorkerParts.no_less, WorkerParts.passes as passes_on, WorkerParts.there}
use Rattle.mum_base.specs.declared.number.Cause.TheVariants as causes
use Rattle.mum_base.specs.declared.reply.ReplyEnd.TheVariants as ends
use Rattle.mum_core.specs.steps.Close as close_step
use Rattle.mum_core.specs.steps.Frame as frame_step
use Rattle.mum_core.specs.steps.Tell as tell_step
use Rattle.mum_msg_state.specs.Messages as messages
use Rattle.mum_port.specs.declared.stage.Parting.TheVariants as partings
use Rattle.mum_record.specs.declared.step.Step.TheVariants as steps
use Rattle.mum_session.specs.declared.session.Stage.TheVariants as stages

-- ---- the boxes

-- a port that may look at its boxes, with these passes
abbrev looking : SessionId → PassesFacts → PortFacts ℕ
looking session passes = record (new_port 0 0 0) { machine = record (fresh_with_bans 0 0) { stage = stages.LoggedIn session }; passes = Some passes }

voice_counts : (session : SessionId) (passes : PassesFacts) (took : _) (after : PassesFacts) (out : List ℕ) (takes : TakesVoice session passes took after out)
    → (out ≡ voice_bytes (Some session) takes.parcel) × (foreign_count took ≡ stray_voices (Some session) takes.parcel)
voice_counts session passes took after out takes =
    let old = looking session passes in
    let new : PortFacts ℕ = record old { passes = Some after; out = out; voice_first = not (has_taken took) && false } in
    let drains : DrainsVoice [] old took new = inr (record { session = session; allowed = refl; taken = inr takes; left = refl }) in
    let leaves = voice-leaves [] old took new drains in (leaves.out, leaves.count)

post_counts : (session : SessionId) (passes : PassesFacts) (took : _) (after : PassesFacts) (out : List ℕ) (stage_after : Stage) (takes : TakesPost session passes Live took after out stage_after)
    → (out ≡ post_bytes (Some session) takes.parcel) × (foreign_count took ≡ stray_posts (Some session) takes.parcel)
    × (stage_after ≡ stage_after_post (is_last (Some session) takes.parcel) Live)
post_counts session passes took after out stage_after takes =
    let old = looking session passes in
    let new : PortFacts ℕ = record old { passes = Some after; out = out; stage = stage_after; voice_first = has_taken took || false } in
    let collects : CollectsPost [] old took new = inr (record { session = session; allowed = refl; taken = inr takes; left = refl }) in
    let leaves = post-leaves [] old took new collects in (leaves.out, leaves.count, leaves.stage)

-- how many strays a take is that finds this
abbrev strays : Seat → Option Delivery → ℕ
strays seat None = 0
strays seat (Some oldest) = cond (is_for oldest.to seat) 0 1

taken_totals : (queues : Queues) (core : CoreState) (seat : Seat) (oldest : Option Delivery) → (queues.without seat.slot.0 core).totals ≡ core.totals
    → (takes queues core seat oldest).totals ≡ totals_after (strays seat oldest) core.totals
taken_totals queues core seat None same = refl
taken_totals queues core seat (Some oldest) same = from (is_for oldest.to seat)
  where
    from : (b : Bool) → (cond b (queues.without seat.slot.0 core) (with_stale (queues.without seat.slot.0 core))).totals ≡ totals_after (cond b 0 1) core.totals
    from true = same
    from false = ap (λ (t : Totals). record t { stale = up t.stale }) same

-- one that waits, where it is for the session
own_one : {A : Type 0} (frame : A → List ℕ) (b : Bool) (x : A) → flat_map frame (cond b (x ∷ []) []) ≡ cond b (frame x) []
own_one frame true x = append-nil (frame x)
own_one frame false x = refl

abbrev seat_of : PassesFacts → SessionId → Seat
seat_of passes session = record { session = session; slot = passes.slot }

copies_own : (seat : Seat) (box : List Parcel) (parcel : Option VoiceFacts) → slice_get box 0 ≡ option_map parcel_of_core parcel
    → (flat_map (λ parcel. (carried parcel).frame) (filter (λ parcel. is_for parcel.to seat) (take 1 box)) ≡ voice_bytes (Some seat.session) parcel)
    × (strays seat (option_map carried (slice_get box 0)) ≡ stray_voices (Some seat.session) parcel)
copies_own seat [] None is = (refl, refl)
copies_own seat [] (Some copy) is = absurd (cc is)
copies_own seat (one ∷ box) None is = absurd (cc is)
copies_own seat (one ∷ box) (Some copy) is =
    let same : one ≡ parcel_of_core copy = cc is in (
      own_one (λ parcel. (carried parcel).frame) (is_for one.to seat) one ∙ ap (λ (p : Parcel). cond (is_for p.to seat) (carried p).frame []) same,
      ap (λ (p : Parcel). strays seat (Some (carried p))) same,
    )

notices_own : (seat : Seat) (posts : List Notice) (parcel : Option PostFacts) → option_map text_of_notice (slice_get posts 0) ≡ option_map text_of_parcel parcel
    → (flat_map (λ notice. (framed notice).frame) (filter (λ notice. is_for notice.to seat) (take 1 posts)) ≡ post_bytes (Some seat.session) parcel)
    × (strays seat (option_map framed (slice_get posts 0)) ≡ stray_posts (Some seat.session) parcel)
notices_own seat [] None is = (refl, refl)
notices_own seat [] (Some parcel) is = absurd (cc is)
notices_own seat (one ∷ posts) None is = absurd (cc is)
notices_own seat (one ∷ posts) (Some parcel) is =
    let same : text_of_notice one ≡ text_of_parcel parcel = cc is in (
      own_one (λ notice. (framed notice).frame) (is_for one.to seat) one ∙ ap (λ (t : SentText). cond (is_for t.to seat) t.bytes []) same,
      ap (λ (t : SentText). cond (is_for t.to seat) 0 1) same,
    )

-- a connection in a seat may take
may_take : (core : CoreState) (c : ℕ) (passes : PassesFacts) (session : SessionId) → IsSeated core c session passes.slot → illegal core (steps.Drain c) ≡ None
may_take core c passes session seated =
    passes_on (not (is_opened core c)) _ _ (ap not seated.opened)
    (passes_on (is_some (connection_at core c).closed) _ _ (ap is_some seated.not_closed)
    (passes_on (is_none (connection_at core c).seat) _ _ (ap is_none seated.seat_is) refl))

pub speech : SpeechIsDrained
speech session passes took after out takes core c seated oldest =
    let seat = seat_of passes session in
    let counts = voice_counts session passes took after out takes in
    let own = copies_own seat (outbox_at core passes.slot.0) takes.parcel oldest in (
      may_take core c passes session seated,
      ap (λ (o : Option Seat). flat_map (λ parcel. (carried parcel).frame) (own_front core o)) seated.seat_is ∙ own.0 ∙ sym counts.0,
      ap (λ (o : Option Seat). (does_from copy_queues core o).totals) seated.seat_is
          ∙ taken_totals copy_queues core seat (copy_queues.oldest core passes.slot.0) refl
          ∙ ap (λ (n : ℕ). totals_after n core.totals) (own.1 ∙ sym counts.1),
    )

pub collected : NoticesAreCollected
collected session passes took after out stage_after takes core c seated oldest =
    let seat = seat_of passes session in
    let counts = post_counts session passes took after out stage_after takes in
    let own = notices_own seat (posts_at core passes.slot.0) takes.parcel oldest in (
      may_take core c passes session seated,
      ap (λ (o : Option Seat). flat_map (λ notice. (framed notice).frame) (own_notice core o)) seated.seat_is ∙ own.0 ∙ sym counts.0,
      ap (λ (o : Option Seat). (does_from notice_queues core o).totals) seated.seat_is
          ∙ taken_totals notice_queues core seat (notice_queues.oldest core passes.slot.0) refl
          ∙ ap (λ (n : ℕ). totals_after n core.totals) (own.1 ∙ sym counts.1),
    )

last_where : (last : Bool) → stage_after_post last Live ≡ Ending partings.Kicked → last ≡ true
last_where true is = refl
last_where false is = absurd (cc is)

pub kicked_close : KickedMayClose
kicked_close session passes took after out stage_after takes ends version opening workers run more c seated within oldest =
    let counts = post_counts session passes took after out stage_after takes in
    kicked_cause version opening workers passes.slot.0 run more c (seat_of passes session) takes.parcel seated.seat_is refl within oldest
    (last_where (is_last (Some session) takes.parcel) (sym counts.2 ∙ ends))

-- ---- a connection

last_one : {A : Type 0} (xs : List A) (x d : A) → slice_index_or (xs ++ x ∷ []) (length xs) d ≡ x
last_one [] x d = refl
last_one (y ∷ xs) x d = last_one xs x d

module _ {L : Type 0} where
  pub opens : ConnectionsAreOpened L
  opens intake connection link ports kept intake_after ports_after kept_after takes core next within =
      let number : ℕ = intake.number in
      let after = does core (steps.Open connection number) in
      let first : nat_lt 0 connection ≡ true = lt-ltb 0 connection (omega (arith, next)) in
      let place : connection - 1 ≡ length core.connections = omega (arith, next) in
      let more : length (core.connections ++ fresh_connection number ∷ []) ≡ length core.connections + 1 = length-append core.connections (fresh_connection number ∷ []) in
      let opened : is_opened after connection ≡ true =
      rw (first, place) (lt-ltb (length core.connections) (length (core.connections ++ fresh_connection number ∷ [])) (omega (arith, more))) in
      let is : connection_at after connection ≡ fresh_connection number = rw (first, place) (last_one core.connections (fresh_connection number) (fresh_connection 0)) in (
        passes_on (not (connection == length core.connections + 1)) _ _ (ap not (eq-eqb connection (length core.connections + 1) next))
            (passes_on (not (nat_lt number (length core.workers))) _ _ (there number (length core.workers) within) refl),
        (
          new_port connection number link,
          takes.ports_are,
          refl,
          record {
            opened = opened;
            not_closed = ap (λ (x : Connection). x.closed) is;
            known = subst (IsKnownAs (fresh_with_bans connection number)) (sym is) (record { worker_is = refl; version_is = refl; stage_is = refl; awaits_is = refl });
          },
        ),
      )

-- ---- a frame

bans-after_frame : (machine : Machine) (kind : ℕ) (payload : List ℕ) → (after_frame machine kind payload).bans ≡ machine.bans
unfolding after_frame
bans-after_frame machine kind payload = refl

version-after_frame : (machine : Machine) (kind : ℕ) (payload : List ℕ) → (after_frame machine kind payload).version ≡ kept_version machine kind payload
unfolding after_frame
version-after_frame machine kind payload = refl

-- after a rejected login nothing is asked for
gone : (machine : Machine) (kind : ℕ) (payload : List ℕ) → is_rejected machine.stage ≡ true → action machine kind payload ≡ ignore Gone
unfolding action
gone machine kind payload is = rw is refl

unread : (before : Option ℕ) (read : Decoded messages.version) → (version_action read ≡ Keep → ⊥) → version_after before read ≡ before
unread before (Ok values) never = absurd (never refl)
unread before (Err fault) never = refl

-- a frame that is not kept leaves the version
module _ (machine : Machine) (kind : ℕ) (payload : List ℕ) where
  version_kept : (action machine kind payload ≡ Keep → ⊥) → kept_version machine kind payload ≡ machine.version
  version_kept never = by_stage (is_rejected machine.stage) refl
    where
      by_kind : is_rejected machine.stage ≡ false → (b : Bool) → (kind == VERSION) ≡ b → cond b (version_after machine.version (decoded messages.version payload)) machine.version ≡ machine.version
      by_kind stays true is = unread machine.version (decoded messages.version payload) (λ keep. never (sym (version-asks machine kind payload stays (eqb-true kind VERSION is)) ∙ keep))
      by_kind stays false is = refl

      by_stage : (b : Bool) → is_rejected machine.stage ≡ b → cond b machine.version (cond (kind == VERSION) (version_after machine.version (decoded messages.version payload)) machine.version) ≡ machine.version
      by_stage true is = refl
      by_stage false is = by_kind is (kind == VERSION) refl

nothing_held : (held : Option HeldPacket) (n : ℕ) → cond (is_some held) 1 n ≡ 0 → held ≡ None
nothing_held None n none = refl
nothing_held (Some one) n none = absurd (cc none)

-- the session of a stage
seat_session : (rejected : Bool) (seat : Option Seat) → rejected ≡ false
    → session_of (cond rejected stages.Rejected (option_map_or (λ (s : Seat). stages.LoggedIn s.session) seat stages.BeforeLogin)) ≡ option_map (λ (s : Seat). s.session) seat
seat_session true seat is = absurd (true≢false is)
seat_session false None is = refl
seat_session false (Some seat) is = refl

-- what a worker holds of what is said
module _ (core : CoreState) (w : ℕ) (within : w < length core.workers) (free : (worker_at core w).held ≡ None) where
  said_held : (seat : Option Seat) (read : Result Parts BadVoice)
      → option_to_list (worker_at (frame_step.hears core w (spoken seat read)) w).held ≡ map held_of (said_of (option_map (λ (s : Seat). s.session) seat) read)
  said_held None (Ok parts) = ap option_to_list free
  said_held None (Err fault) = ap option_to_list free
  said_held (Some seat) (Err fault) = ap option_to_list free
  said_held (Some seat) (Ok parts) =
      ap (λ (x : WorkerState). option_to_list x.held)
      (changed_same core.workers w (λ worker. frame_step.holding (record { speaker = seat.session; parts = parts }) worker) idle within)

none_either : (waiting : Option Asked) (decided : Option Reply) → (is_some waiting || is_some decided) ≡ false → waiting ≡ None
none_either None decided none = refl
none_either (Some what) decided none = absurd (true≢false none)

module _ (core : CoreState) (machine : Machine) (known : IsKnownAs machine (connection_at core machine.connection)) (opened : is_opened core machine.connection ≡ true)
    (free : machine.awaits ≡ false) where
  abbrev c : ℕ
  c = machine.connection

  abbrev conn : Connection
  conn = connection_at core c

  -- the machine of a recording reads no lists of bans
  abbrev recorded : Machine
  recorded = record machine { bans = false }

  machine_is : machine_of c conn ≡ recorded
  machine_is = λ i. record { connection = c; worker = known.worker_is i; version = known.version_is i; stage = known.stage_is i; awaits = sym free i; bans = false }

  module _ (frame : Frame) (whole : IsFrame frame) (other : frame.kind ≡ BAN_LIST → ⊥) where
    abbrev spelled : List ℕ
    spelled = frame_spelling frame

    action_is : frame_action core c spelled ≡ action machine frame.kind frame.payload
    action_is =
        ap (λ (m : Machine). action m (kind_of spelled) (payload_of spelled)) machine_is
        ∙ ap (λ (k : ℕ). action recorded k (payload_of spelled)) (kind_of-spelling frame whole)
        ∙ ap (λ (p : List ℕ). action recorded frame.kind p) (payload_of-spelling frame)
        ∙ sym (alike machine frame.kind frame.payload other)

    frame_version_is : frame_version core c spelled ≡ (after_frame machine frame.kind frame.payload).version
    frame_version_is =
        ap (λ (m : Machine). (after_frame m (kind_of spelled) (payload_of spelled)).version) machine_is
        ∙ ap (λ (k : ℕ). (after_frame recorded k (payload_of spelled)).version) (kind_of-spelling frame whole)
        ∙ ap (λ (p : List ℕ). (after_frame recorded frame.kind p).version) (payload_of-spelling frame)
        ∙ version-after_frame recorded frame.kind frame.payload ∙ sym (version-after_frame machine frame.kind frame.payload)

  -- nothing of the connection waits
  untold_none : is_untold conn ≡ false
  untold_none = known.awaits_is ∙ free

  waiting_none : conn.waiting ≡ None
  waiting_none = none_either conn.waiting conn.decided untold_none

  -- the connection after a frame that asks for this
  abbrev conn_after : (version : Option ℕ) (a : Action) → Connection
  conn_after version (Ask command) = asking command.what conn
  conn_after version Keep = record conn { version = version }
  conn_after version others = conn

  heard_conn : (w : ℕ) (held : Option HeldPacket) → connection_at (frame_step.hears core w held) c ≡ conn
  heard_conn w None = refl
  heard_conn w (Some held) = refl

  conn_done : (version : Option ℕ) (a : Action) → connection_at (frame_step.does core c version a) c ≡ conn_after version a
  conn_done version (Ask command) = changed_connection core c (asking command.what) opened
  conn_done version (Voice payload) = heard_conn conn.worker (spoken conn.seat (packet payload))
  conn_done version Keep = changed_connection core c (λ connection. record connection { version = version }) opened
  conn_done version others = refl

  module _ (kind : ℕ) (payload : List ℕ) (other : kind ≡ BAN_LIST → ⊥) where
    kept : (a : Action) → a ≡ action machine kind payload → (a ≡ Keep → ⊥) → (after_frame machine kind payload).version ≡ machine.version
    kept a is never = version-after_frame machine kind payload ∙ version_kept machine kind payload (λ keep. never (is ∙ keep))

    -- a frame that asks for nothing that changes the connection
    quiet : (a : Action) → a ≡ action machine kind payload → (a ≡ Keep → ⊥) → asks a ≡ false → IsKnownAs (after_frame machine kind payload) conn
    quiet a is never none = record {
      worker_is = known.worker_is ∙ sym (worker-after_frame machine kind payload);
      version_is = known.version_is ∙ sym (kept a is never);
      stage_is = known.stage_is ∙ sym (stage-after_frame machine kind payload);
      awaits_is = untold_none ∙ sym none ∙ ap asks is ∙ sym (awaits-after_frame machine kind payload);
    }

    -- what the machine knows of the connection then
    known_after : (version : Option ℕ) (a : Action) → a ≡ action machine kind payload → version ≡ (after_frame machine kind payload).version
        → IsKnownAs (after_frame machine kind payload) (conn_after version a)
    known_after version (Ask command) is number = record {
      worker_is = known.worker_is ∙ sym (worker-after_frame machine kind payload);
      version_is = known.version_is ∙ sym (kept (Ask command) is (λ same. cc same));
      stage_is = known.stage_is ∙ sym (stage-after_frame machine kind payload);
      awaits_is = ap asks is ∙ sym (awaits-after_frame machine kind payload);
    }
    known_after version (Voice bytes) is number = quiet (Voice bytes) is (λ same. cc same) refl
    known_after version (Echo wire) is number = quiet (Echo wire) is (λ same. cc same) refl
    known_after version Keep is number = record {
      worker_is = known.worker_is ∙ sym (worker-after_frame machine kind payload);
      version_is = number;
      stage_is = known.stage_is ∙ sym (stage-after_frame machine kind payload);
      awaits_is = untold_none ∙ ap asks is ∙ sym (awaits-after_frame machine kind payload);
    }
    known_after version (Ignore why) is number = quiet (Ignore why) is (λ same. cc same) refl
    known_after version (Bans list) is number = absurd (other (sends machine kind payload list (sym is)).kind_is)

    -- who is rejected says nothing
    speaks : (said : List ℕ) → Voice said ≡ action machine kind payload → conn.rejected ≡ false
    speaks said is = from conn.rejected refl
      where
        from : (b : Bool) → conn.rejected ≡ b → b ≡ false
        from false rejected = refl
        from true rejected =
            let stage : stages.Rejected ≡ machine.stage = sym (ap (λ (b : Bool). cond b stages.Rejected (option_map_or (λ (s : Seat). stages.LoggedIn s.session) conn.seat stages.BeforeLogin)) rejected) ∙ known.stage_is in
            let nothing : Voice said ≡ ignore Gone = is ∙ gone machine kind payload (ap is_rejected (sym stage)) in
            absurd (cc nothing)

    -- a list of bans is no command
    no_command : (session : Option SessionId) (list : List ℕ) → option_and_then asked_in (waits_with (item_of c session (Bans list)) None) ≡ None
    no_command None list = refl
    no_command (Some own) list = refl

    -- what waits to be decided then is what waits for the desk
    waits_after : (version : Option ℕ) (a : Action) (opening : Opening) (old : Sinks CommonFacts) (went : _) (new : Sinks CommonFacts) → old.waiting ≡ None
        → Acts (RoutesPacket opening) c (session_of machine.stage) a old went new
        → (conn_after version a).waiting ≡ option_and_then asked_in new.waiting
    waits_after version (Ask command) opening old went new none acts = sym (ap (λ (s : Sinks CommonFacts). option_and_then asked_in s.waiting) acts.1)
    waits_after version (Bans list) opening old went new none acts =
        waiting_none ∙ sym (ap (λ (s : Sinks CommonFacts). option_and_then asked_in s.waiting) acts.1
        ∙ (ap (λ (w : Option DeskItem). option_and_then asked_in (waits_with (item_of c (session_of machine.stage) (Bans list)) w)) none ∙ no_command (session_of machine.stage) list))
    waits_after version (Echo wire) opening old went new none acts = waiting_none ∙ sym (ap (λ (s : Sinks CommonFacts). option_and_then asked_in s.waiting) acts.0 ∙ ap (option_and_then asked_in) none)
    waits_after version others opening old went new none acts = waiting_none ∙ sym (ap (λ (s : Sinks CommonFacts). option_and_then asked_in s.waiting) acts.1 ∙ ap (option_and_then asked_in) none)

    -- what the worker holds then is the packet that goes to the router
    holds_after : machine.worker < length core.workers → (worker_at core machine.worker).held ≡ None → (version : Option ℕ) (a : Action) → a ≡ action machine kind payload
        → option_to_list (worker_at (frame_step.does core c version a) machine.worker).held ≡ map held_of (said_by machine (Some a))
    holds_after within none version (Voice said) is =
        ap (λ (w : ℕ). option_to_list (worker_at (frame_step.hears core w (spoken conn.seat (packet said))) machine.worker).held) known.worker_is
        ∙ (said_held core machine.worker within none conn.seat (packet said)
        ∙ ap (λ (s : Option SessionId). map held_of (said_of s (packet said))) (sym (seat_session conn.rejected conn.seat (speaks said is)) ∙ ap session_of known.stage_is))
    holds_after within none version others is = ap option_to_list none

-- a port that may handle a frame awaits nothing
module _ {L : Type 0} where
  may_parts : (port : PortFacts L) → may_handle port ≡ true → (port.machine.awaits ≡ false) × (port.waiting ≡ None)
  may_parts port may =
      let first = and_parts (is_live port.stage) _ may in
      let second = and_parts (not port.machine.awaits) _ first.1 in
      let third = and_parts (is_none port.waiting) (nat_le (length port.out) UNWRITTEN_LIMIT) second.1 in
      (not-true port.machine.awaits second.0, none_is port.waiting third.0)
    where
      none_is : (waiting : Option DeskItem) → is_none waiting ≡ true → waiting ≡ None
      none_is None is = refl
      none_is (Some item) is = absurd (false≢true is)

  pub frames : FramesAreFrames L
  frames opening old router went machine_after kept_after after may first other core is_open within idle_worker =
      let machine = old.machine in
      let frame = first.frame in
      let whole = first.whole in
      let handled = first.handled in
      let can = may_parts old may in
      let known = is_open.known in
      let asked = action_is core machine known is_open.opened can.0 frame whole other in
      let number = frame_version_is core machine known is_open.opened can.0 frame whole other in
      let version = frame_version core machine.connection (frame_spelling frame) in
      let a : Action = frame_action core machine.connection (frame_spelling frame) in
      let none_held = nothing_held (worker_at core machine.worker).held (length (worker_at core machine.worker).copies) idle_worker in
      let done = conn_done core machine known is_open.opened can.0 version a in record {
        allowed =
            passes_on (not (is_opened core machine.connection)) _ _ (ap not is_open.opened)
            (passes_on (is_some (connection_at core machine.connection).closed) _ _ (ap is_some is_open.not_closed)
            (passes_on (is_untold (connection_at core machine.connection)) _ _ (untold_none core machine known is_open.opened can.0)
            (passes_on (nat_lt 0 (in_hand (worker_at core (connection_at core machine.connection).worker))) _ _
            (ap (λ (w : ℕ). nat_lt 0 (in_hand (worker_at core w))) known.worker_is ∙ ap (λ (n : ℕ). nat_lt 0 n) idle_worker) refl)));
        asks = asked;
        known =
            subst (λ (m : Machine). IsKnownAs m (connection_at (does core (steps.Frame machine.connection (frame_spelling frame))) machine.connection)) (sym handled.taken)
            (subst (IsKnownAs (after_frame machine frame.kind frame.payload)) (sym done)
            (known_after core machine known is_open.opened can.0 frame.kind frame.payload other version a asked number));
        waits = ap (λ (x : Connection). x.waiting) done
            ∙ ap (λ (x : Action). (conn_after core machine known is_open.opened can.0 version x).waiting) asked
            ∙ waits_after core machine known is_open.opened can.0 frame.kind frame.payload other version (action machine frame.kind frame.payload) opening (sinks old router) went after can.1 handled.acts;
        holds = holds_after core machine known is_open.opened can.0 frame.kind frame.payload other within none_held version a asked
            ∙ ap (λ (x : Action). map held_of (said_by machine (Some x))) asked;
      }

  pub lists : ListsAreNoSteps L
  lists opening old router went machine_after kept_after after may first is core is_open =
      let machine = old.machine in
      let taken = first.handled.taken in
      let known = is_open.known in
      let can = may_parts old may in
      let connection : machine_after.connection ≡ machine.connection = ap (λ (m : Machine). m.connection) taken ∙ connection-after_frame machine first.frame.kind first.frame.payload in
      let version : machine_after.version ≡ machine.version =
      ap (λ (m : Machine). m.version) taken ∙ (ap (λ (k : ℕ). (after_frame machine k first.frame.payload).version) is
      ∙ (version-after_frame machine BAN_LIST first.frame.payload ∙ same_version (is_rejected machine.stage) machine.version)) in
      subst (λ (m : Machine). IsOpenAs m core) (sym (machine_same machine machine_after connection
      (ap (λ (m : Machine). m.worker) taken ∙ worker-after_frame machine first.frame.kind first.frame.payload) version
      (ap (λ (m : Machine). m.stage) taken ∙ stage-after_frame machine first.frame.kind first.frame.payload)
      (ap (λ (m : Machine). m.bans) taken ∙ bans-after_frame machine first.frame.kind first.frame.payload) can.0)) is_open
    where
      same_version : (rejected : Bool) (told : Option ℕ) → cond rejected told told ≡ told
      same_version true told = refl
      same_version false told = refl

      machine_same : (old new : Machine) → new.connection ≡ old.connection → new.worker ≡ old.worker → new.version ≡ old.version → new.stage ≡ old.stage
          → new.bans ≡ old.bans → old.awaits ≡ false → machine_answered ends.Decided new ≡ old
      machine_same old new connection worker version stage bans awaits = λ i. record {
        connection = connection i;
        worker = worker i;
        version = version i;
        stage = stage i;
        awaits = sym awaits i;
        bans = bans i;
      }

-- ---- a reply

-- a login that was rejected is marked so
abbrev is_rejection : ReplyEnd → Bool
is_rejection (ends.Joined session slot) = false
is_rejection ends.Decided = false
is_rejection ends.Rejected = true

accepted_so : (edit : Edit) → is_rejection (reply_end (Accepted edit)) ≡ false
accepted_so (SetServer welcome bandwidth password) = refl
accepted_so (SetLimits sessions channels) = refl
accepted_so (AddAccount account name digest) = refl
accepted_so (Join session slot name account tokens) = refl
accepted_so (LeaveEdit session) = refl
accepted_so (Kick session actor reason ban) = refl
accepted_so (MakeChannel id parent name temporary info maker) = refl
accepted_so (EditChannel id actor name parent description position max_users links_add links_remove) = refl
accepted_so (RemoveChannel id actor) = refl
accepted_so (SetUser session actor channel mute deaf clear_suppress priority self_mute self_deaf recording comment context listen unlisten) = refl
accepted_so (SetTokens session tokens) = refl
accepted_so (SetTarget session id target) = refl
accepted_so (SetAcl channel actor policy) = refl
accepted_so (Text actor sessions channels trees message) = refl

rejected_so : (revision : ℕ) (verdict : Verdict) → marks_rejection (mark revision verdict) ≡ is_rejection (reply_end verdict)
rejected_so revision (Accepted edit) = sym (accepted_so edit)
rejected_so revision (Lacks perm channel) = refl
rejected_so revision (Refused kind) = refl
rejected_so revision (Rejected kind) = refl
rejected_so revision (Answer frame) = refl
rejected_so revision (Ignored why) = refl

stage_so : (end : ReplyEnd) (seat : Option Seat) → cond (is_rejection end) stages.Rejected (option_map_or (λ (s : Seat). stages.LoggedIn s.session) (option_or (seat_in end) seat) stages.BeforeLogin)
    ≡ stage_after end (option_map_or (λ (s : Seat). stages.LoggedIn s.session) seat stages.BeforeLogin)
stage_so (ends.Joined session slot) seat = refl
stage_so ends.Decided seat = refl
stage_so ends.Rejected seat = refl

-- how far a connection has come once it is sent its reply
stage_told : (connection : Connection) (revision : ℕ) (session : Option SessionId) (verdict : Verdict)
    → connection.decided ≡ Some (reply revision session verdict) → connection.rejected ≡ false
    → stage_of (told connection) ≡ stage_after (reply_end verdict) (stage_of connection)
stage_told connection revision session verdict decided live =
    let end = reply_end verdict in
    let rejected : (told connection).rejected ≡ is_rejection end = rw (live, decided) (rejected_so revision verdict) in
    let seat : (told connection).seat ≡ option_or (seat_in end) connection.seat = ap (λ (r : Option Reply). option_or (seat_given r) connection.seat) decided in
    let before : stage_of connection ≡ option_map_or (λ (s : Seat). stages.LoggedIn s.session) connection.seat stages.BeforeLogin = rw live refl in
    ap (λ (b : Bool). cond b stages.Rejected (option_map_or (λ (s : Seat). stages.LoggedIn s.session) (told connection).seat stages.BeforeLogin)) rejected
    ∙ ap (λ (o : Option Seat). cond (is_rejection end) stages.Rejected (option_map_or (λ (s : Seat). stages.LoggedIn s.session) o stages.BeforeLogin)) seat
    ∙ stage_so end connection.seat
    ∙ ap (stage_after end) (sym before)

-- the connection once it is sent its reply, with a note or without
told_connection : (core : CoreState) (c : ℕ) (note : Option ℕ) → is_opened core c ≡ true → connection_at (does core (steps.Tell c note)) c ≡ told (connection_at core c)
told_connection core c None opened = changed_connection core c told opened
told_connection core c (Some revision) opened = changed_connection core c told opened

-- the cases of a note
may_note : (core : CoreState) (revision : ℕ) (session : Option SessionId) (verdict : Verdict) (note : Option ℕ) → MayNote verdict revision note core
    → first_that_stands (tell_step.note_cases core (Some (reply revision session verdict)) note) ≡ None
may_note core revision session verdict None may = refl
may_note core revision session (Accepted edit) (Some noted) may =
    passes_on (nat_lt noted revision) _ _ (no_less noted revision may.0) (passes_on (nat_lt core.published noted) _ _ (no_less core.published noted may.1) refl)
may_note core revision session (Lacks perm channel) (Some noted) may = absurd may
may_note core revision session (Refused kind) (Some noted) may = absurd may
may_note core revision session (Rejected kind) (Some noted) may = absurd may
may_note core revision session (Answer frame) (Some noted) may = absurd may
may_note core revision session (Ignored why) (Some noted) may = absurd may

module _ {L : Type 0} (facts : L → LinkFacts) where
  pub replies : RepliesAreTold facts
  replies bytes passes old closed new revision session verdict note takes bytes_are core is_open has may =
      let c = old.machine.connection in
      let conn = connection_at core c in
      let known = is_open.known in
      let machine : new.machine ≡ machine_answered (reply_end verdict) old.machine = ap (λ (p : PortFacts L). p.machine) takes.rest in (
        passes_on (not (is_opened core c)) _ _ (ap not is_open.opened)
            (passes_on (is_none conn.decided) _ _ (ap is_none has.decided_is)
            (ap (λ (r : Option Reply). first_that_stands (tell_step.note_cases core r note)) has.decided_is ∙ may_note core revision session verdict note may)),
        subst (λ (m : Machine). IsKnownAs m (connection_at (does core (steps.Tell c note)) c)) (sym machine)
            (subst (IsKnownAs (machine_answered (reply_end verdict) old.machine)) (sym (told_connection core c note is_open.opened)) (record {
              worker_is = known.worker_is;
              version_is = known.version_is;
              stage_is = stage_told conn revision session verdict has.decided_is has.not_rejected ∙ ap (stage_after (reply_end verdict)) known.stage_is;
              awaits_is = ap (λ (o : Option Asked). is_some o || false) has.none_waits;
            })),
        ap (λ (p : PortFacts L). p.out) takes.rest
            ∙ ap (λ (l : List ℕ). old.out ++ l) (bytes_are ∙ sym (
            ap (λ (o : Option ℕ). cond (is_some o) [] (wire_in conn.decided)) is_open.not_closed ∙ ap wire_in has.decided_is)),
      )

  -- ---- the close

  -- a rejected login is known to the core
  cause_known : (core : CoreState) (machine : Machine) → IsKnownAs machine (connection_at core machine.connection) → (cause : Cause) → KnowsCause machine core cause
      → close_step.has_cause core machine.connection cause ≡ true
  cause_known core machine known causes.End knows = refl
  cause_known core machine known causes.LinkFault knows = refl
  cause_known core machine known causes.FrameTooLong knows = refl
  cause_known core machine known causes.Rejected knows = from (connection_at core machine.connection).rejected (connection_at core machine.connection).seat (known.stage_is ∙ knows)
    where
      from : (b : Bool) (seat : Option Seat) → cond b stages.Rejected (option_map_or (λ (s : Seat). stages.LoggedIn s.session) seat stages.BeforeLogin) ≡ stages.Rejected → b ≡ true
      from true seat is = refl
      from false None is = absurd (cc is)
      from false (Some seat) is = absurd (cc is)
  cause_known core machine known causes.Kicked knows = knows
  cause_known core machine known causes.Lagged knows = knows
  cause_known core machine known causes.Memory knows = refl

  pub closes : ClosesAreCloses facts
  closes cause old new closed core is_open knows =
      let c = old.machine.connection in
      let done : connection_at (does core (steps.Close c cause)) c ≡ closed_at (up core.line) (connection_at core c) = changed_connection core c (closed_at (up core.line)) is_open.opened in (
        passes_on (not (is_opened core c)) _ _ (ap not is_open.opened)
            (passes_on (is_some (connection_at core c).closed) _ _ (ap is_some is_open.not_closed)
            (passes_on (not (close_step.has_cause core c cause)) _ _ (ap not (cause_known core old.machine is_open.known cause knows)) refl)),
        ap (λ (x : Connection). is_some x.closed) done,
        ap wire_of done ∙ ap (λ (p : PortFacts L). p.out) (sym closed.rest),
        λ stays.
            ap (λ (p : PortFacts L). option_and_then asked_in (next_word p.machine p.stage)) closed.rest
            ∙ sym (ap (λ (x : Connection). leave_waiting x.leave) done ∙ ap (λ (l : Leave). leave_waiting (leaving l)) stays),
      )
