-- A step that did nothing had to wait for all that it might have used, and one that worked did something.
use Rattle.mum_port.proofs.Common.{◌≡◌, ◌≢◌, ℕ, Bool, true, false, ◌&&◌, ◌||◌, IsTrue, List, [], ◌∷◌, ◌++◌, Option, Some, None, is_none, is_some, not, refl, sym, ap, subst, ◌∙◌, inl, inr, true≢false, append-nil, list_any, Cause, End, LinkFault, FrameTooLong, Rejected, Kicked, Lagged, Memory, SessionId, Frame, HasNoFrame, IsFrame, TooLong, HasNoFrame-above_limit, Counts, Rose, LinkFacts, PassFacts, QueueFacts, PostFacts, VoiceFacts, session_of, PortDid, action_of, asked_item, bytes_of, desk_after_put, echo_of, is_last, machine_after, port_after_put, post_bytes, voice_bytes, MayRead, PortFacts, due_item, may_handle, may_write, taking_session, waiting_after, has_worked, is_live, PortChain, Reads, has_taken, stage_after_post, FindsPostEmpty, FindsVoiceEmpty, IsIdle, did_nothing, voice_first_after, DeskItem, Step, PassesFacts, Went, NotDue, Stalled, Worked, Closes}
use Rattle.mum_port.proofs.{Balance.at_close-none, Balance.echo_handle, Balance.kept_put, Balance.kept_write, Balance.out_take, Balance.settle-same, Closing.and-left, Course.at_close, Course.bytes_written, Course.did_of, Course.first_handle, Course.frame, Course.goes_on, Course.handle_closes, Course.handle_part, Course.item, Course.machine_read, Course.machine_write, Course.out_read, Course.port_put, Course.post, Course.read_part, Course.remains, Course.passes_handle, Course.session_handle, Course.take_part, Course.took, Course.unsent, Course.voice, Course.write_part, Ends.may_same, Ends.rose_read, Ends.rose_write, HandlePart.HandleShows, HandlePart.HandledOrNot, Parcels.taking_same, ReadPart.ReadShows, ReadPart.closes, ReadPart.put-due, ReadPart.put-pass, ReadPart.put-some, ReadPart.put-worked, ReadPart.read-shows, ReadPart.stage_by-open, Resting.may-live, WritePart.WriteShows}

-- ---- tests

neither : (a b : Bool) → (a || b) ≡ false → (a ≡ false) × (b ≡ false)
neither false b none = (refl, none)
neither true b none = absurd (true≢false none)

pub and-right : (a b : Bool) → IsTrue (a && b) → IsTrue b
and-right true b both = both
and-right false b both = absurd (true≢false (sym both))

some_of : {A : Type 0} (x : Option A) → is_some x ≡ false → x ≡ None
some_of None none = refl
some_of (Some x) none = absurd (true≢false none)

pub none_of : {A : Type 0} (x : Option A) → IsTrue (is_none x) → x ≡ None
none_of None none = refl
none_of (Some x) none = absurd (true≢false (sym none))

worked-closes : (went : Went) → has_worked went ≡ false → closes went ≡ None
worked-closes NotDue idle = refl
worked-closes Stalled idle = refl
worked-closes Worked idle = refl
worked-closes (Closes cause) idle = absurd (true≢false idle)

-- neither box had anything
abbrev FindBoxesEmpty : List QueueFacts → List QueueFacts → Option PassesFacts → Option PassesFacts → Type 0
FindBoxesEmpty posts voices passes after = FindsPostEmpty posts passes after × FindsVoiceEmpty voices passes after

-- ---- what an idle part shows

module _ {L : Type 0} (facts : L → LinkFacts) where
  read_idle : (old new : PortFacts L) (went : Went) (took : List ℕ) → has_worked went ≡ false → ReadShows facts old new went took
      → (took ≡ []) × (MayRead old → Rose (facts old.link).counts.stalls (facts new.link).counts.stalls)
  read_idle old new NotDue bytes idle shows = (shows.0, λ may. absurd (shows.2 may))
  read_idle old new Stalled bytes idle shows = (shows.0, λ may. shows.1)
  read_idle old new Worked bytes idle shows = absurd (true≢false idle)
  read_idle old new (Closes cause) bytes idle shows = absurd (true≢false idle)

  write_idle : (old new : PortFacts L) (went : Went) (wrote : List ℕ) → has_worked went ≡ false → WriteShows facts old new went wrote
      → (wrote ≡ []) × (IsTrue (may_write old) → Rose (facts old.link).counts.stalls (facts new.link).counts.stalls)
  write_idle old new NotDue bytes idle shows = (shows.0, λ may. absurd (shows.2 may))
  write_idle old new Stalled bytes idle shows = (shows.0, λ may. shows.1)
  write_idle old new Worked bytes idle shows = absurd (true≢false idle)
  write_idle old new (Closes cause) bytes idle shows = absurd (true≢false idle)

  read_worked : (old new : PortFacts L) (went : Went) (took : List ℕ) → ReadShows facts old new went took → closes went ≡ None → took ≡ [] → has_worked went ≡ false
  read_worked old new NotDue bytes shows on none = refl
  read_worked old new Stalled bytes shows on none = refl
  read_worked old new Worked bytes shows on none = absurd (shows none)
  read_worked old new (Closes cause) bytes shows on none = absurd (cc on)

  write_worked : (old new : PortFacts L) (went : Went) (wrote : List ℕ) → WriteShows facts old new went wrote → closes went ≡ None → wrote ≡ [] → has_worked went ≡ false
  write_worked old new NotDue bytes shows on none = refl
  write_worked old new Stalled bytes shows on none = refl
  write_worked old new Worked bytes shows on none = absurd (shows none)
  write_worked old new (Closes cause) bytes shows on none = absurd (cc on)

module _ {V : Type 0} (routed : V → ℕ → SessionId → List ℕ → V → Type 0) where
  shows_idle : (kept : List ℕ) (frame : Option Frame) (went : Went) → has_worked went ≡ false → HandleShows routed kept frame went → (frame ≡ None) × HasNoFrame kept × ¬ TooLong kept
  shows_idle kept frame NotDue idle shows = absurd shows
  shows_idle kept frame Stalled idle shows = shows
  shows_idle kept frame Worked idle shows = absurd (true≢false idle)
  shows_idle kept frame (Closes cause) idle shows = absurd (true≢false idle)

  shows_worked : (kept : List ℕ) (frame : Option Frame) (went : Went) → HandleShows routed kept frame went → closes went ≡ None → frame ≡ None → has_worked went ≡ false
  shows_worked kept frame NotDue shows on none = refl
  shows_worked kept frame Stalled shows on none = refl
  shows_worked kept frame Worked shows on none = absurd (shows none)
  shows_worked kept frame (Closes cause) shows on none = absurd (cc on)

module _ {L V : Type 0} (routed : V → ℕ → SessionId → List ℕ → V → Type 0) where
  handle_idle : (old : PortFacts L) (frame : Option Frame) (went : Went) (new : PortFacts L) → has_worked went ≡ false → HandledOrNot routed old frame went new
      → (frame ≡ None) × (IsTrue (may_handle old) → HasNoFrame old.framer.kept × ¬ TooLong old.framer.kept)
  handle_idle old frame went new idle (inl never) = (never.1, λ may. absurd (never.3 may))
  handle_idle old frame went new idle (inr due) = let is = shows_idle routed old.framer.kept frame went idle due.1 in (is.0, λ may. (is.1, is.2))

  handle_worked : (old : PortFacts L) (frame : Option Frame) (went : Went) (new : PortFacts L) → HandledOrNot routed old frame went new → closes went ≡ None → frame ≡ None → has_worked went ≡ false
  handle_worked old frame went new (inl never) on none = ap has_worked never.0
  handle_worked old frame went new (inr due) on none = shows_worked routed old.framer.kept frame went due.1 on none

-- a port whose parts are those of another, but for its link, its framer and its passes
port_same : {L : Type 0} (new old : PortFacts L) → new.machine ≡ old.machine → new.waiting ≡ old.waiting → new.out ≡ old.out → new.voice_first ≡ old.voice_first → new.stage ≡ old.stage
    → new ≡ record old { link = new.link; framer = new.framer; passes = new.passes }
port_same new old machine waiting out first stage = rw (sym machine, sym waiting, sym out, sym first, sym stage) refl

did_same : (put : Option DeskItem) (took lost : List ℕ) (handled : Option Frame) (post : Option PostFacts) (voice : Option VoiceFacts) (wrote unsaid : List ℕ) (closed : Option Cause)
    → put ≡ None → took ≡ [] → lost ≡ [] → handled ≡ None → post ≡ None → voice ≡ None → wrote ≡ [] → unsaid ≡ [] → closed ≡ None
    → record { put = put; took = took; lost = lost; handled = handled; post = post; voice = voice; wrote = wrote; unsaid = unsaid; closed = closed } ≡ did_nothing
did_same put took lost handled post voice wrote unsaid closed a b c d e f g h i = rw (a, b, c, d, e, f, g, h, i) refl

took_none : (taken : Bool) → (taken ≡ true → ⊥) → taken ≡ false
took_none false never = refl
took_none true never = absurd (never refl)

all_false : (a b c d e f g : Bool) → a ≡ false → b ≡ false → c ≡ false → d ≡ false → e ≡ false → f ≡ false → g ≡ false
    → (a || ((b || (c || (d || false))) || (e || (f || g)))) ≡ false
all_false a b c d e f g ea eb ec ed ee ef eg = rw (ea, eb, ec, ed, ee, ef, eg) refl

may_write_same : {L : Type 0} (later port : PortFacts L) → later.stage ≡ port.stage → later.out ≡ port.out → may_write later ≡ may_write port
may_write_same later port stage out = rw (stage, out) refl

-- where a length above the limit is kept nothing is read, and the port closes for it
unread : {L : Type 0} (facts : L → LinkFacts) (old : PortFacts L) (went : Went) (new : PortFacts L)
    → Reads facts old went new → TooLong old.framer.kept → (went ≡ NotDue) × (new ≡ old)
unread facts old went new (inl never) above = (never.so, never.same)
unread facts old went new (inr once) above = absurd (once.allowed.not_too_long above)

refuses_shown : {V : Type 0} (routed : V → ℕ → SessionId → List ℕ → V → Type 0) (kept unhandled : List ℕ) (frame : Option Frame) (went : Went) → TooLong kept
    → ((f : Frame) → frame ≡ Some f → IsFrame f) → kept ≡ bytes_of frame ++ unhandled → HandleShows routed kept frame went → went ≡ Closes FrameTooLong
refuses_shown routed kept unhandled frame NotDue above whole bytes shows = absurd shows
refuses_shown routed kept unhandled frame Stalled above whole bytes shows = absurd (shows.2 above)
refuses_shown routed kept unhandled None Worked above whole bytes shows = absurd (shows refl)
refuses_shown routed kept unhandled (Some frame) Worked above whole bytes shows = absurd (HasNoFrame-above_limit kept above frame unhandled (whole frame refl) bytes)
refuses_shown routed kept unhandled frame (Closes End) above whole bytes shows = absurd shows
refuses_shown routed kept unhandled frame (Closes LinkFault) above whole bytes shows = absurd shows
refuses_shown routed kept unhandled frame (Closes FrameTooLong) above whole bytes shows = refl
refuses_shown routed kept unhandled frame (Closes Rejected) above whole bytes shows = absurd shows
refuses_shown routed kept unhandled frame (Closes Kicked) above whole bytes shows = absurd shows
refuses_shown routed kept unhandled frame (Closes Lagged) above whole bytes shows = absurd shows
refuses_shown routed kept unhandled frame (Closes Memory) above whole bytes shows = absurd (HasNoFrame-above_limit kept above shows.0 shows.1 shows.2 shows.3)

refuses : {L V : Type 0} (routed : V → ℕ → SessionId → List ℕ → V → Type 0) (old : PortFacts L) (frame : Option Frame) (went : Went) (new : PortFacts L) (unhandled : List ℕ)
    → IsTrue (may_handle old) → TooLong old.framer.kept → ((f : Frame) → frame ≡ Some f → IsFrame f) → old.framer.kept ≡ bytes_of frame ++ unhandled
    → HandledOrNot routed old frame went new → went ≡ Closes FrameTooLong
refuses routed old frame went new unhandled may above whole bytes (inl never) = absurd (never.3 may)
refuses routed old frame went new unhandled may above whole bytes (inr due) = refuses_shown routed old.framer.kept unhandled frame went above whole bytes due.1

module _ {L V : Type 0} {facts : L → LinkFacts} {routed : V → ℕ → SessionId → List ℕ → V → Type 0}
    {posts voices : List QueueFacts} {old : PortFacts L} {desk : PassFacts DeskItem} {router : V} {step : Step}
    {new : PortFacts L} {desk_after : PassFacts DeskItem} {router_after : V}
    (c : PortChain facts routed posts voices old desk router step new desk_after router_after) where
  pub record AllIdle : Type 0 where
    pub put_idle : c.put ≡ false
    pub read_idle : has_worked c.read ≡ false
    pub handled_idle : has_worked c.handled ≡ false
    pub wrote_idle : has_worked c.wrote ≡ false
    pub posted_idle : has_taken c.posted ≡ false
    pub heard_idle : has_taken c.heard ≡ false
    pub open_still : c.closed ≡ None

  pub all_idle : step.worked ≡ false → AllIdle
  all_idle idle =
      let parts = neither c.put _ (sym (ap (λ (s : Step). s.worked) c.came_to) ∙ idle) in
      let wents = neither (list_any has_worked (c.read ∷ c.handled ∷ c.wrote ∷ [])) _ parts.1 in
      let first = neither (has_worked c.read) _ wents.0 in
      let second = neither (has_worked c.handled) _ first.1 in
      let third = neither (has_worked c.wrote) _ second.1 in
      let posted = neither (has_taken c.posted) _ wents.1 in
      let heard = neither (has_taken c.heard) _ posted.1 in record {
        put_idle = parts.0;
        read_idle = first.0;
        handled_idle = second.0;
        wrote_idle = third.0;
        posted_idle = posted.0;
        heard_idle = heard.0;
        open_still = some_of c.closed heard.1;
      }

  none_put : AllIdle → item c ≡ None
  none_put idle = put-worked old desk c.put c.after_put desk_after c.puts idle.put_idle

  put_same : item c ≡ None → c.after_put ≡ old
  put_same none = port_put c ∙ ap (λ (i : Option DeskItem). port_after_put i old) none

  read_so : (idle : AllIdle) → (took c ≡ []) × (MayRead c.after_put → Rose (facts c.after_put.link).counts.stalls (facts c.after_read.link).counts.stalls)
  read_so idle = read_idle facts c.after_put c.after_read c.read (took c) idle.read_idle (read-shows facts c.after_put c.read c.after_read c.reads)

  handle_so : (idle : AllIdle) → (frame c ≡ None) × (IsTrue (may_handle c.after_read) → HasNoFrame c.after_read.framer.kept × ¬ TooLong c.after_read.framer.kept)
  handle_so idle = handle_idle routed c.after_read (frame c) c.handled c.after_handle idle.handled_idle (handle_part c).shows

  write_so : (idle : AllIdle) → (bytes_written c ≡ []) × (IsTrue (may_write c.after_take) → Rose (facts c.after_take.link).counts.stalls (facts c.after_write.link).counts.stalls)
  write_so idle = write_idle facts c.after_take c.after_write c.wrote (bytes_written c) idle.wrote_idle (write_part c).shows

  none_post : AllIdle → post c ≡ None
  none_post idle = (take_part c).post_idle idle.posted_idle

  none_voice : AllIdle → voice c ≡ None
  none_voice idle = (take_part c).voice_idle idle.heard_idle

  pub nothing_done : AllIdle → did_of c ≡ did_nothing
  nothing_done idle =
      did_same (item c) (took c) (at_close c.closed (remains c)) (frame c) (post c) (voice c) (bytes_written c) (at_close c.closed (unsent c)) c.closed
      (none_put idle) (read_so idle).0 (at_close-none c.closed (remains c) idle.open_still) (handle_so idle).0 (none_post idle) (none_voice idle) (write_so idle).0
      (at_close-none c.closed (unsent c) idle.open_still) idle.open_still

  -- ---- the port between idle parts

  kept_read : AllIdle → c.after_read.framer.kept ≡ old.framer.kept
  kept_read idle =
      sym (append-nil c.after_read.framer.kept)
      ∙ (ap (λ (l : List ℕ). c.after_read.framer.kept ++ l) (sym ((read_part c).lost_none (worked-closes c.read idle.read_idle)))
      ∙ (sym (read_part c).bytes
      ∙ (ap (λ (l : List ℕ). c.after_put.framer.kept ++ l) (read_so idle).0 ∙ (append-nil c.after_put.framer.kept ∙ kept_put c))))

  stage_read : AllIdle → c.after_read.stage ≡ old.stage
  stage_read idle =
      (read_part c).stage ∙ (stage_by-open c.read c.after_put.stage (worked-closes c.read idle.read_idle) ∙ ap (λ (p : PortFacts L). p.stage) (put_same (none_put idle)))

  stage_idle : AllIdle → c.after_handle.stage ≡ old.stage
  stage_idle idle = (handle_part c).stage ∙ (stage_by-open c.handled c.after_read.stage (worked-closes c.handled idle.handled_idle) ∙ stage_read idle)

  waiting_read : AllIdle → c.after_read.waiting ≡ old.waiting
  waiting_read idle = (read_part c).waiting ∙ ap (λ (p : PortFacts L). p.waiting) (put_same (none_put idle))

  out_idle : AllIdle → c.after_handle.out ≡ old.out
  out_idle idle =
      sym (append-nil c.after_handle.out)
      ∙ (ap (λ (l : List ℕ). c.after_handle.out ++ l) (sym ((handle_part c).dropped_none (worked-closes c.handled idle.handled_idle)))
      ∙ (sym (echo_handle c)
      ∙ (ap (λ (f : Option Frame). old.out ++ echo_of (action_of old.machine f)) (handle_so idle).0 ∙ append-nil old.out)))

  out_taken : AllIdle → c.after_take.out ≡ old.out
  out_taken idle =
      out_take c ∙ (ap (λ (v : Option VoiceFacts). (c.after_handle.out ++ post_bytes (session_of old.machine.stage) (post c)) ++ voice_bytes (session_of old.machine.stage) v) (none_voice idle)
      ∙ (append-nil (c.after_handle.out ++ post_bytes (session_of old.machine.stage) (post c))
      ∙ (ap (λ (p : Option PostFacts). c.after_handle.out ++ post_bytes (session_of old.machine.stage) p) (none_post idle)
      ∙ (append-nil c.after_handle.out ∙ out_idle idle))))

  stage_taken : AllIdle → c.after_take.stage ≡ old.stage
  stage_taken idle =
      (take_part c).stage ∙ (ap (λ (p : Option PostFacts). stage_after_post (is_last (session_of c.after_handle.machine.stage) p) c.after_handle.stage) (none_post idle) ∙ stage_idle idle)

  first_taken : AllIdle → c.after_take.voice_first ≡ old.voice_first
  first_taken idle =
      (take_part c).next ∙ (ap (λ (v : Option VoiceFacts). voice_first_after (post c) v c.after_handle.voice_first) (none_voice idle)
      ∙ (ap (λ (p : Option PostFacts). voice_first_after p None c.after_handle.voice_first) (none_post idle) ∙ first_handle c))

  machine_idle : AllIdle → c.after_write.machine ≡ old.machine
  machine_idle idle = machine_write c ∙ ap (λ (f : Option Frame). machine_after old.machine f) (handle_so idle).0

  may_idle : (idle : AllIdle) → may_handle c.after_read ≡ may_handle old
  may_idle idle = may_same old c.after_read (stage_read idle) (machine_read c) (waiting_read idle) (out_read c)

  empty_idle : (idle : AllIdle) (session : SessionId) → taking_session old ≡ Some session → FindBoxesEmpty posts voices old.passes c.after_take.passes
  empty_idle idle session looks =
      let may = taking_same c.after_handle old (stage_idle idle) (out_idle idle) (session_handle c) ∙ looks in
      let gave_none : (post_bytes (Some session) (post c) ≡ []) × (is_last (Some session) (post c) ≡ false) =
      (ap (λ (p : Option PostFacts). post_bytes (Some session) p) (none_post idle), ap (λ (p : Option PostFacts). is_last (Some session) p) (none_post idle)) in
      subst (λ (s : Option PassesFacts). FindBoxesEmpty posts voices s c.after_take.passes) (passes_handle c)
      ((take_part c).post_empty_so session may (none_post idle) (λ first. none_voice idle), (take_part c).voice_empty_so session may (none_voice idle) (λ first. gave_none))

  pub is_idle : step.worked ≡ false → IsIdle facts posts voices old desk (did_of c) new desk_after
  is_idle worked =
      let idle = all_idle worked in
      let same = settle-same facts _ _ _ _ c.settles idle.open_still in
      let put = put_same (none_put idle) in
      let waiting_end : c.after_write.waiting ≡ old.waiting =
      (write_part c).waiting ∙ ((take_part c).waiting ∙ ((handle_part c).waiting
      ∙ (ap (λ (f : Option Frame). waiting_after (asked_item c.after_read.machine f) c.after_read.waiting) (handle_so idle).0 ∙ waiting_read idle))) in
      let out_end : c.after_write.out ≡ old.out =
      ap (λ (l : List ℕ). l ++ c.after_write.out) (sym (write_so idle).0) ∙ (sym (write_part c).bytes ∙ out_taken idle) in
      let stage_last : c.after_write.stage ≡ old.stage =
      (write_part c).stage ∙ (stage_by-open c.wrote c.after_take.stage (worked-closes c.wrote idle.wrote_idle) ∙ stage_taken idle) in record {
        nothing = nothing_done idle;
        full = put-pass old desk c.put c.after_put desk_after c.puts ∙ ap (λ (i : Option DeskItem). desk_after_put i (due_item old) desk) (none_put idle);
        no_frame = λ may.
            subst (λ (l : List ℕ). HasNoFrame l × ¬ TooLong l) (kept_read idle) ((handle_so idle).1 (may_idle idle ∙ may));
        read_stalled = λ may. rose_read c (λ (k : Counts). k.stalls) (λ a b falls. falls.stalls) ((read_so idle).1 (subst (λ (p : PortFacts L). MayRead p) (sym put) may));
        write_stalled = λ may. rose_write c (λ (k : Counts). k.stalls) (λ a b falls. falls.stalls)
            ((write_so idle).1 (may_write_same c.after_take old (stage_taken idle) (out_taken idle) ∙ may));
        boxes_empty = λ session looks. subst (λ (p : PortFacts L). FindBoxesEmpty posts voices old.passes p.passes) (sym same)
            (subst (FindBoxesEmpty posts voices old.passes) (sym (write_part c).passes) (empty_idle idle session looks));
        kept = ap (λ (p : PortFacts L). p.framer.kept) same ∙ (kept_write c ∙ (sym ((handle_part c).unhandled_kept (worked-closes c.handled idle.handled_idle))
            ∙ (sym ((handle_part c).bytes ∙ ap (λ (f : Option Frame). bytes_of f ++ (handle_part c).unhandled) (handle_so idle).0) ∙ kept_read idle)));
        rest = port_same new old
            (ap (λ (p : PortFacts L). p.machine) same ∙ machine_idle idle)
            (ap (λ (p : PortFacts L). p.waiting) same ∙ waiting_end)
            (ap (λ (p : PortFacts L). p.out) same ∙ out_end)
            (ap (λ (p : PortFacts L). p.voice_first) same ∙ ((write_part c).first ∙ first_taken idle))
            (ap (λ (p : PortFacts L). p.stage) same ∙ stage_last);
      }

  -- ---- a step that worked

  still-idle : did_of c ≡ did_nothing → step.worked ≡ false
  still-idle none =
      let on = goes_on c (ap (λ (d : PortDid). d.closed) none) in
      let put = took_none c.put (λ is. put-some old desk c.put c.after_put desk_after c.puts is (ap (λ (d : PortDid). d.put) none)) in
      let read = read_worked facts c.after_put c.after_read c.read (took c) (read-shows facts c.after_put c.read c.after_read c.reads) on.reads_on (ap (λ (d : PortDid). d.took) none) in
      let handled = handle_worked routed c.after_read (frame c) c.handled c.after_handle (handle_part c).shows on.handles_on (ap (λ (d : PortDid). d.handled) none) in
      let wrote = write_worked facts c.after_take c.after_write c.wrote (bytes_written c) (write_part c).shows on.writes_on (ap (λ (d : PortDid). d.wrote) none) in
      let posted = took_none (has_taken c.posted) (λ is. (take_part c).post_worked is (ap (λ (d : PortDid). d.post) none)) in
      let heard = took_none (has_taken c.heard) (λ is. (take_part c).voice_worked is (ap (λ (d : PortDid). d.voice) none)) in
      let closed = ap (λ (d : PortDid). d.closed) none in
      ap (λ (s : Step). s.worked) c.came_to ∙ all_false c.put (has_worked c.read) (has_worked c.handled) (has_worked c.wrote) (has_taken c.posted) (has_taken c.heard) (is_some c.closed)
      put read handled wrote posted heard (ap (λ (x : Option Cause). is_some x) closed)

  pub did_something : step.worked ≡ true → did_of c ≢ did_nothing
  did_something worked none = absurd (true≢false (sym worked ∙ still-idle none))

  -- ---- a length above the limit

  pub too_long : IsTrue (may_handle old) → TooLong old.framer.kept → c.closed ≡ Some FrameTooLong
  too_long may above =
      let live = may-live old may in
      let waits = none_of old.waiting (and-left (is_none old.waiting) _ (and-right (not old.machine.awaits) _ (and-right (is_live old.stage) _ may))) in
      let due : due_item old ≡ None = rw (waits, live) refl in
      let put : c.after_put ≡ old = put_same (none_item (item c) refl due) in
      let reads : (c.read ≡ NotDue) × (c.after_read ≡ c.after_put) = unread facts c.after_put c.read c.after_read c.reads (subst (λ (p : PortFacts L). TooLong p.framer.kept) (sym put) above) in
      let read_same : c.after_read ≡ old = reads.1 ∙ put in
      let kept : TooLong c.after_read.framer.kept = subst (λ (p : PortFacts L). TooLong p.framer.kept) (sym read_same) above in
      let may_read_now : IsTrue (may_handle c.after_read) = subst (λ (p : PortFacts L). IsTrue (may_handle p)) (sym read_same) may in
      (handle_closes c FrameTooLong (ap closes reads.0) (refuses routed c.after_read (frame c) c.handled c.after_handle _ may_read_now kept (handle_part c).whole (handle_part c).bytes (handle_part c).shows)).closed
    where
      none_item : (found : Option DeskItem) → item c ≡ found → due_item old ≡ None → item c ≡ None
      none_item None is due = is
      none_item (Some one) is due = absurd (cc (sym due ∙ put-due old desk c.put c.after_put desk_after c.puts one is))
