-- What the control owner does as steps of the core.
use Rattle.std.specs.Prelude.{◌≡◌, ◌⊎◌, ℕ, ◌<◌, Bool, true, false, List, ◌∷◌, Option, Some, None, length, map, slice_get, slice_set}
use Rattle.std.specs.Option.{option_map}
use Rattle.mum_base.specs.declared.number.{Cause.TheVariants.Lagged, SessionId.SessionId}
use Rattle.mum_outbox.specs.Facts.{PassFacts as BoxFacts}
use Rattle.mum_record.specs.declared.step.Step.TheVariants.{Edit, Post, Publish, Tell}
use Rattle.mum_state.specs.declared.verdict.Verdict.{Verdict}
use Rattle.mum_published.specs.{Calls.appended, Facts.NoteFacts, Facts.ReplyFacts}
use Rattle.mum_notify.specs.declared.notice.Notice.{Notice}
use Rattle.mum_parcel.specs.Facts.{PostFacts}
use Rattle.mum_session.specs.Reply.{reply_end}
use Rattle.mum_session.specs.declared.command.Command.{Command}
use Rattle.mum_core.specs.Connection.{answered, is_of, next_command, next_of_frame, session_of}
use Rattle.mum_core.specs.Core.{CoreState, connection_at, is_opened, posts_at}
use Rattle.mum_core.specs.{Step.does, Step.illegal, steps.Close.has_cause, steps.Edit.decision, steps.Edit.reply_to}
use Rattle.mum_core.specs.steps.Post.{has_room, next_notice, put}
use Rattle.mum_control.specs.{Commanded.Commanded, Facts.ControlFacts, Posting.PostsNext}
use Rattle.mum_control.specs.declared.posted.Posted.{Posted}
use Rattle.mum_control.specs.declared.posted.Posted.TheVariants as posted

-- the core has the opening, the edits and the pending notices of this control owner
pub record OwnsAs (control : ControlFacts) (core : CoreState) : Type 0 where
  pub opening_is : core.opening ≡ control.publisher.opening.state
  pub accepted_are : core.accepted ≡ appended control.publisher
  pub published_are : core.published ≡ length control.publisher.published
  pub pending_are : core.pending ≡ control.pending

-- ---- a command

-- the connection of the command waits in the core for this command to be decided, with this session
pub record HasAsked (command : Command) (core : CoreState) : Type 0 where
  pub opened : is_opened core command.connection ≡ true
  pub session_is : session_of (connection_at core command.connection) ≡ command.session
  pub next_is : next_command (connection_at core command.connection) ≡ Some command.what

-- the core that publishes as well, where the reply has the note of that
abbrev pub published_with : Option NoteFacts → CoreState → CoreState
published_with None core = core
published_with (Some note) core = does core Publish

-- the revision that a note reports
abbrev pub revision_noted : Option NoteFacts → Option ℕ
revision_noted note = option_map (λ note. length note.edits) note

-- the command is decided by the step Edit of its connection, and published by the step Publish where the reply has a
-- note
pub record DecidesAsEdit (command : Command) (reply : ReplyFacts) (new : ControlFacts) (core : CoreState) : Type 0 where
  pub verdict : Verdict
  pub decided : decision core command.connection ≡ Some verdict
  pub allowed : illegal core (Edit command.connection) ≡ None
  pub owns : OwnsAs new (published_with reply.note (does core (Edit command.connection)))
  -- the outcome that is kept, and what the connection is answered
  pub mark_is : new.mark ≡ Some (reply_to core command.connection verdict).mark
  pub end_is : reply.end ≡ reply_end verdict
  pub wire_is : reply.wire ≡ (reply_to core command.connection verdict).wire
  pub kept : connection_at (does core (Edit command.connection)) command.connection
      ≡ answered (next_of_frame (connection_at core command.connection)) (reply_to core command.connection verdict)
      (connection_at core command.connection)
  -- the reply may be sent with its note, where a frame asked for the command
  pub told : next_of_frame (connection_at core command.connection) ≡ Some command.what
      → illegal (published_with reply.note (does core (Edit command.connection)))
      (Tell command.connection (revision_noted reply.note)) ≡ None

-- a command that was not decided, since memory ran out, is no step
pub record IsNoStep (reply : ReplyFacts) (new : ControlFacts) (core : CoreState) : Type 0 where
  pub undecided : new.mark ≡ None
  pub reported : reply.no_memory ≡ true
  pub owns : OwnsAs new core

-- what is made of a command is the step Edit, or none
abbrev pub CommandsAreEdits : Type 0
CommandsAreEdits =
    (old new : ControlFacts) (command : Command) (reply : ReplyFacts) → Commanded old command reply new
    → (core : CoreState) → OwnsAs old core → HasAsked command core
    → IsNoStep reply new core ⊎ DecidesAsEdit command reply new core

-- ---- notices

abbrev pub was_posted : Posted → Bool
was_posted posted.None = false
was_posted (posted.Posted session) = true
was_posted (posted.Lagged session) = false

-- a notice without its slot, and without the edits that come with it
pub record Text : Type 0 where
  pub to : SessionId
  pub bytes : List ℕ
  pub last : Bool

abbrev pub text_of_notice : Notice → Text
text_of_notice notice = record { to = notice.to; bytes = notice.bytes; last = notice.last }

abbrev pub text_of_parcel : PostFacts → Text
text_of_parcel parcel = record { to = parcel.to; bytes = parcel.bytes; last = parcel.last }

-- the notice is offered once to the box of its slot, which takes it as the posts of a slot of the core would; no
-- other box changes
pub record PutsNotice (next : Notice) (sent : Bool) (posts after : List (BoxFacts PostFacts)) : Type 0 where
  pub before : BoxFacts PostFacts
  pub later : BoxFacts PostFacts
  pub box : slice_get posts next.slot.0 ≡ Some before
  pub offered : (notices : List Notice) → map text_of_parcel before.offered ≡ map text_of_notice notices
      → map text_of_parcel later.offered ≡ map text_of_notice (put sent next notices)
  pub others : after ≡ slice_set posts next.slot.0 later

-- a post of the owner is the step Post: the first pending notice, once, to the box of its slot. Where the posts of
-- the core have room exactly where the box had, they have the notice as well
abbrev pub NoticesArePosted : Type 0
NoticesArePosted =
    (old new : ControlFacts) (notice : Notice) (rest : List Notice) (answer : Posted)
    → PostsNext old (notice ∷ rest) answer new → old.pending ≡ notice ∷ rest
    → (core : CoreState) → OwnsAs old core
    → (illegal core Post ≡ None) × (next_notice core ≡ Some notice) × OwnsAs new (does core Post)
    × PutsNotice notice (was_posted answer) old.posts new.posts
    × (notice.slot.0 < length core.posts → has_room core notice.slot.0 ≡ was_posted answer
    → posts_at (does core Post) notice.slot.0 ≡ put (was_posted answer) notice (posts_at core notice.slot.0))

-- a notice that found the box of its slot full reports its session as one that lags. Where the posts of the core have
-- no room either, the connection of that session may end in the core for that
abbrev pub FullBoxesLag : Type 0
FullBoxesLag =
    (old new : ControlFacts) (notice : Notice) (rest : List Notice) (answer : Posted)
    → PostsNext old (notice ∷ rest) answer new → old.pending ≡ notice ∷ rest → was_posted answer ≡ false
    → (core : CoreState) → OwnsAs old core → has_room core notice.slot.0 ≡ false
    → (answer ≡ posted.Lagged notice.to)
    × ((c : ℕ) → is_opened core c ≡ true → is_of notice.to (connection_at core c) ≡ true
    → has_cause (does core Post) c Lagged ≡ true)
