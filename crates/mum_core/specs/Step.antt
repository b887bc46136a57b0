-- What forbids a step, what it does, and what the transcript gains by it: a case a step.
use Rattle.std.specs.Prelude.{ℕ, Bool, true, false, List, Option}
use Rattle.mum_frame.specs.Frame.{kind_of, payload_of}
use Rattle.mum_record.specs.declared.step.Step.{Step}
use Rattle.mum_record.specs.declared.step.Step.TheVariants.{Open, Frame, Edit, Publish, Tell, Look, Offer, Post, Drain, Collect, Close, End}
use Rattle.mum_session.specs.declared.action.Action.{Action}
use Rattle.mum_session.specs.Action.{action, after_frame}
use Rattle.mum_core.specs.{Case.Case, Case.first_that_stands, Core.CoreState, Core.connection_at, Core.up}
use Rattle.mum_core.specs.{Machine.machine_of, steps.Drain.copy_queues, steps.Collect.notice_queues}
use Rattle.mum_core.specs.Delivery as delivery
use Rattle.mum_core.specs.steps.Open as open_step
use Rattle.mum_core.specs.steps.Frame as frame_step
use Rattle.mum_core.specs.steps.Edit as edit_step
use Rattle.mum_core.specs.steps.Publish as publish_step
use Rattle.mum_core.specs.steps.Tell as tell_step
use Rattle.mum_core.specs.steps.Look as look_step
use Rattle.mum_core.specs.steps.Offer as offer_step
use Rattle.mum_core.specs.steps.Post as post_step
use Rattle.mum_core.specs.steps.Close as close_step
use Rattle.mum_core.specs.steps.End as end_step

-- what a frame of a connection asks for
abbrev pub frame_action : CoreState → ℕ → List ℕ → Action
frame_action core c bytes = action (machine_of c (connection_at core c)) (kind_of bytes) (payload_of bytes)

-- the number of the last Version of the connection that has one, with the frame
abbrev pub frame_version : CoreState → ℕ → List ℕ → Option ℕ
frame_version core c bytes =
    (after_frame (machine_of c (connection_at core c)) (kind_of bytes) (payload_of bytes)).version

abbrev pub forbids : CoreState → Step → List Case
forbids core (Open c w) = open_step.forbids core c w
forbids core (Frame c bytes) = frame_step.forbids core c
forbids core (Edit c) = edit_step.forbids core c
forbids core Publish = publish_step.forbids
forbids core (Tell c revision) = tell_step.forbids core c revision
forbids core (Look w revision) = look_step.forbids core w revision
forbids core (Offer w) = offer_step.forbids core w
forbids core Post = post_step.forbids core
forbids core (Drain c) = delivery.forbids core c
forbids core (Collect c) = delivery.forbids core c
forbids core (Close c cause) = close_step.forbids core c cause
forbids core End = end_step.forbids

-- what a step changes, but for the line that it takes
abbrev pub changes : CoreState → Step → CoreState
changes core (Open c w) = open_step.does core w
changes core (Frame c bytes) = frame_step.does core c (frame_version core c bytes) (frame_action core c bytes)
changes core (Edit c) = edit_step.does core c
changes core Publish = publish_step.does core
changes core (Tell c revision) = tell_step.does core c revision
changes core (Look w revision) = look_step.does core w revision
changes core (Offer w) = offer_step.does core w
changes core Post = post_step.does core
changes core (Drain c) = delivery.does copy_queues core c
changes core (Collect c) = delivery.does notice_queues core c
changes core (Close c cause) = close_step.does core c
changes core End = end_step.does core

-- each step takes a line of the recording
abbrev pub does : CoreState → Step → CoreState
does core step = record (changes core step) { line = up core.line }

abbrev pub lines : CoreState → Step → List (List (List ℕ))
lines core (Open c w) = open_step.lines c w
lines core (Frame c bytes) = frame_step.lines c (frame_action core c bytes)
lines core (Edit c) = edit_step.lines core c
lines core Publish = publish_step.lines core
lines core (Tell c revision) = tell_step.lines core c revision
lines core (Look w revision) = look_step.lines core w revision
lines core (Offer w) = offer_step.lines core w
lines core Post = post_step.lines core
lines core (Drain c) = delivery.lines copy_queues core c
lines core (Collect c) = delivery.lines notice_queues core c
lines core (Close c cause) = close_step.lines c cause
lines core End = end_step.lines core

-- the numbers of the first case that forbids the step, if any does
abbrev pub illegal : CoreState → Step → Option (ℕ × ℕ)
illegal core step = first_that_stands (forbids core step)

-- whether a step is a `Tell`, which alone may report two lines
abbrev pub is_tell : Step → Bool
is_tell (Tell c revision) = true
is_tell others = false
