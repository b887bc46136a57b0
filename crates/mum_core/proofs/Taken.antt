-- A step, with the line that it takes.
use Rattle.mum_core.proofs.Common.{◌≡◌, ℕ, Bool, true, false, cond, List, Option, Some, None, Result, Ok, inr, refl, ap, ◌∙◌, ◌⊎◌, option_map_or, Gives, Verdict, Notice, packet, Seat, StepFault, Outgoing, Action, Voice, Step, Open, Frame, Publish, Tell, Look, Offer, Post, Drain, Collect, Close, End, IsStarved, named_cause, CoreState, connection_at, at_connection, up, told, changes, does, frame_action, frame_version, illegal, HeldPacket, spoken, Queues, does_from, copy_queues, notice_queues}
use Rattle.mum_record.specs.declared.step.Step.TheVariants.{Edit}
use Rattle.mum_core.proofs.Delivered.{delivered}
use Rattle.mum_core.specs.steps.Frame as frame_step
use Rattle.mum_core.specs.steps.Edit as edit_step
use Rattle.mum_core.specs.steps.Tell as tell_step
use Rattle.mum_core.specs.steps.Offer as offer_step
use Rattle.mum_core.specs.steps.Post as post_step

-- ---- no change of a step changes the line

hears_line : (core : CoreState) (w : ℕ) (held : Option HeldPacket) → (frame_step.hears core w held).line ≡ core.line
hears_line core w (Some held) = refl
hears_line core w None = refl

frame_line : (core : CoreState) (c : ℕ) (version : Option ℕ) (asked : Action) → (frame_step.does core c version asked).line ≡ core.line
frame_line core c version (Voice payload) = hears_line core (connection_at core c).worker (spoken (connection_at core c).seat (packet payload))
frame_line core c version others = refl

edit_line : (core : CoreState) (c : ℕ) (decision : Option Verdict) → (option_map_or (edit_step.decides core c) decision core).line ≡ core.line
edit_line core c None = refl
edit_line core c (Some verdict) = refl

note_line : (core : CoreState) (w : ℕ) (note : Option ℕ) → (tell_step.notes w note core).line ≡ core.line
note_line core w None = refl
note_line core w (Some revision) = refl

either_line : (b : Bool) (core one other : CoreState) → one.line ≡ core.line → other.line ≡ core.line → (cond b one other).line ≡ core.line
either_line true core one other here there = here
either_line false core one other here there = there

put_line : (core : CoreState) (next : Option Outgoing) → (offer_step.puts core next).line ≡ core.line
put_line core None = refl
put_line core (Some next) = either_line (offer_step.has_room core next.slot.0) core _ _ refl refl

delivery_line : (queues : Queues) (core : CoreState) (seat : Option Seat) → ((slot : ℕ) → (queues.without slot core).line ≡ core.line)
    → (does_from queues core seat).line ≡ core.line
delivery_line queues core seat rest = delivered (λ new. new.line ≡ core.line) queues core seat refl rest rest

post_line : (core : CoreState) (next : Option Notice) → (post_step.puts core next).line ≡ core.line
post_line core None = refl
post_line core (Some next) = either_line (post_step.has_room core next.slot.0) core _ _ refl refl

pub same_line : (core : CoreState) (step : Step) → (changes core step).line ≡ core.line
same_line core (Open c w) = refl
same_line core (Frame c bytes) = frame_line core c (frame_version core c bytes) (frame_action core c bytes)
same_line core (Edit c) = edit_line core c (edit_step.decision core c)
same_line core Publish = refl
same_line core (Tell c revision) = note_line (at_connection c told core) (connection_at core c).worker revision
same_line core (Look w revision) = refl
same_line core (Offer w) = put_line _ (offer_step.next_copy core w)
same_line core Post = post_line _ (post_step.next_notice core)
same_line core (Drain c) = delivery_line copy_queues core (connection_at core c).seat (λ slot. refl)
same_line core (Collect c) = delivery_line notice_queues core (connection_at core c).seat (λ slot. refl)
same_line core (Close c cause) = refl
same_line core End = refl

-- ---- what is done is the change and the line

abbrev with_line : CoreState → ℕ → CoreState
with_line core line = record core { line = line }

pub done_of : (core mid new : CoreState) (step : Step) → mid ≡ changes core step → new ≡ record mid { line = up mid.line } → new ≡ does core step
done_of core mid new step is counted =
    counted ∙ ap (λ (m : CoreState). with_line m (up m.line)) is ∙ ap (λ (n : ℕ). with_line (changes core step) (up n)) (same_line core step)

-- the same of a `Tell`, which answers what it reported
abbrev answers : List (List ℕ) → Result (List (List ℕ)) StepFault
answers lines = Ok lines

pub given_of : (core mid new : CoreState) (step : Step) (given lines : List (List ℕ))
    → Gives named_cause (illegal core step) lines core core (answers given) core → mid ≡ changes core step
    → new ≡ record mid { line = up mid.line }
    → IsStarved core (answers given) new ⊎ Gives named_cause (illegal core step) lines (does core step) core (answers given) new
given_of core mid new step given lines gives changed counted = inr (gives.0, gives.1, done_of core mid new step changed counted)
