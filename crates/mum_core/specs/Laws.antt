-- Runs of allowed steps.
use Rattle.std.specs.Prelude.{◌≡◌, ℕ, ◌+◌, ◌==◌, ◌&&◌, ◌⊎◌, Bool, false, List, [], ◌∷◌, ◌++◌, fold, filter, length, map, take, Option, Some, None, is_none, option_to_list, if◌then◌else◌}
use Rattle.std.specs.Option.{option_map, option_map_or}
use Rattle.mum_voice.specs.{Packet.copy, Varint.word_at}
use Rattle.mum_record.specs.declared.step.Step.{Step}
use Rattle.mum_record.specs.declared.step.Step.TheVariants.{Edit, Look, Offer, Post, Drain, Collect}
use Rattle.mum_notify.specs.declared.notice.Notice.{Notice}
use Rattle.mum_core.specs.Core.{CoreState, current, state_at, connection_at, worker_at, outbox_at, posts_at}
use Rattle.mum_core.specs.{Step.does, Step.illegal, Worker.HeldPacket, Delivery.is_for, steps.Look.audience}
use Rattle.mum_core.specs.steps.Offer.{has_room}
use Rattle.mum_core.specs.declared.{connection.Seat.Seat, outbox.Parcel.Parcel, worker.Outgoing.Outgoing}
use Rattle.mum_core.specs.steps.Edit as edit_step
use Rattle.mum_core.specs.steps.Post as post_step

-- each step is allowed where it comes
abbrev pub IsRun : CoreState → List Step → Type 0
IsRun core [] = Unit {0}
IsRun core (step ∷ steps) = (illegal core step ≡ None) × IsRun (does core step) steps

abbrev pub ran : CoreState → List Step → CoreState
ran core steps = fold does core steps

-- the sizes of the audiences that the looks of a run find
abbrev pub looked : CoreState → List Step → ℕ
looked core [] = 0
looked core (Look w revision ∷ steps) =
    length (audience (state_at core revision) (worker_at core w).held) + looked (does core (Look w revision)) steps
looked core (step ∷ steps) = looked (does core step) steps

-- what the steps of a run add to a list, in their order
abbrev pub gathered : {A : Type 0} → (CoreState → Step → List A) → CoreState → List Step → List A
gathered adds core [] = []
gathered adds core (step ∷ steps) = adds core step ++ gathered adds (does core step) steps

-- the packet that worker v takes in a step
abbrev pub packet_taken : ℕ → CoreState → Step → List HeldPacket
packet_taken v core step =
    if is_none (worker_at core v).held then option_to_list (worker_at (does core step) v).held else []

-- the copy for session n that a step puts into an outbox, after the worker that offers it
abbrev pub sent : ℕ → CoreState → Step → List (ℕ × Outgoing)
sent n core (Offer w) =
    map (λ copy. (w, copy))
    (filter (λ copy. (copy.to.0 == n) && has_room core copy.slot.0) (take 1 (worker_at core w).copies))
sent n core step = []

-- the oldest copy in the outbox of a seat
abbrev pub front : CoreState → Option Seat → List Parcel
front core None = []
front core (Some seat) = take 1 (outbox_at core seat.slot.0)

-- the copy for session n that a step takes out of an outbox, whichever connection of the slot drains it
abbrev pub removed : ℕ → CoreState → Step → List Parcel
removed n core (Drain c) = filter (λ parcel. parcel.to.0 == n) (front core (connection_at core c).seat)
removed n core step = []

-- of a copy that was taken out of the outbox of a seat, what its connection is sent: a copy for another is dropped
abbrev pub own_front : CoreState → Option Seat → List Parcel
own_front core None = []
own_front core (Some seat) = filter (λ parcel. is_for parcel.to seat) (front core (Some seat))

-- the copy that a step sends to a connection
abbrev pub wired : CoreState → Step → List Parcel
wired core (Drain c) = own_front core (connection_at core c).seat
wired core step = []

-- the same, where the seat is of session n
abbrev pub front_for : ℕ → CoreState → Option Seat → List Parcel
front_for n core None = []
front_for n core (Some seat) = if seat.session.0 == n then own_front core (Some seat) else []

-- the copy that the connection of session n drains in a step
abbrev pub heard : ℕ → CoreState → Step → List Parcel
heard n core (Drain c) = front_for n core (connection_at core c).seat
heard n core step = []

-- ---- notices

-- the notices of the edit that a step accepts
abbrev pub noticed : CoreState → Step → List Notice
noticed core (Edit c) = option_map_or (edit_step.noticed (current core)) (edit_step.decision core c) []
noticed core step = []

-- the notice that a step takes from those that are pending
abbrev pub offered : CoreState → Step → List Notice
offered core Post = take 1 core.pending
offered core step = []

-- of it, what goes to the posts of its slot: all of it, unless these are full
abbrev pub posted : CoreState → Step → List Notice
posted core step = filter (λ notice. post_step.has_room core notice.slot.0) (offered core step)

-- what goes to the posts of this slot
abbrev pub posted_in : ℕ → CoreState → Step → List Notice
posted_in slot core step = filter (λ notice. notice.slot.0 == slot) (posted core step)

-- the oldest notice in the posts of a seat
abbrev pub front_notice : CoreState → Option Seat → List Notice
front_notice core None = []
front_notice core (Some seat) = take 1 (posts_at core seat.slot.0)

-- the notice that a step takes out of the posts of a slot, whichever connection of the slot collects it
abbrev pub collected_by : ℕ → CoreState → Option Seat → List Notice
collected_by slot core None = []
collected_by slot core (Some seat) = if seat.slot.0 == slot then front_notice core (Some seat) else []

abbrev pub collected : ℕ → CoreState → Step → List Notice
collected slot core (Collect c) = collected_by slot core (connection_at core c).seat
collected slot core step = []

abbrev pub own_notice : CoreState → Option Seat → List Notice
own_notice core None = []
own_notice core (Some seat) = filter (λ notice. is_for notice.to seat) (front_notice core (Some seat))

-- the notice that a step sends to a connection
abbrev pub told_notice : CoreState → Step → List Notice
told_notice core (Collect c) = own_notice core (connection_at core c).seat
told_notice core step = []

-- ---- order

-- each of the first list is so related to one of the second, in their order, and no two to the same
abbrev pub IsSubsequenceBy : {A B : Type 0} → (A → B → Type 0) → List A → List B → Type 0
IsSubsequenceBy R [] ys = Unit {0}
IsSubsequenceBy R (x ∷ xs) [] = ⊥
IsSubsequenceBy R (x ∷ xs) (y ∷ ys) = (R x y × IsSubsequenceBy R xs ys) ⊎ IsSubsequenceBy R (x ∷ xs) ys

-- the first list is the second without some of its elements
abbrev pub IsSubsequence : {A : Type 0} → List A → List A → Type 0
IsSubsequence xs ys = IsSubsequenceBy (λ x y. x ≡ y) xs ys

-- the copy is of the packet, with its position or without; after a worker, the same of an offer
abbrev pub IsCopyOf : Outgoing → HeldPacket → Type 0
IsCopyOf outgoing held =
    (with_position : Bool) × (outgoing.bytes ≡ copy held.parts held.speaker.0 outgoing.context with_position)

abbrev pub IsOfferOf : (ℕ × Outgoing) → HeldPacket → Type 0
IsOfferOf offer held = IsCopyOf offer.1 held

-- the session whose packet it is, which comes after the first byte of a copy
abbrev pub speaker_in : List ℕ → Option ℕ
speaker_in [] = None
speaker_in (first ∷ bytes) = option_map (λ read. read.0) (word_at bytes)

abbrev pub is_by : ℕ → List ℕ → Bool
is_by speaker bytes = option_map_or (λ n. n == speaker) (speaker_in bytes) false

-- the bytes are a copy of the packet, in some context, with its position or without
abbrev pub AreBytesOf : List ℕ → HeldPacket → Type 0
AreBytesOf bytes held =
    (context : ℕ) × (with_position : Bool) × (bytes ≡ copy held.parts held.speaker.0 context with_position)

abbrev pub IsParcelOf : Parcel → HeldPacket → Type 0
IsParcelOf parcel held = AreBytesOf parcel.bytes held
