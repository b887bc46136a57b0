-- What ends a port that writes what it keeps before it closes.
use Rattle.std.specs.Prelude.{Bool, true, false, List}
use Rattle.std.specs.List.{list_any}
use Rattle.mum_base.specs.declared.reply.ReplyEnd.{ReplyEnd}
use Rattle.mum_base.specs.declared.reply.ReplyEnd.TheVariants.{Joined, Decided, Rejected}
use Rattle.mum_session.specs.Machine.{session_of}
use Rattle.mum_port.specs.Did.{is_last}
use Rattle.mum_port.specs.Life.{Event, lagged, replied, stepped}

abbrev pub is_rejection : ReplyEnd → Bool
is_rejection (Joined session slot) = false
is_rejection Decided = false
is_rejection Rejected = true

-- a reply that rejects a login
abbrev pub rejects : Event → Bool
rejects (replied heard closed) = is_rejection heard.end
rejects (stepped machine did) = false
rejects (lagged closed) = false

-- a step that took the last parcel of its session
abbrev pub parts : Event → Bool
parts (stepped machine did) = is_last (session_of machine.stage) did.post
parts (replied heard closed) = false
parts (lagged closed) = false

-- one of these events is such a reply, and one is such a step
abbrev pub was_rejected : List Event → Bool
was_rejected events = list_any rejects events

abbrev pub was_parted : List Event → Bool
was_parted events = list_any parts events
