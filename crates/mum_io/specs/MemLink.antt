-- A link in memory: what it has, what its reads and writes answer, and what they leave.
use Rattle.std.specs.Prelude.{ℕ, ◌==◌, ◌||◌, Bool, false, List, [], ◌∷◌, ◌++◌, length, min, drop, Some, if◌then◌else◌}
use Rattle.mum_io.specs.Calls.{CallNumbers, after_call, before_calls, next_fails}
use Rattle.mum_io.specs.{Counts.Counts, Counts.next_count, Counts.no_counts, Link.LinkFacts}
use Rattle.mum_io.specs.declared.{link.PollRead.PollRead, link.PollWrite.PollWrite, memory.link.LinkEvent.LinkEvent}
use Rattle.mum_io.specs.declared.memory.link.LinkEvent.TheVariants.{Piece, NotYet, Fail, End}
use Rattle.mum_io.specs.declared.link.PollRead.TheVariants as read
use Rattle.mum_io.specs.declared.link.PollWrite.TheVariants as written

pub record LinkState : Type 0 where
  -- what is to come of the peer; the first piece is the rest of one that was given in part
  pub events : List LinkEvent
  pub written : List ℕ
  -- the numbers of the writes, and which of them fail
  pub writes : CallNumbers
  pub counts : Counts
  -- how many writes ran out of memory
  pub starved : ℕ
  pub address : List ℕ
  pub is_shut : Bool

abbrev pub new_link : List ℕ → List LinkEvent → List ℕ → LinkState
new_link address events failing = record {
  events = events;
  written = [];
  writes = before_calls failing;
  counts = no_counts;
  starved = 0;
  address = address;
  is_shut = false;
}

-- the bytes that are left: those of the pieces before the end
abbrev pub bytes_of : List LinkEvent → List ℕ
bytes_of [] = []
bytes_of (Piece bytes ∷ events) = bytes ++ bytes_of events
bytes_of (NotYet ∷ events) = bytes_of events
bytes_of (Fail ∷ events) = bytes_of events
bytes_of (End ∷ events) = []

-- all is known of a link in memory
abbrev pub link_facts : LinkState → LinkFacts
link_facts link = record {
  counts = link.counts;
  left = Some (bytes_of link.events);
  written = Some link.written;
  address = link.address;
  is_shut = link.is_shut;
}

-- the rest of a piece, if there is one, and the events after it
abbrev pub with_rest : List ℕ → List LinkEvent → List LinkEvent
with_rest [] events = events
with_rest (byte ∷ rest) events = Piece (byte ∷ rest) ∷ events

-- the events from the first on that is no empty piece
abbrev pub due : List LinkEvent → List LinkEvent
due [] = []
due (Piece bytes ∷ events) = if length bytes == 0 then due events else Piece bytes ∷ events
due (NotYet ∷ events) = NotYet ∷ events
due (Fail ∷ events) = Fail ∷ events
due (End ∷ events) = End ∷ events

-- what the first event answers to a read with this much room
abbrev pub read_answer : ℕ → List LinkEvent → PollRead
read_answer room [] = read.End
read_answer room (Piece bytes ∷ events) = read.Got (min room (length bytes))
read_answer room (NotYet ∷ events) = read.NotYet
read_answer room (Fail ∷ events) = read.Failed
read_answer room (End ∷ events) = read.End

-- the events that it leaves; none comes after an end
abbrev pub after_event : ℕ → List LinkEvent → List LinkEvent
after_event room [] = []
after_event room (Piece bytes ∷ events) = with_rest (drop (min room (length bytes)) bytes) events
after_event room (NotYet ∷ events) = events
after_event room (Fail ∷ events) = events
after_event room (End ∷ events) = []

abbrev pub counts_after : PollRead → Counts → Counts
counts_after (read.Got n) counts = counts
counts_after read.End counts = record counts { ends = next_count counts.ends }
counts_after read.NotYet counts = record counts { stalls = next_count counts.stalls }
counts_after read.Failed counts = record counts { faults = next_count counts.faults }

-- what a read with this much room answers; once the link was shut it fails
abbrev pub poll_read_answer : LinkState → ℕ → PollRead
poll_read_answer link room = if link.is_shut then read.Failed else read_answer room (due link.events)

-- and then it takes no event
abbrev pub after_poll_read : LinkState → ℕ → PollRead → LinkState
after_poll_read link room answer = record link {
  events = if link.is_shut then link.events else after_event room (due link.events);
  counts = counts_after answer link.counts;
}

-- the next write is one of those that fail, or the link was shut
abbrev pub refuses : LinkState → Bool
refuses link = next_fails link.writes || link.is_shut

-- a write that failed and is not one of these ran out of memory; none finds the link not ready
abbrev pub after_poll_write : LinkState → List ℕ → PollWrite → LinkState
after_poll_write link piece (written.Took n) =
    record link { written = link.written ++ piece; writes = after_call link.writes }
after_poll_write link piece written.NotYet = link
after_poll_write link piece written.Failed = record link {
  writes = after_call link.writes;
  counts = record link.counts { faults = next_count link.counts.faults };
  starved = if refuses link then link.starved else next_count link.starved;
}
