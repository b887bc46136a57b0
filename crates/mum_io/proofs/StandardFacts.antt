-- Worked rows of the definitions of the outside in memory.
use Rattle.mum_io.proofs.Common.{◌≡◌, ℕ, true, List, [], ◌∷◌, refl, ClockState, after_now, new_clock, accept_answer, events_behind, LinkState, after_event, after_poll_read, bytes_of, due, poll_read_answer, read_answer, Accept, PollRead, DoorEvent, LinkEvent, Piece, NotYet, Fail, End}
use Rattle.mum_io.specs.declared.door.Accept.TheVariants as accepted
use Rattle.mum_io.specs.declared.link.PollRead.TheVariants as read
use Rattle.mum_io.specs.declared.memory.door.DoorEvent.TheVariants as asked

-- what reads answer, one after the other, into slices of these lengths
abbrev reads : List ℕ → List LinkEvent → List PollRead
reads [] events = []
reads (room ∷ rooms) events = read_answer room (due events) ∷ reads rooms (after_event room (due events))

-- a piece that is longer than the slice comes in parts
pieces_come_in_parts : reads (2 ∷ 2 ∷ 2 ∷ 2 ∷ []) (Piece (7 ∷ 8 ∷ 9 ∷ []) ∷ NotYet ∷ Piece (5 ∷ []) ∷ []) ≡ read.Got 2 ∷ read.Got 1 ∷ read.NotYet ∷ read.Got 1 ∷ []
pieces_come_in_parts = refl

-- an empty piece is passed over, and after the last event is the end
empty_pieces_answer_nothing : reads (4 ∷ 4 ∷ 4 ∷ []) (Piece [] ∷ Fail ∷ Piece [] ∷ []) ≡ read.Failed ∷ read.End ∷ read.End ∷ []
empty_pieces_answer_nothing = refl

-- no event comes after an end
an_end_lasts : reads (4 ∷ 4 ∷ []) (End ∷ Piece (5 ∷ []) ∷ []) ≡ read.End ∷ read.End ∷ []
an_end_lasts = refl

-- once it was shut, a link fails at each read, and leaves its events
a_shut_link_fails : (link : LinkState) → (poll_read_answer (record link { is_shut = true }) 4 ≡ read.Failed)
    × ((after_poll_read (record link { is_shut = true }) 4 read.Failed).events ≡ link.events)
a_shut_link_fails link = (refl, refl)

bytes_before_the_end : bytes_of (Piece (7 ∷ []) ∷ Fail ∷ Piece (8 ∷ 9 ∷ []) ∷ End ∷ Piece (5 ∷ []) ∷ []) ≡ 7 ∷ 8 ∷ 9 ∷ []
bytes_before_the_end = refl

-- what a door answers, asked this often
abbrev accepts : List ℕ → List DoorEvent → List (Accept LinkState)
accepts [] events = []
accepts (_ ∷ times) events = accept_answer events ∷ accepts times (events_behind events)

connections_in_their_order : (one two : LinkState) → accepts (1 ∷ 2 ∷ 3 ∷ 4 ∷ 5 ∷ []) (asked.Conn one ∷ asked.NotYet ∷ asked.Conn two ∷ asked.Fail ∷ [])
    ≡ accepted.Conn one ∷ accepted.NotYet ∷ accepted.Conn two ∷ accepted.Failed ∷ accepted.End ∷ []
connections_in_their_order one two = refl

-- what a clock answers, asked this often
abbrev times : List ℕ → ClockState → List ℕ
times [] clock = []
times (_ ∷ calls) clock = (after_now clock).last ∷ times calls (after_now clock)

the_last_moment_repeats : times (1 ∷ 2 ∷ 3 ∷ []) (new_clock (50 ∷ 70 ∷ [])) ≡ 50 ∷ 70 ∷ 70 ∷ []
the_last_moment_repeats = refl

without_moments_0 : times (1 ∷ 2 ∷ []) (new_clock []) ≡ 0 ∷ 0 ∷ []
without_moments_0 = refl
