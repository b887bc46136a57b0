-- The names that the proofs of this crate take from elsewhere, passed on from one place. Declares nothing.
pub use Rattle.std.proofs.{KnownBytes.Appends-trans, KnownBytes.Consumes-kept, KnownBytes.Consumes-trans, Math.Seq.take-add, Math.Seq.take-append-add, Math.Seq.take-length, lemmas.Bool.ne_eqb, lemmas.List.drop-drop, lemmas.List.take-append-drop, lemmas.List.take-append-le, lemmas.List.take_rest}
pub use Rattle.std.proofs.Common.{List, [], ap, append-nil, append_assoc, arith, cond, drop, false, inl, inr, le_trans, length, length-append, length-drop, length-take, min, refl, rules, subst, suc, sym, take, true, vec_len, zero, ℕ, ⊎_elim, ◌++◌, ◌+◌, ◌-◌, ◌<◌, ◌==◌, ◌∙◌, ◌∷◌, ◌≡◌, ◌≤◌, ◌⊎◌}
pub use Rattle.std.specs.VecDeque.{deque_len}
pub use Rattle.std.specs.Prelude.{Err, IfSome, None, Ok, OnErr, Option, Result, Some}
pub use Rattle.mum_io.specs.{Counts.Counts, Counts.CountsEnd, Counts.CountsFault, Counts.CountsStall, Counts.NoneFalls, Counts.Rose, Door.AcceptCounts, Door.OpenCounts, Link.PollReadCounts, Link.PollWriteCounts, MemClock.ClockState, MemClock.after_now, MemClock.new_clock, MemDoor.accept_answer, MemDoor.events_behind, Outside.Appends, Outside.AppendsFront, Outside.Consumes, Outside.IsAllOrLonger, Outside.IsAtEnd}
pub use Rattle.mum_io.specs.MemLink.{LinkState, after_event, after_poll_read, bytes_of, due, poll_read_answer, read_answer, with_rest}
pub use Rattle.mum_io.specs.declared.{door.Accept.Accept, door.DoorOpen.DoorOpen, link.PollRead.PollRead, link.PollWrite.PollWrite, memory.door.DoorEvent.DoorEvent, memory.link.LinkEvent.LinkEvent, memory.link.LinkEvent.TheVariants.End, memory.link.LinkEvent.TheVariants.Fail, memory.link.LinkEvent.TheVariants.NotYet, memory.link.LinkEvent.TheVariants.Piece}
