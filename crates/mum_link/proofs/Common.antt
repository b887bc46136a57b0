-- The names that the proofs of this crate take from elsewhere, passed on from one place. Declares nothing.
pub use Rattle.std.proofs.{KnownBytes.Consumes-kept, KnownBytes.Consumes-trans, lemmas.Bool.eq-eqb, lemmas.Bool.lt-ltb, lemmas.Bool.ltb-true, lemmas.List.Elements.Contains-append_left, lemmas.List.Elements.Contains-append_right}
pub use Rattle.std.proofs.Common.{Bool, Err, IfSome, List, None, Ok, Option, Result, Some, [], ap, append-nil, append_assoc, arith, false, if◌then◌else◌, inl, inr, is_some, length, nat_lt, not, refl, rules, slice_index_or, subst, suc, sym, true, unwrap_or, vec_len, zero, ℕ, ◌++◌, ◌+◌, ◌<◌, ◌==◌, ◌∙◌, ◌∷◌, ◌≡◌, ◌⊎◌}
pub use Rattle.std.specs.{Io.KnownBytes.Consumes, Io.KnownBytes.Keeps, Io.KnownBytes.prepend_known, IoError.error_kind, List.Contains, Net.Addr.ipv6_octets, Option.ForSome, Option.option_map}
pub use Rattle.std.specs.declared.io.{Error.Error, ErrorKind.ErrorKind}
pub use Rattle.mum_pace.specs.{Arrivals.ArrivalsState, Arrivals.arrivals_at, Arrivals.counts_one, Arrivals.state_of, Meters.room, Waits.has_waited, Waits.waits_since}
pub use Rattle.mum_pace.specs.declared.arrivals.Arrivals.{Arrivals}
pub use Rattle.mum_address.specs.Header.{IsHeader, plain}
pub use Rattle.mum_io.specs.Counts.{Rose}
pub use Rattle.mum_io.specs.declared.link.PollWrite.{PollWrite}
pub use Rattle.mum_crew.specs.Deal.{IsDealt, hand, thread_at}
pub use Rattle.mum_link.specs.{Comings.CountsOne, Comings.HaveRoom, Comings.LetsIn, Origins.ComesIn, Origins.HasRead, Origins.Origin, Reads.ReadsOn, Sharing.worker_of, Wires.taken}
pub use Rattle.mum_link.specs.Faults.{Closes, CountsFailedRead, CountsFailedWrite, CountsOneIf, IsBroken, Stays, has_cause, is_of_shut, is_passing}
pub use Rattle.mum_link.specs.declared.{fault.Fault.Fault, fault.Fault.TheVariants.Call, fault.Fault.TheVariants.LeftBehind, fault.Fault.TheVariants.Shut, fault.Fault.TheVariants.Stop, fault.Fault.TheVariants.TookNothing, patience.Patience.Patience}
