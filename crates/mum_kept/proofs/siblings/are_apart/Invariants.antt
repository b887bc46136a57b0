use Rattle.mum_kept.proofs.Common.{take}
use Rattle.mum_kept.proofs.Seats.{ApartBefore, KeptSeats}
use Rattle.mum_kept.proofs.siblings.are_apart.Given as goal

abbrev pub invariant-loop-channel : goal.invariant-loop-channel
invariant-loop-channel l = record {
  apart : ApartBefore l.channels l.channel-index;
  seats : KeptSeats l.seats.keys (take l.channel-index l.channels);
}
