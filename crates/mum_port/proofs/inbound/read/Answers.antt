use Rattle.mum_port.proofs.Common.{◌<◌, [], ◌++◌, length, take, arith, ap, sym, refl, length-take-le, CountsEnd-none_falls, NoneFalls-same}
use Rattle.mum_port.proofs.Links.{Keeps-consumes}
use Rattle.mum_port.proofs.inbound.read.Goals as goal

pub returns-in-Err : goal.returns-in-Err
returns-in-Err g c =
    let bytes = c.in-Got.ensures.bytes in
    let some : 0 < length (take c.in-Got.count c.poll_read.new.buf) = omega (arith, bytes.0, length-take-le c.in-Got.count c.poll_read.new.buf bytes.1) in
    record {
      took = take c.in-Got.count c.poll_read.new.buf;
      lost = take c.in-Got.count c.poll_read.new.buf;
      kept_are = ap (λ kept. kept ++ take c.in-Got.count c.poll_read.new.buf) (sym c.in-Err.ensures.kept);
      consumed = bytes.2;
      written_same = c.in-Got.ensures.written;
      none_falls = NoneFalls-same _ _ c.in-Got.ensures.counts;
      shut_same = c.in-Got.ensures.is_shut;
      ended = some;
    }

pub returns-in-End : goal.returns-in-End
returns-in-End g c = record {
  took = [];
  lost = [];
  kept_are = refl;
  consumed = Keeps-consumes _ _ c.in-End.ensures.bytes.1;
  written_same = c.in-End.ensures.written;
  none_falls = CountsEnd-none_falls _ _ c.in-End.ensures.counts;
  shut_same = c.in-End.ensures.is_shut;
  ended = (refl, refl, c.in-End.ensures.counts.rose, c.in-End.ensures.bytes.0);
}
