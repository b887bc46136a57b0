use Rattle.mum_pace.proofs.Common.{◌≡◌, ◌+◌, ◌&&◌, length, are_of_pings, cost_in, place_of, after_read, state_of}
use Rattle.mum_pace.proofs.meter.Meter.count.Given as goal

-- what is left to count makes of the meter and the answer what all that was read does
abbrev pub invariant-loop-rest : goal.invariant-loop-rest
invariant-loop-rest l =
    record {
      meter : after_read (state_of l.fn.self) l.read ≡ after_read (state_of l.self) l.rest;
      frames : (cost_in (place_of l.fn.self.frames) l.read).frames ≡ l.counted.frames + (cost_in (place_of l.self.frames) l.rest).frames;
      pings : are_of_pings (place_of l.fn.self.frames) l.read ≡ (l.counted.is_pings && are_of_pings (place_of l.self.frames) l.rest);
    }

abbrev pub decreases-loop-rest : goal.decreases-loop-rest
decreases-loop-rest l = length l.rest
