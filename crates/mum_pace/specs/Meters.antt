-- What a meter keeps, and what its calls make of it.
use Rattle.std.specs.Prelude.{ℕ, ◌+◌, ◌-◌, ◌*◌, ◌/◌, ◌^◌, min, max, List}
use Rattle.mum_pace.specs.declared.{meter.Meter.Meter, meter.Counted.Counted, pace.Pace.Pace}
use Rattle.mum_pace.specs.declared.pace.{Pace.TheVariants.Limited, Pace.TheVariants.Unlimited, Rate.Rate}
use Rattle.mum_pace.specs.declared.used.TheConstants.{FRAME}
use Rattle.mum_pace.specs.Places.{Place, start, place_of, after_bytes, cost_in, are_of_pings, length_within}

-- Where its client is, what that has used up of its rates in thousandths of a frame, and since when time gives back.
pub record MeterState : Type 0 where
  pub pace : Pace
  pub place : Place
  pub messages : ℕ
  pub voice : ℕ
  pub milliseconds : ℕ

abbrev pub state_of : Meter → MeterState
state_of meter =
    record {
      pace = meter.pace;
      place = place_of meter.frames;
      messages = meter.messages.thousandths;
      voice = meter.voice.thousandths;
      milliseconds = meter.milliseconds;
    }

-- of a client that has sent nothing
abbrev pub new_meter : Pace → ℕ → MeterState
new_meter pace milliseconds =
    record { pace = pace; place = start; messages = 0; voice = 0; milliseconds = milliseconds }

-- ---- what has come is counted

-- what is used up with n frames more, as far as 64 bits count
abbrev pub used_with : ℕ → ℕ → ℕ
used_with used frames = min (used + frames * FRAME) (2 ^ 64 - 1)

-- the meter once these bytes have come
abbrev pub after_read : MeterState → List ℕ → MeterState
after_read meter bytes =
    record meter {
      place = after_bytes meter.place bytes;
      messages = used_with meter.messages (cost_in meter.place bytes).messages;
      voice = used_with meter.voice (cost_in meter.place bytes).voice;
    }

-- how many headers end in these bytes, and whether all of them are of short Pings
abbrev pub counted : MeterState → List ℕ → Counted
counted meter bytes =
    record { frames = (cost_in meter.place bytes).frames; is_pings = are_of_pings meter.place bytes }

-- ---- time gives back, and how much may be read

-- each millisecond gives back as many thousandths as the rate has frames a second
abbrev pub given_back : Rate → ℕ → ℕ → ℕ
given_back rate milliseconds used = used - milliseconds * rate.each_second

-- the meter at this time, by its pace
abbrev pub at_time_by : Pace → MeterState → ℕ → MeterState
at_time_by Unlimited meter time = meter
at_time_by (Limited messages voice) meter time =
    record meter {
      messages = given_back messages (time - meter.milliseconds) meter.messages;
      voice = given_back voice (time - meter.milliseconds) meter.voice;
      milliseconds = max meter.milliseconds time;
    }

abbrev pub at_time : MeterState → ℕ → MeterState
at_time meter time = at_time_by meter.pace meter time

-- for how many whole frames a rate has room where so much is used up
abbrev pub room : Rate → ℕ → ℕ
room rate used = (rate.at_once * FRAME - used) / FRAME

-- how many bytes may be read, by the pace
abbrev pub allowance_by : Pace → MeterState → ℕ
allowance_by Unlimited meter = 2 ^ 64 - 1
allowance_by (Limited messages voice) meter =
    length_within meter.place (room messages meter.messages) (room voice meter.voice)

abbrev pub allowance_of : MeterState → ℕ
allowance_of meter = allowance_by meter.pace meter
