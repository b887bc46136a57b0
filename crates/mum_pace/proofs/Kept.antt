-- Pace is kept, somebody is read, and in the long run the rates hold.
use Rattle.mum_pace.proofs.Common.{◌≡◌, ℕ, ◌+◌, ◌-◌, ◌*◌, ◌/◌, ◌^◌, ◌<◌, ◌≤◌, Bool, true, false, List, [], ◌∷◌, length, max, mul-le-mul_right, sym, ap, subst, ◌∙◌, arith, inl, inr, if◌then◌else◌, cases_lt, Cost, Pace, Limited, Unlimited, Rate, AreWithin, IsNotZero, KeepAllowances, KeepsPace, Read, all_bytes, asked_and_read, last_time, MeterState, allowance_by, allowance_of, at_time, given_back, room, used_with, begins_piece, pieces_in, Place, cost_in, is_message, length_within, passed, pieces_left, pieces_to_come}
use Rattle.mum_pace.proofs.{Counting.state, OnePiece.few_is_within, OnePiece.pieces_in-next, Reach.IsPlace-after_bytes, Reach.no_pieces, Reach.room_within, Reach.within_frames, Reach.within_pieces, Runs.cost_in-append, Runs.pieces-none}

-- ---- pace is kept

-- what finds room is no more than may be used at once
pub at_most : (at_once used frames : ℕ) → used ≤ at_once * 1000 → frames ≤ (at_once * 1000 - used) / 1000 → used + frames * 1000 ≤ at_once * 1000
at_most at_once used frames le few = omega arith

-- the frames of a read are within the room that its time leaves
module _ (messages voice : Rate) (milliseconds : ℕ) (place : Place) (of_messages of_voice time : ℕ) (bytes : List ℕ)
    (keeps : KeepsPace (state (Limited messages voice) milliseconds place of_messages of_voice))
    (le : length bytes ≤ allowance_of (at_time (state (Limited messages voice) milliseconds place of_messages of_voice) time)) where
  abbrev pub messages_left : ℕ
  messages_left = given_back messages (time - milliseconds) of_messages

  abbrev pub voice_left : ℕ
  voice_left = given_back voice (time - milliseconds) of_voice

  fits : ((cost_in place bytes).messages ≤ room messages messages_left) × ((cost_in place bytes).voice ≤ room voice voice_left)
  fits = room_within place bytes (room messages messages_left) (room voice voice_left) keeps.place le

  pub messages_fit : messages_left + (cost_in place bytes).messages * 1000 ≤ messages.at_once * 1000
  messages_fit = at_most messages.at_once messages_left (cost_in place bytes).messages (omega (arith, keeps.used.0)) fits.0

  pub voice_fits : voice_left + (cost_in place bytes).voice * 1000 ≤ voice.at_once * 1000
  voice_fits = at_most voice.at_once voice_left (cost_in place bytes).voice (omega (arith, keeps.used.1)) fits.1

  pub kept_limited : KeepsPace (asked_and_read (state (Limited messages voice) milliseconds place of_messages of_voice) time bytes)
  kept_limited =
      record {
        place = IsPlace-after_bytes place bytes keeps.place;
        used = (omega (arith, messages_fit), omega (arith, voice_fits));
      }

kept_by : (pace : Pace) (milliseconds : ℕ) (place : Place) (of_messages of_voice time : ℕ) (bytes : List ℕ)
    → KeepsPace (state pace milliseconds place of_messages of_voice)
    → length bytes ≤ allowance_of (at_time (state pace milliseconds place of_messages of_voice) time)
    → KeepsPace (asked_and_read (state pace milliseconds place of_messages of_voice) time bytes)
kept_by Unlimited milliseconds place of_messages of_voice time bytes keeps le =
    record { place = IsPlace-after_bytes place bytes keeps.place; used = tt }
kept_by (Limited messages voice) milliseconds place of_messages of_voice time bytes keeps le =
    kept_limited messages voice milliseconds place of_messages of_voice time bytes keeps le

pub kept : (meter : MeterState) (time : ℕ) (bytes : List ℕ) → KeepsPace meter → length bytes ≤ allowance_of (at_time meter time)
    → KeepsPace (asked_and_read meter time bytes)
kept meter time bytes keeps le = kept_by meter.pace meter.milliseconds meter.place meter.messages meter.voice time bytes keeps le

-- ---- somebody is read

one_at_most : (b : Bool) → (if b then 1 else 0) ≤ 1
one_at_most true = omega arith
one_at_most false = omega arith

some_within : (place : Place) (messages voice : ℕ) → 0 < messages → 0 < voice → 0 < length_within place messages voice
some_within place messages voice some any =
    elim (cases_lt messages (pieces_left place)) [
      | inl lt ↦
          let p : ℕ = passed place in
          let within = few_is_within (p + 1) (pieces_in p + messages) (omega (arith, pieces_in-next p, one_at_most (begins_piece p))) in
          omega (arith, within_pieces place messages voice lt)
      | inr le ↦ elim (cases_lt 0 place.left) [
        | inl left ↦ omega (arith, within_frames place messages voice le)
        | inr none ↦
            let zero : place.left ≡ 0 = omega arith in
            let no_more : pieces_left place ≡ 0 = ap (pieces_to_come place) zero ∙ pieces-none place in
            omega (arith, within_frames place messages voice le)
      ]
    ]

pub some_is_read : (meter : MeterState) (messages voice : Rate) → meter.pace ≡ Limited messages voice
    → 0 < room messages meter.messages → 0 < room voice meter.voice → 0 < allowance_of meter
some_is_read meter messages voice e some any =
    subst (λ (n : ℕ). 0 < n) (sym (ap (λ (p : Pace). allowance_by p meter) e)) (some_within meter.place (room messages meter.messages) (room voice meter.voice) some any)

-- a second gives back a frame
room_again : (rate : Rate) (used : ℕ) → 0 < rate.each_second → 0 < rate.at_once → used ≤ rate.at_once * 1000 → 0 < room rate (given_back rate 1000 used)
room_again rate used each once le = omega arith

read_again : (messages voice : Rate) (milliseconds : ℕ) (place : Place) (of_messages of_voice : ℕ) → IsNotZero messages → IsNotZero voice
    → KeepsPace (state (Limited messages voice) milliseconds place of_messages of_voice)
    → 0 < allowance_of (at_time (state (Limited messages voice) milliseconds place of_messages of_voice) (milliseconds + 1000))
read_again messages voice milliseconds place of_messages of_voice some any keeps =
    let second : milliseconds + 1000 - milliseconds ≡ 1000 = omega arith in
    let m = subst (λ (n : ℕ). 0 < room messages (given_back messages n of_messages)) (sym second) (room_again messages of_messages some.0 some.1 keeps.used.0) in
    let v = subst (λ (n : ℕ). 0 < room voice (given_back voice n of_voice)) (sym second) (room_again voice of_voice any.0 any.1 keeps.used.1) in
    some_within place (room messages (given_back messages (milliseconds + 1000 - milliseconds) of_messages))
    (room voice (given_back voice (milliseconds + 1000 - milliseconds) of_voice)) m v

pub some_is_read_again : (meter : MeterState) (messages voice : Rate) → KeepsPace meter → meter.pace ≡ Limited messages voice
    → IsNotZero messages → IsNotZero voice → 0 < allowance_of (at_time meter (meter.milliseconds + 1000))
some_is_read_again meter messages voice keeps e some any =
    subst (λ (p : Pace). 0 < allowance_of (at_time (state p meter.milliseconds meter.place meter.messages meter.voice) (meter.milliseconds + 1000))) (sym e)
    (read_again messages voice meter.milliseconds meter.place meter.messages meter.voice some any
    (subst (λ (p : Pace). KeepsPace (state p meter.milliseconds meter.place meter.messages meter.voice)) e keeps))

pub payload_is_read : (meter : MeterState) (messages voice : Rate) → meter.pace ≡ Limited messages voice
    → is_message meter.place.kind ≡ false → meter.place.left ≤ allowance_of meter
payload_is_read meter messages voice e other =
    let none : pieces_left meter.place ≡ 0 = no_pieces meter.place meter.place.left other in
    subst (λ (n : ℕ). meter.place.left ≤ n) (sym (ap (λ (p : Pace). allowance_by p meter) e))
    (omega (arith, within_frames meter.place (room messages meter.messages) (room voice meter.voice) (omega arith)))

-- ---- in the long run

times_joined : (some more all each : ℕ) → some + more ≡ all → some * each + more * each ≡ all * each
times_joined some more all each e = omega (arith, ap (λ (n : ℕ). n * each) e)

-- the time that a read and those after it have to give back
pub times : (start here last each : ℕ) → here ≤ last → (here - start) * each + (last - max start here) * each ≡ (last - start) * each
times start here last each le = times_joined (here - start) (last - max start here) (last - start) each (omega arith)

-- what is used up at the end is no less than what all reads take, without what time gave back
pub one_more : (used each at_once start here last few more : ℕ) → here ≤ last → at_once < 2 ^ 32
    → used - (here - start) * each + few * 1000 ≤ at_once * 1000
    → used_with (used - (here - start) * each) few + more * 1000 ≤ at_once * 1000 + (last - max start here) * each
    → used + (few + more) * 1000 ≤ at_once * 1000 + (last - start) * each
one_more used each at_once start here last few more le small fit behind =
    let e = times start here last each le in
    omega arith

first_of_all : (used each at_once start here last few more : ℕ) → at_once < 2 ^ 32
    → used - (here - start) * each + few * 1000 ≤ at_once * 1000
    → used_with (used - (here - start) * each) few + more * 1000 ≤ at_once * 1000 + (last - max start here) * each
    → (few + more) * 1000 ≤ at_once * 1000 + (last - here) * each
first_of_all used each at_once start here last few more small fit behind =
    let less = mul-le-mul_right each (shorter start here last) in
    omega arith
  where
    shorter : (start here last : ℕ) → last - max start here ≤ last - here
    shorter start here last = omega arith

no_earlier : (time : ℕ) (meter : MeterState) (reads : List Read) → KeepAllowances meter time reads → time ≤ last_time time reads
no_earlier time meter [] keep = omega arith
no_earlier time meter (read ∷ reads) keep =
    omega (arith, keep.0, no_earlier read.time (asked_and_read meter read.time read.bytes) reads keep.2)

-- so much is used up, and n frames come in a time: they are no more than a rate allows at once and gives back
abbrev pub IsGivenBack : Rate → ℕ → ℕ → ℕ → Type 0
IsGivenBack rate used milliseconds frames = used + frames * 1000 ≤ rate.at_once * 1000 + milliseconds * rate.each_second

module _ (messages voice : Rate) (few_messages : messages.at_once < 2 ^ 32) (little_voice : voice.at_once < 2 ^ 32) where
  all_reads : (reads : List Read) (milliseconds : ℕ) (place : Place) (of_messages of_voice earliest : ℕ)
      → KeepsPace (state (Limited messages voice) milliseconds place of_messages of_voice)
      → KeepAllowances (state (Limited messages voice) milliseconds place of_messages of_voice) earliest reads
      → IsGivenBack messages of_messages (last_time earliest reads - milliseconds) (cost_in place (all_bytes reads)).messages
      × IsGivenBack voice of_voice (last_time earliest reads - milliseconds) (cost_in place (all_bytes reads)).voice
  unfolding cost_in
  all_reads [] milliseconds place of_messages of_voice earliest keeps keep =
      (omega (arith, keeps.used.0), omega (arith, keeps.used.1))
  all_reads (read ∷ reads) milliseconds place of_messages of_voice earliest keeps keep =
      let meter : MeterState = state (Limited messages voice) milliseconds place of_messages of_voice in
      let next : MeterState = asked_and_read meter read.time read.bytes in
      let last : ℕ = last_time read.time reads in
      let now_kept = kept_limited messages voice milliseconds place of_messages of_voice read.time read.bytes keeps keep.1 in
      let more = all_reads reads next.milliseconds next.place next.messages next.voice read.time now_kept keep.2 in
      let later = no_earlier read.time next reads keep.2 in
      let m = messages_fit messages voice milliseconds place of_messages of_voice read.time read.bytes keeps keep.1 in
      let v = voice_fits messages voice milliseconds place of_messages of_voice read.time read.bytes keeps keep.1 in
      let cost = cost_in-append place read.bytes (all_bytes reads) in (
        subst (λ (c : Cost). IsGivenBack messages of_messages (last - milliseconds) c.messages) (sym cost)
            (one_more of_messages messages.each_second messages.at_once milliseconds read.time last (cost_in place read.bytes).messages
            (cost_in next.place (all_bytes reads)).messages later few_messages m more.0),
        subst (λ (c : Cost). IsGivenBack voice of_voice (last - milliseconds) c.voice) (sym cost)
            (one_more of_voice voice.each_second voice.at_once milliseconds read.time last (cost_in place read.bytes).voice
            (cost_in next.place (all_bytes reads)).voice later little_voice v more.1),
      )

  from_the_first : (read : Read) (reads : List Read) (milliseconds : ℕ) (place : Place) (of_messages of_voice : ℕ)
      → KeepsPace (state (Limited messages voice) milliseconds place of_messages of_voice)
      → KeepAllowances (state (Limited messages voice) milliseconds place of_messages of_voice) read.time (read ∷ reads)
      → AreWithin messages (last_time read.time reads - read.time) (cost_in place (all_bytes (read ∷ reads))).messages
      × AreWithin voice (last_time read.time reads - read.time) (cost_in place (all_bytes (read ∷ reads))).voice
  from_the_first read reads milliseconds place of_messages of_voice keeps keep =
      let meter : MeterState = state (Limited messages voice) milliseconds place of_messages of_voice in
      let next : MeterState = asked_and_read meter read.time read.bytes in
      let last : ℕ = last_time read.time reads in
      let now_kept = kept_limited messages voice milliseconds place of_messages of_voice read.time read.bytes keeps keep.1 in
      let more = all_reads reads next.milliseconds next.place next.messages next.voice read.time now_kept keep.2 in
      let m = messages_fit messages voice milliseconds place of_messages of_voice read.time read.bytes keeps keep.1 in
      let v = voice_fits messages voice milliseconds place of_messages of_voice read.time read.bytes keeps keep.1 in
      let cost = cost_in-append place read.bytes (all_bytes reads) in (
        subst (λ (c : Cost). AreWithin messages (last - read.time) c.messages) (sym cost)
            (first_of_all of_messages messages.each_second messages.at_once milliseconds read.time last (cost_in place read.bytes).messages
            (cost_in next.place (all_bytes reads)).messages few_messages m more.0),
        subst (λ (c : Cost). AreWithin voice (last - read.time) c.voice) (sym cost)
            (first_of_all of_voice voice.each_second voice.at_once milliseconds read.time last (cost_in place read.bytes).voice
            (cost_in next.place (all_bytes reads)).voice little_voice v more.1),
      )

pub in_the_long_run : (meter : MeterState) (messages voice : Rate) (read : Read) (reads : List Read) → messages.at_once < 2 ^ 32 → voice.at_once < 2 ^ 32
    → KeepsPace meter → meter.pace ≡ Limited messages voice → KeepAllowances meter read.time (read ∷ reads)
    → AreWithin messages (last_time read.time reads - read.time) (cost_in meter.place (all_bytes (read ∷ reads))).messages
    × AreWithin voice (last_time read.time reads - read.time) (cost_in meter.place (all_bytes (read ∷ reads))).voice
in_the_long_run meter messages voice read reads few little keeps e keep =
    from_the_first messages voice few little read reads meter.milliseconds meter.place meter.messages meter.voice
    (subst (λ (p : Pace). KeepsPace (state p meter.milliseconds meter.place meter.messages meter.voice)) e keeps)
    (subst (λ (p : Pace). KeepAllowances (state p meter.milliseconds meter.place meter.messages meter.voice) read.time (read ∷ reads)) e keep)
