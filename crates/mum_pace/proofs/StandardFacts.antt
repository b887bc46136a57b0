-- Worked paces, so that a wrong rule in the specs does not check.
use Rattle.mum_pace.proofs.Common.{◌≡◌, ℕ, ◌+◌, ◌-◌, ◌*◌, ◌^◌, true, false, List, [], ◌∷◌, ◌++◌, Some, None, refl, codes, Limited, Unlimited, MeterState, after_read, allowance_of, at_time, counted, new_meter, begins_piece, bytes_within, pieces_in, Place, start, begun, after_header, after_byte_by, after_bytes, cost_at_header, cost_by, cost_in, are_of_pings, length_within, payload_under_way, bytes_for, halves, number_of, rate_of, pace_of, usual_pace, has_waited, waits_since}

-- ---- frames without a payload: a message, one of voice, a Ping

abbrev text : List ℕ
text = 0 ∷ 11 ∷ 0 ∷ 0 ∷ 0 ∷ 0 ∷ []

abbrev voice : List ℕ
voice = 0 ∷ 1 ∷ 0 ∷ 0 ∷ 0 ∷ 0 ∷ []

abbrev ping : List ℕ
ping = 0 ∷ 3 ∷ 0 ∷ 0 ∷ 0 ∷ 0 ∷ []

-- the header of a message of 5,000 bytes, and of the longest
abbrev long_text : List ℕ
long_text = 0 ∷ 11 ∷ 0 ∷ 0 ∷ 0x13 ∷ 0x88 ∷ []

abbrev longest_text : List ℕ
longest_text = 0 ∷ 11 ∷ 0 ∷ 0x7f ∷ 0xff ∷ 0xff ∷ []

-- 20 messages a second and three at once, 200 frames of voice and two at once
abbrev meter : MeterState
meter = new_meter (Limited (record { each_second = 20; at_once = 3 }) (record { each_second = 200; at_once = 2 })) 1000

abbrev then : MeterState → List ℕ → MeterState
then old bytes = after_read old bytes

-- how many bytes a meter allows at a time
abbrev allowed : MeterState → ℕ → ℕ
allowed old time = allowance_of (at_time old time)

-- ---- no more frames than there is room for

abbrev two_texts : MeterState
two_texts = then (then meter text) text

abbrev three_texts : MeterState
three_texts = then (then two_texts ping) text

abbrev two_voices : MeterState
two_voices = then (then (at_time three_texts 1050) voice) voice

pub record AreFramesWithinRoom : Type 0 where
  pub at_first : allowed meter 1000 ≡ 12
  pub texts : allowed two_texts 1000 ≡ 6
  pub and_a_ping : allowed (then two_texts ping) 1000 ≡ 6
  pub all : allowed three_texts 1000 ≡ 0
  pub not_yet : allowed three_texts 1049 ≡ 0
  pub given_back : allowed three_texts 1050 ≡ 6
  pub no_voice : allowed two_voices 1050 ≡ 0
  pub voice_given_back : allowed two_voices 1055 ≡ 6
  pub all_given_back : allowed two_voices 9000 ≡ 12
  pub time_stays : allowed three_texts 900 ≡ 0
  pub unlimited : allowed (then (new_meter Unlimited 0) text) 0 ≡ 2 ^ 64 - 1

are_frames_within_room : AreFramesWithinRoom
unfolding begun after_header after_byte_by after_bytes cost_at_header cost_by cost_in length_within begins_piece pieces_in bytes_within
are_frames_within_room =
    record {
      at_first = refl;
      texts = refl;
      and_a_ping = refl;
      all = refl;
      not_yet = refl;
      given_back = refl;
      no_voice = refl;
      voice_given_back = refl;
      all_given_back = refl;
      time_stays = refl;
      unlimited = refl;
    }

-- ---- a payload is read to its end

-- a header in two pieces, with two bytes of its payload of 100
abbrev half : MeterState
half = then meter (0 ∷ 11 ∷ 0 ∷ [])

abbrev begun_text : MeterState
begun_text = then half (0 ∷ 0 ∷ 100 ∷ 7 ∷ 7 ∷ [])

-- the third thousand bytes of the message of 5,000 are read
abbrev third : Place
third = record { header = []; kind = 11; payload = 5000; left = 2006 }

-- in the longest message, n bytes after the 128 KiB of a short frame's payload
abbrev behind_short : ℕ → Place
behind_short more = record { header = []; kind = 11; payload = 0x7f_ffff; left = 0x7f_ffff - (0x2_0000 + more) }

pub record AreReadToTheirEnd : Type 0 where
  pub half_header : allowed half 1000 ≡ 12
  pub no_frame : (cost_in start (0 ∷ 11 ∷ 0 ∷ [])).frames ≡ 0
  pub rest : allowed begun_text 1000 ≡ 98 + 12
  pub within : allowed (then begun_text voice) 1000 ≡ 92 + 12
  pub thousands : allowed (then meter long_text) 1000 ≡ 2994
  pub no_room : length_within third 0 2 ≡ 0
  pub a_thousand : length_within third 1 2 ≡ 1000
  pub the_rest : length_within third 3 2 ≡ 2006
  pub the_rest_and_more : length_within third 4 2 ≡ 2006 + 6
  pub next_piece : begins_piece 3000 ≡ true
  pub within_a_piece : begins_piece 3001 ≡ false
  pub behind_short_frames : begins_piece (0x2_0000 + 0x2000) ≡ true
  pub no_thousand_there : begins_piece 132000 ≡ false
  pub longest : allowed (then (new_meter usual_pace 0) longest_text) 0 ≡ 0x2_0000 + 68 * 0x2000 - 6
  pub a_short_length_later : length_within (behind_short 0) 67 400 ≡ 68 * 0x2000 - 6
  pub given_back_there : length_within (behind_short 0) 68 400 ≡ 69 * 0x2000 - 6
  pub a_long_piece_later : length_within (behind_short 0x2000) 67 400 ≡ 68 * 0x2000 - 6
  pub voice_is_free : (cost_in (record { header = []; kind = 1; payload = 5000; left = 5000 }) voice).messages ≡ 0

are_read_to_their_end : AreReadToTheirEnd
unfolding begun after_header after_byte_by after_bytes cost_at_header cost_by cost_in length_within begins_piece pieces_in bytes_within
are_read_to_their_end =
    record {
      half_header = refl;
      no_frame = refl;
      rest = refl;
      within = refl;
      thousands = refl;
      no_room = refl;
      a_thousand = refl;
      the_rest = refl;
      the_rest_and_more = refl;
      next_piece = refl;
      within_a_piece = refl;
      behind_short_frames = refl;
      no_thousand_there = refl;
      longest = refl;
      a_short_length_later = refl;
      given_back_there = refl;
      a_long_piece_later = refl;
      voice_is_free = refl;
    }

-- ---- Pings

-- a Ping of ten bytes, of which two have come
abbrev long_ping : List ℕ
long_ping = 0 ∷ 3 ∷ 0 ∷ 0 ∷ 0 ∷ 10 ∷ 7 ∷ 7 ∷ []

abbrev behind : List ℕ → Place
behind bytes = after_bytes start bytes

pub record ArePings : Type 0 where
  pub a_ping : are_of_pings start ping ≡ true
  pub two_parts : are_of_pings start long_ping ≡ true
  pub the_rest : are_of_pings (behind long_ping) (7 ∷ 7 ∷ 7 ∷ 7 ∷ 7 ∷ 7 ∷ 7 ∷ 7 ∷ []) ≡ true
  pub a_frame_of_voice : are_of_pings start voice ≡ false
  pub a_ping_again : are_of_pings (behind voice) ping ≡ true
  pub half_a_ping : are_of_pings (behind voice) (0 ∷ 3 ∷ []) ≡ false
  pub a_message : are_of_pings start long_text ≡ false
  pub both : are_of_pings (behind (0 ∷ 11 ∷ 0 ∷ 0 ∷ 0 ∷ 1 ∷ [])) (7 ∷ ping) ≡ false
  pub long : are_of_pings start (0 ∷ 3 ∷ 0xff ∷ 0xff ∷ 0xff ∷ 0xff ∷ []) ≡ false
  pub at_the_limit : are_of_pings start (0 ∷ 3 ∷ 0 ∷ 2 ∷ 0 ∷ 0 ∷ []) ≡ true
  pub above_it : are_of_pings start (0 ∷ 3 ∷ 0 ∷ 2 ∷ 0 ∷ 1 ∷ []) ≡ false
  pub nothing : are_of_pings (behind voice) [] ≡ true
  pub frames : counted meter (text ++ voice ++ ping) ≡ record { frames = 3; is_pings = false }
  pub no_payload : payload_under_way (behind (0 ∷ 11 ∷ 0 ∷ 0 ∷ 0x13 ∷ [])) ≡ 0
  pub a_payload : payload_under_way (behind (long_text ++ 7 ∷ [])) ≡ 5000
  pub done : payload_under_way (behind (0 ∷ 11 ∷ 0 ∷ 0 ∷ 0 ∷ 1 ∷ 7 ∷ [])) ≡ 0

are_pings : ArePings
unfolding begun after_header after_byte_by after_bytes cost_at_header cost_by cost_in are_of_pings begins_piece
are_pings =
    record {
      a_ping = refl;
      two_parts = refl;
      the_rest = refl;
      a_frame_of_voice = refl;
      a_ping_again = refl;
      half_a_ping = refl;
      a_message = refl;
      both = refl;
      long = refl;
      at_the_limit = refl;
      above_it = refl;
      nothing = refl;
      frames = refl;
      no_payload = refl;
      a_payload = refl;
      done = refl;
    }

-- ---- texts

pub record ArePaces : Type 0 where
  pub usual : pace_of (codes "20/200,200/400") ≡ Some usual_pace
  pub none : pace_of (codes "none") ≡ Some Unlimited
  pub plus : pace_of (codes "+20/200,200/0400") ≡ Some usual_pace
  pub greatest : number_of (codes "4294967295") ≡ Some 4294967295
  pub too_great : number_of (codes "4294967296") ≡ None
  pub empty : pace_of [] ≡ None
  pub one_rate : pace_of (codes "20/200") ≡ None
  pub first_zero : pace_of (codes "0/1,1/1") ≡ None
  pub second_zero : pace_of (codes "1/0,1/1") ≡ None
  pub third_zero : pace_of (codes "1/1,0/1") ≡ None
  pub fourth_zero : pace_of (codes "1/1,1/0") ≡ None
  pub three_rates : pace_of (codes "1/1,1/1,1/1") ≡ None
  pub no_digit : pace_of (codes "a/1,1/1") ≡ None
  pub no_slash : pace_of (codes "1,1") ≡ None
  pub a_space : pace_of (codes "1/1, 1/1") ≡ None

are_paces : ArePaces
unfolding halves number_of rate_of pace_of
are_paces =
    record {
      usual = refl;
      none = refl;
      plus = refl;
      greatest = refl;
      too_great = refl;
      empty = refl;
      one_rate = refl;
      first_zero = refl;
      second_zero = refl;
      third_zero = refl;
      fourth_zero = refl;
      three_rates = refl;
      no_digit = refl;
      no_slash = refl;
      a_space = refl;
    }

-- ---- clients that have hung up, and long frames

pub record AreWaits : Type 0 where
  pub has_not : has_waited None false 10000 ≡ false
  pub stays : waits_since None false 10000 ≡ None
  pub begins : has_waited None true 90000 ≡ false
  pub since : waits_since None true 90000 ≡ Some 90000
  pub not_yet : has_waited (Some 90000) true 99999 ≡ false
  pub long_enough : has_waited (Some 90000) true 100000 ≡ true
  pub at_the_limit : bytes_for 0x2_0000 ≡ 0
  pub above_it : bytes_for 0x2_0001 ≡ 0x2_0001
  pub all_of_it : bytes_for 0xFFFF_FFFF ≡ 0x400_0000

are_waits : AreWaits
are_waits =
    record {
      has_not = refl;
      stays = refl;
      begins = refl;
      since = refl;
      not_yet = refl;
      long_enough = refl;
      at_the_limit = refl;
      above_it = refl;
      all_of_it = refl;
    }
