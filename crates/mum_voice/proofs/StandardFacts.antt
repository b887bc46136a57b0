-- Worked spellings and packets, after the sections "Variable length integer encoding" and "Voice data" of the Mumble
-- protocol documentation, so that a wrong rule in the specs does not check.
use Rattle.mum_voice.proofs.Common.{String, ◌≡◌, ℕ, ◌+◌, ◌-◌, ◌^◌, Bool, true, false, List, [], ◌++◌, length, replicate, Some, None, Result, Ok, Err, hex, BadVoice, CELT_ALPHA, SPEEX, CELT_BETA, OPUS, inverse, number_at, word_at, shortest_number, shortest_word, Parts, opus_len, segments_len_within, segments_len, audio_len, packet, copy, bad_length, bad_type, bad_varint, bad_audio}

-- ---- varints: they encode 64-bit words, and the inverse of 4 is -5

-- these bytes are the shortest encoding of the word, and are read again as the word
abbrev IsShortest : ℕ → List ℕ → Type 0
IsShortest word bytes = (shortest_word word ≡ bytes) × (word_at bytes ≡ Some (word, length bytes))

-- the least and the greatest word of each length
pub record AreShortest : Type 0 where
  pub zero : IsShortest 0 (hex "00")
  pub greatest_of_one_byte : IsShortest 127 (hex "7f")
  pub least_of_two : IsShortest 128 (hex "8080")
  pub greatest_of_two : IsShortest 16383 (hex "bfff")
  pub least_of_three : IsShortest 16384 (hex "c04000")
  pub greatest_of_three : IsShortest 2097151 (hex "dfffff")
  pub least_of_four : IsShortest 2097152 (hex "e0200000")
  pub greatest_of_four : IsShortest 268435455 (hex "efffffff")
  pub least_of_five : IsShortest 268435456 (hex "f010000000")
  pub greatest_of_five : IsShortest 4294967295 (hex "f0ffffffff")
  pub least_of_nine : IsShortest 4294967296 (hex "f40000000100000000")
  pub top_bit_alone : IsShortest (2 ^ 63) (hex "f48000000000000000")

pub shortest : AreShortest
unfolding number_at word_at shortest_number shortest_word
shortest = search

-- inverses are written as such where that is shorter
pub record AreInverses : Type 0 where
  pub minus_five : inverse 4 ≡ 2 ^ 64 - 5
  pub zero_inverted : IsShortest (inverse 0) (hex "fc")
  pub one_inverted : IsShortest (inverse 1) (hex "fd")
  pub two_inverted : IsShortest (inverse 2) (hex "fe")
  pub three_inverted : IsShortest (inverse 3) (hex "ff")
  pub four_inverted : IsShortest (inverse 4) (hex "f804")
  pub five_inverted : IsShortest (inverse 5) (hex "f805")
  pub greatest_of_two_bytes : IsShortest (inverse 127) (hex "f87f")
  pub least_of_three : IsShortest (inverse 128) (hex "f88080")
  pub greatest_of_three : IsShortest (inverse 16383) (hex "f8bfff")
  pub least_of_four : IsShortest (inverse 16384) (hex "f8c04000")
  pub greatest_of_four : IsShortest (inverse 2097151) (hex "f8dfffff")
  pub least_of_five : IsShortest (inverse 2097152) (hex "f8e0200000")
  pub greatest_of_five : IsShortest (inverse 268435455) (hex "f8efffffff")
  pub least_of_six : IsShortest (inverse 268435456) (hex "f8f010000000")
  pub greatest_of_six : IsShortest (inverse 4294967295) (hex "f8f0ffffffff")
  pub it_would_take_ten : IsShortest (inverse 4294967296) (hex "f4fffffffeffffffff")

pub inverses : AreInverses
unfolding number_at word_at shortest_number shortest_word
inverses = search

-- longer spellings are read too
pub record AreLonger : Type 0 where
  pub zero_in_two_bytes : word_at (hex "8000") ≡ Some (0, 2)
  pub one_in_two : word_at (hex "8001") ≡ Some (1, 2)
  pub zero_in_three : word_at (hex "c00000") ≡ Some (0, 3)
  pub zero_in_four : word_at (hex "e0000000") ≡ Some (0, 4)
  pub zero_in_five : word_at (hex "f000000000") ≡ Some (0, 5)
  pub zero_in_nine : word_at (hex "f40000000000000000") ≡ Some (0, 9)
  pub each_byte_at_its_place : word_at (hex "f40102030405060708") ≡ Some (0x0102030405060708, 9)
  pub all_bits : word_at (hex "f4ffffffffffffffff") ≡ Some (inverse 0, 9)
  pub an_inverse_in_two : word_at (hex "f800") ≡ Some (inverse 0, 2)
  pub an_inverse_that_one_would_spell : word_at (hex "f803") ≡ Some (inverse 3, 2)
  pub an_inverse_in_ten : word_at (hex "f8f40000000100000000") ≡ Some (inverse 4294967296, 10)
  pub the_greatest_inverted : word_at (hex "f8f7ffffffffffffffff") ≡ Some (0, 10)

pub longer : AreLonger
unfolding number_at word_at shortest_number shortest_word
longer = search

-- the bits x of 111100xx, 111101xx and 111110xx are ignored
pub record AreIgnored : Type 0 where
  pub one_in_five_bytes : word_at (hex "f110000000") ≡ Some (268435456, 5)
  pub one_of_a_small_number : word_at (hex "f100000001") ≡ Some (1, 5)
  pub three_in_five : word_at (hex "f3ffffffff") ≡ Some (4294967295, 5)
  pub one_in_nine : word_at (hex "f50102030405060708") ≡ Some (0x0102030405060708, 9)
  pub three_in_nine : word_at (hex "f7ffffffffffffffff") ≡ Some (inverse 0, 9)
  pub one_in_an_inverse : word_at (hex "f98080") ≡ Some (inverse 128, 3)
  pub two_in_an_inverse : word_at (hex "fabfff") ≡ Some (inverse 16383, 3)
  pub three_in_an_inverse : word_at (hex "fb7f") ≡ Some (inverse 127, 2)
  pub two_in_what_is_inverted : word_at (hex "f8f2ffffffff") ≡ Some (inverse 4294967295, 6)

pub ignored : AreIgnored
unfolding number_at word_at shortest_number shortest_word
ignored = search

-- what is inverted is no inverse, and no byte is missing
pub record AreNone : Type 0 where
  pub no_byte : word_at [] ≡ None
  pub a_small_inverse_inverted : word_at (hex "f8fc") ≡ None
  pub the_greatest_of_them_inverted : word_at (hex "f8ff") ≡ None
  pub an_inverse_inverted : word_at (hex "f8f800") ≡ None
  pub with_ignored_bits : word_at (hex "fbfb04") ≡ None
  pub three_times : word_at (hex "faf9f804") ≡ None
  pub nothing_inverted : word_at (hex "f8") ≡ None
  pub one_byte_of_two : word_at (hex "80") ≡ None
  pub eight_of_nine : word_at (hex "f400000000000000") ≡ None

pub none : AreNone
unfolding number_at word_at shortest_number shortest_word
none = search

-- bytes may follow
pub record AreFollowed : Type 0 where
  pub behind_one_byte : word_at (hex "0080") ≡ Some (0, 1)
  pub behind_two : word_at (hex "8001ff") ≡ Some (1, 2)
  pub behind_an_inverse : word_at (hex "f804f8") ≡ Some (inverse 4, 2)
  pub behind_a_small_inverse : word_at (hex "ffff") ≡ Some (inverse 3, 1)

pub followed : AreFollowed
unfolding number_at word_at shortest_number shortest_word
followed = search

-- ---- packets: the kind and the target, the sequence, the audio with its headers, and the position

abbrev a_packet : ℕ → ℕ → String → String → String → Result Parts BadVoice
a_packet kind target sequence audio position = Ok (record {
  kind = kind;
  target = target;
  sequence = hex sequence;
  audio = hex audio;
  position = hex position;
})

-- the low 13 bits of a number are the length of the sound, and bit 13 ends a transmission
pub record AreOpus : Type 0 where
  pub no_sound : packet (hex "800000") ≡ a_packet OPUS 0 "00" "00" ""
  pub three_bytes : packet (hex "800103aabbcc") ≡ a_packet OPUS 0 "01" "03aabbcc" ""
  pub its_end_to_oneself : packet (hex "9f05a000") ≡ a_packet OPUS 31 "05" "a000" ""
  pub its_end_with_sound : packet (hex "8105a001aabb") ≡ a_packet OPUS 1 "05" "a001aa" "bb"
  pub a_longer_number : packet (hex "80058002aabbccdd") ≡ a_packet OPUS 0 "05" "8002aabb" "ccdd"
  pub ignored_bits : packet (hex "8005f300000001aa") ≡ a_packet OPUS 0 "05" "f300000001aa" ""
  pub inverted_number : packet (hex "8005f8f7ffffffffffffffffaa") ≡ a_packet OPUS 0 "05" "f8f7ffffffffffffffff" "aa"
  pub with_a_position : packet (hex "8002a003aabbcc000000000000000000000000") ≡ a_packet OPUS 0 "02" "a003aabbcc" "000000000000000000000000"

pub opus : AreOpus
unfolding number_at word_at opus_len segments_len_within segments_len audio_len packet
opus = search

-- a sequence stays as it came
pub record AreSequences : Type 0 where
  pub two_bytes_for_one : packet (hex "9e80050001") ≡ a_packet OPUS 30 "8005" "00" "01"
  pub inverted : packet (hex "80f90500") ≡ a_packet OPUS 0 "f905" "00" ""
  pub a_small_inverse : packet (hex "80ff00") ≡ a_packet OPUS 0 "ff" "00" ""
  pub nine_bytes : packet (hex "80f4010203040506070800") ≡ a_packet OPUS 0 "f40102030405060708" "00" ""

pub sequences : AreSequences
unfolding number_at word_at opus_len segments_len_within segments_len audio_len packet
sequences = search

-- a segment's header is its length and, at the top, whether another follows
pub record AreSegments : Type 0 where
  pub one_empty : packet (hex "000100") ≡ a_packet CELT_ALPHA 0 "01" "00" ""
  pub one_and_a_position : packet (hex "010103aabbccdd") ≡ a_packet CELT_ALPHA 1 "01" "03aabbcc" "dd"
  pub two : packet (hex "1f0182aabb01cc") ≡ a_packet CELT_ALPHA 31 "01" "82aabb01cc" ""
  pub four : packet (hex "400781aa81bb81cc00ddee") ≡ a_packet SPEEX 0 "07" "81aa81bb81cc00" "ddee"
  pub five_empty : packet (hex "60078080808000") ≡ a_packet CELT_BETA 0 "07" "8080808000" ""
  pub an_empty_one_first : packet (hex "7f078002aabb80") ≡ a_packet CELT_BETA 31 "07" "8002aabb" "80"

pub segments : AreSegments
unfolding number_at word_at opus_len segments_len_within segments_len audio_len packet
segments = search

-- a kind that is not known, before the sequence is looked at
pub record AreUnknown : Type 0 where
  pub kind_1 : packet (hex "200100") ≡ Err bad_type
  pub kind_5 : packet (hex "a00100") ≡ Err bad_type
  pub kind_6 : packet (hex "c00100") ≡ Err bad_type
  pub kind_7 : packet (hex "ff0100") ≡ Err bad_type
  pub no_sequence_either : packet (hex "20") ≡ Err bad_type

pub unknown : AreUnknown
unfolding number_at word_at opus_len segments_len_within segments_len audio_len packet
unknown = search

-- no sequence
pub record AreUnnumbered : Type 0 where
  pub of_opus : packet (hex "80") ≡ Err bad_varint
  pub of_celt : packet (hex "00") ≡ Err bad_varint
  pub cut : packet (hex "80c000") ≡ Err bad_varint
  pub inverted_twice : packet (hex "80f8fc00") ≡ Err bad_varint
  pub of_five_bytes_cut : packet (hex "80f0000000") ≡ Err bad_varint

pub unnumbered : AreUnnumbered
unfolding number_at word_at opus_len segments_len_within segments_len audio_len packet
unnumbered = search

-- audio that runs past the end
pub record AreSilent : Type 0 where
  pub no_audio : packet (hex "8001") ≡ Err bad_audio
  pub a_cut_number : packet (hex "800180") ≡ Err bad_audio
  pub a_number_inverted_twice : packet (hex "8001f8f800") ≡ Err bad_audio
  pub one_byte_too_few : packet (hex "800101") ≡ Err bad_audio
  pub four_too_few : packet (hex "800105aa") ≡ Err bad_audio
  pub at_the_end_of_a_transmission : packet (hex "8001a001") ≡ Err bad_audio
  pub the_greatest_length : packet (hex "80019fff00") ≡ Err bad_audio
  pub the_same_at_the_end : packet (hex "8001bfff00") ≡ Err bad_audio
  pub above_14_bits : packet (hex "8001c04000") ≡ Err bad_audio
  pub of_64_bits : packet (hex "8001fc") ≡ Err bad_audio
  pub no_segment : packet (hex "6001") ≡ Err bad_audio
  pub a_segment_without_its_byte : packet (hex "000101") ≡ Err bad_audio
  pub a_segment_too_long : packet (hex "600105aa") ≡ Err bad_audio
  pub no_second_segment : packet (hex "400180") ≡ Err bad_audio
  pub none_behind_a_byte : packet (hex "000181aa") ≡ Err bad_audio
  pub none_behind_two : packet (hex "400182aabb") ≡ Err bad_audio
  pub the_second_too_long : packet (hex "400181aa03bbcc") ≡ Err bad_audio
  pub no_fourth_segment : packet (hex "000181aa81bb81cc") ≡ Err bad_audio

pub silent : AreSilent
unfolding number_at word_at opus_len segments_len_within segments_len audio_len packet
silent = search

-- ---- copies

-- the copy of what was parsed, and no byte of what is no packet
abbrev copied : Result Parts BadVoice → ℕ → ℕ → Bool → List ℕ
copied (Ok p) session context with_position = copy p session context with_position
copied (Err fault) session context with_position = []

-- a packet of 1,020 bytes, and of how many others
abbrev a_long_packet : ℕ → List ℕ
a_long_packet more = hex "800183f8" ++ replicate (1016 + more) 0xAA

-- a packet has 1 to 1,020 bytes, and its copy up to five more
pub record AreLimits : Type 0 where
  pub no_byte : packet [] ≡ Err bad_length
  pub as_many_as_may_be : packet (a_long_packet 0) ≡ Ok (record { kind = OPUS; target = 0; sequence = hex "01"; audio = hex "83f8" ++ replicate 1016 0xAA; position = [] })
  pub one_more : packet (a_long_packet 1) ≡ Err bad_length
  pub the_longest_copy : copied (packet (a_long_packet 0)) 4294967295 0 true ≡ hex "80f0ffffffff0183f8" ++ replicate 1016 0xAA

pub limits : AreLimits
unfolding number_at word_at opus_len segments_len_within segments_len audio_len packet shortest_number shortest_word
limits = search

-- the sender's session goes in, and the context in place of the target: talk, a whisper to a channel, a direct
-- -- whisper, and what only a listener hears
pub record AreCopies : Type 0 where
  pub of_session_1 : copied (packet (hex "800200")) 1 0 true ≡ hex "80010200"
  pub of_session_127 : copied (packet (hex "800200")) 127 0 true ≡ hex "807f0200"
  pub of_session_128 : copied (packet (hex "800200")) 128 0 true ≡ hex "8080800200"
  pub talk : copied (packet (hex "5f800581aa01bbcc")) 128 0 true ≡ hex "408080800581aa01bbcc"
  pub to_a_channel : copied (packet (hex "5f800581aa01bbcc")) 128 1 true ≡ hex "418080800581aa01bbcc"
  pub direct : copied (packet (hex "5f800581aa01bbcc")) 128 2 true ≡ hex "428080800581aa01bbcc"
  pub to_a_listener : copied (packet (hex "5f800581aa01bbcc")) 128 3 true ≡ hex "438080800581aa01bbcc"

pub copies : AreCopies
unfolding number_at word_at opus_len segments_len_within segments_len audio_len packet shortest_number shortest_word
copies = search

-- the position goes along only where it is asked for
pub record ArePositions : Type 0 where
  pub with_it : copied (packet (hex "8002a003aabbcc000000000000000000000000")) 1 0 true ≡ hex "800102a003aabbcc000000000000000000000000"
  pub without_it : copied (packet (hex "8002a003aabbcc000000000000000000000000")) 1 0 false ≡ hex "800102a003aabbcc"
  pub speex_without_it : copied (packet (hex "5f800581aa01bbcc")) 128 1 false ≡ hex "418080800581aa01bb"
  pub none_to_leave_out : copied (packet (hex "800200")) 1 0 false ≡ hex "80010200"

pub positions : ArePositions
unfolding number_at word_at opus_len segments_len_within segments_len audio_len packet shortest_number shortest_word
positions = search
