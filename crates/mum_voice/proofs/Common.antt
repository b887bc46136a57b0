-- The names that the proofs of this crate take from elsewhere, passed on from one place. Declares nothing.
pub use Prim.Native.String.{String}
pub use Rattle.std.proofs.{Math.Seq.drop-cons, Math.Seq.take-add, lemmas.Bool.cases_lt, lemmas.Bool.le-ltb, lemmas.Bool.lt-ltb, lemmas.Bool.ne_eqb, lemmas.Grind.common_steps, lemmas.Nat.and_mask, lemmas.Nat.be_bytes_8, lemmas.Nat.from_be_bytes-to_be_bytes_4, lemmas.Nat.from_be_bytes-to_be_bytes_8}
pub use Rattle.std.proofs.lemmas.List.{drop-drop, drop_at, get_or-drop, length-append, length-drop, length-take, take-append-drop, take_at}
pub use Rattle.std.proofs.Common.{Bool, Err, List, None, Ok, Option, Result, Some, [], ap, append_assoc, arith, drop, false, get_or, inl, inr, length, lit≤, ltb, refl, replicate, subst, suc, sym, take, true, zero, ℕ, ◌%◌, ◌*◌, ◌++◌, ◌+◌, ◌-◌, ◌/◌, ◌<◌, ◌^◌, ◌∙◌, ◌∷◌, ◌≡◌, ◌≤◌}
pub use Rattle.std.specs.{Int.to_be_bytes, Int.w16, Int.w32, Int.w64, Option.option_map}
pub use Rattle.std.specs.Prelude.{IfOk, IsNone, ◌↔◌}
pub use Rattle.mum_base.proofs.Public.{hex}
pub use Rattle.mum_voice.specs.Packet.{AreSegments, HasNoAudio, HasVoiceFault, IsAudio, IsHeader, IsOpus, IsPacket, Parts, bad_audio, bad_length, bad_type, bad_varint, client_bytes, copy, is_audio_kind, opus_len_by, packet_by_audio, packet_by_sequence, parsed, plain_parts}
pub use Rattle.mum_voice.specs.Varint.{AreSoManyBytes, BeginsWith, BeginsWithNone, IsClear, IsClearNumber, SpellsNumber, SpellsWord, big_endian, inverse, number_by, row_number}
pub use Rattle.mum_voice.specs.declared.{audio.TheConstants.CELT_ALPHA, audio.TheConstants.CELT_BETA, audio.TheConstants.OPUS, audio.TheConstants.SPEEX, fault.BadVoice.BadVoice, packet.Packet.Packet, packet.TheConstants.PACKET_LIMIT}
unfoldable pub use Rattle.mum_voice.specs.{Packet.audio_len, Packet.opus_len, Packet.packet, Packet.segments_len, Packet.segments_len_within, Varint.number_at, Varint.shortest_number, Varint.shortest_word, Varint.word_at}
