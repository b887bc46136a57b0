use Rattle.mum_voice.proofs.Common.{◌≡◌, ◌-◌, ◌≤◌, length, drop, segments_len, segments_len_within}
use Rattle.mum_voice.proofs.AudioLength.{after}
use Rattle.mum_voice.proofs.audio.segments_length.Given as goal

abbrev pub invariant-segments : goal.invariant-segments
invariant-segments l =
    record { within : l.len ≤ length l.bytes; so_far : after l.len (segments_len_within (length l.bytes - l.len) (drop l.len l.bytes)) ≡ segments_len l.bytes }

abbrev pub decreases-segments : goal.decreases-segments
decreases-segments l = length l.bytes - l.len
