-- What is noted does not touch the room of a voice entry, and each entry has a line.
use Rattle.mum_worker.proofs.CommonNames.{◌≡◌, ℕ, ◌<◌, List, [], ◌∷◌, ◌++◌, length, Option, Some, None, Ok, arith, refl, subst, sym, Cause, Step, Each, IsWritableEntry, Marked, WorkerEntry, Parts, packet, RecordFacts, after_close, after_step, without_room}
use Rattle.mum_record.specs.declared.journal.WorkerEntry.TheVariants as kinds

pub after_close_bare : (connection : ℕ) (closed : Option Cause) (kept : RecordFacts) → without_room (after_close connection closed kept) ≡ after_close connection closed (without_room kept)
after_close_bare connection None kept = refl
after_close_bare connection (Some cause) kept = refl

pub after_step_bare : (connection : ℕ) (step : Step) (kept : RecordFacts) → without_room (after_step connection step kept) ≡ after_step connection step (without_room kept)
after_step_bare connection step kept = after_close_bare connection step.closed _

-- bytes that are a packet are some
pub packet_filled : (bytes : List ℕ) (parts : Parts) → packet bytes ≡ Ok parts → 0 < length bytes
unfolding packet
packet_filled [] parts parsed = absurd (cc)
packet_filled (byte ∷ bytes) parts parsed = omega arith

each_behind : (before : List WorkerEntry) (last : WorkerEntry) → IsWritableEntry last → Each IsWritableEntry before → Each IsWritableEntry (before ++ last ∷ [])
each_behind [] last writable all = (writable, tt)
each_behind (first ∷ before) last writable all = (all.0, each_behind before last writable all.1)

-- an entry of a packet has a line too
pub voice_behind : (before after : List WorkerEntry) (connection revision : ℕ) (bytes : List ℕ) (copies : List Marked) → after ≡ before ++ kinds.Voice connection revision bytes copies ∷ []
    → 0 < length bytes → Each IsWritableEntry before → Each IsWritableEntry after
voice_behind before after connection revision bytes copies pushed filled all =
    subst (Each IsWritableEntry) (sym pushed) (each_behind before (kinds.Voice connection revision bytes copies) filled all)
