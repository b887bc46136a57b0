-- What the crates above use of these proofs. Declares nothing.
pub use Rattle.mum_cache.proofs.{Others.is_seated, Others.one_session, Others.slot_is, Staying.nothing_is_sound_lem, Staying.nothing_sound, Staying.one_of, Staying.sound_stays_lem}
