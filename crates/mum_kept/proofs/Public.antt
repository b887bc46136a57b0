-- What the crates above use of these proofs. Declares nothing.
pub use Rattle.mum_kept.proofs.{Lasting.found_each, Numbered.channels_rise, Numbered.each_unmapped, Numbered.rows_many, Payloads.held, Payloads.policy_read, Standing.given_at, Standing.kept_have, Unused.first_is_least, Unused.same_prefix}
