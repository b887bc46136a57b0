-- What the crates above use of these proofs. Declares nothing.
pub use Rattle.mum_record.proofs.{ConfigLaws.config_of-found, ConfigLaws.config_of-line, HeadLemmas.limits_of-found, HeadLemmas.limits_of-line, HeadLemmas.workers_of-found, HeadLemmas.workers_of-line, Laws.chosen, Laws.step_of-found, Laws.step_of-line_of, LineFeeds.split_at, LineFeeds.split_nowhere, Numbers.number_within-decimal, Numbers.number_within-found, Splits.slice_split-whole}
