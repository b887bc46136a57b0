-- What the crates above use of these proofs. Declares nothing.
pub use Rattle.mum_rules_tree.proofs.{Accepted.accepted_fits, Accepted.fits_from, Accepted.named_from, Cleared.AllOff, Cleared.all_off, Cleared.fits_unless, Firsts.accepts_where_nothing_stands_lem, Firsts.all_met_where, Firsts.first_found, Firsts.first_missing, Firsts.none_stands, Firsts.something_mapped, Firsts.told, Heard.decided, Heard.found_passes, Named.some_found, OneByOne.met_on, OneByOne.met_stop, OneByOne.passed, OneByOne.refused}
pub use Rattle.mum_rules_tree.proofs.Complete.{first_of, ignored_at, ignores_for_first_reason_lem, no_first, no_lack, outcome_at, refused_at, rest_at}
