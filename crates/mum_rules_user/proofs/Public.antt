-- What the crates above use of these proofs. Declares nothing.
pub use Rattle.mum_rules_user.proofs.{Accepted.accepted_fits, Accepted.login_accepted_fits, Access.enters_where_permitted_lem, Access.leaves_own_to_others_lem, Access.moves_where_permitted_lem, Access.rules_speech_where_permitted_lem, Complete.ignores_for_first_reason_lem, Firsts.clear, Firsts.keeps_super_user_lem, Firsts.logs_in_where_nothing_stands_lem, Firsts.rejects_for_first_limit_lem, Firsts.spares_super_user_lem}
