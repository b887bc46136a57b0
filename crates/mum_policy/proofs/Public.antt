-- What the crates above use of these proofs. Declares nothing.
pub use Rattle.mum_policy.proofs.{Bits.holds_and, Bits.holds_none, Bits.holds_or, Decisions.held_after-append, Decisions.held_after-one, Held.entries_decide, Held.no_way, Held.nothing_elsewhere, Held.super_may_all, Paths.is_root-last, Walks.perm_super}
pub use Rattle.mum_policy.proofs.Scenes.{afresh, defines, denies, entry, everybody, grants, group, one, only_below, only_here, plain, policy, the_account, those_in, two}
