-- The names that the proofs of this crate take from elsewhere, passed on from one place. Declares nothing.
pub use lib.ListN.{get_elem?}
pub use mathlib.Core.{Logic.dite, Option.some-injective, Option.some-ne-none}
pub use Rattle.std.proofs.{Math.Nat.div-le_self, lemmas.Bool.cases_lt, lemmas.Bool.le-ltb, lemmas.Bool.lt-ltb, lemmas.List.Quantifiers.all_pairs_push, lemmas.List.length-map, lemmas.List.map_push}
pub use Rattle.std.proofs.lemmas.List.Elements.{All-append, All-cons, All-contains, All-head, All-nil, All-push, All-tail, All-weaker, Contains-append_left, Contains-append_right, Contains-push, Contains-push_cases}
pub use Rattle.std.proofs.Common.{Bool, List, MatchOption, None, Option, Some, [], ap, append_assoc, arith, drop, get_or, if◌then◌else◌, inl, inr, is_some, length, length-append, map, min, not, refl, rules, set, subst, suc, sym, true, zero, ℕ, ⊎_elim, ◌*◌, ◌++◌, ◌+◌, ◌-◌, ◌/◌, ◌<◌, ◌∙◌, ◌∷◌, ◌≡◌, ◌≢◌, ◌≤◌, ◌⊎◌}
pub use Rattle.std.specs.List.{All, AllPairs, Contains}
pub use Rattle.atomic_table.specs.Seated.{TableId}
pub use Rattle.crossbeam_queue.proofs.Lists.{at_last, at_longer, at_set, set_else, set_here}
pub use Rattle.crossbeam_queue.specs.Fifo.{Forks, Held, Learns, Pops, Pushes}
pub use Rattle.mum_outbox.specs.{Calls.Halves, Calls.HasNumbers, Calls.IsFirst, Calls.IsNewPass, Calls.Takes, Calls.lower_half, Calls.upper_half, Facts.PassFacts, Facts.QueueFacts, Facts.hand_of_pass}
pub use Rattle.mum_outbox.specs.Rule.{AreTagged, BoxRule, EachHand, EachTwo, HaveOwnNumbers, IsAsOffered, IsBefore, IsMomentOf, IsNumbered, IsSomewhere, LosesNone, MayGive, StandsAt, TaggedRule, TakeApart, after_giving, after_halving, after_least, given_half, given_number, item_of, least_number, middle, new_hand}
pub use Rattle.mum_outbox.specs.declared.rule.{Hand.Hand, Tagged.Tagged, TheConstants.LAST}
unfoldable pub use native.Mathlib.Decide.{ℕ_discrete}
