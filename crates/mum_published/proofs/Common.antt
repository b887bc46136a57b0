-- The names that the proofs of this crate take from elsewhere, passed on from one place. Declares nothing.
pub use borrow.Author.Tests.{leb-true}
pub use lib.ListN.{get_elem?}
pub use mathlib.Core.{List.IsPrefix, Option.some}
pub use prog.Atomic.{either}
pub use Rattle.std.proofs.{Math.Bool.or-true, Math.Seq.take-length, lemmas.Bool.Decides.nat_tests, lemmas.Bool.and_parts, lemmas.Bool.eq-eqb, lemmas.Grind.take_at_read, lemmas.List.Folds.list_any-append, lemmas.List.Sums.fold-append, lemmas.List.append-nil, lemmas.List.map-append}
pub use Rattle.std.proofs.Common.{Bool, List, None, Option, Some, [], ap, append_assoc, arith, drop, false, fold, get_or, inl, length, length-append, nat_lt, refl, slice_set, subst, sym, take, true, vec_len, ℕ, ⊎_elim, ◌++◌, ◌+◌, ◌-◌, ◌<◌, ◌==◌, ◌∙◌, ◌∷◌, ◌≡◌, ◌≢◌, ◌≤◌}
pub use Rattle.std.specs.{Fn.CalledAt, List.All, List.list_any, Option.option_map_or}
pub use Rattle.std.specs.Prelude.{IsTrue, if◌then◌else◌, nat_le, ◌&&◌, ◌||◌}
pub use Rattle.atomic_table.proofs.Lists.{at_set, at_snoc}
pub use Rattle.crossbeam_utils.specs.Register.{Admits, Forks, Merges, Turns, TurnsAt}
pub use Rattle.left_right.specs.Sides.{view as sight_of}
pub use Rattle.logbook.specs.Pages.{Book, Cell, Goes, Moves, cell, keeps, no_nib, step}
pub use Rattle.mum_base.specs.declared.{number.SessionId.SessionId, reply.ReplyEnd.ReplyEnd, reply.ReplyEnd.TheVariants.Decided, reply.ReplyEnd.TheVariants.Joined, reply.ReplyEnd.TheVariants.Rejected}
pub use Rattle.mum_state.specs.{After.all_fit, After.led_to, Applied.applied, Fits.fits, State.StateValue}
pub use Rattle.mum_state.specs.declared.edit.Edit.{Edit}
pub use Rattle.mum_published.specs.Calls.{IsFresh, IsLast, Learnt, MayMeet, TakesUp, all_published, appended, latest, longer, looked, state_of}
pub use Rattle.mum_published.specs.{Facts.NoteFacts, Facts.PassFacts, Facts.PublisherFacts, Ledger.Adds, Ledger.IsCounted, Ledger.LedgerFacts, Rolls.is_admitted, Rolls.is_on_roll, Rolls.login, Rolls.login_of, Shown.Continues, Shown.EntryValue, Shown.IsReached, Shown.ShownValue, Shown.edits_of, Shown.with_entry}
pub use Rattle.mum_published.specs.Kept.{IsKept, IsOf, IsPass, MaySee, MayShow, began_at, opening_of, pass_facts}
pub use Rattle.mum_published.specs.Rule.{EachSight, IsOver, Knows, OneList, Sees, Shows, first_sight, origin, origin_of, sight_after, start_of, with_opening}
pub use Rattle.mum_published.specs.declared.{ask.Ask.Ask, roll.Login.Login, rule.Origin.Origin, rule.Sight.Sight}
