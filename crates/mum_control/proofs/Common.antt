-- The names that the proofs of this crate take from elsewhere, passed on from one place. Declares nothing.
pub use mathlib.Core.List.{IsPrefix}
pub use Rattle.std.proofs.{ByRecursion.All-append, ByRecursion.All-weaker, lemmas.Bool.and_parts, lemmas.Bool.eqb-false, lemmas.Bool.eqb-true, lemmas.Bool.ne_eqb, lemmas.Fn.filter_same, lemmas.List.Elements.All-contains_itself, lemmas.List.Elements.recursion_from_All, lemmas.List.Filters.length-filter_both, lemmas.List.length-map, lemmas.List.length-set, lemmas.Option.slice_get_read, lemmas.Result.on_err_weaker, lemmas.Result.on_ok_weaker}
pub use Rattle.std.proofs.Common.{Bool, Bor, Err, IfOk, List, None, Ok, OnErr, OnOk, Option, Result, Some, [], ap, append-nil, append_assoc, arith, cond, false, inl, inr, length, length-append, map, not, refl, rules, subst, suc, sym, true, zero, ℕ, ◌&&◌, ◌++◌, ◌+◌, ◌<◌, ◌||◌, ◌∙◌, ◌∷◌, ◌≡◌, ◌≢◌, ◌≤◌}
pub use Rattle.std.specs.{List.All, List.AllByRecursion, List.Contains, Option.ForSome, Option.option_copied, Option.option_map, Result.result_ok, Vec.Iter.into_iter_items, Vec.vec_capacity}
pub use Rattle.std.specs.Prelude.{IfSome, IsSomeAnd, IsTrue, MatchOption, filter, find, is_none, is_some, slice_index_or, slice_set, ◌==◌, ◌↔◌, ◌⊎◌}
pub use Rattle.mum_base.specs.Perm.{Holds}
pub use Rattle.mum_base.specs.declared.{number.SessionId.SessionId, number.Slot.Slot, number.TheConstants.POST_CAPACITY, number.TheConstants.SLOTS, perm.Perm.Perm, reply.Mark.Mark, reply.ReplyEnd.ReplyEnd}
pub use Rattle.mum_users.specs.{Proper.SlotsRise, Sessions.next_join, Sessions.session_of, State.RosterState, State.has_number}
pub use Rattle.mum_users.specs.declared.user.User.{User}
pub use Rattle.mum_outbox.specs.{Calls.Offers, Calls.Takes, Calls.new_pass, Facts.PassFacts as BoxFacts, Facts.PassFacts, Facts.QueueFacts}
pub use Rattle.mum_outbox.specs.declared.{queue.Offered.Offered, rule.Tagged.Tagged}
pub use Rattle.mum_state.specs.{Applied.applied, Fits.fits, Proper.IsProper, State.StateValue}
pub use Rattle.mum_state.specs.declared.{edit.Edit.Edit, verdict.Verdict.TheVariants.Accepted, verdict.Verdict.TheVariants.Answer, verdict.Verdict.TheVariants.Ignored, verdict.Verdict.TheVariants.Lacks, verdict.Verdict.TheVariants.Refused, verdict.Verdict.TheVariants.Rejected, verdict.Verdict.Verdict}
pub use Rattle.mum_rules_tree.specs.Decision.{FitsWhereAccepted}
pub use Rattle.mum_history.specs.Twin.{LeadsTo}
pub use Rattle.mum_published.proofs.Public.{admitted_last, kept_up, prefix_self, prefix_trans}
pub use Rattle.mum_published.specs.{Calls.IsLast, Calls.all_published, Calls.appended, Calls.latest, Calls.note_published, Calls.state_of, Facts.NoteFacts, Facts.Opening, Facts.PublisherFacts, Facts.ReplyFacts, Rolls.is_admitted}
pub use Rattle.mum_published.specs.declared.roll.Login.{Login}
pub use Rattle.mum_notify.proofs.Public.{each_has_its_session_lem}
pub use Rattle.mum_notify.specs.{Laws.IsAddressee, Notices.FitsFrame, Notices.notices}
pub use Rattle.mum_notify.specs.declared.notice.Notice.{Notice}
pub use Rattle.mum_parcel.specs.{Facts.PostFacts, Rules.Reports}
pub use Rattle.mum_session.specs.{Reply.mark, Reply.reply_end, Verdict.edits_of}
pub use Rattle.mum_control.specs.Commanded.{Accepts, Decides, Denies, IsDropped, Publishes, accepted, current, next_revision, note_of, with_accepted, with_edit, with_login}
pub use Rattle.mum_control.specs.Facts.{ControlFacts}
pub use Rattle.mum_control.specs.Kept.{AreApart, IsInSlot, IsKept, IsListing, MayIn, is_listed, is_there, next_slot, slot_of}
pub use Rattle.mum_control.specs.Posting.{EmptiesAt, EmptiesPost, IsEmptied, OffersAt, Posts, PostsNext, due_behind, with_lagging}
pub use Rattle.mum_control.specs.declared.posted.Posted.{Posted}
unfoldable pub use Rattle.mum_session.specs.Verdict.{verdict}
