-- The names that the proofs of this crate take from elsewhere, passed on from one place. Declares nothing.
pub use lib.Seq.{take-add}
pub use Rattle.std.proofs.lemmas.Bool.{and_from, and_parts, cases_eq, cases_lt, eq-eqb, eqb-false, eqb-true, false≢true, leb-false, lt-ltb, ltb-false, ltb-true, not-true}
pub use Rattle.std.proofs.lemmas.{List.Elements.All-from_recursion, List.Elements.filter-append, List.Elements.recursion_from_All, List.Kept.AllPairs-cons, List.Sums.fold-append, List.Sums.sum_by-set, Option.get_or_from_slice_get, Option.none-some, Option.same_Some, Option.slice_get-get_or, Option.slice_get_within, Result.IfOk-weaker}
pub use Rattle.std.proofs.lemmas.List.{append-nil, get_or-set_other, get_or-set_same, length-map, length-replicate, length-set, map-append, take-append-drop, take-append-le, take_all}
pub use Rattle.std.proofs.Common.{Bool, Err, IfOk, List, None, Ok, Option, Result, Some, [], ap, append_assoc, arith, cond, drop, false, get_or, inl, inr, length, length-append, lit≤, map, max, min, refl, replicate, rules, set, subst, suc, sym, take, true, zero, ℕ, ◌++◌, ◌+◌, ◌-◌, ◌<◌, ◌^◌, ◌∙◌, ◌∷◌, ◌≡◌, ◌≤◌}
pub use Rattle.std.specs.List.{All, AllByRecursion, AllPairs, Contains, cons_option, count_by, flat_map, list_any}
pub use Rattle.std.specs.{Option.ForSome, Option.option_map, Option.option_map_or, Option.option_or, VecDeque.Iter.deque_iter_rest}
pub use Rattle.std.specs.Prelude.{IfSome, IsTrue, codes, decimal, filter, find, if◌then◌else◌, is_none, is_some, nat_lt, not, option_to_list, slice_get, slice_index_or, slice_set, string_bytes, sum_by, ⊤, ◌&&◌, ◌==◌, ◌⊎◌}
pub use Rattle.mum_base.specs.Refusal.{Gives, Settles}
pub use Rattle.mum_base.specs.declared.number.{AccountId.AccountId, Cause.Cause, SessionId.SessionId, Slot.Slot, TheConstants.POST_CAPACITY, TheConstants.SLOTS}
pub use Rattle.mum_policy.specs.Member.{Actor}
pub use Rattle.mum_tree.proofs.Public.{list_any-reverse}
pub use Rattle.mum_users.proofs.Public.{free_slot_from-le, set-mapped}
pub use Rattle.mum_users.specs.{Proper.SlotsRise, Sessions.free_slot, Sessions.is_full, Sessions.is_used_up, Sessions.join_fault, Sessions.next_number, Sessions.next_slot, State.RosterState, State.are_tokens, State.has_name, State.has_number, State.joining}
pub use Rattle.mum_users.specs.declared.{fault.UserFault.TheVariants.Full, fault.UserFault.TheVariants.NameInUse, fault.UserFault.TheVariants.SessionsUsedUp, user.User.User}
pub use Rattle.mum_voice.proofs.Public.{shortest_word-read}
pub use Rattle.mum_voice.specs.Packet.{Parts, copy, plain_parts}
pub use Rattle.mum_voice.specs.declared.fault.BadVoice.{BadVoice}
pub use Rattle.mum_record.specs.{Head.first_step_line, Words.line_of_words}
pub use Rattle.mum_record.specs.declared.{head.Version.Version, step.Step.Step}
pub use Rattle.mum_record.specs.declared.step.Step.TheVariants.{Close, Collect, Drain, End, Frame, Look, Offer, Open, Post, Publish, Tell}
pub use Rattle.mum_state.proofs.Public.{found_counts, keeps_proper_lem, last_rises as numbers_rise, seats_stand_lem, session_known, shown}
pub use Rattle.mum_state.specs.{After.all_fit, After.at, After.led_to, Applied.applied, Fits.fits, Fits.gives_right_numbers, Fits.is_countable, Fits.sets_properly, Laws.IsInSlot, Named.names_there, Permissions.granted_where_there, Proper.IsProper, Proper.is_short, Set.set_by, State.StateValue, Suppression.heard_anew, Suppression.is_set_anew}
pub use Rattle.mum_state.specs.declared.{edit.Edit.Edit, edit.Edit.TheVariants.Join, edit.Edit.TheVariants.Join as JoinEdit, verdict.Verdict.TheVariants.Accepted, verdict.Verdict.TheVariants.Answer, verdict.Verdict.TheVariants.Ignored, verdict.Verdict.TheVariants.Lacks, verdict.Verdict.TheVariants.Refused, verdict.Verdict.TheVariants.Rejected, verdict.Verdict.Verdict}
pub use Rattle.mum_rules_tree.proofs.Public.{accepted_fits as tree_accepted_fits}
pub use Rattle.mum_rules_tree.specs.{Decision.FitsWhereAccepted, Decision.first_lack, Decision.first_standing, Verdict.tree_verdict}
pub use Rattle.mum_rules_tree.specs.declared.message.TreeMessage.{TreeMessage}
pub use Rattle.mum_route.proofs.Public.{each_hearer, each_hearer_by, each_hearing, each_seated, found_number, found_own, pairs_hearing, route_of_loopback, route_of_none, route_of_silent, seated}
pub use Rattle.mum_route.specs.{Hearers.hearers_at, Hearers.hearers_of, Hearing.is_silent, Laws.IsInLowerSlot, Route.Member, Route.route}
pub use Rattle.mum_route.specs.declared.{hearer.Hearer.Hearer, routes.TheConstants.LOOPBACK}
pub use Rattle.mum_history.proofs.Public.{all_fit_on}
pub use Rattle.mum_history.specs.{History.HistoryValue, History.begun, View.IsViewOf, View.ViewValue}
pub use Rattle.mum_notify.proofs.Public.{each_has_its_session_lem}
pub use Rattle.mum_notify.specs.{Laws.IsAddressee, Notices.notices}
pub use Rattle.mum_notify.specs.declared.notice.Notice.{Notice}
pub use Rattle.mum_cache.proofs.Public.{nothing_sound, sound_stays_lem}
pub use Rattle.mum_cache.specs.Caches.{AreSound}
pub use Rattle.mum_cache.specs.declared.{caches.Caches.Caches, routes.RouteEntry.RouteEntry}
pub use Rattle.mum_rules_user.proofs.Public.{accepted_fits, login_accepted_fits}
pub use Rattle.mum_rules_user.specs.{Asked.Command as UserCommand, Asked.command_of, Limits.limits, Login.limits_of_login, Needs.needs, Outcome.outcome, Reasons.reasons, Verdict.actor_for, Verdict.command_verdict, Verdict.heard_verdict, Verdict.user_verdict}
pub use Rattle.mum_rules_user.specs.declared.message.UserMessage.{TheVariants.Kick, TheVariants.Query, TheVariants.Target, TheVariants.Text, UserMessage}
pub use Rattle.mum_session.proofs.Public.{sends, tree_holds, unless}
pub use Rattle.mum_session.specs.Verdict.{edits_of}
pub use Rattle.mum_session.specs.declared.{action.Action.Action, action.Action.TheVariants.Ask, action.Action.TheVariants.Keep, action.Action.TheVariants.Voice, command.Asked.Asked}
pub use Rattle.mum_core.specs.{Caches.CachedCore, Caches.EachIsSound, Caches.KeepsFor, Caches.LooksThrough, Caches.caches_at, Caches.routes_in, Case.IsStarved, Case.first_that_stands, Case.named_cause, Delivery.Delivery, Delivery.Queues, Delivery.does_from, Delivery.is_for, Delivery.line, Delivery.takes, Delivery.with_stale, Kept.IsKept, Line.joined, Lists.changed_at, Lists.with_found, Machine.machine_of, Reply.seat_of, Step.changes, Step.does, Step.frame_action, Step.frame_version, Step.illegal, Step.is_tell, Step.lines, Worker.HeldPacket, Worker.WorkerState, Worker.idle, Worker.in_hand, Worker.least_look, steps.Close.kicks, steps.Collect.framed, steps.Collect.notice_queues, steps.Drain.carried, steps.Drain.copy_queues, steps.Frame.spoken, steps.Look.hearer_word, steps.Look.outgoing, steps.Look.route_words, steps.Post.forbids, steps.Post.has_room, steps.Post.puts}
pub use Rattle.mum_core.specs.Connection.{answered, asking, closed_at, fresh, is_of, is_untold, lagging, leave_waiting, next_command, next_of_frame, seat_given, session_of, told}
pub use Rattle.mum_core.specs.Core.{CoreState, at_connection, at_outbox, at_posts, at_session, at_worker, connection_at, current, is_opened, outbox_at, posts_at, start, state_at, up, version_of, worker_at}
pub use Rattle.mum_core.specs.Laws.{AreBytesOf, IsCopyOf, IsOfferOf, IsParcelOf, IsRun, IsSubsequence, IsSubsequenceBy, collected, collected_by, front, front_for, gathered, heard, is_by, looked, noticed, offered, own_front, own_notice, packet_taken, posted, posted_in, ran, removed, sent, told_notice, wired}
pub use Rattle.mum_core.specs.declared.{connection.Connection.Connection, connection.Leave.Leave, connection.Leave.TheVariants.Decided, connection.Leave.TheVariants.Leads, connection.Leave.TheVariants.Stays, connection.Leave.TheVariants.Waits, connection.Reply.Reply, connection.Seat.Seat, machine.StepFault.StepFault, outbox.Parcel.Parcel, worker.Outgoing.Outgoing}
unfoldable pub use Rattle.mum_frame.specs.Frame.{kind_of, payload_of}
unfoldable pub use Rattle.mum_voice.specs.{Packet.packet, Varint.shortest_word, Varint.word_at}
unfoldable pub use Rattle.mum_rules_user.specs.Outcome.{answer_frame}
unfoldable pub use Rattle.mum_session.specs.Verdict.{verdict}
