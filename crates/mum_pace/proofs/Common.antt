-- The names that the proofs of this crate take from elsewhere, passed on from one place. Declares nothing.
pub use borrow.Rule.Slice.PartMut.{post_of, put_mid}
pub use lib.ListN.{get_elem?}
pub use mathlib.Core.{Logic.dite, Option.none, Option.some, Option.some-injective, Option.some-ne-none}
pub use prog.Atomic.{either}
pub use Rattle.std.proofs.{Math.ListN.drop_of_length-le, Math.Seq.drop-length, Math.Seq.take-length, lemmas.Bool.Decides.nat_tests, lemmas.List.Sums.sum_by-cons, lemmas.List.Sums.sum_by_push, lemmas.List.get_or-drop, lemmas.List.get_or-take, lemmas.List.length-append, lemmas.List.length-drop, lemmas.List.length-take, lemmas.Slice.take-put_mid, lemmas.Str.Parse.IsNumeralModel, lemmas.Str.Parse.numerals_by_value, lemmas.Str.Parse.tells_all_ascii_digits, lemmas.Str.Pattern.IsSplitOnceResult, lemmas.Str.Pattern.split_once_first}
pub use Rattle.std.proofs.lemmas.Bool.{and_from, and_parts, cases_eq, cases_lt, cond-false, cond-true, eq-eqb, false_from_ne_true, le-ltb, lt-ltb, ltb-true, ne_eqb}
pub use Rattle.std.proofs.Common.{Bool, Bor, Err, List, MatchOption, None, Ok, Option, Result, Some, [], add_assoc, ap, append-nil, append_assoc, arith, drop, eqb, false, get_or, get_or-set_same, if◌then◌else◌, inl, inr, length, length-set, max, min, mul-le-mul_right, nat_lt, not, refl, rules, set, subst, suc, sym, take, true, zero, zero-add, ℕ, ◌%◌, ◌&&◌, ◌*◌, ◌++◌, ◌+◌, ◌-◌, ◌/◌, ◌<◌, ◌==◌, ◌^◌, ◌||◌, ◌∙◌, ◌∷◌, ◌≡◌, ◌≢◌, ◌≤◌, ◌⊎◌}
pub use Rattle.std.specs.{Int.div_ceil, Int.from_be_bytes, Int.w16, Int.w32, List.after_first, List.position_or_len, List.sum, Option.option_and_then, Result.OkIff, Result.result_ok, Str.Parse.IsNumeral, Str.Parse.ParsesUnsigned, Str.Parse.digits_value, Str.Parse.without_leading_plus, Str.all_ascii_digits, Str.bytes_eq}
pub use Rattle.std.specs.Prelude.{codes}
pub use Rattle.atomic_table.proofs.Lists.{set_again}
pub use Rattle.atomic_table.specs.Table.{Allows, Enters, Me, State, keeps, step, stepped}
pub use Rattle.mum_pace.specs.{Allowance.Comes, Allowance.Exchanges, Allowance.GivesBack, Allowance.IsHeldTogether, Arrivals.ArrivalsState, Arrivals.ComeIn, Arrivals.arrivals_at, Arrivals.counts_one, Arrivals.last_of, Fronts.IsFront, Reserved.bytes_for, Texts.are_digits, Texts.number_of_digits, Texts.pace_with, Texts.rate_with, Texts.usual_pace, Waits.has_waited, Waits.waits_since}
pub use Rattle.mum_pace.specs.Laws.{AreUses, AreWithin, IsNotZero, IsPlace, KeepAllowances, KeepsPace, Read, all_bytes, asked_and_read, bytes_that_come, last_time}
pub use Rattle.mum_pace.specs.Meters.{MeterState, after_read, allowance_by, allowance_of, at_time, counted, given_back, new_meter, room, state_of, used_with}
pub use Rattle.mum_pace.specs.Places.{Place, after_byte, cost_of, cost_of_header, cost_of_payload, goes_on, is_in_a_ping, is_message, nothing, one_if, passed, payload_under_way, pieces_left, pieces_to_come, place_of, plus, start}
pub use Rattle.mum_pace.specs.declared.{frames.Cost.Cost, frames.Front.Front, long.TheConstants.LONG_FRAMES_LIMIT, meter.Counted.Counted, pace.Pace.Pace, pace.Pace.TheVariants.Limited, pace.Pace.TheVariants.Unlimited, pace.Rate.Rate}
unfoldable pub use native.Mathlib.Decide.{ℕ_discrete}
unfoldable pub use Rattle.mum_pace.specs.{Pieces.begins_piece, Pieces.bytes_within, Pieces.pieces_in, Texts.halves, Texts.number_of, Texts.pace_of, Texts.rate_of}
unfoldable pub use Rattle.mum_pace.specs.Places.{after_byte_by, after_bytes, after_header, are_of_pings, begun, cost_at_header, cost_by, cost_in, length_within}
