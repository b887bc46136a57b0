-- The names that the proofs of this crate take from elsewhere, passed on from one place. Declares nothing.
pub use Rattle.std.proofs.lemmas.{Bool.and_from, Bool.and_parts, Bool.cases_lt, Bool.eq-eqb, Bool.eqb-true, Bool.le-leb, Bool.leb-true, List.Elements.All-from_recursion, List.Elements.recursion_from_All, Result.err_from_is_err_and}
pub use Rattle.std.proofs.lemmas.List.{append-nil, drop-append-le, drop-drop, drop_all, drop_at, get_or-drop, get_or_past, length-append, length-take-le, take-append-drop, take_at, take_rest}
pub use Rattle.std.proofs.Common.{Err, List, None, Ok, Option, Result, Some, [], ap, append_assoc, arith, drop, false, get_or, inl, inr, length, length-drop, refl, subst, suc, sym, take, true, zero, ℕ, ◌%◌, ◌*◌, ◌++◌, ◌+◌, ◌-◌, ◌/◌, ◌<◌, ◌==◌, ◌^◌, ◌∙◌, ◌∷◌, ◌≡◌, ◌≤◌}
pub use Rattle.std.specs.{List.All, List.AllByRecursion as Each, List.flat_map, Vec.vec_capacity, Vec.vec_len}
pub use Rattle.std.specs.Prelude.{nat_le}
pub use Rattle.byteorder.specs.{Endian.big_bytes, Endian.big_number, Numbers.big_from-append, Numbers.big_from-lt, Numbers.big_number-reads_back}
pub use Rattle.mum_base.proofs.Public.{hex}
pub use Rattle.mum_frame.specs.{Calls.Call, Calls.Leads, Calls.asked, Calls.bytes_fed, Calls.fed, Calls.frames_given, First.IsFirst, First.viewed, Frame.HasNoFrame, Frame.IsFrame, Frame.IsOneFrame, Frame.TooLong, Frame.frame_spelling, Frame.is_one_frame, Stream.FramerState, Stream.IsFront, Stream.NextGives, Stream.Splits}
pub use Rattle.mum_frame.specs.declared.{frame.FirstFrame.FirstFrame, frame.FirstFrame.TheVariants.AboveLimit, frame.FirstFrame.TheVariants.Partial, frame.FirstFrame.TheVariants.Whole, frame.Frame.Frame, frame.FrameView.FrameView, frame.TheConstants.HEADER_LENGTH, frame.TheConstants.PAYLOAD_LIMIT, framer.FrameFault.FrameFault, framer.FrameFault.TheVariants.FrameTooLong, framer.FrameFault.TheVariants.OutOfMemory, kind.TheConstants.AUTHENTICATE, kind.TheConstants.PING, kind.TheConstants.USER_STATE, kind.TheConstants.VERSION}
unfoldable pub use Rattle.mum_frame.specs.Frame.{kind_of, named_length, payload_of, spelling_of}
