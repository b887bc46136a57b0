-- The names that the proofs of this crate take from elsewhere, passed on from one place. Declares nothing.
pub use lib.Seq.{take-add}
pub use Rattle.std.proofs.lemmas.{Bool.cases_lt, Bool.eqb-true, Bool.le-ltb, Bool.lt-ltb, Bool.ltb-false, Bool.ltb-true, List.Sums.passes_at_first, List.drop-drop, List.drop-take, List.drop_more, List.length-take-le}
pub use Rattle.std.proofs.Common.{Bool, List, None, Option, Some, [], ap, append_assoc, arith, cond, drop, false, get_or, inl, inr, length, length-append, length-drop, length-take, ltb, not, refl, slice_range, subst, suc, sym, take, take-append-drop, take_all, true, true≢false, zero, ℕ, ◌++◌, ◌+◌, ◌-◌, ◌<◌, ◌∙◌, ◌∷◌, ◌≡◌, ◌≤◌, ◌⊎◌}
pub use Rattle.std.specs.{List.position_or_len, Vec.vec_len}
pub use Rattle.std.specs.Prelude.{IfSome, position}
pub use Rattle.mum_io.proofs.Public.{Consumes-kept, Consumes-trans}
pub use Rattle.mum_io.specs.Outside.{Consumes, IsAtEnd, Keeps}
pub use Rattle.mum_record.specs.Lines.{is_line_feed}
pub use Rattle.mum_record.specs.declared.split.TheConstants.{LINE_LIMIT}
pub use Rattle.mum_lines.specs.{Lines.HasNoLineFeed, Lines.IsUnended, Lines.Parts, Lines.ReaderState, Lines.line_length, Seeking.ReadOn, Seeking.kept_in}
pub use Rattle.mum_lines.specs.declared.buffer.{Buffer.Buffer, TheConstants.BUFFER_LENGTH}
