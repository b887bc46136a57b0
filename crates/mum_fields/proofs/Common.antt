-- The names that the proofs of this crate take from elsewhere, passed on from one place. Declares nothing.
pub use Prim.Native.String.{String}
pub use Rattle.std.proofs.{Math.Nat.mul-le-mul_left, Math.Seq.take-append_seam, lemmas.Grind.common_steps, lemmas.Grind.pow_more, lemmas.List.Concat.flat_map-append, lemmas.List.Concat.flat_map-cons, lemmas.List.Elements.All-append, lemmas.List.Elements.All-cons, lemmas.List.Elements.All-head, lemmas.List.Elements.All-more, lemmas.List.Elements.All-nil, lemmas.List.Elements.All-tail, lemmas.Nat.from_le_bytes-to_le_bytes_4, lemmas.Nat.from_le_bytes-to_le_bytes_8, lemmas.Result.err_from_is_err_and, lemmas.Str.IsUtf8-from_is_utf8, lemmas.Str.is_utf8-from_IsUtf8}
pub use Rattle.std.proofs.lemmas.Bool.{eqb-false, eqb-true, false_from_ne_true, le-ltb, leb-true, lt-ltb, ltb-false, ltb-true, ne_eqb}
pub use Rattle.std.proofs.lemmas.List.{append-nil, append_cancel_left, drop_at, length-append, length-map, length-take, map-append, map_more, nil_from_length, take-append-drop, take_at}
pub use Rattle.std.proofs.Common.{Bool, Err, IfSome, List, None, Ok, Option, Result, Some, [], add-one, add-zero, ap, append_assoc, arith, codes, cond, drop, drop-cons, eq-eqb, eqb, false, get_or, if◌then◌else◌, inl, inr, is_some, leb, length, length as lengthN, length-drop, ltb, map, min, negsuc, pos, refl, set, subst, suc, sym, take, take_all, true, zero, ℕ, ◌%◌, ◌&&◌, ◌*◌, ◌++◌, ◌+◌, ◌-◌, ◌/◌, ◌<◌, ◌==◌, ◌^◌, ◌||◌, ◌↔◌, ◌∙◌, ◌∷◌, ◌≡◌, ◌≢◌, ◌≤◌, ◌⊎◌}
pub use Rattle.std.specs.{Borrow.Bor, Int.from_le_bytes, Int.w32, Int.w64, List.All, List.AllByRecursion, List.HoldsAt, List.list_all, Option.option_map, Str.IsUtf8}
pub use Rattle.std.specs.Prelude.{IsOk, replicate, slice_get, unwrap_or, ⊤}
pub use Rattle.mum_base.proofs.Public.{hex}
pub use Rattle.mum_fields.specs.{Content.Block, Content.Content, Content.Fixed4, Content.Fixed8, Content.Varint, Content.content_of, Cursor.cursor_of, Fault.fault, Fault.kind_code, Typed.AreTyped, Typed.AreTypedBlocks, Typed.IsBytes, Typed.IsOne, Typed.IsScalar, Typed.IsText, Typed.IsTyped, Varint.AreOctets, Varint.HaveTops, Varint.PassesTen, Varint.SpellsWithin, Varint.above, Varint.shortest_with, Varint.varint_with}
pub use Rattle.mum_fields.specs.Field.{Cursor, Entry, IsField, IsNumber, IsValue, entry_of, last_number, number_from, placed, skip, wire_type, ◌>>=◌}
pub use Rattle.mum_fields.specs.Message.{Decodes, Gathers, Refuses, Rule, any_block, block_of, blocks_of, entry_fault, every, fault_in, first_fault, last, longer, message, message_code, messages_of, newer, numbers_of, or_else, outcome, text, unless, value_fault}
pub use Rattle.mum_fields.specs.NoField.{BeginsWithKey, BeginsWithVarint, HasFieldFault, HasNoVarint, IsNoWireType, StopsAt, above_64_bits, cut_fixed4, cut_fixed8, group_begins, group_ends, long_block, no_key, no_length, no_number, no_varint, no_wire_type, seven, six}
pub use Rattle.mum_fields.specs.Payload.{AreFields, Walk, at_start, ended, fields, first, packed, stopped_by, walk_more, walk_with}
pub use Rattle.mum_fields.specs.Survey.{AreParts, Grows, Held, Many, Single, Slot, Takes, all_size, answered, cut, flat, form_of, has_number, has_room, held_after, is_sound, label_of, later, layer, number_of, one_size, outlined, own, own_missing, part_of, size, slot_of, slot_rule, spelled_size, surveyed, whole_part}
pub use Rattle.mum_fields.specs.Table.{Blocks, Field, Layout, Nothing, One, ReadsAs, Scalar_of, Table, Value, Values, all_in, decoded, decoded_by, each_item, each_message, gathered, has_items, has_value, is_set, items, layout, least, lesser, missing, missing_in, no_values, one_in, one_item, parts, rising, row_items, rule_of, rules, scalar_number, spelled, unless_missing, unset, value_after, value_of, values_after, whole}
pub use Rattle.mum_fields.specs.Written.{Fits, FitsContent, Item, block_item, block_items, each_block, each_number, placed_at, placed_from, skipped, spelling, value_bytes, varint_item, written}
pub use Rattle.mum_fields.specs.declared.{fault.FaultKind.FaultKind, fault.FaultKind.TheVariants.BadLength, fault.FaultKind.TheVariants.BadText, fault.FaultKind.TheVariants.BadVarint, fault.FaultKind.TheVariants.BadWireType, fault.FaultKind.TheVariants.Truncated, fault.FieldFault.FieldFault, field.Value.Value as CodeValue, message.MessageFault.MessageFault, message.MessageFault.TheVariants.MissingField, pass.Part.Part, pass.TheConstants.FIELD_LIMIT, shape.FieldShape.FieldShape, shape.Kind.Kind, shape.Kind.TheVariants.Number, shape.Kind.TheVariants.Raw, shape.Kind.TheVariants.Utf8, shape.Label.Label, shape.Label.TheVariants.Optional, shape.Label.TheVariants.Repeated, shape.Label.TheVariants.Required, shape.Label.TheVariants.RequiredOr, shape.Scalar.Scalar, shape.Scalar.TheVariants.Signed32, shape.Scalar.TheVariants.Truth, shape.Scalar.TheVariants.Unsigned32, shape.Scalar.TheVariants.Unsigned64}
unfoldable pub use lib.Utf8.{encode}
unfoldable pub use Rattle.std.specs.Str.{chars, is_utf8}
unfoldable pub use Rattle.mum_fields.specs.{Field.bytes_at, Field.field_at, Field.fixed4_at, Field.fixed8_at, Field.value_at, Field.varint_in_front, Payload.walk, Varint.IsVarint, Varint.shortest, Varint.varint}
