-- The names that the proofs of this crate take from elsewhere, passed on from one place. Declares nothing.
pub use Rattle.std.proofs.lemmas.{Bool.Decides.nat_tests, Grind.flat_map-append, Grind.fold-append, List.append-nil, List.length-map, List.map-append, List.take_more, Result.err_from_is_err_and}
pub use Rattle.std.proofs.Common.{Bool, Err, IfOk, IfSome, IsErrAnd, List, None, Ok, OnOk, Option, Result, Some, [], add-one, ap, append_assoc, arith, drop, drop-cons, false, fold, get_or, is_some, length, map, not, option_map, refl, rules, suc, sym, take, true, ℕ, ◌++◌, ◌+◌, ◌<◌, ◌||◌, ◌∙◌, ◌∷◌, ◌≡◌, ◌≤◌}
pub use Rattle.std.specs.{Borrow.Bor, List.flat_map, List.list_any, Option.option_map_or, Str.bytes_eq}
pub use Rattle.std.specs.Prelude.{codes, is_none, nat_lt, unwrap_or}
pub use Rattle.indexmap.specs.IndexSet.{insert_key}
pub use Rattle.serde_json.specs.Data.{Data, Items, Members, array, boolean, float, member, negative, null, number, object, string, unsigned}
pub use Rattle.serde_json.specs.{Find.as_array, Find.as_object, Find.get, View.items_of, View.items_view, View.members_view, View.view}
pub use Rattle.serde_json.specs.declared.value.Value.{Value}
pub use Rattle.mum_policy.specs.declared.policy.Whom.{TheVariants.Account, TheVariants.Group, Whom}
pub use Rattle.mum_document.specs.{Fault.Fault, Fault.against, Fault.place_text, Given.entry_list_rows, Given.group_list_rows, Policy.account_of, Policy.id_rows, Policy.inheriting_rows, Policy.right_rows, Policy.whom_of, Policy.whom_rows, Policy.with_group_met, Reading.Reads, Value.elements_in, Value.elements_of, Value.greatest, Value.list_fault, Value.number_fault, Value.number_of}
pub use Rattle.mum_document.specs.Object.{Row, each_fault, elements_fault, new_name_rows, rows_fault, text_at, unknown_fault, unknown_key}
pub use Rattle.mum_document.specs.declared.fault.{ConfigFault.ConfigFault, ConfigFault.TheVariants.Limit, ConfigFault.TheVariants.OutOfRange, ConfigFault.TheVariants.UnknownKey, ConfigFault.TheVariants.WrongKind, DocumentError.DocumentError}
unfoldable pub use Rattle.mum_document.specs.{Fault.or_else, Fault.within, Policy.entry_fault, Policy.entry_of, Policy.group_fault, Policy.group_of, Reading.Names, Value.needed, Value.wanted}
