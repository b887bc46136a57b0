-- What the crates above use of these proofs. Declares nothing.
pub use Rattle.mum_document.proofs.{Elements.elements_step, Elements.elements_stop, Elements.folded, Elements.pushed, Elements.pushed_all, Objects.is_none-from, Objects.list_any-of_map, Sets.inserted, Sets.none_against, Values.array_from, Values.elements_in-items_view, Values.number_within}
pub use Rattle.mum_document.proofs.First.{first, first_none, later, later_none, none_said, none_within, not_new, on_ok_as, on_ok_through, or_else-end, out_of_memory, reads_later, rows_fault-append, rows_first, rows_later, rows_none, rows_reads, within_none}
