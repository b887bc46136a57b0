use Rattle.mum_document.proofs.Common.{◌<◌, [], length, refl, sym, ◌∙◌, rules, err_from_is_err_and, view, entry_fault, entry_of}
use Rattle.mum_document.proofs.{First.out_of_memory, Elements.each_step, Elements.each_stop, Elements.pushed}
use Rattle.mum_document.proofs.entry.read_entries.Goals as goal

pub returns-in_err-entries : goal.returns-in_err-entries
returns-in_err-entries c =
    let p = err_from_is_err_and c.from_residual.result c.from_residual.ensures.1 in
    rw p.1 (out_of_memory _ _ p.2)

pub returns-in_err-at_place : goal.returns-in_err-at_place
returns-in_err-at_place c =
    let p = err_from_is_err_and c.from_residual-in_err-at_place.result c.from_residual-in_err-at_place.ensures.1 in
    let v = c.index-values-place.result in
    let said = c.in_err-at_place.ensures.reads (entry_fault (view v)) tt c.read_entry.ensures.reads in
    rw (p.1, p.2, ← c.loop-place.invariant.0) (each_stop entry_fault _ c.args.values.now c.loop-place.place v c.index-values-place.is (search rules) said)

pub loop-place-preserved : goal.loop-place-preserved
loop-place-preserved c =
    let v = c.index-values-place.result in
    let read = c.in_ok-at_place.ensures.reads (entry_fault (view v)) tt c.read_entry.ensures.reads in
    let entries = rw c.in_ok-at_place.ensures.ok at c.read_entry.ensures.entries in
    let inside : c.loop-place.place < length c.args.values.now = search rules in (
      sym (each_step entry_fault c.args.values.now c.loop-place.place v c.index-values-place.is inside read.0) ∙ c.loop-place.invariant.0,
      pushed entry_of [] _ _ _ c.args.values.now c.loop-place.place v c.index-values-place.is inside c.loop-place.invariant.1 entries refl,
    )
