use Rattle.mum_config.proofs.Common.{◌≡◌, ◌++◌, [], map, err_from_is_err_and, view, link_edit, link_fault, with_link_met, links_in, elements_fault, first, on_ok_through, or_else-end, reads_later}
use Rattle.mum_config.proofs.config.links_in.Goals as goal

pub returns-in_err-values-clause-reads : goal.returns-in_err-values-clause-reads
returns-in_err-values-clause-reads c =
    let p = err_from_is_err_and c.from_residual.result c.from_residual.ensures.1 in
    rw (p.1, p.2) (first _ _ _ c.in_err-values.ensures)

pub returns-clause-reads : goal.returns-clause-reads
returns-clause-reads c =
    let read = c.at.ensures.reads (elements_fault (link_fault c.args.depths.now.entries) with_link_met [] 0 (map view c.in_ok-values.values.now)) tt c.read_links.ensures.reads in
    rw or_else-end (reads_later _ _ tt c.at.result c.in_ok-values.ensures.0 (rw c.in_ok-values.ensures.1 at read))

pub returns-clause-edits : goal.returns-clause-edits
returns-clause-edits c = on_ok_through (c.read_links.new.edits.items ≡ c.args.edits.now.items ++ map link_edit (links_in (view c.args.object.now.value.now))) c.at.result c.read_links.result c.at.ensures.ok (rw c.in_ok-values.ensures.1 at c.read_links.ensures.edits)
