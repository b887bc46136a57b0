use Rattle.mum_config.proofs.Common.{◌++◌, append_assoc, err_from_is_err_and, view, on_ok_as, rows_first, rows_later, rows_reads, account_list_rows, channel_list_rows, channels_met, link_list_rows}
use Rattle.mum_config.proofs.config.lists_in.Goals as goal

pub returns-in_err-accounts_in-clause-reads : goal.returns-in_err-accounts_in-clause-reads
returns-in_err-accounts_in-clause-reads c =
    let p = err_from_is_err_and c.from_residual.result c.from_residual.ensures.1 in
    rw (p.1, p.2) (rows_first c.args.object.now.dot.now (account_list_rows (view c.args.object.now.value.now)) ((channel_list_rows (view c.args.object.now.value.now)) ++ (link_list_rows (channels_met (view c.args.object.now.value.now)).depths (view c.args.object.now.value.now))) _ c.in_err-accounts_in.ensures.reads)

pub returns-in_err-depths-clause-reads : goal.returns-in_err-depths-clause-reads
returns-in_err-depths-clause-reads c =
    let p = err_from_is_err_and c.from_residual-in_err-depths.result c.from_residual-in_err-depths.ensures.1 in
    rw (p.1, p.2) (rows_later c.args.object.now.dot.now (account_list_rows (view c.args.object.now.value.now)) ((channel_list_rows (view c.args.object.now.value.now)) ++ (link_list_rows (channels_met (view c.args.object.now.value.now)).depths (view c.args.object.now.value.now))) _ c.in_ok-accounts_in.ensures.reads.0 (rows_first c.args.object.now.dot.now (channel_list_rows (view c.args.object.now.value.now)) (link_list_rows (channels_met (view c.args.object.now.value.now)).depths (view c.args.object.now.value.now)) _ c.in_err-depths.ensures.reads))

pub returns-clause-reads : goal.returns-clause-reads
returns-clause-reads c =
    let value = view c.args.object.now.value.now in
    let dot = c.args.object.now.dot.now in
    let links = rw c.in_ok-depths.ensures.reads.1 at c.links_in-read.ensures.reads in
    rows_reads tt dot (account_list_rows value) (channel_list_rows value ++ link_list_rows (channels_met value).depths value) c.links_in-read.result c.in_ok-accounts_in.ensures.reads.0
    (rows_reads tt dot (channel_list_rows value) (link_list_rows (channels_met value).depths value) c.links_in-read.result c.in_ok-depths.ensures.reads.0 links)

pub returns-clause-edits : goal.returns-clause-edits
returns-clause-edits c =
    on_ok_as c.links_in-read.result c.links_in-read.ensures.edits (λ links. rw (links, c.in_ok-depths.ensures.edits, c.in_ok-accounts_in.ensures.edits) (simp append_assoc))
