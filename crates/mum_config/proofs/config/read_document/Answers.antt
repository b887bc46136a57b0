use Rattle.mum_config.proofs.Common.{◌++◌, [], sym, ap, refl, ◌∙◌, err_from_is_err_and, view, first, later, none_said, out_of_memory, rows_first, rows_later, rows_none, account_list_rows, channel_list_rows, channels_met, config_of, edits_of, link_list_rows, object_fault_of, settings_rows}
use Rattle.mum_config.proofs.Documents.{document_none, document_said}
use Rattle.mum_config.proofs.config.read_document.Goals as goal

pub returns-in_err-refuse_others : goal.returns-in_err-refuse_others
unfolding object_fault_of config_of edits_of
returns-in_err-refuse_others c =
    let p = err_from_is_err_and c.from_residual.result c.from_residual.ensures.1 in
    rw (p.1, p.2) (later _ _ _ (document_none _ (sym c.is_object.ensures ∙ c.if-not-is_object.false)) (first _ _ _ (c.in_err-refuse_others.ensures)))

pub returns-in_err-settings : goal.returns-in_err-settings
unfolding object_fault_of config_of edits_of
returns-in_err-settings c =
    let p = err_from_is_err_and c.from_residual-in_err-settings.result c.from_residual-in_err-settings.ensures.1 in
    rw (p.1, p.2) (later _ _ _ (document_none _ (sym c.is_object.ensures ∙ c.if-not-is_object.false)) (later _ _ _ (c.in_ok-refuse_others.ensures.0) (rows_first [] (settings_rows (view c.args.document.now)) ((account_list_rows (view c.args.document.now)) ++ (channel_list_rows (view c.args.document.now)) ++ (link_list_rows (channels_met (view c.args.document.now)).depths (view c.args.document.now))) _ (c.in_err-settings.ensures.reads))))

pub returns-in_err-push : goal.returns-in_err-push
unfolding object_fault_of config_of edits_of
returns-in_err-push c =
    let p = err_from_is_err_and c.from_residual-in_err-push.result c.from_residual-in_err-push.ensures.1 in
    rw p.1 (out_of_memory _ _ p.2)

pub returns-in-Err : goal.returns-in-Err
unfolding object_fault_of config_of edits_of
returns-in-Err c =
    later _ _ _ (document_none _ (sym c.is_object.ensures ∙ c.if-not-is_object.false)) (later _ _ _ (c.in_ok-refuse_others.ensures.0) (rows_later [] (settings_rows (view c.args.document.now)) (account_list_rows (view c.args.document.now) ++ channel_list_rows (view c.args.document.now) ++ link_list_rows (channels_met (view c.args.document.now)).depths (view c.args.document.now)) _ c.in_ok-settings.ensures.reads.0 c.in-Err.ensures.reads))

pub returns-in-Ok : goal.returns-in-Ok
unfolding object_fault_of config_of edits_of
returns-in-Ok c = (
  none_said _ _ (document_none _ (sym c.is_object.ensures ∙ c.if-not-is_object.false)) (none_said _ _ (c.in_ok-refuse_others.ensures.0) (rows_none [] (settings_rows (view c.args.document.now)) (account_list_rows (view c.args.document.now) ++ channel_list_rows (view c.args.document.now) ++ link_list_rows (channels_met (view c.args.document.now)).depths (view c.args.document.now)) c.in_ok-settings.ensures.reads.0 c.in-Ok.ensures.reads.0)),
  rw (
    c.unwrap_or-workers.ensures,
    ap (λ s. s.workers) c.in_ok-settings.ensures.reads.1,
    c.from_vec.ensures,
    c.in-Ok.ensures.edits,
    c.in_ok-push.ensures.items,
    c.new-edits.ensures.items,
    c.into_edit.ensures,
    c.in_ok-settings.ensures.reads.1,
  ) refl,
)

pub returns-then-not-is_object : goal.returns-then-not-is_object
unfolding object_fault_of
returns-then-not-is_object c = first _ _ _ (rw (document_said _ (sym c.is_object.ensures ∙ c.if-not-is_object.true)) c.fault_at.ensures)
