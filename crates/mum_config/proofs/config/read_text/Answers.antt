use Rattle.mum_config.proofs.Common.{◌≡◌, true, false, length, refl, arith, nat_lt, nat_tests, err_from_is_err_and, view, fault_of, first, later}
use Rattle.mum_config.proofs.{Documents.text_read, FewWorkers.text_workers, FitDocument.text_fits, FitDocument.text_fits_limits, FitSettings.settings_fit_limits}
use Rattle.mum_config.proofs.config.read_text.Goals as goal

pub returns-then-text-gt-DOCUMENT_LIMIT-clause-reads : goal.returns-then-text-gt-DOCUMENT_LIMIT-clause-reads
unfolding fault_of
returns-then-text-gt-DOCUMENT_LIMIT-clause-reads c =
    let long : nat_lt 65536 (length c.args.text.now) ≡ true = grind (arith, nat_tests) in
    first _ _ _ (rw long c.fault_at.ensures)

pub returns-in_err-document-clause-reads : goal.returns-in_err-document-clause-reads
unfolding fault_of
returns-in_err-document-clause-reads c =
    let p = err_from_is_err_and c.from_residual.result c.from_residual.ensures.1 in
    let short : nat_lt 65536 (length c.args.text.now) ≡ false = grind (arith, nat_tests) in
    rw (p.1, p.2, short) (later _ _ _ refl (first _ _ _ c.in_err-document.ensures))

pub returns-clause-reads : goal.returns-clause-reads
returns-clause-reads c =
    let short : nat_lt 65536 (length c.args.text.now) ≡ false = grind (arith, nat_tests) in
    text_read c.args.text.now (view c.in_ok-document.document) c.read_document.result short c.in_ok-document.ensures c.read_document.ensures

pub returns-clause-fits : goal.returns-clause-fits
returns-clause-fits c =
    let short : nat_lt 65536 (length c.args.text.now) ≡ false = grind (arith, nat_tests) in
    text_fits c.args.text.now c.read_document.result
    (text_read c.args.text.now (view c.in_ok-document.document) c.read_document.result short c.in_ok-document.ensures c.read_document.ensures)

pub returns-clause-limited : goal.returns-clause-limited
returns-clause-limited c =
    let short : nat_lt 65536 (length c.args.text.now) ≡ false = grind (arith, nat_tests) in
    text_fits_limits c.args.text.now c.read_document.result
    (text_read c.args.text.now (view c.in_ok-document.document) c.read_document.result short c.in_ok-document.ensures c.read_document.ensures)

pub returns-clause-alone : goal.returns-clause-alone
returns-clause-alone c =
    let short : nat_lt 65536 (length c.args.text.now) ≡ false = grind (arith, nat_tests) in
    settings_fit_limits c.args.text.now c.read_document.result
    (text_read c.args.text.now (view c.in_ok-document.document) c.read_document.result short c.in_ok-document.ensures c.read_document.ensures)

pub returns-clause-workers : goal.returns-clause-workers
returns-clause-workers c =
    let short : nat_lt 65536 (length c.args.text.now) ≡ false = grind (arith, nat_tests) in
    text_workers c.args.text.now c.read_document.result
    (text_read c.args.text.now (view c.in_ok-document.document) c.read_document.result short c.in_ok-document.ensures c.read_document.ensures)
