-- The lines of the head, one after another.
use Rattle.mum_record.proofs.Common.{◌≡◌, ◌++◌, arith, string_bytes, IfOk-weaker, IsBytes, journal_line, version_with, workers_line, limits_lines, config_line}
use Rattle.mum_record.proofs.{Fits.OnOk-from, Written.appended, Written.head_text}
use Rattle.mum_record.proofs.journal_writer.push_head.Goals as goal

pub returns-clause-text : goal.returns-clause-text
returns-clause-text c =
    let first : string_bytes c.push_str.new.self ≡ string_bytes c.args.text.now ++ journal_line (version_with c.args.limits.now) = rw (c.first_line.ensures, c.with_limits.ensures) at c.in_ok-push_str.ensures.bytes in
    let workers : string_bytes c.push_line.new.text ≡ string_bytes c.push_str-2.new.self ++ workers_line c.args.workers = rw c.byte_word.ensures.word at c.in_ok-push_line.ensures in
    IfOk-weaker c.push_str-4.result _ _
    (λ _ is. head_text (string_bytes c.args.text.now) (journal_line (version_with c.args.limits.now)) (workers_line c.args.workers) (config_line c.args.config.now) _ _ _ _ _ _ _ (limits_lines c.args.limits.now)
    first c.in_ok-push_str-2.ensures.bytes workers c.in_ok-push_str-3.ensures.bytes c.in_ok-push_limits.ensures c.in_ok-push_config_line.ensures is)
    (appended c.push_str-4.result _ _ _ c.push_str-4.ensures.bytes)

pub returns-clause-fits : goal.returns-clause-fits
returns-clause-fits c = OnOk-from c.push_str-4.result (IsBytes c.args.config.now) (λ i. omega (arith, c.type_inv.config i))
