use Rattle.mum_record.proofs.Common.{◌^◌, ◌<◌, arith, rules, IsBytes, FitsTypes}
use Rattle.mum_record.proofs.Fits.{OnOk-from}
use Rattle.mum_record.proofs.write.text_of.Goals as goal

pub returns-in_ok-digits-in-Frame-clause-fits : goal.returns-in_ok-digits-in-Frame-clause-fits
returns-in_ok-digits-in-Frame-clause-fits c =
    let shown : IsBytes c.as_slice-bytes.result.now = λ i. search rules in
    let small : IsBytes c.in-Frame.bytes = rw c.as_slice-bytes.ensures at shown in
    let number : c.in-Frame.connection < 2 ^ 32 = omega arith in
    OnOk-from c.format-in-Frame.result (FitsTypes c.args.step.now) (rw c.in-Frame.is (number, small))
