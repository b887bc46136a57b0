use Rattle.mum_record.proofs.Common.{◌≡◌, ◌∙◌, sym, arith, nat_tests, named_length}
use Rattle.mum_record.proofs.Frames.{TestsFrame-cut, TestsFrame-no_header, TestsFrame-named, named_length-read}
use Rattle.mum_record.proofs.read.has_named_length.Goals as goal

pub returns-then-word-clause-named : goal.returns-then-word-clause-named
returns-then-word-clause-named c = TestsFrame-cut c.args.word.now c.if-word.true

pub returns-in_default-clause-named : goal.returns-in_default-clause-named
returns-in_default-clause-named c =
    TestsFrame-no_header c.args.word.now c.if-word.false (λ header is. c.in_default.not-Ok header (c.from_hex.ensures ∙ is))

pub returns-then-length-le-PAYLOAD_LIMIT-clause-named : goal.returns-then-length-le-PAYLOAD_LIMIT-clause-named
returns-then-length-le-PAYLOAD_LIMIT-clause-named c =
    let named : c.read_u32-length.result ≡ named_length c.in-Ok.header = c.read_u32-length.ensures ∙ named_length-read c.in-Ok.header in
    TestsFrame-named c.args.word.now c.in-Ok.header c.read_u32-length.result _ c.if-word.false (sym c.from_hex.ensures ∙ c.in-Ok.is) named (grind (arith, nat_tests))

pub returns-else-length-le-PAYLOAD_LIMIT-clause-named : goal.returns-else-length-le-PAYLOAD_LIMIT-clause-named
returns-else-length-le-PAYLOAD_LIMIT-clause-named c =
    let named : c.read_u32-length.result ≡ named_length c.in-Ok.header = c.read_u32-length.ensures ∙ named_length-read c.in-Ok.header in
    TestsFrame-named c.args.word.now c.in-Ok.header c.read_u32-length.result _ c.if-word.false (sym c.from_hex.ensures ∙ c.in-Ok.is) named (grind (arith, nat_tests))
