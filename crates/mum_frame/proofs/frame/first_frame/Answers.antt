use Rattle.mum_frame.proofs.Common.{ℕ, ◌≡◌, ◌-◌, List, length, take, drop, refl, ap, sym, ◌∙◌, arith, length-drop, take_rest, HEADER_LENGTH, named_length}
use Rattle.mum_frame.proofs.Headers.{HasNoFrame-no_header, HasNoFrame-cut, named_length-rest, whole_is}
use Rattle.mum_frame.proofs.frame.first_frame.Goals as goal

pub returns-then-bytes-lt-HEADER_LENGTH : goal.returns-then-bytes-lt-HEADER_LENGTH
returns-then-bytes-lt-HEADER_LENGTH c =
    (HasNoFrame-no_header c.args.bytes.now c.if-bytes-lt-HEADER_LENGTH.true, λ long. let header = long.header in omega arith)

pub returns-then-length-gt-PAYLOAD_LIMIT : goal.returns-then-length-gt-PAYLOAD_LIMIT
returns-then-length-gt-PAYLOAD_LIMIT c =
    let named : c.read_u32-named.result ≡ named_length c.args.bytes.now =
    c.read_u32-named.ensures ∙ sym (named_length-rest c.args.bytes.now) in
    (record { header = omega arith; above = omega arith }, named)

pub returns-then-after_header-length : goal.returns-then-after_header-length
returns-then-after_header-length c =
    let bytes : List ℕ = c.args.bytes.now in
    let named : c.read_u32-named.result ≡ named_length bytes = c.read_u32-named.ensures ∙ sym (named_length-rest bytes) in
    let room : length (take (length bytes - HEADER_LENGTH) (drop HEADER_LENGTH bytes)) ≡ length bytes - HEADER_LENGTH =
    ap length (take_rest bytes HEADER_LENGTH) ∙ length-drop HEADER_LENGTH bytes in
    (HasNoFrame-cut bytes (omega arith), λ long. let above = long.above in omega arith)

pub returns : goal.returns
returns c =
    let bytes : List ℕ = c.args.bytes.now in
    let named : c.read_u32-named.result ≡ named_length bytes = c.read_u32-named.ensures ∙ sym (named_length-rest bytes) in
    let room : length (take (length bytes - HEADER_LENGTH) (drop HEADER_LENGTH bytes)) ≡ length bytes - HEADER_LENGTH =
    ap length (take_rest bytes HEADER_LENGTH) ∙ length-drop HEADER_LENGTH bytes in
    whole_is bytes _ c.read_u16-kind.result c.read_u32-named.result (λ k. omega (arith, c.type_inv.bytes k)) c.read_u16-kind.ensures c.read_u16-kind.type_inv named c.if-length-gt-PAYLOAD_LIMIT.false (omega arith) refl
