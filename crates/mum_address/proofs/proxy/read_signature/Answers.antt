use Rattle.mum_address.proofs.Common.{◌≡◌, ◌++◌, drop, length, sym, both_ways, Decides-eqb, starts_is, signature}
use Rattle.mum_address.proofs.Fronts.{read_begun, read_unsigned}
use Rattle.mum_address.proofs.proxy.read_signature.Goals as goal

pub returns-then-starts_with : goal.returns-then-starts_with
returns-then-starts_with c =
    let bytes = c.args.bytes.now in
    let is : signature ≡ bytes ++ drop (length bytes) signature = (starts_is Decides-eqb signature bytes _ c.starts_with.ensures.value).0 c.if-starts_with.true in
    sym (read_begun bytes (drop (length bytes) signature) is c.requires)

pub returns-else-starts_with : goal.returns-else-starts_with
returns-else-starts_with c =
    let bytes = c.args.bytes.now in
    sym (read_unsigned bytes c.requires (λ rest e. both_ways c.starts_with.result c.if-starts_with.false ((starts_is Decides-eqb signature bytes _ c.starts_with.ensures.value).1 rest e)))
