use Rattle.mum_address.proofs.Common.{◌≡◌, sym, ap, ◌∙◌, arith, reading, plain, needs, wanted}
use Rattle.mum_address.proofs.Pieces.{wanted-fits}
use Rattle.mum_address.proofs.reader.HeaderReader.wants.Goals as goal

pub returns-in-Needs-clause-most : goal.returns-in-Needs-clause-most
returns-in-Needs-clause-most c =
    let e : needs c.in-Needs.count ≡ reading c.args.self.now = sym (ap plain c.in-Needs.is) ∙ c.header.ensures.exact in
    omega (arith, ap wanted e, wanted-fits c.args.self.now)
