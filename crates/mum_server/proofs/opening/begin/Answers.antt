-- The document that the line names opens what begins after it.
use Rattle.mum_server.proofs.Common.{◌≡◌, Some, config_of}
use Rattle.mum_server.proofs.Answered.{named_begins}
use Rattle.mum_server.proofs.opening.begin.Goals as goal

pub returns : goal.returns
returns c =
    let named : config_of c.args.line.now ≡ Some c.as_slice.result.now = cc (c.in_ok-document.ensures, c.as_slice.ensures) in
    named_begins c.args.n c.args.workers c.args.limits c.args.line.now c.as_slice.result.now c.open_core.result named c.open_core.ensures
