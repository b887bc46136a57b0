use Rattle.mum_control.proofs.Common.{◌∙◌, subst, ap, AllByRecursion, Verdict, FitsWhereAccepted, FitsFrame, reply_end, edits_of, current}
use Rattle.mum_control.proofs.Settling.{settled_accepting, settled_denying}
use Rattle.mum_control.proofs.control.Control.settle.Goals as goal

pub accept-requires-clause-fits : goal.accept-requires-clause-fits
accept-requires-clause-fits g c = subst (FitsWhereAccepted (current c.args.self.now)) c.in-Ok.ensures.edit c.requires.fits

pub accept-requires-clause-frame : goal.accept-requires-clause-frame
accept-requires-clause-frame g c = (subst (λ (v : Verdict). AllByRecursion FitsFrame (edits_of v)) c.in-Ok.ensures.edit c.requires.frame).0

pub accept-requires-clause-end : goal.accept-requires-clause-end
accept-requires-clause-end g c = c.end_of-end.ensures ∙ ap reply_end c.in-Ok.ensures.edit

pub returns-in-Ok : goal.returns-in-Ok
returns-in-Ok g c =
    let reply = c.accept.result in
    settled_accepting c.args.self.now c.args.connection c.args.session c.args.decided c.in-Ok.edit reply c.accept.new.self c.in-Ok.ensures.edit c.accept.ensures

pub returns-in-Err : goal.returns-in-Err
returns-in-Err g c =
    let reply = c.deny.result in
    settled_denying c.args.self.now c.args.connection c.args.session c.args.decided c.in-Err.denied reply c.deny.new.self c.in-Err.ensures.others.0 c.in-Err.ensures.others.1 c.deny.ensures
