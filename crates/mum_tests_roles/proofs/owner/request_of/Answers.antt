use Rattle.std.proofs.Common.{inl, subst}
use Rattle.mum_port.proofs.Public.{asks-as_heard}
use Rattle.mum_port.specs.Asked.{AsksAsHeard}
use Rattle.mum_tests_roles.proofs.owner.request_of.Goals as goal

-- it is asked for by this frame
pub new-requires : goal.new-requires
new-requires c =
    inl (subst AsksAsHeard c.in-Ask.is
    (asks-as_heard c.args.session.now c.args.frame.kind c.args.frame.payload c.in_ok-command.field-0 c.in_ok-command.ensures.action))
