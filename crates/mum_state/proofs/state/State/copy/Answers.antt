use Rattle.mum_state.proofs.Common.{sym, subst, IsProper}
use Rattle.mum_state.proofs.state.State.copy.Goals as goal

pub returns-clause-proper : goal.returns-clause-proper
returns-clause-proper c = subst IsProper (sym c.in_ok-copy.ensures) c.self.invariant
