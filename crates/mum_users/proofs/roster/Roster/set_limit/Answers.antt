use Rattle.mum_users.proofs.Common.{◌≤◌, ap, arith, RosterState}
use Rattle.mum_users.proofs.Rosters.{IsProper-limited}
use Rattle.mum_users.proofs.roster.Roster.set_limit.Goals as goal

pub invariant_of-self : goal.invariant_of-self
invariant_of-self c =
    let rises : c.self.inside.limit ≤ c.args.sessions = omega (arith, c.requires.rises, ap (λ (state : RosterState). state.limit) c.self.view_is) in
    record {
      proper = IsProper-limited _ c.args.sessions rises c.requires.within c.self.invariant.proper;
      rise = c.self.invariant.rise;
      numbered = c.self.invariant.numbered;
      member_masks = c.self.invariant.member_masks;
      enough = c.self.invariant.enough;
      listener_masks = c.self.invariant.listener_masks;
    }

pub returns-clause-proper : goal.returns-clause-proper
returns-clause-proper c =
    let rises : c.self.inside.limit ≤ c.args.sessions = omega (arith, c.requires.rises, ap (λ (state : RosterState). state.limit) c.self.view_is) in
    IsProper-limited _ c.args.sessions rises c.requires.within c.self.invariant.proper
