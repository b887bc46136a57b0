use Rattle.mum_state.proofs.Common.{◌≡◌, ◌∙◌, false, ap, sym, subst, IsTrue, list_all, none-some, is_there, RosterState, One, heard_again, StateValue}
use Rattle.mum_state.proofs.{Marking.heard_absent, Marking.heard_here, Marking.heard_one, parts.Parts.hear_one.Goals.After-may_speak-speaks}
use Rattle.mum_state.proofs.parts.Parts.hear_one.Goals as goal

-- the state before, by its parts
abbrev before : After-may_speak-speaks → StateValue
before c = record {
  server = c.self.inside.server;
  accounts = c.self.inside.accounts;
  tree = c.self.inside.channels.tree;
  policies = c.self.inside.channels.policies;
  roster = c.self.inside.roster;
  counts = record { revision = c.self.inside.revision; policy = c.self.inside.stamps.policy; routing = c.self.inside.stamps.routing; slots = c.self.inside.slot_counts.items };
}

inside : (c : After-may_speak-speaks) → IsTrue (list_all (λ user. is_there (before c).tree.channels user.channel) (before c).roster.sessions)
inside c = subst (λ (s : StateValue). IsTrue (list_all (λ user. is_there s.tree.channels user.channel) s.roster.sessions)) (sym c.self.view_is) c.requires

pub unreachable-requires : goal.unreachable-requires
unreachable-requires c =
    let at = (goal.at.unreachable-requires c).After-may_speak-speaks in
    none-some _ (sym (heard_here c.args.slot (before at) c.in-Some.user.now c.may_speak-speaks.result c.in-Some.ensures.proper (inside at) (sym c.in-Some.ensures.row) c.may_speak-speaks.ensures)
    ∙ c.in-Err.ensures.outcome.0)

pub returns-in-None : goal.returns-in-None
returns-in-None c = subst (λ (s : StateValue). s ≡ heard_again (One c.args.slot) false s) c.self.view_is (heard_absent c.args.slot _ (sym c.in-None.ensures.row))

pub returns-in-Ok : goal.returns-in-Ok
returns-in-Ok c =
    let at = (goal.at.returns-in-Ok c).After-may_speak-speaks in
    ap (λ (roster : RosterState). record (before at) { roster = roster }) c.in-Ok.ensures.outcome.1
    ∙ heard_one c.args.slot (before at) c.in-Some.user.now c.may_speak-speaks.result c.in-Some.ensures.proper (inside at) (sym c.in-Some.ensures.row) c.may_speak-speaks.ensures
    ∙ ap (heard_again (One c.args.slot) false) c.self.view_is
