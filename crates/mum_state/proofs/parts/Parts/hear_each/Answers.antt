use Rattle.mum_state.proofs.Common.{◌≡◌, ◌∙◌, ◌==◌, ◌&&◌, ℕ, List, false, get_or, ap, sym, subst, IsTrue, list_all, list_any, SLOTS, is_there, User, IsProperRoster, SlotsRise, RosterState, slots_below_greatest, channels_of, heard_again, StateValue, is_speaker}
use Rattle.mum_state.proofs.{Speaking.marked_seats, parts.Parts.hear_each.Goals.After-users}
use Rattle.mum_state.proofs.parts.Parts.hear_each.Goals as goal

-- the state before, by its parts
abbrev before : After-users → StateValue
before c = record {
  server = c.self.inside.server;
  accounts = c.self.inside.accounts;
  tree = c.self.inside.channels.tree;
  policies = c.self.inside.channels.policies;
  roster = c.self.inside.roster;
  counts = record { revision = c.self.inside.revision; policy = c.self.inside.stamps.policy; routing = c.self.inside.stamps.routing; slots = c.self.inside.slot_counts.items };
}

rise : (c : After-users) → SlotsRise SLOTS 0 (before c).roster.sessions
rise c = slots_below_greatest (before c).roster (subst (λ (s : StateValue). IsProperRoster s.roster) (sym c.self.view_is) c.requires.proper)

pub speakers-speakers-requires : goal.speakers-speakers-requires
speakers-speakers-requires c = subst (SlotsRise SLOTS 0) (sym c.users.ensures) (rise c)

pub returns : goal.returns
returns c =
    let at = (goal.at.returns c).After-users in
    let inside = subst (λ (s : StateValue). IsTrue (list_all (λ user. is_there s.tree.channels user.channel) s.roster.sessions)) (sym c.self.view_is) c.requires.inside in
    let marked = subst
    (λ (users : List User). (slot : ℕ) → get_or c.speakers-speakers.result slot false ≡ list_any (λ user. (user.slot.0 == slot) && is_speaker c.args.renewed.now c.args.all (channels_of (before at)) user) users)
    c.users.ensures c.speakers-speakers.ensures in
    ap (λ (roster : RosterState). record (before at) { roster = roster })
    (c.place_all.ensures.outcome ∙ marked_seats c.args.renewed.now c.args.all c.speakers-speakers.result (before at) (rise at) inside marked)
    ∙ ap (heard_again c.args.renewed.now c.args.all) c.self.view_is
