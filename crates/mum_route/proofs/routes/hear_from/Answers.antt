use Rattle.mum_route.proofs.Common.{◌≡◌, ◌<◌, ◌∙◌, List, length, get_or, ap, arith, subst, sym, RosterState, User, heard_of}
use Rattle.mum_route.proofs.{Present.few_sessions, Slots.slots_below, Told.gathered_hearers, Told.gathered_members}
use Rattle.mum_route.proofs.routes.hear_from.Goals as goal

pub gather-requires-clause-few : goal.gather-requires-clause-few
gather-requires-clause-few g c =
    let few = few_sessions c.args.state.now c.roster.ensures.proper in
    let all : c.users.result.now ≡ c.args.state.now.roster.sessions = c.users.ensures ∙ ap (λ (r : RosterState). r.sessions) c.roster.ensures.roster in
    omega (arith, ap length all)

pub gather-requires-clause-slots : goal.gather-requires-clause-slots
gather-requires-clause-slots g c =
    let all : c.users.result.now ≡ c.args.state.now.roster.sessions = c.users.ensures ∙ ap (λ (r : RosterState). r.sessions) c.roster.ensures.roster in
    λ k d within. subst (λ (us : List User). (get_or us k d).slot.0 < 512) (sym all)
    (slots_below c.args.state.now.roster k d c.roster.ensures.proper.roster (omega (arith, ap length all)))

pub returns-clause-members : goal.returns-clause-members
returns-clause-members g c =
    let state = c.args.state.now in
    let few = few_sessions state c.roster.ensures.proper in
    let all : c.users.result.now ≡ state.roster.sessions = c.users.ensures ∙ ap (λ (r : RosterState). r.sessions) c.roster.ensures.roster in
    gathered_members state c.args.speaker.now c.args.target c.reached_by-reached.result c.gather.new.audience
    (record {
      room = omega arith;
      are = c.reached_by-reached.ensures.value;
      told = c.gather.ensures ∙ ap (λ (us : List User). heard_of c.args.speaker.now us c.reached_by-reached.result) all;
      heard = sym c.is_silent.ensures ∙ c.if-is_silent.false;
      away = c.if-target-eq-LOOPBACK.false;
    })

pub returns-clause-hearers : goal.returns-clause-hearers
returns-clause-hearers g c =
    let state = c.args.state.now in
    let few = few_sessions state c.roster.ensures.proper in
    let all : c.users.result.now ≡ state.roster.sessions = c.users.ensures ∙ ap (λ (r : RosterState). r.sessions) c.roster.ensures.roster in
    gathered_hearers state c.args.speaker.now c.args.target c.reached_by-reached.result c.gather.new.audience c.roster.ensures.proper c.requires.own
    (record {
      room = omega arith;
      are = c.reached_by-reached.ensures.value;
      told = c.gather.ensures ∙ ap (λ (us : List User). heard_of c.args.speaker.now us c.reached_by-reached.result) all;
      heard = sym c.is_silent.ensures ∙ c.if-is_silent.false;
      away = c.if-target-eq-LOOPBACK.false;
    })
