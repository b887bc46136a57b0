use Rattle.mum_route.proofs.Common.{◌≡◌, ◌<◌, ◌∙◌, List, length, get_or, map, ap, arith, subst, sym, RosterState, User, heard_of, member_of}
use Rattle.mum_route.proofs.{Present.few_sessions, Spoken.gathered_as_hearers, Spoken.gathered_as_members, Slots.slots_below}
use Rattle.mum_route.proofs.routes.hear_reached.Goals as goal

pub gather-requires-clause-few : goal.gather-requires-clause-few
gather-requires-clause-few c =
    let few = few_sessions c.args.state.now c.roster.ensures.proper in
    let all : c.users.result.now ≡ c.args.state.now.roster.sessions = c.users.ensures ∙ ap (λ (r : RosterState). r.sessions) c.roster.ensures.roster in
    omega (arith, ap length all)

pub gather-requires-clause-slots : goal.gather-requires-clause-slots
gather-requires-clause-slots c =
    let all : c.users.result.now ≡ c.args.state.now.roster.sessions = c.users.ensures ∙ ap (λ (r : RosterState). r.sessions) c.roster.ensures.roster in
    λ k d within. subst (λ (us : List User). (get_or us k d).slot.0 < 512) (sym all)
    (slots_below c.args.state.now.roster k d c.roster.ensures.proper.roster (omega (arith, ap length all)))

pub returns-clause-members : goal.returns-clause-members
returns-clause-members c =
    let all : c.users.result.now ≡ c.args.state.now.roster.sessions = c.users.ensures ∙ ap (λ (r : RosterState). r.sessions) c.roster.ensures.roster in
    ap (map member_of) (c.gather.ensures ∙ ap (λ (us : List User). heard_of c.args.speaker.now us c.args.reached.now) all)
    ∙ gathered_as_members c.args.speaker.now c.args.state.now.roster.sessions c.args.reached.now

pub returns-clause-hearers : goal.returns-clause-hearers
returns-clause-hearers c =
    let all : c.users.result.now ≡ c.args.state.now.roster.sessions = c.users.ensures ∙ ap (λ (r : RosterState). r.sessions) c.roster.ensures.roster in
    c.gather.ensures ∙ ap (λ (us : List User). heard_of c.args.speaker.now us c.args.reached.now) all
    ∙ gathered_as_hearers c.args.state.now c.args.speaker.now c.args.state.now.roster.sessions c.args.reached.now c.roster.ensures.proper c.requires (λ user has. has)
