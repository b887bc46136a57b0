use Rattle.mum_route.proofs.Common.{◌≡◌, ◌<◌, ◌∙◌, List, length, get_or, refl, arith, ap, sym, RosterState, User}
use Rattle.mum_route.proofs.{Filled.filled_more, Hearers.found_own, Present.few_sessions}
use Rattle.mum_route.proofs.reach.pass_aim.Goals as goal

pub bounds-reached-i : goal.bounds-reached-i
bounds-reached-i g c =
    let few = few_sessions c.args.state.now c.roster.ensures.proper in
    let all : c.users-user-items.result.now ≡ c.args.state.now.roster.sessions = c.users-user-items.ensures ∙ ap (λ (r : RosterState). r.sessions) c.roster.ensures.roster in
    omega (arith, ap length all, c.loop-i-test.true, c.loop-i.auto.reached, c.requires.whole)

pub loop-i-init : goal.loop-i-init
loop-i-init g c = record {
  sound = c.requires.sound;
  right = c.requires.right;
  last = tt;
  filled = record { done = λ k d below. absurd (omega arith); rest = λ k above. refl };
}

pub loop-i-preserved : goal.loop-i-preserved
loop-i-preserved g c =
    let few = few_sessions c.args.state.now c.roster.ensures.proper in
    let all : c.users-user-items.result.now ≡ c.args.state.now.roster.sessions = c.users-user-items.ensures ∙ ap (λ (r : RosterState). r.sessions) c.roster.ensures.roster in
    let here : c.loop-i.i < length c.loop-i.reached = omega (arith, ap length all, c.loop-i-test.true, c.loop-i.auto.reached, c.requires.whole) in
    let within : c.loop-i.i < length c.args.state.now.roster.sessions = omega (arith, ap length all, c.loop-i-test.true) in
    let read : c.user-item.result ≡ get_or c.args.state.now.roster.sessions c.loop-i.i c.user-item.result = c.user-item.is ∙ ap (λ (us : List User). get_or us c.loop-i.i c.user-item.result) all in
    record {
      sound = c.reached_with.ensures.sound;
      right = c.reached_with.ensures.kept;
      last = c.reached_with.ensures.last;
      filled = filled_more _ _ _ _ c.loop-i.i c.user-item.result c.reached_with.result here within read c.reached_with.ensures.value c.loop-i.invariant.filled;
    }

pub returns-clause-each : goal.returns-clause-each
returns-clause-each g c =
    let all : c.users-user-items.result.now ≡ c.args.state.now.roster.sessions = c.users-user-items.ensures ∙ ap (λ (r : RosterState). r.sessions) c.roster.ensures.roster in
    λ k d within. c.loop-i.invariant.filled.done k d (omega (arith, ap length all, c.loop-i-test.false))

pub reached_with-requires-clause-own : goal.reached_with-requires-clause-own
reached_with-requires-clause-own g c =
    let all : c.users-user-items.result.now ≡ c.args.state.now.roster.sessions = c.users-user-items.ensures ∙ ap (λ (r : RosterState). r.sessions) c.roster.ensures.roster in
    let within : c.loop-i.i < length c.args.state.now.roster.sessions = omega (arith, ap length all, c.loop-i-test.true) in
    let read : c.user-item.result ≡ get_or c.args.state.now.roster.sessions c.loop-i.i c.user-item.result = c.user-item.is ∙ ap (λ (us : List User). get_or us c.loop-i.i c.user-item.result) all in
    found_own c.args.state.now c.user-item.result c.roster.ensures.proper (c.loop-i.i, within, sym read)
