use Rattle.mum_route.proofs.Common.{◌∙◌, ◌&&◌, false, true, Bool, ap, sym, aimed, may}
use Rattle.mum_route.proofs.Among.{among-covered, reached_in}
use Rattle.mum_route.proofs.cover.covers.Goals as goal

pub returns-then-not-reaches-clause-value : goal.returns-then-not-reaches-clause-value
returns-then-not-reaches-clause-value g c =
    let state = c.args.state.now in
    let mine : Bool = may state c.args.aim.now.speaker c.args.aim.now.perm c.args.channel in
    sym (among-covered state (aimed c.args.aim.now) c.in-Some.ground c.args.channel c.in-Some.is
    ∙ ap (λ (t : Bool). t && mine) (reached_in state c.tree.result.now c.in-Some.ground c.args.channel c.reaches.result false c.tree.ensures.tree c.reaches.ensures c.if-not-reaches.true))

pub returns-clause-value : goal.returns-clause-value
returns-clause-value g c =
    let state = c.args.state.now in
    let mine : Bool = may state c.args.aim.now.speaker c.args.aim.now.perm c.args.channel in
    c.has_right.ensures.value
    ∙ sym (among-covered state (aimed c.args.aim.now) c.in-Some.ground c.args.channel c.in-Some.is
    ∙ ap (λ (t : Bool). t && mine) (reached_in state c.tree.result.now c.in-Some.ground c.args.channel c.reaches.result true c.tree.ensures.tree c.reaches.ensures c.if-not-reaches.false))
