use Rattle.mum_cache.proofs.Common.{◌∙◌, List, ap, length, subst, sym, length-set, RouteEntry, KeepsRoute}
use Rattle.mum_cache.proofs.Kept.{kept_sound, miss_kept}
use Rattle.mum_cache.proofs.routes.keep.Goals as goal

put_kept : goal.returns-clause-kept
put_kept g c =
    subst (λ (es : List RouteEntry). KeepsRoute c.args.state.now c.args.speaker.now.session c.args.target c.args.entries.now es) (sym c.put.ensures)
    (miss_kept c.args.state.now c.args.speaker.now c.args.target c.requires.speaker c.requires.target c.args.entries.now c.args.index
    c.stamps-routing.result.routing c.reached-reached.result c.requires.index c.stamps-routing.ensures.routing c.reached-reached.ensures.members)

pub returns-clause-kept : goal.returns-clause-kept
returns-clause-kept g c = put_kept g c

pub returns-clause-routes : goal.returns-clause-routes
returns-clause-routes g c =
    kept_sound c.args.state.now c.args.speaker.now c.args.target c.requires.speaker c.requires.target c.args.entries.now _ c.requires.room c.requires.routes
    (put_kept g c)

pub returns-clause-room : goal.returns-clause-room
returns-clause-room g c = ap length c.put.ensures ∙ length-set c.args.entries.now c.args.index _ ∙ c.requires.room
