use Rattle.mum_core.proofs.Common.{◌∙◌, List, Option, Some, ap, subst, sym, Caches, RouteEntry, CachedCore, EachIsSound, KeepsFor, LooksThrough, CoreState, state_at, worker_at, changed_at}
use Rattle.mum_core.proofs.Looking.{each_looked, each_without, looks_through, sound_at_look}
use Rattle.mum_core.proofs.cached.Core.take_look.Goals as goal

pub invariant_of-self : goal.invariant_of-self
invariant_of-self c =
    let machine : CoreState = c.self.inside.machine in
    subst (λ (caches : List (Option Caches)). EachIsSound machine caches) (sym c.take_own_at.ensures.others) (each_without machine c.self.inside.caches.items c.args.worker c.self.invariant)

pub look-requires-clause-sound : goal.look-requires-clause-sound
look-requires-clause-sound c =
    let machine : CoreState = c.self.inside.machine in
    c.in_ok-own.ensures.sound (state_at machine c.args.revision)
    (sound_at_look machine c.self.inside.caches.items c.args.worker c.args.revision c.know_edits.ensures.proper c.know_edits.ensures.fit c.in_ok-check_look.ensures.passes
    c.in_ok-check_look.ensures.there c.self.invariant)

pub invariant_of-self-in-Ok : goal.invariant_of-self-in-Ok
invariant_of-self-in-Ok c =
    let machine : CoreState = c.self.inside.machine in
    let own : Caches = c.look.new.caches in
    let items = c.put_at.ensures ∙ ap (λ (caches : List (Option Caches)). changed_at c.args.worker (λ _. Some own) caches) c.take_own_at.ensures.others in
    subst (λ (caches : List (Option Caches)). EachIsSound c.look.new.self caches) (sym items)
    (each_looked machine c.look.new.self c.self.inside.caches.items c.args.worker c.args.revision own c.know_edits.ensures.proper c.know_edits.ensures.fit
    c.in_ok-check_look.ensures.passes c.in-Ok.ensures.settled.1 c.in_ok-check_look.ensures.there c.in-Ok.ensures.sound c.self.invariant)

pub invariant_of-self-in-Err : goal.invariant_of-self-in-Err
invariant_of-self-in-Err c =
    let machine : CoreState = c.self.inside.machine in
    subst (λ (one : CoreState). EachIsSound one c.take_own_at.new.caches.items) (sym c.in-Err.ensures.settled.1)
    (subst (λ (caches : List (Option Caches)). EachIsSound machine caches) (sym c.take_own_at.ensures.others) (each_without machine c.self.inside.caches.items c.args.worker c.self.invariant))

pub returns-in-Ok-clause-caches : goal.returns-in-Ok-clause-caches
returns-in-Ok-clause-caches c =
    let machine : CoreState = c.self.inside.machine in
    let own : Caches = c.look.new.caches in
    let before : CachedCore = record { state = machine; caches = c.self.inside.caches.items } in
    let items = c.put_at.ensures ∙ ap (λ (caches : List (Option Caches)). changed_at c.args.worker (λ _. Some own) caches) c.take_own_at.ensures.others in
    let asked = subst (λ (routes : List RouteEntry). KeepsFor (state_at machine c.args.revision) (worker_at machine c.args.worker).held routes own.routes) c.in_ok-own.ensures.routes c.in-Ok.ensures.asked in
    subst (λ (old : CachedCore). LooksThrough old c.args.worker c.args.revision c.put_at.new.caches.items) c.self.view_is
    (subst (λ (caches : List (Option Caches)). LooksThrough before c.args.worker c.args.revision caches) (sym items)
    (looks_through before c.args.worker c.args.revision own c.self.invariant.as_many c.in_ok-check_look.ensures.there asked))
