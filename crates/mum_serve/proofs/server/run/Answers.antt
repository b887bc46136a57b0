-- What the crew gives back is what it was given, and has run where the crew did.
use Rattle.mum_serve.proofs.Common.{◌≡◌, ℕ, List, subst, sym, CrewEnd, DoorOpening, DoorFacts, KeeperFacts, KeeperOpening, StateValue, service, ComeTo, Objects, Entries, Unused, Roles, Summary}
use Rattle.mum_serve.proofs.Readied.{are_back, counted_so, gives_back, leaves_so, runs_so}
use Rattle.mum_serve.proofs.server.run.Goals as goal

pub end_roles-entries-requires-after_bounds : goal.end_roles-entries-requires-after_bounds
end_roles-entries-requires-after_bounds g c κs within =
    let run = c.run-run.ensures in
    let ready = c.in-Ok.ensures in (
      c.args.beginning.workers,
      are_back g.D.Conn.Link.facts g.D.Door.facts g.P.Keeper.facts g.N.Naming.opening g.K.Clock.last g.K.Clock.calls (service c.args.asked.now) c.args.beginning.workers c.args.rows c.args.objects _ c.run-run.result.end _ _ ready.ready run.turned run.refused run.no_memory,
      ready.workers,
      ready.entries,
    )

pub returns-clause-counts : goal.returns-clause-counts
returns-clause-counts g c = counted_so c.run-run.result.end _ _ _ _ _ c.ending_of.ensures c.run-run.ensures.counts

-- what came of the roles, by what the doors and the keeper had counted

come : {D K P G N R L : Type 0} (door_facts : D → DoorFacts) (last calls : K → ℕ) (keeper_facts : P → KeeperFacts) (end : CrewEnd) (state : StateValue) (door view at_door at_view : DoorOpening) (keeper at_keeper : KeeperOpening) (unused : Unused D P) (all : List (Roles D K P G N R L)) (summary : Summary)
    (entries : Entries) (left : Objects D K P)
    → at_door ≡ door → at_view ≡ view → at_keeper ≡ keeper → ComeTo door_facts last calls keeper_facts end state door view keeper unused all summary entries left
    → ComeTo door_facts last calls keeper_facts end state at_door at_view at_keeper unused all summary entries left
come door_facts last calls keeper_facts end state door view at_door at_view keeper at_keeper unused all summary entries left same_door same_view same_keeper comes =
    subst (λ (d : DoorOpening). ComeTo door_facts last calls keeper_facts end state d at_view at_keeper unused all summary entries left) (sym same_door)
    (subst (λ (v : DoorOpening). ComeTo door_facts last calls keeper_facts end state door v at_keeper unused all summary entries left) (sym same_view)
    (subst (λ (k : KeeperOpening). ComeTo door_facts last calls keeper_facts end state door view k unused all summary entries left) (sym same_keeper) comes))

pub returns-clause-runs : goal.returns-clause-runs
returns-clause-runs g c =
    let run = c.run-run.ensures in
    let ready = c.in-Ok.ensures.ready in
    let opening = g.N.Naming.opening in
    let back = c.run-run.result in
    runs_so g.D.Conn.Link.facts g.D.Door.facts g.P.Keeper.facts opening g.K.Clock.last g.K.Clock.calls (service c.args.asked.now) c.args.beginning.workers c.args.rows c.args.objects _ c.end_roles-entries.result.objects _ _ back.end c.ending_of.result _ back.roles.items
    c.ending_of.ensures ready (gives_back g.D.Conn.Link.facts g.D.Door.facts g.P.Keeper.facts opening back.end _ back.roles.items run.turned run.ended run.refused run.no_memory)
    (come g.D.Door.facts g.K.Clock.last g.K.Clock.calls g.P.Keeper.facts back.end opening.state _ _ _ _ _ _ _ back.roles.items _ _ _ c.requires.door c.requires.view c.requires.keeper c.end_roles-entries.ensures)

pub returns-clause-clock : goal.returns-clause-clock
returns-clause-clock g c =
    let run = c.run-run.ensures in
    let ready = c.in-Ok.ensures.ready in
    let opening = g.N.Naming.opening in
    let back = c.run-run.result in
    leaves_so g.D.Conn.Link.facts g.D.Door.facts g.P.Keeper.facts opening g.K.Clock.last g.K.Clock.calls (service c.args.asked.now) c.args.beginning.workers c.args.rows c.args.objects _ c.end_roles-entries.result.objects _ _ back.end c.ending_of.result _ back.roles.items
    c.ending_of.ensures ready (gives_back g.D.Conn.Link.facts g.D.Door.facts g.P.Keeper.facts opening back.end _ back.roles.items run.turned run.ended run.refused run.no_memory)
    (come g.D.Door.facts g.K.Clock.last g.K.Clock.calls g.P.Keeper.facts back.end opening.state _ _ _ _ _ _ _ back.roles.items _ _ _ c.requires.door c.requires.view c.requires.keeper c.end_roles-entries.ensures)
