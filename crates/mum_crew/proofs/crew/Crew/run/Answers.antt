use Rattle.mum_crew.proofs.Common.{◌≡◌, AllZip, Came, CrewEnd}
use Rattle.mum_crew.proofs.{TurnLemmas.came_openings, TurnLemmas.came_turned, crew.Crew.run.Given.Over, crew.Crew.run.Goals.After-count, crew.Crew.run.Goals.in-Threads, crew.Crew.run.Goals.in-Turns}
use Rattle.mum_crew.proofs.crew.Crew.run.Goals as goal

-- in threads or in this one, the roles came to those that are back
came : (g : Over) (c : After-count g) → c.match-plan.run.end ≡ CrewEnd.Ran
    → AllZip (Came g.R.Role.opening g.R.Role.turned) c.args.roles.items c.match-plan.run.roles.items
came g c =
    elim c.match-plan.branch [
      | in-Threads w ↦ rw w.run-is w.run_threads-run.ensures.came
      | in-Turns w ↦ rw w.run-is w.run_turns-run.ensures.came
    ]

pub returns-clause-openings : goal.returns-clause-openings
returns-clause-openings g c = λ ran.
    came_openings g.R.Role.opening g.R.Role.turned c.args.roles.items c.match-plan.run.roles.items (came g (goal.at.returns-clause-openings g c).After-count ran)

pub returns-clause-turned : goal.returns-clause-turned
returns-clause-turned g c = λ ran.
    came_turned g.R.Role.opening g.R.Role.turned c.args.roles.items c.match-plan.run.roles.items (came g (goal.at.returns-clause-turned g c).After-count ran)
