use Rattle.mum_journal_laws.proofs.Runs.{is_legal}
use Rattle.mum_journal_laws.proofs.journals.journals_are_legal.Goals as goal

pub returns : goal.returns
returns g c state asked workers rows opened summary entries left run document keeps =
    is_legal g.D.Conn.Link.facts g.D.Door.facts g.K.Clock.last g.K.Clock.calls g.P.Keeper.facts state asked workers rows opened summary entries left run document c.hearers_are_the_route.ensures.members
    (λ number pass room first worker turns begun all. c.voice_entries_are_the_looks.ensures run.began number pass room first worker turns begun all)
    (λ number pass room first worker turns begun all. c.later_looks_see_more.ensures.follows run.began number pass room first worker turns begun all)
    (λ old worker turns all. c.connections_rise.ensures.rise run.began old worker turns all)
    (λ old worker turns all. c.connections_rise.ensures.own run.began old worker turns all)
    (λ number pass room first worker turns connection begun all. c.each_connection_has_one_closing_entry.ensures run.began number pass room first worker turns connection begun all)
    (c.entries_are_of_the_turns.ensures state asked workers rows opened summary entries left run)
    (c.packets_go_by_the_decisions.ensures state asked workers rows opened summary entries left run) keeps c.commands_are_heard_again.ensures.requests
