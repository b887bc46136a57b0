use Rattle.mum_journal_laws.proofs.OneServer.{is_one_server}
use Rattle.mum_journal_laws.proofs.one_server.runs_are_of_one_server.Goals as goal

pub returns : goal.returns
returns g c state asked workers rows opened summary entries left run =
    is_one_server g.D.Conn.Link.facts g.D.Door.facts g.K.Clock.last g.K.Clock.calls g.P.Keeper.facts state asked workers rows opened summary entries left run
    (λ number pass room first worker turns begun all. c.later_looks_see_more.ensures.follows run.began number pass room first worker turns begun all)
    (λ number pass room first worker turns slot begun all. c.copies_keep_their_order.ensures run.began number pass room first worker turns slot begun all)
    (c.packets_go_by_the_decisions.ensures state asked workers rows opened summary entries left run)
    (c.totals_are_of_the_turns.ensures state asked workers rows opened summary entries left run)
    (c.entries_are_of_the_turns.ensures state asked workers rows opened summary entries left run)
    (c.parcels_go_by_the_rules.ensures state asked workers rows opened summary entries left run)
    (c.journals_are_legal.ensures state asked workers rows opened summary entries left run)
