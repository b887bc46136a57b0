-- What a run decides could be asked for, and its packets are routed by the workers of their connections.
use Rattle.mum_recording_laws.proofs.Common.{false≢true, past_before, JournalsOfRunsAreAsked, first_core}
use Rattle.mum_recording_laws.proofs.{Following.begins, Following.follow, Noting.asked_of_run, Placing.placed_of_run}

pub journals_asked_lem : JournalsOfRunsAreAsked
journals_asked_lem journal run written allowed recorded =
    let told = follow (first_core journal) (past_before journal) run journal.controls (begins journal) (λ i waits. absurd (false≢true waits)) allowed recorded.commands in
    (asked_of_run journal run written allowed recorded, placed_of_run journal run allowed recorded told.1)
