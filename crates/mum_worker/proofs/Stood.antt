-- The entry that a packet of a port asks for.
use Rattle.mum_worker.proofs.CommonNames.{◌≡◌, ◌∙◌, ℕ, Some, subst, sym, same_Some, SessionId, Opening, EntryStood, Parts, WorkerFacts, speaker_of, EntryStoodFor}

-- it is of the session that is found for the port
pub stood_for : {L : Type 0} (opening : Opening) (old new : WorkerFacts L) (port : ℕ) (packet : Parts) (speaker : SessionId)
    → speaker_of old.ports port ≡ Some speaker → EntryStoodFor opening old port packet new
    → EntryStood opening old.common.router speaker packet new.common.router
stood_for opening old new port packet speaker found stands =
    subst (λ (session : SessionId). EntryStood opening old.common.router session packet new.common.router)
    (same_Some _ _ (sym stands.speaker_is ∙ found)) stands.stood
