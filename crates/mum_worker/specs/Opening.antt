-- How a worker begins, and what is asked of it outside its turns.
use Rattle.std.specs.Prelude.{◌≡◌, ℕ, false, List, [], map, Option, Some}
use Rattle.std.specs.List.{All}
use Rattle.mum_base.specs.declared.number.SessionId.{SessionId}
use Rattle.mum_voice.specs.Packet.{Parts}
use Rattle.mum_outbox.specs.Calls.{IsNewPass, lower_half, new_pass, upper_half}
use Rattle.mum_outbox.specs.Facts.{PassFacts as BoxPassFacts, QueueId}
use Rattle.mum_route.specs.declared.hearer.Hearer.{Hearer}
use Rattle.mum_published.specs.Facts.{Opening, PassFacts}
use Rattle.mum_parcel.specs.Facts.{VoiceFacts}
use Rattle.mum_router.specs.{Offering.Outs, Picking.EntryStood, Picking.Picks, Routing.Routes}
use Rattle.mum_router.specs.declared.offering.Routed.{Routed}
use Rattle.mum_worker.specs.{Bell.new_bell, Facts.WorkerFacts, Facts.speaker_of}
use Rattle.mum_worker.specs.Record.{first_record, without_room}
use Rattle.mum_worker.specs.declared.worker.Shared.{Shared}

-- the queues of passes of voice boxes
abbrev pub out_queues : Outs → List QueueId
out_queues outs = map (λ (out : BoxPassFacts VoiceFacts). out.queue) outs

-- nothing was offered by this pass
abbrev pub IsUnused : BoxPassFacts VoiceFacts → Type 0
IsUnused out = (out.offered ≡ []) × (out.full ≡ 0)

module _ {L N : Type 0} where
  -- it takes from the boxes and the bell that it was given, and puts into these voice boxes and onto this desk, by new
  -- passes. The voice boxes have two owners then: by one it puts, and by the other it takes
  pub record JoinsShared (shared : Shared L N) (worker : WorkerFacts L) : Type 0 where
    pub posts : worker.boxes.posts ≡ shared.posts.items
    pub voices : worker.boxes.voices ≡ map upper_half shared.voice.items
    pub outs : worker.common.router.outs ≡ map new_pass (map lower_half shared.voice.items)
    pub desk : IsNewPass shared.desk worker.desk
    pub bell : worker.bell ≡ new_bell shared.bell.queue

module _ {L : Type 0} where
  -- it has no port, and did nothing yet
  pub record HasOpened (number : ℕ) (pass : PassFacts) (journal : Option ℕ) (worker : WorkerFacts L) : Type 0 where
    pub number_is : worker.number ≡ number
    pub none_yet : worker.last ≡ 0
    pub pass_is : worker.common.router.pass ≡ pass
    pub kept_is : worker.common.kept ≡ without_room (first_record journal)
    pub no_port : worker.ports ≡ []
    pub not_ended : worker.ended ≡ false
    pub nothing_taken : worker.bell.taken ≡ []
    pub nothing_put : worker.desk.offered ≡ []

  -- one look for a packet of the port's session
  pub record PicksFor (opening : Opening) (old : WorkerFacts L) (port : ℕ) (packet : Parts) (new : WorkerFacts L)
      (audience : List Hearer) : Type 0 where
    pub speaker : SessionId
    pub speaker_is : speaker_of old.ports port ≡ Some speaker
    pub picks : Picks opening old.common.router speaker packet new.common.router audience
    pub rest : new ≡ record old { common = record old.common { router = new.common.router } }

  -- one look, and its copies
  pub record RoutesFor (opening : Opening) (old : WorkerFacts L) (port : ℕ) (packet : Parts) (new : WorkerFacts L)
      (routed : Routed) : Type 0 where
    pub speaker : SessionId
    pub speaker_is : speaker_of old.ports port ≡ Some speaker
    pub routes : Routes opening old.common.router speaker packet new.common.router routed
    pub rest : new ≡ record old { common = record old.common { router = new.common.router } }

  -- the entry of the port's session and the packet's target was valid already at the state that the look saw
  pub record EntryStoodFor (opening : Opening) (old : WorkerFacts L) (port : ℕ) (packet : Parts)
      (new : WorkerFacts L) : Type 0 where
    pub speaker : SessionId
    pub speaker_is : speaker_of old.ports port ≡ Some speaker
    pub stood : EntryStood opening old.common.router speaker packet new.common.router
