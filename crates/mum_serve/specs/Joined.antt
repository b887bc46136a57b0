-- What joins the roles of a server: which queues each of them has.
use Rattle.std.specs.Prelude.{◌≡◌, List, map}
use Rattle.std.specs.List.{AllByRecursion, AllPairs}
use Rattle.mum_outbox.specs.Facts.{PassFacts, QueueId}
use Rattle.mum_parcel.specs.Facts.{PostFacts}
use Rattle.mum_worker.specs.{Boxes.queues as queues_of, Facts.WorkerFacts, Opening.out_queues}
use Rattle.mum_owner.specs.{Bell.SideFacts, Facts.OwnerFacts}
use Rattle.mum_serve.specs.Queues.{AreTwo}

-- the boxes into which the control owner posts
abbrev pub post_queues : List (PassFacts PostFacts) → List QueueId
post_queues posts = map (λ (post : PassFacts PostFacts). post.queue) posts

-- the bells into which an owner puts, by the places of their workers
abbrev pub side_queues : {L : Type 0} → List (SideFacts L) → List QueueId
side_queues {L} sides = map (λ (side : SideFacts L). side.queue) sides

module _ {L : Type 0} where
  -- the bells from which these workers take
  abbrev pub bell_queues : List (WorkerFacts L) → List QueueId
  bell_queues workers = map (λ (worker : WorkerFacts L). worker.bell.queue) workers

  -- which queues a worker has; boxes go slot by slot
  pub record IsJoinedTo (posts voices : List QueueId) (desk : QueueId) (worker : WorkerFacts L) : Type 0 where
    -- it puts commands onto this desk
    pub desk_is : worker.desk.queue ≡ desk
    -- its ports take notices from these boxes
    pub posts_are : queues_of worker.boxes.posts ≡ posts
    -- its ports take speech from these boxes
    pub voices_are : queues_of worker.boxes.voices ≡ voices
    -- and it puts the speech that it routes into the same boxes
    pub outs_are : out_queues worker.common.router.outs ≡ voices

module _ {D L : Type 0} where
  -- an owner and its workers, by their places
  pub record AreJoinedTo (owner : OwnerFacts D L) (workers : List (WorkerFacts L)) : Type 0 where
    -- the bell from which a worker takes is the one into which the owner puts what is for the worker at its place
    pub bells_are : bell_queues workers ≡ side_queues owner.bells
    -- the boxes of speech
    pub voices : List QueueId
    -- the desk is the one from which the owner takes commands, the boxes of notices are those into which the control owner
    -- posts, and the boxes of speech are the same for all workers
    pub each : AllByRecursion (IsJoinedTo (post_queues owner.control.posts) voices owner.desk.pass.queue) workers
    -- the bells of two workers are two queues, and so are two boxes of notices, and two boxes of speech
    pub bells_apart : AllPairs AreTwo (side_queues owner.bells)
    pub posts_apart : AllPairs AreTwo (post_queues owner.control.posts)
    pub voices_apart : AllPairs AreTwo voices
