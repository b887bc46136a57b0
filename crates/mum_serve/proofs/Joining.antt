-- The roles are joined by the queues that they were given.
use Rattle.mum_serve.proofs.Common.{◌≡◌, ◌∙◌, ℕ, Bool, List, [], ◌∷◌, Option, map, refl, sym, ap, subst, AllByRecursion, AllPairs, AllZip, ControlFacts, IsNewPass, lower_half, QueueFacts, QueueId, new_side, OwnerFacts, IsOpened, DeskItem, BellFacts, queues_of, WorkerFacts, JoinsShared, out_queues, Outs, new_queues, Shared, AreJoinedTo, IsJoinedTo, bell_queues, post_queues, side_queues, AreShared, AreTwo, SharesQueues, bells_of}
use Rattle.mum_outbox.specs.Facts.{PassFacts}
use Rattle.mum_serve.proofs.Naming.{same_lower, same_upper}

named : (L : Type 0) (names : List QueueId) → side_queues (map (new_side {L = L}) names) ≡ names
named L [] = refl
named L (name ∷ names) = ap (λ (more : List QueueId). name ∷ more) (named L names)

module _ {L N : Type 0} where
  each_joined : (posts voices : List QueueId) (desk : QueueId) (shared : List (Shared L N)) (workers : List (WorkerFacts L))
      → AllByRecursion (SharesQueues posts voices desk) shared → AllZip JoinsShared shared workers → AllByRecursion (IsJoinedTo posts voices desk) workers
  each_joined posts voices desk [] [] each over = tt
  each_joined posts voices desk [] (worker ∷ workers) each over = absurd over
  each_joined posts voices desk (one ∷ shared) [] each over = absurd over
  each_joined posts voices desk (one ∷ shared) (worker ∷ workers) each over = (
    record {
      desk_is = ap (λ (p : PassFacts DeskItem). p.queue) over.0.desk ∙ each.0.desk_is;
      posts_are = ap (λ (qs : List QueueFacts). queues_of qs) over.0.posts ∙ each.0.posts_are;
      voices_are = ap (λ (qs : List QueueFacts). queues_of qs) over.0.voices ∙ same_upper one.voice.items ∙ each.0.voices_are;
      outs_are = ap (λ (os : Outs). out_queues os) over.0.outs ∙ new_queues (map lower_half one.voice.items) ∙ same_lower one.voice.items ∙ each.0.voices_are;
    },
    each_joined posts voices desk shared workers each.1 over.1,
  )

  bells_joined : (shared : List (Shared L N)) (workers : List (WorkerFacts L)) → AllZip JoinsShared shared workers → bell_queues workers ≡ bells_of shared
  bells_joined [] [] over = refl
  bells_joined (one ∷ shared) [] over = absurd over
  bells_joined [] (worker ∷ workers) over = absurd over
  bells_joined (one ∷ shared) (worker ∷ workers) over =
      ap (λ (name : QueueId). name ∷ bell_queues workers) (ap (λ (bell : BellFacts L). bell.queue) over.0.bell)
      ∙ ap (λ (names : List QueueId). one.bell.queue ∷ names) (bells_joined shared workers over.1)

  -- an owner that was opened over these queues, and workers over what is shared of them
  pub are_joined : {D : Type 0} (control : ControlFacts) (door : D) (connections : ℕ) (journal : Bool) (bells : List QueueFacts) (store : Option QueueId) (desk : QueueFacts) (owner : OwnerFacts D L)
      (shared : List (Shared L N)) (workers : List (WorkerFacts L))
      → IsOpened control door connections journal (queues_of bells) store owner → IsNewPass desk owner.desk.pass
      → AreShared (post_queues control.posts) desk.queue (queues_of bells) shared → AllZip JoinsShared shared workers → AreJoinedTo owner workers
  are_joined {D} control door connections journal bells store desk owner shared workers opened new are over =
      let posts_are : post_queues owner.control.posts ≡ post_queues control.posts = ap (λ (o : OwnerFacts D L). post_queues o.control.posts) opened in
      let desk_is : owner.desk.pass.queue ≡ desk.queue = ap (λ (p : PassFacts DeskItem). p.queue) new in
      let bells_are : side_queues owner.bells ≡ queues_of bells = ap (λ (o : OwnerFacts D L). side_queues o.bells) opened ∙ named L (queues_of bells) in
      record {
        bells_are = bells_joined shared workers over ∙ are.bells_are ∙ sym bells_are;
        voices = are.voices;
        each =
            subst (λ (names : List QueueId). AllByRecursion (IsJoinedTo names are.voices owner.desk.pass.queue) workers) (sym posts_are)
            (subst (λ (name : QueueId). AllByRecursion (IsJoinedTo (post_queues control.posts) are.voices name) workers) (sym desk_is)
            (each_joined (post_queues control.posts) are.voices desk.queue shared workers are.each over));
        bells_apart = subst (AllPairs AreTwo) (sym bells_are) are.bells_apart;
        posts_apart = subst (AllPairs AreTwo) (sym posts_are) are.posts_apart;
        voices_apart = are.voices_apart;
      }
