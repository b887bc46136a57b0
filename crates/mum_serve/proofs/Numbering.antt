-- The passes of a server's roles have numbers of their own.
use Rattle.mum_serve.proofs.Common.{◌≡◌, ◌∙◌, ℕ, ◌*◌, ◌^◌, ◌<◌, ◌≤◌, List, [], ◌∷◌, map, refl, sym, ap, subst, arith, All, AllByRecursion, AllZip, ControlFacts, HasNumbers, IsNewPass, lower_half, new_pass, upper_half, QueueFacts, PostFacts, has_fewer, pass_below, OwnerFacts, Outs, WorkerFacts, JoinsShared, Shared, AreNumbered, HasOwnNumber, IsNumbered, HasBoxes, All-head, All-tail}
use Rattle.mum_outbox.specs.Facts.{PassFacts}
use Rattle.mum_serve.proofs.Naming.{all_map, have_fewer, lower_have, upper_have}

-- a new pass of an owner that has a number has one of its own
new_number : (I : Type 0) (owner : QueueFacts) → HasNumbers 1 owner → HasOwnNumber (new_pass {I = I} owner)
new_number I owner has = pass_below owner (new_pass {I = I} owner) has refl

pub new_numbers : {I : Type 0} (owners : List QueueFacts) (passes : List (PassFacts I)) → passes ≡ map new_pass owners → All (HasNumbers 1) owners → All HasOwnNumber passes
new_numbers {I} owners passes are has =
    subst (All HasOwnNumber) (sym are) (all_map new_pass (HasNumbers 1) HasOwnNumber (new_number I) owners has)

module _ {L N : Type 0} where
  worker_numbered : (one : Shared L N) (worker : WorkerFacts L) → HasBoxes one → JoinsShared one worker → IsNumbered worker
  worker_numbered one worker has joins = record {
    desk = pass_below one.desk worker.desk (has_fewer (2 ^ 33) 1 one.desk (omega arith) has.desk_numbers) joins.desk;
    outs = new_numbers (map lower_half one.voice.items) worker.common.router.outs joins.outs
        (have_fewer (2 ^ 32) 1 (map lower_half one.voice.items) (omega arith) (lower_have (2 ^ 32) one.voice.items has.voice_numbers));
    posts = subst (All (HasNumbers (2 ^ 32))) (sym joins.posts) (have_fewer (2 ^ 33) (2 ^ 32) one.posts.items (omega arith) has.post_numbers);
    voices = subst (All (HasNumbers (2 ^ 32))) (sym joins.voices) (upper_have (2 ^ 32) one.voice.items has.voice_numbers);
  }

  pub workers_numbered : (shared : List (Shared L N)) (workers : List (WorkerFacts L)) → All HasBoxes shared → AllZip JoinsShared shared workers → AllByRecursion IsNumbered workers
  workers_numbered [] [] has over = tt
  workers_numbered [] (worker ∷ workers) has over = absurd over
  workers_numbered (one ∷ shared) [] has over = absurd over
  workers_numbered (one ∷ shared) (worker ∷ workers) has over = (
    worker_numbered one worker (All-head HasBoxes one shared has) over.0,
    workers_numbered shared workers (All-tail HasBoxes one shared has) over.1,
  )
