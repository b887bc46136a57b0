-- The store of a server, from its opening to its end.
use Rattle.mum_serve.proofs.Common.{◌≡◌, ◌∙◌, Bool, true, Option, None, Some, is_some, false, refl, sym, ap, subst, QueueId, CrewEnd, Ran, Refused, NoMemory, KeeperFacts, IsSince, StoreFacts, KeeperOpening, KeptRows, Opening, PassFacts, StateValue, fresh_pass, CameToStore, EndsStore, GivesKeeperBack, HasStored, IsStoreOver, SettlesWhereRan, StoreBegins, StoresTurned}
use Rattle.mum_keeper.specs.Store.{IsOpened}

module _ {P : Type 0} where
  -- a store that was opened by a fresh pass, over the queue into which the owner puts
  pub store_begins : (opening : Opening) (rows : KeptRows) (pass : PassFacts) (keeper : P) (archive : Option QueueId) (queue : QueueId) (store : StoreFacts P) → pass ≡ fresh_pass opening → archive ≡ Some queue
      → IsOpened pass keeper rows queue store → StoreBegins opening rows keeper archive store
  store_begins opening rows pass keeper archive queue store fresh is opened =
      record { queue = queue; is_archive = is; opened = subst (λ (p : PassFacts). IsOpened p keeper rows queue store) fresh opened }

  -- the owner puts into the queue that it was given
  pub over_archive : (opening : Opening) (rows : Option KeptRows) (keeper : P) (given archive : Option QueueId) (store : Option (StoreFacts P)) (unused : Option P) → archive ≡ given → IsStoreOver opening rows keeper given store unused
      → IsStoreOver opening rows keeper archive store unused
  over_archive opening rows keeper given archive store unused same is = subst (λ (a : Option QueueId). IsStoreOver opening rows keeper a store unused) (sym same) is

  -- without a store the keeper is kept
  pub keeper_kept : (opening : Opening) (rows : Option KeptRows) (keeper : P) (archive : Option QueueId) (opened store : Option (StoreFacts P)) (unused : Option P) → IsStoreOver opening rows keeper archive opened unused
      → (store ≡ None → opened ≡ None) → is_some store ≡ false → is_some unused ≡ true
  keeper_kept opening rows keeper archive opened (Some store) unused is kept absent = absurd (cc absent)
  keeper_kept opening None keeper archive opened None unused is kept _ = ap (λ (u : Option P). is_some u) is.2
  keeper_kept opening (Some rows) keeper archive None None unused is kept _ = absurd is
  keeper_kept opening (Some rows) keeper archive (Some opened) None unused is kept _ = absurd (let same = kept refl in cc same)

  -- where the store made no turn, the keeper that comes back is the one that it was opened over
  pub keeper_back : (opening : Opening) (rows : Option KeptRows) (keeper : P) (archive : Option QueueId) (opened store : Option (StoreFacts P)) (unused : Option P) (left : P)
      → IsStoreOver opening rows keeper archive opened unused → store ≡ opened → GivesKeeperBack unused store left → left ≡ keeper
  keeper_back opening None keeper archive opened (Some store) unused left is same gives = absurd (let no = same ∙ is.0 in cc no)
  keeper_back opening None keeper archive opened None unused left is same gives = let both = sym gives ∙ is.2 in cc both
  keeper_back opening (Some rows) keeper archive None store unused left is same gives = absurd is
  keeper_back opening (Some rows) keeper archive (Some opened) None unused left is same gives = absurd (cc same)
  keeper_back opening (Some rows) keeper archive (Some opened) (Some store) unused left is same gives =
      let one : store ≡ opened = cc same in
      gives ∙ ap (λ (s : StoreFacts P). s.mirror.keeper) (one ∙ is.opened)

module _ {P : Type 0} (keeper_facts : P → KeeperFacts) where
  -- a store that turns led from its opening to its end
  pub has_stored : (opening : Opening) (rows : Option KeptRows) (keeper : P) (archive : Option QueueId) (opened store : Option (StoreFacts P)) (unused : Option P) → IsStoreOver opening rows keeper archive opened unused
      → StoresTurned keeper_facts opened store → ((one : StoreFacts P) → store ≡ Some one → one.ended ≡ true) → HasStored keeper_facts opening rows keeper archive store
  has_stored opening None keeper archive None None unused is turned ended = is.1
  has_stored opening None keeper archive None (Some store) unused is turned ended = absurd turned
  has_stored opening None keeper archive (Some opened) store unused is turned ended = absurd (let no = is.0 in cc no)
  has_stored opening (Some rows) keeper archive None store unused is turned ended = absurd is
  has_stored opening (Some rows) keeper archive (Some opened) None unused is turned ended = absurd turned
  has_stored opening (Some rows) keeper archive (Some opened) (Some store) unused is turned ended =
      record { first = opened; begun = is; turned = turned; ended = ended store refl }

  -- what came of the keeper that was not used, or of the store
  pub store_came : (counted now : KeeperOpening) (opening : Opening) (rows : Option KeptRows) (keeper : P) (archive : Option QueueId) (opened store : Option (StoreFacts P)) (unused : Option P) (state : StateValue) (failed no_memory : Bool) (left : P) → counted ≡ now
      → IsStoreOver opening rows keeper archive opened unused → StoresTurned keeper_facts opened store → CameToStore keeper_facts now state unused store failed no_memory left
      → CameToStore keeper_facts counted state (Some keeper) store failed no_memory left
  store_came counted now opening None keeper archive None None unused state failed no_memory left same is turned came = (came.0, came.1, sym is.2 ∙ came.2)
  store_came counted now opening None keeper archive None (Some store) unused state failed no_memory left same is turned came = absurd turned
  store_came counted now opening None keeper archive (Some opened) store unused state failed no_memory left same is turned came = absurd (let no = is.0 in cc no)
  store_came counted now opening (Some rows) keeper archive None store unused state failed no_memory left same is turned came = absurd is
  store_came counted now opening (Some rows) keeper archive (Some opened) None unused state failed no_memory left same is turned came = absurd turned
  store_came counted now opening (Some rows) keeper archive (Some opened) (Some store) unused state failed no_memory left same is turned came =
      subst (λ (o : KeeperOpening). CameToStore keeper_facts o state unused (Some store) failed no_memory left) (sym same) came

  -- a store that was settled where the roles have run, and then ended
  pub ends_store : (end : CrewEnd) (opening : KeeperOpening) (state : StateValue) (unused : Option P) (given : Option (StoreFacts P)) (store after : StoreFacts P) (failed no_memory : Bool) (left : P) → given ≡ Some store → SettlesWhereRan keeper_facts end store state after
      → left ≡ after.mirror.keeper → failed ≡ after.mirror.failed → no_memory ≡ after.mirror.no_memory → IsSince opening (keeper_facts left) failed → EndsStore keeper_facts end opening state unused given failed no_memory left
  ends_store Ran opening state unused given store after failed no_memory left is settles keeper_is failed_is memory_is since =
      rw is (record { end = settles.0; settled = after.mirror; settles = settles.1; failed_is = failed_is; memory_is = memory_is; keeper_is = keeper_is; since = since })
  ends_store Refused opening state unused given store after failed no_memory left is settles keeper_is failed_is memory_is since = rw is (keeper_is ∙ ap (λ (s : StoreFacts P). s.mirror.keeper) settles)
  ends_store NoMemory opening state unused given store after failed no_memory left is settles keeper_is failed_is memory_is since = rw is (keeper_is ∙ ap (λ (s : StoreFacts P). s.mirror.keeper) settles)
