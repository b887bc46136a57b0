-- What the keeper has at the end of a run.
use Rattle.mum_serve_laws.proofs.Common.{◌≡◌, ◌∙◌, ℕ, Bool, true, false, List, Option, None, Some, IfSome, ap, sym, subst, ◌||◌, QueueId, DoorFacts, LinkFacts, KeeperFacts, MirrorFacts, opening_of, Settles, StoreFacts, HoldsKept, KeepEnd, settled, KeptRows, Opening, Service, Loads, state_over, LoadsAndServes, CameToStore, HasStored, archive_queue, Objects, Entries, Whole, Summary, StateValue, Edit, KeepsTheEnd}
use Rattle.mum_serve_laws.proofs.Running.{end_is}
use Rattle.mum_keeper.specs.declared.keeper.KeepEnd.TheVariants as keeps

second_no : (one other : Bool) → (one || other) ≡ false → other ≡ false
second_no true other never = absurd (let both : true ≡ false = never in cc)
second_no false other never = never

for_each : {X : Type 0} (P Q : X → Type 0) (one : Option X) → ((x : X) → P x → Q x) → IfSome one P → IfSome one Q
for_each P Q None so has = tt
for_each P Q (Some x) so has = so x has

module _ {P : Type 0} (keeper_facts : P → KeeperFacts) where
  -- a comparison in which nothing failed, and for which there was memory, leaves what is kept of the state
  settled_well : (old new : MirrorFacts P) (state : StateValue) (end : KeepEnd) → Settles keeper_facts old state end new → new.failed ≡ false → new.no_memory ≡ false → HoldsKept keeper_facts new.keeper state
  settled_well old new state keeps.Kept settles failed starved = (settled keeper_facts old new state settles).0
  settled_well old new state keeps.Failed settles failed starved = absurd (let no : false ≡ true = sym failed ∙ ap (λ (m : MirrorFacts P). m.failed) settles.leaves in cc no)
  settled_well old new state keeps.NoMemory settles failed starved = absurd (let no : false ≡ true = sym starved ∙ ap (λ (m : MirrorFacts P). m.no_memory) settles.leaves in cc no)

  abbrev HasTheEnd : P → StateValue → List ℕ → Type 0
  HasTheEnd left state path = HoldsKept keeper_facts left state × IfSome (keeper_facts left).opened_at (λ known. known ≡ path)

  pub kept_well : (began : Opening) (path : Option (List ℕ)) (keeper loaded left : P) (rows : Option KeptRows) (archive : Option QueueId) (store : Option (StoreFacts P)) (state : StateValue) (failed starved : Bool)
      → Loads keeper_facts path keeper loaded rows → HasStored keeper_facts began rows loaded archive store → CameToStore keeper_facts (opening_of (keeper_facts loaded)) state (Some loaded) store failed starved left
      → failed ≡ false → starved ≡ false → IfSome path (HasTheEnd left state)
  kept_well began None keeper loaded left rows archive store state failed starved loads stored came well enough = tt
  kept_well began (Some path) keeper loaded left None archive store state failed starved loads stored came well enough = absurd loads
  kept_well began (Some path) keeper loaded left (Some rows) archive None state failed starved loads stored came well enough = absurd stored
  kept_well began (Some path) keeper loaded left (Some rows) archive (Some store) state failed starved loads stored came well enough = (
    subst (λ (p : P). HoldsKept keeper_facts p state) (sym came.keeper_is)
        (settled_well store.mirror came.settled state came.end came.settles (sym came.failed_is ∙ well) (sym came.memory_is ∙ enough)),
    subst (λ (known : Option (List ℕ)). IfSome known (λ one. one ≡ path)) (sym came.since.path) loads.0.at,
  )

module _ {D K P L : Type 0} (facts : L → LinkFacts) (door_facts : D → DoorFacts) (last calls : K → ℕ) (keeper_facts : P → KeeperFacts) (edits : List Edit) (asked : Service) (workers : ℕ) (objects : Objects D K P) (summary : Summary) (entries : Entries) (left : Objects D K P) (served : LoadsAndServes facts door_facts last calls keeper_facts edits asked workers objects (Whole summary entries) left) where
  pub keeps_the_end : summary.keeper_failed ≡ false → summary.no_memory ≡ false → IfSome asked.keep (KeepsTheEnd facts door_facts last calls keeper_facts edits asked workers objects summary entries left served)
  keeps_the_end well enough =
      let run = served.serves.run in
      let loads : Loads keeper_facts asked.keep objects.keeper served.serves.opened.keeper served.rows =
      subst (λ (p : P). Loads keeper_facts asked.keep objects.keeper p served.rows) (sym served.serves.keeper) served.loads in
      let ends = end_is facts door_facts last calls keeper_facts (state_over edits served.rows) asked workers served.rows served.serves.opened summary entries left run in
      for_each _ (KeepsTheEnd facts door_facts last calls keeper_facts edits asked workers objects summary entries left served) asked.keep
      (λ path has. record { rows = subst (λ (s : StateValue). HoldsKept keeper_facts left.keeper s) ends has.0; path_is = has.1 })
      (kept_well keeper_facts run.began asked.keep objects.keeper served.serves.opened.keeper left.keeper served.rows (archive_queue run.turned.first_owner) run.store _ summary.keeper_failed run.starved loads run.stored run.store_came well
      (second_no _ run.starved (sym run.memory ∙ enough)))
