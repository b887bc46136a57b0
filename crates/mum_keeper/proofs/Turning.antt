-- What comes of the turns of a store.
use Rattle.mum_keeper.proofs.Common.{◌≡◌, ◌⊎◌, inl, inr, ⊎_elim, zero, suc, Bool, true, false, List, [], ◌∷◌, ◌++◌, length, length-append, Option, Some, None, IsTrue, refl, sym, ap, subst, ◌∙◌, arith, ◌↔◌, Contains, IfSome, is_some, AllByRecursion, option_map, Contains-append_left, Contains-push, IsPrefix, TurnsTo, Turn, kept, KeptRows, one_more, prefix_self, prefix_trans, ask_at, state_of, NoteFacts, Opening, PassFacts, AskAt, StateValue, Edit, BellFacts, NoMore, Noted, Ring, TakesRing, AreRowsOf, KeeperFacts, store_ask, Compares, MirrorFacts, Heeds, HeedsGiven, Observes, Settles, StoreFacts, StoreTurned, turn_of, CameTo, HasTurned, HoldsKept, IsStoreAsk, ShowsTo, KeepEnd}
use Rattle.mum_crew.specs.declared.role.Turn.TheVariants as turns
use Rattle.mum_keeper.specs.declared.keeper.KeepEnd.TheVariants as ends

-- where a value is known after it was set, it is this one
set_known : (old new : Option KeptRows) (now : KeptRows) → new ≡ option_map (λ known. now) old → IfSome new (λ known. known ≡ now)
set_known None new now is = subst (λ (r : Option KeptRows). IfSome r (λ known. known ≡ now)) (sym is) tt
set_known (Some rows) new now is = subst (λ (r : Option KeptRows). IfSome r (λ known. known ≡ now)) (sym is) refl

-- whether the store has ended after an item
abbrev pub ended_by : Ring → Bool → Bool
ended_by (Noted note) before = before
ended_by NoMore before = true

-- a turn answers that it is done exactly where the store has ended
pub is_done : (ended took : Bool) → (turn_of ended took ≡ turns.Done) ↔ IsTrue ended
is_done true took = ((λ e. refl), (λ e. refl))
is_done false true = ((λ e. absurd (cc e)), (λ e. absurd (cc e)))
is_done false false = ((λ e. absurd (cc e)), (λ e. absurd (cc e)))

module _ {P : Type 0} (facts : P → KeeperFacts) where
  -- ---- a comparison

  pub came_to : (old new : MirrorFacts P) (state : StateValue) (end : KeepEnd) → Settles facts old state end new → CameTo facts old state end new
  came_to old new state ends.Kept settles = set_known (facts old.keeper).rows (facts new.keeper).rows (kept state) settles.brings.brings.0
  came_to old new state ends.Failed settles = (settles.brings.brings.1, ap (λ (m : MirrorFacts P). m.failed) settles.leaves)
  came_to old new state ends.NoMemory settles = ap (λ (m : MirrorFacts P). m.no_memory) settles.leaves

  pub settled : (old new : MirrorFacts P) (state : StateValue) → Settles facts old state ends.Kept new
      → HoldsKept facts new.keeper state × (new.rows ≡ kept state)
  settled old new state settles = (came_to old new state ends.Kept settles, ap (λ (m : MirrorFacts P). m.rows) settles.leaves)

  -- the rows are the keeper's, where these are known
  abbrev pub IsTold : MirrorFacts P → Type 0
  IsTold mirror = IfSome (facts mirror.keeper).rows (λ known. known ≡ mirror.rows)

  same_told : (old new : MirrorFacts P) → (facts new.keeper).rows ≡ (facts old.keeper).rows → new.rows ≡ old.rows → IsTold old → IsTold new
  same_told old new same rows is =
      subst (λ (r : Option KeptRows). IfSome r (λ known. known ≡ new.rows)) (sym same)
      (subst (λ (list : KeptRows). IfSome (facts old.keeper).rows (λ known. known ≡ list)) (sym rows) is)

  told_after : (old new : MirrorFacts P) (now : KeptRows) (end : KeepEnd) → Compares facts old now end new → IsTold old → IsTold new
  told_after old new now ends.Kept compares is =
      subst (λ (list : KeptRows). IfSome (facts new.keeper).rows (λ known. known ≡ list)) (sym (ap (λ (m : MirrorFacts P). m.rows) compares.leaves))
      (set_known (facts old.keeper).rows (facts new.keeper).rows now compares.brings.brings.0)
  told_after old new now ends.Failed compares is = same_told old new compares.brings.brings.0 (ap (λ (m : MirrorFacts P). m.rows) compares.leaves) is
  told_after old new now ends.NoMemory compares is = same_told old new compares.brings.brings.0 (ap (λ (m : MirrorFacts P). m.rows) compares.leaves) is

  failed_after : (old new : MirrorFacts P) (now : KeptRows) (end : KeepEnd) → Compares facts old now end new → IsTrue old.failed → IsTrue new.failed
  failed_after old new now ends.Kept compares is = ap (λ (m : MirrorFacts P). m.failed) compares.leaves ∙ is
  failed_after old new now ends.Failed compares is = ap (λ (m : MirrorFacts P). m.failed) compares.leaves
  failed_after old new now ends.NoMemory compares is = ap (λ (m : MirrorFacts P). m.failed) compares.leaves ∙ is

  starved_after : (old new : MirrorFacts P) (now : KeptRows) (end : KeepEnd) → Compares facts old now end new → IsTrue old.no_memory → IsTrue new.no_memory
  starved_after old new now ends.Kept compares is = ap (λ (m : MirrorFacts P). m.no_memory) compares.leaves ∙ is
  starved_after old new now ends.Failed compares is = ap (λ (m : MirrorFacts P). m.no_memory) compares.leaves ∙ is
  starved_after old new now ends.NoMemory compares is = ap (λ (m : MirrorFacts P). m.no_memory) compares.leaves

  -- ---- an item

  -- what an item leaves: the look that was made for it, the comparison, and whether it was the last
  pub record Leaves (old : StoreFacts P) (ring : Ring) (new : StoreFacts P) : Type 0 where
    pub edits : List Edit
    pub goes_on : IsPrefix old.pass.seen edits
    pub seen : new.pass.seen ≡ edits
    pub asked : new.pass.asks ≡ old.pass.asks ++ ask_at edits store_ask ∷ []
    pub end : KeepEnd
    pub settles : Settles facts old.mirror (state_of old.pass.opening edits) end new.mirror
    pub bell : new.bell ≡ old.bell
    pub ended : new.ended ≡ ended_by ring old.ended

  observed : (old new : StoreFacts P) (pass : PassFacts) (ended : Bool) (end : KeepEnd) → pass.opening ≡ old.pass.opening → pass.seen ≡ old.pass.seen → pass.asks ≡ old.pass.asks
      → (looks : Observes facts (record old { pass = pass; ended = ended }) end new) → (ring : Ring) → ended ≡ ended_by ring old.ended → Leaves old ring new
  observed old new pass ended end opening seen asks looks ring is = record {
    edits = looks.edits;
    goes_on = subst (λ (list : List Edit). IsPrefix list looks.edits) seen looks.met.seen;
    seen = ap (λ (p : PassFacts). p.seen) looks.asked;
    asked = ap (λ (p : PassFacts). p.asks) looks.asked ∙ ap (λ (list : List AskAt). list ++ ask_at looks.edits store_ask ∷ []) asks;
    end = end;
    settles = subst (λ (o : Opening). Settles facts old.mirror (state_of o looks.edits) end new.mirror) opening looks.settles;
    bell = ap (λ (s : StoreFacts P). s.bell) looks.others;
    ended = ap (λ (s : StoreFacts P). s.ended) looks.others ∙ is;
  }

  leaves : (old new : StoreFacts P) (ring : Ring) (end : KeepEnd) → Heeds facts old ring end new → Leaves old ring new
  leaves old new (Noted note) end (pass, learnt, looks) =
      observed old new pass old.ended end (ap (λ (p : PassFacts). p.opening) learnt.same) (ap (λ (p : PassFacts). p.seen) learnt.same) (ap (λ (p : PassFacts). p.asks) learnt.same) looks (Noted note) refl
  leaves old new NoMore end looks = observed old new old.pass true end refl refl refl looks NoMore refl

  -- ---- a turn

  -- the bell gave nothing, and nothing changed but its count; or it gave an item, which was heeded
  abbrev pub Came : StoreFacts P → Option Ring → StoreFacts P → Type 0
  Came old None new = new ≡ record old { bell = record old.bell { empty = one_more old.bell.empty } }
  Came old (Some ring) new = Leaves (record old { bell = record old.bell { taken = old.bell.taken ++ ring ∷ [] } }) ring new

  came : (old new : StoreFacts P) (ring : Option Ring) (bell : BellFacts) → TakesRing old.bell ring bell → HeedsGiven facts (record old { bell = bell }) ring new → Came old ring new
  came old new None bell takes heeds = heeds ∙ ap (λ (b : BellFacts). record old { bell = b }) takes
  came old new (Some ring) bell takes heeds =
      subst (λ (b : BellFacts). Leaves (record old { bell = b }) ring new) takes (leaves (record old { bell = bell }) new ring heeds.0 heeds.1)

  pub turn_came : (old new : StoreFacts P) (turn : Turn) (turned : StoreTurned facts old turn new) → Came old turned.hears.ring new
  turn_came old new turn turned = came old new turned.hears.ring turned.hears.bell turned.hears.takes turned.hears.heeds

  answered : (old new : StoreFacts P) (turn : Turn) (turned : StoreTurned facts old turn new) → turn ≡ turn_of new.ended (is_some turned.hears.ring)
  answered old new turn turned = turned.came_to ∙ ap (λ (took : Bool). turn_of new.ended took) turned.hears.took_is

  shows : (old new : StoreFacts P) (ring : Option Ring) (took : Bool) → Came old ring new → took ≡ is_some ring → IsTrue took → ShowsTo facts old new
  shows old new None took came_so is so = let none : false ≡ true = sym is ∙ so in absurd (cc none)
  shows old new (Some ring) took came_so is so = record {
    edits = came_so.edits;
    goes_on = came_so.goes_on;
    seen = came_so.seen;
    asked = came_so.asked;
    end = came_so.end;
    came_to = came_to old.mirror new.mirror (state_of old.pass.opening came_so.edits) came_so.end came_so.settles;
  }

  pub turn_shows : (old new : StoreFacts P) (turn : Turn) (turned : StoreTurned facts old turn new) → IsTrue turned.took → ShowsTo facts old new
  turn_shows old new turn turned is = shows old new turned.hears.ring turned.took (turn_came old new turn turned) turned.hears.took_is is

  seen_by : (old new : StoreFacts P) (ring : Option Ring) → Came old ring new → IsPrefix old.pass.seen new.pass.seen
  seen_by old new None came_so = subst (λ (s : StoreFacts P). IsPrefix old.pass.seen s.pass.seen) (sym came_so) (prefix_self old.pass.seen)
  seen_by old new (Some ring) came_so = subst (λ (list : List Edit). IsPrefix old.pass.seen list) (sym came_so.seen) came_so.goes_on

  pub sees_more : (turns : List Turn) (old new : StoreFacts P) → TurnsTo (StoreTurned facts) old turns new → IsPrefix old.pass.seen new.pass.seen
  sees_more [] old new same = subst (λ (s : StoreFacts P). IsPrefix old.pass.seen s.pass.seen) (sym same) (prefix_self old.pass.seen)
  sees_more (turn ∷ turns) old new all =
      prefix_trans old.pass.seen all.0.pass.seen new.pass.seen (seen_by old all.0 all.1.hears.ring (turn_came old all.0 turn all.1)) (sees_more turns all.0 new all.2)

  -- ---- what a turn keeps

  failed_by : (old new : StoreFacts P) (ring : Option Ring) → Came old ring new → IsTrue old.mirror.failed → IsTrue new.mirror.failed
  failed_by old new None came_so is = ap (λ (s : StoreFacts P). s.mirror.failed) came_so ∙ is
  failed_by old new (Some ring) came_so is = failed_after old.mirror new.mirror (kept (state_of old.pass.opening came_so.edits)) came_so.end came_so.settles is

  pub failed_stays : (old new : StoreFacts P) (turn : Turn) → StoreTurned facts old turn new → IsTrue old.mirror.failed → IsTrue new.mirror.failed
  failed_stays old new turn turned is = failed_by old new turned.hears.ring (turn_came old new turn turned) is

  starved_by : (old new : StoreFacts P) (ring : Option Ring) → Came old ring new → IsTrue old.mirror.no_memory → IsTrue new.mirror.no_memory
  starved_by old new None came_so is = ap (λ (s : StoreFacts P). s.mirror.no_memory) came_so ∙ is
  starved_by old new (Some ring) came_so is = starved_after old.mirror new.mirror (kept (state_of old.pass.opening came_so.edits)) came_so.end came_so.settles is

  pub starved_stays : (old new : StoreFacts P) (turn : Turn) → StoreTurned facts old turn new → IsTrue old.mirror.no_memory → IsTrue new.mirror.no_memory
  starved_stays old new turn turned is = starved_by old new turned.hears.ring (turn_came old new turn turned) is

  -- what holds of a store between its turns: its rows are the keeper's; a look was made for each item, and asked nothing
  -- else; and it has ended exactly where the last item was taken
  pub record Stands (store : StoreFacts P) : Type 0 where
    pub is_told : IsTold store.mirror
    pub looks : length store.pass.asks ≡ length store.bell.taken
    pub asks : AllByRecursion IsStoreAsk store.pass.asks
    pub ended : IsTrue store.ended ↔ Contains store.bell.taken NoMore

  ask_more : (asks : List AskAt) (ask : AskAt) → AllByRecursion IsStoreAsk asks → IsStoreAsk ask → AllByRecursion IsStoreAsk (asks ++ ask ∷ [])
  ask_more [] ask all one = (one, tt)
  ask_more (first ∷ asks) ask all one = (all.0, ask_more asks ask all.1 one)

  contained : (list : List Ring) (ring : Ring) → Contains (list ++ ring ∷ []) NoMore → Contains list NoMore ⊎ (ring ≡ NoMore)
  contained [] ring (zero, within, is) = inr is
  contained [] ring (suc k, within, is) = absurd (omega arith)
  contained (first ∷ list) ring (zero, within, is) = inl (zero, omega arith, is)
  contained (first ∷ list) ring (suc k, within, is) =
      ⊎_elim (λ (on : Contains list NoMore). inl (suc on.0, omega (arith, on.1), on.2)) (λ (e : ring ≡ NoMore). inr e)
      (contained list ring (k, omega arith, is))

  ended_more : (ring : Ring) (before after : Bool) (taken : List Ring) → after ≡ ended_by ring before → IsTrue before ↔ Contains taken NoMore → IsTrue after ↔ Contains (taken ++ ring ∷ []) NoMore
  ended_more (Noted note) before after taken is both = (
    (λ on. Contains-append_left taken (Noted note ∷ []) NoMore (both.0 (sym is ∙ on))),
    (λ on. is ∙ ⊎_elim (λ (e : Contains taken NoMore). both.1 e) (λ (e : Noted note ≡ NoMore). absurd (cc e)) (contained taken (Noted note) on)),
  )
  ended_more NoMore before after taken is both = ((λ on. Contains-push taken NoMore), (λ on. is))

  stands_by : (old new : StoreFacts P) (ring : Option Ring) → Came old ring new → Stands old → Stands new
  stands_by old new None came_so stands =
      subst (λ (s : StoreFacts P). Stands s) (sym came_so) (record { is_told = stands.is_told; looks = stands.looks; asks = stands.asks; ended = stands.ended })
  stands_by old new (Some ring) came_so stands =
      let taken : new.bell.taken ≡ old.bell.taken ++ ring ∷ [] = ap (λ (b : BellFacts). b.taken) came_so.bell in
      record {
        is_told = told_after old.mirror new.mirror (kept (state_of old.pass.opening came_so.edits)) came_so.end came_so.settles stands.is_told;
        looks = omega (
          arith,
          ap (λ (list : List AskAt). length list) came_so.asked,
          length-append old.pass.asks (ask_at came_so.edits store_ask ∷ []),
          ap (λ (list : List Ring). length list) taken,
          length-append old.bell.taken (ring ∷ []),
          stands.looks,
        );
        asks = subst (λ (list : List AskAt). AllByRecursion IsStoreAsk list) (sym came_so.asked) (ask_more old.pass.asks (ask_at came_so.edits store_ask) stands.asks refl);
        ended = subst (λ (list : List Ring). IsTrue new.ended ↔ Contains list NoMore) (sym taken) (ended_more ring old.ended new.ended old.bell.taken came_so.ended stands.ended);
      }

  pub turn_stands : (old new : StoreFacts P) (turn : Turn) → StoreTurned facts old turn new → Stands old → Stands new
  turn_stands old new turn turned stands = stands_by old new turned.hears.ring (turn_came old new turn turned) stands

  turns_stand : (old : StoreFacts P) (turns : List Turn) (new : StoreFacts P) → TurnsTo (StoreTurned facts) old turns new → Stands old → Stands new
  turns_stand old [] new same stands = subst (λ (s : StoreFacts P). Stands s) (sym same) stands
  turns_stand old (turn ∷ turns) new all stands = turns_stand all.0 turns new all.2 (turn_stands old all.0 turn all.1 stands)

  known_told : (told_rows : Option KeptRows) (rows : KeptRows) → AreRowsOf told_rows rows → IfSome told_rows (λ known. known ≡ rows)
  known_told None rows has = tt
  known_told (Some known) rows has = has.0

  pub all_stand : (turns : List Turn) (store : StoreFacts P) → HasTurned facts turns store → Stands store
  all_stand turns store run =
      turns_stand run.opened turns store run.all
      (subst (λ (s : StoreFacts P). Stands s) (sym run.opening) (record {
        is_told = known_told (facts run.keeper).rows run.rows run.has;
        looks = ap (λ (list : List AskAt). length list) run.no_look;
        asks = subst (λ (list : List AskAt). AllByRecursion IsStoreAsk list) (sym run.no_look) tt;
        ended = ((λ on. absurd (cc on)), (λ on. absurd (omega (arith, on.1))));
      }))

  -- ---- what a turn answers

  idle_by : (ring : Option Ring) (ended : Bool) (old new : StoreFacts P) → Came old ring new → turns.Idle ≡ turn_of ended (is_some ring) → new.bell ≡ record old.bell { empty = one_more old.bell.empty }
  idle_by None ended old new came_so is = ap (λ (s : StoreFacts P). s.bell) came_so
  idle_by (Some ring) true old new came_so is = absurd (cc is)
  idle_by (Some ring) false old new came_so is = absurd (cc is)

  pub idle : (old new : StoreFacts P) → StoreTurned facts old turns.Idle new → new.bell ≡ record old.bell { empty = one_more old.bell.empty }
  idle old new turned = idle_by turned.hears.ring new.ended old new (turn_came old new turns.Idle turned) (answered old new turns.Idle turned)

  worked_by : (ring : Option Ring) (ended : Bool) (old new : StoreFacts P) → Came old ring new → ended ≡ new.ended → turns.Worked ≡ turn_of ended (is_some ring)
      → (note : NoteFacts) × (new.bell.taken ≡ old.bell.taken ++ Noted note ∷ [])
  worked_by None true old new came_so same is = absurd (cc is)
  worked_by None false old new came_so same is = absurd (cc is)
  worked_by (Some (Noted note)) ended old new came_so same is = (note, ap (λ (b : BellFacts). b.taken) came_so.bell)
  worked_by (Some NoMore) true old new came_so same is = absurd (cc is)
  worked_by (Some NoMore) false old new came_so same is = let ended_so : false ≡ true = same ∙ came_so.ended in absurd (cc ended_so)

  pub worked : (old new : StoreFacts P) → StoreTurned facts old turns.Worked new → (note : NoteFacts) × (new.bell.taken ≡ old.bell.taken ++ Noted note ∷ [])
  worked old new turned = worked_by turned.hears.ring new.ended old new (turn_came old new turns.Worked turned) refl (answered old new turns.Worked turned)

  pub done : (list : List Turn) (old new : StoreFacts P) (answer : Turn) → HasTurned facts list old → StoreTurned facts old answer new
      → (answer ≡ turns.Done) ↔ Contains new.bell.taken NoMore
  done list old new answer run turned =
      let stands = turn_stands old new answer turned (all_stand list old run) in
      let both = is_done new.ended turned.took in
      ((λ e. stands.ended.0 (both.0 (sym turned.came_to ∙ e))), (λ on. turned.came_to ∙ both.1 (stands.ended.1 on)))
