-- What is known of the channels of good rows, as rows of a tree.
use Rattle.mum_kept_laws.proofs.Common.{◌≡◌, ℕ, suc, ◌^◌, ◌<◌, ◌==◌, Bool, true, false, cond, codes, List, [], ◌∷◌, ◌++◌, map, Option, Some, refl, sym, ap, subst, ◌∙◌, arith, ⊤, AllPairs, Contains, option_map, option_map_or, eqb-true, ne_eqb, same_Some, ChannelId, ROOT, Row, AreApart, HasRoot, number, row_of, Rise, TreeState, AllPairs-map, AllPairs-tail, is_name, is_text, Each, each_find, each_from_all, each_map, each_passes, each_so, shown, same_channel, KeptChannel, AreGoodChannels, has_name, has_text, free_prefix, prefix, is_top, tree_of, tree_row, tree_rows, channels_rise, HaveNumbers}
use Rattle.mum_kept_laws.proofs.{MadeNames.free_number, MadeNames.unlike_prefix, Makes.AreToMake, Makes.hidden_rows, PlacePhase.AreOf, PlacePhase.IsStage, Opening.first_tree, Staged.AreTarget, Staged.staged, Unplaced.found_unplaced, Unplaced.there_unplaced, Unplaced.unplaced, Unplaced.upward_unplaced}

each_row : (P : Row → Type 0) (f : KeptChannel → Row) (Q : KeptChannel → Type 0) → ((channel : KeptChannel) → Q channel → P (f channel)) → (channels : List KeptChannel) → Each Q channels → Each P (map f channels)
each_row P f Q so channels all = each_map Q P f so channels all

hidden_each : (P : Row → Type 0) (Q : KeptChannel → Type 0) → ((channel : KeptChannel) → Q channel → P (unplaced (tree_row channel))) → (channels : List KeptChannel) → Each Q channels → Each P (hidden_rows channels)
hidden_each P Q so [] all = tt
hidden_each P Q so (channel ∷ channels) all = (so channel all.0, hidden_each P Q so channels all.1)

each_any : (channels : List KeptChannel) → Each (λ (channel : KeptChannel). ⊤) channels
each_any [] = tt
each_any (channel ∷ channels) = (tt, each_any channels)

-- ---- the target

module _ (channels : List KeptChannel) (good : AreGoodChannels channels) (words : HaveNumbers channels) where
  abbrev rows : List Row
  rows = tree_rows channels

  target_root : HasRoot (hidden_rows channels)
  target_root = (unplaced good.root.0, found_unplaced rows ROOT ∙ ap (option_map unplaced) good.root.1, (refl, good.root.2.1, good.root.2.2, good.root.2.3))

  pub target : AreTarget (prefix (free_number channels)) (hidden_rows channels)
  target = record {
    rise = AllPairs-map (λ row later. number row < number later) (λ row later. number row < number later) unplaced rows (λ i j d less within below. below) good.rising;
    root = target_root;
    lead = λ id there.
        subst (λ (ids : List ChannelId). Contains ids ROOT) (sym (upward_unplaced rows 33 id)) (good.parents id (sym (there_unplaced rows id) ∙ there));
    apart = AllPairs-map AreApart AreApart unplaced rows (λ i j d less within apart. apart) good.siblings;
    lasting = hidden_each (λ row. row.channel.temporary ≡ false) (λ channel. ⊤) (λ channel any. refl) channels (each_any channels);
    words = hidden_each (λ row. number row < 2 ^ 32) (λ channel. channel.id.0 < 2 ^ 32) (λ channel word. word) channels (each_from_all (λ channel. channel.id.0 < 2 ^ 32) channels words);
    unlike = hidden_each (λ row. (rest : List ℕ) → row.channel.name ≡ prefix (free_number channels) ++ rest → ⊥) (λ channel. (rest : List ℕ) → channel.name ≡ free_prefix channels ++ rest → ⊥) (λ channel unlike. unlike) channels (unlike_prefix channels good.few);
  }

  pub named : Each (λ row. is_name row.channel.name ≡ true) (hidden_rows channels)
  named = hidden_each (λ row. is_name row.channel.name ≡ true) (λ channel. has_name channel ≡ true) (λ channel is. is) channels (each_passes has_name channels good.names)

  pub text_each : Each (λ channel. is_text channel.info.description ≡ true) channels
  text_each = each_passes has_text channels good.texts

  -- the tree by which the edits are made says the same
  pub are_of : AreOf (tree_of channels) (hidden_rows channels)
  are_of id row there =
      let own = shown unplaced (row_of rows id) row (sym (found_unplaced rows id) ∙ there) in (
        ap (λ (o : Option Row). option_map_or (λ (one : Row). one.channel.name) o []) own.1 ∙ ap (λ (one : Row). one.channel.name) own.2,
        ap (λ (o : Option Row). option_map_or (λ (one : Row). one.channel.parent) o id) own.1 ∙ ap (λ (one : Row). one.channel.parent) own.2,
      )

-- ---- the root comes first

pub root_top : (root : KeptChannel) (others : List KeptChannel) → Rise (tree_rows (root ∷ others)) → HasRoot (tree_rows (root ∷ others)) → is_top root ≡ true
root_top root others rise has = step (root.id.0 == 0) refl has.1
  where
    later : Each (λ row. root.id.0 < number row) (tree_rows others)
    later = each_from_all (λ row. root.id.0 < number row) (tree_rows others) (λ k d within. rise 0 (suc k) d (omega arith) (omega arith))

    step : (b : Bool) → (root.id.0 == 0) ≡ b → cond b (Some (tree_row root)) (row_of (tree_rows others) ROOT) ≡ Some has.0 → b ≡ true
    step true top found = refl
    step false below found =
        let other = each_find (λ row. root.id.0 < number row) (λ row. number row == 0) (tree_rows others) has.0 later found in
        let none : number has.0 ≡ 0 = eqb-true (number has.0) 0 other.1 in
        let above = other.0 in
        absurd (omega arith)

pub above_root : (root : KeptChannel) (others : List KeptChannel) → AllPairs (λ one later. one.id.0 < later.id.0) (root ∷ others) → Each (λ channel. root.id.0 < channel.id.0) others
above_root root others rise = each_from_all (λ channel. root.id.0 < channel.id.0) others (λ k d within. rise 0 (suc k) d (omega arith) (omega arith))

pub others_below : (root : KeptChannel) (others : List KeptChannel) → Rise (tree_rows (root ∷ others)) → Each (λ channel. is_top channel ≡ false) others
others_below root others rise =
    each_so (λ channel. root.id.0 < channel.id.0) (λ channel. is_top channel ≡ false)
    (λ channel above. ne_eqb channel.id.0 0 (λ (e : channel.id.0 ≡ 0). absurd (omega arith))) others (above_root root others (channels_rise (root ∷ others) rise))

-- its row is the one that a server begins with, but for what describes it
root_is : (root : KeptChannel) (others : List KeptChannel) → is_top root ≡ true → HasRoot (tree_rows (root ∷ others)) → tree_row root ≡ record {
  place = 0;
  channel = record { id = ROOT; parent = ROOT; name = codes "Root"; temporary = false; info = root.info };
}
root_is root others top has =
    let row : tree_row root ≡ has.0 = same_Some (tree_row root) has.0 (sym (ap (λ (b : Bool). cond b (Some (tree_row root)) (row_of (tree_rows others) ROOT)) top) ∙ has.1) in
    let id : root.id ≡ ROOT = same_channel root.id ROOT (eqb-true root.id.0 0 top) in
    let parent : root.parent ≡ ROOT = same_channel root.parent ROOT (ap (λ (r : Row). r.channel.parent.0) row ∙ has.2.1) in
    let name : root.name ≡ codes "Root" = ap (λ (r : Row). r.channel.name) row ∙ has.2.2 in
    ap (λ (x : ChannelId). record { place = 0; channel = record { id = x; parent = root.parent; name = root.name; temporary = false; info = root.info } }) id
    ∙ ap (λ (x : ChannelId). record { place = 0; channel = record { id = ROOT; parent = x; name = root.name; temporary = false; info = root.info } }) parent
    ∙ ap (λ (text : List ℕ). record { place = 0; channel = record { id = ROOT; parent = ROOT; name = text; temporary = false; info = root.info } }) name

pub first_stage : (front : List ℕ) (root : KeptChannel) (others : List KeptChannel) (tree : TreeState) → is_top root ≡ true → HasRoot (tree_rows (root ∷ others)) → tree ≡ first_tree → IsStage front (hidden_rows (root ∷ [])) [] tree
first_stage front root others tree top has is =
    subst (IsStage front (hidden_rows (root ∷ [])) []) (sym is) (record {
      channels = ap (λ (row : Row). staged [] front (unplaced row) ∷ []) (sym (root_is root others top has));
      undescribed = ((λ top. refl), tt);
      links = refl;
    })

pub to_make : (greatest : ℕ) (channels : List KeptChannel) → AllPairs (λ one later. one.id.0 < later.id.0) channels → Each (λ channel. greatest < channel.id.0) channels
    → Each (λ channel. channel.id.0 < 2 ^ 32) channels → Each (λ channel. is_text channel.info.description ≡ true) channels → AreToMake greatest channels
to_make greatest [] rise above words texts = tt
to_make greatest (channel ∷ channels) rise above words texts = (
  record { above = above.0; word = words.0; text = texts.0 },
  to_make channel.id.0 channels (AllPairs-tail (λ one later. one.id.0 < later.id.0) channel channels rise) (above_root channel channels rise) words.1 texts.1,
)
