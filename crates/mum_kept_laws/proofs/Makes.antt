-- The edits that make the channels under the root fit one after the other.
use Rattle.mum_kept_laws.proofs.Common.{◌≡◌, ℕ, suc, ◌+◌, ◌^◌, ◌<◌, ◌≤◌, ◌==◌, ◌&&◌, ◌||◌, Bool, true, false, not, cond, eqb, List, [], ◌∷◌, ◌++◌, length, map, reverse, get_or, Option, None, is_none, is_some, append_assoc, append-nil, refl, sym, ap, subst, ◌∙◌, arith, inl, inr, ⊎_elim, nat_le, ◌⊎◌, ⊤, decimal, option_map_or, bytes_eq, and_from, eq-eqb, false≢true, lt-ltb, ne_eqb, nat_tests, length-append, map-append, ChannelId, ROOT, Channel, Row, Count, Nesting, NoChannel, SameName, TemporaryParent, least_place, fault_of_add, is_full, has_name_beside, is_root, is_taken, is_temporary, is_there, number, path, TreeState, changed, new_row, plain_info, with_info, with_new, with_row, five, changed_none, informed, upward_root, Edit, applied, is_text, StateValue, Each, each_append, each_both, each_from_all, each_map, none_passes, IsBare, Leads, leads, less_left, one_there, KeptChannel, prefix, make_edit, tree_row, tree_rows}
use Rattle.mum_kept_laws.proofs.{Changing.IsUndescribed, MadeNames.made_name_good, MadeNames.made_names_differ, Passing.Passes, Passing.nothing_passes, Passing.one_passes, PlacePhase.IsStage, Staged.staged, Staged.staged_rows, Unplaced.taken_unplaced, Unplaced.unplaced, Unplaced.unplaced_rows}

-- the rows that are wanted in the end, but for places and what describes the root
abbrev pub hidden_rows : List KeptChannel → List Row
hidden_rows channels = unplaced_rows (tree_rows channels)

-- the channel as it is made
abbrev pub made_row : List ℕ → KeptChannel → Row
made_row front channel = record {
  place = 0;
  channel = record { id = channel.id; parent = ROOT; name = front ++ decimal channel.id.0; temporary = false; info = channel.info };
}

stage_below : (front : List ℕ) (channel : KeptChannel) → is_root channel.id ≡ false → staged [] front (unplaced (tree_row channel)) ≡ made_row front channel
stage_below front channel below =
    ap (λ (b : Bool). record {
      place = 0;
      channel = cond (b || false)
          (record { id = channel.id; parent = channel.parent; name = channel.name; temporary = false; info = cond b plain_info channel.info })
          (record { id = channel.id; parent = ROOT; name = front ++ decimal channel.id.0; temporary = false; info = cond b plain_info channel.info });
    }) below

stage_more : (front : List ℕ) (channels : List KeptChannel) (channel : KeptChannel) → is_root channel.id ≡ false
    → staged_rows [] front (hidden_rows (channels ++ channel ∷ [])) ≡ staged_rows [] front (hidden_rows channels) ++ made_row front channel ∷ []
stage_more front [] channel below = ap (λ (row : Row). row ∷ []) (stage_below front channel below)
stage_more front (first ∷ channels) channel below = ap (λ (rows : List Row). staged [] front (unplaced (tree_row first)) ∷ rows) (stage_more front channels channel below)

-- each row is the root's, or has the name of its number
abbrev IsNamed : List ℕ → Row → Type 0
IsNamed front row = (is_root row.channel.id ≡ true) ⊎ (row.channel.name ≡ front ++ decimal (number row))

all_named : (front : List ℕ) (channels : List KeptChannel) → Each (IsNamed front) (staged_rows [] front (hidden_rows channels))
all_named front [] = tt
all_named front (channel ∷ channels) = (one (is_root channel.id) refl, all_named front channels)
  where
    one : (b : Bool) → is_root channel.id ≡ b → IsNamed front (staged [] front (unplaced (tree_row channel)))
    one false below = subst (IsNamed front) (sym (stage_below front channel below)) (inr refl)
    one true root =
        subst (IsNamed front)
        (ap (λ (b : Bool). record {
          place = 0;
          channel = cond (b || false)
              (record { id = channel.id; parent = channel.parent; name = channel.name; temporary = false; info = cond b plain_info channel.info })
              (record { id = channel.id; parent = ROOT; name = front ++ decimal channel.id.0; temporary = false; info = cond b plain_info channel.info });
        }) (sym root))
        (inl root)

over : (limit n : ℕ) → n < limit → nat_le limit n ≡ false
over limit n few = grind (arith, nat_tests)

-- the channel can be made after those up to this number
pub record IsToMake (greatest : ℕ) (channel : KeptChannel) : Type 0 where
  pub above : greatest < channel.id.0
  pub word : channel.id.0 < 2 ^ 32
  pub text : is_text channel.info.description ≡ true

abbrev pub AreToMake : ℕ → List KeptChannel → Type 0
AreToMake greatest [] = ⊤
AreToMake greatest (channel ∷ channels) = IsToMake greatest channel × AreToMake channel.id.0 channels

-- a change of the last row, whose number no other has
changed_last : (rows : List Row) (last : Row) (id : ChannelId) (change : Channel → Channel) → ((k : ℕ) (d : Row) → k < length rows → number (get_or rows k d) ≡ id.0 → ⊥) → eqb (number last) id.0 ≡ true
    → changed id change (rows ++ last ∷ []) ≡ rows ++ record last { channel = change last.channel } ∷ []
changed_last rows last id change others is =
    map-append _ rows (last ∷ [])
    ∙ ap (λ (front : List Row). front ++ changed id change (last ∷ [])) (changed_none rows id change others)
    ∙ ap (λ (b : Bool). rows ++ cond b (record last { channel = change last.channel }) last ∷ []) is

-- what the numbers of rows say of those without places
unplaced_known : (limit : ℕ) (rows : List Row) → Each (λ row. number row ≤ limit) rows → Each (λ row. number row ≤ limit) (unplaced_rows rows)
unplaced_known limit rows known = each_map (λ row. number row ≤ limit) (λ row. number row ≤ limit) unplaced (λ row most. most) rows known

beside_false : (root sibling own named : Bool) → ((root ≡ true) ⊎ (named ≡ false)) → (((not root && sibling) && not own) && named) ≡ false
beside_false true sibling own named why = refl
beside_false false sibling own false why = step (sibling && not own)
  where
    step : (b : Bool) → (b && false) ≡ false
    step true = refl
    step false = refl
beside_false false sibling own true why = ⊎_elim (λ (e : false ≡ true). absurd (false≢true e)) (λ (e : true ≡ false). absurd (false≢true (sym e))) why

module _ (n left : ℕ) (small : n < 17576) (front : List KeptChannel) (channel : KeptChannel) (state : StateValue) (bare : IsBare (suc left) state) (stage : IsStage (prefix n) (hidden_rows front) [] state.tree)
    (make : IsToMake state.tree.greatest channel) (room : length state.tree.channels < state.tree.limit) where
  abbrev id : ChannelId
  id = channel.id

  abbrev name : List ℕ
  name = prefix n ++ decimal id.0

  abbrev row : Row
  row = record {
    place = least_place state.tree.channels;
    channel = record { id = id; parent = ROOT; name = name; temporary = false; info = channel.info };
  }

  below : is_root id ≡ false
  below = let above = make.above in ne_eqb id.0 0 (λ (e : id.0 ≡ 0). absurd (omega arith))

  made_tree : with_info (with_new state.tree id ROOT name false) id channel.info ≡ with_row state.tree row
  made_tree =
      ap (λ (rows : List Row). record { channels = rows; links = state.tree.links; greatest = id.0; limit = state.tree.limit })
      (changed_last state.tree.channels (new_row (least_place state.tree.channels) id ROOT name false) id (informed channel.info)
      (λ k d within same. let known = bare.proper.tree.known k d within in let above = make.above in absurd (omega arith))
      (eq-eqb id.0 id.0 refl))

  -- no row under the root has the name
  free : is_taken state.tree.channels ROOT id name ≡ false
  free =
      sym (taken_unplaced state.tree.channels ROOT id name)
      ∙ none_passes (has_name_beside ROOT id name) (unplaced_rows state.tree.channels)
      (each_both (λ one. number one ≤ state.tree.greatest) (IsNamed (prefix n)) (λ one. has_name_beside ROOT id name one ≡ false) no_other (unplaced_rows state.tree.channels)
      (unplaced_known state.tree.greatest state.tree.channels (each_from_all (λ one. number one ≤ state.tree.greatest) state.tree.channels bare.proper.tree.known))
      (subst (Each (IsNamed (prefix n))) (sym stage.channels) (all_named (prefix n) front)))
    where
      no_other : (one : Row) → number one ≤ state.tree.greatest → IsNamed (prefix n) one → has_name_beside ROOT id name one ≡ false
      no_other one known named =
          beside_false (is_root one.channel.id) (one.channel.parent.0 == ROOT.0) (number one == id.0) (bytes_eq one.channel.name name)
          (⊎_elim (λ (top : is_root one.channel.id ≡ true). inl top)
          (λ (is : one.channel.name ≡ prefix n ++ decimal (number one)).
          let above = make.above in
          let word = make.word in
          inr (ap (λ (text : List ℕ). bytes_eq text name) is ∙ made_names_differ (prefix n) (number one) id.0 (omega arith) word (omega arith)))
          named)

  root_there : is_there state.tree.channels ROOT ≡ true
  root_there = ap (λ (o : Option Row). is_some o) bare.proper.tree.root.1

  lasting : is_temporary state.tree.channels ROOT ≡ false
  lasting =
      ap (λ (o : Option Row). option_map_or (λ (one : Row). one.channel.temporary) o false) bare.proper.tree.root.1
      ∙ bare.proper.tree.root.2.3

  shallow : length (path state.tree.channels ROOT) ≡ 1
  shallow = ap (λ (ids : List ChannelId). length (reverse ids)) (upward_root state.tree.channels 32 ROOT bare.proper.tree.root.0 bare.proper.tree.root.1 refl)

  allowed : fault_of_add state.tree id ROOT name ≡ None
  allowed =
      five (not (is_there state.tree.channels ROOT)) (is_taken state.tree.channels ROOT id name) (is_temporary state.tree.channels ROOT)
      (nat_le 33 (length (path state.tree.channels ROOT))) (is_full state.tree) NoChannel SameName TemporaryParent Nesting Count
      (ap not root_there) free lasting
      (over 33 (length (path state.tree.channels ROOT)) (omega (arith, shallow)))
      (over state.tree.limit (length state.tree.channels) room)

  led : Leads left state (make_edit (prefix n) channel)
  led =
      leads left state (make_edit (prefix n) channel) refl bare
      (one_there (is_there state.tree.channels ROOT) root_there)
      (lt-ltb state.tree.greatest id.0 make.above)
      (and_from _ _ (and_from _ _ (ap is_none allowed) (made_name_good n id.0 small make.word)) make.text)

  tree_is : (applied state (make_edit (prefix n) channel)).tree ≡ with_row state.tree row
  tree_is = ap (λ (s : StateValue). s.tree) led.is ∙ made_tree

  limit_is : (applied state (make_edit (prefix n) channel)).tree.limit ≡ state.tree.limit
  limit_is = ap (λ (t : TreeState). t.limit) tree_is

  greatest_is : (applied state (make_edit (prefix n) channel)).tree.greatest ≡ id.0
  greatest_is = ap (λ (t : TreeState). t.greatest) tree_is

  unplaced_is : unplaced row ≡ made_row (prefix n) channel
  unplaced_is = ap (λ (b : Bool). record { place = 0; channel = record { id = id; parent = ROOT; name = name; temporary = false; info = cond b plain_info channel.info } }) below

  stage_now : IsStage (prefix n) (hidden_rows (front ++ channel ∷ [])) [] (applied state (make_edit (prefix n) channel)).tree
  stage_now =
      subst (IsStage (prefix n) (hidden_rows (front ++ channel ∷ [])) []) (sym tree_is) (record {
        channels =
            map-append unplaced state.tree.channels (row ∷ [])
            ∙ ap (λ (rows : List Row). rows ++ unplaced row ∷ []) stage.channels
            ∙ ap (λ (last : Row). staged_rows [] (prefix n) (hidden_rows front) ++ last ∷ []) unplaced_is
            ∙ sym (stage_more (prefix n) front channel below);
        undescribed = each_append IsUndescribed state.tree.channels (row ∷ []) stage.undescribed ((λ (top : is_root id ≡ true). absurd (false≢true (sym below ∙ top))), tt);
        links = stage.links;
      })

  longer : length (applied state (make_edit (prefix n) channel)).tree.channels ≡ suc (length state.tree.channels)
  longer = ap (λ (t : TreeState). length t.channels) tree_is ∙ by_one state.tree.channels
    where
      by_one : (rows : List Row) → length (rows ++ row ∷ []) ≡ suc (length rows)
      by_one rows = omega (arith, length-append rows (row ∷ []))

pub makes_pass : (n : ℕ) → n < 17576 → (back front : List KeptChannel) (state : StateValue) (left : ℕ) → IsBare (length back + left) state → IsStage (prefix n) (hidden_rows front) [] state.tree
    → AreToMake state.tree.greatest back → length state.tree.channels + length back ≤ state.tree.limit
    → Passes left state (map (make_edit (prefix n)) back) (λ later. IsStage (prefix n) (hidden_rows (front ++ back)) [] later.tree)
makes_pass n small [] front state left bare stage make room =
    nothing_passes left state (λ later. IsStage (prefix n) (hidden_rows (front ++ [])) [] later.tree) (less_left (0 + left) left state (omega arith) bare)
    (subst (λ (channels : List KeptChannel). IsStage (prefix n) (hidden_rows channels) [] state.tree) (sym (append-nil front)) stage)
makes_pass n small (channel ∷ back) front state left bare stage make room =
    let more : ℕ = length back + left in
    let enough : IsBare (suc more) state = less_left (suc (length back) + left) (suc more) state (omega arith) bare in
    let edit : Edit = make_edit (prefix n) channel in
    let space : length state.tree.channels < state.tree.limit = omega arith in
    let now : StateValue = applied state edit in
    let limit : now.tree.limit ≡ state.tree.limit = limit_is n more small front channel state enough stage make.0 space in
    let greatest : now.tree.greatest ≡ channel.id.0 = greatest_is n more small front channel state enough stage make.0 space in
    one_passes left more state edit (map (make_edit (prefix n)) back) (λ later. IsStage (prefix n) (hidden_rows (front ++ channel ∷ back)) [] later.tree)
    (led n more small front channel state enough stage make.0 space)
    (subst (λ (channels : List KeptChannel). Passes left now (map (make_edit (prefix n)) back) (λ later. IsStage (prefix n) (hidden_rows channels) [] later.tree)) (append_assoc front (channel ∷ []) back)
    (makes_pass n small back (front ++ channel ∷ []) now left (led n more small front channel state enough stage make.0 space).bare
    (stage_now n more small front channel state enough stage make.0 space)
    (subst (λ (g : ℕ). AreToMake g back) (sym greatest) make.1)
    (omega (arith, room, limit, longer n more small front channel state enough stage make.0 space))))
