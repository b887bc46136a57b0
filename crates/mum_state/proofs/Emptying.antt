-- Where one temporary channel is emptied, and no other, the removal of that one is what goes.
use Rattle.mum_state.proofs.Common.{◌≡◌, ℕ, zero, suc, ◌&&◌, ◌||◌, not, Bool, true, false, cond, eqb, List, [], ◌∷◌, map, refl, sym, ap, subst, ◌∙◌, Some, is_some, ⊎_elim, Contains, filter, list_all, list_any, and_parts, both_ways, cases_Bool, eq-eqb, eqb-true, or_left, or_right, ChannelId, Row, IsProperTree, IsUnderLasting, is_below, is_temporary, is_there, number, row_of, upward, TreeState, without_rows, without_subtree, number_found, some_row, is_top, list_any-reverse, lead_parent, none_contained, the_root, there_from_lead, upward_at, upward_root, upward_under, upward_zero, User, is_in, has_member, without_emptied, IsProper, with_tree, StateValue}
use Rattle.mum_state.proofs.{Closed.found_row_holds, Closed.is_kept, Closed.is_left, Closed.rows_not_left, Listed.filter_same, Quiet.rows_there}

module _ (tree : TreeState) (top : ChannelId) (proper : IsProperTree tree) (temporary : is_temporary tree.channels top ≡ true) where
  -- no parent is the temporary channel
  other_parent : (id : ChannelId) (row : Row) → row_of tree.channels id ≡ Some row → eqb id.0 0 ≡ false → eqb row.channel.parent.0 top.0 ≡ false
  other_parent id row found under = step (eqb row.channel.parent.0 top.0) refl
    where
      lasts : is_temporary tree.channels row.channel.parent ≡ false
      lasts =
          found_row_holds (IsUnderLasting tree.channels) tree.channels id row proper.lasting found
          (λ (root : number row ≡ 0). both_ways (eqb id.0 0) under (eq-eqb id.0 0 (sym (number_found tree.channels id row found) ∙ root)))

      step : (b : Bool) → eqb row.channel.parent.0 top.0 ≡ b → b ≡ false
      step true is =
          let same : row.channel.parent ≡ top = ap (λ n. record { 0 = n }) (eqb-true row.channel.parent.0 top.0 is) in
          absurd (both_ways (is_temporary tree.channels top) (ap (is_temporary tree.channels) (sym same) ∙ lasts) temporary)
      step false is = refl

  off_way : (steps : ℕ) (id : ChannelId) → Contains (upward tree.channels steps id) the_root → eqb id.0 top.0 ≡ false → list_any (is_top top) (upward tree.channels steps id) ≡ false
  off_way zero id lead other = absurd (none_contained the_root (subst (λ (us : List ChannelId). Contains us the_root) (upward_zero tree.channels id) lead))
  off_way (suc steps) id lead other =
      let rows : List Row = tree.channels in
      let (row, found) = there_from_lead rows (suc steps) id lead in
      ⊎_elim
      (λ (root : eqb id.0 0 ≡ true). ap (list_any (is_top top)) (upward_root rows steps id row found root) ∙ ap (λ b. b || false) other)
      (λ (under : eqb id.0 0 ≡ false).
      ap (list_any (is_top top)) (upward_under rows steps id row found under)
      ∙ ap (λ b. b || list_any (is_top top) (upward rows steps row.channel.parent)) other
      ∙ off_way steps row.channel.parent (lead_parent rows steps id row found under lead) (other_parent id row found under))
      (cases_Bool (eqb id.0 0))

  -- nothing is below a temporary channel but itself
  pub alone : (id : ChannelId) → is_there tree.channels id ≡ true → is_below tree.channels top id ≡ eqb id.0 top.0
  alone id there =
      let rows : List Row = tree.channels in
      let (row, found) = some_row (row_of rows id) there in
      list_any-reverse (is_top top) (upward rows 33 id) ∙ ⊎_elim
      (λ (is : eqb id.0 top.0 ≡ true). ap (list_any (is_top top)) (upward_at rows 32 id row found) ∙ ap (λ b. b || list_any (is_top top) (cond (eqb id.0 0) [] (upward rows 32 row.channel.parent))) is ∙ sym is)
      (λ (other : eqb id.0 top.0 ≡ false). off_way 33 id (proper.lead id (ap is_some found)) other ∙ sym other)
      (cases_Bool (eqb id.0 top.0))

-- the channel that is left is this one, where no other is
left_is : (before after : List User) (rows : List Row) (id other : ChannelId) → is_left before after rows id ≡ true → (is_left before after rows other ≡ true → other.0 ≡ id.0) → is_left before after rows other ≡ eqb other.0 id.0
left_is before after rows id other left only = step (is_left before after rows other) (eqb other.0 id.0) refl refl
  where
    step : (b s : Bool) → is_left before after rows other ≡ b → eqb other.0 id.0 ≡ s → b ≡ s
    step true true is same = refl
    step true false is same = absurd (both_ways (eqb other.0 id.0) same (eq-eqb other.0 id.0 (only is)))
    step false true is same =
        let one : other ≡ id = ap (λ n. record { 0 = n }) (eqb-true other.0 id.0 same) in
        absurd (both_ways (is_left before after rows id) (ap (is_left before after rows) (sym one) ∙ is) left)
    step false false is same = refl

-- one channel is emptied, and no other: it goes, and it is all that is below it
pub one_emptied : (before state : StateValue) (id : ChannelId) → IsProper state
    → is_left before.roster.sessions state.roster.sessions state.tree.channels id ≡ true
    → ((other : ChannelId) → is_left before.roster.sessions state.roster.sessions state.tree.channels other ≡ true → other.0 ≡ id.0)
    → without_emptied before state ≡ with_tree state (without_subtree state.tree id)
one_emptied before state id proper left only =
    let was : List User = before.roster.sessions in
    let now : List User = state.roster.sessions in
    let rows : List Row = state.tree.channels in
    let front = and_parts (is_temporary rows id && has_member was id) (not (has_member now id)) left in
    let temporary : is_temporary rows id ≡ true = (and_parts (is_temporary rows id) (has_member was id) front.0).0 in
    ap (λ (kept : List Row). with_tree state (without_rows state.tree kept))
    (rows_not_left was now rows proper.tree.rise
    ∙ filter_same (λ row. is_kept was now rows row.channel.id) (λ row. not (is_below rows id row.channel.id)) (λ row. is_there rows row.channel.id)
    (λ row there.
    ap not (left_is was now rows id row.channel.id left (only row.channel.id) ∙ sym (alone state.tree id proper.tree temporary row.channel.id there)))
    rows (rows_there rows))

-- ---- that no other is emptied: whoever went was in this one

members_on : (b : Bool) (user : User) (users : List User) (channel : ChannelId) → has_member users channel ≡ true → has_member (cond b (user ∷ users) users) channel ≡ true
members_on true user users channel on = or_right (is_in channel user) (has_member users channel) on
members_on false user users channel on = on

apart : (user : User) (id channel : ChannelId) → eqb channel.0 id.0 ≡ false → is_in channel user ≡ true → is_in id user ≡ false
apart user id channel other is = ap (λ n. eqb n id.0) (eqb-true user.channel.0 channel.0 is) ∙ other

or_off : (a b : Bool) → a ≡ false → (a || b) ≡ true → b ≡ true
or_off true b off on = absurd (both_ways true off refl)
or_off false b off on = on

-- where all who are not in the channel stay, each other channel keeps a member
pub others_filter : (stays : User → Bool) (users : List User) (id channel : ChannelId) → list_all (λ user. is_in id user || stays user) users ≡ true → eqb channel.0 id.0 ≡ false
    → has_member users channel ≡ true → has_member (filter stays users) channel ≡ true
others_filter stays [] id channel all other on = on
others_filter stays (user ∷ users) id channel all other on =
    let parts = and_parts (is_in id user || stays user) (list_all (λ one. is_in id one || stays one) users) all in
    step (is_in channel user) refl parts.0 on (others_filter stays users id channel parts.1 other)
  where
    step : (b : Bool) → is_in channel user ≡ b → (is_in id user || stays user) ≡ true → (b || has_member users channel) ≡ true → (has_member users channel ≡ true → has_member (filter stays users) channel ≡ true)
        → has_member (filter stays (user ∷ users)) channel ≡ true
    step true is stay some rest =
        let kept : stays user ≡ true = or_off (is_in id user) (stays user) (apart user id channel other is) stay in
        ap (λ (b : Bool). has_member (cond b (user ∷ filter stays users) (filter stays users)) channel) kept ∙ or_left (is_in channel user) (has_member (filter stays users) channel) is
    step false is stay some rest = members_on (stays user) user (filter stays users) channel (rest some)

-- where none but those in the channel enter another, each other channel keeps a member
pub others_map : (f : User → User) (users : List User) (id channel : ChannelId) → list_all (λ user. is_in id user || eqb (f user).channel.0 user.channel.0) users ≡ true → eqb channel.0 id.0 ≡ false
    → has_member users channel ≡ true → has_member (map f users) channel ≡ true
others_map f [] id channel all other on = on
others_map f (user ∷ users) id channel all other on =
    let parts = and_parts (is_in id user || eqb (f user).channel.0 user.channel.0) (list_all (λ one. is_in id one || eqb (f one).channel.0 one.channel.0) users) all in
    step (is_in channel user) refl parts.0 on (others_map f users id channel parts.1 other)
  where
    step : (b : Bool) → is_in channel user ≡ b → (is_in id user || eqb (f user).channel.0 user.channel.0) ≡ true → (b || has_member users channel) ≡ true → (has_member users channel ≡ true → has_member (map f users) channel ≡ true)
        → has_member (map f (user ∷ users)) channel ≡ true
    step true is stay some rest =
        let same : (f user).channel.0 ≡ user.channel.0 = eqb-true (f user).channel.0 user.channel.0 (or_off (is_in id user) (eqb (f user).channel.0 user.channel.0) (apart user id channel other is) stay) in
        or_left (is_in channel (f user)) (has_member (map f users) channel) (ap (λ n. eqb n channel.0) same ∙ is)
    step false is stay some rest = or_right (is_in channel (f user)) (has_member (map f users) channel) (rest some)
