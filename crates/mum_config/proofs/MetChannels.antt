-- The channels that were met are those of the tree.
use Rattle.mum_config.proofs.Common.{◌≡◌, ℕ, ◌+◌, ◌≤◌, ◌<◌, ◌==◌, ◌&&◌, ◌||◌, not, Bool, true, false, cond, eqb, List, [], ◌∷◌, ◌++◌, length, reverse, Option, None, Some, MatchOption, is_some, codes, refl, sym, ap, subst, ◌∙◌, arith, nat_eq, option_map_or, bytes_eq, eq-eqb, eqb-true, ne_eqb, not_from_false, nat_tests, length-reverse, list_any-append, same_Some, insert_entry, ChannelId, ROOT, ChannelInfo, Row, CHANNEL_LIMIT, IsProperTree, has_name_beside, is_root, is_taken, is_temporary, is_there, number, path, row_of, upward, TreeState, root_alone, with_row, row_of_none, old_parents, row_of_last, upward_kept, upward_short, upward_under, Each, each_append, path_alike, there_alike, ChannelsMet, depth_of, has_seat, root_met}
use Rattle.mum_config.proofs.FitAccounts.{bytes_swap, eq_swap}

abbrev pub channel : ℕ → ChannelId
channel n = record { 0 = n }

-- the root alone, under a limit of channels
abbrev pub root_under : ℕ → TreeState
root_under limit = record root_alone { limit = limit }

-- each is there, as far below the root as was met, and siblings have the names that were met; the limit
-- of channels is not below that of a new tree
pub record AreMet (met : ChannelsMet) (tree : TreeState) : Type 0 where
  pub there : (n : ℕ) → is_there tree.channels (channel n) ≡ is_some (depth_of met.depths n)
  pub deep : (n depth : ℕ) → depth_of met.depths n ≡ Some depth → length (path tree.channels (channel n)) ≡ depth
  pub seats : (n parent : ℕ) (name : List ℕ) → tree.greatest < n → is_taken tree.channels (channel parent) (channel n) name ≡ has_seat met.seats parent name
  pub last : MatchOption met.last (tree ≡ root_under tree.limit) (λ before. tree.greatest ≤ before)
  pub lasting : Each (λ row. row.channel.temporary ≡ false) tree.channels
  pub unlinked : tree.links ≡ []
  pub wide : CHANNEL_LIMIT ≤ tree.limit

-- ---- the root alone, whatever describes it

abbrev pub root_with : ℕ → ChannelInfo → TreeState
root_with limit info = record {
  channels = record { place = 0; channel = record { id = ROOT; parent = ROOT; name = codes "Root"; temporary = false; info = info } } ∷ [];
  links = [];
  greatest = 0;
  limit = limit;
}

root_there : (n : ℕ) → is_there root_alone.channels (channel n) ≡ is_some (depth_of root_met.depths n)
root_there n = step _ _ (eqb 0 n) (eqb n 0) (eq_swap 0 n)
  where
    step : {X Y : Type 0} (x : X) (y : Y) (a b : Bool) → a ≡ b → is_some (cond a (Some x) None) ≡ is_some (cond b (Some y) None)
    step x y true true same = refl
    step x y false false same = refl
    step x y true false same = absurd (cc)
    step x y false true same = absurd (cc)

root_deep : (n depth : ℕ) → depth_of root_met.depths n ≡ Some depth → length (path root_alone.channels (channel n)) ≡ depth
unfolding upward
root_deep n depth is = step (eqb n 0) refl is
  where
    step : (b : Bool) → eqb n 0 ≡ b → cond {A = Option ℕ} b (Some 1) None ≡ Some depth → length (path root_alone.channels (channel n)) ≡ depth
    step true same found = subst (λ m. length (path root_alone.channels (channel m)) ≡ depth) (sym (eqb-true n 0 same)) (same_Some 1 depth found)
    step false same found = absurd (cc)

pub root_is_met : (limit : ℕ) → CHANNEL_LIMIT ≤ limit → AreMet root_met (root_under limit)
root_is_met limit wide = record {
  there = root_there;
  deep = root_deep;
  seats = λ n parent name above. refl;
  last = refl;
  lasting = (refl, tt);
  unlinked = refl;
  wide = wide;
}

pub met_root : (met : ChannelsMet) (limit : ℕ) (info : ChannelInfo) → AreMet met (root_under limit) → AreMet (record met { last = Some 0 }) (root_with limit info)
met_root met limit info are = record {
  there = λ n. there_alike (root_with limit info).channels root_alone.channels (channel n) refl ∙ are.there n;
  deep = λ n depth is. ap (λ (ids : List ChannelId). length ids) (path_alike (root_with limit info).channels root_alone.channels (channel n) refl) ∙ are.deep n depth is;
  seats = λ n parent name above. are.seats n parent name above;
  last = omega arith;
  lasting = (refl, tt);
  unlinked = refl;
  wide = are.wide;
}

-- ---- one channel more

or_true : (a : Bool) → (a || true) ≡ true
or_true true = refl
or_true false = refl

there_grown : (rows : List Row) (row : Row) (id : ChannelId) → is_there (rows ++ row ∷ []) id ≡ (eqb (number row) id.0 || is_there rows id)
there_grown [] row id = step (eqb (number row) id.0)
  where
    step : (b : Bool) → is_some (cond b (Some row) None) ≡ (b || false)
    step true = refl
    step false = refl
there_grown (first ∷ rows) row id = step (eqb (number first) id.0) (there_grown rows row id)
  where
    step : (b : Bool) → is_there (rows ++ row ∷ []) id ≡ (eqb (number row) id.0 || is_there rows id)
        → is_some (cond b (Some first) (row_of (rows ++ row ∷ []) id)) ≡ (eqb (number row) id.0 || is_some (cond b (Some first) (row_of rows id)))
    step true rest = sym (or_true (eqb (number row) id.0))
    step false rest = rest

some_first : (b : Bool) (v : ℕ) (o : Option ℕ) → is_some (cond b (Some v) o) ≡ (b || is_some o)
some_first true v o = refl
some_first false v o = refl

pub depth_inserted : (depths : List (ℕ × ℕ)) (k v n : ℕ) → depth_of (insert_entry nat_eq depths k v) n ≡ cond (k == n) (Some v) (depth_of depths n)
depth_inserted [] k v n = ap (λ (b : Bool). cond b (Some v) None) (eq_swap n k)
depth_inserted (e ∷ es) k v n = step (eqb k e.0) refl (depth_inserted es k v n)
  where
    in_place : (a b : Bool) (rest : Option ℕ) → b ≡ a → cond b (Some v) rest ≡ cond a (Some v) (cond b (Some e.1) rest)
    in_place true true rest same = refl
    in_place false false rest same = refl
    in_place true false rest same = absurd (cc)
    in_place false true rest same = absurd (cc)

    apart : (a b : Bool) (rest : Option ℕ) → (a ≡ true → b ≡ true → ⊥) → cond b (Some e.1) (cond a (Some v) rest) ≡ cond a (Some v) (cond b (Some e.1) rest)
    apart true true rest never = absurd (never refl refl)
    apart true false rest never = refl
    apart false b rest never = refl

    swapped : (k m n : ℕ) → eqb k m ≡ true → eqb n m ≡ eqb k n
    swapped k m n is = grind (arith, nat_tests)

    never : (k m n : ℕ) → eqb k m ≡ false → eqb k n ≡ true → eqb n m ≡ true → ⊥
    never k m n off on also = grind (arith, nat_tests)

    step : (b : Bool) → eqb k e.0 ≡ b → depth_of (insert_entry nat_eq es k v) n ≡ cond (k == n) (Some v) (depth_of es n)
        → depth_of (cond b ((e.0, v) ∷ es) (e ∷ insert_entry nat_eq es k v)) n ≡ cond (k == n) (Some v) (cond (n == e.0) (Some e.1) (depth_of es n))
    step true is rest = in_place (k == n) (n == e.0) (depth_of es n) (swapped k e.0 n is)
    step false is rest =
        ap (λ (o : Option ℕ). cond (n == e.0) (Some e.1) o) rest ∙ apart (k == n) (n == e.0) (depth_of es n) (never k e.0 n is)

four : (root under other named : Bool) → root ≡ true → other ≡ true → (root && under && other && named) ≡ (under && named)
four true true true named is also = refl
four true false true named is also = refl
four true under false named is also = absurd (cc)
four false under other named is also = absurd (cc)

-- no channel lasts only while somebody is in it
pub not_temporary : (rows : List Row) (id : ChannelId) → Each (λ row. row.channel.temporary ≡ false) rows → is_temporary rows id ≡ false
not_temporary [] id all = refl
not_temporary (row ∷ rows) id all = step (eqb (number row) id.0) (not_temporary rows id all.1)
  where
    step : (b : Bool) → is_temporary rows id ≡ false → option_map_or (λ (one : Row). one.channel.temporary) (cond b (Some row) (row_of rows id)) false ≡ false
    step true rest = all.0
    step false rest = rest

module _ (met : ChannelsMet) (tree : TreeState) (row : Row) (depth : ℕ) (proper : IsProperTree tree) (are : AreMet met tree)
    (above : tree.greatest < number row) (seat : depth_of met.depths row.channel.parent.0 ≡ Some depth) (few : depth < 33) (lasts : row.channel.temporary ≡ false) where
  unknown : row_of tree.channels row.channel.id ≡ None
  unknown = row_of_none tree.channels row.channel.id (λ k d within same. let known = proper.known k d within in absurd (omega arith))

  found : row_of (tree.channels ++ row ∷ []) row.channel.id ≡ Some row
  found = row_of_last tree.channels row row.channel.id unknown ∙ ap (λ (b : Bool). cond b (Some row) None) (eq-eqb (number row) (number row) refl)

  kept : (id : ChannelId) → is_there tree.channels id ≡ true → upward (tree.channels ++ row ∷ []) 33 id ≡ upward tree.channels 33 id
  kept id there = upward_kept tree.channels (tree.channels ++ row ∷ []) (old_parents tree.channels row) 33 id (proper.lead id there)

  long : length (upward tree.channels 33 row.channel.parent) ≡ depth
  long = sym (length-reverse (upward tree.channels 33 row.channel.parent)) ∙ are.deep row.channel.parent.0 depth seat

  new_deep : length (path (tree.channels ++ row ∷ []) row.channel.id) ≡ depth + 1
  new_deep =
      let up : List ChannelId = upward (tree.channels ++ row ∷ []) 33 row.channel.id in
      let same : upward (tree.channels ++ row ∷ []) 33 row.channel.parent ≡ upward tree.channels 33 row.channel.parent =
      kept row.channel.parent (are.there row.channel.parent.0 ∙ ap is_some seat) in
      let short : upward (tree.channels ++ row ∷ []) 33 row.channel.parent ≡ upward (tree.channels ++ row ∷ []) 32 row.channel.parent =
      upward_short (tree.channels ++ row ∷ []) 32 row.channel.parent (omega (arith, ap (λ (ids : List ChannelId). length ids) same, long)) in
      let way : up ≡ row.channel.id ∷ upward (tree.channels ++ row ∷ []) 32 row.channel.parent =
      upward_under (tree.channels ++ row ∷ []) 32 row.channel.id row found (ne_eqb (number row) 0 (λ (e : number row ≡ 0). absurd (omega arith))) in
      omega (arith, length-reverse up, ap (λ (ids : List ChannelId). length ids) way, ap (λ (ids : List ChannelId). length ids) short, ap (λ (ids : List ChannelId). length ids) same, long)

  deep_too : (n far : ℕ) → depth_of (insert_entry nat_eq met.depths (number row) (depth + 1)) n ≡ Some far → length (path (tree.channels ++ row ∷ []) (channel n)) ≡ far
  deep_too n far is = step (eqb (number row) n) refl (sym (depth_inserted met.depths (number row) (depth + 1) n) ∙ is)
    where
      step : (b : Bool) → eqb (number row) n ≡ b → cond b (Some (depth + 1)) (depth_of met.depths n) ≡ Some far → length (path (tree.channels ++ row ∷ []) (channel n)) ≡ far
      step true same got = subst (λ m. length (path (tree.channels ++ row ∷ []) (channel m)) ≡ far) (eqb-true (number row) n same) (new_deep ∙ same_Some (depth + 1) far got)
      step false other got =
          let old : upward (tree.channels ++ row ∷ []) 33 (channel n) ≡ upward tree.channels 33 (channel n) = kept (channel n) (are.there n ∙ ap is_some got) in
          ap (λ (ids : List ChannelId). length (reverse ids)) old ∙ are.deep n far got

  beside : (n parent : ℕ) (name : List ℕ) → number row < n → has_name_beside (channel parent) (channel n) name row ≡ ((parent == row.channel.parent.0) && bytes_eq name row.channel.name)
  beside n parent name over =
      four (not (is_root row.channel.id)) (row.channel.parent.0 == parent) (not (number row == n)) (bytes_eq row.channel.name name)
      (not_from_false (is_root row.channel.id) (ne_eqb (number row) 0 (λ (e : number row ≡ 0). absurd (omega arith))))
      (not_from_false (number row == n) (ne_eqb (number row) n (λ (e : number row ≡ n). absurd (omega arith))))
      ∙ ap (λ (b : Bool). b && bytes_eq row.channel.name name) (eq_swap row.channel.parent.0 parent)
      ∙ ap (λ (b : Bool). (parent == row.channel.parent.0) && b) (bytes_swap row.channel.name name)

  seats_too : (n parent : ℕ) (name : List ℕ) → number row < n
      → is_taken (tree.channels ++ row ∷ []) (channel parent) (channel n) name ≡ has_seat (met.seats ++ (row.channel.parent.0, row.channel.name) ∷ []) parent name
  seats_too n parent name over =
      let test : ℕ × List ℕ → Bool = λ seat. (parent == seat.0) && bytes_eq name seat.1 in
      list_any-append (has_name_beside (channel parent) (channel n) name) tree.channels (row ∷ [])
      ∙ ap (λ (b : Bool). b || (has_name_beside (channel parent) (channel n) name row || false)) (are.seats n parent name (omega arith))
      ∙ ap (λ (b : Bool). has_seat met.seats parent name || (b || false)) (beside n parent name over)
      ∙ sym (list_any-append test met.seats ((row.channel.parent.0, row.channel.name) ∷ []))

  pub met_grown : AreMet (record { last = Some (number row); depths = insert_entry nat_eq met.depths (number row) (depth + 1); seats = met.seats ++ (row.channel.parent.0, row.channel.name) ∷ [] }) (with_row tree row)
  met_grown = record {
    there = λ n.
        there_grown tree.channels row (channel n)
        ∙ ap (λ (b : Bool). eqb (number row) n || b) (are.there n)
        ∙ sym (ap is_some (depth_inserted met.depths (number row) (depth + 1) n) ∙ some_first (number row == n) (depth + 1) (depth_of met.depths n));
    deep = deep_too;
    seats = seats_too;
    last = omega arith;
    lasting = each_append (λ (one : Row). one.channel.temporary ≡ false) tree.channels (row ∷ []) are.lasting (lasts, tt);
    unlinked = are.unlinked;
    wide = are.wide;
  }
