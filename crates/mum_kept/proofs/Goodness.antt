-- What tests find of rows, and what makes them good.
use Rattle.mum_kept.proofs.Common.{◌≡◌, ◌≢◌, ℕ, zero, suc, ◌+◌, ◌-◌, ◌<◌, ◌≤◌, ◌==◌, ◌||◌, Bool, true, false, ltb, List, [], ◌∷◌, codes, length, take, get_or, Option, Some, None, is_some, refl, sym, ap, subst, ◌∙◌, arith, IsTrue, ◌↔◌, AllAdjacentBelow, AllPairs, Contains, IsAllAdjacentAnswer, list_all, bytes_eq, and_from, and_parts, eq-eqb, eqb-true, false≢true, lt-ltb, ltb-true, ne_eqb, none-some, same_Some, bytes_eq-Decides, take_all, list_all_at, list_all_more, list_any_at, is_among, ChannelId, ROOT, Row, PATH_LIMIT, HasRoot, LeadUp, is_root, is_there, number, row_of, upward, Rise, contains_later, upward_at, upward_missing, upward_zero, Each, each_any, each_passes, each_so, some_found, any_map, same_channel, KeptChannel, is_named_root, leads_up, tree_row, tree_rows}
use Rattle.mum_kept.proofs.{Lasting.found_each, Numbered.channels_rise, Numbered.each_unmapped, Numbered.rows_rise}

-- ---- tests and facts

pub true_is : (b : Bool) → IsTrue b → b ≡ true
true_is b on = on

pub is_true : (b : Bool) → b ≡ true → IsTrue b
is_true b on = on

-- ---- neighbours in order

-- where each is related to the next, and the relation is transitive, each is related to all after it
adjacent_pairs : {X : Type 0} (R : X → X → Type 0) → ((x y z : X) → R x y → R y z → R x z) → (xs : List X) → AllAdjacentBelow R xs (length xs) → AllPairs R xs
adjacent_pairs {X} R through xs adjacent i j d less within = far (j - i - 1) i j (omega arith) within
  where
    far : (n a b : ℕ) → a + n + 1 ≡ b → b < length xs → R (get_or xs a d) (get_or xs b d)
    far zero a b is inside = let next : a + 1 ≡ b = omega arith in subst (λ (k : ℕ). R (get_or xs a d) (get_or xs k d)) next (adjacent a d (omega arith))
    far (suc n) a b is inside =
        let next : b - 1 + 1 ≡ b = omega arith in
        through (get_or xs a d) (get_or xs (b - 1) d) (get_or xs b d) (far n a (b - 1) (omega arith) (omega arith))
        (subst (λ (k : ℕ). R (get_or xs (b - 1) d) (get_or xs k d)) next (adjacent (b - 1) d (omega arith)))

pub sorted_pairs : {X : Type 0} (test : X → X → Bool) → ((x y z : X) → test x y ≡ true → test y z ≡ true → test x z ≡ true) → (xs : List X) (sorted : Bool)
    → IsAllAdjacentAnswer (λ (x y : X) (b : Bool). b ≡ test x y) xs sorted → IsTrue sorted ↔ AllPairs (λ x y. IsTrue (test x y)) xs
sorted_pairs {X} test through xs true adjacent =
    (λ on. adjacent_pairs (λ (x y : X). test x y ≡ true) through xs (λ k d within. sym (adjacent k d within)), λ pairs. refl)
sorted_pairs test through [] false (k, within, off) = absurd (omega arith)
sorted_pairs test through (x ∷ xs) false (k, within, off) =
    (λ on. absurd (false≢true on), λ pairs. absurd (false≢true (off x ∙ pairs k (k + 1) x (omega arith) within)))

-- ---- the numbers rise

pub risen : (channels : List KeptChannel) (sorted : Bool) → IsAllAdjacentAnswer (λ (one other : KeptChannel) (b : Bool). b ≡ ltb one.id.0 other.id.0) channels sorted → IsTrue sorted ↔ Rise (tree_rows channels)
risen channels sorted answer =
    let both = sorted_pairs (λ (one other : KeptChannel). ltb one.id.0 other.id.0) (λ x y z one two. lt-ltb x.id.0 z.id.0 (omega (arith, ltb-true x.id.0 y.id.0 one, ltb-true y.id.0 z.id.0 two))) channels sorted answer in (
      λ on. rows_rise channels (λ i j d less within. ltb-true (get_or channels i d).id.0 (get_or channels j d).id.0 (both.0 on i j d less within)),
      λ rise. both.1 (λ i j d less within. lt-ltb (get_or channels i d).id.0 (get_or channels j d).id.0 (channels_rise channels rise i j d less within)),
    )

-- ---- the root

pub root_is : (rows : List Row) (channel : KeptChannel) (fine : Bool) → row_of rows ROOT ≡ Some (tree_row channel) → fine ≡ is_named_root channel → IsTrue fine ↔ HasRoot rows
root_is rows channel fine found is = (
  λ on.
      let parts = and_parts (is_root channel.parent) (bytes_eq channel.name (codes "Root")) (sym is ∙ on) in
      (tree_row channel, found, (refl, eqb-true channel.parent.0 0 parts.0, (bytes_eq-Decides channel.name (codes "Root")).0 parts.1, refl)),
  λ has.
      let same : tree_row channel ≡ has.0 = same_Some (tree_row channel) has.0 (sym found ∙ has.1) in
      is
      ∙ and_from (is_root channel.parent) (bytes_eq channel.name (codes "Root")) (eq-eqb channel.parent.0 0 (ap (λ (r : Row). r.channel.parent.0) same ∙ has.2.1))
      ((bytes_eq-Decides channel.name (codes "Root")).1 (ap (λ (r : Row). r.channel.name) same ∙ has.2.2)),
)

pub no_root : (rows : List Row) → row_of rows ROOT ≡ None → IsTrue false ↔ HasRoot rows
no_root rows none = (λ on. absurd (false≢true on), λ has. absurd (none-some has.0 (sym none ∙ has.1)))

-- ---- up to the root

pub leads_none : (rows : List Row) (steps : ℕ) (id : ChannelId) → row_of rows id ≡ None → is_among (upward rows steps id) ROOT ≡ false
leads_none rows steps id none = ap (λ (ids : List ChannelId). is_among ids ROOT) (upward_missing rows steps id none)

pub leads_zero : (rows : List Row) (id : ChannelId) → is_among (upward rows 0 id) ROOT ≡ false
leads_zero rows id = ap (λ (ids : List ChannelId). is_among ids ROOT) (upward_zero rows id)

pub leads_root : (rows : List Row) (left : ℕ) (id : ChannelId) (row : Row) → 0 < left → row_of rows id ≡ Some row → id.0 ≡ 0 → is_among (upward rows left id) ROOT ≡ true
leads_root rows zero id row some found top = absurd (omega arith)
leads_root rows (suc left) id row some found top =
    ap (λ (ids : List ChannelId). is_among ids ROOT) (upward_at rows left id row found) ∙ rw (eq-eqb id.0 0 top) refl

pub leads_on : (rows : List Row) (left : ℕ) (id : ChannelId) (row : Row) → 0 < left → row_of rows id ≡ Some row → id.0 ≢ 0 → is_among (upward rows left id) ROOT ≡ is_among (upward rows (left - 1) row.channel.parent) ROOT
leads_on rows zero id row some found below = absurd (omega arith)
leads_on rows (suc left) id row some found below =
    let off : (id.0 == 0) ≡ false = ne_eqb id.0 0 below in
    let less : suc left - 1 ≡ left = omega arith in
    ap (λ (ids : List ChannelId). is_among ids ROOT) (upward_at rows left id row found) ∙ rw off (ap (λ (n : ℕ). is_among (upward rows n row.channel.parent) ROOT) (sym less))

among_contains : (ids : List ChannelId) (id : ChannelId) → is_among ids id ≡ true → Contains ids id
among_contains [] id among = absurd (false≢true among)
among_contains (one ∷ ids) id among = by_first (one.0 == id.0) refl (among_contains ids id) among
  where
    by_first : (b : Bool) → (one.0 == id.0) ≡ b → (is_among ids id ≡ true → Contains ids id) → (b || is_among ids id) ≡ true → Contains (one ∷ ids) id
    by_first true same rest fine = (0, omega arith, same_channel one id (eqb-true one.0 id.0 same))
    by_first false other rest fine = contains_later one id ids (rest fine)

contains_among : (ids : List ChannelId) (id : ChannelId) → Contains ids id → is_among ids id ≡ true
contains_among ids id (k, within, is) = list_any_at (λ (one : ChannelId). one.0 == id.0) ids k id within (eq-eqb (get_or ids k id).0 id.0 (ap (λ (one : ChannelId). one.0) is))

all_from_each : {X : Type 0} (p : X → Bool) (xs : List X) → Each (λ x. p x ≡ true) xs → list_all p xs ≡ true
all_from_each p [] all = refl
all_from_each p (x ∷ xs) all = and_from (p x) (list_all p xs) all.0 (all_from_each p xs all.1)

pub all_lead : (channels : List KeptChannel) (fine : Bool) → Rise (tree_rows channels) → fine ≡ list_all (λ channel. leads_up (tree_rows channels) channel.id) channels → IsTrue fine ↔ LeadUp (tree_rows channels)
all_lead channels fine rise is = (
  λ on id there.
      let rows : List Row = tree_rows channels in
      each_any (λ channel. leads_up rows channel.id ≡ true) (Contains (upward rows PATH_LIMIT id) ROOT) (λ (channel : KeptChannel). channel.id.0 == id.0)
      (λ channel leads same.
      let one : channel.id ≡ id = same_channel channel.id id (eqb-true channel.id.0 id.0 same) in
      subst (λ (x : ChannelId). Contains (upward rows PATH_LIMIT x) ROOT) one (among_contains (upward rows PATH_LIMIT channel.id) ROOT leads))
      channels (each_passes (λ (channel : KeptChannel). leads_up rows channel.id) channels (sym is ∙ true_is fine on))
      (sym (any_map (λ (row : Row). number row == id.0) (λ (channel : KeptChannel). channel.id.0 == id.0) tree_row (λ channel. refl) channels)
      ∙ sym (some_found (λ (row : Row). number row == id.0) rows) ∙ true_is (is_there rows id) there),
  λ lead.
      let rows : List Row = tree_rows channels in
      is_true fine
      (is ∙ all_from_each (λ (channel : KeptChannel). leads_up rows channel.id) channels
      (each_so (λ (channel : KeptChannel). row_of rows channel.id ≡ Some (tree_row channel)) (λ (channel : KeptChannel). leads_up rows channel.id ≡ true)
      (λ channel found. contains_among (upward rows PATH_LIMIT channel.id) ROOT (lead channel.id (is_true (is_there rows channel.id) (ap (λ (o : Option Row). is_some o) found))))
      channels (each_unmapped (λ (row : Row). row_of rows row.channel.id ≡ Some row) tree_row channels (found_each rows rise)))),
)

-- ---- each passes a test

pub more_pass : {X : Type 0} (p : X → Bool) (xs : List X) (i : ℕ) (x : X) → i < length xs → x ≡ get_or xs i x → list_all p (take i xs) ≡ true → p x ≡ true → list_all p (take (i + 1) xs) ≡ true
more_pass p xs i x within is before on = list_all_more p xs i x within ∙ and_from (list_all p (take i xs)) (p (get_or xs i x)) before (ap p (sym is) ∙ on)

pub one_fails : {X : Type 0} (p : X → Bool) (xs : List X) (i : ℕ) (x : X) → i < length xs → x ≡ get_or xs i x → p x ≡ false → list_all p xs ≡ false
one_fails p xs i x within is off = list_all_at p xs i x within (ap p (sym is) ∙ off)

pub all_passed : {X : Type 0} (p : X → Bool) (xs : List X) (i : ℕ) → length xs ≤ i → list_all p (take i xs) ≡ true → list_all p xs ≡ true
all_passed {X} p xs i all before = ap (λ (ys : List X). list_all p ys) (sym (take_all i xs all)) ∙ before
