-- A change of several parts of a channel is refused for the first cause that applies.
use Rattle.mum_part_laws.proofs.Common.{◌≡◌, ◌⊎◌, ℕ, ◌≤◌, ◌<◌, ◌==◌, ◌&&◌, ◌||◌, not, Bool, true, false, cond, List, [], ◌∷◌, Option, Some, None, inl, inr, refl, sym, ap, subst, ◌∙◌, arith, is_some, nat_lt, unwrap_or, Contains, count_by, list_all, list_any, option_map_or, bytes_eq, and_parts, false≢true, nat_tests, Contains-append_right, Contains-get_or, none-some, ChannelId, Row, TreeFault, LinkCount, Nesting, NoChannel, RootFixed, SameName, TemporaryParent, UnderItself, Change, fault_of_edit, given_or, name_after, names_there, overlinks, parent_after, renames_or_moves, with_change, AreLinks, IsProper, name_of, parent_of, is_below, is_root, is_taken, is_temporary, is_there, nests, row_of, Pair, TreeState, starts_at, fits_back, links_fit, pairs_after, count_by-cons, NamesFirst, AgainstChange, ChangesNameTheFirst, HasName, IsAbsent, IsOnWay, IsPlaced, IsTemporary, NamesAbsent, NestsTooDeep, OfPlaced, Overlinks, name_then, parent_then}
use Rattle.mum_part_laws.proofs.{Chains.Tells, Chains.TellsEach, Chains.chain, Chains.chain_names, Chains.tells_and, Chains.tells_any, Chains.tells_either, Chains.tells_eq, Chains.tells_lt, Chains.tells_not, Chains.tells_or, TreeLaws.absent, TreeLaws.named, TreeLaws.nested, TreeLaws.of_row, TreeLaws.on_way, TreeLaws.same_bytes, TreeLaws.temporary, TreeLaws.there}

-- ---- the values after a change

given_is : {X : Type 0} (o : Option X) (before : X) → given_or o before ≡ unwrap_or o before
given_is None before = refl
given_is (Some x) before = refl

name_is : (tree : TreeState) (id : ChannelId) (change : Change) (row : Row) → row_of tree.channels id ≡ Some row → name_after tree id change ≡ name_then change row
name_is tree id change row is =
    given_is change.name (name_of tree id)
    ∙ ap (λ (o : Option Row). unwrap_or change.name (option_map_or (λ (one : Row). one.channel.name) o [])) is

parent_is : (tree : TreeState) (id : ChannelId) (change : Change) (row : Row) → row_of tree.channels id ≡ Some row → parent_after tree id change ≡ parent_then change row
parent_is tree id change row is =
    given_is change.parent (parent_of tree id)
    ∙ ap (λ (o : Option Row). unwrap_or change.parent (option_map_or (λ (one : Row). one.channel.parent) o id)) is

placed : (tree : TreeState) (id : ChannelId) (change : Change) (row : Row) → row_of tree.channels id ≡ Some row → Tells (renames_or_moves tree id change) (IsPlaced change row)
placed tree id change row is =
    let same : renames_or_moves tree id change ≡ (not (bytes_eq (name_then change row) row.channel.name) || not ((parent_then change row).0 == row.channel.parent.0)) =
    ap (λ (name : List ℕ). not (bytes_eq name (name_of tree id)) || not ((parent_after tree id change).0 == (parent_of tree id).0)) (name_is tree id change row is)
    ∙ ap (λ (parent : ChannelId). not (bytes_eq (name_then change row) (name_of tree id)) || not (parent.0 == (parent_of tree id).0)) (parent_is tree id change row is)
    ∙ ap (λ (o : Option Row). not (bytes_eq (name_then change row) (option_map_or (λ (one : Row). one.channel.name) o []))
    || not ((parent_then change row).0 == (option_map_or (λ (one : Row). one.channel.parent) o id).0)) is in
    subst (λ (b : Bool). Tells b (IsPlaced change row)) (sym same)
    (tells_or (not (bytes_eq (name_then change row) row.channel.name)) (not ((parent_then change row).0 == row.channel.parent.0))
    (tells_not (bytes_eq (name_then change row) row.channel.name) (same_bytes (name_then change row) row.channel.name))
    (tells_not ((parent_then change row).0 == row.channel.parent.0) (tells_eq (parent_then change row).0 row.channel.parent.0)))

-- a cause against a new name or a new parent
of_placed : (tree : TreeState) (id : ChannelId) (change : Change) (row : Row) → row_of tree.channels id ≡ Some row → (test : Bool) (Holds : Row → Type 0) → Tells test (Holds row)
    → Tells (renames_or_moves tree id change && test) (OfPlaced tree id change Holds)
of_placed tree id change row is test Holds tells =
    of_row (λ (one : Row). IsPlaced change one × Holds one) (renames_or_moves tree id change && test) (row_of tree.channels id) row is
    (tells_and (renames_or_moves tree id change) test (placed tree id change row is) tells)

-- ---- what is not there

other_absent : (tree : TreeState) (ids : List ChannelId) → Tells (not (list_all (is_there tree.channels) ids)) ((other : ChannelId) × Contains ids other × IsAbsent tree other)
other_absent tree ids =
    subst (λ (b : Bool). Tells b ((other : ChannelId) × Contains ids other × IsAbsent tree other)) (sym (not_all (is_there tree.channels) ids))
    (tells_any (λ (id : ChannelId). not (is_there tree.channels id)) (IsAbsent tree) (absent tree) ids)
  where
    not_all : {X : Type 0} (p : X → Bool) (xs : List X) → not (list_all p xs) ≡ list_any (λ x. not (p x)) xs
    not_all p [] = refl
    not_all p (x ∷ xs) = both (p x) (list_all p xs) ∙ ap (λ (b : Bool). not (p x) || b) (not_all p xs)
      where
        both : (a b : Bool) → not (a && b) ≡ (not a || not b)
        both true b = refl
        both false b = refl

own_absent : (tree : TreeState) (id : ChannelId) (change : Change)
    → Tells (not (is_there tree.channels id && is_there tree.channels (parent_after tree id change)))
    (IsAbsent tree id ⊎ ((row : Row) × (row_of tree.channels id ≡ Some row) × IsAbsent tree (parent_then change row)))
own_absent tree id change = step (row_of tree.channels id) refl
  where
    under : Bool
    under = is_there tree.channels (parent_after tree id change)

    step : (o : Option Row) → row_of tree.channels id ≡ o
        → Tells (not (is_some o && under)) (IsAbsent tree id ⊎ ((row : Row) × (row_of tree.channels id ≡ Some row) × IsAbsent tree (parent_then change row)))
    step None is = record { so = λ _. inl is; not_so = λ off _. false≢true (sym off) }
    step (Some row) is =
        let parent : Tells (not under) (IsAbsent tree (parent_then change row)) =
        subst (λ (id : ChannelId). Tells (not (is_there tree.channels id)) (IsAbsent tree (parent_then change row))) (sym (parent_is tree id change row is)) (absent tree (parent_then change row)) in
        let some : Tells (not under) ((one : Row) × (row_of tree.channels id ≡ Some one) × IsAbsent tree (parent_then change one)) =
        of_row (λ (one : Row). IsAbsent tree (parent_then change one)) (not under) (row_of tree.channels id) row is parent in record {
          so = λ off. inr (some.so off);
          not_so = λ is_there either. elim either as (λ _. ⊥) [ inl none ↦ none-some row (sym none ∙ is) | inr fact ↦ some.not_so is_there fact ];
        }

names_absent : (tree : TreeState) (id : ChannelId) (change : Change) → Tells (not (names_there tree id change)) (NamesAbsent tree id change)
names_absent tree id change =
    let one : Bool = is_there tree.channels id && is_there tree.channels (parent_after tree id change) in
    let adds : Bool = list_all (is_there tree.channels) change.links_add in
    let removes : Bool = list_all (is_there tree.channels) change.links_remove in
    tells_either (one && adds) removes (tells_either one adds (own_absent tree id change) (other_absent tree change.links_add)) (other_absent tree change.links_remove)

-- ---- links

counted_or_none : {X : Type 0} (q : X → Bool) (xs : List X) → (count_by q xs ≡ 0) ⊎ ((x : X) × Contains xs x × (q x ≡ true))
counted_or_none q [] = inl refl
counted_or_none {X} q (x ∷ xs) = step (q x) refl (counted_or_none q xs)
  where
    step : (b : Bool) → q x ≡ b → (count_by q xs ≡ 0) ⊎ ((y : X) × Contains xs y × (q y ≡ true)) → (count_by q (x ∷ xs) ≡ 0) ⊎ ((y : X) × Contains (x ∷ xs) y × (q y ≡ true))
    step true is rest = inr (x, Contains-get_or (x ∷ xs) 0 x (omega arith), is)
    step false is rest = elim rest as (λ _. (count_by q (x ∷ xs) ≡ 0) ⊎ ((y : X) × Contains (x ∷ xs) y × (q y ≡ true))) [
      | inl none ↦ inl (omega (arith, none, count_by-cons q x xs, ap (λ (b : Bool). cond {A = ℕ} b 1 0) is))
      | inr some ↦ inr (some.0, Contains-append_right (x ∷ []) xs some.0 some.1, some.2)
    ]

few_or_many : (n : ℕ) → (n ≤ 64) ⊎ (64 < n)
few_or_many n = step (nat_lt 64 n) refl
  where
    above : (n : ℕ) → nat_lt 64 n ≡ true → 64 < n
    above n is = grind (arith, nat_tests)

    within : (n : ℕ) → nat_lt 64 n ≡ false → n ≤ 64
    within n is = grind (arith, nat_tests)

    step : (b : Bool) → nat_lt 64 n ≡ b → (n ≤ 64) ⊎ (64 < n)
    step true is = inr (above n is)
    step false is = inl (within n is)

-- where no channel at which a pair begins has too many, none has
few_each : (pairs : List Pair) → list_any (λ (pair : Pair). nat_lt 64 (count_by (starts_at pair.0) pairs)) pairs ≡ false → (id : ChannelId) → count_by (starts_at id) pairs ≤ 64
few_each pairs none id = elim (counted_or_none (starts_at id) pairs) as (λ _. count_by (starts_at id) pairs ≤ 64) [
  | inl zero ↦ omega (arith, zero)
  | inr some ↦ (let same : some.0.0 ≡ id = same_channel some.0.0 id some.2 in
      elim (few_or_many (count_by (starts_at id) pairs)) as (λ _. count_by (starts_at id) pairs ≤ 64) [
        | inl few ↦ few
        | inr many ↦ absurd ((tells_any (λ (pair : Pair). nat_lt 64 (count_by (starts_at pair.0) pairs)) (λ (pair : Pair). 64 < count_by (starts_at pair.0) pairs)
            (λ pair. tells_lt 64 (count_by (starts_at pair.0) pairs)) pairs).not_so none
            (some.0, some.1, subst (λ (one : ChannelId). 64 < count_by (starts_at one) pairs) (sym same) many))
      ])
]
  where
    number_is : (a b : ℕ) → (a == b) ≡ true → a ≡ b
    number_is a b is = grind (arith, nat_tests)

    same_channel : (one other : ChannelId) → (one.0 == other.0) ≡ true → one ≡ other
    same_channel one other is = ap (λ (n : ℕ). record { 0 = n }) (number_is one.0 other.0 is)

pub over : (tree : TreeState) (id : ChannelId) (change : Change) → IsProper tree → is_there tree.channels id ≡ true → list_all (is_there tree.channels) change.links_add ≡ true
    → Tells (overlinks tree id change) (Overlinks tree id change)
over tree id change proper here adds = record {
  so = λ on. found (list_any (λ (pair : Pair). nat_lt 64 (count_by (starts_at pair.0) after)) after) refl on;
  not_so = λ off many. too_many many.0 many.1 ((links_fit tree id change proper.rise proper.joined here adds off).few_each many.0);
}
  where
    after : List Pair
    after = (with_change tree id change).links

    too_many : (one : ChannelId) → 64 < count_by (starts_at one) after → count_by (starts_at one) after ≤ 64 → ⊥
    too_many one many few = omega (arith, many, few)

    found : (b : Bool) → list_any (λ (pair : Pair). nat_lt 64 (count_by (starts_at pair.0) after)) after ≡ b → overlinks tree id change ≡ true → Overlinks tree id change
    found true is on =
        let some = (tells_any (λ (pair : Pair). nat_lt 64 (count_by (starts_at pair.0) after)) (λ (pair : Pair). 64 < count_by (starts_at pair.0) after)
        (λ pair. tells_lt 64 (count_by (starts_at pair.0) after)) after).so is in
        (some.0.0, some.2)
    found false is on =
        let are : AreLinks tree.channels after = record { pairs = pairs_after tree id change here adds proper.joined.pairs; few_each = few_each after is } in
        absurd (false≢true (sym (fits_back tree id change proper.rise proper.joined here adds are) ∙ on))

-- ---- the law

flat : (moved root taken below under deep many : Bool)
    → option_map_or (λ (fault : TreeFault). Some fault)
    (cond moved (cond root (Some RootFixed) (cond taken (Some SameName) (cond below (Some UnderItself) (cond under (Some TemporaryParent) (cond deep (Some Nesting) None))))) None)
    (cond many (Some LinkCount) None)
    ≡ chain ((RootFixed, moved && root) ∷ (SameName, moved && taken) ∷ (UnderItself, moved && below) ∷ (TemporaryParent, moved && under) ∷ (Nesting, moved && deep) ∷ (LinkCount, many) ∷ [])
flat false root taken below under deep many = refl
flat true true taken below under deep many = refl
flat true false true below under deep many = refl
flat true false false true under deep many = refl
flat true false false false true deep many = refl
flat true false false false false true many = refl
flat true false false false false false many = refl

abbrev tests : TreeState → ChannelId → Change → List (TreeFault × Bool)
tests tree id change =
    let moved : Bool = renames_or_moves tree id change in
    let name : List ℕ = name_after tree id change in
    let parent : ChannelId = parent_after tree id change in
    (RootFixed, moved && is_root id) ∷ (SameName, moved && is_taken tree.channels parent id name) ∷ (UnderItself, moved && is_below tree.channels id parent)
    ∷ (TemporaryParent, moved && is_temporary tree.channels parent) ∷ (Nesting, moved && list_any (nests tree.channels id parent) tree.channels)
    ∷ (LinkCount, overlinks tree id change) ∷ []

fault_is : (tree : TreeState) (id : ChannelId) (change : Change) → fault_of_edit tree id change ≡ chain ((NoChannel, not (names_there tree id change)) ∷ tests tree id change)
fault_is tree id change =
    let name : List ℕ = name_after tree id change in
    let parent : ChannelId = parent_after tree id change in
    ap (λ (o : Option TreeFault). cond (not (names_there tree id change)) (Some NoChannel) o)
    (flat (renames_or_moves tree id change) (is_root id) (is_taken tree.channels parent id name) (is_below tree.channels id parent) (is_temporary tree.channels parent)
    (list_any (nests tree.channels id parent) tree.channels) (overlinks tree id change))

record AreThere (tree : TreeState) (id : ChannelId) (change : Change) : Type 0 where
  here : is_there tree.channels id ≡ true
  row : Row
  found : row_of tree.channels id ≡ Some row
  adds : list_all (is_there tree.channels) change.links_add ≡ true

are_there : (tree : TreeState) (id : ChannelId) (change : Change) → not (names_there tree id change) ≡ false → AreThere tree id change
are_there tree id change off =
    let all : names_there tree id change ≡ true = on_where (names_there tree id change) off in
    let three = and_parts (is_there tree.channels id && is_there tree.channels (parent_after tree id change) && list_all (is_there tree.channels) change.links_add)
    (list_all (is_there tree.channels) change.links_remove) all in
    let two = and_parts (is_there tree.channels id && is_there tree.channels (parent_after tree id change)) (list_all (is_there tree.channels) change.links_add) three.0 in
    let one = and_parts (is_there tree.channels id) (is_there tree.channels (parent_after tree id change)) two.0 in
    let row = there (row_of tree.channels id) (ap not one.0) in
    record { here = one.0; row = row.0; found = row.1; adds = two.1 }
  where
    on_where : (b : Bool) → not b ≡ false → b ≡ true
    on_where true is = refl
    on_where false is = absurd (false≢true (sym is))

tests_tell : (tree : TreeState) (id : ChannelId) (change : Change) → IsProper tree → AreThere tree id change → TellsEach (AgainstChange tree id change) (tests tree id change)
tests_tell tree id change proper are =
    let row : Row = are.row in
    let name : List ℕ = name_after tree id change in
    let parent : ChannelId = parent_after tree id change in
    let of_parent : (test : ChannelId → Bool) (Holds : ChannelId → Type 0) → Tells (test (parent_then change row)) (Holds (parent_then change row)) → Tells (test parent) (Holds (parent_then change row)) =
    λ test Holds tells. subst (λ (one : ChannelId). Tells (test one) (Holds (parent_then change row))) (sym (parent_is tree id change row are.found)) tells in
    let taken : Tells (is_taken tree.channels parent id name) (HasName tree (parent_then change row) id (name_then change row)) =
    of_parent (λ one. is_taken tree.channels one id name) (λ one. HasName tree one id (name_then change row))
    (subst (λ (one : List ℕ). Tells (is_taken tree.channels (parent_then change row) id one) (HasName tree (parent_then change row) id (name_then change row))) (sym (name_is tree id change row are.found))
    (named tree (parent_then change row) id (name_then change row))) in (
      of_placed tree id change row are.found (is_root id) (λ one. id.0 ≡ 0) (tells_eq id.0 0),
      (λ _. (
        of_placed tree id change row are.found (is_taken tree.channels parent id name) (λ one. HasName tree (parent_then change one) id (name_then change one)) taken,
        (λ _. (
          of_placed tree id change row are.found (is_below tree.channels id parent) (λ one. IsOnWay tree id (parent_then change one))
              (of_parent (is_below tree.channels id) (IsOnWay tree id) (on_way tree id (parent_then change row))),
          (λ _. (
            of_placed tree id change row are.found (is_temporary tree.channels parent) (λ one. IsTemporary tree (parent_then change one))
                (of_parent (is_temporary tree.channels) (IsTemporary tree) (temporary tree (parent_then change row))),
            (λ _. (
              of_placed tree id change row are.found (list_any (nests tree.channels id parent) tree.channels) (λ one. NestsTooDeep tree id (parent_then change one))
                  (of_parent (λ one. list_any (nests tree.channels id one) tree.channels) (NestsTooDeep tree id) (nested tree id (parent_then change row))),
              (λ _. (over tree id change proper are.here are.adds, (λ _. tt))),
            )),
          )),
        )),
      )),
    )

pub changes_lem : ChangesNameTheFirst
changes_lem tree id change proper =
    subst (NamesFirst (AgainstChange tree id change) (NoChannel ∷ RootFixed ∷ SameName ∷ UnderItself ∷ TemporaryParent ∷ Nesting ∷ LinkCount ∷ [])) (sym (fault_is tree id change))
    (chain_names (AgainstChange tree id change) ((NoChannel, not (names_there tree id change)) ∷ tests tree id change)
    (names_absent tree id change, (λ off. tests_tell tree id change proper (are_there tree id change off))))
