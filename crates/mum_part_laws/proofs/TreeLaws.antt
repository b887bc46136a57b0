-- A change of the channels is refused for the first cause that applies.
use Rattle.mum_part_laws.proofs.Common.{◌≡◌, ◌⊎◌, ℕ, ◌+◌, ◌≤◌, ◌<◌, ◌==◌, ◌&&◌, ◌||◌, not, Bool, true, false, cond, List, [], ◌∷◌, Option, Some, None, refl, sym, ap, subst, ◌∙◌, is_some, length, nat_le, nat_lt, Contains, count_by, filter, list_any, option_map_or, bytes_eq, false≢true, length-map, length-filter, none-some, same_Some, bytes_eq-Decides, ChannelId, Row, TreeFault, Count, LinkCount, Nesting, NoChannel, RootFixed, SameName, TemporaryParent, UnderItself, is_full, name_of, parent_of, has_name_beside, is_below, is_root, is_taken, is_temporary, is_there, nests, path, row_of, Pair, TreeState, are_linked, partners, starts_at, NamesFirst, AgainstLink, AgainstNew, AgainstParent, AgainstRemoval, HasAllLinks, HasName, IsAbsent, IsOnWay, IsTemporary, LinksNameTheFirst, MovesNameTheFirst, NamesNameTheFirst, NestsTooDeep, NewChannelsNameTheFirst, RemovalsNameTheFirst}
use Rattle.mum_part_laws.specs.Trees.{AgainstName}
use Rattle.mum_part_laws.proofs.Chains.{Tells, chain_names, tells_and, tells_any, tells_either, tells_eq, tells_le, tells_lt, tells_not, tells_or, tells_so}

-- ---- what tests of the tree say

missing : {X : Type 0} (o : Option X) → Tells (not (is_some o)) (o ≡ None)
missing None = record { so = λ is. refl; not_so = λ is none. false≢true (sym is) }
missing (Some x) = record { so = λ is. absurd (false≢true is); not_so = λ is none. none-some x (sym none) }

pub absent : (tree : TreeState) (id : ChannelId) → Tells (not (is_there tree.channels id)) (IsAbsent tree id)
absent tree id = missing (row_of tree.channels id)

pub same_bytes : (xs ys : List ℕ) → Tells (bytes_eq xs ys) (xs ≡ ys)
same_bytes xs ys = record { so = λ is. (bytes_eq-Decides xs ys).0 is; not_so = λ is same. false≢true (sym is ∙ (bytes_eq-Decides xs ys).1 same) }

pub named : (tree : TreeState) (parent id : ChannelId) (name : List ℕ) → Tells (is_taken tree.channels parent id name) (HasName tree parent id name)
named tree parent id name =
    tells_so (is_taken tree.channels parent id name)
    (λ (some : (row : Row) × Contains tree.channels row × ((((row.channel.id.0 ≡ 0 → ⊥) × (row.channel.parent.0 ≡ parent.0)) × (row.channel.id.0 ≡ id.0 → ⊥)) × (row.channel.name ≡ name))).
    (some.0, some.1, some.2.0.0.0, some.2.0.0.1, some.2.0.1, some.2.1))
    (λ (has : HasName tree parent id name). (has.0, has.1, (((has.2, has.3), has.4), has.5)))
    (tells_any (has_name_beside parent id name) (λ (row : Row). (((row.channel.id.0 ≡ 0 → ⊥) × (row.channel.parent.0 ≡ parent.0)) × (row.channel.id.0 ≡ id.0 → ⊥)) × (row.channel.name ≡ name))
    (λ row.
    tells_and (not (is_root row.channel.id) && (row.channel.parent.0 == parent.0) && not (row.channel.id.0 == id.0)) (bytes_eq row.channel.name name)
    (tells_and (not (is_root row.channel.id) && (row.channel.parent.0 == parent.0)) (not (row.channel.id.0 == id.0))
    (tells_and (not (is_root row.channel.id)) (row.channel.parent.0 == parent.0) (tells_not (is_root row.channel.id) (tells_eq row.channel.id.0 0)) (tells_eq row.channel.parent.0 parent.0))
    (tells_not (row.channel.id.0 == id.0) (tells_eq row.channel.id.0 id.0)))
    (same_bytes row.channel.name name))
    tree.channels)

pub temporary : (tree : TreeState) (id : ChannelId) → Tells (is_temporary tree.channels id) (IsTemporary tree id)
temporary tree id = step (row_of tree.channels id) refl
  where
    step : (o : Option Row) → row_of tree.channels id ≡ o → Tells (option_map_or (λ (row : Row). row.channel.temporary) o false) (IsTemporary tree id)
    step None is = record { so = λ on. absurd (false≢true on); not_so = λ off some. none-some some.0 (sym is ∙ some.1) }
    step (Some row) is = record {
      so = λ on. (row, is, on);
      not_so = λ off some. false≢true (sym off ∙ ap (λ (one : Row). one.channel.temporary) (same_Some row some.0 (sym is ∙ some.1)) ∙ some.2);
    }

pub on_way : (tree : TreeState) (id other : ChannelId) → Tells (is_below tree.channels id other) (IsOnWay tree id other)
on_way tree id other = tells_any (λ (one : ChannelId). one.0 == id.0) (λ (one : ChannelId). one.0 ≡ id.0) (λ one. tells_eq one.0 id.0) (path tree.channels other)

pub nested : (tree : TreeState) (id parent : ChannelId) → Tells (list_any (nests tree.channels id parent) tree.channels) (NestsTooDeep tree id parent)
nested tree id parent =
    tells_so (list_any (nests tree.channels id parent) tree.channels)
    (λ (some : (row : Row) × Contains tree.channels row × (IsOnWay tree id row.channel.id × (33 + length (path tree.channels id) < length (path tree.channels parent) + 1 + length (path tree.channels row.channel.id)))).
    (some.0, some.1, some.2.0, some.2.1))
    (λ (deep : NestsTooDeep tree id parent). (deep.0, deep.1, (deep.2, deep.3)))
    (tells_any (nests tree.channels id parent)
    (λ (row : Row). IsOnWay tree id row.channel.id × (33 + length (path tree.channels id) < length (path tree.channels parent) + 1 + length (path tree.channels row.channel.id)))
    (λ row.
    tells_and (is_below tree.channels id row.channel.id) (nat_lt (33 + length (path tree.channels id)) (length (path tree.channels parent) + 1 + length (path tree.channels row.channel.id)))
    (on_way tree id row.channel.id) (tells_lt (33 + length (path tree.channels id)) (length (path tree.channels parent) + 1 + length (path tree.channels row.channel.id))))
    tree.channels)

pub there : {X : Type 0} (o : Option X) → not (is_some o) ≡ false → (x : X) × (o ≡ Some x)
there None is = absurd (false≢true (sym is))
there (Some x) is = (x, refl)

-- what is said of a channel that is there
pub of_row : (Fact : Row → Type 0) (test : Bool) (o : Option Row) (row : Row) → o ≡ Some row → Tells test (Fact row) → Tells test ((one : Row) × (o ≡ Some one) × Fact one)
of_row Fact test o row is tells =
    tells_so test (λ (fact : Fact row). (row, is, fact)) (λ (some : (one : Row) × (o ≡ Some one) × Fact one). subst Fact (sym (same_Some row some.0 (sym is ∙ some.1))) some.2) tells

-- ---- the laws

pub new_channels_lem : NewChannelsNameTheFirst
new_channels_lem tree id parent name =
    chain_names (AgainstNew tree id parent name) (
    (NoChannel, not (is_there tree.channels parent))
    ∷ (SameName, is_taken tree.channels parent id name)
    ∷ (TemporaryParent, is_temporary tree.channels parent)
    ∷ (Nesting, nat_le 33 (length (path tree.channels parent)))
    ∷ (Count, is_full tree)
    ∷ []
    ) (
      absent tree parent,
      (λ _. (
        named tree parent id name,
        (λ _. (
          temporary tree parent,
          (λ _. (
            tells_le 33 (length (path tree.channels parent)),
            (λ _. (
              tells_le tree.limit (length tree.channels),
              (λ _. tt),
            )),
          )),
        )),
      )),
    )

pub names_lem : NamesNameTheFirst
names_lem tree id name =
    chain_names (AgainstName tree id name) (
    (NoChannel, not (is_there tree.channels id))
    ∷ (RootFixed, is_root id)
    ∷ (SameName, is_taken tree.channels (parent_of tree id) id name)
    ∷ []
    ) (
      absent tree id,
      (λ here. (
        tells_eq id.0 0,
        (λ _. (
          (let row = there (row_of tree.channels id) here in
              of_row (λ (one : Row). HasName tree one.channel.parent id name) (is_taken tree.channels (parent_of tree id) id name) (row_of tree.channels id) row.0 row.1
              (subst (λ (parent : ChannelId). Tells (is_taken tree.channels parent id name) (HasName tree row.0.channel.parent id name))
              (sym (ap (λ (o : Option Row). option_map_or (λ (one : Row). one.channel.parent) o id) row.1)) (named tree row.0.channel.parent id name))),
          (λ _. tt),
        )),
      )),
    )

pub moves_lem : MovesNameTheFirst
moves_lem tree id parent =
    chain_names (AgainstParent tree id parent) (
    (NoChannel, not (is_there tree.channels id && is_there tree.channels parent))
    ∷ (RootFixed, is_root id)
    ∷ (SameName, is_taken tree.channels parent id (name_of tree id))
    ∷ (UnderItself, is_below tree.channels id parent)
    ∷ (TemporaryParent, is_temporary tree.channels parent)
    ∷ (Nesting, list_any (nests tree.channels id parent) tree.channels)
    ∷ []
    ) (
      tells_either (is_there tree.channels id) (is_there tree.channels parent) (absent tree id) (absent tree parent),
      (λ here. (
        tells_eq id.0 0,
        (λ _. (
          (let row = there (row_of tree.channels id) (first_there (is_there tree.channels id) (is_there tree.channels parent) here) in
              of_row (λ (one : Row). HasName tree parent id one.channel.name) (is_taken tree.channels parent id (name_of tree id)) (row_of tree.channels id) row.0 row.1
              (subst (λ (name : List ℕ). Tells (is_taken tree.channels parent id name) (HasName tree parent id row.0.channel.name))
              (sym (ap (λ (o : Option Row). option_map_or (λ (one : Row). one.channel.name) o []) row.1)) (named tree parent id row.0.channel.name))),
          (λ _. (
            on_way tree id parent,
            (λ _. (
              temporary tree parent,
              (λ _. (
                nested tree id parent,
                (λ _. tt),
              )),
            )),
          )),
        )),
      )),
    )
  where
    first_there : (a b : Bool) → not (a && b) ≡ false → not a ≡ false
    first_there true b is = refl
    first_there false b is = absurd (false≢true (sym is))

pub removals_lem : RemovalsNameTheFirst
removals_lem tree id =
    chain_names (AgainstRemoval tree id) ((NoChannel, not (is_there tree.channels id)) ∷ (RootFixed, is_root id) ∷ [])
    (absent tree id, (λ _. (tells_eq id.0 0, (λ _. tt))))

-- ---- links

all_links : (tree : TreeState) (id : ChannelId) → Tells (nat_le 64 (length (partners tree id))) (HasAllLinks tree id)
all_links tree id =
    let counted : length (partners tree id) ≡ count_by (starts_at id) tree.links = length-map (filter (starts_at id) tree.links) (λ (pair : Pair). pair.1) ∙ length-filter (starts_at id) tree.links in
    subst (λ (n : ℕ). Tells (nat_le 64 (length (partners tree id))) (64 ≤ n)) counted (tells_le 64 (length (partners tree id)))

-- they are two, and no link joins them
two_apart : (one other : ℕ) (linked : Bool) → Tells (not ((one == other) || linked)) ((one ≡ other → ⊥) × (linked ≡ false))
two_apart one other linked = tells_so (not ((one == other) || linked)) (λ is. is) (λ is. is) (of_tests (one == other) linked (tells_eq one other))
  where
    of_tests : {Same : Type 0} (a b : Bool) → Tells a Same → Tells (not (a || b)) ((Same → ⊥) × (b ≡ false))
    of_tests true b tells = record { so = λ is. absurd (false≢true is); not_so = λ _ both. both.0 (tells.so refl) }
    of_tests false true tells = record { so = λ is. absurd (false≢true is); not_so = λ _ both. false≢true (sym both.1) }
    of_tests false false tells = record { so = λ _. (tells.not_so refl, refl); not_so = λ is both. false≢true (sym is) }

unless : {X : Type 0} (x : X) (a b : Bool) → cond (not a && b) (Some x) None ≡ cond a None (cond b (Some x) None)
unless x true b = refl
unless x false true = refl
unless x false false = refl

pub links_lem : LinksNameTheFirst
links_lem tree one other =
    let near : Bool = (one.0 == other.0) || are_linked tree one other in
    let full : Bool = nat_le 64 (length (partners tree one)) || nat_le 64 (length (partners tree other)) in
    subst (NamesFirst (AgainstLink tree one other) (NoChannel ∷ LinkCount ∷ []))
    (ap (λ (o : Option TreeFault). cond (not (is_there tree.channels one && is_there tree.channels other)) (Some NoChannel) o) (unless LinkCount near full))
    (chain_names (AgainstLink tree one other) ((NoChannel, not (is_there tree.channels one && is_there tree.channels other)) ∷ (LinkCount, not near && full) ∷ []) (
      tells_either (is_there tree.channels one) (is_there tree.channels other) (absent tree one) (absent tree other),
      (λ _. (
        tells_so (not near && full)
            (λ (is : ((one.0 ≡ other.0 → ⊥) × (are_linked tree one other ≡ false)) × (HasAllLinks tree one ⊎ HasAllLinks tree other)). (is.0.0, is.0.1, is.1))
            (λ (is : AgainstLink tree one other LinkCount). ((is.0, is.1), is.2))
            (tells_and (not near) full (two_apart one.0 other.0 (are_linked tree one other))
            (tells_or (nat_le 64 (length (partners tree one))) (nat_le 64 (length (partners tree other))) (all_links tree one) (all_links tree other))),
        (λ _. tt),
      )),
    ))
