-- Kept channels as rows of a tree, by their numbers.
use Rattle.mum_kept.proofs.Common.{◌≡◌, ℕ, ◌<◌, List, [], ◌∷◌, length, map, get_or, Option, Some, None, Result, Ok, Err, MatchOption, MatchResult, sym, ap, subst, ◌∙◌, arith, AllPairs, IsSearchInRange, IsBinarySearchResult, nat_cmp, result_ok, get_or-map, length-map, ChannelId, Row, number, row_of, Rise, row_of_at, row_of_none, found_by_binary_search, Each, KeptChannel, tree_row, tree_rows}

pub each_unmapped : {X Y : Type 0} (P : Y → Type 0) (f : X → Y) (xs : List X) → Each P (map f xs) → Each (λ x. P (f x)) xs
each_unmapped P f [] all = tt
each_unmapped P f (x ∷ xs) all = (all.0, each_unmapped P f xs all.1)

-- as many rows as channels, and each row is of the channel at its place
pub rows_many : (channels : List KeptChannel) → length (tree_rows channels) ≡ length channels
rows_many channels = length-map channels tree_row

pub row_at : (channels : List KeptChannel) (k : ℕ) (d : Row) (other : KeptChannel) → k < length channels → get_or (tree_rows channels) k d ≡ tree_row (get_or channels k other)
row_at channels k d other within = get_or-map tree_row channels k other d within

-- the numbers rise in both
pub channels_rise : (channels : List KeptChannel) → Rise (tree_rows channels) → AllPairs (λ one later. one.id.0 < later.id.0) channels
channels_rise channels rise i j d less within =
    let first : number (get_or (tree_rows channels) i (tree_row d)) ≡ (get_or channels i d).id.0 = ap number (row_at channels i (tree_row d) d (omega arith)) in
    let second : number (get_or (tree_rows channels) j (tree_row d)) ≡ (get_or channels j d).id.0 = ap number (row_at channels j (tree_row d) d within) in
    let inside : j < length (tree_rows channels) = omega (arith, rows_many channels) in
    let risen : number (get_or (tree_rows channels) i (tree_row d)) < number (get_or (tree_rows channels) j (tree_row d)) = rise i j (tree_row d) less inside in
    omega arith

-- a channel that a row could be of
channel_of : Row → KeptChannel
channel_of row = record { id = row.channel.id; parent = row.channel.parent; name = row.channel.name; info = row.channel.info; policy = [] }

pub rows_rise : (channels : List KeptChannel) → AllPairs (λ one later. one.id.0 < later.id.0) channels → Rise (tree_rows channels)
rows_rise channels rise i j d less within =
    let inside : j < length channels = omega (arith, rows_many channels) in
    let other : KeptChannel = channel_of d in
    let first : number (get_or (tree_rows channels) i d) ≡ (get_or channels i other).id.0 = ap number (row_at channels i d other (omega arith)) in
    let second : number (get_or (tree_rows channels) j d) ≡ (get_or channels j other).id.0 = ap number (row_at channels j d other inside) in
    let risen : (get_or channels i other).id.0 < (get_or channels j other).id.0 = rise i j other less inside in
    omega arith

-- what a search reports of a channel
abbrev pub Located : List KeptChannel → ChannelId → Option ℕ → Type 0
Located channels id found =
    MatchOption found (row_of (tree_rows channels) id ≡ None)
    (λ at. (at < length channels) × ((other : KeptChannel) → row_of (tree_rows channels) id ≡ Some (tree_row (get_or channels at other))))

located_at : (channels : List KeptChannel) (id : ChannelId) → Rise (tree_rows channels) → (r : Result ℕ ℕ)
    → MatchResult r (λ i. (i < length channels) × ((d : KeptChannel) → (get_or channels i d).id.0 ≡ id.0)) (λ i. (k : ℕ) (d : KeptChannel) → k < length channels → (get_or channels k d).id.0 ≡ id.0 → ⊥)
    → Located channels id (result_ok r)
located_at channels id rise (Ok i) found = (
  found.0,
  λ other.
      let is : get_or (tree_rows channels) i (tree_row other) ≡ tree_row (get_or channels i other) = row_at channels i (tree_row other) other found.0 in
      let inside : i < length (tree_rows channels) = omega (arith, rows_many channels) in
      row_of_at (tree_rows channels) i (tree_row other) id rise inside (ap number is ∙ found.1 other) ∙ ap (λ (row : Row). Some row) is,
)
located_at channels id rise (Err i) none =
    row_of_none (tree_rows channels) id
    (λ k d within same.
    let inside : k < length channels = omega (arith, rows_many channels) in
    none k (channel_of d) inside (sym (ap number (row_at channels k d (channel_of d) inside)) ∙ same))

pub located : (channels : List KeptChannel) (id : ChannelId) → Rise (tree_rows channels) → (r : Result ℕ ℕ) (found : Option ℕ) → IsSearchInRange r (length channels)
    → IsBinarySearchResult (λ (channel : KeptChannel). nat_cmp channel.id.0 id.0) channels r → found ≡ result_ok r → Located channels id found
located channels id rise r found bound position is =
    subst (Located channels id) (sym is)
    (located_at channels id rise r (found_by_binary_search (λ (channel : KeptChannel). channel.id.0) channels (channels_rise channels rise) id.0 r bound position))
