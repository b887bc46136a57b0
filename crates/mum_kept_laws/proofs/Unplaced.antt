-- What a tree says of its channels does not depend on their places, or on what describes the root.
use Rattle.mum_kept_laws.proofs.Common.{◌≡◌, ℕ, zero, suc, ◌+◌, ◌==◌, ◌&&◌, Bool, false, cond, nat_lt, List, [], ◌∷◌, length, map, reverse, Option, Some, None, is_some, refl, ap, ◌∙◌, list_any, option_map, option_map_or, ChannelId, Row, PATH_LIMIT, TreeFault, Nesting, RootFixed, SameName, TemporaryParent, UnderItself, has_name_beside, is_below, is_root, is_taken, is_temporary, is_there, nests, path, row_of, upward, plain_info, row_of-map, any_alike, any_map}

-- a row without its place, and the root's without what describes it
abbrev pub unplaced : Row → Row
unplaced row = record {
  place = 0;
  channel = record row.channel { info = cond (is_root row.channel.id) plain_info row.channel.info };
}

abbrev pub unplaced_rows : List Row → List Row
unplaced_rows rows = map unplaced rows

pub found_unplaced : (rows : List Row) (id : ChannelId) → row_of (unplaced_rows rows) id ≡ option_map unplaced (row_of rows id)
found_unplaced rows id = row_of-map unplaced (λ row. refl) rows id

pub some_map : (o : Option Row) → is_some (option_map unplaced o) ≡ is_some o
some_map None = refl
some_map (Some row) = refl

map_or : {X : Type 0} (f : Row → X) (x : X) → ((row : Row) → f (unplaced row) ≡ f row) → (o : Option Row) → option_map_or f (option_map unplaced o) x ≡ option_map_or f o x
map_or f x same None = refl
map_or f x same (Some row) = same row

pub there_unplaced : (rows : List Row) (id : ChannelId) → is_there (unplaced_rows rows) id ≡ is_there rows id
there_unplaced rows id = ap (λ (o : Option Row). is_some o) (found_unplaced rows id) ∙ some_map (row_of rows id)

pub temporary_unplaced : (rows : List Row) (id : ChannelId) → is_temporary (unplaced_rows rows) id ≡ is_temporary rows id
temporary_unplaced rows id =
    ap (λ (o : Option Row). option_map_or (λ (row : Row). row.channel.temporary) o false) (found_unplaced rows id) ∙ map_or (λ (row : Row). row.channel.temporary) false (λ row. refl) (row_of rows id)

pub upward_unplaced : (rows : List Row) (steps : ℕ) (id : ChannelId) → upward (unplaced_rows rows) steps id ≡ upward rows steps id
unfolding upward
upward_unplaced rows zero id = refl
upward_unplaced rows (suc steps) id =
    ap (λ (o : Option Row). option_map_or (λ (row : Row). id ∷ cond (is_root id) [] (upward (unplaced_rows rows) steps row.channel.parent)) o []) (found_unplaced rows id)
    ∙ step (row_of rows id) (upward_unplaced rows steps)
  where
    step : (o : Option Row) → ((one : ChannelId) → upward (unplaced_rows rows) steps one ≡ upward rows steps one)
        → option_map_or (λ (row : Row). id ∷ cond (is_root id) [] (upward (unplaced_rows rows) steps row.channel.parent)) (option_map unplaced o) []
        ≡ option_map_or (λ (row : Row). id ∷ cond (is_root id) [] (upward rows steps row.channel.parent)) o []
    step None same = refl
    step (Some row) same = ap (λ (ids : List ChannelId). id ∷ cond (is_root id) [] ids) (same row.channel.parent)

pub path_unplaced : (rows : List Row) (id : ChannelId) → path (unplaced_rows rows) id ≡ path rows id
path_unplaced rows id = ap (λ (ids : List ChannelId). reverse ids) (upward_unplaced rows PATH_LIMIT id)

pub below_unplaced : (rows : List Row) (top id : ChannelId) → is_below (unplaced_rows rows) top id ≡ is_below rows top id
below_unplaced rows top id = ap (λ (ids : List ChannelId). list_any (λ (one : ChannelId). one.0 == top.0) ids) (path_unplaced rows id)

pub taken_unplaced : (rows : List Row) (parent id : ChannelId) (name : List ℕ) → is_taken (unplaced_rows rows) parent id name ≡ is_taken rows parent id name
taken_unplaced rows parent id name = any_map (has_name_beside parent id name) (has_name_beside parent id name) unplaced (λ row. refl) rows

nests_unplaced : (rows : List Row) (id parent : ChannelId) (row : Row) → nests (unplaced_rows rows) id parent row ≡ nests rows id parent row
nests_unplaced rows id parent row =
    ap (λ (b : Bool). b && nat_lt (PATH_LIMIT + length (path (unplaced_rows rows) id)) (length (path (unplaced_rows rows) parent) + 1 + length (path (unplaced_rows rows) row.channel.id))) (below_unplaced rows id row.channel.id)
    ∙ ap (λ (ids : List ChannelId). is_below rows id row.channel.id && nat_lt (PATH_LIMIT + length ids) (length (path (unplaced_rows rows) parent) + 1 + length (path (unplaced_rows rows) row.channel.id))) (path_unplaced rows id)
    ∙ ap (λ (ids : List ChannelId). is_below rows id row.channel.id && nat_lt (PATH_LIMIT + length (path rows id)) (length ids + 1 + length (path (unplaced_rows rows) row.channel.id))) (path_unplaced rows parent)
    ∙ ap (λ (ids : List ChannelId). is_below rows id row.channel.id && nat_lt (PATH_LIMIT + length (path rows id)) (length (path rows parent) + 1 + length ids)) (path_unplaced rows row.channel.id)

pub nesting_unplaced : (rows : List Row) (id parent : ChannelId) → list_any (nests (unplaced_rows rows) id parent) (unplaced_rows rows) ≡ list_any (nests rows id parent) rows
nesting_unplaced rows id parent =
    any_map (nests (unplaced_rows rows) id parent) (nests (unplaced_rows rows) id parent) unplaced (λ row. refl) rows
    ∙ any_alike (nests (unplaced_rows rows) id parent) (nests rows id parent) (nests_unplaced rows id parent) rows

-- the causes against a new name and a new parent
abbrev pub causes : List Row → ChannelId → List ℕ → ChannelId → Option TreeFault
causes rows id name parent =
    cond (is_root id) (Some RootFixed)
    (cond (is_taken rows parent id name) (Some SameName)
    (cond (is_below rows id parent) (Some UnderItself)
    (cond (is_temporary rows parent) (Some TemporaryParent)
    (cond (list_any (nests rows id parent) rows) (Some Nesting) None))))

pub causes_unplaced : (rows : List Row) (id : ChannelId) (name : List ℕ) (parent : ChannelId) → causes (unplaced_rows rows) id name parent ≡ causes rows id name parent
causes_unplaced rows id name parent =
    rw (taken_unplaced rows parent id name, below_unplaced rows id parent, temporary_unplaced rows parent, nesting_unplaced rows id parent) refl
