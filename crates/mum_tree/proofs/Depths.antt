-- How far channels are under a top, kept by place.
use Rattle.mum_tree.proofs.Common.{◌≡◌, ◌≢◌, ℕ, zero, suc, ◌<◌, ◌+◌, ◌-◌, ◌≤◌, ◌&&◌, Bool, true, false, ltb, List, Option, Some, None, IfSome, length, get_or, set, replicate, refl, arith, ap, sym, ◌∙◌, subst, ⊎_elim, AllPairs, Contains, position, option_map, option_map_or, is_some, eq-eqb, ne_eqb, cases_eq, cases_lt, le-ltb, lt-ltb, and_left, get_or-set_same, get_or-set_other, get_or_default, length-reverse, position-Some, none-some, same_Some, ChannelId, Row, LeadUp, number, row_of, is_below, level, nests, path, upward, AreLevels, Rise}
use Rattle.mum_tree.proofs.{Climb.climb_done, Climb.climb_missing, Climb.climb_on, Climb.climb_root, Climb.climb_top, Climb.one_less, Climb.some_level, Find.row_of_at, Shrunk.is_top, Shrunk.upward_enough, Upward.the_root, Upward.lead_parent, Upward.option_cases, Upward.there_from_lead, Upward.upward_missing, Upward.upward_more, Upward.upward_root, Upward.upward_under, Upward.upward_zero}

-- the level of a row that is the top's, the root's, or neither
pub level_at_top : (rows : List Row) (top id : ChannelId) (row : Row) → row_of rows id ≡ Some row → id.0 ≡ top.0 → Some 0 ≡ level rows top id
level_at_top rows top id row found same = sym (climb_top rows top id 33 row (omega arith) found same)

pub level_at_root : (rows : List Row) (top id : ChannelId) (row : Row) → row_of rows id ≡ Some row → id.0 ≢ top.0 → id.0 ≡ 0 → None ≡ level rows top id
level_at_root rows top id row found other root = sym (climb_root rows top id 33 row (omega arith) found other root)

-- the way up from the parent of a row that is not the root's
pub parent_leads : (rows : List Row) (id : ChannelId) (row : Row) → LeadUp rows → row_of rows id ≡ Some row → id.0 ≢ 0 → Contains (upward rows 32 row.channel.parent) the_root
parent_leads rows id row lead found under = lead_parent rows 32 id row found (ne_eqb id.0 0 under) (lead id (ap is_some found))

pub parent_there : (rows : List Row) (id : ChannelId) (row : Row) → LeadUp rows → row_of rows id ≡ Some row → id.0 ≢ 0 → is_some (row_of rows row.channel.parent) ≡ true
parent_there rows id row lead found under = ap is_some (there_from_lead rows 32 row.channel.parent (parent_leads rows id row lead found under)).1

parent_whole : (rows : List Row) (id : ChannelId) (row : Row) → LeadUp rows → row_of rows id ≡ Some row → id.0 ≢ 0 → upward rows 33 row.channel.parent ≡ upward rows 32 row.channel.parent
parent_whole rows id row lead found under = upward_more rows 32 row.channel.parent (parent_leads rows id row lead found under)

pub way_shorter : (rows : List Row) (id : ChannelId) (row : Row) → LeadUp rows → row_of rows id ≡ Some row → id.0 ≢ 0 → length (upward rows 33 row.channel.parent) < length (upward rows 33 id)
way_shorter rows id row lead found under = omega (arith, ap length (parent_whole rows id row lead found under), ap length (upward_under rows 32 id row found (ne_eqb id.0 0 under)))

pub level_under : (rows : List Row) (top id : ChannelId) (row : Row) → LeadUp rows → row_of rows id ≡ Some row → id.0 ≢ top.0 → id.0 ≢ 0 → option_map (λ k. k + 1) (level rows top row.channel.parent) ≡ level rows top id
level_under rows top id row lead found other under =
    ap (λ us. option_map (λ k. k + 1) (position (is_top top) us)) (parent_whole rows id row lead found under)
    ∙ sym (climb_on rows top id 33 row (omega arith) found other under)

-- a way up of n steps has at most n channels
pub upward_within : (rows : List Row) (steps : ℕ) (id : ChannelId) → length (upward rows steps id) ≤ steps
upward_within rows zero id = omega (arith, ap length (upward_zero rows id))
upward_within rows (suc steps) id =
    ⊎_elim
    (λ (none : row_of rows id ≡ None). omega (arith, ap length (upward_missing rows (suc steps) id none)))
    (λ found. ⊎_elim
    (λ (root : id.0 ≡ 0). omega (arith, ap length (upward_root rows steps id found.0 found.1 (eq-eqb id.0 0 root))))
    (λ (under : id.0 ≢ 0). omega (arith, ap length (upward_under rows steps id found.0 found.1 (ne_eqb id.0 0 under)), upward_within rows steps found.0.channel.parent))
    (cases_eq id.0 0))
    (option_cases (row_of rows id))

pub level_short : (rows : List Row) (top id : ChannelId) (found : Option ℕ) → found ≡ level rows top id → IfSome found (λ steps. steps < 33)
level_short rows top id None is = tt
level_short rows top id (Some n) is = omega (arith, (position-Some (is_top top) (upward rows 33 id) n top (sym is)).0, upward_within rows 33 id)

-- what is kept at places
abbrev pub unknown : Option (Option ℕ)
unknown = None

none_kept : (n place : ℕ) → get_or (replicate n unknown) place unknown ≡ unknown
none_kept zero place = refl
none_kept (suc n) zero = refl
none_kept (suc n) (suc place) = none_kept n place

pub levels_none : (rows : List Row) (top : ChannelId) (known : List (Option (Option ℕ))) → known ≡ replicate 2048 unknown → AreLevels rows top known
levels_none rows top known none k d within =
    subst (λ (steps : Option (Option ℕ)). IfSome steps (λ s. s ≡ level rows top (get_or rows k d).channel.id))
    (sym (ap (λ (ks : List (Option (Option ℕ))). get_or ks (get_or rows k d).place unknown) none ∙ none_kept 2048 (get_or rows k d).place)) tt

pub levels_set : (rows : List Row) (top : ChannelId) (known : List (Option (Option ℕ))) (i : ℕ) (row : Row) (found : Option ℕ) → i < length rows → row ≡ get_or rows i row → row.place < length known → AllPairs (λ one other. one.place ≢ other.place) rows → found ≡ level rows top row.channel.id → AreLevels rows top known → AreLevels rows top (set known row.place (Some found))
levels_set rows top known i row found within read places_fit places_apart is right k d inside =
    ⊎_elim
    (λ (here : k ≡ i).
    let same : get_or rows k d ≡ row = ap (λ j. get_or rows j d) here ∙ get_or_default rows i d row within ∙ sym read in
    let at : get_or (set known row.place (Some found)) row.place None ≡ Some found = get_or-set_same known row.place (Some found) None places_fit in
    subst (λ (r : Row). IfSome (get_or (set known row.place (Some found)) r.place None) (λ s. s ≡ level rows top r.channel.id)) (sym same)
    (subst (λ (kept : Option (Option ℕ)). IfSome kept (λ s. s ≡ level rows top row.channel.id)) (sym at) is))
    (λ (off : k ≡ i → ⊥).
    let differs : (get_or rows k d).place ≢ row.place = places_differ rows i row k d within read places_apart inside off in
    subst (λ (kept : Option (Option ℕ)). IfSome kept (λ s. s ≡ level rows top (get_or rows k d).channel.id))
    (sym (get_or-set_other known row.place (get_or rows k d).place (Some found) None differs)) (right k d inside))
    (cases_eq k i)
  where
    places_differ : (rows : List Row) (i : ℕ) (row : Row) (k : ℕ) (d : Row) → i < length rows → row ≡ get_or rows i row → AllPairs (λ one other. one.place ≢ other.place) rows → k < length rows → (k ≡ i → ⊥) → (get_or rows k d).place ≢ row.place
    places_differ rows i row k d within read places_apart inside off e =
        let at : (get_or rows i d).place ≡ row.place = ap (λ (r : Row). r.place) (get_or_default rows i d row within ∙ sym read) in
        ⊎_elim
        (λ (l : k < i). places_apart k i d l within (e ∙ sym at))
        (λ (g : i ≤ k). places_apart i k d (omega arith) inside (at ∙ sym e))
        (cases_lt k i)

-- the channels on a path are those on the top's and the steps under it
way_length : (rows : List Row) (top : ChannelId) (steps : ℕ) (x : ChannelId) (n : ℕ) → steps ≤ 33 → Contains (upward rows steps x) the_root → position (is_top top) (upward rows steps x) ≡ Some n → length (upward rows steps x) ≡ n + length (upward rows 33 top)
way_length rows top zero x n short lead is = absurd (none-some n (sym (climb_done rows top x 0 refl) ∙ is))
way_length rows top (suc steps) x n short lead is =
    let (row, found) = there_from_lead rows (suc steps) x lead in
    ⊎_elim
    (λ (here : x.0 ≡ top.0).
    let same : x ≡ top = ap (λ m. record { 0 = m }) here in
    let none : 0 ≡ n = same_Some 0 n (sym (climb_top rows top x (suc steps) row (omega arith) found here) ∙ is) in
    let whole : upward rows 33 x ≡ upward rows (suc steps) x = upward_enough rows (suc steps) (32 - steps) 33 x (omega arith) lead in
    omega (arith, ap length whole, ap (λ y. length (upward rows 33 y)) same))
    (λ (other : x.0 ≢ top.0). ⊎_elim
    (λ (root : x.0 ≡ 0). absurd (none-some n (sym (climb_root rows top x (suc steps) row (omega arith) found other root) ∙ is)))
    (λ (under : x.0 ≢ 0).
    let here : suc steps - 1 ≡ steps = omega arith in
    let up : position (is_top top) (upward rows (suc steps) x) ≡ option_map (λ k. k + 1) (position (is_top top) (upward rows steps row.channel.parent)) = climb_on rows top x (suc steps) row (omega arith) found other under ∙ ap (λ m. option_map (λ k. k + 1) (position (is_top top) (upward rows m row.channel.parent))) here in
    let (m, less, next) = one_less (position (is_top top) (upward rows steps row.channel.parent)) n (sym up ∙ is) in
    omega (arith, ap length (upward_under rows steps x row found (ne_eqb x.0 0 under)), way_length rows top steps row.channel.parent m (omega arith) (lead_parent rows steps x row found (ne_eqb x.0 0 under) lead) less))
    (cases_eq x.0 0))
    (cases_eq x.0 top.0)

path_from : (rows : List Row) (top x : ChannelId) (n : ℕ) → LeadUp rows → Some n ≡ level rows top x → length (path rows x) ≡ n + length (path rows top)
path_from rows top x n lead is =
    ⊎_elim
    (λ (none : row_of rows x ≡ None). absurd (none-some n (sym (climb_missing rows top x 33 none) ∙ sym is)))
    (λ found.
    omega (arith, length-reverse (upward rows 33 x), length-reverse (upward rows 33 top), way_length rows top 33 x n (omega arith) (lead x (ap is_some found.1)) (sym is)))
    (option_cases (row_of rows x))

deeper : (above own steps whole : ℕ) → whole ≡ steps + own → ltb 33 (above + 1 + steps) ≡ ltb (33 + own) (above + 1 + whole)
deeper above own steps whole is =
    ⊎_elim
    (λ (l : 33 < above + 1 + steps). lt-ltb 33 (above + 1 + steps) l ∙ sym (lt-ltb (33 + own) (above + 1 + whole) (omega arith)))
    (λ (g : above + 1 + steps ≤ 33). le-ltb 33 (above + 1 + steps) g ∙ sym (le-ltb (33 + own) (above + 1 + whole) (omega arith)))
    (cases_lt 33 (above + 1 + steps))

-- a row nests too deep exactly where its level says so
pub nests_by_level : (rows : List Row) (id parent : ChannelId) (row : Row) (above : ℕ) (found : Option ℕ) → LeadUp rows → above ≡ length (path rows parent) → found ≡ level rows id row.channel.id → option_map_or (λ steps. ltb 33 (above + 1 + steps)) found false ≡ nests rows id parent row
nests_by_level rows id parent row above None lead high is =
    sym (and_left (is_below rows id row.channel.id) (ltb (33 + length (path rows id)) (length (path rows parent) + 1 + length (path rows row.channel.id))) (sym (some_level rows id row.channel.id) ∙ ap is_some (sym is)))
nests_by_level rows id parent row above (Some n) lead high is =
    let under : is_below rows id row.channel.id ≡ true = sym (some_level rows id row.channel.id) ∙ ap is_some (sym is) in
    deeper above (length (path rows id)) n (length (path rows row.channel.id)) (path_from rows id row.channel.id n lead is)
    ∙ ap (λ m. ltb (33 + length (path rows id)) (m + 1 + length (path rows row.channel.id))) high
    ∙ ap (λ (b : Bool). b && ltb (33 + length (path rows id)) (length (path rows parent) + 1 + length (path rows row.channel.id))) (sym under)

-- a row that was read at its place in the list is its channel's
pub row_found : (rows : List Row) (at : ℕ) (row : Row) → Rise rows → at < length rows → row ≡ get_or rows at row → row_of rows row.channel.id ≡ Some row
row_found rows at row rise within read = row_of_at rows at row row.channel.id rise within (ap number (sym read)) ∙ ap (λ (r : Row). Some r) (sym read)
