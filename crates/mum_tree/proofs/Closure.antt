-- Rounds over links find what links lead to.
use Rattle.mum_tree.proofs.Common.{◌≡◌, ℕ, zero, suc, ◌<◌, ◌≤◌, ◌&&◌, ◌⊎◌, inl, inr, Bool, true, false, not, cond, eqb, List, [], ◌∷◌, length, get_or, Some, refl, arith, ap, sym, ◌∙◌, subst, ⊎_elim, ◌↔◌, All, Contains, count_by, list_any, and_from, and_parts, both_ways, cases_Bool, eq-eqb, eqb-true, false≢true, or_cases, or_left, or_right, not-true, All-contains, count_by-le-length, sum_by-cons, same_Some, ChannelId, Row, number, row_of, is_there, AreLinks, IsBetween, Pair, TreeState, is_reached, linked, LeadTo, Walk}
use Rattle.mum_tree.proofs.{Changed.number_found, Edits.some_row, Find.contains_later, Marks.passes_from, Marks.passes_to, Start.root_row, Upward.none_contained}

pub any_has : {X : Type 0} (p : X → Bool) (x : X) (xs : List X) → p x ≡ true → Contains xs x → list_any p xs ≡ true
any_has p x [] on has = absurd (none_contained x has)
any_has p x (y ∷ xs) on (zero, within, is) = or_left (p y) (list_any p xs) (ap p is ∙ on)
any_has p x (y ∷ xs) on (suc k, within, is) = or_right (p y) (list_any p xs) (any_has p x xs on (k, omega arith, is))

pub any_from : {X : Type 0} (p : X → Bool) (xs : List X) → list_any p xs ≡ true → (x : X) × Contains xs x × (p x ≡ true)
any_from p [] on = absurd (false≢true on)
any_from p (x ∷ xs) on =
    ⊎_elim
    (λ (here : p x ≡ true). (x, (0, omega arith, refl), here))
    (λ (later : list_any p xs ≡ true). let (y, has, is) = any_from p xs later in (y, contains_later x y xs has, is))
    (or_cases (p x) (list_any p xs) on)

pub same_number : (a b : ChannelId) → eqb a.0 b.0 ≡ true → a ≡ b
same_number a b e = ap (λ n. record { 0 = n }) (eqb-true a.0 b.0 e)

reached_self : (links : List Pair) (rounds : ℕ) (id : ChannelId) → is_reached links rounds id id ≡ true
unfolding is_reached
reached_self links zero id = eq-eqb id.0 id.0 refl
reached_self links (suc rounds) id = or_left (is_reached links rounds id id) _ (reached_self links rounds id)

reached_still : (links : List Pair) (rounds : ℕ) (from to : ChannelId) → is_reached links rounds from to ≡ true → is_reached links (suc rounds) from to ≡ true
unfolding is_reached
reached_still links rounds from to on = or_left (is_reached links rounds from to) _ on

reached_on : (links : List Pair) (rounds : ℕ) (from last to : ChannelId) → is_reached links rounds from last ≡ true → Contains links (last, to) → is_reached links (suc rounds) from to ≡ true
unfolding is_reached
reached_on links rounds from last to on edge =
    or_right (is_reached links rounds from to) _
    (any_has (λ (pair : Pair). eqb pair.1.0 to.0 && is_reached links rounds from pair.0) (last, to) links (and_from (eqb to.0 to.0) (is_reached links rounds from last) (eq-eqb to.0 to.0 refl) on) edge)

reached_last : (links : List Pair) (rounds : ℕ) (from to : ChannelId) → is_reached links (suc rounds) from to ≡ true → (is_reached links rounds from to ≡ true) ⊎ ((last : ChannelId) × (is_reached links rounds from last ≡ true) × Contains links (last, to))
unfolding is_reached
reached_last links rounds from to on =
    ⊎_elim
    (λ (before : is_reached links rounds from to ≡ true). inl before)
    (λ (now : list_any (λ (pair : Pair). eqb pair.1.0 to.0 && is_reached links rounds from pair.0) links ≡ true).
    let (pair, has, is) = any_from (λ (pair : Pair). eqb pair.1.0 to.0 && is_reached links rounds from pair.0) links now in
    let (ends, starts) = and_parts (eqb pair.1.0 to.0) (is_reached links rounds from pair.0) is in
    inr (pair.0, starts, subst (λ (x : ChannelId). Contains links (pair.0, x)) (same_number pair.1 to ends) has))
    (or_cases (is_reached links rounds from to) (list_any (λ (pair : Pair). eqb pair.1.0 to.0 && is_reached links rounds from pair.0) links) on)

reached_none : (links : List Pair) (from to : ChannelId) → is_reached links 0 from to ≡ true → from ≡ to
unfolding is_reached
reached_none links from to on = same_number from to on

-- what is reached is led to
pub led_by : (links : List Pair) (rounds : ℕ) (from to : ChannelId) → is_reached links rounds from to ≡ true → LeadTo links from to
led_by links zero from to on = (0, reached_none links from to on)
led_by links (suc rounds) from to on =
    ⊎_elim
    (λ (before : is_reached links rounds from to ≡ true). led_by links rounds from to before)
    (λ now. let (last, on-2, edge) = now in let (steps, walk) = led_by links rounds from last on-2 in (suc steps, (last, walk, edge)))
    (reached_last links rounds from to on)

led_there : (rows : List Row) (links : List Pair) (id to : ChannelId) → AreLinks rows links → is_there rows id ≡ true → LeadTo links id to → is_there rows to ≡ true
led_there rows links id to are there (zero, walk) = subst (λ (x : ChannelId). is_there rows x ≡ true) walk there
led_there rows links id to are there (suc steps, (last, walk, edge)) = (All-contains (IsBetween rows) links (last, to) are.pairs.between edge).1

-- a further round finds no more
Closed : List Pair → ℕ → ChannelId → Type 0
Closed links rounds id = (to : ChannelId) → is_reached links (suc rounds) id to ≡ true → is_reached links rounds id to ≡ true

closed_next : (links : List Pair) (rounds : ℕ) (id : ChannelId) → Closed links rounds id → Closed links (suc rounds) id
unfolding Closed
closed_next links rounds id closed to on =
    ⊎_elim
    (λ (before : is_reached links (suc rounds) id to ≡ true). before)
    (λ now. let (last, on-2, edge) = now in reached_on links rounds id last to (closed last on-2) edge)
    (reached_last links (suc rounds) id to on)

closed_all : (links : List Pair) (rounds : ℕ) (id : ChannelId) → Closed links rounds id → (steps : ℕ) (to : ChannelId) → Walk links steps id to → is_reached links rounds id to ≡ true
unfolding Closed
closed_all links rounds id closed zero to walk = subst (λ (x : ChannelId). is_reached links rounds id x ≡ true) walk (reached_self links rounds id)
closed_all links rounds id closed (suc steps) to (last, walk, edge) = closed to (reached_on links rounds id last to (closed_all links rounds id closed steps last walk) edge)

abbrev pub worth : Bool → ℕ
worth b = cond b 1 0

-- a test that passes more
pub count_le_at : {X : Type 0} (p q : X → Bool) (xs : List X) → All (λ x. p x ≡ true → q x ≡ true) xs → count_by p xs ≤ count_by q xs
count_le_at p q [] more = omega arith
count_le_at {X} p q (x ∷ xs) more =
    let rest = count_le_at p q xs (λ k d within. more (suc k) d (omega arith)) in
    let f : X → ℕ = λ y. worth (p y) in
    let g : X → ℕ = λ y. worth (q y) in
    ⊎_elim
    (λ (on : p x ≡ true). omega (arith, sum_by-cons f x xs, sum_by-cons g x xs, ap worth on, ap worth (more 0 x (omega arith) on)))
    (λ (off : p x ≡ false). omega (arith, sum_by-cons f x xs, sum_by-cons g x xs, ap worth off))
    (cases_Bool (p x))

count_le : {X : Type 0} (p q : X → Bool) (xs : List X) → ((x : X) → p x ≡ true → q x ≡ true) → count_by p xs ≤ count_by q xs
count_le p q xs more = count_le_at p q xs (λ k d within. more (get_or xs k d))

pub count_less : {X : Type 0} (p q : X → Bool) (xs : List X) → ((x : X) → p x ≡ true → q x ≡ true) → list_any (λ x. q x && not (p x)) xs ≡ true → count_by p xs < count_by q xs
count_less p q [] more some = absurd (false≢true some)
count_less {X} p q (x ∷ xs) more some =
    let f : X → ℕ = λ y. worth (p y) in
    let g : X → ℕ = λ y. worth (q y) in
    ⊎_elim
    (λ (here : (q x && not (p x)) ≡ true).
    let (on, off) = and_parts (q x) (not (p x)) here in
    omega (arith, count_le p q xs more, sum_by-cons f x xs, sum_by-cons g x xs, ap worth on, ap worth (not-true (p x) off)))
    (λ (later : list_any (λ x. q x && not (p x)) xs ≡ true).
    let rest = count_less p q xs more later in
    ⊎_elim
    (λ (on : p x ≡ true). omega (arith, sum_by-cons f x xs, sum_by-cons g x xs, ap worth on, ap worth (more x on)))
    (λ (off : p x ≡ false). omega (arith, sum_by-cons f x xs, sum_by-cons g x xs, ap worth off))
    (cases_Bool (p x)))
    (or_cases (q x && not (p x)) (list_any (λ x. q x && not (p x)) xs) some)

count_some : {X : Type 0} (p : X → Bool) (xs : List X) → list_any p xs ≡ true → 0 < count_by p xs
count_some p xs some = omega (arith, count_less (λ x. false) p xs (λ x off. absurd (false≢true off)) (any_more p (λ x. p x && true) xs (λ x on. and_from (p x) true on refl) some))
  where
    any_more : {X : Type 0} (p q : X → Bool) (xs : List X) → ((x : X) → p x ≡ true → q x ≡ true) → list_any p xs ≡ true → list_any q xs ≡ true
    any_more p q xs more some = let (x, has, on) = any_from p xs some in any_has q x xs (more x on) has

-- the row of a channel is somewhere
pub row_stands : (rows : List Row) (id : ChannelId) (row : Row) → row_of rows id ≡ Some row → (k : ℕ) × (k < length rows) × ((d : Row) → get_or rows k d ≡ row)
row_stands [] id row found = cc
row_stands (first ∷ rows) id row found =
    ⊎_elim
    (λ (e : eqb (number first) id.0 ≡ true). (0, omega arith, λ d. same_Some first row (sym (ap (λ (b : Bool). cond b (Some first) (row_of rows id)) e) ∙ found)))
    (λ (e : eqb (number first) id.0 ≡ false).
    let (k, within, is) = row_stands rows id row (sym (ap (λ (b : Bool). cond b (Some first) (row_of rows id)) e) ∙ found) in
    (suc k, omega arith, is))
    (cases_Bool (eqb (number first) id.0))

-- what holds of a channel that is there holds of its row
pub any_there : (p : ChannelId → Bool) (rows : List Row) (id : ChannelId) → is_there rows id ≡ true → p id ≡ true → list_any (λ row. p row.channel.id) rows ≡ true
any_there p rows id there on =
    let (row, found) = some_row (row_of rows id) there in
    let (k, within, is) = row_stands rows id row found in
    let same : id ≡ row.channel.id = ap (λ n. record { 0 = n }) (sym (number_found rows id row found)) in
    any_has (λ row. p row.channel.id) row rows (ap p (sym same) ∙ on) (k, within, is row)

abbrev count_reached : List Row → List Pair → ℕ → ChannelId → ℕ
count_reached rows links rounds id = count_by (λ row. is_reached links rounds id row.channel.id) rows

-- each round finds a channel more, or no round will
grows : (rows : List Row) (links : List Pair) (id : ChannelId) → AreLinks rows links → is_there rows id ≡ true → (rounds : ℕ) → Closed links rounds id ⊎ (rounds < count_reached rows links rounds id)
unfolding Closed
grows rows links id are there zero = inr (count_some (λ row. is_reached links 0 id row.channel.id) rows (any_there (is_reached links 0 id) rows id there (reached_self links 0 id)))
grows rows links id are there (suc rounds) =
    let p : Row → Bool = λ row. is_reached links rounds id row.channel.id in
    let q : Row → Bool = λ row. is_reached links (suc rounds) id row.channel.id in
    ⊎_elim
    (λ (closed : Closed links rounds id). inl (closed_next links rounds id closed))
    (λ (many : rounds < count_by p rows). ⊎_elim
    (λ (some : list_any (λ row. q row && not (p row)) rows ≡ true).
    inr (omega (arith, many, count_less p q rows (λ row on. reached_still links rounds id row.channel.id on) some)))
    (λ (none : list_any (λ row. q row && not (p row)) rows ≡ false).
    inl (closed_next links rounds id (λ to on. ⊎_elim
    (λ (before : is_reached links rounds id to ≡ true). before)
    (λ (off : is_reached links rounds id to ≡ false).
    absurd (both_ways (list_any (λ row. q row && not (p row)) rows) none
    (any_there (λ x. is_reached links (suc rounds) id x && not (is_reached links rounds id x)) rows to
    (led_there rows links id to are there (led_by links (suc rounds) id to on))
    (and_from (is_reached links (suc rounds) id to) (not (is_reached links rounds id to)) on (ap not off)))))
    (cases_Bool (is_reached links rounds id to)))))
    (cases_Bool (list_any (λ row. q row && not (p row)) rows)))
    (grows rows links id are there rounds)

-- as many rounds as there are channels find all
pub reached_all : (rows : List Row) (links : List Pair) (id to : ChannelId) → AreLinks rows links → is_there rows id ≡ true → (is_reached links (length rows) id to ≡ true) ↔ LeadTo links id to
reached_all rows links id to are there = (
  λ on. led_by links (length rows) id to on,
  λ leads. ⊎_elim
      (λ (closed : Closed links (length rows) id). closed_all links (length rows) id closed leads.0 to leads.1)
      (λ (many : length rows < count_reached rows links (length rows) id).
      absurd (omega (arith, many, count_by-le-length (λ row. is_reached links (length rows) id row.channel.id) rows)))
      (grows rows links id are there (length rows)),
)

-- the list of linked channels holds those that some links lead to
pub linked_leads : (tree : TreeState) (id other : ChannelId) → AreLinks tree.channels tree.links → is_there tree.channels id ≡ true → Contains (linked tree id) other ↔ LeadTo tree.links id other
linked_leads tree id other are there =
    let rows = tree.channels in
    let p : Row → Bool = λ row. is_reached tree.links (length rows) id row.channel.id in (
      λ has.
          let (k, within, passes) = passes_from p (λ row. row.channel.id) rows other has in
          let (on, is) = passes root_row in
          subst (LeadTo tree.links id) is ((reached_all rows tree.links id (get_or rows k root_row).channel.id are there).0 on),
      λ leads.
          let (row, found) = some_row (row_of rows other) (led_there rows tree.links id other are there leads) in
          let (k, within, is) = row_stands rows other row found in
          let same : row.channel.id ≡ other = ap (λ n. record { 0 = n }) (number_found rows other row found) in
          let on = (reached_all rows tree.links id other are there).1 leads in
          passes_to p (λ row. row.channel.id) rows other (k, within, λ d. (ap p (is d) ∙ ap (is_reached tree.links (length rows) id) same ∙ on, ap (λ (r : Row). r.channel.id) (is d) ∙ same)),
    )

pub both_same : (a b : Bool) → (a ≡ true → b ≡ true) → (b ≡ true → a ≡ true) → a ≡ b
both_same true true one two = refl
both_same true false one two = sym (one refl)
both_same false true one two = two refl
both_same false false one two = refl
