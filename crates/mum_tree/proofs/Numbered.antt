-- How the components of links are found, and what their numbers say.
use Rattle.mum_tree.proofs.Common.{◌≡◌, ◌≢◌, ℕ, zero, suc, ◌<◌, ◌≤◌, ◌+◌, ◌-◌, Bool, true, false, cond, eqb, ltb, List, [], ◌∷◌, ◌++◌, length, get_or, set, take, drop, map, refl, arith, ap, sym, ◌∙◌, subst, ⊎_elim, length-append, length-set, ◌↔◌, All, Contains, filter, cases_eq, cases_lt, eq-eqb, eqb-true, le-ltb, lt-ltb, ne_eqb, get_or_default, get_or-append_right, get_or-set_other, get_or-set_same, map-append, take-append_seam, get_or-append, All-contains, All-push, filter_more, ChannelId, Row, moved_to, united, AreComponents, AreUnited, Descends, IsForest, AreBothWays, AreLinks, ArePairs, IsBetween, number, row_of, is_there, Rise, Pair, TreeState, is_reached, linked, LeadTo, Walk}
use Rattle.mum_tree.proofs.{Changed.number_found, Closure.both_same, Closure.reached_all, Closure.row_stands, Edits.some_row, Marks.one_place}

-- ---- links lead on, and back

pub lead_on : (links : List Pair) (a b : ChannelId) (steps : ℕ) (c : ChannelId) → LeadTo links a b → Walk links steps b c → LeadTo links a c
lead_on links a b zero c leads walk = subst (LeadTo links a) walk leads
lead_on links a b (suc steps) c leads (last, walk, edge) = let (more, way) = lead_on links a b steps last leads walk in (suc more, (last, way, edge))

pub lead_through : (links : List Pair) (a b c : ChannelId) → LeadTo links a b → LeadTo links b c → LeadTo links a c
lead_through links a b c leads (steps, walk) = lead_on links a b steps c leads walk

pub lead_along : (links : List Pair) (a b : ChannelId) → Contains links (a, b) → LeadTo links a b
lead_along links a b edge = (1, (a, refl, edge))

walk_back : (links : List Pair) (a : ChannelId) (steps : ℕ) (b : ChannelId) → AreBothWays links → Walk links steps a b → LeadTo links b a
walk_back links a zero b both walk = (0, sym walk)
walk_back links a (suc steps) b both (last, walk, edge) =
    lead_through links b last a (lead_along links b last (All-contains (λ pair. Contains links (pair.1, pair.0)) links (last, b) both edge)) (walk_back links a steps last both walk)

pub lead_back : (links : List Pair) (a b : ChannelId) → AreBothWays links → LeadTo links a b → LeadTo links b a
lead_back links a b both (steps, walk) = walk_back links a steps b both walk

-- ---- forests

pub forest_alone : (numbers : List ℕ) → ((k : ℕ) → k < length numbers → get_or numbers k 0 ≡ k) → IsForest numbers (λ k. k)
forest_alone numbers alone = record {
  below = λ k within. omega arith;
  down = λ k within. omega (arith, alone k within);
  along = λ k within. alone k within;
  ends = λ k within is. refl;
}

pub descends_set : (numbers : List ℕ) (at value : ℕ) → at < length numbers → value ≤ at → Descends numbers → Descends (set numbers at value)
descends_set numbers at value within low down k inside =
    ⊎_elim
    (λ (e : k ≡ at). subst (λ j. get_or (set numbers at value) j 0 ≤ j) (sym e) (omega (arith, get_or-set_same numbers at value 0 within)))
    (λ (o : k ≡ at → ⊥). omega (arith, get_or-set_other numbers at k value 0 o, down k (omega (arith, length-set numbers at value))))
    (cases_eq k at)

pub halved : (numbers : List ℕ) (first : ℕ → ℕ) (at : ℕ) → at < length numbers → IsForest numbers first → IsForest (set numbers at (get_or numbers (get_or numbers at 0) 0)) first
halved numbers first at within forest =
    let next = get_or numbers at 0 in
    let value = get_or numbers next 0 in
    let low : next ≤ at = forest.down at within in
    let lower : value ≤ next = forest.down next (omega arith) in
    let new = set numbers at value in
    let size : length new ≡ length numbers = length-set numbers at value in
    let here : get_or new at 0 ≡ value = get_or-set_same numbers at value 0 within in
    record {
      below = λ k inside. forest.below k (omega arith);
      down = descends_set numbers at value within (omega arith) forest.down;
      along = λ k inside. ⊎_elim
          (λ (e : k ≡ at). ap (λ j. first (get_or new j 0)) e ∙ ap first here ∙ forest.along next (omega arith) ∙ forest.along at within ∙ ap first (sym e))
          (λ (o : k ≡ at → ⊥). ap first (get_or-set_other numbers at k value 0 o) ∙ forest.along k (omega arith))
          (cases_eq k at);
      ends = λ k inside is. ⊎_elim
          (λ (e : k ≡ at).
          let same : value ≡ at = sym here ∙ ap (λ j. get_or new j 0) (sym e) ∙ is ∙ e in
          ap first e ∙ forest.ends at within (omega arith) ∙ sym e)
          (λ (o : k ≡ at → ⊥). forest.ends k (omega arith) (sym (get_or-set_other numbers at k value 0 o) ∙ is))
          (cases_eq k at);
    }

same_either : (b : Bool) (x : ℕ) → cond b x x ≡ x
same_either true x = refl
same_either false x = refl

-- the end of one component is led to that of another which is not above it
pub joined_forest : (numbers : List ℕ) (first : ℕ → ℕ) (high low : ℕ) → high < length numbers → low ≤ high → first high ≡ high → first low ≡ low → IsForest numbers first → IsForest (set numbers high low) (moved_to first high low)
joined_forest numbers first high low within under top bottom forest =
    let f : ℕ → ℕ = λ m. cond (eqb m high) low m in
    let new = set numbers high low in
    let size : length new ≡ length numbers = length-set numbers high low in
    let here : get_or new high 0 ≡ low = get_or-set_same numbers high low 0 within in
    let moved : f high ≡ low = ap (λ (b : Bool). cond b low high) (eq-eqb high high refl) in
    let kept : f low ≡ low = same_either (eqb low high) low in
    record {
      below = λ k inside. ⊎_elim
          (λ (e : first k ≡ high).
          let is : f (first k) ≡ low = ap f e ∙ moved in
          let least : first k ≤ k = forest.below k (omega arith) in
          omega arith)
          (λ (o : first k ≡ high → ⊥).
          let is : f (first k) ≡ first k = ap (λ (b : Bool). cond b low (first k)) (ne_eqb (first k) high o) in
          let least : first k ≤ k = forest.below k (omega arith) in
          omega arith)
          (cases_eq (first k) high);
      down = descends_set numbers high low within under forest.down;
      along = λ k inside. ⊎_elim
          (λ (e : k ≡ high). ap (λ j. f (first (get_or new j 0))) e ∙ ap (λ m. f (first m)) here ∙ ap f bottom ∙ kept ∙ sym moved ∙ ap f (sym top) ∙ ap (λ j. f (first j)) (sym e))
          (λ (o : k ≡ high → ⊥). ap (λ m. f (first m)) (get_or-set_other numbers high k low 0 o) ∙ ap f (forest.along k (omega arith)))
          (cases_eq k high);
      ends = λ k inside is. ⊎_elim
          (λ (e : k ≡ high). ap (λ j. f (first j)) e ∙ ap f top ∙ moved ∙ sym here ∙ ap (λ j. get_or new j 0) (sym e) ∙ is)
          (λ (o : k ≡ high → ⊥).
          ap f (forest.ends k (omega arith) (sym (get_or-set_other numbers high k low 0 o) ∙ is)) ∙ ap (λ (b : Bool). cond b low k) (ne_eqb k high o))
          (cases_eq k high);
    }

-- ---- two components become one

pub united_below : (numbers : List ℕ) (first : ℕ → ℕ) (a b one other : ℕ) → one ≡ first a → other ≡ first b → one < other → IsForest numbers (moved_to first other one) → IsForest numbers (united first a b)
united_below numbers first a b one other is-one is-other less forest =
    subst (λ (t : Bool). IsForest numbers (λ k. cond t (moved_to first (first b) (first a) k) (moved_to first (first a) (first b) k))) (sym (lt-ltb (first a) (first b) (omega arith)))
    (subst (λ m. IsForest numbers (moved_to first (first b) m)) is-one (subst (λ m. IsForest numbers (moved_to first m one)) is-other forest))

pub united_above : (numbers : List ℕ) (first : ℕ → ℕ) (a b one other : ℕ) → one ≡ first a → other ≡ first b → other ≤ one → IsForest numbers (moved_to first one other) → IsForest numbers (united first a b)
united_above numbers first a b one other is-one is-other above forest =
    subst (λ (t : Bool). IsForest numbers (λ k. cond t (moved_to first (first b) (first a) k) (moved_to first (first a) (first b) k))) (sym (le-ltb (first a) (first b) (omega arith)))
    (subst (λ m. IsForest numbers (moved_to first (first a) m)) is-other (subst (λ m. IsForest numbers (moved_to first m other)) is-one forest))

pub united_same : (first : ℕ → ℕ) (a b : ℕ) → united first a b a ≡ united first a b b
united_same first a b =
    let low = first a in
    let high = first b in
    ⊎_elim
    (λ (l : low < high).
    ap (λ (t : Bool). cond t (moved_to first high low a) (moved_to first low high a)) (lt-ltb low high l)
    ∙ same_either (eqb low high) low
    ∙ sym (ap (λ (t : Bool). cond t low high) (eq-eqb high high refl))
    ∙ sym (ap (λ (t : Bool). cond t (moved_to first high low b) (moved_to first low high b)) (lt-ltb low high l)))
    (λ (g : high ≤ low).
    ap (λ (t : Bool). cond t (moved_to first high low a) (moved_to first low high a)) (le-ltb low high g)
    ∙ ap (λ (t : Bool). cond t high low) (eq-eqb low low refl)
    ∙ sym (same_either (eqb high low) high)
    ∙ sym (ap (λ (t : Bool). cond t (moved_to first high low b) (moved_to first low high b)) (le-ltb low high g)))
    (cases_lt low high)

-- what is one component stays one
pub united_still : (first : ℕ → ℕ) (a b x y : ℕ) → first x ≡ first y → united first a b x ≡ united first a b y
united_still first a b x y same =
    ap (λ m. cond (ltb (first a) (first b)) (cond (eqb m (first b)) (first a) m) (cond (eqb m (first a)) (first b) m)) same

abbrev id_at : List Row → ℕ → Row → ChannelId
id_at rows k row = (get_or rows k row).channel.id

led_from : (rows : List Row) (links : List Pair) (first : ℕ → ℕ) (from to k : ℕ) (row : Row) → LeadTo links (id_at rows to row) (id_at rows from row) → LeadTo links (id_at rows (first k) row) (id_at rows k row) → LeadTo links (id_at rows (moved_to first from to k) row) (id_at rows k row)
led_from rows links first from to k row way led =
    ⊎_elim
    (λ (e : first k ≡ from).
    let is : moved_to first from to k ≡ to = ap (λ (t : Bool). cond t to (first k)) (eq-eqb (first k) from e) in
    subst (λ m. LeadTo links (id_at rows m row) (id_at rows k row)) (sym is)
    (lead_through links (id_at rows to row) (id_at rows from row) (id_at rows k row) way (subst (λ m. LeadTo links (id_at rows m row) (id_at rows k row)) e led)))
    (λ (o : first k ≡ from → ⊥).
    let is : moved_to first from to k ≡ first k = ap (λ (t : Bool). cond t to (first k)) (ne_eqb (first k) from o) in
    subst (λ m. LeadTo links (id_at rows m row) (id_at rows k row)) (sym is) led)
    (cases_eq (first k) from)

-- a link more is within one component
pub united_more : (rows : List Row) (links : List Pair) (first : ℕ → ℕ) (at a b : ℕ) (link : Pair) → Rise rows → AreBothWays links → at < length links → link ≡ get_or links at link → a < length rows → b < length rows → ((row : Row) → id_at rows a row ≡ link.0) → ((row : Row) → id_at rows b row ≡ link.1) → AreUnited rows links at first → AreUnited rows links (at + 1) (united first a b)
united_more rows links first at a b link rise both within read inside-a inside-b named-a named-b before = record {
  led = λ k row inside.
      let edge : LeadTo links (id_at rows a row) (id_at rows b row) =
      lead_along links (id_at rows a row) (id_at rows b row)
      (subst (λ (x : ChannelId). Contains links (x, id_at rows b row)) (sym (named-a row))
      (subst (λ (x : ChannelId). Contains links (link.0, x)) (sym (named-b row))
      (at, within, get_or_default links at link (link.0, link.1) within ∙ sym read))) in
      let from-a = before.led a row inside-a in
      let from-b = before.led b row inside-b in
      let way : LeadTo links (id_at rows (first a) row) (id_at rows (first b) row) =
      lead_through links (id_at rows (first a) row) (id_at rows a row) (id_at rows (first b) row) from-a
      (lead_through links (id_at rows a row) (id_at rows b row) (id_at rows (first b) row) edge (lead_back links (id_at rows (first b) row) (id_at rows b row) both from-b)) in
      let back = lead_back links (id_at rows (first a) row) (id_at rows (first b) row) both way in
      let here = before.led k row inside in
      ⊎_elim
      (λ (l : first a < first b).
      subst (λ (t : Bool). LeadTo links (id_at rows (cond t (moved_to first (first b) (first a) k) (moved_to first (first a) (first b) k)) row) (id_at rows k row)) (sym (lt-ltb (first a) (first b) l))
      (led_from rows links first (first b) (first a) k row way here))
      (λ (g : first b ≤ first a).
      subst (λ (t : Bool). LeadTo links (id_at rows (cond t (moved_to first (first b) (first a) k) (moved_to first (first a) (first b) k)) row) (id_at rows k row)) (sym (le-ltb (first a) (first b) g))
      (led_from rows links first (first a) (first b) k row back here))
      (cases_lt (first a) (first b));
  joined = λ j x y pair row below inside-x inside-y named-x named-y.
      ⊎_elim
      (λ (l : j < at). united_still first a b x y (before.joined j x y pair row l inside-x inside-y named-x named-y))
      (λ (g : at ≤ j).
      let e : j ≡ at = omega arith in
      let same : get_or links j pair ≡ link = ap (λ i. get_or links i pair) e ∙ get_or_default links at pair link within ∙ sym read in
      let is-a : x ≡ a = one_place number rows x a row rise inside-x inside-a (ap (λ (c : ChannelId). c.0) (named-x ∙ ap (λ (p : Pair). p.0) same ∙ sym (named-a row))) in
      let is-b : y ≡ b = one_place number rows y b row rise inside-y inside-b (ap (λ (c : ChannelId). c.0) (named-y ∙ ap (λ (p : Pair). p.1) same ∙ sym (named-b row))) in
      ap (united first a b) is-a ∙ united_same first a b ∙ ap (united first a b) (sym is-b))
      (cases_lt j at);
}

pub united_none : (rows : List Row) (links : List Pair) → AreUnited rows links 0 (λ k. k)
united_none rows links = record {
  led = λ k row inside. (0, refl);
  joined = λ j a b pair row below. absurd (omega arith);
}

-- ---- the numbers that are left

walk_same : (rows : List Row) (links : List Pair) (first : ℕ → ℕ) (row : Row) (k : ℕ) → Rise rows → ArePairs rows links → AreUnited rows links (length links) first → k < length rows → (steps : ℕ) (to : ChannelId) (j : ℕ) → j < length rows → id_at rows j row ≡ to → Walk links steps (id_at rows k row) to → first k ≡ first j
walk_same rows links first row k rise pairs united inside zero to j within named walk =
    ap first (one_place number rows k j row rise inside within (ap (λ (c : ChannelId). c.0) (walk ∙ sym named)))
walk_same rows links first row k rise pairs united inside (suc steps) to j within named (last, walk, edge) =
    let (found, is) = some_row (row_of rows last) (All-contains (IsBetween rows) links (last, to) pairs.between edge).0 in
    let (m, below, stands) = row_stands rows last found is in
    let mine : id_at rows m row ≡ last = ap (λ (r : Row). r.channel.id) (stands row) ∙ ap (λ n. record { 0 = n }) (number_found rows last found is) in
    let (e, at, has) = edge in
    walk_same rows links first row k rise pairs united inside steps last m below mine walk
    ∙ united.joined e m j (last, to) row at below within (mine ∙ sym (ap (λ (p : Pair). p.0) has)) (named ∙ sym (ap (λ (p : Pair). p.1) has))

pub components_found : (rows : List Row) (links : List Pair) (numbers : List ℕ) (first : ℕ → ℕ) → Rise rows → ArePairs rows links → length numbers ≡ length rows → ((k : ℕ) → k < length rows → first k ≤ k) → ((k : ℕ) → k < length rows → get_or numbers k 0 ≡ first k) → AreUnited rows links (length links) first → AreComponents rows links numbers
components_found rows links numbers first rise pairs whole below are united = record {
  whole = whole;
  within = λ k inside. omega (arith, are k inside, below k inside);
  same = λ k j row inside within. (
    λ e.
        let one : first k ≡ first j = sym (are k inside) ∙ e ∙ are j within in
        let to-j : LeadTo links (id_at rows (first k) row) (id_at rows j row) = subst (λ m. LeadTo links (id_at rows m row) (id_at rows j row)) (sym one) (united.led j row within) in
        lead_through links (id_at rows k row) (id_at rows (first k) row) (id_at rows j row)
        (lead_back links (id_at rows (first k) row) (id_at rows k row) pairs.both (united.led k row inside)) to-j,
    λ leads.
        let (steps, walk) = leads in
        are k inside ∙ walk_same rows links first row k rise pairs united inside steps (id_at rows j row) j within refl walk ∙ sym (are j within),
  );
}

-- ---- what keeps the numbers right

pub components_set : (rows : List Row) (links : List Pair) (numbers : List ℕ) (at : ℕ) (row new : Row) → at < length rows → row ≡ get_or rows at row → new.channel.id ≡ row.channel.id → AreComponents rows links numbers → AreComponents (set rows at new) links numbers
components_set rows links numbers at row new within read same are =
    let size : length (set rows at new) ≡ length rows = length-set rows at new in
    let named : (k : ℕ) (d : Row) → id_at (set rows at new) k d ≡ id_at rows k d =
    λ k d. ⊎_elim
    (λ (e : k ≡ at).
    ap (λ j. id_at (set rows at new) j d) e ∙ ap (λ (r : Row). r.channel.id) (get_or-set_same rows at new d within) ∙ same
    ∙ ap (λ (r : Row). r.channel.id) (read ∙ get_or_default rows at row d within) ∙ ap (λ j. id_at rows j d) (sym e))
    (λ (o : k ≡ at → ⊥). ap (λ (r : Row). r.channel.id) (get_or-set_other rows at k new d o))
    (cases_eq k at) in
    record {
      whole = are.whole ∙ sym size;
      within = λ k inside. omega (arith, are.within k (omega arith));
      same = λ k j d inside inside-2.
          subst (λ (x : ChannelId). (get_or numbers k 0 ≡ get_or numbers j 0) ↔ LeadTo links x (id_at (set rows at new) j d)) (sym (named k d))
          (subst (λ (x : ChannelId). (get_or numbers k 0 ≡ get_or numbers j 0) ↔ LeadTo links (id_at rows k d) x) (sym (named j d))
          (are.same k j d (omega arith) (omega arith)));
    }

pub components_root : (row : Row) → AreComponents (row ∷ []) [] (0 ∷ [])
components_root row = record {
  whole = refl;
  within = λ k inside. subst (λ j. get_or (0 ∷ []) j 0 < 1) (zero_is k inside) (omega arith);
  same = λ k j d inside inside-2. (
    λ e. (0, ap (λ m. id_at (row ∷ []) m d) (sym (zero_is k inside) ∙ zero_is j inside-2)),
    λ leads. ap (λ m. get_or (0 ∷ []) m 0) (sym (zero_is k inside) ∙ zero_is j inside-2),
  );
}
  where
    zero_is : (k : ℕ) → k < 1 → 0 ≡ k
    zero_is k inside = omega arith

-- what was put together as the root alone has the right number
pub made_numbered : (before rows : List Row) (row : Row) (links : List Pair) (numbers : List ℕ) → before ≡ [] → rows ≡ before ++ row ∷ [] → links ≡ [] → numbers ≡ 0 ∷ [] → AreComponents rows links numbers
made_numbered before rows row links numbers none all unlinked numbered = rw (all, none, unlinked, numbered) (components_root row)

-- a channel without links leads nowhere
lone_walk : (links : List Pair) (id : ChannelId) → ((to : ChannelId) → Contains links (id, to) → ⊥) → (steps : ℕ) (to : ChannelId) → Walk links steps id to → id ≡ to
lone_walk links id none zero to walk = walk
lone_walk links id none (suc steps) to (last, walk, edge) =
    absurd (none to (subst (λ (x : ChannelId). Contains links (x, to)) (sym (lone_walk links id none steps last walk)) edge))

pub components_more : (rows : List Row) (links : List Pair) (numbers : List ℕ) (row : Row) → ArePairs rows links → ((k : ℕ) (d : Row) → k < length rows → number (get_or rows k d) ≢ number row) → AreComponents rows links numbers → AreComponents (rows ++ row ∷ []) links (numbers ++ length rows ∷ [])
components_more rows links numbers row pairs new are =
    let n = length rows in
    let size : length (rows ++ row ∷ []) ≡ n + 1 = length-append rows (row ∷ []) in
    let id = row.channel.id in
    let none : (to : ChannelId) → Contains links (id, to) → ⊥ =
    λ to edge.
    let (found, is) = some_row (row_of rows id) (All-contains (IsBetween rows) links (id, to) pairs.between edge).0 in
    let (m, below, stands) = row_stands rows id found is in
    new m row below (ap number (stands row) ∙ number_found rows id found is) in
    let old-number : (k : ℕ) → k < n → get_or (numbers ++ n ∷ []) k 0 ≡ get_or numbers k 0 = λ k inside. get_or-append numbers (n ∷ []) 0 k (omega (arith, are.whole)) in
    let new-number : get_or (numbers ++ n ∷ []) n 0 ≡ n = get_or-append_right numbers (n ∷ []) n n 0 are.whole (omega arith) ∙ ap (λ j. get_or (n ∷ []) j 0) (minus_self n) in
    let old-id : (k : ℕ) (d : Row) → k < n → id_at (rows ++ row ∷ []) k d ≡ id_at rows k d = λ k d inside. ap (λ (r : Row). r.channel.id) (get_or-append rows (row ∷ []) d k inside) in
    let new-id : (d : Row) → id_at (rows ++ row ∷ []) n d ≡ id = λ d. ap (λ (r : Row). r.channel.id) (get_or-append_right rows (row ∷ []) n n d refl (omega arith) ∙ ap (λ j. get_or (row ∷ []) j d) (minus_self n)) in
    record {
      whole = length-append numbers (n ∷ []) ∙ ap (λ m. m + 1) are.whole ∙ sym size;
      within = λ k inside. ⊎_elim
          (λ (l : k < n). omega (arith, old-number k l, are.within k l))
          (λ (g : n ≤ k). let e : k ≡ n = omega arith in omega (arith, ap (λ j. get_or (numbers ++ n ∷ []) j 0) e ∙ new-number))
          (cases_lt k n);
      same = λ k j d inside inside-2. ⊎_elim
          (λ (l : k < n). ⊎_elim
          (λ (l-2 : j < n).
          subst (λ m. (m ≡ get_or (numbers ++ n ∷ []) j 0) ↔ LeadTo links (id_at (rows ++ row ∷ []) k d) (id_at (rows ++ row ∷ []) j d)) (sym (old-number k l))
          (subst (λ m. (get_or numbers k 0 ≡ m) ↔ LeadTo links (id_at (rows ++ row ∷ []) k d) (id_at (rows ++ row ∷ []) j d)) (sym (old-number j l-2))
          (subst (λ (x : ChannelId). (get_or numbers k 0 ≡ get_or numbers j 0) ↔ LeadTo links x (id_at (rows ++ row ∷ []) j d)) (sym (old-id k d l))
          (subst (λ (x : ChannelId). (get_or numbers k 0 ≡ get_or numbers j 0) ↔ LeadTo links (id_at rows k d) x) (sym (old-id j d l-2))
          (are.same k j d l l-2)))))
          (λ (g-2 : n ≤ j).
          let e : j ≡ n = omega arith in (
            λ same. absurd (omega (arith, old-number k l, are.within k l, ap (λ i. get_or (numbers ++ n ∷ []) i 0) e ∙ new-number, same)),
            λ leads.
                let back = lead_back links (id_at (rows ++ row ∷ []) k d) (id_at (rows ++ row ∷ []) j d) pairs.both leads in
                let from : LeadTo links id (id_at rows k d) = subst (λ (x : ChannelId). LeadTo links x (id_at rows k d)) (ap (λ i. id_at (rows ++ row ∷ []) i d) e ∙ new-id d) (subst (LeadTo links (id_at (rows ++ row ∷ []) j d)) (old-id k d l) back) in
                let (steps, walk) = from in
                absurd (new k d l (ap (λ (c : ChannelId). c.0) (sym (lone_walk links id none steps (id_at rows k d) walk)))),
          ))
          (cases_lt j n))
          (λ (g : n ≤ k).
          let e : k ≡ n = omega arith in
          ⊎_elim
          (λ (l-2 : j < n). (
            λ same. absurd (omega (arith, old-number j l-2, are.within j l-2, ap (λ i. get_or (numbers ++ n ∷ []) i 0) e ∙ new-number, same)),
            λ leads.
                let from : LeadTo links id (id_at rows j d) = subst (λ (x : ChannelId). LeadTo links x (id_at rows j d)) (ap (λ i. id_at (rows ++ row ∷ []) i d) e ∙ new-id d) (subst (LeadTo links (id_at (rows ++ row ∷ []) k d)) (old-id j d l-2) leads) in
                let (steps, walk) = from in
                absurd (new j d l-2 (ap (λ (c : ChannelId). c.0) (sym (lone_walk links id none steps (id_at rows j d) walk)))),
          ))
          (λ (g-2 : n ≤ j).
          let f : k ≡ j = omega arith in (
            λ same. (0, ap (λ i. id_at (rows ++ row ∷ []) i d) f),
            λ leads. ap (λ i. get_or (numbers ++ n ∷ []) i 0) f,
          ))
          (cases_lt j n))
          (cases_lt k n);
    }
  where
    minus_self : (n : ℕ) → n - n ≡ 0
    minus_self n = omega arith

-- a channel more, as the code has it
pub grown_numbered : (rows grown : List Row) (links : List Pair) (numbers before after : List ℕ) (row : Row) (component greatest : ℕ) → grown ≡ rows ++ row ∷ [] → before ≡ numbers → after ≡ before ++ component ∷ [] → component ≡ length rows → ArePairs rows links → All (λ one. number one ≤ greatest) rows → greatest < number row → AreComponents rows links numbers → AreComponents grown links after
grown_numbered rows grown links numbers before after row component greatest more same after-is component-is pairs known above are =
    rw (more, after-is, same, component-is) (components_more rows links numbers row pairs (λ k d inside e. absurd (omega (arith, known k d inside, above, e))) are)

-- what was written in place of all numbers
pub put_back : (n : ℕ) (new old : List ℕ) → n ≡ length new → take n (new ++ drop (length new) old) ≡ new
put_back n new old same = ap (λ m. take m (new ++ drop (length new) old)) same ∙ take-append_seam new (drop (length new) old)

pub pairs_seen : (rows seen : List Row) (links ends : List Pair) → seen ≡ rows → ends ≡ links → ArePairs rows links → ArePairs seen ends
pairs_seen rows seen links ends same both are = rw (same, both) are

-- the numbers that a walk over the links gave
pub numbered_as_seen : (rows seen : List Row) (links ends : List Pair) (numbers : List ℕ) → seen ≡ rows → ends ≡ links → AreComponents seen ends numbers → AreComponents rows links numbers
numbered_as_seen rows seen links ends numbers same both are = rw (sym same, sym both) are

-- the rows with one number are those of the linked channels
pub marked_linked : (tree : TreeState) (id : ChannelId) (seen : List Row) (numbers : List ℕ) (at : ℕ) (marked : List ChannelId) → seen ≡ tree.channels → AreLinks tree.channels tree.links → Rise tree.channels → AreComponents tree.channels tree.links numbers → is_there tree.channels id ≡ true → at < length tree.channels → ((d : Row) → id_at tree.channels at d ≡ id) → ((chosen : Row → Bool) → ((k : ℕ) (row : Row) → k < length seen → chosen (get_or seen k row) ≡ eqb (get_or numbers k 0) (get_or numbers at 0)) → marked ≡ map (λ row. row.channel.id) (filter chosen seen)) → marked ≡ linked tree id
marked_linked tree id seen numbers at marked same joined rise are there inside named marks =
    let rows = tree.channels in
    let chosen : Row → Bool = λ row. is_reached tree.links (length rows) id row.channel.id in
    let agrees : (k : ℕ) (row : Row) → k < length rows → chosen (get_or rows k row) ≡ eqb (get_or numbers k 0) (get_or numbers at 0) =
    λ k row within.
    let reached = reached_all rows tree.links id (id_at rows k row) joined there in
    both_same (chosen (get_or rows k row)) (eqb (get_or numbers k 0) (get_or numbers at 0))
    (λ on.
    let leads : LeadTo tree.links (id_at rows k row) (id_at rows at row) =
    lead_back tree.links (id_at rows at row) (id_at rows k row) joined.pairs.both (subst (λ (x : ChannelId). LeadTo tree.links x (id_at rows k row)) (sym (named row)) (reached.0 on)) in
    eq-eqb (get_or numbers k 0) (get_or numbers at 0) ((are.same k at row within inside).1 leads))
    (λ on.
    let leads = (are.same k at row within inside).0 (eqb-true (get_or numbers k 0) (get_or numbers at 0) on) in
    reached.1 (subst (λ (x : ChannelId). LeadTo tree.links x (id_at rows k row)) (named row) (lead_back tree.links (id_at rows k row) (id_at rows at row) joined.pairs.both leads))) in
    marks chosen (λ k row within. subst (λ (rs : List Row). (i : ℕ) → i < length rs → chosen (get_or rs i row) ≡ eqb (get_or numbers i 0) (get_or numbers at 0)) (sym same) (λ i below. agrees i row below) k within)
    ∙ ap (λ (rs : List Row). map (λ row. row.channel.id) (filter chosen rs)) same

-- ---- marks, one row more

pub marked_more : (p : Row → Bool) (rows : List Row) (k : ℕ) (row : Row) (marked : List ChannelId) (b : Bool) → k < length rows → row ≡ get_or rows k row → marked ≡ map (λ one. one.channel.id) (filter p (take k rows)) → b ≡ p row → marked ++ cond b (row.channel.id ∷ []) [] ≡ map (λ one. one.channel.id) (filter p (take (k + 1) rows))
marked_more p rows k row marked b within read is test =
    let id_of : Row → ChannelId = λ one. one.channel.id in
    let one : map id_of (cond (p row) (row ∷ []) []) ≡ cond b (row.channel.id ∷ []) [] = each (p row) ∙ ap (λ (t : Bool). cond t (row.channel.id ∷ []) []) (sym test) in
    ap (λ (ids : List ChannelId). ids ++ cond b (row.channel.id ∷ []) []) is
    ∙ ap (λ (ids : List ChannelId). map id_of (filter p (take k rows)) ++ ids) (sym one)
    ∙ sym (map-append id_of (filter p (take k rows)) (cond (p row) (row ∷ []) []))
    ∙ ap (λ (r : Row). map id_of (filter p (take k rows) ++ cond (p r) (r ∷ []) [])) read
    ∙ ap (map id_of) (sym (filter_more p rows k row within))
  where
    each : (t : Bool) → map (λ (one : Row). one.channel.id) (cond t (row ∷ []) []) ≡ cond t (row.channel.id ∷ []) []
    each true = refl
    each false = refl

-- the marked channels are before those whose rows are still to come
abbrev pub AreBefore : List Row → ℕ → List ChannelId → Type 0
AreBefore rows k marked = (j : ℕ) (d : Row) → k ≤ j → j < length rows → All (λ one. one.0 < number (get_or rows j d)) marked

pub before_more : (rows : List Row) (k : ℕ) (row : Row) (marked : List ChannelId) (b : Bool) → Rise rows → k < length rows → row ≡ get_or rows k row → AreBefore rows k marked → AreBefore rows (k + 1) (marked ++ cond b (row.channel.id ∷ []) [])
before_more rows k row marked true rise within read before j d above inside =
    let less : number (get_or rows k d) < number (get_or rows j d) = rise k j d (omega arith) inside in
    let same : number row ≡ number (get_or rows k d) = ap number (read ∙ get_or_default rows k row d within) in
    All-push (λ one. one.0 < number (get_or rows j d)) marked row.channel.id (before j d (omega arith) inside) (omega arith)
before_more rows k row marked false rise within read before j d above inside =
    subst (λ (ids : List ChannelId). All (λ one. one.0 < number (get_or rows j d)) ids) (nothing_more marked) (before j d (omega arith) inside)
  where
    nothing_more : (ids : List ChannelId) → ids ≡ ids ++ []
    nothing_more [] = refl
    nothing_more (x ∷ xs) = ap (λ rest. x ∷ rest) (nothing_more xs)

pub few_more : (marked : List ChannelId) (id : ChannelId) (b : Bool) (k : ℕ) → length marked ≤ k → length (marked ++ cond b (id ∷ []) []) ≤ k + 1
few_more marked id true k few = omega (arith, length-append marked (id ∷ []))
few_more marked id false k few = omega (arith, length-append marked [])
