-- Which places are taken.
use Rattle.mum_tree.proofs.Common.{◌≡◌, ◌≢◌, ℕ, zero, suc, ◌<◌, ◌+◌, ◌≤◌, ◌||◌, not, eqb, Bool, true, false, cond, List, [], ◌∷◌, length, get_or, set, replicate, refl, arith, ap, sym, subst, ◌∙◌, ⊎_elim, All, AllPairs, count_by, filter, both_ways, cases_Bool, cases_eq, cases_lt, cases_order, eq-eqb, eqb-true, false≢true, ne_eqb, or_parts, get_or-set_same, get_or-set_other, get_or_default, get_or_past, count_by-le-length, length-filter, sum_by-set, sum_by-cons, Row, first_place, has_place, least_place, IsFree, IsLeastFree}

pub count_set : (taken : List Bool) (i : ℕ) → i < length taken → count_by (λ one. one) (set taken i true) ≤ count_by (λ one. one) taken + 1
count_set taken i within = omega (arith, sum_by-set (λ (one : Bool). cond one 1 0) taken i true false within)

pub count_all : (taken : List Bool) → ((k : ℕ) → k < length taken → get_or taken k false ≡ true) → count_by (λ one. one) taken ≡ length taken
count_all [] all = refl
count_all (false ∷ taken) all = absurd (false≢true (all 0 (omega arith)))
count_all (true ∷ taken) all =
    let rest : count_by (λ one. one) taken ≡ length taken = count_all taken (λ k within. all (suc k) (omega arith)) in
    let whole : count_by (λ one. one) (true ∷ taken) ≡ 1 + count_by (λ one. one) taken = sum_by-cons (λ (one : Bool). cond one 1 0) true taken in
    omega arith

pub count_none : (n : ℕ) → count_by (λ one. one) (replicate n false) ≡ 0
count_none zero = refl
count_none (suc n) =
    let whole : count_by (λ one. one) (replicate (suc n) false) ≡ 0 + count_by (λ one. one) (replicate n false) = sum_by-cons (λ (one : Bool). cond one 1 0) false (replicate n false) in
    let rest : count_by (λ one. one) (replicate n false) ≡ 0 = count_none n in
    omega arith

pub none_taken : (n place : ℕ) → get_or (replicate n false) place false ≡ true → (replicate n false ≡ replicate n false) → false ≡ true
none_taken zero place e h = e
none_taken (suc n) zero e h = e
none_taken (suc n) (suc place) e h = none_taken n place e refl

pub free_more : (rows : List Row) (taken : List Bool) (i : ℕ) (row : Row) → i < length rows → row ≡ get_or rows i row → row.place < length taken → ((place : ℕ) → place < 2048 → get_or taken place false ≡ false → (k : ℕ) (d : Row) → k < i → (get_or rows k d).place ≢ place) → (place : ℕ) → place < 2048 → get_or (set taken row.place true) place false ≡ false → (k : ℕ) (d : Row) → k < i + 1 → (get_or rows k d).place ≢ place
free_more rows taken i row within read places_fit free place inside unset k d below same =
    ⊎_elim
    (λ (e : place ≡ row.place). both_ways (get_or (set taken row.place true) place false) unset (ap (λ p. get_or (set taken row.place true) p false) e ∙ get_or-set_same taken row.place true false places_fit))
    (λ (ne : place ≡ row.place → ⊥). ⊎_elim
    (λ (here : k ≡ i). ne (sym same ∙ ap (λ j. (get_or rows j d).place) here ∙ ap (λ (r : Row). r.place) (get_or_default rows i d row within) ∙ sym (ap (λ (r : Row). r.place) read)))
    (λ (off : k ≡ i → ⊥). free place inside (sym (get_or-set_other taken row.place place true false ne) ∙ unset) k d (omega arith) same)
    (cases_eq k i))
    (cases_eq place row.place)

pub taken_more : (rows : List Row) (taken : List Bool) (i : ℕ) (row : Row) → i < length rows → row ≡ get_or rows i row → ((place : ℕ) → get_or taken place false ≡ true → IsFree rows place → ⊥) → (place : ℕ) → get_or (set taken row.place true) place false ≡ true → IsFree rows place → ⊥
taken_more rows taken i row within read has place held free =
    ⊎_elim
    (λ (e : place ≡ row.place). free i row within (sym (ap (λ (r : Row). r.place) read) ∙ sym e))
    (λ (ne : place ≡ row.place → ⊥). has place (sym (get_or-set_other taken row.place place true false ne) ∙ held) free)
    (cases_eq place row.place)

-- what is written at the places of rows, one row more
pub placement_more : {B : Type 0} (P : ℕ → Row → B → Type 0) (none : B) (rows : List Row) (marks : List B) (i : ℕ) (row : Row) (value : B) → i < length rows → row ≡ get_or rows i row → row.place < length marks → AllPairs (λ one other. one.place ≢ other.place) rows → ((k : ℕ) (d : Row) → k < i → P k (get_or rows k d) (get_or marks (get_or rows k d).place none)) → P i row value → (k : ℕ) (d : Row) → k < i + 1 → P k (get_or rows k d) (get_or (set marks row.place value) (get_or rows k d).place none)
placement_more {B} P none rows marks i row value within read places_fit places_apart done now k d inside =
    ⊎_elim
    (λ (here : k ≡ i).
    let same : row ≡ get_or rows k d = read ∙ get_or_default rows i row d within ∙ ap (λ j. get_or rows j d) (sym here) in
    let is : value ≡ get_or (set marks row.place value) (get_or rows k d).place none = sym (get_or-set_same marks row.place value none places_fit) ∙ ap (λ (r : Row). get_or (set marks row.place value) r.place none) same in
    subst (λ (b : B). P k (get_or rows k d) b) is (subst (λ (r : Row). P k r value) same (subst (λ j. P j row value) (sym here) now)))
    (λ (off : k ≡ i → ⊥).
    let before : k < i = omega arith in
    let differs : (get_or rows k d).place ≢ row.place = λ e. places_apart k i d before within (e ∙ ap (λ (r : Row). r.place) (read ∙ get_or_default rows i row d within)) in
    subst (λ (b : B). P k (get_or rows k d) b) (sym (get_or-set_other marks row.place (get_or rows k d).place value none differs)) (done k d before))
    (cases_eq k i)

-- where a row has the place, not all others have
had : (rows : List Row) (place : ℕ) → has_place rows place ≡ true → IsFree rows place → ⊥
had [] place has free = absurd (false≢true has)
had (row ∷ rows) place has free =
    ⊎_elim
    (λ (e : eqb row.place place ≡ true). free 0 row (omega arith) (eqb-true row.place place e))
    (λ (e : eqb row.place place ≡ false). had rows place (sym (ap (λ (b : Bool). b || has_place rows place) e) ∙ has) (λ k d within. free (suc k) d (omega arith)))
    (cases_Bool (eqb row.place place))

pub unhad : (rows : List Row) (place : ℕ) → has_place rows place ≡ false → IsFree rows place
unhad [] place none k d within same = absurd (omega arith)
unhad (row ∷ rows) place none zero d within same = both_ways (eqb row.place place) (or_parts (eqb row.place place) (has_place rows place) none).0 (eq-eqb row.place place same)
unhad (row ∷ rows) place none (suc k) d within same = unhad rows place (or_parts (eqb row.place place) (has_place rows place) none).1 k d (omega arith) same

abbrev off : ℕ → Row → Bool
off place row = not (eqb row.place place)

-- without the rows of one place the others have theirs
still_had : (rows : List Row) (gone place : ℕ) → place ≢ gone → has_place rows place ≡ true → has_place (filter (off gone) rows) place ≡ true
still_had [] gone place differ has = has
still_had (row ∷ rows) gone place differ has =
    ⊎_elim
    (λ (e : eqb row.place gone ≡ true).
    let other : eqb row.place place ≡ false = ne_eqb row.place place (λ (same : row.place ≡ place). differ (sym same ∙ eqb-true row.place gone e)) in
    ap (λ (b : Bool). has_place (cond (not b) (row ∷ filter (off gone) rows) (filter (off gone) rows)) place) e
    ∙ still_had rows gone place differ (sym (ap (λ (b : Bool). b || has_place rows place) other) ∙ has))
    (λ (e : eqb row.place gone ≡ false).
    ap (λ (b : Bool). has_place (cond (not b) (row ∷ filter (off gone) rows) (filter (off gone) rows)) place) e
    ∙ ⊎_elim
    (λ (f : eqb row.place place ≡ true). ap (λ (b : Bool). b || has_place (filter (off gone) rows) place) f)
    (λ (f : eqb row.place place ≡ false). ap (λ (b : Bool). b || has_place (filter (off gone) rows) place) f ∙ still_had rows gone place differ (sym (ap (λ (b : Bool). b || has_place rows place) f) ∙ has))
    (cases_Bool (eqb row.place place)))
    (cases_Bool (eqb row.place gone))

-- and they are fewer
fewer : (rows : List Row) (gone : ℕ) → has_place rows gone ≡ true → length (filter (off gone) rows) < length rows
fewer [] gone has = absurd (false≢true has)
fewer (row ∷ rows) gone has =
    ⊎_elim
    (λ (e : eqb row.place gone ≡ true).
    let cut : length (filter (off gone) (row ∷ rows)) ≡ length (filter (off gone) rows) = ap (λ (b : Bool). length (cond (not b) (row ∷ filter (off gone) rows) (filter (off gone) rows))) e in
    omega (arith, length-filter (off gone) rows, count_by-le-length (off gone) rows))
    (λ (e : eqb row.place gone ≡ false).
    let kept : length (filter (off gone) (row ∷ rows)) ≡ suc (length (filter (off gone) rows)) = ap (λ (b : Bool). length (cond (not b) (row ∷ filter (off gone) rows) (filter (off gone) rows))) e in
    omega (arith, fewer rows gone (sym (ap (λ (b : Bool). b || has_place rows gone) e) ∙ has)))
    (cases_Bool (eqb row.place gone))

-- n places that are had need n rows
as_many : (places : ℕ) (rows : List Row) → ((k : ℕ) → k < places → has_place rows k ≡ true) → places ≤ length rows
as_many zero rows all = omega arith
as_many (suc places) rows all =
    let rest = as_many places (filter (off places) rows) (λ k below. still_had rows places k (λ (e : k ≡ places). absurd (omega arith)) (all k (omega arith))) in
    omega (arith, fewer rows places (all places (omega arith)))

-- what the search for a place finds
record Search (rows : List Row) (more place found : ℕ) : Type 0 where
  within : found ≤ place + more
  had : (k : ℕ) → place ≤ k → k < found → has_place rows k ≡ true
  free : found < place + more → has_place rows found ≡ false

searched : (rows : List Row) (more place : ℕ) → Search rows more place (first_place rows more place)
unfolding first_place
searched rows zero place = record { within = omega arith; had = λ k above below. absurd (omega arith); free = λ less. absurd (omega arith) }
searched rows (suc more) place =
    ⊎_elim
    (λ (e : has_place rows place ≡ true).
    let next = searched rows more (place + 1) in
    subst (Search rows (suc more) place) (sym (ap (λ (b : Bool). cond b (first_place rows more (place + 1)) place) e))
    (record {
      within = omega (arith, next.within);
      had = λ k above below. ⊎_elim (λ (s : k ≡ place). ap (has_place rows) s ∙ e) (λ (n : k ≡ place → ⊥). next.had k (omega arith) below) (cases_eq k place);
      free = λ less. next.free (omega arith);
    }))
    (λ (e : has_place rows place ≡ false).
    subst (Search rows (suc more) place) (sym (ap (λ (b : Bool). cond b (first_place rows more (place + 1)) place) e))
    (record { within = omega arith; had = λ k above below. absurd (omega arith); free = λ less. e }))
    (cases_Bool (has_place rows place))

pub least_within : (rows : List Row) → least_place rows ≤ length rows
least_within rows = let found = searched rows (length rows) 0 in omega (arith, found.within)

-- the place that is found is the least that no row has
pub least_free : (rows : List Row) → IsLeastFree rows (least_place rows)
least_free rows =
    let found = searched rows (length rows) 0 in
    let place = least_place rows in (
      ⊎_elim
          (λ (e : has_place rows place ≡ true).
          let all : (k : ℕ) → k < suc place → has_place rows k ≡ true = λ k below. ⊎_elim (λ (s : k ≡ place). ap (has_place rows) s ∙ e) (λ (n : k ≡ place → ⊥). found.had k (omega arith) (omega arith)) (cases_eq k place) in
          let many : suc place ≤ length rows = as_many (suc place) rows all in
          absurd (both_ways (has_place rows place) (found.free (omega arith)) e))
          (λ (e : has_place rows place ≡ false). unhad rows place e)
          (cases_Bool (has_place rows place)),
      λ lower below free. had rows lower (found.had lower (omega arith) below) free,
    )

-- there is but one least place that no row has
pub least_is : (rows : List Row) (place : ℕ) → IsLeastFree rows place → place ≡ least_place rows
least_is rows place (free, least) =
    ⊎_elim (λ (e : place ≡ least_place rows). e)
    (λ o. ⊎_elim
    (λ (l : place < least_place rows). absurd ((least_free rows).1 place l free))
    (λ (g : least_place rows < place). absurd (least (least_place rows) g (least_free rows).0))
    o)
    (cases_order place (least_place rows))

pub free_unhad : (rows : List Row) (place : ℕ) → IsFree rows place → has_place rows place ≡ false
free_unhad rows place free = by_cases (has_place rows place) refl
  where
    by_cases : (b : Bool) → has_place rows place ≡ b → b ≡ false
    by_cases true has = absurd (had rows place has free)
    by_cases false none = refl

-- marks that say which places are free say which are had
pub marks_had : (rows : List Row) (marks : List Bool) → All (λ row. row.place < length marks) rows
    → ((place : ℕ) → place < length marks → get_or marks place false ≡ false → IsFree rows place)
    → ((place : ℕ) → get_or marks place false ≡ true → IsFree rows place → ⊥)
    → (place : ℕ) → get_or marks place false ≡ has_place rows place
marks_had rows marks places_fit free taken place = ⊎_elim
    (λ (within : place < length marks). by_mark (get_or marks place false) refl within)
    (λ (past : length marks ≤ place). get_or_past marks place false past ∙ sym (free_unhad rows place (λ k d at same. let lt : (get_or rows k d).place < length marks = places_fit k d at in omega arith)))
    (cases_lt place (length marks))
  where
    by_mark : (mark : Bool) → get_or marks place false ≡ mark → place < length marks → mark ≡ has_place rows place
    by_mark false is within = sym (free_unhad rows place (free place within is))
    by_mark true is within = by_cases (has_place rows place) refl
      where
        by_cases : (b : Bool) → has_place rows place ≡ b → true ≡ b
        by_cases true has = refl
        by_cases false none = absurd (taken place is (unhad rows place none))
