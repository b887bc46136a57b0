-- Links that are changed one channel after the other.
use Rattle.mum_tree.proofs.Common.{◌≡◌, ℕ, suc, ◌<◌, ◌≤◌, ◌+◌, ◌*◌, ◌&&◌, ◌||◌, Bool, true, false, not, cond, eqb, ltb, List, [], ◌∷◌, length, get_or, take, None, refl, arith, ap, sym, ◌∙◌, subst, ⊎_elim, IsTrue, count_by, list_all, is_some, and_from, and_parts, cases_Bool, cases_eq, cond_both, eq-eqb, eqb-true, false≢true, ne_eqb, or_left, or_right, nat_tests, get_or_default, nil_from_length, All-contains, count_by_more_no, count_by_more_yes, sum_by_more_le, ChannelId, is_among, Row, Change, pairs_set, pairs_with_all, pairs_without_all, ArePairs, IsBetween, number, row_of, is_there, Rise, Pair, Ordered, TreeState, is_above, is_pair, pairs_with}
use Rattle.mum_tree.proofs.{Changed.number_found, Closure.any_from, Closure.both_same, Closure.row_stands, Closure.same_number, Depths.row_found, Edits.some_row, Find.AllPairs-tail, Joined.pairs_parted, Marks.one_place, Partners.and_false, Partners.and_true, Partners.join_other, Partners.join_own, Partners.linked_back, Partners.linked_in, Partners.other_after, Partners.own_after, Partners.pair_is, Partners.pairs_after, Partners.pairs_joined, Partners.part_other, Partners.part_own}

-- ---- lists of links in order are equal where they link the same channels

linked_first : (pair : Pair) (pairs : List Pair) → linked_in (pair ∷ pairs) pair.0 pair.1 ≡ true
linked_first pair pairs =
    or_left (is_pair pair.0 pair.1 pair) (linked_in pairs pair.0 pair.1)
    (and_from (eqb pair.0.0 pair.0.0) (eqb pair.1.0 pair.1.0) (eq-eqb pair.0.0 pair.0.0 refl) (eq-eqb pair.1.0 pair.1.0 refl))

above_first : (x : Pair) (xs : List Pair) (a b : ChannelId) → Ordered (x ∷ xs) → linked_in xs a b ≡ true → is_above x.0 x.1 (a, b) ≡ true
above_first x xs a b ordered on =
    let (pair, (k, within, is), same) = any_from (is_pair a b) xs on in
    subst (λ (p : Pair). is_above x.0 x.1 p ≡ true) (is ∙ pair_is a b pair same) (ordered 0 (suc k) pair (omega arith) (omega arith))

never_both : (a b c d : ℕ) → (ltb a c || (eqb c a && ltb b d)) ≡ true → (ltb c a || (eqb a c && ltb d b)) ≡ true → ⊥
never_both a b c d one two = grind (arith, nat_tests)

pair_swap : (a b c d : ℕ) → (eqb a c && eqb b d) ≡ false → (eqb c a && eqb d b) ≡ false
pair_swap a b c d off = grind (arith, nat_tests)

same_head : (x y : Pair) (xs ys : List Pair) → Ordered (x ∷ xs) → Ordered (y ∷ ys) → ((a b : ChannelId) → linked_in (x ∷ xs) a b ≡ linked_in (y ∷ ys) a b) → x ≡ y
same_head x y xs ys one two same =
    ⊎_elim
    (λ (e : is_pair y.0 y.1 x ≡ true). pair_is y.0 y.1 x e)
    (λ (e : is_pair y.0 y.1 x ≡ false).
    let later : linked_in xs y.0 y.1 ≡ true = sym (ap (λ (t : Bool). t || linked_in xs y.0 y.1) e) ∙ same y.0 y.1 ∙ linked_first y ys in
    let off : is_pair x.0 x.1 y ≡ false = pair_swap x.0.0 x.1.0 y.0.0 y.1.0 e in
    let later-2 : linked_in ys x.0 x.1 ≡ true = sym (ap (λ (t : Bool). t || linked_in ys x.0 x.1) off) ∙ sym (same x.0 x.1) ∙ linked_first x xs in
    absurd (never_both x.0.0 x.1.0 y.0.0 y.1.0 (above_first x xs y.0 y.1 one later) (above_first y ys x.0 x.1 two later-2)))
    (cases_Bool (is_pair y.0 y.1 x))

same_tail : (x : Pair) (xs ys : List Pair) (a b : ChannelId) → Ordered (x ∷ xs) → linked_in (x ∷ xs) a b ≡ linked_in (x ∷ ys) a b → linked_in xs a b ≡ true → linked_in ys a b ≡ true
same_tail x xs ys a b ordered same on =
    ⊎_elim
    (λ (e : is_pair a b x ≡ true).
    let itself = subst (λ (p : Pair). is_above x.0 x.1 p ≡ true) (sym (pair_is a b x e)) (above_first x xs a b ordered on) in
    absurd (never_both x.0.0 x.1.0 x.0.0 x.1.0 itself itself))
    (λ (e : is_pair a b x ≡ false). sym (ap (λ (t : Bool). t || linked_in ys a b) e) ∙ sym same ∙ or_right (is_pair a b x) (linked_in xs a b) on)
    (cases_Bool (is_pair a b x))

pub same_pairs : (xs ys : List Pair) → Ordered xs → Ordered ys → ((a b : ChannelId) → linked_in xs a b ≡ linked_in ys a b) → xs ≡ ys
same_pairs [] [] one two same = refl
same_pairs [] (y ∷ ys) one two same = absurd (false≢true (same y.0 y.1 ∙ linked_first y ys))
same_pairs (x ∷ xs) [] one two same = absurd (false≢true (sym (same x.0 x.1) ∙ linked_first x xs))
same_pairs (x ∷ xs) (y ∷ ys) one two same =
    let e : x ≡ y = same_head x y xs ys one two same in
    let two-2 : Ordered (x ∷ ys) = subst (λ (p : Pair). Ordered (p ∷ ys)) (sym e) two in
    let alike : (a b : ChannelId) → linked_in (x ∷ xs) a b ≡ linked_in (x ∷ ys) a b = λ a b. same a b ∙ ap (λ (p : Pair). linked_in (p ∷ ys) a b) (sym e) in
    let R : Pair → Pair → Type 0 = λ pair later. IsTrue (is_above pair.0 pair.1 later) in
    ap (λ (rest : List Pair). x ∷ rest)
    (same_pairs xs ys (AllPairs-tail R x xs one) (AllPairs-tail R x ys two-2)
    (λ a b. both_same (linked_in xs a b) (linked_in ys a b) (same_tail x xs ys a b one (alike a b)) (same_tail x ys xs a b two-2 (sym (alike a b)))))
    ∙ ap (λ (p : Pair). p ∷ ys) e

-- ---- one channel

parted : (l e c : Bool) → (l && not e) ≡ cond e ((l || c) && false) l
parted l true c = and_false l ∙ sym (and_false (l || c))
parted l false c = and_true l

joined : (l e n : Bool) → (l || (e && n)) ≡ cond e ((l || (true && n)) && true) l
joined true true n = refl
joined true false n = refl
joined false true n = sym (and_true n)
joined false false n = refl

set_own : (links : List Pair) (id o y : ChannelId) (comes goes : Bool) → linked_in (pairs_set id o comes goes links) id y ≡ cond (eqb o.0 y.0) ((linked_in links id y || (comes && not (eqb y.0 id.0))) && not goes) (linked_in links id y)
set_own links id o y comes true = part_own links id o y ∙ parted (linked_in links id y) (eqb o.0 y.0) (comes && not (eqb y.0 id.0))
set_own links id o y comes false =
    let l = linked_in links id y in
    let n = not (eqb y.0 id.0) in
    ⊎_elim
    (λ (on : (comes && not (eqb o.0 id.0)) ≡ true).
    let (came, other) = and_parts comes (not (eqb o.0 id.0)) on in
    ap (λ (t : Bool). linked_in (cond t (pairs_with id o links) links) id y) on
    ∙ join_own links id o y
    ∙ joined l (eqb o.0 y.0) n
    ∙ ap (λ (c : Bool). cond (eqb o.0 y.0) ((l || (c && n)) && true) l) (sym came))
    (λ (off : (comes && not (eqb o.0 id.0)) ≡ false).
    ap (λ (t : Bool). linked_in (cond t (pairs_with id o links) links) id y) off
    ∙ ⊎_elim
    (λ (e : eqb o.0 y.0 ≡ true).
    let none : (comes && n) ≡ false = ap (λ m. comes && not (eqb m id.0)) (sym (eqb-true o.0 y.0 e)) ∙ off in
    sym (ap (λ (t : Bool). cond t ((l || (comes && n)) && true) l) e ∙ ap (λ (t : Bool). (l || t) && true) none ∙ and_true (l || false) ∙ or_nothing l))
    (λ (e : eqb o.0 y.0 ≡ false). sym (ap (λ (t : Bool). cond t ((l || (comes && n)) && true) l) e))
    (cases_Bool (eqb o.0 y.0)))
    (cases_Bool (comes && not (eqb o.0 id.0)))
  where
    or_nothing : (b : Bool) → (b || false) ≡ b
    or_nothing true = refl
    or_nothing false = refl

set_other : (links : List Pair) (id o x y : ChannelId) (comes goes : Bool) → eqb x.0 id.0 ≡ false → eqb y.0 id.0 ≡ false → linked_in (pairs_set id o comes goes links) x y ≡ linked_in links x y
set_other links id o x y comes true one two = part_other links id o x y one two
set_other links id o x y comes false one two =
    cond_both (comes && not (eqb o.0 id.0)) (pairs_with id o links) links (λ ps. linked_in ps x y ≡ linked_in links x y) (λ e. join_other links id o x y one two) (λ e. refl)

set_pairs : (rows : List Row) (links : List Pair) (id o : ChannelId) (comes goes : Bool) → is_there rows id ≡ true → is_there rows o ≡ true → ArePairs rows links → ArePairs rows (pairs_set id o comes goes links)
set_pairs rows links id o comes true here there are = pairs_parted rows links id o are
set_pairs rows links id o comes false here there are =
    cond_both (comes && not (eqb o.0 id.0)) (pairs_with id o links) links (ArePairs rows) (λ e. pairs_joined rows links id o here there are) (λ e. are)

-- ---- all channels

abbrev pub after_test : List Pair → ChannelId → List ChannelId → List ChannelId → ChannelId → Bool
after_test links id adds removes y = (linked_in links id y || (is_among adds y && not (eqb y.0 id.0))) && not (is_among removes y)

abbrev id_at : List Row → ℕ → Row → ChannelId
id_at rows k row = (get_or rows k row).channel.id

-- the links to the channels of the rows before this one are as the change leaves them, the others as they were
pub record AreSettled (rows : List Row) (old new : List Pair) (id : ChannelId) (adds removes : List ChannelId) (at : ℕ) : Type 0 where
  pub pairs : ArePairs rows new
  pub own : (k : ℕ) (d : Row) → k < at → k < length rows → linked_in new id (id_at rows k d) ≡ after_test old id adds removes (id_at rows k d)
  pub rest : (k : ℕ) (d : Row) → at ≤ k → k < length rows → linked_in new id (id_at rows k d) ≡ linked_in old id (id_at rows k d)
  pub others : (x y : ChannelId) → eqb x.0 id.0 ≡ false → eqb y.0 id.0 ≡ false → linked_in new x y ≡ linked_in old x y

pub settled_none : (rows : List Row) (old : List Pair) (id : ChannelId) (adds removes : List ChannelId) → ArePairs rows old → AreSettled rows old old id adds removes 0
settled_none rows old id adds removes pairs = record {
  pairs = pairs;
  own = λ k d below. absurd (omega arith);
  rest = λ k d above inside. refl;
  others = λ x y one two. refl;
}

pub settled_more : (rows : List Row) (old new : List Pair) (id : ChannelId) (adds removes : List ChannelId) (at : ℕ) (row : Row) (comes goes : Bool) → Rise rows → is_there rows id ≡ true → at < length rows → row ≡ get_or rows at row → comes ≡ is_among adds row.channel.id → goes ≡ is_among removes row.channel.id → AreSettled rows old new id adds removes at → AreSettled rows old (pairs_set id row.channel.id comes goes new) id adds removes (at + 1)
settled_more rows old new id adds removes at row comes goes rise here within read came gone before =
    let o = row.channel.id in
    let named : (d : Row) → id_at rows at d ≡ o = λ d. ap (λ (r : Row). r.channel.id) (get_or_default rows at d row within ∙ sym read) in
    let apart : (k : ℕ) (d : Row) → (k ≡ at → ⊥) → k < length rows → eqb o.0 (id_at rows k d).0 ≡ false =
    λ k d off inside. ne_eqb o.0 (id_at rows k d).0 (λ (e : o.0 ≡ (id_at rows k d).0). off (one_place number rows k at d rise inside within (sym e ∙ ap (λ (c : ChannelId). c.0) (sym (named d))))) in
    let kept : (k : ℕ) (d : Row) → (k ≡ at → ⊥) → k < length rows → linked_in (pairs_set id o comes goes new) id (id_at rows k d) ≡ linked_in new id (id_at rows k d) =
    λ k d off inside.
    let y = id_at rows k d in
    set_own new id o y comes goes ∙ ap (λ (t : Bool). cond t ((linked_in new id y || (comes && not (eqb y.0 id.0))) && not goes) (linked_in new id y)) (apart k d off inside) in
    let mine : linked_in (pairs_set id o comes goes new) id o ≡ after_test old id adds removes o =
    set_own new id o o comes goes
    ∙ ap (λ (t : Bool). cond t ((linked_in new id o || (comes && not (eqb o.0 id.0))) && not goes) (linked_in new id o)) (eq-eqb o.0 o.0 refl)
    ∙ ap (λ (t : Bool). (t || (comes && not (eqb o.0 id.0))) && not goes) (subst (λ (y : ChannelId). linked_in new id y ≡ linked_in old id y) (named row) (before.rest at row (omega arith) within))
    ∙ ap (λ (t : Bool). (linked_in old id o || (t && not (eqb o.0 id.0))) && not goes) came
    ∙ ap (λ (t : Bool). (linked_in old id o || (is_among adds o && not (eqb o.0 id.0))) && not t) gone in
    record {
      pairs = set_pairs rows new id o comes goes here (ap is_some (row_found rows at row rise within read)) before.pairs;
      own = λ k d below inside. ⊎_elim
          (λ (e : k ≡ at).
          subst (λ (y : ChannelId). linked_in (pairs_set id o comes goes new) id y ≡ after_test old id adds removes y) (sym (ap (λ j. id_at rows j d) e ∙ named d)) mine)
          (λ (off : k ≡ at → ⊥). kept k d off inside ∙ before.own k d (omega arith) inside)
          (cases_eq k at);
      rest = λ k d above inside. let off : k ≡ at → ⊥ = λ (e : k ≡ at). absurd (omega arith) in kept k d off inside ∙ before.rest k d (omega arith) inside;
      others = λ x y one two. set_other new id o x y comes goes one two ∙ before.others x y one two;
    }

linked_there : (rows : List Row) (links : List Pair) (x y : ChannelId) → ArePairs rows links → linked_in links x y ≡ true → is_there rows y ≡ true
linked_there rows links x y are on =
    let (pair, has, is) = any_from (is_pair x y) links on in
    subst (λ (p : Pair). is_there rows p.1 ≡ true) (pair_is x y pair is) (All-contains (IsBetween rows) links pair are.between has).1

pub settled_all : (rows : List Row) (old new : List Pair) (id : ChannelId) (adds removes : List ChannelId) (at : ℕ) → length rows ≤ at → is_there rows id ≡ true → list_all (is_there rows) adds ≡ true → ArePairs rows old → AreSettled rows old new id adds removes at → new ≡ pairs_without_all id removes (pairs_with_all id adds old)
settled_all rows old new id adds removes at whole here there pairs settled =
    let tree : TreeState = record { channels = rows; links = old; greatest = 0; limit = 0 } in
    let change : Change = record { name = None; parent = None; description = None; position = None; max_users = None; links_add = adds; links_remove = removes } in
    let left = pairs_without_all id removes (pairs_with_all id adds old) in
    let left-pairs : ArePairs rows left = pairs_after tree id change here there pairs in
    let own : (y : ChannelId) → linked_in new id y ≡ linked_in left id y =
    λ y. ⊎_elim
    (λ (e : is_there rows y ≡ true).
    let (row, found) = some_row (row_of rows y) e in
    let (k, within, stands) = row_stands rows y row found in
    let named : id_at rows k row ≡ y = ap (λ (r : Row). r.channel.id) (stands row) ∙ ap (λ n. record { 0 = n }) (number_found rows y row found) in
    subst (λ (x : ChannelId). linked_in new id x ≡ after_test old id adds removes x) named (settled.own k row (omega arith) within) ∙ sym (own_after tree id change y))
    (λ (e : is_there rows y ≡ false).
    both_same (linked_in new id y) (linked_in left id y)
    (λ on. absurd (false≢true (sym e ∙ linked_there rows new id y settled.pairs on)))
    (λ on. absurd (false≢true (sym e ∙ linked_there rows left id y left-pairs on))))
    (cases_Bool (is_there rows y)) in
    same_pairs new left settled.pairs.ordered left-pairs.ordered
    (λ x y. ⊎_elim
    (λ (e : eqb x.0 id.0 ≡ true). subst (λ (c : ChannelId). linked_in new c y ≡ linked_in left c y) (sym (same_number x id e)) (own y))
    (λ (e : eqb x.0 id.0 ≡ false). ⊎_elim
    (λ (f : eqb y.0 id.0 ≡ true).
    subst (λ (c : ChannelId). linked_in new x c ≡ linked_in left x c) (sym (same_number y id f))
    (both_same (linked_in new x id) (linked_in left x id)
    (λ on. linked_back left id x left-pairs.both (sym (own x) ∙ linked_back new x id settled.pairs.both on))
    (λ on. linked_back new id x settled.pairs.both (own x ∙ linked_back left x id left-pairs.both on))))
    (λ (f : eqb y.0 id.0 ≡ false). settled.others x y e f ∙ sym (other_after tree id change x y e f))
    (cases_Bool (eqb y.0 id.0)))
    (cases_Bool (eqb x.0 id.0)))

-- ---- room

pub room_more : (p : Row → Bool) (rows : List Row) (at : ℕ) (row : Row) (len more cap cap-2 : ℕ) (t : Bool) → at < length rows → more ≤ len + cond t 2 0 → cap ≤ cap-2 → (t ≡ true → p (get_or rows at row) ≡ true) → len + 128 ≤ cap + 2 * count_by p (take at rows) → more + 128 ≤ cap-2 + 2 * count_by p (take (at + 1) rows)
room_more p rows at row len more cap cap-2 true within less long passes room = omega (arith, count_by_more_yes p rows at row within (passes refl))
room_more p rows at row len more cap cap-2 false within less long passes room =
    ⊎_elim
    (λ (on : p (get_or rows at row) ≡ true). omega (arith, count_by_more_yes p rows at row within on))
    (λ (off : p (get_or rows at row) ≡ false). omega (arith, count_by_more_no p rows at row within off))
    (cases_Bool (p (get_or rows at row)))

pub room_here : (p : Row → Bool) (rows : List Row) (at : ℕ) (row : Row) (len cap : ℕ) → at < length rows → p (get_or rows at row) ≡ true → count_by p rows ≤ 64 → len + 128 ≤ cap + 2 * count_by p (take at rows) → len + 2 ≤ cap
room_here p rows at row len cap within on few room =
    let f : Row → ℕ = λ (r : Row). cond (p r) 1 0 in
    let one : f (get_or rows at row) ≡ 1 = ap (λ (b : Bool). cond b 1 0) on in
    let most : count_by p (take at rows) + f (get_or rows at row) ≤ count_by p rows = sum_by_more_le f rows at row within in
    omega arith

-- a channel that comes and does not go is linked after
pub came_after : (l a n r t : Bool) → t ≡ (not r && (a && n)) → t ≡ true → ((l || (a && n)) && not r) ≡ true
came_after l a n true t same on = absurd (false≢true (sym same ∙ on))
came_after l a n false t same on = ap (λ (b : Bool). (l || b) && true) (sym same ∙ on) ∙ and_true (l || true) ∙ or_right l true refl

-- where no link comes and none goes the links stay
pub none_named : (id : ChannelId) (adds removes : List ChannelId) (links : List Pair) → (eqb (length adds) 0 && eqb (length removes) 0) ≡ true → pairs_without_all id removes (pairs_with_all id adds links) ≡ links
none_named id adds removes links on =
    let (one, two) = and_parts (eqb (length adds) 0) (eqb (length removes) 0) on in
    let no-adds : adds ≡ [] = nil_from_length adds (eqb-true (length adds) 0 one) in
    let no-removes : removes ≡ [] = nil_from_length removes (eqb-true (length removes) 0 two) in
    rw (no-adds, no-removes) refl
