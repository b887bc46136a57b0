-- The pairs that links and their removal leave.
use Rattle.mum_tree.proofs.Common.{◌≡◌, ℕ, zero, suc, ◌<◌, ◌≤◌, Bool, true, false, cond, List, [], ◌∷◌, length, get_or, ◌||◌, ◌&&◌, not, Some, None, eqb, leb, ◌≢◌, Result, Ok, refl, arith, ap, sym, ◌∙◌, count_by, filter, insert, is_ok, and_parts, leb-false, ne_eqb, not-false, or_from, or_parts, length-map, length-filter, ChannelId, LinkCount, NoChannel, fault_of_link, AreLinks, IsProper, is_there, Pair, TreeState, are_linked, ends_from, partners, is_above, starts_at, with_pair}
use Rattle.mum_tree.proofs.{Edits.none_stands, Joined.links_made}

-- an insert before the first pair that is above
pub insert_is : (pairs : List Pair) (at : ℕ) (from to : ChannelId) → at ≤ length pairs → ((k : ℕ) (d : Pair) → k < at → is_above from to (get_or pairs k d) ≡ false) → ((d : Pair) → at < length pairs → is_above from to (get_or pairs at d) ≡ true) → insert pairs at (from, to) ≡ with_pair from to pairs
insert_is [] zero from to within before here = refl
insert_is [] (suc at) from to within before here = absurd (omega arith)
insert_is (pair ∷ pairs) zero from to within before here = sym (ap (λ (b : Bool). cond b ((from, to) ∷ pair ∷ pairs) (pair ∷ with_pair from to pairs)) (here pair (omega arith)))
insert_is (pair ∷ pairs) (suc at) from to within before here =
    ap (λ (rest : List Pair). pair ∷ rest) (insert_is pairs at from to (omega arith) (λ k d below. before (suc k) d (omega arith)) (λ d inside. here d (omega arith)))
    ∙ sym (ap (λ (b : Bool). cond b ((from, to) ∷ pair ∷ pairs) (pair ∷ with_pair from to pairs)) (before zero pair (omega arith)))

-- the list after an insert that went well
pub put_in : (links seen one : List Pair) (at : ℕ) (from to : ChannelId) → seen ≡ links → at ≤ length seen → ((k : ℕ) (d : Pair) → k < at → is_above from to (get_or seen k d) ≡ false) → ((d : Pair) → at < length seen → is_above from to (get_or seen at d) ≡ true) → one ≡ insert links at (from, to) → one ≡ with_pair from to links
put_in links seen one at from to same within before here is =
    is ∙ ap (λ (ps : List Pair). insert ps at (from, to)) (sym same) ∙ insert_is seen at from to within before here ∙ ap (with_pair from to) same

-- the list after two
pub joined : (links seen one seen-2 two : List Pair) (at at-2 : ℕ) (a b : ChannelId) → seen ≡ links → at ≤ length seen → ((k : ℕ) (d : Pair) → k < at → is_above a b (get_or seen k d) ≡ false) → ((d : Pair) → at < length seen → is_above a b (get_or seen at d) ≡ true) → one ≡ insert links at (a, b) → seen-2 ≡ one → at-2 ≤ length seen-2 → ((k : ℕ) (d : Pair) → k < at-2 → is_above b a (get_or seen-2 k d) ≡ false) → ((d : Pair) → at-2 < length seen-2 → is_above b a (get_or seen-2 at-2 d) ≡ true) → two ≡ insert one at-2 (b, a) → two ≡ with_pair b a (with_pair a b links)
joined links seen one seen-2 two at at-2 a b same within before here first same-2 within-2 before-2 here-2 second =
    put_in one seen-2 two at-2 b a same-2 within-2 before-2 here-2 second
    ∙ ap (with_pair b a) (put_in links seen one at a b same within before here first)

-- what a call left that answered Ok
pub left_by_ok : {T E X : Type 0} (answer : Result T E) (done : T) (left chosen other : X) → left ≡ cond (is_ok answer) chosen other → answer ≡ Ok done → left ≡ chosen
left_by_ok answer done left chosen other is ok = is ∙ ap (λ (b : Bool). cond b chosen other) (ap is_ok ok)

-- a channel with fewer partners than it may have has fewer links
pub room_left : (pairs : List Pair) (of : ChannelId) → leb 64 (length (ends_from of pairs)) ≡ false → count_by (starts_at of) pairs < 64
room_left pairs of few = omega (arith, leb-false 64 (length (ends_from of pairs)) few, length-filter (starts_at of) pairs, length-map (filter (starts_at of) pairs) (λ pair. pair.1))

-- the links with one more, where no cause applies
pub links_grown : (tree : TreeState) (a b : ChannelId) → IsProper tree → fault_of_link tree a b ≡ None → a.0 ≢ b.0 → are_linked tree a b ≡ false → AreLinks tree.channels (with_pair b a (with_pair a b tree.links))
links_grown tree a b proper allowed differ unlinked =
    let rows = tree.channels in
    let passed : ((eqb a.0 b.0) || are_linked tree a b) ≡ false = or_from _ _ (ne_eqb a.0 b.0 differ) unlinked in
    let crowd = leb 64 (length (partners tree a)) || leb 64 (length (partners tree b)) in
    let (there, rest) = none_stands (not (is_there rows a && is_there rows b)) NoChannel _ allowed in
    let left : cond crowd (Some LinkCount) None ≡ None = sym (ap (λ (x : Bool). cond x None (cond crowd (Some LinkCount) None)) passed) ∙ rest in
    let (room, end) = none_stands crowd LinkCount None left in
    let (here, here-2) = and_parts (is_there rows a) (is_there rows b) (not-false (is_there rows a && is_there rows b) there) in
    let (few, few-2) = or_parts (leb 64 (length (partners tree a))) (leb 64 (length (partners tree b))) room in
    links_made rows tree.links a b here here-2 differ unlinked (room_left tree.links a few) (room_left tree.links b few-2) proper.joined
