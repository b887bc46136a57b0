-- What a change leaves is a tree only where nothing forbids it.
use Rattle.mum_tree.proofs.Common.{◌≡◌, ◌≢◌, ℕ, zero, suc, ◌<◌, ◌≤◌, ◌+◌, ◌&&◌, Bool, true, false, not, cond, eqb, leb, List, [], ◌∷◌, ◌++◌, length, get_or, Some, None, refl, arith, ap, sym, ◌∙◌, subst, ⊎_elim, length-append, ◌↔◌, Contains, filter, list_any, is_some, and_parts, both_ways, cases_Bool, eq-eqb, eqb-true, ne_eqb, nat_tests, get_or_append_left, get_or-append-add, length-reverse, list_any_none, bytes_eq-Decides, ChannelId, Row, TreeFault, NoChannel, SameName, TemporaryParent, Nesting, Count, RootFixed, least_place, AreApart, IsProper, fault_of_add, fault_of_remove, is_full, number, row_of, is_there, is_temporary, is_below, is_taken, has_name_beside, path, upward, TreeState, new_row, plain_info, with_new, without_subtree}
use Rattle.mum_tree.proofs.{Changed.number_found, Depths.upward_within, Edits.added_proper, Edits.none_stands, Find.row_of_none, Grown.kind_kept, Grown.none_is_some, Grown.old_parents, Grown.row_of_last, Shrunk.is_top, Shrunk.links_left, Shrunk.list_any-reverse, Shrunk.shrunk_proper, Shrunk.stays, Shrunk.there_after, Upward.the_root, Upward.none_contained, Upward.option_cases, Upward.lead_parent, Upward.there_from_lead, Upward.upward_kept, Upward.upward_more, Upward.upward_root, Upward.upward_zero}

-- where none of five causes applies, none is named
pub five : (a b c d e : Bool) (f g h i j : TreeFault) → a ≡ false → b ≡ false → c ≡ false → d ≡ false → e ≡ false → cond a (Some f) (cond b (Some g) (cond c (Some h) (cond d (Some i) (cond e (Some j) None)))) ≡ None
five a b c d e f g h i j p q r s t =
    ap (λ (x : Bool). cond x (Some f) (cond b (Some g) (cond c (Some h) (cond d (Some i) (cond e (Some j) None))))) p
    ∙ ap (λ (x : Bool). cond x (Some g) (cond c (Some h) (cond d (Some i) (cond e (Some j) None)))) q
    ∙ ap (λ (x : Bool). cond x (Some h) (cond d (Some i) (cond e (Some j) None))) r
    ∙ ap (λ (x : Bool). cond x (Some i) (cond e (Some j) None)) s
    ∙ ap (λ (x : Bool). cond x (Some j) None) t

-- a channel that is its own parent does not lead to the root
own_parent : (rows : List Row) (id : ChannelId) (row : Row) → row_of rows id ≡ Some row → eqb id.0 0 ≡ false → row.channel.parent ≡ id → (steps : ℕ) → Contains (upward rows steps id) the_root → ⊥
own_parent rows id row found under own zero lead = none_contained the_root (subst (λ (us : List ChannelId). Contains us the_root) (upward_zero rows id) lead)
own_parent rows id row found under own (suc steps) lead =
    own_parent rows id row found under own steps (subst (λ (p : ChannelId). Contains (upward rows steps p) the_root) own (lead_parent rows steps id row found under lead))

-- what is below a limit does not reach it
pub over_limit : (limit n : ℕ) → suc n ≤ limit → leb limit n ≡ false
over_limit limit n room = grind (arith, nat_tests)

-- a tree with one channel more has nothing against it
added_back : (tree : TreeState) (id parent : ChannelId) (name : List ℕ) (temporary : Bool) → IsProper tree → tree.greatest < id.0 → IsProper (with_new tree id parent name temporary) → fault_of_add tree id parent name ≡ None
added_back tree id parent name temporary proper above after =
    let rows = tree.channels in
    let row = new_row (least_place rows) id parent name temporary in
    let new = rows ++ row ∷ [] in
    let lower : id.0 ≢ 0 = λ (e : id.0 ≡ 0). absurd (omega arith) in
    let under : eqb id.0 0 ≡ false = ne_eqb id.0 0 lower in
    let unknown : row_of rows id ≡ None = row_of_none rows id (λ k d within same. let known = proper.known k d within in absurd (omega arith)) in
    let found : row_of new id ≡ Some row = row_of_last rows row id unknown ∙ ap (λ (b : Bool). cond b (Some row) None) (eq-eqb id.0 id.0 refl) in
    let leads : Contains (upward new 33 id) the_root = after.lead id (ap is_some found) in
    let leads-2 : Contains (upward new 32 parent) the_root = lead_parent new 32 id row found under leads in
    let above-row = there_from_lead new 32 parent leads-2 in
    let there : (p : Row) × (row_of rows parent ≡ Some p) = ⊎_elim
    (λ (none : row_of rows parent ≡ None). ⊎_elim
    (λ (same : eqb id.0 parent.0 ≡ true). absurd (own_parent new id row found under (sym (ap (λ n. record { 0 = n }) (eqb-true id.0 parent.0 same))) 33 leads))
    (λ (other : eqb id.0 parent.0 ≡ false).
    absurd (none_is_some above-row.0 (sym (row_of_last rows row parent none ∙ ap (λ (b : Bool). cond b (Some row) None) other) ∙ above-row.1)))
    (cases_Bool (eqb id.0 parent.0)))
    (λ p. p)
    (option_cases (row_of rows parent)) in
    let stands : is_there rows parent ≡ true = ap is_some there.1 in
    let last : (d : Row) → get_or new (length rows) d ≡ row = λ d. ap (λ n. get_or new n d) (plus_zero (length rows)) ∙ get_or-append-add rows (row ∷ []) 0 d in
    let free : is_taken rows parent id name ≡ false = list_any_none (has_name_beside parent id name) rows (λ k d within. ⊎_elim
    (λ (on : has_name_beside parent id name (get_or rows k d) ≡ true).
    let one = get_or rows k d in
    let (front, same) = and_parts (not (eqb (number one) 0) && eqb one.channel.parent.0 parent.0 && not (eqb (number one) id.0)) _ on in
    let (front-2, off) = and_parts (not (eqb (number one) 0) && eqb one.channel.parent.0 parent.0) (not (eqb (number one) id.0)) front in
    let (off-2, under-2) = and_parts (not (eqb (number one) 0)) (eqb one.channel.parent.0 parent.0) front-2 in
    let apart = after.apart k (length rows) d within (omega (arith, length-append rows (row ∷ []))) in
    absurd (subst (λ (r : Row). AreApart r row) (get_or_append_left rows (row ∷ []) d k within) (subst (AreApart (get_or new k d)) (last d) apart)
    (λ (e : number one ≡ 0). both_ways (not (eqb (number one) 0)) (ap not (eq-eqb (number one) 0 e)) off-2)
    lower
    (eqb-true one.channel.parent.0 parent.0 under-2)
    ((bytes_eq-Decides one.channel.name name).0 same)))
    (λ (off : has_name_beside parent id name (get_or rows k d) ≡ false). off)
    (cases_Bool (has_name_beside parent id name (get_or rows k d)))) in
    let lasts : is_temporary rows parent ≡ false =
    sym (kind_kept rows row parent there.0 there.1)
    ∙ subst (λ (r : Row). is_temporary new r.channel.parent ≡ false) (last row) (after.lasting (length rows) row (omega (arith, length-append rows (row ∷ []))) (λ (e : number (get_or new (length rows) row) ≡ 0). lower (ap number (sym (last row)) ∙ e)))
    in
    let kept : upward new 33 parent ≡ upward rows 33 parent = upward_kept rows new (old_parents rows row) 33 parent (proper.lead parent stands) in
    let whole : upward new 33 parent ≡ upward new 32 parent = upward_more new 32 parent leads-2 in
    let short : leb 33 (length (path rows parent)) ≡ false =
    over_limit 33 (length (path rows parent)) (omega (arith, length-reverse (upward rows 33 parent), ap length kept, ap length whole, upward_within new 32 parent)) in
    let room : is_full tree ≡ false = over_limit tree.limit (length rows) (omega (arith, after.few, length-append rows (row ∷ []))) in
    five (not (is_there rows parent)) (is_taken rows parent id name) (is_temporary rows parent) (leb 33 (length (path rows parent))) (is_full tree) NoChannel SameName TemporaryParent Nesting Count (ap not stands) free lasts short room
  where
    plus_zero : (n : ℕ) → n ≡ n + 0
    plus_zero n = omega arith

-- with a new channel a tree is a tree exactly where nothing forbids it
pub adds_both_ways : (tree : TreeState) (id parent : ChannelId) (name : List ℕ) (temporary : Bool) → IsProper tree → tree.greatest < id.0 → (fault_of_add tree id parent name ≡ None) ↔ IsProper (with_new tree id parent name temporary)
adds_both_ways tree id parent name temporary proper above = (
  λ allowed. (added_proper tree (least_place tree.channels) id parent name name temporary plain_info proper above allowed refl refl refl).1,
  added_back tree id parent name temporary proper above,
)

-- without a channel and all below it a tree is a tree exactly where nothing forbids it
pub removes_both_ways : (tree : TreeState) (id : ChannelId) → IsProper tree → is_there tree.channels id ≡ true → (fault_of_remove tree id ≡ None) ↔ IsProper (without_subtree tree id)
removes_both_ways tree id proper there = (
  λ allowed.
      let (named, rest) = none_stands (not (is_there tree.channels id)) NoChannel _ allowed in
      let (lower, end) = none_stands (eqb id.0 0) RootFixed None rest in
      shrunk_proper tree id (links_left (filter (stays tree.channels id) tree.channels) tree.links) proper (λ (e : id.0 ≡ 0). both_ways (eqb id.0 0) lower (eq-eqb id.0 0 e)) refl,
  λ after. ⊎_elim
      (λ (root : eqb id.0 0 ≡ true).
      let rows = tree.channels in
      let same : id ≡ the_root = ap (λ n. record { 0 = n }) (eqb-true id.0 0 root) in
      let (kept, found, is) = after.root in
      let (row, was, stayed) = there_after (stays rows id) rows the_root proper.rise (ap is_some found) in
      let gone : is_below rows id the_root ≡ true = ap (λ (x : ChannelId). is_below rows x the_root) same ∙ list_any-reverse (is_top the_root) (upward rows 33 the_root) ∙ ap (list_any (is_top the_root)) (upward_root rows 32 the_root row was refl) in
      let here : row.channel.id ≡ the_root = ap (λ n. record { 0 = n }) (number_found rows the_root row was) in
      absurd (both_ways (stays rows id row) (ap (λ (x : ChannelId). not (is_below rows id x)) here ∙ ap not gone) stayed))
      (λ (off : eqb id.0 0 ≡ false). ap (λ (b : Bool). cond (not b) (Some NoChannel) (cond (eqb id.0 0) (Some RootFixed) None)) there ∙ ap (λ (b : Bool). cond b (Some RootFixed) None) off)
      (cases_Bool (eqb id.0 0)),
)
