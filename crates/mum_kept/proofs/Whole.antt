-- What makes rows good as a whole.
use Rattle.mum_kept.proofs.Common.{◌≡◌, ◌≢◌, ◌<◌, ◌≤◌, ◌==◌, ◌&&◌, Bool, true, false, List, [], ◌∷◌, length, refl, sym, ap, subst, ◌∙◌, arith, inl, inr, ⊎_elim, IsTrue, ◌↔◌, AllPairs, count_by, list_all, and_from, and_parts, eq-eqb, eqb-true, false≢true, none-some, ChannelId, Row, AreApart, HasRoot, Rise, Ordered, Pair, KeptChannel, KeptRows, AreGoodChannels, AreGoodLinks, AreNone, AreShaped, IsGood, IsTree, are_sound, has_name, has_policy, has_text, is_link_of, joins_two, leads_up, tree_rows}
use Rattle.mum_kept.proofs.{Degrees.all_join, Goodness.all_lead}

empty_is : {X : Type 0} (xs : List X) → length xs ≡ 0 → xs ≡ []
empty_is [] none = refl
empty_is (x ∷ xs) none = absurd (omega arith)

no_root : (channels : List KeptChannel) → length channels ≡ 0 → HasRoot (tree_rows channels) → ⊥
no_root [] none has = absurd (none-some has.0 has.1)
no_root (channel ∷ channels) none has = absurd (omega arith)

-- rows that are good and not empty are those of a tree
pub tree_of_good : (rows : KeptRows) → 0 < length rows.channels → IsGood rows → IsTree rows
tree_of_good rows some good =
    ⊎_elim (λ (none : AreNone rows). absurd (let empty : length rows.channels ≡ 0 = ap (λ (xs : List KeptChannel). length xs) none.0 in omega arith)) (λ (tree : IsTree rows). tree) good

-- as many as are seen
long : {X : Type 0} (xs seen : List X) → seen ≡ xs → length seen ≡ length xs
long {X} xs seen same = ap (λ (ys : List X). length ys) same

some_there : (channels seen : List KeptChannel) (empty : Bool) → seen ≡ channels → empty ≡ (length seen == 0) → empty ≡ false → 0 < length channels
some_there channels seen empty same is off =
    let many : length seen ≡ length channels = long channels seen same in
    let some : length seen ≢ 0 = λ e. false≢true (sym off ∙ is ∙ eq-eqb (length seen) 0 e) in
    omega arith

-- without channels the rows are good where there are no links
pub none_good : (rows : KeptRows) (channels : List KeptChannel) (links : List Pair) (empty fine : Bool) → channels ≡ rows.channels → links ≡ rows.links → empty ≡ (length channels == 0) → empty ≡ true → fine ≡ (length links == 0)
    → IsTrue fine ↔ IsGood rows
none_good rows channels links empty fine same same_links is on is_fine =
    let none : length rows.channels ≡ 0 = sym (long rows.channels channels same) ∙ eqb-true (length channels) 0 (sym is ∙ on) in (
      λ yes. inl (empty_is rows.channels none, empty_is rows.links (sym (long rows.links links same_links) ∙ eqb-true (length links) 0 (sym is_fine ∙ yes))),
      λ good. ⊎_elim
          (λ (nothing : AreNone rows). is_fine ∙ eq-eqb (length links) 0 (long rows.links links same_links ∙ ap (λ (xs : List Pair). length xs) nothing.1))
          (λ (tree : IsTree rows). absurd (no_root rows.channels none tree.0.root)) good,
    )

pub not_good : (rows : KeptRows) (channels : List KeptChannel) (empty fine : Bool) → channels ≡ rows.channels → empty ≡ (length channels == 0) → empty ≡ false → (IsTrue fine ↔ AreGoodChannels channels) → fine ≡ false
    → IsTrue false ↔ IsGood rows
not_good rows channels empty fine same is some both off = (
  λ on. absurd (false≢true on),
  λ good. sym off ∙ both.1 (subst AreGoodChannels (sym same) (tree_of_good rows (some_there rows.channels channels empty same is some) good).0),
)

pub tree_good : (rows : KeptRows) (channels : List KeptChannel) (links : List Pair) (empty good fine : Bool) → channels ≡ rows.channels → links ≡ rows.links → empty ≡ (length channels == 0) → empty ≡ false
    → (IsTrue good ↔ AreGoodChannels channels) → good ≡ true → (IsTrue fine ↔ AreGoodLinks (tree_rows channels) links) → IsTrue fine ↔ IsGood rows
tree_good rows channels links empty good fine same same_links is some both on_too joined = (
  λ on.
      inr (
        subst AreGoodChannels same (both.0 on_too),
        subst (λ (xs : List Pair). AreGoodLinks (tree_rows rows.channels) xs) same_links (subst (λ (xs : List KeptChannel). AreGoodLinks (tree_rows xs) links) same (joined.0 on)),
      ),
  λ whole.
      joined.1
      (subst (λ (xs : List KeptChannel). AreGoodLinks (tree_rows xs) links) (sym same)
      (subst (λ (xs : List Pair). AreGoodLinks (tree_rows rows.channels) xs) (sym same_links) (tree_of_good rows (some_there rows.channels channels empty same is some) whole).1)),
)

-- ---- channels

pub not_few : (channels : List KeptChannel) → 2048 < length channels → IsTrue false ↔ AreShaped channels
not_few channels many = (λ on. absurd (false≢true on), λ shape. absurd (let few : length channels ≤ 2048 = shape.few in omega arith))

pub not_rising : (channels : List KeptChannel) (rises : Bool) → (IsTrue rises ↔ Rise (tree_rows channels)) → rises ≡ false → IsTrue false ↔ AreShaped channels
not_rising channels rises both off = (λ on. absurd (false≢true on), λ shape. sym off ∙ both.1 shape.rising)

pub not_rooted : (channels : List KeptChannel) (rooted : Bool) → (IsTrue rooted ↔ HasRoot (tree_rows channels)) → rooted ≡ false → IsTrue false ↔ AreShaped channels
not_rooted channels rooted both off = (λ on. absurd (false≢true on), λ shape. sym off ∙ both.1 shape.root)

pub shaped : (channels : List KeptChannel) (rises rooted fine : Bool) → length channels ≤ 2048 → (IsTrue rises ↔ Rise (tree_rows channels)) → rises ≡ true → (IsTrue rooted ↔ HasRoot (tree_rows channels)) → rooted ≡ true
    → fine ≡ are_sound channels → IsTrue fine ↔ AreShaped channels
shaped channels rises rooted fine few rising rise root has is =
    let leads : Bool = list_all (λ (channel : KeptChannel). leads_up (tree_rows channels) channel.id) channels in
    let up = all_lead channels leads (rising.0 rise) refl in (
      λ on.
          let two = and_parts (leads && list_all has_name channels) (list_all has_text channels) (sym is ∙ on) in
          let one = and_parts leads (list_all has_name channels) two.0 in
          record { few = few; rising = rising.0 rise; root = root.0 has; parents = up.0 one.0; names = one.1; texts = two.1 },
      λ shape. is ∙ and_from (leads && list_all has_name channels) (list_all has_text channels) (and_from leads (list_all has_name channels) (up.1 shape.parents) shape.names) shape.texts,
    )

pub not_shaped : (channels : List KeptChannel) (fine : Bool) → (IsTrue fine ↔ AreShaped channels) → fine ≡ false → IsTrue false ↔ AreGoodChannels channels
not_shaped channels fine shape off = (
  λ on. absurd (false≢true on),
  λ good. sym off ∙ shape.1 (record { few = good.few; rising = good.rising; root = good.root; parents = good.parents; names = good.names; texts = good.texts }),
)

pub no_policies : (channels : List KeptChannel) (have : Bool) → have ≡ list_all has_policy channels → have ≡ false → IsTrue false ↔ AreGoodChannels channels
no_policies channels have is off = (λ on. absurd (false≢true on), λ good. sym off ∙ is ∙ good.policies)

pub good_by_siblings : (channels : List KeptChannel) (shapely have fine : Bool) → (IsTrue shapely ↔ AreShaped channels) → shapely ≡ true → have ≡ list_all has_policy channels → have ≡ true → (IsTrue fine ↔ AllPairs AreApart (tree_rows channels)) → IsTrue fine ↔ AreGoodChannels channels
good_by_siblings channels shapely have fine shape_is shape_on is on_too apart = (
  λ on.
      let shape = shape_is.0 shape_on in
      record { few = shape.few; rising = shape.rising; root = shape.root; parents = shape.parents; names = shape.names; siblings = apart.0 on; texts = shape.texts; policies = sym is ∙ on_too },
  λ good. apart.1 good.siblings,
)

-- ---- links

pub not_joined : (rows : List Row) (links : List Pair) (fine : Bool) → fine ≡ list_all (λ (pair : Pair). joins_two rows pair) links → fine ≡ false → IsTrue false ↔ AreGoodLinks rows links
not_joined rows links fine is off = (λ on. absurd (false≢true on), λ good. sym off ∙ (all_join rows links fine is).1 good.between)

pub not_ordered : (rows : List Row) (links : List Pair) (rises : Bool) → (IsTrue rises ↔ Ordered links) → rises ≡ false → IsTrue false ↔ AreGoodLinks rows links
not_ordered rows links rises both off = (λ on. absurd (false≢true on), λ good. sym off ∙ both.1 good.rising)

pub links_good : (rows : List Row) (links : List Pair) (fine rises few : Bool) → fine ≡ list_all (λ (pair : Pair). joins_two rows pair) links → fine ≡ true → (IsTrue rises ↔ Ordered links) → rises ≡ true
    → (IsTrue few ↔ ((id : ChannelId) → count_by (is_link_of id) links ≤ 64)) → IsTrue few ↔ AreGoodLinks rows links
links_good rows links fine rises few is joined both rise each = (
  λ on. record { between = (all_join rows links fine is).0 joined; rising = both.0 rise; few_each = each.0 on },
  λ good. each.1 good.few_each,
)
