-- A tree with one more channel.
use Rattle.mum_tree.proofs.Common.{◌≡◌, ◌≢◌, ℕ, ◌<◌, ◌≤◌, Bool, true, false, cond, eqb, List, [], ◌∷◌, ◌++◌, length, get_or, Option, Some, None, refl, arith, ap, sym, ◌∙◌, subst, ⊎_elim, length-append, All, AllPairs, Contains, option_map_or, is_some, eqb-true, ne_eqb, cases_Bool, both_ways, false≢true, All-push, All-weaker, all_pairs_push, ChannelId, Row, number, row_of, is_there, is_temporary, is_taken, has_name_beside, upward, Rise, IsFree, AreApart, IsProper, IsUnderLasting, LeadUp, TreeState, with_row}
use Rattle.mum_tree.proofs.{Find.contains_later, Find.row_of_at, Joined.links_kept, Upward.the_root, Upward.KeepParents, Upward.upward_kept, Upward.upward_under, Upward.lead_parent, Upward.there_from_lead, Upward.option_cases, Changed.none_passes, Changed.stands_beside}

pub none_is_some : (row : Row) → None ≡ Some row → ⊥
none_is_some row e = cc

pub row_of_old : (rows : List Row) (row : Row) (id : ChannelId) (found : Row) → row_of rows id ≡ Some found → row_of (rows ++ row ∷ []) id ≡ Some found
row_of_old [] row id found is = cc
row_of_old (first ∷ rows) row id found is =
    ⊎_elim
    (λ (e : eqb (number first) id.0 ≡ true). ap (λ (b : Bool). cond b (Some first) (row_of (rows ++ row ∷ []) id)) e ∙ sym (ap (λ (b : Bool). cond b (Some first) (row_of rows id)) e) ∙ is)
    (λ (e : eqb (number first) id.0 ≡ false). ap (λ (b : Bool). cond b (Some first) (row_of (rows ++ row ∷ []) id)) e ∙ row_of_old rows row id found (sym (ap (λ (b : Bool). cond b (Some first) (row_of rows id)) e) ∙ is))
    (cases_Bool (eqb (number first) id.0))

-- where no row is the channel's, the last may be
pub row_of_last : (rows : List Row) (row : Row) (id : ChannelId) → row_of rows id ≡ None → row_of (rows ++ row ∷ []) id ≡ cond (eqb (number row) id.0) (Some row) None
row_of_last [] row id none = refl
row_of_last (first ∷ rows) row id none =
    ⊎_elim
    (λ (e : eqb (number first) id.0 ≡ true). absurd (none_is_some first (sym none ∙ ap (λ (b : Bool). cond b (Some first) (row_of rows id)) e)))
    (λ (e : eqb (number first) id.0 ≡ false). ap (λ (b : Bool). cond b (Some first) (row_of (rows ++ row ∷ []) id)) e ∙ row_of_last rows row id (sym (ap (λ (b : Bool). cond b (Some first) (row_of rows id)) e) ∙ none))
    (cases_Bool (eqb (number first) id.0))

pub old_parents : (rows : List Row) (row : Row) → KeepParents rows (rows ++ row ∷ [])
old_parents rows row id found is = (found, row_of_old rows row id found is, refl)

-- the new channel is under one that has room below it
grown_lead : (rows : List Row) (row : Row) → LeadUp rows → number row ≢ 0 → Contains (upward rows 32 row.channel.parent) the_root → LeadUp (rows ++ row ∷ [])
grown_lead rows row lead lower room id there =
    ⊎_elim
    (λ (none : row_of rows id ≡ None).
    let last = row_of_last rows row id none in
    ⊎_elim
    (λ (e : eqb (number row) id.0 ≡ true).
    let found : row_of (rows ++ row ∷ []) id ≡ Some row = last ∙ ap (λ (b : Bool). cond b (Some row) None) e in
    let same : number row ≡ id.0 = eqb-true (number row) id.0 e in
    let under : eqb id.0 0 ≡ false = ne_eqb id.0 0 (λ (z : id.0 ≡ 0). lower (same ∙ z)) in
    let kept = upward_kept rows (rows ++ row ∷ []) (old_parents rows row) 32 row.channel.parent room in
    subst (λ (us : List ChannelId). Contains us the_root) (sym (upward_under (rows ++ row ∷ []) 32 id row found under))
    (contains_later id the_root (upward (rows ++ row ∷ []) 32 row.channel.parent) (subst (λ (us : List ChannelId). Contains us the_root) (sym kept) room)))
    (λ (e : eqb (number row) id.0 ≡ false).
    absurd (false≢true (subst (λ (found : Option Row). is_some found ≡ true) (last ∙ ap (λ (b : Bool). cond b (Some row) None) e) there)))
    (cases_Bool (eqb (number row) id.0)))
    (λ found.
    let before : Contains (upward rows 33 id) the_root = lead id (ap is_some found.1) in
    subst (λ (us : List ChannelId). Contains us the_root) (sym (upward_kept rows (rows ++ row ∷ []) (old_parents rows row) 33 id before)) before)
    (option_cases (row_of rows id))

-- what is there is as temporary as it was
pub kind_kept : (rows : List Row) (row : Row) (id : ChannelId) (found : Row) → row_of rows id ≡ Some found → is_temporary (rows ++ row ∷ []) id ≡ is_temporary rows id
kind_kept rows row id found is = ap (λ (o : Option Row). option_map_or (λ one. one.channel.temporary) o false) (row_of_old rows row id found is ∙ sym is)

grown_lasting : (rows : List Row) (row : Row) (parent : Row) → Rise rows → LeadUp rows → All (IsUnderLasting rows) rows → row_of rows row.channel.parent ≡ Some parent → is_temporary rows row.channel.parent ≡ false → All (IsUnderLasting (rows ++ row ∷ [])) (rows ++ row ∷ [])
grown_lasting rows row parent rise lead lasting there lasts =
    All-push (IsUnderLasting (rows ++ row ∷ [])) rows row
    (λ k d within lower.
    let one = get_or rows k d in
    let id = one.channel.id in
    let found : row_of rows id ≡ Some one = row_of_at rows k d id rise within refl in
    let above = there_from_lead rows 32 one.channel.parent (lead_parent rows 32 id one found (ne_eqb id.0 0 lower) (lead id (ap is_some found))) in
    kind_kept rows row one.channel.parent above.0 above.1 ∙ lasting k d within lower)
    (λ lower. kind_kept rows row row.channel.parent parent there ∙ lasts)

grown_apart : (rows : List Row) (row : Row) (greatest : ℕ) → All (λ one. number one ≤ greatest) rows → greatest < number row → AllPairs AreApart rows → is_taken rows row.channel.parent row.channel.id row.channel.name ≡ false → AllPairs AreApart (rows ++ row ∷ [])
grown_apart rows row greatest known above apart free =
    all_pairs_push AreApart rows row apart
    (λ k d within lower other under same.
    let one = get_or rows k d in
    let differs : number one ≢ number row = λ (e : number one ≡ number row). absurd (omega (arith, known k d within)) in
    both_ways (has_name_beside row.channel.parent row.channel.id row.channel.name one)
    (none_passes (has_name_beside row.channel.parent row.channel.id row.channel.name) rows free k d within)
    (stands_beside row.channel.parent row.channel.id row.channel.name one lower under differs same))

there_still : (rows : List Row) (row : Row) (id : ChannelId) → is_there rows id ≡ true → is_there (rows ++ row ∷ []) id ≡ true
there_still rows row id there =
    ⊎_elim
    (λ (none : row_of rows id ≡ None). absurd (false≢true (sym (ap is_some none) ∙ there)))
    (λ found. ap is_some (row_of_old rows row id found.0 found.1))
    (option_cases (row_of rows id))

pub grown_proper : (tree : TreeState) (row parent : Row) → IsProper tree → tree.greatest < number row → row_of tree.channels row.channel.parent ≡ Some parent → is_taken tree.channels row.channel.parent row.channel.id row.channel.name ≡ false → is_temporary tree.channels row.channel.parent ≡ false → Contains (upward tree.channels 32 row.channel.parent) the_root → length tree.channels < tree.limit → row.place < tree.limit → IsFree tree.channels row.place → IsProper (with_row tree row)
grown_proper tree row parent proper above there free lasts room few places_fit placement =
    let rows = tree.channels in
    let lower : number row ≢ 0 = λ (e : number row ≡ 0). absurd (omega arith) in
    let (root, found, is) = proper.root in
    record {
      rise = all_pairs_push (λ one later. number one < number later) rows row proper.rise (λ k d within. let known : number (get_or rows k d) ≤ tree.greatest = proper.known k d within in omega arith);
      root = (root, row_of_old rows row the_root root found, is);
      lead = grown_lead rows row proper.lead lower room;
      apart = grown_apart rows row tree.greatest proper.known above proper.apart free;
      lasting = grown_lasting rows row parent proper.rise proper.lead proper.lasting there lasts;
      places_fit = All-push (λ one. one.place < tree.limit) rows row proper.places_fit places_fit;
      places_apart = all_pairs_push (λ one other. one.place ≢ other.place) rows row proper.places_apart placement;
      few = omega (arith, length-append rows (row ∷ []));
      known = All-push (λ one. number one ≤ number row) rows row (All-weaker (λ one. number one ≤ tree.greatest) (λ one. number one ≤ number row) (λ one known. omega arith) rows proper.known) (omega arith);
      joined = links_kept rows (rows ++ row ∷ []) tree.links (there_still rows row) proper.joined;
      limited = proper.limited;
    }
