-- Channels while they are put in place: those that are placed have their names and parents, the others are under the
-- root under names of their own.
use Rattle.mum_kept_laws.proofs.Common.{◌≡◌, ℕ, zero, suc, ◌^◌, ◌<◌, ◌==◌, ◌&&◌, ◌||◌, Bool, true, false, not, cond, List, [], ◌∷◌, ◌++◌, map, Option, Some, None, refl, sym, ap, subst, ◌∙◌, arith, decimal, AllPairs, option_map, option_map_or, bytes_eq, or_parts, eq-eqb, eqb-true, false≢true, ne_eqb, same_Some, bytes_eq-Decides, is_among, ChannelId, ROOT, Channel, Row, AreApart, HasRoot, LeadUp, has_name_beside, is_root, number, row_of, upward, Rise, AllPairs-tail, number_found, row_of-map, upward_root, upward_under, Each, each_find, each_from_all, each_so, map_stays, same_channel}

-- the root, or one of those that are placed
abbrev pub is_settled : List ChannelId → ChannelId → Bool
is_settled done id = is_root id || is_among done id

-- under the root, under the prefix and its number
abbrev pub made : List ℕ → Channel → Channel
made prefix channel = record channel { parent = ROOT; name = prefix ++ decimal channel.id.0 }

abbrev pub staged : List ChannelId → List ℕ → Row → Row
staged done prefix row = record row { channel = cond (is_settled done row.channel.id) row.channel (made prefix row.channel) }

abbrev pub staged_rows : List ChannelId → List ℕ → List Row → List Row
staged_rows done prefix rows = map (staged done prefix) rows

-- the number stays
pub same_number : (done : List ChannelId) (prefix : List ℕ) (row : Row) → number (staged done prefix row) ≡ number row
same_number done prefix row = step (is_settled done row.channel.id)
  where
    step : (b : Bool) → (cond b row.channel (made prefix row.channel)).id.0 ≡ number row
    step true = refl
    step false = refl

pub found_staged : (done : List ChannelId) (prefix : List ℕ) (rows : List Row) (id : ChannelId) → row_of (staged_rows done prefix rows) id ≡ option_map (staged done prefix) (row_of rows id)
found_staged done prefix rows id = row_of-map (staged done prefix) (same_number done prefix) rows id

-- the parents of those that are placed are the root or placed
abbrev pub AreClosed : List Row → List ChannelId → Type 0
AreClosed rows done = (id : ChannelId) (row : Row) → is_among done id ≡ true → is_root id ≡ false → row_of rows id ≡ Some row → is_settled done row.channel.parent ≡ true

pub settled_row : (done : List ChannelId) (prefix : List ℕ) (row : Row) (id : ChannelId) → number row ≡ id.0 → is_settled done id ≡ true → staged done prefix row ≡ row
settled_row done prefix row id same settled =
    let here : is_settled done row.channel.id ≡ true = ap (λ (one : ChannelId). is_settled done one) (same_channel row.channel.id id same) ∙ settled in
    ap (λ (b : Bool). record row { channel = cond b row.channel (made prefix row.channel) }) here

made_row : (done : List ChannelId) (prefix : List ℕ) (row : Row) (id : ChannelId) → number row ≡ id.0 → is_settled done id ≡ false → staged done prefix row ≡ record row { channel = made prefix row.channel }
made_row done prefix row id same unsettled =
    let here : is_settled done row.channel.id ≡ false = ap (λ (one : ChannelId). is_settled done one) (same_channel row.channel.id id same) ∙ unsettled in
    ap (λ (b : Bool). record row { channel = cond b row.channel (made prefix row.channel) }) here

-- one step up
abbrev up_from : ℕ → ChannelId → List Row → Option Row → List ChannelId
up_from steps id whole found = option_map_or (λ (row : Row). id ∷ cond (is_root id) [] (upward whole steps row.channel.parent)) found []

-- from what is placed the same way leads up, over what is placed alone
pub up_settled : (done : List ChannelId) (prefix : List ℕ) (rows : List Row) → AreClosed rows done → (steps : ℕ) (id : ChannelId) → is_settled done id ≡ true
    → (upward (staged_rows done prefix rows) steps id ≡ upward rows steps id) × Each (λ one. is_settled done one ≡ true) (upward rows steps id)
unfolding upward
up_settled done prefix rows closed zero id settled = (refl, tt)
up_settled done prefix rows closed (suc steps) id settled = by_row (row_of rows id) refl (up_settled done prefix rows closed steps)
  where
    by_row : (found : Option Row) → row_of rows id ≡ found
        → ((one : ChannelId) → is_settled done one ≡ true → (upward (staged_rows done prefix rows) steps one ≡ upward rows steps one) × Each (λ other. is_settled done other ≡ true) (upward rows steps one))
        → (up_from steps id (staged_rows done prefix rows) (row_of (staged_rows done prefix rows) id) ≡ up_from steps id rows (row_of rows id)) × Each (λ one. is_settled done one ≡ true) (up_from steps id rows (row_of rows id))
    by_row None there rest =
        let none : row_of (staged_rows done prefix rows) id ≡ None = found_staged done prefix rows id ∙ ap (option_map (staged done prefix)) there in (
          ap (up_from steps id (staged_rows done prefix rows)) none ∙ sym (ap (up_from steps id rows) there),
          subst (λ (o : Option Row). Each (λ one. is_settled done one ≡ true) (up_from steps id rows o)) (sym there) tt,
        )
    by_row (Some row) there rest =
        let same : staged done prefix row ≡ row = settled_row done prefix row id (number_found rows id row there) settled in
        let some : row_of (staged_rows done prefix rows) id ≡ Some row = found_staged done prefix rows id ∙ ap (option_map (staged done prefix)) there ∙ ap (λ (r : Row). Some r) same in
        let both = by_root (is_root id) refl in (
          ap (up_from steps id (staged_rows done prefix rows)) some ∙ both.0 ∙ sym (ap (up_from steps id rows) there),
          subst (λ (o : Option Row). Each (λ one. is_settled done one ≡ true) (up_from steps id rows o)) (sym there) both.1,
        )
      where
        by_root : (b : Bool) → is_root id ≡ b
            → (id ∷ cond b [] (upward (staged_rows done prefix rows) steps row.channel.parent) ≡ id ∷ cond b [] (upward rows steps row.channel.parent))
            × Each (λ one. is_settled done one ≡ true) (id ∷ cond b [] (upward rows steps row.channel.parent))
        by_root true root = (refl, (settled, tt))
        by_root false below =
            let among : is_among done id ≡ true = ap (λ (b : Bool). b || is_among done id) (sym below) ∙ settled in
            let above = rest row.channel.parent (closed id row among below there) in
            (ap (λ (ids : List ChannelId). id ∷ ids) above.0, (settled, above.1))

-- from a channel that is not placed it is one step to the root
pub up_made : (done : List ChannelId) (prefix : List ℕ) (rows : List Row) (steps : ℕ) (id : ChannelId) (row root : Row) → is_settled done id ≡ false → row_of rows id ≡ Some row → row_of rows ROOT ≡ Some root
    → upward (staged_rows done prefix rows) (suc (suc steps)) id ≡ id ∷ ROOT ∷ []
up_made done prefix rows steps id row root unsettled there has_root =
    let below : is_root id ≡ false = (or_parts (is_root id) (is_among done id) unsettled).0 in
    let is : staged done prefix row ≡ record row { channel = made prefix row.channel } = made_row done prefix row id (number_found rows id row there) unsettled in
    let is_top : staged done prefix root ≡ root = settled_row done prefix root ROOT (number_found rows ROOT root has_root) refl in
    let own : row_of (staged_rows done prefix rows) id ≡ Some (record row { channel = made prefix row.channel }) =
    found_staged done prefix rows id ∙ ap (option_map (staged done prefix)) there ∙ ap (λ (r : Row). Some r) is in
    let top : row_of (staged_rows done prefix rows) ROOT ≡ Some root = found_staged done prefix rows ROOT ∙ ap (option_map (staged done prefix)) has_root ∙ ap (λ (r : Row). Some r) is_top in
    upward_under (staged_rows done prefix rows) (suc steps) id (record row { channel = made prefix row.channel }) own below
    ∙ ap (λ (ids : List ChannelId). id ∷ ids) (upward_root (staged_rows done prefix rows) steps ROOT root top refl)

-- ---- the root needs no place

pub root_settles : (done : List ChannelId) (id : ChannelId) → is_root id ≡ true → (one : ChannelId) → is_settled (id ∷ done) one ≡ is_settled done one
root_settles done id root one = step (is_root one) refl
  where
    step : (b : Bool) → is_root one ≡ b → (b || ((id.0 == one.0) || is_among done one)) ≡ (b || is_among done one)
    step true top = refl
    step false below =
        ap (λ (b : Bool). b || is_among done one)
        (ne_eqb id.0 one.0 (λ (e : id.0 ≡ one.0). false≢true (sym below ∙ eq-eqb one.0 0 (sym e ∙ eqb-true id.0 0 root))))

pub root_stages : (done : List ChannelId) (prefix : List ℕ) (id : ChannelId) → is_root id ≡ true → (rows : List Row) → staged_rows (id ∷ done) prefix rows ≡ staged_rows done prefix rows
root_stages done prefix id root [] = refl
root_stages done prefix id root (row ∷ rows) =
    ap (λ (b : Bool). record row { channel = cond b row.channel (made prefix row.channel) } ∷ staged_rows (id ∷ done) prefix rows) (root_settles done id root row.channel.id)
    ∙ ap (λ (later : List Row). staged done prefix row ∷ later) (root_stages done prefix id root rows)

pub root_closes : (rows : List Row) (done : List ChannelId) (id : ChannelId) → is_root id ≡ true → AreClosed rows done → AreClosed rows (id ∷ done)
root_closes rows done id root closed one row among below there =
    root_settles done id root row.channel.parent ∙ closed one row (step (id.0 == one.0) refl among) below there
  where
    step : (b : Bool) → (id.0 == one.0) ≡ b → (b || is_among done one) ≡ true → is_among done one ≡ true
    step true same among = absurd (false≢true (sym below ∙ eq-eqb one.0 0 (sym (eqb-true id.0 one.0 same) ∙ eqb-true id.0 0 root)))
    step false other among = among

-- all are placed
pub all_staged : (done : List ChannelId) (prefix : List ℕ) (rows : List Row) → Each (λ row. is_settled done row.channel.id ≡ true) rows → staged_rows done prefix rows ≡ rows
all_staged done prefix rows all =
    map_stays (staged done prefix) rows
    (each_so (λ row. is_settled done row.channel.id ≡ true) (λ row. staged done prefix row ≡ row)
    (λ row settled. ap (λ (b : Bool). record row { channel = cond b row.channel (made prefix row.channel) }) settled) rows all)

-- ---- the next channel can be placed

-- what is known of the channels as they are to be
pub record AreTarget (prefix : List ℕ) (rows : List Row) : Type 0 where
  pub rise : Rise rows
  pub root : HasRoot rows
  pub lead : LeadUp rows
  pub apart : AllPairs AreApart rows
  pub lasting : Each (λ row. row.channel.temporary ≡ false) rows
  pub words : Each (λ row. number row < 2 ^ 32) rows
  -- no name begins with the prefix
  pub unlike : Each (λ row. (rest : List ℕ) → row.channel.name ≡ prefix ++ rest → ⊥) rows

-- two rows of different numbers are apart, whichever comes first
apart_both : (one other : Row) → AreApart one other → AreApart other one
apart_both one other apart first second under named = apart second first (sym under) (sym named)

pub apart_from : (rows : List Row) (row : Row) (id : ChannelId) → Rise rows → AllPairs AreApart rows → row_of rows id ≡ Some row → Each (λ other. (number other == id.0) ≡ false → AreApart other row) rows
apart_from [] row id rise apart there = tt
apart_from (first ∷ rows) row id rise apart there = by_first (number first == id.0) refl there (apart_from rows row id later rest)
  where
    later : Rise rows
    later = AllPairs-tail (λ one next. number one < number next) first rows rise

    rest : AllPairs AreApart rows
    rest = AllPairs-tail AreApart first rows apart

    from_first : Each (λ other. AreApart first other) rows
    from_first = each_from_all (λ other. AreApart first other) rows (λ k d within. apart 0 (suc k) d (omega arith) (omega arith))

    by_first : (b : Bool) → (number first == id.0) ≡ b → cond b (Some first) (row_of rows id) ≡ Some row → (row_of rows id ≡ Some row → Each (λ other. (number other == id.0) ≡ false → AreApart other row) rows) → Each (λ other. (number other == id.0) ≡ false → AreApart other row) (first ∷ rows)
    by_first true same here further =
        let is : first ≡ row = same_Some first row here in (
          λ off. absurd (false≢true (sym off ∙ same)),
          each_so (λ other. AreApart first other) (λ other. (number other == id.0) ≡ false → AreApart other row) (λ other one off. subst (λ (r : Row). AreApart other r) is (apart_both first other one)) rows from_first,
        )
    by_first false other here further =
        (λ off. found_so row here, further here)
      where
        found_so : (one : Row) → row_of rows id ≡ Some one → AreApart first one
        found_so one found = (each_find (λ next. AreApart first next) (λ next. number next == id.0) rows one from_first found).0

name_unlike : (prefix : List ℕ) (name : List ℕ) (n : ℕ) → ((rest : List ℕ) → name ≡ prefix ++ rest → ⊥) → bytes_eq (prefix ++ decimal n) name ≡ false
name_unlike prefix name n unlike = by_test (bytes_eq (prefix ++ decimal n) name) refl
  where
    by_test : (b : Bool) → bytes_eq (prefix ++ decimal n) name ≡ b → b ≡ false
    by_test true same = absurd (unlike (decimal n) (sym ((bytes_eq-Decides (prefix ++ decimal n) name).0 same)))
    by_test false other = refl

apart_names : (one other : List ℕ) → (one ≡ other → ⊥) → bytes_eq one other ≡ false
apart_names one other differ = by_test (bytes_eq one other) refl
  where
    by_test : (b : Bool) → bytes_eq one other ≡ b → b ≡ false
    by_test true same = absurd (differ ((bytes_eq-Decides one other).0 same))
    by_test false different = refl

and_false : (b : Bool) → (b && false) ≡ false
and_false true = refl
and_false false = refl

-- no other channel under the parent has the name
pub beside : (done : List ChannelId) (prefix : List ℕ) (parent id : ChannelId) (row other : Row) → number row ≡ id.0 → is_root id ≡ false → row.channel.parent ≡ parent
    → ((number other == id.0) ≡ false → AreApart other row) → ((rest : List ℕ) → row.channel.name ≡ prefix ++ rest → ⊥)
    → has_name_beside parent id row.channel.name (staged done prefix other) ≡ false
beside done prefix parent id row other same below under apart unlike =
    by_stage (is_settled done other.channel.id) refl
  where
    by_stage : (b : Bool) → is_settled done other.channel.id ≡ b → has_name_beside parent id row.channel.name (record other { channel = cond b other.channel (made prefix other.channel) }) ≡ false
    by_stage false unsettled =
        ap (λ (b : Bool). (not (is_root other.channel.id) && (ROOT.0 == parent.0) && not (number other == id.0)) && b) (name_unlike prefix row.channel.name other.channel.id.0 unlike)
        ∙ and_false (not (is_root other.channel.id) && (ROOT.0 == parent.0) && not (number other == id.0))
    by_stage true settled = by_tests (is_root other.channel.id) refl (other.channel.parent.0 == parent.0) refl (number other == id.0) refl
      where
        by_tests : (top : Bool) → is_root other.channel.id ≡ top → (sibling : Bool) → (other.channel.parent.0 == parent.0) ≡ sibling → (own : Bool) → (number other == id.0) ≡ own
            → (((not top && sibling) && not own) && bytes_eq other.channel.name row.channel.name) ≡ false
        by_tests true is sibling one own two = refl
        by_tests false is false one own two = refl
        by_tests false is true one true two = refl
        by_tests false is true one false two =
            apart_names other.channel.name row.channel.name
            (λ named. apart two
            (λ (e : number other ≡ 0). false≢true (sym is ∙ eq-eqb other.channel.id.0 0 e))
            (λ (e : number row ≡ 0). false≢true (sym below ∙ eq-eqb id.0 0 (sym same ∙ e)))
            (eqb-true other.channel.parent.0 parent.0 one ∙ sym (ap (λ (c : ChannelId). c.0) under)) named)
