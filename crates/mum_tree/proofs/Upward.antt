-- The way up from a channel.
use Rattle.mum_tree.proofs.Common.{◌≡◌, ℕ, zero, suc, ◌<◌, ◌-◌, ◌≤◌, true, false, eqb, cond, List, [], ◌∷◌, ◌++◌, Option, Some, None, IfSome, MatchOption, length, reverse, refl, arith, ap, sym, subst, ◌∙◌, append_assoc, ◌⊎◌, inl, inr, ⊎_elim, IsTrue, All, Contains, is_some, eq-eqb, eqb-true, false_from_ne_true, both_ways, cases_Bool, get_or-reverse, length-append, length-reverse, reverse-append, All-cons, All-nil, Contains-tail, ChannelId, Row, row_of, is_there, path, upward, IsWay}

pub upward_at : (rows : List Row) (steps : ℕ) (id : ChannelId) (row : Row) → row_of rows id ≡ Some row → upward rows (suc steps) id ≡ id ∷ cond (eqb id.0 0) [] (upward rows steps row.channel.parent)
unfolding upward
upward_at rows steps id row found = rw found refl

pub upward_missing : (rows : List Row) (steps : ℕ) (id : ChannelId) → row_of rows id ≡ None → upward rows steps id ≡ []
unfolding upward
upward_missing rows zero id none = refl
upward_missing rows (suc steps) id none = rw none refl

pub upward_zero : (rows : List Row) (id : ChannelId) → upward rows 0 id ≡ []
unfolding upward
upward_zero rows id = refl

pub reverse-cons : {X : Type 0} (x : X) (xs : List X) → reverse (x ∷ xs) ≡ reverse xs ++ x ∷ []
reverse-cons x xs = reverse-append (x ∷ []) xs

pub none_contained : {X : Type 0} (x : X) → Contains [] x → ⊥
none_contained x (k, within, is) = absurd (omega arith)

abbrev pub the_root : ChannelId
the_root = record { 0 = 0 }

-- the way up, so far and from here on
pub step_up : (rows : List Row) (whole way : List ChannelId) (left : ℕ) (at : ChannelId) (row : Row) → 0 < left → row_of rows at ≡ Some row → (eqb at.0 0 ≡ true → ⊥) → way ++ upward rows left at ≡ whole → (way ++ at ∷ []) ++ upward rows (left - 1) row.channel.parent ≡ whole
step_up rows whole way zero at row positive found lower front = absurd (omega arith)
step_up rows whole way (suc left) at row positive found lower front =
    let here : suc left - 1 ≡ left = omega arith in
    let off : eqb at.0 0 ≡ false = false_from_ne_true (eqb at.0 0) lower in
    let up : upward rows (suc left) at ≡ at ∷ upward rows left row.channel.parent = upward_at rows left at row found ∙ ap (λ b. at ∷ cond b [] (upward rows left row.channel.parent)) off in
    rw (here, append_assoc way (at ∷ []) (upward rows left row.channel.parent)) (sym (ap (λ us. way ++ us) up) ∙ front)

-- at the root the way up ends
pub step_end : (rows : List Row) (whole way : List ChannelId) (left : ℕ) (at : ChannelId) (row : Row) → 0 < left → row_of rows at ≡ Some row → eqb at.0 0 ≡ true → way ++ upward rows left at ≡ whole → way ++ at ∷ [] ≡ whole
step_end rows whole way zero at row positive found root front = absurd (omega arith)
step_end rows whole way (suc left) at row positive found root front =
    let up : upward rows (suc left) at ≡ at ∷ [] = upward_at rows left at row found ∙ ap (λ b. at ∷ cond b [] (upward rows left row.channel.parent)) root in
    sym (ap (λ us. way ++ us) up) ∙ front

-- where the way up from a row that is not the root's leads to the root, so does its parent's
pub step_lead : (rows : List Row) (start : ℕ) (at : ChannelId) (row : Row) → 0 < start → row_of rows at ≡ Some row → (eqb at.0 0 ≡ true → ⊥) → Contains (upward rows start at) the_root → Contains (upward rows (start - 1) row.channel.parent) the_root
step_lead rows zero at row positive found lower lead = absurd (omega arith)
step_lead rows (suc start) at row positive found lower lead =
    let here : suc start - 1 ≡ start = omega arith in
    let off : eqb at.0 0 ≡ false = false_from_ne_true (eqb at.0 0) lower in
    let up : upward rows (suc start) at ≡ at ∷ upward rows start row.channel.parent = upward_at rows start at row found ∙ ap (λ b. at ∷ cond b [] (upward rows start row.channel.parent)) off in
    rw here (Contains-tail at (upward rows start row.channel.parent) the_root (λ (e : at ≡ the_root). lower (eq-eqb at.0 0 (ap (λ x. x.0) e))) (subst (λ (us : List ChannelId). Contains us the_root) up lead))

pub none_from : (found : Option Row) → (is_some found ≡ true → ⊥) → found ≡ None
none_from None h = refl
none_from (Some row) h = absurd (h refl)

-- a way up that has the root does not end before it
pub lead_none : (rows : List Row) (start : ℕ) (at id : ChannelId) → (IsTrue (is_there rows id) → Contains (upward rows start at) the_root) → upward rows start at ≡ [] → row_of rows id ≡ None
lead_none rows start at id lead none =
    none_from (row_of rows id) (λ there. none_contained the_root (subst (λ (us : List ChannelId). Contains us the_root) none (lead there)))

-- a way up of 33 steps is not left over
pub way_ends : (rows : List Row) (way : List ChannelId) (left : ℕ) (at id : ChannelId) → left ≡ 0 → length way ≡ 33 → way ++ upward rows left at ≡ upward rows 33 id → (IsTrue (is_there rows id) → Contains (upward rows left at) the_root) → ⊥
way_ends rows way zero at id done whole front lead =
    let none : row_of rows id ≡ None = lead_none rows 0 at id lead (upward_zero rows at) in
    let empty : length (upward rows 33 id) ≡ 0 = ap length (upward_missing rows 33 id none) in
    let long : length (way ++ upward rows 0 at) ≡ length (upward rows 33 id) = ap length front in
    absurd (omega (arith, length-append way (upward rows 0 at)))
way_ends rows way (suc left) at id done whole front lead = absurd (omega arith)

pub option_cases : {X : Type 0} (found : Option X) → (found ≡ None) ⊎ ((x : X) × (found ≡ Some x))
option_cases None = inl refl
option_cases (Some x) = inr (x, refl)

-- what has a way up is there
pub there_from_way : (rows : List Row) (id : ChannelId) (way : List ChannelId) (last : ChannelId) → way ++ last ∷ [] ≡ upward rows 33 id → is_there rows id ≡ true
there_from_way rows id way last whole =
    ⊎_elim
    (λ (none : row_of rows id ≡ None). absurd (omega (arith, ap length whole, ap length (upward_missing rows 33 id none), length-append way (last ∷ []))))
    (λ found. ap is_some found.1)
    (option_cases (row_of rows id))

-- what leads to the root is there
pub there_from_lead : (rows : List Row) (steps : ℕ) (id : ChannelId) → Contains (upward rows steps id) the_root → (row : Row) × (row_of rows id ≡ Some row)
there_from_lead rows steps id lead =
    ⊎_elim
    (λ (none : row_of rows id ≡ None). absurd (none_contained the_root (subst (λ (us : List ChannelId). Contains us the_root) (upward_missing rows steps id none) lead)))
    (λ found. found)
    (option_cases (row_of rows id))

pub upward_root : (rows : List Row) (steps : ℕ) (id : ChannelId) (row : Row) → row_of rows id ≡ Some row → eqb id.0 0 ≡ true → upward rows (suc steps) id ≡ id ∷ []
upward_root rows steps id row found root = upward_at rows steps id row found ∙ ap (λ b. id ∷ cond b [] (upward rows steps row.channel.parent)) root

pub upward_under : (rows : List Row) (steps : ℕ) (id : ChannelId) (row : Row) → row_of rows id ≡ Some row → eqb id.0 0 ≡ false → upward rows (suc steps) id ≡ id ∷ upward rows steps row.channel.parent
upward_under rows steps id row found under = upward_at rows steps id row found ∙ ap (λ b. id ∷ cond b [] (upward rows steps row.channel.parent)) under

-- a channel that is not the root leads to the root by its parent
pub lead_parent : (rows : List Row) (steps : ℕ) (id : ChannelId) (row : Row) → row_of rows id ≡ Some row → eqb id.0 0 ≡ false → Contains (upward rows (suc steps) id) the_root → Contains (upward rows steps row.channel.parent) the_root
lead_parent rows steps id row found under lead =
    Contains-tail id (upward rows steps row.channel.parent) the_root
    (λ (e : id ≡ the_root). both_ways (eqb id.0 0) under (eq-eqb id.0 0 (ap (λ x. x.0) e)))
    (subst (λ (us : List ChannelId). Contains us the_root) (upward_under rows steps id row found under) lead)

-- a way up that has the root is whole
pub upward_more : (rows : List Row) (steps : ℕ) (id : ChannelId) → Contains (upward rows steps id) the_root → upward rows (suc steps) id ≡ upward rows steps id
upward_more rows zero id lead = absurd (none_contained the_root (subst (λ (us : List ChannelId). Contains us the_root) (upward_zero rows id) lead))
upward_more rows (suc steps) id lead =
    let (row, found) = there_from_lead rows (suc steps) id lead in
    ⊎_elim
    (λ (root : eqb id.0 0 ≡ true). upward_root rows (suc steps) id row found root ∙ sym (upward_root rows steps id row found root))
    (λ (under : eqb id.0 0 ≡ false).
    upward_under rows (suc steps) id row found under
    ∙ ap (λ us. id ∷ us) (upward_more rows steps row.channel.parent (lead_parent rows steps id row found under lead))
    ∙ sym (upward_under rows steps id row found under))
    (cases_Bool (eqb id.0 0))

-- a way up that is shorter than it may be is whole
pub upward_short : (rows : List Row) (steps : ℕ) (id : ChannelId) → length (upward rows (suc steps) id) ≤ steps → upward rows (suc steps) id ≡ upward rows steps id
upward_short rows zero id short =
    ⊎_elim
    (λ (none : row_of rows id ≡ None). upward_missing rows 1 id none ∙ sym (upward_zero rows id))
    (λ found. absurd (omega (arith, ap length (upward_at rows 0 id found.0 found.1))))
    (option_cases (row_of rows id))
upward_short rows (suc steps) id short =
    ⊎_elim
    (λ (none : row_of rows id ≡ None). upward_missing rows (suc (suc steps)) id none ∙ sym (upward_missing rows (suc steps) id none))
    (λ found. ⊎_elim
    (λ (root : eqb id.0 0 ≡ true). upward_root rows (suc steps) id found.0 found.1 root ∙ sym (upward_root rows steps id found.0 found.1 root))
    (λ (under : eqb id.0 0 ≡ false).
    let cut : length (upward rows (suc steps) found.0.channel.parent) ≤ steps = omega (arith, ap length (upward_under rows (suc steps) id found.0 found.1 under)) in
    upward_under rows (suc steps) id found.0 found.1 under
    ∙ ap (λ us. id ∷ us) (upward_short rows steps found.0.channel.parent cut)
    ∙ sym (upward_under rows steps id found.0 found.1 under))
    (cases_Bool (eqb id.0 0)))
    (option_cases (row_of rows id))

-- each channel is still there, under the same parent
abbrev pub KeepParents : List Row → List Row → Type 0
KeepParents rows new = (id : ChannelId) (row : Row) → row_of rows id ≡ Some row → (kept : Row) × (row_of new id ≡ Some kept) × (kept.channel.parent ≡ row.channel.parent)

pub upward_kept : (rows new : List Row) → KeepParents rows new → (steps : ℕ) (id : ChannelId) → Contains (upward rows steps id) the_root → upward new steps id ≡ upward rows steps id
upward_kept rows new keep zero id lead = upward_zero new id ∙ sym (upward_zero rows id)
upward_kept rows new keep (suc steps) id lead =
    let (row, found) = there_from_lead rows (suc steps) id lead in
    let (kept, again, same) = keep id row found in
    ⊎_elim
    (λ (root : eqb id.0 0 ≡ true). upward_root new steps id kept again root ∙ sym (upward_root rows steps id row found root))
    (λ (under : eqb id.0 0 ≡ false).
    upward_under new steps id kept again under
    ∙ ap (λ parent. id ∷ upward new steps parent) same
    ∙ ap (λ us. id ∷ us) (upward_kept rows new keep steps row.channel.parent (lead_parent rows steps id row found under lead))
    ∙ sym (upward_under rows steps id row found under))
    (cases_Bool (eqb id.0 0))

-- the way up begins at the channel and is of channels that are there
way_from : (rows : List Row) (steps : ℕ) (id : ChannelId) → Contains (upward rows steps id) the_root → (above : List ChannelId) × (upward rows steps id ≡ id ∷ above)
way_from rows zero id lead = absurd (none_contained the_root (subst (λ (us : List ChannelId). Contains us the_root) (upward_zero rows id) lead))
way_from rows (suc steps) id lead =
    let (row, found) = there_from_lead rows (suc steps) id lead in
    (cond (eqb id.0 0) [] (upward rows steps row.channel.parent), upward_at rows steps id row found)

-- it ends at the root
way_to : (rows : List Row) (steps : ℕ) (id : ChannelId) → Contains (upward rows steps id) the_root → (below : List ChannelId) × (upward rows steps id ≡ below ++ the_root ∷ [])
way_to rows zero id lead = absurd (none_contained the_root (subst (λ (us : List ChannelId). Contains us the_root) (upward_zero rows id) lead))
way_to rows (suc steps) id lead =
    let (row, found) = there_from_lead rows (suc steps) id lead in
    ⊎_elim
    (λ (root : eqb id.0 0 ≡ true).
    let same : id ≡ the_root = ap (λ n. record { 0 = n }) (eqb-true id.0 0 root) in
    ([], upward_root rows steps id row found root ∙ ap (λ (x : ChannelId). x ∷ []) same))
    (λ (under : eqb id.0 0 ≡ false).
    let (below, is) = way_to rows steps row.channel.parent (lead_parent rows steps id row found under lead) in
    (id ∷ below, upward_under rows steps id row found under ∙ ap (λ us. id ∷ us) is))
    (cases_Bool (eqb id.0 0))

way_there : (rows : List Row) (steps : ℕ) (id : ChannelId) → Contains (upward rows steps id) the_root → All (λ one. is_there rows one ≡ true) (upward rows steps id)
way_there rows zero id lead = absurd (none_contained the_root (subst (λ (us : List ChannelId). Contains us the_root) (upward_zero rows id) lead))
way_there rows (suc steps) id lead =
    let (row, found) = there_from_lead rows (suc steps) id lead in
    let P : ChannelId → Type 0 = λ one. is_there rows one ≡ true in
    ⊎_elim
    (λ (root : eqb id.0 0 ≡ true). subst (All P) (sym (upward_root rows steps id row found root)) (All-cons P id [] (ap is_some found) (All-nil P)))
    (λ (under : eqb id.0 0 ≡ false).
    subst (All P) (sym (upward_under rows steps id row found under))
    (All-cons P id (upward rows steps row.channel.parent) (ap is_some found) (way_there rows steps row.channel.parent (lead_parent rows steps id row found under lead))))
    (cases_Bool (eqb id.0 0))

-- a path leads from the root down to the channel
pub path_leads : (rows : List Row) (id : ChannelId) → Contains (upward rows 33 id) the_root → IsWay rows id (path rows id)
path_leads rows id lead =
    let up = upward rows 33 id in
    let (above, from) = way_from rows 33 id lead in
    let (below, to) = way_to rows 33 id lead in
    record {
      begins = (reverse below, ap reverse to ∙ reverse-append below (the_root ∷ []));
      ends = (reverse above, ap reverse from ∙ reverse-cons id above);
      there = λ k d within.
          let inside : k < length up = omega (arith, length-reverse up) in
          subst (λ (x : ChannelId). is_there rows x ≡ true) (sym (get_or-reverse up k d inside)) (way_there rows 33 id lead (length up - 1 - k) d (omega arith));
    }

pub way_found : {X : Type 0} (items : X → List ChannelId) (found : Option X) (rows : List Row) (id : ChannelId) → (is_there rows id ≡ true → Contains (upward rows 33 id) the_root) → MatchOption found (row_of rows id ≡ None) (λ x. items x ≡ path rows id) → is_some found ≡ is_there rows id → IfSome found (λ x. IsWay rows id (items x))
way_found items None rows id lead value there = tt
way_found items (Some x) rows id lead value there = subst (IsWay rows id) (sym value) (path_leads rows id (lead (sym there)))
