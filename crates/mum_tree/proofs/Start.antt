-- The root alone is a tree.
use Rattle.mum_tree.proofs.Common.{◌≡◌, ℕ, ◌<◌, ◌≤◌, Bool, true, false, cond, eqb, List, [], ◌∷◌, ◌++◌, Some, None, codes, refl, arith, ap, sym, subst, ⊎_elim, IsTrue, Contains, is_some, eqb-true, cases_Bool, false≢true, All-cons, All-nil, ChannelId, ChannelInfo, Row, CHANNEL_LIMIT, number, is_there, upward, Pair, root_alone, new_row, plain_info, IsProper, LeadUp, IsUnderLasting}
use Rattle.mum_tree.proofs.{Joined.links_none, Upward.the_root, Upward.upward_root}

abbrev pub root_row : Row
root_row = new_row 0 the_root the_root (codes "Root") false

there_is_root : (id : ChannelId) → IsTrue (is_there root_alone.channels id) → 0 ≡ id.0
there_is_root id there =
    ⊎_elim
    (λ (e : eqb 0 id.0 ≡ true). eqb-true 0 id.0 e)
    (λ (e : eqb 0 id.0 ≡ false). absurd (false≢true (subst (λ (b : Bool). is_some (cond b (Some root_row) None) ≡ true) e there)))
    (cases_Bool (eqb 0 id.0))

root_leads : LeadUp root_alone.channels
root_leads id there =
    let same : the_root ≡ id = ap (λ n. record { 0 = n }) (there_is_root id there) in
    let up : upward root_alone.channels 33 the_root ≡ the_root ∷ [] = upward_root root_alone.channels 32 the_root root_row refl refl in
    let leads : Contains (upward root_alone.channels 33 the_root) the_root = subst (λ (us : List ChannelId). Contains us the_root) (sym up) (0, omega arith, refl) in
    subst (λ (x : ChannelId). Contains (upward root_alone.channels 33 x) the_root) same leads

pub root_proper : IsProper root_alone
root_proper = record {
  rise = λ i j d below within. absurd (omega arith);
  root = (root_row, refl, (refl, refl, refl, refl));
  lead = root_leads;
  apart = λ i j d below within. absurd (omega arith);
  lasting = All-cons (IsUnderLasting root_alone.channels) root_row [] (λ h. absurd (h refl)) (All-nil (IsUnderLasting root_alone.channels));
  places_fit = All-cons (λ (row : Row). row.place < 1024) root_row [] (omega arith) (All-nil (λ (row : Row). row.place < 1024));
  places_apart = λ i j d below within. absurd (omega arith);
  few = omega arith;
  known = All-cons (λ (row : Row). number row ≤ 0) root_row [] (omega arith) (All-nil (λ (row : Row). number row ≤ 0));
  joined = links_none root_alone.channels;
  limited = omega arith;
}

-- what was put together as the root alone is a tree
pub made_proper : (before rows : List Row) (links : List Pair) (name : List ℕ) (info : ChannelInfo) → before ≡ [] → rows ≡ before ++ record { place = 0; channel = record { id = the_root; parent = the_root; name = name; temporary = false; info = info } } ∷ [] → name ≡ codes "Root" → info ≡ plain_info → links ≡ [] → IsProper (record { channels = rows; links = links; greatest = 0; limit = CHANNEL_LIMIT })
made_proper before rows links name info none all named plain unlinked = rw (all, none, named, plain, unlinked) root_proper
