-- Rows that were kept of a state that a pass saw.
use Rattle.mum_keeper.proofs.Common.{◌≡◌, ℕ, true, List, ap, subst, sym, ◌∙◌, Option, Some, None, Result, Ok, AllocError, eqb-true, true≢false, fold-append, IsPrefix, Edit, led_to, applied, IsProper, StateValue, Learnt, MayMeet, state_of, Opening, PassFacts, prefix_self, prefix_trans, kept, HavePoliciesOf, KeptChannel, KeptRows, kept_have, AreSeen, AreSeenAt, Looks, MayShare, is_count, policies_left, rows_left, KeepEnd, Found}
use Rattle.mum_keeper.specs.declared.keeper.KeepEnd.TheVariants as ends

-- the edits after those that a list begins with lead on from where these lead
leads_on : (state : StateValue) (edits all : List Edit) (front : IsPrefix edits all) → led_to state all ≡ led_to (led_to state edits) front.0
leads_on state edits all front = ap (led_to state) (sym front.1) ∙ fold-append applied state edits front.0

-- the policies are those of the state, where its policy count is the one that is known
pub shared_where_counted : (state : StateValue) (rows : KeptRows) (policies : Option ℕ) (count : ℕ) → is_count count policies ≡ true → count ≡ state.counts.policy
    → MayShare state rows policies → HavePoliciesOf state rows.channels
shared_where_counted state rows None count is counted may = absurd (true≢false (sym is))
shared_where_counted state rows (Some known) count is counted may = may (eqb-true known count is ∙ counted)

-- at each list that the look may meet
pub may_share : (pass : PassFacts) (rows : KeptRows) (policies : Option ℕ) (edits : List Edit) → AreSeenAt pass rows policies → MayMeet pass edits
    → MayShare (state_of pass.opening edits) rows policies
may_share pass rows None edits seen may = tt
may_share pass rows (Some count) edits seen may = λ same.
    let before : StateValue = state_of pass.opening seen.edits in
    let front : IsPrefix seen.edits edits = prefix_trans seen.edits pass.seen edits seen.begins may.seen in
    let later : state_of pass.opening edits ≡ led_to before front.0 = leads_on pass.opening.state seen.edits edits front in
    subst (λ (state : StateValue). HavePoliciesOf state rows.channels) (sym later)
    (subst (λ (list : List KeptChannel). HavePoliciesOf (led_to before front.0) list) (sym (ap (λ (r : KeptRows). r.channels) seen.are))
    (kept_have before front.0 seen.proper (sym seen.counted ∙ (same ∙ ap (λ (s : StateValue). s.counts.policy) later))))

-- what was seen is so where more was seen
pub seen_stays : (old new : PassFacts) (rows : KeptRows) (policies : Option ℕ) → new.opening ≡ old.opening → IsPrefix old.seen new.seen
    → AreSeenAt old rows policies → AreSeenAt new rows policies
seen_stays old new rows None opening longer seen = tt
seen_stays old new rows (Some count) opening longer seen = record {
  edits = seen.edits;
  begins = prefix_trans seen.edits old.seen new.seen seen.begins longer;
  proper = subst (λ (o : Opening). IsProper (state_of o seen.edits)) (sym opening) seen.proper;
  are = seen.are ∙ ap (λ (o : Opening). kept (state_of o seen.edits)) (sym opening);
  counted = seen.counted ∙ ap (λ (o : Opening). (state_of o seen.edits).counts.policy) (sym opening);
}

-- what was seen before a look is so after it
pub looked_seen : (old new : PassFacts) (rows : KeptRows) (policies : Option ℕ) (found : Result Found AllocError) → AreSeenAt old rows policies
    → Looks old found new → AreSeenAt new rows policies
looked_seen old new rows policies found seen looks =
    seen_stays old new rows policies (ap (λ (p : PassFacts). p.opening) looks.asked)
    (subst (λ (edits : List Edit). IsPrefix old.seen edits) (sym (ap (λ (p : PassFacts). p.seen) looks.asked)) looks.met.seen) seen

-- the rows that a look found
found_seen : (old new : PassFacts) (found : Found) → Looks old (Ok found) new → AreSeen new found.rows found.policies
found_seen old new found looks =
    let opening : new.opening ≡ old.opening = ap (λ (p : PassFacts). p.opening) looks.asked in
    let seen : new.seen ≡ looks.edits = ap (λ (p : PassFacts). p.seen) looks.asked in
    let state : state_of new.opening looks.edits ≡ state_of old.opening looks.edits = ap (λ (o : Opening). state_of o looks.edits) opening in
    record {
      edits = looks.edits;
      begins = subst (λ (edits : List Edit). IsPrefix looks.edits edits) (sym seen) (prefix_self looks.edits);
      proper = subst IsProper (sym state) looks.finds.proper;
      are = looks.finds.are ∙ sym (ap kept state);
      counted = looks.finds.counted ∙ sym (ap (λ (s : StateValue). s.counts.policy) state);
    }

left_by : (end : KeepEnd) (pass : PassFacts) (rows now : KeptRows) (before : Option ℕ) (count : ℕ) → AreSeenAt pass rows before → AreSeen pass now count
    → AreSeenAt pass (rows_left end rows now) (policies_left end before count)
left_by ends.Kept pass rows now before count seen found = found
left_by ends.Failed pass rows now before count seen found = seen
left_by ends.NoMemory pass rows now before count seen found = seen

-- after a look and the comparison after it
pub compared_seen : (old new : PassFacts) (rows left : KeptRows) (found : Found) (end : KeepEnd) (before after : Option ℕ) → AreSeenAt old rows before
    → Looks old (Ok found) new → left ≡ rows_left end rows found.rows → after ≡ policies_left end before found.policies → AreSeenAt new left after
compared_seen old new rows left found end before after seen looks is also =
    subst (λ (r : KeptRows). AreSeenAt new r after) (sym is)
    (subst (λ (p : Option ℕ). AreSeenAt new (rows_left end rows found.rows) p) (sym also)
    (left_by end new rows found.rows before found.policies (looked_seen old new rows before (Ok found) seen looks) (found_seen old new found looks)))

-- what is known, but not what was seen, changes where something is learnt
pub learnt_seen : (old new : PassFacts) (edits : List Edit) (rows : KeptRows) (policies : Option ℕ) → Learnt old edits new → AreSeenAt old rows policies
    → AreSeenAt new rows policies
learnt_seen old new edits rows policies learnt seen =
    seen_stays old new rows policies (ap (λ (p : PassFacts). p.opening) learnt.same)
    (subst (λ (p : PassFacts). IsPrefix old.seen p.seen) (sym learnt.same) (prefix_self old.seen)) seen
