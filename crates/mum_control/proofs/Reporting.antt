-- Notices that wait report edits that were accepted.
use Rattle.mum_control.proofs.Common.{◌≡◌, ◌≢◌, ◌∙◌, List, [], ◌∷◌, ◌++◌, Option, Some, None, refl, ap, sym, subst, append-nil, append_assoc, MatchOption, ForSome, AllByRecursion, Contains, All-append, All-weaker, All-contains_itself, recursion_from_All, IsPrefix, Notice, notices, Reports, prefix_self, prefix_trans, all_published, appended, latest, note_published, state_of, NoteFacts, Opening, PublisherFacts, applied, StateValue, Edit, with_edit, due_behind}

-- what is reported of a list is reported of a longer one
reports_on : (opening : Opening) (edits more : List Edit) → IsPrefix edits more → (notice : Notice) → Reports opening edits notice → Reports opening more notice
reports_on opening edits more longer notice reports = record {
  before = reports.before;
  edit = reports.edit;
  accepted = prefix_trans (reports.before ++ reports.edit ∷ []) edits more reports.accepted longer;
  noticed = reports.noticed;
}

-- all edits with one more
one_more : (publisher more : PublisherFacts) (edit : Edit) → more ≡ with_edit publisher edit → appended publisher ++ edit ∷ [] ≡ appended more
one_more publisher more edit appends =
    append_assoc publisher.published publisher.pending (edit ∷ []) ∙ sym (ap (λ (p : PublisherFacts). appended p) appends)

-- the notices of the edit that was appended report it
module _ (opening : Opening) (publisher more : PublisherFacts) (edit : Edit) (of : publisher.opening ≡ opening) (appends : more ≡ with_edit publisher edit)
    (leads : latest more ≡ applied (latest publisher) edit) where
  before_is : latest publisher ≡ state_of opening (appended publisher)
  before_is = ap (λ (o : Opening). state_of o (appended publisher)) of

  after_is : applied (latest publisher) edit ≡ state_of opening (appended publisher ++ edit ∷ [])
  after_is =
      sym leads
      ∙ (ap (λ (o : Opening). state_of o (appended more)) (ap (λ (p : PublisherFacts). p.opening) appends ∙ of)
      ∙ ap (λ (l : List Edit). state_of opening l) (sym (one_more publisher more edit appends)))

  reported : (notice : Notice) → Contains (notices (latest publisher) edit (applied (latest publisher) edit)) notice → Reports opening (appended more) notice
  reported notice there = record {
    before = appended publisher;
    edit = edit;
    accepted = subst (λ (l : List Edit). IsPrefix l (appended more)) (sym (one_more publisher more edit appends)) (prefix_self (appended more));
    noticed = subst (λ (s : StateValue). Contains (notices (state_of opening (appended publisher)) edit s) notice) after_is
        (subst (λ (s : StateValue). Contains (notices s edit (applied (latest publisher) edit)) notice) before_is there);
  }

  pub reports_more : (pending waiting : List Notice) → AllByRecursion (Reports opening (appended publisher)) pending
      → waiting ≡ pending ++ notices (latest publisher) edit (applied (latest publisher) edit) → AllByRecursion (Reports opening (appended more)) waiting
  reports_more pending waiting reports waits =
      let told = notices (latest publisher) edit (applied (latest publisher) edit) in
      let longer : IsPrefix (appended publisher) (appended more) = (edit ∷ [], one_more publisher more edit appends) in
      subst (AllByRecursion (Reports opening (appended more))) (sym waits)
      (All-append (Reports opening (appended more)) pending told
      (All-weaker (Reports opening (appended publisher)) (Reports opening (appended more)) (reports_on opening (appended publisher) (appended more) longer) pending reports)
      (All-weaker (Contains told) (Reports opening (appended more)) reported told (recursion_from_All (Contains told) told (All-contains_itself told))))

-- all edits are the same once they are published
pub reports_published : (opening : Opening) (publisher : PublisherFacts) (pending : List Notice) → AllByRecursion (Reports opening (appended publisher)) pending
    → AllByRecursion (Reports opening (appended (all_published publisher))) pending
reports_published opening publisher pending reports =
    subst (λ (l : List Edit). AllByRecursion (Reports opening l) pending) (sym (append-nil (appended publisher))) reports

-- ---- what is posted

-- the note of what is published is of the same ledger
pub shown_named : (found : Option NoteFacts) (opening : Opening) (publisher : PublisherFacts) → publisher.opening ≡ opening
    → MatchOption found (publisher.pending ≢ []) (λ note. (publisher.pending ≡ []) × (note ≡ note_published publisher))
    → ForSome found (λ note. note.book ≡ opening.book)
shown_named None opening publisher of shown = λ n is. cc
shown_named (Some note) opening publisher of shown = λ n is.
    let same : note ≡ n = cc in
    ap (λ (m : NoteFacts). m.book) (sym same ∙ shown.1) ∙ ap (λ (o : Opening). o.book) of

-- nothing is to be posted while an edit is not published
pub none_due : (unpublished : List Edit) (pending : List Notice) → unpublished ≢ [] → due_behind unpublished pending ≡ []
none_due [] pending some = absurd (some refl)
none_due (edit ∷ unpublished) pending some = refl

-- and else all that waits
pub all_due : (unpublished : List Edit) (pending : List Notice) → unpublished ≡ [] → due_behind unpublished pending ≡ pending
all_due [] pending none = refl
all_due (edit ∷ unpublished) pending none = absurd (cc none)

-- what is reported of all edits is reported of those that are published, where these are all
pub reports_shown : (opening : Opening) (publisher : PublisherFacts) (notice : Notice) (note : NoteFacts) → publisher.pending ≡ [] → note ≡ note_published publisher
    → Reports opening (appended publisher) notice → Reports opening note.edits notice
reports_shown opening publisher notice note none is reports =
    subst (λ (l : List Edit). Reports opening l notice)
    (ap (λ (l : List Edit). publisher.published ++ l) none ∙ (append-nil publisher.published ∙ sym (ap (λ (n : NoteFacts). n.edits) is))) reports
