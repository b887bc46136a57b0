-- What is known of a publisher once an edit is appended.
use Rattle.mum_control.proofs.Common.{◌≡◌, ◌∙◌, ◌+◌, List, [], ◌∷◌, ◌++◌, length, ap, subst, append-nil, append_assoc, length-append, arith, IsTrue, Edit, applied, fits, StateValue, LeadsTo, IsLast, all_published, appended, latest, state_of, PublisherFacts, with_edit}

-- two lists of one element more that are equal end with the same one
ends_so : (xs ys : List Edit) (x y : Edit) → xs ++ x ∷ [] ≡ ys ++ y ∷ [] → x ≡ y
ends_so [] [] x y same = cc
ends_so [] (first ∷ []) x y same = cc
ends_so [] (first ∷ second ∷ ys) x y same = cc
ends_so (first ∷ []) [] x y same = cc
ends_so (first ∷ second ∷ xs) [] x y same = cc
ends_so (first ∷ xs) (other ∷ ys) x y same = let rest : xs ++ x ∷ [] ≡ ys ++ y ∷ [] = cc in ends_so xs ys x y rest

-- the edit that was appended is the last one
pub last_is : (publisher : PublisherFacts) (edit found : Edit) → IsLast found (appended (with_edit publisher edit)) → edit ≡ found
last_is publisher edit found last =
    ends_so (appended publisher) last.0 edit found (append_assoc publisher.published publisher.pending (edit ∷ []) ∙ last.1)

-- so it leads to the next state
pub leads : (publisher : PublisherFacts) (state next : StateValue) (edit found : Edit) → IsTrue (fits state edit) → next ≡ applied state edit
    → IsLast found (appended (with_edit publisher edit)) → LeadsTo next state found
leads publisher state next edit found fit is last =
    subst (λ (e : Edit). LeadsTo next state e) (last_is publisher edit found last) (record { fitting = fit; leading = is })

-- the number of appended edits is its revision
pub revision_more : (publisher : PublisherFacts) (edit : Edit) → length (appended (with_edit publisher edit)) ≡ length (appended publisher) + 1
revision_more publisher edit =
    omega (arith, length-append publisher.published (publisher.pending ++ edit ∷ []), length-append publisher.pending (edit ∷ []), length-append publisher.published publisher.pending)

-- a publish leads to no other state
pub latest_published : (publisher : PublisherFacts) → latest (all_published publisher) ≡ latest publisher
latest_published publisher = ap (state_of publisher.opening) (append-nil (appended publisher))
