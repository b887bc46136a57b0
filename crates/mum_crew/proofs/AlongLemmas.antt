-- Elements that make their steps one after the other, where they lie or from the front of a queue to its end.
use Rattle.mum_crew.proofs.Common.{◌≡◌, ℕ, zero, suc, ◌+◌, ◌<◌, ◌≤◌, Bool, true, false, if◌then◌else◌, List, [], ◌∷◌, ◌++◌, length, take, drop, filter, get_or, set, refl, sym, ap, subst, ◌∙◌, arith, append_assoc, append-nil, drop_more, drop-set-lt, take_more_set, filter-append, Along, EachAlong, SomeAlong}

-- one more of a list
take_on : {A : Type 0} (xs : List A) (k : ℕ) (x : A) (rest : List A) → drop k xs ≡ x ∷ rest → (take (suc k) xs ≡ take k xs ++ x ∷ []) × (drop (suc k) xs ≡ rest)
take_on [] zero x rest e = absurd (cc e)
take_on [] (suc k) x rest e = absurd (cc e)
take_on (y ∷ xs) zero x rest e = let heads : y ≡ x = cc e in let tails : xs ≡ rest = cc e in (ap (λ z. z ∷ []) heads, tails)
take_on (y ∷ xs) (suc k) x rest e = let next = take_on xs k x rest e in (ap (λ l. y ∷ l) next.0, next.1)

-- what is left of a list that is not at its end
some_left : {A : Type 0} (xs : List A) (k : ℕ) → k < length xs → (x : A) × (rest : List A) × (drop k xs ≡ x ∷ rest)
some_left [] k within = absurd (omega (arith, within))
some_left (x ∷ xs) zero within = (x, xs, refl)
some_left (x ∷ xs) (suc k) within = some_left xs k (omega (arith, within))

whole : {A : Type 0} (xs : List A) (k : ℕ) → k ≡ length xs → (take k xs ≡ xs) × (drop k xs ≡ [])
whole [] zero e = (refl, refl)
whole [] (suc k) e = (refl, refl)
whole (x ∷ xs) zero e = absurd (omega (arith, e))
whole (x ∷ xs) (suc k) e = let next = whole xs k (omega (arith, e)) in (ap (λ l. x ∷ l) next.0, next.1)

module _ {P C : Type 0} (step : P → C → P → C → Type 0) where
  along_on : (olds mids : List P) (c m after : C) (old new : P)
      → Along step olds c mids m → step old m new after
      → Along step (olds ++ old ∷ []) c (mids ++ new ∷ []) after
  along_on [] [] c m after old new along one = (after, subst (λ (x : C). step old x new after) along one, refl)
  along_on (o ∷ olds) (n ∷ mids) c m after old new along one = (along.0, along.1, along_on olds mids along.0 m after old new along.2 one)
  along_on [] (n ∷ mids) c m after old new along one = absurd along
  along_on (o ∷ olds) [] c m after old new along one = absurd along

  -- one more that makes its step where it lies
  pub along_more : (olds now : List P) (c m after : C) (k : ℕ) (old new : P)
      → k < length now → drop k now ≡ drop k olds → Along step (take k olds) c (take k now) m
      → old ≡ get_or now k old → step old m new after
      → Along step (take (k + 1) olds) c (take (k + 1) (set now k new)) after × (drop (k + 1) (set now k new) ≡ drop (k + 1) olds)
  along_more olds now c m after k old new within same along is one =
      let there : drop k olds ≡ old ∷ drop (k + 1) now = sym same ∙ (drop_more now k old within ∙ ap (λ x. x ∷ drop (k + 1) now) (sym is)) in
      let on = take_on olds k old (drop (k + 1) now) there in
      let next : k + 1 ≡ suc k = omega arith in
      let each = along_on (take k olds) (take k now) c m after old new along one in
      let mids = subst (λ (l : List P). Along step (take k olds ++ old ∷ []) c l after) (sym (take_more_set now k new within)) each in (
        subst (λ (l : List P). Along step l c (take (k + 1) (set now k new)) after) (sym (ap (λ n. take n olds) next ∙ on.0)) mids,
        drop-set-lt (k + 1) now k new (omega arith) ∙ sym (ap (λ n. drop n olds) next ∙ on.1),
      )

  module _ (stays : P → Bool) where
    pub starts : (olds : List P) (c : C) → SomeAlong step stays olds c 0 olds c
    starts olds c = record { stepped = []; along = refl; left = sym (append-nil olds) }

    pub ends : (olds : List P) (c after : C) (k : ℕ) (now : List P) → k ≡ length olds → SomeAlong step stays olds c k now after → EachAlong step stays olds c now after
    ends olds c after k now all s =
        let e = whole olds k all in
        record {
          stepped = s.stepped;
          along = subst (λ (l : List P). Along step l c s.stepped after) e.0 s.along;
          left = s.left ∙ ap (λ l. l ++ filter stays s.stepped) e.1;
        }

    pub goes_on : (olds : List P) (c m last : C) (k k' : ℕ) (now rest after : List P) (old new : P)
        → k < length olds → k' ≡ k + 1 → SomeAlong step stays olds c k now m → now ≡ old ∷ rest → step old m new last → after ≡ rest ++ filter stays (new ∷ [])
        → SomeAlong step stays olds c k' after last
    goes_on olds c m last k k' now rest after old new within next s is one put =
        let some = some_left olds k within in
        let split : some.0 ∷ (some.1 ++ filter stays s.stepped) ≡ old ∷ rest = sym (s.left ∙ ap (λ l. l ++ filter stays s.stepped) some.2) ∙ is in
        let head : some.0 ≡ old = cc split in
        let tail : some.1 ++ filter stays s.stepped ≡ rest = cc split in
        let on = take_on olds k some.0 some.1 some.2 in
        let k_is : k' ≡ suc k = omega (arith, next) in
        let each = along_on (take k olds) s.stepped c m last old new s.along one in
        rw k_is (record {
          stepped = s.stepped ++ new ∷ [];
          along = subst (λ (l : List P). Along step l c (s.stepped ++ new ∷ []) last) (sym (on.0 ∙ ap (λ x. take k olds ++ x ∷ []) head)) each;
          left = (put ∙ ap (λ l. l ++ filter stays (new ∷ [])) (sym tail))
              ∙ (append_assoc some.1 (filter stays s.stepped) (filter stays (new ∷ []))
              ∙ (ap (λ l. some.1 ++ l) (sym (filter-append stays s.stepped (new ∷ []))) ∙ ap (λ l. l ++ filter stays (s.stepped ++ new ∷ [])) (sym on.1)));
        })

-- as many have made their steps as there are
pub along_long : {P C : Type 0} (step : P → C → P → C → Type 0) (olds news : List P) (before after : C) → Along step olds before news after → length olds ≡ length news
along_long step [] [] before after same = refl
along_long step [] (new ∷ news) before after along = absurd along
along_long step (old ∷ olds) [] before after along = absurd along
along_long step (old ∷ olds) (new ∷ news) before after (between, one, rest) =
    let others : length olds ≡ length news = along_long step olds news between after rest in
    omega (arith, others)

fewer_if : {X : Type 0} (b : Bool) (x : X) (kept : List X) (n : ℕ) → length kept ≤ n → length (if b then x ∷ kept else kept) ≤ suc n
fewer_if true x kept n e = omega (arith, e)
fewer_if false x kept n e = omega (arith, e)

-- those that stay are no more
pub fewer : {X : Type 0} (stays : X → Bool) (xs : List X) → length (filter stays xs) ≤ length xs
fewer stays [] = omega arith
fewer stays (x ∷ xs) = fewer_if (stays x) x (filter stays xs) (length xs) (fewer stays xs)
