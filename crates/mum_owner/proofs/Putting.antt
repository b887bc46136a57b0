-- What the bell of one worker took, over each change of the bells.
use Rattle.mum_owner.proofs.Common.{◌≡◌, ◌∙◌, ℕ, zero, suc, ◌<◌, Bool, true, false, cond, List, [], ◌∷◌, ◌++◌, length, Option, Some, None, refl, ap, sym, subst, arith, ◌==◌, filter, slice_get, MatchBool, option_to_list, cons_option, filter_map, eq-eqb, eqb-true, append-nil, filter_map-append, mod-lt, Rung, SideFacts, is_of_worker, puts_at, OffersOne, TellsEach, at_worker, changed_at, with_found, worker_of, NoMore, with_full, with_put}
use Rattle.mum_owner.proofs.Telling.{same_length}

pub worker_within : (connection workers : ℕ) → 0 < workers → worker_of connection workers < workers
worker_within zero workers some = some
worker_within (suc before) workers some = mod-lt before some

module _ {L : Type 0} where
  -- ---- one place of a list

  found_later : (x : SideFacts L) (rest : List (SideFacts L)) (place : ℕ) (change : SideFacts L → SideFacts L) (found : Option (SideFacts L))
      → with_found (x ∷ rest) (suc place) change found ≡ x ∷ with_found rest place change found
  found_later x rest place change None = refl
  found_later x rest place change (Some side) = refl

  pub changed_later : (x : SideFacts L) (rest : List (SideFacts L)) (place : ℕ) (change : SideFacts L → SideFacts L) → changed_at (suc place) change (x ∷ rest) ≡ x ∷ changed_at place change rest
  changed_later x rest place change = found_later x rest place change (slice_get rest place)

  length_changed : (place : ℕ) (change : SideFacts L → SideFacts L) (bells : List (SideFacts L)) → length (changed_at place change bells) ≡ length bells
  length_changed place change [] = refl
  length_changed zero change (side ∷ bells) = refl
  length_changed (suc place) change (side ∷ bells) =
      ap (λ (l : List (SideFacts L)). length l) (changed_later side bells place change) ∙ ap suc (length_changed place change bells)

  pub put_here : (place : ℕ) (item : Rung L) (bells : List (SideFacts L)) → place < length bells → puts_at place (changed_at place (with_put item) bells) ≡ puts_at place bells ++ item ∷ []
  put_here place item [] within = absurd (omega arith)
  put_here zero item (side ∷ bells) within = refl
  put_here (suc place) item (side ∷ bells) within =
      ap (λ (l : List (SideFacts L)). puts_at (suc place) l) (changed_later side bells place (with_put item)) ∙ put_here place item bells (omega arith)

  changed_elsewhere : (place other : ℕ) (change : SideFacts L → SideFacts L) (bells : List (SideFacts L)) → (other ≡ place → ⊥) → puts_at place (changed_at other change bells) ≡ puts_at place bells
  changed_elsewhere place other change [] apart = refl
  changed_elsewhere zero zero change (side ∷ bells) apart = absurd (apart refl)
  changed_elsewhere zero (suc other) change (side ∷ bells) apart = ap (λ (l : List (SideFacts L)). puts_at zero l) (changed_later side bells other change)
  changed_elsewhere (suc place) zero change (side ∷ bells) apart = refl
  changed_elsewhere (suc place) (suc other) change (side ∷ bells) apart =
      ap (λ (l : List (SideFacts L)). puts_at (suc place) l) (changed_later side bells other change)
      ∙ changed_elsewhere place other change bells (λ same. apart (ap suc same))

  pub full_anywhere : (place other : ℕ) (bells : List (SideFacts L)) → puts_at place (changed_at other with_full bells) ≡ puts_at place bells
  full_anywhere place other [] = refl
  full_anywhere zero zero (side ∷ bells) = refl
  full_anywhere zero (suc other) (side ∷ bells) = ap (λ (l : List (SideFacts L)). puts_at zero l) (changed_later side bells other with_full)
  full_anywhere (suc place) zero (side ∷ bells) = refl
  full_anywhere (suc place) (suc other) (side ∷ bells) =
      ap (λ (l : List (SideFacts L)). puts_at (suc place) l) (changed_later side bells other with_full) ∙ full_anywhere place other bells

  -- ---- the items of one kind

  module _ {X : Type 0} (number : X → ℕ) (item : X → Rung L) (found : Rung L → Option X)
      (own : (x : X) → found (item x) ≡ Some x) (last : found NoMore ≡ None) where
    -- those in the bell of a worker
    abbrev pub taken : ℕ → List (SideFacts L) → List X
    taken place bells = filter_map found (puts_at place bells)

    -- what is kept for it
    abbrev pub waiting : ℕ → ℕ → Option X → List X
    waiting place workers kept = filter (λ x. is_of_worker place workers (number x)) (option_to_list kept)

    one_more : (put : Rung L) (x : X) (puts : List (Rung L)) → found put ≡ Some x → filter_map found (puts ++ put ∷ []) ≡ filter_map found puts ++ x ∷ []
    one_more put x puts is =
        filter_map-append found puts (put ∷ []) ∙ ap (λ (o : Option X). filter_map found puts ++ cons_option o []) is

    none_more : (put : Rung L) (puts : List (Rung L)) → found put ≡ None → filter_map found (puts ++ put ∷ []) ≡ filter_map found puts
    none_more put puts is =
        filter_map-append found puts (put ∷ []) ∙ ap (λ (o : Option X). filter_map found puts ++ cons_option o []) is ∙ append-nil (filter_map found puts)

    -- an item of this kind was put into the bell of its worker, and is kept no more
    put_so : (b : Bool) (place : ℕ) (one : X) (bells : List (SideFacts L)) → 0 < length bells → is_of_worker place (length bells) (number one) ≡ b
        → taken place (at_worker (number one) (with_put (item one)) bells) ≡ taken place bells ++ cond b (one ∷ []) []
    put_so true place one bells some is =
        let same : worker_of (number one) (length bells) ≡ place = eqb-true (worker_of (number one) (length bells)) place is in
        let within : place < length bells = subst (λ (n : ℕ). n < length bells) same (worker_within (number one) (length bells) some) in
        ap (λ (n : ℕ). taken place (changed_at n (with_put (item one)) bells)) same
        ∙ ap (λ (l : List (Rung L)). filter_map found l) (put_here place (item one) bells within) ∙ one_more (item one) one (puts_at place bells) (own one)
    put_so false place one bells some is =
        let apart : worker_of (number one) (length bells) ≡ place → ⊥ =
        λ same. let yes_so : (worker_of (number one) (length bells) == place) ≡ true = eq-eqb (worker_of (number one) (length bells)) place same in cc in
        ap (λ (l : List (Rung L)). filter_map found l) (changed_elsewhere place (worker_of (number one) (length bells)) (with_put (item one)) bells apart)
        ∙ sym (append-nil (taken place bells))

    -- an item of this kind was offered, where one is kept: what its worker took and what is kept for it are the same
    pub own_offered : (place : ℕ) (bells : List (SideFacts L)) (kept : Option X) (took : Bool) (after : List (SideFacts L)) (left : Option X) → 0 < length bells
        → OffersOne number item bells kept took after left
        → taken place after ++ waiting place (length bells) left ≡ taken place bells ++ waiting place (length bells) kept
    own_offered place bells None took after left some offers =
        ap (λ (l : List (SideFacts L)). taken place l ++ waiting place (length bells) left) offers.1 ∙ ap (λ (o : Option X). taken place bells ++ waiting place (length bells) o) offers.2
    own_offered place bells (Some one) true after left some offers =
        ap (λ (o : Option X). taken place after ++ waiting place (length bells) o) offers.1 ∙ append-nil (taken place after)
        ∙ ap (λ (l : List (SideFacts L)). taken place l) offers.0 ∙ put_so (is_of_worker place (length bells) (number one)) place one bells some refl
    own_offered place bells (Some one) false after left some offers =
        ap (λ (o : Option X). taken place after ++ waiting place (length bells) o) offers.1
        ∙ ap (λ (l : List (SideFacts L)). taken place l ++ waiting place (length bells) (Some one)) offers.0
        ∙ ap (λ (l : List (Rung L)). filter_map found l ++ waiting place (length bells) (Some one)) (full_anywhere place (worker_of (number one) (length bells)) bells)

    put_at_other : (place other : ℕ) (put : Rung L) (bells : List (SideFacts L)) → found put ≡ None → taken place (changed_at other (with_put put) bells) ≡ taken place bells
    put_at_other place other put [] is = refl
    put_at_other zero zero put (side ∷ bells) is = none_more put side.put is
    put_at_other zero (suc other) put (side ∷ bells) is = ap (λ (l : List (SideFacts L)). taken zero l) (changed_later side bells other (with_put put))
    put_at_other (suc place) zero put (side ∷ bells) is = refl
    put_at_other (suc place) (suc other) put (side ∷ bells) is =
        ap (λ (l : List (SideFacts L)). taken (suc place) l) (changed_later side bells other (with_put put)) ∙ put_at_other place other put bells is

    -- an item of another kind was offered
    pub other_offered : {Y : Type 0} (numbered : Y → ℕ) (other : Y → Rung L) → ((y : Y) → found (other y) ≡ None) → (place : ℕ) (bells : List (SideFacts L)) (kept : Option Y) (took : Bool)
        (after : List (SideFacts L)) (left : Option Y) → OffersOne numbered other bells kept took after left → taken place after ≡ taken place bells
    other_offered numbered other none place bells None took after left offers = ap (λ (l : List (SideFacts L)). taken place l) offers.1
    other_offered numbered other none place bells (Some one) true after left offers =
        ap (λ (l : List (SideFacts L)). taken place l) offers.0 ∙ put_at_other place (worker_of (numbered one) (length bells)) (other one) bells (none one)
    other_offered numbered other none place bells (Some one) false after left offers =
        ap (λ (l : List (SideFacts L)). taken place l) offers.0
        ∙ ap (λ (l : List (Rung L)). filter_map found l) (full_anywhere place (worker_of (numbered one) (length bells)) bells)

    told_by : (told : Bool) (side : SideFacts L) (took : Bool) (after : SideFacts L)
        → MatchBool told ((took ≡ false) × (after ≡ side)) (MatchBool took (after ≡ record (with_put NoMore side) { is_told = true }) (after ≡ with_full side))
        → filter_map found after.put ≡ filter_map found side.put
    told_by true side took after tells = ap (λ (s : SideFacts L). filter_map found s.put) tells.1
    told_by false side true after tells = ap (λ (s : SideFacts L). filter_map found s.put) tells ∙ none_more NoMore side.put last
    told_by false side false after tells = ap (λ (s : SideFacts L). filter_map found s.put) tells

    told_each : (place : ℕ) (bells : List (SideFacts L)) (took : Bool) (after : List (SideFacts L)) → TellsEach bells took after → taken place after ≡ taken place bells
    told_each place [] took [] tells = refl
    told_each place [] took (side ∷ after) tells = absurd tells
    told_each place (side ∷ bells) took [] tells = absurd tells
    told_each zero (side ∷ bells) took (changed ∷ after) tells = told_by side.is_told side tells.0 changed tells.2
    told_each (suc place) (side ∷ bells) took (changed ∷ after) tells = told_each place bells tells.1 after tells.3

    -- the bells were notified that no more connections come, or were not
    pub none_told : (ending : Bool) (place : ℕ) (bells : List (SideFacts L)) (took : Bool) (after : List (SideFacts L)) → MatchBool ending (TellsEach bells took after) ((took ≡ false) × (after ≡ bells)) → taken place after ≡ taken place bells
    none_told true place bells took after tells = told_each place bells took after tells
    none_told false place bells took after tells = ap (λ (l : List (SideFacts L)). taken place l) tells.1

  -- ---- how many bells there are

  pub many_offered : {X : Type 0} (number : X → ℕ) (item : X → Rung L) (bells : List (SideFacts L)) (kept : Option X) (took : Bool) (after : List (SideFacts L)) (left : Option X)
      → OffersOne number item bells kept took after left → length after ≡ length bells
  many_offered number item bells None took after left offers = ap (λ (l : List (SideFacts L)). length l) offers.1
  many_offered number item bells (Some one) true after left offers =
      ap (λ (l : List (SideFacts L)). length l) offers.0 ∙ length_changed (worker_of (number one) (length bells)) (with_put (item one)) bells
  many_offered number item bells (Some one) false after left offers =
      ap (λ (l : List (SideFacts L)). length l) offers.0 ∙ length_changed (worker_of (number one) (length bells)) with_full bells

  pub many_told : (ending : Bool) (bells : List (SideFacts L)) (took : Bool) (after : List (SideFacts L)) → MatchBool ending (TellsEach bells took after) ((took ≡ false) × (after ≡ bells)) → length after ≡ length bells
  many_told true bells took after tells = same_length bells took after tells
  many_told false bells took after tells = ap (λ (l : List (SideFacts L)). length l) tells.1
