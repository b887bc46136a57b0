-- What leads from rows that rise to others that do: rows that are gone, and then rows that are new or otherwise.
use Rattle.mum_keeper.proofs.Common.{◌≡◌, suc, Bool, true, false, not, if◌then◌else◌, List, [], ◌∷◌, ◌++◌, filter, fold, refl, sym, ap, ◌∙◌, arith, ⊤, Each, each_from_all, each_so, AllPairs-tail, Rise, any_like, unmatched, with_row}

-- what an order of rows keeps, by which two rows have one key where neither is before the other
pub record IsOrder {A : Type 0} (before has_key : A → A → Bool) : Type 0 where
  pub itself : (a : A) → before a a ≡ false
  pub through : (a b c : A) → before a b ≡ true → before b c ≡ true → before a c ≡ true
  pub alike : (a b c : A) → before a b ≡ false → before b a ≡ false → before b c ≡ true → before a c ≡ true
  pub key : (a : A) → has_key a a ≡ true
  pub earlier : (a b : A) → before b a ≡ true → has_key a b ≡ false
  pub later : (a b : A) → before a b ≡ true → has_key a b ≡ false

-- the rows, without one that has the key of this one
abbrev pub without : {A : Type 0} → (A → A → Bool) → A → List A → List A
without has_key row rows = filter (λ other. not (has_key row other)) rows

-- ---- rows that rise

module _ {A : Type 0} (before : A → A → Bool) where
  abbrev pub IsAfter : A → A → Type 0
  IsAfter row later = before row later ≡ true

  -- each row is before those after it, row by row
  abbrev pub Rises : List A → Type 0
  Rises [] = ⊤
  Rises (row ∷ rows) = Each (IsAfter row) rows × Rises rows

  pub rises : (rows : List A) → Rise before rows → Rises rows
  rises [] rise = tt
  rises (row ∷ rows) rise = (
    each_from_all (IsAfter row) rows (λ k d within. rise 0 (suc k) d (omega arith) (omega arith)),
    rises rows (AllPairs-tail (IsAfter) row rows rise),
  )

  -- ---- unmatched rows are some of the rows

  some_of : (P : A → Type 0) (first second like : Bool) (row : A) (alone behind both : List A) → P row → Each P alone → Each P behind → Each P both
      → Each P (if first then row ∷ alone else if second then behind else (if like then [] else row ∷ []) ++ both)
  some_of P true second like row alone behind both one a b c = (one, a)
  some_of P false true like row alone behind both one a b c = b
  some_of P false false true row alone behind both one a b c = c
  some_of P false false false row alone behind both one a b c = (one, c)

  pub each_unmatched : (P : A → Type 0) (is_like : A → A → Bool) (rows others : List A) → Each P rows → Each P (unmatched before is_like rows others)
  unfolding unmatched
  each_unmatched P is_like [] others all = tt
  each_unmatched P is_like (row ∷ rows) [] (one, all) = (one, each_unmatched P is_like rows [] all)
  each_unmatched P is_like (row ∷ rows) (other ∷ others) (one, all) =
      some_of P (before row other) (before other row) (is_like row other) row (unmatched before is_like rows (other ∷ others)) (unmatched before is_like (row ∷ rows) others) (unmatched before is_like rows others)
      one (each_unmatched P is_like rows (other ∷ others) all) (each_unmatched P is_like (row ∷ rows) others (one, all)) (each_unmatched P is_like rows others all)

  -- ---- the rows that have one of their key among others

  unfoldable common : List A → List A → List A
  common [] others = []
  common (row ∷ rows) [] = []
  common (row ∷ rows) (other ∷ others) =
      if before row other then common rows (other ∷ others)
      else if before other row then common (row ∷ rows) others
      else row ∷ common rows others

  common_none : (rows : List A) → common rows [] ≡ []
  unfolding common
  common_none [] = refl
  common_none (row ∷ rows) = refl

  common_of : (P : A → Type 0) (first second : Bool) (row : A) (alone behind both : List A) → P row → Each P alone → Each P behind → Each P both
      → Each P (if first then alone else if second then behind else row ∷ both)
  common_of P true second row alone behind both one a b c = a
  common_of P false true row alone behind both one a b c = b
  common_of P false false row alone behind both one a b c = (one, c)

  each_common : (P : A → Type 0) (rows others : List A) → Each P rows → Each P (common rows others)
  unfolding common
  each_common P [] others all = tt
  each_common P (row ∷ rows) [] all = tt
  each_common P (row ∷ rows) (other ∷ others) (one, all) =
      common_of P (before row other) (before other row) row (common rows (other ∷ others)) (common (row ∷ rows) others) (common rows others)
      one (each_common P rows (other ∷ others) all) (each_common P (row ∷ rows) others (one, all)) (each_common P rows others all)

module _ {A : Type 0} (before has_key : A → A → Bool) (order : IsOrder before has_key) where
  abbrev pub drops : List A → List A → List A
  drops rows gone = fold (λ so_far row. without has_key row so_far) rows gone

  abbrev pub adds : List A → List A → List A
  adds rows come = fold (λ so_far row. with_row before row so_far) rows come

  -- ---- without rows

  without_none : (row : A) (rows : List A) → Each (IsAfter before row) rows → without has_key row rows ≡ rows
  without_none row [] all = refl
  without_none row (other ∷ rows) (one, all) = rw (order.later row other one) (ap (λ l. other ∷ l) (without_none row rows all))

  without_first : (row : A) (rows : List A) → Each (IsAfter before row) rows → without has_key row (row ∷ rows) ≡ rows
  without_first row rows all = rw (order.key row) (without_none row rows all)

  without_behind : (row gone : A) (rows : List A) → before row gone ≡ true → without has_key gone (row ∷ rows) ≡ row ∷ without has_key gone rows
  without_behind row gone rows after = rw (order.earlier gone row after) refl

  drops_behind : (row : A) (rows gone : List A) → Each (IsAfter before row) gone → drops (row ∷ rows) gone ≡ row ∷ drops rows gone
  drops_behind row rows [] all = refl
  drops_behind row rows (one ∷ gone) (after, all) =
      ap (λ l. drops l gone) (without_behind row one rows after) ∙ drops_behind row (without has_key one rows) gone all

  dropped_by : (first second : Bool) (row : A) (rows alone behind both left_alone left_behind left_both : List A) → Each (IsAfter before row) rows → Each (IsAfter before row) both
      → drops rows alone ≡ left_alone → drops (row ∷ rows) behind ≡ left_behind → drops rows both ≡ left_both
      → drops (row ∷ rows) (if first then row ∷ alone else if second then behind else both) ≡ (if first then left_alone else if second then left_behind else row ∷ left_both)
  dropped_by true second row rows alone behind both la lb lc later after a b c = ap (λ l. drops l alone) (without_first row rows later) ∙ a
  dropped_by false true row rows alone behind both la lb lc later after a b c = b
  dropped_by false false row rows alone behind both la lb lc later after a b c = drops_behind row rows both after ∙ ap (λ l. row ∷ l) c

  dropped : (rows others : List A) → Rises before rows → drops rows (unmatched before any_like rows others) ≡ common before rows others
  unfolding unmatched common
  dropped [] others rise = refl
  dropped (row ∷ rows) [] (later, rise) =
      ap (λ l. drops l (unmatched before any_like rows [])) (without_first row rows later) ∙ (dropped rows [] rise ∙ common_none before rows)
  dropped (row ∷ rows) (other ∷ others) (later, rise) =
      dropped_by (before row other) (before other row) row rows (unmatched before any_like rows (other ∷ others)) (unmatched before any_like (row ∷ rows) others) (unmatched before any_like rows others)
      (common before rows (other ∷ others)) (common before (row ∷ rows) others) (common before rows others)
      later (each_unmatched before (IsAfter before row) any_like rows others later)
      (dropped rows (other ∷ others) rise) (dropped (row ∷ rows) others (later, rise)) (dropped rows others rise)

  -- ---- with rows

  with_behind : (row new : A) (rows : List A) → before row new ≡ true → with_row before new (row ∷ rows) ≡ row ∷ with_row before new rows
  with_behind row new rows after = rw after refl

  not_both : (one other : A) → before one other ≡ true → before other one ≡ true → ⊥
  not_both one other first second =
      let e : before one one ≡ true = order.through one other one first second in
      let n = order.itself one in absurd cc

  not_before : (flag : Bool) (one other : A) → before one other ≡ flag → before other one ≡ true → flag ≡ false
  not_before true one other is second = absurd (not_both one other is second)
  not_before false one other is second = refl

  with_first : (new : A) (rows : List A) → Each (IsAfter before new) rows → with_row before new rows ≡ new ∷ rows
  with_first new [] all = refl
  with_first new (row ∷ rows) (one, all) = rw (not_before (before row new) row new refl one) (rw one refl)

  with_instead : (new row : A) (rows : List A) → before row new ≡ false → before new row ≡ false → with_row before new (row ∷ rows) ≡ new ∷ rows
  with_instead new row rows first second = rw first (rw second refl)

  adds_behind : (row : A) (rows come : List A) → Each (IsAfter before row) come → adds (row ∷ rows) come ≡ row ∷ adds rows come
  adds_behind row rows [] all = refl
  adds_behind row rows (one ∷ come) (after, all) =
      ap (λ l. adds l come) (with_behind row one rows after) ∙ adds_behind row (with_row before one rows) come all

  module _ (same : A → A → Bool) (exact : (a b : A) → before a b ≡ false → before b a ≡ false → same a b ≡ true → a ≡ b) where
    added_by : (first second like : Bool) (row new : A) (news left_alone left_behind left_both come_alone come_behind come_both : List A)
        → before row new ≡ first → before new row ≡ second → same new row ≡ like
        → (before new row ≡ true → Each (IsAfter before new) left_behind) → Each (IsAfter before new) come_behind → Each (IsAfter before new) come_both
        → adds left_alone come_alone ≡ new ∷ news → adds left_behind come_behind ≡ news → adds left_both come_both ≡ news
        → adds (if first then left_alone else if second then left_behind else row ∷ left_both)
        (if second then new ∷ come_behind else if first then come_alone else (if like then [] else new ∷ []) ++ come_both) ≡ new ∷ news
    added_by true true like row new news la lb lc ca cb cc_ is_first is_second is_like after_l after_b after_c a b c = absurd (not_both row new is_first is_second)
    added_by true false like row new news la lb lc ca cb cc_ is_first is_second is_like after_l after_b after_c a b c = a
    added_by false true like row new news la lb lc ca cb cc_ is_first is_second is_like after_l after_b after_c a b c =
        ap (λ l. adds l cb) (with_first new lb (after_l is_second)) ∙ (adds_behind new lb cb after_b ∙ ap (λ l. new ∷ l) b)
    added_by false false true row new news la lb lc ca cb cc_ is_first is_second is_like after_l after_b after_c a b c =
        let e : new ≡ row = exact new row is_second is_first is_like in
        ap (λ r. adds (r ∷ lc) cc_) (sym e) ∙ (adds_behind new lc cc_ after_c ∙ ap (λ l. new ∷ l) c)
    added_by false false false row new news la lb lc ca cb cc_ is_first is_second is_like after_l after_b after_c a b c =
        ap (λ l. adds l cc_) (with_instead new row lc is_first is_second) ∙ (adds_behind new lc cc_ after_c ∙ ap (λ l. new ∷ l) c)

    added : (rows news : List A) → Rises before rows → Rises before news → adds (common before rows news) (unmatched before same news rows) ≡ news
    unfolding unmatched common
    added rows [] rise risen = ap (λ l. adds l []) (common_none before rows)
    added [] (new ∷ news) rise (after, risen) =
        adds_behind new [] (unmatched before same news []) (each_unmatched before (IsAfter before new) same news [] after) ∙ ap (λ l. new ∷ l) (added [] news rise risen)
    added (row ∷ rows) (new ∷ news) (later, rise) (after, risen) =
        added_by (before row new) (before new row) (same new row) row new news (common before rows (new ∷ news)) (common before (row ∷ rows) news) (common before rows news)
        (unmatched before same (new ∷ news) rows) (unmatched before same news (row ∷ rows)) (unmatched before same news rows) refl refl refl
        (λ is. each_common before (IsAfter before new) (row ∷ rows) news (is, each_so (IsAfter before row) (IsAfter before new) (λ z on. order.through new row z is on) rows later))
        (each_unmatched before (IsAfter before new) same news (row ∷ rows) after) (each_unmatched before (IsAfter before new) same news rows after)
        (added rows (new ∷ news) rise (after, risen)) (added (row ∷ rows) news (later, rise) risen) (added rows news rise risen)

  pub led_over : (same : A → A → Bool) → ((a b : A) → before a b ≡ false → before b a ≡ false → same a b ≡ true → a ≡ b)
      → (old new : List A) → Rise before old → Rise before new → adds (drops old (unmatched before any_like old new)) (unmatched before same new old) ≡ new
  led_over same exact old new rise risen =
      ap (λ l. adds l (unmatched before same new old)) (dropped old new (rises before old rise))
      ∙ added same exact old new (rises before old rise) (rises before new risen)
