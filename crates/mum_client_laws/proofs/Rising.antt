-- Channels in order of number: two such lists with the same members are equal.
use Rattle.mum_client_laws.proofs.Common.{◌≡◌, ◌<◌, ◌==◌, ◌||◌, ◌&&◌, Bool, true, false, cond, List, [], ◌∷◌, map, fold, refl, ap, sym, ◌∙◌, arith, subst, nat_lt, zero, suc, filter, both_ways, eq-eqb, eqb-true, ltb-true, lt-ltb, is_among, ChannelId, Rise, number, Row, IsBelowAll, Rises, is_lower, with_channel, same_channel, rises_with}

above_all : (id : ChannelId) (ids : List ChannelId) → IsBelowAll is_lower id ids → (one : ChannelId) → is_among ids one ≡ true → id.0 < one.0
above_all id [] below one among = cc
above_all id (x ∷ xs) below one among = step (x.0 == one.0) refl among (above_all id xs below.1 one)
  where
    step : (b : Bool) → (x.0 == one.0) ≡ b → (b || is_among xs one) ≡ true → (is_among xs one ≡ true → id.0 < one.0) → id.0 < one.0
    step true same on rest =
        let lower : id.0 < x.0 = ltb-true id.0 x.0 below.0 in
        let equal : x.0 ≡ one.0 = eqb-true x.0 one.0 same in omega arith
    step false other on rest = rest on

among_first : (x : ChannelId) (xs : List ChannelId) → is_among (x ∷ xs) x ≡ true
among_first x xs = ap (λ (b : Bool). b || is_among xs x) (eq-eqb x.0 x.0 refl)

-- a member of a rising list is its first, or above it
not_below : (x : ChannelId) (xs : List ChannelId) → IsBelowAll is_lower x xs → (one : ChannelId) → is_among (x ∷ xs) one ≡ true → one.0 < x.0 → ⊥
not_below x xs below one among less = step (x.0 == one.0) refl among
  where
    step : (b : Bool) → (x.0 == one.0) ≡ b → (b || is_among xs one) ≡ true → ⊥
    step true same on = let equal : x.0 ≡ one.0 = eqb-true x.0 one.0 same in omega arith
    step false other on = let above : x.0 < one.0 = above_all x xs below one on in omega arith

-- those after the first are the same
same_rest : (x : ChannelId) (xs ys : List ChannelId) → IsBelowAll is_lower x xs → IsBelowAll is_lower x ys
    → ((id : ChannelId) → is_among (x ∷ xs) id ≡ is_among (x ∷ ys) id) → (id : ChannelId) → is_among xs id ≡ is_among ys id
same_rest x xs ys below above same id = step (x.0 == id.0) refl (same id)
  where
    out : (zs : List ChannelId) → IsBelowAll is_lower x zs → x.0 ≡ id.0 → (b : Bool) → is_among zs id ≡ b → b ≡ false
    out zs over equal true is = let less : x.0 < id.0 = above_all x zs over id is in absurd (omega arith)
    out zs over equal false is = refl

    step : (b : Bool) → (x.0 == id.0) ≡ b → (b || is_among xs id) ≡ (b || is_among ys id) → is_among xs id ≡ is_among ys id
    step true equal on =
        let is : x.0 ≡ id.0 = eqb-true x.0 id.0 equal in
        out xs below is (is_among xs id) refl ∙ sym (out ys above is (is_among ys id) refl)
    step false other on = on

same_first : (x y : ChannelId) (xs ys : List ChannelId) → IsBelowAll is_lower x xs → IsBelowAll is_lower y ys
    → ((id : ChannelId) → is_among (x ∷ xs) id ≡ is_among (y ∷ ys) id) → x ≡ y
same_first x y xs ys below above same =
    let up : x.0 < y.0 → ⊥ = not_below y ys above x (sym (same x) ∙ among_first x xs) in
    let down : y.0 < x.0 → ⊥ = not_below x xs below y (same y ∙ among_first y ys) in
    same_channel x y (step (nat_lt x.0 y.0) (nat_lt y.0 x.0) refl refl up down)
  where
    step : (b c : Bool) → nat_lt x.0 y.0 ≡ b → nat_lt y.0 x.0 ≡ c → (x.0 < y.0 → ⊥) → (y.0 < x.0 → ⊥) → x.0 ≡ y.0
    step true c less more up down = absurd (up (ltb-true x.0 y.0 less))
    step false true less more up down = absurd (down (ltb-true y.0 x.0 more))
    step false false less more up down = omega arith

pub rising_same : (xs ys : List ChannelId) → Rises is_lower xs → Rises is_lower ys → ((id : ChannelId) → is_among xs id ≡ is_among ys id) → xs ≡ ys
rising_same [] [] rise grow same = refl
rising_same [] (y ∷ ys) rise grow same = absurd (both_ways (is_among (y ∷ ys) y) (sym (same y)) (among_first y ys))
rising_same (x ∷ xs) [] rise grow same = absurd (both_ways (is_among (x ∷ xs) x) (same x) (among_first x xs))
rising_same (x ∷ xs) (y ∷ ys) rise grow same =
    let first : x ≡ y = same_first x y xs ys rise.0 grow.0 same in
    let over : IsBelowAll is_lower x ys = subst (λ (id : ChannelId). IsBelowAll is_lower id ys) (sym first) grow.0 in
    let alike : (id : ChannelId) → is_among (x ∷ xs) id ≡ is_among (x ∷ ys) id =
    λ id. same id ∙ ap (λ (one : ChannelId). is_among (one ∷ ys) id) (sym first) in
    ap (λ (one : ChannelId). one ∷ xs) first ∙ ap (λ (rest : List ChannelId). y ∷ rest) (rising_same xs ys rise.1 grow.1 (same_rest x xs ys rise.0 over alike))

-- ---- lists that rise

below_rows : (row : Row) (rows : List Row) → Rise (row ∷ rows) → IsBelowAll is_lower row.channel.id (map (λ (one : Row). one.channel.id) rows)
below_rows row [] rise = tt
below_rows row (next ∷ rows) rise = (lt-ltb (number row) (number next) (rise 0 1 row (omega arith) (omega arith)), below_rows row rows later)
  where
    later : Rise (row ∷ rows)
    later zero zero d less within = absurd (omega arith)
    later zero (suc j) d less within = rise 0 (suc (suc j)) d (omega arith) (omega arith)
    later (suc i) zero d less within = absurd (omega arith)
    later (suc i) (suc j) d less within = rise (suc (suc i)) (suc (suc j)) d (omega arith) (omega arith)

pub rows_rise : (rows : List Row) → Rise rows → Rises is_lower (map (λ (row : Row). row.channel.id) rows)
rows_rise [] rise = tt
rows_rise (row ∷ rows) rise = (below_rows row rows rise, rows_rise rows (λ i j d less within. rise (suc i) (suc j) d (omega arith) (omega arith)))

pub ordered_rise : (ids sorted : List ChannelId) → Rises is_lower sorted → Rises is_lower (fold (λ ordered id. with_channel id ordered) sorted ids)
ordered_rise [] sorted rise = rise
ordered_rise (id ∷ ids) sorted rise = ordered_rise ids (with_channel id sorted) (rises_with id sorted rise)

-- ---- who is among the kept ones

pub among_kept : (kept : ChannelId → Bool) (ids : List ChannelId) (id : ChannelId) → is_among (filter kept ids) id ≡ (is_among ids id && kept id)
among_kept kept [] id = refl
among_kept kept (x ∷ xs) id = step (x.0 == id.0) (kept x) refl refl (among_kept kept xs id)
  where
    on_and : (b : Bool) → (b && true) ≡ b
    on_and true = refl
    on_and false = refl

    step : (s k : Bool) → (x.0 == id.0) ≡ s → kept x ≡ k → is_among (filter kept xs) id ≡ (is_among xs id && kept id)
        → is_among (cond k (x ∷ filter kept xs) (filter kept xs)) id ≡ ((s || is_among xs id) && kept id)
    step true true same stays rest =
        let own : kept id ≡ true = ap kept (sym (same_channel x id (eqb-true x.0 id.0 same))) ∙ stays in
        ap (λ (b : Bool). b || is_among (filter kept xs) id) same ∙ sym own
    step true false same stays rest =
        let own : kept id ≡ false = ap kept (sym (same_channel x id (eqb-true x.0 id.0 same))) ∙ stays in
        rest ∙ ap (λ (b : Bool). is_among xs id && b) own ∙ none (is_among xs id) ∙ sym own
      where
        none : (a : Bool) → (a && false) ≡ false
        none true = refl
        none false = refl
    step false true same stays rest = ap (λ (b : Bool). b || is_among (filter kept xs) id) same ∙ rest
    step false false same stays rest = rest
