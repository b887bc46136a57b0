-- A channel at its place among channels in order of number.
use Rattle.mum_notify.proofs.Common.{◌≡◌, ℕ, suc, ◌+◌, ◌==◌, Bool, true, false, not, cond, nat_lt, List, [], ◌∷◌, ◌++◌, fold, refl, sym, ap, ◌∙◌, arith, IsTrue, insert, false≢true, nat_tests, fold-append, ChannelId, IsBelowAll, Rises, IsBelowAll-through, one_more, in_order, is_lower, place_for, stands_at, with_channel}

-- the first that is not lower, and what comes of it
first_lower : (id x : ChannelId) (xs : List ChannelId) → nat_lt x.0 id.0 ≡ true → place_for id (x ∷ xs) ≡ suc (place_for id xs)
first_lower id x xs low = ap (λ (b : Bool). cond (not (not b)) (1 + place_for id xs) 0) low ∙ one_more (place_for id xs)

first_not_lower : (id x : ChannelId) (xs : List ChannelId) → nat_lt x.0 id.0 ≡ false → place_for id (x ∷ xs) ≡ 0
first_not_lower id x xs low = ap (λ (b : Bool). cond (not (not b)) (1 + place_for id xs) 0) low

with_lower : (id x : ChannelId) (xs : List ChannelId) (b : Bool) → nat_lt x.0 id.0 ≡ b → with_channel id (x ∷ xs) ≡ cond b (x ∷ with_channel id xs) (cond (x.0 == id.0) (x ∷ xs) (id ∷ x ∷ xs))
with_lower id x xs b low = ap (λ (t : Bool). cond t (x ∷ with_channel id xs) (cond (x.0 == id.0) (x ∷ xs) (id ∷ x ∷ xs))) low

pub placed_there : (id : ChannelId) (ids : List ChannelId) → stands_at ids (place_for id ids) id ≡ true → ids ≡ with_channel id ids
placed_there id [] stands = absurd (false≢true stands)
placed_there id (x ∷ xs) stands = step (nat_lt x.0 id.0) refl (placed_there id xs)
  where
    step : (b : Bool) → nat_lt x.0 id.0 ≡ b → (stands_at xs (place_for id xs) id ≡ true → xs ≡ with_channel id xs) → x ∷ xs ≡ with_channel id (x ∷ xs)
    step true low rest =
        let later : stands_at xs (place_for id xs) id ≡ true = ap (λ n. stands_at (x ∷ xs) n id) (sym (first_lower id x xs low)) ∙ stands in
        ap (λ (ys : List ChannelId). x ∷ ys) (rest later) ∙ sym (with_lower id x xs true low)
    step false low rest =
        let here : (x.0 == id.0) ≡ true = ap (λ n. stands_at (x ∷ xs) n id) (sym (first_not_lower id x xs low)) ∙ stands in
        sym (with_lower id x xs false low ∙ ap (λ (b : Bool). cond b (x ∷ xs) (id ∷ x ∷ xs)) here)

pub placed_in : (id : ChannelId) (ids : List ChannelId) → stands_at ids (place_for id ids) id ≡ false → insert ids (place_for id ids) id ≡ with_channel id ids
placed_in id [] stands = refl
placed_in id (x ∷ xs) stands = step (nat_lt x.0 id.0) refl (placed_in id xs)
  where
    step : (b : Bool) → nat_lt x.0 id.0 ≡ b → (stands_at xs (place_for id xs) id ≡ false → insert xs (place_for id xs) id ≡ with_channel id xs) → insert (x ∷ xs) (place_for id (x ∷ xs)) id ≡ with_channel id (x ∷ xs)
    step true low rest =
        let later : stands_at xs (place_for id xs) id ≡ false = ap (λ n. stands_at (x ∷ xs) n id) (sym (first_lower id x xs low)) ∙ stands in
        ap (λ n. insert (x ∷ xs) n id) (first_lower id x xs low) ∙ ap (λ (ys : List ChannelId). x ∷ ys) (rest later) ∙ sym (with_lower id x xs true low)
    step false low rest =
        let here : (x.0 == id.0) ≡ false = ap (λ n. stands_at (x ∷ xs) n id) (sym (first_not_lower id x xs low)) ∙ stands in
        ap (λ n. insert (x ∷ xs) n id) (first_not_lower id x xs low) ∙ sym (with_lower id x xs false low ∙ ap (λ (b : Bool). cond b (x ∷ xs) (id ∷ x ∷ xs)) here)

-- ---- the order is kept

pub lower_down : (id x y : ChannelId) → IsTrue (is_lower x y) → is_lower y id ≡ true → is_lower x id ≡ true
lower_down id x y lower low = grind (arith, nat_tests)

lower_through : (a b c : ChannelId) → IsTrue (is_lower a b) → IsTrue (is_lower b c) → IsTrue (is_lower a c)
lower_through a b c low high = grind (arith, nat_tests)

higher : (id x : ChannelId) → is_lower x id ≡ false → (x.0 == id.0) ≡ false → IsTrue (is_lower id x)
higher id x low other = grind (arith, nat_tests)

below_with : (first id : ChannelId) (ids : List ChannelId) → IsTrue (is_lower first id) → IsBelowAll is_lower first ids → IsBelowAll is_lower first (with_channel id ids)
below_with first id [] lower all = (lower, tt)
below_with first id (x ∷ xs) lower all = step (nat_lt x.0 id.0) (x.0 == id.0) (below_with first id xs lower all.1)
  where
    step : (b s : Bool) → IsBelowAll is_lower first (with_channel id xs) → IsBelowAll is_lower first (cond b (x ∷ with_channel id xs) (cond s (x ∷ xs) (id ∷ x ∷ xs)))
    step true s rest = (all.0, rest)
    step false true rest = all
    step false false rest = (lower, all)

pub rises_with : (id : ChannelId) (ids : List ChannelId) → Rises is_lower ids → Rises is_lower (with_channel id ids)
rises_with id [] rise = (tt, tt)
rises_with id (x ∷ xs) rise = step (nat_lt x.0 id.0) (x.0 == id.0) refl refl (rises_with id xs rise.1)
  where
    step : (b s : Bool) → nat_lt x.0 id.0 ≡ b → (x.0 == id.0) ≡ s → Rises is_lower (with_channel id xs) → Rises is_lower (cond b (x ∷ with_channel id xs) (cond s (x ∷ xs) (id ∷ x ∷ xs)))
    step true s low same rest = (below_with x id xs low rise.0, rest)
    step false true low same rest = rise
    step false false low same rest =
        let above = higher id x low same in
        ((above, IsBelowAll-through is_lower lower_through id x xs above rise.0), rise)

-- the same, as code finds the place and looks there
pub put_there : (id : ChannelId) (ids seen again : List ChannelId) (place : ℕ) → seen ≡ ids → again ≡ ids → place ≡ place_for id seen → true ≡ stands_at again place id → ids ≡ with_channel id ids
put_there id ids seen again place e f found stands =
    placed_there id ids (ap (λ n. stands_at ids n id) (sym (found ∙ ap (place_for id) e)) ∙ ap (λ (xs : List ChannelId). stands_at xs place id) (sym f) ∙ sym stands)

pub put_in : (id : ChannelId) (ids seen again now : List ChannelId) (place : ℕ) → seen ≡ ids → again ≡ ids → place ≡ place_for id seen → false ≡ stands_at again place id → now ≡ insert ids place id → now ≡ with_channel id ids
put_in id ids seen again now place e f found stands added =
    added ∙ ap (λ n. insert ids n id) (found ∙ ap (place_for id) e)
    ∙ placed_in id ids (ap (λ n. stands_at ids n id) (sym (found ∙ ap (place_for id) e)) ∙ ap (λ (xs : List ChannelId). stands_at xs place id) (sym f) ∙ sym stands)

-- a channel, then those that are linked to it, then those that are unlinked from it
pub placed_all : (id : ChannelId) (adds removes first second third : List ChannelId) → first ≡ with_channel id [] → second ≡ fold (λ ordered one. with_channel one ordered) first adds → third ≡ fold (λ ordered one. with_channel one ordered) second removes
    → third ≡ in_order (id ∷ adds ++ removes)
placed_all id adds removes first second third one two three =
    let f : List ChannelId → ChannelId → List ChannelId = λ ordered new. with_channel new ordered in
    three ∙ ap (λ (ordered : List ChannelId). fold f ordered removes) (two ∙ ap (λ (ordered : List ChannelId). fold f ordered adds) one) ∙ sym (fold-append f [] (id ∷ adds) removes)
