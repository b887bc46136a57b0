-- How many steps a channel is under another, by the way up.
use Rattle.mum_tree.proofs.Common.{◌≡◌, ◌≢◌, ℕ, zero, suc, ◌<◌, ◌+◌, ◌-◌, ◌≤◌, ◌||◌, Bool, true, false, cond, eqb, ltb, List, [], ◌∷◌, Option, Some, None, length, reverse, refl, arith, ap, sym, ◌∙◌, ⊎_elim, Contains, list_any, position, position_or_len, option_map, is_some, eq-eqb, ne_eqb, cases_Bool, cases_eq, cases_lt, cond-true, cond-false, false≢true, le-ltb, lt-ltb, or_right, length-reverse, same_Some, ChannelId, Row, LeadUp, row_of, is_below, level, path, upward}
use Rattle.mum_tree.proofs.{Shrunk.is_top, Shrunk.list_any-reverse, Upward.the_root, Upward.none_contained, Upward.option_cases, Upward.upward_at, Upward.upward_missing, Upward.upward_root, Upward.upward_under, Upward.upward_zero}

later_place : (n m : ℕ) → cond (ltb (1 + n) (suc m)) (Some (1 + n)) None ≡ option_map (λ k. k + 1) (cond (ltb n m) (Some n) None)
later_place n m =
    let next : 1 + n ≡ n + 1 = omega arith in
    ⊎_elim
    (λ (l : n < m).
    cond-true (ltb (1 + n) (suc m)) (Some (1 + n)) None (lt-ltb (1 + n) (suc m) (omega arith))
    ∙ ap (λ (k : ℕ). Some k) next
    ∙ ap (option_map (λ k. k + 1)) (sym (cond-true (ltb n m) (Some n) None (lt-ltb n m l))))
    (λ (g : m ≤ n).
    cond-false (ltb (1 + n) (suc m)) (Some (1 + n)) None (le-ltb (1 + n) (suc m) (omega arith))
    ∙ ap (option_map (λ k. k + 1)) (sym (cond-false (ltb n m) (Some n) None (le-ltb n m g))))
    (cases_lt n m)

pub position-here : {X : Type 0} (p : X → Bool) (x : X) (xs : List X) → p x ≡ true → position p (x ∷ xs) ≡ Some 0
position-here p x xs here = rw here (cond-true (ltb 0 (suc (length xs))) (Some 0) None (lt-ltb 0 (suc (length xs)) (omega arith)))

pub position-later : {X : Type 0} (p : X → Bool) (x : X) (xs : List X) → p x ≡ false → position p (x ∷ xs) ≡ option_map (λ k. k + 1) (position p xs)
position-later p x xs off = rw off (later_place (position_or_len p xs) (length xs))

some_position : {X : Type 0} (p : X → Bool) (xs : List X) → is_some (position p xs) ≡ list_any p xs
some_position p [] = refl
some_position p (x ∷ xs) =
    ⊎_elim
    (λ (on : p x ≡ true). ap is_some (position-here p x xs on) ∙ sym (ap (λ (b : Bool). b || list_any p xs) on))
    (λ (off : p x ≡ false).
    ap is_some (position-later p x xs off) ∙ some_later (position p xs) ∙ some_position p xs ∙ sym (ap (λ (b : Bool). b || list_any p xs) off))
    (cases_Bool (p x))
  where
    some_later : (found : Option ℕ) → is_some (option_map (λ k. k + 1) found) ≡ is_some found
    some_later None = refl
    some_later (Some n) = refl

-- a channel is below the top exactly where it is some steps under it
pub some_level : (rows : List Row) (top id : ChannelId) → is_some (level rows top id) ≡ is_below rows top id
some_level rows top id = some_position (is_top top) (upward rows 33 id) ∙ sym (list_any-reverse (is_top top) (upward rows 33 id))

-- one more step of a climb, with n steps left
pub climb_missing : (rows : List Row) (top at : ChannelId) (left : ℕ) → row_of rows at ≡ None → position (is_top top) (upward rows left at) ≡ None
climb_missing rows top at left none = ap (position (is_top top)) (upward_missing rows left at none)

pub climb_done : (rows : List Row) (top at : ChannelId) (left : ℕ) → left ≡ 0 → position (is_top top) (upward rows left at) ≡ None
climb_done rows top at left done = ap (λ n. position (is_top top) (upward rows n at)) done ∙ ap (position (is_top top)) (upward_zero rows at)

pub climb_top : (rows : List Row) (top at : ChannelId) (left : ℕ) (row : Row) → 0 < left → row_of rows at ≡ Some row → at.0 ≡ top.0 → position (is_top top) (upward rows left at) ≡ Some 0
climb_top rows top at zero row more found same = absurd (omega arith)
climb_top rows top at (suc left) row more found same =
    ap (position (is_top top)) (upward_at rows left at row found) ∙ position-here (is_top top) at (cond (eqb at.0 0) [] (upward rows left row.channel.parent)) (eq-eqb at.0 top.0 same)

pub climb_root : (rows : List Row) (top at : ChannelId) (left : ℕ) (row : Row) → 0 < left → row_of rows at ≡ Some row → at.0 ≢ top.0 → at.0 ≡ 0 → position (is_top top) (upward rows left at) ≡ None
climb_root rows top at zero row more found other root = absurd (omega arith)
climb_root rows top at (suc left) row more found other root =
    ap (position (is_top top)) (upward_root rows left at row found (eq-eqb at.0 0 root)) ∙ position-later (is_top top) at [] (ne_eqb at.0 top.0 other)

pub climb_on : (rows : List Row) (top at : ChannelId) (left : ℕ) (row : Row) → 0 < left → row_of rows at ≡ Some row → at.0 ≢ top.0 → at.0 ≢ 0 → position (is_top top) (upward rows left at) ≡ option_map (λ k. k + 1) (position (is_top top) (upward rows (left - 1) row.channel.parent))
climb_on rows top at zero row more found other under = absurd (omega arith)
climb_on rows top at (suc left) row more found other under =
    let here : suc left - 1 ≡ left = omega arith in
    ap (position (is_top top)) (upward_under rows left at row found (ne_eqb at.0 0 under))
    ∙ position-later (is_top top) at (upward rows left row.channel.parent) (ne_eqb at.0 top.0 other)
    ∙ ap (λ n. option_map (λ k. k + 1) (position (is_top top) (upward rows n row.channel.parent))) (sym here)

pub add_none : (found : Option ℕ) → option_map (λ k. k + 0) found ≡ found
add_none None = refl
add_none (Some n) = let same : n + 0 ≡ n = omega arith in ap (λ (k : ℕ). Some k) same

pub add_one_more : (n : ℕ) (found : Option ℕ) → option_map (λ k. k + n) (option_map (λ k. k + 1) found) ≡ option_map (λ k. k + (n + 1)) found
add_one_more n None = refl
add_one_more n (Some m) = let same : (m + 1) + n ≡ m + (n + 1) = omega arith in ap (λ (k : ℕ). Some k) same

none_is_some : (n : ℕ) → None ≡ Some n → ⊥
none_is_some n e = cc

pub one_less : (found : Option ℕ) (n : ℕ) → option_map (λ k. k + 1) found ≡ Some n → (m : ℕ) × (found ≡ Some m) × (n ≡ m + 1)
one_less None n e = absurd (none_is_some n e)
one_less (Some m) n e = (m, refl, sym (same_Some (m + 1) n e))

-- the root ends each way up
root_last : (rows : List Row) (steps : ℕ) (at : ChannelId) (n : ℕ) → position (is_top the_root) (upward rows steps at) ≡ Some n → length (upward rows steps at) ≡ n + 1
root_last rows zero at n is = absurd (none_is_some n (sym (climb_done rows the_root at 0 refl) ∙ is))
root_last rows (suc steps) at n is =
    ⊎_elim
    (λ (none : row_of rows at ≡ None). absurd (none_is_some n (sym (climb_missing rows the_root at (suc steps) none) ∙ is)))
    (λ found. ⊎_elim
    (λ (root : at.0 ≡ 0).
    let same : 0 ≡ n = same_Some 0 n (sym (climb_top rows the_root at (suc steps) found.0 (omega arith) found.1 root) ∙ is) in
    omega (arith, ap length (upward_root rows steps at found.0 found.1 (eq-eqb at.0 0 root))))
    (λ (under : at.0 ≢ 0).
    let here : suc steps - 1 ≡ steps = omega arith in
    let up : position (is_top the_root) (upward rows (suc steps) at) ≡ option_map (λ k. k + 1) (position (is_top the_root) (upward rows steps found.0.channel.parent)) = climb_on rows the_root at (suc steps) found.0 (omega arith) found.1 under under ∙ ap (λ m. option_map (λ k. k + 1) (position (is_top the_root) (upward rows m found.0.channel.parent))) here in
    let (m, less, next) = one_less (position (is_top the_root) (upward rows steps found.0.channel.parent)) n (sym up ∙ is) in
    omega (arith, ap length (upward_under rows steps at found.0 found.1 (ne_eqb at.0 0 under)), root_last rows steps found.0.channel.parent m less))
    (cases_eq at.0 0))
    (option_cases (row_of rows at))

pub length_from_root : (rows : List Row) (id : ChannelId) (n : ℕ) → Some n ≡ level rows the_root id → n + 1 ≡ length (path rows id)
length_from_root rows id n is = sym (root_last rows 33 id n (sym is)) ∙ sym (length-reverse (upward rows 33 id))

-- what does not lead to the root is not there
pub length_missing : (rows : List Row) (id : ChannelId) → LeadUp rows → None ≡ level rows the_root id → 0 ≡ length (path rows id)
length_missing rows id lead is =
    ⊎_elim
    (λ (none : row_of rows id ≡ None). sym (ap (λ (us : List ChannelId). length (reverse us)) (upward_missing rows 33 id none)))
    (λ found.
    absurd (not_none (position (is_top the_root) (upward rows 33 id)) (some_position (is_top the_root) (upward rows 33 id) ∙ any_contained (is_top the_root) the_root (upward rows 33 id) refl (lead id (ap is_some found.1))) (sym is)))
    (option_cases (row_of rows id))
  where
    not_none : (found : Option ℕ) → is_some found ≡ true → found ≡ None → ⊥
    not_none found some none = false≢true (sym (ap is_some none) ∙ some)

    any_contained : {X : Type 0} (p : X → Bool) (x : X) (xs : List X) → p x ≡ true → Contains xs x → list_any p xs ≡ true
    any_contained p x [] on has = absurd (none_contained x has)
    any_contained p x (y ∷ xs) on (zero, within, is) = ap (λ (b : Bool). b || list_any p xs) (ap p is ∙ on)
    any_contained p x (y ∷ xs) on (suc k, within, is) = or_right (p y) (list_any p xs) (any_contained p x xs on (k, omega arith, is))
