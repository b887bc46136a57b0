-- Sessions by their numbers, of which no two have one.
use Rattle.mum_state.proofs.Common.{◌≡◌, ℕ, zero, suc, ◌≤◌, ◌==◌, ◌&&◌, ◌||◌, not, Bool, true, false, cond, List, [], ◌∷◌, get_or, map, insert, refl, sym, ap, ◌∙◌, arith, Some, None, find, All, count_by, list_any, eq-eqb, false≢true, or_right, list_any_at, SessionId, User, has_number, is_in, count_by-cons, some_from, is_newcomer}

-- ---- tests that agree

pub or_false : (a : Bool) → (a || false) ≡ a
or_false true = refl
or_false false = refl

pub and_true : (a : Bool) → (a && true) ≡ a
and_true true = refl
and_true false = refl

pub and_false : (a : Bool) → (a && false) ≡ false
and_false true = refl
and_false false = refl

pub any_agree : {X : Type 0} (p q : X → Bool) (xs : List X) → All (λ x. p x ≡ q x) xs → list_any p xs ≡ list_any q xs
any_agree p q [] same = refl
any_agree p q (x ∷ xs) same =
    ap (λ b. b || list_any p xs) (same 0 x (omega arith))
    ∙ ap (λ b. q x || b) (any_agree p q xs (λ k d within. same (suc k) d (omega arith)))

pub map_agree : {X Y : Type 0} (f g : X → Y) (xs : List X) → All (λ x. f x ≡ g x) xs → map f xs ≡ map g xs
map_agree f g [] same = refl
map_agree {X} {Y} f g (x ∷ xs) same =
    ap (λ (y : Y). y ∷ map f xs) (same 0 x (omega arith))
    ∙ ap (λ (ys : List Y). g x ∷ ys) (map_agree f g xs (λ k d within. same (suc k) d (omega arith)))

pub any_mapped : {X Y : Type 0} (p : Y → Bool) (f : X → Y) (xs : List X) → list_any p (map f xs) ≡ list_any (λ x. p (f x)) xs
any_mapped p f [] = refl
any_mapped p f (x ∷ xs) = ap (λ b. p (f x) || b) (any_mapped p f xs)

pub none_passes : {X : Type 0} (p : X → Bool) (xs : List X) → All (λ x. p x ≡ false) xs → list_any p xs ≡ false
none_passes p [] none = refl
none_passes p (x ∷ xs) none =
    ap (λ b. b || list_any p xs) (none 0 x (omega arith)) ∙ none_passes p xs (λ k d within. none (suc k) d (omega arith))

or_swap : (a b c : Bool) → (a || (b || c)) ≡ (b || (a || c))
or_swap true true c = refl
or_swap true false c = refl
or_swap false b c = refl

pub any_inserted : {X : Type 0} (p : X → Bool) (xs : List X) (i : ℕ) (x : X) → list_any p (insert xs i x) ≡ (p x || list_any p xs)
any_inserted p xs zero x = refl
any_inserted p [] (suc i) x = refl
any_inserted p (y ∷ xs) (suc i) x = ap (λ b. p y || b) (any_inserted p xs i x) ∙ or_swap (p y) (p x) (list_any p xs)

-- ---- sessions of which no two have one number

abbrev pub AreNumbered : List User → Type 0
AreNumbered users = (session : SessionId) → count_by (has_number session) users ≤ 1

rest_numbered : (user : User) (users : List User) → AreNumbered (user ∷ users) → AreNumbered users
rest_numbered user users numbers session = omega (arith, numbers session, count_by-cons (has_number session) user users)

-- the first of a number is its only one
none_after : (session : SessionId) (user : User) (users : List User) → AreNumbered (user ∷ users) → has_number session user ≡ true → count_by (has_number session) users ≡ 0
none_after session user users numbers is =
    omega (arith, numbers session, count_by-cons (has_number session) user users, ap (λ (b : Bool). cond {A = ℕ} b 1 0) is)

none_counted : (p q : User → Bool) (users : List User) → count_by p users ≡ 0 → list_any (λ user. p user && q user) users ≡ false
none_counted p q [] none = refl
none_counted p q (user ∷ users) none = step (p user) refl (none_counted p q users)
  where
    step : (b : Bool) → p user ≡ b → (count_by p users ≡ 0 → list_any (λ one. p one && q one) users ≡ false) → ((p user && q user) || list_any (λ one. p one && q one) users) ≡ false
    step true is rest = absurd (omega (arith, none, count_by-cons p user users, ap (λ (b : Bool). cond {A = ℕ} b 1 0) is))
    step false is rest =
        ap (λ b. (b && q user) || list_any (λ one. p one && q one) users) is
        ∙ rest (omega (arith, none, count_by-cons p user users))

-- what is asked of those of a session's number is asked of the session
pub own_alone : (t : User → User → Bool) (users : List User) → AreNumbered users
    → All (λ user. list_any (λ was. has_number user.session was && t user was) users ≡ t user user) users
own_alone t [] numbers k d within = absurd (omega arith)
own_alone t (first ∷ users) numbers zero d within =
    let is : has_number first.session first ≡ true = eq-eqb first.session.0 first.session.0 refl in
    ap (λ b. (b && t first first) || list_any (λ was. has_number first.session was && t first was) users) is
    ∙ ap (λ b. t first first || b) (none_counted (has_number first.session) (t first) users (none_after first.session first users numbers is))
    ∙ or_false (t first first)
own_alone t (first ∷ users) numbers (suc k) d within =
    let user : User = get_or users k d in
    let there : list_any (has_number user.session) users ≡ true =
    list_any_at (has_number user.session) users k d (omega arith) (eq-eqb user.session.0 user.session.0 refl) in
    let other : has_number user.session first ≡ false = apart user.session there (has_number user.session first) refl in
    ap (λ b. (b && t user first) || list_any (λ was. has_number user.session was && t user was) users) other
    ∙ own_alone t users (rest_numbered first users numbers) k d (omega arith)
  where
    apart : (session : SessionId) → list_any (has_number session) users ≡ true → (b : Bool) → has_number session first ≡ b → b ≡ false
    apart session there true is = absurd (omega (arith, some_from (has_number session) users there, none_after session first users numbers is))
    apart session there false is = refl

-- a session that changes its channel, or not, is a newcomer where it changes it
pub newcomers : (g : User → User) → ((user : User) → (g user).session ≡ user.session) → (users : List User) → AreNumbered users
    → All (λ user. is_newcomer users (g user) ≡ not (user.channel.0 == (g user).channel.0)) users
newcomers g keeps users numbers k d within =
    let user : User = get_or users k d in
    ap (λ (session : SessionId). not (list_any (λ was. has_number session was && is_in (g user).channel was) users)) (keeps user)
    ∙ ap not (own_alone (λ one was. is_in (g one).channel was) users numbers k d within)

-- nobody is new who stays
pub nobody_new : (users : List User) → AreNumbered users → All (λ user. is_newcomer users user ≡ false) users
nobody_new users numbers k d within =
    let user : User = get_or users k d in
    newcomers (λ one. one) (λ one. refl) users numbers k d within ∙ ap not (eq-eqb user.channel.0 user.channel.0 refl)

-- ---- the session of a number

-- the session that is found passes what one of its number passes
pub record IsFoundIn (users : List User) (session : SessionId) (t : User → Bool) : Type 0 where
  pub user : User
  pub found : find (has_number session) users ≡ Some user
  pub passes : t user ≡ true

pub found_in : (session : SessionId) (t : User → Bool) (users : List User) → AreNumbered users
    → list_any (λ user. has_number session user && t user) users ≡ true → IsFoundIn users session t
found_in session t [] numbers some = absurd (false≢true some)
found_in session t (first ∷ users) numbers some = step (has_number session first) refl some (found_in session t users (rest_numbered first users numbers))
  where
    step : (b : Bool) → has_number session first ≡ b → ((b && t first) || list_any (λ user. has_number session user && t user) users) ≡ true
        → (list_any (λ user. has_number session user && t user) users ≡ true → IsFoundIn users session t) → IsFoundIn (first ∷ users) session t
    step true is some-2 later = record {
      user = first;
      found = ap (λ (b : Bool). cond b (Some first) (find (has_number session) users)) is;
      passes = sym (or_false (t first)) ∙ sym (ap (λ b. t first || b) (none_counted (has_number session) t users (none_after session first users numbers is))) ∙ some-2;
    }
    step false is some-2 later =
        let rest = later some-2 in
        record {
          user = rest.user;
          found = ap (λ (b : Bool). cond b (Some first) (find (has_number session) users)) is ∙ rest.found;
          passes = rest.passes;
        }

-- what is asked beside the number is asked of the session that is found
pub any_found : (session : SessionId) (p : User → Bool) (users : List User) → AreNumbered users → (user : User) → find (has_number session) users ≡ Some user
    → list_any (λ one. has_number session one && p one) users ≡ p user
any_found session p [] numbers user found = cc
any_found session p (first ∷ users) numbers user found = step (has_number session first) refl (any_found session p users (rest_numbered first users numbers) user)
  where
    step : (b : Bool) → has_number session first ≡ b → (find (has_number session) users ≡ Some user → list_any (λ one. has_number session one && p one) users ≡ p user)
        → ((has_number session first && p first) || list_any (λ one. has_number session one && p one) users) ≡ p user
    step true is rest =
        let same : first ≡ user = (let some : Some first ≡ Some user = sym (ap (λ (b : Bool). cond b (Some first) (find (has_number session) users)) is) ∙ found in cc) in
        ap (λ b. (b && p first) || list_any (λ one. has_number session one && p one) users) is
        ∙ ap (λ b. p first || b) (none_counted (has_number session) p users (none_after session first users numbers is))
        ∙ or_false (p first) ∙ ap p same
    step false is rest =
        ap (λ b. (b && p first) || list_any (λ one. has_number session one && p one) users) is
        ∙ rest (sym (ap (λ (b : Bool). cond b (Some first) (find (has_number session) users)) is) ∙ found)

pub any_missing : (session : SessionId) (p : User → Bool) (users : List User) → find (has_number session) users ≡ None
    → list_any (λ one. has_number session one && p one) users ≡ false
any_missing session p [] none = refl
any_missing session p (first ∷ users) none = step (has_number session first) refl (any_missing session p users)
  where
    step : (b : Bool) → has_number session first ≡ b → (find (has_number session) users ≡ None → list_any (λ one. has_number session one && p one) users ≡ false)
        → ((has_number session first && p first) || list_any (λ one. has_number session one && p one) users) ≡ false
    step true is rest = (let some : Some first ≡ None = sym (ap (λ (b : Bool). cond b (Some first) (find (has_number session) users)) is) ∙ none in cc)
    step false is rest =
        ap (λ b. (b && p first) || list_any (λ one. has_number session one && p one) users) is
        ∙ rest (sym (ap (λ (b : Bool). cond b (Some first) (find (has_number session) users)) is) ∙ none)

-- one of a number, in a channel
pub found_member : (session : SessionId) (users : List User) (user : User) → find (has_number session) users ≡ Some user → list_any (is_in user.channel) users ≡ true
found_member session [] user found = cc
found_member session (first ∷ users) user found = step (has_number session first) refl (found_member session users user)
  where
    step : (b : Bool) → has_number session first ≡ b → (find (has_number session) users ≡ Some user → list_any (is_in user.channel) users ≡ true) → (is_in user.channel first || list_any (is_in user.channel) users) ≡ true
    step true is rest =
        let same : first ≡ user = (let some : Some first ≡ Some user = sym (ap (λ (b : Bool). cond b (Some first) (find (has_number session) users)) is) ∙ found in cc) in
        ap (λ b. b || list_any (is_in user.channel) users) (eq-eqb first.channel.0 user.channel.0 (ap (λ (one : User). one.channel.0) same))
    step false is rest =
        or_right (is_in user.channel first) (list_any (is_in user.channel) users) (rest (sym (ap (λ (b : Bool). cond b (Some first) (find (has_number session) users)) is) ∙ found))
