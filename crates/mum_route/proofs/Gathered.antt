-- Those of the sessions that are reached, each with what its copy needs.
use Rattle.mum_route.proofs.Common.{◌≡◌, ◌∙◌, ℕ, zero, suc, ◌+◌, ◌<◌, ◌≤◌, Bool, true, false, cond, List, [], ◌∷◌, ◌++◌, length, get_or, take, Option, Some, None, refl, sym, ap, arith, add-one, cons_option, filter, filter_map, zip, option_map, User, Context, Hearer, AreHeard, heard_of, hearer_by, member_by}

cons-append : (one : Option Hearer) (xs ys : List Hearer) → cons_option one (xs ++ ys) ≡ cons_option one xs ++ ys
cons-append None xs ys = refl
cons-append (Some m) xs ys = refl

-- one session more
next_more : (own : User) (users : List User) (reached : List (Option Context)) (i : ℕ) (d : User) → i < length users → i < length reached
    → heard_of own (take (suc i) users) reached ≡ heard_of own (take i users) reached ++ heard_of own (get_or users i d ∷ []) (get_or reached i None ∷ [])
next_more own [] reached i d within here = absurd (omega arith)
next_more own (user ∷ users) [] i d within here = absurd (omega arith)
next_more own (user ∷ users) (one ∷ reached) zero d within here = ap (λ (us : List User). heard_of own (user ∷ us) (one ∷ reached)) (none_taken users)
  where
    none_taken : (us : List User) → take 0 us ≡ []
    none_taken [] = refl
    none_taken (u ∷ us) = refl
next_more own (user ∷ users) (one ∷ reached) (suc i) d within here =
    ap (cons_option (option_map (hearer_by own user) one)) (next_more own users reached i d (omega arith) (omega arith))
    ∙ cons-append (option_map (hearer_by own user) one) (heard_of own (take i users) reached) (heard_of own (get_or users i d ∷ []) (get_or reached i None ∷ []))

pub gathered_more : (own : User) (users : List User) (reached : List (Option Context)) (i : ℕ) (user : User) (audience next : List Hearer) → i < length users → i < length reached
    → user ≡ get_or users i user → audience ≡ heard_of own (take i users) reached → next ≡ audience ++ heard_of own (user ∷ []) (get_or reached i None ∷ [])
    → next ≡ heard_of own (take (i + 1) users) reached
gathered_more own users reached i user audience next within here read before is =
    is ∙ ap (λ (ms : List Hearer). ms ++ heard_of own (user ∷ []) (get_or reached i None ∷ [])) before
    ∙ ap (λ (u : User). heard_of own (take i users) reached ++ heard_of own (u ∷ []) (get_or reached i None ∷ [])) read
    ∙ sym (next_more own users reached i user within here)
    ∙ ap (λ (n : ℕ). heard_of own (take n users) reached) (sym (add-one i))

-- one session is reached once at most
pub one_heard : (own user : User) (one : Option Context) → length (heard_of own (user ∷ []) (one ∷ [])) ≤ 1
one_heard own user None = omega arith
one_heard own user (Some context) = omega arith

-- those that are reached, seen in one way
abbrev pub each_as : {X : Type 0} → (User → Context → X) → List (User × Option Context) → List X
each_as seen pairs = filter_map (λ one. option_map (seen one.0) one.1) pairs

-- those that are reached, where what is kept of each is how it hears
pub heard_each : {X : Type 0} (seen : User → Context → X) (heard : User → Option Context) (users : List User) (reached : List (Option Context)) → length users ≤ length reached
    → AreHeard heard users reached → each_as seen (zip users reached) ≡ filter_map (λ user. option_map (seen user) (heard user)) users
heard_each seen heard [] reached room are = refl
heard_each seen heard (user ∷ users) [] room are = absurd (omega arith)
heard_each seen heard (user ∷ users) (one ∷ reached) room are =
    ap (λ (o : Option Context). cons_option (option_map (seen user) o) (each_as seen (zip users reached))) (are 0 user (omega arith))
    ∙ ap (cons_option (option_map (seen user) (heard user))) (heard_each seen heard users reached (omega arith) (λ k d within. are (suc k) d (omega arith)))

-- what holds of none but those who pass a test, among those who pass
pub passing_members : (can : User → Bool) (reach : User → Option Context) (users : List User)
    → filter_map (λ user. option_map (member_by user) (cond (can user) (reach user) None)) users ≡ filter_map (λ user. option_map (member_by user) (reach user)) (filter can users)
passing_members can reach [] = refl
passing_members can reach (user ∷ users) = by_test (can user) (passing_members can reach users)
  where
    by_test : (b : Bool)
        → filter_map (λ one. option_map (member_by one) (cond (can one) (reach one) None)) users ≡ filter_map (λ one. option_map (member_by one) (reach one)) (filter can users)
        → cons_option (option_map (member_by user) (cond b (reach user) None)) (filter_map (λ one. option_map (member_by one) (cond (can one) (reach one) None)) users)
        ≡ filter_map (λ one. option_map (member_by one) (reach one)) (cond b (user ∷ filter can users) (filter can users))
    by_test true rest = ap (cons_option (option_map (member_by user) (reach user))) rest
    by_test false rest = rest
