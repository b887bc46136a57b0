-- What is kept for each session, by its place among the sessions.
use Rattle.mum_route.proofs.Common.{◌≡◌, ◌≢◌, ℕ, ◌+◌, ◌<◌, ◌≤◌, List, length, get_or, set, Option, None, sym, ap, ◌∙◌, arith, ⊎_elim, cases_eq, get_or-set_other, get_or-set_same, get_or_default, User, Context}

-- the first n are what comes of the old and their sessions, the others are old
pub record AreFilled (f : Option Context → User → Option Context) (users : List User) (old now : List (Option Context)) (i : ℕ) : Type 0 where
  pub done : (k : ℕ) (d : User) → k < i → get_or now k None ≡ f (get_or old k None) (get_or users k d)
  pub rest : (k : ℕ) → i ≤ k → get_or now k None ≡ get_or old k None

-- one more
pub filled_more : (f : Option Context → User → Option Context) (users : List User) (old now : List (Option Context)) (i : ℕ) (user : User) (value : Option Context)
    → i < length now → i < length users → user ≡ get_or users i user → value ≡ f (get_or now i None) user
    → AreFilled f users old now i → AreFilled f users old (set now i value) (i + 1)
filled_more f users old now i user value here within read is filled = record {
  done = λ k d below. ⊎_elim
      (λ (same : k ≡ i).
      ap (λ (j : ℕ). get_or (set now i value) j None) same ∙ get_or-set_same now i value None here ∙ is
      ∙ ap (λ (o : Option Context). f o user) (filled.rest i (omega arith))
      ∙ ap (f (get_or old i None)) (read ∙ get_or_default users i user d within)
      ∙ ap (λ (j : ℕ). f (get_or old j None) (get_or users j d)) (sym same))
      (λ (off : k ≢ i). get_or-set_other now i k value None off ∙ filled.done k d (omega arith))
      (cases_eq k i);
  rest = λ k above. let off : k ≢ i = omega arith in get_or-set_other now i k value None off ∙ filled.rest k (omega arith);
}
