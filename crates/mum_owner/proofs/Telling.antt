-- Bells that are notified one after the other.
use Rattle.mum_owner.proofs.Common.{◌≡◌, ◌∙◌, ℕ, zero, suc, ◌+◌, ◌<◌, ◌≤◌, Bool, true, false, List, [], ◌∷◌, ◌++◌, length, take, drop, get_or, map, set, refl, ap, sym, subst, add-one, append_assoc, arith, ◌||◌, QueueFacts, SideFacts, new_side, queues, Tells, TellsEach}

either_first : (a b c : Bool) → ((a || b) || c) ≡ (a || (b || c))
either_first true b c = refl
either_first false b c = refl

either_none : (one : Bool) → one ≡ (one || false)
either_none true = refl
either_none false = refl

pub no_bell_left : (bells : List QueueFacts) → length bells ≡ 0 → bells ≡ []
no_bell_left [] none = refl
no_bell_left (bell ∷ bells) none = absurd (omega (arith, none))

module _ {L : Type 0} where
  -- one more bell is notified
  tells_more : (sides afters : List (SideFacts L)) (told one : Bool) (side after : SideFacts L) → TellsEach sides told afters → Tells side one after
      → TellsEach (sides ++ side ∷ []) (told || one) (afters ++ after ∷ [])
  tells_more [] [] told one side after none tells =
      (one, false, tells, refl, ap (λ (b : Bool). b || one) none ∙ either_none one)
  tells_more (first ∷ sides) (changed ∷ afters) told one side after each tells = (
    each.0,
    each.1 || one,
    each.2,
    tells_more sides afters each.1 one side after each.3 tells,
    ap (λ (b : Bool). b || one) each.4 ∙ either_first each.0 each.1 one,
  )
  tells_more [] (changed ∷ afters) told one side after each tells = absurd each
  tells_more (first ∷ sides) [] told one side after each tells = absurd each

  -- as far as this place they are notified, and the others are as before
  pub record ToldSoFar (sides : List (SideFacts L)) (place : ℕ) (told : Bool) (now : List (SideFacts L)) : Type 0 where
    pub afters : List (SideFacts L)
    pub tells : TellsEach (take place sides) told afters
    pub so_many : length afters ≡ place
    pub rest : now ≡ afters ++ drop place sides

  pub told_none : (sides : List (SideFacts L)) → ToldSoFar sides 0 false sides
  told_none sides = record { afters = []; tells = refl; so_many = refl; rest = refl }

  split_at : (sides : List (SideFacts L)) (place : ℕ) (d : SideFacts L) → place < length sides
      → (take (place + 1) sides ≡ take place sides ++ get_or sides place d ∷ []) × (drop place sides ≡ get_or sides place d ∷ drop (place + 1) sides)
  split_at [] place d within = absurd (omega arith)
  split_at (side ∷ sides) zero d within = (refl, refl)
  split_at (side ∷ sides) (suc place) d within =
      let next = split_at sides place d (omega arith) in
      (rw add-one (ap (λ (l : List (SideFacts L)). side ∷ l) (rw add-one at next.0)), rw add-one (rw add-one at next.1))

  read_at : (front rest : List (SideFacts L)) (side d : SideFacts L) (place : ℕ) → length front ≡ place → get_or (front ++ side ∷ rest) place d ≡ side
  read_at [] rest side d zero so = refl
  read_at [] rest side d (suc place) so = absurd (omega (arith, so))
  read_at (x ∷ front) rest side d zero so = absurd (omega (arith, so))
  read_at (x ∷ front) rest side d (suc place) so = read_at front rest side d place (omega (arith, so))

  write_at : (front rest : List (SideFacts L)) (side after : SideFacts L) (place : ℕ) → length front ≡ place → set (front ++ side ∷ rest) place after ≡ front ++ after ∷ rest
  write_at [] rest side after zero so = refl
  write_at [] rest side after (suc place) so = absurd (omega (arith, so))
  write_at (x ∷ front) rest side after zero so = absurd (omega (arith, so))
  write_at (x ∷ front) rest side after (suc place) so = ap (λ (l : List (SideFacts L)). x ∷ l) (write_at front rest side after place (omega (arith, so)))

  pub length_more : (front : List (SideFacts L)) (side : SideFacts L) → length (front ++ side ∷ []) ≡ length front + 1
  length_more [] side = refl
  length_more (x ∷ front) side = let next = length_more front side in omega (arith, next)

  append_one : (front rest : List (SideFacts L)) (side : SideFacts L) → front ++ side ∷ rest ≡ (front ++ side ∷ []) ++ rest
  append_one [] rest side = refl
  append_one (x ∷ front) rest side = ap (λ (l : List (SideFacts L)). x ∷ l) (append_one front rest side)

  pub told_more : (sides now : List (SideFacts L)) (place : ℕ) (told one : Bool) (side after d : SideFacts L) → place < length sides
      → ToldSoFar sides place told now → side ≡ get_or now place d → Tells side one after
      → ToldSoFar sides (place + 1) (told || one) (set now place after)
  told_more sides now place told one side after d within so_far is tells =
      let split = split_at sides place d within in
      let was : SideFacts L = get_or sides place d in
      let all : now ≡ so_far.afters ++ was ∷ drop (place + 1) sides = so_far.rest ∙ ap (λ (l : List (SideFacts L)). so_far.afters ++ l) split.1 in
      let same : side ≡ was = is ∙ ap (λ (l : List (SideFacts L)). get_or l place d) all ∙ read_at so_far.afters (drop (place + 1) sides) was d place so_far.so_many in
      record {
        afters = so_far.afters ++ after ∷ [];
        tells =
            subst (λ (l : List (SideFacts L)). TellsEach l (told || one) (so_far.afters ++ after ∷ [])) (sym split.0)
            (tells_more (take place sides) so_far.afters told one was after so_far.tells (subst (λ (s : SideFacts L). Tells s one after) same tells));
        so_many = length_more so_far.afters after ∙ ap (λ (n : ℕ). n + 1) so_far.so_many;
        rest =
            ap (λ (l : List (SideFacts L)). set l place after) all
            ∙ write_at so_far.afters (drop (place + 1) sides) was after place so_far.so_many
            ∙ append_one so_far.afters (drop (place + 1) sides) after;
      }

  -- all of them are sent
  all_of : (sides : List (SideFacts L)) (place : ℕ) → length sides ≤ place → (take place sides ≡ sides) × (drop place sides ≡ [])
  all_of [] zero past = (refl, refl)
  all_of [] (suc place) past = (refl, refl)
  all_of (side ∷ sides) zero past = absurd (omega arith)
  all_of (side ∷ sides) (suc place) past = let next = all_of sides place (omega arith) in (ap (λ (l : List (SideFacts L)). side ∷ l) next.0, next.1)

  nothing_behind : (front : List (SideFacts L)) → front ++ [] ≡ front
  nothing_behind [] = refl
  nothing_behind (x ∷ front) = ap (λ (l : List (SideFacts L)). x ∷ l) (nothing_behind front)

  pub told_all : (sides now : List (SideFacts L)) (place : ℕ) (told : Bool) → length sides ≤ place → ToldSoFar sides place told now → TellsEach sides told now
  told_all sides now place told past so_far =
      let all = all_of sides place past in
      let same : now ≡ so_far.afters = so_far.rest ∙ ap (λ (l : List (SideFacts L)). so_far.afters ++ l) all.1 ∙ nothing_behind so_far.afters in
      subst (λ (l : List (SideFacts L)). TellsEach sides told l) (sym same) (subst (λ (l : List (SideFacts L)). TellsEach l told so_far.afters) all.0 so_far.tells)

  -- the new sides of these bells, in order
  abbrev pub new_sides : List QueueFacts → List (SideFacts L)
  new_sides bells = map new_side (queues bells)

  -- one more that is new
  pub one_side_more : (sides : List (SideFacts L)) (bell : QueueFacts) (left : List QueueFacts) (all : List (SideFacts L)) → sides ++ new_sides (bell ∷ left) ≡ all
      → (sides ++ new_side bell.queue ∷ []) ++ new_sides left ≡ all
  one_side_more sides bell left all so = append_assoc sides (new_side bell.queue ∷ []) (new_sides left) ∙ so

  -- as many as before
  pub same_length : (sides : List (SideFacts L)) (took : Bool) (afters : List (SideFacts L)) → TellsEach sides took afters → length afters ≡ length sides
  same_length [] took [] each = refl
  same_length (side ∷ sides) took (after ∷ afters) each = let rest = same_length sides each.1 afters each.3 in omega (arith, rest)
  same_length [] took (after ∷ afters) each = absurd each
  same_length (side ∷ sides) took [] each = absurd each

  -- the front of a list that goes on
  pub front_of : (xs rest : List (SideFacts L)) (n : ℕ) → n ≡ length xs → take n (xs ++ rest) ≡ xs
  front_of [] rest zero so = refl
  front_of [] rest (suc n) so = absurd (omega (arith, so))
  front_of (x ∷ xs) rest zero so = absurd (omega (arith, so))
  front_of (x ∷ xs) rest (suc n) so = ap (λ (l : List (SideFacts L)). x ∷ l) (front_of xs rest n (omega (arith, so)))
