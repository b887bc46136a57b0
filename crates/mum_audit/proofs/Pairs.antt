-- Lists of which each pair is related, item by item.
use Rattle.mum_audit.proofs.Common.{◌≢◌, ℕ, zero, suc, ◌≤◌, List, [], ◌∷◌, ◌++◌, sym, subst, arith, append_assoc, AllByRecursion, AllPairs, append-nil, All-from_recursion, recursion_from_All}

-- ---- pairs

abbrev pub Pairs : {X : Type 0} → (X → X → Type 0) → List X → Type 0
Pairs R [] = Unit {0}
Pairs R (x ∷ xs) = AllByRecursion (R x) xs × Pairs R xs

pub all_pairs : {X : Type 0} (R : X → X → Type 0) (xs : List X) → Pairs R xs → AllPairs R xs
all_pairs R [] pairs i j d before within = absurd (omega (arith, within))
all_pairs R (x ∷ xs) pairs zero zero d before within = absurd (omega (arith, before))
all_pairs R (x ∷ xs) pairs zero (suc j) d before within = All-from_recursion (R x) xs pairs.0 j d (omega (arith, within))
all_pairs R (x ∷ xs) pairs (suc i) zero d before within = absurd (omega (arith, before))
all_pairs R (x ∷ xs) pairs (suc i) (suc j) d before within = all_pairs R xs pairs.1 i j d (omega (arith, before)) (omega (arith, within))

pub pairs_of : {X : Type 0} (R : X → X → Type 0) (xs : List X) → AllPairs R xs → Pairs R xs
pairs_of R [] all = tt
pairs_of R (x ∷ xs) all = (
  recursion_from_All (R x) xs (λ j d within. all zero (suc j) d (omega arith) (omega (arith, within))),
  pairs_of R xs (λ i j d before within. all (suc i) (suc j) d (omega (arith, before)) (omega (arith, within))),
)

pub each_weaker : {X : Type 0} (P Q : X → Type 0) → ((x : X) → P x → Q x) → (xs : List X) → AllByRecursion P xs → AllByRecursion Q xs
each_weaker P Q weaker [] all = tt
each_weaker P Q weaker (x ∷ xs) all = (weaker x all.0, each_weaker P Q weaker xs all.1)

pub each_both : {X : Type 0} (P : X → Type 0) (xs ys : List X) → AllByRecursion P xs → AllByRecursion P ys → AllByRecursion P (xs ++ ys)
each_both P [] ys all others = others
each_both P (x ∷ xs) ys all others = (all.0, each_both P xs ys all.1 others)

pub each_front : {X : Type 0} (P : X → Type 0) (xs ys : List X) → AllByRecursion P (xs ++ ys) → AllByRecursion P xs
each_front P [] ys all = tt
each_front P (x ∷ xs) ys all = (all.0, each_front P xs ys all.1)

pub each_back : {X : Type 0} (P : X → Type 0) (xs ys : List X) → AllByRecursion P (xs ++ ys) → AllByRecursion P ys
each_back P [] ys all = all
each_back P (x ∷ xs) ys all = each_back P xs ys all.1

-- ---- numbers that never fall

-- none is below the one before it
abbrev pub Rise : ℕ → List ℕ → Type 0
Rise least [] = Unit {0}
Rise least (r ∷ rs) = (least ≤ r) × Rise r rs

rise_above : (least : ℕ) (rs : List ℕ) → Rise least rs → AllByRecursion (λ r. least ≤ r) rs
rise_above least [] rise = tt
rise_above least (r ∷ rs) rise =
    (rise.0, each_weaker (λ (x : ℕ). r ≤ x) (λ (x : ℕ). least ≤ x) (λ x above. let first = rise.0 in omega (arith, first, above)) rs (rise_above r rs rise.1))

pub rise_pairs : (least : ℕ) (rs : List ℕ) → Rise least rs → Pairs (λ (a b : ℕ). a ≤ b) rs
rise_pairs least [] rise = tt
rise_pairs least (r ∷ rs) rise = (rise_above r rs rise.1, rise_pairs r rs rise.1)

rise_from : (least : ℕ) (rs : List ℕ) → AllByRecursion (λ r. least ≤ r) rs → Pairs (λ (a b : ℕ). a ≤ b) rs → Rise least rs
rise_from least [] above pairs = tt
rise_from least (r ∷ rs) above pairs = (above.0, rise_from r rs pairs.0 pairs.1)

above_zero : (rs : List ℕ) → AllByRecursion (λ r. 0 ≤ r) rs
above_zero [] = tt
above_zero (r ∷ rs) = (omega arith, above_zero rs)

pub pairs_rise : (rs : List ℕ) → Pairs (λ (a b : ℕ). a ≤ b) rs → Rise 0 rs
pairs_rise rs pairs = rise_from 0 rs (above_zero rs) pairs

-- ---- numbers of which none comes twice

-- the number is none of these
abbrev pub Absent : ℕ → List ℕ → Type 0
Absent n seen = AllByRecursion (λ other. n ≢ other) seen

-- none of them was seen, and none comes twice
abbrev pub Apart : List ℕ → List ℕ → Type 0
Apart seen [] = Unit {0}
Apart seen (n ∷ ns) = Absent n seen × Apart (seen ++ n ∷ []) ns

apart_seen : (seen ns : List ℕ) → Apart seen ns → AllByRecursion (λ n. Absent n seen) ns
apart_seen seen [] apart = tt
apart_seen seen (n ∷ ns) apart = (
  apart.0,
  each_weaker (λ (m : ℕ). Absent m (seen ++ n ∷ [])) (λ (m : ℕ). Absent m seen) (λ m absent. each_front (λ (other : ℕ). m ≢ other) seen (n ∷ []) absent) ns
      (apart_seen (seen ++ n ∷ []) ns apart.1),
)

pub apart_pairs : (seen ns : List ℕ) → Apart seen ns → Pairs (λ (a b : ℕ). a ≢ b) ns
apart_pairs seen [] apart = tt
apart_pairs seen (n ∷ ns) apart = (
  each_weaker (λ (m : ℕ). Absent m (seen ++ n ∷ [])) (λ (m : ℕ). n ≢ m) (λ m absent same. (each_back (λ (other : ℕ). m ≢ other) seen (n ∷ []) absent).0 (sym same)) ns
      (apart_seen (seen ++ n ∷ []) ns apart.1),
  apart_pairs (seen ++ n ∷ []) ns apart.1,
)

each_two : {X : Type 0} (P Q R : X → Type 0) → ((x : X) → P x → Q x → R x) → (xs : List X) → AllByRecursion P xs → AllByRecursion Q xs → AllByRecursion R xs
each_two P Q R join [] all others = tt
each_two P Q R join (x ∷ xs) all others = (join x all.0 others.0, each_two P Q R join xs all.1 others.1)

pub pairs_apart : (seen ns : List ℕ) → AllByRecursion (λ n. Absent n seen) ns → Pairs (λ (a b : ℕ). a ≢ b) ns → Apart seen ns
pairs_apart seen [] absent pairs = tt
pairs_apart seen (n ∷ ns) absent pairs = (
  absent.0,
  pairs_apart (seen ++ n ∷ []) ns
      (each_two (λ (m : ℕ). Absent m seen) (λ (m : ℕ). n ≢ m) (λ (m : ℕ). Absent m (seen ++ n ∷ []))
      (λ m unseen differs. each_both (λ (other : ℕ). m ≢ other) seen (n ∷ []) unseen ((λ same. differs (sym same)), tt)) ns absent.1 pairs.0)
      pairs.1,
)

pub none_seen : (ns : List ℕ) → AllByRecursion (λ n. Absent n []) ns
none_seen [] = tt
none_seen (n ∷ ns) = (tt, none_seen ns)

pub apart_both : (seen ns others : List ℕ) → Apart seen ns → Apart (seen ++ ns) others → Apart seen (ns ++ others)
apart_both seen [] others apart rest = subst (λ (s : List ℕ). Apart s others) (append-nil seen) rest
apart_both seen (n ∷ ns) others apart rest =
    (apart.0, apart_both (seen ++ n ∷ []) ns others apart.1 (subst (λ (s : List ℕ). Apart s others) (sym (append_assoc seen (n ∷ []) ns)) rest))

pub apart_front : (seen ns others : List ℕ) → Apart seen (ns ++ others) → Apart seen ns
apart_front seen [] others apart = tt
apart_front seen (n ∷ ns) others apart = (apart.0, apart_front (seen ++ n ∷ []) ns others apart.1)

pub apart_back : (seen ns others : List ℕ) → Apart seen (ns ++ others) → Apart (seen ++ ns) others
apart_back seen [] others apart = subst (λ (s : List ℕ). Apart s others) (sym (append-nil seen)) apart
apart_back seen (n ∷ ns) others apart =
    subst (λ (s : List ℕ). Apart s others) (append_assoc seen (n ∷ []) ns) (apart_back (seen ++ n ∷ []) ns others apart.1)
