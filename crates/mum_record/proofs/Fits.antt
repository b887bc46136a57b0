-- Entries whose numbers fit their types.
use Rattle.mum_record.proofs.Common.{◌≡◌, ℕ, ◌+◌, ◌<◌, List, [], ◌∷◌, ◌++◌, length, get_or, take, Result, Ok, Err, sym, subst, take_more, OnOk, IsBytes, Each, FitsControl, FitsEntry, IsWritableControl, IsWritableEntry, IsEntry, IsWritableJournal, IsJournal, WorkerEntry, Journal}

-- what holds anyway holds where the result is `Ok`
pub OnOk-from : {A E : Type 0} (r : Result A E) (P : Type 0) → P → OnOk r P
OnOk-from (Ok a) P h = h
OnOk-from (Err e) P h = tt

pub Each-append : {X : Type 0} (P : X → Type 0) (xs ys : List X) → Each P xs → Each P ys → Each P (xs ++ ys)
Each-append P [] ys here there = there
Each-append P (x ∷ xs) ys here there = (here.0, Each-append P xs ys here.1 there)

-- one element more of which it holds
pub Each-more : {X : Type 0} (P : X → Type 0) (xs : List X) (i : ℕ) (d : X) → i < length xs → Each P (take i xs) → P (get_or xs i d) → Each P (take (i + 1) xs)
Each-more {X} P xs i d h before here =
    let more = Each-append P (take i xs) (get_or xs i d ∷ []) before (here, tt) in
    subst (λ (ys : List X). Each P ys) (sym (take_more xs i d h)) more

pub Each-read : {X : Type 0} (P : X → Type 0) (xs : List X) (i : ℕ) (x : X) → i < length xs → x ≡ get_or xs i x → Each P (take i xs) → P x → Each P (take (i + 1) xs)
Each-read P xs i x h is before here = Each-more P xs i x h before (subst P is here)

Each-both : {X : Type 0} (P Q : X → Type 0) (xs : List X) → Each P xs → Each Q xs → Each (λ x. P x × Q x) xs
Each-both P Q [] h k = tt
Each-both P Q (x ∷ xs) h k = ((h.0, k.0), Each-both P Q xs h.1 k.1)

Each-all : (lists : List (List WorkerEntry)) → Each (Each FitsEntry) lists → Each (Each IsWritableEntry) lists → Each (Each IsEntry) lists
Each-all [] h k = tt
Each-all (entries ∷ lists) h k = (Each-both FitsEntry IsWritableEntry entries h.0 k.0, Each-all lists h.1 k.1)

-- a journal that can be written and whose numbers fit has lines
pub journal_fits : (j : Journal) → IsWritableJournal j → IsBytes j.config → Each FitsControl j.controls → Each (Each FitsEntry) j.by_worker → IsJournal j
journal_fits j h config controls entries = record {
  least = h.least;
  greatest = h.greatest;
  lists = h.lists;
  limits = h.limits;
  config = config;
  controls = Each-both FitsControl IsWritableControl j.controls controls h.controls;
  entries = Each-all j.by_worker entries h.entries;
}
