-- What is known after one message, which is sent where it reports something.
use Rattle.mum_command_laws.proofs.Common.{◌≡◌, ℕ, ◌==◌, Bool, true, false, true≢false, cond, List, [], ◌∷◌, length, Option, Some, None, refl, sym, append-nil, All, flat_map, is_some, unwrap_or, eqb-true, All-cons, All-nil, is_empty, said_unless, flag_told, known}

pub known_after : {M X : Type 0} (field : M → Option X) (start final : X) (told : M) (b : Bool) → unwrap_or (field told) start ≡ final
    → (b ≡ false → is_some (field told) ≡ false) → known field start (cond b (told ∷ []) []) ≡ final
known_after field start final told true says untold = says
known_after {M} {X} field start final told false says untold = stays (field told) says (untold refl)
  where
    stays : (given : Option X) → unwrap_or given start ≡ final → is_some given ≡ false → start ≡ final
    stays None same none = same
    stays (Some x) same none = absurd (true≢false none)

pub said_known : {X : Type 0} (b : Bool) (was now : X) → (b ≡ true → was ≡ now) → unwrap_or (said_unless b now) was ≡ now
said_known true was now same = same refl
said_known false was now same = refl

pub flag_known : (was now : Bool) → unwrap_or (flag_told was now) was ≡ now
flag_known true true = refl
flag_known true false = refl
flag_known false true = refl
flag_known false false = refl

pub number_known : (was now : ℕ) → unwrap_or (said_unless (was == now) now) was ≡ now
number_known was now = said_known (was == now) was now (eqb-true was now)

pub each_of_told : {M : Type 0} (P : M → Type 0) (told : M) (b : Bool) → P told → All P (cond b (told ∷ []) [])
each_of_told P told true one = All-cons P told [] one (All-nil P)
each_of_told P told false one = All-nil P

pub empty_is : {X : Type 0} (xs : List X) → is_empty xs ≡ true → xs ≡ []
empty_is [] none = refl
empty_is (x ∷ xs) none = let no : length (x ∷ xs) ≡ 0 = eqb-true (length (x ∷ xs)) 0 none in cc

pub listed_after : {M : Type 0} (field : M → List ℕ) (told : M) (b : Bool) → (b ≡ false → is_empty (field told) ≡ true)
    → field told ≡ flat_map field (cond b (told ∷ []) [])
listed_after field told true none = sym (append-nil (field told))
listed_after field told false none = empty_is (field told) (none refl)
