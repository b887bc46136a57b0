-- What reading answers of the fronts of headers.
use Rattle.mum_address.proofs.Common.{◌≡◌, ℕ, ◌+◌, ◌-◌, ◌*◌, ◌/◌, ◌%◌, ◌^◌, ◌<◌, ◌≤◌, ◌⊎◌, Bool, true, false, List, [], ◌∷◌, ◌++◌, length, take, drop, replicate, Option, Some, None, refl, sym, ap, subst, ◌∙◌, append_assoc, arith, inl, inr, ◌==◌, ◌||◌, nat_lt, if◌then◌else◌, cases_eq, cases_Bool, le-ltb, lt-ltb, ltb-false, ltb-true, eqb-true, eq-eqb, ne_eqb, or_cases, append-nil, length-append, length-replicate, take_at, take-append-drop, length-take-le, All-append, All-cons, All-from_recursion, All-replicate, All-tail, AreBytes, signature, mapped_octets, Tells, IsHeader, BeginsNone, LacksBytes, Reading, is_command, is_other_family, is_family, least_rest, told_by, reading_rest, reading_high, reading_length, reading_family, reading_command, reading_behind, reading, needs, whole, refused}
use Rattle.mum_address.proofs.Octets.{IsBytes, IsBytes-behind}

-- ---- what the rest gives, as a function

-- the command and the family are taken
abbrev IsKnown : ℕ → ℕ → Type 0
IsKnown command family = (is_command command ≡ true) × (is_family command family ≡ true)

not_other : (family number : ℕ) → is_other_family family ≡ true → is_other_family number ≡ false → (family == number) ≡ false
not_other family number other untrue =
    elim (cases_eq family number) [
      | inl same ↦ absurd (let e : is_other_family number ≡ true = subst (λ (f : ℕ). is_other_family f ≡ true) same other in let e' = sym untrue ∙ e in cc)
      | inr differ ↦ ne_eqb family number differ
    ]

record IsTold (command family : ℕ) (rest : List ℕ) (told : Option (List ℕ)) : Type 0 where
  known : IsKnown command family
  long : least_rest command family ≤ length rest
  told_is : told_by command family rest ≡ told

told-Tells : {command family : ℕ} {rest : List ℕ} {told : Option (List ℕ)} → Tells command family rest told → IsTold command family rest told
told-Tells (Tells.own family rest) = record { known = (refl, refl); long = omega arith; told_is = refl }
told-Tells (Tells.ipv4 source more len long) = record { known = (refl, refl); long = long; told_is = rw (take_at source more 4 len) refl }
told-Tells (Tells.ipv6 source more len long) = record { known = (refl, refl); long = long; told_is = rw (take_at source more 16 len) refl }
told-Tells (Tells.other family rest is_other) =
    let a = not_other family 0x11 is_other refl in
    let b = not_other family 0x21 is_other refl in
    record { known = (refl, rw (a, b) is_other); long = rw (a, b) (omega arith); told_is = rw (a, b) refl }

-- of a client's connection
Tells-client : (family : ℕ) (rest : List ℕ) → is_family 0x21 family ≡ true → least_rest 0x21 family ≤ length rest → Tells 0x21 family rest (told_by 0x21 family rest)
Tells-client family rest known long =
    elim (or_cases ((family == 0x11) || (family == 0x21)) (is_other_family family) known) [
      | inl tcp ↦ elim (or_cases (family == 0x11) (family == 0x21) tcp) [
        | inl four ↦
            let is4 = eqb-true family 0x11 four in
            let long4 : 12 ≤ length rest = subst (λ (f : ℕ). least_rest 0x21 f ≤ length rest) is4 long in
            let whole_rest = take-append-drop 4 rest in
            subst (λ (f : ℕ). Tells 0x21 f rest (told_by 0x21 f rest)) (sym is4)
            (subst (λ (r : List ℕ). Tells 0x21 0x11 r (Some (mapped_octets (take 4 rest)))) whole_rest
            (Tells.ipv4 (take 4 rest) (drop 4 rest) (length-take-le 4 rest (omega (arith, long4))) (rw whole_rest long4)))
        | inr six ↦
            let is6 = eqb-true family 0x21 six in
            let long6 : 36 ≤ length rest = subst (λ (f : ℕ). least_rest 0x21 f ≤ length rest) is6 long in
            let whole_rest = take-append-drop 16 rest in
            subst (λ (f : ℕ). Tells 0x21 f rest (told_by 0x21 f rest)) (sym is6)
            (subst (λ (r : List ℕ). Tells 0x21 0x21 r (Some (take 16 rest))) whole_rest
            (Tells.ipv6 (take 16 rest) (drop 16 rest) (length-take-le 16 rest (omega (arith, long6))) (rw whole_rest long6)))
      ]
      | inr is_other ↦
          let none : told_by 0x21 family rest ≡ None = rw (not_other family 0x11 is_other refl, not_other family 0x21 is_other refl) refl in
          subst (λ (t : Option (List ℕ)). Tells 0x21 family rest t) (sym none) (Tells.other family rest is_other)
    ]

Tells-told : (command family : ℕ) (rest : List ℕ) → IsKnown command family → least_rest command family ≤ length rest → Tells command family rest (told_by command family rest)
Tells-told command family rest known long =
    elim (or_cases (command == 0x20) (command == 0x21) known.0) [
      | inl own ↦ subst (λ (c : ℕ). Tells c family rest (told_by c family rest)) (sym (eqb-true command 0x20 own)) (Tells.own family rest)
      | inr client ↦
          let is = eqb-true command 0x21 client in
          subst (λ (c : ℕ). Tells c family rest (told_by c family rest)) (sym is)
          (Tells-client family rest (subst (λ (c : ℕ). is_family c family ≡ true) is known.1) (subst (λ (c : ℕ). least_rest c family ≤ length rest) is long))
    ]

-- ---- headers after their signature

record IsBody (bytes : List ℕ) (told : Option (List ℕ)) : Type 0 where
  command : ℕ
  family : ℕ
  rest : List ℕ
  spelled : bytes ≡ command ∷ family ∷ (length rest / 2 ^ 8) ∷ (length rest % 2 ^ 8) ∷ rest
  fits : length rest ≤ 520
  tells : Tells command family rest told

IsBody-told : (command family : ℕ) (rest : List ℕ) → IsKnown command family → least_rest command family ≤ length rest → length rest ≤ 520
    → IsBody (command ∷ family ∷ (length rest / 2 ^ 8) ∷ (length rest % 2 ^ 8) ∷ rest) (told_by command family rest)
IsBody-told command family rest known long fits =
    record { command = command; family = family; rest = rest; spelled = refl; fits = fits; tells = Tells-told command family rest known long }

IsHeader-body : {bytes : List ℕ} {told : Option (List ℕ)} (body : List ℕ) → bytes ≡ signature ++ body → IsBody body told → IsHeader bytes told
IsHeader-body body is b =
    record { command = b.command; family = b.family; rest = b.rest; spelled = is ∙ ap (λ (rest : List ℕ). signature ++ rest) b.spelled; fits = b.fits; tells = b.tells }

-- ---- the front of a header is read as one

-- what is read of a front of a header, where more of it is to come
abbrev pub IsFrontRead : Reading → List ℕ → Option (List ℕ) → Type 0
IsFrontRead answer more told = ((more ≡ []) × (answer ≡ whole told)) ⊎ ((count : ℕ) × (answer ≡ needs count) × (1 ≤ count) × (count ≤ length more))

front_rest : (command family : ℕ) (bytes more : List ℕ) (told : Option (List ℕ)) → length (bytes ++ more) ≤ 520 → Tells command family (bytes ++ more) told
    → IsFrontRead (reading_rest command family (length (bytes ++ more)) bytes) more told
unfolding reading_rest
front_rest command family bytes [] told fits tells =
    let t = told-Tells tells in
    let same = append-nil bytes in
    let len = ap length same in
    let long : least_rest command family ≤ length bytes = omega (arith, t.long) in
    let fit : length bytes ≤ 520 = omega (arith, fits) in
    inl (
      refl,
      rw (len, le-ltb 520 (length bytes) fit, le-ltb (length bytes) (least_rest command family) long, le-ltb (length bytes) (length bytes) (omega arith))
          (ap whole (ap (told_by command family) (sym same) ∙ t.told_is)),
    )
front_rest command family bytes (m ∷ more) told fits tells =
    let t = told-Tells tells in
    let len = length-append bytes (m ∷ more) in
    let all = length (bytes ++ m ∷ more) in
    inr (
      all - length bytes,
      rw (le-ltb 520 all fits, le-ltb all (least_rest command family) t.long, le-ltb all (length bytes) (omega (arith, len)), lt-ltb (length bytes) all (omega (arith, len))) refl,
      omega (arith, len),
      omega (arith, len),
    )

front_length : (command family : ℕ) (bytes more rest : List ℕ) (told : Option (List ℕ)) → length rest ≤ 520 → Tells command family rest told
    → bytes ++ more ≡ (length rest / 2 ^ 8) ∷ (length rest % 2 ^ 8) ∷ rest → IsFrontRead (reading_length command family bytes) more told
unfolding reading_length
front_length command family [] more rest told fits tells is = inr (2, refl, omega arith, omega (arith, ap length is))
front_length command family (high ∷ []) more rest told fits tells is =
    let h : high ≡ length rest / 2 ^ 8 = cc in
    let low : high * 2 ^ 8 ≤ 520 = omega (arith, h) in
    inr (1, rw (le-ltb 520 (high * 2 ^ 8) low) refl, omega arith, omega (arith, ap length is))
front_length command family (high ∷ low ∷ bytes) more rest told fits tells is =
    let h : high ≡ length rest / 2 ^ 8 = cc in
    let l : low ≡ length rest % 2 ^ 8 = cc in
    let r : bytes ++ more ≡ rest = cc in
    let len : high * 2 ^ 8 + low ≡ length (bytes ++ more) = omega (arith, h, l, ap length r) in
    rw len (front_rest command family bytes more told (rw r fits) (rw r tells))

front_command : (bytes more : List ℕ) (told : Option (List ℕ)) → IsBody (bytes ++ more) told → IsFrontRead (reading_command bytes) more told
unfolding reading_command reading_family
front_command [] more told body = inr (4, refl, omega arith, omega (arith, ap length body.spelled))
front_command (command ∷ []) more told body =
    let c : command ≡ body.command = let e = body.spelled in cc in
    let known : is_command command ≡ true = rw c (told-Tells body.tells).known.0 in
    inr (3, rw known refl, omega arith, omega (arith, ap length body.spelled))
front_command (command ∷ family ∷ bytes) more told body =
    let c : command ≡ body.command = let e = body.spelled in cc in
    let f : family ≡ body.family = let e = body.spelled in cc in
    let r : bytes ++ more ≡ (length body.rest / 2 ^ 8) ∷ (length body.rest % 2 ^ 8) ∷ body.rest = let e = body.spelled in cc in
    let known : IsKnown command family = rw (c, f) (told-Tells body.tells).known in
    rw (known.0, known.1) (front_length command family bytes more body.rest told body.fits (rw (c, f) body.tells) r)

front_behind : (missing bytes more body : List ℕ) (told : Option (List ℕ)) → IsBody body told → bytes ++ more ≡ missing ++ body → IsFrontRead (reading_behind missing bytes) more told
unfolding reading_behind
front_behind [] bytes more body told is e = front_command bytes more told (rw e is)
front_behind (next ∷ missing) [] more body told is e =
    let len : length more ≡ length (next ∷ missing) + length body = ap length e ∙ length-append (next ∷ missing) body in
    let four : 4 ≤ length body = omega (arith, ap length is.spelled) in
    inr (length (next ∷ missing) + 4, refl, omega arith, omega (arith, len, four))
front_behind (next ∷ missing) (byte ∷ bytes) more body told is e =
    let b : byte ≡ next = cc in
    let r : bytes ++ more ≡ missing ++ body = cc in
    rw (eq-eqb byte next b) (front_behind missing bytes more body told is r)

pub front_read : (bytes more : List ℕ) (told : Option (List ℕ)) → IsHeader (bytes ++ more) told → IsFrontRead (reading bytes) more told
unfolding reading
front_read bytes more told is =
    let body : IsBody (is.command ∷ is.family ∷ (length is.rest / 2 ^ 8) ∷ (length is.rest % 2 ^ 8) ∷ is.rest) told = record { command = is.command; family = is.family; rest = is.rest; spelled = refl; fits = is.fits; tells = is.tells } in
    front_behind signature bytes more (is.command ∷ is.family ∷ (length is.rest / 2 ^ 8) ∷ (length is.rest % 2 ^ 8) ∷ is.rest) told body is.spelled

-- ---- the signature, as far as it goes

signed : (missing rest : List ℕ) → reading_behind missing (missing ++ rest) ≡ reading_command rest
unfolding reading_behind
signed [] rest = refl
signed (next ∷ missing) rest = rw (eq-eqb next next refl) (signed missing rest)

pub read_signed : (bytes rest : List ℕ) → bytes ≡ signature ++ rest → reading bytes ≡ reading_command rest
unfolding reading
read_signed bytes rest is = ap (reading_behind signature) is ∙ signed signature rest

begun : (bytes more : List ℕ) → 1 ≤ length more → reading_behind (bytes ++ more) bytes ≡ needs (length more + 4)
unfolding reading_behind
begun [] [] some = absurd (omega arith)
begun [] (m ∷ more) some = refl
begun (byte ∷ bytes) more some = rw (eq-eqb byte byte refl) (begun bytes more some)

pub read_begun : (bytes more : List ℕ) → signature ≡ bytes ++ more → ((rest : List ℕ) → bytes ≡ signature ++ rest → ⊥) → reading bytes ≡ needs (16 - length bytes)
unfolding reading
read_begun bytes [] is not_all = absurd (not_all [] (sym (append-nil bytes) ∙ sym is ∙ sym (append-nil signature)))
read_begun bytes (m ∷ more) is not_all =
    let len : 12 ≡ length bytes + length (m ∷ more) = ap length is ∙ length-append bytes (m ∷ more) in
    let count : length (m ∷ more) + 4 ≡ 16 - length bytes = omega (arith, len) in
    ap (λ (s : List ℕ). reading_behind s bytes) is ∙ begun bytes (m ∷ more) (omega arith) ∙ ap needs count

unsigned : (missing bytes : List ℕ) → ((rest : List ℕ) → bytes ≡ missing ++ rest → ⊥) → ((rest : List ℕ) → missing ≡ bytes ++ rest → ⊥) → reading_behind missing bytes ≡ refused
unfolding reading_behind
unsigned [] bytes not_all not_begun = absurd (not_all bytes refl)
unsigned (next ∷ missing) [] not_all not_begun = absurd (not_begun (next ∷ missing) refl)
unsigned (next ∷ missing) (byte ∷ bytes) not_all not_begun =
    elim (cases_eq byte next) [
      | inl same ↦ rw (eq-eqb byte next same)
          (unsigned missing bytes
          (λ rest e. not_all rest (rw (same, e) refl))
          (λ rest e. not_begun rest (rw (same, e) refl)))
      | inr other ↦ rw (ne_eqb byte next other) refl
    ]

pub read_unsigned : (bytes : List ℕ) → ((rest : List ℕ) → bytes ≡ signature ++ rest → ⊥) → ((rest : List ℕ) → signature ≡ bytes ++ rest → ⊥) → reading bytes ≡ refused
unfolding reading
read_unsigned bytes not_all not_begun = unsigned signature bytes not_all not_begun

-- ---- what is read as a front is one

pub kept : (test : Bool) (x answer : Reading) → (refused ≡ answer → ⊥) → (if test then x else refused) ≡ answer → (test ≡ true) × (x ≡ answer)
kept true x answer never e = (refl, e)
kept false x answer never e = absurd (never e)

pub passed : (test : Bool) (x answer : Reading) → (refused ≡ answer → ⊥) → (if test then refused else x) ≡ answer → (test ≡ false) × (x ≡ answer)
passed true x answer never e = absurd (never e)
passed false x answer never e = (refl, e)

pub not_needs : (count : ℕ) → refused ≡ needs count → ⊥
not_needs count e = cc

not_whole : (told : Option (List ℕ)) → refused ≡ whole told → ⊥
not_whole told e = cc

-- what has come after the length
pub record IsRestRead (command family len : ℕ) (bytes : List ℕ) (answer : Reading) : Type 0 where
  pub fits : len ≤ 520
  pub long : least_rest command family ≤ len
  pub within : length bytes ≤ len
  pub answer_is : (if nat_lt (length bytes) len then needs (len - length bytes) else whole (told_by command family bytes)) ≡ answer

pub rest_read : (command family len : ℕ) (bytes : List ℕ) (answer : Reading) → (refused ≡ answer → ⊥) → reading_rest command family len bytes ≡ answer → IsRestRead command family len bytes answer
unfolding reading_rest
rest_read command family len bytes answer never e =
    let a = passed (nat_lt 520 len) _ answer never e in
    let b = passed (nat_lt len (least_rest command family)) _ answer never a.1 in
    let c = passed (nat_lt len (length bytes)) _ answer never b.1 in
    record { fits = ltb-false 520 len a.0; long = ltb-false len (least_rest command family) b.0; within = ltb-false len (length bytes) c.0; answer_is = c.1 }

pub needs_is : (m n : ℕ) → needs m ≡ needs n → m ≡ n
needs_is m n e = cc

pub whole_is : (m n : Option (List ℕ)) → whole m ≡ whole n → m ≡ n
whole_is m n e = cc

pub needs_more : (test : Bool) (m n : ℕ) (told : Option (List ℕ)) → (if test then needs m else whole told) ≡ needs n → (test ≡ true) × (m ≡ n)
needs_more true m n told e = (refl, needs_is m n e)
needs_more false m n told e = absurd cc

needs_none : (test : Bool) (m : ℕ) (told all : Option (List ℕ)) → (if test then needs m else whole told) ≡ whole all → (test ≡ false) × (told ≡ all)
needs_none true m told all e = absurd cc
needs_none false m told all e = (refl, whole_is told all e)

zeros_are_bytes : (count : ℕ) → AreBytes (replicate count 0)
zeros_are_bytes count = All-replicate (λ (byte : ℕ). byte < 2 ^ 8) count 0 (omega arith)

-- the lower byte of a length, and zeros
low_and_zeros : (len : ℕ) → AreBytes ((len % 2 ^ 8) ∷ replicate len 0)
low_and_zeros len = All-cons (λ (byte : ℕ). byte < 2 ^ 8) (len % 2 ^ 8) (replicate len 0) (omega arith) (zeros_are_bytes len)

-- both bytes of a length, and zeros
length_and_zeros : (len : ℕ) → len ≤ 520 → AreBytes ((len / 2 ^ 8) ∷ (len % 2 ^ 8) ∷ replicate len 0)
length_and_zeros len fits = All-cons (λ (byte : ℕ). byte < 2 ^ 8) (len / 2 ^ 8) ((len % 2 ^ 8) ∷ replicate len 0) (omega arith) (low_and_zeros len)

three_are_bytes : AreBytes (0 ∷ 0 ∷ 0 ∷ [])
three_are_bytes = zeros_are_bytes 3

four_are_bytes : AreBytes (0x20 ∷ 0 ∷ 0 ∷ 0 ∷ [])
four_are_bytes = All-cons (λ (byte : ℕ). byte < 2 ^ 8) 0x20 (0 ∷ 0 ∷ 0 ∷ []) (omega arith) three_are_bytes

signature_are_bytes : AreBytes signature
signature_are_bytes = All-from_recursion (λ (byte : ℕ). byte < 2 ^ 8) signature (search arith)

AreBytes-behind : (front bytes : List ℕ) → AreBytes (front ++ bytes) → AreBytes bytes
AreBytes-behind [] bytes are = are
AreBytes-behind (b ∷ front) bytes are = AreBytes-behind front bytes (All-tail (λ (byte : ℕ). byte < 2 ^ 8) b (front ++ bytes) are)

-- bytes of a signature, and four that are of the relay's own connection
lacking_are_bytes : (bytes more : List ℕ) → signature ≡ bytes ++ more → AreBytes (more ++ 0x20 ∷ 0 ∷ 0 ∷ 0 ∷ [])
lacking_are_bytes bytes more is =
    All-append (λ (byte : ℕ). byte < 2 ^ 8) more (0x20 ∷ 0 ∷ 0 ∷ 0 ∷ []) (AreBytes-behind bytes more (subst AreBytes is signature_are_bytes)) four_are_bytes

-- a body that begins with these bytes
record HasBody (bytes : List ℕ) (count : ℕ) : Type 0 where
  more : List ℕ
  told : Option (List ℕ)
  are_bytes : AreBytes more
  body : IsBody (bytes ++ more) told
  at_least_one : 1 ≤ count
  fits : length bytes + count ≤ 524

-- after the whole length
body_rest : (command family high low count : ℕ) (bytes : List ℕ) → IsKnown command family → low < 256
    → reading_rest command family (high * 2 ^ 8 + low) bytes ≡ needs count → HasBody (command ∷ family ∷ high ∷ low ∷ bytes) count
body_rest command family high low count bytes known lt e =
    let r = rest_read command family (high * 2 ^ 8 + low) bytes (needs count) (not_needs count) e in
    let n = needs_more (nat_lt (length bytes) (high * 2 ^ 8 + low)) (high * 2 ^ 8 + low - length bytes) count (told_by command family bytes) r.answer_is in
    let less = ltb-true (length bytes) (high * 2 ^ 8 + low) n.0 in
    let zeros : List ℕ = replicate count 0 in
    let len : length (bytes ++ zeros) ≡ high * 2 ^ 8 + low = length-append bytes zeros ∙ omega (arith, length-replicate {A = ℕ} count 0, n.1, less) in
    let h : length (bytes ++ zeros) / 2 ^ 8 ≡ high = omega (arith, len) in
    let l : length (bytes ++ zeros) % 2 ^ 8 ≡ low = omega (arith, len) in
    let body = IsBody-told command family (bytes ++ zeros) known (omega (arith, len, r.long)) (omega (arith, len, r.fits)) in
    record {
      more = zeros;
      are_bytes = zeros_are_bytes count;
      told = told_by command family (bytes ++ zeros);
      body = subst (λ (k : ℕ). IsBody (command ∷ family ∷ high ∷ k ∷ (bytes ++ zeros)) (told_by command family (bytes ++ zeros))) l
          (subst (λ (k : ℕ). IsBody (command ∷ family ∷ k ∷ (length (bytes ++ zeros) % 2 ^ 8) ∷ (bytes ++ zeros)) (told_by command family (bytes ++ zeros))) h body);
      at_least_one = omega (arith, n.1, less);
      fits = omega (arith, n.1, less, r.fits);
    }

least-small : (command family : ℕ) → least_rest command family ≤ 36
least-small command family =
    elim (cases_Bool (command == 0x21)) [
      | inl client ↦ elim (cases_Bool (family == 0x11)) [
        | inl is4 ↦ rw (client, is4) (omega arith)
        | inr no4 ↦ elim (cases_Bool (family == 0x21)) [
          | inl is6 ↦ rw (client, no4, is6) (omega arith)
          | inr no6 ↦ rw (client, no4, no6) (omega arith)
        ]
      ]
      | inr own ↦ rw own (omega arith)
    ]

-- a body of n zeros after the length
body_zeros : (command family len : ℕ) → IsKnown command family → least_rest command family ≤ len → len ≤ 520
    → IsBody (command ∷ family ∷ (len / 2 ^ 8) ∷ (len % 2 ^ 8) ∷ replicate len 0) (told_by command family (replicate len 0))
body_zeros command family len known long fits =
    let is : length (replicate len 0) ≡ len = length-replicate {A = ℕ} len 0 in
    subst (λ (k : ℕ). IsBody (command ∷ family ∷ (k / 2 ^ 8) ∷ (k % 2 ^ 8) ∷ replicate len 0) (told_by command family (replicate len 0))) is
    (IsBody-told command family (replicate len 0) known (omega (arith, is, long)) (omega (arith, is, fits)))

-- after the higher byte of the length
body_high : (command family high count : ℕ) → IsKnown command family → reading_high high ≡ needs count → HasBody (command ∷ family ∷ high ∷ []) count
body_high command family high count known e =
    let p = passed (nat_lt 520 (high * 2 ^ 8)) (needs 1) (needs count) (not_needs count) e in
    let small = ltb-false 520 (high * 2 ^ 8) p.0 in
    let one = needs_is 1 count p.1 in
    let low = 36 - 36 * high in
    let len = high * 2 ^ 8 + (36 - 36 * high) in
    let least = least-small command family in
    let h : (high * 2 ^ 8 + (36 - 36 * high)) / 2 ^ 8 ≡ high = omega arith in
    record {
      more = (len % 2 ^ 8) ∷ replicate len 0;
      are_bytes = low_and_zeros len;
      told = told_by command family (replicate len 0);
      body = subst (λ (k : ℕ). IsBody (command ∷ family ∷ k ∷ (len % 2 ^ 8) ∷ replicate len 0) (told_by command family (replicate len 0))) h
          (body_zeros command family len known (omega (arith, least, small)) (omega (arith, small)));
      at_least_one = omega (arith, one);
      fits = omega (arith, one);
    }

body_length : (command family count : ℕ) (bytes : List ℕ) → IsKnown command family → IsBytes bytes → reading_length command family bytes ≡ needs count → HasBody (command ∷ family ∷ bytes) count
unfolding reading_length
body_length command family count [] known fits e =
    let two = needs_is 2 count e in
    let len = least_rest command family in
    let least = least-small command family in
    record {
      more = (len / 2 ^ 8) ∷ (len % 2 ^ 8) ∷ replicate len 0;
      are_bytes = length_and_zeros len (omega (arith, least));
      told = told_by command family (replicate len 0);
      body = body_zeros command family len known (omega arith) (omega (arith, least));
      at_least_one = omega (arith, two);
      fits = omega (arith, two);
    }
body_length command family count (high ∷ []) known fits e = body_high command family high count known e
body_length command family count (high ∷ low ∷ bytes) known fits e = body_rest command family high low count bytes known (fits 1) e

zero_family : (command : ℕ) → is_family command 0 ≡ true
zero_family command =
    elim (cases_Bool (command == 0x21)) [
      | inl client ↦ rw client refl
      | inr own ↦ rw own refl
    ]

body_zero_family : (command : ℕ) → is_command command ≡ true → IsBody (command ∷ 0 ∷ 0 ∷ 0 ∷ []) (told_by command 0 [])
body_zero_family command known =
    elim (cases_Bool (command == 0x21)) [
      | inl client ↦ IsBody-told command 0 [] (known, zero_family command) (rw client (omega arith)) (omega arith)
      | inr own ↦ IsBody-told command 0 [] (known, zero_family command) (rw own (omega arith)) (omega arith)
    ]

body_command : (count : ℕ) (bytes : List ℕ) → IsBytes bytes → reading_command bytes ≡ needs count → HasBody bytes count
unfolding reading_command reading_family
body_command count [] fits e =
    let four = needs_is 4 count e in
    record { more = 0x20 ∷ 0 ∷ 0 ∷ 0 ∷ []; are_bytes = four_are_bytes; told = told_by 0x20 0 []; body = body_zero_family 0x20 refl; at_least_one = omega (arith, four); fits = omega (arith, four) }
body_command count (command ∷ []) fits e =
    let k = kept (is_command command) (needs 3) (needs count) (not_needs count) e in
    let three = needs_is 3 count k.1 in
    record { more = 0 ∷ 0 ∷ 0 ∷ []; are_bytes = three_are_bytes; told = told_by command 0 []; body = body_zero_family command k.0; at_least_one = omega (arith, three); fits = omega (arith, three) }
body_command count (command ∷ family ∷ bytes) fits e =
    let k = kept (is_command command) _ (needs count) (not_needs count) e in
    let f = kept (is_family command family) (reading_length command family bytes) (needs count) (not_needs count) k.1 in
    body_length command family count bytes (k.0, f.0) (λ i. IsBytes-behind (command ∷ family ∷ []) bytes fits i) f.1

-- after the length, of a whole header
whole_rest : (command family high low : ℕ) (bytes : List ℕ) (told : Option (List ℕ)) → IsKnown command family → low < 256
    → reading_rest command family (high * 2 ^ 8 + low) bytes ≡ whole told → IsBody (command ∷ family ∷ high ∷ low ∷ bytes) told
whole_rest command family high low bytes told known lt e =
    let r = rest_read command family (high * 2 ^ 8 + low) bytes (whole told) (not_whole told) e in
    let n = needs_none (nat_lt (length bytes) (high * 2 ^ 8 + low)) (high * 2 ^ 8 + low - length bytes) (told_by command family bytes) told r.answer_is in
    let ge = ltb-false (length bytes) (high * 2 ^ 8 + low) n.0 in
    let within = r.within in
    let len : length bytes ≡ high * 2 ^ 8 + low = omega (arith, ge, within) in
    let h : length bytes / 2 ^ 8 ≡ high = omega (arith, len) in
    let l : length bytes % 2 ^ 8 ≡ low = omega (arith, len) in
    let body = IsBody-told command family bytes known (omega (arith, len, r.long)) (omega (arith, len, r.fits)) in
    subst (λ (t : Option (List ℕ)). IsBody (command ∷ family ∷ high ∷ low ∷ bytes) t) n.1
    (subst (λ (k : ℕ). IsBody (command ∷ family ∷ high ∷ k ∷ bytes) (told_by command family bytes)) l
    (subst (λ (k : ℕ). IsBody (command ∷ family ∷ k ∷ (length bytes % 2 ^ 8) ∷ bytes) (told_by command family bytes)) h body))

whole_high : (high : ℕ) (told : Option (List ℕ)) → reading_high high ≡ whole told → ⊥
whole_high high told e = let p = passed (nat_lt 520 (high * 2 ^ 8)) (needs 1) (whole told) (not_whole told) e in let q = p.1 in cc

whole_length : (command family : ℕ) (bytes : List ℕ) (told : Option (List ℕ)) → IsKnown command family → IsBytes bytes → reading_length command family bytes ≡ whole told → IsBody (command ∷ family ∷ bytes) told
unfolding reading_length
whole_length command family [] told known fits e = absurd cc
whole_length command family (high ∷ []) told known fits e = absurd (whole_high high told e)
whole_length command family (high ∷ low ∷ bytes) told known fits e = whole_rest command family high low bytes told known (fits 1) e

whole_command : (bytes : List ℕ) (told : Option (List ℕ)) → IsBytes bytes → reading_command bytes ≡ whole told → IsBody bytes told
unfolding reading_command reading_family
whole_command [] told fits e = absurd cc
whole_command (command ∷ []) told fits e =
    let k = kept (is_command command) (needs 3) (whole told) (not_whole told) e in
    absurd (let q = k.1 in cc)
whole_command (command ∷ family ∷ bytes) told fits e =
    let k = kept (is_command command) _ (whole told) (not_whole told) e in
    let f = kept (is_family command family) (reading_length command family bytes) (whole told) (not_whole told) k.1 in
    whole_length command family bytes told (k.0, f.0) (λ i. IsBytes-behind (command ∷ family ∷ []) bytes fits i) f.1

-- the signature is there, or bytes of it are missing
abbrev pub IsBehindRead : List ℕ → List ℕ → Reading → Type 0
IsBehindRead missing bytes answer =
    ((rest : List ℕ) × (bytes ≡ missing ++ rest) × (reading_command rest ≡ answer))
    ⊎ ((more : List ℕ) × (missing ≡ bytes ++ more) × (1 ≤ length more) × (needs (length more + 4) ≡ answer))

pub behind_read : (missing bytes : List ℕ) (answer : Reading) → (refused ≡ answer → ⊥) → reading_behind missing bytes ≡ answer → IsBehindRead missing bytes answer
unfolding reading_behind
behind_read [] bytes answer never e = inl (bytes, refl, e)
behind_read (next ∷ missing) [] answer never e = inr (next ∷ missing, refl, omega arith, e)
behind_read (next ∷ missing) (byte ∷ bytes) answer never e =
    let k = kept (byte == next) (reading_behind missing bytes) answer never e in
    let same = eqb-true byte next k.0 in
    elim (behind_read missing bytes answer never k.1) [
      | inl there ↦ inl (there.0, rw (same, there.1) refl, there.2)
      | inr lacks ↦ inr (lacks.0, rw (same, lacks.1) refl, lacks.2, lacks.3)
    ]

pub read_whole : (bytes : List ℕ) (told : Option (List ℕ)) → IsBytes bytes → reading bytes ≡ whole told → IsHeader bytes told
unfolding reading
read_whole bytes told fits e =
    elim (behind_read signature bytes (whole told) (not_whole told) e) [
      | inl there ↦ IsHeader-body there.0 there.1 (whole_command there.0 told (IsBytes-behind signature there.0 (subst IsBytes there.1 fits)) there.2)
      | inr lacks ↦ absurd (let q = lacks.3 in cc)
    ]

pub whole_read : (bytes : List ℕ) (told : Option (List ℕ)) → IsHeader bytes told → reading bytes ≡ whole told
whole_read bytes told is =
    elim (front_read bytes [] told (rw (append-nil bytes) is)) [
      | inl all ↦ all.1
      | inr some ↦ absurd (omega (arith, some.2, some.3))
    ]

-- a header whose missing bytes of the signature come, and four bytes that are of the relay's own connection
short_header : (bytes more : List ℕ) → signature ≡ bytes ++ more → IsHeader (bytes ++ (more ++ 0x20 ∷ 0 ∷ 0 ∷ 0 ∷ [])) (told_by 0x20 0 [])
short_header bytes more is =
    IsHeader-body (0x20 ∷ 0 ∷ 0 ∷ 0 ∷ []) (sym (append_assoc bytes more (0x20 ∷ 0 ∷ 0 ∷ 0 ∷ [])) ∙ ap (λ (s : List ℕ). s ++ 0x20 ∷ 0 ∷ 0 ∷ 0 ∷ []) (sym is)) (body_zero_family 0x20 refl)

least_more : (bytes : List ℕ) (count : ℕ) → reading bytes ≡ needs count → (more : List ℕ) (told : Option (List ℕ)) → IsHeader (bytes ++ more) told → count ≤ length more
least_more bytes count e more told is =
    elim (front_read bytes more told is) [
      | inl all ↦ absurd (let q = sym e ∙ all.1 in cc)
      | inr some ↦ let n = needs_is some.0 count (sym some.1 ∙ e) in omega (arith, n, some.3)
    ]

pub read_needs : (bytes : List ℕ) (count : ℕ) → IsBytes bytes → reading bytes ≡ needs count → LacksBytes bytes count
unfolding reading
read_needs bytes count fits e =
    elim (behind_read signature bytes (needs count) (not_needs count) e) [
      | inl there ↦
          let has = body_command count there.0 (IsBytes-behind signature there.0 (subst IsBytes there.1 fits)) there.2 in
          let len : length bytes ≡ 12 + length there.0 = ap length there.1 ∙ length-append signature there.0 in
          record {
            more = has.more;
            are_bytes = has.are_bytes;
            told = has.told;
            header = IsHeader-body (there.0 ++ has.more) (ap (λ (b : List ℕ). b ++ has.more) there.1 ∙ append_assoc signature there.0 has.more) has.body;
            at_least_one = has.at_least_one;
            at_least = least_more bytes count e;
            fits = omega (arith, len, has.fits);
          }
      | inr lacks ↦
          let n = needs_is (length lacks.0 + 4) count lacks.3 in
          let len : 12 ≡ length bytes + length lacks.0 = ap length lacks.1 ∙ length-append bytes lacks.0 in
          record {
            more = lacks.0 ++ 0x20 ∷ 0 ∷ 0 ∷ 0 ∷ [];
            are_bytes = lacking_are_bytes bytes lacks.0 lacks.1;
            told = told_by 0x20 0 [];
            header = short_header bytes lacks.0 lacks.1;
            at_least_one = omega (arith, n);
            at_least = least_more bytes count e;
            fits = omega (arith, n, len);
          }
    ]

pub read_refused : (bytes : List ℕ) → reading bytes ≡ refused → BeginsNone bytes
read_refused bytes e = λ more told is.
    elim (front_read bytes more told is) [
      | inl all ↦ let q = sym e ∙ all.1 in absurd cc
      | inr some ↦ let q = sym e ∙ some.1 in absurd cc
    ]

pub refused_read : (bytes : List ℕ) → IsBytes bytes → BeginsNone bytes → reading bytes ≡ refused
refused_read bytes fits none = by_answer (reading bytes) refl
  where
    by_answer : (answer : Reading) → reading bytes ≡ answer → reading bytes ≡ refused
    by_answer (needs count) e = let lacks = read_needs bytes count fits e in absurd (none lacks.more lacks.told lacks.header)
    by_answer (whole told) e = absurd (none [] told (rw (append-nil bytes) (read_whole bytes told fits e)))
    by_answer refused e = e
