-- Who is below a channel by the arguments of `sub`.
use Rattle.mum_part_laws.proofs.Common.{◌≡◌, ◌⊎◌, ℕ, ◌+◌, ◌-◌, ◌<◌, ◌≤◌, ◌==◌, ◌&&◌, Bool, true, false, cond, List, [], ◌∷◌, ◌++◌, Option, Some, None, inl, inr, refl, sym, ap, subst, ◌∙◌, arith, codes, length, nat_le, nat_lt, is_ascii_digit, Contains, list_all, slice_get, digits_value, and_from, and_parts, eq-eqb, false≢true, nat_tests, none-some, same_Some, ChannelId, Actor, PolicyMap, meets, member, asked_by, is_built_in_without_members, meaning, subtree_or_nobody, understood_after, is_at_least, is_at_most, is_in_span, is_number, is_on, offset_of, separated, signed, span_by, span_of, AreDigits, IsArgument, IsAtLeast, IsAtMost, IsBelow, IsNoArgument, Steps, SubIsElseOfNobody, SubIsOfWays, argument, arguments_in, place_from}
use Rattle.mum_policy.specs.Subtree.{is_below}
use Rattle.mum_part_laws.proofs.Chains.{Tells, tells_and, tells_any, tells_eq, tells_le, tells_so}

skip : {X : Type 0} (b : Bool) (x y : X) → b ≡ false → cond b x y ≡ y
skip b x y off = ap (λ (t : Bool). cond t x y) off

take_so : {X : Type 0} (b : Bool) (x y : X) → b ≡ true → cond b x y ≡ x
take_so b x y on = ap (λ (t : Bool). cond t x y) on

-- ---- arguments

digit_low : (byte : ℕ) → is_ascii_digit byte ≡ true → (byte == 45) ≡ false
digit_low byte is = grind (arith, nat_tests)

within : (a b : ℕ) → a ≤ b → nat_le a b ≡ true
within a b below = grind (arith, nat_tests)

within_back : (a b : ℕ) → nat_le a b ≡ true → a ≤ b
within_back a b is = grind (arith, nat_tests)

number_is : (digits : List ℕ) (n : ℕ) → AreDigits digits n → is_number digits ≡ true
number_is digits n are =
    and_from (nat_le 1 (length digits) && nat_le (length digits) 4) (list_all is_ascii_digit digits)
    (and_from (nat_le 1 (length digits)) (nat_le (length digits) 4) (within 1 (length digits) are.0) (within (length digits) 4 are.1)) are.2

digits_are : (digits : List ℕ) → is_number digits ≡ true → AreDigits digits (digits_value 10 digits)
digits_are digits is =
    let both = and_parts (nat_le 1 (length digits) && nat_le (length digits) 4) (list_all is_ascii_digit digits) is in
    let counts = and_parts (nat_le 1 (length digits)) (nat_le (length digits) 4) both.0 in
    (within_back 1 (length digits) counts.0, within_back (length digits) 4 counts.1, both.1, refl)

signed_is : (up : Bool) (digits : List ℕ) (n : ℕ) → AreDigits digits n → signed up digits ≡ Some (record { negative = up; size = n })
signed_is up digits n are =
    take_so (is_number digits) _ _ (number_is digits n are) ∙ ap (λ (m : ℕ). Some (record { negative = up; size = m })) are.3

read : (default : ℕ) (text : List ℕ) (steps : Steps) → IsArgument default text steps → offset_of default text ≡ Some (record { negative = steps.up; size = steps.count })
unfolding offset_of
read default [] steps is =
    ap (λ (b : Bool). Some (record { negative = b; size = default })) (sym is.0) ∙ ap (λ (n : ℕ). Some (record { negative = steps.up; size = n })) (sym is.1)
read default (byte ∷ rest) steps is = elim is as (λ _. offset_of default (byte ∷ rest) ≡ Some (record { negative = steps.up; size = steps.count })) [
  | inl down ↦
      skip (byte == 45) _ _ (digit_low byte (and_parts (is_ascii_digit byte) (list_all is_ascii_digit rest) down.1.2).0)
      ∙ signed_is false (byte ∷ rest) steps.count down.1 ∙ ap (λ (b : Bool). Some (record { negative = b; size = steps.count })) (sym down.0)
  | inr up ↦
      take_so (byte == 45) _ _ (eq-eqb byte 45 up.1) ∙ signed_is true rest steps.count up.2
      ∙ ap (λ (b : Bool). Some (record { negative = b; size = steps.count })) (sym up.0)
]

no_signed : (up : Bool) (digits : List ℕ) → (AreDigits digits (digits_value 10 digits) → ⊥) → signed up digits ≡ None
no_signed up digits none = step (is_number digits) refl
  where
    step : (b : Bool) → is_number digits ≡ b → signed up digits ≡ None
    step false off = skip (is_number digits) _ _ off
    step true on = absurd (none (digits_are digits on))

no_offset : (default : ℕ) (text : List ℕ) → IsNoArgument default text → offset_of default text ≡ None
unfolding offset_of
no_offset default [] none = absurd (none (record { up = false; count = default }) (refl, refl))
no_offset default (byte ∷ rest) none = step (byte == 45) (tells_eq byte 45)
  where
    step : (b : Bool) → Tells b (byte ≡ 45) → cond b (signed true rest) (signed false (byte ∷ rest)) ≡ None
    step true minus = no_signed true rest (λ digits. none (record { up = true; count = digits_value 10 rest }) (inr (refl, minus.so refl, digits)))
    step false minus = no_signed false (byte ∷ rest) (λ digits. none (record { up = false; count = digits_value 10 (byte ∷ rest) }) (inl (refl, digits)))

-- ---- spans

no_more : (n : ℕ) → n ≤ 3 → nat_lt 3 n ≡ false
no_more n few = grind (arith, nat_tests)

more : (n : ℕ) → 3 < n → nat_lt 3 n ≡ true
more n many = grind (arith, nat_tests)

span_is : (list : List ℕ) (from least most : Steps) → length (arguments_in list) ≤ 3
    → IsArgument 0 (argument list 0) from → IsArgument 1 (argument list 1) least → IsArgument 1000 (argument list 2) most
    → span_of (separated list)
    ≡ span_by (Some (record { negative = from.up; size = from.count })) (Some (record { negative = least.up; size = least.count })) (Some (record { negative = most.up; size = most.count }))
unfolding span_of
span_is list from least most few one two three =
    skip (nat_lt 3 (length (separated list))) None _ (no_more (length (separated list)) few)
    ∙ ap (λ o. span_by o (offset_of 1 (argument list 1)) (offset_of 1000 (argument list 2))) (read 0 (argument list 0) from one)
    ∙ ap (λ o. span_by (Some (record { negative = from.up; size = from.count })) o (offset_of 1000 (argument list 2))) (read 1 (argument list 1) least two)
    ∙ ap (λ o. span_by (Some (record { negative = from.up; size = from.count })) (Some (record { negative = least.up; size = least.count })) o) (read 1000 (argument list 2) most three)

nothing : {X : Type 0} (b : Bool) → cond {A = Option X} b None None ≡ None
nothing true = refl
nothing false = refl

abbrev IsElse : List ℕ → Type 0
IsElse list = (3 < length (arguments_in list)) ⊎ IsNoArgument 0 (argument list 0) ⊎ IsNoArgument 1 (argument list 1) ⊎ IsNoArgument 1000 (argument list 2)

no_span : (list : List ℕ) → IsElse list → span_of (separated list) ≡ None
unfolding span_of
no_span list either =
    let many : Bool = nat_lt 3 (length (separated list)) in
    elim either as (λ _. span_of (separated list) ≡ None) [
      | inl above ↦ take_so many None _ (more (length (separated list)) above)
      | inr rest ↦ (elim rest as (λ _. span_of (separated list) ≡ None) [
        | inl none ↦ ap (λ o. cond many None (span_by o (offset_of 1 (argument list 1)) (offset_of 1000 (argument list 2)))) (no_offset 0 (argument list 0) none) ∙ nothing many
        | inr last ↦ (elim last as (λ _. span_of (separated list) ≡ None) [
          | inl none ↦
              ap (λ o. cond many None (span_by (offset_of 0 (argument list 0)) o (offset_of 1000 (argument list 2)))) (no_offset 1 (argument list 1) none)
              ∙ ap (λ o. cond many None o)
              (elim (offset_of 0 (argument list 0)) as (λ o. span_by o None (offset_of 1000 (argument list 2)) ≡ None) [ None ↦ refl | Some one ↦ refl ])
              ∙ nothing many
          | inr none ↦
              ap (λ o. cond many None (span_by (offset_of 0 (argument list 0)) (offset_of 1 (argument list 1)) o)) (no_offset 1000 (argument list 2) none)
              ∙ ap (λ o. cond many None o)
              (elim (offset_of 0 (argument list 0)) as (λ o. span_by o (offset_of 1 (argument list 1)) None ≡ None) [
                | None ↦ refl
                | Some one ↦ (elim (offset_of 1 (argument list 1)) as (λ o. span_by (Some one) o None ≡ None) [ None ↦ refl | Some other ↦ refl ])
              ])
              ∙ nothing many
        ])
      ])
    ]

-- ---- who is below

on : (home : List ChannelId) (found : Option ChannelId) → Tells (is_on home found) ((top : ChannelId) × (found ≡ Some top) × ((one : ChannelId) × Contains home one × (one.0 ≡ top.0)))
on home None = record { so = λ is. absurd (false≢true is); not_so = λ _ some. none-some some.0 some.1 }
on home (Some channel) =
    tells_so (is_on home (Some channel))
    (λ (is : (one : ChannelId) × Contains home one × (one.0 ≡ channel.0)). (channel, refl, is))
    (λ (some : (top : ChannelId) × (Some channel ≡ Some top) × ((one : ChannelId) × Contains home one × (one.0 ≡ top.0))).
    subst (λ (top : ChannelId). (one : ChannelId) × Contains home one × (one.0 ≡ top.0)) (sym (same_Some channel some.0 some.1)) some.2)
    (tells_any (λ (one : ChannelId). one.0 == channel.0) (λ (one : ChannelId). one.0 ≡ channel.0) (λ one. tells_eq one.0 channel.0) home)

at_least : (up : Bool) (count place depth : ℕ) → Tells (is_at_least depth place (record { negative = up; size = count })) (IsAtLeast up count place depth)
at_least false count place depth = tells_le (place + count) depth
at_least true count place depth = tells_le place (depth + count)

at_most : (up : Bool) (count place depth : ℕ) → Tells (is_at_most depth place (record { negative = up; size = count })) (IsAtMost up count place depth)
at_most false count place depth = tells_le depth (place + count)
at_most true count place depth = tells_le (depth + count) place

-- whether the session is in a span
abbrev in_span : List ChannelId → ℕ → Steps → Steps → Steps → List ChannelId → Bool
in_span path acl_at from least most home =
    is_in_span path acl_at (Some (record {
      from = record { negative = from.up; size = from.count };
      least = record { negative = least.up; size = least.count };
      most = record { negative = most.up; size = most.count };
    })) home

below : (path home : List ChannelId) (acl_at : ℕ) (from least most : Steps) → Tells (in_span path acl_at from least most home) (IsBelow path home (place_from acl_at from) least most)
unfolding is_below
below path home acl_at from least most =
    let place : ℕ = place_from acl_at from in
    let depth : ℕ = length home - 1 in
    let far : Bool = is_at_least depth place (record { negative = least.up; size = least.count }) in
    let near : Bool = is_at_most depth place (record { negative = most.up; size = most.count }) in
    tells_so (is_on home (slice_get path place) && far && near)
    (λ (is : (((top : ChannelId) × (slice_get path place ≡ Some top) × ((one : ChannelId) × Contains home one × (one.0 ≡ top.0))) × IsAtLeast least.up least.count place depth)
    × IsAtMost most.up most.count place depth).
    record { top = is.0.0.0; at = is.0.0.1; on_way = is.0.0.2; far = is.0.1; near = is.1 })
    (λ (is : IsBelow path home place least most). (((is.top, is.at, is.on_way), is.far), is.near))
    (tells_and (is_on home (slice_get path place) && far) near
    (tells_and (is_on home (slice_get path place)) far (on home (slice_get path place)) (at_least least.up least.count place depth))
    (at_most most.up most.count place depth))

sub_asks : (policies : PolicyMap) (path : List ChannelId) (acl_at : ℕ) (who : Actor) (list : List ℕ)
    → member policies path acl_at (codes "sub," ++ list) who ≡ meets policies (record { path = path; acl_at = acl_at }) false who (subtree_or_nobody (span_of (separated list)))
unfolding member understood_after asked_by meaning is_built_in_without_members
sub_asks policies path acl_at who list = refl

met_in : (policies : PolicyMap) (path : List ChannelId) (acl_at : ℕ) (who : Actor) (arguments : List (List ℕ))
    → meets policies (record { path = path; acl_at = acl_at }) false who (subtree_or_nobody (span_of arguments)) ≡ is_in_span path acl_at (span_of arguments) who.home
unfolding meets
met_in policies path acl_at who arguments =
    elim (span_of arguments) as (λ o. meets policies (record { path = path; acl_at = acl_at }) false who (subtree_or_nobody o) ≡ is_in_span path acl_at o who.home) [ None ↦ refl | Some one ↦ refl ]

sub_is : (policies : PolicyMap) (path : List ChannelId) (acl_at : ℕ) (who : Actor) (list : List ℕ)
    → member policies path acl_at (codes "sub," ++ list) who ≡ is_in_span path acl_at (span_of (separated list)) who.home
sub_is policies path acl_at who list = sub_asks policies path acl_at who list ∙ met_in policies path acl_at who (separated list)

-- ---- the laws

exactly : {Fact : Type 0} (b : Bool) → Tells b Fact → (b ≡ true → Fact) × (Fact → b ≡ true)
exactly true tells = (tells.so, (λ _. refl))
exactly false tells = (tells.so, (λ fact. absurd (tells.not_so refl fact)))

pub sub_is_of_ways_lem : SubIsOfWays
sub_is_of_ways_lem policies path acl_at who list from least most few one two three =
    let same : member policies path acl_at (codes "sub," ++ list) who ≡ in_span path acl_at from least most who.home =
    sub_is policies path acl_at who list ∙ ap (λ o. is_in_span path acl_at o who.home) (span_is list from least most few one two three) in
    let both = exactly (in_span path acl_at from least most who.home) (below path who.home acl_at from least most) in
    ((λ is. both.0 (sym same ∙ is)), (λ is. same ∙ both.1 is))

pub sub_is_else_of_nobody_lem : SubIsElseOfNobody
sub_is_else_of_nobody_lem policies path acl_at who list either =
    sub_is policies path acl_at who list ∙ ap (λ o. is_in_span path acl_at o who.home) (no_span list either)
