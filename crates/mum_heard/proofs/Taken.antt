-- What a payload decodes to is as the types of its fields say, where its own encoding has a length.
use Rattle.mum_heard.proofs.Common.{◌≡◌, ℕ, suc, ◌+◌, ◌*◌, ◌-◌, ◌%◌, ◌^◌, ◌<◌, ◌≤◌, ◌&&◌, ◌==◌, ltb, Bool, true, false, cond, List, [], ◌∷◌, ◌++◌, length, map, Option, Some, None, IfSome, Result, Ok, Err, refl, sym, ap, subst, ◌∙◌, arith, eq-eqb, length-append, ℤ, pos, negsuc, ⊤, w32, cast_signed, AllByRecursion, IsUtf8, is_utf8, and_parts, eqb-true, ltb-false, ltb-true, ne_eqb, true≢false, to_z_pos, flat_map-append, All-from_recursion, IsUtf8-from_is_utf8, BadText, FieldFault, MessageFault, Kind, Number, Raw, Utf8, Label, Optional, Repeated, Required, RequiredOr, Scalar, Signed32, Truth, Unsigned32, Unsigned64, Block, Content, Fixed4, Fixed8, Varint, fault, Entry, Rule, entry_fault, every, fault_in, first_fault, last, longer, message, messages_of, newer, or_else, text, unless, value_fault, extended, signed_32, Walk, at_start, fields, packed, Blocks, Field, Layout, Nothing, One, Value, Values, all_in, decoded_by, each_message, gathered, items, missing, no_values, one_in, one_item, rising, row_items, rule_of, rules, scalar_number, unless_missing, unset, value_after, value_of, values_after, whole, AreTyped, IsBytes, IsOne, IsScalar, IsTyped, shortest, Item, block_item, each_block, spelling, written, Rises, rises}

-- ---- values as they are read

-- a number is the value of its own encoding, and a text is UTF-8
abbrev IsTaken : (kind : Kind) → One kind → Type 0
IsTaken (Number scalar) x = IsScalar (value_of scalar) (scalar_number scalar) x
IsTaken Utf8 text = IsUtf8 text
IsTaken Raw bytes = ⊤

abbrev IsTakenRow : (label : Label) → (kind : Kind) → Value label kind → Type 0
IsTakenRow Optional kind value = IfSome value (IsTaken kind)
IsTakenRow Required kind value = IfSome value (IsTaken kind)
IsTakenRow (RequiredOr other) kind value = IfSome value (IsTaken kind)
IsTakenRow Repeated kind values = AllByRecursion (IsTaken kind) values

abbrev AreTaken : (form : Layout) → Values form → Type 0
AreTaken Nothing values = ⊤
AreTaken (Field label kind number others) values = IsTakenRow label kind values.0 × AreTaken others values.1
AreTaken (Blocks inside number others) values = AllByRecursion (AreTaken inside) values.0 × AreTaken others values.1

-- no number of 64 bits
abbrev is_narrow_scalar : Scalar → Bool
is_narrow_scalar Unsigned32 = true
is_narrow_scalar Unsigned64 = false
is_narrow_scalar Signed32 = true
is_narrow_scalar Truth = true

abbrev is_narrow : Kind → Bool
is_narrow (Number scalar) = is_narrow_scalar scalar
is_narrow Utf8 = true
is_narrow Raw = true

abbrev pub all_narrow : Layout → Bool
all_narrow Nothing = true
all_narrow (Field label kind number others) = is_narrow kind && all_narrow others
all_narrow (Blocks inside number others) = all_narrow inside && all_narrow others

-- ---- numbers

signed_back : (m : ℕ) → m < 2 ^ 32 → (b : Bool) → ltb m (2 ^ 31) ≡ b → IsScalar signed_32 extended (cast_signed w32 m)
signed_back m low true is =
    let same : cast_signed w32 m ≡ pos m = to_z_pos w32 m (ltb-true m (2 ^ 31) is) in
    let cut : m % 2 ^ 32 ≡ m = omega arith in
    subst (λ (z : ℤ). IsScalar signed_32 extended z) (sym same) (ap (cast_signed w32) cut ∙ same, omega arith)
signed_back m low false is =
    let high : 2 ^ 31 ≤ m = ltb-false m (2 ^ 31) is in
    let same : cast_signed w32 m ≡ negsuc (2 ^ 32 - suc m) = ap (λ (b : Bool). cond b (pos m) (negsuc (2 ^ 32 - suc m))) is in
    let cut : (2 ^ 64 - suc (2 ^ 32 - suc m)) % 2 ^ 32 ≡ m = omega arith in
    subst (λ (z : ℤ). IsScalar signed_32 extended z) (sym same) (ap (cast_signed w32) cut ∙ same, omega arith)

truth_back : (b : Bool) → IsScalar (value_of Truth) (scalar_number Truth) b
truth_back true = (refl, omega arith)
truth_back false = (refl, omega arith)

number_taken : (scalar : Scalar) → is_narrow_scalar scalar ≡ true → (n : ℕ) → IsTaken (Number scalar) (value_of scalar n)
number_taken Unsigned32 narrow n = (omega arith, omega arith)
number_taken Unsigned64 narrow n = absurd (true≢false (sym narrow))
number_taken Signed32 narrow n = signed_back (n % 2 ^ 32) (omega arith) (ltb (n % 2 ^ 32) (2 ^ 31)) refl
number_taken Truth narrow n = truth_back (value_of Truth n)

-- ---- entries without a fault

neither : {X : Type 0} (one other : Option X) → or_else one other ≡ None → (one ≡ None) × (other ≡ None)
neither None other none = (refl, none)
neither (Some x) other none = absurd (cc)

-- where the first fault is none, no entry has one
clean : (ruling : ℕ → Rule) (es : List Entry) (end : Option FieldFault) → first_fault ruling es end ≡ None → AllByRecursion (λ e. entry_fault ruling e ≡ None) es
clean ruling [] end none = tt
clean ruling (e ∷ es) end none =
    let both = neither (entry_fault ruling e) (first_fault ruling es end) none in
    (both.0, clean ruling es end both.1)

-- those of one number keep its rule
abbrev AreClean : ℕ → Rule → List Entry → Type 0
AreClean number rule es = AllByRecursion (λ e. e.number ≡ number → value_fault rule e ≡ None) es

text_taken : (place : ℕ) (block : List ℕ) (b : Bool) → is_utf8 block ≡ b → text place block ≡ None → IsUtf8 block
text_taken place block true is none = IsUtf8-from_is_utf8 block is
text_taken place block false is none =
    let there : Some (fault BadText place) ≡ None = sym (ap (λ (b : Bool). cond b None (Some (fault BadText place))) is) ∙ none in
    absurd (cc)

-- ---- one field

-- what one entry sets
entry_taken : (kind : Kind) → is_narrow kind ≡ true → (number place : ℕ) (content : Content) → fault_in (rule_of Optional kind) place content ≡ None
    → IfSome (one_in kind (record { number = number; content = content; place = place })) (IsTaken kind)
entry_taken (Number scalar) narrow number place (Varint n) none = number_taken scalar narrow n
entry_taken (Number scalar) narrow number place (Fixed8 n) none = tt
entry_taken (Number scalar) narrow number place (Block block) none = tt
entry_taken (Number scalar) narrow number place (Fixed4 n) none = tt
entry_taken Utf8 narrow number place (Varint n) none = tt
entry_taken Utf8 narrow number place (Fixed8 n) none = tt
entry_taken Utf8 narrow number place (Block block) none = text_taken place block (is_utf8 block) refl none
entry_taken Utf8 narrow number place (Fixed4 n) none = tt
entry_taken Raw narrow number place (Varint n) none = tt
entry_taken Raw narrow number place (Fixed8 n) none = tt
entry_taken Raw narrow number place (Block block) none = tt
entry_taken Raw narrow number place (Fixed4 n) none = tt

else_taken : {X : Type 0} (P : X → Type 0) (one other : Option X) → IfSome one P → IfSome other P → IfSome (or_else one other) P
else_taken P None other held also = also
else_taken P (Some x) other held also = held

module _ (kind : Kind) (narrow : is_narrow kind ≡ true) (number : ℕ) where
  newer_taken : (before : Option (One kind)) (e : Entry) → IfSome before (IsTaken kind) → (e.number ≡ number → value_fault (rule_of Optional kind) e ≡ None)
      → IfSome (newer (one_in kind) number before e) (IsTaken kind)
  newer_taken before e held none = by_number (e.number == number) refl
    where
      by_number : (b : Bool) → (e.number == number) ≡ b → IfSome (cond b (or_else (one_in kind e) before) before) (IsTaken kind)
      by_number true is = else_taken (IsTaken kind) (one_in kind e) before (entry_taken kind narrow e.number e.place e.content (none (eqb-true e.number number is))) held
      by_number false is = held

  last_taken : (rule : Rule) → rule ≡ rule_of Optional kind → (before : Option (One kind)) (es : List Entry) → IfSome before (IsTaken kind) → AreClean number rule es
      → IfSome (last (one_in kind) number before es) (IsTaken kind)
  last_taken rule same before [] held none = held
  last_taken rule same before (e ∷ es) held none =
      last_taken rule same (newer (one_in kind) number before e) es
      (newer_taken before e held (λ is. ap (λ (r : Rule). value_fault r e) (sym same) ∙ none.0 is)) none.1

-- what one entry adds
all_append : {X : Type 0} (P : X → Type 0) (xs ys : List X) → AllByRecursion P xs → AllByRecursion P ys → AllByRecursion P (xs ++ ys)
all_append P [] ys held also = also
all_append P (x ∷ xs) ys held also = (held.0, all_append P xs ys held.1 also)

numbers_taken : (scalar : Scalar) → is_narrow_scalar scalar ≡ true → (ns : List ℕ) → AllByRecursion (IsTaken (Number scalar)) (map (value_of scalar) ns)
numbers_taken scalar narrow [] = tt
numbers_taken scalar narrow (n ∷ ns) = (number_taken scalar narrow n, numbers_taken scalar narrow ns)

entries_taken : (kind : Kind) → is_narrow kind ≡ true → (number place : ℕ) (content : Content) → fault_in (rule_of Repeated kind) place content ≡ None
    → AllByRecursion (IsTaken kind) (all_in kind (record { number = number; content = content; place = place }))
entries_taken (Number scalar) narrow number place (Varint n) none = (number_taken scalar narrow n, tt)
entries_taken (Number scalar) narrow number place (Fixed8 n) none = tt
entries_taken (Number scalar) narrow number place (Block block) none = numbers_taken scalar narrow (packed (record { place = place; rest = block })).items
entries_taken (Number scalar) narrow number place (Fixed4 n) none = tt
entries_taken Utf8 narrow number place (Varint n) none = tt
entries_taken Utf8 narrow number place (Fixed8 n) none = tt
entries_taken Utf8 narrow number place (Block block) none = (text_taken place block (is_utf8 block) refl none, tt)
entries_taken Utf8 narrow number place (Fixed4 n) none = tt
entries_taken Raw narrow number place (Varint n) none = tt
entries_taken Raw narrow number place (Fixed8 n) none = tt
entries_taken Raw narrow number place (Block block) none = (tt, tt)
entries_taken Raw narrow number place (Fixed4 n) none = tt

-- a list to which each entry adds what is right
every_taken : {X : Type 0} (P : X → Type 0) (taken : Entry → List X) (rule : Rule) (number : ℕ) → ((e : Entry) → value_fault rule e ≡ None → AllByRecursion P (taken e))
    → (before : List X) (es : List Entry) → AllByRecursion P before → AreClean number rule es → AllByRecursion P (every taken number before es)
every_taken P taken rule number right before [] held none = held
every_taken P taken rule number right before (e ∷ es) held none =
    every_taken P taken rule number right (longer taken number before e) es (by_number (e.number == number) refl) none.1
  where
    by_number : (b : Bool) → (e.number == number) ≡ b → AllByRecursion P (cond b (before ++ taken e) before)
    by_number true is = all_append P before (taken e) held (right e (none.0 (eqb-true e.number number is)))
    by_number false is = held

same_required : (kind : Kind) → rule_of Required kind ≡ rule_of Optional kind
same_required (Number scalar) = refl
same_required Utf8 = refl
same_required Raw = refl

same_required_or : (other : ℕ) (kind : Kind) → rule_of (RequiredOr other) kind ≡ rule_of Optional kind
same_required_or other (Number scalar) = refl
same_required_or other Utf8 = refl
same_required_or other Raw = refl

row_taken : (label : Label) (kind : Kind) → is_narrow kind ≡ true → (number : ℕ) (before : Value label kind) (es : List Entry) → IsTakenRow label kind before
    → AreClean number (rule_of label kind) es → IsTakenRow label kind (value_after label kind number before es)
row_taken Optional kind narrow number before es held none = last_taken kind narrow number (rule_of Optional kind) refl before es held none
row_taken Required kind narrow number before es held none = last_taken kind narrow number (rule_of Required kind) (same_required kind) before es held none
row_taken (RequiredOr other) kind narrow number before es held none =
    last_taken kind narrow number (rule_of (RequiredOr other) kind) (same_required_or other kind) before es held none
row_taken Repeated kind narrow number before es held none =
    every_taken (IsTaken kind) (all_in kind) (rule_of Repeated kind) number (λ e clean. entries_taken kind narrow e.number e.place e.content clean) before es held none

-- ---- all fields

unset_taken : (label : Label) (kind : Kind) → IsTakenRow label kind (unset label kind)
unset_taken Optional kind = tt
unset_taken Required kind = tt
unset_taken (RequiredOr other) kind = tt
unset_taken Repeated kind = tt

none_taken : (form : Layout) → AreTaken form (no_values form)
none_taken Nothing = tt
none_taken (Field label kind number others) = (unset_taken label kind, none_taken others)
none_taken (Blocks inside number others) = (tt, none_taken others)

-- entries of numbers above this one have no fault
abbrev AreCleanAbove : ℕ → (ℕ → Rule) → List Entry → Type 0
AreCleanAbove low ruling es = AllByRecursion (λ e. low < e.number → entry_fault ruling e ≡ None) es

clean_above : (low : ℕ) (ruling : ℕ → Rule) (es : List Entry) → AllByRecursion (λ e. entry_fault ruling e ≡ None) es → AreCleanAbove low ruling es
clean_above low ruling [] none = tt
clean_above low ruling (e ∷ es) none = (λ above. none.0, clean_above low ruling es none.1)

module _ (low number : ℕ) (rule : Rule) (ruling : ℕ → Rule) (above : low < number) where
  -- those of the first number keep its rule, and those above it the rules of the others
  clean_first : (es : List Entry) → AreCleanAbove low (λ n. cond (n == number) rule (ruling n)) es → AreClean number rule es
  clean_first [] none = tt
  clean_first (e ∷ es) none =
      (λ is. ap (λ (b : Bool). value_fault (cond b rule (ruling e.number)) e) (sym (eq-eqb e.number number is)) ∙ none.0 (omega (arith, is, above)), clean_first es none.1)

  clean_later : (es : List Entry) → AreCleanAbove low (λ n. cond (n == number) rule (ruling n)) es → AreCleanAbove number ruling es
  clean_later [] none = tt
  clean_later (e ∷ es) none =
      (λ more. ap (λ (b : Bool). value_fault (cond b rule (ruling e.number)) e) (sym (ne_eqb e.number number (λ is. omega (arith, is, more)))) ∙ none.0 (omega (arith, more, above)), clean_later es none.1)

-- what one entry adds is a message
abbrev BlocksTaken : Layout → Type 0
BlocksTaken inside = (place : ℕ) (block : List ℕ) → message (rules inside) place block ≡ None → AreTaken inside (values_after inside (no_values inside) (fields (record { place = place; rest = block })).items)

message_taken : (inside : Layout) → BlocksTaken inside → (number place : ℕ) (content : Content) → fault_in (message (rules inside)) place content ≡ None
    → AllByRecursion (AreTaken inside) (messages_of (values_after inside (no_values inside)) (record { number = number; content = content; place = place }))
message_taken inside right number place (Varint n) none = tt
message_taken inside right number place (Fixed8 n) none = tt
message_taken inside right number place (Block block) none = (right place block none, tt)
message_taken inside right number place (Fixed4 n) none = tt

fields_taken : (form : Layout) → all_narrow form ≡ true → (low : ℕ) → Rises low form → (values : Values form) (es : List Entry) → AreTaken form values → AreCleanAbove low (rules form) es
    → AreTaken form (values_after form values es)
fields_taken Nothing narrow low up values es held none = tt
fields_taken (Field label kind number others) narrow low up values es held none =
    let both = and_parts (is_narrow kind) (all_narrow others) narrow in (
      row_taken label kind both.0 number values.0 es held.0 (clean_first low number (rule_of label kind) (rules others) up.0 es none),
      fields_taken others both.1 number up.2 values.1 es held.1 (clean_later low number (rule_of label kind) (rules others) up.0 es none),
    )
fields_taken (Blocks inside number others) narrow low up values es held none =
    let both = and_parts (all_narrow inside) (all_narrow others) narrow in
    let right : BlocksTaken inside = λ place block free.
    let found = fields (record { place = place; rest = block }) in
    fields_taken inside both.0 0 up.3 (no_values inside) found.items (none_taken inside) (clean_above 0 (rules inside) found.items (clean (rules inside) found.items found.fault free)) in (
      every_taken (AreTaken inside) (messages_of (values_after inside (no_values inside))) (message (rules inside)) number (λ e free. message_taken inside right e.number e.place e.content free) values.0 es held.0
          (clean_first low number (message (rules inside)) (rules others) up.0 es none),
      fields_taken others both.1 number up.2 values.1 es held.1 (clean_later low number (message (rules inside)) (rules others) up.0 es none),
    )

-- ---- lengths

written_parts : (one other : List Item) → length (written (one ++ other)) ≡ length (written one) + length (written other)
written_parts one other = ap length (flat_map-append spelling one other) ∙ length-append (written one) (written other)

-- a block is no longer than its encoding
block_short : (number : ℕ) (block : List ℕ) (later : List Item) → length block + length (written later) ≤ length (written (block_item number block ∷ later))
block_short number block later =
    let key = shortest (number * 8 + 2) in
    let size = shortest (length block) in
    let whole = length-append (key ++ (size ++ block)) (written later) in
    let front = length-append key (size ++ block) in
    let back = length-append size block in
    omega arith

one_typed : (kind : Kind) (number : ℕ) (value : Option (One kind)) → IfSome value (IsTaken kind) → length (written (one_item kind number value)) < 2 ^ 64 → IfSome value (IsOne kind)
one_typed kind number None held short = tt
one_typed (Number scalar) number (Some x) held short = held
one_typed Utf8 number (Some x) held short = (held, omega (arith, block_short number x [], short))
one_typed Raw number (Some x) held short = omega (arith, block_short number x [], short)

texts_typed : (number : ℕ) (xs : List (List ℕ)) → AllByRecursion IsUtf8 xs → length (written (each_block number xs)) < 2 ^ 64 → AllByRecursion (IsOne Utf8) xs
texts_typed number [] held short = tt
texts_typed number (x ∷ xs) held short =
    let front = block_short number x (each_block number xs) in
    ((held.0, omega (arith, front, short)), texts_typed number xs held.1 (omega (arith, front, short)))

blocks_typed : (number : ℕ) (xs : List (List ℕ)) → length (written (each_block number xs)) < 2 ^ 64 → AllByRecursion (IsOne Raw) xs
blocks_typed number [] short = tt
blocks_typed number (x ∷ xs) short =
    let front = block_short number x (each_block number xs) in
    (omega (arith, front, short), blocks_typed number xs (omega (arith, front, short)))

row_typed : (label : Label) (kind : Kind) (number : ℕ) (value : Value label kind) → IsTakenRow label kind value → length (written (row_items label kind number value)) < 2 ^ 64 → IsTyped label kind value
row_typed Optional kind number value held short = one_typed kind number value held short
row_typed Required kind number value held short = one_typed kind number value held short
row_typed (RequiredOr other) kind number value held short = one_typed kind number value held short
row_typed Repeated (Number scalar) number values held short = All-from_recursion (IsOne (Number scalar)) values held
row_typed Repeated Utf8 number values held short = All-from_recursion (IsOne Utf8) values (texts_typed number values held short)
row_typed Repeated Raw number values held short = All-from_recursion (IsOne Raw) values (blocks_typed number values short)

-- messages in blocks
each_typed : (inside : Layout) → ((x : Values inside) → AreTaken inside x → length (written (items inside x)) < 2 ^ 64 → AreTyped inside x)
    → (number : ℕ) (xs : List (Values inside)) → AllByRecursion (AreTaken inside) xs → length (written (each_message (items inside) number xs)) < 2 ^ 64
    → AllByRecursion (λ x. AreTyped inside x × IsBytes (written (items inside x))) xs
each_typed inside right number [] held short = tt
each_typed inside right number (x ∷ xs) held short =
    let front = block_short number (written (items inside x)) (each_message (items inside) number xs) in
    let few : length (written (items inside x)) < 2 ^ 64 = omega (arith, front, short) in
    ((right x held.0 few, few), each_typed inside right number xs held.1 (omega (arith, front, short)))

values_typed : (form : Layout) (values : Values form) → AreTaken form values → length (written (items form values)) < 2 ^ 64 → AreTyped form values
values_typed Nothing values held short = tt
values_typed (Field label kind number others) values held short =
    let both = written_parts (row_items label kind number values.0) (items others values.1) in
    (row_typed label kind number values.0 held.0 (omega (arith, both, short)), values_typed others values.1 held.1 (omega (arith, both, short)))
values_typed (Blocks inside number others) values held short =
    let both = written_parts (each_message (items inside) number values.0) (items others values.1) in (
      All-from_recursion (λ x. AreTyped inside x × IsBytes (written (items inside x))) values.0
          (each_typed inside (λ x. values_typed inside x) number values.0 held.0 (omega (arith, both, short))),
      values_typed others values.1 held.1 (omega (arith, both, short)),
    )

-- ---- what is decoded

not_missing : (form : Layout) (o : Option ℕ) (values found : Values form) → unless_missing o found ≡ Ok values → (o ≡ None) × (found ≡ values)
not_missing form None values found is = (refl, cc)
not_missing form (Some number) values found is = absurd (cc)

is_whole : (form : Layout) (found : Result (Values form) MessageFault) (values : Values form) → whole form found ≡ Ok values → (found ≡ Ok values) × (missing form values ≡ None)
is_whole form (Ok found) values is =
    let both = not_missing form (missing form found) values found is in
    (ap (λ (v : Values form). Ok v) both.1, ap (missing form) (sym both.1) ∙ both.0)
is_whole form (Err e) values is = absurd (cc)

no_fault : (form : Layout) (o : Option FieldFault) (values found : Values form) → unless o found ≡ Ok values → (o ≡ None) × (found ≡ values)
no_fault form None values found is = (refl, cc)
no_fault form (Some e) values found is = absurd (cc)

gathered_taken : (form : Layout) → all_narrow form ≡ true → rising 0 form ≡ true → (found : Walk Entry) (values : Values form) → gathered form found ≡ Ok values → AreTaken form values
gathered_taken form narrow up found values is =
    let both = no_fault form (first_fault (rules form) found.items found.fault) values (values_after form (no_values form) found.items) is in
    subst (AreTaken form) both.1
    (fields_taken form narrow 0 (rises 0 form up) (no_values form) found.items (none_taken form) (clean_above 0 (rules form) found.items (clean (rules form) found.items found.fault both.0)))

-- what a payload decodes to has the types of its fields, and misses nothing
pub record IsSound (form : Layout) (values : Values form) : Type 0 where
  pub typed : AreTyped form values
  pub nothing_missing : missing form values ≡ None

pub decoded_sound : (form : Layout) → all_narrow form ≡ true → rising 0 form ≡ true → (payload : List ℕ) (values : Values form) → decoded_by form payload ≡ Ok values
    → length (written (items form values)) < 2 ^ 64 → IsSound form values
decoded_sound form narrow up payload values is short =
    let whole = is_whole form (gathered form (fields (at_start payload))) values is in record {
      typed = values_typed form values (gathered_taken form narrow up (fields (at_start payload)) values whole.0) short;
      nothing_missing = whole.1;
    }
