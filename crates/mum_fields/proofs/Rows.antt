-- The items of one field of a message: they keep the field's rule, and give its value back.
use Rattle.mum_fields.proofs.Common.{◌≡◌, ℕ, ◌+◌, eq-eqb, List, [], ◌∷◌, ◌++◌, length, Option, Some, None, IfSome, refl, sym, ap, ◌∙◌, append_assoc, All, AllByRecursion, append-nil, All-head, All-tail, Entry, fields, Item, varint_item, block_item, spelling, written, FitsContent, placed_at, placed_from, each_number, each_block, Rule, text, any_block, fault_in, every, numbers_of, messages_of, Kind, Number, Utf8, Raw, Label, Optional, Required, RequiredOr, Repeated, Scalar, Scalar_of, One, Value, value_of, scalar_number, one_in, all_in, unset, value_after, rule_of, one_item, row_items, each_message, IsOne, IsText, IsBytes, IsTyped}
use Rattle.mum_fields.proofs.{Texts.text-read, Encoding.last-append, Encoding.every-append, Encoding.AreOthers, Encoding.last-others, Encoding.every-others, Encoding.every-take, Encoding.last-block_items, Encoding.every-each_block}

pub record IsItem (number : ℕ) (rule : Rule) (item : Item) : Type 0 where
  pub is : item.number ≡ number
  pub fits : FitsContent item.content
  pub clean : (place : ℕ) → fault_in rule place item.content ≡ None

-- ---- each item keeps the rule

text-item : (number : ℕ) (block : List ℕ) → IsText block → IsItem number text (block_item number block)
text-item number block h = record { is = refl; fits = h.1; clean = λ place. text-read place block h.0 }

one-items : (kind : Kind) (number : ℕ) (o : Option (One kind)) → IfSome o (IsOne kind) → AllByRecursion (IsItem number (rule_of Optional kind)) (one_item kind number o)
one-items (Number scalar) number None h = tt
one-items (Number scalar) number (Some x) h = (record { is = refl; fits = h.1; clean = λ place. refl }, tt)
one-items Utf8 number None h = tt
one-items Utf8 number (Some x) h = (text-item number x h, tt)
one-items Raw number None h = tt
one-items Raw number (Some x) h = (record { is = refl; fits = h; clean = λ place. refl }, tt)

number-items : (scalar : Scalar) (rule : Rule) (number : ℕ) (xs : List (Scalar_of scalar)) → All (IsOne (Number scalar)) xs → AllByRecursion (IsItem number rule) (each_number (scalar_number scalar) number xs)
number-items scalar rule number [] h = tt
number-items scalar rule number (x ∷ xs) h = (record { is = refl; fits = (All-head (IsOne (Number scalar)) x xs h).1; clean = λ place. refl }, number-items scalar rule number xs (All-tail (IsOne (Number scalar)) x xs h))

text-items : (number : ℕ) (xs : List (List ℕ)) → All (IsOne Utf8) xs → AllByRecursion (IsItem number text) (each_block number xs)
text-items number [] h = tt
text-items number (x ∷ xs) h = (text-item number x (All-head (IsOne Utf8) x xs h), text-items number xs (All-tail (IsOne Utf8) x xs h))

raw-items : (number : ℕ) (xs : List (List ℕ)) → All (IsOne Raw) xs → AllByRecursion (IsItem number any_block) (each_block number xs)
raw-items number [] h = tt
raw-items number (x ∷ xs) h = (record { is = refl; fits = All-head (IsOne Raw) x xs h; clean = λ place. refl }, raw-items number xs (All-tail (IsOne Raw) x xs h))

pub row-items : (label : Label) (kind : Kind) (number : ℕ) (value : Value label kind) → IsTyped label kind value → AllByRecursion (IsItem number (rule_of label kind)) (row_items label kind number value)
row-items Optional kind number o h = one-items kind number o h
row-items Required (Number scalar) number o h = one-items (Number scalar) number o h
row-items Required Utf8 number o h = one-items Utf8 number o h
row-items Required Raw number o h = one-items Raw number o h
row-items (RequiredOr other) (Number scalar) number o h = one-items (Number scalar) number o h
row-items (RequiredOr other) Utf8 number o h = one-items Utf8 number o h
row-items (RequiredOr other) Raw number o h = one-items Raw number o h
row-items Repeated (Number scalar) number xs h = number-items scalar (rule_of Repeated (Number scalar)) number xs h
row-items Repeated Utf8 number xs h = text-items number xs h
row-items Repeated Raw number xs h = raw-items number xs h

-- messages in blocks
pub message-items : {X : Type 0} (inside : X → List Item) (P : X → Type 0) (rule : Rule) → ((x : X) (place : ℕ) → P x → rule place (written (inside x)) ≡ None)
    → (number : ℕ) (xs : List X) → All (λ x. P x × IsBytes (written (inside x))) xs → AllByRecursion (IsItem number rule) (each_message inside number xs)
message-items inside P rule clean number [] h = tt
message-items {X} inside P rule clean number (x ∷ xs) h =
    let P_block = λ (y : X). P y × IsBytes (written (inside y)) in
    let head = All-head P_block x xs h in
    (record { is = refl; fits = head.1; clean = λ place. clean x place head.0 }, message-items inside P rule clean number xs (All-tail P_block x xs h))

-- ---- the value is given back

one-back : (kind : Kind) (number : ℕ) (o : Option (One kind)) (place : ℕ) → IfSome o (IsOne kind) → value_after Optional kind number None (placed_from place (one_item kind number o)) ≡ o
one-back (Number scalar) number None place h = refl
one-back (Number scalar) number (Some x) place h = rw (eq-eqb number number refl, h.0) refl
one-back Utf8 number o place h = last-block_items number o place
one-back Raw number o place h = last-block_items number o place

numbers-back : (scalar : Scalar) (number : ℕ) (xs before : List (Scalar_of scalar)) (place : ℕ) → All (IsOne (Number scalar)) xs
    → every (numbers_of (value_of scalar)) number before (placed_from place (each_number (scalar_number scalar) number xs)) ≡ before ++ xs
numbers-back scalar number [] before place h = sym (append-nil before)
numbers-back scalar number (x ∷ xs) before place h =
    let value = value_of scalar in
    let item = varint_item number (scalar_number scalar x) in
    let after = place + length (spelling item) in
    let left = placed_from after (each_number (scalar_number scalar) number xs) in
    let others = numbers-back scalar number xs (before ++ x ∷ []) after (All-tail (IsOne (Number scalar)) x xs h) in
    let taken : before ++ value (scalar_number scalar x) ∷ [] ≡ before ++ x ∷ [] = rw ((All-head (IsOne (Number scalar)) x xs h).0) refl in
    every-take (numbers_of value) number before (placed_at place item) left refl ∙ ap (λ b. every (numbers_of value) number b left) taken ∙ others ∙ append_assoc before (x ∷ []) xs

pub row-back : (label : Label) (kind : Kind) (number : ℕ) (value : Value label kind) (place : ℕ) → IsTyped label kind value
    → value_after label kind number (unset label kind) (placed_from place (row_items label kind number value)) ≡ value
row-back Optional kind number o place h = one-back kind number o place h
row-back Required kind number o place h = one-back kind number o place h
row-back (RequiredOr other) kind number o place h = one-back kind number o place h
row-back Repeated (Number scalar) number xs place h = numbers-back scalar number xs [] place h
row-back Repeated Utf8 number xs place h = every-each_block number xs [] place
row-back Repeated Raw number xs place h = every-each_block number xs [] place

pub messages-back : {X : Type 0} (make : List Entry → X) (inside : X → List Item) (P : X → Type 0)
    → ((x : X) (place : ℕ) → P x → make (fields (record { place = place; rest = written (inside x) })).items ≡ x)
    → (number : ℕ) (xs before : List X) (place : ℕ) → All (λ x. P x × IsBytes (written (inside x))) xs
    → every (messages_of make) number before (placed_from place (each_message inside number xs)) ≡ before ++ xs
messages-back make inside P back number [] before place h = sym (append-nil before)
messages-back {X} make inside P back number (x ∷ xs) before place h =
    let P_block = λ (y : X). P y × IsBytes (written (inside y)) in
    let item = block_item number (written (inside x)) in
    let entry = placed_at place item in
    let after = place + length (spelling item) in
    let left = placed_from after (each_message inside number xs) in
    let others = messages-back make inside P back number xs (before ++ x ∷ []) after (All-tail P_block x xs h) in
    let taken : before ++ messages_of make entry ≡ before ++ x ∷ [] = rw (back x entry.place (All-head P_block x xs h).0) refl in
    every-take (messages_of make) number before entry left refl ∙ ap (λ b. every (messages_of make) number b left) taken ∙ others ∙ append_assoc before (x ∷ []) xs

-- ---- items after others, and items of other numbers

pub value_after-append : (label : Label) (kind : Kind) (number : ℕ) (before : Value label kind) (es fs : List Entry)
    → value_after label kind number before (es ++ fs) ≡ value_after label kind number (value_after label kind number before es) fs
value_after-append Optional kind number before es fs = last-append (one_in kind) number before es fs
value_after-append Required kind number before es fs = last-append (one_in kind) number before es fs
value_after-append (RequiredOr other) kind number before es fs = last-append (one_in kind) number before es fs
value_after-append Repeated kind number before es fs = every-append (all_in kind) number before es fs

pub value_after-others : (label : Label) (kind : Kind) (number : ℕ) (before : Value label kind) (others : List Item) (place : ℕ) → AreOthers number others
    → value_after label kind number before (placed_from place others) ≡ before
value_after-others Optional kind number before others place h = last-others (one_in kind) number before others place h
value_after-others Required kind number before others place h = last-others (one_in kind) number before others place h
value_after-others (RequiredOr other) kind number before others place h = last-others (one_in kind) number before others place h
value_after-others Repeated kind number before others place h = every-others (all_in kind) number before others place h
