-- What is written of a message is read back as the message.
use Rattle.mum_fields.proofs.Common.{◌≡◌, ℕ, ◌+◌, ◌<◌, ◌≤◌, ◌&&◌, eq-eqb, ltb, leb, Bool, true, false, List, [], ◌∷◌, ◌++◌, length, if◌then◌else◌, ◌==◌, None, Result, Ok, Err, refl, sym, ap, ◌∙◌, arith, AllByRecursion, ne_eqb, ltb-true, leb-true, MessageFault, Entry, IsNumber, last_number, Walk, fields, Item, spelling, written, FitsContent, Fits, placed_at, placed_from, Rule, fault_in, any_block, first_fault, every, messages_of, message, Kind, Label, Value, Layout, Nothing, Field, Blocks, Values, Table, layout, parts, rising, unset, value_after, no_values, values_after, rule_of, rules, missing, whole, gathered, decoded, ReadsAs, row_items, each_message, items, spelled, IsTyped, AreTyped, AreTypedBlocks}
use Rattle.mum_fields.proofs.{Payloads.fields-written, Encoding.placed_from-append, Encoding.every-append, Encoding.AreOthers, Encoding.every-others, Rows.IsItem, Rows.row-items, Rows.message-items, Rows.row-back, Rows.messages-back, Rows.value_after-append, Rows.value_after-others}
use Rattle.mum_fields.specs.declared.message.MessageFault.TheVariants as faults

-- ---- lists

all-append : {X : Type 0} (P : X → Type 0) (xs ys : List X) → AllByRecursion P xs → AllByRecursion P ys → AllByRecursion P (xs ++ ys)
all-append P [] ys p q = q
all-append P (x ∷ xs) ys p q = (p.0, all-append P xs ys p.1 q)

all-weaker : {X : Type 0} (P Q : X → Type 0) (xs : List X) → ((x : X) → P x → Q x) → AllByRecursion P xs → AllByRecursion Q xs
all-weaker P Q [] weaker h = tt
all-weaker P Q (x ∷ xs) weaker h = (weaker x h.0, all-weaker P Q xs weaker h.1)

-- ---- fields whose numbers rise

abbrev pub Rises : ℕ → Layout → Type 0
Rises low Nothing = Unit {0}
Rises low (Field label kind number others) = (low < number) × (number ≤ last_number) × Rises number others
Rises low (Blocks inside number others) = (low < number) × (number ≤ last_number) × Rises number others × Rises 0 inside

pub first_true : (a b : Bool) → (a && b) ≡ true → a ≡ true
first_true true b h = refl
first_true false b h = h

pub second_true : (a b : Bool) → (a && b) ≡ true → b ≡ true
second_true true b h = h
second_true false b h = absurd (cc)

pub rises : (low : ℕ) (form : Layout) → rising low form ≡ true → Rises low form
rises low Nothing h = tt
rises low (Field label kind number others) h =
    let most = leb number last_number in
    let behind = second_true (ltb low number) (most && rising number others) h in (
      ltb-true low number (first_true (ltb low number) (most && rising number others) h),
      leb-true number last_number (first_true most (rising number others) behind),
      rises number others (second_true most (rising number others) behind),
    )
rises low (Blocks inside number others) h =
    let most = leb number last_number in
    let both = rising 0 inside && rising number others in
    let behind = second_true (ltb low number) (most && both) h in
    let rest = second_true most both behind in (
      ltb-true low number (first_true (ltb low number) (most && both) h),
      leb-true number last_number (first_true most both behind),
      rises number others (second_true (rising 0 inside) (rising number others) rest),
      rises 0 inside (first_true (rising 0 inside) (rising number others) rest),
    )

-- each field has its rule
abbrev Agrees : (ℕ → Rule) → Layout → Type 0
Agrees ruling Nothing = Unit {0}
Agrees ruling (Field label kind number others) = (ruling number ≡ rule_of label kind) × Agrees ruling others
Agrees ruling (Blocks inside number others) = (ruling number ≡ message (rules inside)) × Agrees ruling others

agrees-more : (number low : ℕ) (rule : Rule) (ruling : ℕ → Rule) (form : Layout) → number ≤ low → Rises low form → Agrees ruling form
    → Agrees (λ n. if n == number then rule else ruling n) form
agrees-more number low rule ruling Nothing at_most up h = tt
agrees-more number low rule ruling (Field label kind own others) at_most up h =
    (rw (ne_eqb own number (λ e. omega (arith, up.0, at_most))) h.0, agrees-more number own rule ruling others (omega (arith, up.0, at_most)) up.2 h.1)
agrees-more number low rule ruling (Blocks inside own others) at_most up h =
    (rw (ne_eqb own number (λ e. omega (arith, up.0, at_most))) h.0, agrees-more number own rule ruling others (omega (arith, up.0, at_most)) up.2 h.1)

agrees : (low : ℕ) (form : Layout) → Rises low form → Agrees (rules form) form
agrees low Nothing up = tt
agrees low (Field label kind number others) up =
    (rw (eq-eqb number number refl) refl, agrees-more number number (rule_of label kind) (rules others) others (omega arith) up.2 (agrees number others up.2))
agrees low (Blocks inside number others) up =
    (rw (eq-eqb number number refl) refl, agrees-more number number (message (rules inside)) (rules others) others (omega arith) up.2 (agrees number others up.2))

-- ---- items without a fault

record IsClean (ruling : ℕ → Rule) (item : Item) : Type 0 where
  number : IsNumber item.number
  fits : FitsContent item.content
  clean : (place : ℕ) → fault_in (ruling item.number) place item.content ≡ None

clean-item : (ruling : ℕ → Rule) (number : ℕ) (rule : Rule) (item : Item) → 1 ≤ number → number ≤ last_number → ruling number ≡ rule → IsItem number rule item → IsClean ruling item
clean-item ruling number rule item some few ruled is = record {
  number = (omega (arith, is.is, some), omega (arith, is.is, few));
  fits = is.fits;
  clean = λ place. rw (is.is, ruled) (is.clean place);
}

no-fault : (ruling : ℕ → Rule) (xs : List Item) (place : ℕ) → AllByRecursion (IsClean ruling) xs → first_fault ruling (placed_from place xs) None ≡ None
no-fault ruling [] place h = refl
no-fault ruling (x ∷ xs) place h = rw (h.0.clean (placed_at place x).place) (no-fault ruling xs (place + length (spelling x)) h.1)

-- clean items are read as they were put, at any place
clean-read : (ruling : ℕ → Rule) (xs : List Item) (place : ℕ) → AllByRecursion (IsClean ruling) xs → fields (record { place = place; rest = written xs }) ≡ record { items = placed_from place xs; fault = None }
clean-read ruling xs place h = fields-written xs place (all-weaker (IsClean ruling) Fits xs (λ item is. record { number = is.number; content = is.fits }) h)

clean-message : (ruling : ℕ → Rule) (xs : List Item) (place : ℕ) → AllByRecursion (IsClean ruling) xs → message ruling place (written xs) ≡ None
clean-message ruling xs place h = ap (λ (w : Walk Entry). first_fault ruling w.items w.fault) (clean-read ruling xs place h) ∙ no-fault ruling xs place h

-- the items of one field, and then the others
clean-more : (ruling : ℕ → Rule) (number : ℕ) (rule : Rule) (own others : List Item) → 1 ≤ number → number ≤ last_number → ruling number ≡ rule
    → AllByRecursion (IsItem number rule) own → AllByRecursion (IsClean ruling) others → AllByRecursion (IsClean ruling) (own ++ others)
clean-more ruling number rule own others some few ruled is h =
    all-append (IsClean ruling) own others (all-weaker (IsItem number rule) (IsClean ruling) own (λ item one. clean-item ruling number rule item some few ruled one) is) h

items-clean : (ruling : ℕ → Rule) (low : ℕ) (form : Layout) (values : Values form) → Rises low form → Agrees ruling form → AreTyped form values → AllByRecursion (IsClean ruling) (items form values)
items-clean ruling low Nothing values up agree h = tt
items-clean ruling low (Field label kind number others) values up agree h =
    clean-more ruling number (rule_of label kind) (row_items label kind number values.0) (items others values.1) (omega (arith, up.0)) up.1 agree.0
    (row-items label kind number values.0 h.0)
    (items-clean ruling number others values.1 up.2 agree.1 h.1)
items-clean ruling low (Blocks inside number others) values up agree h =
    clean-more ruling number (message (rules inside)) (each_message (items inside) number values.0) (items others values.1) (omega (arith, up.0)) up.1 agree.0
    (message-items (items inside) (AreTyped inside) (message (rules inside))
    (λ x place held. clean-message (rules inside) (items inside x) place (items-clean (rules inside) 0 inside x up.3 (agrees 0 inside up.3) held))
    number values.0 h.0)
    (items-clean ruling number others values.1 up.2 agree.1 h.1)

-- ---- items of other numbers

own-number : (number : ℕ) (rule : Rule) (own : List Item) → AllByRecursion (IsItem number rule) own → AllByRecursion (λ item. item.number ≡ number) own
own-number number rule own is = all-weaker (IsItem number rule) (λ item. item.number ≡ number) own (λ item one. one.is) is

message-number : (inside : Layout) (number : ℕ) (xs : List (Values inside)) → AreTypedBlocks inside xs → AllByRecursion (λ item. item.number ≡ number) (each_message (items inside) number xs)
message-number inside number xs h = own-number number any_block (each_message (items inside) number xs) (message-items (items inside) (AreTyped inside) any_block (λ x place held. refl) number xs h)

above-more : (low number : ℕ) (own others : List Item) → low < number → AllByRecursion (λ item. item.number ≡ number) own → AllByRecursion (λ item. number < item.number) others → AllByRecursion (λ item. low < item.number) (own ++ others)
above-more low number own others less is h =
    all-append (λ item. low < item.number) own others
    (all-weaker (λ item. item.number ≡ number) (λ item. low < item.number) own (λ item one. omega (arith, one, less)) is)
    (all-weaker (λ item. number < item.number) (λ item. low < item.number) others (λ item more. omega (arith, more, less)) h)

items-above : (low : ℕ) (form : Layout) (values : Values form) → Rises low form → AreTyped form values → AllByRecursion (λ item. low < item.number) (items form values)
items-above low Nothing values up h = tt
items-above low (Field label kind number others) values up h =
    above-more low number (row_items label kind number values.0) (items others values.1) up.0
    (own-number number (rule_of label kind) (row_items label kind number values.0) (row-items label kind number values.0 h.0))
    (items-above number others values.1 up.2 h.1)
items-above low (Blocks inside number others) values up h =
    above-more low number (each_message (items inside) number values.0) (items others values.1) up.0
    (message-number inside number values.0 h.0)
    (items-above number others values.1 up.2 h.1)

above-others : (low : ℕ) (xs : List Item) → AllByRecursion (λ item. low < item.number) xs → AreOthers low xs
above-others low [] h = tt
above-others low (x ∷ xs) h = ((λ e. omega (arith, h.0)), above-others low xs h.1)

of-others : (low number : ℕ) (xs : List Item) → low < number → AllByRecursion (λ item. item.number ≡ low) xs → AreOthers number xs
of-others low number [] less h = tt
of-others low number (x ∷ xs) less h = ((λ e. omega (arith, h.0)), of-others low number xs less h.1)

after-others : (number low : ℕ) (form : Layout) (values : Values form) (xs : List Item) (place : ℕ) → number ≤ low → Rises low form → AllByRecursion (λ item. item.number ≡ number) xs
    → values_after form values (placed_from place xs) ≡ values
after-others number low Nothing values xs place at_most up h = refl
after-others number low (Field label kind own others) values xs place at_most up h =
    rw (
      value_after-others label kind own values.0 xs place (of-others number own xs (omega (arith, up.0, at_most)) h),
      after-others number own others values.1 xs place (omega (arith, up.0, at_most)) up.2 h,
    ) refl
after-others number low (Blocks inside own others) values xs place at_most up h =
    rw (
      every-others (messages_of (values_after inside (no_values inside))) own values.0 xs place (of-others number own xs (omega (arith, up.0, at_most)) h),
      after-others number own others values.1 xs place (omega (arith, up.0, at_most)) up.2 h,
    ) refl

-- ---- all fields

after-append : (form : Layout) (values : Values form) (es fs : List Entry) → values_after form values (es ++ fs) ≡ values_after form (values_after form values es) fs
after-append Nothing values es fs = refl
after-append (Field label kind number others) values es fs = rw (value_after-append label kind number values.0 es fs, after-append others values.1 es fs) refl
after-append (Blocks inside number others) values es fs = rw (every-append (messages_of (values_after inside (no_values inside))) number values.0 es fs, after-append others values.1 es fs) refl

-- the items of one field change nothing in the later fields
later-back : (number : ℕ) (others : Layout) (values : Values others) (own : List Item) (place behind : ℕ) → Rises number others → AllByRecursion (λ item. item.number ≡ number) own
    → values_after others (no_values others) (placed_from behind (items others values)) ≡ values → values_after others (no_values others) (placed_from place own ++ placed_from behind (items others values)) ≡ values
later-back number others values own place behind up is back =
    let es = placed_from behind (items others values) in
    after-append others (no_values others) (placed_from place own) es
    ∙ ap (λ v. values_after others v es) (after-others number number others (no_values others) own place (omega arith) up is)
    ∙ back

-- later fields change nothing in the values of one
value-back : (label : Label) (kind : Kind) (number : ℕ) (value : Value label kind) (later : List Item) (place behind : ℕ) → IsTyped label kind value → AreOthers number later
    → value_after label kind number (unset label kind) (placed_from place (row_items label kind number value) ++ placed_from behind later) ≡ value
value-back label kind number value later place behind held h =
    value_after-append label kind number (unset label kind) (placed_from place (row_items label kind number value)) (placed_from behind later)
    ∙ ap (λ v. value_after label kind number v (placed_from behind later)) (row-back label kind number value place held)
    ∙ value_after-others label kind number value later behind h

abbrev BlocksBack : Layout → Type 0
BlocksBack inside = (x : Values inside) (place : ℕ) → AreTyped inside x → values_after inside (no_values inside) (fields (record { place = place; rest = written (items inside x) })).items ≡ x

blocks-back : (inside : Layout) (number : ℕ) (xs : List (Values inside)) (later : List Item) (place behind : ℕ) → BlocksBack inside → AreTypedBlocks inside xs → AreOthers number later
    → every (messages_of (values_after inside (no_values inside))) number [] (placed_from place (each_message (items inside) number xs) ++ placed_from behind later) ≡ xs
blocks-back inside number xs later place behind back held h =
    let taken = messages_of (values_after inside (no_values inside)) in
    every-append taken number [] (placed_from place (each_message (items inside) number xs)) (placed_from behind later)
    ∙ ap (λ v. every taken number v (placed_from behind later)) (messages-back (values_after inside (no_values inside)) (items inside) (AreTyped inside) back number xs [] place held)
    ∙ every-others taken number xs later behind h

items-back : (low : ℕ) (form : Layout) (values : Values form) (place : ℕ) → Rises low form → AreTyped form values → values_after form (no_values form) (placed_from place (items form values)) ≡ values
items-back low Nothing values place up h = refl
items-back low (Field label kind number others) values place up h =
    let own = row_items label kind number values.0 in
    let later = items others values.1 in
    let behind = place + length (written own) in
    let is = own-number number (rule_of label kind) own (row-items label kind number values.0 h.0) in
    rw (
      placed_from-append own later place,
      value-back label kind number values.0 later place behind h.0 (above-others number later (items-above number others values.1 up.2 h.1)),
      later-back number others values.1 own place behind up.2 is (items-back number others values.1 behind up.2 h.1),
    ) refl
items-back low (Blocks inside number others) values place up h =
    let own = each_message (items inside) number values.0 in
    let later = items others values.1 in
    let behind = place + length (written own) in
    let is = message-number inside number values.0 h.0 in
    let back : BlocksBack inside = λ x at held.
    ap (λ (w : Walk Entry). values_after inside (no_values inside) w.items) (clean-read (rules inside) (items inside x) at (items-clean (rules inside) 0 inside x up.3 (agrees 0 inside up.3) held))
    ∙ items-back 0 inside x at up.3 held in
    rw (
      placed_from-append own later place,
      blocks-back inside number values.0 later place behind back h.0 (above-others number later (items-above number others values.1 up.2 h.1)),
      later-back number others values.1 own place behind up.2 is (items-back number others values.1 behind up.2 h.1),
    ) refl

pub read_back : {M : Type 0} (rows : Table M) (m : M) → rising 0 (layout rows) ≡ true → AreTyped (layout rows) (parts rows m) → missing (layout rows) (parts rows m) ≡ None → decoded rows (spelled rows m) ≡ Ok (parts rows m)
read_back {M} rows m in_order held none =
    let form = layout rows in
    let values = parts rows m in
    let all = items form values in
    let up = rises 0 form in_order in
    let clean = items-clean (rules form) 0 form values up (agrees 0 form up) held in
    ap (λ (w : Walk Entry). whole form (gathered form w)) (clean-read (rules form) all 0 clean)
    ∙ rw (no-fault (rules form) all 0 clean, items-back 0 form values 0 up held, none) refl

-- ---- whatever may be answered for what is written

abbrev same_answer : {X : Type 0} → X → Result X MessageFault
same_answer x = Ok x

same_value : {X : Type 0} (x y : X) → same_answer x ≡ same_answer y → x ≡ y
same_value x y e = cc

not_refused : {X : Type 0} (x : X) (e : MessageFault) → same_answer x ≡ Err e → ⊥
not_refused x e h = cc

pub reads-as : {M : Type 0} (rows : Table M) (m : M) (payload : List ℕ) → ((a b : M) → parts rows a ≡ parts rows b → a ≡ b) → decoded rows payload ≡ Ok (parts rows m) → ReadsAs rows payload m
reads-as rows m payload told is (Ok read) h = told read m (sym (same_value (parts rows m) (parts rows read) (sym is ∙ h)))
reads-as rows m payload told is (Err (faults.Field e)) h = absurd (not_refused (parts rows m) (faults.Field e) (sym is ∙ h))
reads-as rows m payload told is (Err (faults.MissingField n)) h = absurd (not_refused (parts rows m) (faults.MissingField n) (sym is ∙ h))
reads-as rows m payload told is (Err faults.OutOfMemory) h = refl
