-- First faults: what an error says of a chain of tests.
use Rattle.mum_document.proofs.Common.{◌≡◌, ℕ, Bool, true, false, not, List, [], ◌∷◌, ◌++◌, Option, None, Some, Result, Ok, Err, IfOk, OnOk, IsErrAnd, append_assoc, refl, sym, ap, ◌∙◌, err_from_is_err_and, Data, DocumentError, ConfigFault, Fault, or_else, within, Row, rows_fault, Names, Reads, needed, wanted}
use Rattle.mum_document.specs.declared.fault.DocumentError.TheVariants as bad

pub first : (e : DocumentError) (a b : Option Fault) → Names e a → Names e (or_else a b)
unfolding Names or_else
first (bad.Fault cause key) None b names = absurd (cc)
first (bad.Fault cause key) (Some fault) b names = names
first bad.OutOfMemory a b names = tt

pub or_else-none : (a b : Option Fault) → a ≡ None → or_else a b ≡ b
unfolding or_else
or_else-none None b none = refl
or_else-none (Some fault) b none = absurd (cc)

pub later : (e : DocumentError) (a b : Option Fault) → a ≡ None → Names e b → Names e (or_else a b)
unfolding Names or_else
later e None b none names = names
later e (Some fault) b none names = absurd (cc)

pub none_said : (a b : Option Fault) → a ≡ None → b ≡ None → or_else a b ≡ None
unfolding or_else
none_said None b none rest = rest
none_said (Some fault) b none rest = absurd (cc)

-- where nothing is said of two, nothing is said of each
pub first_none : (a b : Option Fault) → or_else a b ≡ None → a ≡ None
unfolding or_else
first_none None b none = refl
first_none (Some fault) b none = none

pub later_none : (a b : Option Fault) → or_else a b ≡ None → b ≡ None
unfolding or_else
later_none None b none = none
later_none (Some fault) b none = absurd (cc)

pub or_else-assoc : (a b c : Option Fault) → or_else (or_else a b) c ≡ or_else a (or_else b c)
unfolding or_else
or_else-assoc None b c = refl
or_else-assoc (Some fault) b c = refl

pub or_else-end : (a : Option Fault) → or_else a None ≡ a
unfolding or_else
or_else-end None = refl
or_else-end (Some fault) = refl

pub within-none : (way : List ℕ) → within way None ≡ None
unfolding within
within-none way = refl

pub within_none : (way : List ℕ) (a : Option Fault) → a ≡ None → within way a ≡ None
unfolding within
within_none way None none = refl
within_none way (Some fault) none = absurd (cc)

pub none_within : (way : List ℕ) (a : Option Fault) → within way a ≡ None → a ≡ None
unfolding within
none_within way None none = refl
none_within way (Some fault) none = absurd (cc)

-- memory may always run out
pub out_of_memory : (e : DocumentError) (a : Option Fault) → e ≡ bad.OutOfMemory → Names e a
unfolding Names
out_of_memory (bad.Fault cause key) a is = absurd (cc)
out_of_memory bad.OutOfMemory a is = tt

module _ {X : Type 0} (r : Result X DocumentError) (fault : Option Fault) (value : X) where
  -- an error that is passed on
  pub passed_on : (e : DocumentError) → IsErrAnd r (λ y. y ≡ e) → Names e fault → Reads fault value r
  passed_on e is names = let p = err_from_is_err_and r is in rw (p.1, p.2) names

  -- and one that is out of memory
  pub starved : IsErrAnd r (λ y. y ≡ bad.OutOfMemory) → Reads fault value r
  starved is = let p = err_from_is_err_and r is in rw p.1 (out_of_memory p.0 fault p.2)

-- the same error, seen from further out
pub moved : (e : DocumentError) (cause : ConfigFault) (key longer way : List ℕ) (fault : Option Fault) → e ≡ bad.Fault cause key → longer ≡ way ++ key
    → Names e fault → Names (bad.Fault cause longer) (within way fault)
unfolding Names within
moved e cause key longer way fault is longer_is names =
    let said : fault ≡ Some (record { cause = cause; key = key }) = rw is at names in rw (said, longer_is) refl

pub within-within : (way further : List ℕ) (fault : Option Fault) → within way (within further fault) ≡ within (way ++ further) fault
unfolding within
within-within way further None = refl
within-within way further (Some fault) = rw append_assoc refl

-- where nothing is said of a value only because it is missing, memory ran out
pub needed_too : (e : DocumentError) (way : List ℕ) (fault : Data → Option Fault) (found : Option Data) → Names e (within way (wanted fault found)) → Names e (within way (needed fault found))
unfolding Names within needed wanted
needed_too (bad.Fault cause key) way fault None names = absurd (cc)
needed_too bad.OutOfMemory way fault None names = tt
needed_too e way fault (Some value) names = names

-- a reader of the later of two tests, where the first says nothing
pub reads_later : {X : Type 0} (a b : Option Fault) (value : X) (r : Result X DocumentError) → a ≡ None → Reads b value r → Reads (or_else a b) value r
reads_later a b value (Ok read) none reads = (none_said a b none reads.0, reads.1)
reads_later a b value (Err e) none reads = later e a b none reads

pub not_new : (new has : Bool) → new ≡ not has → not new ≡ has
not_new new true is = rw is refl
not_new new false is = rw is refl

-- the first two of more tests
pub first_two : (e : DocumentError) (a b c : Option Fault) → Names e (or_else a (or_else b None)) → Names e (or_else a (or_else b c))
unfolding Names or_else
first_two e (Some fault) b c names = names
first_two e None (Some fault) c names = names
first_two (bad.Fault cause key) None None c names = absurd (cc)
first_two bad.OutOfMemory None None c names = tt

-- ---- rows, and rows after them

pub rows_fault-append : (dot : List ℕ) (rows more : List Row) → rows_fault dot (rows ++ more) ≡ or_else (rows_fault dot rows) (rows_fault dot more)
unfolding or_else
rows_fault-append dot [] more = refl
rows_fault-append dot (row ∷ rows) more =
    ap (or_else (within (dot ++ row.0) row.1)) (rows_fault-append dot rows more) ∙ sym (or_else-assoc (within (dot ++ row.0) row.1) (rows_fault dot rows) (rows_fault dot more))

pub rows_first : (dot : List ℕ) (rows more : List Row) (e : DocumentError) → Names e (rows_fault dot rows) → Names e (rows_fault dot (rows ++ more))
rows_first dot rows more e names = rw (rows_fault-append dot rows more) (first e _ _ names)

pub rows_later : (dot : List ℕ) (rows more : List Row) (e : DocumentError) → rows_fault dot rows ≡ None → Names e (rows_fault dot more) → Names e (rows_fault dot (rows ++ more))
rows_later dot rows more e none names = rw (rows_fault-append dot rows more) (later e _ _ none names)

pub rows_none : (dot : List ℕ) (rows more : List Row) → rows_fault dot rows ≡ None → rows_fault dot more ≡ None → rows_fault dot (rows ++ more) ≡ None
rows_none dot rows more none rest = rw (rows_fault-append dot rows more) (none_said _ _ none rest)

-- what holds where a reader went well, holds where what was made of its answer did
pub on_ok_through : {X : Type 0} (P : Type 0) (r read : Result X DocumentError) → IfOk r (λ value. read ≡ Ok value) → OnOk read P → OnOk r P
on_ok_through P (Ok value) read same held = rw same at held
on_ok_through P (Err e) read same held = tt

pub on_ok_as : {X : Type 0} {P Q : Type 0} (r : Result X DocumentError) → OnOk r P → (P → Q) → OnOk r Q
on_ok_as (Ok value) held then_so = then_so held
on_ok_as (Err e) held then_so = tt

-- a reader of rows after others of which nothing is said
pub rows_reads : {X : Type 0} (value : X) (dot : List ℕ) (rows more : List Row) (r : Result X DocumentError) → rows_fault dot rows ≡ None → Reads (rows_fault dot more) value r
    → Reads (rows_fault dot (rows ++ more)) value r
rows_reads value dot rows more r none reads = rw (rows_fault-append dot rows more) (reads_later _ _ value r none reads)
