-- Runs that end before anything is opened.
use Rattle.mum_serve.proofs.Common.{◌≡◌, ◌∙◌, ℕ, ◌<◌, true, List, [], ◌∷◌, ◌++◌, length, Option, None, Some, Result, Ok, Err, IfOk, IfSome, inl, inr, length-append, refl, sym, ap, subst, arith, codes, nat_lt, nat_tests, option_map_or, fault_of, FitAfterLimits, settings_and_accounts, settings_fit_limits, Edit, Config, CrewCounts, Fault, or_else, BadConfig, Limit, IsAllOrLonger, Keeps, document_fault, ReadsDescribed, Describes, DescribesConfig, IsInput, IsRefusal, NamesFault, ReadsCounted, RunsInCrew, WritesCounted, refusal, ServerEnd}
use Rattle.mum_config.specs.declared.refusal.BadConfig.TheVariants as errors
use Rattle.mum_serve.specs.declared.program.ServerEnd.TheVariants as ends

-- what is said against a document that is too long
abbrev over_limit : Fault
over_limit = record { cause = Limit; key = codes "document" }

long_fault : (bytes : List ℕ) → 65536 < length bytes → fault_of bytes ≡ Some over_limit
unfolding fault_of or_else
long_fault bytes long =
    let over : nat_lt 65536 (length bytes) ≡ true = grind (arith, nat_tests) in
    rw over refl

too_long : (bytes : List ℕ) → 65536 < length bytes → document_fault bytes ≡ Some over_limit
too_long [] long = absurd (omega (arith, long))
too_long (byte ∷ bytes) long = long_fault (byte ∷ bytes) long

-- a document that was not read is refused by the fault that it has
pub refused_as : (bytes : List ℕ) (error : BadConfig) → ReadsDescribed bytes (Err error) → Describes bytes (Err (refusal error))
refused_as bytes (errors.Fault code key) reads = reads
refused_as bytes errors.OutOfMemory reads = tt

-- bytes that are too long say the same as all that follow them
longer_so : (bytes rest : List ℕ) (r : Result Config ServerEnd) → 65536 < length bytes → Describes bytes r → Describes (bytes ++ rest) r
longer_so bytes rest (Ok config) long describes = absurd (let is = too_long bytes long in let none = describes.0 in cc (is, none))
longer_so bytes rest (Err end) long describes =
    subst (NamesFault end) (too_long bytes long ∙ sym (too_long (bytes ++ rest) (omega (arith, long, length-append bytes rest)))) describes

-- the bytes that were read say what the whole input does
pub all_say : (left : Option (List ℕ)) (bytes : List ℕ) (r : Result Config ServerEnd) → IfSome left (λ all. IsAllOrLonger 65536 all bytes) → Describes bytes r → IfSome left (λ all. Describes all r)
all_say None bytes r read describes = tt
all_say (Some all) bytes r (inl same) describes = subst (λ (b : List ℕ). Describes b r) same describes
all_say (Some all) bytes r (inr longer) describes = subst (λ (b : List ℕ). Describes b r) (sym longer.1) (longer_so bytes longer.0 r longer.2 describes)

-- bytes that describe a configuration are the whole input
pub is_input : (left : Option (List ℕ)) (bytes : List ℕ) (config : Config) → IfSome left (λ all. IsAllOrLonger 65536 all bytes) → DescribesConfig bytes config
    → IsInput left (record { config = config; document = bytes })
is_input None bytes config read describes = record { whole = tt; describes = describes }
is_input (Some all) bytes config (inl same) describes = record { whole = same; describes = describes }
is_input (Some all) bytes config (inr longer) describes = absurd (let is = too_long bytes longer.2 in let none = describes.0 in cc (is, none))

pub refusal_reads : (error : BadConfig) (faults : ℕ) → ReadsCounted (refusal error) faults faults
refusal_reads (errors.Fault code key) faults = refl
refusal_reads errors.OutOfMemory faults = refl

pub is_refusal : (error : BadConfig) → IsRefusal (refusal error)
is_refusal (errors.Fault code key) = tt
is_refusal errors.OutOfMemory = tt

-- what was written is what was written
pub keeps_same : (written : Option (List ℕ)) → Keeps written written
keeps_same None = tt
keeps_same (Some bytes) = refl

-- a run that ends so runs nothing and writes nothing
pub refusal_runs : (end : ServerEnd) (counts : CrewCounts) → IsRefusal end → RunsInCrew end counts counts
refusal_runs (ends.BadConfig code key) counts is = tt
refusal_runs ends.ReadFault counts is = tt
refusal_runs ends.OutOfMemory counts is = tt
refusal_runs ends.Finished counts is = absurd is
refusal_runs ends.WriteFault counts is = absurd is
refusal_runs ends.DoorFault counts is = absurd is
refusal_runs ends.CrewFault counts is = absurd is
refusal_runs ends.KeeperFault counts is = absurd is
refusal_runs ends.BadStore counts is = absurd is

pub refusal_writes : (end : ServerEnd) (faults : ℕ) → IsRefusal end → WritesCounted end faults faults
refusal_writes (ends.BadConfig code key) faults is = refl
refusal_writes ends.ReadFault faults is = refl
refusal_writes ends.OutOfMemory faults is = refl
refusal_writes ends.Finished faults is = absurd is
refusal_writes ends.WriteFault faults is = absurd is
refusal_writes ends.DoorFault faults is = absurd is
refusal_writes ends.CrewFault faults is = absurd is
refusal_writes ends.KeeperFault faults is = absurd is
refusal_writes ends.BadStore faults is = absurd is

-- the settings and the accounts of what was read fit alone
pub settings_alone : (bytes : List ℕ) (r : Result Config BadConfig) → ReadsDescribed bytes r → IfOk r (λ config. FitAfterLimits (settings_and_accounts config.edits))
settings_alone bytes (Err error) reads = tt
settings_alone [] (Ok config) reads =
    let none : [] ≡ config.edits = ap (λ (one : Option Config). option_map_or (λ (c : Config). c.edits) one []) reads.1 in
    subst (λ (edits : List Edit). FitAfterLimits (settings_and_accounts edits)) none (λ sessions channels fit. refl)
settings_alone (byte ∷ bytes) (Ok config) reads = settings_fit_limits (byte ∷ bytes) (Ok config) reads
