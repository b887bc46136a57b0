-- How the audit of an input ends.
use Rattle.mum_server.proofs.Common.{◌≡◌, ℕ, List, Option, Some, None, Ok, Err, refl, sym, ap, ◌∙◌, subst, arith, IfSome, AppendsFront, Appends-nil, Journal, End, Finished, Faulty, ReadFault, WriteFault, OutOfMemory, IsFaultOf, answered, audit_of, judged, ReadsInput, journal_read, Ends, ReadsCounted, Outcome, stops_at}

-- nothing is a front of anything
nothing : (old : Option (List ℕ)) (text : List ℕ) → AppendsFront old old text
nothing old text = (0, omega arith, Appends-nil old)

audit_is : (bytes : List ℕ) (outcome : Outcome) → answered (journal_read bytes) ≡ outcome → audit_of bytes ≡ outcome
unfolding audit_of
audit_is bytes outcome is = is

stopped : (old : Option (List ℕ)) (bytes : List ℕ) (n : ℕ) (outcome : Outcome) (end : End) → audit_of bytes ≡ outcome → Ends outcome end old old → Ends (audit_of bytes) end old old
stopped old bytes n outcome end is ends = subst (λ (o : Outcome). Ends o end old old) (sym is) ends

-- an input that is no journal
pub input_stops : (left : Option (List ℕ)) (end : End) (old : Option (List ℕ)) → ReadsInput left (Err end) → IfSome left (λ bytes. Ends (audit_of bytes) end old old)
input_stops None end old reads = tt
input_stops (Some bytes) (Faulty n fault) old reads = stopped old bytes n (stops_at n fault) (Faulty n fault) (audit_is bytes (stops_at n fault) (ap answered reads)) (refl, Appends-nil old)
input_stops (Some bytes) ReadFault old reads = nothing old (audit_of bytes).text
input_stops (Some bytes) OutOfMemory old reads = nothing old (audit_of bytes).text
input_stops (Some bytes) Finished old reads = absurd reads
input_stops (Some bytes) WriteFault old reads = absurd reads

-- a journal with a fault
pub input_wrong : (left : Option (List ℕ)) (journal : Journal) (end : End) (old : Option (List ℕ)) → ReadsInput left (Ok journal) → IsFaultOf (judged journal) end
    → IfSome left (λ bytes. Ends (audit_of bytes) end old old)
input_wrong None journal end old reads judges = tt
input_wrong (Some bytes) journal (Faulty n fault) old reads judges =
    stopped old bytes n (stops_at n fault) (Faulty n fault) (audit_is bytes (stops_at n fault) (ap answered reads ∙ judges)) (refl, Appends-nil old)
input_wrong (Some bytes) journal OutOfMemory old reads judges = nothing old (audit_of bytes).text
input_wrong (Some bytes) journal Finished old reads judges = absurd judges
input_wrong (Some bytes) journal ReadFault old reads judges = absurd judges
input_wrong (Some bytes) journal WriteFault old reads judges = absurd judges

-- a legal journal, whose line was written
pub input_told : (left : Option (List ℕ)) (journal : Journal) (line : List ℕ) (end : End) (old new : Option (List ℕ)) → ReadsInput left (Ok journal)
    → judged journal ≡ record { text = line; ending = Finished } → Ends (record { text = line; ending = Finished }) end old new → IfSome left (λ bytes. Ends (audit_of bytes) end old new)
input_told None journal line end old new reads is ends = tt
input_told (Some bytes) journal line end old new reads is ends =
    subst (λ (o : Outcome). Ends o end old new) (sym (audit_is bytes (record { text = line; ending = Finished }) (ap answered reads ∙ is))) ends

pub counts_reads : (end : End) (old new : ℕ) → (end ≡ ReadFault → ⊥) → new ≡ old → ReadsCounted end old new
counts_reads Finished old new never same = same
counts_reads (Faulty n fault) old new never same = same
counts_reads ReadFault old new never same = absurd (never refl)
counts_reads WriteFault old new never same = same
counts_reads OutOfMemory old new never same = same
