-- What the program answers, from the command that the words ask for and how its run ended.
use Rattle.mum_server.proofs.Common.{◌≡◌, ℕ, ◌^◌, ◌-◌, List, Option, Some, None, refl, sym, ap, ◌∙◌, subst, inl, inr, arith, decimal, ◌⊎◌, IfSome, codes, AppendsFront, Rose, AppendsFront-whole, number_within-decimal, Asks, IsExercise, IsNoCommand, audit_words, replay_words, audit_of, fault_status, memory_line, said, said_of, status_of, Ends, IsCutShort, IsWhole, ReadsCounted, Reports, Tells, WritesCounted, exercise_outcome, outcome_of, Outcome, replayed, Command, Replay, Audit, Exercise, ROUNDS_LIMIT, End, Finished, Faulty, ReadFault, WriteFault, OutOfMemory, LineFault, TooLong, BadRecording, BadJournal, BadConfig, IllegalStep, AuditWrong}
use Rattle.mum_server.proofs.Asked.{words_asked}

-- ---- the command

-- the word that asks for a recording asks for nothing else
pub asks_replay : (words : List (List ℕ)) (command : Command) → Asks words (Some command) → words ≡ replay_words → command ≡ Replay
asks_replay words Replay asks is = refl
asks_replay words Audit asks is = let other = sym is ∙ asks in cc
asks_replay words (Exercise seed rounds) asks is = let other = sym is ∙ asks.words_are in cc

pub asks_audit : (words : List (List ℕ)) (command : Command) → Asks words (Some command) → words ≡ audit_words → command ≡ Audit
asks_audit words Audit asks is = refl
asks_audit words Replay asks is = let other = sym is ∙ asks in cc
asks_audit words (Exercise seed rounds) asks is = let other = sym is ∙ asks.words_are in cc

-- words that ask for a command are no other words
pub asks_for_one : (words : List (List ℕ)) (command : Command) → Asks words (Some command) → IsNoCommand words → ⊥
asks_for_one words Replay asks other = other.no_replay asks
asks_for_one words Audit asks other = other.no_audit asks
asks_for_one words (Exercise seed rounds) asks other = other.no_exercise seed rounds asks

-- words that ask for an exercise ask for that one
pub asks_that : (words : List (List ℕ)) (command : Command) (seed rounds : ℕ) → Asks words (Some command) → IsExercise words seed rounds → command ≡ Exercise seed rounds
asks_that words Replay seed rounds asks is = let other = sym asks ∙ is.words_are in cc
asks_that words Audit seed rounds asks is = let other = sym asks ∙ is.words_are in cc
asks_that words (Exercise s r) seed rounds asks is =
    let same = words_asked words (codes "exercise") (decimal s) (decimal r) seed rounds asks.words_are is in
    let fits = asks.seed_fits in
    let limit = asks.within_limit in
    let s_is = number_within-decimal 0 (2 ^ 64 - 1) s (omega arith) (omega arith) fits in
    let r_is = number_within-decimal 0 ROUNDS_LIMIT r (omega arith) limit (omega arith) in
    let s_same = sym s_is ∙ same.seeded in
    let r_same = sym r_is ∙ same.counted in
    cc

-- ---- the run

-- the run came to its end, or was cut short
pub concluded : (outcome : Outcome) (end : End) (status : ℕ) (old new eold enew : Option (List ℕ)) (R W E : Type 0) → Ends outcome end old new → Reports end status eold enew E
    → (end ≡ ReadFault → R) → (end ≡ WriteFault → W) → IsWhole outcome status old new ⊎ (AppendsFront old new outcome.text × IsCutShort status R W)
concluded outcome Finished status old new eold enew R W E ends (inl h) read wrote = inl (record { status_is = h.0 ∙ ap status_of ends.0; whole = ends.1 })
concluded outcome Finished status old new eold enew R W E ends (inr h) read wrote = absurd h.0
concluded outcome (Faulty n fault) status old new eold enew R W E ends (inl h) read wrote = inl (record { status_is = h.0 ∙ ap status_of ends.0; whole = ends.1 })
concluded outcome (Faulty n fault) status old new eold enew R W E ends (inr h) read wrote = inr (AppendsFront-whole old new outcome.text ends.1, inr (inr h.1))
concluded outcome ReadFault status old new eold enew R W E ends (inl h) read wrote = inr (ends, inl (h.0, read refl))
concluded outcome ReadFault status old new eold enew R W E ends (inr h) read wrote = absurd h.0
concluded outcome WriteFault status old new eold enew R W E ends (inl h) read wrote = inr (ends, inr (inl (h.0, wrote refl)))
concluded outcome WriteFault status old new eold enew R W E ends (inr h) read wrote = absurd h.0
concluded outcome OutOfMemory status old new eold enew R W E ends (inl h) read wrote = inr (ends, inr (inr h.0))
concluded outcome OutOfMemory status old new eold enew R W E ends (inr h) read wrote = absurd h.0

fault_says : (fault : LineFault) (end : End) → said (fault_status fault) end ≡ said_of end
fault_says TooLong end = refl
fault_says BadRecording end = refl
fault_says BadJournal end = refl
fault_says (BadConfig code key) end = refl
fault_says (IllegalStep given against) end = refl
fault_says (AuditWrong given defined) end = refl

-- the line is that of the status
pub says_so : (outcome : Outcome) (end : End) (status : ℕ) (old new eold enew : Option (List ℕ)) (E : Type 0) → Ends outcome end old new → Reports end status eold enew E
    → Tells (said status outcome.ending) eold enew E
says_so outcome Finished status old new eold enew E ends (inl h) = subst (λ (line : List ℕ). Tells line eold enew E) (sym (ap (λ (s : ℕ). said s outcome.ending) h.0 ∙ ap said_of (sym ends.0))) h.1
says_so outcome Finished status old new eold enew E ends (inr h) = absurd h.0
says_so outcome (Faulty n fault) status old new eold enew E ends (inl h) =
    subst (λ (line : List ℕ). Tells line eold enew E) (sym (ap (λ (s : ℕ). said s outcome.ending) h.0 ∙ fault_says fault outcome.ending ∙ ap said_of (sym ends.0))) h.1
says_so outcome (Faulty n fault) status old new eold enew E ends (inr h) = subst (λ (line : List ℕ). Tells line eold enew E) (sym (ap (λ (s : ℕ). said s outcome.ending) h.1)) h.2
says_so outcome ReadFault status old new eold enew E ends (inl h) = subst (λ (line : List ℕ). Tells line eold enew E) (sym (ap (λ (s : ℕ). said s outcome.ending) h.0)) h.1
says_so outcome ReadFault status old new eold enew E ends (inr h) = absurd h.0
says_so outcome WriteFault status old new eold enew E ends (inl h) = subst (λ (line : List ℕ). Tells line eold enew E) (sym (ap (λ (s : ℕ). said s outcome.ending) h.0)) h.1
says_so outcome WriteFault status old new eold enew E ends (inr h) = absurd h.0
says_so outcome OutOfMemory status old new eold enew E ends (inl h) = subst (λ (line : List ℕ). Tells line eold enew E) (sym (ap (λ (s : ℕ). said s outcome.ending) h.0)) h.1
says_so outcome OutOfMemory status old new eold enew E ends (inr h) = absurd h.0

-- ---- both

-- a recording whose bytes are reported is replayed to an outcome of them
of_replay : (left : Option (List ℕ)) (command : Command) (P Q : Outcome → Type 0) → command ≡ Replay → ((o : Outcome) → P o → Q o) → IfSome (outcome_of command left) P
    → IfSome left (λ bytes. Q (replayed bytes))
of_replay None Replay P Q is more h = tt
of_replay (Some bytes) Replay P Q is more h = more (replayed bytes) h
of_replay left Audit P Q is more h = absurd cc
of_replay left (Exercise seed rounds) P Q is more h = absurd cc

-- and one that is audited as well
of_audit : (left : Option (List ℕ)) (command : Command) (P Q : Outcome → Type 0) → command ≡ Audit → ((o : Outcome) → P o → Q o) → IfSome (outcome_of command left) P
    → IfSome left (λ bytes. Q (audit_of bytes))
of_audit None Audit P Q is more h = tt
of_audit (Some bytes) Audit P Q is more h = more (audit_of bytes) h
of_audit left Replay P Q is more h = absurd cc
of_audit left (Exercise seed rounds) P Q is more h = absurd cc

-- an exercise has its own outcome, whatever the input reports
of_exercise : (left : Option (List ℕ)) (command : Command) (seed rounds : ℕ) (P : Outcome → Type 0) → command ≡ Exercise seed rounds → IfSome (outcome_of command left) P
    → P (exercise_outcome seed rounds)
of_exercise left command seed rounds P is h = subst (λ (asked : Command). IfSome (outcome_of asked left) P) is h

read_rose : (end : End) (old new : ℕ) → ReadsCounted end old new → end ≡ ReadFault → Rose old new
read_rose end old new counted is = subst (λ (e : End). ReadsCounted e old new) is counted

write_rose : (end : End) (old new : ℕ) → WritesCounted end old new → end ≡ WriteFault → Rose old new
write_rose end old new counted is = subst (λ (e : End). WritesCounted e old new) is counted

pub replay_answered : (words : List (List ℕ)) (command : Command) (left : Option (List ℕ)) (end : End) (status : ℕ) (old new eold enew : Option (List ℕ)) (rold rnew wold wnew : ℕ) (E : Type 0)
    → Asks words (Some command) → words ≡ replay_words → IfSome (outcome_of command left) (λ outcome. Ends outcome end old new) → Reports end status eold enew E
    → ReadsCounted end rold rnew → WritesCounted end wold wnew
    → IfSome left (λ bytes. IsWhole (replayed bytes) status old new ⊎ (AppendsFront old new (replayed bytes).text × IsCutShort status (Rose rold rnew) (Rose wold wnew)))
replay_answered words command left end status old new eold enew rold rnew wold wnew E asks asked ends reports reads writes =
    of_replay left command (λ o. Ends o end old new) (λ o. IsWhole o status old new ⊎ (AppendsFront old new o.text × IsCutShort status (Rose rold rnew) (Rose wold wnew))) (asks_replay words command asks asked)
    (λ o h. concluded o end status old new eold enew (Rose rold rnew) (Rose wold wnew) E h reports (read_rose end rold rnew reads) (write_rose end wold wnew writes)) ends

pub replay_said : (words : List (List ℕ)) (command : Command) (left : Option (List ℕ)) (end : End) (status : ℕ) (old new eold enew : Option (List ℕ)) (E : Type 0)
    → Asks words (Some command) → words ≡ replay_words → IfSome (outcome_of command left) (λ outcome. Ends outcome end old new) → Reports end status eold enew E
    → IfSome left (λ bytes. Tells (said status (replayed bytes).ending) eold enew E)
replay_said words command left end status old new eold enew E asks asked ends reports =
    of_replay left command (λ o. Ends o end old new) (λ o. Tells (said status o.ending) eold enew E) (asks_replay words command asks asked)
    (λ o h. says_so o end status old new eold enew E h reports) ends

pub audit_answered : (words : List (List ℕ)) (command : Command) (left : Option (List ℕ)) (end : End) (status : ℕ) (old new eold enew : Option (List ℕ)) (rold rnew wold wnew : ℕ) (E : Type 0)
    → Asks words (Some command) → words ≡ audit_words → IfSome (outcome_of command left) (λ outcome. Ends outcome end old new) → Reports end status eold enew E
    → ReadsCounted end rold rnew → WritesCounted end wold wnew
    → IfSome left (λ bytes. IsWhole (audit_of bytes) status old new ⊎ (AppendsFront old new (audit_of bytes).text × IsCutShort status (Rose rold rnew) (Rose wold wnew)))
audit_answered words command left end status old new eold enew rold rnew wold wnew E asks asked ends reports reads writes =
    of_audit left command (λ o. Ends o end old new) (λ o. IsWhole o status old new ⊎ (AppendsFront old new o.text × IsCutShort status (Rose rold rnew) (Rose wold wnew))) (asks_audit words command asks asked)
    (λ o h. concluded o end status old new eold enew (Rose rold rnew) (Rose wold wnew) E h reports (read_rose end rold rnew reads) (write_rose end wold wnew writes)) ends

pub audit_said : (words : List (List ℕ)) (command : Command) (left : Option (List ℕ)) (end : End) (status : ℕ) (old new eold enew : Option (List ℕ)) (E : Type 0)
    → Asks words (Some command) → words ≡ audit_words → IfSome (outcome_of command left) (λ outcome. Ends outcome end old new) → Reports end status eold enew E
    → IfSome left (λ bytes. Tells (said status (audit_of bytes).ending) eold enew E)
audit_said words command left end status old new eold enew E asks asked ends reports =
    of_audit left command (λ o. Ends o end old new) (λ o. Tells (said status o.ending) eold enew E) (asks_audit words command asks asked)
    (λ o h. says_so o end status old new eold enew E h reports) ends

pub exercise_answered : (words : List (List ℕ)) (command : Command) (left : Option (List ℕ)) (end : End) (status seed rounds : ℕ) (old new eold enew : Option (List ℕ)) (wold wnew : ℕ) (E : Type 0)
    → Asks words (Some command) → IsExercise words seed rounds → IfSome (outcome_of command left) (λ outcome. Ends outcome end old new) → Reports end status eold enew E
    → (end ≡ ReadFault → ⊥) → WritesCounted end wold wnew
    → IsWhole (exercise_outcome seed rounds) status old new ⊎ (AppendsFront old new (exercise_outcome seed rounds).text × IsCutShort status ⊥ (Rose wold wnew))
exercise_answered words command left end status seed rounds old new eold enew wold wnew E asks asked ends reports reads writes =
    let h = of_exercise left command seed rounds (λ o. Ends o end old new) (asks_that words command seed rounds asks asked) ends in
    concluded (exercise_outcome seed rounds) end status old new eold enew ⊥ (Rose wold wnew) E h reports reads (write_rose end wold wnew writes)

pub exercise_said : (words : List (List ℕ)) (command : Command) (left : Option (List ℕ)) (end : End) (status seed rounds : ℕ) (old new eold enew : Option (List ℕ)) (E : Type 0)
    → Asks words (Some command) → IsExercise words seed rounds → IfSome (outcome_of command left) (λ outcome. Ends outcome end old new) → Reports end status eold enew E
    → Tells (said status (exercise_outcome seed rounds).ending) eold enew E
exercise_said words command left end status seed rounds old new eold enew E asks asked ends reports =
    let h = of_exercise left command seed rounds (λ o. Ends o end old new) (asks_that words command seed rounds asks asked) ends in
    says_so (exercise_outcome seed rounds) end status old new eold enew E h reports

fault_is_known : (fault : LineFault) → fault_status fault ≡ 70 → ⊥
fault_is_known TooLong is = cc
fault_is_known BadRecording is = cc
fault_is_known BadJournal is = cc
fault_is_known (BadConfig code key) is = cc
fault_is_known (IllegalStep given against) is = cc
fault_is_known (AuditWrong given defined) is = cc

-- where memory ran out that is said
pub memory_said : (end : End) (status : ℕ) (eold enew : Option (List ℕ)) (E : Type 0) → Reports end status eold enew E → status ≡ 70 → Tells memory_line eold enew E
memory_said Finished status eold enew E (inl h) is = let off = sym h.0 ∙ is in cc
memory_said (Faulty n fault) status eold enew E (inl h) is = absurd (fault_is_known fault (sym h.0 ∙ is))
memory_said ReadFault status eold enew E (inl h) is = let off = sym h.0 ∙ is in cc
memory_said WriteFault status eold enew E (inl h) is = let off = sym h.0 ∙ is in cc
memory_said OutOfMemory status eold enew E (inl h) is = h.1
memory_said end status eold enew E (inr h) is = h.2
