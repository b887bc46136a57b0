-- The status and the line of each way in which the program ends.
use Rattle.std.specs.Prelude.{ℕ, ◌==◌, List, [], ◌∷◌, ◌++◌, codes, decimal, if◌then◌else◌}
use Rattle.mum_record.specs.Words.{line_of_words}
use Rattle.mum_server.specs.declared.end.{End.End, LineFault.LineFault}
use Rattle.mum_server.specs.declared.end.End.TheVariants.{Finished, Faulty, ReadFault, WriteFault, OutOfMemory}
use Rattle.mum_server.specs.declared.end.LineFault.TheVariants.{TooLong, BadRecording, BadJournal, BadConfig, IllegalStep, AuditWrong}

abbrev pub fault_status : LineFault → ℕ
fault_status TooLong = 10
fault_status BadRecording = 2
fault_status BadJournal = 2
fault_status (BadConfig code key) = 6
fault_status (IllegalStep given against) = 7
fault_status (AuditWrong given defined) = 5

abbrev pub status_of : End → ℕ
status_of Finished = 0
status_of (Faulty n fault) = fault_status fault
status_of ReadFault = 3
status_of WriteFault = 4
status_of OutOfMemory = 70

-- the statuses of the program; 1 is that of words that are no command
abbrev pub statuses : List ℕ
statuses = 0 ∷ 1 ∷ 2 ∷ 3 ∷ 4 ∷ 5 ∷ 6 ∷ 7 ∷ 10 ∷ 70 ∷ []

abbrev pub fault_name : LineFault → List ℕ
fault_name TooLong = codes "TooLong"
fault_name BadRecording = codes "BadRecording"
fault_name BadJournal = codes "BadJournal"
fault_name (BadConfig code key) = codes "BadConfig"
fault_name (IllegalStep given against) = codes "IllegalStep"
fault_name (AuditWrong given defined) = codes "AuditWrong"

-- what a fault of line n reports beside its name: where it is, and what it is about. A configuration has one line, so
-- its fault names the key and no line
abbrev pub details : ℕ → LineFault → List (List ℕ)
details n (BadConfig code key) = decimal code ∷ key ∷ []
details n (IllegalStep given against) = codes "line" ∷ decimal n ∷ codes "given" ∷ decimal given ∷ codes "against" ∷ decimal against ∷ []
details n (AuditWrong given defined) = codes "line" ∷ decimal n ∷ codes "given" ∷ given ∷ codes "defined" ∷ defined ∷ []
details n others = codes "line" ∷ decimal n ∷ []

-- what is said of a fault of line n
abbrev pub fault_words : ℕ → LineFault → List (List ℕ)
fault_words n fault = codes "murmur:" ∷ decimal (fault_status fault) ∷ fault_name fault ∷ details n fault

abbrev pub read_fault_line : List ℕ
read_fault_line = codes "murmur: 3 ReadFault" ++ 10 ∷ []

abbrev pub write_fault_line : List ℕ
write_fault_line = codes "murmur: 4 WriteFault" ++ 10 ∷ []

abbrev pub memory_line : List ℕ
memory_line = codes "murmur: 70 OutOfMemory" ++ 10 ∷ []

-- what is said on the error stream, with its line feed
abbrev pub said_of : End → List ℕ
said_of Finished = []
said_of (Faulty n fault) = line_of_words (fault_words n fault) ++ 10 ∷ []
said_of ReadFault = read_fault_line
said_of WriteFault = write_fault_line
said_of OutOfMemory = memory_line

-- what is said of a status, where the run over the whole input ends so
abbrev pub said : ℕ → End → List ℕ
said status ending =
    if status == 3 then read_fault_line
    else if status == 4 then write_fault_line
    else if status == 70 then memory_line
    else said_of ending
