-- Calls that may be refused: what a call answers, and what it leaves.
-- `cause` is the first cause that applies before the call, if one applies. `named` is the table of a type of faults:
-- the cause that a fault names, and none where memory ran out.
use Rattle.std.specs.Prelude.{◌≡◌, Option, Some, None, Result, Ok, Err, ⊤}

-- a call that takes memory: where no cause applies it gives this answer and leaves what is done, or memory runs out;
-- else it names the first cause. A refusal of either kind leaves all as it was
abbrev pub Gives : {State Answer Fault Cause : Type 0} → (Fault → Option Cause) → Option Cause → Answer → State → State
    → Result Answer Fault → State → Type 0
Gives named cause answer done old (Ok given) new = (cause ≡ None) × (given ≡ answer) × (new ≡ done)
Gives named cause answer done old (Err fault) new = (cause ≡ named fault) × (new ≡ old)

-- the same of a call that answers nothing but that it was done
abbrev pub Settles : {State Fault Cause : Type 0} → (Fault → Option Cause) → Option Cause → State → State
    → Result ⊤ Fault → State → Type 0
Settles named cause done old (Ok given) new = (cause ≡ None) × (new ≡ done)
Settles named cause done old (Err fault) new = (cause ≡ named fault) × (new ≡ old)

-- a call in place, which takes no memory: it is done exactly where no cause applies
abbrev pub SettlesInPlace : {State Fault : Type 0} → Option Fault → State → State → Result ⊤ Fault → State → Type 0
SettlesInPlace cause done old (Ok given) new = (cause ≡ None) × (new ≡ done)
SettlesInPlace cause done old (Err fault) new = (cause ≡ Some fault) × (new ≡ old)
