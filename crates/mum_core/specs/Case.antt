-- When a step is not allowed: its cases, in the order in which they are tested.
use Rattle.std.specs.Prelude.{Bool, Err, IsSome, List, None, Ok, Option, Result, Some, [], if◌then◌else◌, is_some, length, nat_lt, not, unwrap_or, ℕ, ⊤, ◌∷◌, ◌≡◌}
use Rattle.mum_core.specs.declared.machine.StepFault.{StepFault, TheVariants.Illegal, TheVariants.OutOfMemory}
use Rattle.mum_core.specs.Core.{CoreState, connection_at, is_opened}

-- a case: whether it applies, and the numbers given and against
pub record Case : Type 0 where
  pub stands : Bool
  pub given : ℕ
  pub against : ℕ

-- the numbers of the first case that applies
abbrev pub first_that_stands : List Case → Option (ℕ × ℕ)
first_that_stands [] = None
first_that_stands (case ∷ cases) = if case.stands then Some (case.given, case.against) else first_that_stands cases

-- the numbers that a fault names; none where memory ran out
abbrev pub named_cause : StepFault → Option (ℕ × ℕ)
named_cause OutOfMemory = None
named_cause (Illegal given against) = Some (given, against)

-- a test that lets a step on where none of its cases applies
abbrev pub Passes : Option (ℕ × ℕ) → Result ⊤ StepFault → Type 0
Passes cause (Ok done) = cause ≡ None
Passes cause (Err fault) = IsSome cause × (cause ≡ named_cause fault)

-- memory ran out, and nothing changed
abbrev pub IsStarved : {A : Type 0} → CoreState → Result A StepFault → CoreState → Type 0
IsStarved old result new = (result ≡ Err OutOfMemory) × (new ≡ old)

abbrev pub not_opened : CoreState → ℕ → Case
not_opened core c = record { stands = not (is_opened core c); given = c; against = length core.connections }

abbrev pub is_closed : CoreState → ℕ → Case
is_closed core c =
    let closed = (connection_at core c).closed in
    record { stands = is_some closed; given = c; against = unwrap_or closed 0 }

abbrev pub no_worker : CoreState → ℕ → Case
no_worker core w = record { stands = not (nat_lt w (length core.workers)); given = w; against = length core.workers }
