-- A call that failed is counted.
use Rattle.std.proofs.Common.{◌≡◌, ◌∙◌, ℕ, not, Bool, ap, subst}
use Rattle.std.specs.IoError.{error_kind}
use Rattle.std.specs.declared.io.{ErrorKind.ErrorKind, Error.Error}
use Rattle.mum_link.specs.Faults.{CountsOneIf, is_passing}

pub counted : (passing : Bool) (kind : ErrorKind) (error : Error) (old new : ℕ) → passing ≡ is_passing kind → kind ≡ error_kind error
    → CountsOneIf (not passing) old new → CountsOneIf (not (is_passing (error_kind error))) old new
counted passing kind error old new passes same counts = subst (λ (b : Bool). CountsOneIf (not b) old new) (passes ∙ ap is_passing same) counts
