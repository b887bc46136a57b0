-- How long a link waits for a peer that takes nothing.
use Rattle.std.specs.Prelude.{◌≡◌, ℕ, ◌-◌, nat_le, Bool, false, Option, Some, None}
use Rattle.mum_io.specs.declared.link.PollWrite.{PollWrite, TheVariants.Took, TheVariants.NotYet, TheVariants.Failed}
use Rattle.mum_link.specs.declared.patience.Patience.{Patience}

-- it has taken nothing for so long, since then, where there is a limit
abbrev pub has_run_out : Option ℕ → ℕ → ℕ → Bool
has_run_out None since now = false
has_run_out (Some limit) since now = nat_le limit (now - since)

-- a write at this time renews the patience where the peer took something, and answers that there is no room yet only where it
-- has not run out
abbrev pub AnswersInTime : PollWrite → Patience → Patience → ℕ → Type 0
AnswersInTime (Took count) old new now = new ≡ record old { since = now }
AnswersInTime NotYet old new now = (new ≡ old) × (has_run_out old.limit old.since now ≡ false)
AnswersInTime Failed old new now = new ≡ old
