-- What all links hold of the allowance for long frames.
use Rattle.std.specs.Prelude.{◌≡◌, ◌≢◌, ℕ, ◌+◌, ◌≤◌, [], length, slice_index}
use Rattle.std.specs.List.{sum}
use Rattle.atomic_table.specs.Table.{Me, State, Step}
use Rattle.mum_pace.specs.declared.long.TheConstants.{LONG_FRAMES_LIMIT}

-- What is reserved, the one word that all links share, is the sum of what each of them holds, and no more than the whole
-- allowance.
abbrev pub IsHeldTogether : {S : Type 0} → State S ℕ → Type 0
IsHeldTogether state =
    (length state.words ≡ 1) × (slice_index state.words 0 ≡ sum state.views)
    × (slice_index state.words 0 ≤ LONG_FRAMES_LIMIT)

-- A link that comes holds nothing.
abbrev pub Comes : {S : Type 0} → Step S → Me S ℕ → ℕ → Me S ℕ → Type 0
Comes step old found new = new ≡ (0, [])

-- What is reserved becomes another number, if it is the one that the link expects: what the link holds changes by as much.
-- Else nothing changes.
abbrev pub Exchanges : {S : Type 0} → Step S → Me S ℕ → ℕ → Me S ℕ → Type 0
Exchanges step old found new =
    (new.1 ≡ old.1) × (found ≡ step.first → new.0 + step.first ≡ old.0 + step.second)
    × (found ≢ step.first → new.0 ≡ old.0)

-- A link gives back n bytes, which it then holds no more.
abbrev pub GivesBack : {S : Type 0} → Step S → Me S ℕ → ℕ → Me S ℕ → Type 0
GivesBack step old found new = (new.1 ≡ old.1) × (new.0 + step.first ≡ old.0)
