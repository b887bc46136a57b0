-- How the bytes begin that a framer keeps.
use Rattle.std.specs.Prelude.{ℕ, List}
use Rattle.mum_frame.specs.declared.framer.Kept.{Kept}
use Rattle.mum_frame.specs.declared.framer.Kept.TheVariants.{Nothing, Whole, TooLong as NamesTooMuch}
use Rattle.mum_frame.specs.Frame.{HasFrame, HasNoFrame, TooLong}

-- the bytes begin with a whole frame, with a header above the limit, or with neither
abbrev pub BeginAs : List ℕ → Kept → Type 0
BeginAs bytes Nothing = HasNoFrame bytes × ¬ TooLong bytes
BeginAs bytes Whole = HasFrame bytes
BeginAs bytes NamesTooMuch = TooLong bytes
