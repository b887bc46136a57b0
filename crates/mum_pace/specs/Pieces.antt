-- What a long message counts for: the pieces of it that have begun.
use Rattle.std.specs.Prelude.{ℕ, ◌+◌, ◌-◌, ◌*◌, ◌%◌, ◌==◌, min, nat_lt, Bool, if◌then◌else◌}
use Rattle.std.specs.Int.{div_ceil}
use Rattle.mum_pace.specs.declared.long.TheConstants.{SHORT_LIMIT}
use Rattle.mum_pace.specs.declared.pieces.TheConstants.{PIECE, LONG_PIECE}

-- A piece begins with this byte of a message, which is counted from 0 and with those of the header.
unfoldable pub begins_piece : ℕ → Bool
begins_piece index = if nat_lt index SHORT_LIMIT then index % PIECE == 0 else (index - SHORT_LIMIT) % LONG_PIECE == 0

-- how many pieces begin in n bytes at the front of a message
unfoldable pub pieces_in : ℕ → ℕ
pieces_in bytes = div_ceil (min bytes SHORT_LIMIT) PIECE + div_ceil (bytes - SHORT_LIMIT) LONG_PIECE

-- the most bytes at the front of a message in which no more pieces begin than these
unfoldable pub bytes_within : ℕ → ℕ
bytes_within pieces = min (pieces * PIECE) SHORT_LIMIT + (pieces - div_ceil SHORT_LIMIT PIECE) * LONG_PIECE
