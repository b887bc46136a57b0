-- Faults of a keeper over a file.
use Rattle.sqlite.specs.declared.error.{Error.Error, Error.TheVariants.SqliteFailure, ErrorCode.TheVariants.CannotOpen}

-- the error of a file that is not open
abbrev pub not_open : Error
not_open = SqliteFailure CannotOpen
