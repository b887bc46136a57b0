-- The reply to a decided command reaches the worker of its connection, with a note of a revision or without.
use Rattle.std.specs.Prelude.{ℕ, ◌==◌, max, not, Bool, false, List, [], ◌∷◌, length, Option, Some, None, is_none, nat_lt, codes, decimal, if◌then◌else◌}
use Rattle.std.specs.Option.{option_map_or}
use Rattle.mum_record.specs.Grammar.{revision_word}
use Rattle.mum_core.specs.declared.connection.Reply.{Reply}
use Rattle.mum_core.specs.{Case.Case, Case.not_opened, Line.wire_words, Worker.WorkerState}
use Rattle.mum_core.specs.Connection.{is_accepted, revision_of, told, wire_of}
use Rattle.mum_core.specs.Core.{CoreState, connection_at, at_connection, at_worker}

-- whether a reply reports an accepted edit, and of which revision
abbrev pub has_edit : Option Reply → Bool
has_edit reply = option_map_or (λ reply. is_accepted reply.mark) reply false

abbrev pub edit_revision : Option Reply → ℕ
edit_revision reply = option_map_or (λ reply. revision_of reply.mark) reply 0

-- a note comes with an edit that was accepted, holds it, and is published
abbrev pub note_cases : CoreState → Option Reply → Option ℕ → List Case
note_cases core reply None = []
note_cases core reply (Some revision) =
    record { stands = not (has_edit reply); given = revision; against = 0 }
    ∷ record { stands = nat_lt revision (edit_revision reply); given = revision; against = edit_revision reply }
    ∷ record { stands = nat_lt core.published revision; given = revision; against = core.published }
    ∷ []

abbrev pub forbids : CoreState → ℕ → Option ℕ → List Case
forbids core c revision =
    let decided = (connection_at core c).decided in
    not_opened core c
    ∷ record { stands = is_none decided; given = c; against = 0 }
    ∷ note_cases core decided revision

-- a worker that is notified of a revision
abbrev pub noted : ℕ → WorkerState → WorkerState
noted revision worker = record worker { told = max worker.told revision }

abbrev pub notes : ℕ → Option ℕ → CoreState → CoreState
notes w None core = core
notes w (Some revision) core = at_worker w (λ worker. noted revision worker) core

-- the connection knows the seat that it was given, and its worker what the note holds
abbrev pub does : CoreState → ℕ → Option ℕ → CoreState
does core c revision = notes (connection_at core c).worker revision (at_connection c told core)

abbrev pub told_words : ℕ → Option ℕ → List (List ℕ)
told_words c revision = codes "told" ∷ decimal c ∷ revision_word revision ∷ []

-- the line of a frame, where there is one
abbrev pub wire_lines : ℕ → List ℕ → List (List (List ℕ))
wire_lines c bytes = if length bytes == 0 then [] else wire_words c bytes ∷ []

-- nothing comes on the wire of a connection that is closed
abbrev pub wire_to : CoreState → ℕ → List ℕ
wire_to core c = wire_of (connection_at core c)

abbrev pub lines : CoreState → ℕ → Option ℕ → List (List (List ℕ))
lines core c revision = told_words c revision ∷ wire_lines c (wire_to core c)
