-- What a source and a sink in memory have, and what a read and a write leave.
use Rattle.std.specs.Prelude.{ℕ, List, ◌++◌, drop, if◌then◌else◌}
use Rattle.mum_io.specs.{Calls.CallNumbers, Calls.after_call, Calls.next_fails, Counts.next_count}
use Rattle.mum_io.specs.declared.source.ReadEnd.{ReadEnd, TheVariants.Got, TheVariants.End, TheVariants.Failed}
use Rattle.mum_io.specs.declared.sink.WriteEnd.{WriteEnd, TheVariants.Took, TheVariants.Failed as WriteFailed}

pub record SourceState : Type 0 where
  pub left : List ℕ
  pub calls : CallNumbers
  pub faults : ℕ

pub record SinkState : Type 0 where
  pub written : List ℕ
  pub calls : CallNumbers
  pub faults : ℕ
  -- how many writes ran out of memory
  pub starved : ℕ

abbrev pub after_read : SourceState → ReadEnd → SourceState
after_read source (Got n) = record source { left = drop n source.left; calls = after_call source.calls }
after_read source End = record source { calls = after_call source.calls }
after_read source Failed = record source { calls = after_call source.calls; faults = next_count source.faults }

-- a write that failed and is not one of those that fail ran out of memory
abbrev pub after_write : SinkState → List ℕ → WriteEnd → SinkState
after_write sink piece (Took n) = record sink { written = sink.written ++ piece; calls = after_call sink.calls }
after_write sink piece WriteFailed = record sink {
  calls = after_call sink.calls;
  faults = next_count sink.faults;
  starved = if next_fails sink.calls then sink.starved else next_count sink.starved;
}
