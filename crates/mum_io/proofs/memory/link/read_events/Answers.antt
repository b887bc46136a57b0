use Rattle.mum_io.proofs.Common.{rules, ◌≡◌, sym, ◌∙◌, take, arith, bytes_of, with_rest}
use Rattle.mum_io.proofs.{MemLinkLemmas.bytes_of-same, MemLinkLemmas.bytes_of-taken, MemoryLemmas.min-positive}
use Rattle.mum_io.proofs.memory.link.read_events.Goals as goal

pub returns-in_default-clause-bytes : goal.returns-in_default-clause-bytes
returns-in_default-clause-bytes c =
    let same : bytes_of (with_rest c.loop-events.piece c.loop-events.events.items) ≡ bytes_of (with_rest c.args.piece.now c.args.events.now.items) =
    bytes_of-same (with_rest c.loop-events.piece c.loop-events.events.items) (with_rest c.args.piece.now c.args.events.now.items) c.loop-events.invariant in
    search rules

pub returns-in-NotYet-clause-bytes : goal.returns-in-NotYet-clause-bytes
returns-in-NotYet-clause-bytes c =
    let same : bytes_of (with_rest c.loop-events.piece c.loop-events.events.items) ≡ bytes_of (with_rest c.args.piece.now c.args.events.now.items) =
    bytes_of-same (with_rest c.loop-events.piece c.loop-events.events.items) (with_rest c.args.piece.now c.args.events.now.items) c.loop-events.invariant in
    search rules

pub returns-in-Fail-clause-bytes : goal.returns-in-Fail-clause-bytes
returns-in-Fail-clause-bytes c =
    let same : bytes_of (with_rest c.loop-events.piece c.loop-events.events.items) ≡ bytes_of (with_rest c.args.piece.now c.args.events.now.items) =
    bytes_of-same (with_rest c.loop-events.piece c.loop-events.events.items) (with_rest c.args.piece.now c.args.events.now.items) c.loop-events.invariant in
    search rules

pub returns-in-End-clause-bytes : goal.returns-in-End-clause-bytes
returns-in-End-clause-bytes c =
    let same : bytes_of (with_rest c.loop-events.piece c.loop-events.events.items) ≡ bytes_of (with_rest c.args.piece.now c.args.events.now.items) =
    bytes_of-same (with_rest c.loop-events.piece c.loop-events.events.items) (with_rest c.args.piece.now c.args.events.now.items) c.loop-events.invariant in
    search rules

pub returns-clause-bytes : goal.returns-clause-bytes
returns-clause-bytes c =
    let same : bytes_of (with_rest c.loop-events.piece c.loop-events.events.items) ≡ bytes_of (with_rest c.args.piece.now c.args.events.now.items) =
    bytes_of-same (with_rest c.loop-events.piece c.loop-events.events.items) (with_rest c.args.piece.now c.args.events.now.items) c.loop-events.invariant in (
      min-positive _ _ _ c.read.ensures.count c.requires (sym c.is_empty.ensures ∙ c.loop-events-test.false),
      omega (arith, c.read.ensures.count, c.read.auto.buf),
      sym same ∙ bytes_of-taken c.loop-events.piece (take c.read.result c.read.new.buf) c.read.new.self c.loop-events.events.items c.read.ensures.taken,
    )
