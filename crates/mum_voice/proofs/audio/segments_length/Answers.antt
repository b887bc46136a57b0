use Rattle.mum_voice.proofs.Common.{get_or, refl, sym, ◌∙◌, arith, and_mask}
use Rattle.mum_voice.proofs.AudioLength.{loop_short, loop_last, loop_another, loop_ended}
use Rattle.mum_voice.proofs.audio.segments_length.Goals as goal

pub returns-then-len-bytes-clause-len : goal.returns-then-len-bytes-clause-len
returns-then-len-bytes-clause-len c =
    sym (loop_short c.args.bytes.now c.segments.len _ _ (omega arith) refl (omega (arith, c.from.ensures, and_mask (get_or c.args.bytes.now c.segments.len 0) 7)) c.if-len-bytes.true) ∙ c.segments.invariant.so_far

pub returns-then-header-lt128-clause-len : goal.returns-then-header-lt128-clause-len
returns-then-header-lt128-clause-len c =
    sym (loop_last c.args.bytes.now c.segments.len _ _ (omega arith) refl (omega (arith, c.from.ensures, and_mask (get_or c.args.bytes.now c.segments.len 0) 7)) c.if-len-bytes.false c.if-header-lt128.true) ∙ c.segments.invariant.so_far

pub segments-preserved : goal.segments-preserved
segments-preserved c =
    record {
      within = c.if-len-bytes.false;
      so_far = sym (loop_another c.args.bytes.now c.segments.len _ _ (omega arith) refl (omega (arith, c.from.ensures, and_mask (get_or c.args.bytes.now c.segments.len 0) 7)) c.if-len-bytes.false c.if-header-lt128.false) ∙ c.segments.invariant.so_far;
    }

pub returns-clause-len : goal.returns-clause-len
returns-clause-len c = sym (loop_ended c.args.bytes.now c.segments.len (omega arith)) ∙ c.segments.invariant.so_far
