use Rattle.mum_pace.proofs.Common.{◌≡◌, [], arith, sym, ◌∙◌, nat_tests, place_of, state_of}
use Rattle.mum_pace.proofs.Counting.{empty, few_frames, frames_so_far, nothing_counted, nothing_read}
use Rattle.mum_pace.proofs.meter.Meter.count.Goals as goal

pub overflow_add-counted : goal.overflow_add-counted
overflow_add-counted c =
    let so_far = frames_so_far _ c.loop-rest.counted.frames _ _ c.loop-rest.rest.now c.pass_front-front.result c.pass_front-front.ensures c.loop-rest.invariant.frames in
    let few = few_frames (place_of c.args.self.now.frames) c.args.read.now in
    omega arith

pub returns-clause-meter : goal.returns-clause-meter
returns-clause-meter c =
    let self = c.loop-rest.self in
    let ended : c.loop-rest.rest.now ≡ [] = empty c.loop-rest.rest.now (grind (arith, nat_tests)) in
    sym (c.loop-rest.invariant.meter ∙ nothing_read (state_of self) c.loop-rest.rest.now self.messages.fits self.voice.fits ended)

pub returns-clause-counted : goal.returns-clause-counted
returns-clause-counted c =
    let self = c.loop-rest.self in
    let ended : c.loop-rest.rest.now ≡ [] = empty c.loop-rest.rest.now (grind (arith, nat_tests)) in
    nothing_counted (place_of self.frames) c.loop-rest.rest.now _ c.loop-rest.counted.frames _ c.loop-rest.counted.is_pings ended c.loop-rest.invariant.frames c.loop-rest.invariant.pings
