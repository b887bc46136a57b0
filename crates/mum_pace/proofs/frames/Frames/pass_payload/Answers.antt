use Rattle.mum_pace.proofs.Common.{ℕ, ap, refl, take, arith, ◌∙◌, Cost, place_of}
use Rattle.mum_pace.proofs.Runs.{cost_of_pieces, payload_front}
use Rattle.mum_pace.proofs.frames.Frames.pass_payload.Goals as goal

pub returns : goal.returns
returns c =
    let self = c.args.self.now in
    payload_front (place_of self) _ c.args.read.now _ c.requires self.within (ap (λ (n : ℕ). take n self.header) (self.apart c.requires))
    (omega arith) (omega arith) (λ any. omega arith)
    (ap (λ (k : Cost). record { frames = k.frames; messages = c.pieces_to_come-messages.result; voice = k.voice }) c.nothing.ensures
    ∙ ap cost_of_pieces c.pieces_to_come-messages.ensures.pieces)
    refl
