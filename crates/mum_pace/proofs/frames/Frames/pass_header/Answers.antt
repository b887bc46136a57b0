use Rattle.mum_pace.proofs.Common.{◌≡◌, ◌+◌, ◌-◌, ℕ, List, ◌++◌, length, ap, take, arith, ◌∙◌, take-length, length-take, take-put_mid, begun, place_of}
use Rattle.mum_pace.proofs.{Headers.written_to_the_end, Runs.gathered, Runs.header_front, Runs.ended_front}
use Rattle.mum_pace.proofs.frames.Frames.pass_header.Goals as goal

pub returns-then-self-length-lt-HEADER_LENGTH : goal.returns-then-self-length-lt-HEADER_LENGTH
returns-then-self-length-lt-HEADER_LENGTH c =
    let self = c.args.self.now in
    let read = c.args.read.now in
    let g : length (take self.gathered self.header) ≡ self.gathered = omega (arith, length-take self.gathered self.header) in
    let m : c.min-length.result ≡ length read = omega arith in
    let all : c.copy_from_slice.new.self ≡ read = c.copy_from_slice.ensures.after ∙ ap (λ (n : ℕ). take n read) m ∙ take-length read in
    let len : length c.copy_from_slice.new.self ≡ length read = ap length all in
    let header = take-put_mid self.gathered _ self.header c.copy_from_slice.new.self (self.gathered + c.min-length.result) (omega arith) (omega arith)
    ∙ ap (λ (ys : List ℕ). take self.gathered self.header ++ ys) all in
    header_front (place_of self) _ read _ c.requires (omega arith) m c.nothing.ensures (ap (gathered (place_of self)) header)

pub returns : goal.returns
returns c =
    let self = c.args.self.now in
    let read = c.args.read.now in
    let g : length (take self.gathered self.header) ≡ self.gathered = omega (arith, length-take self.gathered self.header) in
    let header = written_to_the_end self.header c.copy_from_slice.new.self self.gathered (self.gathered + c.min-length.result - self.gathered) (omega arith)
    ∙ ap (λ (ys : List ℕ). take self.gathered self.header ++ ys) c.copy_from_slice.ensures.after in
    ended_front (place_of self) _ read _ c.requires (omega arith) (omega arith) (omega arith) c.of_header.ensures (c.begin_frame.ensures ∙ ap begun header)
