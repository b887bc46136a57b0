use Rattle.mum_frame.proofs.Common.{◌≡◌, ℕ, ◌+◌, List, [], ◌++◌, length, refl, arith, sym, ap, ◌∙◌, append-nil, FirstFrame, Whole, Partial, AboveLimit, FrameView, Frame, frame_spelling, HasNoFrame, kind_of, payload_of, viewed, IsFirst}
use Rattle.mum_frame.proofs.{Headers.spelling-injective, Headers.length-spelling_of, Headers.HasNoFrame-above_limit, OneFrame.alone_is, OneFrame.kind_of-spelling, OneFrame.payload_of-spelling, frame.whole_frame.Goals.in_default-via-in-Whole+else-bytes-view, frame.whole_frame.Goals.in_default-via-in_default}
use Rattle.mum_frame.proofs.frame.whole_frame.Goals as goal

pub returns-in-Whole-clause-kind : goal.returns-in-Whole-clause-kind
returns-in-Whole-clause-kind c =
    let found = c.in-Whole.ensures in
    let whole : c.args.bytes.now ≡ frame_spelling (viewed c.in-Whole.view) = alone_is c.args.bytes.now (viewed c.in-Whole.view) found (omega arith) in
    sym (ap kind_of whole ∙ kind_of-spelling (viewed c.in-Whole.view) found.0)

pub returns-in-Whole-clause-payload : goal.returns-in-Whole-clause-payload
returns-in-Whole-clause-payload c =
    let whole : c.args.bytes.now ≡ frame_spelling (viewed c.in-Whole.view) = alone_is c.args.bytes.now (viewed c.in-Whole.view) c.in-Whole.ensures (omega arith) in
    sym (ap payload_of whole ∙ payload_of-spelling (viewed c.in-Whole.view))

-- where no whole frame was found, none begins the bytes
not_whole : (bytes : List ℕ) (first : FirstFrame) → IsFirst bytes first → ((view : FrameView) → first ≡ Whole view → ⊥) → HasNoFrame bytes
not_whole bytes (Whole view) is not_first = absurd (not_first view refl)
not_whole bytes Partial is not_first = is.0
not_whole bytes (AboveLimit n) is not_first = HasNoFrame-above_limit bytes is.0

pub returns-in_default-clause-one : goal.returns-in_default-clause-one
returns-in_default-clause-one c = (
  λ some. cc,
  λ (frame, is, e).
      let begun : c.args.bytes.now ≡ frame_spelling frame ++ [] = e ∙ sym (append-nil (frame_spelling frame)) in
      elim c.in_default.branch [
        | in_default-via-in-Whole+else-bytes-view w ↦
            let found = w.in-Whole.ensures in
            let same = spelling-injective (viewed w.in-Whole.view) frame _ [] found.0 is (sym found.1 ∙ begun) in
            let long : length c.args.bytes.now ≡ 6 + length frame.payload = ap length e ∙ length-spelling_of frame.kind frame.payload in
            absurd (w.if-bytes-view.false (long ∙ sym (ap (λ (f : Frame). 6 + length f.payload) same.0)))
        | in_default-via-in_default w ↦
            absurd (not_whole c.args.bytes.now c.first_frame.result c.first_frame.ensures w.in_default.not-Whole frame [] is begun)
      ],
)
