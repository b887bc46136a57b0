use Rattle.mum_frame.proofs.Common.{◌≡◌, Ok, Err, Option, Result, ℕ, ◌+◌, ◌≤◌, List, ◌++◌, drop, length, ap, ◌∙◌, subst, arith, err_from_is_err_and, length-append, HEADER_LENGTH, Frame, FrameView, FrameFault, FrameTooLong, viewed, frame_spelling, IsFrame, HasNoFrame, TooLong, named_length}
use Rattle.mum_frame.proofs.{Headers.HasNoFrame-above_limit, Headers.length-spelling_of, Replies.NextGives-out_of_memory, Replies.none_from, Replies.none_to, Replies.too_long_from, Replies.too_long_to}
use Rattle.mum_frame.proofs.framer.Framer.next.Goals as goal

-- the bytes begin with the frame of this view
abbrev Begins : List ℕ → FrameView → Type 0
Begins bytes view =
    IsFrame (viewed view) × (bytes ≡ frame_spelling (viewed view) ++ drop (HEADER_LENGTH + length view.payload.now) bytes)

Begins-kept : (kept bytes : List ℕ) (view : FrameView) → bytes ≡ kept → Begins bytes view → Begins kept view
Begins-kept kept bytes view e = subst (λ (xs : List ℕ). Begins xs view) e

not_none : (bytes : List ℕ) (view : FrameView) → Begins bytes view → HasNoFrame bytes → ⊥
not_none bytes view begun none = none (viewed view) _ begun.0 begun.1

length-Begins : (bytes : List ℕ) (view : FrameView) → Begins bytes view → HEADER_LENGTH + length view.payload.now ≤ length bytes
length-Begins bytes view begun =
    omega (arith, ap length begun.1, length-append (frame_spelling (viewed view)) (drop (HEADER_LENGTH + length view.payload.now) bytes), length-spelling_of view.kind view.payload.now)

-- where a frame begins the bytes, no length is refused
not_refused : (bytes : List ℕ) (view : FrameView) (given : Option Frame) → Begins bytes view
    → let answer : Result (Option Frame) FrameFault = Ok given in
    (answer ≡ Err (FrameTooLong (named_length bytes)) → TooLong bytes) × (TooLong bytes → answer ≡ Err (FrameTooLong (named_length bytes)))
not_refused bytes view given begun = (λ e. cc, λ above. absurd (not_none bytes view begun (HasNoFrame-above_limit bytes above)))

pub returns-in_err-frame-in-Whole-clause-answer : goal.returns-in_err-frame-in-Whole-clause-answer
returns-in_err-frame-in-Whole-clause-answer c =
    let p = err_from_is_err_and c.from_residual.result c.from_residual.ensures.1 in
    NextGives-out_of_memory c.args.self.now.kept c.from_residual.result (p.1 ∙ ap Err p.2)
    (not_none c.args.self.now.kept c.in-Whole.view (Begins-kept _ c.bytes.result.now c.in-Whole.view c.bytes.ensures c.in-Whole.ensures))

pub returns-in_err-frame-in-Whole-clause-none : goal.returns-in_err-frame-in-Whole-clause-none
returns-in_err-frame-in-Whole-clause-none c =
    let p = err_from_is_err_and c.from_residual.result c.from_residual.ensures.1 in
    let gives = NextGives-out_of_memory c.args.self.now.kept c.from_residual.result (p.1 ∙ ap Err p.2)
    (not_none c.args.self.now.kept c.in-Whole.view (Begins-kept _ c.bytes.result.now c.in-Whole.view c.bytes.ensures c.in-Whole.ensures)) in
    (none_from _ _ _ gives, none_to _ _ _ gives)

pub returns-in_err-frame-in-Whole-clause-too_long : goal.returns-in_err-frame-in-Whole-clause-too_long
returns-in_err-frame-in-Whole-clause-too_long c =
    let p = err_from_is_err_and c.from_residual.result c.from_residual.ensures.1 in
    let gives = NextGives-out_of_memory c.args.self.now.kept c.from_residual.result (p.1 ∙ ap Err p.2)
    (not_none c.args.self.now.kept c.in-Whole.view (Begins-kept _ c.bytes.result.now c.in-Whole.view c.bytes.ensures c.in-Whole.ensures)) in
    (λ e. (too_long_from _ _ _ _ gives e).0, too_long_to _ _ _ gives)

pub drop_front-requires : goal.drop_front-requires
drop_front-requires c =
    omega (arith, length-Begins c.args.self.now.kept c.in-Whole.view (Begins-kept _ c.bytes.result.now c.in-Whole.view c.bytes.ensures c.in-Whole.ensures))

pub returns-in_err-drop_front-in-Whole-clause-too_long : goal.returns-in_err-drop_front-in-Whole-clause-too_long
returns-in_err-drop_front-in-Whole-clause-too_long c =
    let failed = c.from_residual-in_err-drop_front-in-Whole in
    let p = err_from_is_err_and failed.result failed.ensures.1 in
    let gives = NextGives-out_of_memory c.args.self.now.kept failed.result (p.1 ∙ ap Err p.2)
    (not_none c.args.self.now.kept c.in-Whole.view (Begins-kept _ c.bytes.result.now c.in-Whole.view c.bytes.ensures c.in-Whole.ensures)) in
    (λ e. (too_long_from _ _ _ _ gives e).0, too_long_to _ _ _ gives)

pub returns-in_ok-drop_front-in-Whole-clause-too_long : goal.returns-in_ok-drop_front-in-Whole-clause-too_long
returns-in_ok-drop_front-in-Whole-clause-too_long c =
    not_refused c.args.self.now.kept c.in-Whole.view _ (Begins-kept _ c.bytes.result.now c.in-Whole.view c.bytes.ensures c.in-Whole.ensures)
