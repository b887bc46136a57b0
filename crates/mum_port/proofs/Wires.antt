-- Frames that are to be written one after another.
use Rattle.mum_port.proofs.Common.{◌≡◌, ℕ, ◌+◌, ◌<◌, List, [], ◌∷◌, ◌++◌, length, ap, sym, subst, ◌∙◌, append_assoc, arith, length-append, concat, append-nil, All-append, All-cons, All-nil, concat-append, HaveBytes, unwritten}

-- a frame that is written after all others
unwritten-last : (front : List ℕ) (wires : List (List ℕ)) (wire : List ℕ) → unwritten front (wires ++ wire ∷ []) ≡ unwritten front wires ++ wire
unwritten-last front wires wire =
    ap (λ (l : List ℕ). front ++ l) (concat-append wires (wire ∷ []) ∙ ap (λ (l : List ℕ). concat wires ++ l) (append-nil wire))
    ∙ sym (append_assoc front (concat wires) wire)

-- the frames after a push, as it goes through room that was taken first
pushed : (old mid new : List (List ℕ)) (wire : List ℕ) → new ≡ mid ++ wire ∷ [] → mid ≡ old → new ≡ old ++ wire ∷ []
pushed old mid new wire push same = push ∙ ap (λ (l : List (List ℕ)). l ++ wire ∷ []) same

pub unwritten-pushed : (front : List ℕ) (old mid new : List (List ℕ)) (wire bytes : List ℕ) → new ≡ mid ++ wire ∷ [] → mid ≡ old
    → unwritten front old ≡ bytes → unwritten front new ≡ bytes ++ wire
unwritten-pushed front old mid new wire bytes push same is =
    ap (λ (l : List (List ℕ)). unwritten front l) (pushed old mid new wire push same)
    ∙ (unwritten-last front old wire ∙ ap (λ (l : List ℕ). l ++ wire) is)

pub HaveBytes-pushed : (old mid new : List (List ℕ)) (wire : List ℕ) → new ≡ mid ++ wire ∷ [] → mid ≡ old
    → HaveBytes old → 0 < length wire → HaveBytes new
HaveBytes-pushed old mid new wire push same each some =
    subst HaveBytes (sym (pushed old mid new wire push same))
    (All-append (λ (w : List ℕ). 0 < length w) old (wire ∷ []) each
    (All-cons (λ (w : List ℕ). 0 < length w) wire [] some (All-nil (λ (w : List ℕ). 0 < length w))))

pub length-pushed : (front : List ℕ) (old mid new : List (List ℕ)) (wire : List ℕ) (before count total : ℕ) → new ≡ mid ++ wire ∷ [] → mid ≡ old
    → before ≡ length (unwritten front old) → count ≡ length wire → total ≡ before + count → total ≡ length (unwritten front new)
length-pushed front old mid new wire before count total push same was counted sum =
    let all : length (unwritten front new) ≡ length (unwritten front old ++ wire) =
    ap length (ap (λ (l : List (List ℕ)). unwritten front l) (pushed old mid new wire push same) ∙ unwritten-last front old wire) in
    let parts : length (unwritten front old ++ wire) ≡ length (unwritten front old) + length wire = length-append (unwritten front old) wire in
    omega (arith, all, parts, was, counted, sum)
