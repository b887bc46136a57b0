-- The text of a journal, part by part.
use Rattle.mum_record.proofs.Common.{◌≡◌, ℕ, ◌+◌, ◌<◌, List, [], ◌∷◌, ◌++◌, map, length, get_or, take, cond, None, Result, Ok, Err, IfOk, is_ok, refl, sym, ap, ◌∙◌, append_assoc, codes, arith, length-take, take_more, map-append, flat_map_more, append-nil, journal_line, limits_lines, head_lines, control_line, entry_line, worker_line, lines_from, lines_of, ended_lines, IsJournal, journal_of, Journal, WorkerEntry}
use Rattle.mum_record.proofs.{DraftLaws.lines_from-push, TextLaws.journal_of-text}

pub ended-append : (xs ys : List (List ℕ)) → ended_lines (xs ++ ys) ≡ ended_lines xs ++ ended_lines ys
ended-append [] ys = refl
ended-append (x ∷ xs) ys =
    ap (λ (t : List ℕ). (x ++ 10 ∷ []) ++ t) (ended-append xs ys) ∙ sym (append_assoc (x ++ 10 ∷ []) (ended_lines xs) (ended_lines ys))

-- the head, the control entries, the workers and the end
pub whole_text : (j : Journal) → ((ended_lines (head_lines journal_line j.workers j.limits j.config) ++ ended_lines (map control_line j.controls)) ++ ended_lines (lines_from 0 j.by_worker)) ++ codes "end\n"
    ≡ ended_lines (lines_of j)
unfolding lines_of
whole_text j =
    let head : List (List ℕ) = head_lines journal_line j.workers j.limits j.config in
    let controls : List (List ℕ) = map control_line j.controls in
    let lists : List (List ℕ) = lines_from 0 j.by_worker in
    sym (ended-append (head ++ controls ++ lists) (codes "end" ∷ [])
    ∙ ap (λ (t : List ℕ). t ++ codes "end\n") (ended-append (head ++ controls) lists ∙ ap (λ (t : List ℕ). t ++ ended_lines lists) (ended-append head controls)))

-- one line more
pub line_more : {X : Type 0} (line_of : X → List ℕ) (old a b c : List ℕ) (xs : List X) (i : ℕ) (x : X) → i < length xs → x ≡ get_or xs i x
    → a ≡ old ++ ended_lines (map line_of (take i xs)) → b ≡ a ++ line_of x → c ≡ b ++ 10 ∷ []
    → c ≡ old ++ ended_lines (map line_of (take (i + 1) xs))
line_more {X} line_of old a b c xs i x h is a_is b_is c_is =
    let before : List (List ℕ) = map line_of (take i xs) in
    let front : take (i + 1) xs ≡ take i xs ++ x ∷ [] = take_more xs i x h ∙ ap (λ (y : X). take i xs ++ y ∷ []) (sym is) in
    let more : map line_of (take (i + 1) xs) ≡ before ++ line_of x ∷ [] = ap (map line_of) front ∙ map-append line_of (take i xs) (x ∷ []) in
    c_is ∙ ap (λ (t : List ℕ). t ++ 10 ∷ []) (b_is ∙ ap (λ (t : List ℕ). t ++ line_of x) a_is)
    ∙ append_assoc (old ++ ended_lines before) (line_of x) (10 ∷ [])
    ∙ flat_map_more (λ (line : List ℕ). line ++ 10 ∷ []) old before (line_of x)
    ∙ ap (λ (lines : List (List ℕ)). old ++ ended_lines lines) (sym more)

-- what a text is after an append
pub appended : {X E : Type 0} (r : Result X E) (text more old : List ℕ) → text ≡ cond (is_ok r) more old → IfOk r (λ _. text ≡ more)
appended (Ok x) text more old h = h
appended (Err e) text more old h = tt

-- one line after a text, and its line feed
line_behind : (a b c line : List ℕ) → b ≡ a ++ line → c ≡ b ++ 10 ∷ [] → c ≡ a ++ ended_lines (line ∷ [])
line_behind a b c line b_is c_is = c_is ∙ ap (λ (t : List ℕ). t ++ 10 ∷ []) b_is ∙ simp append_assoc

joined : (old text more : List ℕ) (xs ys : List (List ℕ)) → text ≡ old ++ ended_lines xs → more ≡ text ++ ended_lines ys → more ≡ old ++ ended_lines (xs ++ ys)
joined old text more xs ys text_is more_is =
    more_is ∙ ap (λ (t : List ℕ). t ++ ended_lines ys) text_is ∙ append_assoc old (ended_lines xs) (ended_lines ys)
    ∙ ap (λ (t : List ℕ). old ++ t) (sym (ended-append xs ys))

-- a line, another, lines, and a last line
pub head_text : (old one two last a b c d e f g : List ℕ) (lines : List (List ℕ)) → a ≡ old ++ one → b ≡ a ++ 10 ∷ [] → c ≡ b ++ two → d ≡ c ++ 10 ∷ []
    → e ≡ d ++ ended_lines lines → f ≡ e ++ last → g ≡ f ++ 10 ∷ [] → g ≡ old ++ ended_lines (one ∷ two ∷ lines ++ last ∷ [])
head_text old one two last a b c d e f g lines a_is b_is c_is d_is e_is f_is g_is =
    joined old e g (one ∷ two ∷ lines) (last ∷ [])
    (joined old d e (one ∷ two ∷ []) lines
    (joined old b d (one ∷ []) (two ∷ []) (line_behind old a b one a_is b_is) (line_behind b c d two c_is d_is))
    e_is)
    (line_behind e f g last f_is g_is)

-- the line of the limits, or nothing
pub no_limits_text : (old : List ℕ) → old ≡ old ++ ended_lines (limits_lines None)
no_limits_text old = sym (append-nil old)

-- the lines of one worker more: that of its number, and those of its entries
one_worker : (lists : List (List WorkerEntry)) (i : ℕ) (entries : List WorkerEntry) → i < length lists → entries ≡ get_or lists i entries
    → lines_from 0 (take (i + 1) lists) ≡ lines_from 0 (take i lists) ++ worker_line i ∷ map entry_line entries
one_worker lists i entries h is =
    let count : length (take i lists) ≡ i = omega (arith, length-take i lists) in
    ap (lines_from 0) (take_more lists i entries h ∙ ap (λ (es : List WorkerEntry). take i lists ++ es ∷ []) (sym is))
    ∙ lines_from-push (take i lists) entries
    ∙ ap (λ (n : ℕ). lines_from 0 (take i lists) ++ worker_line n ∷ map entry_line entries) count

pub worker_more : (old a b c d : List ℕ) (lists : List (List WorkerEntry)) (i : ℕ) (entries : List WorkerEntry) → i < length lists → entries ≡ get_or lists i entries
    → a ≡ old ++ ended_lines (lines_from 0 (take i lists)) → b ≡ a ++ worker_line i → c ≡ b ++ 10 ∷ [] → d ≡ c ++ ended_lines (map entry_line entries)
    → d ≡ old ++ ended_lines (lines_from 0 (take (i + 1) lists))
worker_more old a b c d lists i entries h is a_is b_is c_is d_is =
    d_is ∙ ap (λ (t : List ℕ). t ++ own) (c_is ∙ ap (λ (t : List ℕ). t ++ 10 ∷ []) (b_is ∙ ap (λ (t : List ℕ). t ++ worker_line i) a_is))
    ∙ regrouped old (ended_lines (lines_from 0 (take i lists))) (worker_line i) own
    ∙ ap (λ (t : List ℕ). old ++ t) (sym (ap ended_lines (one_worker lists i entries h is) ∙ ended-append (lines_from 0 (take i lists)) (worker_line i ∷ map entry_line entries)))
  where
    own : List ℕ
    own = ended_lines (map entry_line entries)

    regrouped : (x y z t : List ℕ) → (((x ++ y) ++ z) ++ 10 ∷ []) ++ t ≡ x ++ (y ++ ((z ++ 10 ∷ []) ++ t))
    regrouped x y z t = simp append_assoc

-- a text that was written is read back
pub back : (text : List ℕ) (j : Journal) → text ≡ ended_lines (lines_of j) → IsJournal j → journal_of text ≡ Ok j
back text j written h = ap journal_of written ∙ journal_of-text j h
