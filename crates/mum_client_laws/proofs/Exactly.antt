-- Notices that are exactly those that are due, part after part.
use Rattle.mum_client_laws.proofs.Common.{◌≡◌, ℕ, Bool, true, false, cond, List, [], ◌∷◌, ◌++◌, map, refl, ap, sym, ◌∙◌, filter, flat_map, both_ways, map-append, User, StateValue, Each, all_to_each, parcel, to_each, Notice, frame_of, Message, AreExactly, Due, Meets, due_to, due_to_all, subject_of}

pub exactly_both : (one other : List Notice) (first last : List Due) → AreExactly one first → AreExactly other last → AreExactly (one ++ other) (first ++ last)
exactly_both [] other [] last none is = is
exactly_both [] other (wanted ∷ first) last never is = absurd never
exactly_both (notice ∷ one) other [] last never is = absurd never
exactly_both (notice ∷ one) other (wanted ∷ first) last (meets, more) is = (meets, exactly_both one other first last more is)

pub every : {X : Type 0} (P : X → Type 0) → ((x : X) → P x) → (xs : List X) → Each P xs
every P all [] = tt
every P all (x ∷ xs) = (all x, every P all xs)

-- one notice for each of some, and what is due of each
pub exactly_for : {X : Type 0} (send : X → Notice) (want : X → Due) (xs : List X) → Each (λ x. Meets (send x) (want x)) xs → AreExactly (map send xs) (map want xs)
exactly_for send want [] all = tt
exactly_for send want (x ∷ xs) all = (all.0, exactly_for send want xs all.1)

pub exactly_each : {X : Type 0} (send : X → Notice) (want : X → Due) → ((x : X) → Meets (send x) (want x)) → (xs : List X) → AreExactly (map send xs) (map want xs)
exactly_each send want meets xs = exactly_for send want xs (every (λ x. Meets (send x) (want x)) meets xs)

-- a frame of a message, to a session
pub frame_meets : (frame : List ℕ) (message : Message) → frame_of message ≡ frame → (user : User) → Meets (parcel frame user) (due_to (subject_of message) user)
frame_meets frame message framed user =
    let made : List ℕ → Notice = λ bytes. record { to = user.session; slot = user.slot; bytes = bytes; last = false } in
    (message, refl, ap made (sym framed))

-- each message goes to all
pub exactly_to_all : {M : Type 0} (state : StateValue) (frame : M → List ℕ) (as_message : M → Message) → ((m : M) → frame_of (as_message m) ≡ frame m) → (messages : List M)
    → AreExactly (all_to_each state.roster.sessions (map frame messages)) (due_to_all state (map (λ m. subject_of (as_message m)) messages))
exactly_to_all state frame as_message framed [] = tt
exactly_to_all state frame as_message framed (m ∷ messages) =
    exactly_both (to_each state.roster.sessions (frame m)) (all_to_each state.roster.sessions (map frame messages))
    (map (due_to (subject_of (as_message m))) state.roster.sessions) (due_to_all state (map (λ one. subject_of (as_message one)) messages))
    (exactly_each (parcel (frame m)) (due_to (subject_of (as_message m))) (frame_meets (frame m) (as_message m) (framed m)) state.roster.sessions)
    (exactly_to_all state frame as_message framed messages)

-- the eight parts in which notices are made
pub exactly_eight : (a b c d e f g h : List Notice) (a' b' c' d' e' f' g' h' : List Due)
    → AreExactly a a' → AreExactly b b' → AreExactly c c' → AreExactly d d' → AreExactly e e' → AreExactly f f' → AreExactly g g' → AreExactly h h'
    → AreExactly (a ++ b ++ c ++ d ++ e ++ f ++ g ++ h) (a' ++ b' ++ c' ++ d' ++ e' ++ f' ++ g' ++ h')
exactly_eight a b c d e f g h a' b' c' d' e' f' g' h' one two three four five six seven eight =
    exactly_both (a ++ b ++ c ++ d ++ e ++ f ++ g) h (a' ++ b' ++ c' ++ d' ++ e' ++ f' ++ g') h'
    (exactly_both (a ++ b ++ c ++ d ++ e ++ f) g (a' ++ b' ++ c' ++ d' ++ e' ++ f') g'
    (exactly_both (a ++ b ++ c ++ d ++ e) f (a' ++ b' ++ c' ++ d' ++ e') f'
    (exactly_both (a ++ b ++ c ++ d) e (a' ++ b' ++ c' ++ d') e'
    (exactly_both (a ++ b ++ c) d (a' ++ b' ++ c') d'
    (exactly_both (a ++ b) c (a' ++ b') c' (exactly_both a b a' b' one two) three) four) five) six) seven) eight

-- ---- lists of which one is made by parts, and the other is what is kept

-- each gives one where it is kept, and else none
pub pieces_kept : {X Y Z : Type 0} (g : Y → Z) (f : X → List Y) (h : X → Z) (kept : X → Bool) (xs : List X)
    → Each (λ x. map g (f x) ≡ cond (kept x) (h x ∷ []) []) xs → map g (flat_map f xs) ≡ map h (filter kept xs)
pieces_kept g f h kept [] all = refl
pieces_kept {X} {Z = Z} g f h kept (x ∷ xs) all =
    map-append g (f x) (flat_map f xs) ∙ ap (λ (first : List Z). first ++ map g (flat_map f xs)) all.0
    ∙ ap (λ (rest : List Z). cond {A = List Z} (kept x) (h x ∷ []) [] ++ rest) (pieces_kept g f h kept xs all.1) ∙ joined (kept x)
  where
    joined : (b : Bool) → cond {A = List Z} b (h x ∷ []) [] ++ map h (filter kept xs) ≡ map h (cond b (x ∷ filter kept xs) (filter kept xs))
    joined true = refl
    joined false = refl

-- what is kept of those that pass, where whatever is kept passes
pub kept_within : {X : Type 0} (kept passes : X → Bool) (xs : List X) → Each (λ x. passes x ≡ false → kept x ≡ false) xs → filter kept (filter passes xs) ≡ filter kept xs
kept_within kept passes [] all = refl
kept_within {X} kept passes (x ∷ xs) all = step (passes x) (kept x) refl refl (kept_within kept passes xs all.1)
  where
    step : (p k : Bool) → passes x ≡ p → kept x ≡ k → filter kept (filter passes xs) ≡ filter kept xs
        → filter kept (cond p (x ∷ filter passes xs) (filter passes xs)) ≡ cond k (x ∷ filter kept xs) (filter kept xs)
    step true true is stays rest = rw stays (ap (λ (ys : List X). x ∷ ys) rest)
    step true false is stays rest = rw stays rest
    step false true is stays rest = absurd (both_ways (kept x) (all.0 is) stays)
    step false false is stays rest = rest
