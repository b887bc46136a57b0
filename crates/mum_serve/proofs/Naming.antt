-- Queues that have numbers for their names, and numbers that their owners have to give.
use Rattle.mum_serve.proofs.Common.{◌≡◌, ◌∙◌, ℕ, zero, suc, ◌+◌, ◌-◌, ◌*◌, ◌^◌, ◌<◌, ◌≤◌, List, [], ◌∷◌, ◌++◌, length, map, refl, sym, ap, subst, arith, All, AllPairs, length-map, map-append, All-cons, All-map, All-nil, All-weaker, AllPairs-cons, LAST, HasNumbers, lower_half, upper_half, QueueFacts, QueueId, has_fewer, lower_has, upper_has, queues_of, AreNamedFrom, AreTwo, doubled, numbers_behind}

-- ---- names

pub named_behind : (first : ℕ) (queues : List QueueId) (queue : QueueId) → queue.name ≡ first + length queues → AreNamedFrom first queues → AreNamedFrom first (queues ++ queue ∷ [])
named_behind first [] queue is all = (omega (arith, is), tt)
named_behind first (one ∷ queues) queue is all = (all.0, named_behind (first + 1) queues queue (omega (arith, is)) all.1)

-- a queue more, after the others
pub named_more : (old new : List QueueFacts) (queue : QueueFacts) → new ≡ old ++ queue ∷ [] → queue.queue.name ≡ length old → AreNamedFrom 0 (queues_of old) → AreNamedFrom 0 (queues_of new)
named_more old new queue pushed is all =
    let many : length (queues_of old) ≡ length old = length-map old (λ (q : QueueFacts). q.queue) in
    subst (AreNamedFrom 0) (sym (ap (λ (qs : List QueueFacts). queues_of qs) pushed ∙ map-append (λ (q : QueueFacts). q.queue) old (queue ∷ [])))
    (named_behind 0 (queues_of old) queue.queue (omega (arith, is, many)) all)

names_from : (first : ℕ) (queues : List QueueId) → AreNamedFrom first queues → All (λ (q : QueueId). first ≤ q.name) queues
names_from first [] all = All-nil _
names_from first (queue ∷ queues) all =
    let own = all.0 in
    All-cons (λ (q : QueueId). first ≤ q.name) queue queues (omega arith)
    (All-weaker (λ (q : QueueId). first + 1 ≤ q.name) (λ (q : QueueId). first ≤ q.name) (λ q above. omega arith) queues (names_from (first + 1) queues all.1))

pub named_apart : (first : ℕ) (queues : List QueueId) → AreNamedFrom first queues → AllPairs AreTwo queues
named_apart first [] all = λ i j d before within. absurd (omega (arith, within))
named_apart first (queue ∷ queues) all =
    AllPairs-cons AreTwo queue queues
    (All-weaker (λ (q : QueueId). first + 1 ≤ q.name) (AreTwo queue) (λ q above same. let own = all.0 in let is = ap (λ (i : QueueId). i.name) same in absurd (omega (arith, above, own, is))) queues (names_from (first + 1) queues all.1))
    (named_apart (first + 1) queues all.1)

-- an owner that gave half of its numbers away, and the one that got them, are of the same queue
pub same_lower : (boxes : List QueueFacts) → queues_of (map lower_half boxes) ≡ queues_of boxes
same_lower [] = refl
same_lower (box ∷ boxes) = ap (λ (qs : List QueueId). box.queue ∷ qs) (same_lower boxes)

pub same_upper : (boxes : List QueueFacts) → queues_of (map upper_half boxes) ≡ queues_of boxes
same_upper [] = refl
same_upper (box ∷ boxes) = ap (λ (qs : List QueueId). box.queue ∷ qs) (same_upper boxes)

-- ---- numbers

pub all_map : {X Y : Type 0} (f : X → Y) (P : X → Type 0) (Q : Y → Type 0) → ((x : X) → P x → Q (f x)) → (xs : List X) → All P xs → All Q (map f xs)
all_map f P Q so xs all = All-map Q f xs (All-weaker P (λ x. Q (f x)) so xs all)

pub lower_have : (count : ℕ) (boxes : List QueueFacts) → All (HasNumbers (2 * count)) boxes → All (HasNumbers count) (map lower_half boxes)
lower_have count boxes all = all_map lower_half (HasNumbers (2 * count)) (HasNumbers count) (lower_has count) boxes all

pub upper_have : (count : ℕ) (boxes : List QueueFacts) → All (HasNumbers (2 * count)) boxes → All (HasNumbers count) (map upper_half boxes)
upper_have count boxes all = all_map upper_half (HasNumbers (2 * count)) (HasNumbers count) (upper_has count) boxes all

pub have_fewer : (count fewer : ℕ) (boxes : List QueueFacts) → fewer ≤ count → All (HasNumbers count) boxes → All (HasNumbers fewer) boxes
have_fewer count fewer boxes less all = All-weaker (HasNumbers count) (HasNumbers fewer) (λ box has. has_fewer count fewer box less has) boxes all

pub doubled_least : (count often : ℕ) → count ≤ doubled count often
doubled_least count zero = omega arith
doubled_least count (suc often) = let less = doubled_least count often in omega arith

-- what is there before a worker gets its half is twice what is left
pub numbers_step : (workers : ℕ) → workers < 8 → numbers_behind workers ≡ 2 * numbers_behind (workers + 1)
numbers_step workers few =
    let less : 8 - workers ≡ suc (8 - (workers + 1)) = omega arith in
    ap (λ (often : ℕ). doubled (2 ^ 33) often) less

pub numbers_at_first : numbers_behind 0 ≤ LAST
numbers_at_first = omega arith

pub numbers_left : (workers : ℕ) → 2 ^ 33 ≤ numbers_behind workers
numbers_left workers = doubled_least (2 ^ 33) (8 - workers)

pub numbers_some : (workers : ℕ) → 1 ≤ numbers_behind workers
numbers_some workers = let least = numbers_left workers in omega arith
