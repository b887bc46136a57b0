-- One copy more is offered.
use Rattle.mum_router.proofs.Common.{◌≡◌, ℕ, ◌+◌, ◌<◌, Bool, true, false, List, [], ◌∷◌, ◌++◌, filter, length, length-append, refl, ap, slice_index_or, sym, subst, take, ◌∙◌, from_bool, if◌then◌else◌, FoldsTo-push, take_at_read, map-append, filter-append, SessionId, VoiceFacts, Offered, PassFacts, Marked, Edit, Parts, Hearer, Delivers, DeliversEach, Delivery, is_sent, mark_of, was_sent}

count_by : (b : Bool) (d : Delivery) → length (if b then d ∷ [] else []) ≡ from_bool b
count_by true d = refl
count_by false d = refl

-- how many are sent with one more
one_sent : (ds : List Delivery) (d : Delivery) → length (filter was_sent (ds ++ d ∷ [])) ≡ length (filter was_sent ds) + from_bool (was_sent d)
one_sent ds d =
    ap length (filter-append was_sent ds (d ∷ []))
    ∙ length-append (filter was_sent ds) (filter was_sent (d ∷ []))
    ∙ ap (λ (n : ℕ). length (filter was_sent ds) + n) (count_by (was_sent d) d)

delivers_one : (edits : List Edit) (speaker : SessionId) (packet : Parts) (hearers : List Hearer) (hearer : Hearer) (outs mid after : List (PassFacts VoiceFacts)) (marks : List Marked) (sent : ℕ) (answer : Offered VoiceFacts)
    → DeliversEach edits speaker packet hearers outs mid marks sent
    → Delivers edits speaker packet mid (record { hearer = hearer; answer = answer }) after
    → DeliversEach edits speaker packet (hearers ++ hearer ∷ []) outs after
    (marks ++ (record { session = hearer.session; context = hearer.context; sent = is_sent answer }) ∷ []) (sent + from_bool (is_sent answer))
delivers_one edits speaker packet hearers hearer outs mid after marks sent answer each one =
    let ds = each.0 in
    let d : Delivery = record { hearer = hearer; answer = answer } in (
      ds ++ d ∷ [],
      map-append (λ (x : Delivery). x.hearer) ds (d ∷ []) ∙ ap (λ (xs : List Hearer). xs ++ hearer ∷ []) each.1,
      FoldsTo-push (Delivers edits speaker packet) outs ds mid d after each.2 one,
      ap (λ (xs : List Marked). xs ++ mark_of d ∷ []) each.3 ∙ sym (map-append mark_of ds (d ∷ [])),
      ap (λ (n : ℕ). n + from_bool (is_sent answer)) each.4 ∙ sym (one_sent ds d),
    )

-- one more of these hearers, by what was said of the answer
pub delivers_next : (edits : List Edit) (speaker : SessionId) (packet : Parts) (hearers : List Hearer) (i : ℕ) (none : Hearer) (outs mid after : List (PassFacts VoiceFacts)) (marks : List Marked) (sent : ℕ) (answer : Offered VoiceFacts) (was : Bool)
    → i < length hearers → was ≡ is_sent answer
    → DeliversEach edits speaker packet (take i hearers) outs mid marks sent
    → Delivers edits speaker packet mid (record { hearer = slice_index_or hearers i none; answer = answer }) after
    → DeliversEach edits speaker packet (take (i + 1) hearers) outs after
    (marks ++ (record { session = (slice_index_or hearers i none).session; context = (slice_index_or hearers i none).context; sent = was }) ∷ []) (sent + from_bool was)
delivers_next edits speaker packet hearers i none outs mid after marks sent answer was within said each one =
    let hearer = slice_index_or hearers i none in
    let front : take (i + 1) hearers ≡ take i hearers ++ hearer ∷ [] = (take_at_read hearers i none within).1 in
    subst
    (λ (b : Bool). DeliversEach edits speaker packet (take (i + 1) hearers) outs after (marks ++ (record { session = hearer.session; context = hearer.context; sent = b }) ∷ []) (sent + from_bool b))
    (sym said)
    (subst
    (λ (xs : List Hearer). DeliversEach edits speaker packet xs outs after (marks ++ (record { session = hearer.session; context = hearer.context; sent = is_sent answer }) ∷ []) (sent + from_bool (is_sent answer)))
    (sym front) (delivers_one edits speaker packet (take i hearers) hearer outs mid after marks sent answer each one))
