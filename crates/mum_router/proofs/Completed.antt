-- A look, and then the offers, are a route.
use Rattle.mum_router.proofs.Common.{◌≡◌, ℕ, ◌+◌, ◌-◌, Bool, true, false, List, [], ◌∷◌, filter, length, not, refl, ap, subst, arith, ◌∙◌, if◌then◌else◌, FoldsTo, length-map, SessionId, VoiceFacts, BoxFacts, Opening, Marked, Edit, Parts, Caches, Hearer, Routed, RouterFacts, Delivers, DeliversEach, Delivery, was_sent, Looks, Routes}
use Rattle.mum_published.specs.Facts.{PassFacts}

abbrev facts : PassFacts → Caches → List Hearer → List (BoxFacts VoiceFacts) → List Marked → RouterFacts
facts pass caches hearers outs marks = record { pass = pass; caches = caches; hearers = hearers; outs = outs; marks = marks }

by_parts : (p q : PassFacts) (c d : Caches) (h k : List Hearer) (o : List (BoxFacts VoiceFacts)) (m n : List Marked)
    → p ≡ q → c ≡ d → h ≡ k → m ≡ n → facts p c h o m ≡ facts q d k o n
by_parts p q c d h k o m n pass caches hearers marks =
    ap (λ (x : PassFacts). facts x c h o m) pass
    ∙ ap (λ (x : Caches). facts q x h o m) caches
    ∙ ap (λ (x : List Hearer). facts q d x o m) hearers
    ∙ ap (λ (x : List Marked). facts q d k o x) marks

one_of : (d : Delivery) (sent others : List Delivery) (n : ℕ) (b : Bool) → length sent + length others ≡ n
    → length (if b then d ∷ sent else sent) + length (if not b then d ∷ others else others) ≡ n + 1
one_of d sent others n true rest = omega (arith, rest)
one_of d sent others n false rest = omega (arith, rest)

-- each copy is sent or not
sent_or_not : (ds : List Delivery) → length (filter was_sent ds) + length (filter (λ d. not (was_sent d)) ds) ≡ length ds
sent_or_not [] = refl
sent_or_not (d ∷ ds) =
    let one = one_of d (filter was_sent ds) (filter (λ d. not (was_sent d)) ds) (length ds) (was_sent d) (sent_or_not ds) in
    omega (arith, one)

pub routes : (opening : Opening) (old mid : RouterFacts) (outs : List (BoxFacts VoiceFacts)) (marks : List Marked) (speaker : SessionId) (packet : Parts) (routed : Routed)
    → Looks opening old speaker packet mid
    → DeliversEach mid.pass.known speaker packet mid.hearers mid.outs outs marks routed.sent
    → routed.revision ≡ length mid.pass.known
    → routed.full ≡ length mid.hearers - routed.sent
    → Routes opening old speaker packet (record mid { outs = outs; marks = marks }) routed
routes opening old mid outs marks speaker packet routed looks each revision full =
    let picked = looks.1 in
    let ds = each.0 in
    let heard = ap (λ (r : RouterFacts). r.hearers) picked.router in
    let all = ap length each.1 in
    let whole = length-map ds (λ (d : Delivery). d.hearer) in
    let parts = sent_or_not ds in
    let sent = each.4 in (
      looks.0,
      ds,
      record {
        may = picked.may;
        router = by_parts mid.pass _ mid.caches mid.caches mid.hearers _ outs marks _ (ap (λ (r : RouterFacts). r.pass) picked.router) refl heard each.3;
        entry = picked.entry;
        each = each.1 ∙ heard;
        offers = subst (λ (os : List (BoxFacts VoiceFacts)). FoldsTo (Delivers looks.0 speaker packet) os ds outs) (ap (λ (r : RouterFacts). r.outs) picked.router)
            (subst (λ (edits : List Edit). FoldsTo (Delivers edits speaker packet) mid.outs ds outs) (ap (λ (r : RouterFacts). r.pass.known) picked.router) each.2);
        revision = revision ∙ ap (λ (r : RouterFacts). length r.pass.known) picked.router;
        sent = sent;
        full = omega (arith, full, all, whole, parts, sent);
      },
    )
