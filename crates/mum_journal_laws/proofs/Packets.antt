-- The voice entries of looks are right, and their revisions never fall.
use Rattle.mum_journal_laws.proofs.Common.{◌≡◌, ◌∙◌, ℕ, suc, ◌≤◌, List, [], ◌∷◌, ◌++◌, length, map, take, Some, refl, ap, sym, subst, arith, length-append, All, AllByRecursion, AllPairs, filter_map, flat_map, take_at, All-cons, All-head, All-map, All-nil, All-tail, AllPairs-cons, IsPrefix, members_of, IsHeard, IsRight, revision_of, Past, session_of, state_at, state_of, Opening, WorkerEntry, Closed, Voice, member_of, HearersAreTheRoute, Member, route, Hearer, Delivery, mark_of, GoesToHearers, led_to, StateValue, Edit, packet, Follows, Look, Moment, looks_in, Looked, Told, Took, Talk, talk_in, talk_made}

-- ---- whom packets went to

members_marked : (deliveries : List Delivery) → members_of (map mark_of deliveries) ≡ map member_of (map (λ delivery. delivery.hearer) deliveries)
members_marked [] = refl
members_marked (delivery ∷ deliveries) = ap (λ (rest : List Member). member_of delivery.hearer ∷ rest) (members_marked deliveries)

parts_of : {X : Type 0} (P : X → Type 0) (xs ys : List X) → AllByRecursion P (xs ++ ys) → AllByRecursion P xs × AllByRecursion P ys
parts_of P [] ys all = (tt, all)
parts_of P (x ∷ xs) ys all = let both = parts_of P xs ys all.1 in ((all.0, both.0), both.1)

all_append : {X : Type 0} (P : X → Type 0) (xs ys : List X) → AllByRecursion P xs → AllByRecursion P ys → AllByRecursion P (xs ++ ys)
all_append P [] ys held also = also
all_append P (x ∷ xs) ys held also = (held.0, all_append P xs ys held.1 also)

module _ (members : HearersAreTheRoute) (opening : Opening) (past : Past) (begun : past.opening ≡ opening.state) where
  -- a packet was routed after a beginning of what was accepted, to those who hear it, for the session of its connection
  pub record IsRightLook (look : Look) : Type 0 where
    pub begins : IsPrefix look.edits past.accepted
    pub hearers : GoesToHearers opening look
    pub logged_in : session_of past look.connection ≡ Some look.speaker

  few : (edits : List Edit) → IsPrefix edits past.accepted → length edits ≤ length past.accepted
  few edits front =
      let whole : length (edits ++ front.0) ≡ length past.accepted = ap length front.1 in
      let both = length-append edits front.0 in
      omega arith

  -- the state at the revision of a look is the one that it saw
  state_there : (edits : List Edit) → IsPrefix edits past.accepted → state_at past (length edits) ≡ state_of opening edits
  state_there edits front =
      ap (λ (state : StateValue). led_to state (take (length edits) past.accepted)) begun
      ∙ ap (λ (es : List Edit). led_to opening.state (take (length edits) es)) (sym front.1)
      ∙ ap (λ (es : List Edit). led_to opening.state es) (take_at edits front.0 (length edits) refl)

  audience_is : (look : Look) → IsRightLook look → members_of (map mark_of look.deliveries) ≡ route (state_at past (length look.edits)) look.speaker look.packet.target
  audience_is look right =
      members_marked look.deliveries
      ∙ ap (λ (hearers : List Hearer). map member_of hearers) right.hearers
      ∙ members (state_of opening look.edits) look.speaker look.packet.target
      ∙ ap (λ (state : StateValue). route state look.speaker look.packet.target) (sym (state_there look.edits right.begins))

  entry_heard : (talk : Talk) (bytes : List ℕ) (look : Look) → talk ≡ talk_made look → packet bytes ≡ talk.read → IsRightLook look → IsHeard past talk.connection talk.revision bytes talk.copies
  entry_heard talk bytes look same read right = record {
    accepted = subst (λ (n : ℕ). n ≤ length past.accepted) (sym (ap (λ (t : Talk). t.revision) same)) (few look.edits right.begins);
    parts = look.packet;
    parsed = read ∙ ap (λ (t : Talk). t.read) same;
    speaker = look.speaker;
    logged_in = ap (λ (t : Talk). session_of past t.connection) same ∙ right.logged_in;
    audience =
        ap (λ (t : Talk). members_of t.copies) same ∙ audience_is look right
        ∙ ap (λ (t : Talk). route (state_at past t.revision) look.speaker look.packet.target) (sym same);
  }

  worker_right : (entries : List WorkerEntry) (looks : List Look) → filter_map talk_in entries ≡ map talk_made looks → AllByRecursion IsRightLook looks → AllByRecursion (IsRight past) entries
  worker_right [] looks same right = tt
  worker_right (Closed connection cause ∷ entries) looks same right = (tt, worker_right entries looks same right)
  worker_right (Voice connection revision bytes copies ∷ entries) [] same right = absurd (cc)
  worker_right (Voice connection revision bytes copies ∷ entries) (look ∷ looks) same right =
      let talk : Talk = record { connection = connection; revision = revision; read = packet bytes; copies = copies } in
      let first : talk ≡ talk_made look = cc in
      let rest : filter_map talk_in entries ≡ map talk_made looks = cc in
      (entry_heard talk bytes look first refl right.0, worker_right entries looks rest right.1)

  pub entries_right : (lists : List (List WorkerEntry)) (looks : List (List Look)) → map (filter_map talk_in) lists ≡ map (map talk_made) looks
      → AllByRecursion IsRightLook (flat_map (λ l. l) looks) → AllByRecursion (IsRight past) (flat_map (λ es. es) lists)
  entries_right [] looks same right = tt
  entries_right (entries ∷ lists) [] same right = absurd (cc)
  entries_right (entries ∷ lists) (looks ∷ others) same right =
      let first : filter_map talk_in entries ≡ map talk_made looks = cc in
      let rest : map (filter_map talk_in) lists ≡ map (map talk_made) others = cc in
      let both = parts_of IsRightLook looks (flat_map (λ l. l) others) right in
      all_append (IsRight past) entries (flat_map (λ es. es) lists) (worker_right entries looks first both.0) (entries_right lists others rest both.1)

-- ---- revisions

abbrev pub SeesMore : Look → Look → Type 0
SeesMore earlier later = length earlier.edits ≤ length later.edits

none_paired : {X : Type 0} (R : X → X → Type 0) → AllPairs R []
none_paired R i j d before within = absurd (omega arith)

longer : (edits more : List Edit) → IsPrefix edits more → length edits ≤ length more
longer edits more front =
    let whole : length (edits ++ front.0) ≡ length more = ap length front.1 in
    let both = length-append edits front.0 in
    omega arith

later_see : (look : Look) (moments : List Moment) → All (λ moment. Follows (Looked look) moment) moments → All (SeesMore look) (looks_in moments)
later_see look [] all = All-nil (SeesMore look)
later_see look (Told reply ∷ moments) all = later_see look moments (All-tail (λ moment. Follows (Looked look) moment) (Told reply) moments all)
later_see look (Took takes learnt ∷ moments) all = later_see look moments (All-tail (λ moment. Follows (Looked look) moment) (Took takes learnt) moments all)
later_see look (Looked other ∷ moments) all =
    All-cons (SeesMore look) other (looks_in moments) (longer look.edits other.edits (All-head (λ moment. Follows (Looked look) moment) (Looked other) moments all))
    (later_see look moments (All-tail (λ moment. Follows (Looked look) moment) (Looked other) moments all))

looks_rise : (moments : List Moment) → AllPairs Follows moments → AllPairs SeesMore (looks_in moments)
looks_rise [] follows = none_paired SeesMore
looks_rise (Told reply ∷ moments) follows = looks_rise moments (λ i j d before within. follows (suc i) (suc j) d (omega arith) (omega arith))
looks_rise (Took takes learnt ∷ moments) follows = looks_rise moments (λ i j d before within. follows (suc i) (suc j) d (omega arith) (omega arith))
looks_rise (Looked look ∷ moments) follows =
    AllPairs-cons SeesMore look (looks_in moments)
    (later_see look moments (λ k d within. follows 0 (suc k) d (omega arith) (omega arith)))
    (looks_rise moments (λ i j d before within. follows (suc i) (suc j) d (omega arith) (omega arith)))

abbrev revision_seen : Look → ℕ
revision_seen look = length look.edits

revisions_paired : (looks : List Look) → AllPairs SeesMore looks → AllPairs (λ earlier later. earlier ≤ later) (map revision_seen looks)
revisions_paired [] rise = none_paired (λ earlier later. earlier ≤ later)
revisions_paired (look ∷ looks) rise =
    AllPairs-cons (λ earlier later. earlier ≤ later) (revision_seen look) (map revision_seen looks)
    (All-map (λ later. revision_seen look ≤ later) revision_seen looks (λ k d within. rise 0 (suc k) d (omega arith) (omega arith)))
    (revisions_paired looks (λ i j d before within. rise (suc i) (suc j) d (omega arith) (omega arith)))

revisions_told : (entries : List WorkerEntry) → filter_map revision_of entries ≡ map (λ talk. talk.revision) (filter_map talk_in entries)
revisions_told [] = refl
revisions_told (Closed connection cause ∷ entries) = revisions_told entries
revisions_told (Voice connection revision bytes copies ∷ entries) = ap (λ (rest : List ℕ). revision ∷ rest) (revisions_told entries)

revisions_made : (looks : List Look) → map (λ talk. talk.revision) (map talk_made looks) ≡ map revision_seen looks
revisions_made [] = refl
revisions_made (look ∷ looks) = ap (λ (rest : List ℕ). revision_seen look ∷ rest) (revisions_made looks)

pub revisions_rise : (entries : List WorkerEntry) (moments : List Moment) → filter_map talk_in entries ≡ map talk_made (looks_in moments) → AllPairs Follows moments
    → AllPairs (λ earlier later. earlier ≤ later) (filter_map revision_of entries)
revisions_rise entries moments same follows =
    subst (λ (revisions : List ℕ). AllPairs (λ earlier later. earlier ≤ later) revisions)
    (sym (revisions_told entries ∙ ap (λ (talks : List Talk). map (λ talk. talk.revision) talks) same ∙ revisions_made (looks_in moments)))
    (revisions_paired (looks_in moments) (looks_rise moments follows))
