-- What the control owner keeps true of its parts, over each change of them.
use Rattle.mum_control.proofs.Common.{◌≡◌, ◌∙◌, ℕ, ◌≤◌, List, [], ◌∷◌, ◌++◌, length, Option, Some, None, refl, ap, sym, subst, arith, IfSome, MatchOption, filter, slice_set, AllByRecursion, ForSome, length-set, SessionId, SLOTS, Mark, ReplyEnd, Edit, Accepted, applied, IsProper, StateValue, Notice, notices, PostFacts, BoxFacts, Reports, appended, latest, NoteFacts, Opening, PublisherFacts, kept_up, mark, Publishes, accepted, current, next_revision, with_edit, with_login, ControlFacts, IsInSlot, IsKept, IsListing, is_there}
use Rattle.mum_control.proofs.{Addressed.all_joined, Addressed.notices_in_slots, Appending.latest_published, Listing.listing_present, Reporting.reports_more, Reporting.reports_published}

-- ---- an edit that is appended

-- the state after all of them
latest_more : (publisher more : PublisherFacts) (edit : Edit) → more ≡ with_edit publisher edit → latest more ≡ applied (latest publisher) edit
latest_more publisher more edit appends = sym (kept_up publisher more (latest publisher) (applied (latest publisher) edit) edit refl refl appends)

-- the notices that report the edit have boxes
pub slots_so : (publisher more : PublisherFacts) (edit : Edit) → more ≡ with_edit publisher edit → IsProper (latest publisher) → IsProper (latest more)
    → AllByRecursion IsInSlot (notices (latest publisher) edit (applied (latest publisher) edit))
slots_so publisher more edit appends before after =
    notices_in_slots (latest publisher) edit (applied (latest publisher) edit) before (subst IsProper (latest_more publisher more edit appends) after)

pub kept_accepting : (opening : Opening) (publisher more : PublisherFacts) (posts : List (BoxFacts PostFacts))
    (pending waiting : List Notice) (lagged present : List SessionId) (room same : ℕ) (edit : Edit)
    → IsKept opening publisher posts pending lagged room → more ≡ with_edit publisher edit
    → waiting ≡ pending ++ notices (latest publisher) edit (applied (latest publisher) edit) → AllByRecursion IsInSlot (notices (latest publisher) edit (applied (latest publisher) edit))
    → present ≡ filter (is_there (latest more)) lagged → same ≡ room
    → IsKept opening more posts waiting present same
kept_accepting opening publisher more posts pending waiting lagged present room same edit kept appends waits slots stays full =
    record {
      same_opening = ap (λ (p : PublisherFacts). p.opening) appends ∙ kept.same_opening;
      box_each = kept.box_each;
      in_slots = subst (AllByRecursion IsInSlot) (sym waits) (all_joined pending (notices (latest publisher) edit (applied (latest publisher) edit)) kept.in_slots slots);
      of_edits = reports_more opening publisher more edit kept.same_opening appends (latest_more publisher more edit appends) pending waiting kept.of_edits waits;
      listing = subst (IsListing (latest more)) (sym stays) (listing_present (latest publisher) (latest more) lagged kept.listing);
      room_is = let was : SLOTS ≤ room = kept.room_is in omega (arith, was, full);
    }

pub with_parts : (posts : List (BoxFacts PostFacts)) (p q : PublisherFacts) (n m : List Notice) (l k : List SessionId) (a b : Option Mark)
    → p ≡ q → n ≡ m → l ≡ k → a ≡ b
    → ◌≡◌ {A = ControlFacts} (record { publisher = p; posts = posts; pending = n; lagged = l; mark = a }) (record { publisher = q; posts = posts; pending = m; lagged = k; mark = b })
with_parts posts p q n m l k a b one two three four = cc

-- the parts are then those of the control owner with one more accepted edit
pub accepted_so : (control : ControlFacts) (more : PublisherFacts) (waiting : List Notice) (present : List SessionId) (told : Option Mark) (edit : Edit)
    → more ≡ with_edit control.publisher edit → waiting ≡ control.pending ++ notices (current control) edit (applied (current control) edit)
    → present ≡ filter (is_there (latest more)) control.lagged → told ≡ Some (mark (next_revision control) (Accepted edit))
    → ◌≡◌ {A = ControlFacts} (record { publisher = more; posts = control.posts; pending = waiting; lagged = present; mark = told }) (accepted control edit)
accepted_so control more waiting present told edit appends waits stays marks =
    with_parts control.posts more (with_edit control.publisher edit) waiting _ present _ told _ appends waits
    (stays ∙ ap (λ (s : StateValue). filter (is_there s) control.lagged) (latest_more control.publisher more edit appends))
    marks

-- ---- a login that is put on the roll

pub kept_admitting : (opening : Opening) (publisher more : PublisherFacts) (connection : ℕ) (end : ReplyEnd) (posts : List (BoxFacts PostFacts))
    (pending : List Notice) (lagged : List SessionId) (room : ℕ)
    → IsKept opening publisher posts pending lagged room → more ≡ with_login publisher connection end → IsKept opening more posts pending lagged room
kept_admitting opening publisher more connection end posts pending lagged room kept admits =
    subst (λ (p : PublisherFacts). IsKept opening p posts pending lagged room) (sym admits) (record {
      same_opening = kept.same_opening;
      box_each = kept.box_each;
      in_slots = kept.in_slots;
      of_edits = kept.of_edits;
      listing = kept.listing;
      room_is = kept.room_is;
    })

-- ---- a publish

pub kept_publishing : (opening : Opening) (publisher later : PublisherFacts) (posts : List (BoxFacts PostFacts))
    (pending : List Notice) (lagged : List SessionId) (room : ℕ) (note : Option NoteFacts)
    → IsKept opening publisher posts pending lagged room → Publishes publisher note later → IsKept opening later posts pending lagged room
kept_publishing opening publisher later posts pending lagged room None kept same =
    subst (λ (p : PublisherFacts). IsKept opening p posts pending lagged room) (sym same) kept
kept_publishing opening publisher later posts pending lagged room (Some note) kept published =
    subst (λ (p : PublisherFacts). IsKept opening p posts pending lagged room) (sym published.1) (record {
      same_opening = kept.same_opening;
      box_each = kept.box_each;
      in_slots = kept.in_slots;
      of_edits = reports_published opening publisher pending kept.of_edits;
      listing = subst (λ (s : StateValue). IsListing s lagged) (sym (latest_published publisher)) kept.listing;
      room_is = kept.room_is;
    })

-- its note is of the same ledger
pub note_named : (opening : Opening) (publisher later : PublisherFacts) (note : Option NoteFacts) → publisher.opening ≡ opening
    → Publishes publisher note later → ForSome note (λ n. n.book ≡ opening.book)
note_named opening publisher later None of published = λ n is. cc
note_named opening publisher later (Some note) of published = λ n is.
    let same : note ≡ n = cc in
    ap (λ (m : NoteFacts). m.book) (sym same ∙ published.0) ∙ ap (λ (o : Opening). o.book) of

-- ---- a notice that is posted

-- it has a box, and reports an accepted edit
abbrev pub IsDue : Opening → PublisherFacts → Notice → Type 0
IsDue opening publisher notice = IsInSlot notice × Reports opening (appended publisher) notice

pub kept_taking : (opening : Opening) (publisher : PublisherFacts) (posts : List (BoxFacts PostFacts))
    (pending rest : List Notice) (notice : Notice) (lagged : List SessionId) (room : ℕ)
    → IsKept opening publisher posts pending lagged room → pending ≡ notice ∷ rest
    → IsKept opening publisher posts rest lagged room × IsDue opening publisher notice
kept_taking opening publisher posts pending rest notice lagged room kept taken =
    let all : AllByRecursion IsInSlot (notice ∷ rest) = subst (AllByRecursion IsInSlot) taken kept.in_slots in
    let reports : AllByRecursion (Reports opening (appended publisher)) (notice ∷ rest) = subst (AllByRecursion (Reports opening (appended publisher))) taken kept.of_edits in (
      record {
        same_opening = kept.same_opening;
        box_each = kept.box_each;
        in_slots = all.1;
        of_edits = reports.1;
        listing = kept.listing;
        room_is = kept.room_is;
      },
      (all.0, reports.0),
    )

pub kept_posting : (opening : Opening) (publisher : PublisherFacts) (posts after : List (BoxFacts PostFacts)) (place : ℕ) (later : BoxFacts PostFacts)
    (pending : List Notice) (lagged : List SessionId) (room : ℕ)
    → IsKept opening publisher posts pending lagged room → after ≡ slice_set posts place later
    → IsKept opening publisher after pending lagged room
kept_posting opening publisher posts after place later pending lagged room kept set = record {
  same_opening = kept.same_opening;
  box_each = ap length set ∙ length-set posts place later ∙ kept.box_each;
  in_slots = kept.in_slots;
  of_edits = kept.of_edits;
  listing = kept.listing;
  room_is = kept.room_is;
}

pub kept_listing : (opening : Opening) (publisher : PublisherFacts) (posts : List (BoxFacts PostFacts))
    (pending : List Notice) (lagged more : List SessionId) (room same : ℕ)
    → IsKept opening publisher posts pending lagged room → IsListing (latest publisher) more → same ≡ room
    → IsKept opening publisher posts pending more same
kept_listing opening publisher posts pending lagged more room same kept listing full = record {
  same_opening = kept.same_opening;
  box_each = kept.box_each;
  in_slots = kept.in_slots;
  of_edits = kept.of_edits;
  listing = listing;
  room_is = let was : SLOTS ≤ room = kept.room_is in omega (arith, was, full);
}

-- ---- where nothing changed

pub kept_same : (opening : Opening) (publisher later : PublisherFacts) (posts : List (BoxFacts PostFacts))
    (pending waiting : List Notice) (lagged : List SessionId) (room : ℕ)
    → IsKept opening publisher posts pending lagged room → later ≡ publisher → waiting ≡ pending
    → IsKept opening later posts waiting lagged room
kept_same opening publisher later posts pending waiting lagged room kept one two =
    subst (λ (p : PublisherFacts). IsKept opening p posts waiting lagged room) (sym one)
    (subst (λ (n : List Notice). IsKept opening publisher posts n lagged room) (sym two) kept)

-- at its opening, nothing waits and nobody lags
pub kept_opening : (opening : Opening) (publisher : PublisherFacts) (posts : List (BoxFacts PostFacts)) (pending : List Notice) (lagged : List SessionId) (room : ℕ)
    → publisher.opening ≡ opening → length posts ≡ SLOTS → pending ≡ [] → lagged ≡ [] → room ≡ SLOTS
    → IsKept opening publisher posts pending lagged room
kept_opening opening publisher posts pending lagged room of each none nobody full = record {
  same_opening = of;
  box_each = each;
  in_slots = subst (AllByRecursion IsInSlot) (sym none) tt;
  of_edits = subst (AllByRecursion (Reports opening (appended publisher))) (sym none) tt;
  listing = subst (IsListing (latest publisher)) (sym nobody) (record { apart = tt; present = tt });
  room_is = omega (arith, full);
}

-- ---- the first notice, which may not be there

pub kept_front : (found : Option Notice) (opening : Opening) (publisher : PublisherFacts) (posts : List (BoxFacts PostFacts))
    (pending rest : List Notice) (lagged : List SessionId) (room : ℕ)
    → IsKept opening publisher posts pending lagged room → MatchOption found ((pending ≡ []) × (rest ≡ [])) (λ notice. pending ≡ notice ∷ rest)
    → IsKept opening publisher posts rest lagged room × IfSome found (IsDue opening publisher)
kept_front None opening publisher posts pending rest lagged room kept front =
    (subst (λ (n : List Notice). IsKept opening publisher posts n lagged room) (front.0 ∙ sym front.1) kept, tt)
kept_front (Some notice) opening publisher posts pending rest lagged room kept front =
    kept_taking opening publisher posts pending rest notice lagged room kept front

pub taken_so : (found : Option Notice) (opening : Opening) (old control : ControlFacts) (rest : List Notice) → control ≡ old
    → MatchOption found ((control.pending ≡ []) × (rest ≡ [])) (λ notice. control.pending ≡ notice ∷ rest) → IfSome found (IsDue opening control.publisher)
    → MatchOption found ((old.pending ≡ []) × (record control { pending = rest } ≡ old))
    (λ notice. (old.pending ≡ notice ∷ rest) × (record control { pending = rest } ≡ record old { pending = rest }) × IsInSlot notice
    × Reports opening (appended old.publisher) notice)
taken_so None opening old control rest is front slot = (
  ap (λ (k : ControlFacts). k.pending) (sym is) ∙ front.0,
  ap (λ (n : List Notice). record control { pending = n }) (front.1 ∙ sym front.0) ∙ is,
)
taken_so (Some notice) opening old control rest is front due = (
  ap (λ (k : ControlFacts). k.pending) (sym is) ∙ front,
  ap (λ (k : ControlFacts). record k { pending = rest }) is,
  due.0,
  subst (λ (k : ControlFacts). Reports opening (appended k.publisher) notice) is due.1,
)
