-- The core to which nothing happened, by its parts.
use Rattle.mum_core.proofs.Common.{◌≡◌, ℕ, ◌-◌, ◌≤◌, arith, List, [], ap, sym, ◌∙◌, length, replicate, All, SLOTS, StateValue, HistoryValue, begun, IsViewOf, ViewValue, Notice, first_step_line, Version, Parcel, CoreState, start, IsKept, WorkerState, idle}

abbrev pub core_of : Version → HistoryValue → List WorkerState → List (List Parcel) → List (List Notice) → CoreState
core_of version history workers outboxes posts = record {
  opening = history.opening;
  accepted = history.accepted;
  published = history.published;
  connections = [];
  workers = workers;
  outboxes = outboxes;
  pending = [];
  posts = posts;
  posted = 0;
  totals = record { looks = 0; copies = 0; full = 0; stale = 0 };
  line = first_step_line version - 1;
}

pub is_start : (version : Version) (opening : StateValue) (count : ℕ) (history : HistoryValue) (workers : List WorkerState) (outboxes : List (List Parcel)) (posts : List (List Notice)) (core : CoreState)
    → core ≡ core_of version history workers outboxes posts → history ≡ begun opening → workers ≡ replicate count idle → outboxes ≡ replicate SLOTS [] → posts ≡ replicate SLOTS []
    → core ≡ start version opening count
is_start version opening count history workers outboxes posts core is begins idles empty none =
    is
    ∙ ap (λ (h : HistoryValue). core_of version h workers outboxes posts) begins
    ∙ ap (λ (ws : List WorkerState). core_of version (begun opening) ws outboxes posts) idles
    ∙ ap (λ (boxes : List (List Parcel)). core_of version (begun opening) (replicate count idle) boxes posts) empty
    ∙ ap (λ (waiting : List (List Notice)). core_of version (begun opening) (replicate count idle) (replicate SLOTS []) waiting) none

pub kept_at_start : (opening : StateValue) (count : ℕ) (history : HistoryValue) (views : List ViewValue) (workers : List WorkerState) (outboxes : List (List Parcel)) (posts : List (List Notice))
    → history ≡ begun opening → All (IsViewOf opening []) views → length views ≡ count → count ≤ 255 → length workers ≡ count → length outboxes ≡ SLOTS → length posts ≡ SLOTS
    → IsKept history views workers outboxes posts
kept_at_start opening count history views workers outboxes posts begins each as_many few counted slots posts_each =
    rw begins (record { views_of = each; a_view_each = as_many ∙ sym counted; few_views = omega (arith, as_many, few); an_outbox_each = slots; posts_each = posts_each })
