-- One entry more, and one channel more, of a walk that looks for a cut.
use Rattle.mum_why.proofs.Common.{◌≡◌, ℕ, zero, suc, ◌+◌, ◌<◌, ◌≤◌, ◌==◌, ◌||◌, Bool, true, false, cond, not, List, [], ◌∷◌, ◌++◌, length, get_or, take, drop, refl, sym, ap, ◌∙◌, drop-cons, arith, inl, inr, Option, Some, None, append_assoc, append-nil, filter, list_any, option_map, option_or, drop_of_length-le, cases_lt, eq-eqb, false≢true, ne_eqb, drop_more, get_or_default, take_all, take_more, filter-append, ChannelId, TRAVERSE, WRITE, AclEntry, ChannelPolicy, entries_of, held_after, matching, matching_at, passes, starts_over, Actor, PolicyMap, is_asked, is_root, marked, matches, on_root, held_after-append, held_after-one, Passed, Progress, closed_below, decides, last_along, last_in, last_place, passed, progressed}

-- ---- entries

-- the last place, where one element more is after
pub last_place-snoc : {X : Type 0} (p : X → Bool) (xs : List X) (x : X) → last_place p (xs ++ x ∷ []) ≡ cond (p x) (Some (length xs)) (last_place p xs)
unfolding last_place
last_place-snoc p [] x = refl
last_place-snoc {X} p (y ∷ ys) x =
    ap (λ (o : Option ℕ). option_or (option_map suc o) (cond (p y) (Some 0) None)) (last_place-snoc p ys x)
    ∙ by_last (p x)
  where
    by_last : (b : Bool) → option_or (option_map suc (cond b (Some (length ys)) (last_place p ys))) (cond (p y) (Some 0) None)
        ≡ cond b (Some (length (y ∷ ys))) (option_or (option_map suc (last_place p ys)) (cond (p y) (Some 0) None))
    by_last true = ap Some (omega arith)
    by_last false = refl

-- the entries so far, and one more
so_far : (entries : List AclEntry) (i : ℕ) (entry : AclEntry) → i < length entries → entry ≡ get_or entries i entry → take (i + 1) entries ≡ take i entries ++ entry ∷ []
so_far entries i entry within is = take_more entries i entry within ∙ ap (λ (e : AclEntry). take i entries ++ e ∷ []) (sym is)

-- what is said of the marks and of the last place when an entry is after
marks_one : (matches_ : AclEntry → Bool) (permission : ℕ) (before : Bool) (entries : List AclEntry) (entry : AclEntry) (b : Bool) → matches_ entry ≡ b
    → held_after permission before (filter matches_ (entries ++ entry ∷ []))
    ≡ cond b (marked (held_after permission before (filter matches_ entries)) entry permission) (held_after permission before (filter matches_ entries))
marks_one matches_ permission before entries entry b is =
    ap (held_after permission before) (filter-append matches_ entries (entry ∷ []))
    ∙ held_after-append permission before (filter matches_ entries) (filter matches_ (entry ∷ []))
    ∙ by_match b is
  where
    by_match : (b : Bool) → matches_ entry ≡ b → held_after permission (held_after permission before (filter matches_ entries)) (cond (matches_ entry) (entry ∷ []) [])
        ≡ cond b (marked (held_after permission before (filter matches_ entries)) entry permission) (held_after permission before (filter matches_ entries))
    by_match true on =
        ap (λ (c : Bool). held_after permission (held_after permission before (filter matches_ entries)) (cond c (entry ∷ []) [])) on
        ∙ held_after-one permission (held_after permission before (filter matches_ entries)) entry
    by_match false off = ap (λ (c : Bool). held_after permission (held_after permission before (filter matches_ entries)) (cond c (entry ∷ []) [])) off

length_so_far : (entries : List AclEntry) (i : ℕ) → i < length entries → length (take i entries) ≡ i
length_so_far [] i within = absurd (omega arith)
length_so_far (e ∷ es) zero within = refl
length_so_far (e ∷ es) (suc i) within = omega (arith, length_so_far es i (omega arith))

-- no entries
pub entries_start : (matches_ decides_ : AclEntry → Bool) (traverse write : Bool)
    → (let start : Passed = record { traverse = traverse; write = write; last = None } in start) ≡ passed matches_ decides_ traverse write []
unfolding last_place
entries_start matches_ decides_ traverse write = refl

pub entry_matched : (matches_ decides_ : AclEntry → Bool) (traverse write : Bool) (entries : List AclEntry) (i : ℕ) (entry : AclEntry) (named : Bool) (before after : Passed)
    → i < length entries → entry ≡ get_or entries i entry → matches_ entry ≡ true → decides_ entry ≡ named
    → before ≡ passed matches_ decides_ traverse write (take i entries)
    → after ≡ record {
      traverse = marked before.traverse entry TRAVERSE.0;
      write = marked before.write entry WRITE.0;
      last = cond named (Some i) before.last;
    }
    → after ≡ passed matches_ decides_ traverse write (take (i + 1) entries)
entry_matched matches_ decides_ traverse write entries i entry named before after within is matched_ names_it was is_after =
    let behind : take (i + 1) entries ≡ take i entries ++ entry ∷ [] = so_far entries i entry within is in
    let traverse_is : held_after TRAVERSE.0 traverse (filter matches_ (take (i + 1) entries)) ≡ marked before.traverse entry TRAVERSE.0 =
    ap (λ (es : List AclEntry). held_after TRAVERSE.0 traverse (filter matches_ es)) behind
    ∙ marks_one matches_ TRAVERSE.0 traverse (take i entries) entry true matched_
    ∙ ap (λ (p : Passed). marked p.traverse entry TRAVERSE.0) (sym was) in
    let write_is : held_after WRITE.0 write (filter matches_ (take (i + 1) entries)) ≡ marked before.write entry WRITE.0 =
    ap (λ (es : List AclEntry). held_after WRITE.0 write (filter matches_ es)) behind
    ∙ marks_one matches_ WRITE.0 write (take i entries) entry true matched_
    ∙ ap (λ (p : Passed). marked p.write entry WRITE.0) (sym was) in
    let last_is : last_place decides_ (take (i + 1) entries) ≡ cond named (Some i) before.last =
    ap (last_place decides_) behind ∙ last_place-snoc decides_ (take i entries) entry
    ∙ ap (λ (b : Bool). cond b (Some (length (take i entries))) (last_place decides_ (take i entries))) names_it
    ∙ ap (λ (n : ℕ). cond named (Some n) (last_place decides_ (take i entries))) (length_so_far entries i within)
    ∙ ap (λ (p : Passed). cond named (Some i) p.last) (sym was) in
    is_after
    ∙ ap (λ (b : Bool). let p : Passed = record { traverse = b; write = marked before.write entry WRITE.0; last = cond named (Some i) before.last } in p) (sym traverse_is)
    ∙ ap (λ (b : Bool). let p : Passed = record { traverse = held_after TRAVERSE.0 traverse (filter matches_ (take (i + 1) entries)); write = b; last = cond named (Some i) before.last } in p) (sym write_is)
    ∙ ap (λ (o : Option ℕ). let p : Passed = record { traverse = held_after TRAVERSE.0 traverse (filter matches_ (take (i + 1) entries)); write = held_after WRITE.0 write (filter matches_ (take (i + 1) entries)); last = o } in p) (sym last_is)

pub entry_passed : (matches_ decides_ : AclEntry → Bool) (traverse write : Bool) (entries : List AclEntry) (i : ℕ) (entry : AclEntry) (before after : Passed)
    → i < length entries → entry ≡ get_or entries i entry → matches_ entry ≡ false → decides_ entry ≡ false
    → before ≡ passed matches_ decides_ traverse write (take i entries) → after ≡ before
    → after ≡ passed matches_ decides_ traverse write (take (i + 1) entries)
entry_passed matches_ decides_ traverse write entries i entry before after within is unmatched undecided was is_after =
    let behind : take (i + 1) entries ≡ take i entries ++ entry ∷ [] = so_far entries i entry within is in
    let traverse_is : held_after TRAVERSE.0 traverse (filter matches_ (take (i + 1) entries)) ≡ held_after TRAVERSE.0 traverse (filter matches_ (take i entries)) =
    ap (λ (es : List AclEntry). held_after TRAVERSE.0 traverse (filter matches_ es)) behind ∙ marks_one matches_ TRAVERSE.0 traverse (take i entries) entry false unmatched in
    let write_is : held_after WRITE.0 write (filter matches_ (take (i + 1) entries)) ≡ held_after WRITE.0 write (filter matches_ (take i entries)) =
    ap (λ (es : List AclEntry). held_after WRITE.0 write (filter matches_ es)) behind ∙ marks_one matches_ WRITE.0 write (take i entries) entry false unmatched in
    let last_is : last_place decides_ (take (i + 1) entries) ≡ last_place decides_ (take i entries) =
    ap (last_place decides_) behind ∙ last_place-snoc decides_ (take i entries) entry
    ∙ ap (λ (b : Bool). cond b (Some (length (take i entries))) (last_place decides_ (take i entries))) undecided in
    is_after ∙ was
    ∙ ap (λ (b : Bool). let p : Passed = record { traverse = b; write = held_after WRITE.0 write (filter matches_ (take i entries)); last = last_place decides_ (take i entries) } in p) (sym traverse_is)
    ∙ ap (λ (b : Bool). let p : Passed = record { traverse = held_after TRAVERSE.0 traverse (filter matches_ (take (i + 1) entries)); write = b; last = last_place decides_ (take i entries) } in p) (sym write_is)
    ∙ ap (λ (o : Option ℕ). let p : Passed = record { traverse = held_after TRAVERSE.0 traverse (filter matches_ (take (i + 1) entries)); write = held_after WRITE.0 write (filter matches_ (take (i + 1) entries)); last = o } in p) (sym last_is)

-- all entries
pub entries_end : (matches_ decides_ : AclEntry → Bool) (traverse write : Bool) (entries : List AclEntry) (i : ℕ) (done : Passed) → length entries ≤ i
    → done ≡ passed matches_ decides_ traverse write (take i entries) → done ≡ passed matches_ decides_ traverse write entries
entries_end matches_ decides_ traverse write entries i done past was = was ∙ ap (passed matches_ decides_ traverse write) (take_all i entries past)

-- ---- channels

channel_at : (path : List ChannelId) (place : ℕ) (channel : ChannelId) → place < length path → channel ≡ get_or path place channel → drop place path ≡ channel ∷ drop (place + 1) path
channel_at path place channel within is = drop_more path place channel within ∙ ap (λ (c : ChannelId). c ∷ drop (place + 1) path) (sym is)

channels_so_far : (path : List ChannelId) (place : ℕ) (channel : ChannelId) → place < length path → channel ≡ get_or path place channel → take (place + 1) path ≡ take place path ++ channel ∷ []
channels_so_far path place channel within is = take_more path place channel within ∙ ap (λ (c : ChannelId). take place path ++ c ∷ []) (sym is)

pub asked_at : (path : List ChannelId) (place : ℕ) (d : ChannelId) → place < length path → is_asked (drop (place + 1) path) ≡ (place + 1 == length path)
asked_at path place d lt =
    elim (cases_lt (place + 1) (length path)) [
      | inl below ↦ ap is_asked (drop-cons path (place + 1) d below) ∙ sym (ne_eqb (place + 1) (length path) (λ e. omega arith))
      | inr last ↦ ap is_asked (drop_of_length-le path last) ∙ sym (eq-eqb (place + 1) (length path) (omega arith))
    ]

-- the entries that match, where one channel more is after
pub matching-snoc : (policies : PolicyMap) (path : List ChannelId) (who : Actor) (place at : ℕ) (channels : List ChannelId) (channel : ChannelId) → at ≡ place + length channels
    → matching policies path who place (channels ++ channel ∷ []) ≡ matching policies path who place channels ++ matching_at policies path who at channel
unfolding matching
matching-snoc policies path who place at [] channel is =
    append-nil (matching_at policies path who place channel) ∙ ap (λ (n : ℕ). matching_at policies path who n channel) (omega (arith, is))
matching-snoc policies path who place at (first ∷ rest) channel is =
    ap (λ (es : List AclEntry). matching_at policies path who place first ++ es) (matching-snoc policies path who (place + 1) at rest channel (omega (arith, is)))
    ∙ sym (append_assoc (matching_at policies path who place first) (matching policies path who (place + 1) rest) (matching_at policies path who at channel))

-- what holds before each channel of the walk
pub record Looked (policies : PolicyMap) (path : List ChannelId) (who : Actor) (permission place : ℕ) (progress : Progress) : Type 0 where
  pub closed : closed_below policies path who (take place path) (drop place path) ≡ closed_below policies path who [] path
  pub traverse : progress.traverse ≡ held_after TRAVERSE.0 true (matching policies path who 0 (take place path))
  pub write : progress.write ≡ held_after WRITE.0 false (matching policies path who 0 (take place path))
  pub last : option_or (last_along policies path who permission place (drop place path))
      (cond (list_any (λ lower. starts_over (policies lower)) (drop place path)) None progress.last) ≡ last_along policies path who permission 0 path

none_kept : (found : Option (ChannelId × ℕ)) (b : Bool) → option_or found (cond b None None) ≡ found
none_kept None true = refl
none_kept None false = refl
none_kept (Some one) b = refl

pub looked_first : (policies : PolicyMap) (path : List ChannelId) (who : Actor) (permission : ℕ) (progress : Progress)
    → progress ≡ record { traverse = true; write = false; last = None } → Looked policies path who permission 0 progress
unfolding matching
looked_first policies path who permission progress is = record {
  closed = refl;
  traverse = ap (λ (p : Progress). p.traverse) is;
  write = ap (λ (p : Progress). p.write) is;
  last = ap (λ (p : Progress). option_or (last_along policies path who permission 0 path) (cond (list_any (λ lower. starts_over (policies lower)) path) None p.last)) is
      ∙ none_kept (last_along policies path who permission 0 path) (list_any (λ lower. starts_over (policies lower)) path);
}

-- the marks after one channel more, and whether the session passes it
marks_after : (policies : PolicyMap) (path : List ChannelId) (who : Actor) (place : ℕ) (channel : ChannelId) (permission : ℕ) (first before after : Bool)
    → place < length path → channel ≡ get_or path place channel
    → before ≡ held_after permission first (matching policies path who 0 (take place path))
    → after ≡ held_after permission before (matching_at policies path who place channel)
    → after ≡ held_after permission first (matching policies path who 0 (take (place + 1) path))
marks_after policies path who place channel permission first before after within is was now =
    now
    ∙ ap (λ (b : Bool). held_after permission b (matching_at policies path who place channel)) was
    ∙ sym (held_after-append permission first (matching policies path who 0 (take place path)) (matching_at policies path who place channel))
    ∙ ap (held_after permission first)
    (sym (ap (matching policies path who 0) (channels_so_far path place channel within is)
    ∙ matching-snoc policies path who 0 place (take place path) channel (sym (length_taken path place within))))
  where
    length_taken : (xs : List ChannelId) (n : ℕ) → n < length xs → 0 + length (take n xs) ≡ n
    length_taken [] n lt = absurd (omega arith)
    length_taken (x ∷ xs) zero lt = refl
    length_taken (x ∷ xs) (suc n) lt = omega (arith, length_taken xs n (omega arith))

-- what is known of a step
pub record Stepped (policies : PolicyMap) (path : List ChannelId) (who : Actor) (permission place : ℕ) (channel : ChannelId) (before after : Progress) : Type 0 where
  pub within : place < length path
  pub is : channel ≡ get_or path place channel
  pub after_is : after ≡ progressed policies path who permission place (place + 1 == length path) channel before

-- of the channel that is read there
pub stepped : (policies : PolicyMap) (path : List ChannelId) (who : Actor) (permission place : ℕ) (d : ChannelId) (before after : Progress) → place < length path
    → after ≡ progressed policies path who permission place (place + 1 == length path) (get_or path place d) before
    → Stepped policies path who permission place (get_or path place d) before after
stepped policies path who permission place d before after within is =
    record { within = within; is = get_or_default path place d (get_or path place d) within; after_is = is }

traverse_after : {policies : PolicyMap} {path : List ChannelId} {who : Actor} {permission place : ℕ} {channel : ChannelId} {before after : Progress}
    → Stepped policies path who permission place channel before after → Looked policies path who permission place before
    → after.traverse ≡ held_after TRAVERSE.0 true (matching policies path who 0 (take (place + 1) path))
traverse_after {policies} {path} {who} {permission} {place} {channel} {before} {after} s l =
    marks_after policies path who place channel TRAVERSE.0 true before.traverse after.traverse s.within s.is l.traverse (ap (λ (p : Progress). p.traverse) s.after_is)

write_after : {policies : PolicyMap} {path : List ChannelId} {who : Actor} {permission place : ℕ} {channel : ChannelId} {before after : Progress}
    → Stepped policies path who permission place channel before after → Looked policies path who permission place before
    → after.write ≡ held_after WRITE.0 false (matching policies path who 0 (take (place + 1) path))
write_after {policies} {path} {who} {permission} {place} {channel} {before} {after} s l =
    marks_after policies path who place channel WRITE.0 false before.write after.write s.within s.is l.write (ap (λ (p : Progress). p.write) s.after_is)

-- whether it goes on is whether the session passes the channel
passes_is : {policies : PolicyMap} {path : List ChannelId} {who : Actor} {permission place : ℕ} {channel : ChannelId} {before after : Progress} (on : Bool)
    → Stepped policies path who permission place channel before after → Looked policies path who permission place before → on ≡ (after.traverse || after.write)
    → passes policies path who (take place path ++ channel ∷ []) ≡ on
passes_is {policies} {path} {who} {permission} {place} {channel} {before} {after} on s l is =
    sym (is
    ∙ ap (λ (b : Bool). b || after.write) (traverse_after s l)
    ∙ ap (λ (b : Bool). held_after TRAVERSE.0 true (matching policies path who 0 (take (place + 1) path)) || b) (write_after s l)
    ∙ ap (passes policies path who) (channels_so_far path place channel s.within s.is))

closed_next : {policies : PolicyMap} {path : List ChannelId} {who : Actor} {permission place : ℕ} {channel : ChannelId} {before after : Progress} (on : Bool)
    → Stepped policies path who permission place channel before after → Looked policies path who permission place before → on ≡ (after.traverse || after.write)
    → cond on (closed_below policies path who (take (place + 1) path) (drop (place + 1) path)) (Some channel) ≡ closed_below policies path who [] path
unfolding closed_below
closed_next {policies} {path} {who} {permission} {place} {channel} {before} {after} on s l is =
    sym (sym l.closed
    ∙ ap (closed_below policies path who (take place path)) (channel_at path place channel s.within s.is)
    ∙ ap (λ (b : Bool). cond b (closed_below policies path who (take place path ++ channel ∷ []) (drop (place + 1) path)) (Some channel)) (passes_is on s l is)
    ∙ ap (λ (above : List ChannelId). cond on (closed_below policies path who above (drop (place + 1) path)) (Some channel)) (sym (channels_so_far path place channel s.within s.is)))

-- the last entry, of those below, those here and those above
last_of_three : (below here before : Option (ChannelId × ℕ)) (again over : Bool)
    → option_or below (cond again None (option_or here (cond over None before)))
    ≡ option_or (option_or below (cond again None here)) (cond (over || again) None before)
last_of_three (Some one) here before again over = refl
last_of_three None here before true true = refl
last_of_three None here before true false = refl
last_of_three None None before false true = refl
last_of_three None None before false false = refl
last_of_three None (Some one) before false over = refl

last_next : {policies : PolicyMap} {path : List ChannelId} {who : Actor} {permission place : ℕ} {channel : ChannelId} {before after : Progress}
    → Stepped policies path who permission place channel before after → Looked policies path who permission place before
    → option_or (last_along policies path who permission (place + 1) (drop (place + 1) path))
    (cond (list_any (λ lower. starts_over (policies lower)) (drop (place + 1) path)) None after.last) ≡ last_along policies path who permission 0 path
unfolding last_along
last_next {policies} {path} {who} {permission} {place} {channel} {before} {after} s l =
    let below : List ChannelId = drop (place + 1) path in
    let again : Bool = list_any (λ lower. starts_over (policies lower)) below in
    let later : Option (ChannelId × ℕ) = last_along policies path who permission (place + 1) below in
    let here : Bool → Option (ChannelId × ℕ) = λ asked. option_map (λ index. (channel, index)) (last_in policies path who permission place asked channel) in
    let over : Bool = starts_over (policies channel) in
    ap (λ (p : Progress). option_or later (cond again None p.last)) s.after_is
    ∙ ap (λ (asked : Bool). option_or later (cond again None (option_or (here asked) (cond over None before.last)))) (sym (asked_at path place channel s.within))
    ∙ last_of_three later (here (is_asked below)) before.last again over
    ∙ ap (λ (rest : List ChannelId). option_or (last_along policies path who permission place rest) (cond (list_any (λ lower. starts_over (policies lower)) rest) None before.last))
    (sym (channel_at path place channel s.within s.is))
    ∙ l.last

pub looked_next : {policies : PolicyMap} {path : List ChannelId} {who : Actor} {permission place : ℕ} {channel : ChannelId} {before after : Progress} (on : Bool)
    → Stepped policies path who permission place channel before after → on ≡ (after.traverse || after.write) → on ≡ true
    → Looked policies path who permission place before → Looked policies path who permission (place + 1) after
looked_next {policies} {path} {who} {permission} {place} {channel} {before} {after} on s is going l = record {
  closed = closed_next true s l (sym going ∙ is);
  traverse = traverse_after s l;
  write = write_after s l;
  last = last_next s l;
}

pub ended_at : {policies : PolicyMap} {path : List ChannelId} {who : Actor} {permission place : ℕ} {channel : ChannelId} {before after : Progress} (on : Bool)
    → Stepped policies path who permission place channel before after → on ≡ (after.traverse || after.write) → on ≡ false
    → Looked policies path who permission place before → closed_below policies path who [] path ≡ Some channel
ended_at on s is stopped l = sym (closed_next false s l (sym stopped ∙ is))

-- where every channel was passed
pub open_whole : {policies : PolicyMap} {path : List ChannelId} {who : Actor} {permission place : ℕ} {progress : Progress} → length path ≤ place
    → Looked policies path who permission place progress
    → (closed_below policies path who [] path ≡ None) × (progress.last ≡ last_along policies path who permission 0 path)
unfolding closed_below last_along
open_whole {policies} {path} {who} {permission} {place} {progress} past l = (
  sym l.closed ∙ ap (closed_below policies path who (take place path)) (drop_of_length-le path past),
  sym (ap (λ (rest : List ChannelId). option_or (last_along policies path who permission place rest) (cond (list_any (λ lower. starts_over (policies lower)) rest) None progress.last)) (drop_of_length-le path past))
      ∙ l.last,
)

-- ---- the root

-- no channel is not the root
pub nowhere_is_root : (path : List ChannelId) → length path ≡ 0 → false ≡ on_root path
unfolding is_root
nowhere_is_root [] none = refl
nowhere_is_root (channel ∷ path) none = absurd (omega arith)

-- some channel is
pub somewhere : (path : List ChannelId) → (length path == 0) ≡ false → 0 < length path
somewhere [] off = absurd (false≢true (sym off))
somewhere (channel ∷ path) off = omega arith

-- ---- one channel

-- what one channel more makes of a walk, by the policy of the channel
abbrev pub progressed_by : PolicyMap → List ChannelId → Actor → ℕ → ℕ → Bool → ChannelId → Progress → Option ChannelPolicy → Progress
progressed_by policies path who permission place asked channel before policy = record {
  traverse = held_after TRAVERSE.0 before.traverse (filter (matches policies path who place) (entries_of policy));
  write = held_after WRITE.0 before.write (filter (matches policies path who place) (entries_of policy));
  last = option_or (option_map (λ index. (channel, index)) (last_place (decides policies path who permission place asked) (entries_of policy)))
      (cond (starts_over policy) None before.last);
}

pub pass_absent : (policies : PolicyMap) (path : List ChannelId) (who : Actor) (permission place : ℕ) (asked : Bool) (channel : ChannelId) (before : Progress)
    → policies channel ≡ None → before ≡ progressed policies path who permission place asked channel before
unfolding last_place
pass_absent policies path who permission place asked channel before none =
    ap (progressed_by policies path who permission place asked channel before) (sym none)

pub pass_there : (policies : PolicyMap) (path : List ChannelId) (who : Actor) (permission place : ℕ) (asked : Bool) (channel : ChannelId) (before : Progress) (policy : ChannelPolicy)
    (entries : List AclEntry) (done : Passed) (kept last : Option (ChannelId × ℕ)) → policies channel ≡ Some policy → entries ≡ policy.acls
    → done ≡ passed (matches policies path who place) (decides policies path who permission place asked) before.traverse before.write entries
    → kept ≡ cond (not policy.inherit_acls) None before.last → last ≡ option_or (option_map (λ index. (channel, index)) done.last) kept
    → (let after : Progress = record { traverse = done.traverse; write = done.write; last = last } in after) ≡ progressed policies path who permission place asked channel before
pass_there policies path who permission place asked channel before policy entries done kept last there are done_is kept_is last_is =
    let whole : done ≡ passed (matches policies path who place) (decides policies path who permission place asked) before.traverse before.write policy.acls =
    done_is ∙ ap (passed (matches policies path who place) (decides policies path who permission place asked) before.traverse before.write) are in
    ap (λ (o : Option (ChannelId × ℕ)). let after : Progress = record { traverse = done.traverse; write = done.write; last = o } in after)
    (last_is ∙ ap (option_or (option_map (λ index. (channel, index)) done.last)) kept_is)
    ∙ ap (λ (d : Passed). let after : Progress = record {
      traverse = d.traverse;
      write = d.write;
      last = option_or (option_map (λ index. (channel, index)) d.last) (cond (not policy.inherit_acls) None before.last);
    } in after) whole
    ∙ ap (progressed_by policies path who permission place asked channel before) (sym there)
