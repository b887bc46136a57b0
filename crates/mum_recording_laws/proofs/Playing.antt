-- The entries of a journal, played in a core: its control entries in order, each packet as soon as its revision is there.
use Rattle.mum_recording_laws.proofs.Common.{length-append, ◌≡◌, ℕ, ◌+◌, suc, ◌^◌, ◌≤◌, ◌<◌, Bool, true, false, cond, List, [], ◌∷◌, ◌++◌, length, filter, refl, sym, ap, subst, ◌∙◌, arith, append_assoc, append-nil, ⊤, IfSome, nat_le, AllByRecursion, AllZip, filter_map, list_any, leb-false, or_from, list_any-append, ControlEntry, WorkerEntry, Closed, Voice, Step, HearersAreTheRoute, edits_of, Edit, Verdict, Accepted, CoreState, is_opened, worker_at, IsRun, gathered, ran, WorkerState, least_look, is_voice, after_entries, after_entry, mark_on, verdict_on, revision_of, Past, Rise, IsAsked, leaves, AreOrderly, Decided, IsDecided, IsRouted, Routed, decided, routed}
use Rattle.mum_recording_laws.proofs.{Departing.done, Joining.gathered_joined, Joining.orderly_joined, Joining.run_joined, Moving.Alike, Moving.opened_at, Queuing.Due, Queuing.Leads, Queuing.all_route, Queuing.back, Queuing.front, Queuing.parted, Seated.keeps_session, Resting.Ready}

-- ---- the control entries that are left

pub record IsGood (n : ℕ) (past : Past) (earlier : List ControlEntry) (entry : ControlEntry) : Type 0 where
  pub says : entry.verdict ≡ mark_on past entry
  pub asked : IsAsked past earlier entry
  pub there : list_any (leaves entry.connection) earlier ≡ false
  pub fits : IfSome entry.version (λ v. v < 2 ^ 32)
  pub within : entry.connection ≤ n

abbrev pub Good : ℕ → Past → List ControlEntry → List ControlEntry → Type 0
Good n past earlier [] = ⊤
Good n past earlier (entry ∷ entries) = IsGood n past earlier entry × Good n (after_entry past entry) (earlier ++ entry ∷ []) entries

pub leads_to : (n : ℕ) (past : Past) (earlier entries : List ControlEntry) → Good n past earlier entries → Leads past (after_entries past entries)
leads_to n past earlier [] good = record { more = []; accepted = sym (append-nil past.accepted); opening = refl; sessions = λ c session has. has }
leads_to n past earlier (entry ∷ entries) good =
    let later = leads_to n (after_entry past entry) (earlier ++ entry ∷ []) entries good.1 in
    record {
      more = edits_of (verdict_on past entry) ++ later.more;
      accepted = later.accepted ∙ append_assoc past.accepted (edits_of (verdict_on past entry)) later.more;
      opening = later.opening;
      sessions = λ c session has. later.sessions c session (keeps_session past earlier entry c session good.0.asked has);
    }

-- ---- the packets that are left after an entry

abbrev IsAbove : ℕ → WorkerEntry → Type 0
IsAbove most (Voice c revision bytes copies) = most < revision
IsAbove most (Closed c cause) = ⊤

all_above : (most least : ℕ) (entries : List WorkerEntry) → most < least → Rise least (filter_map revision_of entries) → AllByRecursion (IsAbove most) entries
all_above most least [] low rise = tt
all_above most least (Closed c cause ∷ entries) low rise = (tt, all_above most least entries low rise)
all_above most least (Voice c revision bytes copies ∷ entries) low rise =
    let more = rise.0 in
    (omega (arith, low, more), all_above most revision entries (omega (arith, low, more)) rise.1)

back_above : (most least : ℕ) (entries : List WorkerEntry) → Rise least (filter_map revision_of entries) → AllByRecursion (IsAbove most) (back most entries)
back_above most least [] rise = tt
back_above most least (Closed c cause ∷ entries) rise = back_above most least entries rise
back_above most least (Voice c revision bytes copies ∷ entries) rise = from (back_above most revision entries rise.1) (nat_le revision most) refl
  where
    from : AllByRecursion (IsAbove most) (back most entries) → (b : Bool) → nat_le revision most ≡ b → AllByRecursion (IsAbove most) (cond b (back most entries) (Voice c revision bytes copies ∷ entries))
    from later true low = later
    from later false high = let low = leb-false revision most high in (omega (arith, low), all_above most revision entries (omega (arith, low)) rise.1)

back_all : (P : WorkerEntry → Type 0) (most : ℕ) (entries : List WorkerEntry) → AllByRecursion P entries → AllByRecursion P (back most entries)
back_all P most [] all = tt
back_all P most (Closed c cause ∷ entries) all = back_all P most entries all.1
back_all P most (Voice c revision bytes copies ∷ entries) all = from (back_all P most entries all.1) (nat_le revision most)
  where
    from : AllByRecursion P (back most entries) → (b : Bool) → AllByRecursion P (cond b (back most entries) (Voice c revision bytes copies ∷ entries))
    from later true = later
    from later false = all

next_due : (place : ℕ → ℕ) (last past : Past) (earlier : List ControlEntry) (entry : ControlEntry) (entries : List ControlEntry) (w : ℕ) (one : WorkerEntry)
    → Due place last past earlier (entry ∷ entries) w one → IsAbove (length past.accepted) one → Due place last (after_entry past entry) (earlier ++ entry ∷ []) entries w one
next_due place last past earlier entry entries w (Closed c cause) due above = tt
next_due place last past earlier entry entries w (Voice c revision bytes copies) due above = record {
  at = due.at;
  heard = due.heard;
  there = list_any-append (leaves c) earlier (entry ∷ []) ∙ or_from (list_any (leaves c) earlier) (list_any (leaves c) (entry ∷ [])) due.there (or_from (leaves c entry) false (stays (leaves c entry) refl) refl);
  in_time = record { logged_in = λ i. due.in_time.logged_in (suc i); there = λ i. due.in_time.there (suc i) };
}
  where
    stays : (b : Bool) → leaves c entry ≡ b → b ≡ false
    stays false is = refl
    stays true is = let low = due.in_time.there 0 entry refl is in absurd (omega (arith, low, above))

all_next_due : (place : ℕ → ℕ) (last past : Past) (earlier : List ControlEntry) (entry : ControlEntry) (entries : List ControlEntry) (w : ℕ) (ones : List WorkerEntry)
    → AllByRecursion (Due place last past earlier (entry ∷ entries) w) ones → AllByRecursion (IsAbove (length past.accepted)) ones
    → AllByRecursion (Due place last (after_entry past entry) (earlier ++ entry ∷ []) entries w) ones
all_next_due place last past earlier entry entries w [] due above = tt
all_next_due place last past earlier entry entries w (one ∷ ones) due above =
    (next_due place last past earlier entry entries w one due.0 above.0, all_next_due place last past earlier entry entries w ones due.1 above.1)

-- where all entries are played nothing is left
none_left : (place : ℕ → ℕ) (past : Past) (earlier : List ControlEntry) (w : ℕ) (ones : List WorkerEntry) → AllByRecursion (Due place past past earlier [] w) ones
    → AllByRecursion (IsAbove (length past.accepted)) ones → filter is_voice ones ≡ []
none_left place past earlier w [] due above = refl
none_left place past earlier w (Closed c cause ∷ ones) due above = none_left place past earlier w ones due.1 above.1
none_left place past earlier w (Voice c revision bytes copies ∷ ones) due above =
    let low = due.0.heard.accepted in
    let high = above.0 in
    absurd (omega (arith, low, high))

zip_joined : {A B : Type 0} (R : A → B → Type 0) (xs : List A) (ys : List B) (more : List A) (others : List B) → AllZip R xs ys → AllZip R more others → AllZip R (xs ++ more) (ys ++ others)
zip_joined R [] [] more others zip rest = rest
zip_joined R [] (y ∷ ys) more others zip rest = absurd zip
zip_joined R (x ∷ xs) [] more others zip rest = absurd zip
zip_joined R (x ∷ xs) (y ∷ ys) more others zip rest = (zip.0, zip_joined R xs ys more others zip.1 rest)

-- ---- what an entry reports to the workers

edits_few : (one : Verdict) → length (edits_of one) ≤ 1
edits_few (Accepted edit) = omega arith
edits_few others = omega arith

-- a worker that was reported of no more than one edit more looks for what is left
pub raised : (most : ℕ) (old new : WorkerState) (ones : List WorkerEntry) → Alike old new → new.told ≤ most + 1 → Rise (least_look old) (filter_map revision_of ones) → AllByRecursion (IsAbove most) ones
    → Rise (least_look new) (filter_map revision_of ones)
raised most old new [] alike told rise above = tt
raised most old new (Closed c cause ∷ ones) alike told rise above = raised most old new ones alike told rise above.1
raised most old new (Voice c revision bytes copies ∷ ones) alike told rise above =
    let seen = alike.seen in
    let low = rise.0 in
    let high = above.0 in
    (omega (arith, seen, low, high, told), rise.1)

-- ---- all of them

pub record Plays (core : CoreState) (last : Past) (entries : List ControlEntry) (lists : ℕ → List WorkerEntry) : Type 0 where
  pub run : List Step
  pub allowed : IsRun core run
  pub decides : AllZip IsDecided entries (gathered decided core run)
  pub orderly : AreOrderly core run
  pub routes : (w : ℕ) → w < length core.workers → AllZip (IsRouted last) (filter is_voice (lists w)) (gathered (routed w) core run)

module _ (law : HearersAreTheRoute) (n : ℕ) (place : ℕ → ℕ) where
  abbrev Rises : CoreState → (ℕ → List WorkerEntry) → Type 0
  Rises core lists = (w : ℕ) → w < length core.workers → Rise (least_look (worker_at core w)) (filter_map revision_of (lists w))

  abbrev AreDue : CoreState → Past → List ControlEntry → List ControlEntry → (ℕ → List WorkerEntry) → Type 0
  AreDue core past earlier entries lists = (w : ℕ) → w < length core.workers → AllByRecursion (Due place (after_entries past entries) past earlier entries w) (lists w)

  played : (core : CoreState) (past : Past) (earlier : List ControlEntry) (lists : ℕ → List WorkerEntry) → Ready n place core past earlier → Rises core lists → AreDue core past earlier [] lists
      → Plays core past [] lists
  played core past earlier lists ready rise due =
      let all = all_route law n place past earlier [] past (leads_to n past earlier [] tt) lists core ready rise due (length core.workers) (omega arith) in
      record {
        run = all.run;
        allowed = all.allowed;
        orderly = all.orderly;
        decides = subst (AllZip IsDecided []) (sym all.decides) tt;
        routes = λ w low. subst (λ (ones : List WorkerEntry). AllZip (IsRouted past) ones (gathered (routed w) core all.run)) (sym (whole w low)) (all.own w low);
      }
    where
      whole : (w : ℕ) → w < length core.workers → filter is_voice (lists w) ≡ filter is_voice (front (length past.accepted) (lists w))
      whole w low =
          parted (length past.accepted) (lists w)
          ∙ ap (λ (ones : List WorkerEntry). filter is_voice (front (length past.accepted) (lists w)) ++ ones)
          (none_left place past earlier w (back (length past.accepted) (lists w))
          (back_all (Due place past past earlier [] w) (length past.accepted) (lists w) (due w low))
          (back_above (length past.accepted) (least_look (worker_at core w)) (lists w) (rise w low)))
          ∙ append-nil (filter is_voice (front (length past.accepted) (lists w)))

  told_low : (past : Past) (earlier : List ControlEntry) (entry : ControlEntry) (after : CoreState) (w : ℕ) → Ready n place after (after_entry past entry) (earlier ++ entry ∷ [])
      → (worker_at after w).told ≤ length past.accepted + 1
  told_low past earlier entry after w ready =
      let told = (ready.free w).told in
      let published = ready.published in
      let same = ap (λ (edits : List Edit). length edits) ready.follows.accepted in
      let more = length-append past.accepted (edits_of (verdict_on past entry)) in
      let few = edits_few (verdict_on past entry) in
      omega (arith, told, published, same, more, few)

  pub plays : (entries : List ControlEntry) (core : CoreState) (past : Past) (earlier : List ControlEntry) (lists : ℕ → List WorkerEntry) → Ready n place core past earlier
      → Good n past earlier entries → Rises core lists → AreDue core past earlier entries lists → Plays core (after_entries past entries) entries lists
  plays [] core past earlier lists ready good rise due = played core past earlier lists ready rise due
  plays (entry ∷ entries) core past earlier lists ready good rise due =
      let last : Past = after_entries past (entry ∷ entries) in
      let all = all_route law n place past earlier (entry ∷ entries) last (leads_to n past earlier (entry ∷ entries) good) lists core ready rise due (length core.workers) (omega arith) in
      let next : CoreState = ran core all.run in
      let opened : is_opened next entry.connection ≡ true = opened_at next entry.connection n all.ready.many good.0.asked.numbered good.0.within in
      let one = done n place next past earlier entry all.ready good.0.says good.0.asked good.0.there opened good.0.fits in
      let after : CoreState = ran next one.steps in
      let crew = all.crew in
      let same : length after.workers ≡ length next.workers = one.crew in
      let behind : ℕ → List WorkerEntry = λ w. back (length past.accepted) (lists w) in
      let later = plays entries after (after_entry past entry) (earlier ++ entry ∷ []) behind one.ready good.1
      (λ w low.
      let within : w < length core.workers = omega (arith, low, same, crew) in
      raised (length past.accepted) (worker_at next w) (worker_at after w) (behind w) (one.alike w) (told_low past earlier entry after w one.ready) (all.rise w within)
      (back_above (length past.accepted) (least_look (worker_at core w)) (lists w) (rise w within)))
      (λ w low.
      let within : w < length core.workers = omega (arith, low, same, crew) in
      all_next_due place last past earlier entry entries w (behind w)
      (back_all (Due place last past earlier (entry ∷ entries) w) (length past.accepted) (lists w) (due w within))
      (back_above (length past.accepted) (least_look (worker_at core w)) (lists w) (rise w within))) in
      let tail : List Step = one.steps ++ later.run in
      record {
        run = all.run ++ tail;
        allowed = run_joined core all.run tail all.allowed (run_joined next one.steps later.run one.allowed later.allowed);
        orderly = orderly_joined core all.run tail all.orderly (orderly_joined next one.steps later.run one.orderly later.orderly);
        decides = subst (AllZip IsDecided (entry ∷ entries))
            (sym (gathered_joined decided core all.run tail ∙ ap (λ (ones : List Decided). ones ++ gathered decided next tail) all.decides ∙ gathered_joined decided next one.steps later.run))
            (zip_joined IsDecided (entry ∷ []) (gathered decided next one.steps) entries (gathered decided after later.run) one.decides later.decides);
        routes = λ w low.
            subst (λ (ones : List WorkerEntry). AllZip (IsRouted last) ones (gathered (routed w) core (all.run ++ tail))) (sym (parted (length past.accepted) (lists w)))
            (subst (AllZip (IsRouted last) (filter is_voice (front (length past.accepted) (lists w)) ++ filter is_voice (behind w)))
            (sym (gathered_joined (routed w) core all.run tail
            ∙ ap (λ (ones : List Routed). gathered (routed w) core all.run ++ ones)
            (gathered_joined (routed w) next one.steps later.run ∙ ap (λ (ones : List Routed). ones ++ gathered (routed w) after later.run) (one.silent w))))
            (zip_joined (IsRouted last) (filter is_voice (front (length past.accepted) (lists w))) (gathered (routed w) core all.run) (filter is_voice (behind w)) (gathered (routed w) after later.run)
            (all.own w low) (later.routes w (omega (arith, low, same, crew)))));
      }
