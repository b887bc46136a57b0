-- Counts that are added up entry by entry.
use Rattle.mum_audit.proofs.Common.{◌≡◌, ◌∙◌, ℕ, suc, ◌+◌, ◌-◌, ◌^◌, ◌≤◌, Bool, List, [], ◌∷◌, ◌++◌, length, filter, refl, sym, ap, arith, length-append, flat_map, filter-append, Journal, Marked, WorkerEntry, Voice, Closed, Counts, Legal, copies_in, counts_of, entries_of, is_full, is_sent, is_voice, total, no_counts, with_entries, with_entry, with_workers}

total_more : (a m n : ℕ) → total (total (a + m) + n) ≡ total (a + (m + n))
total_more a m n = omega arith

total_next : (a n : ℕ) → total (total (a + 1) + n) ≡ total (a + suc n)
total_next a n = omega arith

total_from_none : (n : ℕ) → total (0 + n) ≡ total n
total_from_none n = let same : 0 + n ≡ n = omega arith in ap total same

total_same : (a : ℕ) → a ≤ 2 ^ 64 - 1 → total (a + 0) ≡ a
total_same a within = omega (arith, within)

-- each within 64 bits
abbrev pub Fit : Counts → Type 0
Fit counts = (counts.voices ≤ 2 ^ 64 - 1) × (counts.copies ≤ 2 ^ 64 - 1) × (counts.full ≤ 2 ^ 64 - 1)

-- the counts with all these entries
abbrev pub with_all : Counts → List WorkerEntry → Counts
with_all counts entries = record {
  voices = total (counts.voices + length (filter is_voice entries));
  copies = total (counts.copies + length (filter is_sent (flat_map copies_in entries)));
  full = total (counts.full + length (filter is_full (flat_map copies_in entries)));
}

abbrev by_three : ℕ → ℕ → ℕ → Counts
by_three voices copies full = record { voices = voices; copies = copies; full = full }

three_same : (a b c x y z : ℕ) → a ≡ x → b ≡ y → c ≡ z → by_three a b c ≡ by_three x y z
three_same a b c x y z first second third =
    ap (λ (n : ℕ). by_three n b c) first ∙ ap (λ (n : ℕ). by_three x n c) second ∙ ap (by_three x y) third

none_more : (counts : Counts) → Fit counts → counts ≡ with_all counts []
none_more counts fit =
    three_same counts.voices counts.copies counts.full (total (counts.voices + 0)) (total (counts.copies + 0)) (total (counts.full + 0))
    (sym (total_same counts.voices fit.0)) (sym (total_same counts.copies fit.1)) (sym (total_same counts.full fit.2))

both_counted : (p : Marked → Bool) (xs ys : List Marked) → length (filter p xs) + length (filter p ys) ≡ length (filter p (xs ++ ys))
both_counted p xs ys = sym (ap length (filter-append p xs ys) ∙ length-append (filter p xs) (filter p ys))

fit_entry : (counts : Counts) (entry : WorkerEntry) → Fit counts → Fit (with_entry counts entry)
fit_entry counts (Voice connection revision packet copies) fit = (omega arith, omega arith, omega arith)
fit_entry counts (Closed connection cause) fit = fit

entries_all : (counts : Counts) (entries : List WorkerEntry) → Fit counts → with_entries counts entries ≡ with_all counts entries
entries_all counts [] fit = none_more counts fit
entries_all counts (Voice connection revision packet copies ∷ entries) fit =
    let entry : WorkerEntry = Voice connection revision packet copies in
    let rest = flat_map copies_in entries in
    entries_all (with_entry counts entry) entries (fit_entry counts entry fit)
    ∙ three_same _ _ _ _ _ _
    (total_next counts.voices (length (filter is_voice entries)))
    (total_more counts.copies (length (filter is_sent copies)) (length (filter is_sent rest)) ∙ ap (λ (n : ℕ). total (counts.copies + n)) (both_counted is_sent copies rest))
    (total_more counts.full (length (filter is_full copies)) (length (filter is_full rest)) ∙ ap (λ (n : ℕ). total (counts.full + n)) (both_counted is_full copies rest))
entries_all counts (Closed connection cause ∷ entries) fit = entries_all counts entries fit

fit_entries : (counts : Counts) (entries : List WorkerEntry) → Fit counts → Fit (with_entries counts entries)
fit_entries counts [] fit = fit
fit_entries counts (entry ∷ entries) fit = fit_entries (with_entry counts entry) entries (fit_entry counts entry fit)

with_entries_more : (counts : Counts) (entries others : List WorkerEntry) → with_entries counts (entries ++ others) ≡ with_entries (with_entries counts entries) others
with_entries_more counts [] others = refl
with_entries_more counts (entry ∷ entries) others = with_entries_more (with_entry counts entry) entries others

workers_all : (counts : Counts) (by_worker : List (List WorkerEntry)) → with_workers counts by_worker ≡ with_entries counts (flat_map (λ entries. entries) by_worker)
workers_all counts [] = refl
workers_all counts (entries ∷ by_worker) =
    workers_all (with_entries counts entries) by_worker ∙ sym (with_entries_more counts entries (flat_map (λ others. others) by_worker))

-- the counts of a journal are those of its entries in one list
pub counted : (journal : Journal) (counts : Counts) (controls : ℕ) → counts ≡ with_workers no_counts journal.by_worker → controls ≡ length journal.controls
    → Legal controls counts.voices counts.copies counts.full ≡ counts_of journal
counted journal counts controls is number =
    let voices = length (filter is_voice (entries_of journal)) in
    let sent = length (filter is_sent (flat_map copies_in (entries_of journal))) in
    let full = length (filter is_full (flat_map copies_in (entries_of journal))) in
    let all : counts ≡ with_all no_counts (entries_of journal) =
    is ∙ workers_all no_counts journal.by_worker ∙ entries_all no_counts (entries_of journal) (omega arith, omega arith, omega arith) in
    ap (λ (n : ℕ). Legal n counts.voices counts.copies counts.full) number
    ∙ ap (λ (c : Counts). Legal (length journal.controls) c.voices c.copies c.full) all
    ∙ ap (λ (n : ℕ). Legal (length journal.controls) n (total (0 + sent)) (total (0 + full))) (total_from_none voices)
    ∙ ap (λ (n : ℕ). Legal (length journal.controls) (total voices) n (total (0 + full))) (total_from_none sent)
    ∙ ap (Legal (length journal.controls) (total voices) (total sent)) (total_from_none full)
