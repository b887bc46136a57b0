-- Each line that a draft takes is a text.
use Rattle.mum_record.proofs.Common.{◌≡◌, ℕ, zero, suc, ◌+◌, ◌/◌, ◌%◌, Bool, true, false, List, [], ◌∷◌, length, Some, None, refl, sym, subst, arith, codes, cond, cond-true, lt-ltb, bytes_eq-Decides, IsUtf8-from_ascii, nat_lt, ◌==◌, bytes_eq, IsUtf8, decimal, digits, digits_onto, digit_glyph, join_with_byte, words_in, journal_line, journal_version, workers_of, limits_of, config_of, config_word, Version, One, Two, control_words, entry_words, worker_line, end_line, control_of, entry_of, is_worker_line, ends_entries, with_control, with_entry, after_workers, taken_at, taken, Draft, Stage, Head, Workers, Limits, Config, Controls, Entries, Over}
use Rattle.mum_record.proofs.{Numbers.none_unless, Splits.join-IsAscii, Laws.chosen, Laws.mapped, HeadLemmas.journal_version-found, HeadLemmas.workers_of-found, HeadLemmas.limits_of-found, Graphic.IsGraphic, Graphic.AreGraphic, Graphic.graphic_AreAllWords, Graphic.literal_graphic, ConfigLaws.config_of-found, ConfigLaws.config_words_graphic, EntryLaws.control_of-found, EntryLaws.control_graphic, EntryLaws.entry_of-found, EntryLaws.entry_graphic, DraftLaws.picked, DraftLaws.line_is}

-- the digits of a number, whatever its size
onto_graphic : (k n : ℕ) (rest : List ℕ) → IsGraphic rest → IsGraphic (digits_onto k 10 false n rest)
onto_graphic zero n rest h = h
onto_graphic (suc k) n rest h =
    let digit : ℕ = digit_glyph false (n % 10) in
    let is : digit ≡ 48 + n % 10 = cond-true (nat_lt (n % 10) 10) (48 + n % 10) (87 + n % 10) (lt-ltb (n % 10) 10 (omega arith)) in
    let more : IsGraphic (digit ∷ rest) = (omega arith, omega arith, h) in
    elim (n / 10 == 0) as (λ (last : Bool). IsGraphic (cond last (digit ∷ rest) (digits_onto k 10 false (n / 10) (digit ∷ rest)))) [
      | true ↦ more
      | false ↦ onto_graphic k (n / 10) (digit ∷ rest) more
    ]

numeral_graphic : (n : ℕ) → IsGraphic (decimal n)
unfolding digits
numeral_graphic n = onto_graphic 64 n [] tt

words_text : (line : List ℕ) (words : List (List ℕ)) → AreGraphic words → line ≡ join_with_byte 32 words → IsUtf8 line
words_text line words h is = subst IsUtf8 (sym is) (IsUtf8-from_ascii (join_with_byte 32 words) (join-IsAscii words (graphic_AreAllWords words h)))

worker_text : (n : ℕ) (line : List ℕ) → is_worker_line n line ≡ true → IsUtf8 line
worker_text n line same =
    words_text line (codes "worker" ∷ decimal n ∷ []) (literal_graphic (codes "worker") refl, (numeral_graphic n, tt)) ((bytes_eq-Decides line (worker_line n)).0 same)

end_text : (line : List ℕ) → bytes_eq line end_line ≡ true → IsUtf8 line
end_text line same = words_text line (end_line ∷ []) (literal_graphic end_line refl, tt) ((bytes_eq-Decides line end_line).0 same)

ends_text : (more : Bool) (n : ℕ) (line : List ℕ) → cond more (is_worker_line n line) (bytes_eq line end_line) ≡ true → IsUtf8 line
ends_text true n line same = worker_text n line same
ends_text false n line same = end_text line same

version_text : (v : Version) (line : List ℕ) → line ≡ journal_line v → IsUtf8 line
version_text One line is = words_text line (codes "journal" ∷ codes "1" ∷ []) (literal_graphic (codes "journal") refl, (literal_graphic (codes "1") refl, tt)) is
version_text Two line is = words_text line (codes "journal" ∷ codes "2" ∷ []) (literal_graphic (codes "journal") refl, (literal_graphic (codes "2") refl, tt)) is

taken_at-text : (st : Stage) (d : Draft) (line : List ℕ) (next : Draft) → taken_at st d line ≡ Some next → IsUtf8 line
taken_at-text Head d line next e =
    mapped (λ (v : Version). record d { stage = Workers v }) (journal_version line) next (λ v v_is e1. version_text v line (journal_version-found line v v_is)) e
taken_at-text Limits d line next e =
    mapped (λ (limits : ℕ × ℕ). record d { stage = Config; limits = Some limits }) (limits_of line) next (λ limits is e1.
    let found = limits_of-found line limits is in
    words_text line (codes "limits" ∷ decimal limits.0 ∷ decimal limits.1 ∷ [])
    (literal_graphic (codes "limits") refl, (numeral_graphic limits.0, (numeral_graphic limits.1, tt))) found.1) e
taken_at-text (Workers v) d line next e =
    mapped (λ (w : ℕ). record d { stage = after_workers v; workers = w }) (workers_of line) next (λ w w_is e1.
    let found = workers_of-found line w w_is in
    words_text line (codes "workers" ∷ decimal w ∷ []) (literal_graphic (codes "workers") refl, (numeral_graphic w, tt)) found.2) e
taken_at-text Config d line next e =
    mapped (λ (document : List ℕ). record d { stage = Controls; config = document }) (config_of line) next (λ document is e1.
    let found = config_of-found line document is in
    words_text line (codes "config" ∷ config_word document ∷ []) (config_words_graphic document found.0) found.1) e
taken_at-text Controls d line next e =
    chosen line (worker_line 0) _ _ next
    (λ w e1. words_text line (codes "worker" ∷ decimal 0 ∷ []) (literal_graphic (codes "worker") refl, (numeral_graphic 0, tt)) w)
    (mapped (with_control d) (control_of (words_in line)) next (λ entry is e1.
    let found = control_of-found (words_in line) entry is in
    words_text line (control_words entry) (control_graphic entry found.0.0) (line_is line (control_words entry) found.1)))
    e
taken_at-text Entries d line next e =
    picked (ends_entries d line) _ _ next
    (λ ends e1. ends_text (nat_lt (length d.by_worker + 1) d.workers) (length d.by_worker + 1) line ends)
    (λ ends. mapped (with_entry d) (entry_of (words_in line)) next (λ entry is e1.
    let found = entry_of-found (words_in line) entry is in
    words_text line (entry_words entry) (entry_graphic entry found.0.0) (line_is line (entry_words entry) found.1)))
    e
taken_at-text Over d line next e = cc

-- a line that is no text is not taken
pub taken-no_text : (d : Draft) (line : List ℕ) → (IsUtf8 line → ⊥) → taken d line ≡ None
unfolding taken
taken-no_text d line not_text = none_unless (taken d line) (λ next is. not_text (taken_at-text d.stage d line next is))
