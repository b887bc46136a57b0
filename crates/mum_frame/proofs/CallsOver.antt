-- What any calls of a framer leave: the frames given, and then what is kept.
use Rattle.mum_frame.proofs.Common.{◌≡◌, ℕ, ◌≤◌, List, [], ◌∷◌, ◌++◌, length, drop, Option, Some, None, Result, Ok, Err, sym, ap, ◌∙◌, subst, arith, append_assoc, All, Each, flat_map, append-nil, drop-append-le, length-append, length-drop, All-from_recursion, big_number, big_from-append, HEADER_LENGTH, Frame, FrameFault, FrameTooLong, OutOfMemory, Call, fed, asked, Leads, bytes_fed, frames_given, frame_spelling, IsFrame, HasNoFrame, TooLong, named_length, NextGives, IsFront, Splits}
use Rattle.mum_frame.proofs.{Replies.none_from, Replies.none_to, Replies.too_long_from, Replies.too_long_to, Headers.HasNoFrame-above_limit, Streams.joined, Streams.joined-cons, Streams.longest-Splits}

-- what was kept and what was fed is what was given and what is kept
Leads-joined : (old : List ℕ) (calls : List Call) (new : List ℕ) → Leads old calls new → old ++ bytes_fed calls ≡ joined (frames_given calls) new
Leads-joined old [] new leads = append-nil old ∙ sym leads
Leads-joined old (fed piece (Ok done) ∷ calls) new (kept, (is, leads)) =
    sym (append_assoc old piece (bytes_fed calls)) ∙ ap (λ (xs : List ℕ). xs ++ bytes_fed calls) (sym is) ∙ Leads-joined kept calls new leads
Leads-joined old (fed piece (Err e) ∷ calls) new (kept, (is, leads)) =
    ap (λ (xs : List ℕ). xs ++ bytes_fed calls) (sym is) ∙ Leads-joined kept calls new leads
Leads-joined old (asked (Ok (Some frame)) ∷ calls) new (kept, (is, leads)) =
    ap (λ (xs : List ℕ). xs ++ bytes_fed calls) is.1 ∙ append_assoc (frame_spelling frame) kept (bytes_fed calls)
    ∙ ap (λ (xs : List ℕ). frame_spelling frame ++ xs) (Leads-joined kept calls new leads) ∙ sym (joined-cons frame (frames_given calls) new)
Leads-joined old (asked (Ok None) ∷ calls) new (kept, (is, leads)) =
    ap (λ (xs : List ℕ). xs ++ bytes_fed calls) (sym is.2) ∙ Leads-joined kept calls new leads
Leads-joined old (asked (Err (FrameTooLong named)) ∷ calls) new (kept, (is, leads)) =
    ap (λ (xs : List ℕ). xs ++ bytes_fed calls) (sym is.2) ∙ Leads-joined kept calls new leads
Leads-joined old (asked (Err OutOfMemory) ∷ calls) new (kept, (is, leads)) =
    ap (λ (xs : List ℕ). xs ++ bytes_fed calls) (sym is.1) ∙ Leads-joined kept calls new leads

-- each given one is a frame
Leads-each : (old : List ℕ) (calls : List Call) (new : List ℕ) → Leads old calls new → Each IsFrame (frames_given calls)
Leads-each old [] new leads = tt
Leads-each old (fed piece answer ∷ calls) new (kept, (is, leads)) = Leads-each kept calls new leads
Leads-each old (asked (Ok (Some frame)) ∷ calls) new (kept, (is, leads)) = (is.0, Leads-each kept calls new leads)
Leads-each old (asked (Ok None) ∷ calls) new (kept, (is, leads)) = Leads-each kept calls new leads
Leads-each old (asked (Err fault) ∷ calls) new (kept, (is, leads)) = Leads-each kept calls new leads

pub conserved : (calls : List Call) (kept : List ℕ) → Leads [] calls kept
    → (bytes_fed calls ≡ flat_map frame_spelling (frames_given calls) ++ kept) × All IsFrame (frames_given calls)
conserved calls kept leads =
    (Leads-joined [] calls kept leads, All-from_recursion IsFrame (frames_given calls) (Leads-each [] calls kept leads))

pub given_prefix : (calls : List Call) (kept rest : List ℕ) (frames : List Frame) → Leads [] calls kept → Splits (bytes_fed calls) frames rest
    → IsFront (frames_given calls) frames
given_prefix calls kept rest frames leads splits =
    longest-Splits (bytes_fed calls) rest kept frames (frames_given calls) splits
    (All-from_recursion IsFrame (frames_given calls) (Leads-each [] calls kept leads)) (Leads-joined [] calls kept leads)

-- where no frame begins what is kept, all were given
given_all : (calls : List Call) (kept : List ℕ) → Leads [] calls kept → HasNoFrame kept → Splits (bytes_fed calls) (frames_given calls) kept
given_all calls kept leads none = record {
  whole = Leads-joined [] calls kept leads;
  each = All-from_recursion IsFrame (frames_given calls) (Leads-each [] calls kept leads);
  no_frame = none;
}

pub given_none : (calls : List Call) (kept new : List ℕ) (answer : Result (Option Frame) FrameFault) → Leads [] calls kept → NextGives kept answer new
    → (answer ≡ Ok None → Splits (bytes_fed calls) (frames_given calls) kept × (TooLong kept → ⊥))
    × (Splits (bytes_fed calls) (frames_given calls) kept × (TooLong kept → ⊥) → answer ≡ Ok None)
given_none calls kept new answer leads gives = (
  λ e. let stuck = none_from kept answer new gives e in (given_all calls kept leads stuck.0, stuck.1),
  λ all. none_to kept answer new gives (all.0.no_frame, all.1),
)

pub given_too_long : (calls : List Call) (kept new : List ℕ) (answer : Result (Option Frame) FrameFault) → Leads [] calls kept → NextGives kept answer new
    → (answer ≡ Err (FrameTooLong (named_length kept)) → Splits (bytes_fed calls) (frames_given calls) kept × TooLong kept)
    × (Splits (bytes_fed calls) (frames_given calls) kept × TooLong kept → answer ≡ Err (FrameTooLong (named_length kept)))
given_too_long calls kept new answer leads gives = (
  λ e.
      let above = (too_long_from kept answer new (named_length kept) gives e).0 in
      (given_all calls kept leads (HasNoFrame-above_limit kept above), above),
  λ all. too_long_to kept answer new gives all.1,
)

-- a header that is there names the same, whatever follows
pub named_length-append : (bytes more : List ℕ) → HEADER_LENGTH ≤ length bytes → named_length (bytes ++ more) ≡ named_length bytes
unfolding named_length
named_length-append bytes more header =
    ap (big_number 4) (drop-append-le 2 bytes more (omega arith)) ∙ big_from-append 4 (drop 2 bytes) more (omega (arith, length-drop 2 bytes))

-- a length that is too great stays, whatever follows
pub TooLong-append : (bytes more : List ℕ) → TooLong bytes → TooLong (bytes ++ more)
TooLong-append bytes more above =
    let named = named_length-append bytes more above.header in
    let header = above.header in
    let limit = above.above in
    record { header = omega (arith, length-append bytes more); above = omega arith }

-- a length that was refused is refused for good
pub refused_for_good : (kept : List ℕ) (calls : List Call) (later new : List ℕ) (answer : Result (Option Frame) FrameFault)
    → TooLong kept → Leads kept calls later → NextGives later answer new → answer ≡ Err (FrameTooLong (named_length kept))
refused_for_good old [] later new answer above leads gives =
    let same : TooLong later = subst TooLong (sym leads) above in
    too_long_to later answer new gives same ∙ ap (λ (bytes : List ℕ). Err (FrameTooLong (named_length bytes))) leads
refused_for_good old (fed piece (Ok done) ∷ calls) later new answer above (kept, (is, leads)) gives =
    let same : TooLong kept = subst TooLong (sym is) (TooLong-append old piece above) in
    refused_for_good kept calls later new answer same leads gives
    ∙ ap (λ (n : ℕ). Err (FrameTooLong n)) (ap named_length is ∙ named_length-append old piece above.header)
refused_for_good old (fed piece (Err e) ∷ calls) later new answer above (kept, (is, leads)) gives =
    refused_for_good kept calls later new answer (subst TooLong (sym is) above) leads gives
    ∙ ap (λ (bytes : List ℕ). Err (FrameTooLong (named_length bytes))) is
refused_for_good old (asked (Ok (Some frame)) ∷ calls) later new answer above (kept, (is, leads)) gives =
    absurd (HasNoFrame-above_limit old above frame kept is.0 is.1)
refused_for_good old (asked (Ok None) ∷ calls) later new answer above (kept, (is, leads)) gives = absurd (is.1 above)
refused_for_good old (asked (Err (FrameTooLong named)) ∷ calls) later new answer above (kept, (is, leads)) gives =
    refused_for_good kept calls later new answer (subst TooLong (sym is.2) above) leads gives
    ∙ ap (λ (bytes : List ℕ). Err (FrameTooLong (named_length bytes))) is.2
refused_for_good old (asked (Err OutOfMemory) ∷ calls) later new answer above (kept, (is, leads)) gives =
    absurd (is.0 (HasNoFrame-above_limit old above))
