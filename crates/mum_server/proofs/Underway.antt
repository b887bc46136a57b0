-- A run over a recording that is underway: what was reported, and what is left of it.
use Rattle.mum_server.proofs.Common.{◌≡◌, ℕ, ◌+◌, ◌-◌, ◌≤◌, Bool, cond, List, [], ◌∷◌, ◌++◌, length, drop, Option, Some, None, Err, refl, sym, ap, ◌∙◌, subst, append_assoc, arith, length-append, IfSome, position, position_or_len, slice_split, append-nil, take_at, drop_at, Appends, AppendsFront, Appends-nil, Appends-trans, AppendsFront-behind, AppendsFront-longer, AppendsFront-whole, split_at, split_nowhere, IsExhausted, IsOpen, IsTooLong, Parts, ReaderState, Reads, at_start, first-behind, found-none, is-found, Phase, Head, Workers, Limits, Config, LimitedConfig, Running, Over, LineFault, BadRecording, TooLong, End, Finished, Faulty, ReadFault, WriteFault, OutOfMemory, INPUT_LIMIT, LINE_LIMIT, Run, Ends, Advances, text_of, Answer, Goes, Stops, Outcome, answer, behind, end_fault, end_of, stops_at, goes_on, line_answer, ending_of, outcome_from, replayed, is_line_feed}
use Rattle.mum_server.proofs.TooLong.{ending_cut, outcome_cons, short_enough, split_filled, stops_long}

-- the outcome of the bytes that are left
abbrev pub outcome_of : Phase → ℕ → ℕ → List ℕ → Outcome
outcome_of phase n left rest = outcome_from phase n left (slice_split is_line_feed rest)

-- what was reported was written, and what is left completes the outcome
pub record Underway (old new : Option (List ℕ)) (phase : Phase) (n left : ℕ) (rest bytes : List ℕ) : Type 0 where
  pub told : List ℕ
  pub written : Appends old new told
  pub same : behind told (outcome_of phase n left rest) ≡ replayed bytes

outcome_line : (phase : Phase) (n left : ℕ) (line rest : List ℕ)
    → outcome_from phase n left (line ∷ slice_split is_line_feed rest) ≡ goes_on n (line_answer phase left line) (λ after. outcome_of after (n + 1) (left - (length line + 1)) rest)
outcome_line phase n left line rest = outcome_cons phase n left line (slice_split is_line_feed rest) (split_filled rest)

-- the next line goes on
outcome_goes : (phase : Phase) (n left : ℕ) (line rest after : List ℕ) (next : Phase) (lines : List (List (List ℕ))) → slice_split is_line_feed rest ≡ line ∷ slice_split is_line_feed after
    → line_answer phase left line ≡ Goes next lines → outcome_of phase n left rest ≡ behind (text_of lines) (outcome_of next (n + 1) (left - (length line + 1)) after)
outcome_goes phase n left line rest after next lines split goes =
    ap (outcome_from phase n left) split ∙ outcome_line phase n left line after
    ∙ ap (λ (a : Answer). goes_on n a (λ p. outcome_of p (n + 1) (left - (length line + 1)) after)) goes

-- the run stops at the next line
outcome_stops : (phase : Phase) (n left : ℕ) (line rest after : List ℕ) (fault : LineFault) → slice_split is_line_feed rest ≡ line ∷ slice_split is_line_feed after
    → line_answer phase left line ≡ Stops fault → outcome_of phase n left rest ≡ stops_at n fault
outcome_stops phase n left line rest after fault split stops =
    ap (outcome_from phase n left) split ∙ outcome_line phase n left line after
    ∙ ap (λ (a : Answer). goes_on n a (λ p. outcome_of p (n + 1) (left - (length line + 1)) after)) stops

outcome_ends : (phase : Phase) (n left : ℕ) (rest : List ℕ) → slice_split is_line_feed rest ≡ rest ∷ [] → outcome_of phase n left rest ≡ record { text = []; ending = ending_of phase n left rest }
unfolding outcome_from
outcome_ends phase n left rest split = ap (outcome_from phase n left) split

pub starts : (known : Option (List ℕ)) (bytes : List ℕ) → Underway known known Head 1 INPUT_LIMIT bytes bytes
unfolding replayed
starts known bytes = record { told = []; written = Appends-nil known; same = refl }

pub goes : (old mid new : Option (List ℕ)) (phase : Phase) (n left : ℕ) (line rest after bytes : List ℕ) (next : Phase) (lines : List (List (List ℕ))) → Underway old mid phase n left rest bytes
    → slice_split is_line_feed rest ≡ line ∷ slice_split is_line_feed after → line_answer phase left line ≡ Goes next lines
    → Appends mid new (text_of lines) → Underway old new next (n + 1) (left - (length line + 1)) after bytes
goes old mid new phase n left line rest after bytes next lines u split answer more =
    let o = outcome_of next (n + 1) (left - (length line + 1)) after in
    record {
      told = u.told ++ text_of lines;
      written = Appends-trans old mid new u.told (text_of lines) u.written more;
      same = ap (λ (t : List ℕ). record { text = t; ending = o.ending }) (append_assoc u.told (text_of lines) o.text)
          ∙ ap (behind u.told) (sym (outcome_goes phase n left line rest after next lines split answer)) ∙ u.same;
    }

-- a front of what goes on
pub breaks : (old mid new : Option (List ℕ)) (phase : Phase) (n left : ℕ) (line rest after bytes : List ℕ) (next : Phase) (lines : List (List (List ℕ))) → Underway old mid phase n left rest bytes
    → slice_split is_line_feed rest ≡ line ∷ slice_split is_line_feed after → line_answer phase left line ≡ Goes next lines
    → AppendsFront mid new (text_of lines) → AppendsFront old new (replayed bytes).text
breaks old mid new phase n left line rest after bytes next lines u split answer front =
    let o = outcome_of next (n + 1) (left - (length line + 1)) after in
    let text : u.told ++ (text_of lines ++ o.text) ≡ (replayed bytes).text
    = ap (λ (x : Outcome). x.text) (ap (behind u.told) (sym (outcome_goes phase n left line rest after next lines split answer)) ∙ u.same) in
    subst (AppendsFront old new) text
    (AppendsFront-behind old mid new u.told (text_of lines ++ o.text) u.written (AppendsFront-longer mid new (text_of lines) o.text front))

-- what was reported is a front of all
pub pauses : (old new : Option (List ℕ)) (phase : Phase) (n left : ℕ) (rest bytes : List ℕ) → Underway old new phase n left rest bytes → AppendsFront old new (replayed bytes).text
pauses old new phase n left rest bytes u =
    subst (AppendsFront old new) (ap (λ (x : Outcome). x.text) u.same)
    (AppendsFront-longer old new u.told (outcome_of phase n left rest).text (AppendsFront-whole old new u.told u.written))

-- the run is over with this ending, and nothing more is reported
pub record IsDone (old new : Option (List ℕ)) (ending : End) (bytes : List ℕ) : Type 0 where
  pub ending_is : ending ≡ (replayed bytes).ending
  pub whole : Appends old new (replayed bytes).text

over : (old new : Option (List ℕ)) (phase : Phase) (n left : ℕ) (rest bytes : List ℕ) (ending : End) → Underway old new phase n left rest bytes
    → outcome_of phase n left rest ≡ record { text = []; ending = ending } → IsDone old new ending bytes
over old new phase n left rest bytes ending u is =
    let same : record { text = u.told ++ []; ending = ending } ≡ replayed bytes = ap (behind u.told) (sym is) ∙ u.same in
    record {
      ending_is = ap (λ (x : Outcome). x.ending) same;
      whole = subst (Appends old new) (sym (append-nil u.told) ∙ ap (λ (x : Outcome). x.text) same) u.written;
    }

pub stops : (old new : Option (List ℕ)) (phase : Phase) (n left : ℕ) (line rest after bytes : List ℕ) (fault : LineFault) → Underway old new phase n left rest bytes
    → slice_split is_line_feed rest ≡ line ∷ slice_split is_line_feed after → line_answer phase left line ≡ Stops fault → IsDone old new (Faulty n fault) bytes
stops old new phase n left line rest after bytes fault u split answer =
    over old new phase n left rest bytes (Faulty n fault) u (outcome_stops phase n left line rest after fault split answer)

pub ends : (old new : Option (List ℕ)) (phase : Phase) (n left : ℕ) (rest bytes : List ℕ) → Underway old new phase n left rest bytes
    → slice_split is_line_feed rest ≡ rest ∷ [] → IsDone old new (ending_of phase n left rest) bytes
ends old new phase n left rest bytes u split = over old new phase n left rest bytes (ending_of phase n left rest) u (outcome_ends phase n left rest split)

-- ---- the input that is left, as far as it is reported

-- what is kept and what is left complete the outcome
abbrev pub IsUnderway : Option (List ℕ) → Option (List ℕ) → Phase → ℕ → ReaderState → Option (List ℕ) → Option (List ℕ) → Type 0
IsUnderway old new phase n reader left None = Unit {0}
IsUnderway old new phase n reader (Some rest) (Some bytes) = Underway old new phase n reader.room (reader.kept ++ rest) bytes
IsUnderway old new phase n reader None (Some bytes) = ⊥

pub begins : (known left : Option (List ℕ)) (reader : ReaderState) (phase : Phase) (n : ℕ) → reader ≡ at_start → phase ≡ Head → n ≡ 1 → IsUnderway known known phase n reader left left
begins known None reader phase n start head one = tt
begins known (Some bytes) reader phase n start head one = rw (start, head, one) (starts known bytes)

-- a line and what is after its line feed
pub line_split : (line rest : List ℕ) → position is_line_feed line ≡ None → slice_split is_line_feed (line ++ 10 ∷ rest) ≡ line ∷ slice_split is_line_feed rest
line_split line rest none =
    let bytes = line ++ 10 ∷ rest in
    let here = first-behind is_line_feed line (10 ∷ rest) (found-none is_line_feed line none) in
    let at : position_or_len is_line_feed bytes ≡ length line = here ∙ omega arith in
    let found = is-found is_line_feed bytes (length line) at (omega (arith, length-append line (10 ∷ rest))) in
    split_at is_line_feed bytes 0 (length line) found
    ∙ ap (λ (front : List ℕ). front ∷ slice_split is_line_feed (drop (length line + 1) bytes)) (take_at line (10 ∷ rest) (length line) refl)
    ∙ ap (λ (more : List ℕ). line ∷ slice_split is_line_feed more) (behind_feed line rest)
  where
    behind_feed : (line rest : List ℕ) → drop (length line + 1) (line ++ 10 ∷ rest) ≡ rest
    behind_feed line rest =
        ap (λ (bytes : List ℕ). drop (length line + 1) bytes) (sym (append_assoc line (10 ∷ []) rest))
        ∙ drop_at (line ++ 10 ∷ []) rest (length line + 1) (length-append line (10 ∷ []))

-- what was kept and what was left begin with the line that was given
pub given_split : (old new : ReaderState) (line rest after : List ℕ) (parts : Parts line old new (Some rest) (Some after))
    → slice_split is_line_feed (old.kept ++ rest) ≡ line ∷ slice_split is_line_feed (new.kept ++ after)
given_split old new line rest after parts =
    let joined : old.kept ++ rest ≡ line ++ 10 ∷ (new.kept ++ after)
    = ap (λ (xs : List ℕ). old.kept ++ xs) parts.consumed ∙ sym (append_assoc old.kept parts.taken after)
    ∙ ap (λ (xs : List ℕ). xs ++ after) parts.parts ∙ append_assoc line (10 ∷ new.kept) after in
    ap (slice_split is_line_feed) joined ∙ line_split line (new.kept ++ after) parts.one_line

-- and it is not too long
given_answer : (old new : ReaderState) (line : List ℕ) (left after : Option (List ℕ)) (phase : Phase) → Parts line old new left after → line_answer phase old.room line ≡ answer phase line
given_answer old new line left after phase parts =
    ap (λ (b : Bool). cond b (Stops TooLong) (answer phase line)) (short_enough old.room (length line) (length line + 1) parts.short (omega (arith, parts.room)))

-- a line was given, and what it reported was written
pub goes_given : (old mid new left after first : Option (List ℕ)) (phase next : Phase) (n : ℕ) (reader last : ReaderState) (line : List ℕ) (told : List (List (List ℕ)))
    → IsUnderway old mid phase n reader left first → Parts line reader last left after → answer phase line ≡ Goes next told → Appends mid new (text_of told)
    → IsUnderway old new next (n + 1) last after first
goes_given old mid new left after None phase next n reader last line told u parts goes more = tt
goes_given old mid new None after (Some bytes) phase next n reader last line told u parts goes more = absurd u
goes_given old mid new (Some rest) None (Some bytes) phase next n reader last line told u parts goes more = absurd parts.consumed
goes_given old mid new (Some rest) (Some after) (Some bytes) phase next n reader last line told u parts answers more =
    subst (λ (room : ℕ). Underway old new next (n + 1) room (last.kept ++ after) bytes) (omega (arith, parts.room))
    (goes old mid new phase n reader.room line (reader.kept ++ rest) (last.kept ++ after) bytes next told u (given_split reader last line rest after parts)
    (given_answer reader last line (Some rest) (Some after) phase parts ∙ answers) more)

-- a front of what it reported was
pub breaks_given : (old mid new left after first : Option (List ℕ)) (phase next : Phase) (n : ℕ) (reader last : ReaderState) (line : List ℕ) (told : List (List (List ℕ)))
    → IsUnderway old mid phase n reader left first → Parts line reader last left after → answer phase line ≡ Goes next told → AppendsFront mid new (text_of told)
    → IfSome first (λ bytes. AppendsFront old new (replayed bytes).text)
breaks_given old mid new left after None phase next n reader last line told u parts goes front = tt
breaks_given old mid new None after (Some bytes) phase next n reader last line told u parts goes front = absurd u
breaks_given old mid new (Some rest) None (Some bytes) phase next n reader last line told u parts goes front = absurd parts.consumed
breaks_given old mid new (Some rest) (Some after) (Some bytes) phase next n reader last line told u parts answers front =
    breaks old mid new phase n reader.room line (reader.kept ++ rest) (last.kept ++ after) bytes next told u (given_split reader last line rest after parts)
    (given_answer reader last line (Some rest) (Some after) phase parts ∙ answers) front

-- what was reported is a front of all
pub pauses_given : (old new left first : Option (List ℕ)) (phase : Phase) (n : ℕ) (reader : ReaderState) → IsUnderway old new phase n reader left first
    → IfSome first (λ bytes. AppendsFront old new (replayed bytes).text)
pauses_given old new left None phase n reader u = tt
pauses_given old new None (Some bytes) phase n reader u = absurd u
pauses_given old new (Some rest) (Some bytes) phase n reader u = pauses old new phase n reader.room (reader.kept ++ rest) bytes u

done_so : (old new : Option (List ℕ)) (ending : End) (bytes : List ℕ) (n : ℕ) (fault : LineFault) → ending ≡ Faulty n fault → IsDone old new ending bytes → Ends (replayed bytes) (Faulty n fault) old new
done_so old new ending bytes n fault is done = (sym is ∙ done.ending_is, done.whole)

-- the run stops at the line that was given
stops_given : (old mid left after first : Option (List ℕ)) (phase : Phase) (n : ℕ) (reader last : ReaderState) (line : List ℕ) (fault : LineFault)
    → IsUnderway old mid phase n reader left first → Parts line reader last left after → answer phase line ≡ Stops fault → IfSome first (λ bytes. Ends (replayed bytes) (Faulty n fault) old mid)
stops_given old mid left after None phase n reader last line fault u parts stop = tt
stops_given old mid None after (Some bytes) phase n reader last line fault u parts stop = absurd u
stops_given old mid (Some rest) None (Some bytes) phase n reader last line fault u parts stop = absurd parts.consumed
stops_given old mid (Some rest) (Some after) (Some bytes) phase n reader last line fault u parts stop =
    done_so old mid (Faulty n fault) bytes n fault refl
    (stops old mid phase n reader.room line (reader.kept ++ rest) (last.kept ++ after) bytes fault u (given_split reader last line rest after parts)
    (given_answer reader last line (Some rest) (Some after) phase parts ∙ stop))

-- where the run stops at its next line, its end says so
pub halts : (old mid left after first : Option (List ℕ)) (run next : Run) (reader last : ReaderState) (line : List ℕ) (end : End)
    → IsUnderway old mid run.phase run.line reader left first → Parts line reader last left after → Advances run line (Err end) next → IfSome first (λ bytes. Ends (replayed bytes) end old mid)
halts old mid left after first run next reader last line (Faulty n fault) u parts h =
    rw h.1 (stops_given old mid left after first run.phase run.line reader last line fault u parts h.0)
halts old mid left after first run next reader last line OutOfMemory u parts h = pauses_given old mid left first run.phase run.line reader u
halts old mid left after first run next reader last line Finished u parts h = absurd h
halts old mid left after first run next reader last line ReadFault u parts h = absurd h
halts old mid left after first run next reader last line WriteFault u parts h = absurd h

-- what is kept and what is left are what was kept and what was left
pub read_same : (old new : ReaderState) (rest after : List ℕ) (reads : Reads old new (Some rest) (Some after)) → old.kept ++ rest ≡ new.kept ++ after
read_same old new rest after reads =
    ap (λ (xs : List ℕ). old.kept ++ xs) reads.consumed ∙ sym (append_assoc old.kept reads.taken after) ∙ ap (λ (xs : List ℕ). xs ++ after) (sym reads.kept)

-- the run stops at a line that is too long
pub stops_too_long : (old mid left after first : Option (List ℕ)) (phase : Phase) (n : ℕ) (reader last : ReaderState) → IsUnderway old mid phase n reader left first → Reads reader last left after
    → IsTooLong last.room last.kept → IfSome first (λ bytes. Ends (replayed bytes) (Faulty n TooLong) old mid)
stops_too_long old mid left after None phase n reader last u reads long = tt
stops_too_long old mid None after (Some bytes) phase n reader last u reads long = absurd u
stops_too_long old mid (Some rest) None (Some bytes) phase n reader last u reads long = absurd reads.consumed
stops_too_long old mid (Some rest) (Some after) (Some bytes) phase n reader last u reads long =
    done_so old mid (Faulty n TooLong) bytes n TooLong refl
    (over old mid phase n reader.room (reader.kept ++ rest) bytes (Faulty n TooLong) u
    (ap (λ (xs : List ℕ). outcome_of phase n reader.room xs) (read_same reader last rest after reads)
    ∙ ap (λ (room : ℕ). outcome_of phase n room (last.kept ++ after)) (sym reads.room)
    ∙ stops_long phase n last.room last.kept after long))

-- the end of an input after bytes that no line feed ends
rest_ending : (phase : Phase) (n left : ℕ) (rest : List ℕ) → (rest ≡ [] → ⊥) → length rest ≤ LINE_LIMIT → length rest ≤ left → ending_of phase n left rest ≡ Faulty n BadRecording
rest_ending phase n left [] filled short within = absurd (filled refl)
rest_ending phase n left (x ∷ xs) filled short within =
    ending_cut phase n left x xs ∙ ap (λ (b : Bool). Faulty n (cond b TooLong BadRecording)) (short_enough left (length (x ∷ xs)) (length (x ∷ xs)) short within)

pub stops_unended : (old mid left after first : Option (List ℕ)) (phase : Phase) (n : ℕ) (reader last : ReaderState) → IsUnderway old mid phase n reader left first → Reads reader last left after
    → IsOpen last → (last.kept ≡ [] → ⊥) → IsExhausted left after → IfSome first (λ bytes. Ends (replayed bytes) (Faulty n BadRecording) old mid)
stops_unended old mid left after None phase n reader last u reads opens filled none = tt
stops_unended old mid None after (Some bytes) phase n reader last u reads opens filled none = absurd u
stops_unended old mid (Some rest) None (Some bytes) phase n reader last u reads opens filled none = absurd reads.consumed
stops_unended old mid (Some rest) (Some after) (Some bytes) phase n reader last u reads opens filled none =
    let all : reader.kept ++ rest ≡ last.kept = read_same reader last rest after reads ∙ ap (λ (xs : List ℕ). last.kept ++ xs) none ∙ append-nil last.kept in
    done_so old mid (ending_of phase n reader.room last.kept) bytes n BadRecording
    (rest_ending phase n reader.room last.kept filled opens.short (omega (arith, opens.within, reads.room)))
    (over old mid phase n reader.room (reader.kept ++ rest) bytes (ending_of phase n reader.room last.kept) u
    (ap (λ (xs : List ℕ). outcome_of phase n reader.room xs) all ∙ outcome_ends phase n reader.room last.kept (split_nowhere is_line_feed last.kept opens.unended)))

-- the end of an input after a line feed
missing : (n left : ℕ) → Faulty n (end_fault left []) ≡ Faulty n BadRecording
missing n left = ap (λ (b : Bool). Faulty n (cond b TooLong BadRecording)) (short_enough left 0 0 (omega arith) (omega arith))

end_ending : (phase : Phase) (n left : ℕ) → ending_of phase n left [] ≡ end_of phase n
end_ending Over n left = refl
end_ending Head n left = missing n left
end_ending (Workers version) n left = missing n left
end_ending (Limits w) n left = missing n left
end_ending (Config w) n left = missing n left
end_ending (LimitedConfig w limits) n left = missing n left
end_ending (Running core) n left = missing n left

ends_so : (phase : Phase) (n : ℕ) (P : End → Type 0) → (P Finished) → ((fault : LineFault) → P (Faulty n fault)) → P (end_of phase n)
ends_so Over n P finished faulty = finished
ends_so Head n P finished faulty = faulty BadRecording
ends_so (Workers version) n P finished faulty = faulty BadRecording
ends_so (Limits w) n P finished faulty = faulty BadRecording
ends_so (Config w) n P finished faulty = faulty BadRecording
ends_so (LimitedConfig w limits) n P finished faulty = faulty BadRecording
ends_so (Running core) n P finished faulty = faulty BadRecording

pub closes : (old mid left after first : Option (List ℕ)) (phase : Phase) (n : ℕ) (reader last : ReaderState) → IsUnderway old mid phase n reader left first → Reads reader last left after
    → last.kept ≡ [] → IsExhausted left after → IfSome first (λ bytes. Ends (replayed bytes) (end_of phase n) old mid)
closes old mid left after None phase n reader last u reads empty none = tt
closes old mid None after (Some bytes) phase n reader last u reads empty none = absurd u
closes old mid (Some rest) None (Some bytes) phase n reader last u reads empty none = absurd reads.consumed
closes old mid (Some rest) (Some after) (Some bytes) phase n reader last u reads empty none =
    let all : reader.kept ++ rest ≡ [] = read_same reader last rest after reads ∙ ap (λ (xs : List ℕ). xs ++ after) empty ∙ none in
    let done = over old mid phase n reader.room (reader.kept ++ rest) bytes (end_of phase n) u
    (ap (λ (xs : List ℕ). outcome_of phase n reader.room xs) all ∙ outcome_ends phase n reader.room [] refl
    ∙ ap (λ (e : End). record { text = []; ending = e }) (end_ending phase n reader.room)) in
    ends_so phase n (λ e. e ≡ (replayed bytes).ending → Ends (replayed bytes) e old mid) (λ is. (is, done.whole)) (λ fault is. (is, done.whole)) done.ending_is
