-- The head of a recording, and the run after it.
use Rattle.mum_laws.proofs.Common.{◌≡◌, ℕ, ◌+◌, ◌-◌, ◌≤◌, ◌⊎◌, Bool, true, false, cond, List, [], ◌∷◌, ◌++◌, length, Option, Some, None, refl, sym, ap, subst, ◌∙◌, arith, inl, inr, append_assoc, length-append, IfSome, AllByRecursion, slice_split, flat_map-append, IsBytes, Fault, AreLimits, IsConfigLine, config_line, first_step_line, head_lines, limits_line, limits_of, recording_line, recording_version, version_with, workers_line, workers_of, ended_lines, is_line_feed, Version, One, Two, config_of-found, config_of-line, limits_of-found, limits_of-line, workers_of-found, workers_of-line, chosen, CoreState, start, document_fault, opening, Goes, Outcome, StopsAt, answer, config_answer, goes_on, is_too_long, limits_answer, opening_answer, outcome_from, phase_behind_workers, replayed, version_answer, workers_answer, Faulty, Phase, TooLong, BadRecording, Head, Workers, Limits, Config, LimitedConfig, Running, outcome_cons, short_enough, split_filled, IsHead, IsRunBehind, IsRunFrom, IsTranscript, StopsEarly}
use Rattle.mum_record.specs.Head.{config_of}
use Rattle.mum_server.specs.Replay.{Answer}
use Rattle.mum_laws.proofs.Transcribing.{longer, not_nil, runs, short_from}

version_found : (line : List ℕ) (v : Version) → recording_version line ≡ Some v → line ≡ recording_line v
unfolding recording_version
version_found line v h =
    chosen line (recording_line One) _ _ v (λ w e. let is : One ≡ v = cc in rw (← is) w)
    (chosen line (recording_line Two) _ _ v (λ w e. let is : Two ≡ v = cc in rw (← is) w) (λ e. cc))
    h

no_more : (n : ℕ) → n + 0 ≡ n
no_more n = omega arith

grows : (heads : List (List ℕ)) (line : List ℕ) → length (ended_lines (heads ++ line ∷ [])) ≡ length (ended_lines heads) + (length line + 1)
grows heads line =
    ap (λ (text : List ℕ). length text) (flat_map-append (λ (one : List ℕ). one ++ 10 ∷ []) heads (line ∷ []))
    ∙ length-append (ended_lines heads) (ended_lines (line ∷ []))
    ∙ ap (λ (k : ℕ). length (ended_lines heads) + k) (longer line [] ∙ no_more (length line + 1))

-- ---- the lines of a head, one after another

-- an input of these lines and these pieces after them, where n bytes may still come
record Begun (bytes : List ℕ) (heads parts : List (List ℕ)) (left : ℕ) : Type 0 where
  split : slice_split is_line_feed bytes ≡ heads ++ parts
  sum : length (ended_lines heads) + left ≡ 67108864

begun_more : (bytes : List ℕ) (heads parts : List (List ℕ)) (line : List ℕ) (left : ℕ) → Begun bytes heads (line ∷ parts) left → length line + 1 ≤ left
    → Begun bytes (heads ++ line ∷ []) parts (left - (length line + 1))
begun_more bytes heads parts line left begun fits =
    let more = grows heads line in
    let sum = begun.sum in
    record { split = begun.split ∙ sym (append_assoc heads (line ∷ []) parts); sum = omega (arith, more, sum, fits) }

module _ (bytes : List ℕ) where
  abbrev Either : Outcome → Type 0
  Either outcome = StopsEarly outcome ⊎ IsTranscript bytes outcome

  early_end : (n : ℕ) (b : Bool) → n ≤ 4 → Either (record { text = []; ending = Faulty n (cond b TooLong BadRecording) })
  early_end n true low = inl (refl, low)
  early_end n false low = inl (refl, low)

  at_line : (heads parts : List (List ℕ)) (line : List ℕ) (left n : ℕ) (a : Answer) (rest : Phase → Outcome) → n ≤ 4 → Begun bytes heads (line ∷ parts) left
      → (Begun bytes (heads ++ line ∷ []) parts (left - (length line + 1)) → Either (goes_on n a rest))
      → Either (goes_on n (cond (is_too_long left (length line) (length line + 1)) (StopsAt TooLong) a) rest)
  at_line heads parts line left n a rest low begun goes = from (is_too_long left (length line) (length line + 1)) refl
    where
      from : (b : Bool) → is_too_long left (length line) (length line + 1) ≡ b → Either (goes_on n (cond b (StopsAt TooLong) a) rest)
      from true long = inl (refl, low)
      from false short =
          let sum = begun.sum in
          let fit = short_from (length (ended_lines heads)) left (length line) (length line + 1) sum short in
          goes (begun_more bytes heads parts line left begun (omega (arith, sum, fit.1)))

  -- ---- the configuration

  run_behind : (limits : Option (ℕ × ℕ)) (workers : ℕ) (document : List ℕ) (heads parts : List (List ℕ)) (left : ℕ) → IsHead limits workers document
      → heads ≡ head_lines recording_line workers limits document → Begun bytes heads parts left → (parts ≡ [] → ⊥)
      → IsTranscript bytes (outcome_from (Running (start (version_with limits) (opening limits document) workers)) (first_step_line (version_with limits)) left parts)
  run_behind limits workers document heads parts left head is begun filled =
      let core : CoreState = start (version_with limits) (opening limits document) workers in
      let n : ℕ = first_step_line (version_with limits) in
      record {
        limits = limits;
        workers = workers;
        document = document;
        pieces = parts;
        head = head;
        begins = begun.split ∙ ap (λ (h : List (List ℕ)). h ++ parts) is;
        run = subst (λ (h : List (List ℕ)). IsRunFrom (length (ended_lines h)) n core parts (outcome_from (Running core) n left parts)) is
            (runs (length (ended_lines heads)) n left core parts begun.sum filled);
      }

  -- the workers and the limits of a head
  record Named (limits : Option (ℕ × ℕ)) (workers : ℕ) (heads : List (List ℕ)) : Type 0 where
    some_workers : 1 ≤ workers
    few_workers : workers ≤ 8
    limits_fit : IfSome limits AreLimits
    lines : (document : List ℕ) → heads ++ config_line document ∷ [] ≡ head_lines recording_line workers limits document

  by_fault : (limits : Option (ℕ × ℕ)) (workers n left : ℕ) (document line : List ℕ) (heads parts : List (List ℕ)) (found : Option Fault) → document_fault document ≡ found → n ≤ 4
      → n + 1 ≡ first_step_line (version_with limits) → Named limits workers heads → IsConfigLine line document → Begun bytes (heads ++ line ∷ []) parts left → (parts ≡ [] → ⊥)
      → Either (goes_on n (opening_answer found (Running (start (version_with limits) (opening limits document) workers))) (λ after. outcome_from after (n + 1) left parts))
  by_fault limits workers n left document line heads parts (Some fault) is low next named says begun filled = inl (refl, low)
  by_fault limits workers n left document line heads parts None is low next named says begun filled =
      let head : IsHead limits workers document =
      record { some_workers = named.some_workers; few_workers = named.few_workers; limits_fit = named.limits_fit; bytes = says.0; sound = is } in
      let whole : heads ++ line ∷ [] ≡ head_lines recording_line workers limits document = ap (λ (l : List ℕ). heads ++ l ∷ []) says.1 ∙ named.lines document in
      let core : CoreState = start (version_with limits) (opening limits document) workers in
      inr (subst (λ (m : ℕ). IsTranscript bytes (outcome_from (Running core) m left parts)) (sym next)
      (run_behind limits workers document (heads ++ line ∷ []) parts left head whole begun filled))

  by_config : (limits : Option (ℕ × ℕ)) (workers n left : ℕ) (line : List ℕ) (heads parts : List (List ℕ)) (found : Option (List ℕ)) → config_of line ≡ found → n ≤ 4
      → n + 1 ≡ first_step_line (version_with limits) → Named limits workers heads → Begun bytes (heads ++ line ∷ []) parts left → (parts ≡ [] → ⊥)
      → Either (goes_on n (config_answer workers limits found) (λ after. outcome_from after (n + 1) left parts))
  by_config limits workers n left line heads parts None is low next named begun filled = inl (refl, low)
  by_config limits workers n left line heads parts (Some document) is low next named begun filled =
      by_fault limits workers n left document line heads parts (document_fault document) refl low next named (config_of-found line document is) begun filled

  at_config : (workers left : ℕ) (heads parts : List (List ℕ)) → Named None workers heads → Begun bytes heads parts left → (parts ≡ [] → ⊥) → Either (outcome_from (Config workers) 3 left parts)
  unfolding outcome_from answer
  at_config workers left heads [] named begun filled = absurd (filled refl)
  at_config workers left heads ([] ∷ []) named begun filled = early_end 3 (is_too_long left 0 0) (omega arith)
  at_config workers left heads ((x ∷ xs) ∷ []) named begun filled = early_end 3 (is_too_long left (length (x ∷ xs)) (length (x ∷ xs))) (omega arith)
  at_config workers left heads (line ∷ next ∷ more) named begun filled =
      at_line heads (next ∷ more) line left 3 (config_answer workers None (config_of line)) (λ after. outcome_from after 4 (left - (length line + 1)) (next ∷ more)) (omega arith) begun
      (λ on. by_config None workers 3 (left - (length line + 1)) line heads (next ∷ more) (config_of line) refl (omega arith) refl named on (not_nil next more))

  at_limited : (workers left : ℕ) (limits : ℕ × ℕ) (heads parts : List (List ℕ)) → Named (Some limits) workers heads → Begun bytes heads parts left → (parts ≡ [] → ⊥)
      → Either (outcome_from (LimitedConfig workers limits) 4 left parts)
  unfolding outcome_from answer
  at_limited workers left limits heads [] named begun filled = absurd (filled refl)
  at_limited workers left limits heads ([] ∷ []) named begun filled = early_end 4 (is_too_long left 0 0) (omega arith)
  at_limited workers left limits heads ((x ∷ xs) ∷ []) named begun filled = early_end 4 (is_too_long left (length (x ∷ xs)) (length (x ∷ xs))) (omega arith)
  at_limited workers left limits heads (line ∷ next ∷ more) named begun filled =
      at_line heads (next ∷ more) line left 4 (config_answer workers (Some limits) (config_of line)) (λ after. outcome_from after 5 (left - (length line + 1)) (next ∷ more)) (omega arith) begun
      (λ on. by_config (Some limits) workers 4 (left - (length line + 1)) line heads (next ∷ more) (config_of line) refl (omega arith) refl named on (not_nil next more))

  -- ---- the limits

  by_limits : (workers left : ℕ) (line : List ℕ) (heads parts : List (List ℕ)) (found : Option (ℕ × ℕ)) → limits_of line ≡ found → 1 ≤ workers → workers ≤ 8
      → heads ≡ recording_line Two ∷ workers_line workers ∷ [] → Begun bytes (heads ++ line ∷ []) parts left → (parts ≡ [] → ⊥)
      → Either (goes_on 3 (limits_answer workers found) (λ after. outcome_from after 4 left parts))
  by_limits workers left line heads parts None is some few lines begun filled = inl (refl, omega arith)
  by_limits workers left line heads parts (Some limits) is some few lines begun filled =
      let says = limits_of-found line limits is in
      at_limited workers left limits (heads ++ line ∷ []) parts (record {
        some_workers = some;
        few_workers = few;
        limits_fit = says.0;
        lines = λ document. ap (λ (h : List (List ℕ)). (h ++ line ∷ []) ++ config_line document ∷ []) lines
            ∙ ap (λ (l : List ℕ). recording_line Two ∷ workers_line workers ∷ l ∷ config_line document ∷ []) says.1;
      }) begun filled

  at_limits : (workers left : ℕ) (heads parts : List (List ℕ)) → 1 ≤ workers → workers ≤ 8 → heads ≡ recording_line Two ∷ workers_line workers ∷ [] → Begun bytes heads parts left
      → (parts ≡ [] → ⊥) → Either (outcome_from (Limits workers) 3 left parts)
  unfolding outcome_from answer
  at_limits workers left heads [] some few lines begun filled = absurd (filled refl)
  at_limits workers left heads ([] ∷ []) some few lines begun filled = early_end 3 (is_too_long left 0 0) (omega arith)
  at_limits workers left heads ((x ∷ xs) ∷ []) some few lines begun filled = early_end 3 (is_too_long left (length (x ∷ xs)) (length (x ∷ xs))) (omega arith)
  at_limits workers left heads (line ∷ next ∷ more) some few lines begun filled =
      at_line heads (next ∷ more) line left 3 (limits_answer workers (limits_of line)) (λ after. outcome_from after 4 (left - (length line + 1)) (next ∷ more)) (omega arith) begun
      (λ on. by_limits workers (left - (length line + 1)) line heads (next ∷ more) (limits_of line) refl some few lines on (not_nil next more))

  -- ---- the workers

  by_workers : (version : Version) (left : ℕ) (line : List ℕ) (heads parts : List (List ℕ)) (found : Option ℕ) → workers_of line ≡ found → heads ≡ recording_line version ∷ []
      → Begun bytes (heads ++ line ∷ []) parts left → (parts ≡ [] → ⊥) → Either (goes_on 2 (workers_answer version found) (λ after. outcome_from after 3 left parts))
  by_workers version left line heads parts None is lines begun filled = inl (refl, omega arith)
  by_workers One left line heads parts (Some workers) is lines begun filled =
      let says = workers_of-found line workers is in
      at_config workers left (heads ++ line ∷ []) parts (record {
        some_workers = says.0;
        few_workers = says.1;
        limits_fit = tt;
        lines = λ document. ap (λ (h : List (List ℕ)). (h ++ line ∷ []) ++ config_line document ∷ []) lines
            ∙ ap (λ (l : List ℕ). recording_line One ∷ l ∷ config_line document ∷ []) says.2;
      }) begun filled
  by_workers Two left line heads parts (Some workers) is lines begun filled =
      let says = workers_of-found line workers is in
      at_limits workers left (heads ++ line ∷ []) parts says.0 says.1
      (ap (λ (h : List (List ℕ)). h ++ line ∷ []) lines ∙ ap (λ (l : List ℕ). recording_line Two ∷ l ∷ []) says.2) begun filled

  at_workers : (version : Version) (left : ℕ) (heads parts : List (List ℕ)) → heads ≡ recording_line version ∷ [] → Begun bytes heads parts left → (parts ≡ [] → ⊥)
      → Either (outcome_from (Workers version) 2 left parts)
  unfolding outcome_from answer
  at_workers version left heads [] lines begun filled = absurd (filled refl)
  at_workers version left heads ([] ∷ []) lines begun filled = early_end 2 (is_too_long left 0 0) (omega arith)
  at_workers version left heads ((x ∷ xs) ∷ []) lines begun filled = early_end 2 (is_too_long left (length (x ∷ xs)) (length (x ∷ xs))) (omega arith)
  at_workers version left heads (line ∷ next ∷ more) lines begun filled =
      at_line heads (next ∷ more) line left 2 (workers_answer version (workers_of line)) (λ after. outcome_from after 3 (left - (length line + 1)) (next ∷ more)) (omega arith) begun
      (λ on. by_workers version (left - (length line + 1)) line heads (next ∷ more) (workers_of line) refl lines on (not_nil next more))

  -- ---- the version

  by_version : (left : ℕ) (line : List ℕ) (parts : List (List ℕ)) (found : Option Version) → recording_version line ≡ found → Begun bytes (line ∷ []) parts left → (parts ≡ [] → ⊥)
      → Either (goes_on 1 (version_answer found) (λ after. outcome_from after 2 left parts))
  by_version left line parts None is begun filled = inl (refl, omega arith)
  by_version left line parts (Some version) is begun filled =
      at_workers version left (line ∷ []) parts (ap (λ (l : List ℕ). l ∷ []) (version_found line version is)) begun filled

  at_head : (parts : List (List ℕ)) → slice_split is_line_feed bytes ≡ parts → (parts ≡ [] → ⊥) → Either (outcome_from Head 1 67108864 parts)
  unfolding outcome_from answer
  at_head [] split filled = absurd (filled refl)
  at_head ([] ∷ []) split filled = early_end 1 (is_too_long 67108864 0 0) (omega arith)
  at_head ((x ∷ xs) ∷ []) split filled = early_end 1 (is_too_long 67108864 (length (x ∷ xs)) (length (x ∷ xs))) (omega arith)
  at_head (line ∷ next ∷ more) split filled =
      at_line [] (next ∷ more) line 67108864 1 (version_answer (recording_version line)) (λ after. outcome_from after 2 (67108864 - (length line + 1)) (next ∷ more)) (omega arith)
      (record { split = split; sum = refl })
      (λ on. by_version (67108864 - (length line + 1)) line (next ∷ more) (recording_version line) refl on (not_nil next more))

some_piece : (bytes : List ℕ) → slice_split is_line_feed bytes ≡ [] → ⊥
some_piece bytes none = let filled = split_filled bytes in not_nil filled.0 filled.1 (sym filled.2 ∙ none)

pub every_input : (bytes : List ℕ) → StopsEarly (replayed bytes) ⊎ IsTranscript bytes (replayed bytes)
unfolding replayed
every_input bytes = at_head bytes (slice_split is_line_feed bytes) refl (some_piece bytes)

-- ---- a whole head

-- a line that is short goes on
passes : (phase after : Phase) (n left : ℕ) (line : List ℕ) (parts : List (List ℕ)) → (parts ≡ [] → ⊥) → length line ≤ 131200 → length line + 1 ≤ left → answer phase line ≡ Goes after []
    → outcome_from phase n left (line ∷ parts) ≡ outcome_from after (n + 1) (left - (length line + 1)) parts
passes phase after n left line [] filled short fits goes = absurd (filled refl)
passes phase after n left line (next ∷ more) filled short fits goes =
    let rest : Phase → Outcome = λ p. outcome_from p (n + 1) (left - (length line + 1)) (next ∷ more) in
    outcome_cons phase n left line (next ∷ more) (next, more, refl)
    ∙ ap (λ (b : Bool). goes_on n (cond b (StopsAt TooLong) (answer phase line)) rest) (short_enough left (length line) (length line + 1) short fits)
    ∙ ap (λ (a : Answer). goes_on n a rest) goes

goes_version : (version : Version) → answer Head (recording_line version) ≡ Goes (Workers version) []
unfolding answer recording_version
goes_version One = refl
goes_version Two = refl

goes_workers : (version : Version) (workers : ℕ) → 1 ≤ workers → workers ≤ 8 → answer (Workers version) (workers_line workers) ≡ Goes (phase_behind_workers version workers) []
unfolding answer
goes_workers version workers some few = ap (workers_answer version) (workers_of-line (workers_line workers) workers (some, few, refl))

goes_limits : (workers : ℕ) (limits : ℕ × ℕ) → AreLimits limits → answer (Limits workers) (limits_line limits) ≡ Goes (LimitedConfig workers limits) []
unfolding answer
goes_limits workers limits fit = ap (limits_answer workers) (limits_of-line (limits_line limits) limits (fit, refl))

goes_config : (workers : ℕ) (limits : Option (ℕ × ℕ)) (document : List ℕ) → IsBytes document → document_fault document ≡ None
    → config_answer workers limits (config_of (config_line document)) ≡ Goes (Running (start (version_with limits) (opening limits document) workers)) []
goes_config workers limits document bytes sound =
    ap (config_answer workers limits) (config_of-line document bytes)
    ∙ ap (λ (found : Option Fault). opening_answer found (Running (start (version_with limits) (opening limits document) workers))) sound

goes_one : (workers : ℕ) (document : List ℕ) → IsBytes document → document_fault document ≡ None
    → answer (Config workers) (config_line document) ≡ Goes (Running (start One (opening None document) workers)) []
unfolding answer
goes_one workers document bytes sound = goes_config workers None document bytes sound

goes_two : (workers : ℕ) (limits : ℕ × ℕ) (document : List ℕ) → IsBytes document → document_fault document ≡ None
    → answer (LimitedConfig workers limits) (config_line document) ≡ Goes (Running (start Two (opening (Some limits) document) workers)) []
unfolding answer
goes_two workers limits document bytes sound = goes_config workers (Some limits) document bytes sound

first_short : (line : List ℕ) (lines : List (List ℕ)) → AllByRecursion (λ (one : List ℕ). length one ≤ 131200) (line ∷ lines) → length line ≤ 131200
first_short line lines all = all.0

rest_short : (line : List ℕ) (lines : List (List ℕ)) → AllByRecursion (λ (one : List ℕ). length one ≤ 131200) (line ∷ lines) → AllByRecursion (λ (one : List ℕ). length one ≤ 131200) lines
rest_short line lines all = all.1

pub behind_head : (limits : Option (ℕ × ℕ)) (workers : ℕ) (document bytes : List ℕ) (pieces : List (List ℕ)) → IsHead limits workers document → (pieces ≡ [] → ⊥)
    → AllByRecursion (λ line. length line ≤ 131200) (head_lines recording_line workers limits document)
    → slice_split is_line_feed bytes ≡ head_lines recording_line workers limits document ++ pieces → IsRunBehind limits workers document pieces (replayed bytes)
unfolding replayed
behind_head None workers document bytes pieces head filled short split =
    let a : List ℕ = recording_line One in
    let b : List ℕ = workers_line workers in
    let c : List ℕ = config_line document in
    let core : CoreState = start One (opening None document) workers in
    let others = rest_short a (b ∷ c ∷ []) short in
    let la = first_short a (b ∷ c ∷ []) short in
    let lb = first_short b (c ∷ []) others in
    let lc = first_short c [] (rest_short b (c ∷ []) others) in
    let one : ℕ = 67108864 - (length a + 1) in
    let two : ℕ = one - (length b + 1) in
    let three : ℕ = two - (length c + 1) in
    let whole : outcome_from Head 1 67108864 (slice_split is_line_feed bytes) ≡ outcome_from (Running core) 4 three pieces =
    ap (outcome_from Head 1 67108864) split
    ∙ passes Head (Workers One) 1 67108864 a (b ∷ c ∷ pieces) (not_nil b (c ∷ pieces)) la (omega (arith, la)) (goes_version One)
    ∙ passes (Workers One) (Config workers) 2 one b (c ∷ pieces) (not_nil c pieces) lb (omega (arith, la, lb)) (goes_workers One workers head.some_workers head.few_workers)
    ∙ passes (Config workers) (Running core) 3 two c pieces filled lc (omega (arith, la, lb, lc)) (goes_one workers document head.bytes head.sound) in
    let size : length (ended_lines (a ∷ b ∷ c ∷ [])) ≡ (length a + 1) + ((length b + 1) + ((length c + 1) + 0)) =
    longer a (b ∷ c ∷ []) ∙ ap (λ (k : ℕ). (length a + 1) + k) (longer b (c ∷ []) ∙ ap (λ (k : ℕ). (length b + 1) + k) (longer c [])) in
    subst (IsRunFrom (length (ended_lines (a ∷ b ∷ c ∷ []))) 4 core pieces) (sym whole)
    (runs (length (ended_lines (a ∷ b ∷ c ∷ []))) 4 three core pieces (omega (arith, size, la, lb, lc)) filled)
behind_head (Some limits) workers document bytes pieces head filled short split =
    let a : List ℕ = recording_line Two in
    let b : List ℕ = workers_line workers in
    let l : List ℕ = limits_line limits in
    let c : List ℕ = config_line document in
    let core : CoreState = start Two (opening (Some limits) document) workers in
    let others = rest_short a (b ∷ l ∷ c ∷ []) short in
    let behind = rest_short b (l ∷ c ∷ []) others in
    let la = first_short a (b ∷ l ∷ c ∷ []) short in
    let lb = first_short b (l ∷ c ∷ []) others in
    let ll = first_short l (c ∷ []) behind in
    let lc = first_short c [] (rest_short l (c ∷ []) behind) in
    let one : ℕ = 67108864 - (length a + 1) in
    let two : ℕ = one - (length b + 1) in
    let three : ℕ = two - (length l + 1) in
    let four : ℕ = three - (length c + 1) in
    let whole : outcome_from Head 1 67108864 (slice_split is_line_feed bytes) ≡ outcome_from (Running core) 5 four pieces =
    ap (outcome_from Head 1 67108864) split
    ∙ passes Head (Workers Two) 1 67108864 a (b ∷ l ∷ c ∷ pieces) (not_nil b (l ∷ c ∷ pieces)) la (omega (arith, la)) (goes_version Two)
    ∙ passes (Workers Two) (Limits workers) 2 one b (l ∷ c ∷ pieces) (not_nil l (c ∷ pieces)) lb (omega (arith, la, lb)) (goes_workers Two workers head.some_workers head.few_workers)
    ∙ passes (Limits workers) (LimitedConfig workers limits) 3 two l (c ∷ pieces) (not_nil c pieces) ll (omega (arith, la, lb, ll)) (goes_limits workers limits head.limits_fit)
    ∙ passes (LimitedConfig workers limits) (Running core) 4 three c pieces filled lc (omega (arith, la, lb, ll, lc)) (goes_two workers limits document head.bytes head.sound) in
    let size : length (ended_lines (a ∷ b ∷ l ∷ c ∷ [])) ≡ (length a + 1) + ((length b + 1) + ((length l + 1) + ((length c + 1) + 0))) =
    longer a (b ∷ l ∷ c ∷ []) ∙ ap (λ (k : ℕ). (length a + 1) + k) (longer b (l ∷ c ∷ []) ∙ ap (λ (k : ℕ). (length b + 1) + k) (longer l (c ∷ []) ∙ ap (λ (k : ℕ). (length l + 1) + k) (longer c []))) in
    subst (IsRunFrom (length (ended_lines (a ∷ b ∷ l ∷ c ∷ []))) 5 core pieces) (sym whole)
    (runs (length (ended_lines (a ∷ b ∷ l ∷ c ∷ []))) 5 four core pieces (omega (arith, size, la, lb, ll, lc)) filled)
