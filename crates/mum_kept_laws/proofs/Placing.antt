-- One channel more gets its name and its parent.
use Rattle.mum_kept_laws.proofs.Common.{◌≡◌, ℕ, ◌+◌, ◌≤◌, ◌==◌, ◌&&◌, ◌||◌, Bool, true, false, cond, nat_lt, List, [], ◌∷◌, ◌++◌, length, Option, Some, None, is_some, refl, sym, ap, ◌∙◌, arith, Contains, list_any, option_map, option_map_or, eq-eqb, eqb-true, false≢true, ne_eqb, or_parts, nat_tests, length-reverse, is_among, ChannelId, ROOT, Row, PATH_LIMIT, Nesting, RootFixed, SameName, TemporaryParent, UnderItself, AreApart, has_name_beside, is_below, is_root, is_taken, is_temporary, nests, number, path, row_of, upward, five, number_found, upward_within, list_any-reverse, lead_parent, upward_more, Each, any_map, each_find, each_so, none_passes, same_channel, found_each}
use Rattle.mum_kept_laws.proofs.{Staged.AreClosed, Staged.AreTarget, Staged.apart_from, Staged.beside, Staged.found_staged, Staged.is_settled, Staged.made, Staged.staged, Staged.staged_rows, Staged.up_made, Staged.up_settled, Unplaced.causes}

-- a channel that is not settled is none of these
not_settled : (done : List ChannelId) (id : ChannelId) → is_settled done id ≡ false → (ids : List ChannelId) → Each (λ one. is_settled done one ≡ true) ids → Each (λ one. (one.0 == id.0) ≡ false) ids
not_settled done id unsettled [] all = tt
not_settled done id unsettled (one ∷ ids) all = (step (one.0 == id.0) refl, not_settled done id unsettled ids all.1)
  where
    step : (b : Bool) → (one.0 == id.0) ≡ b → b ≡ false
    step true same =
        let e : one.0 ≡ id.0 = eqb-true one.0 id.0 same in
        absurd (false≢true (sym unsettled ∙ ap (λ (n : ℕ). (n == 0) || list_any (λ (x : ChannelId). x.0 == n) done) (sym e) ∙ all.0))
    step false other = refl

and_false : (b : Bool) → (b && false) ≡ false
and_false true = refl
and_false false = refl

not_less : (m n : ℕ) → n ≤ m → nat_lt m n ≡ false
not_less m n most = grind (arith, nat_tests)

same_id : (done : List ChannelId) (prefix : List ℕ) (row : Row) → (staged done prefix row).channel.id ≡ row.channel.id
same_id done prefix row = step (is_settled done row.channel.id)
  where
    step : (b : Bool) → (cond b row.channel (made prefix row.channel)).id ≡ row.channel.id
    step true = refl
    step false = refl

same_kind : (done : List ChannelId) (prefix : List ℕ) (row : Row) → (staged done prefix row).channel.temporary ≡ row.channel.temporary
same_kind done prefix row = step (is_settled done row.channel.id)
  where
    step : (b : Bool) → (cond b row.channel (made prefix row.channel)).temporary ≡ row.channel.temporary
    step true = refl
    step false = refl

module _ (done : List ChannelId) (prefix : List ℕ) (rows : List Row) (target : AreTarget prefix rows) (closed : AreClosed rows done)
    (id : ChannelId) (row : Row) (there : row_of rows id ≡ Some row) (unsettled : is_settled done id ≡ false) (above : is_settled done row.channel.parent ≡ true) where
  abbrev now : List Row
  now = staged_rows done prefix rows

  below_root : is_root id ≡ false
  below_root = (or_parts (is_root id) (is_among done id) unsettled).0

  -- the name is free
  free : is_taken now row.channel.parent id row.channel.name ≡ false
  free =
      any_map (has_name_beside row.channel.parent id row.channel.name) (λ other. has_name_beside row.channel.parent id row.channel.name (staged done prefix other)) (staged done prefix) (λ other. refl) rows
      ∙ none_passes (λ other. has_name_beside row.channel.parent id row.channel.name (staged done prefix other)) rows
      (each_so (λ other. (number other == id.0) ≡ false → AreApart other row) (λ other. has_name_beside row.channel.parent id row.channel.name (staged done prefix other) ≡ false)
      (λ other apart. beside done prefix row.channel.parent id row other (number_found rows id row there) below_root refl apart (each_find (λ one. (rest : List ℕ) → one.channel.name ≡ prefix ++ rest → ⊥) (λ one. number one == id.0) rows row target.unlike there).0)
      rows (apart_from rows row id target.rise target.apart there))

  -- the parent is not below the channel
  not_below : (x : ChannelId) → is_settled done x ≡ true → is_below now id x ≡ false
  not_below x settled =
      let up = up_settled done prefix rows closed PATH_LIMIT x settled in
      list_any-reverse (λ (one : ChannelId). one.0 == id.0) (upward now PATH_LIMIT x)
      ∙ ap (λ (ids : List ChannelId). list_any (λ (one : ChannelId). one.0 == id.0) ids) up.0
      ∙ none_passes (λ (one : ChannelId). one.0 == id.0) (upward rows PATH_LIMIT x) (not_settled done id unsettled (upward rows PATH_LIMIT x) up.1)

  -- nothing is below it but itself, and it comes at most 32 steps below the root
  not_deep : list_any (nests now id row.channel.parent) now ≡ false
  not_deep =
      any_map (nests now id row.channel.parent) (λ other. nests now id row.channel.parent (staged done prefix other)) (staged done prefix) (λ other. refl) rows
      ∙ none_passes (λ other. nests now id row.channel.parent (staged done prefix other)) rows
      (each_so (λ other. row_of rows other.channel.id ≡ Some other) (λ other. nests now id row.channel.parent (staged done prefix other) ≡ false) one_not_deep rows (found_each rows target.rise))
    where
      shallow : length (path now row.channel.parent) ≤ 32
      shallow =
          let lead : Contains (upward rows 32 row.channel.parent) ROOT = lead_parent rows 32 id row there below_root (target.lead id (ap (λ (o : Option Row). is_some o) there)) in
          let up : upward now PATH_LIMIT row.channel.parent ≡ upward rows PATH_LIMIT row.channel.parent = (up_settled done prefix rows closed PATH_LIMIT row.channel.parent above).0 in
          let same : upward rows 33 row.channel.parent ≡ upward rows 32 row.channel.parent = upward_more rows 32 row.channel.parent lead in
          omega (arith, length-reverse (upward now PATH_LIMIT row.channel.parent), ap (λ (ids : List ChannelId). length ids) up, ap (λ (ids : List ChannelId). length ids) same, upward_within rows 32 row.channel.parent)

      own : length (path now id) ≡ 2
      own = length-reverse (upward now PATH_LIMIT id) ∙ ap (λ (ids : List ChannelId). length ids) (up_made done prefix rows 31 id row target.root.0 unsettled there target.root.1)

      one_not_deep : (other : Row) → row_of rows other.channel.id ≡ Some other → nests now id row.channel.parent (staged done prefix other) ≡ false
      one_not_deep other found =
          ap (λ (x : ChannelId). is_below now id x && nat_lt (PATH_LIMIT + length (path now id)) (length (path now row.channel.parent) + 1 + length (path now x))) (same_id done prefix other)
          ∙ by_stage (is_settled done other.channel.id) refl
        where
          by_own : (b : Bool) → (other.channel.id.0 == id.0) ≡ b → is_settled done other.channel.id ≡ false
              → (is_below now id other.channel.id && nat_lt (PATH_LIMIT + length (path now id)) (length (path now row.channel.parent) + 1 + length (path now other.channel.id))) ≡ false
          by_own true same unsettled_too =
              let e : other.channel.id ≡ id = same_channel other.channel.id id (eqb-true other.channel.id.0 id.0 same) in
              let deep : length (path now other.channel.id) ≡ 2 = ap (λ (x : ChannelId). length (path now x)) e ∙ own in
              ap (λ (b : Bool). is_below now id other.channel.id && b) (not_less (PATH_LIMIT + length (path now id)) (length (path now row.channel.parent) + 1 + length (path now other.channel.id)) (omega (arith, shallow, own, deep)))
              ∙ and_false (is_below now id other.channel.id)
          by_own false differ unsettled_too =
              ap (λ (b : Bool). b && nat_lt (PATH_LIMIT + length (path now id)) (length (path now row.channel.parent) + 1 + length (path now other.channel.id)))
              (list_any-reverse (λ (one : ChannelId). one.0 == id.0) (upward now PATH_LIMIT other.channel.id)
              ∙ ap (λ (ids : List ChannelId). list_any (λ (one : ChannelId). one.0 == id.0) ids) (up_made done prefix rows 31 other.channel.id other target.root.0 unsettled_too found target.root.1)
              ∙ ap (λ (b : Bool). b || ((ROOT.0 == id.0) || false)) differ
              ∙ ap (λ (b : Bool). b || false) (ne_eqb 0 id.0 (λ (e : 0 ≡ id.0). false≢true (sym below_root ∙ eq-eqb id.0 0 (sym e)))))

          by_stage : (b : Bool) → is_settled done other.channel.id ≡ b
              → (is_below now id other.channel.id && nat_lt (PATH_LIMIT + length (path now id)) (length (path now row.channel.parent) + 1 + length (path now other.channel.id))) ≡ false
          by_stage true settled =
              ap (λ (b : Bool). b && nat_lt (PATH_LIMIT + length (path now id)) (length (path now row.channel.parent) + 1 + length (path now other.channel.id))) (not_below other.channel.id settled)
          by_stage false unsettled_too = by_own (other.channel.id.0 == id.0) refl unsettled_too

  lasting_parent : is_temporary now row.channel.parent ≡ false
  lasting_parent =
      ap (λ (o : Option Row). option_map_or (λ (one : Row). one.channel.temporary) o false) (found_staged done prefix rows row.channel.parent)
      ∙ by_row (row_of rows row.channel.parent) refl
    where
      by_row : (o : Option Row) → row_of rows row.channel.parent ≡ o → option_map_or (λ (one : Row). one.channel.temporary) (option_map (staged done prefix) o) false ≡ false
      by_row None none = refl
      by_row (Some one) found = same_kind done prefix one ∙ (each_find (λ other. other.channel.temporary ≡ false) (λ other. number other == row.channel.parent.0) rows one target.lasting found).0

  pub no_cause : causes now id row.channel.name row.channel.parent ≡ None
  no_cause =
      five (is_root id) (is_taken now row.channel.parent id row.channel.name) (is_below now id row.channel.parent) (is_temporary now row.channel.parent) (list_any (nests now id row.channel.parent) now)
      RootFixed SameName UnderItself TemporaryParent Nesting below_root free (not_below row.channel.parent above) lasting_parent not_deep
