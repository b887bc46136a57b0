-- What happens to the ports of a worker one after another, as lists of lives.
use Rattle.mum_worker_laws.proofs.Common.{◌≡◌, ◌==◌, ◌∙◌, ℕ, zero, suc, ◌+◌, ◌≤◌, Bool, true, false, cond, List, [], ◌∷◌, ◌++◌, map, filter, slice_get, slice_set, Some, refl, ap, sym, subst, arith, append_assoc, Each, filter_map, flat_map, flat_map-append, append-nil, filter-append, filter_map-append, Along, LinkFacts, PortFacts, DeskItem, Opening, is_of, stays, Happening, happening_of, happenings, happenings_of, IsLife, IsNoReplyTo, Life, Said, befell_all, count, is_item_of, is_life_of, items_of, packets_said, parcels_taken, put_by, put_by_all, put_of, routed_of, said_by_all, taken_by_all, taken_of, Take}
use Rattle.mum_worker_laws.proofs.{Counts.added, Counts.count-append, Counts.count-cons, Counts.each_back, Counts.each_front, Counts.one, Changing.Changes, Changing.Course, Changing.IsOwn, Changing.One, Changing.Waits, Changing.join, Changing.join-nothing, Changing.nothing, Changing.unchanged}

both_empty : {A : Type 0} (xs ys : List A) → xs ++ ys ≡ [] → (xs ≡ []) × (ys ≡ [])
both_empty [] ys is = (refl, is)
both_empty (x ∷ xs) ys is = absurd (cc is)

module _ {L : Type 0} where
  abbrev pub firsts : List (Life L) → List (PortFacts L)
  firsts lives = map (λ (life : Life L). life.first) lives

  abbrev pub lasts : List (Life L) → List (PortFacts L)
  lasts lives = map (λ (life : Life L). life.last) lives

  -- no two of these ports are of the connection
  abbrev pub HasAtMostOne : ℕ → List (PortFacts L) → Type 0
  HasAtMostOne connection ports = count (is_of connection) ports ≤ 1

  pub count-its : (connection : ℕ) (life : Life L) (lives : List (Life L)) (b : Bool) → is_life_of connection life ≡ b → count (is_of connection) (firsts (life ∷ lives)) ≡ one b + count (is_of connection) (firsts lives)
  count-its connection life lives b is =
      count-cons (is_of connection) life.first (firsts lives) ∙ ap (λ (t : Bool). one t + count (is_of connection) (firsts lives)) is

  -- ---- what the lives of one connection did, as a list of each

  module _ {X : Type 0} (trace : Life L → List X) where
    abbrev pub traces : ℕ → List (Life L) → List X
    traces connection lives = flat_map trace (filter (is_life_of connection) lives)

    traces-its : (connection : ℕ) (life : Life L) (lives : List (Life L)) (b : Bool) → is_life_of connection life ≡ b
        → traces connection (life ∷ lives) ≡ flat_map trace (cond b (life ∷ filter (is_life_of connection) lives) (filter (is_life_of connection) lives))
    traces-its connection life lives b is =
        ap (λ (t : Bool). flat_map trace (cond t (life ∷ filter (is_life_of connection) lives) (filter (is_life_of connection) lives))) is

    no_trace : (connection : ℕ) (lives : List (Life L)) → count (is_of connection) (firsts lives) ≤ 0 → traces connection lives ≡ []
    no_trace connection [] none = refl
    no_trace connection (life ∷ lives) none = at (is_life_of connection life) refl (no_trace connection lives)
      where
        at : (b : Bool) → is_life_of connection life ≡ b → (count (is_of connection) (firsts lives) ≤ 0 → traces connection lives ≡ []) → traces connection (life ∷ lives) ≡ []
        at true is rest = absurd (omega (arith, none, count-its connection life lives true is))
        at false is rest = traces-its connection life lives false is ∙ rest (omega (arith, none, count-its connection life lives false is))

    -- one life goes on, and then the others
    pub traces-cons : (connection : ℕ) (b : Bool) (old new : Life L) (olds news : List (Life L)) (since mine more both : List X) → (old.first.machine.connection == connection) ≡ b → new.first ≡ old.first
        → trace new ≡ trace old ++ since → mine ≡ cond b since [] → both ≡ mine ++ more
        → (HasAtMostOne connection (firsts news) → traces connection news ≡ traces connection olds ++ more)
        → HasAtMostOne connection (firsts (new ∷ news)) → traces connection (new ∷ news) ≡ traces connection (old ∷ olds) ++ both
    traces-cons connection false old new olds news since mine more both is first goes seen sum rest few =
        let now_is : is_life_of connection new ≡ false = ap (λ (p : PortFacts L). is_of connection p) first ∙ is in
        traces-its connection new news false now_is
        ∙ (rest (omega (arith, few, count-its connection new news false now_is))
        ∙ (ap (λ (l : List X). l ++ more) (sym (traces-its connection old olds false is))
        ∙ ap (λ (l : List X). traces connection (old ∷ olds) ++ l) (sym (sum ∙ ap (λ (l : List X). l ++ more) seen))))
    traces-cons connection true old new olds news since mine more both is first goes seen sum rest few =
        let now_is : is_life_of connection new ≡ true = ap (λ (p : PortFacts L). is_of connection p) first ∙ is in
        let no_other : count (is_of connection) (firsts news) ≤ 0 = omega (arith, few, count-its connection new news true now_is) in
        let none = both_empty (traces connection olds) more (sym (rest (omega (arith, no_other))) ∙ no_trace connection news no_other) in
        traces-its connection new news true now_is
        ∙ (ap (λ (l : List X). trace new ++ l) (no_trace connection news no_other)
        ∙ (append-nil (trace new)
        ∙ (goes
        ∙ (ap (λ (l : List X). l ++ since) (sym (append-nil (trace old)) ∙ (ap (λ (l : List X). trace old ++ l) (sym none.0) ∙ sym (traces-its connection old olds true is)))
        ∙ ap (λ (l : List X). traces connection (old ∷ olds) ++ l)
        (sym (sum ∙ (ap (λ (l : List X). l ++ more) seen ∙ (ap (λ (l : List X). since ++ l) none.1 ∙ append-nil since))))))))

-- ---- lives that go on

module _ {L : Type 0} (facts : L → LinkFacts) (opening : Opening) where
  -- these lives went on to those: what was heard meanwhile, what the desk was put, and the ports that came
  pub record Grows (told : Course) (put : List DeskItem) (taken : List (PortFacts L)) (olds news : List (Life L)) : Type 0 where
    pub begun : firsts news ≡ firsts olds ++ taken
    pub lived : Each (IsLife facts opening) olds → Each (IsLife facts opening) news
    pub owned : Each IsOwn olds → Each IsOwn news
    pub total : (test : DeskItem → Bool) → count test (put_by_all news) ≡ count test (put_by_all olds) + count test put
    pub order : Each IsOwn olds → (connection : ℕ) → HasAtMostOne connection (firsts news) → put_of connection news ≡ put_of connection olds ++ items_of connection put
    pub says : Each IsOwn olds → (connection : ℕ) → HasAtMostOne connection (firsts news) → said_by_all connection news ≡ said_by_all connection olds ++ filter_map (routed_of connection) told.moments
    pub takes : Each IsOwn olds → (connection : ℕ) → HasAtMostOne connection (firsts news) → taken_by_all connection news ≡ taken_by_all connection olds ++ flat_map (taken_of connection) told.moments
    pub happens : Each IsOwn olds → (connection : ℕ) → HasAtMostOne connection (firsts news) → befell_all connection news ≡ befell_all connection olds ++ happenings_of connection told.befallen
    pub waits : (connection : ℕ) → Each (IsNoReplyTo connection) told.moments → Each (Waits connection) olds → Each (Waits connection) news

  none_more : (test : DeskItem → Bool) (n : ℕ) → n ≡ n + count test []
  none_more test n = omega arith

  pub grows_same : (lives : List (Life L)) → Grows nothing [] [] lives lives
  grows_same lives = record {
    begun = sym (append-nil (firsts lives));
    lived = λ lived. lived;
    owned = λ own. own;
    total = λ test. none_more test (count test (put_by_all lives));
    order = λ own connection few. sym (append-nil (put_of connection lives));
    says = λ own connection few. sym (append-nil (said_by_all connection lives));
    takes = λ own connection few. sym (append-nil (taken_by_all connection lives));
    happens = λ own connection few. sym (append-nil (befell_all connection lives));
    waits = λ connection spared waits. waits;
  }

  total_cons : (test : DeskItem → Bool) (put more : List DeskItem) (old new : Life L) (olds news : List (Life L)) → put_by new ≡ put_by old ++ put
      → count test (put_by_all news) ≡ count test (put_by_all olds) + count test more
      → count test (put_by_all (new ∷ news)) ≡ count test (put_by_all (old ∷ olds)) + count test (put ++ more)
  total_cons test put more old new olds news puts total =
      added (count test (put_by_all (new ∷ news))) (count test (put_by_all (old ∷ olds))) (count test more) (count test (put_by_all news)) (count test (put_by_all olds)) (count test (put_by new)) (count test (put_by old)) (count test put)
      (count-append test (put_by new) (put_by_all news))
      (ap (λ (l : List DeskItem). count test l) puts ∙ count-append test (put_by old) put)
      total
      (count-append test (put_by old) (put_by_all olds))
      ∙ ap (λ (n : ℕ). count test (put_by_all (old ∷ olds)) + n) (sym (count-append test put more))

  pub grows_cons : (told tells : Course) (put more : List DeskItem) (old new : Life L) (olds news : List (Life L)) → Changes facts opening told put old new → Grows tells more [] olds news
      → Grows (join told tells) (put ++ more) [] (old ∷ olds) (new ∷ news)
  grows_cons told tells put more old new olds news change grows = record {
    begun = ap (λ (p : PortFacts L). p ∷ firsts news) change.first ∙ ap (λ (l : List (PortFacts L)). old.first ∷ l) grows.begun;
    lived = λ lived. (change.lived lived.0, grows.lived lived.1);
    owned = λ own. (change.owned own.0, grows.owned own.1);
    total = λ test. total_cons test put more old new olds news change.puts (grows.total test);
    order = λ own connection few.
        traces-cons (λ (life : Life L). put_by life) connection (old.first.machine.connection == connection) old new olds news put (items_of connection put) (items_of connection more) (items_of connection (put ++ more)) refl change.first
        change.puts (change.its own.0 connection (old.first.machine.connection == connection) refl) (filter-append (is_item_of connection) put more) (grows.order own.1 connection) few;
    says = λ own connection few.
        traces-cons (λ (life : Life L). packets_said life.events) connection (old.first.machine.connection == connection) old new olds news change.since (filter_map (routed_of connection) told.moments) (filter_map (routed_of connection) tells.moments)
        (filter_map (routed_of connection) (told.moments ++ tells.moments)) refl change.first change.says (change.heard own.0 connection (old.first.machine.connection == connection) refl)
        (filter_map-append (routed_of connection) told.moments tells.moments) (grows.says own.1 connection) few;
    takes = λ own connection few.
        traces-cons (λ (life : Life L). parcels_taken life.events) connection (old.first.machine.connection == connection) old new olds news change.more (flat_map (taken_of connection) told.moments) (flat_map (taken_of connection) tells.moments)
        (flat_map (taken_of connection) (told.moments ++ tells.moments)) refl change.first change.takes (change.took own.0 connection (old.first.machine.connection == connection) refl)
        (flat_map-append (taken_of connection) told.moments tells.moments) (grows.takes own.1 connection) few;
    happens = λ own connection few.
        traces-cons (λ (life : Life L). happenings life.events) connection (old.first.machine.connection == connection) old new olds news change.befell (happenings_of connection told.befallen) (happenings_of connection tells.befallen)
        (happenings_of connection (told.befallen ++ tells.befallen)) refl change.first change.happens (change.mine own.0 connection (old.first.machine.connection == connection) refl)
        (filter_map-append (happening_of connection) told.befallen tells.befallen) (grows.happens own.1 connection) few;
    waits = λ connection spared waits. (
      change.waits connection (each_front (IsNoReplyTo connection) told.moments tells.moments spared) waits.0,
      grows.waits connection (each_back (IsNoReplyTo connection) told.moments tells.moments spared) waits.1,
    );
  }

  totals : (new mid old one_put other_put both : ℕ) → new ≡ mid + other_put → mid ≡ old + one_put → both ≡ one_put + other_put → new ≡ old + both
  totals new mid old one_put other_put both a b c = omega (arith, a, b, c)

  fewer : (connection : ℕ) (olds news : List (Life L)) (taken : List (PortFacts L)) → firsts news ≡ firsts olds ++ taken → HasAtMostOne connection (firsts news) → HasAtMostOne connection (firsts olds)
  fewer connection olds news taken begun few =
      omega (arith, few, ap (λ (l : List (PortFacts L)). count (is_of connection) l) begun ∙ count-append (is_of connection) (firsts olds) taken)

  pub grows_on : (told tells : Course) (put puts : List DeskItem) (taken takes : List (PortFacts L)) (olds mids news : List (Life L)) → Grows told put taken olds mids → Grows tells puts takes mids news
      → Grows (join told tells) (put ++ puts) (taken ++ takes) olds news
  grows_on told tells put puts taken takes olds mids news first other = record {
    begun = other.begun ∙ (ap (λ (l : List (PortFacts L)). l ++ takes) first.begun ∙ append_assoc (firsts olds) taken takes);
    lived = λ lived. other.lived (first.lived lived);
    owned = λ own. other.owned (first.owned own);
    total = λ test. totals (count test (put_by_all news)) (count test (put_by_all mids)) (count test (put_by_all olds)) (count test put) (count test puts) (count test (put ++ puts))
        (other.total test) (first.total test) (count-append test put puts);
    order = λ own connection few.
        other.order (first.owned own) connection few
        ∙ (ap (λ (l : List DeskItem). l ++ items_of connection puts) (first.order own connection (fewer connection mids news takes other.begun few))
        ∙ (append_assoc (put_of connection olds) (items_of connection put) (items_of connection puts)
        ∙ ap (λ (l : List DeskItem). put_of connection olds ++ l) (sym (filter-append (is_item_of connection) put puts))));
    says = λ own connection few.
        other.says (first.owned own) connection few
        ∙ (ap (λ (l : List Said). l ++ filter_map (routed_of connection) tells.moments) (first.says own connection (fewer connection mids news takes other.begun few))
        ∙ (append_assoc (said_by_all connection olds) (filter_map (routed_of connection) told.moments) (filter_map (routed_of connection) tells.moments)
        ∙ ap (λ (l : List Said). said_by_all connection olds ++ l) (sym (filter_map-append (routed_of connection) told.moments tells.moments))));
    takes = λ own connection few.
        other.takes (first.owned own) connection few
        ∙ (ap (λ (l : List Take). l ++ flat_map (taken_of connection) tells.moments) (first.takes own connection (fewer connection mids news takes other.begun few))
        ∙ (append_assoc (taken_by_all connection olds) (flat_map (taken_of connection) told.moments) (flat_map (taken_of connection) tells.moments)
        ∙ ap (λ (l : List Take). taken_by_all connection olds ++ l) (sym (flat_map-append (taken_of connection) told.moments tells.moments))));
    happens = λ own connection few.
        other.happens (first.owned own) connection few
        ∙ (ap (λ (l : List Happening). l ++ happenings_of connection tells.befallen) (first.happens own connection (fewer connection mids news takes other.begun few))
        ∙ (append_assoc (befell_all connection olds) (happenings_of connection told.befallen) (happenings_of connection tells.befallen)
        ∙ ap (λ (l : List Happening). befell_all connection olds ++ l) (sym (filter_map-append (happening_of connection) told.befallen tells.befallen))));
    waits = λ connection spared waits.
        other.waits connection (each_back (IsNoReplyTo connection) told.moments tells.moments spared) (first.waits connection (each_front (IsNoReplyTo connection) told.moments tells.moments spared) waits);
  }

  pub with_put : (told : Course) (put puts : List DeskItem) (taken : List (PortFacts L)) (olds news : List (Life L)) → put ≡ puts → Grows told put taken olds news → Grows told puts taken olds news
  with_put told put puts taken olds news same grows = subst (λ (l : List DeskItem). Grows told l taken olds news) same grows

  pub with_told : (told tells : Course) (put : List DeskItem) (taken : List (PortFacts L)) (olds news : List (Life L)) → told ≡ tells → Grows told put taken olds news → Grows tells put taken olds news
  with_told told tells put taken olds news same grows = subst (λ (l : Course). Grows l put taken olds news) same grows

  pub with_taken : (told : Course) (put : List DeskItem) (taken takes : List (PortFacts L)) (olds news : List (Life L)) → taken ≡ takes → Grows told put taken olds news → Grows told put takes olds news
  with_taken told put taken takes olds news same grows = subst (λ (l : List (PortFacts L)). Grows told put l olds news) same grows

  -- ---- each makes its step

  pub record Grown (told : Course) (lives : List (Life L)) (before : List DeskItem) (news : List (PortFacts L)) (after : List DeskItem) : Type 0 where
    pub put : List DeskItem
    pub now : List (Life L)
    pub grows : Grows told put [] lives now
    pub kept : filter stays (lasts now) ≡ filter stays news
    pub desk : after ≡ before ++ put

  -- what is reported of steps that are made one after the other
  module _ {C : Type 0} (step : PortFacts L → C → PortFacts L → C → Type 0) (desk_of : C → List DeskItem)
      (tell : (old : PortFacts L) (before : C) (new : PortFacts L) (after : C) → step old before new after → Course)
      (tells : (olds : List (PortFacts L)) (before : C) (news : List (PortFacts L)) (after : C) → Along step olds before news after → Course)
      (tells-nil : (before after : C) (same : Along step [] before [] after) → tells [] before [] after same ≡ nothing)
      (tells-cons : (old : PortFacts L) (olds : List (PortFacts L)) (before : C) (new : PortFacts L) (news : List (PortFacts L)) (after : C) (along : Along step (old ∷ olds) before (new ∷ news) after)
      → tells (old ∷ olds) before (new ∷ news) after along ≡ join (tell old before new along.0 along.1) (tells olds along.0 news after along.2))
      (one_more : (life : Life L) (old : PortFacts L) (before : C) (new : PortFacts L) (after : C) (steps : step old before new after) → life.last ≡ old
      → One facts opening (tell old before new after steps) life (desk_of before) new (desk_of after)) where
    grow_first : (life : Life L) (lives : List (Life L)) (old : PortFacts L) (olds : List (PortFacts L)) (before : C) (new : PortFacts L) (news : List (PortFacts L)) (after : C) (along : Along step (old ∷ olds) before (new ∷ news) after)
        → One facts opening (tell old before new along.0 along.1) life (desk_of before) new (desk_of along.0)
        → Grown (tells olds along.0 news after along.2) lives (desk_of along.0) news (desk_of after)
        → Grown (tells (old ∷ olds) before (new ∷ news) after along) (life ∷ lives) (desk_of before) (new ∷ news) (desk_of after)
    grow_first life lives old olds before new news after along mine others = record {
      put = mine.put ++ others.put;
      now = mine.now ∷ others.now;
      grows = with_told (join (tell old before new along.0 along.1) (tells olds along.0 news after along.2)) (tells (old ∷ olds) before (new ∷ news) after along) (mine.put ++ others.put) [] (life ∷ lives) (mine.now ∷ others.now)
          (sym (tells-cons old olds before new news after along))
          (grows_cons (tell old before new along.0 along.1) (tells olds along.0 news after along.2) mine.put others.put life mine.now lives others.now mine.changes others.grows);
      kept = ap (λ (p : PortFacts L). cond (stays p) (p ∷ filter stays (lasts others.now)) (filter stays (lasts others.now))) mine.last_is
          ∙ ap (λ (l : List (PortFacts L)). cond (stays new) (new ∷ l) l) others.kept;
      desk = others.desk ∙ (ap (λ (l : List DeskItem). l ++ others.put) mine.desk ∙ append_assoc (desk_of before) mine.put others.put);
    }

    -- a port that was let go
    grow_past : (told : Course) (life : Life L) (lives : List (Life L)) (before : List DeskItem) (news : List (PortFacts L)) (after : List DeskItem) → stays life.last ≡ false → Grown told lives before news after
        → Grown told (life ∷ lives) before news after
    grow_past told life lives before news after is others = record {
      put = others.put;
      now = life ∷ others.now;
      grows = grows_cons nothing told [] others.put life life lives others.now (unchanged facts opening life) others.grows;
      kept = ap (λ (b : Bool). cond b (life.last ∷ filter stays (lasts others.now)) (filter stays (lasts others.now))) is ∙ others.kept;
      desk = others.desk;
    }

    grow_at : (b : Bool) (life : Life L) (lives : List (Life L)) (olds : List (PortFacts L)) (before : C) (news : List (PortFacts L)) (after : C) → stays life.last ≡ b
        → olds ≡ cond b (life.last ∷ filter stays (lasts lives)) (filter stays (lasts lives))
        → ((rest : List (PortFacts L)) (between : C) (others : List (PortFacts L)) → rest ≡ filter stays (lasts lives) → (along : Along step rest between others after) → Grown (tells rest between others after along) lives (desk_of between) others (desk_of after))
        → (along : Along step olds before news after)
        → Grown (tells olds before news after along) (life ∷ lives) (desk_of before) news (desk_of after)
    grow_at true life lives [] before news after is there rest along = absurd (cc there)
    grow_at true life lives (old ∷ olds) before [] after is there rest along = absurd along
    grow_at true life lives (old ∷ olds) before (new ∷ news) after is there rest along =
        let same : life.last ≡ old = cc there in
        let others : olds ≡ filter stays (lasts lives) = cc there in
        grow_first life lives old olds before new news after along (one_more life old before new along.0 along.1 same) (rest olds along.0 news others along.2)
    grow_at false life lives olds before news after is there rest along =
        grow_past (tells olds before news after along) life lives (desk_of before) news (desk_of after) is (rest olds before news there along)

    pub grow_along : (lives : List (Life L)) (olds : List (PortFacts L)) (before : C) (news : List (PortFacts L)) (after : C) → olds ≡ filter stays (lasts lives) → (along : Along step olds before news after)
        → Grown (tells olds before news after along) lives (desk_of before) news (desk_of after)
    grow_along [] [] before [] after there same = record {
      put = [];
      now = [];
      grows = with_told nothing (tells [] before [] after same) [] [] [] [] (sym (tells-nil before after same)) (grows_same []);
      kept = refl;
      desk = ap desk_of same ∙ sym (append-nil (desk_of before));
    }
    grow_along [] [] before (new ∷ news) after there none = absurd none
    grow_along [] (old ∷ olds) before news after there along = absurd (cc there)
    grow_along (life ∷ lives) olds before news after there along =
        grow_at (stays life.last) life lives olds before news after refl there (λ rest between others same steps. grow_along lives rest between others after same steps) along

  -- ---- one of them changes where it lies

  pub record Set (told : Course) (lives : List (Life L)) (ports : List (PortFacts L)) : Type 0 where
    pub now : List (Life L)
    pub grows : Grows told [] [] lives now
    pub kept : filter stays (lasts now) ≡ ports

  module _ (told : Course) (old new : PortFacts L) (stays_on : stays old ≡ true → stays new ≡ true)
      (one_set : (life : Life L) → life.last ≡ old → One facts opening told life [] new []) where
    set_here : (life : Life L) (lives : List (Life L)) → One facts opening told life [] new [] → stays new ≡ true → Set told (life ∷ lives) (new ∷ filter stays (lasts lives))
    set_here life lives mine still = record {
      now = mine.now ∷ lives;
      grows = with_told (join told nothing) told [] [] (life ∷ lives) (mine.now ∷ lives) (join-nothing told)
          (with_put (join told nothing) (mine.put ++ []) [] [] (life ∷ lives) (mine.now ∷ lives) (append-nil mine.put ∙ sym mine.desk)
          (grows_cons told nothing mine.put [] life mine.now lives lives mine.changes (grows_same lives)));
      kept = ap (λ (p : PortFacts L). cond (stays p) (p ∷ filter stays (lasts lives)) (filter stays (lasts lives))) mine.last_is
          ∙ ap (λ (b : Bool). cond b (new ∷ filter stays (lasts lives)) (filter stays (lasts lives))) still;
    }

    set_at : (b : Bool) (life : Life L) (lives : List (Life L)) (place : ℕ) → stays life.last ≡ b
        → ((k : ℕ) → slice_get (filter stays (lasts lives)) k ≡ Some old → Set told lives (slice_set (filter stays (lasts lives)) k new))
        → slice_get (cond b (life.last ∷ filter stays (lasts lives)) (filter stays (lasts lives))) place ≡ Some old
        → Set told (life ∷ lives) (slice_set (cond b (life.last ∷ filter stays (lasts lives)) (filter stays (lasts lives))) place new)
    set_at true life lives zero is rest there =
        let same : life.last ≡ old = cc there in
        set_here life lives (one_set life same) (stays_on (ap (λ (p : PortFacts L). stays p) (sym same) ∙ is))
    set_at true life lives (suc k) is rest there =
        let others = rest k there in record {
          now = life ∷ others.now;
          grows = grows_cons nothing told [] [] life life lives others.now (unchanged facts opening life) others.grows;
          kept = ap (λ (b : Bool). cond b (life.last ∷ filter stays (lasts others.now)) (filter stays (lasts others.now))) is
              ∙ ap (λ (l : List (PortFacts L)). life.last ∷ l) others.kept;
        }
    set_at false life lives place is rest there =
        let others = rest place there in record {
          now = life ∷ others.now;
          grows = grows_cons nothing told [] [] life life lives others.now (unchanged facts opening life) others.grows;
          kept = ap (λ (b : Bool). cond b (life.last ∷ filter stays (lasts others.now)) (filter stays (lasts others.now))) is ∙ others.kept;
        }

    pub grow_set : (lives : List (Life L)) (place : ℕ) → slice_get (filter stays (lasts lives)) place ≡ Some old → Set told lives (slice_set (filter stays (lasts lives)) place new)
    grow_set [] zero there = absurd (cc there)
    grow_set [] (suc k) there = absurd (cc there)
    grow_set (life ∷ lives) place there =
        set_at (stays life.last) life lives place refl (λ k at. grow_set lives k at) there
