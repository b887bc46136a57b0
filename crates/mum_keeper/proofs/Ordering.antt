-- Rows stay in order, whatever changes are made of them.
use Rattle.mum_keeper.proofs.Common.{◌≡◌, ℕ, ◌+◌, ◌<◌, zero, suc, Bool, true, false, not, cond, ltb, ◌==◌, if◌then◌else◌, List, [], ◌∷◌, filter, get_or, length, take, Result, Ok, Err, OnOk, OnErr, refl, sym, ap, subst, ◌∙◌, arith, All, AllByRecursion, ltb-false, ltb-true, take_more, AllPairs-cons, AllPairs-filter, fold-append, ChannelId, Each, each_so, Pair, AllocError, KeptChannel, KeptRows, AreInOrder, all_made, channel_before, link_before, link_of, made, Rise, with_row, Change, Put, Drop, Link, Unlink}
use Rattle.mum_keeper.proofs.{Changing.IsLesserFirst, Changing.channel_order, Changing.each_of, Changing.has_ends, Changing.has_number, Changing.link_order, Merging.IsAfter, Merging.IsOrder, Merging.Rises, Merging.rises}

-- ---- a row more

all_from_each : {X : Type 0} (P : X → Type 0) (xs : List X) → Each P xs → All P xs
all_from_each P [] all k d within = absurd (omega arith)
all_from_each P (x ∷ xs) all zero d within = all.0
all_from_each P (x ∷ xs) all (suc k) d within = all_from_each P xs all.1 k d (omega arith)

module _ {A : Type 0} (before : A → A → Bool) where
  with_of : (P : A → Type 0) (first second : Bool) (row new : A) (rows more : List A) → P row → P new → Each P rows → Each P more
      → Each P (if first then row ∷ more else if second then new ∷ row ∷ rows else new ∷ rows)
  with_of P true second row new rows more one other all also = (one, also)
  with_of P false true row new rows more one other all also = (other, (one, all))
  with_of P false false row new rows more one other all also = (other, all)

  each_with : (P : A → Type 0) (new : A) (rows : List A) → P new → Each P rows → Each P (with_row before new rows)
  each_with P new [] one all = (one, tt)
  each_with P new (row ∷ rows) one all =
      with_of P (before row new) (before new row) row new rows (with_row before new rows) all.0 one all.1 (each_with P new rows one all.1)

  pub risen : (rows : List A) → Rises before rows → Rise before rows
  risen [] rise = λ i j d less within. absurd (omega arith)
  risen (row ∷ rows) rise = AllPairs-cons (IsAfter before) row rows (all_from_each (IsAfter before row) rows rise.0) (risen rows rise.1)

  module _ (has_key : A → A → Bool) (order : IsOrder before has_key) where
    more_by : (first second : Bool) (row new : A) (rows more : List A) → before row new ≡ first → before new row ≡ second
        → Each (IsAfter before row) rows → Rises before rows → (before row new ≡ true → Each (IsAfter before row) more) → Rises before more
        → Rises before (if first then row ∷ more else if second then new ∷ row ∷ rows else new ∷ rows)
    more_by true second row new rows more is_first is_second later rise after also = (after is_first, also)
    more_by false true row new rows more is_first is_second later rise after also =
        ((is_second, each_so (IsAfter before row) (IsAfter before new) (λ z on. order.through new row z is_second on) rows later), (later, rise))
    more_by false false row new rows more is_first is_second later rise after also =
        (each_so (IsAfter before row) (IsAfter before new) (λ z on. order.alike new row z is_second is_first on) rows later, rise)

    rises_with : (new : A) (rows : List A) → Rises before rows → Rises before (with_row before new rows)
    rises_with new [] rise = (tt, tt)
    rises_with new (row ∷ rows) rise =
        more_by (before row new) (before new row) row new rows (with_row before new rows) refl refl rise.0 rise.1
        (λ is. each_with (IsAfter before row) new rows is rise.0) (rises_with new rows rise.1)

    rise_with : (new : A) (rows : List A) → Rise before rows → Rise before (with_row before new rows)
    rise_with new rows rise = risen (with_row before new rows) (rises_with new rows (rises before rows rise))

-- ---- the lesser channel first

of_each : (links : List Pair) → Each IsLesserFirst links → AllByRecursion IsLesserFirst links
of_each [] all = tt
of_each (pair ∷ links) all = (all.0, of_each links all.1)

lesser_by : (greater : Bool) (one other : ChannelId) → ltb other.0 one.0 ≡ greater → IsLesserFirst (if greater then (other, one) else (one, other))
lesser_by true one other is = let less = ltb-true other.0 one.0 is in omega arith
lesser_by false one other is = ltb-false other.0 one.0 is

lesser_first : (one other : ChannelId) → IsLesserFirst (link_of one other)
lesser_first one other = lesser_by (ltb other.0 one.0) one other refl

lesser_left : (test : Pair → Bool) (links : List Pair) → AllByRecursion IsLesserFirst links → AllByRecursion IsLesserFirst (filter test links)
lesser_left test [] all = tt
lesser_left test (pair ∷ links) all = step (test pair) (lesser_left test links all.1)
  where
    step : (b : Bool) → AllByRecursion IsLesserFirst (filter test links) → AllByRecursion IsLesserFirst (cond b (pair ∷ filter test links) (filter test links))
    step true rest = (all.0, rest)
    step false rest = rest

-- ---- changes

pub made_in_order : (change : Change) (rows : KeptRows) → AreInOrder rows → AreInOrder (made change rows)
made_in_order (Put channel) rows order = record {
  channels = rise_with channel_before has_number channel_order channel rows.channels order.channels;
  links = order.links;
  lesser_first = order.lesser_first;
}
made_in_order (Drop id) rows order = record {
  channels = AllPairs-filter (IsAfter channel_before) (λ channel. not (channel.id.0 == id.0)) rows.channels order.channels;
  links = order.links;
  lesser_first = order.lesser_first;
}
made_in_order (Link one other) rows order = record {
  channels = order.channels;
  links = rise_with link_before has_ends link_order (link_of one other) rows.links order.links;
  lesser_first = of_each (with_row link_before (link_of one other) rows.links)
      (each_with link_before IsLesserFirst (link_of one other) rows.links (lesser_first one other) (each_of IsLesserFirst rows.links order.lesser_first));
}
made_in_order (Unlink one other) rows order = record {
  channels = order.channels;
  links = AllPairs-filter (IsAfter link_before) (λ pair. not (has_ends (link_of one other) pair)) rows.links order.links;
  lesser_first = lesser_left (λ pair. not (has_ends (link_of one other) pair)) rows.links order.lesser_first;
}

-- the same, of a change for which there may be no memory
pub put_in_order : (channel : KeptChannel) (rows : KeptRows) (channels : List KeptChannel) (result : Result Unit AllocError) → AreInOrder rows
    → OnOk result (channels ≡ with_row channel_before channel rows.channels) → OnErr result (channels ≡ rows.channels) → AreInOrder (record rows { channels = channels })
put_in_order channel rows channels (Ok done) order ok err =
    subst (λ (list : List KeptChannel). AreInOrder (record rows { channels = list })) (sym ok) (made_in_order (Put channel) rows order)
put_in_order channel rows channels (Err error) order ok err = subst (λ (list : List KeptChannel). AreInOrder (record rows { channels = list })) (sym err) order

pub linked_in_order : (one other : ChannelId) (pair : Pair) (rows : KeptRows) (links : List Pair) (result : Result Unit AllocError) → AreInOrder rows → pair ≡ link_of one other
    → OnOk result (links ≡ with_row link_before pair rows.links) → OnErr result (links ≡ rows.links) → AreInOrder (record rows { links = links })
linked_in_order one other pair rows links (Ok done) order is ok err =
    subst (λ (list : List Pair). AreInOrder (record rows { links = list })) (sym ok)
    (subst (λ (p : Pair). AreInOrder (record rows { links = with_row link_before p rows.links })) (sym is) (made_in_order (Link one other) rows order))
linked_in_order one other pair rows links (Err error) order is ok err = subst (λ (list : List Pair). AreInOrder (record rows { links = list })) (sym err) order

pub all_in_order : (changes : List Change) (rows : KeptRows) → AreInOrder rows → AreInOrder (all_made changes rows)
all_in_order [] rows order = order
all_in_order (change ∷ changes) rows order = all_in_order changes (made change rows) (made_in_order change rows order)

-- one change more
pub all_more : (changes : List Change) (rows : KeptRows) (i : ℕ) (change : Change) → i < length changes → change ≡ get_or changes i change
    → all_made (take (i + 1) changes) rows ≡ made change (all_made (take i changes) rows)
all_more changes rows i change within is =
    ap (λ (list : List Change). all_made list rows) (take_more changes i change within)
    ∙ (fold-append (λ so_far one. made one so_far) rows (take i changes) (get_or changes i change ∷ [])
    ∙ ap (λ (one : Change). made one (all_made (take i changes) rows)) (sym is))
