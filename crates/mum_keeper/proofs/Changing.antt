-- The changes that lead from rows to others do, made one after another.
use Rattle.mum_keeper.proofs.Common.{◌≡◌, ℕ, ◌≤◌, ◌&&◌, ◌||◌, Bool, true, false, eqb, ltb, List, [], ◌∷◌, ◌++◌, map, ℤ, refl, ap, ◌∙◌, arith, AllByRecursion, int_eq, bytes_eq, and_parts, eqb-true, le-ltb, Decides-int_eq, nat_tests, fold-append, bytes_eq-Decides, Each, Pair, is_pair, ChannelInfo, KeptChannel, KeptRows, LeadsOver, all_made, channel_before, drop_of, is_same_channel, is_same_info, link_before, link_of, linked_by, made, put_of, unlink_of, without_link, any_like, unmatched, with_row, Change}
use Rattle.mum_keeper.proofs.Merging.{IsOrder, adds, drops, each_unmatched, led_over}

-- ---- the orders

abbrev pub has_number : KeptChannel → KeptChannel → Bool
has_number channel other = eqb other.id.0 channel.id.0

abbrev pub has_ends : Pair → Pair → Bool
has_ends pair other = is_pair pair.0 pair.1 other

lt_itself : (a : ℕ) → ltb a a ≡ false
lt_itself a = grind (arith, nat_tests)

lt_through : (a b c : ℕ) → ltb a b ≡ true → ltb b c ≡ true → ltb a c ≡ true
lt_through a b c one two = grind (arith, nat_tests)

lt_alike : (a b c : ℕ) → ltb a b ≡ false → ltb b a ≡ false → ltb b c ≡ true → ltb a c ≡ true
lt_alike a b c one two three = grind (arith, nat_tests)

eq_itself : (a : ℕ) → eqb a a ≡ true
eq_itself a = grind (arith, nat_tests)

eq_earlier : (a b : ℕ) → ltb b a ≡ true → eqb b a ≡ false
eq_earlier a b one = grind (arith, nat_tests)

eq_later : (a b : ℕ) → ltb a b ≡ true → eqb b a ≡ false
eq_later a b one = grind (arith, nat_tests)

pub channel_order : IsOrder channel_before has_number
channel_order = record {
  itself = λ a. lt_itself a.id.0;
  through = λ a b c one two. lt_through a.id.0 b.id.0 c.id.0 one two;
  alike = λ a b c one two three. lt_alike a.id.0 b.id.0 c.id.0 one two three;
  key = λ a. eq_itself a.id.0;
  earlier = λ a b one. eq_earlier a.id.0 b.id.0 one;
  later = λ a b one. eq_later a.id.0 b.id.0 one;
}

abbrev above : ℕ → ℕ → ℕ → ℕ → Bool
above a b c d = ltb a c || (eqb c a && ltb b d)

above_itself : (a b : ℕ) → above a b a b ≡ false
above_itself a b = grind (arith, nat_tests)

above_through : (a b c d e f : ℕ) → above a b c d ≡ true → above c d e f ≡ true → above a b e f ≡ true
above_through a b c d e f one two = grind (arith, nat_tests)

above_alike : (a b c d e f : ℕ) → above a b c d ≡ false → above c d a b ≡ false → above c d e f ≡ true → above a b e f ≡ true
above_alike a b c d e f one two three = grind (arith, nat_tests)

ends_itself : (a b : ℕ) → (eqb a a && eqb b b) ≡ true
ends_itself a b = grind (arith, nat_tests)

ends_earlier : (a b c d : ℕ) → above c d a b ≡ true → (eqb c a && eqb d b) ≡ false
ends_earlier a b c d one = grind (arith, nat_tests)

ends_later : (a b c d : ℕ) → above a b c d ≡ true → (eqb c a && eqb d b) ≡ false
ends_later a b c d one = grind (arith, nat_tests)

pub link_order : IsOrder link_before has_ends
link_order = record {
  itself = λ a. above_itself a.0.0 a.1.0;
  through = λ a b c one two. above_through a.0.0 a.1.0 b.0.0 b.1.0 c.0.0 c.1.0 one two;
  alike = λ a b c one two three. above_alike a.0.0 a.1.0 b.0.0 b.1.0 c.0.0 c.1.0 one two three;
  key = λ a. ends_itself a.0.0 a.1.0;
  earlier = λ a b one. ends_earlier a.0.0 a.1.0 b.0.0 b.1.0 one;
  later = λ a b one. ends_later a.0.0 a.1.0 b.0.0 b.1.0 one;
}

-- ---- rows that are the same

neither : (a b : ℕ) → ltb a b ≡ false → ltb b a ≡ false → a ≡ b
neither a b one two = grind (arith, nat_tests)

above_neither : (a b c d : ℕ) → above a b c d ≡ false → above c d a b ≡ false → (a ≡ c) × (b ≡ d)
above_neither a b c d one two = (grind (arith, nat_tests), grind (arith, nat_tests))

same_info : (a b : ChannelInfo) → is_same_info a b ≡ true → a ≡ b
same_info a b same =
    let first = and_parts (bytes_eq a.description b.description && int_eq a.position b.position) (eqb a.max_users b.max_users) same in
    let two = and_parts (bytes_eq a.description b.description) (int_eq a.position b.position) first.0 in
    ap (λ (text : List ℕ). record a { description = text }) ((bytes_eq-Decides a.description b.description).0 two.0)
    ∙ (ap (λ (n : ℤ). record a { description = b.description; position = n }) ((Decides-int_eq a.position b.position).0 two.1)
    ∙ ap (λ (n : ℕ). record b { max_users = n }) (eqb-true a.max_users b.max_users first.1))

pub same_channel : (a b : KeptChannel) → channel_before a b ≡ false → channel_before b a ≡ false → is_same_channel a b ≡ true → a ≡ b
same_channel a b one two same =
    let third = and_parts (eqb a.parent.0 b.parent.0 && bytes_eq a.name b.name && is_same_info a.info b.info) (bytes_eq a.policy b.policy) same in
    let second = and_parts (eqb a.parent.0 b.parent.0 && bytes_eq a.name b.name) (is_same_info a.info b.info) third.0 in
    let first = and_parts (eqb a.parent.0 b.parent.0) (bytes_eq a.name b.name) second.0 in
    ap (λ (n : ℕ). record a { id = record { 0 = n } }) (neither a.id.0 b.id.0 one two)
    ∙ (ap (λ (n : ℕ). record a { id = b.id; parent = record { 0 = n } }) (eqb-true a.parent.0 b.parent.0 first.0)
    ∙ (ap (λ (text : List ℕ). record a { id = b.id; parent = b.parent; name = text }) ((bytes_eq-Decides a.name b.name).0 first.1)
    ∙ (ap (λ (info : ChannelInfo). record b { info = info; policy = a.policy }) (same_info a.info b.info second.1)
    ∙ ap (λ (bytes : List ℕ). record b { policy = bytes }) ((bytes_eq-Decides a.policy b.policy).0 third.1))))

pub same_link : (a b : Pair) → link_before a b ≡ false → link_before b a ≡ false → any_like a b ≡ true → a ≡ b
same_link a b one two same =
    let is = above_neither a.0.0 a.1.0 b.0.0 b.1.0 one two in
    ap (λ (n : ℕ). (record { 0 = n }, a.1)) is.0 ∙ ap (λ (n : ℕ). (b.0, record { 0 = n })) is.1

-- ---- changes of one kind

abbrev pub IsLesserFirst : Pair → Type 0
IsLesserFirst pair = pair.0.0 ≤ pair.1.0

link_itself : (pair : Pair) → IsLesserFirst pair → link_of pair.0 pair.1 ≡ pair
link_itself pair lesser = rw (le-ltb pair.1.0 pair.0.0 lesser) refl

made_unlink : (pair : Pair) (rows : KeptRows) → IsLesserFirst pair → made (unlink_of pair) rows ≡ record rows { links = without_link pair rows.links }
made_unlink pair rows lesser = ap (λ (p : Pair). record rows { links = without_link p rows.links }) (link_itself pair lesser)

made_link : (pair : Pair) (rows : KeptRows) → IsLesserFirst pair → made (linked_by pair) rows ≡ record rows { links = with_row link_before pair rows.links }
made_link pair rows lesser = ap (λ (p : Pair). record rows { links = with_row link_before p rows.links }) (link_itself pair lesser)

unlinked : (links : List Pair) (rows : KeptRows) → Each IsLesserFirst links → all_made (map unlink_of links) rows ≡ record rows { links = drops link_before has_ends link_order rows.links links }
unlinked [] rows lesser = refl
unlinked (pair ∷ links) rows (one, lesser) =
    ap (λ (now : KeptRows). all_made (map unlink_of links) now) (made_unlink pair rows one)
    ∙ unlinked links (record rows { links = without_link pair rows.links }) lesser

linked : (links : List Pair) (rows : KeptRows) → Each IsLesserFirst links → all_made (map linked_by links) rows ≡ record rows { links = adds link_before has_ends link_order rows.links links }
linked [] rows lesser = refl
linked (pair ∷ links) rows (one, lesser) =
    ap (λ (now : KeptRows). all_made (map linked_by links) now) (made_link pair rows one)
    ∙ linked links (record rows { links = with_row link_before pair rows.links }) lesser

dropped : (channels : List KeptChannel) (rows : KeptRows) → all_made (map drop_of channels) rows ≡ record rows { channels = drops channel_before has_number channel_order rows.channels channels }
dropped [] rows = refl
dropped (channel ∷ channels) rows = dropped channels (made (drop_of channel) rows)

put : (channels : List KeptChannel) (rows : KeptRows) → all_made (map put_of channels) rows ≡ record rows { channels = adds channel_before has_number channel_order rows.channels channels }
put [] rows = refl
put (channel ∷ channels) rows = put channels (made (put_of channel) rows)

-- ---- all of them

pub each_of : (P : Pair → Type 0) (links : List Pair) → AllByRecursion P links → Each P links
each_of P [] all = tt
each_of P (pair ∷ links) (one, all) = (one, each_of P links all)

all_append : (first second : List Change) (rows : KeptRows) → all_made (first ++ second) rows ≡ all_made second (all_made first rows)
all_append first second rows = fold-append (λ so_far change. made change so_far) rows first second

-- the rows after each part
after_parts : (unlinks drops_ puts links : List Change) (rows : KeptRows)
    → all_made (unlinks ++ drops_ ++ puts ++ links) rows ≡ all_made links (all_made puts (all_made drops_ (all_made unlinks rows)))
after_parts unlinks drops_ puts links rows =
    all_append (unlinks ++ drops_ ++ puts) links rows
    ∙ ap (λ (now : KeptRows). all_made links now)
    (all_append (unlinks ++ drops_) puts rows ∙ ap (λ (now : KeptRows). all_made puts now) (all_append unlinks drops_ rows))

pub lead_over : LeadsOver
lead_over old new old_order new_order =
    let less = unmatched link_before any_like old.links new.links in
    let gone = unmatched channel_before any_like old.channels new.channels in
    let come = unmatched channel_before is_same_channel new.channels old.channels in
    let more = unmatched link_before any_like new.links old.links in
    let kept_links = drops link_before has_ends link_order old.links less in
    let kept_channels = drops channel_before has_number channel_order old.channels gone in
    let less_first = each_unmatched link_before IsLesserFirst any_like old.links new.links (each_of IsLesserFirst old.links old_order.lesser_first) in
    let more_first = each_unmatched link_before IsLesserFirst any_like new.links old.links (each_of IsLesserFirst new.links new_order.lesser_first) in
    let channels : adds channel_before has_number channel_order kept_channels come ≡ new.channels =
    led_over channel_before has_number channel_order is_same_channel same_channel old.channels new.channels old_order.channels new_order.channels in
    let links : adds link_before has_ends link_order kept_links more ≡ new.links =
    led_over link_before has_ends link_order any_like same_link old.links new.links old_order.links new_order.links in
    after_parts (map unlink_of less) (map drop_of gone) (map put_of come) (map linked_by more) old
    ∙ (ap (λ (now : KeptRows). all_made (map linked_by more) (all_made (map put_of come) (all_made (map drop_of gone) now))) (unlinked less old less_first)
    ∙ (ap (λ (now : KeptRows). all_made (map linked_by more) (all_made (map put_of come) now)) (dropped gone (record old { links = kept_links }))
    ∙ (ap (λ (now : KeptRows). all_made (map linked_by more) now) (put come (record { channels = kept_channels; links = kept_links }))
    ∙ (linked more (record { channels = adds channel_before has_number channel_order kept_channels come; links = kept_links }) more_first
    ∙ (ap (λ (list : List KeptChannel). record { channels = list; links = adds link_before has_ends link_order kept_links more }) channels
    ∙ ap (λ (list : List Pair). record { channels = new.channels; links = list }) links)))))
