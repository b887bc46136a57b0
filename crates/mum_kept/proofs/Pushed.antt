-- Edits at the end of others: one more, where a channel passes a test, and all pieces.
use Rattle.mum_kept.proofs.Common.{◌≡◌, ℕ, ◌+◌, ◌<◌, Bool, true, false, List, [], ◌∷◌, ◌++◌, length, map, take, get_or, ap, ◌∙◌, append_assoc, filter, get_or_default, Pair, Edit, dropped_more, kept_more, KeptChannel, KeptRows, info_edits, link_edit, make_edits, place_edits, policy_edit, rebuild}

pub kept_at : {X Y : Type 0} (p : X → Bool) (f : X → Y) (old : List Y) (xs : List X) (i : ℕ) (d : X) (before now : List Y) → i < length xs → p (get_or xs i d) ≡ true
    → before ≡ old ++ map f (filter p (take i xs)) → now ≡ before ++ f (get_or xs i d) ∷ [] → now ≡ old ++ map f (filter p (take (i + 1) xs))
kept_at p f old xs i d before now within on done added =
    kept_more p f old xs i (get_or xs i d) before now within (get_or_default xs i d (get_or xs i d) within) on done added

pub dropped_at : {X Y : Type 0} (p : X → Bool) (f : X → Y) (old : List Y) (xs : List X) (i : ℕ) (d : X) (before : List Y) → i < length xs → p (get_or xs i d) ≡ false
    → before ≡ old ++ map f (filter p (take i xs)) → before ≡ old ++ map f (filter p (take (i + 1) xs))
dropped_at p f old xs i d before within off done = dropped_more p f old xs i (get_or xs i d) before within (get_or_default xs i d (get_or xs i d) within) off done

-- five pieces that were added one after the other
pub five_pieces : {X : Type 0} (old first second third fourth now one two three four five : List X) → first ≡ old ++ one → second ≡ first ++ two → third ≡ second ++ three → fourth ≡ third ++ four → now ≡ fourth ++ five
    → now ≡ old ++ (one ++ two ++ three ++ four ++ five)
five_pieces old first second third fourth now one two three four five is_first is_second is_third is_fourth is = rw (is, is_fourth, is_third, is_second, is_first) (simp append_assoc)

-- the edits of the rows that are seen are those of the rows
pub rebuilt_of : (rows : KeptRows) (channels : List KeptChannel) (links : List Pair) (old now : List Edit) → channels ≡ rows.channels → links ≡ rows.links
    → now ≡ old ++ (make_edits channels ++ place_edits channels ++ info_edits channels ++ map link_edit links ++ map policy_edit channels) → now ≡ old ++ rebuild rows
rebuilt_of rows channels links old now same same_links is =
    is
    ∙ ap (λ (xs : List KeptChannel). old ++ (make_edits xs ++ place_edits xs ++ info_edits xs ++ map link_edit links ++ map policy_edit xs)) same
    ∙ ap (λ (ys : List Pair). old ++ (make_edits rows.channels ++ place_edits rows.channels ++ info_edits rows.channels ++ map link_edit ys ++ map policy_edit rows.channels)) same_links
