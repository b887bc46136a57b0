-- Other channels among those that a message links and parts.
use Rattle.mum_rules_tree.proofs.Common.{◌≡◌, ℕ, ◌||◌, Bool, true, false, not, cond, List, [], ◌∷◌, ◌++◌, length, map, arith, refl, ap, ◌∙◌, filter, list_any, cond-false, cond-true, ne_eqb, map-append, ChannelId, LINK_CHANNEL, Actor, is_empty, channel, is_other, others, Need, need, needs_to_link}

not_empty : {X : Type 0} (x : X) (xs : List X) → is_empty (x ∷ xs) ≡ false
not_empty x xs = ne_eqb (length (x ∷ xs)) 0 (λ e. absurd (omega arith))

-- the kept ones, and what follows them, are empty exactly where none is kept and nothing follows
kept_at : (b : Bool) (number : ℕ) (kept : List ℕ) (rest : Bool) (more : List ChannelId) → is_empty (map channel kept ++ more) ≡ not rest → is_empty (map channel (cond b (number ∷ kept) kept) ++ more) ≡ not (b || rest)
kept_at true number kept rest more same = not_empty (channel number) (map channel kept ++ more)
kept_at false number kept rest more same = same

one_kept : (b : Bool) (number : ℕ) (kept : List ℕ) (rest : Bool) → is_empty (map channel kept) ≡ not rest → is_empty (map channel (cond b (number ∷ kept) kept)) ≡ not (b || rest)
one_kept true number kept rest same = not_empty (channel number) (map channel kept)
one_kept false number kept rest same = same

none_kept : (id : ChannelId) (numbers : List ℕ) → is_empty (others id numbers) ≡ not (list_any (is_other id) numbers)
none_kept id [] = refl
none_kept id (number ∷ numbers) = one_kept (is_other id number) number (filter (is_other id) numbers) (list_any (is_other id) numbers) (none_kept id numbers)

or_assoc : (x y z : Bool) → (x || (y || z)) ≡ ((x || y) || z)
or_assoc true y z = refl
or_assoc false y z = refl

-- no other channel is linked or unlinked exactly where none is among the numbers
pub none_linked : (id : ChannelId) (adds removes : List ℕ) → is_empty (others id adds ++ others id removes) ≡ not (list_any (is_other id) adds || list_any (is_other id) removes)
none_linked id [] removes = none_kept id removes
none_linked id (number ∷ adds) removes =
    kept_at (is_other id number) number (filter (is_other id) adds) (list_any (is_other id) adds || list_any (is_other id) removes) (others id removes) (none_linked id adds removes)
    ∙ ap not (or_assoc (is_other id number) (list_any (is_other id) adds) (list_any (is_other id) removes))

-- the needs of links: on the channel, on those that are linked, on those that are unlinked
pub linking : (who : Actor) (id : ChannelId) (adds removes : List ℕ) → (list_any (is_other id) adds || list_any (is_other id) removes) ≡ true → needs_to_link who id (others id adds ++ others id removes) ≡ need who LINK_CHANNEL id ∷ (map (need who LINK_CHANNEL) (others id adds) ++ map (need who LINK_CHANNEL) (others id removes))
linking who id adds removes some =
    cond-false (is_empty (others id adds ++ others id removes)) [] (map (need who LINK_CHANNEL) (id ∷ (others id adds ++ others id removes))) (none_linked id adds removes ∙ ap not some)
    ∙ ap (λ (ns : List Need). need who LINK_CHANNEL id ∷ ns) (map-append (need who LINK_CHANNEL) (others id adds) (others id removes))

pub not_linking : (who : Actor) (id : ChannelId) (adds removes : List ℕ) → (list_any (is_other id) adds || list_any (is_other id) removes) ≡ false → needs_to_link who id (others id adds ++ others id removes) ≡ []
not_linking who id adds removes none = cond-true (is_empty (others id adds ++ others id removes)) [] (map (need who LINK_CHANNEL) (id ∷ (others id adds ++ others id removes))) (none_linked id adds removes ∙ ap not none)
