-- What the messages of a removed channel, and of the temporary ones below it, leave of channels and links.
use Rattle.mum_client_laws.proofs.Common.{◌≡◌, ℕ, zero, suc, ◌==◌, ◌&&◌, ◌||◌, Bool, true, false, true≢false, not, cond, List, [], ◌∷◌, Option, Some, None, refl, ap, sym, ◌∙◌, subst, filter, list_any, is_some, option_map, option_map_or, fun_ext, and_parts, both_ways, eq-eqb, eqb-true, not-false, not-true, is_among, ChannelId, SessionId, ROOT, IsProperTree, IsUnderLasting, is_below, is_root, is_temporary, is_there, number, row_of, upward, TreeState, are_linked, without_subtree, Row, PATH_LIMIT, number_found, list_any-reverse, upward_at, applied, fits, IsProper, StateValue, Edit, RemoveChannel, Each, each_so, some_found, alone, fit_parts, there_without_subtree, any_mapped, channel_ids, channel_gone, channels_gone, is_told_gone, same_channel, applied_tree, channels_left, goes_with, links_left, known_upward, Channels, KnownChannel, Pairs, numbered_channel, public_channel}
use Rattle.mum_state.proofs.Public.{found_row_holds}
use Rattle.mum_client_laws.proofs.{Closing.IsKnownTree, Closing.channels_of, Closing.goes_below, Closing.gone_channels, Closing.gone_links, Closing.linked_there, Closing.linked_within, Closing.links_of, Closing.row_without, Closing.temporary_there, Lists.any_kept}

-- ---- without channels that have none below them

abbrev without : (ℕ → Bool) → Channels → Channels
without gone channels at = cond (gone at) None (channels at)

abbrev unlinked : (ℕ → Bool) → Pairs → Pairs
unlinked gone links one other = cond (gone one || gone other) false (links one other)

abbrev and_one : (ℕ → Bool) → ℕ → ℕ → Bool
and_one gone id at = gone at || (at == id)

-- a channel that is not there is above none
absent_above : (rows : List Row) (id : ChannelId) → is_there rows id ≡ false → (steps : ℕ) (at : ChannelId) → list_any (λ one. one.0 == id.0) (upward rows steps at) ≡ false
unfolding upward
absent_above rows id none zero at = refl
absent_above rows id none (suc steps) at = of_row (row_of rows at) refl (is_root at) (absent_above rows id none steps)
  where
    other : (found : Row) → row_of rows at ≡ Some found → (b : Bool) → (at.0 == id.0) ≡ b → b ≡ false
    other found there true same = absurd (both_ways (is_there rows id) none (ap (is_there rows) (sym (same_channel at id (eqb-true at.0 id.0 same))) ∙ ap is_some there))
    other found there false same = refl

    of_row : (found : Option Row) → row_of rows at ≡ found → (root : Bool) → ((above : ChannelId) → list_any (λ one. one.0 == id.0) (upward rows steps above) ≡ false)
        → list_any (λ (one : ChannelId). one.0 == id.0) (option_map_or (λ row. at ∷ cond root [] (upward rows steps row.channel.parent)) found []) ≡ false
    of_row None there root rest = refl
    of_row (Some row) there true rest = ap (λ (b : Bool). b || false) (other row there (at.0 == id.0) refl)
    of_row (Some row) there false rest =
        ap (λ (b : Bool). b || list_any (λ (one : ChannelId). one.0 == id.0) (upward rows steps row.channel.parent)) (other row there (at.0 == id.0) refl) ∙ rest row.channel.parent

never_below : (tree : TreeState) (id at : ChannelId) → is_there tree.channels id ≡ false → is_below tree.channels id at ≡ false
never_below tree id at none =
    list_any-reverse (λ (one : ChannelId). one.0 == id.0) (upward tree.channels PATH_LIMIT at) ∙ absent_above tree.channels id none PATH_LIMIT at

below_itself : (tree : TreeState) (top : ChannelId) → is_there tree.channels top ≡ true → is_below tree.channels top top ≡ true
below_itself tree top there = list_any-reverse (λ (one : ChannelId). one.0 == top.0) (upward tree.channels PATH_LIMIT top) ∙ first (row_of tree.channels top) refl there
  where
    first : (found : Option Row) → row_of tree.channels top ≡ found → is_some found ≡ true → list_any (λ (one : ChannelId). one.0 == top.0) (upward tree.channels PATH_LIMIT top) ≡ true
    first None is some = absurd (true≢false (sym some))
    first (Some row) is some =
        ap (list_any (λ (one : ChannelId). one.0 == top.0)) (upward_at tree.channels 32 top row is)
        ∙ ap (λ (b : Bool). b || list_any (λ (one : ChannelId). one.0 == top.0) (cond (top.0 == 0) [] (upward tree.channels 32 row.channel.parent))) (eq-eqb top.0 top.0 refl)

module _ (tree : TreeState) (top : ChannelId) (proper : IsProperTree tree) where
  abbrev cut : TreeState
  cut = without_subtree tree top

  -- what is gone so far: temporary channels below the top
  record IsSoFar (gone : ℕ → Bool) : Type 0 where
    temporary : (at : ChannelId) → gone at.0 ≡ true → is_temporary tree.channels at ≡ true
    below : (at : ChannelId) → gone at.0 ≡ true → is_below tree.channels top at ≡ true

  -- the way up from a channel that stays is whole
  way_without : (gone : ℕ → Bool) → IsSoFar gone → (steps : ℕ) (at : ChannelId)
      → known_upward (without gone (channels_of tree)) steps at.0 ≡ cond (gone at.0) [] (known_upward (channels_of tree) steps at.0)
  unfolding known_upward
  way_without gone so_far zero at = both (gone at.0)
    where
      both : (b : Bool) → [] ≡ cond {A = List ℕ} b [] []
      both true = refl
      both false = refl
  way_without gone so_far (suc steps) at = of_gone (gone at.0) (row_of tree.channels at) refl (at.0 == ROOT.0) refl (way_without gone so_far steps)
    where
      kept : (row : Row) → row_of tree.channels at ≡ Some row → (at.0 == ROOT.0) ≡ false → (b : Bool) → gone row.channel.parent.0 ≡ b → b ≡ false
      kept row there low true is =
          let lasts : IsUnderLasting tree.channels row = found_row_holds (IsUnderLasting tree.channels) tree.channels at row proper.lasting there in
          absurd (both_ways (is_temporary tree.channels row.channel.parent)
          (lasts (λ (same : number row ≡ ROOT.0). both_ways (at.0 == ROOT.0) low (eq-eqb at.0 ROOT.0 (sym (number_found tree.channels at row there) ∙ same))))
          (so_far.temporary row.channel.parent is))
      kept row there low false is = refl

      of_gone : (b : Bool) (found : Option Row) → row_of tree.channels at ≡ found → (root : Bool) → (at.0 == ROOT.0) ≡ root
          → ((above : ChannelId) → known_upward (without gone (channels_of tree)) steps above.0 ≡ cond (gone above.0) [] (known_upward (channels_of tree) steps above.0))
          → option_map_or (λ (channel : KnownChannel). at.0 ∷ cond root [] (known_upward (without gone (channels_of tree)) steps channel.parent))
          (cond b None (option_map (λ (row : Row). public_channel row.channel) found)) []
          ≡ cond b [] (option_map_or (λ (channel : KnownChannel). at.0 ∷ cond root [] (known_upward (channels_of tree) steps channel.parent)) (option_map (λ (row : Row). public_channel row.channel) found) [])
      of_gone true found there root is rest = refl
      of_gone false None there root is rest = refl
      of_gone false (Some row) there true is rest = refl
      of_gone false (Some row) there false is rest =
          ap (λ (ids : List ℕ). at.0 ∷ ids)
          (rest row.channel.parent
          ∙ ap (λ (b : Bool). cond b [] (known_upward (channels_of tree) steps row.channel.parent.0)) (kept row there is (gone row.channel.parent.0) refl))

  goes_without : (gone : ℕ → Bool) → IsSoFar gone → (id at : ChannelId)
      → goes_with (without gone (channels_of tree)) id.0 at.0 ≡ cond (gone at.0) false (is_below tree.channels id at)
  goes_without gone so_far id at =
      ap (list_any (λ n. n == id.0)) (way_without gone so_far PATH_LIMIT at) ∙ step (gone at.0)
    where
      step : (b : Bool) → list_any (λ n. n == id.0) (cond b [] (known_upward (channels_of tree) PATH_LIMIT at.0)) ≡ cond b false (is_below tree.channels id at)
      step true = refl
      step false = goes_below tree id at

  -- ---- a temporary channel goes

  module _ (gone : ℕ → Bool) (so_far : IsSoFar gone) (id : ChannelId) (kind : is_temporary tree.channels id ≡ true) where
    one_less : (at : ChannelId) → channels_left (channel_gone id) (without gone (channels_of tree)) at.0 ≡ without (and_one gone id.0) (channels_of tree) at.0
    one_less at =
        ap (λ (b : Bool). cond b None (without gone (channels_of tree) at.0)) (goes_without gone so_far id at)
        ∙ step (gone at.0) (row_of tree.channels at) refl
      where
        step : (b : Bool) (found : Option Row) → row_of tree.channels at ≡ found
            → cond (cond b false (is_below tree.channels id at)) None (cond b None (option_map (λ (row : Row). public_channel row.channel) found))
            ≡ cond (b || (at.0 == id.0)) None (option_map (λ (row : Row). public_channel row.channel) found)
        step true found there = refl
        step false None there = either (is_below tree.channels id at) (at.0 == id.0)
          where
            either : (a b : Bool) → cond {A = Option KnownChannel} a None None ≡ cond b None None
            either true true = refl
            either true false = refl
            either false true = refl
            either false false = refl
        step false (Some row) there = ap (λ (b : Bool). cond b None (Some (public_channel row.channel))) (alone tree id proper kind at (ap is_some there))

    links_less : (one other : ChannelId)
        → links_left (channel_gone id) (without gone (channels_of tree)) (unlinked gone (links_of tree)) one.0 other.0 ≡ unlinked (and_one gone id.0) (links_of tree) one.0 other.0
    links_less one other =
        ap (λ (b : Bool). cond (gone one.0 || gone other.0) false (are_linked tree one other) && not b && not (goes_with (without gone (channels_of tree)) id.0 other.0)) (goes_without gone so_far id one)
        ∙ ap (λ (b : Bool). cond (gone one.0 || gone other.0) false (are_linked tree one other) && not (cond (gone one.0) false (is_below tree.channels id one)) && not b) (goes_without gone so_far id other)
        ∙ step (are_linked tree one other) refl (gone one.0) (gone other.0)
      where
        off : (b : Bool) → false ≡ cond b false false
        off true = refl
        off false = refl

        both : (a b : Bool) → (not a && not b) ≡ cond (a || b) false true
        both true b = refl
        both false true = refl
        both false false = refl

        last : (a : Bool) → (a || true) ≡ true
        last true = refl
        last false = refl

        step : (linked : Bool) → are_linked tree one other ≡ linked → (a b : Bool)
            → (cond (a || b) false linked && not (cond a false (is_below tree.channels id one)) && not (cond b false (is_below tree.channels id other)))
            ≡ cond ((a || (one.0 == id.0)) || (b || (other.0 == id.0))) false linked
        step false is true b = off (true || (b || (other.0 == id.0)))
        step false is false true = off ((one.0 == id.0) || true)
        step false is false false = off ((one.0 == id.0) || (other.0 == id.0))
        step true is true b = refl
        step true is false true = ap (λ (c : Bool). cond c false true) (sym (last (one.0 == id.0)))
        step true is false false =
            let there = linked_there tree one other proper is in
            ap (λ (c : Bool). not c && not (is_below tree.channels id other)) (alone tree id proper kind one there.0)
            ∙ ap (λ (c : Bool). not (one.0 == id.0) && not c) (alone tree id proper kind other there.1)
            ∙ both (one.0 == id.0) (other.0 == id.0)

    still_so_far : is_below tree.channels top id ≡ true → IsSoFar (and_one gone id.0)
    still_so_far under = record {
      temporary = λ at is. either (λ one. is_temporary tree.channels one ≡ true) at (gone at.0) refl is (so_far.temporary at) kind;
      below = λ at is. either (λ one. is_below tree.channels top one ≡ true) at (gone at.0) refl is (so_far.below at) under;
    }
      where
        either : (P : ChannelId → Type 0) (at : ChannelId) (b : Bool) → gone at.0 ≡ b → (b || (at.0 == id.0)) ≡ true → (gone at.0 ≡ true → P at) → P id → P at
        either P at true was is old new = old was
        either P at false was is old new = subst P (sym (same_channel at id (eqb-true at.0 id.0 is))) new

  -- ---- the top goes, with all below it

  module _ (gone : ℕ → Bool) (so_far : IsSoFar gone) where
    top_goes : (at : ChannelId) → channels_left (channel_gone top) (without gone (channels_of tree)) at.0 ≡ channels_of cut at.0
    top_goes at =
        ap (λ (b : Bool). cond b None (without gone (channels_of tree) at.0)) (goes_without gone so_far top at)
        ∙ step (gone at.0) refl (is_below tree.channels top at) refl (row_of tree.channels at)
        ∙ ap (option_map (λ (row : Row). public_channel row.channel)) (sym (row_without tree top at))
      where
        step : (b : Bool) → gone at.0 ≡ b → (under : Bool) → is_below tree.channels top at ≡ under → (found : Option Row)
            → cond (cond b false under) None (cond b None (option_map (λ (row : Row). public_channel row.channel) found))
            ≡ option_map (λ (row : Row). public_channel row.channel) (cond under None found)
        step true is true below found = refl
        step true is false below found = absurd (both_ways (is_below tree.channels top at) below (so_far.below at is))
        step false is true below found = refl
        step false is false below found = refl

    top_unlinks : (one other : ChannelId)
        → links_left (channel_gone top) (without gone (channels_of tree)) (unlinked gone (links_of tree)) one.0 other.0 ≡ are_linked cut one other
    top_unlinks one other =
        ap (λ (b : Bool). cond (gone one.0 || gone other.0) false (are_linked tree one other) && not b && not (goes_with (without gone (channels_of tree)) top.0 other.0)) (goes_without gone so_far top one)
        ∙ ap (λ (b : Bool). cond (gone one.0 || gone other.0) false (are_linked tree one other) && not (cond (gone one.0) false (is_below tree.channels top one)) && not b) (goes_without gone so_far top other)
        ∙ step (are_linked tree one other) refl (gone one.0) refl (gone other.0) refl
        ∙ ap (λ (b : Bool). are_linked tree one other && (b && (is_there tree.channels other && not (is_below tree.channels top other)))) (sym (there_without_subtree tree top one))
        ∙ ap (λ (b : Bool). are_linked tree one other && (is_there cut.channels one && b)) (sym (there_without_subtree tree top other))
        ∙ sym (linked_within tree top one other)
      where
        off : (a : Bool) → (a && false) ≡ false
        off true = refl
        off false = refl

        step : (linked : Bool) → are_linked tree one other ≡ linked → (a : Bool) → gone one.0 ≡ a → (b : Bool) → gone other.0 ≡ b
            → (cond (a || b) false linked && not (cond a false (is_below tree.channels top one)) && not (cond b false (is_below tree.channels top other)))
            ≡ (linked && ((is_there tree.channels one && not (is_below tree.channels top one)) && (is_there tree.channels other && not (is_below tree.channels top other))))
        step false is true gone_one b gone_other = refl
        step false is false gone_one true gone_other = refl
        step false is false gone_one false gone_other = refl
        step true is true gone_one b gone_other =
            sym (ap (λ (c : Bool). (is_there tree.channels one && not c) && (is_there tree.channels other && not (is_below tree.channels top other))) (so_far.below one gone_one)
            ∙ ap (λ (c : Bool). c && (is_there tree.channels other && not (is_below tree.channels top other))) (off (is_there tree.channels one)))
        step true is false gone_one true gone_other =
            sym (ap (λ (c : Bool). (is_there tree.channels one && not (is_below tree.channels top one)) && (is_there tree.channels other && not c)) (so_far.below other gone_other)
            ∙ ap (λ (c : Bool). (is_there tree.channels one && not (is_below tree.channels top one)) && c) (off (is_there tree.channels other))
            ∙ off (is_there tree.channels one && not (is_below tree.channels top one)))
        step true is false gone_one false gone_other =
            let there = linked_there tree one other proper is in
            sym (ap (λ (c : Bool). (c && not (is_below tree.channels top one)) && (is_there tree.channels other && not (is_below tree.channels top other))) there.0
            ∙ ap (λ (c : Bool). not (is_below tree.channels top one) && (c && not (is_below tree.channels top other))) there.1)

  -- ---- what is gone already

  module _ (id : ChannelId) (none : is_there cut.channels id ≡ false) where
    goes_nowhere : (at : ChannelId) → goes_with (channels_of cut) id.0 at.0 ≡ false
    goes_nowhere at = goes_below cut id at ∙ never_below cut id at none

    channels_same : channels_left (channel_gone id) (channels_of cut) ≡ channels_of cut
    channels_same = fun_ext (λ at. ap (λ (b : Bool). cond b None (channels_of cut at)) (goes_nowhere (numbered_channel at)))

    links_same : links_left (channel_gone id) (channels_of cut) (links_of cut) ≡ links_of cut
    links_same = fun_ext (λ one. fun_ext (λ other.
        ap (λ (b : Bool). links_of cut one other && not b && not (goes_with (channels_of cut) id.0 other)) (goes_nowhere (numbered_channel one))
        ∙ ap (λ (b : Bool). links_of cut one other && not false && not b) (goes_nowhere (numbered_channel other)) ∙ all (links_of cut one other)))
      where
        all : (b : Bool) → (b && not false && not false) ≡ b
        all true = refl
        all false = refl

  known_by : (ids : List ChannelId) (channels now : Channels) (links then_links : Pairs) → channels ≡ now → links ≡ then_links
      → IsKnownTree cut (gone_channels ids now) (gone_links ids now then_links) → IsKnownTree cut (gone_channels ids channels) (gone_links ids channels links)
  known_by ids channels now links then_links same also known =
      subst (λ (all : Channels). IsKnownTree cut (gone_channels ids all) (gone_links ids all links)) (sym same)
      (subst (λ (all : Pairs). IsKnownTree cut (gone_channels ids now) (gone_links ids now all)) (sym also) known)

  rest_gone : (ids : List ChannelId) → Each (λ id. is_there cut.channels id ≡ false) ids → IsKnownTree cut (gone_channels ids (channels_of cut)) (gone_links ids (channels_of cut) (links_of cut))
  rest_gone [] none = record { channels_are = refl; links_are = refl }
  rest_gone (id ∷ ids) none =
      known_by ids (channels_left (channel_gone id) (channels_of cut)) (channels_of cut) (links_left (channel_gone id) (channels_of cut) (links_of cut)) (links_of cut)
      (channels_same id none.0) (links_same id none.0) (rest_gone ids none.1)

  -- ---- one after the other

  abbrev IsToldGone : ChannelId → Type 0
  IsToldGone id = is_told_gone top tree cut id ≡ true

  record IsToldOf (id : ChannelId) : Type 0 where
    kind : (id.0 == top.0) ≡ false → is_temporary tree.channels id ≡ true
    out : is_there cut.channels id ≡ false

  told_of : (id : ChannelId) → IsToldGone id → IsToldOf id
  told_of id told =
      let (one, other) = and_parts ((id.0 == top.0) || is_temporary tree.channels id) (not (is_there cut.channels id)) told in
      record { kind = λ apart. ap (λ (b : Bool). b || is_temporary tree.channels id) (sym apart) ∙ one; out = not-true (is_there cut.channels id) other }

  under_top : (id : ChannelId) → is_temporary tree.channels id ≡ true → is_there cut.channels id ≡ false → is_below tree.channels top id ≡ true
  under_top id kind out =
      not-false (is_below tree.channels top id)
      (sym (ap (λ (b : Bool). b && not (is_below tree.channels top id)) (temporary_there tree.channels id kind)) ∙ sym (there_without_subtree tree top id) ∙ out)

  all_gone : (ids : List ChannelId) → Each IsToldGone ids → is_among ids top ≡ true → (gone : ℕ → Bool) → IsSoFar gone
      → IsKnownTree cut (gone_channels ids (without gone (channels_of tree))) (gone_links ids (without gone (channels_of tree)) (unlinked gone (links_of tree)))
  all_gone [] told among gone so_far = absurd (true≢false (sym among))
  all_gone (id ∷ ids) told among gone so_far = step (id.0 == top.0) refl among (all_gone ids told.1)
    where
      step : (b : Bool) → (id.0 == top.0) ≡ b → (b || is_among ids top) ≡ true
          → (is_among ids top ≡ true → (more : ℕ → Bool) → IsSoFar more
          → IsKnownTree cut (gone_channels ids (without more (channels_of tree))) (gone_links ids (without more (channels_of tree)) (unlinked more (links_of tree))))
          → IsKnownTree cut (gone_channels ids (channels_left (channel_gone id) (without gone (channels_of tree))))
          (gone_links ids (channels_left (channel_gone id) (without gone (channels_of tree))) (links_left (channel_gone id) (without gone (channels_of tree)) (unlinked gone (links_of tree))))
      step true same in_list rest =
          let own : id ≡ top = same_channel id top (eqb-true id.0 top.0 same) in
          let channels : channels_left (channel_gone id) (without gone (channels_of tree)) ≡ channels_of cut =
          ap (λ (one : ChannelId). channels_left (channel_gone one) (without gone (channels_of tree))) own ∙ fun_ext (λ at. top_goes gone so_far (numbered_channel at)) in
          let links : links_left (channel_gone id) (without gone (channels_of tree)) (unlinked gone (links_of tree)) ≡ links_of cut =
          ap (λ (one : ChannelId). links_left (channel_gone one) (without gone (channels_of tree)) (unlinked gone (links_of tree))) own
          ∙ fun_ext (λ one. fun_ext (λ other. top_unlinks gone so_far (numbered_channel one) (numbered_channel other))) in
          known_by ids (channels_left (channel_gone id) (without gone (channels_of tree))) (channels_of cut)
          (links_left (channel_gone id) (without gone (channels_of tree)) (unlinked gone (links_of tree))) (links_of cut) channels links (rest_gone ids (each_so IsToldGone (λ one. is_there cut.channels one ≡ false) (λ one is. (told_of one is).out) ids told.1))
      step false apart in_list rest =
          let told_id = told_of id told.0 in
          let kind = told_id.kind apart in
          let channels : channels_left (channel_gone id) (without gone (channels_of tree)) ≡ without (and_one gone id.0) (channels_of tree) =
          fun_ext (λ at. one_less gone so_far id kind (numbered_channel at)) in
          let links : links_left (channel_gone id) (without gone (channels_of tree)) (unlinked gone (links_of tree)) ≡ unlinked (and_one gone id.0) (links_of tree) =
          fun_ext (λ one. fun_ext (λ other. links_less gone so_far id kind (numbered_channel one) (numbered_channel other))) in
          known_by ids (channels_left (channel_gone id) (without gone (channels_of tree))) (without (and_one gone id.0) (channels_of tree))
          (links_left (channel_gone id) (without gone (channels_of tree)) (unlinked gone (links_of tree))) (unlinked (and_one gone id.0) (links_of tree)) channels links (rest in_list (and_one gone id.0) (still_so_far gone so_far id kind (under_top id kind told_id.out)))

filtered : {X : Type 0} (p : X → Bool) (xs : List X) → Each (λ x. p x ≡ true) (filter p xs)
filtered p [] = tt
filtered {X} p (x ∷ xs) = step (p x) refl (filtered p xs)
  where
    step : (b : Bool) → p x ≡ b → Each (λ y. p y ≡ true) (filter p xs) → Each (λ y. p y ≡ true) (cond b (x ∷ filter p xs) (filter p xs))
    step true is rest = (is, rest)
    step false is rest = rest

-- ---- the removal of a channel

pub removal_known : (state : StateValue) (top : ChannelId) (actor : SessionId) → IsProper state → fits state (RemoveChannel top actor) ≡ true
    → let edit : Edit = RemoveChannel top actor in
    let ids : List ChannelId = channels_gone state edit (applied state edit) in
    IsKnownTree (applied state edit).tree (gone_channels ids (channels_of state.tree)) (gone_links ids (channels_of state.tree) (links_of state.tree))
removal_known state top actor proper fit =
    let edit : Edit = RemoveChannel top actor in
    let named = and_parts _ _ (and_parts _ _ (fit_parts state edit fit).named).0 in
    let there : is_there state.tree.channels top ≡ true = (and_parts (is_there state.tree.channels top) _ named.1).0 in
    subst (λ (tree : TreeState). IsKnownTree tree (gone_channels (filter (is_told_gone top state.tree tree) (channel_ids state.tree)) (channels_of state.tree))
    (gone_links (filter (is_told_gone top state.tree tree) (channel_ids state.tree)) (channels_of state.tree) (links_of state.tree)))
    (sym (applied_tree state edit proper fit))
    (all_gone state.tree top proper.tree (filter (is_told_gone top state.tree (without_subtree state.tree top)) (channel_ids state.tree))
    (filtered (is_told_gone top state.tree (without_subtree state.tree top)) (channel_ids state.tree)) (top_told state.tree there) (λ at. false)
    (record { temporary = λ at is. absurd (true≢false (sym is)); below = λ at is. absurd (true≢false (sym is)) }))
  where
    top_told : (tree : TreeState) → is_there tree.channels top ≡ true → is_among (filter (is_told_gone top tree (without_subtree tree top)) (channel_ids tree)) top ≡ true
    top_told tree there =
        any_kept (λ (id : ChannelId). id.0 == top.0) (is_told_gone top tree (without_subtree tree top)) true
        (λ id is. ap (is_told_gone top tree (without_subtree tree top)) (same_channel id top (eqb-true id.0 top.0 is))
        ∙ ap (λ (b : Bool). (b || is_temporary tree.channels top) && not (is_there (without_subtree tree top).channels top)) (eq-eqb top.0 top.0 refl)
        ∙ ap not (there_without_subtree tree top top ∙ ap (λ (b : Bool). is_there tree.channels top && not b) (below_itself tree top there) ∙ none (is_there tree.channels top))) (channel_ids tree)
        ∙ ap (λ (b : Bool). b && true)
        (any_mapped (λ (id : ChannelId). id.0 == top.0) (λ (row : Row). row.channel.id) tree.channels ∙ sym (some_found (λ (row : Row). number row == top.0) tree.channels) ∙ there)
      where
        none : (a : Bool) → (a && false) ≡ false
        none true = refl
        none false = refl
