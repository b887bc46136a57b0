-- A keeper that is brought from rows to others, and what is kept of it.
use Rattle.mum_keeper.proofs.Common.{◌≡◌, ◌≢◌, ◌↔◌, inl, inr, ◌==◌, ℕ, ◌&&◌, Bool, true, false, eqb, if◌then◌else◌, List, [], ◌∷◌, ◌++◌, length, map, Option, Some, None, refl, sym, ap, subst, ◌∙◌, option_map, int_eq, bytes_eq, and_from, eq-eqb, eqb-true, Decides-int_eq, nil_from_length, bytes_eq-Decides, Rose-later, Rose-≤, Rose, Pair, ChannelInfo, KeptChannel, KeptRows, AreInOrder, all_made, channel_before, difference, drop_of, is_same_channel, is_same_info, link_before, linked_by, put_of, unlink_of, AreRowsOf, KeepCall, KeepCounts, KeeperFacts, Makes, with_call, Brings, BringsTo, IsMirror, IsSince, MirrorFacts, after_compare, failed_now, opening_of, rows_left, any_like, unmatched, Change, KeepEnd, KeeperOpening}
use Rattle.mum_keeper.proofs.{Changing.channel_order, Changing.has_ends, Changing.has_number, Changing.lead_over, Changing.link_order, Merging.IsOrder}
use Rattle.mum_keeper.specs.declared.keeper.KeepEnd.TheVariants as ends

-- ---- rows differ in nothing from themselves

first_is : {A : Type 0} (first second like : Bool) (row : A) (alone behind both : List A) → first ≡ false → second ≡ false → like ≡ true → both ≡ []
    → (if first then row ∷ alone else if second then behind else (if like then [] else row ∷ []) ++ both) ≡ []
first_is true second like row alone behind both a b c rest = absurd (cc a)
first_is false true like row alone behind both a b c rest = absurd (cc b)
first_is false false true row alone behind both a b c rest = rest
first_is false false false row alone behind both a b c rest = absurd (cc c)

none_unmatched : {A : Type 0} (before has_key is_like : A → A → Bool) → IsOrder before has_key → ((a : A) → is_like a a ≡ true) → (rows : List A) → unmatched before is_like rows rows ≡ []
unfolding unmatched
none_unmatched before has_key is_like order alike [] = refl
none_unmatched before has_key is_like order alike (row ∷ rows) =
    first_is (before row row) (before row row) (is_like row row) row (unmatched before is_like rows (row ∷ rows)) (unmatched before is_like (row ∷ rows) rows) (unmatched before is_like rows rows)
    (order.itself row) (order.itself row) (alike row) (none_unmatched before has_key is_like order alike rows)

info_itself : (info : ChannelInfo) → is_same_info info info ≡ true
info_itself info =
    and_from (bytes_eq info.description info.description && int_eq info.position info.position) (eqb info.max_users info.max_users)
    (and_from (bytes_eq info.description info.description) (int_eq info.position info.position) ((bytes_eq-Decides info.description info.description).1 refl) ((Decides-int_eq info.position info.position).1 refl))
    (eq-eqb info.max_users info.max_users refl)

channel_itself : (channel : KeptChannel) → is_same_channel channel channel ≡ true
channel_itself channel =
    and_from (eqb channel.parent.0 channel.parent.0 && bytes_eq channel.name channel.name && is_same_info channel.info channel.info) (bytes_eq channel.policy channel.policy)
    (and_from (eqb channel.parent.0 channel.parent.0 && bytes_eq channel.name channel.name) (is_same_info channel.info channel.info)
    (and_from (eqb channel.parent.0 channel.parent.0) (bytes_eq channel.name channel.name) (eq-eqb channel.parent.0 channel.parent.0 refl) ((bytes_eq-Decides channel.name channel.name).1 refl))
    (info_itself channel.info))
    ((bytes_eq-Decides channel.policy channel.policy).1 refl)

no_difference : (rows : KeptRows) → difference rows rows ≡ []
no_difference rows =
    let links = none_unmatched link_before has_ends any_like link_order (λ a. refl) rows.links in
    let channels = none_unmatched channel_before has_number any_like channel_order (λ a. refl) rows.channels in
    let same = none_unmatched channel_before has_number is_same_channel channel_order channel_itself rows.channels in
    ap (λ (l : List Pair). map unlink_of l ++ map drop_of (unmatched channel_before any_like rows.channels rows.channels) ++ map put_of (unmatched channel_before is_same_channel rows.channels rows.channels) ++ map linked_by l) links
    ∙ (ap (λ (l : List KeptChannel). map drop_of l ++ map put_of (unmatched channel_before is_same_channel rows.channels rows.channels) ++ []) channels
    ∙ ap (λ (l : List KeptChannel). map put_of l ++ []) same)

-- where rows are in order, no changes lead from one to the other exactly where they are the same
pub same_by_difference : (old new : KeptRows) → AreInOrder old → AreInOrder new → (difference old new ≡ []) ↔ (old ≡ new)
same_by_difference old new old_order new_order = (
  (λ none. ap (λ (c : List Change). all_made c old) (sym none) ∙ lead_over old new old_order new_order),
  (λ same. ap (λ (r : KeptRows). difference old r) (sym same) ∙ no_difference old),
)

-- what a test of a list says

pub is_unlisted : {X : Type 0} (xs : List X) (empty : Bool) → empty ≡ (length xs == 0) → empty ≡ true → xs ≡ []
is_unlisted xs empty is on = nil_from_length xs (eqb-true (length xs) 0 (sym is ∙ on))

pub is_listed : {X : Type 0} (xs : List X) (empty : Bool) → empty ≡ (length xs == 0) → empty ≡ false → xs ≢ []
is_listed {X} xs empty is on =
    λ e. let none : true ≡ false = sym (eq-eqb (length xs) 0 (ap (λ (list : List X). length list) e)) ∙ (sym is ∙ on) in absurd (cc none)

-- ---- a keeper that is brought to rows

made_all : (told : Option KeptRows) (rows now : KeptRows) (changes : List Change) → changes ≡ difference rows now → AreRowsOf told rows → AreInOrder now
    → option_map (all_made changes) told ≡ option_map (λ known. now) told
made_all None rows now changes is has order = refl
made_all (Some known) rows now changes is has order =
    ap (λ (r : KeptRows). Some r)
    (ap (λ (c : List Change). all_made c known) (is ∙ ap (λ (r : KeptRows). difference r now) (sym has.0)) ∙ lead_over known now has.1 order)

none_made : (told : Option KeptRows) → option_map (all_made []) told ≡ told
none_made None = refl
none_made (Some known) = refl

module _ {P : Type 0} (facts : P → KeeperFacts) where
  pub starved : (keeper : P) (rows now : KeptRows) → Brings facts keeper rows now ends.NoMemory keeper
  starved keeper rows now =
      record { rests = λ none. (refl, (λ e. cc e)); calls = λ some. inr (refl, refl); brings = (refl, refl); path = refl }

  pub rested : (keeper : P) (rows now : KeptRows) (changes : List Change) → changes ≡ difference rows now → changes ≡ [] → AreRowsOf (facts keeper).rows rows → AreInOrder now
      → Brings facts keeper rows now ends.Kept keeper
  rested keeper rows now changes is none has order = record {
    rests = λ none. (refl, (λ e. cc e));
    calls = λ some. absurd (some (sym is ∙ none));
    brings = (sym (none_made (facts keeper).rows) ∙ (ap (λ (c : List Change). option_map (all_made c) (facts keeper).rows) (sym none) ∙ made_all (facts keeper).rows rows now changes is has order), refl);
    path = refl;
  }

  brings_to : (old new : P) (rows now : KeptRows) (changes : List Change) (end : KeepEnd) → changes ≡ difference rows now → AreRowsOf (facts old).rows rows → AreInOrder now
      → KeepCounts end (facts old).faults (facts new).faults → Makes end changes (facts old).rows (facts new).rows → BringsTo (facts old) now end (facts new)
  brings_to old new rows now changes ends.Kept is has order counts makes = (makes ∙ made_all (facts old).rows rows now changes is has order, counts)
  brings_to old new rows now changes ends.Failed is has order counts makes = (makes, counts)
  brings_to old new rows now changes ends.NoMemory is has order counts makes = (makes, counts)

  pub brought : (old new : P) (rows now : KeptRows) (changes : List Change) (end : KeepEnd) → changes ≡ difference rows now → changes ≢ [] → AreRowsOf (facts old).rows rows → AreInOrder now
      → KeepCounts end (facts old).faults (facts new).faults → Makes end changes (facts old).rows (facts new).rows → (facts new).opened_at ≡ (facts old).opened_at
      → (facts new).calls ≡ with_call (KeepCall changes) (facts old).calls → Brings facts old rows now end new
  brought old new rows now changes end is some has order counts makes path call = record {
    rests = λ none. absurd (some (is ∙ none));
    calls = λ differ. inl (call ∙ ap (λ (c : List Change). with_call (KeepCall c) (facts old).calls) is);
    brings = brings_to old new rows now changes end is has order counts makes;
    path = path;
  }

  -- ---- what is kept of a keeper

  rows_of_set : (before after : Option KeptRows) (now : KeptRows) → after ≡ option_map (λ known. now) before → AreInOrder now → AreRowsOf after now
  rows_of_set None after now is order = subst (λ (r : Option KeptRows). AreRowsOf r now) (sym is) tt
  rows_of_set (Some known) after now is order = subst (λ (r : Option KeptRows). AreRowsOf r now) (sym is) (refl, order)

  same_since : (opening : KeeperOpening) (old new : P) (failed : Bool) → (facts new).faults ≡ (facts old).faults → (facts new).opened_at ≡ (facts old).opened_at
      → IsSince opening (facts old) failed → IsSince opening (facts new) failed
  same_since opening old new failed counts path since = record {
    fails = λ is. subst (λ (n : ℕ). Rose opening.faults n) (sym counts) (since.fails is);
    steady = λ is. counts ∙ since.steady is;
    path = path ∙ since.path;
  }

  rose_since : (opening : KeeperOpening) (old new : P) (failed : Bool) → Rose (facts old).faults (facts new).faults → IsSince opening (facts old) failed → Rose opening.faults (facts new).faults
  rose_since opening old new true rose since = Rose-later opening.faults (facts old).faults (facts new).faults (since.fails refl) (Rose-≤ (facts old).faults (facts new).faults rose)
  rose_since opening old new false rose since = subst (λ (n : ℕ). Rose n (facts new).faults) (since.steady refl) rose

  pub still_mirror : (opening : KeeperOpening) (old : MirrorFacts P) (now : KeptRows) (end : KeepEnd) (keeper : P)
      → IsMirror opening (facts old.keeper) old.rows old.failed → AreInOrder now → Brings facts old.keeper old.rows now end keeper
      → IsMirror opening (facts (after_compare old now end keeper).keeper) (after_compare old now end keeper).rows (after_compare old now end keeper).failed
  still_mirror opening old now ends.Kept keeper mirror order brings = record {
    mirrors = rows_of_set (facts old.keeper).rows (facts keeper).rows now brings.brings.0 order;
    since = same_since opening old.keeper keeper old.failed brings.brings.1 brings.path mirror.since;
  }
  still_mirror opening old now ends.Failed keeper mirror order brings = record {
    mirrors = subst (λ (r : Option KeptRows). AreRowsOf r old.rows) (sym brings.brings.0) mirror.mirrors;
    since = record {
      fails = λ is. rose_since opening old.keeper keeper old.failed brings.brings.1 mirror.since;
      steady = λ is. absurd (cc is);
      path = brings.path ∙ mirror.since.path;
    };
  }
  still_mirror opening old now ends.NoMemory keeper mirror order brings = record {
    mirrors = subst (λ (r : Option KeptRows). AreRowsOf r old.rows) (sym brings.brings.0) mirror.mirrors;
    since = same_since opening old.keeper keeper old.failed brings.brings.1 brings.path mirror.since;
  }

  -- the same, of the parts
  pub mirror_on : (opening : KeeperOpening) (before keeper : P) (rows now left : KeptRows) (failed failed_then no_memory : Bool) (end : KeepEnd)
      → IsMirror opening (facts before) rows failed → AreInOrder now → Brings facts before rows now end keeper → left ≡ rows_left end rows now → failed_then ≡ failed_now end failed
      → IsMirror opening (facts keeper) left failed_then
  mirror_on opening before keeper rows now left failed failed_then no_memory end mirror order brings is_left is_failed =
      let old : MirrorFacts P = record { keeper = before; rows = rows; failed = failed; no_memory = no_memory } in
      subst (λ (r : KeptRows). IsMirror opening (facts keeper) r failed_then) (sym is_left)
      (subst (λ (b : Bool). IsMirror opening (facts keeper) (rows_left end rows now) b) (sym is_failed) (still_mirror opening old now end keeper mirror order brings))

-- a keeper whose store is new
pub new_is_mirror : (opening : KeeperOpening) (known : KeeperFacts) (rows : KeptRows) → opening_of known ≡ opening → AreRowsOf known.rows rows → IsMirror opening known rows false
new_is_mirror opening known rows is has = record {
  mirrors = has;
  since = record {
    fails = λ e. absurd (cc e);
    steady = λ e. ap (λ (o : KeeperOpening). o.faults) is;
    path = ap (λ (o : KeeperOpening). o.opened_at) is;
  };
}
