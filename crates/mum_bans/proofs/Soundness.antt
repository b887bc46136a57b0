-- Each event leaves a book within its limits.
use Rattle.mum_bans.proofs.Common.{◌≡◌, ℕ, zero, suc, ◌-◌, ◌<◌, ◌≤◌, Bool, true, ◌&&◌, ◌==◌, nat_le, List, [], ◌∷◌, ◌++◌, length, map, drop, remove, refl, ap, ap₂, ◌∙◌, length-drop, arith, list_all, and_parts, and_from, eq-eqb, le-leb, length-map, list_all-append, list_all-map, Ban, BanEntry, BanList, is_short, is_sound_ban, is_sound_book, is_sound_entry, is_sound_list, added_ban, last_bans, set_ban}

each_sound : (bans : List Ban) (moment : ℕ) (entries : List BanEntry) → list_all is_sound_ban (map (set_ban bans moment) entries) ≡ list_all is_sound_entry entries
each_sound bans moment entries = list_all-map is_sound_ban (set_ban bans moment) entries

pub set_sound : (bans : List Ban) (moment : ℕ) (list : BanList) → is_sound_list list ≡ true → is_sound_book (map (set_ban bans moment) list.bans) ≡ true
set_sound bans moment list sound =
    ap₂ (λ n b. nat_le n 1024 && b) (length-map list.bans (set_ban bans moment)) (each_sound bans moment list.bans) ∙ sound

dropped : {X : Type 0} (p : X → Bool) (n : ℕ) (xs : List X) → list_all p xs ≡ true → list_all p (drop n xs) ≡ true
dropped p zero xs all = all
dropped p (suc n) [] all = all
dropped p (suc n) (x ∷ xs) all = dropped p n xs (and_parts (p x) (list_all p xs) all).1

pub added_sound : (bans : List Ban) (address reason : List ℕ) (moment : ℕ) → is_sound_book bans ≡ true → length address ≡ 16 → is_short reason ≡ true → is_sound_book (last_bans (bans ++ added_ban address reason moment ∷ [])) ≡ true
added_sound bans address reason moment sound sixteen short =
    let all = bans ++ added_ban address reason moment ∷ [] in
    let both = and_parts (nat_le (length bans) 1024) (list_all is_sound_ban bans) sound in
    let one : is_sound_ban (added_ban address reason moment) ≡ true = and_from (length address == 16) (is_short reason) (eq-eqb (length address) 16 sixteen) short in
    let each : list_all is_sound_ban all ≡ true = list_all-append is_sound_ban bans (added_ban address reason moment ∷ []) ∙ and_from (list_all is_sound_ban bans) (is_sound_ban (added_ban address reason moment) && true) both.1 (and_from (is_sound_ban (added_ban address reason moment)) true one refl) in
    let l = length-drop (length all - 1024) all in
    and_from (nat_le (length (last_bans all)) 1024) (list_all is_sound_ban (last_bans all))
    (le-leb (length (last_bans all)) 1024 (omega arith))
    (dropped is_sound_ban (length all - 1024) all each)

-- one more than a book may have
pub first_removed : (bans : List Ban) → 1024 < length bans → length bans ≤ 1025 → remove bans 0 ≡ last_bans bans
first_removed [] many few = let never : ⊥ = omega arith in absurd never
first_removed (ban ∷ bans) many few =
    let is : 1 ≡ length (ban ∷ bans) - 1024 = omega arith in
    ap (λ n. drop n (ban ∷ bans)) is

pub all_kept : (bans : List Ban) → length bans ≤ 1024 → bans ≡ last_bans bans
all_kept bans few = let is : 0 ≡ length bans - 1024 = omega arith in ap (λ n. drop n bans) is
