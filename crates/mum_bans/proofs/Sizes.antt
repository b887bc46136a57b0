-- How long the payload is that shows a book.
use Rattle.mum_bans.proofs.Common.{◌≡◌, ℕ, ◌+◌, ◌*◌, ◌≤◌, true, ◌&&◌, ◌==◌, nat_le, List, [], ◌∷◌, ◌++◌, length, map, Some, ap, ◌∙◌, length-append, append-nil, arith, list_all, and_parts, eqb-true, leb-true, flat_map-append, shortest, Item, written, spelling, block_item, varint_item, block_items, number_items, layout, parts, items, each_message, length-shortest, PAYLOAD_LIMIT, Ban, ban_entry, is_short, is_sound_ban, is_sound_book, answer, entry_of, unless_empty}

-- a number takes at most two varints, and a block two before it
number_length : (k n : ℕ) → length (spelling (varint_item k n)) ≤ 20
number_length k n =
    let key = length-shortest (k * 8 + 0) in
    let value = length-shortest n in
    let whole = length-append (shortest (k * 8 + 0)) (shortest n) in
    omega arith

block_length : (k : ℕ) (block : List ℕ) → length (spelling (block_item k block)) ≤ 20 + length block
block_length k block =
    let key = length-shortest (k * 8 + 2) in
    let size = length-shortest (length block) in
    let inner = length-append (shortest (length block)) block in
    let whole = length-append (shortest (k * 8 + 2)) (shortest (length block) ++ block) in
    omega arith

one_written : (item : Item) → length (written (item ∷ [])) ≡ length (spelling item)
one_written item = ap (λ (bytes : List ℕ). length bytes) (append-nil (spelling item))

-- items after items
both_written : (xs ys : List Item) (m n : ℕ) → length (written xs) ≤ m → length (written ys) ≤ n → length (written (xs ++ ys)) ≤ m + n
both_written xs ys m n first second =
    let e : length (written (xs ++ ys)) ≡ length (written xs) + length (written ys) = ap (λ (bytes : List ℕ). length bytes) (flat_map-append spelling xs ys) ∙ length-append (written xs) (written ys) in
    omega arith

given_number : (k n : ℕ) → length (written (number_items (λ x. x) k (Some n))) ≤ 20
given_number k n = let e = one_written (varint_item k n) in let l = number_length k n in omega arith

given_block : (k m : ℕ) (block : List ℕ) → length block ≤ m → length (written (block_items k (Some block))) ≤ 20 + m
given_block k m block short = let e = one_written (block_item k block) in let l = block_length k block in omega arith

-- a text that may be left out
given_text : (k : ℕ) (text : List ℕ) → is_short text ≡ true → length (written (block_items k (unless_empty text))) ≤ 1044
given_text k [] short = omega arith
given_text k (byte ∷ bytes) short = given_block k 1024 (byte ∷ bytes) (leb-true _ _ short)

-- the fields of an entry from each of its fields on
abbrev from_duration : Ban → List Item
from_duration ban = number_items (λ x. x) 7 (Some ban.duration) ++ []

abbrev from_reason : Ban → List Item
from_reason ban = block_items 5 (unless_empty ban.reason) ++ from_duration ban

abbrev from_hash : Ban → List Item
from_hash ban = block_items 4 (unless_empty ban.hash) ++ from_reason ban

abbrev from_name : Ban → List Item
from_name ban = block_items 3 (unless_empty ban.name) ++ from_hash ban

abbrev from_mask : Ban → List Item
from_mask ban = number_items (λ x. x) 2 (Some ban.mask) ++ from_name ban

entry_length : (ban : Ban) → is_sound_ban ban ≡ true → length (written (items (layout ban_entry) (parts ban_entry (entry_of ban)))) ≤ 3208
entry_length ban sound =
    let address = and_parts (length ban.address == 16) (nat_le ban.mask 128 && (is_short ban.name && (is_short ban.hash && is_short ban.reason))) sound in
    let mask = and_parts (nat_le ban.mask 128) (is_short ban.name && (is_short ban.hash && is_short ban.reason)) address.1 in
    let name = and_parts (is_short ban.name) (is_short ban.hash && is_short ban.reason) mask.1 in
    let hash = and_parts (is_short ban.hash) (is_short ban.reason) name.1 in
    let sixteen : length ban.address ≡ 16 = eqb-true (length ban.address) 16 address.0 in
    both_written (block_items 1 (Some ban.address)) (from_mask ban) 36 3172 (given_block 1 16 ban.address (omega arith))
    (both_written (number_items (λ x. x) 2 (Some ban.mask)) (from_name ban) 20 3152 (given_number 2 ban.mask)
    (both_written (block_items 3 (unless_empty ban.name)) (from_hash ban) 1044 2108 (given_text 3 ban.name name.0)
    (both_written (block_items 4 (unless_empty ban.hash)) (from_reason ban) 1044 1064 (given_text 4 ban.hash hash.0)
    (both_written (block_items 5 (unless_empty ban.reason)) (from_duration ban) 1044 20 (given_text 5 ban.reason hash.1)
    (both_written (number_items (λ x. x) 7 (Some ban.duration)) [] 20 0 (given_number 7 ban.duration) (omega arith))))))

-- the blocks of all entries
entries_length : (bans : List Ban) → list_all is_sound_ban bans ≡ true → length (written (each_message (items (layout ban_entry)) 1 (map (parts ban_entry) (map entry_of bans)))) ≤ 3228 * length bans
entries_length [] sound = omega arith
entries_length (ban ∷ bans) sound =
    let both = and_parts (is_sound_ban ban) (list_all is_sound_ban bans) sound in
    let entry = entry_length ban both.0 in
    let block = block_length 1 (written (items (layout ban_entry) (parts ban_entry (entry_of ban)))) in
    let first : length (written (block_item 1 (written (items (layout ban_entry) (parts ban_entry (entry_of ban)))) ∷ [])) ≤ 3228 = let e = one_written (block_item 1 (written (items (layout ban_entry) (parts ban_entry (entry_of ban))))) in omega arith in
    let all = both_written (block_item 1 (written (items (layout ban_entry) (parts ban_entry (entry_of ban)))) ∷ []) (each_message (items (layout ban_entry)) 1 (map (parts ban_entry) (map entry_of bans))) 3228 (3228 * length bans) first (entries_length bans both.1) in
    omega arith

pub answer_fits : (bans : List Ban) → is_sound_book bans ≡ true → length (answer bans) ≤ PAYLOAD_LIMIT
answer_fits bans sound =
    let both = and_parts (nat_le (length bans) 1024) (list_all is_sound_ban bans) sound in
    let few : length bans ≤ 1024 = leb-true (length bans) 1024 both.0 in
    let entries = entries_length bans both.1 in
    let all = both_written (each_message (items (layout ban_entry)) 1 (map (parts ban_entry) (map entry_of bans))) [] (3228 * length bans) 0 entries (omega arith) in
    omega arith
