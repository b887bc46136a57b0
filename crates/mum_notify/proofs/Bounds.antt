-- How many bytes payloads take at most: a varint takes ten, so a number of a message twenty with its key, and a text
-- twenty and its own. What a proper state holds is short enough.
use Rattle.mum_notify.proofs.Common.{◌≡◌, ℕ, zero, suc, ◌+◌, ◌*◌, ◌≤◌, ◌/◌, Bool, true, false, List, [], ◌∷◌, ◌++◌, length, Option, Some, None, refl, ap, arith, nat_lt, length-append, Kind, Number, Utf8, Raw, Label, Optional, Required, RequiredOr, Repeated, Layout, Nothing, Field, Blocks, One, Value, Values, each_item, each_message, items, layout, one_item, parts, row_items, scalar_number, spelled, shortest, shortest_with, Item, block_item, block_items, each_block, each_number, number_items, spelling, varint_item, written, permission_query, PermissionQuery, channel_remove, channel_state, codec_version, server_sync, user_remove, user_state, version, ChannelRemove, ChannelState, CodecVersion, ServerSync, UserRemove, UserState, Version, IsWithinFrame, channel_gone_payload, channel_payload, codecs_payload, permissions_payload, sync_payload, user_gone_payload, user_payload, version_payload}

-- ---- items

by_size : (more n : ℕ) (b : Bool) → nat_lt n 128 ≡ b → length (shortest_with more (n / 128)) ≤ more + 1 → length (shortest_with (suc more) n) ≤ more + 2
by_size more n true e rest = rw e (omega arith)
by_size more n false e rest = rw e (omega arith)

shortest_with-few : (more n : ℕ) → length (shortest_with more n) ≤ more + 1
shortest_with-few zero n = omega arith
shortest_with-few (suc more) n = let here : length (shortest_with (suc more) n) ≤ more + 2 = by_size more n (nat_lt n 128) refl (shortest_with-few more (n / 128)) in omega arith

shortest-few : (n : ℕ) → length (shortest n) ≤ 10
unfolding shortest
shortest-few n = shortest_with-few 9 n

varint-few : (number value : ℕ) → length (spelling (varint_item number value)) ≤ 20
varint-few number value =
    omega (arith, length-append (shortest (number * 8 + 0)) (shortest value), shortest-few (number * 8 + 0), shortest-few value)

block-few : (number : ℕ) (block : List ℕ) → length (spelling (block_item number block)) ≤ 20 + length block
block-few number block =
    omega (arith, length-append (shortest (number * 8 + 2)) (shortest (length block) ++ block), length-append (shortest (length block)) block, shortest-few (number * 8 + 2), shortest-few (length block))

pub written-append : (xs ys : List Item) → length (written (xs ++ ys)) ≡ length (written xs) + length (written ys)
written-append [] ys = omega arith
written-append (x ∷ xs) ys =
    omega (arith, length-append (spelling x) (written (xs ++ ys)), length-append (spelling x) (written xs), written-append xs ys)

-- ---- fields

abbrev pub given_length : Option (List ℕ) → ℕ
given_length None = 0
given_length (Some block) = length block

-- twenty for each, and their own
abbrev pub blocks_bound : List (List ℕ) → ℕ
blocks_bound [] = 0
blocks_bound (block ∷ blocks) = 20 + length block + blocks_bound blocks

abbrev pub one_bound : (kind : Kind) → Option (One kind) → ℕ
one_bound (Number scalar) value = 20
one_bound Utf8 value = 20 + given_length value
one_bound Raw value = 20 + given_length value

abbrev pub each_bound : (kind : Kind) → List (One kind) → ℕ
each_bound (Number scalar) values = 20 * length values
each_bound Utf8 values = blocks_bound values
each_bound Raw values = blocks_bound values

abbrev pub row_bound : (label : Label) → (kind : Kind) → Value label kind → ℕ
row_bound Optional kind value = one_bound kind value
row_bound Required kind value = one_bound kind value
row_bound (RequiredOr other) kind value = one_bound kind value
row_bound Repeated kind values = each_bound kind values

-- what the fields of a message take at most
abbrev pub bound : (fields : Layout) → Values fields → ℕ
bound Nothing values = 0
bound (Field label kind number others) values = row_bound label kind values.0 + bound others values.1
bound (Blocks inside number others) values = length (written (each_message (items inside) number values.0)) + bound others values.1

number-few : {X : Type 0} (f : X → ℕ) (number : ℕ) (value : Option X) → length (written (number_items f number value)) ≤ 20
number-few f number None = omega arith
number-few f number (Some x) = omega (arith, length-append (spelling (varint_item number (f x))) [], varint-few number (f x))

given-few : (number : ℕ) (value : Option (List ℕ)) → length (written (block_items number value)) ≤ 20 + given_length value
given-few number None = omega arith
given-few number (Some block) = omega (arith, length-append (spelling (block_item number block)) [], block-few number block)

numbers-few : {X : Type 0} (f : X → ℕ) (number : ℕ) (xs : List X) → length (written (each_number f number xs)) ≤ 20 * length xs
numbers-few f number [] = omega arith
numbers-few f number (x ∷ xs) =
    omega (arith, length-append (spelling (varint_item number (f x))) (written (each_number f number xs)), varint-few number (f x), numbers-few f number xs)

blocks-few : (number : ℕ) (blocks : List (List ℕ)) → length (written (each_block number blocks)) ≤ blocks_bound blocks
blocks-few number [] = omega arith
blocks-few number (block ∷ blocks) =
    omega (arith, length-append (spelling (block_item number block)) (written (each_block number blocks)), block-few number block, blocks-few number blocks)

one-few : (kind : Kind) (number : ℕ) (value : Option (One kind)) → length (written (one_item kind number value)) ≤ one_bound kind value
one-few (Number scalar) number value = number-few (scalar_number scalar) number value
one-few Utf8 number value = given-few number value
one-few Raw number value = given-few number value

each-few : (kind : Kind) (number : ℕ) (values : List (One kind)) → length (written (each_item kind number values)) ≤ each_bound kind values
each-few (Number scalar) number values = numbers-few (scalar_number scalar) number values
each-few Utf8 number values = blocks-few number values
each-few Raw number values = blocks-few number values

pub row-few : (label : Label) (kind : Kind) (number : ℕ) (value : Value label kind) → length (written (row_items label kind number value)) ≤ row_bound label kind value
row-few Optional kind number value = one-few kind number value
row-few Required kind number value = one-few kind number value
row-few (RequiredOr other) kind number value = one-few kind number value
row-few Repeated kind number values = each-few kind number values

pub items-few : (fields : Layout) (values : Values fields) → length (written (items fields values)) ≤ bound fields values
items-few Nothing values = omega arith
items-few (Field label kind number others) values =
    omega (arith, written-append (row_items label kind number values.0) (items others values.1), row-few label kind number values.0, items-few others values.1)
items-few (Blocks inside number others) values =
    omega (arith, written-append (each_message (items inside) number values.0) (items others values.1), items-few others values.1)

-- ---- messages

pub codecs_within : (message : CodecVersion) → IsWithinFrame (codecs_payload message)
unfolding codecs_payload
codecs_within message =
    let few : length (spelled codec_version message) ≤ 20 + (20 + (20 + (20 + 0))) = items-few (layout codec_version) (parts codec_version message) in omega arith

pub channel_gone_within : (message : ChannelRemove) → IsWithinFrame (channel_gone_payload message)
unfolding channel_gone_payload
channel_gone_within message =
    let few : length (spelled channel_remove message) ≤ 20 + 0 = items-few (layout channel_remove) (parts channel_remove message) in omega arith

pub permissions_within : (message : PermissionQuery) → IsWithinFrame (permissions_payload message)
unfolding permissions_payload
permissions_within message =
    let few : length (spelled permission_query message) ≤ 20 + (20 + (20 + 0)) = items-few (layout permission_query) (parts permission_query message) in omega arith

pub version_within : (message : Version) → given_length message.release ≤ 20000 → given_length message.os ≤ 20000 → given_length message.os_version ≤ 20000 → IsWithinFrame (version_payload message)
unfolding version_payload
version_within message release os os_version =
    let few : length (spelled version message) ≤ 20 + ((20 + given_length message.release) + ((20 + given_length message.os) + ((20 + given_length message.os_version) + 0))) = items-few (layout version) (parts version message) in
    omega arith

pub user_gone_within : (message : UserRemove) → given_length message.reason ≤ 20000 → IsWithinFrame (user_gone_payload message)
unfolding user_gone_payload
user_gone_within message reason =
    let few : length (spelled user_remove message) ≤ 20 + (20 + ((20 + given_length message.reason) + (20 + 0))) = items-few (layout user_remove) (parts user_remove message) in
    omega arith

pub sync_within : (message : ServerSync) → given_length message.welcome_text ≤ 20000 → IsWithinFrame (sync_payload message)
unfolding sync_payload
sync_within message welcome =
    let few : length (spelled server_sync message) ≤ 20 + (20 + ((20 + given_length message.welcome_text) + (20 + 0))) = items-few (layout server_sync) (parts server_sync message) in
    omega arith

pub channel_within : (message : ChannelState) → given_length message.name ≤ 128 → given_length message.description ≤ 20000 → length message.links ≤ 64 → length message.links_add ≤ 64 → length message.links_remove ≤ 64 → IsWithinFrame (channel_payload message)
unfolding channel_payload
channel_within message name description links links_add links_remove =
    let few : length (spelled channel_state message) ≤ bound (layout channel_state) (parts channel_state message) = items-few (layout channel_state) (parts channel_state message) in
    omega arith

pub user_within : (message : UserState) → given_length message.name ≤ 128 → message.plugin_context ≡ None → message.plugin_identity ≡ None → given_length message.comment ≤ 20000 → message.temporary_access_tokens ≡ [] → length message.listening_channel_add ≤ 32 → length message.listening_channel_remove ≤ 32 → IsWithinFrame (user_payload message)
unfolding user_payload
user_within message name context identity comment tokens add remove =
    let few : length (spelled user_state message) ≤ bound (layout user_state) (parts user_state message) = items-few (layout user_state) (parts user_state message) in
    let no_context : given_length message.plugin_context ≡ 0 = ap given_length context in
    let no_identity : given_length message.plugin_identity ≡ 0 = ap given_length identity in
    let no_tokens : blocks_bound message.temporary_access_tokens ≡ 0 = ap blocks_bound tokens in
    omega arith
