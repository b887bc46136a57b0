-- The policy that is written for a channel is read back as it was.
use Rattle.mum_kept_laws.proofs.Common.{◌≡◌, ℕ, ◌==◌, ◌&&◌, true, not, List, [], ◌∷◌, filter, map, Option, None, Ok, refl, ap, ◌∙◌, bit_and, list_all, and_from, and_parts, eq-eqb, eqb-true, and_comm, AccountId, ChannelId, ALL, decoded, layout, least, lesser, missing, parts, AreTyped, read_back, AclGroup, AclLine, acl, acl_group, acl_line, AclEntry, ChannelPolicy, GroupRow, Whom, Account, Group, is_large_policy, holds, is_name, is_sound_entry, is_sound_policy, accounts, acl_told, entry_asked, group_asked, group_told, is_inherited, line_told, numbers, policy_asked, whom_asked, has_known_bits, holds_policy, policy_in, policy_payload, held, policy_read}

-- ---- nothing is missing

groups_whole : (groups : List GroupRow) → least (map (missing (layout acl_group)) (map (parts acl_group) (map group_told groups))) ≡ None
groups_whole [] = refl
groups_whole (group ∷ groups) = groups_whole groups

line_whole : (entry : AclEntry) (whom : Whom) → missing (layout acl_line) (parts acl_line (line_told (record entry { whom = whom }))) ≡ None
line_whole entry (Account account) = refl
line_whole entry (Group name) = refl

lines_whole : (entries : List AclEntry) → least (map (missing (layout acl_line)) (map (parts acl_line) (map line_told entries))) ≡ None
lines_whole [] = refl
lines_whole (entry ∷ entries) =
    ap (λ (first : Option ℕ). lesser first (least (map (missing (layout acl_line)) (map (parts acl_line) (map line_told entries))))) (line_whole entry entry.whom)
    ∙ lines_whole entries

told_whole : (id : ChannelId) (policy : ChannelPolicy) → missing (layout acl) (parts acl (acl_told id policy)) ≡ None
told_whole id policy =
    ap (λ (first : Option ℕ). lesser first (lesser (least (map (missing (layout acl_line)) (map (parts acl_line) (map line_told policy.acls)))) None)) (groups_whole policy.groups)
    ∙ ap (λ (first : Option ℕ). lesser first None) (lines_whole policy.acls)

pub payload_read : (id : ChannelId) (policy : ChannelPolicy) → AreTyped (layout acl) (parts acl (acl_told id policy)) → decoded acl (policy_payload id policy) ≡ Ok (parts acl (acl_told id policy))
payload_read id policy typed = read_back acl (acl_told id policy) refl typed (told_whole id policy)

-- ---- what was reported is asked

accounts_back : (listed : List AccountId) → accounts (numbers listed) ≡ listed
accounts_back [] = refl
accounts_back (one ∷ listed) = ap (λ (rest : List AccountId). one ∷ rest) (accounts_back listed)

group_back : (group : GroupRow) → group_asked (group_told group) ≡ group
group_back group =
    ap (λ (add : List AccountId). record group { add = add; remove = accounts (numbers group.remove) }) (accounts_back group.add)
    ∙ ap (λ (remove : List AccountId). record group { remove = remove }) (accounts_back group.remove)

groups_back : (groups : List GroupRow) → map group_asked (filter (λ group. not (is_inherited group.inherited)) (map group_told groups)) ≡ groups
groups_back [] = refl
groups_back (group ∷ groups) =
    ap (λ (first : GroupRow). first ∷ map group_asked (filter (λ (one : AclGroup). not (is_inherited one.inherited)) (map group_told groups))) (group_back group)
    ∙ ap (λ (rest : List GroupRow). group ∷ rest) (groups_back groups)

bits_back : (bits : ℕ) → holds ALL.0 bits ≡ true → bit_and bits ALL.0 ≡ bits
bits_back bits known = and_comm bits ALL.0 ∙ eqb-true (bit_and ALL.0 bits) bits known

whom_back : (entry : AclEntry) (whom : Whom) → whom_asked (line_told (record entry { whom = whom })) ≡ whom
whom_back entry (Account account) = refl
whom_back entry (Group name) = refl

entry_back : (entry : AclEntry) → is_sound_entry entry ≡ true → entry_asked (line_told entry) ≡ entry
entry_back entry sound =
    let both = and_parts (holds ALL.0 entry.grant.0) (holds ALL.0 entry.deny.0) sound in
    ap (λ (whom : Whom). record {
      whom = whom;
      here = entry.here;
      subs = entry.subs;
      grant = record { 0 = bit_and entry.grant.0 ALL.0 };
      deny = record { 0 = bit_and entry.deny.0 ALL.0 };
    }) (whom_back entry entry.whom)
    ∙ ap (λ (bits : ℕ). record entry { grant = record { 0 = bits }; deny = record { 0 = bit_and entry.deny.0 ALL.0 } }) (bits_back entry.grant.0 both.0)
    ∙ ap (λ (bits : ℕ). record entry { deny = record { 0 = bits } }) (bits_back entry.deny.0 both.1)

entries_back : (entries : List AclEntry) → list_all is_sound_entry entries ≡ true → map entry_asked (filter (λ line. not (is_inherited line.inherited)) (map line_told entries)) ≡ entries
entries_back [] sound = refl
entries_back (entry ∷ entries) sound =
    let both = and_parts (is_sound_entry entry) (list_all is_sound_entry entries) sound in
    ap (λ (first : AclEntry). first ∷ map entry_asked (filter (λ (line : AclLine). not (is_inherited line.inherited)) (map line_told entries))) (entry_back entry both.0)
    ∙ ap (λ (rest : List AclEntry). entry ∷ rest) (entries_back entries both.1)

sound_entries : (policy : ChannelPolicy) → is_sound_policy policy ≡ true → list_all is_sound_entry policy.acls ≡ true
sound_entries policy sound = (and_parts (not (is_large_policy policy) && list_all (λ (group : GroupRow). is_name group.name) policy.groups) (list_all is_sound_entry policy.acls) sound).1

pub policy_back : (id : ChannelId) (policy : ChannelPolicy) → is_sound_policy policy ≡ true → policy_asked (acl_told id policy) ≡ policy
policy_back id policy sound =
    ap (λ (groups : List GroupRow). record policy { groups = groups; acls = map entry_asked (filter (λ (line : AclLine). not (is_inherited line.inherited)) (map line_told policy.acls)) }) (groups_back policy.groups)
    ∙ ap (λ (acls : List AclEntry). record policy { acls = acls }) (entries_back policy.acls (sound_entries policy sound))

-- ---- the payload of a sound policy

pub payload_back : (id : ChannelId) (policy : ChannelPolicy) → is_sound_policy policy ≡ true → AreTyped (layout acl) (parts acl (acl_told id policy)) → policy_in (policy_payload id policy) ≡ policy
payload_back id policy sound typed = policy_read (policy_payload id policy) (acl_told id policy) (payload_read id policy typed) ∙ policy_back id policy sound

known_lines : (entries : List AclEntry) → list_all is_sound_entry entries ≡ true → list_all has_known_bits (map line_told entries) ≡ true
known_lines [] sound = refl
known_lines (entry ∷ entries) sound =
    let both = and_parts (is_sound_entry entry) (list_all is_sound_entry entries) sound in
    and_from (is_sound_entry entry) (list_all has_known_bits (map line_told entries)) both.0 (known_lines entries both.1)

pub payload_held : (id : ChannelId) (policy : ChannelPolicy) → is_sound_policy policy ≡ true → AreTyped (layout acl) (parts acl (acl_told id policy)) → holds_policy id (policy_payload id policy) ≡ true
payload_held id policy sound typed =
    held id (policy_payload id policy) (acl_told id policy) (payload_read id policy typed)
    ∙ and_from ((id.0 == id.0) && true && list_all has_known_bits (map line_told policy.acls)) (is_sound_policy (policy_asked (acl_told id policy)))
    (and_from ((id.0 == id.0) && true) (list_all has_known_bits (map line_told policy.acls)) (and_from (id.0 == id.0) true (eq-eqb id.0 id.0 refl) refl) (known_lines policy.acls (sound_entries policy sound)))
    (ap is_sound_policy (policy_back id policy sound) ∙ sound)
