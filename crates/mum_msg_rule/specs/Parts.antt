-- A message is described by its parts: each table has a row for each field of the struct.
use Rattle.std.proofs.Common.{ap, ◌∙◌, refl}
use Rattle.std.specs.Prelude.{◌≡◌, List, [], ◌∷◌, map}
use Rattle.mum_fields.proofs.Public.{messages-same}
use Rattle.mum_fields.specs.Table.{Values, layout, parts}
use Rattle.mum_msg_rule.specs.declared.text_message.TextMessage.{TextMessage}
use Rattle.mum_msg_rule.specs.declared.permission_denied.PermissionDenied.{PermissionDenied}
use Rattle.mum_msg_rule.specs.declared.{acl_group.AclGroup.AclGroup, acl_line.AclLine.AclLine, acl.Acl.Acl}
use Rattle.mum_msg_rule.specs.declared.{target_block.TargetBlock.TargetBlock, voice_target.VoiceTarget.VoiceTarget}
use Rattle.mum_msg_rule.specs.declared.permission_query.PermissionQuery.{PermissionQuery}
use Rattle.mum_msg_rule.specs.Messages.{text_message, permission_denied, acl_group, acl_line, acl, target_block, voice_target, permission_query}

-- the message that has these values
unfoldable pub text_message_of : Values (layout text_message) → TextMessage
text_message_of v = record {
  actor = v.0;
  session = v.1.0;
  channel_id = v.1.1.0;
  tree_id = v.1.1.1.0;
  message = v.1.1.1.1.0;
}

pub text_message_told : (m n : TextMessage) → parts text_message m ≡ parts text_message n → m ≡ n
unfolding text_message_of
text_message_told m n h = ap text_message_of h

pub text_message_back : (m : TextMessage) → text_message_of (parts text_message m) ≡ m
unfolding text_message_of
text_message_back m = refl

permission_denied_of : Values (layout permission_denied) → PermissionDenied
permission_denied_of v = record {
  permission = v.0;
  channel_id = v.1.0;
  session = v.1.1.0;
  reason = v.1.1.1.0;
  kind = v.1.1.1.1.0;
  name = v.1.1.1.1.1.0;
}

pub permission_denied_told : (m n : PermissionDenied) → parts permission_denied m ≡ parts permission_denied n → m ≡ n
unfolding permission_denied_of
permission_denied_told m n h = ap permission_denied_of h

-- the group and the entry that have these values
unfoldable pub acl_group_of : Values (layout acl_group) → AclGroup
acl_group_of v = record {
  name = v.0;
  inherited = v.1.0;
  inherit = v.1.1.0;
  inheritable = v.1.1.1.0;
  add = v.1.1.1.1.0;
  remove = v.1.1.1.1.1.0;
  inherited_members = v.1.1.1.1.1.1.0;
}

pub acl_group_told : (m n : AclGroup) → parts acl_group m ≡ parts acl_group n → m ≡ n
unfolding acl_group_of
acl_group_told m n h = ap acl_group_of h

unfoldable pub acl_line_of : Values (layout acl_line) → AclLine
acl_line_of v = record {
  apply_here = v.0;
  apply_subs = v.1.0;
  inherited = v.1.1.0;
  user_id = v.1.1.1.0;
  group = v.1.1.1.1.0;
  grant = v.1.1.1.1.1.0;
  deny = v.1.1.1.1.1.1.0;
}

pub acl_line_told : (m n : AclLine) → parts acl_line m ≡ parts acl_line n → m ≡ n
unfolding acl_line_of
acl_line_told m n h = ap acl_line_of h

-- the same with these groups and entries
unfoldable pub acl_with : Values (layout acl) → List AclGroup → List AclLine → Acl
acl_with v groups acls = record {
  channel_id = v.0;
  inherit_acls = v.1.0;
  groups = groups;
  acls = acls;
  query = v.1.1.1.1.0;
}

pub acl_told : (m n : Acl) → parts acl m ≡ parts acl n → m ≡ n
unfolding acl_with
acl_told m n h =
    let groups = messages-same acl_group acl_group_told m.groups n.groups
    (ap (λ (v : Values (layout acl)). v.1.1.0) h) in
    let acls = messages-same acl_line acl_line_told m.acls n.acls (ap (λ (v : Values (layout acl)). v.1.1.1.0) h) in
    ap (λ v. acl_with v m.groups m.acls) h ∙ ap (λ x. acl_with (parts acl n) x m.acls) groups
    ∙ ap (λ x. acl_with (parts acl n) n.groups x) acls

-- the message that has these values
unfoldable pub acl_of : Values (layout acl) → Acl
acl_of v = acl_with v (map acl_group_of v.1.1.0) (map acl_line_of v.1.1.1.0)

groups_back : (groups : List AclGroup) → map acl_group_of (map (parts acl_group) groups) ≡ groups
unfolding acl_group_of
groups_back [] = refl
groups_back (group ∷ groups) = ap (λ xs. group ∷ xs) (groups_back groups)

lines_back : (lines : List AclLine) → map acl_line_of (map (parts acl_line) lines) ≡ lines
unfolding acl_line_of
lines_back [] = refl
lines_back (line ∷ lines) = ap (λ xs. line ∷ xs) (lines_back lines)

pub acl_back : (m : Acl) → acl_of (parts acl m) ≡ m
unfolding acl_of acl_with
acl_back m =
    ap (λ xs. acl_with (parts acl m) xs (map acl_line_of (map (parts acl_line) m.acls))) (groups_back m.groups)
    ∙ ap (λ xs. acl_with (parts acl m) m.groups xs) (lines_back m.acls)

unfoldable pub target_block_of : Values (layout target_block) → TargetBlock
target_block_of v = record {
  session = v.0;
  channel_id = v.1.0;
  group = v.1.1.0;
  links = v.1.1.1.0;
  children = v.1.1.1.1.0;
}

pub target_block_told : (m n : TargetBlock) → parts target_block m ≡ parts target_block n → m ≡ n
unfolding target_block_of
target_block_told m n h = ap target_block_of h

-- the same with these items
unfoldable pub voice_target_with : Values (layout voice_target) → List TargetBlock → VoiceTarget
voice_target_with v targets = record { id = v.0; targets = targets }

pub voice_target_told : (m n : VoiceTarget) → parts voice_target m ≡ parts voice_target n → m ≡ n
unfolding voice_target_with
voice_target_told m n h =
    let targets = messages-same target_block target_block_told m.targets n.targets
    (ap (λ (v : Values (layout voice_target)). v.1.0) h) in
    ap (λ v. voice_target_with v m.targets) h ∙ ap (λ x. voice_target_with (parts voice_target n) x) targets

-- the message that has these values
unfoldable pub voice_target_of : Values (layout voice_target) → VoiceTarget
voice_target_of v = voice_target_with v (map target_block_of v.1.0)

blocks_back : (blocks : List TargetBlock) → map target_block_of (map (parts target_block) blocks) ≡ blocks
unfolding target_block_of
blocks_back [] = refl
blocks_back (block ∷ blocks) = ap (λ xs. block ∷ xs) (blocks_back blocks)

pub voice_target_back : (m : VoiceTarget) → voice_target_of (parts voice_target m) ≡ m
unfolding voice_target_of voice_target_with
voice_target_back m = ap (λ xs. voice_target_with (parts voice_target m) xs) (blocks_back m.targets)

-- the message that has these values
unfoldable pub permission_query_of : Values (layout permission_query) → PermissionQuery
permission_query_of v = record { channel_id = v.0; permissions = v.1.0; flush = v.1.1.0 }

pub permission_query_told : (m n : PermissionQuery) → parts permission_query m ≡ parts permission_query n → m ≡ n
unfolding permission_query_of
permission_query_told m n h = ap permission_query_of h

pub permission_query_back : (m : PermissionQuery) → permission_query_of (parts permission_query m) ≡ m
unfolding permission_query_of
permission_query_back m = refl
