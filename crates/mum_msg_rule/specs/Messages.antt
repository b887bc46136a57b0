-- The messages of this crate and the blocks in them, field by field as Mumble.proto has them: a reader checks
-- each row's label, type, name and number against it.
use Rattle.std.specs.Prelude.{[], ◌∷◌}
use Rattle.mum_fields.specs.Table.{Table, optional, required, required_or, repeated, repeated_message, uint32, bool, string}
use Rattle.mum_msg_rule.specs.declared.text_message.TextMessage.{TextMessage}
use Rattle.mum_msg_rule.specs.declared.permission_denied.PermissionDenied.{PermissionDenied}
use Rattle.mum_msg_rule.specs.declared.{acl_group.AclGroup.AclGroup, acl_line.AclLine.AclLine, acl.Acl.Acl}
use Rattle.mum_msg_rule.specs.declared.{target_block.TargetBlock.TargetBlock, voice_target.VoiceTarget.VoiceTarget}
use Rattle.mum_msg_rule.specs.declared.permission_query.PermissionQuery.{PermissionQuery}

abbrev pub text_message : Table TextMessage
text_message = optional uint32 1 (λ m. m.actor)
    ∷ repeated uint32 2 (λ m. m.session)
    ∷ repeated uint32 3 (λ m. m.channel_id)
    ∷ repeated uint32 4 (λ m. m.tree_id)
    ∷ required string 5 (λ m. m.message)
    ∷ []

-- `kind` is the field `type`, an enum that goes as a uint32
abbrev pub permission_denied : Table PermissionDenied
permission_denied = optional uint32 1 (λ m. m.permission)
    ∷ optional uint32 2 (λ m. m.channel_id)
    ∷ optional uint32 3 (λ m. m.session)
    ∷ optional string 4 (λ m. m.reason)
    ∷ optional uint32 5 (λ m. m.kind)
    ∷ optional string 6 (λ m. m.name)
    ∷ []

-- ACL.ChanGroup
abbrev pub acl_group : Table AclGroup
acl_group = required string 1 (λ m. m.name)
    ∷ optional bool 2 (λ m. m.inherited)
    ∷ optional bool 3 (λ m. m.inherit)
    ∷ optional bool 4 (λ m. m.inheritable)
    ∷ repeated uint32 5 (λ m. m.add)
    ∷ repeated uint32 6 (λ m. m.remove)
    ∷ repeated uint32 7 (λ m. m.inherited_members)
    ∷ []

-- ACL.ChanACL. Mumble.proto has no required field here, but an entry is for an account or for a group: where
-- it has neither, 4 is missing.
abbrev pub acl_line : Table AclLine
acl_line = optional bool 1 (λ m. m.apply_here)
    ∷ optional bool 2 (λ m. m.apply_subs)
    ∷ optional bool 3 (λ m. m.inherited)
    ∷ required_or 5 uint32 4 (λ m. m.user_id)
    ∷ optional string 5 (λ m. m.group)
    ∷ optional uint32 6 (λ m. m.grant)
    ∷ optional uint32 7 (λ m. m.deny)
    ∷ []

abbrev pub acl : Table Acl
acl = required uint32 1 (λ m. m.channel_id)
    ∷ optional bool 2 (λ m. m.inherit_acls)
    ∷ repeated_message acl_group 3 (λ m. m.groups)
    ∷ repeated_message acl_line 4 (λ m. m.acls)
    ∷ optional bool 5 (λ m. m.query)
    ∷ []

-- VoiceTarget.Target
abbrev pub target_block : Table TargetBlock
target_block = repeated uint32 1 (λ m. m.session)
    ∷ optional uint32 2 (λ m. m.channel_id)
    ∷ optional string 3 (λ m. m.group)
    ∷ optional bool 4 (λ m. m.links)
    ∷ optional bool 5 (λ m. m.children)
    ∷ []

abbrev pub voice_target : Table VoiceTarget
voice_target = optional uint32 1 (λ m. m.id)
    ∷ repeated_message target_block 2 (λ m. m.targets)
    ∷ []

abbrev pub permission_query : Table PermissionQuery
permission_query = optional uint32 1 (λ m. m.channel_id)
    ∷ optional uint32 2 (λ m. m.permissions)
    ∷ optional bool 3 (λ m. m.flush)
    ∷ []
