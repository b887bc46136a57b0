-- The names that the proofs of this crate take from elsewhere, passed on from one place. Declares nothing.
pub use Rattle.std.proofs.Common.{None, Some, [], codes, false, map, refl, replicate, take, true, ◌++◌, ◌∙◌, ◌∷◌, ◌≡◌}
pub use Rattle.mum_base.proofs.Public.{hex}
pub use Rattle.mum_fields.proofs.Public.{IsRead, IsRespelled, IsSpelled, end_of, fields-counted, fine, misses, stopped}
pub use Rattle.mum_fields.specs.{Table.decoded, Table.layout, Table.parts, Written.block_item, Written.written}
pub use Rattle.mum_msg_rule.specs.Messages.{acl, acl_group, acl_line, permission_denied, permission_query, target_block, text_message, voice_target}
pub use Rattle.mum_msg_rule.specs.declared.{acl.Acl.Acl, acl_group.AclGroup.AclGroup, acl_line.AclLine.AclLine, permission_denied.PermissionDenied.PermissionDenied, permission_query.PermissionQuery.PermissionQuery, target_block.TargetBlock.TargetBlock, text_message.TextMessage.TextMessage, voice_target.VoiceTarget.VoiceTarget}
unfoldable pub use Rattle.mum_fields.proofs.Public.{messages}
