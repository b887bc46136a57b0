-- The names that the proofs of this crate take from elsewhere, passed on from one place. Declares nothing.
pub use Rattle.std.proofs.Common.{None, Some, [], codes, false, map, negsuc, pos, refl, take, true, ◌-◌, ◌^◌, ◌∙◌, ◌∷◌, ◌≡◌}
pub use Rattle.mum_base.proofs.Public.{hex}
pub use Rattle.mum_fields.proofs.Public.{IsRead, IsRespelled, IsSpelled, end_of, fields-added, fields-counted, fine, misses, stopped}
pub use Rattle.mum_fields.specs.Table.{decoded, layout, parts}
pub use Rattle.mum_msg_state.specs.Messages.{authenticate, channel_remove, channel_state, codec_version, ping, reject, server_sync, user_remove, user_state, version}
pub use Rattle.mum_msg_state.specs.declared.{authenticate.Authenticate.Authenticate, channel_remove.ChannelRemove.ChannelRemove, channel_state.ChannelState.ChannelState, codec_version.CodecVersion.CodecVersion, ping.Ping.Ping, reject.Reject.Reject, server_sync.ServerSync.ServerSync, user_remove.UserRemove.UserRemove, user_state.UserState.UserState, version.Version.Version}
unfoldable pub use Rattle.mum_fields.proofs.Public.{messages}
