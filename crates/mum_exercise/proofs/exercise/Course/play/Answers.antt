use Rattle.mum_exercise.proofs.Common.{refl, on_ok_weaker, aiming, channel_frame, entering, linking, listening, self_muting, target_frame, user_frame, Aim, Enter, Link, Listen, SetSelfMute}
use Rattle.mum_exercise.proofs.Turns.{asks_as}
use Rattle.mum_exercise.proofs.exercise.Course.play.Goals as goal

pub returns-in_ok-enter_frame-in-Enter : goal.returns-in_ok-enter_frame-in-Enter
returns-in_ok-enter_frame-in-Enter c =
    on_ok_weaker c.command.result
    (asks_as c.args.number c.args.round (Enter c.in-Enter.channel) c.in_ok-enter_frame-in-Enter.field-0 (user_frame (entering c.in-Enter.channel.0)) c.args.self.now c.command.new.self c.in-Enter.is c.in_ok-enter_frame-in-Enter.ensures.frame refl)
    c.command.ensures

pub returns-in_ok-link_frame-in-Link : goal.returns-in_ok-link_frame-in-Link
returns-in_ok-link_frame-in-Link c =
    on_ok_weaker c.command-in-Link.result
    (asks_as c.args.number c.args.round (Link c.in-Link.channel) c.in_ok-link_frame-in-Link.field-0 (channel_frame (linking c.in-Link.channel.0)) c.args.self.now c.command-in-Link.new.self c.in-Link.is c.in_ok-link_frame-in-Link.ensures.frame refl)
    c.command-in-Link.ensures

pub returns-in_ok-self_mute_frame-in-SetSelfMute : goal.returns-in_ok-self_mute_frame-in-SetSelfMute
returns-in_ok-self_mute_frame-in-SetSelfMute c =
    on_ok_weaker c.command-in-SetSelfMute.result
    (asks_as c.args.number c.args.round (SetSelfMute c.in-SetSelfMute.muted) c.in_ok-self_mute_frame-in-SetSelfMute.field-0 (user_frame (self_muting c.in-SetSelfMute.muted)) c.args.self.now c.command-in-SetSelfMute.new.self c.in-SetSelfMute.is c.in_ok-self_mute_frame-in-SetSelfMute.ensures.frame refl)
    c.command-in-SetSelfMute.ensures

pub returns-in_ok-listen_frame-in-Listen : goal.returns-in_ok-listen_frame-in-Listen
returns-in_ok-listen_frame-in-Listen c =
    on_ok_weaker c.command-in-Listen.result
    (asks_as c.args.number c.args.round (Listen c.in-Listen.channel) c.in_ok-listen_frame-in-Listen.field-0 (user_frame (listening c.in-Listen.channel.0)) c.args.self.now c.command-in-Listen.new.self c.in-Listen.is c.in_ok-listen_frame-in-Listen.ensures.frame refl)
    c.command-in-Listen.ensures

pub returns-in_ok-aim_frame-in-Aim : goal.returns-in_ok-aim_frame-in-Aim
returns-in_ok-aim_frame-in-Aim c =
    on_ok_weaker c.command-in-Aim.result
    (asks_as c.args.number c.args.round (Aim c.in-Aim.channel) c.in_ok-aim_frame-in-Aim.field-0 (target_frame (aiming c.in-Aim.channel.0)) c.args.self.now c.command-in-Aim.new.self c.in-Aim.is c.in_ok-aim_frame-in-Aim.ensures.frame refl)
    c.command-in-Aim.ensures
